-- With each airing the content of a key changes at most once.
use Rattle.std.proofs.Common.{◌≡◌, ℕ, ◌+◌, ◌≤◌, List, [], ◌∷◌, ◌++◌, Bool, true, false, Option, Some, None, sym, ◌∙◌, subst, arith, length, append_assoc, append-nil, length-append}
use Rattle.std.specs.Prelude.{if◌then◌else◌, option_to_list}
use Rattle.section_codec.specs.Contents.{Content, is_content}
use Rattle.section_codec.specs.declared.table.Key.{Key}
use Rattle.version_book.specs.Airings.{AiredTables, carried, changes, changes_after, content_at}
use Rattle.version_book.specs.Book.{last_of}
use Rattle.version_book.proofs.Versions.{carried-push, changes_after-push}
use Rattle.air_laws.specs.Versions.{ShareVersion, changes_behind}
use Rattle.air_laws.proofs.Versions.{changes_apart}
use Rattle.epg_follow.specs.Near.{VersionsDiffer}

one_more : (b : Bool) (n : ℕ) → n + (if b then 0 else 1) ≤ n + 1
one_more true n = omega arith
one_more false n = omega arith

content_more : (cs : List Content) (o : Option Content) → changes (cs ++ option_to_list o) ≤ changes cs + 1
content_more cs None = subst (λ (l : List Content). changes l ≤ changes cs + 1) (sym (append-nil cs)) (omega arith)
content_more [] (Some d) = omega arith
content_more (c ∷ cs) (Some d) =
    subst (λ (n : ℕ). n ≤ changes_after c cs + 1) (sym (changes_after-push c cs d)) (one_more (is_content (last_of c cs) d) (changes_after c cs))

airing_more : (k : Key) (past : List AiredTables) (a : AiredTables) → changes (carried k (past ++ a ∷ [])) ≤ changes (carried k past) + 1
airing_more k past a =
    subst (λ (l : List Content). changes l ≤ changes (carried k past) + 1) (sym (carried-push k past a)) (content_more (carried k past) (content_at k a))

airings_more : (k : Key) (past more : List AiredTables) → changes (carried k (past ++ more)) ≤ changes (carried k past) + length more
airings_more k past [] = subst (λ (l : List AiredTables). changes (carried k l) ≤ changes (carried k past) + 0) (sym (append-nil past)) (omega arith)
airings_more k past (a ∷ more) =
    let here = airing_more k past a in
    let rest = airings_more k (past ++ a ∷ []) more in
    subst (λ (l : List AiredTables). changes (carried k l) ≤ changes (carried k past) + length (a ∷ more)) (append_assoc past (a ∷ []) more) (omega (arith, here, rest))

-- from one airing to another it changes at most once for each of those between and once more
between_more : (k : Key) (past : List AiredTables) (a : AiredTables) (between : List AiredTables) (b : AiredTables)
    → changes_behind k (past ++ a ∷ between) b ≤ changes_behind k past a + (1 + length between)
between_more k past a between b =
    let parts : (past ++ a ∷ []) ++ (between ++ b ∷ []) ≡ (past ++ a ∷ between) ++ b ∷ [] =
    append_assoc past (a ∷ []) (between ++ b ∷ []) ∙ sym (append_assoc past (a ∷ between) (b ∷ [])) in
    let more = airings_more k (past ++ a ∷ []) (between ++ b ∷ []) in
    subst (λ (l : List AiredTables). changes (carried k l) ≤ changes_behind k past a + (1 + length between)) parts (omega (arith, more, length-append between (b ∷ [])))

pub versions_differ : VersionsDiffer
versions_differ airings k past between after a b one other parts near first second differ same =
    let share : ShareVersion k past a between b = record { one = one; other = other; first = first; second = second; differ = differ; version = same } in
    omega (arith, changes_apart k past a between b share, between_more k past a between b, near)
