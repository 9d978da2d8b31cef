-- Versions along an airing list.
use Rattle.std.proofs.Common.{◌≡◌, ℕ, ◌+◌, ◌%◌, ◌≤◌, List, [], ◌∷◌, ◌++◌, Bool, true, false, Option, Some, None, refl, sym, ap, ◌∙◌}
use Rattle.std.proofs.Common.{subst, arith, append_assoc, append-nil}
use Rattle.std.specs.List.{cons_option}
use Rattle.std.specs.Prelude.{if◌then◌else◌, option_to_list, IsSome}
use Rattle.std.proofs.lemmas.List.Elements.{filter_map-append}
use Rattle.section_codec.specs.declared.table.Key.{Key}
use Rattle.section_codec.specs.Contents.{Content, is_content}
use Rattle.section_codec.proofs.SameContent.{is_content-same}
use Rattle.version_book.specs.Airings.{AiredTables, content_at, carried, changes_after, changes}
use Rattle.version_book.specs.Book.{last_of}
use Rattle.version_book.proofs.Versions.{last_of-push, between, carried-push}
use Rattle.air_laws.specs.Versions.{version_behind, changes_behind}
use Rattle.air_laws.specs.JoiningLaws.{AnotherVersionBetween, ChangesBetween}

-- ---- contents

-- contents that end with this one: the first, and the others, whatever follows
record EndsWith (before : List Content) (c : Content) : Type 0 where
  first : Content
  others : List Content
  whole : (more : List Content) → before ++ c ∷ more ≡ first ∷ others ++ more
  last : last_of first others ≡ c

ends_with : (before : List Content) (c : Content) → EndsWith before c
ends_with [] c = record { first = c; others = []; whole = λ more. refl; last = refl }
ends_with (p ∷ ps) c = record {
  first = p;
  others = ps ++ c ∷ [];
  whole = λ more. ap (λ (l : List Content). p ∷ l) (sym (append_assoc ps (c ∷ []) more));
  last = last_of-push p ps c;
}

-- more contents add their changes
changes_after-more : (c : Content) (cs ds : List Content)
    → changes_after c (cs ++ ds) ≡ changes_after c cs + changes_after (last_of c cs) ds
changes_after-more c [] ds = omega arith
changes_after-more c (x ∷ cs) ds =
    ap (λ (n : ℕ). if is_content c x then n else 1 + n) (changes_after-more x cs ds)
    ∙ step (is_content c x) (changes_after x cs) (changes_after (last_of x cs) ds)
  where
    step : (b : Bool) (n m : ℕ) → (if b then n + m else 1 + (n + m)) ≡ (if b then n else 1 + n) + m
    step true n m = refl
    step false n m = omega arith

-- without a change the last is the first
unchanged : (c : Content) (cs : List Content) (d : Content) → changes_after c (cs ++ d ∷ []) ≡ 0 → c ≡ d
unchanged c [] d e = go (is_content c d) refl e
  where
    go : (b : Bool) → is_content c d ≡ b → (if b then 0 else 1 + 0) ≡ 0 → c ≡ d
    go true f g = is_content-same c d f
    go false f g = absurd (let z : Prim.⊥ = omega (arith, g) in z)
unchanged c (x ∷ cs) d e = go (is_content c x) refl (λ g. unchanged x cs d g) e
  where
    go : (b : Bool) → is_content c x ≡ b → (changes_after x (cs ++ d ∷ []) ≡ 0 → x ≡ d)
        → (if b then changes_after x (cs ++ d ∷ []) else 1 + changes_after x (cs ++ d ∷ [])) ≡ 0 → c ≡ d
    go true f rec g = is_content-same c x f ∙ rec g
    go false f rec g = absurd (let z : Prim.⊥ = omega (arith, g) in z)

far_apart : (n m : ℕ) → (m ≡ 0 → Prim.⊥) → n % 32 ≡ (n + m) % 32 → n + 32 ≤ n + m
far_apart n m some same = go m some same
  where
    go : (m : ℕ) → (m ≡ 0 → Prim.⊥) → n % 32 ≡ (n + m) % 32 → n + 32 ≤ n + m
    go m some same = omega (arith, some, same)

-- ---- the airings that carry contents

-- the airing that carries this one of the contents, between the others
record Carrier (k : Key) (airings : List AiredTables) (before : List Content) (c : Content) : Type 0 where
  one : List AiredTables
  two : List AiredTables
  carrier : AiredTables
  whole : airings ≡ one ++ carrier ∷ two
  carries : content_at k carrier ≡ Some c
  others : carried k one ≡ before

carrier_of : (k : Key) (airings : List AiredTables) (before after : List Content) (c : Content) → carried k airings ≡ before ++ c ∷ after
    → Carrier k airings before c
carrier_of k [] [] after c e = cc
carrier_of k [] (x ∷ before) after c e = cc
carrier_of k (a ∷ airings) before after c e = go (content_at k a) refl before e (λ bs f. carrier_of k airings bs after c f)
  where
    go : (o : Option Content) → content_at k a ≡ o → (before : List Content) → cons_option o (carried k airings) ≡ before ++ c ∷ after
        → ((bs : List Content) → carried k airings ≡ bs ++ c ∷ after → Carrier k airings bs c) → Carrier k (a ∷ airings) before c
    go None f before e rec =
        let r = rec before e in
        record {
          one = a ∷ r.one;
          two = r.two;
          carrier = r.carrier;
          whole = ap (λ (l : List AiredTables). a ∷ l) r.whole;
          carries = r.carries;
          others = ap (λ (o : Option Content). cons_option o (carried k r.one)) f ∙ r.others;
        }
    go (Some d) f [] e rec =
        let same : d ≡ c = cc in
        record { one = []; two = airings; carrier = a; whole = refl; carries = f ∙ ap (λ (x : Content). Some x) same; others = refl }
    go (Some d) f (b ∷ bs) e rec =
        let same : d ≡ b = cc in
        let rest : carried k airings ≡ bs ++ c ∷ after = cc in
        let r = rec bs rest in
        record {
          one = a ∷ r.one;
          two = r.two;
          carrier = r.carrier;
          whole = ap (λ (l : List AiredTables). a ∷ l) r.whole;
          carries = r.carries;
          others = ap (λ (o : Option Content). cons_option o (carried k r.one)) f ∙ ap (λ (l : List Content). d ∷ l) r.others
              ∙ ap (λ (x : Content). x ∷ bs) same;
        }

module _ (k : Key) (past : List AiredTables) (a : AiredTables) (c : Content) (carries : content_at k a ≡ Some c) where
  abbrev start : EndsWith (carried k past) c
  start = ends_with (carried k past) c

  changes_there : changes_behind k past a ≡ changes_after start.first start.others
  changes_there =
      ap changes (carried-push k past a ∙ ap (λ (o : Option Content). carried k past ++ option_to_list o) carries ∙ start.whole [])
      ∙ ap (λ (l : List Content). changes_after start.first l) (append-nil start.others)

  changes_later : (between : List AiredTables) (b : AiredTables) (d : Content) → content_at k b ≡ Some d
      → changes_behind k (past ++ a ∷ between) b ≡ changes_after start.first ((start.others ++ carried k between) ++ d ∷ [])
  changes_later between b d is =
      let all : carried k (past ++ a ∷ between) ≡ start.first ∷ start.others ++ carried k between =
      filter_map-append (content_at k) past (a ∷ between)
      ∙ ap (λ (o : Option Content). carried k past ++ cons_option o (carried k between)) carries ∙ start.whole (carried k between) in
      ap changes
      (carried-push k (past ++ a ∷ between) b
      ∙ ap (λ (o : Option Content). carried k (past ++ a ∷ between) ++ option_to_list o) is
      ∙ ap (λ (l : List Content). l ++ d ∷ []) all)

pub another_version : AnotherVersionBetween
another_version k past a between_them b share =
    let s = start k past a share.one share.first in
    let here = changes_there k past a share.one share.first in
    let later = changes_later k past a share.one share.first in
    let same : changes_after s.first s.others % 32 ≡ changes_after s.first ((s.others ++ carried k between_them) ++ share.other ∷ []) % 32 =
    ap (λ (n : ℕ). n % 32) (sym here) ∙ share.version ∙ ap (λ (n : ℕ). n % 32) (later between_them b share.other share.second) in
    let r = between s.first s.others (carried k between_them) share.other same (λ e. share.differ (sym s.last ∙ e)) in
    let found = carrier_of k between_them r.0 r.1 r.2 r.3 in
    let version : version_behind k (past ++ a ∷ found.one) found.carrier ≡ changes_after s.first ((s.others ++ r.0) ++ r.2 ∷ []) % 32 =
    ap (λ (n : ℕ). n % 32)
    (later found.one found.carrier r.2 found.carries
    ∙ ap (λ (l : List Content). changes_after s.first ((s.others ++ l) ++ r.2 ∷ [])) found.others) in (
      found.one,
      found.two,
      found.carrier,
      found.whole,
      subst IsSome (sym found.carries) refl,
      λ e. r.4 (sym version ∙ e ∙ ap (λ (n : ℕ). n % 32) here),
    )

pub changes_apart : ChangesBetween
changes_apart k past a between_them b share =
    let s = start k past a share.one share.first in
    let here = changes_there k past a share.one share.first in
    let later = changes_later k past a share.one share.first between_them b share.other share.second in
    let more = carried k between_them ++ share.other ∷ [] in
    let n = changes_after s.first s.others in
    let m = changes_after (last_of s.first s.others) more in
    let sum : changes_behind k (past ++ a ∷ between_them) b ≡ n + m =
    later ∙ ap (changes_after s.first) (append_assoc s.others (carried k between_them) (share.other ∷ []))
    ∙ changes_after-more s.first s.others more in
    let same : n % 32 ≡ (n + m) % 32 = ap (λ (x : ℕ). x % 32) (sym here) ∙ share.version ∙ ap (λ (x : ℕ). x % 32) sum in
    let far : n + 32 ≤ n + m =
    far_apart n m (λ e. share.differ (sym s.last ∙ unchanged (last_of s.first s.others) (carried k between_them) share.other e)) same in
    omega (arith, here, sum, far)
