-- How many keys sections have, one section more, and as a collector keeps them.
use Rattle.std.proofs.Common.{◌≡◌, ◌≢◌, ◌↔◌, ◌+◌, ◌<◌, ◌≤◌, List, [], ◌∷◌, ◌++◌, length, Bool, true, false, ◌||◌, ⊎_elim, refl, sym, ap, ◌∙◌, subst, append-nil, append_assoc, arith}
use Rattle.std.specs.Prelude.{if◌then◌else◌, cond, not, Option, Some, None, is_some, option_map, IsTrue}
use Rattle.std.specs.Cmp.{IsEquivalence}
use Rattle.std.specs.List.{list_any, IsDistinct}
use Rattle.std.specs.List.Sorted.{IsStrictlySortedBy}
use Rattle.std.specs.BTreeMap.{is_at}
use Rattle.std.specs.Map.{lookup, keys_of}
use Rattle.std.specs.Set.{is_member, distinct_count}
use Rattle.std.proofs.lemmas.Bool.{cases_lt}
use Rattle.std.proofs.lemmas.List.{map-append}
use Rattle.std.proofs.lemmas.Map.Entries.{length-keys_of}
use Rattle.std.proofs.lemmas.Map.Keys.{IsDistinct-from_sorted}
use Rattle.std.proofs.lemmas.Map.Made.{is_some-lookup, length-from_keys}
use Rattle.si_lists.proofs.Distinct.{distinct_count-push}
use Rattle.si_lists.proofs.Truths.{one_at_most}
use Rattle.section_codec.specs.declared.table.Key.{Key}
use Rattle.section_codec.specs.KeyOrder.{is_key, key_cmp}
use Rattle.section_codec.proofs.KeyOrderFacts.{is_key-same, is_key-itself, key_ties}
use Rattle.sub_collect.specs.Runs.{Counted}
use Rattle.sub_collect.specs.KeyCounts.{section_keys, key_count, HaveFewKeys, HaveTooManyKeys}
use Rattle.sub_collect.specs.Completions.{of_key}
use Rattle.sub_collect.specs.Collectors.{KeyHeard, kept_in, StandsFor, EachStandsFor, CollectorStandsOver}
use Rattle.sub_collect.specs.Marks.{Taken, sections_taken}
use Rattle.sub_collect.specs.Slots.{kept_by, shown}
use Rattle.sub_collect.specs.declared.collector.KeySlot.{KeySlot}
use Rattle.sub_collect.proofs.Keys.{kept_in-shown}

-- ---- the test of equal keys

key_turned : (a b : Key) → is_key a b ≡ is_key b a
key_turned a b = go (is_key a b) refl (is_key b a) refl
  where
    go : (x : Bool) → is_key a b ≡ x → (y : Bool) → is_key b a ≡ y → is_key a b ≡ is_key b a
    go true e y f = ap (λ k. is_key a k) (sym (is_key-same a b e)) ∙ ap (λ k. is_key k a) (is_key-same a b e)
    go false e true f = ap (λ k. is_key k b) (sym (is_key-same b a f)) ∙ is_key-itself b ∙ sym f
    go false e false f = e ∙ sym f

pub key_laws : IsEquivalence is_key
key_laws = record {
  refl = is_key-itself;
  symm = key_turned;
  congr = λ x y z e. ap (λ k. is_key k z) (is_key-same x y e);
}

-- ---- one section more

pub count-more : (past : List Counted) (s : Counted) → key_count (past ++ s ∷ []) ≡ (if is_member is_key (section_keys past) s.key then 0 else 1) + key_count past
count-more past s = ap (distinct_count is_key) (map-append (λ (t : Counted). t.key) past (s ∷ [])) ∙ distinct_count-push key_laws (section_keys past) s.key

-- a key among those of some sections has one of them
pub key_among : (ss : List Counted) (k : Key) → is_member is_key (section_keys ss) k ≡ true → of_key k ss ≡ [] → Prim.⊥
key_among [] k there none = cc
key_among (s ∷ ss) k there none = go (is_key s.key k) (ap (λ b. b || is_member is_key (section_keys ss) k) (key_laws.symm s.key k) ∙ there) none (key_among ss k)
  where
    go : (b : Bool) → (b || is_member is_key (section_keys ss) k) ≡ true → cond b (s ∷ of_key k ss) (of_key k ss) ≡ []
        → (is_member is_key (section_keys ss) k ≡ true → of_key k ss ≡ [] → Prim.⊥) → Prim.⊥
    go true e f rest = cc
    go false e f rest = rest e f

-- ---- keys that are kept

abbrev has_some : List Counted → Bool
has_some [] = false
has_some (s ∷ ss) = true

member_some : (q : Key) (past : List Counted) → is_member is_key (section_keys past) q ≡ has_some (of_key q past)
member_some q [] = refl
member_some q (s ∷ ss) = ap (λ b. b || is_member is_key (section_keys ss) q) (key_turned q s.key) ∙ go (is_key s.key q) (member_some q ss)
  where
    go : (b : Bool) → is_member is_key (section_keys ss) q ≡ has_some (of_key q ss) → (b || is_member is_key (section_keys ss) q) ≡ has_some (cond b (s ∷ of_key q ss) (of_key q ss))
    go true e = refl
    go false e = e

some_kept : (k : Key) (past : List Taken) (o : Option KeyHeard) → StandsFor k past o → has_some (of_key k (sections_taken past)) ≡ is_some o
some_kept k past None none = ap has_some none
some_kept k past (Some kept) stands = go (of_key k (sections_taken past)) stands.0
  where
    go : (ss : List Counted) → ss ≢ [] → has_some ss ≡ true
    go [] some = absurd (some refl)
    go (s ∷ ss) some = refl

some_mapped : (o : Option KeySlot) → is_some (option_map kept_by o) ≡ is_some o
some_mapped None = refl
some_mapped (Some slot) = refl

-- a key has a section where the map has it
pub member-kept : (past : List Taken) (es : List (Key × KeySlot)) → EachStandsFor past (shown es) → (q : Key)
    → is_member is_key (section_keys (sections_taken past)) q ≡ is_some (lookup (is_at (key_cmp q)) es)
member-kept past es stands q =
    member_some q (sections_taken past) ∙ some_kept q past (kept_in q (shown es)) (stands q)
    ∙ ap is_some (kept_in-shown q es) ∙ some_mapped (lookup (is_at (key_cmp q)) es)

-- there are as many as the map has entries
pub count-kept : (past : List Taken) (es : List (Key × KeySlot)) → IsStrictlySortedBy key_cmp (keys_of es) → EachStandsFor past (shown es) → length es ≡ key_count (sections_taken past)
count-kept past es sorted stands =
    sym (length-keys_of es)
    ∙ length-from_keys key_laws (keys_of es) (section_keys (sections_taken past))
    (subst (λ (eq : Key → Key → Bool). IsDistinct eq (keys_of es)) (λ i a b. sym (key_ties a b) i) (IsDistinct-from_sorted key_cmp (keys_of es) sorted))
    (λ q. ap (λ (test : Key → Bool). list_any test (keys_of es)) (λ i k. key_ties q k i) ∙ sym (is_some-lookup (is_at (key_cmp q)) es) ∙ sym (member-kept past es stands q))

-- ---- the limit

-- a collector of the most keys has no room for another one, and for no key else it lacks room
pub full-lacks : (past : List Taken) (s : Counted) (k : Key) (es : List (Key × KeySlot)) (found : Bool) → s.key ≡ k → found ≡ is_some (lookup (is_at (key_cmp k)) es)
    → IsStrictlySortedBy key_cmp (keys_of es) → 65536 ≤ length es → CollectorStandsOver past (shown es) → IsTrue (not found) ↔ HaveTooManyKeys (sections_taken past ++ s ∷ [])
full-lacks past s k es found of_key is sorted full stands =
    go found (count-more (sections_taken past) s ∙ ap (λ b. (if b then 0 else 1) + key_count (sections_taken past)) (member-kept past es stands.each s.key ∙ ap (λ q. is_some (lookup (is_at (key_cmp q)) es)) of_key ∙ sym is))
    (count-kept past es sorted stands.each) stands.few
  where
    go : (b : Bool) → key_count (sections_taken past ++ s ∷ []) ≡ (if b then 0 else 1) + key_count (sections_taken past) → length es ≡ key_count (sections_taken past) → key_count (sections_taken past) ≤ 65536 → IsTrue (not b) ↔ HaveTooManyKeys (sections_taken past ++ s ∷ [])
    go true e len few = (λ no. absurd (let z : Prim.⊥ = cc in z), λ many. absurd (let z : Prim.⊥ = omega (arith, e, few, many) in z))
    go false e len few = (λ yes. omega (arith, e, len, full), λ many. refl)

pub room-left : (past : List Taken) (s : Counted) (es : List (Key × KeySlot)) → IsStrictlySortedBy key_cmp (keys_of es) → length es < 65536 → CollectorStandsOver past (shown es) → HaveFewKeys (sections_taken past ++ s ∷ [])
room-left past s es sorted less stands =
    let len = count-kept past es sorted stands.each in
    let e = count-more (sections_taken past) s in
    let one = one_at_most (is_member is_key (section_keys (sections_taken past)) s.key) in
    omega (arith, e, len, one, less)

-- where there is room, the keys are few with one section more
pub few-left : (past : List Counted) (s : Counted) (lacks : Bool) → lacks ≡ false → IsTrue lacks ↔ HaveTooManyKeys (past ++ s ∷ []) → HaveFewKeys (past ++ s ∷ [])
few-left past s lacks room tells = ⊎_elim
    (λ many. absurd (let e = tells.1 many in let z : Prim.⊥ = cc in z))
    (λ few. few)
    (cases_lt 65536 (key_count (past ++ s ∷ [])))

-- a section of a key that is kept brings no other one
pub few-known : (past : List Taken) (s : Counted) (kept : KeyHeard) (o : Option KeyHeard) → StandsFor s.key past o → o ≡ Some kept → HaveFewKeys (sections_taken past) → HaveFewKeys (sections_taken past ++ s ∷ [])
few-known past s kept o stands is few =
    let ss = sections_taken past in
    let known : is_member is_key (section_keys ss) s.key ≡ true = member_some s.key ss ∙ some_kept s.key past o stands ∙ ap is_some is in
    let e = count-more ss s ∙ ap (λ b. (if b then 0 else 1) + key_count ss) known in
    omega (arith, e, few)

-- sections that come later bring no fewer keys
pub count-grows : (past more : List Counted) → key_count past ≤ key_count (past ++ more)
count-grows past [] = let e = ap key_count (append-nil past) in omega (arith, e)
count-grows past (s ∷ more) =
    let e = count-more past s in
    let rest = count-grows (past ++ s ∷ []) more in
    let same = ap key_count (append_assoc past (s ∷ []) more) in
    omega (arith, e, rest, same)
