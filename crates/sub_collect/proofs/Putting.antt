-- A kept run, once a section more is put.
use Rattle.std.proofs.Common.{◌≡◌, ℕ, ◌+◌, ◌<◌, ◌≤◌, List, [], ◌∷◌, ◌++◌, Bool, true, false, ◌==◌, length, set, get_or-set_same, get_or-set_other, refl, sym, ap, ap₂, ◌∙◌, arith, eq-eqb, eqb-true}
use Rattle.std.specs.Prelude.{if◌then◌else◌, cond, Option, Some, None, is_some}
use Rattle.std.specs.Ordering.{nat_cmp}
use Rattle.std.specs.Cmp.{unsigned_ties}
use Rattle.std.specs.BTreeMap.{is_at}
use Rattle.std.specs.Map.{lookup}
use Rattle.section_codec.specs.Tables.{is_eit}
use Rattle.section_codec.specs.Segments.{segment_of}
use Rattle.sub_collect.specs.Runs.{Counted, all_of_version, latest_section, latest_with, segment_last_of, last_told, whole}
use Rattle.sub_collect.specs.Collectors.{KeptRun, body_in, body_of, last_in, IsFront, StandsForRun}
use Rattle.sub_collect.specs.Slots.{held_with, told_with, needed_by, whole_by}
use Rattle.sub_collect.proofs.Runs.{latest-push, all-push}
use Rattle.sub_collect.proofs.Slots.{turned, body_in-get, body_of-push, last_told-push, needed-same, whole-push, content_by-gap}

pub front-same : (f g : ℕ → Option (List ℕ)) (front : ℕ) → ((n : ℕ) → g n ≡ f n) → IsFront f front → IsFront g front
front-same f g front same is = record {
  below = λ (n : ℕ) (lt : n < front). ap is_some (same n) ∙ is.below n lt;
  gap = λ (lt : front < 256). same front ∙ is.gap lt;
}

held_with-same : (f g : ℕ → Option (List ℕ)) (number : ℕ) (body : List ℕ) → ((n : ℕ) → f n ≡ g n) → (n : ℕ) → held_with f number body n ≡ held_with g number body n
held_with-same f g number body same n = ap (λ (o : Option (List ℕ)). if n == number then Some body else o) (same n)

-- the bodies that a map has once one is inserted
pub inserted : (old new : List (ℕ × List ℕ)) (number : ℕ) (body : List ℕ)
    → ((q : ℕ) → lookup (is_at (nat_cmp q)) new ≡ cond (is_at (nat_cmp number) q) (Some body) (lookup (is_at (nat_cmp q)) old))
    → (n : ℕ) → body_in n new ≡ held_with (λ (m : ℕ). body_in m old) number body n
inserted old new number body updates n =
    sym (body_in-get n new) ∙ updates n
    ∙ ap (λ (b : Bool). cond b (Some body) (lookup (is_at (nat_cmp n)) old)) (sym (unsigned_ties number n) ∙ turned number n)
    ∙ ap (λ (o : Option (List ℕ)). if n == number then Some body else o) (body_in-get n old)

-- the kept run stands for one section more
pub put-stands : (run : List Counted) (s : Counted) (old new : KeptRun) → StandsForRun run old → s.version ≡ old.version → new.version ≡ old.version → new.last ≡ s.last
    → ((n : ℕ) → body_in n new.held ≡ held_with (λ (m : ℕ). body_in m old.held) s.number s.body n) → IsFront (held_with (λ (m : ℕ). body_in m old.held) s.number s.body) new.front
    → ((n : ℕ) → last_in new.lasts n ≡ told_with (last_in old.lasts) s.number (segment_last_of s) n)
    → StandsForRun (run ++ s ∷ []) new
put-stands run s old new stands version kept last held front lasts = record {
  version = all-push new.version run s (ap (λ (v : ℕ). all_of_version v run) kept ∙ stands.version) (version ∙ sym kept);
  last = λ (t : Counted) (e : latest_section (run ++ s ∷ []) ≡ Some t).
      (let same : Some s ≡ Some t = sym (latest-push run s) ∙ e in let one : s ≡ t = cc in last ∙ ap (λ (c : Counted). c.last) one);
  held = λ (n : ℕ).
      held n ∙ held_with-same (λ (m : ℕ). body_in m old.held) (λ (m : ℕ). body_of (latest_with m run)) s.number s.body stands.held n ∙ sym (body_of-push n run s);
  front = front-same (held_with (λ (m : ℕ). body_in m old.held) s.number s.body) (λ (n : ℕ). body_in n new.held) new.front held front;
  lasts = λ (n : ℕ). lasts n ∙ told n (segment_of s.number == n) ∙ sym (last_told-push run s n);
}
  where
    told : (n : ℕ) (b : Bool) → (if b then segment_last_of s else last_in old.lasts n) ≡ (if b then segment_last_of s else last_told run n)
    told n true = refl
    told n false = stands.lasts n

-- what a kept run has whole with one section more
pub put-whole : (run : List Counted) (s : Counted) (old : KeptRun) → StandsForRun run old
    → whole (run ++ s ∷ [])
    ≡ whole_by (held_with (λ (m : ℕ). body_in m old.held) s.number s.body) (needed_by (is_eit s.key.table) (told_with (last_in old.lasts) s.number (segment_last_of s)) s.last)
put-whole run s old stands = whole-push run s (λ (m : ℕ). body_in m old.held) (last_in old.lasts) stands.held stands.lasts

-- nothing, where the table has no segments and the front is not above the last number
pub put-gap : (run : List Counted) (s : Counted) (old : KeptRun) (front : ℕ) → StandsForRun run old → s.last < 256 → is_eit s.key.table ≡ false
    → IsFront (held_with (λ (m : ℕ). body_in m old.held) s.number s.body) front → front ≤ s.last → whole (run ++ s ∷ []) ≡ None
put-gap run s old front stands small plain is le =
    put-whole run s old stands
    ∙ ap (λ (b : Bool). whole_by (held_with (λ (m : ℕ). body_in m old.held) s.number s.body) (needed_by b (told_with (last_in old.lasts) s.number (segment_last_of s)) s.last)) plain
    ∙ content_by-gap (held_with (λ (m : ℕ). body_in m old.held) s.number s.body) front 0 (1 + s.last) (is.gap (omega arith)) (omega arith) (omega arith)

-- the last numbers once one is put at its segment
pub last_in-set : (lasts : List (Option ℕ)) (i : ℕ) (told : Option ℕ) → i < length lasts → (n : ℕ) → last_in (set lasts i told) n ≡ (if i == n then told else last_in lasts n)
last_in-set lasts i told within n = go (i == n) refl
  where
    go : (b : Bool) → (i == n) ≡ b → last_in (set lasts i told) n ≡ (if b then told else last_in lasts n)
    go true e =
        let same : i ≡ n = eqb-true i n e in
        ap (last_in (set lasts i told)) (sym same) ∙ get_or-set_same lasts i told None within
    go false e = get_or-set_other lasts i n told None (λ (same : n ≡ i). (let f : true ≡ false = sym (eq-eqb i n (sym same)) ∙ e in let z : Prim.⊥ = cc in z))

pub last_in-put : (lasts : List (Option ℕ)) (number i : ℕ) (told its : Option ℕ) → i < length lasts → i ≡ segment_of number → told ≡ its → (n : ℕ)
    → last_in (set lasts i told) n ≡ told_with (last_in lasts) number its n
last_in-put lasts number i told its within at same n =
    last_in-set lasts i told within n ∙ ap₂ (λ (k : ℕ) (t : Option ℕ). if k == n then t else last_in lasts n) at same

-- the needed numbers are by the last numbers as they are put
pub needed-set : (segmented : Bool) (lasts : List (Option ℕ)) (number i : ℕ) (told : Option ℕ) (last : ℕ) → i < length lasts → i ≡ segment_of number
    → needed_by segmented (last_in (set lasts i told)) last ≡ needed_by segmented (told_with (last_in lasts) number told) last
needed-set segmented lasts number i told last within at =
    needed-same segmented (last_in (set lasts i told)) (told_with (last_in lasts) number told) (last_in-put lasts number i told told within at refl) last
