-- A planned cycle has each section of its airing, and no other.
use Rattle.std.proofs.Common.{◌≡◌, ℕ, zero, suc, ◌<◌, List, [], ◌∷◌, ◌++◌, Option, Some, None, length, map, refl, sym, ap, ◌∙◌, subst, arith, length-append}
use Rattle.std.specs.Prelude.{slice_get}
use Rattle.std.specs.List.{AllByRecursion, Contains, cons_option}
use Rattle.std.proofs.lemmas.List.{length-map}
use Rattle.std.proofs.lemmas.List.Elements.{Contains-append_right, filter_map-append}
use Rattle.section_codec.specs.declared.table.SubTable.{SubTable}
use Rattle.section_codec.specs.declared.table.Tier3.TheVariants.{Fast}
use Rattle.air_model.specs.Cycle.{cycle_of}
use Rattle.air_model.specs.Sections.{planned}
use Rattle.air_model.proofs.Cursors.{planned_all}
use Rattle.air_model.proofs.Order.{cycles_are_whole}
use Rattle.version_book.specs.Airings.{AiredTables, version_at}
use Rattle.air_model.specs.Air.{sections_of, table_sections, times, before_tdt, behind_tdt, sections_once, weight, table_weights, weights_once, at_places}
use Rattle.air_model.proofs.Elements.{first_of, around}

-- ---- what stands at places

pub all_got : {X : Type 0} (P : X → Type 0) (xs : List X) (i : ℕ) (x : X) → AllByRecursion P xs → slice_get xs i ≡ Some x → P x
all_got P [] i x all e = cc
all_got P (y ∷ xs) zero x all e = let f : y ≡ x = cc in subst P f all.0
all_got P (y ∷ xs) (suc i) x all e = all_got P xs i x all.1 e

-- what holds of each element holds of those at places
pub all_at : {X : Type 0} (P : X → Type 0) (xs : List X) (places : List ℕ) → AllByRecursion P xs → AllByRecursion P (at_places xs places)
all_at P xs [] all = tt
all_at P xs (i ∷ places) all = go (slice_get xs i) refl (all_at P xs places all)
  where
    go : (got : Option _) → slice_get xs i ≡ got → AllByRecursion P (at_places xs places) → AllByRecursion P (cons_option got (at_places xs places))
    go None e rest = rest
    go (Some x) e rest = (all_got P xs i x all e, rest)

got_between : {X : Type 0} (before : List X) (x : X) (after : List X) → slice_get (before ++ x ∷ after) (length before) ≡ Some x
got_between [] x after = refl
got_between (y ∷ before) x after = got_between before x after

-- an element whose place is among them is there
pub at_contains : {X : Type 0} (xs : List X) (places : List ℕ) (x : X) → ((i : ℕ) → i < length xs → Contains places i) → Contains xs x → Contains (at_places xs places) x
at_contains xs places x each has =
    let split = around xs x has in
    let i = length split.0 in
    let got : slice_get xs i ≡ Some x = ap (λ (l : List _). slice_get l i) split.2 ∙ got_between split.0 x split.1 in
    let within : i < length xs = omega (arith, ap length split.2, length-append split.0 (x ∷ split.1)) in
    let parts = around places i (each i within) in
    let both : at_places xs places ≡ at_places xs parts.0 ++ x ∷ at_places xs parts.1 =
    ap (at_places xs) parts.2 ∙ filter_map-append (slice_get xs) parts.0 (i ∷ parts.1) ∙ ap (λ (o : Option _). at_places xs parts.0 ++ cons_option o (at_places xs parts.1)) got in
    subst (λ (l : List _). Contains l x) (sym both) (Contains-append_right (at_places xs parts.0) (x ∷ at_places xs parts.1) x (first_of x (at_places xs parts.1)))

-- ---- the sections of an airing

weights_tables : (airings : List AiredTables) (ts : List SubTable) → length (table_weights airings ts) ≡ length (table_sections airings ts)
weights_tables airings [] = refl
weights_tables airings (t ∷ ts) =
    let sections = sections_of (version_at t.key airings) t in
    let both = length-append (map (weight t.tier) sections) (table_weights airings ts) in
    let rest = length-append sections (table_sections airings ts) in
    let first = length-map sections (weight t.tier) in
    let i = weights_tables airings ts in
    omega arith

-- one weight for each
pub weights_each : (past : List AiredTables) (a : AiredTables) → length (weights_once past a) ≡ length (sections_once past a)
weights_each past a =
    let all = past ++ a ∷ [] in
    let ts = times a.form a.moment in
    let x = length-append (table_weights all (before_tdt a.tables)) (map (weight Fast) ts ++ table_weights all (behind_tdt a.tables)) in
    let y = length-append (table_sections all (before_tdt a.tables)) (ts ++ table_sections all (behind_tdt a.tables)) in
    let v = length-append (map (weight Fast) ts) (table_weights all (behind_tdt a.tables)) in
    let w = length-append ts (table_sections all (behind_tdt a.tables)) in
    let each = length-map ts (weight Fast) in
    let i = weights_tables all (before_tdt a.tables) in
    let j = weights_tables all (behind_tdt a.tables) in
    omega arith

-- each place of a section stands in the plan
pub places_planned : (past : List AiredTables) (a : AiredTables) (i : ℕ) → i < length (sections_once past a) → Contains (cycle_of (planned (weights_once past a) a.form.quota)) i
places_planned past a i l =
    let e = weights_each past a in
    let f = planned_all (weights_once past a) a.form.quota in
    (cycles_are_whole (planned (weights_once past a) a.form.quota)).each i (omega arith)
