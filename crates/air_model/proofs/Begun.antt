-- Sections that were laid can be sent, and are those of the cycle.
use Rattle.std.proofs.Common.{◌≡◌, ℕ, suc, ◌+◌, ◌<◌, ◌≤◌, Bool, true, false, cond, Option, Some, None, List, [], ◌∷◌, ◌++◌, length, refl, sym, ap, ap₂, ◌∙◌, subst, arith, map, length-append}
use Rattle.std.specs.Prelude.{take, drop, flat_map, slice_get, option_map}
use Rattle.std.specs.List.{AllByRecursion, All, prefix_len, cons_option}
use Rattle.std.proofs.lemmas.List.{take-map, drop-map}
use Rattle.std.proofs.lemmas.Option.{slice_get-map}
use Rattle.std.proofs.lemmas.List.Elements.{recursion_from_All, All-take, All-drop}
use Rattle.si_lists.proofs.Lists.{all_append}
use Rattle.section_codec.specs.declared.table.NumberedBody.{NumberedBody}
use Rattle.section_codec.specs.declared.table.SubTable.{SubTable}
use Rattle.section_codec.specs.Section.{longest_body}
use Rattle.section_codec.proofs.ReadBack.{length-section_bytes}
use Rattle.section_codec.specs.Tables.{is_eit}
use Rattle.section_codec.specs.Contents.{Content}
use Rattle.version_book.specs.Airings.{CycleForm, AiredTables, version_at}
use Rattle.version_book.specs.Book.{aired, versions_of}
use Rattle.section_codec.specs.declared.table.Tier3.{Tier3}
use Rattle.air_model.specs.Cycle.{cycle_of}
use Rattle.air_model.specs.Sections.{planned}
use Rattle.air_model.specs.Air.{Sent, sent_section, sections_of, tot, times, leads, before_tdt, behind_tdt, sections_once, at_places, cycle_sections, CanBeTold}
use Rattle.air_model.specs.declared.placed.Placed.{Placed}
use Rattle.section_codec.specs.SubTables.{IsFit, header_of}
use Rattle.air_model.specs.Laying.{IsPlaced, sent_at, places_from, AreLaid, sections_under, cycle_under, order_under}
use Rattle.air_model.proofs.Laid.{laid_sent}
use Rattle.air_model.proofs.Dense.{eight}
use Rattle.guide_model.specs.declared.offset.Offset.{Offset}
use Rattle.time_tables.proofs.Loops.{length-tot_section}
use Rattle.time_tables.proofs.Offsets.{length-offsets_body}
use Rattle.air_model.proofs.Weights.{weights_given, each_cycle, places_within}
use Rattle.air_model.proofs.Planned.{weights_each}

-- a section that can be sent
record IsSendable (s : Sent) : Type 0 where
  pid : s.pid < 8192
  some : 1 ≤ length s.bytes
  most : length s.bytes ≤ 4096

pub longest : (b : Bool) → cond b 4084 1012 ≤ 4084
longest true = omega arith
longest false = omega arith

sendable_sections : (v : ℕ) (t : SubTable) (ss : Content) → t.key.pid < 8192 → AllByRecursion (λ (s : NumberedBody). length s.body ≤ longest_body t.key.table) ss → AllByRecursion IsSendable (map (sent_section v t) ss)
sendable_sections v t [] pid fit = tt
sendable_sections v t (s ∷ ss) pid fit =
    let size = length-section_bytes (header_of v t s) s.body in
    let most : length s.body ≤ longest_body t.key.table = fit.0 in
    let top : longest_body t.key.table ≤ 4084 = longest (is_eit t.key.table) in
    (record { pid = pid; some = omega (arith, size); most = omega (arith, size) }, sendable_sections v t ss pid fit.1)

sendable : (vs : List ℕ) (ts : List SubTable) → AllByRecursion IsFit ts → AllByRecursion IsSendable (sections_under vs ts)
sendable [] ts fit = tt
sendable (v ∷ vs) [] fit = tt
sendable (v ∷ vs) (t ∷ ts) fit =
    all_append IsSendable (sections_of v t) (sections_under vs ts) (sendable_sections v t t.sections (let lt : t.key.pid < 8191 = fit.0.pid in omega (arith, lt)) (recursion_from_All _ t.sections fit.0.bodies)) (sendable vs ts fit.1)

sendable_times : (form : CycleForm) (moment : ℕ) → CanBeTold form.offsets → AllByRecursion IsSendable (times form moment)
sendable_times form moment can =
    (record { pid = omega arith; some = omega (arith, eight moment); most = omega (arith, eight moment) }, go form.offsets can)
  where
    go : (offsets : List Offset) → CanBeTold offsets → AllByRecursion IsSendable (tot moment offsets)
    go [] can = tt
    go (o ∷ offsets) can =
        let size = length-tot_section moment (o ∷ offsets) in
        let body = length-offsets_body (o ∷ offsets) can.each in
        let few = can.few in
        (record { pid = omega arith; some = omega (arith, size); most = omega (arith, size, body, few) }, tt)

sendable_cycle : (vs : List ℕ) (ts : List SubTable) (moment : ℕ) (form : CycleForm) → All IsFit ts → CanBeTold form.offsets → AllByRecursion IsSendable (cycle_under vs ts (times form moment))
sendable_cycle vs ts moment form fit can =
    let n = prefix_len leads ts in
    all_append IsSendable (sections_under (take n vs) (before_tdt ts)) (times form moment ++ sections_under (drop n vs) (behind_tdt ts))
    (sendable (take n vs) (before_tdt ts) (recursion_from_All IsFit (before_tdt ts) (All-take IsFit n ts fit)))
    (all_append IsSendable (times form moment) (sections_under (drop n vs) (behind_tdt ts)) (sendable_times form moment can)
    (sendable (drop n vs) (behind_tdt ts) (recursion_from_All IsFit (behind_tdt ts) (All-drop IsFit n ts fit))))

placed_fit : (size start : ℕ) (ss : List Sent) → start + length (flat_map (λ (s : Sent). s.bytes) ss) ≤ size → AllByRecursion IsSendable ss → AllByRecursion (IsPlaced size) (places_from start ss)
placed_fit size start [] le fit = tt
placed_fit size start (s ∷ ss) le fit =
    let all = flat_map (λ (x : Sent). x.bytes) ss in
    let both = length-append s.bytes all in
    (record { pid = fit.0.pid; some = fit.0.some; most = fit.0.most; within = omega (arith, both) }, placed_fit size (start + length s.bytes) ss (omega (arith, both)) fit.1)

-- each laid section can be sent
pub laid_placed : (vs : List ℕ) (ts : List SubTable) (moment : ℕ) (form : CycleForm) (bytes : List ℕ) (placed : List Placed) → AreLaid (cycle_under vs ts (times form moment)) bytes placed → All IsFit ts
    → CanBeTold form.offsets → AllByRecursion (IsPlaced (length bytes)) placed
laid_placed vs ts moment form bytes placed h fit can =
    subst (AllByRecursion (IsPlaced (length bytes))) (sym h.placed_are) (placed_fit (length bytes) 0 (cycle_under vs ts (times form moment)) (omega (arith, ap length h.bytes_are)) (sendable_cycle vs ts moment form fit can))

length-places : (start : ℕ) (ss : List Sent) → length (places_from start ss) ≡ length ss
length-places start [] = refl
length-places start (s ∷ ss) = ap suc (length-places (start + length s.bytes) ss)

-- the order names no others
pub laid_within : (vs : List ℕ) (ts : List SubTable) (moment : ℕ) (form : CycleForm) (bytes : List ℕ) (placed : List Placed) → AreLaid (cycle_under vs ts (times form moment)) bytes placed → length vs ≡ length ts
    → AllByRecursion (λ (at : ℕ). at < length placed) (order_under ts form)
laid_within vs ts moment form bytes placed h each =
    subst (λ (n : ℕ). AllByRecursion (λ (at : ℕ). at < n) (order_under ts form)) (sym (ap length h.placed_are ∙ length-places 0 (cycle_under vs ts (times form moment)))) (places_within vs ts moment form each)

-- there are as many as in the airing, whatever came before it
pub laid_count : (past : List AiredTables) (vs : List ℕ) (ts : List SubTable) (moment : ℕ) (form : CycleForm) (bytes : List ℕ) (placed : List Placed) → AreLaid (cycle_under vs ts (times form moment)) bytes placed
    → length vs ≡ length ts → length placed ≡ length (sections_once past (aired ts moment form))
laid_count past vs ts moment form bytes placed h each =
    ap length h.placed_are ∙ length-places 0 (cycle_under vs ts (times form moment)) ∙ each_cycle vs ts moment form each
    ∙ ap length (weights_given past moment form ts) ∙ weights_each past (aired ts moment form)

versions_given : (f : SubTable → ℕ) (ts : List SubTable) → sections_under (map f ts) ts ≡ flat_map (λ (t : SubTable). sections_of (f t) t) ts
versions_given f [] = refl
versions_given f (t ∷ ts) = ap (λ (l : List Sent). sections_of (f t) t ++ l) (versions_given f ts)

-- with the versions of the airing they are its sections
pub sections_given : (past : List AiredTables) (moment : ℕ) (form : CycleForm) (ts : List SubTable) → cycle_under (versions_of past ts moment form) ts (times form moment) ≡ sections_once past (aired ts moment form)
sections_given past moment form ts =
    ap₂ (λ (x y : List Sent). x ++ (times form moment ++ y))
    (ap (λ (vs : List ℕ). sections_under vs (before_tdt ts)) (take-map version n ts) ∙ versions_given version (before_tdt ts))
    (ap (λ (vs : List ℕ). sections_under vs (behind_tdt ts)) (drop-map version n ts) ∙ versions_given version (behind_tdt ts))
  where
    n : ℕ
    n = prefix_len leads ts

    version : SubTable → ℕ
    version t = version_at t.key (past ++ aired ts moment form ∷ [])

map-at_places : {X Y : Type 0} (f : X → Y) (xs : List X) (order : List ℕ) → map f (at_places xs order) ≡ at_places (map f xs) order
map-at_places f xs [] = refl
map-at_places f xs (i ∷ order) = go (slice_get xs i) (map-at_places f xs order) ∙ ap (λ (o : Option _). cons_option o (at_places (map f xs) order)) (sym (slice_get-map f xs i))
  where
    go : (o : Option _) → map f (at_places xs order) ≡ at_places (map f xs) order → map f (cons_option o (at_places xs order)) ≡ cons_option (option_map f o) (at_places (map f xs) order)
    go None e = e
    go (Some x) e = ap (λ (l : List _). f x ∷ l) e

-- in the order of the plan they are the cycle
pub cycle_laid : (past : List AiredTables) (moment : ℕ) (form : CycleForm) (vs : List ℕ) (ts : List SubTable) (bytes : List ℕ) (placed : List Placed) → AreLaid (cycle_under vs ts (times form moment)) bytes placed
    → vs ≡ versions_of past ts moment form
    → map (sent_at bytes) (at_places placed (order_under ts form)) ≡ cycle_sections past (aired ts moment form)
cycle_laid past moment form vs ts bytes placed h is =
    let order = order_under ts form in
    let sections : map (sent_at bytes) placed ≡ sections_once past (aired ts moment form) =
    laid_sent (cycle_under vs ts (times form moment)) bytes placed h ∙ ap (λ (l : List ℕ). cycle_under l ts (times form moment)) is ∙ sections_given past moment form ts in
    map-at_places (sent_at bytes) placed order ∙ ap (λ (l : List Sent). at_places l order) sections
    ∙ ap (λ (ws : List (Tier3 × ℕ)). at_places (sections_once past (aired ts moment form)) (cycle_of (planned ws form.quota))) (weights_given past moment form ts)
