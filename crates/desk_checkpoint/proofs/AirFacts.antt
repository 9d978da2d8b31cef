-- What is put on air after journals that go on alike.
use Rattle.std.proofs.Common.{◌≡◌, ℕ, ◌+◌, ◌≤◌, true, false, List, [], ◌∷◌, ◌++◌, map, refl, sym, ap, ◌∙◌, subst, arith, append_assoc}
use Rattle.std.specs.Prelude.{Option, Some, None, IfSome}
use Rattle.std.specs.List.{AllByRecursion, cons_option}
use Rattle.std.proofs.lemmas.List.{map-append}
use Rattle.std.proofs.lemmas.List.Elements.{filter_map-append}
use Rattle.std.proofs.lemmas.Simd.{map-map}
use Rattle.si_lists.proofs.Lists.{all_map}
use Rattle.si_time.specs.declared.moment.Moment.{Moment}
use Rattle.guide_model.specs.declared.guide.Guide.{Guide}
use Rattle.mux_model.specs.declared.mux.Mux.{Mux}
use Rattle.mux_model.specs.Sound.{IsSound}
use Rattle.version_book.specs.Airings.{AiredTables}
use Rattle.publication.specs.Tables.{tables_of}
use Rattle.journal_model.specs.declared.step.Step.{Step}
use Rattle.journal_model.specs.declared.step.Step.TheVariants.{Edit as edit, Tick, Publish, Swap}
use Rattle.journal_model.specs.declared.step.Outcome.{Outcome}
use Rattle.journal_model.specs.declared.step.Outcome.TheVariants.{Edited, Ticked, Late, Published, Swapped}
use Rattle.journal_model.specs.declared.step.Entry.{Entry}
use Rattle.journal_model.specs.Steps.{Command}
use Rattle.desk_core.specs.Journal.{publishes, moment_of, outcome_of, LegalAfter, Legal, journal_after}
use Rattle.desk_core.specs.Publications.{publication, aired_by, swaps}
use Rattle.desk_core.proofs.JournalFacts.{journal_legal, publication_stays}
use Rattle.desk_core.proofs.DerivedFacts.{not_aired}
use Rattle.journal_air.specs.Air.{mux_form, airing_at, airings, airings_by}
use Rattle.desk_checkpoint.specs.Steps.{checkpoint_steps, folded, shift_of}
use Rattle.desk_checkpoint.specs.Going.{is_taken, GoOnAlike}
use Rattle.journal_model.specs.Raising.{raised, all_raised}
use Rattle.desk_checkpoint.proofs.GoFacts.{journals_alike, publications_alike}
use Rattle.desk_checkpoint.proofs.FoldFacts.{steps_taken, goes_on}

-- ---- what is taken puts nothing on air

none_by : (outcome : Outcome) → is_taken outcome ≡ true → aired_by outcome ≡ None
none_by (Edited r) h = refl
none_by Ticked h = refl
none_by (Late m) h = refl
none_by (Published n) h = refl
none_by (Swapped n at) h = absurd (let e : false ≡ true = h in cc)

pub no_swaps : (entries : List Entry) → AllByRecursion (λ (entry : Entry). is_taken entry.outcome ≡ true) entries → swaps entries ≡ []
no_swaps [] h = refl
no_swaps (x ∷ xs) h = ap (λ (o : Option (ℕ × Moment)). cons_option o (swaps xs)) (none_by x.outcome h.0) ∙ no_swaps xs h.1

-- ---- the numbers that swaps tell

publishes_up : (xs ys : List Entry) → publishes xs ≤ publishes (xs ++ ys)
publishes_up [] ys = omega arith
publishes_up (x ∷ xs) ys = omega (arith, publishes_up xs ys)

-- a publication with a number from low to high
abbrev IsNumbered : ℕ → ℕ → ℕ × Moment → Type 0
IsNumbered low high swap = (low ≤ swap.0) × (swap.0 ≤ high)

-- an outcome tells the latest number
told : (mux : Mux) (before : List Entry) (step : Step) → IfSome (aired_by (outcome_of mux before step)) (λ swap. swap.0 ≡ publishes before)
told mux before (edit feed e) = tt
told mux before (Tick at) =
    subst (λ (o : Option (ℕ × Moment)). IfSome o (λ swap. swap.0 ≡ publishes before)) (sym (not_aired (moment_of mux before) at)) tt
told mux before Publish = tt
told mux before Swap = refl

one_more : (low high : ℕ) (o : Option (ℕ × Moment)) (rest : List (ℕ × Moment)) → low ≤ high → IfSome o (λ swap. swap.0 ≡ low)
    → AllByRecursion (IsNumbered low high) rest → AllByRecursion (IsNumbered low high) (cons_option o rest)
one_more low high None rest le is h = h
one_more low high (Some swap) rest le is h = ((omega arith, omega arith), h)

swaps_numbered : (mux : Mux) (before entries : List Entry) → LegalAfter mux before entries
    → AllByRecursion (IsNumbered (publishes before) (publishes (before ++ entries))) (swaps entries)
swaps_numbered mux before [] legal = tt
swaps_numbered mux before (x ∷ xs) legal =
    let low = publishes before in
    let more = publishes (before ++ x ∷ []) in
    let high = publishes (before ++ x ∷ xs) in
    let up : low ≤ more = publishes_up before (x ∷ []) in
    let rest : AllByRecursion (IsNumbered more high) (swaps xs) =
    subst (λ (l : List Entry). AllByRecursion (IsNumbered more (publishes l)) (swaps xs)) (append_assoc before (x ∷ []) xs) (swaps_numbered mux (before ++ x ∷ []) xs legal.1) in
    one_more low high (aired_by x.outcome) (swaps xs) (publishes_up before (x ∷ xs))
    (subst (λ (o : Outcome). IfSome (aired_by o) (λ swap. swap.0 ≡ low)) (sym legal.0) (told mux before x.step))
    (all_map (IsNumbered more high) (IsNumbered low high) (λ swap h. (omega (arith, up, h.0), h.1)) (swaps xs) rest)

-- ---- raised numbers

abbrev raised_swap : ℕ → ℕ × Moment → ℕ × Moment
raised_swap shift swap = (shift + swap.0, swap.1)

swaps_raised : (shift : ℕ) (entries : List Entry) → swaps (all_raised shift entries) ≡ map (raised_swap shift) (swaps entries)
swaps_raised shift [] = refl
swaps_raised shift (x ∷ xs) = front x.outcome (swaps (all_raised shift xs)) (swaps xs) (swaps_raised shift xs)
  where
    front : (outcome : Outcome) (up rest : List (ℕ × Moment)) → up ≡ map (raised_swap shift) rest
        → cons_option (aired_by (raised shift outcome)) up ≡ map (raised_swap shift) (cons_option (aired_by outcome) rest)
    front (Edited r) up rest h = h
    front Ticked up rest h = h
    front (Late m) up rest h = h
    front (Published n) up rest h = h
    front (Swapped n at) up rest h = ap (λ (l : List (ℕ × Moment)). (shift + n, at) ∷ l) h

-- ---- what they put on air

-- the tables of a guide at the moment of a swap
abbrev aired : Mux → ℕ × Moment → Guide → AiredTables
aired mux swap guide = record { tables = tables_of mux guide; moment = swap.1.0; form = mux_form mux }

same_airings : (mux : Mux) (one two : ℕ → Guide) (low high : ℕ) → ((n : ℕ) → low ≤ n → n ≤ high → one n ≡ two n)
    → (found : List (ℕ × Moment)) → AllByRecursion (IsNumbered low high) found
    → map (λ (swap : ℕ × Moment). aired mux swap (one swap.0)) found ≡ map (λ (swap : ℕ × Moment). aired mux swap (two swap.0)) found
same_airings mux one two low high same [] h = refl
same_airings mux one two low high same (swap ∷ rest) h =
    ap (λ (g : Guide). aired mux swap g ∷ map (λ (swap : ℕ × Moment). aired mux swap (one swap.0)) rest) (same swap.0 h.0.0 h.0.1)
    ∙ ap (λ (l : List AiredTables). aired mux swap (two swap.0) ∷ l) (same_airings mux one two low high same rest h.1)

pub aired_alike : (mux : Mux) (shift : ℕ) (h c : List Entry) (commands : List Command) → IsSound mux → Legal mux h → Legal mux c
    → GoOnAlike mux shift h c
    → let more = journal_after mux c commands in
    airings mux (h ++ all_raised shift more) ≡ airings mux h ++ airings_by mux (c ++ more) more
aired_alike mux shift h c commands sound legal_h legal_c alike =
    let more = journal_after mux c commands in
    let rest = all_raised shift more in
    let whole = h ++ rest in
    let before : map (airing_at mux whole) (swaps h) ≡ airings mux h =
    same_airings mux (publication mux whole) (publication mux h) 0 (publishes h) (λ n low high. publication_stays mux h rest n high) (swaps h) (swaps_numbered mux [] h legal_h) in
    let behind : map (airing_at mux whole) (swaps rest) ≡ airings_by mux (c ++ more) more =
    ap (map (airing_at mux whole)) (swaps_raised shift more)
    ∙ map-map (airing_at mux whole) (raised_swap shift) (swaps more)
    ∙ same_airings mux (λ n. publication mux whole (shift + n)) (publication mux (c ++ more)) (publishes c) (publishes (c ++ more))
    (λ n low high. ap (λ (l : List Entry). publication mux (h ++ l) (shift + n)) (sym (journals_alike mux shift h c commands sound legal_h legal_c alike))
    ∙ publications_alike mux shift h c commands sound legal_h legal_c alike n low high)
    (swaps more) (swaps_numbered mux c more (journal_legal mux c commands)) in
    ap (map (airing_at mux whole)) (filter_map-append (λ (entry : Entry). aired_by entry.outcome) h rest)
    ∙ map-append (airing_at mux whole) (swaps h) (swaps rest)
    ∙ ap (λ (l : List AiredTables). l ++ map (airing_at mux whole) (swaps rest)) before
    ∙ ap (λ (l : List AiredTables). airings mux h ++ l) behind

-- after a checkpoint all swaps are of what was asked then
pub air_goes_on : (mux : Mux) (journal : List Entry) (commands : List Command) → IsSound mux → Legal mux journal
    → let more = journal_after mux (folded mux journal) commands in
    airings mux (journal ++ all_raised (shift_of (publishes journal)) more) ≡ airings mux journal ++ airings mux (folded mux journal ++ more)
air_goes_on mux journal commands sound legal =
    let short = folded mux journal in
    let more = journal_after mux short commands in
    let swapped : swaps (short ++ more) ≡ swaps more =
    filter_map-append (λ (entry : Entry). aired_by entry.outcome) short more
    ∙ ap (λ (found : List (ℕ × Moment)). found ++ swaps more) (no_swaps short (steps_taken mux journal sound legal)) in
    aired_alike mux (shift_of (publishes journal)) journal short commands sound legal (journal_legal mux [] (checkpoint_steps mux journal)) (goes_on mux journal sound legal)
    ∙ ap (λ (found : List (ℕ × Moment)). airings mux journal ++ map (airing_at mux (short ++ more)) found) (sym swapped)
