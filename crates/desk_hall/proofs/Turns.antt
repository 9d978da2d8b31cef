-- One turn: what a step appends, and what a swap puts on air.
use Rattle.std.proofs.Common.{◌≡◌, ℕ, List, [], ◌∷◌, ◌++◌, refl, sym, ap, ◌∙◌, subst, arith, inl, inr, append-nil}
use Rattle.std.specs.Prelude.{Option, Some, None, Result, Ok, Err, IfOk, OnErr}
use Rattle.mux_model.specs.declared.mux.Mux.{Mux}
use Rattle.guide_model.specs.declared.guide.Guide.{Guide}
use Rattle.journal_model.specs.declared.step.Step.{Step}
use Rattle.journal_model.specs.declared.step.Step.TheVariants.{Swap}
use Rattle.journal_model.specs.declared.step.Outcome.{Outcome}
use Rattle.journal_model.specs.declared.step.Outcome.TheVariants.{Swapped}
use Rattle.journal_model.specs.declared.step.Entry.{Entry}
use Rattle.desk_core.specs.declared.airing.Airing.{Airing}
use Rattle.desk_core.specs.Journal.{publishes, moment_of}
use Rattle.desk_core.specs.Publications.{airing_of}
use Rattle.desk_core.specs.Desks.{DeskState, and_entry, latest_of, on_air_of}
use Rattle.desk_core.proofs.JournalFacts.{publication-kept, aired-swap}
use Rattle.turn_lock.specs.Journal.{Grows}
use Rattle.turn_lock.specs.Knowledge.{Turned}
use Rattle.desk_hall.specs.Turn.{View, caller_of, entry_of, desk_with, SwapDone, IsAiring}

pub grows : {E : Type 0} (who : ℕ) (step : Step) (old new : DeskState) (r : Result Outcome E) → IfOk r (λ o. new ≡ and_entry old who step o) → OnErr r (new ≡ old) → Grows caller_of who old.entries new.entries
grows who step old new (Ok o) is same = (entry_of who step o ∷ [], ap (λ (d : DeskState). d.entries) is, inr (entry_of who step o, refl, refl))
grows who step old new (Err e) is same = ([], ap (λ (d : DeskState). d.entries) same ∙ sym (append-nil old.entries), inl refl)

abbrev given : {X : Type 0} → Option X → X → X
given None d = d
given (Some x) d = x

pub some_same : {X : Type 0} (x y : X) → Some x ≡ Some y → x ≡ y
some_same x y e = ap (λ o. given o x) e

airing_after : (mux : Mux) (before after : List Entry) (who : ℕ) (airing : Airing) → airing ≡ latest_of (desk_with mux before)
    → after ≡ before ++ entry_of who Swap (Swapped airing.number airing.moment) ∷ [] → airing ≡ on_air_of (desk_with mux after)
airing_after mux before after who airing is end =
    let number = publishes before in
    let moment = moment_of mux before in
    let e : Entry = entry_of who Swap (Swapped number moment) in
    let all : List Entry = before ++ e ∷ [] in
    let same : after ≡ all = end ∙ ap (λ (x : Airing). before ++ entry_of who Swap (Swapped x.number x.moment) ∷ []) is in
    is ∙ sym (
    ap (λ (l : List Entry). on_air_of (desk_with mux l)) same
    ∙ ap (airing_of mux all) (aired-swap mux before e (number, moment) refl)
    ∙ ap (λ (g : Guide). let x : Airing = record { number = number; moment = moment; guide = g } in x) (publication-kept mux before e number (omega arith)))

pub aired : {E : Type 0} (r : Result Airing E) (v w : View) → Turned caller_of (λ base before after. SwapDone base v.own.low before after r) v w → IfOk r (λ airing. IsAiring w airing)
aired (Err e) v w t = tt
aired (Ok airing) v w t = λ mux on.
    subst (λ (m : Mux). airing ≡ on_air_of (desk_with m w.seen)) (some_same t.base mux (sym t.stands ∙ sym (ap (λ (z : View). z.on) t.gained) ∙ on))
    (airing_after t.base t.before w.seen v.own.low airing t.job.0 t.job.1)
