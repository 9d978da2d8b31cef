-- The moment of each tick that is read can be written.
use Rattle.std.proofs.Common.{◌≡◌, ℕ, ◌*◌, ◌<◌, List, [], ◌∷◌, refl}
use Rattle.std.specs.Prelude.{Option, Some, None, IfSome, codes}
use Rattle.si_lists.proofs.Outcomes.{if_some, map_some}
use Rattle.si_time.specs.Readings.{moment_in}
use Rattle.si_time.specs.declared.moment.Moment.{Moment}
use Rattle.si_time.proofs.TextFacts.{moment_in-is}
use Rattle.input_lines.specs.Numbers.{is_word}
use Rattle.journal_model.specs.declared.control.Control.TheVariants.{Tick}
use Rattle.journal_model.specs.Steps.{IsControlWithin}
use Rattle.script_lines.specs.Controls.{control_of, moment_at, moment_with, publish_of, tick_of}

moment_window : (field : List ℕ) → IfSome (moment_in field) (λ (t : ℕ). t < 65536 * 86400)
moment_window field = go (moment_in field) refl
  where
    go : (o : Option ℕ) → moment_in field ≡ o → IfSome o (λ (t : ℕ). t < 65536 * 86400)
    go None e = tt
    go (Some t) e = (moment_in-is field t e).0

tick_window : (fields : List (List ℕ)) → IfSome (tick_of fields) IsControlWithin
tick_window [] = tt
tick_window (moment ∷ []) =
    map_some (λ (at : Moment). at.0 < 65536 * 86400) IsControlWithin Tick (moment_at moment)
    (map_some (λ (t : ℕ). t < 65536 * 86400) (λ (at : Moment). at.0 < 65536 * 86400) moment_with (moment_in moment) (moment_window moment) (λ t lt. lt)) (λ at lt. lt)
tick_window (moment ∷ more ∷ fields) = tt

publish_window : (fields : List (List ℕ)) → IfSome (publish_of fields) IsControlWithin
publish_window [] = tt
publish_window (field ∷ fields) = tt

pub control_window : (fields : List (List ℕ)) → IfSome (control_of fields) IsControlWithin
unfolding control_of
control_window [] = tt
control_window (word ∷ fields) =
    if_some IsControlWithin (is_word (codes "tick") word) (tick_of fields) _ (tick_window fields)
    (if_some IsControlWithin (is_word (codes "publish") word) (publish_of fields) None (publish_window fields) tt)
