-- The publications of a journal.
use Rattle.std.proofs.Common.{ℕ, ◌-◌, ◌==◌, Bool, true, false, List, [], ◌∷◌, Option, Some, None}
use Rattle.std.specs.Prelude.{if◌then◌else◌}
use Rattle.std.specs.List.{AllByRecursion, cons_option}
use Rattle.mux_model.specs.declared.mux.Mux.{Mux}
use Rattle.journal_model.specs.declared.edit.Edit.{Edit}
use Rattle.journal_model.specs.Edits.{IsTypedEdit}
use Rattle.guide_limits.specs.Limits.{IsGuideWithin}
use Rattle.publication.specs.EitLaws.{HasTypedEvents}
use Rattle.publication.proofs.TypedFacts.{typed_left}
use Rattle.publication.specs.Tables.{HasServicesOf}
use Rattle.publication.proofs.TableFacts.{guides_have}
use Rattle.journal_model.specs.declared.step.Entry.{Entry}
use Rattle.desk_core.specs.Journal.{accepted, accepted_by, is_publish, moment_of}
use Rattle.desk_core.specs.Publications.{publication, before_publish}
use Rattle.journal_air.specs.Laws.{HasTypedEdits}

-- each publication has the services of its multiplex
pub published_services : (mux : Mux) (journal : List Entry) (n : ℕ) → HasServicesOf mux (publication mux journal n)
published_services mux journal n = (let before = if n == 0 then [] else before_publish n journal in guides_have mux (accepted before) (moment_of mux before))

-- what holds of all accepted edits holds of those before a publish
front_accepted : (P : Edit → Type 0) (n : ℕ) (entries : List Entry) → AllByRecursion P (accepted entries) → AllByRecursion P (accepted (before_publish n entries))
front_accepted P n [] all = tt
front_accepted P n (x ∷ xs) all = by (λ m. front_accepted P m xs) (is_publish x.step) (n == 1)
  where
    keep : (o : Option Edit) (one two : List Edit) → (AllByRecursion P one → AllByRecursion P two) → AllByRecursion P (cons_option o one) → AllByRecursion P (cons_option o two)
    keep None one two f h = f h
    keep (Some e) one two f h = (h.0, f h.1)

    next : ((m : ℕ) → AllByRecursion P (accepted xs) → AllByRecursion P (accepted (before_publish m xs))) → (m : ℕ) → AllByRecursion P (accepted (x ∷ before_publish m xs))
    next front m = keep (accepted_by x.step x.outcome) (accepted xs) (accepted (before_publish m xs)) (front m) all

    by : ((m : ℕ) → AllByRecursion P (accepted xs) → AllByRecursion P (accepted (before_publish m xs))) → (publish first : Bool)
        → AllByRecursion P (accepted (if publish then (if first then [] else x ∷ before_publish (n - 1) xs) else x ∷ before_publish n xs))
    by front true true = tt
    by front true false = next front (n - 1)
    by front false first = next front n

-- the accepted edits behind a publication are as they are read
pub edits_before : (journal : List Entry) (n : ℕ) (none : Bool) → HasTypedEdits journal → AllByRecursion IsTypedEdit (accepted (if none then [] else before_publish n journal))
edits_before journal n true all = tt
edits_before journal n false all = front_accepted IsTypedEdit n journal all

pub published_typed : (mux : Mux) (journal : List Entry) (n : ℕ) → HasTypedEdits journal → IsGuideWithin (publication mux journal n) → HasTypedEvents (publication mux journal n)
published_typed mux journal n all within =
    let before = if n == 0 then [] else before_publish n journal in
    typed_left mux (accepted before) (moment_of mux before) (edits_before journal n (n == 0) all) within
