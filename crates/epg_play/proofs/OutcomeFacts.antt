-- Outcomes that are compared as one are one.
use Rattle.std.proofs.Common.{◌≡◌, ◌∙◌, ◌==◌, ℕ, true, refl, ap, subst, eqb-true}
use Rattle.std.proofs.lemmas.Bool.{and_parts}
use Rattle.si_time.specs.declared.moment.Moment.{Moment}
use Rattle.journal_model.specs.contracts.reply.FieldPartialEq.TheImpl as field_eq
use Rattle.journal_model.specs.contracts.reply.DayFaultPartialEq.TheImpl as fault_eq
use Rattle.journal_model.specs.contracts.reply.ReplyPartialEq.TheImpl as reply_eq
use Rattle.journal_model.specs.declared.reply.Field.{Field}
use Rattle.journal_model.specs.declared.reply.Field.TheVariants.{Start, Duration, Window, Language, Name, Short, Extended, Country, Rating, Genre, Descriptor, Provider, ServiceName, Count, Segment}
use Rattle.journal_model.specs.declared.reply.DayFault.{DayFault}
use Rattle.journal_model.specs.declared.reply.DayFault.TheVariants.{Range as BadField, Overlap as Overlaps}
use Rattle.journal_model.specs.declared.reply.Reply.{Reply}
use Rattle.journal_model.specs.declared.reply.Reply.TheVariants.{Done, Foreign, Range, Overlap, Member}
use Rattle.journal_model.specs.declared.step.Outcome.{Outcome}
use Rattle.journal_model.specs.declared.step.Outcome.TheVariants.{Edited, Ticked, Late, Published, Swapped}
use Rattle.journal_model.specs.contracts.step.OutcomeEq.TheImpl.Laws as outcome_law
use Rattle.epg_play.specs.Outcomes.{is_outcome, OutcomesAreCompared}

field_is : (a b : Field) → (field_eq.ghosts).eq a b ≡ true → a ≡ b
field_is (Count m) (Count n) e = ap Count (eqb-true m n e)
field_is (Segment m) (Segment n) e = ap Segment (eqb-true m n e)
field_is Start Start e = refl
field_is Duration Duration e = refl
field_is Window Window e = refl
field_is Language Language e = refl
field_is Name Name e = refl
field_is Short Short e = refl
field_is Extended Extended e = refl
field_is Country Country e = refl
field_is Rating Rating e = refl
field_is Genre Genre e = refl
field_is Descriptor Descriptor e = refl
field_is Provider Provider e = refl
field_is ServiceName ServiceName e = refl
field_is a b e = cc

fault_is : (a b : DayFault) → (fault_eq.ghosts).eq a b ≡ true → a ≡ b
fault_is (BadField a) (BadField b) e = ap BadField (field_is a b e)
fault_is (Overlaps a) (Overlaps b) e = ap Overlaps (eqb-true a b e)
fault_is a b e = cc

reply_is : (a b : Reply) → (reply_eq.ghosts).eq a b ≡ true → a ≡ b
reply_is Done Done e = refl
reply_is (Foreign a) (Foreign b) e = ap Foreign (eqb-true a b e)
reply_is (Range a) (Range b) e = ap Range (field_is a b e)
reply_is (Overlap a) (Overlap b) e = ap Overlap (eqb-true a b e)
reply_is (Member m a) (Member n b) e =
    let parts = and_parts (m == n) ((fault_eq.ghosts).eq a b) e in
    ap (λ (k : ℕ). Member k a) (eqb-true m n parts.0) ∙ ap (Member n) (fault_is a b parts.1)
reply_is a b e = cc

moment_is : (a b : Moment) → (a.0 == b.0) ≡ true → a ≡ b
moment_is a b e = ap (λ (n : ℕ). let m : Moment = record { 0 = n } in m) (eqb-true a.0 b.0 e)

outcome_is : (a b : Outcome) → is_outcome a b ≡ true → a ≡ b
outcome_is (Edited a) (Edited b) e = ap Edited (reply_is a b e)
outcome_is Ticked Ticked e = refl
outcome_is (Late a) (Late b) e = ap Late (moment_is a b e)
outcome_is (Published m) (Published n) e = ap Published (eqb-true m n e)
outcome_is (Swapped m a) (Swapped n b) e =
    let parts = and_parts (m == n) (a.0 == b.0) e in
    ap (λ (k : ℕ). Swapped k a) (eqb-true m n parts.0) ∙ ap (Swapped n) (moment_is a b parts.1)
outcome_is a b e = cc

pub outcomes_are_compared : OutcomesAreCompared
outcomes_are_compared a b = (outcome_is a b, λ e. subst (λ (o : Outcome). is_outcome a o ≡ true) e (outcome_law.laws-law.refl a))
