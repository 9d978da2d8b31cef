use Rattle.std.proofs.Common.{◌++◌, ◌∷◌, [], sym, ap, ◌∙◌, subst, refl}
use Rattle.version_book.specs.Airings.{CycleForm}
use Rattle.version_book.specs.Book.{aired}
use Rattle.air_audit.specs.TimedChecking.{TimedChecking, StandsFor}
use Rattle.air_audit.proofs.Stands.{begun_within, swap_stands}
use Rattle.air_audit.proofs.timed_checker.TimedChecker.swap.Goals as goal

pub advance-self-inside-requires : goal.advance-self-inside-requires
advance-self-inside-requires c =
    let none = ap (λ (s : TimedChecking). s.next) c.self.view_is ∙ c.requires.at_end in
    let form : CycleForm = record {
      quota = c.self.inside.quota;
      offsets =
          c.self.inside.player.offsets;
    } in
    begun_within c.self.inside.next c.self.inside.player c.swap.new.self
    (aired c.args.tables.list c.args.moment.0 form) none c.self.invariant
    (λ xs end. c.in_ok-swap.ensures.begun xs c.self.inside.quota end)

pub returns-clause-swapped : goal.returns-clause-swapped
returns-clause-swapped c = λ airings accepted stands.
    let form : CycleForm = record {
      quota = c.self.inside.quota;
      offsets =
          c.self.inside.player.offsets;
    } in
    let old : TimedChecking = record {
      playing = c.self.inside.player;
      next =
          c.self.inside.next;
      nulls = c.self.inside.nulls;
      form = form;
    } in
    let new : TimedChecking = record {
      playing = c.advance-self-inside.new.player;
      next = c.advance-self-inside.result;
      nulls = c.self.inside.nulls;
      form = record {
        quota = c.self.inside.quota;
        offsets =
            c.advance-self-inside.new.player.offsets;
      };
    } in
    let none = ap (λ (s : TimedChecking). s.next) c.self.view_is ∙ c.requires.at_end in
    let here = subst (StandsFor airings accepted) (sym c.self.view_is) stands in
    subst (λ (s : TimedChecking). StandsFor
    (airings ++ aired c.args.tables.list c.args.moment.0 s.form ∷ []) accepted new)
    c.self.view_is
    (swap_stands airings accepted old new c.swap.new.self
    (aired c.args.tables.list c.args.moment.0 form) none here refl
    (λ xs end. c.in_ok-swap.ensures.begun xs c.self.inside.quota end)
    c.advance-self-inside.ensures.came)
