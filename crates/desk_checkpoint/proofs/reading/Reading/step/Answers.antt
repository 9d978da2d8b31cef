use Rattle.std.proofs.Common.{◌∙◌, ℕ, ap, sym}
use Rattle.desk_core.specs.Journal.{publishes}
use Rattle.desk_core.specs.Desks.{DeskState, and_entry}
use Rattle.desk_checkpoint.specs.Checkpoints.{published_by}
use Rattle.desk_checkpoint.proofs.StepFacts.{published_step}
use Rattle.desk_checkpoint.proofs.reading.Reading.step.Goals as goal

pub invariant_of-self-2 : goal.invariant_of-self-2
invariant_of-self-2 c =
    let i = c.self.invariant in
    let desk = c.self.inside.desk in
    let e = c.in_ok-outcome.ensures in
    let did = e.entry ∙ ap (and_entry desk 0 c.args.step) e.outcome in
    record {
      published_are =
          c.published_by-self-inside.ensures ∙ ap (λ (n : ℕ). published_by n c.in_ok-outcome.outcome) i.published_are
          ∙ ap (published_by (publishes desk.entries)) e.outcome ∙ published_step desk.mux desk.entries c.args.step ∙ sym (ap (λ (d : DeskState). publishes d.entries) did);
      count = i.count;
      keys = i.keys;
      current = i.current;
      number = i.number;
      counters = i.counters;
      pid = i.pid;
    }
