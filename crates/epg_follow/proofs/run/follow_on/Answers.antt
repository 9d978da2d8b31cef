use Rattle.std.proofs.Common.{◌<◌, ◌^◌, ◌∙◌, ℕ, Option, ap, sym, subst}
use Rattle.std.specs.Prelude.{IfSome}
use Rattle.cycle_player.specs.Sending.{Sending}
use Rattle.journal_model.specs.declared.step.Outcome.{Outcome}
use Rattle.journal_model.specs.Steps.{IsInWindow}
use Rattle.script_notes.specs.declared.noting.Held.{Held}
use Rattle.script_notes.specs.Held.{IsHeldBy}
use Rattle.epg_report.specs.Told.{told}
use Rattle.epg_follow.proofs.EndFacts.{end_known, ends_as}
use Rattle.epg_follow.proofs.run.follow_on.Goals as goal

pub follow_rest-followed-requires-clause-can : goal.follow_rest-followed-requires-clause-can
follow_rest-followed-requires-clause-can g c =
    let from = c.from-follower.ensures in
    record {
      reader = record { going = c.requires.going; held = subst (λ (h : Held). IsHeldBy g.S.Source.left h c.args.lines.now) (sym from.fresh.held) tt };
      ready = record {
        lean = (c.args.start.desk.entries, from.stands);
        shift = subst (λ (n : ℕ). n < 10 ^ 18) (sym from.shift) c.requires.shift;
        at_end = ap (λ (p : Sending). p.left) from.player ∙ c.requires.ended;
        window = subst (λ (o : Option Outcome). IfSome o IsInWindow) (sym from.fresh.made) tt;
      };
    }

pub returns-clause-followed : goal.returns-clause-followed
returns-clause-followed g c = record {
  first = c.from-follower.result;
  end = c.follow_rest-followed.new.follower;
  mux_is = c.from-follower.ensures.mux;
  shift_is = c.from-follower.ensures.shift;
  player_is = c.from-follower.ensures.player;
  result = c.follow_rest-followed.result;
  written = g.R.Sink.written c.follow_rest-followed.new.report;
  faults = g.R.Sink.faults c.follow_rest-followed.new.report;
  did = c.follow_rest-followed.ensures.did c.args.start.desk.entries c.from-follower.ensures.stands;
  later = c.follow_rest-followed.ensures.causes.report_later;
  air_cause = c.follow_rest-followed.ensures.causes.air_cause;
  finished = c.finish.ensures.finished;
}

pub returns-clause-known : goal.returns-clause-known
returns-clause-known g c = end_known c.follow_rest-followed.result (told g.R.Sink.written g.R.Sink.faults c.follow_rest-followed.new.report c.finish.new.report) c.finish.result
    (ends_as c.follow_rest-followed.new.follower c.follow_rest-followed.result (told g.R.Sink.written g.R.Sink.faults c.follow_rest-followed.new.report c.finish.new.report) c.finish.result c.finish.ensures.finished)
