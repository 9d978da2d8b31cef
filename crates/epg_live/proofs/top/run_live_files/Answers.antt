use Rattle.std.proofs.Common.{◌≤◌, sym, subst, arith}
use Rattle.std.specs.Prelude.{ℕ, string_bytes}
use Rattle.std.proofs.lemmas.List.{length-map}
use Rattle.command_words.specs.Commands.{texts}
use Rattle.epg_report.specs.Told.{asked, gave, told}
use Rattle.epg_live.specs.Views.{plan_of}
use Rattle.epg_live.proofs.LiveRunFacts.{live_memory, live_ends}
use Rattle.epg_live.proofs.top.run_live_files.Goals as goal

pub returns-in_default : goal.returns-in_default
returns-in_default g c = record { run = live_memory _ _ _ _ _ _ c.out_of_memory.result c.out_of_memory.ensures.status c.in_default.ensures.asked }

pub returns : goal.returns
returns g c = record {
  run = live_ends (texts c.args.words.now.feeds.items) (plan_of c.args.words.now)
      (asked g.O.Opener.files g.O.Opener.tried g.O.Opener.faults g.O.Opener.read_faults c.args.opener.now c.run_files.new.opener)
      (gave g.S.Source.left g.S.Source.faults c.args.input.now c.run_files.new.input)
      (told g.A.Sink.written g.A.Sink.faults c.args.air.now c.run_files.new.air)
      (told g.R.Sink.written g.R.Sink.faults c.args.report.now c.finish.new.report) c.in-Ok.ran c.finish.result
      (subst (λ (n : ℕ). n ≤ 255) (sym (length-map c.args.words.now.feeds.items string_bytes)) (omega (arith, c.requires.few)))
      c.in-Ok.ensures.run c.finish.ensures.ends c.finish.ensures.written;
}
