use Rattle.std.proofs.Common.{◌≡◌, refl, true, false, [], List, ℕ, subst, codes, inl, inr}
use Rattle.std.specs.Prelude.{Some, None, option_map, string_bytes}
use Rattle.command_words.specs.Commands.{options_said, play_options_said, texts}
use Rattle.epg_live.specs.Views.{plan_of}
use Rattle.command_words.specs.Grammar.{command_of, followed, played, played_long, Play, Listen, Live, Soak, Audit}
use Rattle.epg_report.specs.Texts.{fault_line}
use Rattle.epg_report.specs.Told.{asked, gave, told}
use Rattle.epg_report.proofs.Reporting.{reported}
use Rattle.si_causes.specs.Text.{text_limit}
use Rattle.epg_play.specs.Script.{long_limit}
use Rattle.epg_play.proofs.PlayRuns.{play_memory}
use Rattle.epg_listen.proofs.ListenRunFacts.{listen_memory}
use Rattle.epg_listen.specs.Leaves.{ListenRun}
use Rattle.epg_live.specs.LiveRun.{LiveRun}
use Rattle.epg_live.proofs.LiveRunFacts.{live_memory}
use Rattle.epg_live.proofs.MetFacts.{none_asked}
use Rattle.epg_soak.specs.SoakRun.{SoakRun}
use Rattle.epg_soak.proofs.SoakFacts.{soak_memory}
use Rattle.epg_audit.specs.Leaves.{AuditRun}
use Rattle.epg_audit.proofs.AuditRuns.{audit_memory}
use Rattle.epg_play.proofs.CourseRuns.{fold_memory, resume_memory}
use Rattle.epg_follow.proofs.FollowRuns.{follow_memory, follow_resume_memory}
use Rattle.epg_cli.proofs.CommandFacts.{play_audit, listen_audit, live_audit, soak_audit, play_sends, live_sends, soak_sends, none_sends, audit_others, audit_is, audit_usage, audit_cause, audit_open, play_listen, play_live, listen_live, play_soak, listen_soak, live_soak, live_others, some_none, live_is, soak_is, listen_usage, live_usage, soak_usage, listen_open, soak_open, listen_cause, soak_cause, memory_usage, memory_read, play_is, play_opens, listen_is}
use Rattle.epg_cli.proofs.top.run.Goals as goal

pub returns-in-Ok-Play : goal.returns-in-Ok-Play
returns-in-Ok-Play g c =
    let command = command_of (texts c.args.words.now) in
    let words = c.in-Ok-Play.play in
    let options = play_options_said words in
    let resume = option_map string_bytes words.resume in
    let spells : command ≡ Some (Play options resume) = rw c.in-Ok-Play.field-0-is at c.in-Ok-Play.ensures.command in
    let run = c.run_play_words.ensures in
    record {
      usage = (λ e. absurd (run.ends.no_usage e), λ none. absurd (some_none command (Play options resume) spells none));
      usage_leaves = λ e. absurd (run.ends.no_usage e);
      play = λ spelled. run.plain (play_is command (Play options resume) (Play (played false) None) spells spelled);
      fold = λ spelled. run.fold (play_is command (Play options resume) (Play (played true) None) spells spelled);
      resume = λ path fold spelled. run.resume path fold (play_is command (Play options resume) (Play (played fold) (Some path)) spells spelled);
      play_long = λ spelled. run.plain_long (play_is command (Play options resume) (Play (played_long false) None) spells spelled);
      fold_long = λ spelled. run.fold_long (play_is command (Play options resume) (Play (played_long true) None) spells spelled);
      resume_long = λ path fold spelled. run.resume_long path fold (play_is command (Play options resume) (Play (played_long fold) (Some path)) spells spelled);
      follow = λ keep spelled. run.follow keep (play_is command (Play options resume) (Play (followed keep) None) spells spelled);
      follow_resume = λ path keep spelled. run.follow_resume path keep (play_is command (Play options resume) (Play (followed keep) (Some path)) spells spelled);
      listen = λ how spelled. absurd (play_listen command options resume how spells spelled);
      live = λ paths plan spelled. absurd (play_live command options resume paths plan spells spelled);
      soak = λ number spelled. absurd (play_soak command options resume number spells spelled);
      audit = λ path nulls spelled. absurd (play_audit command options resume path nulls spells spelled);
      air_kept = λ spelled. absurd (play_sends command options resume spells spelled);
      opener_kept = λ spelled. play_opens _ command options resume spells run.opener_kept spelled;
      input_kept = λ spelled. absurd (play_soak command options resume spelled.0 spells spelled.1);
      end = λ done. inr (run.ends.end done);
      cause = run.ends.cause;
      open_cause = run.ends.open_cause;
      report = run.ends.report_cause;
    }

pub returns-in-Ok-Listen : goal.returns-in-Ok-Listen
returns-in-Ok-Listen g c =
    let command = command_of (texts c.args.words.now) in
    let read = options_said c.in-Ok-Listen.listen in
    let spells : command ≡ Some (Listen read) = rw c.in-Ok-Listen.field-0-is at c.in-Ok-Listen.ensures.command in
    let run = c.run_listen_as.ensures.run in
    let input = gave g.S.Source.left g.S.Source.faults c.args.input.now c.run_listen_as.new.input in
    let report = told g.R.Sink.written g.R.Sink.faults c.args.report.now c.run_listen_as.new.report in
    record {
      usage = (λ e. absurd (listen_usage c.run_listen_as.result run.known e), λ none. absurd (some_none command (Listen read) spells none));
      usage_leaves = λ e. absurd (listen_usage c.run_listen_as.result run.known e);
      play = λ spelled. absurd (play_listen command (played false) None read spelled spells);
      fold = λ spelled. absurd (play_listen command (played true) None read spelled spells);
      resume = λ path fold spelled. absurd (play_listen command (played fold) (Some path) read spelled spells);
      play_long = λ spelled. absurd (play_listen command (played_long false) None read spelled spells);
      fold_long = λ spelled. absurd (play_listen command (played_long true) None read spelled spells);
      resume_long = λ path fold spelled. absurd (play_listen command (played_long fold) (Some path) read spelled spells);
      follow = λ keep spelled. absurd (play_listen command (followed keep) None read spelled spells);
      follow_resume = λ path keep spelled. absurd (play_listen command (followed keep) (Some path) read spelled spells);
      listen = λ how spelled. listen_is (λ h. ListenRun h input report c.run_listen_as.result) command read how spells spelled run;
      live = λ paths plan spelled. absurd (listen_live command read paths plan spells spelled);
      soak = λ number spelled. absurd (listen_soak command read number spells spelled);
      audit = λ path nulls spelled. absurd (listen_audit command read path nulls spells spelled);
      air_kept = λ spelled. refl;
      opener_kept = λ spelled. refl;
      input_kept = λ spelled. absurd (listen_soak command read spelled.0 spells spelled.1);
      end = λ done. inr (run.end done);
      cause = listen_cause (g.S.Source.faults c.args.input.now) (g.S.Source.faults c.run_listen_as.new.input) (g.O.Opener.read_faults c.args.opener.now) (g.O.Opener.read_faults c.args.opener.now)
          (g.A.Sink.faults c.args.air.now) (g.A.Sink.faults c.args.air.now) c.run_listen_as.result run.known run.input_cause;
      open_cause = λ feed e. absurd (listen_open c.run_listen_as.result feed run.known e);
      report = run.report_cause;
    }

pub returns-in-Ok-Live : goal.returns-in-Ok-Live
returns-in-Ok-Live g c =
    let command = command_of (texts c.args.words.now) in
    let words = c.in-Ok-Live.live in
    let read = texts words.feeds.items in
    let spells : command ≡ Some (Live read words.cycles words.join words.views) = rw c.in-Ok-Live.field-0-is at c.in-Ok-Live.ensures.command in
    let run = c.run_live_files.ensures.run in
    let opener = asked g.O.Opener.files g.O.Opener.tried g.O.Opener.faults g.O.Opener.read_faults c.args.opener.now c.run_live_files.new.opener in
    let input = gave g.S.Source.left g.S.Source.faults c.args.input.now c.run_live_files.new.input in
    let air = told g.A.Sink.written g.A.Sink.faults c.args.air.now c.run_live_files.new.air in
    let report = told g.R.Sink.written g.R.Sink.faults c.args.report.now c.run_live_files.new.report in
    record {
      usage = (λ e. absurd (live_usage c.run_live_files.result run.known e), λ none. absurd (some_none command (Live read words.cycles words.join words.views) spells none));
      usage_leaves = λ e. absurd (live_usage c.run_live_files.result run.known e);
      play = λ spelled. absurd (play_live command (played false) None read (plan_of words) spelled spells);
      fold = λ spelled. absurd (play_live command (played true) None read (plan_of words) spelled spells);
      resume = λ path fold spelled. absurd (play_live command (played fold) (Some path) read (plan_of words) spelled spells);
      play_long = λ spelled. absurd (play_live command (played_long false) None read (plan_of words) spelled spells);
      fold_long = λ spelled. absurd (play_live command (played_long true) None read (plan_of words) spelled spells);
      resume_long = λ path fold spelled. absurd (play_live command (played_long fold) (Some path) read (plan_of words) spelled spells);
      follow = λ keep spelled. absurd (play_live command (followed keep) None read (plan_of words) spelled spells);
      follow_resume = λ path keep spelled. absurd (play_live command (followed keep) (Some path) read (plan_of words) spelled spells);
      listen = λ how spelled. absurd (listen_live command how read (plan_of words) spelled spells);
      live = λ paths plan spelled.
          live_is (λ ps p. LiveRun ps p opener input air report c.run_live_files.result) command read paths (plan_of words) plan spells spelled run;
      soak = λ number spelled. absurd (live_soak command read (plan_of words) number spells spelled);
      audit = λ path nulls spelled. absurd (live_audit command read (plan_of words) path nulls spells spelled);
      air_kept = λ spelled. absurd (live_sends command read (plan_of words) spells spelled);
      opener_kept = λ spelled. absurd (live_others command read (plan_of words) spells spelled);
      input_kept = λ spelled. absurd (live_soak command read (plan_of words) spelled.0 spells spelled.1);
      end = λ done. inr (run.end done);
      cause = run.cause;
      open_cause = run.open_cause;
      report = run.report_cause;
    }

pub run_live_files-requires-clause-few : goal.run_live_files-requires-clause-few
run_live_files-requires-clause-few g c κs within = (rw c.in-Ok-Live.field-0-is at c.in-Ok-Live.ensures.within).0

pub run_live_files-requires-clause-cycles : goal.run_live_files-requires-clause-cycles
run_live_files-requires-clause-cycles g c κs within = (rw c.in-Ok-Live.field-0-is at c.in-Ok-Live.ensures.within).1

pub run_live_files-requires-clause-views : goal.run_live_files-requires-clause-views
run_live_files-requires-clause-views g c κs within = (rw c.in-Ok-Live.field-0-is at c.in-Ok-Live.ensures.within).2

pub returns-in-Ok-Soak : goal.returns-in-Ok-Soak
returns-in-Ok-Soak g c =
    let command = command_of (texts c.args.words.now) in
    let read = c.in-Ok-Soak.number in
    let spells : command ≡ Some (Soak read) = rw c.in-Ok-Soak.field-0-is at c.in-Ok-Soak.ensures.command in
    let run = c.run_soak.ensures in
    let air = told g.A.Sink.written g.A.Sink.faults c.args.air.now c.run_soak.new.air in
    let report = told g.R.Sink.written g.R.Sink.faults c.args.report.now c.run_soak.new.report in
    record {
      usage = (λ e. absurd (soak_usage c.run_soak.result run.known e), λ none. absurd (some_none command (Soak read) spells none));
      usage_leaves = λ e. absurd (soak_usage c.run_soak.result run.known e);
      play = λ spelled. absurd (play_soak command (played false) None read spelled spells);
      fold = λ spelled. absurd (play_soak command (played true) None read spelled spells);
      resume = λ path fold spelled. absurd (play_soak command (played fold) (Some path) read spelled spells);
      play_long = λ spelled. absurd (play_soak command (played_long false) None read spelled spells);
      fold_long = λ spelled. absurd (play_soak command (played_long true) None read spelled spells);
      resume_long = λ path fold spelled. absurd (play_soak command (played_long fold) (Some path) read spelled spells);
      follow = λ keep spelled. absurd (play_soak command (followed keep) None read spelled spells);
      follow_resume = λ path keep spelled. absurd (play_soak command (followed keep) (Some path) read spelled spells);
      listen = λ how spelled. absurd (listen_soak command how read spelled spells);
      live = λ paths plan spelled. absurd (live_soak command paths plan read spelled spells);
      soak = λ number spelled. soak_is (λ n. SoakRun n air report c.run_soak.result) command read number spells spelled run;
      audit = λ path nulls spelled. absurd (soak_audit command read path nulls spells spelled);
      air_kept = λ spelled. absurd (soak_sends command read spells spelled);
      opener_kept = λ spelled. refl;
      input_kept = λ spelled. refl;
      end = λ done. inl (read, spells);
      cause = soak_cause (g.S.Source.faults c.args.input.now) (g.S.Source.faults c.args.input.now) (g.O.Opener.read_faults c.args.opener.now) (g.O.Opener.read_faults c.args.opener.now)
          (g.A.Sink.faults c.args.air.now) (g.A.Sink.faults c.run_soak.new.air) c.run_soak.result run.known run.air_cause;
      open_cause = λ feed e. absurd (soak_open c.run_soak.result feed run.known e);
      report = run.report_cause;
    }

pub returns-in-Ok-Audit : goal.returns-in-Ok-Audit
returns-in-Ok-Audit g c =
    let command = command_of (texts c.args.words.now) in
    let words = c.in-Ok-Audit.audit in
    let read = string_bytes words.path in
    let said = words.nulls in
    let spells : command ≡ Some (Audit read said) = rw c.in-Ok-Audit.field-0-is at c.in-Ok-Audit.ensures.command in
    let opener = asked g.O.Opener.files g.O.Opener.tried g.O.Opener.faults g.O.Opener.read_faults c.args.opener.now c.run_audit.new.opener in
    let input = gave g.S.Source.left g.S.Source.faults c.args.input.now c.run_audit.new.input in
    let report = told g.R.Sink.written g.R.Sink.faults c.args.report.now c.run_audit.new.report in
    let run : AuditRun read said opener input report c.run_audit.result = subst (λ (p : List ℕ). AuditRun p said opener input report c.run_audit.result) c.as_str.ensures.value c.run_audit.ensures.run in
    record {
      usage = (λ e. absurd (audit_usage c.run_audit.result run.known e), λ none. absurd (some_none command (Audit read said) spells none));
      usage_leaves = λ e. absurd (audit_usage c.run_audit.result run.known e);
      play = λ spelled. absurd (play_audit command (played false) None read said spelled spells);
      fold = λ spelled. absurd (play_audit command (played true) None read said spelled spells);
      resume = λ path fold spelled. absurd (play_audit command (played fold) (Some path) read said spelled spells);
      play_long = λ spelled. absurd (play_audit command (played_long false) None read said spelled spells);
      fold_long = λ spelled. absurd (play_audit command (played_long true) None read said spelled spells);
      resume_long = λ path fold spelled. absurd (play_audit command (played_long fold) (Some path) read said spelled spells);
      follow = λ keep spelled. absurd (play_audit command (followed keep) None read said spelled spells);
      follow_resume = λ path keep spelled. absurd (play_audit command (followed keep) (Some path) read said spelled spells);
      listen = λ how spelled. absurd (listen_audit command how read said spelled spells);
      live = λ paths plan spelled. absurd (live_audit command paths plan read said spelled spells);
      soak = λ number spelled. absurd (soak_audit command number read said spelled spells);
      audit = λ path nulls spelled. audit_is (λ p n. AuditRun p n opener input report c.run_audit.result) command read path said nulls spells spelled run;
      air_kept = λ spelled. refl;
      opener_kept = λ spelled. absurd (audit_others command read said spells spelled);
      input_kept = λ spelled. absurd (soak_audit command spelled.0 read said spelled.1 spells);
      end = λ done. inr (run.end done);
      cause = audit_cause (g.S.Source.faults c.args.input.now) (g.S.Source.faults c.run_audit.new.input) (g.A.Sink.faults c.args.air.now) (g.A.Sink.faults c.args.air.now) opener c.run_audit.result run.known run.cause;
      open_cause = λ n e. audit_open (g.S.Source.faults c.args.input.now) (g.S.Source.faults c.run_audit.new.input) opener c.run_audit.result n run.cause e;
      report = run.report_cause;
    }

pub returns-in-Err-Memory : goal.returns-in-Err-Memory
returns-in-Err-Memory g c =
    let is = c.out_of_memory.ensures.status in
    let took = c.out_of_memory.ensures.took in
    let tried = g.O.Opener.tried c.args.opener.now in
    let opener = asked g.O.Opener.files g.O.Opener.tried g.O.Opener.faults g.O.Opener.read_faults c.args.opener.now c.args.opener.now in
    let input = gave g.S.Source.left g.S.Source.faults c.args.input.now c.args.input.now in
    let air = told g.A.Sink.written g.A.Sink.faults c.args.air.now c.args.air.now in
    let report = told g.R.Sink.written g.R.Sink.faults c.args.report.now c.out_of_memory.new.report in
    let run = live_memory [] (record { cycles = 0; join = 0; views = [] }) opener input air report c.out_of_memory.result is (none_asked [] tried) in
    record {
      usage = (λ e. absurd (memory_usage c.out_of_memory.result is e), λ none. absurd (memory_read ((rw c.in-Err-Memory.field-0-is at c.in-Err-Memory.ensures.usage).1 none)));
      usage_leaves = λ e. absurd (memory_usage c.out_of_memory.result is e);
      play = λ spelled. play_memory text_limit input air report c.out_of_memory.result is;
      fold = λ spelled. fold_memory text_limit input air report c.out_of_memory.result is;
      resume = λ path fold spelled. resume_memory text_limit path fold opener input air report c.out_of_memory.result is refl;
      play_long = λ spelled. play_memory long_limit input air report c.out_of_memory.result is;
      fold_long = λ spelled. fold_memory long_limit input air report c.out_of_memory.result is;
      resume_long = λ path fold spelled. resume_memory long_limit path fold opener input air report c.out_of_memory.result is refl;
      follow = λ keep spelled. follow_memory keep input air report c.out_of_memory.result is refl took;
      follow_resume = λ path keep spelled. follow_resume_memory path keep opener input air report c.out_of_memory.result is refl refl took;
      listen = λ how spelled. listen_memory how input report c.out_of_memory.result is;
      live = λ paths plan spelled. live_memory paths plan opener input air report c.out_of_memory.result is (none_asked paths tried);
      soak = λ number spelled. soak_memory number air report c.out_of_memory.result is;
      audit = λ path nulls spelled. audit_memory path nulls opener input report c.out_of_memory.result is refl;
      air_kept = λ spelled. refl;
      opener_kept = λ spelled. refl;
      input_kept = λ spelled. refl;
      end = λ done. inr (run.end done);
      cause = run.cause;
      open_cause = run.open_cause;
      report = run.report_cause;
    }

pub returns-in-Err-Usage : goal.returns-in-Err-Usage
returns-in-Err-Usage g c =
    let command = command_of (texts c.args.words.now) in
    let none : command ≡ None = (rw c.in-Err-Usage.field-0-is at c.in-Err-Usage.ensures.usage).0 refl in
    record {
      usage = (λ e. none, λ e. refl);
      usage_leaves = λ e. (
        refl,
        refl,
        refl,
        reported c.write_all.result (told g.R.Sink.written g.R.Sink.faults c.args.report.now c.write_all.new.sink) (fault_line (codes "usage")) c.write_all.ensures.done c.write_all.ensures.failed c.write_all.ensures.cause.failed,
      );
      play = λ spelled. absurd (some_none command (Play (played false) None) spelled none);
      fold = λ spelled. absurd (some_none command (Play (played true) None) spelled none);
      resume = λ path fold spelled. absurd (some_none command (Play (played fold) (Some path)) spelled none);
      play_long = λ spelled. absurd (some_none command (Play (played_long false) None) spelled none);
      fold_long = λ spelled. absurd (some_none command (Play (played_long true) None) spelled none);
      resume_long = λ path fold spelled. absurd (some_none command (Play (played_long fold) (Some path)) spelled none);
      follow = λ keep spelled. absurd (some_none command (Play (followed keep) None) spelled none);
      follow_resume = λ path keep spelled. absurd (some_none command (Play (followed keep) (Some path)) spelled none);
      listen = λ how spelled. absurd (some_none command (Listen how) spelled none);
      live = λ paths plan spelled. absurd (some_none command (Live paths plan.cycles plan.join plan.views) spelled none);
      soak = λ number spelled. absurd (some_none command (Soak number) spelled none);
      audit = λ path nulls spelled. absurd (some_none command (Audit path nulls) spelled none);
      air_kept = λ spelled. absurd (none_sends command none spelled);
      opener_kept = λ spelled. refl;
      input_kept = λ spelled. refl;
      end = λ e. cc;
      cause = tt;
      open_cause = λ feed e. cc;
      report = λ e. cc;
    }
