use Rattle.std.proofs.Common.{sym, subst}
use Rattle.std.specs.Prelude.{Ok, Err}
use Rattle.input_lines.specs.Ahead.{Ahead, ahead}
use Rattle.desk_checkpoint.specs.Reads.{checkpoint_in}
use Rattle.epg_report.specs.declared.status.Status.{Status}
use Rattle.epg_play.specs.Beginning.{BeginsWith, check_status}
use Rattle.epg_play.specs.Checkpointed.{checkpoint_of}
use Rattle.epg_play.proofs.BeginFacts.{file_ahead, file_text, read_with, refused_with}
use Rattle.epg_play.proofs.begin.read_start.Goals as goal

pub returns-in-Ok-clause-begins : goal.returns-in-Ok-clause-begins
returns-in-Ok-clause-begins g c = λ bytes told.
    let lines = c.args.lines.now in
    subst (λ (l : Ahead). BeginsWith (checkpoint_in c.args.mux l) (Ok c.in-Ok.start)) (file_ahead lines bytes c.requires.unread)
    (read_with (checkpoint_in c.args.mux (ahead lines bytes)) c.in-Ok.start (c.in-Ok.ensures.gives bytes (file_text g.F.Source.left lines bytes c.requires.unread told)))

pub returns-in-Err-clause-begins : goal.returns-in-Err-clause-begins
returns-in-Err-clause-begins g c = λ bytes told.
    let lines = c.args.lines.now in
    subst (λ (s : Status). BeginsWith (checkpoint_of c.args.mux bytes) (Err s)) (sym c.status_of.ensures)
    (subst (λ (l : Ahead). BeginsWith (checkpoint_in c.args.mux l) (Err (check_status c.in-Err.stop))) (file_ahead lines bytes c.requires.unread)
    (refused_with (checkpoint_in c.args.mux (ahead lines bytes)) c.in-Err.stop (c.in-Err.ensures.gives bytes (file_text g.F.Source.left lines bytes c.requires.unread told))))
