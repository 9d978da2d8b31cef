use Rattle.std.proofs.Common.{◌≡◌, ◌≤◌, take}
use Rattle.command_words.specs.Commands.{texts}
use Rattle.epg_live.specs.Opened.{AreOpened, HasTried}
use Rattle.epg_live.proofs.feeds.open_feeds.Given as goal

abbrev pub invariant-loop-path : goal.invariant-loop-path
invariant-loop-path g l = record {
  count : l.feed ≡ l.path-index;
  opened : AreOpened g.O.From.Source.left g.O.From.Source.faults (g.O.Opener.files l.fn.opener) (take l.path-index (texts l.paths)) l.feeds.items;
  tried : HasTried (g.O.Opener.tried l.fn.opener) (g.O.Opener.tried l.opener) (take l.path-index (texts l.paths));
  files : g.O.Opener.files l.opener ≡ g.O.Opener.files l.fn.opener;
  read_faults : g.O.Opener.read_faults l.opener ≡ g.O.Opener.read_faults l.fn.opener;
  later : g.O.Opener.faults l.fn.opener ≤ g.O.Opener.faults l.opener;
}
