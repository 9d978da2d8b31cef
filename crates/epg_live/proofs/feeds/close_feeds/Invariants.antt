use Rattle.std.proofs.Common.{◌≡◌}
use Rattle.epg_live.specs.Opened.{Closes}
use Rattle.epg_live.proofs.feeds.close_feeds.Given as goal

abbrev pub invariant-loop-lines : goal.invariant-loop-lines
invariant-loop-lines g l = record {
  closes : Closes g.O.From.Source.faults l.yielded (g.O.Opener.read_faults l.fn.opener) (g.O.Opener.read_faults l.opener);
  faults : g.O.Opener.faults l.opener ≡ g.O.Opener.faults l.fn.opener;
  tried : g.O.Opener.tried l.opener ≡ g.O.Opener.tried l.fn.opener;
  files : g.O.Opener.files l.opener ≡ g.O.Opener.files l.fn.opener;
}
