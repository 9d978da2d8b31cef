use Rattle.std.proofs.Common.{map, sym, ap, ◌∙◌, subst}
use Rattle.ts_packets.specs.Bytes.{bytes_of_packet}
use Rattle.version_book.specs.Book.{GivenVersions, BookStandsFor}
use Rattle.air_model.specs.Air.{air, airings_of}
use Rattle.cycle_player.specs.Playing.{TimedPlaying, clock_kept, AtEnd}
use Rattle.cycle_player.proofs.timed_player.TimedPlayer.kept.Goals as goal

pub returns-clause-are : goal.returns-clause-are
returns-clause-are c xs end =
    let here = subst (AtEnd xs) (sym c.self.view_is) end in
    record {
      timed = end.timed;
      can = end.can;
      versions = subst (λ (book : GivenVersions). BookStandsFor (airings_of xs) book) (sym c.in_ok-versions.ensures.entries) here.versions;
      counters = c.in_ok-counters.ensures.counters (map bytes_of_packet (air xs)) here.counters;
      clock_is = here.clock ∙ ap (λ (p : TimedPlaying). clock_kept p.rate xs) c.self.view_is;
    }
