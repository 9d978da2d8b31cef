use Rattle.std.proofs.Common.{map, sym, subst}
use Rattle.ts_packets.specs.Bytes.{bytes_of_packet}
use Rattle.version_book.specs.Book.{GivenVersions, BookStandsFor}
use Rattle.air_model.specs.Air.{air, airings_of}
use Rattle.carousel_player.specs.Playing.{AtEnd}
use Rattle.carousel_player.proofs.player.Player.kept.Goals as goal

pub returns-clause-are : goal.returns-clause-are
returns-clause-are c xs end =
    let here = subst (AtEnd xs) (sym c.self.view_is) end in
    record {
      is_air = end.is_air;
      no_null = end.no_null;
      versions = subst (λ (book : GivenVersions). BookStandsFor (airings_of xs) book) (sym c.in_ok-versions.ensures.entries) here.sent.versions;
      counters = c.in_ok-counters.ensures.counters (map bytes_of_packet (air xs)) here.sent.counters;
    }
