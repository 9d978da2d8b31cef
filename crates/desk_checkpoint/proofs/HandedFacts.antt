-- What a player hands over stands in order.
use Rattle.std.proofs.Common.{◌≡◌, List, sym, subst, map}
use Rattle.std.specs.List.Sorted.{IsStrictlySortedBy}
use Rattle.std.proofs.lemmas.Simd.{map-map}
use Rattle.section_codec.specs.declared.table.Key.{Key}
use Rattle.section_codec.specs.KeyOrder.{key_cmp}
use Rattle.version_book.specs.declared.key_version.KeyVersion.{KeyVersion}
use Rattle.version_book.specs.Book.{AreKeyVersionsOf, AreOrdered, GivenVersion, given_entries, given_entry}
use Rattle.ts_packets.specs.declared.pid_counter.PidCounter.{PidCounter}
use Rattle.ts_packets.specs.PidCounters.{ArePidCountersOf}
use Rattle.air_model.specs.Air.{Aired}
use Rattle.cycle_player.specs.declared.clock.Clock.{Clock}
use Rattle.cycle_player.specs.Clock.{reads}
use Rattle.cycle_player.specs.Sending.{AreKeptAt, AtEnd, Sending}
use Rattle.desk_checkpoint.specs.Text.{HasByteBodies}
use Rattle.desk_checkpoint.specs.HandedOver.{HandsOver}

ordered : (keys : List KeyVersion) → IsStrictlySortedBy key_cmp (map (λ (k : KeyVersion). k.key) keys) → AreOrdered (given_entries keys)
ordered keys ascend = subst (IsStrictlySortedBy key_cmp) (sym (map-map (λ (e : Key × GivenVersion). e.0) given_entry keys)) ascend

pub handed : (player : Sending) (keys : List KeyVersion) (pids : List PidCounter) (clock : Clock)
    → AreKeyVersionsOf player.book keys → ArePidCountersOf player.counters pids → reads clock ≡ player.clock
    → ((xs : List Aired) → AtEnd xs player → AreKeptAt player.rate xs keys pids clock)
    → HasByteBodies (given_entries keys) → HandsOver player
handed player keys pids clock versions counters same are bytes = record {
  keys = keys;
  pids = pids;
  clock = clock;
  keys_are = versions.entries;
  pids_are = counters.all;
  clock_is = same;
  are = λ xs end. record { kept = are xs end; ordered = ordered keys versions.ascend; bytes = bytes; ascend = counters.ascend; fit = counters.fit };
}
