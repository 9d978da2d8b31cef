use Rattle.std.proofs.Common.{◌≡◌, ◌≤◌, [], List, ℕ, length}
use Rattle.std.specs.Io.KnownBytes.{Appends}
use Rattle.carousel_player.specs.Sending.{Sends}
use Rattle.carousel_player.proofs.batches.send_all.Given as goal

-- what was handed out since the call began was appended, and where nothing was to come nothing has changed
abbrev pub invariant-loop-queue : goal.invariant-loop-queue
invariant-loop-queue g l = record {
  size : length l.buffer ≡ 12032;
  sent : (bytes : List ℕ) × Sends (g.P.PacketQueue.packets l.fn.queue) (g.P.PacketQueue.packets l.queue) l.fn.counters l.counters bytes × Appends (g.A.Sink.written l.fn.sink) (g.A.Sink.written l.sink) bytes;
  later : g.A.Sink.faults l.fn.sink ≤ g.A.Sink.faults l.sink;
  same : g.A.Sink.same l.fn.sink l.sink;
  idle : g.P.PacketQueue.packets l.fn.queue ≡ [] → (l.queue ≡ l.fn.queue) × (l.counters ≡ l.fn.counters) × (l.sink ≡ l.fn.sink);
}

abbrev pub decreases-loop-queue : goal.decreases-loop-queue
decreases-loop-queue g l = length (g.P.PacketQueue.packets l.queue)
