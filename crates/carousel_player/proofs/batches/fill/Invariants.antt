use Rattle.std.proofs.Common.{◌≡◌, ◌-◌, ◌%◌, ◌<◌, ◌≤◌, length, take}
use Rattle.carousel_player.specs.Sending.{Sends}
use Rattle.carousel_player.proofs.batches.fill.Given as goal

abbrev pub invariant-loop-end : goal.invariant-loop-end
invariant-loop-end g l = record {
  whole : l.end % 188 ≡ 0;
  within : l.end ≤ 12032;
  size : length l.buffer ≡ 12032;
  sends : Sends (g.P.PacketQueue.packets l.fn.queue) (g.P.PacketQueue.packets l.queue) l.fn.counters l.counters (take l.end l.buffer);
  progress : 0 < l.end → length (g.P.PacketQueue.packets l.queue) < length (g.P.PacketQueue.packets l.fn.queue);
  begun : l.end ≡ 0 → l.queue ≡ l.fn.queue;
}

abbrev pub decreases-loop-end : goal.decreases-loop-end
decreases-loop-end g l = 12032 - l.end
