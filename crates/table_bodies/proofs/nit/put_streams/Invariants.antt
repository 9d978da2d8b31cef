use Rattle.std.proofs.Common.{◌≡◌, ◌++◌, take, flat_map}
use Rattle.table_bodies.specs.Nit.{stream_bytes}
use Rattle.table_bodies.proofs.nit.put_streams.Given as goal

-- the entries of the streams so far stand behind what was there
abbrev pub invariant-loop-stream : goal.invariant-loop-stream
invariant-loop-stream l = l.out.items ≡ l.fn.out.items ++ flat_map stream_bytes (take l.stream-index l.streams)
