use Rattle.std.proofs.Common.{◌≤◌, length, drop, map}
use Rattle.publication.specs.Network.{nit_sections, other_stream, streams_room}
use Rattle.publication.specs.Writing.{AreStreamsUnderWay, IsStreamRun}
use Rattle.publication.proofs.network.nit_sections.Given as goal

-- the own stream and the others so far are put, and no more sections are closed than there are others
abbrev pub invariant-loop-other : goal.invariant-loop-other
invariant-loop-other l = record {
  under_way : AreStreamsUnderWay l.mux (map other_stream (drop l.other-index l.mux.others)) (nit_sections l.mux) l.closed l.run.streams;
  run : IsStreamRun (streams_room l.mux) l.run.streams l.run.size;
  few : length l.closed ≤ l.other-index;
}
