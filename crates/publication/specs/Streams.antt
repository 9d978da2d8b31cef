-- Streams, as the code names them.
use Rattle.std.specs.Prelude.{if◌then◌else◌, ◌+◌}
use Rattle.publication.specs.declared.events.Stream.{Stream}
use Rattle.publication.specs.Eit.{Bearer}

-- the stream that carries a service
abbrev pub bearer_of : Stream → Bearer
bearer_of s = record {
  stream = s.stream;
  original = s.original;
  present = if s.is_own then 0x4E else 0x4F;
  sent = λ table. if s.is_own then table else table + 0x10;
}
