use Rattle.std.proofs.Common.{◌≡◌, ◌+◌, drop}
use Rattle.guide_model.specs.Descriptors.{descriptors_size}
use Rattle.feed_book.proofs.reading.are_longer.Given as goal

-- the room that is left, and the rest
abbrev pub invariant-loop-desc : goal.invariant-loop-desc
invariant-loop-desc l = l.room + descriptors_size l.descs ≡ l.most + descriptors_size (drop l.desc-index l.descs)
