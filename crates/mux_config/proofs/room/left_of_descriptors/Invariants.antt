use Rattle.std.proofs.Common.{◌≡◌, Some, take}
use Rattle.guide_model.specs.Descriptors.{descriptors_size}
use Rattle.mux_config.specs.Kinds.{left_of}
use Rattle.mux_config.proofs.room.left_of_descriptors.Given as goal

abbrev pub invariant-descriptors : goal.invariant-descriptors
invariant-descriptors l = left_of l.fn.left (descriptors_size (take l.i l.fn.descriptors)) ≡ Some l.rest
