use Rattle.std.proofs.Common.{◌≡◌, ◌++◌, take}
use Rattle.mux_config.proofs.whole.add_copies.Given as goal

abbrev pub invariant-more : goal.invariant-more
invariant-more l = l.descriptors ≡ l.fn.descriptors ++ take l.i l.fn.more
