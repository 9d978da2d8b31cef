use Rattle.std.proofs.Common.{◌≡◌, ◌++◌, take, flat_map}
use Rattle.table_bodies.specs.Pmt.{component_bytes}
use Rattle.table_bodies.proofs.pmt.put_components.Given as goal

-- the entries of the components so far stand behind what was there
abbrev pub invariant-loop-component : goal.invariant-loop-component
invariant-loop-component l = l.out.items ≡ l.fn.out.items ++ flat_map component_bytes (take l.component-index l.components)
