use Rattle.std.proofs.Common.{◌≡◌, ◌++◌, take, flat_map}
use Rattle.guide_text.specs.Guides.{component_text}
use Rattle.guide_text.proofs.service.put_components.Given as goal

abbrev pub invariant-loop-component : goal.invariant-loop-component
invariant-loop-component l = l.out.items ≡ l.fn.out.items ++ flat_map (component_text l.details) (take l.component-index l.components)
