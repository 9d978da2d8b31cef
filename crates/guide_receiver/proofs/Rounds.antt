-- The sections that counted last, through a change of them.
use Rattle.std.proofs.Common.{◌≡◌, ◌<◌, ℕ, Bool, List, Option, Some, sym, subst, arith}
use Rattle.std.specs.Prelude.{IfSome}
use Rattle.std.specs.List.{All}
use Rattle.std.specs.Map.{lookup, values_of}
use Rattle.std.proofs.lemmas.Map.Views.{IfSome-lookup_from_All}
use Rattle.sub_collect.specs.Collectors.{KeysHeard}
use Rattle.guide_receiver.specs.declared.known_section.KnownSection.{KnownSection}
use Rattle.guide_receiver.specs.Known.{IsKnown}

-- a section that is put has been seen to be held in no round
pub put-known : (collector : KeysHeard) (round : ℕ) (section : KnownSection) → 0 < round → section.round ≡ 0 → IsKnown collector round section
put-known collector round section begun none = record {
  before = omega (arith, none);
  held = λ now. absurd (let z : Prim.⊥ = omega (arith, begun, none, now) in z);
}

-- the section that is found
pub found-known : {K : Type 0} (collector : KeysHeard) (round : ℕ) (test : K → Bool) (entries : List (K × KnownSection)) (section : KnownSection)
    → Some section ≡ lookup test entries → All (IsKnown collector round) (values_of entries) → IsKnown collector round section
found-known collector round test entries section is all =
    subst (λ (found : Option KnownSection). IfSome found (IsKnown collector round)) (sym is) (IfSome-lookup_from_All (IsKnown collector round) test entries all)
