-- What holds of every description that is whole, by the definitions alone.
use Rattle.std.specs.Prelude.{◌≡◌, Ok}
use Rattle.std.specs.List.{AllByRecursion}
use Rattle.guide_model.specs.Decoding.{IsKept}
use Rattle.input_lines.specs.Ahead.{Ahead, Came}
use Rattle.mux_model.specs.declared.mux.MuxService.{MuxService}
use Rattle.mux_model.specs.declared.mux.RemoteService.{RemoteService}
use Rattle.mux_model.specs.declared.mux.Mux.{Mux}
use Rattle.mux_model.specs.Sound.{IsSoundWithIds, remote_services}
use Rattle.mux_config.specs.Descriptions.{description_ahead}

-- The multiplex of a whole description is sound.
abbrev pub WholeDescriptionsAreSound : Type 0
WholeDescriptionsAreSound = (lines : Ahead) (mux : Mux) (behind : Ahead) → description_ahead lines ≡ Came (Ok mux) behind → IsSoundWithIds mux

-- The names of the network, of providers and of services, own and of other streams, in a whole description may be kept: they are
-- UTF-8 without control characters.
abbrev pub DescribedTextsAreKept : Type 0
DescribedTextsAreKept =
    (lines : Ahead) (mux : Mux) (behind : Ahead) → description_ahead lines ≡ Came (Ok mux) behind
    → IsKept mux.network_name
    × (AllByRecursion (λ (s : MuxService). IsKept s.provider × IsKept s.name) mux.services
    × AllByRecursion (λ (s : RemoteService). IsKept s.provider × IsKept s.name) (remote_services mux.others))
