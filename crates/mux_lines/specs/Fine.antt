-- Records whose fields are in their ranges, with texts that may be kept.
use Rattle.std.specs.Prelude.{ℕ, ◌*◌, ◌<◌, List}
use Rattle.guide_model.specs.Coding.{coded_size}
use Rattle.guide_model.specs.Decoding.{IsKept}
use Rattle.si_time.specs.declared.moment.Moment.{Moment}
use Rattle.mux_model.specs.declared.mux.MuxService.{MuxService}
use Rattle.mux_model.specs.declared.mux.RemoteService.{RemoteService}
use Rattle.mux_lines.specs.declared.record.Record.{Record}
use Rattle.mux_lines.specs.declared.record.Record.TheVariants.{Network, Stream, Delivery, Service, Part, Start, Quota, Rate, Local, Elsewhere, Remote, Further, End}
use Rattle.mux_lines.specs.declared.record.RecordFound.{RecordFound}
use Rattle.mux_lines.specs.declared.record.RecordFound.TheVariants.{Is}
use Rattle.guide_model.specs.Descriptors.{AreSoundDescriptors}
use Rattle.mux_lines.specs.Further.{made_in}
use Rattle.mux_model.specs.Sound.{Between, IsSoundCable, IsSoundComponent, IsSoundOffset, IsSoundRemote, IsSoundService, HasSoundCable}

-- a service, with texts that may be kept
abbrev pub IsFineService : MuxService → Type 0
IsFineService s = IsSoundService s × (IsKept s.provider × IsKept s.name)

-- a service of another stream, with texts that may be kept
abbrev pub IsFineRemote : RemoteService → Type 0
IsFineRemote s = IsSoundRemote s × (IsKept s.provider × IsKept s.name)

abbrev pub IsFineNetwork : ℕ × List ℕ → Type 0
IsFineNetwork network = (network.0 < 65536) × (Between 1 100 (coded_size network.1) × IsKept network.1)

abbrev pub IsFineStream : ℕ × ℕ → Type 0
IsFineStream stream = (stream.0 < 65536) × (stream.1 < 65536)

abbrev pub IsFineStart : Moment → Type 0
IsFineStart moment = moment.0 < 65536 * 86400

abbrev pub IsFine : Record → Type 0
IsFine (Network id name) = IsFineNetwork (id, name)
IsFine (Stream id original) = IsFineStream (id, original)
IsFine (Delivery cable) = IsSoundCable cable
IsFine (Service s) = IsFineService s
IsFine (Part id component) = IsSoundComponent component
IsFine (Start moment) = IsFineStart moment
IsFine (Quota n) = Between 1 10000 n
IsFine (Rate n) = Between 100000 100000000 n
IsFine (Local offset) = IsSoundOffset offset
IsFine (Elsewhere s o cable) = IsFineStream (s, o) × HasSoundCable cable
IsFine (Remote s o service) = IsFineRemote service
IsFine (Further place descs) = AreSoundDescriptors (made_in place) descs
IsFine End = Unit {0}

abbrev pub IsFineFound : RecordFound → Type 0
IsFineFound (Is r) = IsFine r
IsFineFound found = Unit {0}
