-- The lines of stops.
use Rattle.std.proofs.Common.{◌≡◌, refl}
use Rattle.epg_report.specs.declared.status.Status.{Status}
use Rattle.epg_report.specs.declared.status.Status.TheVariants.{BadStream, TooLong, ReadFault, TooMany}
use Rattle.epg_report.specs.declared.status.Origin.TheVariants.{Input}
use Rattle.epg_report.specs.Texts.{CanBeSaid, fault_line, fault_lines, fault_text}
use Rattle.packet_reader.specs.declared.stop.PacketStop.{PacketStop}
use Rattle.packet_reader.specs.declared.stop.PacketStop.TheVariants as packet
use Rattle.epg_listen.specs.Leaves.{packet_stop_status}
use Rattle.epg_listen.specs.Hearing.{IsOfRecording}

pub packet_said : (stop : PacketStop) → IsOfRecording (packet_stop_status stop)
packet_said (packet.Broken n) = tt
packet_said other = tt

pub recording_said : (fault : Status) → IsOfRecording fault → CanBeSaid fault
recording_said (BadStream n) is = tt
recording_said (TooMany n) is = tt
recording_said (TooLong Input) is = tt
recording_said (ReadFault Input) is = tt
recording_said other is = absurd is

pub recording_line : (fault : Status) → IsOfRecording fault → fault_lines fault ≡ fault_line (fault_text fault)
recording_line (BadStream n) is = refl
recording_line (TooMany n) is = refl
recording_line (TooLong Input) is = refl
recording_line (ReadFault Input) is = refl
recording_line other is = absurd is
