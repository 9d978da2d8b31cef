-- Kinds of records, as the code names them.
use Rattle.std.specs.Prelude.{ℕ, ◌-◌, nat_le, Bool, List, Option, Some, None, if◌then◌else◌}
use Rattle.std.specs.Option.{is_some}
use Rattle.mux_model.specs.declared.mux.MuxService.{MuxService}
use Rattle.mux_model.specs.declared.mux.RemoteService.{RemoteService}
use Rattle.mux_model.specs.declared.mux.Other.{Other}
use Rattle.mux_model.specs.Order.{placed}
use Rattle.mux_model.specs.Sound.{comes_before, has_lower_id}
use Rattle.mux_lines.specs.declared.record.Numbered.{Numbered}
use Rattle.mux_config.specs.declared.kinds.Kind.{Kind}
use Rattle.mux_config.specs.declared.kinds.Kind.TheVariants.{Networks, Streams, Deliveries, Starts, Quotas, Rates, Regions, Ids, Pairs, Pmts, Pids, Holders, Spoken, Services, Parts, Offsets, Others, Remotes}
use Rattle.mux_config.specs.declared.room.Room.{Room}
use Rattle.mux_config.specs.declared.room.Room.TheVariants as room
use Rattle.mux_lines.specs.declared.record.Record.{Record}
use Rattle.mux_config.specs.Descriptions.{is_network, is_stream, is_delivery, is_start, is_quota, is_rate, has_any_id, has_ids, has_pmt, has_pid, has_region, holds, insert, is_spoken, local_in, other_in, part_in, remote_in, service_in, with_own, with_parts, with_remotes}
use Rattle.mux_config.specs.Taken.{other_bytes, own_bytes, program_bytes, service_bytes}

abbrev pub is_of : Kind → Record → Bool
is_of Networks = is_network
is_of Streams = is_stream
is_of Deliveries = is_delivery
is_of Starts = is_start
is_of Quotas = is_quota
is_of Rates = is_rate
is_of (Regions offset) = has_region offset
is_of (Ids id) = has_any_id id
is_of (Pairs stream original) = has_ids stream original
is_of (Pmts pid) = has_pmt pid
is_of (Pids pid) = has_pid pid
is_of (Holders id pid) = holds id pid
is_of (Spoken id pid) = is_spoken id pid
is_of Services = λ (r : Record). is_some (service_in r)
is_of (Parts id) = λ (r : Record). is_some (part_in id r)
is_of Offsets = λ (r : Record). is_some (local_in r)
is_of Others = λ (r : Record). is_some (other_in r)
is_of Remotes = λ (r : Record). is_some (remote_in r)

-- what a record takes of a room
abbrev pub bytes_in : Room → Record → ℕ
bytes_in room.Own = own_bytes
bytes_in (room.Other stream original) = other_bytes stream original
bytes_in (room.Program id) = program_bytes id
bytes_in (room.Service id) = service_bytes id

-- what is left with so many bytes more
abbrev pub left_of : ℕ → ℕ → Option ℕ
left_of left bytes = if nat_le bytes left then Some (left - bytes) else None

-- a service, where there is one, at its place, with its components among the records
abbrev pub put_service : List Numbered → List MuxService → Option MuxService → List MuxService
put_service records done None = done
put_service records done (Some s) = insert (with_parts records s) done

-- another stream, where there is one, at its place, with its services among the records
abbrev pub put_other : List Numbered → List Other → Option Other → List Other
put_other records done None = done
put_other records done (Some o) = placed comes_before (with_remotes records o) done

-- a service of another stream, where there is one, at its place, with its further descriptors among the records
abbrev pub put_remote : List Numbered → List RemoteService → Option RemoteService → List RemoteService
put_remote records done None = done
put_remote records done (Some s) = placed has_lower_id (with_own records s) done
