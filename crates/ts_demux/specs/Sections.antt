-- The sections of a packet list, in the order in which they end.
use Rattle.std.specs.Prelude.{ℕ, List, [], ◌∷◌, ◌++◌, ◌==◌, if◌then◌else◌, Option, Some, None, length, drop, map, flat_map}
use Rattle.ts_packets.specs.Bytes.{pid_in}
use Rattle.ts_demux.specs.declared.section.RawSection.{RawSection}
use Rattle.ts_demux.specs.Arrivals.{arrivals_on, heard_of}

-- the sections heard on a PID of these packets, each by its bytes
abbrev pub sections_on : ℕ → List (List ℕ) → List (List ℕ)
sections_on pid packets = heard_of (arrivals_on pid packets)

abbrev pub on_pid : ℕ → List ℕ → RawSection
on_pid pid bytes = record { pid = pid; bytes = bytes }

-- the sections that a packet ends: what is heard on its PID with it, behind what was heard without it
abbrev pub ended_by : List (List ℕ) → List ℕ → List RawSection
ended_by past packet = map (on_pid (pid_in packet)) (drop (length (sections_on (pid_in packet) past)) (sections_on (pid_in packet) (past ++ packet ∷ [])))

-- for each of these packets, behind those of the past, the sections that it ends
abbrev pub heard_each : List (List ℕ) → List (List ℕ) → List (List RawSection)
heard_each past [] = []
heard_each past (packet ∷ packets) = ended_by past packet ∷ heard_each (past ++ packet ∷ []) packets

-- all sections that these packets end, behind those of the past, in the order in which they end
abbrev pub heard_all : List (List ℕ) → List (List ℕ) → List RawSection
heard_all past packets = flat_map (λ (ended : List RawSection). ended) (heard_each past packets)

abbrev pub bytes_on : ℕ → RawSection → Option (List ℕ)
bytes_on pid s = if s.pid == pid then Some s.bytes else None
