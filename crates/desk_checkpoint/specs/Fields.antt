-- The lines of a checkpoint, as fields: how a part of one is written, and which part fields are.
use Rattle.std.specs.Prelude.{ℕ, ◌==◌, ◌&&◌, ◌||◌, nat_le, Bool, false, List, [], ◌∷◌, length, Option, Some, None, Ok, Err, Result, option_map, option_and_then, if◌then◌else◌, codes, decimal}
use Rattle.std.specs.List.{list_all}
use Rattle.hex.specs.Hex.{decode_of, encode_lower}
use Rattle.hex.specs.declared.error.FromHexError.{FromHexError}
use Rattle.section_codec.specs.declared.table.Key.{Key}
use Rattle.section_codec.specs.declared.table.NumberedBody.{NumberedBody}
use Rattle.section_codec.specs.Keys.{is_listed}
use Rattle.ts_packets.specs.declared.pid_counter.PidCounter.{PidCounter}
use Rattle.cycle_timing.specs.Clock.{Clock}
use Rattle.cycle_player.specs.declared.clock.Clock.{Clock as KeptClock}
use Rattle.input_lines.specs.Numbers.{is_digit, is_word, number_in, numeral_of, value_from}
use Rattle.desk_checkpoint.specs.declared.part.Part.{Part}
use Rattle.desk_checkpoint.specs.declared.part.Part.TheVariants.{Version, Section, Counter, End}

-- ---- as it is written

-- how many publications there are
abbrev pub count_fields : ℕ → List (List ℕ)
count_fields count = codes "checkpoint" ∷ decimal count ∷ []

-- what the clock of an air at a bit rate reads: seconds since Modified Julian Date 0, and bits
abbrev pub clock_fields : Clock → List (List ℕ)
clock_fields clock = codes "clock" ∷ decimal clock.moment ∷ decimal clock.bits ∷ []

-- a key, and the version that it was last given
abbrev pub version_fields : Key → ℕ → List (List ℕ)
version_fields key version =
    codes "version" ∷ decimal key.pid ∷ decimal key.table ∷ decimal key.ext ∷ decimal key.stream ∷ decimal key.network ∷ decimal version ∷ []

-- a section of its last content: two lower-case hexadecimal digits for each byte
abbrev pub section_fields : NumberedBody → List (List ℕ)
section_fields section = codes "body" ∷ decimal section.number ∷ encode_lower section.body ∷ []

-- a PID, and the continuity_counter of its next packet
abbrev pub counter_fields : PidCounter → List (List ℕ)
counter_fields counter = codes "counter" ∷ decimal counter.pid ∷ decimal counter.next ∷ []

-- ---- as it is read

-- COUNT, one to 18 digits
abbrev pub is_count : List ℕ → Bool
is_count field = list_all is_digit field && (nat_le 1 (length field) && nat_le (length field) 18)

abbrev pub count_in : List ℕ → Option ℕ
count_in field = if is_count field then Some (value_from 0 field) else None

-- `checkpoint,COUNT`
abbrev pub count_of : List (List ℕ) → Option ℕ
count_of (word ∷ count ∷ []) = if is_word (codes "checkpoint") word then count_in count else None
count_of fields = None

-- `clock,MOMENT,BITS`
abbrev pub clock_in : List ℕ → List ℕ → Option KeptClock
clock_in moment bits =
    option_and_then
    (λ m. option_map (λ b. record { moment = m; bits = b }) (number_in 0 99999999 bits))
    (count_in moment)

abbrev pub clock_of : List (List ℕ) → Option KeptClock
clock_of (word ∷ moment ∷ bits ∷ []) =
    if is_word (codes "clock") word then clock_in moment bits else None
clock_of fields = None

-- a key that sub-tables can have
abbrev pub listed : Key → Option Key
listed key = if is_listed key then Some key else None

-- PID,TABLE,EXT,STREAM,NETWORK
abbrev pub key_in : List ℕ → List ℕ → List ℕ → List ℕ → List ℕ → Option Key
key_in pid table ext stream network =
    option_and_then (λ p. option_and_then (λ t. option_and_then (λ e. option_and_then (λ s. option_and_then
    (λ n. listed (record { pid = p; table = t; ext = e; stream = s; network = n }))
    (number_in 0 65535 network)) (number_in 0 65535 stream)) (number_in 0 65535 ext)) (number_in 0 255 table)) (number_in 0 8190 pid)

-- PID,TABLE,EXT,STREAM,NETWORK,VERSION
abbrev pub version_of : List (List ℕ) → Option Part
version_of (pid ∷ table ∷ ext ∷ stream ∷ network ∷ version ∷ []) =
    option_and_then (λ key. option_map (Version key) (number_in 0 31 version)) (key_in pid table ext stream network)
version_of fields = None

-- a hexadecimal digit in lower case
abbrev pub is_lower_digit : ℕ → Bool
is_lower_digit b = is_digit b || nat_le 97 b && nat_le b 102

-- the bytes of hexadecimal digits, at most 4,084
abbrev pub decoded : Result (List ℕ) FromHexError → Option (List ℕ)
decoded (Ok bytes) = if nat_le (length bytes) 4084 then Some bytes else None
decoded (Err e) = None

abbrev pub body_in : List ℕ → Option (List ℕ)
body_in field = if list_all is_lower_digit field then decoded (decode_of field) else None

-- NUMBER,HEX
abbrev pub section_of : List (List ℕ) → Option Part
section_of (number ∷ body ∷ []) =
    option_and_then (λ n. option_map (λ bytes. Section (record { number = n; body = bytes })) (body_in body)) (number_in 0 255 number)
section_of fields = None

-- PID,NEXT
abbrev pub counter_of : List (List ℕ) → Option Part
counter_of (pid ∷ next ∷ []) =
    option_and_then (λ p. option_map (λ n. Counter (record { pid = p; next = n })) (number_in 0 15 next)) (number_in 0 8191 pid)
counter_of fields = None

-- no field behind the word
abbrev pub end_of : List (List ℕ) → Option Part
end_of [] = Some End
end_of fields = None

-- the part that fields are, by the word that stands first
unfoldable pub part_of : List (List ℕ) → Option Part
part_of [] = None
part_of (word ∷ fields) =
    if is_word (codes "version") word then version_of fields
    else if is_word (codes "body") word then section_of fields
    else if is_word (codes "counter") word then counter_of fields
    else if is_word (codes "end") word then end_of fields
    else None

-- whether a line is one of the steps: the caller's number 0 stands first
abbrev pub is_zero : Option ℕ → Bool
is_zero None = false
is_zero (Some n) = n == 0

abbrev pub begins_step : List (List ℕ) → Bool
begins_step [] = false
begins_step (field ∷ fields) = is_zero (numeral_of field)
