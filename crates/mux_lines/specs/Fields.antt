-- What the fields of a line say.
use Rattle.std.specs.Prelude.{ℕ, nat_le, Bool, true, false, ◌&&◌, List, [], ◌∷◌, Option, Some, None, if◌then◌else◌, codes, option_map, option_and_then}
use Rattle.guide_model.specs.declared.stream.Cable.{Cable}
use Rattle.input_lines.specs.Fields.{record_of}
use Rattle.input_lines.specs.Numbers.{is_word, numeral_of, in_range}
use Rattle.mux_model.specs.Sound.{farthest}
use Rattle.mux_model.specs.declared.mux.MuxService.{MuxService}
use Rattle.mux_model.specs.declared.mux.RemoteService.{RemoteService}
use Rattle.mux_lines.specs.declared.rows.Numbers.{Numbers}
use Rattle.mux_lines.specs.declared.rows.RemoteNumbers.{RemoteNumbers}
use Rattle.mux_lines.specs.declared.record.Record.TheVariants.{Network, Stream, Delivery, Service, Part, Start, Quota, Rate, Local, Elsewhere, Remote, End}
use Rattle.mux_lines.specs.declared.record.RecordFound.{RecordFound}
use Rattle.mux_lines.specs.declared.record.RecordFound.TheVariants.{NoRecord, OutOfRange, Is}
use Rattle.mux_lines.specs.Found.{spelled, within}
use Rattle.mux_lines.specs.Further.{in_loop, of_id, of_pair}
use Rattle.guide_model.specs.Coding.{coded_size}
use Rattle.si_time.specs.Readings.{moment_in}

-- `network,ID,NAME`
abbrev pub network_in : List ℕ → List ℕ → RecordFound
network_in id name = spelled id (λ n. within (in_range 0 65535 n && in_range 1 100 (coded_size name)) (Network n name))

-- `stream,ID,ORIGINAL`
abbrev pub stream_in : List ℕ → List ℕ → RecordFound
stream_in id original = spelled id (λ n. spelled original (λ o. within (in_range 0 65535 n && in_range 0 65535 o) (Stream n o)))

abbrev pub cable_with : ℕ → ℕ → ℕ → ℕ → ℕ → Cable
cable_with f m s o i = record { frequency = f; modulation = m; symbol_rate = s; fec_outer = o; fec_inner = i }

abbrev pub delivery_with : ℕ → ℕ → ℕ → ℕ → ℕ → RecordFound
delivery_with f m s o i =
    within (in_range 0 99999999 f && (in_range 0 255 m && (in_range 0 9999999 s && (in_range 0 15 o && in_range 0 15 i))))
    (Delivery (cable_with f m s o i))

-- `cable,FREQUENCY,MODULATION,SYMBOLRATE,OUTER,INNER`
abbrev pub cable_in : List ℕ → List ℕ → List ℕ → List ℕ → List ℕ → RecordFound
cable_in frequency modulation rate outer inner =
    spelled frequency (λ f. spelled modulation (λ m. spelled rate (λ s. spelled outer (λ o. spelled inner (λ i. delivery_with f m s o i)))))

-- a service without components
abbrev pub bare_service : ℕ → ℕ → ℕ → ℕ → ℕ → List ℕ → List ℕ → MuxService
bare_service id feed kind pmt pcr provider name = record { service = id; feed = feed; kind = kind; pmt_pid = pmt; pcr_pid = pcr; provider = provider; name = name; components = []; descriptors = []; program_descriptors = [] }

abbrev pub is_service_in_range : MuxService → Bool
is_service_in_range s =
    (in_range 1 65535 s.service && (in_range 1 16 s.feed && (in_range 0 255 s.kind && (in_range 32 8190 s.pmt_pid && in_range 32 8191 s.pcr_pid))))
    && (in_range 0 100 (coded_size s.provider) && in_range 1 100 (coded_size s.name))

abbrev pub service_with : MuxService → RecordFound
service_with s = within (is_service_in_range s) (Service s)

-- the numbers of a service, where each is spelled as one
abbrev pub numbers_in : List ℕ → List ℕ → List ℕ → List ℕ → List ℕ → Option Numbers
numbers_in id feed kind pmt pcr =
    option_and_then (λ i. option_and_then (λ f. option_and_then (λ k. option_and_then (λ m. option_map
    (λ c. let numbers : Numbers = record { service = i; feed = f; kind = k; pmt_pid = m; pcr_pid = c } in numbers)
    (numeral_of pcr)) (numeral_of pmt)) (numeral_of kind)) (numeral_of feed)) (numeral_of id)

abbrev pub service_of : Option Numbers → List ℕ → List ℕ → RecordFound
service_of None provider name = NoRecord
service_of (Some n) provider name = service_with (bare_service n.service n.feed n.kind n.pmt_pid n.pcr_pid provider name)

-- `service,ID,FEED,TYPE,PMT,PCR,PROVIDER,NAME`
abbrev pub service_in : List ℕ → List ℕ → List ℕ → List ℕ → List ℕ → List ℕ → List ℕ → RecordFound
service_in id feed kind pmt pcr provider name = service_of (numbers_in id feed kind pmt pcr) provider name

-- a language: none, or three letters a to z
abbrev pub is_letter : ℕ → Bool
is_letter = in_range 97 122

abbrev pub is_language : List ℕ → Bool
is_language [] = true
is_language (a ∷ b ∷ c ∷ []) = is_letter a && (is_letter b && is_letter c)
is_language letters = false

abbrev pub language_of : List ℕ → Option (List ℕ)
language_of [] = None
language_of letters = Some letters

-- `component,SERVICE,TYPE,PID,LANGUAGE`
abbrev pub part_in : List ℕ → List ℕ → List ℕ → List ℕ → RecordFound
part_in service kind pid language =
    spelled service (λ s. spelled kind (λ k. spelled pid (λ p.
    within ((in_range 0 65535 s && (in_range 0 255 k && in_range 32 8190 p)) && is_language language)
    (Part s (record { stream_type = k; pid = p; language = language_of language; descriptors = [] })))))

-- three letters A to Z
abbrev pub is_capital : ℕ → Bool
is_capital b = nat_le 65 b && nat_le b 90

abbrev pub country_of : List ℕ → Option (List ℕ)
country_of (a ∷ b ∷ c ∷ []) = if is_capital a && (is_capital b && is_capital c) then Some (a ∷ b ∷ c ∷ []) else None
country_of field = None

-- whether clocks are behind UTC, where the field tells it
abbrev pub side_of : List ℕ → Option Bool
side_of field = if is_word (codes "ahead") field then Some false else if is_word (codes "behind") field then Some true else None

abbrev pub offset_with : Option (List ℕ) → ℕ → Option Bool → ℕ → Option ℕ → ℕ → RecordFound
offset_with (Some country) region (Some behind) minutes (Some change) next =
    within (in_range 0 63 region && (in_range 0 (farthest behind) minutes && in_range 0 (farthest behind) next))
    (Local (record { country = country; region = region; behind = behind; minutes = minutes; change = record { 0 = change }; next = next }))
offset_with country region side minutes change next = OutOfRange

-- `offset,COUNTRY,REGION,SIDE,MINUTES,CHANGE,NEXT`: its numbers are tried for their spelling first
abbrev pub offset_in : List ℕ → List ℕ → List ℕ → List ℕ → List ℕ → List ℕ → RecordFound
offset_in country region side minutes change next =
    spelled region (λ r. spelled minutes (λ m. spelled next (λ n. offset_with (country_of country) r (side_of side) m (moment_in change) n)))

-- `start,MOMENT`
abbrev pub start_with : Option ℕ → RecordFound
start_with None = OutOfRange
start_with (Some seconds) = Is (Start (record { 0 = seconds }))

abbrev pub start_in : List ℕ → RecordFound
start_in moment = start_with (moment_in moment)

-- `quota,N`
abbrev pub quota_in : List ℕ → RecordFound
quota_in quota = spelled quota (λ n. within (in_range 1 10000 n) (Quota n))

-- `rate,BITS`
abbrev pub rate_in : List ℕ → RecordFound
rate_in rate = spelled rate (λ n. within (in_range 100000 100000000 n) (Rate n))

-- `other,STREAM,ORIGINAL`
abbrev pub are_ids : ℕ → ℕ → Bool
are_ids stream original = in_range 0 65535 stream && in_range 0 65535 original

abbrev pub other_in : List ℕ → List ℕ → RecordFound
other_in stream original = spelled stream (λ s. spelled original (λ o. within (are_ids s o) (Elsewhere s o None)))

-- another stream with what its cable fields say
abbrev pub other_by : ℕ → ℕ → RecordFound → RecordFound
other_by stream original (Is (Delivery cable)) = within (are_ids stream original) (Elsewhere stream original (Some cable))
other_by stream original found = found

-- `other,STREAM,ORIGINAL,FREQUENCY,MODULATION,SYMBOLRATE,OUTER,INNER`
abbrev pub cabled_in : List ℕ → List ℕ → List ℕ → List ℕ → List ℕ → List ℕ → List ℕ → RecordFound
cabled_in stream original frequency modulation rate outer inner =
    spelled stream (λ s. spelled original (λ o. other_by s o (cable_in frequency modulation rate outer inner)))

abbrev pub is_remote_in_range : RemoteService → Bool
is_remote_in_range s =
    (in_range 1 65535 s.service && (in_range 1 16 s.feed && in_range 0 255 s.kind))
    && (in_range 0 100 (coded_size s.provider) && in_range 1 100 (coded_size s.name))

abbrev pub remote_with : ℕ → ℕ → RemoteService → RecordFound
remote_with stream original s = within (are_ids stream original && is_remote_in_range s) (Remote stream original s)

abbrev pub remote_by : ℕ → ℕ → ℕ → List ℕ → List ℕ → RemoteService
remote_by id feed kind provider name = record { service = id; feed = feed; kind = kind; provider = provider; name = name; descriptors = [] }

-- the numbers of a service of another stream, where each is spelled as one
abbrev pub remote_numbers_in : List ℕ → List ℕ → List ℕ → List ℕ → List ℕ → Option RemoteNumbers
remote_numbers_in stream original id feed kind =
    option_and_then (λ s. option_and_then (λ o. option_and_then (λ i. option_and_then (λ f. option_map
    (λ k. let numbers : RemoteNumbers = record { stream = s; original = o; service = i; feed = f; kind = k } in numbers)
    (numeral_of kind)) (numeral_of feed)) (numeral_of id)) (numeral_of original)) (numeral_of stream)

abbrev pub remote_of : Option RemoteNumbers → List ℕ → List ℕ → RecordFound
remote_of None provider name = NoRecord
remote_of (Some n) provider name = remote_with n.stream n.original (remote_by n.service n.feed n.kind provider name)

-- `remote,STREAM,ORIGINAL,ID,FEED,TYPE,PROVIDER,NAME`
abbrev pub remote_in : List ℕ → List ℕ → List ℕ → List ℕ → List ℕ → List ℕ → List ℕ → RecordFound
remote_in stream original id feed kind provider name = remote_of (remote_numbers_in stream original id feed kind) provider name

-- a line of eight fields
abbrev pub eight_in : List (List ℕ) → RecordFound
eight_in (word ∷ a ∷ b ∷ c ∷ d ∷ e ∷ f ∷ g ∷ []) =
    if is_word (codes "service") word then service_in a b c d e f g
    else if is_word (codes "other") word then cabled_in a b c d e f g
    else if is_word (codes "remote") word then remote_in a b c d e f g
    else NoRecord
eight_in fields = NoRecord

-- a line of three fields
abbrev pub three_in : List ℕ → List ℕ → List ℕ → RecordFound
three_in word a b =
    if is_word (codes "network") word then network_in a b
    else if is_word (codes "stream") word then stream_in a b
    else if is_word (codes "other") word then other_in a b
    else if is_word (codes "descriptor") word then in_loop a b
    else NoRecord

-- a line of five fields
abbrev pub five_in : List ℕ → List ℕ → List ℕ → List ℕ → List ℕ → RecordFound
five_in word a b c d =
    if is_word (codes "component") word then part_in a b c d
    else if is_word (codes "descriptor") word then of_pair a b c d
    else NoRecord

-- what the fields of a line say, by the word in front and how many they are
abbrev pub found_in : List (List ℕ) → RecordFound
found_in (word ∷ []) = if is_word (codes "end") word then Is End else NoRecord
found_in (word ∷ a ∷ []) =
    if is_word (codes "start") word then start_in a
    else if is_word (codes "quota") word then quota_in a
    else if is_word (codes "rate") word then rate_in a
    else NoRecord
found_in (word ∷ a ∷ b ∷ []) = three_in word a b
found_in (word ∷ a ∷ b ∷ c ∷ []) = if is_word (codes "descriptor") word then of_id a b c else NoRecord
found_in (word ∷ a ∷ b ∷ c ∷ d ∷ []) = five_in word a b c d
found_in (word ∷ a ∷ b ∷ c ∷ d ∷ e ∷ []) = if is_word (codes "cable") word then cable_in a b c d e else NoRecord
found_in (word ∷ a ∷ b ∷ c ∷ d ∷ e ∷ f ∷ []) = if is_word (codes "offset") word then offset_in a b c d e f else NoRecord
found_in fields = eight_in fields

-- what a line says; one that is no line has no fields
abbrev pub found_fields : Option (List (List ℕ)) → RecordFound
found_fields None = NoRecord
found_fields (Some fields) = found_in fields

abbrev pub found_line : List ℕ → RecordFound
found_line line = found_fields (record_of line)
