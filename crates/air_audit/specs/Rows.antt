-- A worked packet, and the rules that it breaks where other things are to come.
use Rattle.std.specs.Prelude.{◌≡◌, ℕ, List, [], ◌∷◌, ◌++◌, drop, replicate, refl, Ok}
use Rattle.ts_packets.specs.Bytes.{packet_in}
use Rattle.air_model.specs.declared.rule.Rule.TheVariants.{Shape, Pid, Counter, Pointer, Bytes}
use Rattle.air_audit.specs.Fronts.{nothing, all_waiting}
use Rattle.air_audit.specs.Telling.{told}
use Rattle.air_audit.specs.Checking.{rule_broken}
use Rattle.air_audit.specs.Passing.{past_nulls}

-- a section, as far as a packet is concerned, and another one
abbrev section : List ℕ
section = 1 ∷ 2 ∷ 3 ∷ []

abbrev other : List ℕ
other = 1 ∷ 2 ∷ 4 ∷ []

-- the first packet of PID 17, in which the section begins and ends
abbrev packet : List ℕ
packet = 0x47 ∷ 0x40 ∷ 0x11 ∷ 0x10 ∷ 0x00 ∷ section ++ replicate 180 0xFF

row_goes : told (all_waiting (section ∷ [])) (packet_in packet).piece ≡ Ok nothing
row_goes = refl

-- one section of two begins in it
row_first : told (all_waiting (section ∷ other ∷ [])) (packet_in packet).piece ≡ Ok (all_waiting (other ∷ []))
row_first = refl

-- a section of 250 bytes goes on behind the packet
row_rest : told (all_waiting ((section ++ replicate 247 0xFF) ∷ [])) (packet_in packet).piece ≡ Ok (record { rest = replicate 67 0xFF; waiting = [] })
row_rest = refl

row_bytes : rule_broken (all_waiting (other ∷ [])) 0 packet ≡ Bytes
row_bytes = refl

row_pointer : rule_broken (record { rest = 9 ∷ []; waiting = section ∷ [] }) 0 packet ≡ Pointer
row_pointer = refl

row_counter : rule_broken (all_waiting (section ∷ [])) 1 packet ≡ Counter
row_counter = refl

row_pid : rule_broken nothing 1 packet ≡ Pid
row_pid = refl

row_shape : rule_broken nothing 1 (0x47 ∷ 0xC0 ∷ drop 2 packet) ≡ Shape
row_shape = refl

-- a null packet, which is refused where it is not passed over (ISO/IEC 13818-1, 2.4.3.3)
abbrev null : List ℕ
null = 0x47 ∷ 0x1F ∷ 0xFF ∷ 0x10 ∷ replicate 184 0xFF

row_refused : rule_broken nothing 0 null ≡ Pid
row_refused = refl

row_passed : past_nulls (null ∷ packet ∷ null ∷ []) ≡ packet ∷ []
row_passed = refl

-- with an error of transport it is none
row_error : past_nulls ((0x47 ∷ 0x9F ∷ drop 2 null) ∷ []) ≡ (0x47 ∷ 0x9F ∷ drop 2 null) ∷ []
row_error = refl
