-- Worked rooms: records that just fill them, and a byte more.
use Rattle.std.specs.Prelude.{◌≡◌, ℕ, true, false, List, [], ◌∷◌, ◌++◌, replicate, Some, None, refl, codes}
use Rattle.guide_model.specs.declared.descriptor.RawDesc.{RawDesc}
use Rattle.mux_lines.specs.declared.record.Place.TheVariants.{InNetwork, InStream, InOther, InService, InProgram, InComponent}
use Rattle.mux_lines.specs.declared.record.Record.{Record}
use Rattle.mux_lines.specs.declared.record.Record.TheVariants.{Network, Delivery, Stream, Service, Part, Elsewhere, Remote, Further}
use Rattle.mux_lines.specs.declared.record.Numbered.{Numbered}
use Rattle.mux_config.specs.Descriptions.{numbered}
use Rattle.mux_config.specs.Taken.{is_full}

-- a descriptor with a body of so many bytes
abbrev long : ℕ → RawDesc
long n = record { tag = 0x90; body = replicate n 0 }

abbrev own : Record
own = Service (record { service = 101; feed = 1; kind = 1; pmt_pid = 256; pcr_pid = 257; provider = codes "Acme"; name = codes "One"; components = []; descriptors = []; program_descriptors = [] })

abbrev demo : Record
demo = Network 40 (codes "Demo")

abbrev before : List Numbered
before = numbered 1 demo ∷ numbered 2 (Stream 1 1) ∷ numbered 3 own ∷ []

-- ---- a PMT: 4 bytes and four descriptors of 252

abbrev program : Record
program = Further (InProgram 101) (long 250 ∷ long 250 ∷ long 250 ∷ long 250 ∷ [])

row_program : is_full before program ≡ false
row_program = refl

row_program_byte : is_full before (Further (InProgram 101) (long 250 ∷ long 250 ∷ long 250 ∷ long 251 ∷ [])) ≡ true
row_program_byte = refl

-- a component behind it; descriptors of one; those of another service
row_component_late : is_full (numbered 3 own ∷ numbered 4 program ∷ []) (Part 101 (record { stream_type = 2; pid = 300; language = None; descriptors = [] })) ≡ true
row_component_late = refl

row_of_component : is_full (numbered 3 own ∷ numbered 4 program ∷ []) (Further (InComponent 101 300) (long 0 ∷ [])) ≡ true
row_of_component = refl

row_other_program : is_full (numbered 3 own ∷ numbered 4 program ∷ []) (Further (InProgram 102) (long 250 ∷ [])) ≡ false
row_other_program = refl

-- a component with a language takes six bytes more
row_language : is_full (numbered 3 own ∷ numbered 4 (Further (InProgram 101) (long 250 ∷ long 250 ∷ long 250 ∷ long 239 ∷ [])) ∷ []) (Part 101 (record { stream_type = 2; pid = 300; language = Some (codes "deu"); descriptors = [] })) ≡ false
row_language = refl

row_language_byte : is_full (numbered 3 own ∷ numbered 4 (Further (InProgram 101) (long 250 ∷ long 250 ∷ long 250 ∷ long 240 ∷ [])) ∷ []) (Part 101 (record { stream_type = 2; pid = 300; language = Some (codes "deu"); descriptors = [] })) ≡ true
row_language_byte = refl

-- ---- the SDT's entry of a service

row_service : is_full before (Further (InService 101) (long 255 ∷ long 255 ∷ long 255 ∷ long 26 ∷ [])) ≡ false
row_service = refl

row_service_byte : is_full before (Further (InService 101) (long 255 ∷ long 255 ∷ long 255 ∷ long 27 ∷ [])) ≡ true
row_service_byte = refl

-- over two lines
row_service_lines : is_full (numbered 3 own ∷ numbered 4 (Further (InService 101) (long 255 ∷ long 255 ∷ long 255 ∷ [])) ∷ []) (Further (InService 101) (long 27 ∷ [])) ≡ true
row_service_lines = refl

-- ---- the NIT's section with the own stream: 14 bytes, 4 of the name and 3 of the service

abbrev stream : ℕ → Record
stream n = Further InStream (long 255 ∷ long 255 ∷ long 255 ∷ long n ∷ [])

row_network : is_full before (stream 218) ≡ false
row_network = refl

row_network_byte : is_full before (stream 219) ≡ true
row_network_byte = refl

-- the line with which it is passed: the network's, another service's, the cable delivery's
row_name_last : is_full (numbered 1 (Stream 1 1) ∷ numbered 2 own ∷ numbered 3 (stream 219) ∷ []) demo ≡ true
row_name_last = refl

row_name_fits : is_full (numbered 1 (Stream 1 1) ∷ numbered 2 own ∷ numbered 3 (stream 218) ∷ []) demo ≡ false
row_name_fits = refl

abbrev filled : List Numbered
filled = numbered 1 demo ∷ numbered 2 (Stream 1 1) ∷ numbered 3 own ∷ numbered 4 (stream 218) ∷ []

row_service_last : is_full filled own ≡ true
row_service_last = refl

row_cable_last : is_full filled (Delivery (record { frequency = 3120000; modulation = 3; symbol_rate = 68750; fec_outer = 2; fec_inner = 15 })) ≡ true
row_cable_last = refl

-- another stream stands in a section of its own, if there is no room, and so does its service
row_other : is_full filled (Elsewhere 2 1 None) ≡ false
row_other = refl

-- ---- the NIT's section with another stream: 14 bytes, 4 of the name and 3 of the service

abbrev two : Record
two = Remote 2 1 (record { service = 201; feed = 1; kind = 1; provider = codes "Acme"; name = codes "Two"; descriptors = [] })

abbrev elsewhere : ℕ → Record
elsewhere n = Further (InOther 2 1) (long 255 ∷ long 255 ∷ long 255 ∷ long n ∷ [])

abbrev others : List Numbered
others = numbered 1 demo ∷ numbered 2 (Stream 1 1) ∷ numbered 3 (Elsewhere 2 1 None) ∷ numbered 4 (Elsewhere 2 2 None) ∷ numbered 5 two ∷ []

row_of_other : is_full others (elsewhere 218) ≡ false
row_of_other = refl

row_of_other_byte : is_full others (elsewhere 219) ≡ true
row_of_other_byte = refl

-- the lines with which it is passed: the network's, a further descriptor of that, another service's; and one of a third stream, with which
-- it is not
row_other_name_last : is_full (numbered 1 (Elsewhere 2 1 None) ∷ numbered 2 two ∷ numbered 3 (elsewhere 219) ∷ []) demo ≡ true
row_other_name_last = refl

row_other_network_last : is_full (others ++ numbered 6 (elsewhere 218) ∷ []) (Further InNetwork (long 0 ∷ [])) ≡ true
row_other_network_last = refl

row_remote_last : is_full (others ++ numbered 6 (elsewhere 218) ∷ []) two ≡ true
row_remote_last = refl

row_third_stream : is_full (others ++ numbered 6 (elsewhere 218) ∷ []) (Further (InOther 2 2) (long 255 ∷ [])) ≡ false
row_third_stream = refl

-- its cable delivery, behind a network of many descriptors
row_other_cable : is_full (numbered 1 (Further InNetwork (long 255 ∷ long 255 ∷ long 255 ∷ long 212 ∷ [])) ∷ []) (Elsewhere 2 1 (Some (record { frequency = 3120000; modulation = 3; symbol_rate = 68750; fec_outer = 2; fec_inner = 15 }))) ≡ false
row_other_cable = refl

row_other_cable_byte : is_full (numbered 1 (Further InNetwork (long 255 ∷ long 255 ∷ long 255 ∷ long 213 ∷ [])) ∷ []) (Elsewhere 2 1 (Some (record { frequency = 3120000; modulation = 3; symbol_rate = 68750; fec_outer = 2; fec_inner = 15 }))) ≡ true
row_other_cable_byte = refl
