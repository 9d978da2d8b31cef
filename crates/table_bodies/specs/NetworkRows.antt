-- Worked bodies of networks and services.
use Rattle.std.specs.Prelude.{◌≡◌, [], ◌∷◌, true, false, Some, None, refl, codes}
use Rattle.std.specs.Str.{chars}
use Rattle.guide_model.specs.declared.shown.Shown.TheVariants.{Text}
use Rattle.guide_model.specs.declared.stream.Cable.{Cable}
use Rattle.guide_model.specs.declared.descriptor.RawDesc.{RawDesc}
use Rattle.table_bodies.specs.declared.nit.NitStream.{NitStream}
use Rattle.table_bodies.specs.declared.sdt.SdtService.{SdtService}
use Rattle.table_bodies.specs.Nit.{nit_body, name_of, further_of_network, stream_with, is_nit_body}
use Rattle.table_bodies.specs.Sdt.{sdt_body, service_of, is_sdt_body}

-- ---- the network Demo, with stream 1 of network 1, which has service 101 of type 1

abbrev stream : NitStream
stream = record { stream = 1; original = 1; cable = None; services = record { service = 101; kind = 1 } ∷ []; descriptors = [] }

row_nit : nit_body (record { name = Text (codes "Demo"); descriptors = []; streams = stream ∷ [] })
    ≡ 0xF0 ∷ 0x06 ∷ 0x40 ∷ 0x04 ∷ 0x44 ∷ 0x65 ∷ 0x6D ∷ 0x6F ∷ 0xF0 ∷ 0x0B ∷ 0x00 ∷ 0x01 ∷ 0x00 ∷ 0x01 ∷ 0xF0 ∷ 0x05 ∷ 0x41 ∷ 0x03 ∷ 0x00 ∷ 0x65 ∷ 0x01 ∷ []
row_nit = refl

-- a stream by cable, whose list of services is empty
abbrev cable : Cable
cable = record { frequency = 3460000; modulation = 3; symbol_rate = 69000; fec_outer = 2; fec_inner = 15 }

row_cable : nit_body (record { name = Text []; descriptors = []; streams = record { stream = 2; original = 1; cable = Some cable; services = []; descriptors = [] } ∷ [] })
    ≡ 0xF0 ∷ 0x02 ∷ 0x40 ∷ 0x00 ∷ 0xF0 ∷ 0x15 ∷ 0x00 ∷ 0x02 ∷ 0x00 ∷ 0x01 ∷ 0xF0 ∷ 0x0F ∷ 0x44 ∷ 0x0B ∷ 0x03 ∷ 0x46 ∷ 0x00 ∷ 0x00 ∷ 0xFF ∷ 0xF2 ∷ 0x03 ∷ 0x00 ∷ 0x69 ∷ 0x00 ∷ 0x0F ∷ 0x41 ∷ 0x00 ∷ []
row_cable = refl

-- a network with a linkage, and a stream with its terrestrial delivery, and with a channel number under its private_data_specifier; the
-- bytes are the specification's
abbrev linkage : RawDesc
linkage = record { tag = 0x4A; body = 0x00 ∷ 0x01 ∷ 0x00 ∷ 0x01 ∷ 0x00 ∷ 0x65 ∷ 0x02 ∷ [] }

abbrev terrestrial : RawDesc
terrestrial = record { tag = 0x5A; body = 0x03 ∷ 0x71 ∷ 0xF5 ∷ 0x40 ∷ 0x1F ∷ 0x81 ∷ 0x02 ∷ 0xFF ∷ 0xFF ∷ 0xFF ∷ 0xFF ∷ [] }

abbrev specifier : RawDesc
specifier = record { tag = 0x5F; body = 0x00 ∷ 0x00 ∷ 0x00 ∷ 0x28 ∷ [] }

abbrev channel : RawDesc
channel = record { tag = 0x83; body = 0x00 ∷ 0x65 ∷ 0xFC ∷ 0x01 ∷ [] }

abbrev described : NitStream
described = record stream { descriptors = terrestrial ∷ specifier ∷ channel ∷ [] }

row_described : nit_body (record { name = Text (codes "Demo"); descriptors = linkage ∷ []; streams = described ∷ [] })
    ≡ 0xF0 ∷ 0x0F ∷ 0x40 ∷ 0x04 ∷ 0x44 ∷ 0x65 ∷ 0x6D ∷ 0x6F ∷ 0x4A ∷ 0x07 ∷ 0x00 ∷ 0x01 ∷ 0x00 ∷ 0x01 ∷ 0x00 ∷ 0x65 ∷ 0x02
    ∷ 0xF0 ∷ 0x24 ∷ 0x00 ∷ 0x01 ∷ 0x00 ∷ 0x01 ∷ 0xF0 ∷ 0x1E ∷ 0x41 ∷ 0x03 ∷ 0x00 ∷ 0x65 ∷ 0x01
    ∷ 0x5A ∷ 0x0B ∷ 0x03 ∷ 0x71 ∷ 0xF5 ∷ 0x40 ∷ 0x1F ∷ 0x81 ∷ 0x02 ∷ 0xFF ∷ 0xFF ∷ 0xFF ∷ 0xFF
    ∷ 0x5F ∷ 0x04 ∷ 0x00 ∷ 0x00 ∷ 0x00 ∷ 0x28 ∷ 0x83 ∷ 0x04 ∷ 0x00 ∷ 0x65 ∷ 0xFC ∷ 0x01 ∷ []
row_described = refl

-- the first list of services that fits; an empty one fits, and hides a second one
abbrev cut_list : RawDesc
cut_list = record { tag = 0x41; body = 0x00 ∷ 0x65 ∷ [] }

abbrev list : RawDesc
list = record { tag = 0x41; body = 0x00 ∷ 0x65 ∷ 0x01 ∷ [] }

abbrev empty_list : RawDesc
empty_list = record { tag = 0x41; body = [] }

stream_read : stream_with 1 1 (cut_list ∷ list ∷ empty_list ∷ []) ≡ record stream { descriptors = cut_list ∷ empty_list ∷ [] }
stream_read = refl

list_hidden : stream_with 1 2 (empty_list ∷ list ∷ []) ≡ record { stream = 1; original = 2; cable = None; services = []; descriptors = list ∷ [] }
list_hidden = refl

-- without a network_name the name is empty
no_name : name_of (list ∷ []) ≡ Text []
no_name = refl

-- a second network_name is a further descriptor, and so is a descriptor of any other tag
abbrev named : RawDesc
named = record { tag = 0x40; body = [] }

name_shown : further_of_network (list ∷ named ∷ named ∷ []) ≡ list ∷ named ∷ []
name_shown = refl

-- ---- service 101 of network 1, News of Acme

abbrev news : SdtService
news = record { service = 101; schedule = true; present = true; kind = 1; provider = Text (codes "Acme"); name = Text (codes "News"); descriptors = [] }

row_sdt : sdt_body (record { original = 1; services = news ∷ [] })
    ≡ 0x00 ∷ 0x01 ∷ 0xFF ∷ 0x00 ∷ 0x65 ∷ 0xFF ∷ 0x80 ∷ 0x0D ∷ 0x48 ∷ 0x0B ∷ 0x01 ∷ 0x04 ∷ 0x41 ∷ 0x63 ∷ 0x6D ∷ 0x65 ∷ 0x04 ∷ 0x4E ∷ 0x65 ∷ 0x77 ∷ 0x73 ∷ []
row_sdt = refl

-- the service One of Acme, with a further descriptor, its authority example.com; the bytes are the specification's
abbrev authority : RawDesc
authority = record { tag = 0x73; body = codes "example.com" }

row_authority : sdt_body (record { original = 1; services = record news { name = Text (codes "One"); descriptors = authority ∷ [] } ∷ [] })
    ≡ 0x00 ∷ 0x01 ∷ 0xFF ∷ 0x00 ∷ 0x65 ∷ 0xFF ∷ 0x80 ∷ 0x19
    ∷ 0x48 ∷ 0x0A ∷ 0x01 ∷ 0x04 ∷ 0x41 ∷ 0x63 ∷ 0x6D ∷ 0x65 ∷ 0x03 ∷ 0x4F ∷ 0x6E ∷ 0x65
    ∷ 0x73 ∷ 0x0B ∷ 0x65 ∷ 0x78 ∷ 0x61 ∷ 0x6D ∷ 0x70 ∷ 0x6C ∷ 0x65 ∷ 0x2E ∷ 0x63 ∷ 0x6F ∷ 0x6D ∷ []
row_authority = refl

row_no_services : sdt_body (record { original = 1; services = [] }) ≡ 0x00 ∷ 0x01 ∷ 0xFF ∷ []
row_no_services = refl

-- the two flags are told apart
row_schedule : sdt_body (record { original = 1; services = record { service = 2; schedule = true; present = false; kind = 1; provider = Text []; name = Text []; descriptors = [] } ∷ [] })
    ≡ 0x00 ∷ 0x01 ∷ 0xFF ∷ 0x00 ∷ 0x02 ∷ 0xFE ∷ 0x80 ∷ 0x05 ∷ 0x48 ∷ 0x03 ∷ 0x01 ∷ 0x00 ∷ 0x00 ∷ []
row_schedule = refl

-- the first service_descriptor that fits; without one the type is 0 and the texts are empty
abbrev cut_text : RawDesc
cut_text = record { tag = 0x48; body = 0x01 ∷ 0x00 ∷ [] }

abbrev text : RawDesc
text = record { tag = 0x48; body = 0x01 ∷ 0x04 ∷ 0x41 ∷ 0x63 ∷ 0x6D ∷ 0x65 ∷ 0x04 ∷ 0x4E ∷ 0x65 ∷ 0x77 ∷ 0x73 ∷ [] }

service_read : service_of (0x00 ∷ 0x65 ∷ 0x03 ∷ []) (cut_text ∷ text ∷ []) ≡ record news { descriptors = cut_text ∷ [] }
unfolding chars
service_read = refl

service_bare : service_of (0x00 ∷ 0x65 ∷ 0xFD ∷ []) (cut_text ∷ []) ≡ record { service = 101; schedule = false; present = true; kind = 0; provider = Text []; name = Text []; descriptors = cut_text ∷ [] }
service_bare = refl

-- ---- bytes that are a body, or none

looked_nit : is_nit_body (0xF0 ∷ 0x02 ∷ 0x40 ∷ 0x00 ∷ 0xF0 ∷ 0x08 ∷ 0x00 ∷ 0x01 ∷ 0x00 ∷ 0x01 ∷ 0xF0 ∷ 0x02 ∷ 0x41 ∷ 0x00 ∷ []) ≡ true
looked_nit = refl

-- transport_stream_loop_length leaves a byte over
looked_left_over : is_nit_body (0xF0 ∷ 0x00 ∷ 0xF0 ∷ 0x00 ∷ 0x00 ∷ []) ≡ false
looked_left_over = refl

looked_sdt : is_sdt_body (0x00 ∷ 0x01 ∷ 0xFF ∷ 0x00 ∷ 0x02 ∷ 0xFE ∷ 0x80 ∷ 0x05 ∷ 0x48 ∷ 0x03 ∷ 0x01 ∷ 0x00 ∷ 0x00 ∷ []) ≡ true
looked_sdt = refl

looked_no_services : is_sdt_body (0x00 ∷ 0x01 ∷ 0xFF ∷ []) ≡ true
looked_no_services = refl

-- the descriptor runs past the end of its loop
looked_past : is_sdt_body (0x00 ∷ 0x01 ∷ 0xFF ∷ 0x00 ∷ 0x02 ∷ 0xFE ∷ 0x80 ∷ 0x05 ∷ 0x48 ∷ 0x04 ∷ 0x01 ∷ 0x00 ∷ 0x00 ∷ []) ≡ false
looked_past = refl
