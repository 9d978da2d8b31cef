-- Worked descriptors of services.
use Rattle.std.specs.Prelude.{◌≡◌, [], ◌∷◌, Some, None, refl, codes}
use Rattle.std.specs.Str.{chars}
use Rattle.guide_model.specs.declared.shown.Shown.TheVariants.{Text}
use Rattle.guide_model.specs.declared.stream.Cable.{Cable}
use Rattle.descriptors.specs.declared.service.ServiceText.{ServiceText}
use Rattle.descriptors.specs.Languages.{iso_639_language, languages_in}
use Rattle.descriptors.specs.NetworkName.{network_name}
use Rattle.descriptors.specs.ServiceList.{service_list, service_list_in}
use Rattle.descriptors.specs.CableDelivery.{cable_delivery_system, cable_in}
use Rattle.descriptors.specs.Service.{service_descriptor, service_in}

-- ---- languages

row_language : iso_639_language (codes "eng" ∷ []) ≡ 0x0A ∷ 0x04 ∷ 0x65 ∷ 0x6E ∷ 0x67 ∷ 0x00 ∷ []
row_language = refl

languages_read : languages_in (0x65 ∷ 0x6E ∷ 0x67 ∷ 0x03 ∷ 0x64 ∷ 0x65 ∷ 0x75 ∷ 0x00 ∷ []) ≡ Some (codes "eng" ∷ codes "deu" ∷ [])
unfolding chars
languages_read = refl

-- a body of 5 bytes ends within its second entry
languages_cut : languages_in (0x65 ∷ 0x6E ∷ 0x67 ∷ 0x00 ∷ 0x64 ∷ []) ≡ None
languages_cut = refl

-- ---- the network Demo, and its one service 101 of type 1

row_network : network_name (Text (codes "Demo")) ≡ 0x40 ∷ 0x04 ∷ 0x44 ∷ 0x65 ∷ 0x6D ∷ 0x6F ∷ []
row_network = refl

row_service_list : service_list (record { service = 101; kind = 1 } ∷ []) ≡ 0x41 ∷ 0x03 ∷ 0x00 ∷ 0x65 ∷ 0x01 ∷ []
row_service_list = refl

service_list_read : service_list_in (0x01 ∷ 0x02 ∷ 0x19 ∷ []) ≡ Some (record { service = 258; kind = 25 } ∷ [])
service_list_read = refl

-- ---- 346.0000 MHz, modulation 3, 6.9000 Msymbol/s, outer 2, inner 15

abbrev cable : Cable
cable = record { frequency = 3460000; modulation = 3; symbol_rate = 69000; fec_outer = 2; fec_inner = 15 }

row_cable : cable_delivery_system cable ≡ 0x44 ∷ 0x0B ∷ 0x03 ∷ 0x46 ∷ 0x00 ∷ 0x00 ∷ 0xFF ∷ 0xF2 ∷ 0x03 ∷ 0x00 ∷ 0x69 ∷ 0x00 ∷ 0x0F ∷ []
row_cable = refl

cable_read : cable_in (0x03 ∷ 0x46 ∷ 0x00 ∷ 0x00 ∷ 0x00 ∷ 0x02 ∷ 0x03 ∷ 0x00 ∷ 0x69 ∷ 0x00 ∷ 0x0F ∷ []) ≡ Some cable
cable_read = refl

-- a digit above 9 in the frequency, and one in the symbol rate
frequency_hex : cable_in (0x03 ∷ 0x4A ∷ 0x00 ∷ 0x00 ∷ 0xFF ∷ 0xF2 ∷ 0x03 ∷ 0x00 ∷ 0x69 ∷ 0x00 ∷ 0x0F ∷ []) ≡ None
frequency_hex = refl

symbol_rate_hex : cable_in (0x03 ∷ 0x46 ∷ 0x00 ∷ 0x00 ∷ 0xFF ∷ 0xF2 ∷ 0x03 ∷ 0x00 ∷ 0x69 ∷ 0x00 ∷ 0xAF ∷ []) ≡ None
symbol_rate_hex = refl

cable_longer : cable_in (0x03 ∷ 0x46 ∷ 0x00 ∷ 0x00 ∷ 0xFF ∷ 0xF2 ∷ 0x03 ∷ 0x00 ∷ 0x69 ∷ 0x00 ∷ 0x0F ∷ 0x00 ∷ []) ≡ None
cable_longer = refl

-- ---- the service News of Acme

abbrev news : ServiceText
news = record { kind = 1; provider = Text (codes "Acme"); name = Text (codes "News") }

row_service : service_descriptor news ≡ 0x48 ∷ 0x0B ∷ 0x01 ∷ 0x04 ∷ 0x41 ∷ 0x63 ∷ 0x6D ∷ 0x65 ∷ 0x04 ∷ 0x4E ∷ 0x65 ∷ 0x77 ∷ 0x73 ∷ []
row_service = refl

service_read : service_in (0x01 ∷ 0x04 ∷ 0x41 ∷ 0x63 ∷ 0x6D ∷ 0x65 ∷ 0x04 ∷ 0x4E ∷ 0x65 ∷ 0x77 ∷ 0x73 ∷ []) ≡ Some news
unfolding chars
service_read = refl

-- a name that runs past the end, a byte left over, and no name
service_past : service_in (0x01 ∷ 0x00 ∷ 0x02 ∷ 0x4E ∷ []) ≡ None
service_past = refl

service_longer : service_in (0x01 ∷ 0x00 ∷ 0x01 ∷ 0x4E ∷ 0x00 ∷ []) ≡ None
service_longer = refl

service_cut : service_in (0x01 ∷ 0x00 ∷ []) ≡ None
service_cut = refl
