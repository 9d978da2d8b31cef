-- Packets of worked examples.
use Rattle.std.specs.Prelude.{◌≡◌, ℕ, List, [], ◌∷◌, ◌++◌, replicate, codes, Some, refl}
use Rattle.std.specs.Fmt.{digits}
use Rattle.std.specs.Str.{chars}
use Rattle.si_base.specs.Crc.{crc_of, crc_from}
use Rattle.si_time.specs.Readings.{readings_compute}
use Rattle.guide_screen.specs.declared.need.Need.TheVariants.{Pat, Nit, Sdt, Clock, Pmt, Present, Schedule}
use Rattle.guide_screen.specs.declared.need.Heard.TheVariants.{Wanting}
use Rattle.guide_receiver.specs.Guides.{view_of, guide_of}
use Rattle.guide_receiver.specs.Dones.{dones_of}
use Rattle.guide_receiver.specs.Texts.{done_lines}

abbrev pub row_packet : List ℕ
row_packet =
    0x47 ∷ 0x40 ∷ 0x11 ∷ 0x10 ∷ 0x00 ∷ 0x42 ∷ 0xF0 ∷ 0x1E ∷ 0x00 ∷ 0x01 ∷ 0xC1 ∷ 0x00 ∷ 0x00 ∷ 0x00 ∷ 0x01 ∷ 0xFF ∷ 0x00 ∷ 0x65 ∷ 0xFF
    ∷ 0x80 ∷ 0x0D ∷ 0x48 ∷ 0x0B ∷ 0x01 ∷ 0x04 ∷ codes "Acme" ++ 0x04 ∷ codes "News" ++ 0xB5 ∷ 0x82 ∷ 0xAF ∷ 0xDD ∷ replicate 150 0xFF

row_done : done_lines (dones_of (row_packet ∷ [])) ≡ codes "done\t0\t17\t66\t1\t0\t1\t0\n"
unfolding digits crc_of crc_from
row_done = refl

-- heard twice, it shows no second completion: its counter makes the second one a repeat
row_twice : done_lines (dones_of (row_packet ∷ row_packet ∷ [])) ≡ codes "done\t0\t17\t66\t1\t0\t1\t0\n"
unfolding digits crc_of crc_from
row_twice = refl

-- ---- a PAT with the NIT on PID 16 and program 101 on PID 256

abbrev pub row_pat : List ℕ
row_pat =
    0x47 ∷ 0x40 ∷ 0x00 ∷ 0x10 ∷ 0x00 ∷ 0x00 ∷ 0xB0 ∷ 0x11 ∷ 0x00 ∷ 0x01 ∷ 0xC1 ∷ 0x00 ∷ 0x00 ∷ 0x00 ∷ 0x00 ∷ 0xE0 ∷ 0x10
    ∷ 0x00 ∷ 0x65 ∷ 0xE1 ∷ 0x00 ∷ 0xD4 ∷ 0xFA ∷ 0x67 ∷ 0xAA ∷ replicate 163 0xFF

row_pat_done : done_lines (dones_of (row_pat ∷ [])) ≡ codes "done\t0\t0\t0\t1\t0\t0\t0\n"
unfolding digits crc_of crc_from
row_pat_done = refl

-- ---- the SDT with a descriptor that runs past the end of its loop shows nothing

abbrev pub row_broken : List ℕ
row_broken =
    0x47 ∷ 0x40 ∷ 0x11 ∷ 0x10 ∷ 0x00 ∷ 0x42 ∷ 0xF0 ∷ 0x1E ∷ 0x00 ∷ 0x01 ∷ 0xC1 ∷ 0x00 ∷ 0x00 ∷ 0x00 ∷ 0x01 ∷ 0xFF ∷ 0x00 ∷ 0x65 ∷ 0xFF
    ∷ 0x80 ∷ 0x0D ∷ 0x48 ∷ 0x0C ∷ 0x01 ∷ 0x04 ∷ codes "Acme" ++ 0x04 ∷ codes "News" ++ 0xA2 ∷ 0x42 ∷ 0x06 ∷ 0xCF ∷ replicate 150 0xFF

row_broken_none : done_lines (dones_of (row_broken ∷ [])) ≡ []
unfolding digits crc_of crc_from
row_broken_none = refl

-- ---- the heard guide

nothing : guide_of [] ≡ Wanting (Pat ∷ Nit ∷ Sdt ∷ Clock ∷ [])
nothing = refl

row_pat_needs : guide_of (row_pat ∷ []) ≡ Wanting (Nit ∷ Sdt ∷ Clock ∷ Pmt 256 101 ∷ [])
unfolding crc_of crc_from
row_pat_needs = refl

-- the PAT of another stream, with program 102 on PID 257, in the packet with this counter
abbrev pub other_pat : List ℕ
other_pat =
    0x47 ∷ 0x40 ∷ 0x00 ∷ 0x11 ∷ 0x00 ∷ 0x00 ∷ 0xB0 ∷ 0x0D ∷ 0x00 ∷ 0x02 ∷ 0xC1 ∷ 0x00 ∷ 0x00
    ∷ 0x00 ∷ 0x66 ∷ 0xE1 ∷ 0x01 ∷ 0x48 ∷ 0xEF ∷ 0xD0 ∷ 0x21 ∷ replicate 167 0xFF

-- of two PATs that whose completion was shown last
two_pats : guide_of (row_pat ∷ other_pat ∷ []) ≡ Wanting (Nit ∷ Sdt ∷ Clock ∷ Pmt 257 102 ∷ [])
unfolding crc_of crc_from
two_pats = refl

-- the first one heard again with the content that it had shows nothing, and so is not the latest
first_again : guide_of (row_pat ∷ other_pat ∷ row_pat ∷ []) ≡ Wanting (Nit ∷ Sdt ∷ Clock ∷ Pmt 257 102 ∷ [])
unfolding crc_of crc_from
first_again = refl

-- the SDT of the PAT's stream, and that of another one
own_sdt : guide_of (row_packet ∷ row_pat ∷ []) ≡ Wanting (Nit ∷ Clock ∷ Pmt 256 101 ∷ Present 101 ∷ Schedule 101 0x50 ∷ [])
unfolding crc_of crc_from chars
own_sdt = refl

other_sdt : guide_of (row_packet ∷ other_pat ∷ []) ≡ Wanting (Nit ∷ Sdt ∷ Clock ∷ Pmt 257 102 ∷ [])
unfolding crc_of crc_from
other_sdt = refl

-- 1993-10-13T12:45:00Z, 1970-01-01T00:00:00Z, and no time of day
abbrev pub row_tdt : ℕ → List ℕ → List ℕ
row_tdt counter time = 0x47 ∷ 0x40 ∷ 0x14 ∷ counter ∷ 0x00 ∷ 0x70 ∷ 0x70 ∷ 0x05 ∷ time ++ replicate 175 0xFF

abbrev pub annex : List ℕ
annex = row_tdt 0x10 (0xC0 ∷ 0x79 ∷ 0x12 ∷ 0x45 ∷ 0x00 ∷ [])

abbrev pub epoch : List ℕ
epoch = row_tdt 0x11 (0x9E ∷ 0x8B ∷ 0x00 ∷ 0x00 ∷ 0x00 ∷ [])

abbrev pub no_hour : List ℕ
no_hour = row_tdt 0x12 (0xC0 ∷ 0x79 ∷ 0x24 ∷ 0x00 ∷ 0x00 ∷ [])

last_tdt : (view_of (annex ∷ epoch ∷ no_hour ∷ [])).clock ≡ Some 3506716800
unfolding readings_compute
last_tdt = refl
