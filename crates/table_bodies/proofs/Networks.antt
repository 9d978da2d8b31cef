-- Written networks read back.
use Rattle.std.proofs.Common.{◌≡◌, ◌∙◌, ℕ, ◌+◌, ◌*◌, ◌/◌, ◌%◌, ◌<◌, ◌≤◌, true, false, List, [], ◌∷◌, ◌++◌, length, sum_by, Option, Some, None, IfSome, refl, ap, ap₂, arith, le-leb, length-append}
use Rattle.std.specs.Prelude.{◌==◌, is_some, option_and_then}
use Rattle.std.specs.Option.{unwrap_or}
use Rattle.std.specs.List.{flat_map, AllByRecursion}
use Rattle.std.specs.Cmp.Derive.{both_true}
use Rattle.std.proofs.lemmas.Bool.{cond-true, eq-eqb}
use Rattle.std.proofs.lemmas.List.{map-id}
use Rattle.std.proofs.lemmas.List.Concat.{length-flat_map}
use Rattle.std.proofs.lemmas.List.Elements.{recursion_from_All}
use Rattle.si_lists.proofs.Lists.{all_map}
use Rattle.si_base.specs.Fields.{two}
use Rattle.guide_model.specs.Decoding.{shown_bytes}
use Rattle.guide_model.specs.Descriptors.{descriptors_size}
use Rattle.guide_model.specs.declared.shown.Shown.{Shown}
use Rattle.guide_model.specs.declared.stream.Cable.{Cable}
use Rattle.guide_model.specs.declared.descriptor.RawDesc.{RawDesc}
use Rattle.descriptors.specs.declared.service_list.ServiceKind.{ServiceKind}
use Rattle.descriptors.specs.Descriptors.{descriptors_bytes}
use Rattle.descriptors.specs.CableDelivery.{cable_body, cable_in, FitsCable, CableReadsBack}
use Rattle.descriptors.specs.NetworkName.{network_name}
use Rattle.descriptors.specs.ServiceList.{service_list, service_list_body, service_list_in}
use Rattle.descriptors.proofs.Loops.{length-descriptors_bytes}
use Rattle.descriptors.proofs.ServiceEntries.{length-service_list_body, service_list-reads_back}
use Rattle.table_bodies.specs.Entries.{entry_bytes, FitsEntry, EntryParts, descriptors_in, made, value_in, entries_in}
use Rattle.descriptors.specs.First.{without_first, always}
use Rattle.table_bodies.proofs.Steps.{made_test}
use Rattle.table_bodies.proofs.FirstOnes.{first_front, without_front, none_first, none_without}
use Rattle.table_bodies.proofs.EntryWritten.{descs_back, parts_of, split_back, entries_back, entries_read}
use Rattle.table_bodies.proofs.Words.{word_back}
use Rattle.table_bodies.specs.declared.nit.NitStream.{NitStream}
use Rattle.table_bodies.specs.declared.nit.Nit.{Nit}
use Rattle.table_bodies.specs.Nit.{cable_descriptors, stream_entry, stream_bytes, bare_entry, network_entry, network_in, services_of, stream_in, is_loop, loop_in, nit_with, nit_in, nit_body, cable_size, stream_size, FitsStream, HasNetworkRoom, HasStreamWidths}
use Rattle.table_bodies.specs.Nit.{NitHasItsSize, NitReadsBack, WrittenNitsAreRead}

-- ---- sizes

length-cable : (c : Option Cable) → length (cable_descriptors c) ≡ cable_size c
length-cable None = refl
length-cable (Some c) = refl

-- the descriptor of a cable is short
pub cable_small : (c : Option Cable) → cable_size c ≤ 13
cable_small None = omega arith
cable_small (Some c) = omega arith

pub length-descriptors : (c : Option Cable) (ks : List ServiceKind) (ds : List RawDesc)
    → length (cable_descriptors c ++ service_list ks ++ descriptors_bytes ds) ≡ cable_size c + (2 + 3 * length ks) + descriptors_size ds
length-descriptors c ks ds =
    omega (
      arith,
      length-append (cable_descriptors c ++ service_list ks) (descriptors_bytes ds),
      length-append (cable_descriptors c) (service_list ks),
      length-service_list_body ks,
      length-cable c,
      length-descriptors_bytes ds,
    )

length-stream : (s : NitStream) → length (stream_bytes s) ≡ stream_size s
length-stream s = omega (arith, length-descriptors s.cable s.services s.descriptors)

pub length-streams : (ss : List NitStream) → length (flat_map stream_bytes ss) ≡ sum_by stream_size ss
length-streams ss = length-flat_map stream_bytes ss ∙ (λ i. sum_by (λ (s : NitStream). length-stream s i) ss)

pub length-network : (name : Shown) (ds : List RawDesc)
    → length (network_name name ++ descriptors_bytes ds) ≡ 2 + length (shown_bytes name) + descriptors_size ds
length-network name ds = omega (arith, length-append (network_name name) (descriptors_bytes ds), length-descriptors_bytes ds)

pub nit-has_its_size : NitHasItsSize
nit-has_its_size n =
    let both = length-append (entry_bytes (network_entry n)) (entry_bytes (bare_entry (flat_map stream_bytes n.streams))) in
    omega (arith, both, length-network n.name n.descriptors, length-streams n.streams)

-- ---- written, and read back

same_stream : (s t o p : ℕ) (c d : Option Cable) (ks ls : List ServiceKind) (ds es : List RawDesc) → s ≡ t → o ≡ p → c ≡ d → ks ≡ ls → ds ≡ es
    → (let a : NitStream = record { stream = s; original = o; cable = c; services = ks; descriptors = ds } in
    let b : NitStream = record { stream = t; original = p; cable = d; services = ls; descriptors = es } in a ≡ b)
same_stream s t o p c d ks ls ds es e f g h j = λ i. record { stream = e i; original = f i; cable = g i; services = h i; descriptors = j i }

abbrev list_desc : List ServiceKind → RawDesc
list_desc ks = record { tag = 0x41; body = service_list_body ks }

abbrev cable_desc : Cable → RawDesc
cable_desc c = record { tag = 0x44; body = cable_body c }

abbrev name_desc : Shown → RawDesc
name_desc name = record { tag = 0x40; body = shown_bytes name }

-- the descriptors of a stream
abbrev stream_descs : Option Cable → List ServiceKind → List RawDesc → List RawDesc
stream_descs None ks ds = list_desc ks ∷ ds
stream_descs (Some c) ks ds = cable_desc c ∷ list_desc ks ∷ ds

stream_descs_back : (c : Option Cable) (ks : List ServiceKind) (ds : List RawDesc)
    → descriptors_in (cable_descriptors c ++ service_list ks ++ descriptors_bytes ds) ≡ Some (stream_descs c ks ds)
stream_descs_back None ks ds = descs_back (list_desc ks ∷ ds)
stream_descs_back (Some c) ks ds = descs_back (cable_desc c ∷ list_desc ks ∷ ds)

-- what is read of a stream, by its descriptors
read_by : (s : NitStream)
    → value_in stream_in (parts_of (stream_entry s)) ≡ stream_in (stream_entry s).fields (stream_descs s.cable s.services s.descriptors)
read_by s = ap (option_and_then (stream_in (stream_entry s).fields)) (stream_descs_back s.cable s.services s.descriptors)

-- the list of services is the first one, and nothing else is left of it
list_first : (ks : List ServiceKind) (ds : List RawDesc) → AllByRecursion (λ k. k.service < 65536) ks → services_of (list_desc ks ∷ ds) ≡ ks
list_first ks ds words =
    ap (λ read. unwrap_or read []) (first_front 0x41 service_list_in (list_desc ks) ds ks (service_list-reads_back ks words))

list_shown : (ks : List ServiceKind) (ds : List RawDesc) → AllByRecursion (λ k. k.service < 65536) ks
    → without_first 0x41 service_list_in always (list_desc ks ∷ ds) ≡ ds
list_shown ks ds words = without_front 0x41 service_list_in always (list_desc ks) ds ks (service_list-reads_back ks words) refl

stream_back : CableReadsBack → (s o : ℕ) (c : Option Cable) (ks : List ServiceKind) (ds : List RawDesc) → s < 65536 → o < 65536
    → IfSome c FitsCable → AllByRecursion (λ k. k.service < 65536) ks → AllByRecursion (λ (d : RawDesc). (d.tag == 0x44) ≡ false) ds
    → stream_in (two s ++ two o) (stream_descs c ks ds)
    ≡ Some (record { stream = s; original = o; cable = c; services = ks; descriptors = ds })
stream_back back s o None ks ds ls lo digits words none =
    let kept : without_first 0x44 cable_in always ds ≡ ds = none_without 0x44 cable_in always ds none in
    let left = ap (λ (more : List RawDesc). without_first 0x41 service_list_in always (list_desc ks ∷ more)) kept in
    ap (λ x. Some x) (same_stream _ s _ o _ None _ ks _ ds (word_back s ls) (word_back o lo) (none_first 0x44 cable_in ds none)
    (list_first ks ds words) (left ∙ list_shown ks ds words))
stream_back back s o (Some c) ks ds ls lo digits words none =
    let rest : List RawDesc = list_desc ks ∷ ds in
    let cable = first_front 0x44 cable_in (cable_desc c) rest c (back c digits) in
    let kept = without_front 0x44 cable_in always (cable_desc c) rest c (back c digits) refl in
    ap (λ x. Some x) (same_stream _ s _ o _ (Some c) _ ks _ ds (word_back s ls) (word_back o lo) cable
    (list_first ks ds words) (ap (without_first 0x41 service_list_in always) kept ∙ list_shown ks ds words))

stream_fits : (s : NitStream) → FitsStream s → FitsEntry 4 (stream_entry s)
stream_fits s fits = record {
  fields = refl;
  bits = omega arith;
  descriptors = omega (arith, fits.room, length-descriptors s.cable s.services s.descriptors);
}

abbrev IsBack : NitStream → Type 0
IsBack s = FitsEntry 4 (stream_entry s) × (value_in stream_in (parts_of (stream_entry s)) ≡ Some s)

each_back : CableReadsBack → (s : NitStream) → HasStreamWidths s → IsBack s
each_back back s has = (
  stream_fits s has.fits,
  read_by s
      ∙ stream_back back s.stream s.original s.cable s.services s.descriptors has.stream has.original has.fits.cable has.services has.no_cable,
)

abbrev IsRead : NitStream → Type 0
IsRead s = FitsEntry 4 (stream_entry s) × (is_some (value_in stream_in (parts_of (stream_entry s))) ≡ true)

each_read : (s : NitStream) → FitsStream s → IsRead s
each_read s fits = (stream_fits s fits, ap is_some (read_by s))

-- bytes after their length of 12 bits, whatever the four bits before it
loop_back : (bits : ℕ) (loop : List ℕ) → bits < 16 → length loop < 4096 → loop_in (two (4096 * bits + length loop) ++ loop) ≡ Some loop
loop_back bits loop width within =
    let told = 4096 * bits + length loop in
    let tells : length loop ≡ (256 * (told / 256 % 256) + told % 256) % 4096 = omega (arith, width, within) in
    cond-true (is_loop (two told ++ loop)) _ None (both_true (le-leb 2 (length (two told ++ loop)) (omega arith)) (eq-eqb _ _ tells))

-- a written body is read by its descriptors and its streams
nit_by : (n : Nit) → HasNetworkRoom n → sum_by stream_size n.streams < 4096
    → nit_in (nit_body n)
    ≡ made nit_with (network_in [] (name_desc n.name ∷ n.descriptors)) (entries_in 4 stream_in (flat_map stream_bytes n.streams))
nit_by n room within =
    let streams = flat_map stream_bytes n.streams in
    ap (option_and_then (λ (parts : EntryParts × List ℕ). made nit_with (value_in network_in parts.0) (option_and_then (entries_in 4 stream_in) (loop_in parts.1))))
    (split_back 0 (network_entry n) (entry_bytes (bare_entry streams))
    (record { fields = refl; bits = omega arith; descriptors = omega (arith, room, length-network n.name n.descriptors) }))
    ∙ ap₂ (λ (descs : Option (List RawDesc)) (loop : Option (List ℕ)). made nit_with (option_and_then (network_in []) descs) (option_and_then (entries_in 4 stream_in) loop))
    (descs_back (name_desc n.name ∷ n.descriptors))
    (loop_back 15 streams (omega arith) (omega (arith, within, length-streams n.streams)))

pub nit-reads_back : CableReadsBack → NitReadsBack
nit-reads_back back n fits =
    nit_by n fits.room fits.within
    ∙ ap (made nit_with (network_in [] (name_desc n.name ∷ n.descriptors)))
    (entries_back 4 stream_in stream_entry (λ s. s) n.streams (all_map HasStreamWidths IsBack (each_back back) n.streams fits.streams)
    ∙ ap (λ (ss : List NitStream). Some ss) (map-id n.streams))
    ∙ (λ i. Some (record { name = fits.shown i; descriptors = n.descriptors; streams = n.streams }))

pub written_nits : WrittenNitsAreRead
written_nits n can =
    ap is_some (nit_by n can.room can.within)
    ∙ made_test nit_with (network_in [] (name_desc n.name ∷ n.descriptors)) (entries_in 4 stream_in (flat_map stream_bytes n.streams))
    ∙ entries_read 4 stream_in stream_entry n.streams (all_map FitsStream IsRead each_read n.streams (recursion_from_All FitsStream n.streams can.streams))
