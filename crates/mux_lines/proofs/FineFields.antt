-- A line says only what is in its range, with texts that may be kept.
use Rattle.std.proofs.Common.{◌≡◌, ℕ, ◌+◌, ◌*◌, ◌<◌, ◌≤◌, ◌==◌, Bool, true, false, List, [], ◌∷◌, length, map, sum_by, Option, Some, None, refl, sym, subst, arith, lit≤}
use Rattle.std.specs.Prelude.{◌&&◌, nat_le, not, codes, if◌then◌else◌}
use Rattle.std.specs.List.{AllByRecursion, slice_split}
use Rattle.std.proofs.lemmas.Bool.Decides.{nat_tests}
use Rattle.si_lists.proofs.Truths.{first_true, second_true}
use Rattle.guide_model.specs.Coding.{coded_size}
use Rattle.guide_model.specs.Decoding.{IsKept}
use Rattle.si_time.specs.Readings.{moment_in}
use Rattle.si_time.proofs.TextFacts.{moment_in-is}
use Rattle.input_lines.specs.Fields.{is_line, line_fields}
use Rattle.input_lines.specs.Numbers.{in_range, is_word, numeral_of}
use Rattle.input_lines.proofs.CleanLines.{is_line_back, line_kept}
use Rattle.guide_model.specs.declared.stream.Component.{Component}
use Rattle.guide_model.specs.declared.descriptor.RawDesc.{RawDesc}
use Rattle.guide_model.specs.Descriptors.{descriptors_size, AreSoundDescriptors, is_among, is_free}
use Rattle.mux_model.specs.Rooms.{component_size, made_of_service}
use Rattle.mux_model.specs.declared.mux.MuxService.{MuxService}
use Rattle.mux_model.specs.declared.mux.RemoteService.{RemoteService}
use Rattle.mux_model.specs.Sound.{AreDifferent, Between, HasSoundLanguage, IsSoundCable, IsSoundComponent, IsSoundRemote, IsSoundService, farthest}
use Rattle.mux_lines.specs.declared.rows.Numbers.{Numbers}
use Rattle.mux_lines.specs.declared.rows.RemoteNumbers.{RemoteNumbers}
use Rattle.mux_lines.specs.declared.record.Place.{Place}
use Rattle.mux_lines.specs.declared.record.Place.TheVariants.{InNetwork, InStream}
use Rattle.mux_lines.specs.declared.record.Record.{Record}
use Rattle.mux_lines.specs.declared.record.Record.TheVariants.{Network, Stream, Delivery, Service, Part, Quota, Rate, Local, Elsewhere, Remote, Further, End}
use Rattle.mux_lines.specs.declared.record.RecordFound.{RecordFound}
use Rattle.mux_lines.specs.declared.record.RecordFound.TheVariants.{NoRecord, Is}
use Rattle.mux_lines.specs.Found.{found_with, within}
use Rattle.input_lines.specs.Groups.{descriptors_in}
use Rattle.mux_lines.specs.Further.{are_free, component_place, further_of, in_loop, made_in, of_id, of_pair, other_place, program_place, service_place}
use Rattle.input_lines.proofs.GroupFacts.{IsRead, each_read}
use Rattle.mux_lines.specs.Fields.{are_ids, cabled_in, is_remote_in_range, other_by, other_in, remote_by, remote_in, remote_numbers_in, remote_of, cable_with, found_fields, found_in, found_line, is_language, is_letter, is_service_in_range, language_of, network_in, stream_in, cable_in, numbers_in, service_of, service_in, bare_service, part_in, is_capital, country_of, side_of, offset_with, offset_in, start_with, start_in, quota_in, rate_in}
use Rattle.mux_lines.specs.Fine.{IsFine, IsFineFound}

-- ---- numbers in their ranges

bounds : (low high n : ℕ) → in_range low high n ≡ true → Between low high n
bounds low high n e =
    let a = first_true (nat_le low n) (nat_le n high) e in
    let b = second_true (nat_le low n) (nat_le n high) e in
    (grind (arith, nat_tests), grind (arith, nat_tests))

-- two bytes, where the range goes to 65535
short_bound : (low n : ℕ) → in_range low 65535 n ≡ true → n < 65536
short_bound low n e = let b = bounds low 65535 n e in omega (arith, b.1)

-- ---- what is found in a line

fine_if : (b : Bool) (x y : RecordFound) → IsFineFound x → IsFineFound y → IsFineFound (if b then x else y)
fine_if true x y h k = h
fine_if false x y h k = k

fine_within : (fits : Bool) (says : Record) → (fits ≡ true → IsFine says) → IsFineFound (within fits says)
fine_within true says h = h refl
fine_within false says h = tt

fine_with : (o : Option ℕ) (next : ℕ → RecordFound) → ((n : ℕ) → IsFineFound (next n)) → IsFineFound (found_with o next)
fine_with None next h = tt
fine_with (Some n) next h = h n

fine_network : (id name : List ℕ) → IsKept name → IsFineFound (network_in id name)
fine_network id name kept = fine_with (numeral_of id) _ (λ n. fine_within (in_range 0 65535 n && in_range 1 100 (coded_size name)) (Network n name) (λ e. (
  short_bound 0 n (first_true (in_range 0 65535 n) (in_range 1 100 (coded_size name)) e),
  (bounds 1 100 (coded_size name) (second_true (in_range 0 65535 n) (in_range 1 100 (coded_size name)) e), kept),
)))

fine_stream : (id original : List ℕ) → IsFineFound (stream_in id original)
fine_stream id original = fine_with (numeral_of id) _ (λ n. fine_with (numeral_of original) _ (λ o. fine_within (in_range 0 65535 n && in_range 0 65535 o) (Stream n o) (λ e. (
  short_bound 0 n (first_true (in_range 0 65535 n) (in_range 0 65535 o) e),
  short_bound 0 o (second_true (in_range 0 65535 n) (in_range 0 65535 o) e),
))))

sound_cable : (f m s o i : ℕ) → (in_range 0 99999999 f && (in_range 0 255 m && (in_range 0 9999999 s && (in_range 0 15 o && in_range 0 15 i)))) ≡ true → IsSoundCable (cable_with f m s o i)
sound_cable f m s o i e =
    let behind = second_true (in_range 0 99999999 f) _ e in
    let rates = second_true (in_range 0 255 m) _ behind in
    let protections = second_true (in_range 0 9999999 s) _ rates in
    record {
      frequency = (bounds 0 99999999 f (first_true (in_range 0 99999999 f) _ e)).1;
      symbol_rate = (bounds 0 9999999 s (first_true (in_range 0 9999999 s) _ rates)).1;
      fec_outer = (bounds 0 15 o (first_true (in_range 0 15 o) _ protections)).1;
      fec_inner = (bounds 0 15 i (second_true (in_range 0 15 o) _ protections)).1;
    }

fine_cable : (frequency modulation rate outer inner : List ℕ) → IsFineFound (cable_in frequency modulation rate outer inner)
fine_cable frequency modulation rate outer inner =
    fine_with (numeral_of frequency) _ (λ f. fine_with (numeral_of modulation) _ (λ m. fine_with (numeral_of rate) _ (λ s. fine_with (numeral_of outer) _ (λ o. fine_with (numeral_of inner) _ (λ i. fine_within _ (Delivery (cable_with f m s o i)) (sound_cable f m s o i))))))

-- a service that has no components yet
sound_service : (s : MuxService) → s.components ≡ [] → (s.descriptors ≡ []) × (s.program_descriptors ≡ []) → is_service_in_range s ≡ true → IsSoundService s
sound_service s none bare e =
    let numbers = first_true _ (in_range 0 100 (coded_size s.provider) && in_range 1 100 (coded_size s.name)) e in
    let names = second_true (in_range 1 65535 s.service && (in_range 1 16 s.feed && (in_range 0 255 s.kind && (in_range 32 8190 s.pmt_pid && in_range 32 8191 s.pcr_pid)))) _ e in
    let feeds = second_true (in_range 1 65535 s.service) _ numbers in
    let kinds = second_true (in_range 1 16 s.feed) _ feeds in
    let pids = second_true (in_range 0 255 s.kind) _ kinds in
    record {
      service = bounds 1 65535 s.service (first_true (in_range 1 65535 s.service) _ numbers);
      feed = bounds 1 16 s.feed (first_true (in_range 1 16 s.feed) _ feeds);
      pmt_pid = bounds 32 8190 s.pmt_pid (first_true (in_range 32 8190 s.pmt_pid) _ pids);
      pcr_pid = bounds 32 8191 s.pcr_pid (second_true (in_range 32 8190 s.pmt_pid) _ pids);
      provider = (bounds 0 100 (coded_size s.provider) (first_true (in_range 0 100 (coded_size s.provider)) _ names)).1;
      name = bounds 1 100 (coded_size s.name) (second_true (in_range 0 100 (coded_size s.provider)) _ names);
      count = subst (λ (cs : List Component). length cs ≤ 16) (sym none) (lit≤ tt);
      components = subst (AllByRecursion IsSoundComponent) (sym none) tt;
      components_once = subst (λ (cs : List Component). AreDifferent (map (λ (x : Component). x.pid) cs)) (sym none) tt;
      descriptors = subst (AreSoundDescriptors made_of_service) (sym bare.0) tt;
      room = subst (λ (ds : List RawDesc). descriptors_size ds ≤ 799) (sym bare.0) (lit≤ tt);
      program_descriptors = subst (AreSoundDescriptors []) (sym bare.1) tt;
      program_room = subst (λ (cs : List Component). 4 + descriptors_size s.program_descriptors + sum_by component_size cs ≤ 1012) (sym none)
          (subst (λ (ds : List RawDesc). 4 + descriptors_size ds + 0 ≤ 1012) (sym bare.1) (lit≤ tt));
    }

fine_service : (o : Option Numbers) (provider name : List ℕ) → IsKept provider → IsKept name → IsFineFound (service_of o provider name)
fine_service None provider name p n = tt
fine_service (Some numbers) provider name p n =
    let s = bare_service numbers.service numbers.feed numbers.kind numbers.pmt_pid numbers.pcr_pid provider name in
    fine_within (is_service_in_range s) (Service s) (λ e. (sound_service s refl (refl, refl) e, (p, n)))

sound_language : (letters : List ℕ) → is_language letters ≡ true → HasSoundLanguage (language_of letters)
sound_language [] e = tt
sound_language (a ∷ b ∷ c ∷ []) e =
    let behind = second_true (is_letter a) _ e in
    let one = bounds 97 122 a (first_true (is_letter a) _ e) in
    let two = bounds 97 122 b (first_true (is_letter b) _ behind) in
    let three = bounds 97 122 c (second_true (is_letter b) _ behind) in
    (refl, (one, (two, (three, tt))))
sound_language other e = cc e

sound_part : (s k p : ℕ) (language : List ℕ) → ((in_range 0 65535 s && (in_range 0 255 k && in_range 32 8190 p)) && is_language language) ≡ true → IsFine (Part s (record { stream_type = k; pid = p; language = language_of language; descriptors = [] }))
sound_part s k p language e =
    let numbers = first_true (in_range 0 65535 s && (in_range 0 255 k && in_range 32 8190 p)) (is_language language) e in
    record {
      pid = bounds 32 8190 p (second_true (in_range 0 255 k) _ (second_true (in_range 0 65535 s) _ numbers));
      language = sound_language language (second_true (in_range 0 65535 s && (in_range 0 255 k && in_range 32 8190 p)) _ e);
      descriptors = tt;
    }

ids_bound : (s o : ℕ) → are_ids s o ≡ true → (s < 65536) × (o < 65536)
ids_bound s o e = (short_bound 0 s (first_true (in_range 0 65535 s) (in_range 0 65535 o) e), short_bound 0 o (second_true (in_range 0 65535 s) (in_range 0 65535 o) e))

fine_other : (stream original : List ℕ) → IsFineFound (other_in stream original)
fine_other stream original =
    fine_with (numeral_of stream) _ (λ s. fine_with (numeral_of original) _ (λ o. fine_within (are_ids s o) (Elsewhere s o None) (λ e. (ids_bound s o e, tt))))

fine_by : (s o : ℕ) (found : RecordFound) → IsFineFound found → IsFineFound (other_by s o found)
fine_by s o (Is (Delivery cable)) h = fine_within (are_ids s o) (Elsewhere s o (Some cable)) (λ e. (ids_bound s o e, h))
fine_by s o other h = h

fine_cabled : (stream original frequency modulation rate outer inner : List ℕ) → IsFineFound (cabled_in stream original frequency modulation rate outer inner)
fine_cabled stream original frequency modulation rate outer inner =
    fine_with (numeral_of stream) _ (λ s. fine_with (numeral_of original) _ (λ o. fine_by s o (cable_in frequency modulation rate outer inner) (fine_cable frequency modulation rate outer inner)))

-- a service of another stream that has no further descriptors yet
sound_remote : (s : RemoteService) → s.descriptors ≡ [] → is_remote_in_range s ≡ true → IsSoundRemote s
sound_remote s bare e =
    let numbers = first_true (in_range 1 65535 s.service && (in_range 1 16 s.feed && in_range 0 255 s.kind)) (in_range 0 100 (coded_size s.provider) && in_range 1 100 (coded_size s.name)) e in
    let names = second_true (in_range 1 65535 s.service && (in_range 1 16 s.feed && in_range 0 255 s.kind)) (in_range 0 100 (coded_size s.provider) && in_range 1 100 (coded_size s.name)) e in
    let feeds = second_true (in_range 1 65535 s.service) (in_range 1 16 s.feed && in_range 0 255 s.kind) numbers in
    record {
      service = bounds 1 65535 s.service (first_true (in_range 1 65535 s.service) (in_range 1 16 s.feed && in_range 0 255 s.kind) numbers);
      feed = bounds 1 16 s.feed (first_true (in_range 1 16 s.feed) (in_range 0 255 s.kind) feeds);
      provider = (bounds 0 100 (coded_size s.provider) (first_true (in_range 0 100 (coded_size s.provider)) (in_range 1 100 (coded_size s.name)) names)).1;
      name = bounds 1 100 (coded_size s.name) (second_true (in_range 0 100 (coded_size s.provider)) (in_range 1 100 (coded_size s.name)) names);
      descriptors = subst (AreSoundDescriptors made_of_service) (sym bare) tt;
      room = subst (λ (ds : List RawDesc). descriptors_size ds ≤ 799) (sym bare) (lit≤ tt);
    }

fine_remote : (o : Option RemoteNumbers) (provider name : List ℕ) → IsKept provider → IsKept name → IsFineFound (remote_of o provider name)
fine_remote None provider name p n = tt
fine_remote (Some numbers) provider name p n =
    let service = remote_by numbers.service numbers.feed numbers.kind provider name in
    let test = are_ids numbers.stream numbers.original in
    fine_within (test && is_remote_in_range service) (Remote numbers.stream numbers.original service)
    (λ e. (sound_remote service refl (second_true test (is_remote_in_range service) e), (p, n)))

fine_part : (service kind pid language : List ℕ) → IsFineFound (part_in service kind pid language)
fine_part service kind pid language = fine_with (numeral_of service) _ (λ s. fine_with (numeral_of kind) _ (λ k. fine_with (numeral_of pid) _ (λ p. fine_within _ _ (sound_part s k p language))))

fine_moment : (o : Option ℕ) → ((t : ℕ) → o ≡ Some t → t < 65536 * 86400) → IsFineFound (start_with o)
fine_moment None h = tt
fine_moment (Some t) h = h t refl

fine_start : (moment : List ℕ) → IsFineFound (start_in moment)
fine_start moment = fine_moment (moment_in moment) (λ t e. (moment_in-is moment t e).0)

-- a country is three letters A to Z
abbrev IsCountry : List ℕ → Type 0
IsCountry letters = (length letters ≡ 3) × AllByRecursion (Between 65 90) letters

capitals : (b : Bool) (letters other : List ℕ) → (b ≡ true → IsCountry letters) → (if b then Some letters else None) ≡ Some other → IsCountry other
capitals true letters other h e = (let same : letters ≡ other = cc e in subst IsCountry same (h refl))
capitals false letters other h e = cc e

sound_country : (field letters : List ℕ) → country_of field ≡ Some letters → IsCountry letters
sound_country (a ∷ b ∷ c ∷ []) letters e = capitals (is_capital a && (is_capital b && is_capital c)) (a ∷ b ∷ c ∷ []) letters
    (λ all.
    let behind = second_true (is_capital a) _ all in
    let one = bounds 65 90 a (first_true (is_capital a) _ all) in
    let two = bounds 65 90 b (first_true (is_capital b) _ behind) in
    let three = bounds 65 90 c (second_true (is_capital b) _ behind) in
    (refl, (one, (two, (three, tt))))) e
sound_country other letters e = cc e

fine_local : (country : Option (List ℕ)) (region : ℕ) (side : Option Bool) (minutes : ℕ) (change : Option ℕ) (next : ℕ) → ((letters : List ℕ) → country ≡ Some letters → IsCountry letters)
    → ((t : ℕ) → change ≡ Some t → t < 65536 * 86400) → IsFineFound (offset_with country region side minutes change next)
fine_local None region side minutes change next letters at = tt
fine_local (Some country) region None minutes change next letters at = tt
fine_local (Some country) region (Some behind) minutes None next letters at = tt
fine_local (Some country) region (Some behind) minutes (Some change) next letters at =
    fine_within _ (Local (record { country = country; region = region; behind = behind; minutes = minutes; change = record { 0 = change }; next = next }))
    (λ e.
    let both = second_true (in_range 0 63 region) _ e in
    record {
      country = letters country refl;
      region = (bounds 0 63 region (first_true (in_range 0 63 region) _ e)).1;
      minutes = (bounds 0 (farthest behind) minutes (first_true (in_range 0 (farthest behind) minutes) _ both)).1;
      change = at change refl;
      next = (bounds 0 (farthest behind) next (second_true (in_range 0 (farthest behind) minutes) _ both)).1;
    })

fine_offset : (country region side minutes change next : List ℕ) → IsFineFound (offset_in country region side minutes change next)
fine_offset country region side minutes change next =
    fine_with (numeral_of region) _ (λ r. fine_with (numeral_of minutes) _ (λ m. fine_with (numeral_of next) _ (λ n.
    fine_local (country_of country) r (side_of side) m (moment_in change) n (sound_country country) (λ t e. (moment_in-is change t e).0))))

fine_quota : (quota : List ℕ) → IsFineFound (quota_in quota)
fine_quota quota = fine_with (numeral_of quota) _ (λ n. fine_within (in_range 1 10000 n) (Quota n) (bounds 1 10000 n))

fine_rate : (rate : List ℕ) → IsFineFound (rate_in rate)
fine_rate rate =
    fine_with (numeral_of rate) _
    (λ n. fine_within (in_range 100000 100000000 n) (Rate n) (bounds 100000 100000000 n))

-- ---- further descriptors

not_true : (b : Bool) → not b ≡ true → b ≡ false
not_true true e = cc e
not_true false e = refl

sound_further : (place : Place) (ds : List RawDesc) → AllByRecursion IsRead ds → are_free place ds ≡ true → AreSoundDescriptors (made_in place) ds
sound_further place [] fits e = tt
sound_further place (d ∷ ds) fits e =
    let here = first_true (is_free (made_in place) d.tag) (are_free place ds) e in (
      record {
        tag = bounds 2 254 d.tag (first_true (in_range 2 254 d.tag) (not (is_among (made_in place) d.tag)) here);
        free = not_true (is_among (made_in place) d.tag) (second_true (in_range 2 254 d.tag) (not (is_among (made_in place) d.tag)) here);
        body = omega (arith, fits.0.0);
      },
      sound_further place ds fits.1 (second_true (is_free (made_in place) d.tag) (are_free place ds) e),
    )

fine_further : (place : Option Place) (field : List ℕ) → IsFineFound (further_of place (descriptors_in field))
fine_further place field = go place (descriptors_in field) refl
  where
    go : (place : Option Place) (descs : Option (List RawDesc)) → descriptors_in field ≡ descs → IsFineFound (further_of place descs)
    go place None e = tt
    go None (Some ds) e = tt
    go (Some place) (Some ds) e = fine_within (are_free place ds) (Further place ds) (sound_further place ds (each_read (slice_split (λ b. b == 32) field) ds e))

fine_loop : (loop field : List ℕ) → IsFineFound (in_loop loop field)
fine_loop loop field =
    fine_if (is_word (codes "network") loop) (further_of (Some InNetwork) (descriptors_in field)) _ (fine_further (Some InNetwork) field)
    (fine_if (is_word (codes "stream") loop) (further_of (Some InStream) (descriptors_in field)) NoRecord (fine_further (Some InStream) field) tt)

fine_id : (loop id field : List ℕ) → IsFineFound (of_id loop id field)
fine_id loop id field =
    fine_if (is_word (codes "service") loop) _ _ (fine_with (numeral_of id) _ (λ n. fine_further (service_place n) field))
    (fine_if (is_word (codes "program") loop) _ NoRecord (fine_with (numeral_of id) _ (λ n. fine_further (program_place n) field)) tt)

fine_pair : (loop first second field : List ℕ) → IsFineFound (of_pair loop first second field)
fine_pair loop first second field =
    fine_if (is_word (codes "component") loop) _ _ (fine_with (numeral_of first) _ (λ n. fine_with (numeral_of second) _ (λ p. fine_further (component_place n p) field)))
    (fine_if (is_word (codes "other") loop) _ NoRecord (fine_with (numeral_of first) _ (λ s. fine_with (numeral_of second) _ (λ o. fine_further (other_place s o) field))) tt)

-- ---- lines

fine_in : (fields : List (List ℕ)) → AllByRecursion IsKept fields → IsFineFound (found_in fields)
fine_in (word ∷ []) kept = fine_if (is_word (codes "end") word) (Is End) NoRecord tt tt
fine_in (word ∷ a ∷ []) kept =
    fine_if (is_word (codes "start") word) (start_in a) _ (fine_start a)
    (fine_if (is_word (codes "quota") word) (quota_in a) _ (fine_quota a)
    (fine_if (is_word (codes "rate") word) (rate_in a) NoRecord (fine_rate a) tt))
fine_in (word ∷ a ∷ b ∷ []) kept =
    fine_if (is_word (codes "network") word) (network_in a b) _ (fine_network a b kept.1.1.0)
    (fine_if (is_word (codes "stream") word) (stream_in a b) _ (fine_stream a b)
    (fine_if (is_word (codes "other") word) (other_in a b) _ (fine_other a b)
    (fine_if (is_word (codes "descriptor") word) (in_loop a b) NoRecord (fine_loop a b) tt)))
fine_in (word ∷ a ∷ b ∷ c ∷ []) kept = fine_if (is_word (codes "descriptor") word) (of_id a b c) NoRecord (fine_id a b c) tt
fine_in (word ∷ a ∷ b ∷ c ∷ d ∷ []) kept =
    fine_if (is_word (codes "component") word) (part_in a b c d) _ (fine_part a b c d)
    (fine_if (is_word (codes "descriptor") word) (of_pair a b c d) NoRecord (fine_pair a b c d) tt)
fine_in (word ∷ a ∷ b ∷ c ∷ d ∷ e ∷ []) kept = fine_if (is_word (codes "cable") word) (cable_in a b c d e) NoRecord (fine_cable a b c d e) tt
fine_in (word ∷ a ∷ b ∷ c ∷ d ∷ e ∷ f ∷ []) kept = fine_if (is_word (codes "offset") word) (offset_in a b c d e f) NoRecord (fine_offset a b c d e f) tt
fine_in (word ∷ a ∷ b ∷ c ∷ d ∷ e ∷ f ∷ g ∷ []) kept =
    let provider = kept.1.1.1.1.1.1.0 in
    let name = kept.1.1.1.1.1.1.1.0 in
    fine_if (is_word (codes "service") word) (service_in a b c d e f g) _ (fine_service (numbers_in a b c d e) f g provider name)
    (fine_if (is_word (codes "other") word) (cabled_in a b c d e f g) _ (fine_cabled a b c d e f g)
    (fine_if (is_word (codes "remote") word) (remote_in a b c d e f g) NoRecord (fine_remote (remote_numbers_in a b c d e) f g provider name) tt))
fine_in other kept = tt

-- a line's record has every field in its range, and texts that may be kept
pub fine_line : (line : List ℕ) → IsFineFound (found_line line)
fine_line line = go (is_line line) refl
  where
    go : (b : Bool) → is_line line ≡ b → IsFineFound (found_fields (if b then Some (line_fields line) else None))
    go false e = tt
    go true e = fine_in (line_fields line) (line_kept line (is_line_back line e).kept)
