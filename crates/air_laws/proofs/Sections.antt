-- The sections of an air are heard.
use Rattle.std.proofs.Common.{◌≡◌, ◌≢◌, ℕ, ◌+◌, ◌*◌, ◌/◌, ◌%◌, ◌<◌, ◌≤◌, List, [], ◌∷◌, ◌++◌, Bool, true, false, ◌==◌, inl, inr, Some, None, length, refl, sym, ap, ◌∙◌, subst, subst₂, arith, map}
use Rattle.std.specs.Prelude.{if◌then◌else◌, filter_map, ◌||◌}
use Rattle.std.specs.List.{All, AllByRecursion, cons_option}
use Rattle.std.proofs.lemmas.List.Elements.{filter_map-append, All-contains}
use Rattle.si_lists.proofs.Lists.{all_map, all_append}
use Rattle.section_codec.specs.declared.section.LongHeader.{LongHeader}
use Rattle.section_codec.specs.declared.table.NumberedBody.{NumberedBody}
use Rattle.section_codec.specs.Section.{long_flags, section_bytes, longest_body}
use Rattle.section_codec.proofs.ReadBack.{length-section_bytes, length-short_crc_bytes, within}
use Rattle.si_time.specs.Moments.{moment_bcd}
use Rattle.guide_model.specs.declared.offset.Offset.{Offset}
use Rattle.time_tables.specs.Tdt.{tdt_section}
use Rattle.time_tables.specs.Tot.{tot_body, tot_section}
use Rattle.time_tables.proofs.Loops.{length-tot_body}
use Rattle.version_book.specs.Airings.{AiredTables, CycleForm, version_at}
use Rattle.ts_packets.specs.Packets.{Carries}
use Rattle.ts_packets.specs.Bytes.{bytes_of_packet}
use Rattle.ts_packets.specs.Counting.{of_pid}
use Rattle.ts_packets.proofs.Carrying.{Carries-none, Carries-append}
use Rattle.ts_packets.proofs.Stamps.{of_pid-append}
use Rattle.ts_demux.specs.Hearing.{IsSection}
use Rattle.ts_demux.specs.Laws.{GoOn}
use Rattle.ts_demux.specs.Sections.{sections_on}
use Rattle.ts_demux.proofs.Written.{carried_is_heard}
use Rattle.air_model.specs.Air.{Sent, Aired, IsAirOf, Cycles, air, airings_of, sent_on, tot, times, cycle_sections, CanBeTold, IsSendable, CanBeSent}
use Rattle.section_codec.specs.SubTables.{IsFit, header_of}
use Rattle.air_model.specs.Repeating.{IsSentOf, RepeatingCycles, IsRepeatingAirOf}
use Rattle.air_model.proofs.Repeating.{cycle_is_sent, of_element}
use Rattle.air_laws.specs.Sending.{sections_sent}
use Rattle.air_laws.specs.HearingLaws.{AirIsHeard}

-- ---- a written section is a section

low_bits : (table n : ℕ) → n < 4096 → (((long_flags table + n) / 256 % 256) % 16) * 256 + (long_flags table + n) % 256 ≡ n
low_bits table n lt = go (table == 0x00 || table == 0x02)
  where
    go : (b : Bool) → ((((if b then 0xB000 else 0xF000) + n) / 256 % 256) % 16) * 256 + ((if b then 0xB000 else 0xF000) + n) % 256 ≡ n
    go true = omega arith
    go false = omega arith

pub IsSection-section_bytes : (h : LongHeader) (body : List ℕ) → h.table ≢ 0xFF → length body ≤ longest_body h.table → IsSection (section_bytes h body)
IsSection-section_bytes h body other le =
    let len = length-section_bytes h body in
    let most : length body ≤ 4084 = within h.table (length body) le in
    let told : (((long_flags h.table + (9 + length body)) / 256 % 256) % 16) * 256 + (long_flags h.table + (9 + length body)) % 256 ≡ 9 + length body = low_bits h.table (9 + length body) (omega arith) in
    record {
      header = omega (arith, len);
      most = omega (arith, len, most);
      size = ap (λ (n : ℕ). 3 + n) told ∙ omega (arith, len);
      no_fill = λ b more e is. other ((let first : h.table ≡ b = cc in first) ∙ is);
    }

-- a written time is a section
pub IsSection-tdt : (moment : ℕ) → IsSection (tdt_section moment)
unfolding moment_bcd
IsSection-tdt moment = record {
  header = omega arith;
  most = omega arith;
  size = refl;
  no_fill = λ b more e is. (let first : 0x70 ≡ b = cc in omega (arith, first, is));
}

-- and so are written offsets
pub IsSection-tot : (moment : ℕ) (offsets : List Offset) → CanBeTold offsets → IsSection (tot_section moment offsets)
IsSection-tot moment offsets can =
    let body = length-tot_body moment offsets can.each in
    let n = length (tot_body moment offsets) in
    let len = length-short_crc_bytes 0x73 (tot_body moment offsets) in
    let few = can.few in
    let told : (((0x7000 + (4 + n)) / 256 % 256) % 16) * 256 + (0x7000 + (4 + n)) % 256 ≡ 4 + n = omega (arith, body, few) in
    record {
      header = omega (arith, len);
      most = omega (arith, len, body, few);
      size = ap (λ (k : ℕ). 3 + k) told ∙ omega (arith, len);
      no_fill = λ b more e is. (let first : 0x73 ≡ b = cc in omega (arith, first, is));
    }

-- those that tell the time
times_are : (form : CycleForm) (moment : ℕ) → CanBeTold form.offsets → AllByRecursion (λ (x : Sent). IsSection x.bytes) (times form moment)
times_are form moment can = (IsSection-tdt moment, offsets_are form.offsets can)
  where
    offsets_are : (offsets : List Offset) → CanBeTold offsets → AllByRecursion (λ (x : Sent). IsSection x.bytes) (tot moment offsets)
    offsets_are [] can = tt
    offsets_are (o ∷ offsets) can = (IsSection-tot moment (o ∷ offsets) can, tt)

-- ---- each section that is sent

pub each_section : (past : List AiredTables) (a : AiredTables) (ss : List Sent) → IsSendable a → AllByRecursion (IsSentOf past a) ss → AllByRecursion (λ (x : Sent). IsSection x.bytes) ss
each_section past a ss fit each = all_map (IsSentOf past a) (λ (x : Sent). IsSection x.bytes) one ss each
  where
    one : (x : Sent) → IsSentOf past a x → IsSection x.bytes
    one x (inr (at, later, has)) = of_element (λ (s : Sent). IsSection s.bytes) (times a.form at) x (times_are a.form at fit.offsets) has
    one x (inl (t, p, has_t, has_p, e)) =
        let f : IsFit t = All-contains IsFit a.tables t fit.tables has_t in
        let le = All-contains (λ (s : NumberedBody). length s.body ≤ longest_body t.key.table) t.sections p f.bodies has_p in
        subst (λ (s : Sent). IsSection s.bytes) (sym e) (IsSection-section_bytes (header_of (version_at t.key (past ++ a ∷ [])) t p) p.body f.no_fill le)

each_sent : (past airings : List AiredTables) → CanBeSent airings → AllByRecursion (λ (x : Sent). IsSection x.bytes) (sections_sent past airings)
each_sent past [] fit = tt
each_sent past (a ∷ airings) fit =
    all_append (λ (x : Sent). IsSection x.bytes) (cycle_sections past a) (sections_sent (past ++ a ∷ []) airings)
    (each_section past a (cycle_sections past a) fit.0 (cycle_is_sent past a).each) (each_sent (past ++ a ∷ []) airings fit.1)

pub each_on : (pid : ℕ) (ss : List Sent) → AllByRecursion (λ (x : Sent). IsSection x.bytes) ss → AllByRecursion IsSection (filter_map (sent_on pid) ss)
each_on pid [] all = tt
each_on pid (s ∷ ss) all = go (s.pid == pid) (each_on pid ss all.1)
  where
    go : (b : Bool) → AllByRecursion IsSection (filter_map (sent_on pid) ss) → AllByRecursion IsSection (cons_option (if b then Some s.bytes else None) (filter_map (sent_on pid) ss))
    go true rest = (all.0, rest)
    go false rest = rest

pub sections-each : (pid : ℕ) (past airings : List AiredTables) → CanBeSent airings → AllByRecursion IsSection (filter_map (sent_on pid) (sections_sent past airings))
sections-each pid past airings fit = each_on pid (sections_sent past airings) (each_sent past airings fit)

-- ---- the cycles, joined

pub Carries-cycles : (pid : ℕ) → pid < 8191 → (past : List AiredTables) (xs : List Aired) → Cycles past xs → Carries (of_pid pid (air xs)) (filter_map (sent_on pid) (sections_sent past (airings_of xs)))
Carries-cycles pid lt past [] h = Carries-none
Carries-cycles pid lt past (x ∷ xs) h =
    let cycle = filter_map (sent_on pid) (cycle_sections past x.airing) in
    let later = filter_map (sent_on pid) (sections_sent (past ++ x.airing ∷ []) (airings_of xs)) in
    subst₂ Carries (sym (of_pid-append pid x.packets (air xs))) (sym (filter_map-append (sent_on pid) (cycle_sections past x.airing) (sections_sent (past ++ x.airing ∷ []) (airings_of xs))))
    (Carries-append (of_pid pid x.packets) (of_pid pid (air xs)) cycle later (h.0 pid lt) (Carries-cycles pid lt (past ++ x.airing ∷ []) xs h.1))

pub Carries-air : (airings : List AiredTables) (xs : List Aired) → IsAirOf airings xs → (pid : ℕ) → pid < 8191 → Carries (of_pid pid (air xs)) (filter_map (sent_on pid) (sections_sent [] airings))
Carries-air airings xs is pid lt =
    subst (λ (l : List AiredTables). Carries (of_pid pid (air xs)) (filter_map (sent_on pid) (sections_sent [] l))) is.airings_are (Carries-cycles pid lt [] xs is.cycles)

pub GoOn-air : (airings : List AiredTables) (xs : List Aired) → IsAirOf airings xs → (pid : ℕ) → GoOn pid (air xs)
GoOn-air airings xs is pid = record { fields = is.fields; counted = (0, is.counted pid) }

pub air-heard : AirIsHeard
air-heard airings xs is fit pid lt =
    carried_is_heard pid lt (air xs) (filter_map (sent_on pid) (sections_sent [] airings)) (Carries-air airings xs is pid lt) (sections-each pid [] airings fit) (GoOn-air airings xs is pid)

-- ---- cycles that repeat sections

-- all sections that they send
abbrev pub all_sent : (past : List AiredTables) (xs : List Aired) → RepeatingCycles past xs → List Sent
all_sent past [] h = []
all_sent past (x ∷ xs) h = h.0.sections ++ all_sent (past ++ x.airing ∷ []) xs h.1

all_carried : (pid : ℕ) → pid < 8191 → (past : List AiredTables) (xs : List Aired) (h : RepeatingCycles past xs) → Carries (of_pid pid (air xs)) (filter_map (sent_on pid) (all_sent past xs h))
all_carried pid lt past [] h = Carries-none
all_carried pid lt past (x ∷ xs) h =
    let later = all_sent (past ++ x.airing ∷ []) xs h.1 in
    subst₂ Carries (sym (of_pid-append pid x.packets (air xs))) (sym (filter_map-append (sent_on pid) h.0.sections later))
    (Carries-append (of_pid pid x.packets) (of_pid pid (air xs)) (filter_map (sent_on pid) h.0.sections) (filter_map (sent_on pid) later) (h.0.carried pid lt) (all_carried pid lt (past ++ x.airing ∷ []) xs h.1))

all_each : (past : List AiredTables) (xs : List Aired) (h : RepeatingCycles past xs) → CanBeSent (airings_of xs) → AllByRecursion (λ (x : Sent). IsSection x.bytes) (all_sent past xs h)
all_each past [] h fit = tt
all_each past (x ∷ xs) h fit =
    all_append (λ (s : Sent). IsSection s.bytes) h.0.sections (all_sent (past ++ x.airing ∷ []) xs h.1)
    (each_section past x.airing h.0.sections fit.0 h.0.are.each) (all_each (past ++ x.airing ∷ []) xs h.1 fit.1)

-- they are heard
pub all_heard : (airings : List AiredTables) (xs : List Aired) (is : IsRepeatingAirOf airings xs) → CanBeSent airings → (pid : ℕ) → pid < 8191
    → sections_on pid (map bytes_of_packet (air xs)) ≡ filter_map (sent_on pid) (all_sent [] xs is.cycles)
all_heard airings xs is fit pid lt =
    carried_is_heard pid lt (air xs) (filter_map (sent_on pid) (all_sent [] xs is.cycles)) (all_carried pid lt [] xs is.cycles)
    (each_on pid (all_sent [] xs is.cycles) (all_each [] xs is.cycles (subst CanBeSent (sym is.airings_are) fit)))
    (record { fields = is.fields; counted = (0, is.counted pid) })
