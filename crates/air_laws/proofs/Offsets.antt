-- Where a whole cycle is heard, and all airings tell the same offsets, these are the offsets that are heard last.
use Rattle.std.proofs.Common.{◌≡◌, ◌⊎◌, ℕ, ◌+◌, ◌*◌, ◌<◌, ◌≤◌, List, [], ◌∷◌, ◌++◌, Bool, true, false, ◌==◌, inl, inr, Option, Some, None, Ok, length, map, refl, sym, ap, ◌∙◌, subst, arith}
use Rattle.std.specs.Prelude.{if◌then◌else◌, filter_map, slice_range, unwrap_or}
use Rattle.std.specs.Option.{option_map, option_or}
use Rattle.std.specs.List.{AllByRecursion, Contains, cons_option}
use Rattle.std.proofs.lemmas.List.{take_at, drop_at}
use Rattle.std.proofs.lemmas.List.Elements.{All-contains}
use Rattle.si_lists.proofs.Lists.{all_map}
use Rattle.si_base.specs.Fields.{two}
use Rattle.si_time.specs.Moments.{moment_bcd}
use Rattle.si_time.specs.Readings.{moment_from_bcd}
use Rattle.si_time.proofs.RoundTrips.{moment_from_bcd-moment_bcd, length-moment_bcd}
use Rattle.guide_model.specs.declared.offset.Offset.{Offset}
use Rattle.section_codec.specs.declared.table.SubTable.{SubTable}
use Rattle.section_codec.specs.declared.table.NumberedBody.{NumberedBody}
use Rattle.section_codec.specs.declared.section.Section.TheVariants.{Long, Short}
use Rattle.section_codec.specs.Section.{section_in, FitsLong}
use Rattle.section_codec.specs.SubTables.{IsFit, header_of}
use Rattle.section_codec.proofs.ReadBack.{section_in-section_bytes}
use Rattle.time_tables.specs.declared.tot.Tot.{Tot}
use Rattle.time_tables.specs.LocalOffsets.{local_offsets}
use Rattle.time_tables.specs.Tot.{tot_body, tot_section, tot_with, told_in, tot_in, AreSent}
use Rattle.time_tables.proofs.Sections.{tdt-is_a_section_any}
use Rattle.time_tables.proofs.Loops.{loop_told, tot-is_a_section}
use Rattle.version_book.specs.Airings.{AiredTables, CycleForm, version_at}
use Rattle.ts_packets.specs.Bytes.{bytes_of_packet}
use Rattle.ts_demux.specs.declared.section.RawSection.{RawSection}
use Rattle.ts_demux.specs.Sections.{heard_all, bytes_on, sections_on}
use Rattle.ts_demux.proofs.Adding.{order_kept}
use Rattle.guide_receiver.specs.Latest.{last_of, offsets_by, offsets_in, offsets_heard}
use Rattle.air_model.specs.Air.{Sent, Aired, tdt, tot, times, air, airings_of, CanBeTold}
use Rattle.air_model.specs.Repeating.{IsRepeatingAirOf, IsSentOf}
use Rattle.air_model.proofs.Repeating.{of_element}
use Rattle.air_laws.specs.Counting.{CanBeHeard}
use Rattle.air_laws.proofs.Blocks.{CanCount, can_count, version_at-lt}
use Rattle.air_laws.proofs.HearingTold.{sent_of}
use Rattle.air_laws.specs.Joining.{heard_between, IsOfCycleIn}
use Rattle.air_laws.proofs.Whole.{heard_is_sent, cycle_tells_local_time}
use Rattle.air_laws.specs.Exact.{TellOffsetsOf}
use Rattle.air_laws.proofs.Contents.{can_at}

-- the offsets that a section tells, by its bytes
abbrev pub told : List ℕ → Option (List Offset)
told bytes = offsets_by (section_in bytes)

-- it tells none, or these
abbrev pub IsTold : List Offset → List ℕ → Type 0
IsTold offsets bytes = (told bytes ≡ None) ⊎ (told bytes ≡ Some offsets)

-- ---- one section

-- a written body, at whatever moment
body_told : (at : Option ℕ) (offsets : List Offset) → (option_map (λ (t : Tot). t.offsets) (tot_with at (Some offsets)) ≡ None) ⊎ (option_map (λ (t : Tot). t.offsets) (tot_with at (Some offsets)) ≡ Some offsets)
body_told None offsets = inl refl
body_told (Some at) offsets = inr refl

body_is : (at : ℕ) (offsets : List Offset) → AreSent offsets → tot_in (tot_body at offsets) ≡ tot_with (moment_from_bcd (moment_bcd at)) (Some offsets)
body_is at offsets sent =
    let loop = two (0xF000 + length (local_offsets offsets)) ++ local_offsets offsets in
    (λ i. tot_with (moment_from_bcd (take_at (moment_bcd at) loop 5 (length-moment_bcd at) i)) (told_in (drop_at (moment_bcd at) loop 5 (length-moment_bcd at) i)))
    ∙ ap (tot_with (moment_from_bcd (moment_bcd at))) (loop_told offsets sent)

tot_told : (at : ℕ) (offsets : List Offset) → AreSent offsets → IsTold offsets (tot_section at offsets)
tot_told at offsets sent =
    let is : told (tot_section at offsets) ≡ option_map (λ (t : Tot). t.offsets) (tot_with (moment_from_bcd (moment_bcd at)) (Some offsets)) =
    ap offsets_by (tot-is_a_section at offsets sent) ∙ ap (option_map (λ (t : Tot). t.offsets)) (body_is at offsets sent) in
    subst (λ (o : Option (List Offset)). (o ≡ None) ⊎ (o ≡ Some offsets)) (sym is) (body_told (moment_from_bcd (moment_bcd at)) offsets)

tot_is_told : (at : ℕ) (offsets : List Offset) → AreSent offsets → at < 65536 * 86400 → told (tot_section at offsets) ≡ Some offsets
tot_is_told at offsets sent lt =
    ap offsets_by (tot-is_a_section at offsets sent) ∙ ap (option_map (λ (t : Tot). t.offsets)) (body_is at offsets sent)
    ∙ ap (λ (o : Option ℕ). option_map (λ (t : Tot). t.offsets) (tot_with o (Some offsets))) (moment_from_bcd-moment_bcd at lt)

sent_offsets : (o : Offset) (offsets : List Offset) → CanBeTold (o ∷ offsets) → AreSent (o ∷ offsets)
sent_offsets o offsets can = record { some = omega arith; few = can.few; each = can.each }

times_told : (form : CycleForm) (moment : ℕ) → CanBeTold form.offsets → AllByRecursion (λ (s : Sent). IsTold form.offsets s.bytes) (times form moment)
times_told form moment can = (inl (ap offsets_by (tdt-is_a_section_any moment)), go form.offsets can)
  where
    go : (offsets : List Offset) → CanBeTold offsets → AllByRecursion (λ (s : Sent). IsTold offsets s.bytes) (tot moment offsets)
    go [] can = tt
    go (o ∷ offsets) can = (tot_told moment (o ∷ offsets) (sent_offsets o offsets can), tt)

-- of an airing
pub sent_told : (past : List AiredTables) (a : AiredTables) → CanBeHeard a → (s : Sent) → IsSentOf past a s → IsTold a.form.offsets s.bytes
sent_told past a can s (inr (at, later, has)) = of_element (λ (x : Sent). IsTold a.form.offsets x.bytes) (times a.form at) s (times_told a.form at can.offsets) has
sent_told past a can s (inl (t, p, has_t, has_p, e)) =
    let fit : IsFit t = All-contains IsFit a.tables t can.fit has_t in
    let read = of_element _ a.tables t can.readable has_t in
    let one : CanCount t p = of_element (CanCount t) t.sections p (can_count t fit read) has_p in
    let fits : FitsLong (header_of (version_at t.key (past ++ a ∷ [])) t p) p.body = record {
      table = read.table;
      form = fit.long;
      ext = read.ext;
      version = version_at-lt t.key (past ++ a ∷ []);
      number = one.number;
      last = read.last;
      within = one.within;
    } in
    inl (ap (λ (x : Sent). told x.bytes) e ∙ ap offsets_by (section_in-section_bytes (header_of (version_at t.key (past ++ a ∷ [])) t p) p.body fits))

-- ---- the last that is told

same_last : (offsets : List Offset) (l : List (List ℕ)) → AllByRecursion (IsTold offsets) l → (last_of (filter_map told l) ≡ None) ⊎ (last_of (filter_map told l) ≡ Some offsets)
same_last offsets [] all = inl refl
same_last offsets (b ∷ l) all = go (told b) all.0 (same_last offsets l all.1)
  where
    more : (x : List Offset) (o : Option (List Offset)) → x ≡ offsets → (o ≡ None) ⊎ (o ≡ Some offsets) → (option_or o (Some x) ≡ None) ⊎ (option_or o (Some x) ≡ Some offsets)
    more x o e (inl none) = inr (ap (λ (p : Option (List Offset)). option_or p (Some x)) none ∙ ap (λ (y : List Offset). Some y) e)
    more x o e (inr some) = inr (ap (λ (p : Option (List Offset)). option_or p (Some x)) some)

    go : (o : Option (List Offset)) → (o ≡ None) ⊎ (o ≡ Some offsets) → (last_of (filter_map told l) ≡ None) ⊎ (last_of (filter_map told l) ≡ Some offsets)
        → (last_of (cons_option o (filter_map told l)) ≡ None) ⊎ (last_of (cons_option o (filter_map told l)) ≡ Some offsets)
    go None e rest = rest
    go (Some x) (inl e) rest = absurd (let z : Prim.⊥ = cc in z)
    go (Some x) (inr e) rest = more x (last_of (filter_map told l)) (let f : x ≡ offsets = cc in f) rest

-- where none is the last, none is told
none_last : (l : List (List ℕ)) → last_of (filter_map told l) ≡ None → AllByRecursion (λ (b : List ℕ). told b ≡ None) l
none_last [] e = tt
none_last (b ∷ l) e = go (none_last l) (told b) refl e
  where
    some : (o : Option (List Offset)) (x : List Offset) → option_or o (Some x) ≡ None → Prim.⊥
    some None x f = cc
    some (Some y) x f = cc

    go : (last_of (filter_map told l) ≡ None → AllByRecursion (λ (b : List ℕ). told b ≡ None) l) → (o : Option (List Offset)) → told b ≡ o → last_of (cons_option o (filter_map told l)) ≡ None
        → (told b ≡ None) × AllByRecursion (λ (b : List ℕ). told b ≡ None) l
    go later None f g = (f, later g)
    go later (Some x) f g = absurd (some (last_of (filter_map told l)) x g)

-- those on the PID are all
on_pid : (rs : List RawSection) → filter_map offsets_in rs ≡ filter_map told (filter_map (bytes_on 0x0014) rs)
on_pid [] = refl
on_pid (r ∷ rs) = go (r.pid == 0x0014) (on_pid rs)
  where
    go : (b : Bool) → filter_map offsets_in rs ≡ filter_map told (filter_map (bytes_on 0x0014) rs)
        → cons_option (if b then told r.bytes else None) (filter_map offsets_in rs) ≡ filter_map told (cons_option (if b then Some r.bytes else None) (filter_map (bytes_on 0x0014) rs))
    go true e = ap (cons_option (told r.bytes)) e
    go false e = e

-- ---- what is told last

-- Where what is heard on the PID of the time tells these offsets alone, and among it is their TOT, where there are any, they are told last.
pub told_last : (offsets : List Offset) (packets : List (List ℕ)) (at : ℕ) → at < 65536 * 86400 → CanBeTold offsets → AllByRecursion (IsTold offsets) (sections_on 0x0014 packets)
    → AllByRecursion (λ (s : Sent). Contains (sections_on 0x0014 packets) s.bytes) (tot at offsets) → offsets_heard (heard_all [] packets) ≡ offsets
told_last offsets packets at lt can each there =
    ap (λ (l : List (List Offset)). unwrap_or (last_of l) []) (on_pid (heard_all [] packets) ∙ ap (filter_map told) (order_kept packets 0x0014))
    ∙ go offsets (same_last offsets heard each) (some_told offsets can there)
  where
    heard : List (List ℕ)
    heard = sections_on 0x0014 packets

    -- where there are offsets, some are told
    some_told : (os : List Offset) → CanBeTold os → AllByRecursion (λ (s : Sent). Contains heard s.bytes) (tot at os) → last_of (filter_map told heard) ≡ None → os ≡ []
    some_told [] fit has none = refl
    some_told (o ∷ os) fit has none =
        let here = of_element (λ (b : List ℕ). told b ≡ None) heard (tot_section at (o ∷ os)) (none_last heard none) has.0 in
        let there = tot_is_told at (o ∷ os) (sent_offsets o os fit) lt in
        absurd (let f : None ≡ Some (o ∷ os) = sym here ∙ there in let z : Prim.⊥ = cc in z)

    go : (os : List Offset) → (last_of (filter_map told heard) ≡ None) ⊎ (last_of (filter_map told heard) ≡ Some os) → (last_of (filter_map told heard) ≡ None → os ≡ [])
        → unwrap_or (last_of (filter_map told heard)) [] ≡ os
    go os (inr some) is = ap (λ (l : Option (List Offset)). unwrap_or l []) some
    go os (inl none) is = ap (λ (l : Option (List Offset)). unwrap_or l []) none ∙ sym (is none)

offsets_at : (a : AiredTables) (before : List Aired) (y : Aired) (after : List Aired) → TellOffsetsOf a (airings_of (before ++ y ∷ after)) → y.airing.form.offsets ≡ a.form.offsets
offsets_at a [] y after all = all.0
offsets_at a (z ∷ before) y after all = offsets_at a before y after all.1

-- what a cycle of such an air sends tells the offsets of this airing, or none
pub cycle_told : (a : AiredTables) (airings : List AiredTables) (xs : List Aired) → IsRepeatingAirOf airings xs → AllByRecursion CanBeHeard airings → TellOffsetsOf a airings
    → (before : List Aired) (y : Aired) (after : List Aired) → xs ≡ before ++ y ∷ after → (s : Sent) → IsSentOf (airings_of before) y.airing s → IsTold a.form.offsets s.bytes
cycle_told a airings xs is can same before y after cut s sent =
    let here : airings ≡ airings_of (before ++ y ∷ after) = sym is.airings_are ∙ ap airings_of cut in
    subst (λ (o : List Offset). IsTold o s.bytes) (offsets_at a before y after (subst (TellOffsetsOf a) here same))
    (sent_told (airings_of before) y.airing (can_at before y after (subst (AllByRecursion CanBeHeard) here can)) s sent)

pub offsets_are_heard : (airings : List AiredTables) (before : List Aired) (x : Aired) (after : List Aired) → IsRepeatingAirOf airings (before ++ x ∷ after) → AllByRecursion CanBeHeard airings
    → (join end : ℕ) → join ≤ length (air before) → length (air before) + length x.packets ≤ end → x.airing.moment < 65536 * 86400 → TellOffsetsOf x.airing airings
    → offsets_heard (heard_all [] (map bytes_of_packet (slice_range (air (before ++ x ∷ after)) join end))) ≡ x.airing.form.offsets
offsets_are_heard airings before x after is can join end joined whole within same =
    let time = cycle_tells_local_time airings before after x is (sent_of airings can) join end joined whole in
    told_last x.airing.form.offsets (map bytes_of_packet (slice_range (air xs) join end)) time.0 (time.1.written within)
    (can_at before x after (subst (AllByRecursion CanBeHeard) (sym is.airings_are) can)).offsets
    (all_map (IsOfCycleIn join end 0x0014 xs) (IsTold x.airing.form.offsets) one (heard_between join end 0x0014 (air xs))
    (heard_is_sent airings xs is (sent_of airings can) 0x0014 (omega arith) join end))
    time.2
  where
    xs : List Aired
    xs = before ++ x ∷ after

    one : (bytes : List ℕ) → IsOfCycleIn join end 0x0014 xs bytes → IsTold x.airing.form.offsets bytes
    one bytes of_cycle =
        subst (IsTold x.airing.form.offsets) of_cycle.has_bytes
        (cycle_told x.airing airings xs is can same of_cycle.before of_cycle.cycle of_cycle.after of_cycle.cut of_cycle.section of_cycle.sent)
