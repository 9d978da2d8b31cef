-- Where a whole cycle is heard, a moment is told.
use Rattle.std.proofs.Common.{◌≡◌, ℕ, ◌+◌, ◌*◌, ◌<◌, ◌≤◌, List, [], ◌∷◌, ◌++◌, Bool, true, false, ◌==◌, inr, Option, Some, None, length, map, refl, sym, ap, ◌∙◌, arith}
use Rattle.std.specs.Prelude.{if◌then◌else◌, filter_map, slice_range}
use Rattle.std.specs.Option.{option_or}
use Rattle.std.specs.List.{AllByRecursion, Contains, cons_option}
use Rattle.std.proofs.lemmas.Bool.{eqb-true, eq-eqb}
use Rattle.std.proofs.lemmas.List.Elements.{filter_map-append}
use Rattle.si_time.proofs.RoundTrips.{moment_from_bcd-moment_bcd}
use Rattle.section_codec.specs.Section.{section_in}
use Rattle.time_tables.specs.Tdt.{tdt_section}
use Rattle.time_tables.proofs.Sections.{tdt-is_a_section}
use Rattle.version_book.specs.Airings.{AiredTables}
use Rattle.ts_packets.specs.Bytes.{bytes_of_packet}
use Rattle.ts_demux.specs.declared.section.RawSection.{RawSection}
use Rattle.ts_demux.specs.Sections.{heard_all, bytes_on}
use Rattle.ts_demux.proofs.Adding.{order_kept}
use Rattle.guide_receiver.specs.Latest.{last_of, moment_by, moment_in, clock_of}
use Rattle.air_model.specs.Air.{Aired, tdt, air}
use Rattle.air_model.specs.Repeating.{IsRepeatingAirOf}
use Rattle.air_model.proofs.Repeating.{around, first_of}
use Rattle.air_laws.specs.Counting.{CanBeHeard}
use Rattle.air_laws.proofs.HearingTold.{sent_of}
use Rattle.air_laws.specs.Joining.{heard_between}
use Rattle.air_laws.proofs.Whole.{cycle_tells_time}

-- of lists with an element there is a last one
pub some_last : {X : Type 0} (xs : List X) → (xs ≡ [] → Prim.⊥) → (x : X) × (last_of xs ≡ Some x)
some_last [] some = absurd (some refl)
some_last (x ∷ xs) some = go (last_of xs) refl
  where
    go : (o : Option _) → last_of xs ≡ o → (y : _) × (option_or (last_of xs) (Some x) ≡ Some y)
    go None e = (x, ap (λ o. option_or o (Some x)) e)
    go (Some y) e = (y, ap (λ o. option_or o (Some x)) e)

-- a section on a PID among all
pub on_own_pid : (pid : ℕ) (bytes : List ℕ) (front rest : List (List ℕ)) (rs : List RawSection) → filter_map (bytes_on pid) rs ≡ front ++ bytes ∷ rest
    → (before : List RawSection) × (r : RawSection) × (after : List RawSection) × (rs ≡ before ++ r ∷ after) × (r.pid ≡ pid) × (r.bytes ≡ bytes)
on_own_pid pid bytes front rest [] e = none front e
  where
    none : (front : List (List ℕ)) → [] ≡ front ++ bytes ∷ rest → (before : List RawSection) × (r : RawSection) × (after : List RawSection) × ([] ≡ before ++ r ∷ after) × (r.pid ≡ pid) × (r.bytes ≡ bytes)
    none [] e = cc
    none (x ∷ front) e = cc
on_own_pid pid bytes front rest (r ∷ rs) e = go (r.pid == pid) refl front e (λ front f. on_own_pid pid bytes front rest rs f)
  where
    Found : List RawSection → Type 0
    Found l = (before : List RawSection) × (s : RawSection) × (after : List RawSection) × (l ≡ before ++ s ∷ after) × (s.pid ≡ pid) × (s.bytes ≡ bytes)

    later : Found rs → Found (r ∷ rs)
    later (before, s, after, f, g, h) = (r ∷ before, s, after, ap (λ (l : List RawSection). r ∷ l) f, g, h)

    go : (b : Bool) → (r.pid == pid) ≡ b → (front : List (List ℕ)) → cons_option (if r.pid == pid then Some r.bytes else None) (filter_map (bytes_on pid) rs) ≡ front ++ bytes ∷ rest
        → ((front : List (List ℕ)) → filter_map (bytes_on pid) rs ≡ front ++ bytes ∷ rest → Found rs) → Found (r ∷ rs)
    go false f front e rec = later (rec front (ap (λ (b : Bool). cons_option (if b then Some r.bytes else None) (filter_map (bytes_on pid) rs)) (sym f) ∙ e))
    go true f [] e rec =
        let all : r.bytes ∷ filter_map (bytes_on pid) rs ≡ bytes ∷ rest = ap (λ (b : Bool). cons_option (if b then Some r.bytes else None) (filter_map (bytes_on pid) rs)) (sym f) ∙ e in
        let same : r.bytes ≡ bytes = cc in
        ([], r, rs, refl, eqb-true r.pid pid f, same)
    go true f (x ∷ front) e rec =
        let all : r.bytes ∷ filter_map (bytes_on pid) rs ≡ x ∷ front ++ bytes ∷ rest = ap (λ (b : Bool). cons_option (if b then Some r.bytes else None) (filter_map (bytes_on pid) rs)) (sym f) ∙ e in
        let behind : filter_map (bytes_on pid) rs ≡ front ++ bytes ∷ rest = cc in
        later (rec front behind)

pub told_moment : (r : RawSection) (at : ℕ) → at < 65536 * 86400 → r.pid ≡ 0x0014 → r.bytes ≡ tdt_section at → moment_in r ≡ Some at
told_moment r at lt pid bytes =
    ap (λ (b : Bool). if b then moment_by (section_in r.bytes) else None) (eq-eqb r.pid 0x0014 pid) ∙ ap (λ (l : List ℕ). moment_by (section_in l)) bytes
    ∙ ap moment_by (tdt-is_a_section at lt) ∙ moment_from_bcd-moment_bcd at lt

pub some_moment : (before after : List RawSection) (r : RawSection) (at : ℕ) → moment_in r ≡ Some at → filter_map moment_in (before ++ r ∷ after) ≡ [] → Prim.⊥
some_moment before after r at told none =
    let parts : filter_map moment_in (before ++ r ∷ after) ≡ filter_map moment_in before ++ (at ∷ filter_map moment_in after) =
    filter_map-append moment_in before (r ∷ after) ∙ ap (λ (o : Option ℕ). filter_map moment_in before ++ cons_option o (filter_map moment_in after)) told in
    go (filter_map moment_in before) (sym parts ∙ none)
  where
    go : (xs : List ℕ) → xs ++ (at ∷ filter_map moment_in after) ≡ [] → Prim.⊥
    go [] e = cc
    go (x ∷ xs) e = cc

pub clock_heard : (airings : List AiredTables) (before : List Aired) (x : Aired) (after : List Aired) → IsRepeatingAirOf airings (before ++ x ∷ after) → AllByRecursion CanBeHeard airings
    → (join end : ℕ) → join ≤ length (air before) → length (air before) + length x.packets ≤ end → x.airing.moment < 65536 * 86400
    → (at : ℕ) × (clock_of (heard_all [] (map bytes_of_packet (slice_range (air (before ++ x ∷ after)) join end))) ≡ Some at)
clock_heard airings before x after is can join end joined whole within =
    let xs : List Aired = before ++ x ∷ after in
    let packets : List (List ℕ) = map bytes_of_packet (slice_range (air xs) join end) in
    let time = cycle_tells_time airings before after x is (sent_of airings can) join end joined whole in
    let s = tdt time.0 in
    let parts = around (heard_between join end 0x0014 (air xs)) s.bytes time.2 in
    let found = on_own_pid 0x0014 s.bytes parts.0 parts.1 (heard_all [] packets) (order_kept packets 0x0014 ∙ parts.2) in
    let told = told_moment found.1 time.0 (time.1.written within) found.4 found.5 in
    some_last (filter_map moment_in (heard_all [] packets))
    (λ none. some_moment found.0 found.2 found.1 time.0 told (ap (filter_map moment_in) (sym found.3) ∙ none))
