-- What `play` sends, `listen` hears.
use Rattle.std.proofs.Common.{◌≡◌, ℕ, zero, suc, ◌≤◌, List, [], ◌∷◌, ◌++◌, Bool, true, false, ◌&&◌, ◌==◌, Option, Some, None, length, map, refl, sym, ap, ap₂, ◌∙◌, subst, arith, take, drop, eq-eqb}
use Rattle.std.specs.Prelude.{flat_map, filter, if◌then◌else◌, slice_index, Ok, Err}
use Rattle.std.specs.List.{AllByRecursion}
use Rattle.std.proofs.lemmas.List.{take_at, drop_at}
use Rattle.input_lines.specs.Lines.{record_lines}
use Rattle.mux_model.specs.declared.mux.Mux.{Mux}
use Rattle.mux_config.specs.Descriptions.{Description, description_ahead}
use Rattle.mux_model.specs.Sound.{IsSoundWithIds}
use Rattle.mux_config.proofs.FineLines.{whole_descriptions_are_sound}
use Rattle.input_lines.specs.Ahead.{Ahead, Came, Found, Stopped, Tail}
use Rattle.ts_packets.specs.Bytes.{Packet, bytes_of_packet}
use Rattle.packet_reader.specs.Recordings.{RecordingEnd, RecordingEnd.AtEnd, is_packet, and_packet, packets_in, packet_limit, recording}
use Rattle.packet_reader.proofs.RecordingFacts.{packet_step}
use Rattle.desk_core.specs.Journal.{journal_of}
use Rattle.desk_core.proofs.JournalFacts.{journal_legal}
use Rattle.air_model.specs.Air.{air, air_bytes}
use Rattle.air_model.specs.Repeating.{IsRepeatingAirOf}
use Rattle.air_model.proofs.Airs.{repeating-whole}
use Rattle.cycle_player.proofs.Airs.{air_repeats}
use Rattle.guide_receiver.specs.declared.done.DoneKey.{DoneKey}
use Rattle.section_codec.specs.Tables.{is_counted}
use Rattle.guide_receiver.specs.Dones.{DoneAt, dones_of}
use Rattle.section_codec.specs.declared.table.Key.{Key}
use Rattle.section_codec.specs.declared.table.SubTable.{SubTable}
use Rattle.section_codec.specs.KeyOrder.{is_key}
use Rattle.section_codec.proofs.KeyOrderFacts.{is_key-same}
use Rattle.section_codec.specs.Contents.{Content}
use Rattle.version_book.specs.Airings.{AiredTables, content_in, carried}
use Rattle.air_laws.specs.Counting.{CanBeHeard}
use Rattle.air_laws.specs.Changes.{is_new_at, version_with, changes_of, is_done_key}
use Rattle.air_laws.proofs.HearingTold.{changes_heard}
use Rattle.journal_air.specs.Air.{airings}
use Rattle.journal_air.proofs.CarryFacts.{airings_heard, airings_counted}
use Rattle.epg_play.specs.Script.{script_with, script_of_lines}
use Rattle.epg_play.specs.Hearing.{PlayIsHeard}
use Rattle.epg_play.proofs.TypedFacts.{first-typed, journal-typed, script-typed}

-- ---- the multiplex of a script

-- what holds of each multiplex that is described holds of that of its script
pub mux_with : (P : Mux → Type 0) (found : Found Description) (mux : Mux) → ((m : Mux) (behind : Ahead) → found ≡ Came (Ok m) behind → P m) → (script_with found).mux ≡ Some mux → P mux
mux_with P (Came (Err fault) behind) mux holds e = cc
mux_with P (Came (Ok m) behind) mux holds e = (let same : m ≡ mux = cc in subst P same (holds m behind refl))
mux_with P (Stopped stop) mux holds e = cc

pub mux_of_script : (lines : List (List ℕ)) (tail : Tail) (mux : Mux) → (script_of_lines lines tail).mux ≡ Some mux → IsSoundWithIds mux
mux_of_script lines tail mux e = mux_with IsSoundWithIds (description_ahead (record { rows = record_lines 1 lines; tail = tail })) mux (whole_descriptions_are_sound (record { rows = record_lines 1 lines; tail = tail })) e

-- ---- an air as a recording

packet_is : (p : Packet) → length (bytes_of_packet p) ≡ 188 → is_packet (bytes_of_packet p) ≡ true
packet_is p size = ap (λ (b : Bool). b && (slice_index (bytes_of_packet p) 0 == 0x47)) (eq-eqb (length (bytes_of_packet p)) 188 size)

recorded : (n : ℕ) (ps : List Packet) → AllByRecursion (λ (p : Packet). length (bytes_of_packet p) ≡ 188) ps → length ps ≤ n → packets_in n (flat_map bytes_of_packet ps) ≡ (map bytes_of_packet ps, AtEnd)
recorded n [] all le = refl
recorded zero (p ∷ ps) all le = absurd (omega arith)
recorded (suc n) (p ∷ ps) all le =
    let here = bytes_of_packet p in
    let rest = flat_map bytes_of_packet ps in
    let front : take 188 (here ++ rest) ≡ here = take_at here rest 188 all.0 in
    let behind : drop 188 (here ++ rest) ≡ rest = drop_at here rest 188 all.0 in
    packet_step n (here ++ rest) (ap is_packet front ∙ packet_is p all.0)
    ∙ ap₂ (λ (x y : List ℕ). and_packet x (packets_in n y)) front behind
    ∙ ap (and_packet here) (recorded n ps all.1 (omega arith))

-- ---- a key that no airing carries

-- all tables of an airing are such as receivers count
abbrev AreCounted : AiredTables → Type 0
AreCounted a = AllByRecursion (λ (t : SubTable). is_counted t.key.pid t.key.table ≡ true) a.tables

other_key : (k : Key) (ts : List SubTable) → AllByRecursion (λ (t : SubTable). is_counted t.key.pid t.key.table ≡ true) ts → is_counted k.pid k.table ≡ false → content_in k ts ≡ None
other_key k [] are other = refl
other_key k (t ∷ ts) are other = go (is_key k t.key) refl (other_key k ts are.1 other)
  where
    go : (b : Bool) → is_key k t.key ≡ b → content_in k ts ≡ None → (if b then Some t.sections else content_in k ts) ≡ None
    go false e rest = rest
    go true e rest =
        let none : true ≡ false = sym are.0 ∙ ap (λ (q : Key). is_counted q.pid q.table) (sym (is_key-same k t.key e)) ∙ other in
        absurd (let z : Prim.⊥ = cc in z)

unchanged : (k : Key) (past airs : List AiredTables) → AllByRecursion AreCounted airs → is_counted k.pid k.table ≡ false → changes_of k past airs ≡ []
unchanged k past [] are other = refl
unchanged k past (a ∷ airs) are other =
    ap₂ (λ (o : Option Content) (l : List DoneKey). (if is_new_at (carried k past) o then version_with k past a ∷ [] else []) ++ l) (other_key k a.tables are.0 other) (unchanged k (past ++ a ∷ []) airs are.1 other)

-- a key that receivers do not count has no version changes
counted_or_not : (airs : List AiredTables) (k : Key) → AllByRecursion AreCounted airs → (b : Bool) → is_counted k.pid k.table ≡ b
    → (if is_counted k.pid k.table then changes_of k [] airs else []) ≡ changes_of k [] airs
counted_or_not airs k are true e = ap (λ (b : Bool). if b then changes_of k [] airs else []) e
counted_or_not airs k are false e = ap (λ (b : Bool). if b then changes_of k [] airs else []) e ∙ sym (unchanged k [] airs are e)

pub play-heard : PlayIsHeard
play-heard lines tail mux k xs script is_air few =
    let is = mux_of_script lines tail mux script in
    let commands = take k (script_of_lines lines tail).commands in
    let journal = journal_of mux commands in
    let typed = journal-typed mux commands (first-typed k (script_of_lines lines tail).commands (script-typed lines tail)) in
    let can : AllByRecursion CanBeHeard (airings mux journal) = airings_heard mux journal is typed (journal_legal mux [] commands) in
    let repeating : IsRepeatingAirOf (airings mux journal) xs =
    air_repeats mux.rate (airings mux journal) xs is_air in
    let record_is : recording (air_bytes xs) ≡ (map bytes_of_packet (air xs), AtEnd) =
    recorded packet_limit (air xs) (repeating-whole (airings mux journal) xs repeating) few in (
      ap (λ (r : List (List ℕ) × RecordingEnd). r.1) record_is,
      λ key lt.
          ap (λ (r : List (List ℕ) × RecordingEnd). filter (is_done_key key) (map (λ (d : DoneAt). d.done) (dones_of r.0))) record_is
          ∙ changes_heard (airings mux journal) xs repeating can key lt
          ∙ counted_or_not (airings mux journal) key (airings_counted mux journal is.sound) (is_counted key.pid key.table) refl,
    )
