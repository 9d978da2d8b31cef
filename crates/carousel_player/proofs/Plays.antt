-- What a player stands for, from call to call.
use Rattle.std.proofs.Common.{◌≡◌, ℕ, suc, ◌<◌, List, [], ◌∷◌, ◌++◌, Result, Ok, Err, Option, length, refl, sym, ap, ap₂, ◌∙◌, subst, arith, map, take, append_assoc, append-nil, length-append}
use Rattle.std.specs.Prelude.{flat_map, OnOk, OnErr}
use Rattle.std.specs.List.{AllByRecursion, All, prefix_len}
use Rattle.std.specs.Io.KnownBytes.{Appends}
use Rattle.std.proofs.KnownBytes.{Appends-trans}
use Rattle.std.proofs.lemmas.List.{take-append-le}
use Rattle.std.proofs.lemmas.List.Concat.{flat_map-append}
use Rattle.si_causes.specs.Causes.{AppendsFront}
use Rattle.si_causes.proofs.CauseFacts.{front_behind}
use Rattle.std.proofs.lemmas.List.Elements.{recursion_from_All, All-take, All-drop}
use Rattle.si_lists.proofs.Lists.{all_append, all_front}
use Rattle.section_codec.specs.declared.table.SubTable.{SubTable}
use Rattle.section_codec.specs.Contents.{Content}
use Rattle.version_book.specs.Airings.{CycleForm, AiredTables, version_at}
use Rattle.version_book.specs.Book.{BookStandsFor, aired}
use Rattle.ts_packets.specs.Bytes.{Packet, HasFields, bytes_of_packet}
use Rattle.ts_packets.specs.Counting.{StandFor}
use Rattle.guide_model.specs.declared.offset.Offset.{Offset}
use Rattle.air_model.specs.Air.{Sent, Aired, HasNoNull, air, airings_of, air_bytes, IsAirOf, sent_section, sections_of, table_sections, tot, times, leads, before_tdt, behind_tdt, sections_once, weights_once, cycle_sections}
use Rattle.air_model.proofs.Planned.{all_at}
use Rattle.air_model.specs.Cycle.{cycle_of}
use Rattle.air_model.specs.Sections.{planned}
use Rattle.air_model.specs.Making.{each_dense, counted}
use Rattle.air_model.proofs.Counted.{counted-append, length-counted}
use Rattle.air_model.proofs.Airs.{air-push, air_bytes-push, airings_of-push, no_null-dense, air_more-dense}
use Rattle.section_codec.specs.SubTables.{IsFit}
use Rattle.carousel_player.specs.Sending.{Sends, SentAll, SentFront}
use Rattle.carousel_player.specs.Playing.{Playing, AtEnd, Within, Begins, GaveUp}

-- ---- a cycle begins

pids_of : (v : ℕ) (t : SubTable) (ss : Content) (more : List Sent) → t.key.pid < 8191 → AllByRecursion (λ (s : Sent). s.pid < 8191) more → AllByRecursion (λ (s : Sent). s.pid < 8191) (map (sent_section v t) ss ++ more)
pids_of v t [] more lt h = h
pids_of v t (s ∷ ss) more lt h = (lt, pids_of v t ss more lt h)

pids_sent : (f : SubTable → ℕ) (ts : List SubTable) → AllByRecursion IsFit ts → AllByRecursion (λ (s : Sent). s.pid < 8191) (flat_map (λ (t : SubTable). sections_of (f t) t) ts)
pids_sent f [] fit = tt
pids_sent f (t ∷ ts) fit = pids_of (f t) t t.sections (flat_map (λ (u : SubTable). sections_of (f u) u) ts) (let lt : t.key.pid < 8191 = fit.0.pid in omega (arith, lt)) (pids_sent f ts fit.1)

pids_times : (form : CycleForm) (moment : ℕ) → AllByRecursion (λ (s : Sent). s.pid < 8191) (times form moment)
pids_times form moment = (omega arith, go form.offsets)
  where
    go : (offsets : List Offset) → AllByRecursion (λ (s : Sent). s.pid < 8191) (tot moment offsets)
    go [] = tt
    go (o ∷ offsets) = (omega arith, tt)

pids_cycle : (past : List AiredTables) (a : AiredTables) → All IsFit a.tables → AllByRecursion (λ (s : Sent). s.pid < 8191) (cycle_sections past a)
pids_cycle past a fit =
    let n = prefix_len leads a.tables in
    let version : SubTable → ℕ = λ t. version_at t.key (past ++ a ∷ []) in
    let once : AllByRecursion (λ (s : Sent). s.pid < 8191) (sections_once past a) =
    all_append (λ (s : Sent). s.pid < 8191) (table_sections (past ++ a ∷ []) (before_tdt a.tables)) (times a.form a.moment ++ table_sections (past ++ a ∷ []) (behind_tdt a.tables))
    (pids_sent version (before_tdt a.tables) (recursion_from_All IsFit (before_tdt a.tables) (All-take IsFit n a.tables fit)))
    (all_append (λ (s : Sent). s.pid < 8191) (times a.form a.moment) (table_sections (past ++ a ∷ []) (behind_tdt a.tables)) (pids_times a.form a.moment)
    (pids_sent version (behind_tdt a.tables) (recursion_from_All IsFit (behind_tdt a.tables) (All-drop IsFit n a.tables fit)))) in
    all_at (λ (s : Sent). s.pid < 8191) (sections_once past a) (cycle_of (planned (weights_once past a) a.form.quota)) once

pub begins : (xs : List Aired) (ts : List SubTable) (moment : ℕ) (form : CycleForm) (old new : Playing) → AtEnd xs old → All IsFit ts → new.counters ≡ old.counters
    → BookStandsFor (airings_of xs ++ aired ts moment form ∷ []) new.book → new.left ≡ each_dense (cycle_sections (airings_of xs) (aired ts moment form)) → Begins xs (aired ts moment form) new
begins xs ts moment form old new end fit same stands left =
    let a = aired ts moment form in
    let units = each_dense (cycle_sections (airings_of xs) a) in
    let x : Aired = record { airing = a; packets = counted (air xs) units } in
    let pids = pids_cycle (airings_of xs) a fit in
    let longer = airings_of-push xs x in (
      x,
      refl,
      refl,
      record {
        is_air = subst (λ (l : List AiredTables). IsAirOf l (xs ++ x ∷ [])) (sym longer) (air_more-dense (airings_of xs) xs a end.is_air pids);
        no_null = subst HasNoNull (sym (air-push xs x)) (all_append (λ (p : Packet). p.pid < 8191) (air xs) x.packets end.no_null (no_null-dense (airings_of xs) (air xs) a pids));
        handed = [];
        parts = refl;
        sent = record {
          versions = subst (λ (l : List AiredTables). BookStandsFor l new.book) (sym longer) stands;
          counters = subst (λ (l : List Packet). StandFor (map bytes_of_packet l) new.counters) (sym (append-nil (air xs))) (subst (λ (c : List (Option ℕ)). StandFor (map bytes_of_packet (air xs)) c) (sym same) end.sent.counters);
        };
        rest_is = ap₂ counted (sym (append-nil (air xs))) (sym left);
      },
    )

-- ---- packets are handed out

fields_before : (xs : List Aired) (x : Aired) (rest : List Packet) (p : Playing) (w : Within xs x rest p) → AllByRecursion HasFields (air xs ++ w.handed)
fields_before xs x rest p w =
    let whole : air (xs ++ x ∷ []) ≡ (air xs ++ w.handed) ++ rest = air-push xs x ∙ ap (λ (l : List Packet). air xs ++ l) w.parts ∙ sym (append_assoc (air xs) w.handed rest) in
    all_front HasFields (air xs ++ w.handed) rest (subst (AllByRecursion HasFields) whole w.is_air.fields)

-- a front of the rest was handed out
pub record HandsOut (xs : List Aired) (x : Aired) (rest : List Packet) (new : Playing) (bytes : List ℕ) (front left : List Packet) : Type 0 where
  pub parts : rest ≡ front ++ left
  pub bytes_are : bytes ≡ flat_map bytes_of_packet front
  pub within : Within xs x left new

pub hands_out : (xs : List Aired) (x : Aired) (rest : List Packet) (old new : Playing) (bytes : List ℕ) (w : Within xs x rest old) (s : Sends old.left new.left old.counters new.counters bytes) → new.book ≡ old.book
    → HandsOut xs x rest new bytes (counted (air xs ++ w.handed) s.front) (counted ((air xs ++ w.handed) ++ counted (air xs ++ w.handed) s.front) new.left)
hands_out xs x rest old new bytes w s same =
    let past = air xs ++ w.handed in
    let front = counted past s.front in
    let left = counted (past ++ front) new.left in
    let fields = fields_before xs x rest old w in
    let cut : rest ≡ front ++ left = w.rest_is ∙ ap (counted past) s.cut ∙ counted-append past s.front new.left in
    let behind : past ++ front ≡ air xs ++ (w.handed ++ front) = append_assoc (air xs) w.handed front in
    record {
      parts = cut;
      bytes_are = s.bytes_are past fields w.sent.counters;
      within = record {
        is_air = w.is_air;
        no_null = w.no_null;
        handed = w.handed ++ front;
        parts = w.parts ∙ ap (λ (l : List Packet). w.handed ++ l) cut ∙ sym (append_assoc w.handed front left);
        sent = record {
          versions = subst (BookStandsFor (airings_of (xs ++ x ∷ []))) (sym same) w.sent.versions;
          counters = subst (λ (l : List Packet). StandFor (map bytes_of_packet l) new.counters) behind (s.count past fields w.sent.counters);
        };
        rest_is = ap (λ (l : List Packet). counted l new.left) behind;
      };
    }

-- the next packet was handed out
pub next_came : (xs : List Aired) (x : Aired) (p : Packet) (rest : List Packet) (old new : Playing) (bytes : List ℕ) → Within xs x (p ∷ rest) old → Sends old.left new.left old.counters new.counters bytes
    → length old.left ≡ suc (length new.left) → new.book ≡ old.book → (bytes ≡ bytes_of_packet p) × Within xs x rest new
next_came xs x p rest old new bytes w s fewer same =
    let past = air xs ++ w.handed in
    let one : length (counted past s.front) ≡ 1 = length-counted past s.front ∙ omega (arith, ap length s.cut, length-append s.front new.left) in
    go (counted past s.front) (counted (past ++ counted past s.front) new.left) one (hands_out xs x (p ∷ rest) old new bytes w s same)
  where
    go : (front left : List Packet) → length front ≡ 1 → HandsOut xs x (p ∷ rest) new bytes front left → (bytes ≡ bytes_of_packet p) × Within xs x rest new
    go [] left e h = absurd (omega arith)
    go (q ∷ r ∷ front) left e h = absurd (omega arith)
    go (q ∷ []) left e h =
        let parts : p ∷ rest ≡ q ∷ left = h.parts in
        let first : q ≡ p = cc in
        let others : left ≡ rest = cc in
        (h.bytes_are ∙ append-nil (bytes_of_packet q) ∙ ap bytes_of_packet first, subst (λ (l : List Packet). Within xs x l new) others h.within)

-- ---- the end

-- what is left is what is still to come
pub Within-end : (xs : List Aired) (x : Aired) (p : Playing) → Within xs x [] p → AtEnd (xs ++ x ∷ []) p
Within-end xs x p w = record {
  is_air = w.is_air;
  no_null = w.no_null;
  sent = record {
    versions = w.sent.versions;
    counters = subst (λ (l : List Packet). StandFor (map bytes_of_packet l) p.counters)
        (sym (air-push xs x ∙ ap (λ (l : List Packet). air xs ++ l) (w.parts ∙ append-nil w.handed))) w.sent.counters;
  };
  none = none p.left w.rest_is;
}
  where
    none : (left : List Packet) → [] ≡ counted (air xs ++ w.handed) left → left ≡ []
    none [] e = refl
    none (q ∷ left) e = cc

pub Within-none : (xs : List Aired) (x : Aired) (rest : List Packet) (p : Playing) → Within xs x rest p → p.left ≡ [] → rest ≡ []
Within-none xs x rest p w e = w.rest_is ∙ ap (counted (air xs ++ w.handed)) e

-- ---- outcomes

pub on_ok_both : {T E : Type 0} (r : Result T E) (A B C : Type 0) → OnOk r A → OnOk r B → (A → B → C) → OnOk r C
on_ok_both (Ok y) A B C a b f = f a b
on_ok_both (Err e) A B C a b f = tt

pub on_ok_of : {T E : Type 0} (r : Result T E) (A B : Type 0) → OnOk r A → (A → B) → OnOk r B
on_ok_of (Ok y) A B a f = f a
on_ok_of (Err e) A B a f = tt

pub on_err_of : {T E : Type 0} (r : Result T E) (A B : Type 0) → OnErr r A → (A → B) → OnErr r B
on_err_of (Ok y) A B a f = tt
on_err_of (Err e) A B a f = f a

-- all of the rest was handed out
pub sent_all : (xs : List Aired) (x : Aired) (rest : List Packet) (old new : Playing) (a c : Option (List ℕ)) → Within xs x rest old → SentAll old.left new.left old.counters new.counters a c → new.book ≡ old.book
    → AtEnd (xs ++ x ∷ []) new × Appends a c (flat_map bytes_of_packet rest)
sent_all xs x rest old new a c w sent same =
    let past = air xs ++ w.handed in
    let front = counted past sent.sends.front in
    let h = hands_out xs x rest old new sent.bytes w sent.sends same in
    let ended : counted (past ++ front) new.left ≡ [] = ap (counted (past ++ front)) sent.none in
    let whole : rest ≡ front = h.parts ∙ ap (λ (l : List Packet). front ++ l) ended ∙ append-nil front in
    (Within-end xs x new (subst (λ (l : List Packet). Within xs x l new) ended h.within), subst (Appends a c) (h.bytes_are ∙ ap (flat_map bytes_of_packet) (sym whole)) sent.appends)

-- the sink failed behind a front of the rest
pub gave_up : (xs : List Aired) (x : Aired) (rest : List Packet) (old new : Playing) (a c : Option (List ℕ)) → Within xs x rest old → SentFront old.left new.left old.counters new.counters a c → new.book ≡ old.book → GaveUp xs x rest a c new
gave_up xs x rest old new a c w sent same =
    let past = air xs ++ w.handed in
    let h = hands_out xs x rest old new sent.bytes w sent.sends same in
    (counted past sent.sends.front, counted (past ++ counted past sent.sends.front) new.left, h.parts, h.within, subst (AppendsFront a c) h.bytes_are sent.front)

-- ---- the air

-- where a sink failed, it has a front of the bytes that were to come, and not all of them
pub GaveUp-front : (xs : List Aired) (x : Aired) (rest : List Packet) (a c : Option (List ℕ)) (p : Playing) → GaveUp xs x rest a c p → AppendsFront a c (flat_map bytes_of_packet rest)
GaveUp-front xs x rest a c p (handed, left, parts, within, front) =
    let whole : flat_map bytes_of_packet rest ≡ flat_map bytes_of_packet handed ++ flat_map bytes_of_packet left = ap (flat_map bytes_of_packet) parts ∙ flat_map-append bytes_of_packet handed left in
    let same : take front.0 (flat_map bytes_of_packet rest) ≡ take front.0 (flat_map bytes_of_packet handed) =
    ap (take front.0) whole ∙ take-append-le front.0 (flat_map bytes_of_packet handed) (flat_map bytes_of_packet left) (omega (arith, front.1)) in
    (front.0, omega (arith, front.1, ap length whole, length-append (flat_map bytes_of_packet handed) (flat_map bytes_of_packet left)), subst (Appends a c) (sym same) front.2)

-- an air, and then the cycle of one airing more
pub air_appended : (xs : List Aired) (x : Aired) (a b c : Option (List ℕ)) → Appends a b (air_bytes xs) → Appends b c (flat_map bytes_of_packet x.packets) → Appends a c (air_bytes (xs ++ x ∷ []))
air_appended xs x a b c p q = subst (Appends a c) (sym (air_bytes-push xs x)) (Appends-trans a b c (air_bytes xs) (flat_map bytes_of_packet x.packets) p q)

-- an air, and then a front of the cycle of one airing more
pub air_front : (xs : List Aired) (x : Aired) (a b c : Option (List ℕ)) → Appends a b (air_bytes xs) → AppendsFront b c (flat_map bytes_of_packet x.packets) → AppendsFront a c (air_bytes (xs ++ x ∷ []))
air_front xs x a b c p q = subst (AppendsFront a c) (sym (air_bytes-push xs x)) (front_behind a b c (air_bytes xs) (flat_map bytes_of_packet x.packets) p q)
