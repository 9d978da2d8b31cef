-- What a player stands for, from call to call.
use Rattle.std.proofs.Common.{◌≡◌, ℕ, suc, ◌<◌, List, [], ◌∷◌, ◌++◌, Option, length, refl, sym, ap, ap₂, ◌∙◌, subst, arith, map, append_assoc, append-nil, length-append}
use Rattle.std.specs.Prelude.{◌*◌, flat_map, slice_get, Result, Ok, Err, OnOk, OnErr, IfOk}
use Rattle.std.specs.Io.KnownBytes.{Appends}
use Rattle.std.specs.List.{AllByRecursion}
use Rattle.si_causes.specs.Causes.{AppendsFront}
use Rattle.si_lists.proofs.Lists.{all_append, all_front}
use Rattle.version_book.specs.Airings.{AiredTables}
use Rattle.version_book.specs.Book.{BookStandsFor}
use Rattle.ts_packets.specs.Bytes.{Packet, HasFields, bytes_of_packet}
use Rattle.ts_packets.specs.Counting.{StandFor}
use Rattle.air_model.specs.Air.{Aired, air, airings_of, sections_once}
use Rattle.air_model.specs.Bursts.{paced_packets}
use Rattle.air_model.specs.Making.{counted}
use Rattle.air_model.proofs.Counted.{counted-append, length-counted}
use Rattle.air_model.proofs.Airs.{air-push, airings_of-push}
use Rattle.cycle_timing.specs.Airs.{CanBeTimed}
use Rattle.cycle_timing.specs.Clock.{Clock, later, at_swap}
use Rattle.cycle_timing.specs.Cycle.{at_moment, sent_at, runs_of, cycle_timed, clock_of, AreTimed}
use Rattle.cycle_timing.specs.Planning.{timings_of}
use Rattle.cycle_timing.proofs.Airs.{timed_airs_are_airs}
use Rattle.cycle_timing.proofs.Growing.{timed_push}
use Rattle.carousel_player.specs.Sending.{Sends, SentAll, SentFront}
use Rattle.cycle_player.specs.Clock.{capped}
use Rattle.cycle_player.specs.Playing.{TimedPlaying, uncounted_at, clock_kept, AtEnd, Within, Begins, GaveUp}
use Rattle.cycle_player.proofs.Chosen.{bursts_same}
use Rattle.cycle_player.proofs.Clocks.{told_capped, clock_begins, clock_ends}

-- ---- a cycle begins

pub begins : (xs : List Aired) (a : AiredTables) (old new : TimedPlaying) → AtEnd xs old → CanBeTimed a → new.rate ≡ old.rate → new.counters ≡ old.counters
    → BookStandsFor (airings_of xs ++ a ∷ []) new.book → new.left ≡ uncounted_at old.rate (clock_of old.rate xs a) (airings_of xs) a
    → ((x : Aired) → x.airing ≡ a → length x.packets ≡ length new.left → new.clock ≡ clock_kept old.rate (xs ++ x ∷ [])) → Begins xs a new
begins xs a old new end can rate_is same stands left clock =
    let units = uncounted_at old.rate (clock_of old.rate xs a) (airings_of xs) a in
    let x : Aired = record { airing = a; packets = counted (air xs) units } in
    let longer = airings_of-push xs x in
    let size : length x.packets ≡ length new.left = length-counted (air xs) units ∙ ap length (sym left) in
    let timed : AreTimed old.rate [] (xs ++ x ∷ []) = timed_push old.rate [] xs x end.timed refl in (
      x,
      refl,
      ap (λ (r : ℕ). cycle_timed r (airings_of xs) (air xs) (clock_of r xs a) a) (sym rate_is),
      record {
        timed = subst (λ (r : ℕ). AreTimed r [] (xs ++ x ∷ [])) (sym rate_is) timed;
        can = all_append (λ (y : Aired). CanBeTimed y.airing) xs (x ∷ []) end.can (can, tt);
        handed = [];
        parts = refl;
        versions = subst (λ (l : List AiredTables). BookStandsFor l new.book) (sym longer) stands;
        counters = subst (λ (l : List Packet). StandFor (map bytes_of_packet l) new.counters) (sym (append-nil (air xs))) (subst (λ (c : List (Option ℕ)). StandFor (map bytes_of_packet (air xs)) c) (sym same) end.counters);
        rest_is = ap₂ counted (sym (append-nil (air xs))) (sym left);
        clock = clock x refl size ∙ ap (λ (r : ℕ). clock_kept r (xs ++ x ∷ [])) (sym rate_is);
      },
    )

-- with the clock as it is kept
uncounted_same : (rate : ℕ) (one two : Clock) (past : List AiredTables) (a : AiredTables) → one ≡ capped two → uncounted_at rate one past a ≡ uncounted_at rate two past a
uncounted_same rate one two past a is =
    let ts = timings_of rate past a in
    ap (λ (c : Clock). uncounted_at rate c past a) is
    ∙ ap paced_packets (bursts_same (sent_at rate past (capped two) a) (sent_at rate past two a)
    (λ t. ap (λ (m : ℕ). slice_get (sections_once past (at_moment m a)) t.section) (told_capped rate t.first two)) (runs_of ts))

pub swapped : (xs : List Aired) (a : AiredTables) (old new : TimedPlaying) (begun : Clock) (n : ℕ) → AtEnd xs old → CanBeTimed a → a.moment < 65536 * 86400 → new.rate ≡ old.rate → new.counters ≡ old.counters
    → BookStandsFor (airings_of xs ++ a ∷ []) new.book → begun ≡ at_swap a.moment old.clock → new.left ≡ uncounted_at old.rate begun (airings_of xs) a → n ≡ length new.left
    → new.clock ≡ capped (later old.rate n begun) → Begins xs a new
swapped xs a old new begun n end can lt rate_is same stands at left many clock =
    let begun_is : begun ≡ capped (clock_of old.rate xs a) = at ∙ clock_begins old.rate xs a old.clock end.clock lt in
    begins xs a old new end can rate_is same stands (left ∙ uncounted_same old.rate begun (clock_of old.rate xs a) (airings_of xs) a begun_is)
    (λ x is size. clock ∙ clock_ends old.rate xs x n begun (begun_is ∙ ap (λ (b : AiredTables). capped (clock_of old.rate xs b)) (sym is)) (many ∙ sym size))

-- ---- packets are handed out

fields_before : (xs : List Aired) (x : Aired) (rest : List Packet) (p : TimedPlaying) (w : Within xs x rest p) → AllByRecursion HasFields (air xs ++ w.handed)
fields_before xs x rest p w =
    let whole : air (xs ++ x ∷ []) ≡ (air xs ++ w.handed) ++ rest = air-push xs x ∙ ap (λ (l : List Packet). air xs ++ l) w.parts ∙ sym (append_assoc (air xs) w.handed rest) in
    let fields = (timed_airs_are_airs p.rate (xs ++ x ∷ []) w.timed w.can).fields in
    all_front HasFields (air xs ++ w.handed) rest (subst (AllByRecursion HasFields) whole fields)

-- all else of a player stays
pub record Keeps (old new : TimedPlaying) : Type 0 where
  pub book : new.book ≡ old.book
  pub rate : new.rate ≡ old.rate
  pub clock : new.clock ≡ old.clock

-- a front of the rest was handed out
pub record HandsOut (xs : List Aired) (x : Aired) (rest : List Packet) (new : TimedPlaying) (bytes : List ℕ) (front left : List Packet) : Type 0 where
  pub parts : rest ≡ front ++ left
  pub bytes_are : bytes ≡ flat_map bytes_of_packet front
  pub within : Within xs x left new

pub hands_out : (xs : List Aired) (x : Aired) (rest : List Packet) (old new : TimedPlaying) (bytes : List ℕ) (w : Within xs x rest old) (s : Sends old.left new.left old.counters new.counters bytes) → Keeps old new
    → HandsOut xs x rest new bytes (counted (air xs ++ w.handed) s.front) (counted ((air xs ++ w.handed) ++ counted (air xs ++ w.handed) s.front) new.left)
hands_out xs x rest old new bytes w s keeps =
    let past = air xs ++ w.handed in
    let front = counted past s.front in
    let left = counted (past ++ front) new.left in
    let fields = fields_before xs x rest old w in
    let cut : rest ≡ front ++ left = w.rest_is ∙ ap (counted past) s.cut ∙ counted-append past s.front new.left in
    let behind : past ++ front ≡ air xs ++ (w.handed ++ front) = append_assoc (air xs) w.handed front in
    record {
      parts = cut;
      bytes_are = s.bytes_are past fields w.counters;
      within = record {
        timed = subst (λ (r : ℕ). AreTimed r [] (xs ++ x ∷ [])) (sym keeps.rate) w.timed;
        can = w.can;
        handed = w.handed ++ front;
        parts = w.parts ∙ ap (λ (l : List Packet). w.handed ++ l) cut ∙ sym (append_assoc w.handed front left);
        versions = subst (BookStandsFor (airings_of (xs ++ x ∷ []))) (sym keeps.book) w.versions;
        counters = subst (λ (l : List Packet). StandFor (map bytes_of_packet l) new.counters) behind (s.count past fields w.counters);
        rest_is = ap (λ (l : List Packet). counted l new.left) behind;
        clock = keeps.clock ∙ w.clock ∙ ap (λ (r : ℕ). clock_kept r (xs ++ x ∷ [])) (sym keeps.rate);
      };
    }

-- the next packet was handed out
pub next_came : (xs : List Aired) (x : Aired) (p : Packet) (rest : List Packet) (old new : TimedPlaying) (bytes : List ℕ) → Within xs x (p ∷ rest) old → Sends old.left new.left old.counters new.counters bytes
    → length old.left ≡ suc (length new.left) → Keeps old new → (bytes ≡ bytes_of_packet p) × Within xs x rest new
next_came xs x p rest old new bytes w s fewer keeps =
    let past = air xs ++ w.handed in
    let one : length (counted past s.front) ≡ 1 = length-counted past s.front ∙ omega (arith, ap length s.cut, length-append s.front new.left) in
    go (counted past s.front) (counted (past ++ counted past s.front) new.left) one (hands_out xs x (p ∷ rest) old new bytes w s keeps)
  where
    go : (front left : List Packet) → length front ≡ 1 → HandsOut xs x (p ∷ rest) new bytes front left → (bytes ≡ bytes_of_packet p) × Within xs x rest new
    go [] left e h = absurd (omega arith)
    go (q ∷ r ∷ front) left e h = absurd (omega arith)
    go (q ∷ []) left e h =
        let parts : p ∷ rest ≡ q ∷ left = h.parts in
        let first : q ≡ p = cc in
        let others : left ≡ rest = cc in
        (h.bytes_are ∙ append-nil (bytes_of_packet q) ∙ ap bytes_of_packet first, subst (λ (l : List Packet). Within xs x l new) others h.within)

-- ---- the end

-- what is left is what is still to come
pub Within-end : (xs : List Aired) (x : Aired) (p : TimedPlaying) → Within xs x [] p → AtEnd (xs ++ x ∷ []) p
Within-end xs x p w = record {
  timed = w.timed;
  can = w.can;
  versions = w.versions;
  counters = subst (λ (l : List Packet). StandFor (map bytes_of_packet l) p.counters)
      (sym (air-push xs x ∙ ap (λ (l : List Packet). air xs ++ l) (w.parts ∙ append-nil w.handed))) w.counters;
  clock = w.clock;
  none = none p.left w.rest_is;
}
  where
    none : (left : List Packet) → [] ≡ counted (air xs ++ w.handed) left → left ≡ []
    none [] e = refl
    none (q ∷ left) e = cc

-- all of the rest was handed out
pub all_out : (xs : List Aired) (x : Aired) (rest : List Packet) (old new : TimedPlaying) (bytes : List ℕ) → Within xs x rest old → Sends old.left new.left old.counters new.counters bytes → Keeps old new → new.left ≡ []
    → AtEnd (xs ++ x ∷ []) new × (bytes ≡ flat_map bytes_of_packet rest)
all_out xs x rest old new bytes w s keeps none =
    let past = air xs ++ w.handed in
    let front = counted past s.front in
    let h = hands_out xs x rest old new bytes w s keeps in
    let ended : counted (past ++ front) new.left ≡ [] = ap (counted (past ++ front)) none in
    let whole : rest ≡ front = h.parts ∙ ap (λ (l : List Packet). front ++ l) ended ∙ append-nil front in
    (Within-end xs x new (subst (λ (l : List Packet). Within xs x l new) ended h.within), h.bytes_are ∙ ap (flat_map bytes_of_packet) (sym whole))

pub sent_all : (xs : List Aired) (x : Aired) (rest : List Packet) (old new : TimedPlaying) (a c : Option (List ℕ)) → Within xs x rest old → SentAll old.left new.left old.counters new.counters a c → Keeps old new
    → AtEnd (xs ++ x ∷ []) new × Appends a c (flat_map bytes_of_packet rest)
sent_all xs x rest old new a c w sent keeps =
    let out = all_out xs x rest old new sent.bytes w sent.sends keeps sent.none in
    (out.0, subst (Appends a c) out.1 sent.appends)

-- the sink failed after a front of the rest
pub gave_up : (xs : List Aired) (x : Aired) (rest : List Packet) (old new : TimedPlaying) (a c : Option (List ℕ)) → Within xs x rest old → SentFront old.left new.left old.counters new.counters a c → Keeps old new
    → GaveUp xs x rest a c new
gave_up xs x rest old new a c w sent keeps =
    let past = air xs ++ w.handed in
    let front = sent.sends.front in
    let h = hands_out xs x rest old new sent.bytes w sent.sends keeps in
    (counted past front, counted (past ++ counted past front) new.left, h.parts, h.within, subst (AppendsFront a c) h.bytes_are sent.front)

-- ---- outcomes

pub on_ok_of : {T E : Type 0} (r : Result T E) (A B : Type 0) → OnOk r A → (A → B) → OnOk r B
on_ok_of (Ok y) A B a f = f a
on_ok_of (Err e) A B a f = tt

pub on_err_of : {T E : Type 0} (r : Result T E) (A B : Type 0) → OnErr r A → (A → B) → OnErr r B
on_err_of (Ok y) A B a f = tt
on_err_of (Err e) A B a f = f a

pub both_ways : {T E : Type 0} (r : Result T E) (A B C : Type 0) → OnOk r A → OnErr r B → (A → C) → (B → C) → C
both_ways (Ok y) A B C a b f g = f a
both_ways (Err e) A B C a b f g = g b

pub on_ok_three : {T E : Type 0} (r : Result T E) (A B C D : Type 0) → OnOk r A → OnOk r B → OnOk r C → (A → B → C → D) → OnOk r D
on_ok_three (Ok y) A B C D a b c f = f a b c
on_ok_three (Err e) A B C D a b c f = tt

pub if_ok_three : {T E : Type 0} (r : Result T E) (A B C : Type 0) (P Q : T → Type 0) → OnOk r A → OnOk r B → OnOk r C → IfOk r P → ((y : T) → A → B → C → P y → Q y) → IfOk r Q
if_ok_three (Ok y) A B C P Q a b c p f = f y a b c p
if_ok_three (Err e) A B C P Q a b c p f = tt
