-- A cycle goes on: one section or one null packet further.
use Rattle.std.proofs.Common.{◌≡◌, ℕ, ◌+◌, ◌-◌, ◌<◌, ◌≤◌, Bool, true, false, List, [], ◌∷◌, ◌++◌, Option, Some, None, length, get_or, replicate, refl, sym, ap, ap₂, ◌∙◌, subst, map, drop, lt-ltb, length-append}
use Rattle.std.specs.Prelude.{filter_map, option_map, slice_get, nat_lt, if◌then◌else◌}
use Rattle.std.specs.List.{AllByRecursion, cons_option}
use Rattle.std.proofs.lemmas.Bool.{le-ltb}
use Rattle.std.proofs.lemmas.Option.{slice_get-map, slice_get-get_or}
use Rattle.std.proofs.lemmas.List.{length-map}
use Rattle.ts_packets.specs.Bytes.{Packet}
use Rattle.air_timing.specs.declared.timing.Timing.{Timing}
use Rattle.air_model.specs.Air.{Sent}
use Rattle.air_model.specs.Making.{each_dense}
use Rattle.air_model.specs.Bursts.{Burst, null_packet, paced_packets}
use Rattle.cycle_timing.specs.Clock.{Clock, told_at}
use Rattle.cycle_timing.specs.Cycle.{Runs, runs_from, burst_of}
use Rattle.carousel_player.specs.Queue.{CanBeSent, IsBegun}
use Rattle.carousel_player.proofs.Packs.{some_packet}
use Rattle.air_model.proofs.Dense.{HaveSome}
use Rattle.carousel_player.specs.Packing.{packets_behind}
use Rattle.air_model.specs.Telling.{sent_retold, Retells}
use Rattle.cycle_player.specs.Running.{Course, sent_in, at_hand, runs_left, run_of, bursts_of, packets_left, first_of, shares_with, Begins, PassesNull, BeginsRun, IsLaid, IsAtHand, IsCourse}
use Rattle.cycle_player.proofs.Numbers.{none_of_some, some_more, same_some, nothing_between, one_between, next_within, before_within, some_second, some_first}
use Rattle.cycle_player.proofs.Chosen.{chosen_same, bursts_same, all_chosen, told_fit, got}

have_some : (ss : List Sent) → AllByRecursion CanBeSent ss → HaveSome ss
have_some [] h = tt
have_some (s ∷ ss) h = (h.0.some, have_some ss h.1)

-- ---- what is sent with a timing stays

same_sent : (t u : Timing) (old new : Course) → Begins t old new → sent_in new u ≡ sent_in old u
same_sent t u old new h =
    let m = told_at old.rate old.clock u.first in
    ap₂ (λ (r : ℕ) (k : Clock). option_map (sent_retold (told_at r k u.first)) (slice_get new.laid u.section)) h.rate h.clock
    ∙ sym (slice_get-map (sent_retold m) new.laid u.section) ∙ ap (λ (l : List Sent). slice_get l u.section) (h.told.others m) ∙ slice_get-map (sent_retold m) old.laid u.section

-- the runs after a section that begins
abbrev runs_after : Course → Timing → List Timing → Runs
runs_after c t ts = runs_from (t.last + 1) ts

module _ (t : Timing) (ts : List Timing) (old new : Course) (h : Begins t old new) (next : old.left ≡ t ∷ ts) where
  left_is : new.left ≡ ts
  left_is = h.left ∙ ap (drop 1) next

  runs_are : runs_left new ≡ runs_from (t.last + 1) ts
  runs_are = ap₂ runs_from h.end left_is

  pub begun_run : run_of new ≡ cons_option (sent_in old t) (filter_map (sent_in old) (runs_from (t.last + 1) ts).part)
  begun_run =
      ap₂ cons_option (ap (at_hand new.laid) h.at ∙ h.told.here)
      (chosen_same (sent_in new) (sent_in old) (λ u. same_sent t u old new h) (runs_left new).part ∙ ap (λ (r : Runs). filter_map (sent_in old) r.part) runs_are)

  pub begun_bursts : bursts_of new ≡ map (burst_of (sent_in old)) (runs_from (t.last + 1) ts).runs
  begun_bursts =
      bursts_same (sent_in new) (sent_in old) (λ u. same_sent t u old new h) (runs_left new).runs ∙ ap (λ (r : Runs). map (burst_of (sent_in old)) r.runs) runs_are

-- ---- the first of the timings to come

pub first_is : (ts : List Timing) (t : Timing) → first_of ts ≡ Some t → ts ≡ t ∷ drop 1 ts
first_is [] t e = cc
first_is (u ∷ ts) t e = let same : u ≡ t = cc in ap (λ (x : Timing). x ∷ ts) same

-- ---- a section is passed

-- it shares packets with the next one
runs_shared : (end : ℕ) (t : Timing) (ts : List Timing) → nat_lt t.first end ≡ true
    → runs_from end (t ∷ ts) ≡ record { part = t ∷ (runs_from (t.last + 1) ts).part; runs = (runs_from (t.last + 1) ts).runs }
runs_shared end t ts e =
    let r = runs_from (t.last + 1) ts in
    ap (λ (b : Bool). if b then record { part = t ∷ r.part; runs = r.runs } else record { part = []; runs = record { nulls = t.first - end; part = t ∷ r.part } ∷ r.runs }) e

runs_apart : (end : ℕ) (t : Timing) (ts : List Timing) → nat_lt t.first end ≡ false
    → runs_from end (t ∷ ts) ≡ record { part = []; runs = record { nulls = t.first - end; part = t ∷ (runs_from (t.last + 1) ts).part } ∷ (runs_from (t.last + 1) ts).runs }
runs_apart end t ts e =
    let r = runs_from (t.last + 1) ts in
    ap (λ (b : Bool). if b then record { part = t ∷ r.part; runs = r.runs } else record { part = []; runs = record { nulls = t.first - end; part = t ∷ r.part } ∷ r.runs }) e

drop_hand : (o : Option Sent) (s : Sent) (ss : List Sent) → o ≡ Some s → drop 1 (cons_option o ss) ≡ ss
drop_hand o s ss e = ap (λ (x : Option Sent). drop 1 (cons_option x ss)) e

-- one is at hand where a section is to come of the run
pub some_hand : (c : Course) (at : ℕ) → IsCourse c → c.at ≡ Some at → (s : Sent) × (slice_get c.laid at ≡ Some s)
some_hand c at h e =
    let lt : at < length c.laid = subst (IsAtHand (length c.laid) c.end c.left) e h.hand in
    (get_or c.laid at (record { pid = 0; bytes = [] }), slice_get-get_or c.laid at (record { pid = 0; bytes = [] }) lt)

-- where no section is at hand, none is to come of the run
no_part : (end : ℕ) (ts : List Timing) → shares_with end ts ≡ false → (runs_from end ts).part ≡ []
no_part end [] e = refl
no_part end (t ∷ ts) e = ap (λ (r : Runs). r.part) (runs_apart end t ts e)

pub no_run : (c : Course) → IsCourse c → c.at ≡ None → run_of c ≡ []
no_run c h e =
    let alone : shares_with c.end c.left ≡ false = subst (IsAtHand (length c.laid) c.end c.left) e h.hand in
    ap₂ (λ (o : Option Sent) (ts : List Timing). cons_option o (filter_map (sent_in c) ts)) (ap (at_hand c.laid) e) (no_part c.end c.left alone)

-- what passing a section does
pub record Passed (old new : Course) : Type 0 where
  pub run : run_of new ≡ drop 1 (run_of old)
  pub bursts : bursts_of new ≡ bursts_of old

pub pass_on : (t : Timing) (at : ℕ) (old new : Course) → IsCourse old → old.at ≡ Some at → Begins t old new → first_of old.left ≡ Some t → t.first < old.end → Passed old new
pass_on t at old new h e begins first lt =
    let ts = drop 1 old.left in
    let next : old.left ≡ t ∷ ts = first_is old.left t first in
    let hand = some_hand old at h e in
    let runs : runs_left old ≡ record { part = t ∷ (runs_from (t.last + 1) ts).part; runs = (runs_from (t.last + 1) ts).runs } =
    ap (runs_from old.end) next ∙ runs_shared old.end t ts (lt-ltb t.first old.end lt) in
    record {
      run = begun_run t ts old new begins next
          ∙ sym (drop_hand (at_hand old.laid old.at) hand.0 (filter_map (sent_in old) (runs_left old).part) (ap (at_hand old.laid) e ∙ hand.1) ∙ ap (λ (r : Runs). filter_map (sent_in old) r.part) runs);
      bursts = begun_bursts t ts old new begins next ∙ sym (ap (λ (r : Runs). map (burst_of (sent_in old)) r.runs) runs);
    }

pub passed : (t : Timing) (old new : Course) → IsCourse old → 0 < length (run_of old) → Begins t old new → first_of old.left ≡ Some t → t.first < old.end → Passed old new
passed t old new h some begins first lt = go old.at refl
  where
    go : (o : Option ℕ) → old.at ≡ o → Passed old new
    go None e = absurd (none_of_some (length (run_of old)) some (ap length (no_run old h e)))
    go (Some at) e = pass_on t at old new h e begins first lt

pub some_run : (c : Course) (at : ℕ) → IsCourse c → c.at ≡ Some at → 0 < length (run_of c)
some_run c at h e =
    let hand = some_hand c at h e in
    let rest = filter_map (sent_in c) (runs_left c).part in
    subst (λ (o : Option Sent). 0 < length (cons_option o rest)) (sym (ap (at_hand c.laid) e ∙ hand.1)) (some_more (length rest))

-- ---- what always holds goes on

laid_as_many : (m at : ℕ) (old new : List Sent) → Retells m at old new → length new ≡ length old
laid_as_many m at old new h = sym (length-map new (sent_retold 0)) ∙ ap length (h.others 0) ∙ length-map old (sent_retold 0)

pub begun_fine : (t : Timing) (old new : Course) → IsCourse old → Begins t old new → first_of old.left ≡ Some t → IsCourse new
begun_fine t old new h begins first =
    let next : old.left ≡ t ∷ drop 1 old.left = first_is old.left t first in
    let all : AllByRecursion (IsLaid (length old.laid)) (t ∷ drop 1 old.left) = subst (AllByRecursion (IsLaid (length old.laid))) next h.left in
    let many = laid_as_many (told_at old.rate old.clock t.first) t.section old.laid new.laid begins.told in
    record {
      left = subst (λ (n : ℕ). AllByRecursion (IsLaid n) new.left) (sym many) (subst (AllByRecursion (IsLaid (length old.laid))) (sym begins.left) all.1);
      hand = subst (IsAtHand (length new.laid) new.end new.left) (sym begins.at) (subst (λ (n : ℕ). t.section < n) (sym many) all.0.0);
      each = begins.each;
      rate = subst (λ (n : ℕ). 0 < n) (sym begins.rate) h.rate;
    }

-- ---- each section of a run can be sent

pub run_fit : (c : Course) → IsCourse c → AllByRecursion CanBeSent (run_of c)
run_fit c h = go c.at refl
  where
    rest : AllByRecursion CanBeSent (filter_map (sent_in c) (runs_left c).part)
    rest = all_chosen CanBeSent (sent_in c) (λ t s e. told_fit (told_at c.rate c.clock t.first) c.laid t.section s h.each e) (runs_left c).part

    with : (o : Option Sent) → ((s : Sent) → o ≡ Some s → CanBeSent s) → AllByRecursion CanBeSent (cons_option o (filter_map (sent_in c) (runs_left c).part))
    with None f = rest
    with (Some s) f = (f s refl, rest)

    go : (at : Option ℕ) → c.at ≡ at → AllByRecursion CanBeSent (cons_option (at_hand c.laid c.at) (filter_map (sent_in c) (runs_left c).part))
    go None e = subst (λ (o : Option Sent). AllByRecursion CanBeSent (cons_option o (filter_map (sent_in c) (runs_left c).part))) (sym (ap (at_hand c.laid) e)) rest
    go (Some at) e =
        subst (λ (o : Option Sent). AllByRecursion CanBeSent (cons_option o (filter_map (sent_in c) (runs_left c).part))) (sym (ap (at_hand c.laid) e))
        (with (slice_get c.laid at) (λ s f. got CanBeSent c.laid at s h.each f))

-- ---- a run begins

nulls_gone : (n : ℕ) (b : List Packet) → n ≡ 0 → replicate n null_packet ++ b ≡ b
nulls_gone n b e = ap (λ (k : ℕ). replicate k null_packet ++ b) e

-- a section at hand has packets
some_packets : (ss : List Sent) (from : ℕ) → 0 < length ss → AllByRecursion CanBeSent ss → IsBegun from ss → 0 < length (packets_behind ss from)
some_packets [] from some fit begun = absurd (none_of_some 0 some refl)
some_packets (s ∷ ss) from some fit begun =
    let p = some_packet s ss from (have_some (s ∷ ss) fit) begun in
    same_some (length (packets_behind (s ∷ ss) from)) (length p.1) (ap length p.2)

begun_first : (ss : List Sent) → AllByRecursion CanBeSent ss → IsBegun 0 ss
begun_first [] fit = refl
begun_first (s ∷ ss) fit = fit.0.some

-- where no section is at hand, there is no run
pub none_at : (c : Course) → IsCourse c → run_of c ≡ [] → c.at ≡ None
none_at c h between = go c.at refl
  where
    go : (o : Option ℕ) → c.at ≡ o → o ≡ None
    go None e = refl
    go (Some at) e = absurd (none_of_some (length (run_of c)) (some_run c at h e) (ap length between))

pub begins_run : (t : Timing) (old new : Course) → IsCourse old → run_of old ≡ [] → Begins t old new → first_of old.left ≡ Some t → t.first ≤ old.end → BeginsRun old new
begins_run t old new h between begins first now =
    let ts = drop 1 old.left in
    let next : old.left ≡ t ∷ ts = first_is old.left t first in
    let r = runs_from (t.last + 1) ts in
    let fine = begun_fine t old new h begins first in
    let fit = run_fit new fine in
    let alone : shares_with old.end old.left ≡ false = subst (IsAtHand (length old.laid) old.end old.left) (none_at old h between) h.hand in
    let apart : nat_lt t.first old.end ≡ false = subst (λ (l : List Timing). shares_with old.end l ≡ false) next alone in
    let runs : runs_left old ≡ record { part = []; runs = record { nulls = t.first - old.end; part = t ∷ r.part } ∷ r.runs } =
    ap (runs_from old.end) next ∙ runs_apart old.end t ts apart in
    let dense = each_dense (filter_map (sent_in old) (t ∷ r.part)) in
    let later = paced_packets (map (burst_of (sent_in old)) r.runs) in
    let before : paced_packets (bursts_of old) ≡ (replicate (t.first - old.end) null_packet ++ dense) ++ later =
    ap (λ (q : Runs). paced_packets (map (burst_of (sent_in old)) q.runs)) runs in
    let gone = nothing_between t.first old.end now in
    record {
      begun = begun_first (run_of new) fit;
      some = some_packets (run_of new) 0 (some_run new t.section fine begins.at) fit (begun_first (run_of new) fit);
      packets = ap₂ (λ (ss : List Sent) (bs : List Burst). each_dense ss ++ paced_packets bs) (begun_run t ts old new begins next) (begun_bursts t ts old new begins next)
          ∙ sym (before ∙ ap (λ (l : List Packet). l ++ later) (nulls_gone (t.first - old.end) dense gone));
    }

-- ---- a null packet

abbrev pub with_null : Course → Course
with_null c = record { laid = c.laid; at = c.at; left = c.left; end = c.end + 1; rate = c.rate; clock = c.clock }

pub null_fine : (t : Timing) (c : Course) → IsCourse c → run_of c ≡ [] → first_of c.left ≡ Some t → c.end < t.first → IsCourse (with_null c)
null_fine t c h between first lt =
    let next : c.left ≡ t ∷ drop 1 c.left = first_is c.left t first in
    let still : nat_lt t.first (c.end + 1) ≡ false = le-ltb t.first (c.end + 1) (next_within c.end t.first lt) in
    record {
      left = h.left;
      hand = subst (IsAtHand (length c.laid) (c.end + 1) c.left) (sym (none_at c h between)) (subst (λ (l : List Timing). shares_with (c.end + 1) l ≡ false) (sym next) still);
      each = h.each;
      rate = h.rate;
    }

pub null_passed : (t : Timing) (c : Course) → IsCourse c → run_of c ≡ [] → first_of c.left ≡ Some t → c.end < t.first → PassesNull c (with_null c)
null_passed t c h between first lt =
    let ts = drop 1 c.left in
    let next : c.left ≡ t ∷ ts = first_is c.left t first in
    let r = runs_from (t.last + 1) ts in
    let apart : nat_lt t.first c.end ≡ false = le-ltb t.first c.end (before_within c.end t.first lt) in
    let still : nat_lt t.first (c.end + 1) ≡ false = le-ltb t.first (c.end + 1) (next_within c.end t.first lt) in
    let old_runs : runs_left c ≡ record { part = []; runs = record { nulls = t.first - c.end; part = t ∷ r.part } ∷ r.runs } = ap (runs_from c.end) next ∙ runs_apart c.end t ts apart in
    let new_runs : runs_left (with_null c) ≡ record { part = []; runs = record { nulls = t.first - (c.end + 1); part = t ∷ r.part } ∷ r.runs } =
    ap (runs_from (c.end + 1)) next ∙ runs_apart (c.end + 1) t ts still in
    let dense = each_dense (filter_map (sent_in c) (t ∷ r.part)) in
    let behind = paced_packets (map (burst_of (sent_in c)) r.runs) in
    let count = one_between t.first c.end lt in
    record {
      between = no_run (with_null c) (null_fine t c h between first lt) (none_at c h between);
      packets = ap (λ (q : Runs). paced_packets (map (burst_of (sent_in c)) q.runs)) old_runs
          ∙ ap (λ (k : ℕ). (replicate k null_packet ++ dense) ++ behind) count
          ∙ ap (λ (l : List Packet). null_packet ∷ l) (sym (ap (λ (q : Runs). paced_packets (map (burst_of (sent_in c)) q.runs)) new_runs));
    }

-- ---- nothing, or something, is to come

pub nothing_left : (c : Course) → IsCourse c → c.at ≡ None → c.left ≡ [] → (run_of c ≡ []) × (paced_packets (bursts_of c) ≡ [])
nothing_left c h at none =
    (no_run c h at, ap (λ (ts : List Timing). paced_packets (map (burst_of (sent_in c)) (runs_from c.end ts).runs)) none)

pub some_at_hand : (c : Course) (at : ℕ) (from : ℕ) → IsCourse c → c.at ≡ Some at → IsBegun from (run_of c) → 0 < length (packets_behind (run_of c) from)
some_at_hand c at from h e begun = some_packets (run_of c) from (some_run c at h e) (run_fit c h) begun

longer : (front ps : List Packet) → 0 < length ps → 0 < length (front ++ ps)
longer front ps some = some_second (length (front ++ ps)) (length front) (length ps) (length-append front ps) some

pub some_left : (c : Course) (t : Timing) (ts : List Timing) (from : ℕ) → IsCourse c → c.at ≡ None → c.left ≡ t ∷ ts → 0 < length (packets_left c from)
some_left c t ts from h at next =
    let r = runs_from (t.last + 1) ts in
    let alone : shares_with c.end c.left ≡ false = subst (IsAtHand (length c.laid) c.end c.left) at h.hand in
    let apart : nat_lt t.first c.end ≡ false = subst (λ (l : List Timing). shares_with c.end l ≡ false) next alone in
    let runs : runs_left c ≡ record { part = []; runs = record { nulls = t.first - c.end; part = t ∷ r.part } ∷ r.runs } =
    ap (runs_from c.end) next ∙ runs_apart c.end t ts apart in
    let all : AllByRecursion (IsLaid (length c.laid)) (t ∷ ts) = subst (AllByRecursion (IsLaid (length c.laid))) next h.left in
    let nulls = replicate (t.first - c.end) null_packet in
    let ss = filter_map (sent_in c) (t ∷ r.part) in
    let behind = paced_packets (map (burst_of (sent_in c)) r.runs) in
    let one : AllByRecursion CanBeSent ss = all_chosen CanBeSent (sent_in c) (λ u s e. told_fit (told_at c.rate c.clock u.first) c.laid u.section s h.each e) (t ∷ r.part) in
    let own = slice_get-get_or c.laid t.section (record { pid = 0; bytes = [] }) all.0.0 in
    let some : 0 < length ss = subst (λ (o : Option Sent). 0 < length (cons_option (option_map (sent_retold (told_at c.rate c.clock t.first)) o) (filter_map (sent_in c) r.part))) (sym own) (some_more (length (filter_map (sent_in c) r.part))) in
    let dense : 0 < length (each_dense ss) = some_packets ss 0 some one (begun_first ss one) in
    let paced : 0 < length (paced_packets (bursts_of c)) =
    subst (λ (q : Runs). 0 < length (paced_packets (map (burst_of (sent_in c)) q.runs))) (sym runs)
    (some_first (length ((nulls ++ each_dense ss) ++ behind)) (length (nulls ++ each_dense ss)) (length behind) (length-append (nulls ++ each_dense ss) behind) (longer nulls (each_dense ss) dense)) in
    longer (packets_behind (run_of c) from) (paced_packets (bursts_of c)) paced
