-- The packets of a cycle that begins are those of its airing.
use Rattle.std.proofs.Common.{◌≡◌, ℕ, ◌+◌, List, [], ◌∷◌, ◌++◌, Option, length, refl, sym, ap, ap₂, ◌∙◌, map}
use Rattle.std.specs.Prelude.{slice_get, option_map, filter_map}
use Rattle.std.specs.List.{cons_option}
use Rattle.std.proofs.lemmas.Option.{slice_get-map}
use Rattle.version_book.specs.Airings.{AiredTables}
use Rattle.version_book.specs.Book.{aired}
use Rattle.air_timing.specs.declared.timing.Timing.{Timing}
use Rattle.air_model.specs.Air.{Sent, sections_once}
use Rattle.air_model.specs.Bursts.{Burst, paced_packets}
use Rattle.cycle_timing.specs.Clock.{Clock, told_at}
use Rattle.cycle_timing.specs.Cycle.{Runs, sent_at, runs_from, runs_of, burst_of}
use Rattle.cycle_timing.specs.Cycle.{bursts_of as air_bursts}
use Rattle.cycle_timing.specs.Planning.{timings_of}
use Rattle.cycle_timing.proofs.Sent.{runs_part}
use Rattle.cycle_timing.proofs.Cycles.{stands}
use Rattle.cycle_timing.proofs.Runs.{after as packets_after}
use Rattle.carousel_player.specs.Packing.{packets_behind}
use Rattle.air_model.specs.Telling.{sent_retold}
use Rattle.cycle_player.specs.Running.{Course, sent_in, at_hand, run_of, bursts_of, packets_left, after, IsAtStart, IsOver}
use Rattle.cycle_player.specs.Playing.{uncounted_at}
use Rattle.cycle_player.proofs.Chosen.{bursts_same}

-- each section is sent as the airing says
sent_same : (rate : ℕ) (clock : Clock) (past : List AiredTables) (a : AiredTables) (c : Course) → c.rate ≡ rate → c.clock ≡ clock
    → ((m : ℕ) → map (sent_retold m) c.laid ≡ sections_once past (aired a.tables m a.form)) → (t : Timing) → sent_in c t ≡ sent_at rate past clock a t
sent_same rate clock past a c rate_is clock_is laid t =
    ap₂ (λ (r : ℕ) (k : Clock). option_map (sent_retold (told_at r k t.first)) (slice_get c.laid t.section)) rate_is clock_is
    ∙ sym (slice_get-map (sent_retold (told_at rate clock t.first)) c.laid t.section)
    ∙ ap (λ (l : List Sent). slice_get l t.section) (laid (told_at rate clock t.first))

-- before its first packet no section is at hand
pub at_start : (rate : ℕ) (clock : Clock) (past : List AiredTables) (a : AiredTables) (c : Course) → IsAtStart rate clock c → c.left ≡ timings_of rate past a
    → ((m : ℕ) → map (sent_retold m) c.laid ≡ sections_once past (aired a.tables m a.form)) → packets_left c 0 ≡ uncounted_at rate clock past a
at_start rate clock past a c start left laid =
    let ts = timings_of rate past a in
    let same = sent_same rate clock past a c start.rate_is start.clock_is laid in
    let runs = ap₂ runs_from start.end left in
    let none : run_of c ≡ [] =
    ap₂ (λ (o : Option Sent) (part : List Timing). cons_option o (filter_map (sent_in c) part))
    (ap (at_hand c.laid) start.at) (ap (λ (r : Runs). r.part) runs ∙ runs_part ts) in
    let bursts : bursts_of c ≡ air_bursts (sent_at rate past clock a) ts =
    ap (λ (r : Runs). map (burst_of (sent_in c)) r.runs) runs ∙ bursts_same (sent_in c) (sent_at rate past clock a) same (runs_of ts) in
    ap₂ (λ (ss : List Sent) (bs : List Burst). packets_behind ss 0 ++ paced_packets bs) none bursts

-- how many they are
after_same : (n : ℕ) (ts : List Timing) → packets_after n ts ≡ after n ts
after_same n [] = refl
after_same n (t ∷ ts) = after_same (t.last + 1) ts

pub many : (rate : ℕ) (clock : Clock) (past : List AiredTables) (a : AiredTables) → length (uncounted_at rate clock past a) ≡ after 0 (timings_of rate past a)
many rate clock past a = (stands rate past a clock [] []).size ∙ after_same 0 (timings_of rate past a)

-- where nothing is left, no packet is
pub over : (c : Course) → IsOver c → packets_left c 0 ≡ []
over c h =
    let runs = ap (runs_from c.end) h.left in
    ap₂ (λ (o : Option Sent) (r : Runs). packets_behind (cons_option o (filter_map (sent_in c) r.part)) 0 ++ paced_packets (map (burst_of (sent_in c)) r.runs))
    (ap (at_hand c.laid) h.at) runs

-- no run is at hand at the start, nor at the end
pub start_between : (rate : ℕ) (clock : Clock) (c : Course) → IsAtStart rate clock c → run_of c ≡ []
start_between rate clock c start =
    ap₂ (λ (o : Option Sent) (part : List Timing). cons_option o (filter_map (sent_in c) part)) (ap (at_hand c.laid) start.at)
    (ap (λ (n : ℕ). (runs_from n c.left).part) start.end ∙ runs_part c.left)

pub over_between : (c : Course) → IsOver c → run_of c ≡ []
over_between c h =
    ap₂ (λ (o : Option Sent) (ts : List Timing). cons_option o (filter_map (sent_in c) (runs_from c.end ts).part)) (ap (at_hand c.laid) h.at) h.left
