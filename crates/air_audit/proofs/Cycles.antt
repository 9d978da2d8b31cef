-- A packet list is an air in one way.
use Rattle.std.proofs.Common.{◌≡◌, ℕ, ◌<◌, ◌≤◌, inl, inr, List, [], ◌∷◌, ◌++◌, Bool, true, false, Some, None, refl, sym, ap, ◌∙◌, subst, subst₂, arith, append_assoc, append-nil, ne_eqb}
use Rattle.std.specs.Prelude.{◌==◌, if◌then◌else◌}
use Rattle.std.specs.List.{All, AllByRecursion, cons_option}
use Rattle.std.proofs.lemmas.Bool.{cases_lt, eqb-false}
use Rattle.std.proofs.lemmas.List.{append_cancel_left}
use Rattle.std.proofs.lemmas.List.Elements.{recursion_from_All}
use Rattle.section_codec.specs.SubTables.{IsFit}
use Rattle.version_book.specs.Airings.{CycleForm, AiredTables}
use Rattle.ts_packets.specs.Packets.{Piece, Carries}
use Rattle.ts_packets.specs.Bytes.{Packet, HasFields}
use Rattle.ts_packets.specs.Counting.{of_pid}
use Rattle.ts_packets.proofs.Stamps.{of_pid-append}
use Rattle.air_model.specs.Repeating.{IsSentOf}
use Rattle.air_model.proofs.Repeating.{of_element, cycle_is_sent}
use Rattle.air_model.specs.Air.{Sent, cycle_sections, Aired, HasNoNull, IsCycle, Cycles, air, airings_of, tot, times, IsSendable}
use Rattle.guide_model.specs.declared.offset.Offset.{Offset}
use Rattle.air_audit.specs.Fronts.{nothing, all_waiting, ToCome, IsApart}
use Rattle.air_audit.specs.Audits.{on_pid}
use Rattle.si_lists.proofs.Lists.{all_map, all_front, all_behind, two_fronts}
use Rattle.air_audit.proofs.Lists.{none_on_any}
use Rattle.air_audit.proofs.Runs.{Run, so_far-Run, Carries-so_far, so_far-Carries, none_so_far, Run-cut, run_one_way, nothing_runs}

-- ---- the sections of a cycle

-- the sub-tables and the offsets of an airing can be sent
abbrev pub AiringFits : AiredTables → Type 0
AiringFits a = IsSendable a

abbrev pub Sendable : Sent → Type 0
Sendable s = (s.pid < 8191) × IsApart s.bytes

-- those that tell the time
times_sendable : (form : CycleForm) (moment : ℕ) → AllByRecursion Sendable (times form moment)
times_sendable form moment = ((omega arith, λ e. omega arith), go form.offsets)
  where
    go : (offsets : List Offset) → AllByRecursion Sendable (tot moment offsets)
    go [] = tt
    go (o ∷ offsets) = ((omega arith, λ e. omega arith), tt)

one_sendable : (past : List AiredTables) (a : AiredTables) (s : Sent) → AiringFits a → IsSentOf past a s → Sendable s
one_sendable past a s fit (inl of) =
    let t_fit = of_element IsFit a.tables of.0 (recursion_from_All IsFit a.tables fit.tables) of.2 in
    subst Sendable (sym of.4) (t_fit.pid, t_fit.no_fill)
one_sendable past a s fit (inr (at, later, has)) = of_element Sendable (times a.form at) s (times_sendable a.form at) has

pub cycle_sendable : (past : List AiredTables) (a : AiredTables) → AiringFits a → AllByRecursion Sendable (cycle_sections past a)
cycle_sendable past a fit = all_map (IsSentOf past a) Sendable (λ s h. one_sendable past a s fit h) (cycle_sections past a) (cycle_is_sent past a).each

on_pid_apart : (pid : ℕ) (ss : List Sent) → AllByRecursion Sendable ss → AllByRecursion IsApart (on_pid pid ss)
on_pid_apart pid [] h = tt
on_pid_apart pid (s ∷ ss) h = go (s.pid == pid) (on_pid_apart pid ss h.1)
  where
    go : (b : Bool) → AllByRecursion IsApart (on_pid pid ss) → AllByRecursion IsApart (cons_option (if b then Some s.bytes else None) (on_pid pid ss))
    go true all = (h.0.1, all)
    go false all = all

none_beyond : (pid : ℕ) (ss : List Sent) → AllByRecursion Sendable ss → 8191 ≤ pid → on_pid pid ss ≡ []
none_beyond pid [] h le = refl
none_beyond pid (s ∷ ss) h le =
    let other : (s.pid == pid) ≡ false = ne_eqb s.pid pid (λ e. omega (arith, h.0.0)) in
    ap (λ (b : Bool). cons_option (if b then Some s.bytes else None) (on_pid pid ss)) other ∙ none_beyond pid ss h.1 le

pub cycle_apart : (pid : ℕ) (past : List AiredTables) (a : AiredTables) → AiringFits a → AllByRecursion IsApart (on_pid pid (cycle_sections past a))
cycle_apart pid past a h = on_pid_apart pid (cycle_sections past a) (cycle_sendable past a h)

pub cycle_beyond : (pid : ℕ) (past : List AiredTables) (a : AiredTables) → AiringFits a → 8191 ≤ pid → on_pid pid (cycle_sections past a) ≡ []
cycle_beyond pid past a h le = none_beyond pid (cycle_sections past a) (cycle_sendable past a h) le

-- ---- null packets

abbrev IsBelow : Packet → Type 0
IsBelow p = p.pid < 8191

-- packets that carry no section are none
pub carries_none : (ps : List Piece) → Carries ps [] → ps ≡ []
carries_none ps c = nothing_runs ps nothing (so_far-Run [] ps nothing (Carries-so_far [] ps c))

-- without null packets there is none on their PID, nor on a larger one
none_on : (pid : ℕ) → 8191 ≤ pid → (ps : List Packet) → HasNoNull ps → of_pid pid ps ≡ []
none_on pid le [] none = refl
none_on pid le (p ∷ ps) none =
    let other : (p.pid == pid) ≡ false = ne_eqb p.pid pid (λ e. omega (arith, none.0, le)) in
    ap (λ (b : Bool). cons_option (if b then Some p.piece else None) (of_pid pid ps)) other ∙ none_on pid le ps none.1

-- where none is on their PID, there are no null packets
pub no_null_of : (ps : List Packet) → AllByRecursion HasFields ps → of_pid 8191 ps ≡ [] → HasNoNull ps
no_null_of [] fields none = tt
no_null_of (p ∷ ps) fields none = go (p.pid == 8191) refl none (no_null_of ps fields.1)
  where
    go : (b : Bool) → (p.pid == 8191) ≡ b → cons_option (if b then Some p.piece else None) (of_pid 8191 ps) ≡ [] → (of_pid 8191 ps ≡ [] → HasNoNull ps) → HasNoNull (p ∷ ps)
    go true is e rest = cc
    go false is e rest =
        let fit = fields.0.pid in
        let other = eqb-false p.pid 8191 is in
        (grind arith, rest e)

-- a cycle without null packets carries its sections on each PID
pub each_pid : (past : List AiredTables) (x : Aired) → AiringFits x.airing → IsCycle past x → HasNoNull x.packets → (pid : ℕ) → Carries (of_pid pid x.packets) (on_pid pid (cycle_sections past x.airing))
each_pid past x fit cycle none pid = elim (cases_lt pid 8191) [
  | inl lt ↦ cycle pid lt
  | inr le ↦ subst₂ Carries (sym (none_on pid le x.packets none)) (sym (cycle_beyond pid past x.airing fit le)) (so_far-Carries [] [] (none_so_far []))
]

-- ---- one way

-- behind packets that carry sections, none more carry the same
carried_once : (ss : List (List ℕ)) (ps qs : List Piece) → AllByRecursion IsApart ss → Carries ps ss → Carries (ps ++ qs) ss → qs ≡ []
carried_once ss ps qs apart c d = cut (Run-cut ps qs (all_waiting ss) nothing (so_far-Run ss (ps ++ qs) nothing (Carries-so_far ss (ps ++ qs) d)))
  where
    cut : (v : ToCome) × Run (all_waiting ss) ps v × Run v qs nothing → qs ≡ []
    cut (v, front, behind) =
        let same : v ≡ nothing = run_one_way ps (all_waiting ss) v nothing apart front (so_far-Run ss ps nothing (Carries-so_far ss ps c)) in
        nothing_runs qs nothing (subst (λ (x : ToCome). Run x qs nothing) same behind)

-- a cycle with more packets behind it is no cycle
cycle_once : (past : List AiredTables) (a : AiredTables) (ps zs : List Packet) → AiringFits a → IsCycle past (record { airing = a; packets = ps }) → IsCycle past (record { airing = a; packets = ps ++ zs })
    → HasNoNull (ps ++ zs) → zs ≡ []
cycle_once past a ps zs told c d none =
    none_on_any zs (λ (pid : ℕ). carried_once (on_pid pid (cycle_sections past a)) (of_pid pid ps) (of_pid pid zs) (cycle_apart pid past a told)
    (each_pid past (record { airing = a; packets = ps }) told c (all_front IsBelow ps zs none) pid)
    (subst (λ (l : List Piece). Carries l (on_pid pid (cycle_sections past a))) (of_pid-append pid ps zs) (each_pid past (record { airing = a; packets = ps ++ zs }) told d none pid)))

-- two cycles of one airing that begin one packet list are one
same_cycle : (past : List AiredTables) (a : AiredTables) (ps qs r s : List Packet) → AiringFits a → IsCycle past (record { airing = a; packets = ps }) → IsCycle past (record { airing = a; packets = qs })
    → HasNoNull ps → HasNoNull qs → ps ++ r ≡ qs ++ s → ps ≡ qs
same_cycle past a ps qs r s told c d np nq e = elim (two_fronts qs s ps r (sym e)) [
  | inl h ↦
      let none : h.0 ≡ [] = cycle_once past a ps h.0 told c (subst (λ (l : List Packet). IsCycle past (record { airing = a; packets = l })) h.1 d) (subst HasNoNull h.1 nq) in
      sym (h.1 ∙ ap (λ (l : List Packet). ps ++ l) none ∙ append-nil ps)
  | inr h ↦
      let none : h.0 ≡ [] = cycle_once past a qs h.0 told d (subst (λ (l : List Packet). IsCycle past (record { airing = a; packets = l })) h.1 c) (subst HasNoNull h.1 np) in
      h.1 ∙ ap (λ (l : List Packet). qs ++ l) none ∙ append-nil qs
]

-- what follows the cycles of xs, where the packets begin with those of xs
pub record Follow (past : List AiredTables) (airings : List AiredTables) (packets : List Packet) : Type 0 where
  pub zs : List Aired
  pub airings_are : airings_of zs ≡ airings
  pub cycles : Cycles past zs
  pub packets_are : packets ≡ air zs
  pub no_null : HasNoNull (air zs)

-- Cycles whose packets begin with other cycles of the same airings begin with these.
pub same_cycles : (past : List AiredTables) (xs ys : List Aired) (more : List AiredTables) (q : List Packet) → AllByRecursion AiringFits (airings_of xs) → Cycles past xs → Cycles past ys
    → HasNoNull (air xs) → HasNoNull (air ys) → airings_of ys ≡ airings_of xs ++ more → air ys ≡ air xs ++ q → Follow (past ++ airings_of xs) more q
same_cycles past [] ys more q told c d nx ny e f = record { zs = ys; airings_are = e; cycles = subst (λ (l : List AiredTables). Cycles l ys) (sym (append-nil past)) d; packets_are = sym f; no_null = ny }
same_cycles past (x ∷ xs) [] more q told c d nx ny e f = cc
same_cycles past (x ∷ xs) (y ∷ ys) more q told c d nx ny e f =
    let one : y.airing ≡ x.airing = cc in
    let others : airings_of ys ≡ airings_of xs ++ more = cc in
    let joined : x.packets ++ (air xs ++ q) ≡ y.packets ++ air ys = sym (append_assoc x.packets (air xs) q) ∙ sym f in
    let cycle : IsCycle past (record { airing = x.airing; packets = y.packets }) = subst (λ (a : AiredTables). IsCycle past (record { airing = a; packets = y.packets })) one d.0 in
    let same : x.packets ≡ y.packets = same_cycle past x.airing x.packets y.packets (air xs ++ q) (air ys) told.0 c.0 cycle (all_front IsBelow x.packets (air xs) nx) (all_front IsBelow y.packets (air ys) ny) joined in
    let behind : air ys ≡ air xs ++ q = append_cancel_left y.packets (air ys) (air xs ++ q) (sym (ap (λ (l : List Packet). l ++ (air xs ++ q)) (sym same) ∙ joined)) in
    let rest : Cycles (past ++ x.airing ∷ []) ys = subst (λ (a : AiredTables). Cycles (past ++ a ∷ []) ys) one d.1 in
    subst (λ (l : List AiredTables). Follow l more q) (append_assoc past (x.airing ∷ []) (airings_of xs)) (same_cycles (past ++ x.airing ∷ []) xs ys more q told.1 c.1 rest (all_behind IsBelow x.packets (air xs) nx) (all_behind IsBelow y.packets (air ys) ny) others behind)
