-- Airs of longer lists.
use Rattle.std.proofs.Common.{◌≡◌, ℕ, ◌+◌, ◌%◌, ◌<◌, inl, inr, List, [], ◌∷◌, ◌++◌, Bool, Option, Some, None, length, refl, sym, ap, ◌∙◌, subst, arith, map, append_assoc, append-nil, eq-eqb, ne_eqb}
use Rattle.std.specs.Prelude.{◌==◌, if◌then◌else◌}
use Rattle.std.specs.List.{AllByRecursion}
use Rattle.std.proofs.lemmas.List.{append_cancel_left, map-append}
use Rattle.version_book.specs.Airings.{AiredTables}
use Rattle.ts_packets.specs.Packets.{Piece, Carries}
use Rattle.ts_packets.specs.Bytes.{Packet, HasFields, bytes_of_packet}
use Rattle.ts_packets.specs.Counting.{Load, of_pid, loads_on, Count}
use Rattle.ts_packets.proofs.Stamps.{of_pid-append, loads_on-append, counter_at}
use Rattle.air_model.specs.Air.{Sent, cycle_sections, Aired, HasNoNull, IsCycle, Cycles, air, airings_of}
use Rattle.air_model.specs.Making.{cycle_dense}
use Rattle.air_model.proofs.Airs.{air_more-dense, air-push, no_null-dense}
use Rattle.air_audit.specs.Fronts.{ToCome, nothing, all_waiting, CarrySoFar, GoesTo, IsApart, to_come_on}
use Rattle.air_audit.specs.Audits.{BeginAnAir, on_pid, last_cycle, SoFar}
use Rattle.air_audit.specs.Laws.{LongerBegins, LongerListsAgree}
use Rattle.si_lists.proofs.Lists.{all_map, all_append, all_front, all_behind, two_fronts}
use Rattle.air_audit.proofs.Lists.{bytes_front, of_own_pid, own_load}
use Rattle.air_audit.proofs.Runs.{Run, so_far-Run, Carries-so_far, Run-cut, run_one_way, nothing_stays}
use Rattle.air_audit.proofs.Cycles.{AiringFits, Sendable, cycle_sendable, cycle_apart, each_pid, Follow, same_cycles}
use Rattle.air_audit.proofs.Airs.{GoesOn, goes-packet, so_far-begins, list_of, last_behind}

-- ---- each air can be gone on with

one_longer : (airings : List AiredTables) (a : AiredTables) (packets : List (List ℕ)) → AiringFits a → BeginAnAir airings packets → BeginAnAir (airings ++ a ∷ []) packets
one_longer airings a packets told b =
    let xs = b.whole.xs in
    let x : Aired = record { airing = a; packets = cycle_dense airings (air xs) a } in
    let below = all_map Sendable (λ (s : Sent). s.pid < 8191) (λ s h. h.0) (cycle_sections airings a) (cycle_sendable airings a told) in
    record {
      more = b.more ++ map bytes_of_packet x.packets;
      whole = record {
        xs = xs ++ x ∷ [];
        is_air = air_more-dense airings xs a b.whole.is_air below;
        no_null = subst HasNoNull (sym (air-push xs x)) (all_append (λ (p : Packet). p.pid < 8191) (air xs) x.packets b.whole.no_null (no_null-dense airings (air xs) a below));
        packets_are =
            ap (map bytes_of_packet) (air-push xs x) ∙ map-append bytes_of_packet (air xs) x.packets ∙ ap (λ (l : List (List ℕ)). l ++ map bytes_of_packet x.packets) b.whole.packets_are
            ∙ append_assoc packets b.more (map bytes_of_packet x.packets);
      };
    }

pub longer_begins : LongerBegins
longer_begins airings [] packets told b = subst (λ (l : List AiredTables). BeginAnAir l packets) (sym (append-nil airings)) b
longer_begins airings (a ∷ more) packets told b =
    subst (λ (l : List AiredTables). BeginAnAir l packets) (append_assoc airings (a ∷ []) more) (longer_begins (airings ++ a ∷ []) more packets told.1 (one_longer airings a packets told.0 b))

-- ---- the airings to come need not be known

-- packets that carry sections, and more of which some are to come: nothing is
none_beyond : (ss : List (List ℕ)) (ps qs : List Piece) (t : ToCome) → AllByRecursion IsApart ss → Carries ps ss → CarrySoFar (ps ++ qs) ss t → t ≡ nothing
none_beyond ss ps qs t apart c d = cut (Run-cut ps qs (all_waiting ss) t (so_far-Run ss (ps ++ qs) t d))
  where
    cut : (v : ToCome) × Run (all_waiting ss) ps v × Run v qs t → t ≡ nothing
    cut (v, front, behind) =
        let same : v ≡ nothing = run_one_way ps (all_waiting ss) v nothing apart front (so_far-Run ss ps nothing (Carries-so_far ss ps c)) in
        nothing_stays qs t (subst (λ (x : ToCome). Run x qs t) same behind)

-- the next packet of a cycle goes on
next_goes : (ss : List (List ℕ)) (ps : List Piece) (p : Piece) (qs : List Piece) (t : ToCome) → AllByRecursion IsApart ss → CarrySoFar ps ss t → Carries (ps ++ p ∷ qs) ss → (u : ToCome) × GoesTo t p u
next_goes ss ps p qs t apart d c = cut (Run-cut ps (p ∷ qs) (all_waiting ss) nothing (so_far-Run ss (ps ++ p ∷ qs) nothing (Carries-so_far ss (ps ++ p ∷ qs) c)))
  where
    cut : (v : ToCome) × Run (all_waiting ss) ps v × Run v (p ∷ qs) nothing → (u : ToCome) × GoesTo t p u
    cut (v, front, behind) =
        let same : v ≡ t = run_one_way ps (all_waiting ss) v t apart front (so_far-Run ss ps t d) in
        let run : Run t (p ∷ qs) nothing = subst (λ (x : ToCome). Run x (p ∷ qs) nothing) same behind in
        (run.0, run.1)

-- the next packet of an air of a longer list, while the cycle has not ended
cycle_goes : (past : List AiredTables) (last : Option AiredTables) (more : List AiredTables) (handed : List Packet) (p : Packet) (rest : List Packet) (f : ℕ → ToCome) → AllByRecursion AiringFits (list_of last)
    → ((pid : ℕ) → CarrySoFar (of_pid pid handed) (on_pid pid (last_cycle past last)) (f pid)) → (((pid : ℕ) → f pid ≡ nothing) → ⊥) → Follow past (list_of last ++ more) (handed ++ p ∷ rest) → (u : ToCome) × GoesTo (f p.pid) p.piece u
cycle_goes past None more handed p rest f told carried not_end w =
    absurd (not_end (λ (pid : ℕ). none_beyond [] [] (of_pid pid handed) (f pid) tt (record { groups = []; are = refl; have_room = tt; sections = refl; ended = refl }) (carried pid)))
cycle_goes past (Some a) more handed p rest f told carried not_end w = go w.zs w.airings_are w.cycles w.packets_are w.no_null
  where
    ss : ℕ → List (List ℕ)
    ss pid = on_pid pid (cycle_sections past a)

    each : (z : Aired) → z.airing ≡ a → IsCycle past z → HasNoNull z.packets → (pid : ℕ) → Carries (of_pid pid z.packets) (on_pid pid (cycle_sections past z.airing))
    each z same cycle none pid = each_pid past z (subst AiringFits (sym same) told.0) cycle none pid

    ended : (z : Aired) (beyond : List Packet) → z.airing ≡ a → IsCycle past z → HasNoNull z.packets → handed ≡ z.packets ++ beyond → ⊥
    ended z beyond same cycle none e = not_end (λ (pid : ℕ).
        let S = on_pid pid (cycle_sections past a) in
        none_beyond S (of_pid pid z.packets) (of_pid pid beyond) (f pid) (cycle_apart pid past a told.0)
        (subst (λ (b : AiredTables). Carries (of_pid pid z.packets) (on_pid pid (cycle_sections past b))) same (each z same cycle none pid))
        (subst (λ (l : List Piece). CarrySoFar l S (f pid)) (ap (of_pid pid) e ∙ of_pid-append pid z.packets beyond) (carried pid)))

    within : (z : Aired) (w : List Packet) (behind : List Packet) → z.airing ≡ a → IsCycle past z → HasNoNull z.packets → z.packets ≡ handed ++ w → handed ++ p ∷ rest ≡ z.packets ++ behind → (u : ToCome) × GoesTo (f p.pid) p.piece u
    within z [] behind same cycle none e are = absurd (ended z [] same cycle none (sym (e ∙ append-nil handed) ∙ sym (append-nil z.packets)))
    within z (q ∷ w) behind same cycle none e are =
        let joined : p ∷ rest ≡ (q ∷ w) ++ behind = append_cancel_left handed (p ∷ rest) ((q ∷ w) ++ behind) (are ∙ ap (λ (l : List Packet). l ++ behind) e ∙ append_assoc handed (q ∷ w) behind) in
        let first : q ≡ p = cc in
        let S = on_pid p.pid (cycle_sections past a) in
        let carries : Carries (of_pid p.pid z.packets) S = subst (λ (b : AiredTables). Carries (of_pid p.pid z.packets) (on_pid p.pid (cycle_sections past b))) same (each z same cycle none p.pid) in
        let cut : of_pid p.pid z.packets ≡ of_pid p.pid handed ++ p.piece ∷ of_pid p.pid w =
        ap (of_pid p.pid) (e ∙ ap (λ (x : Packet). handed ++ x ∷ w) first) ∙ of_pid-append p.pid handed (p ∷ w) ∙ ap (λ (l : List Piece). of_pid p.pid handed ++ l) (of_own_pid p w) in
        next_goes S (of_pid p.pid handed) p.piece (of_pid p.pid w) (f p.pid) (cycle_apart p.pid past a told.0) (carried p.pid) (subst (λ (l : List Piece). Carries l S) cut carries)

    go : (zs : List Aired) → airings_of zs ≡ a ∷ more → Cycles past zs → handed ++ p ∷ rest ≡ air zs → HasNoNull (air zs) → (u : ToCome) × GoesTo (f p.pid) p.piece u
    go [] e cycles are none = cc
    go (z ∷ zs) e cycles are none =
        let same : z.airing ≡ a = cc in
        let own = all_front (λ (q : Packet). q.pid < 8191) z.packets (air zs) none in
        elim (two_fronts z.packets (air zs) handed (p ∷ rest) (sym are)) [
          | inl h ↦ within z h.0 (air zs) same cycles.0 own h.1 are
          | inr h ↦ absurd (ended z h.0 same cycles.0 own h.1)
        ]

longer_goes : (airings more : List AiredTables) (packets : List Packet) (f : ℕ → ToCome) (bytes : List ℕ) → AllByRecursion AiringFits airings → SoFar airings packets f → (((pid : ℕ) → f pid ≡ nothing) → ⊥)
    → BeginAnAir (airings ++ more) (map bytes_of_packet packets ++ bytes ∷ []) → GoesOn packets f bytes
longer_goes airings more packets f bytes told h not_end b =
    of (bytes_front packets (air b.whole.xs) (bytes ∷ b.more) h.fields b.whole.is_air.fields (b.whole.packets_are ∙ append_assoc (map bytes_of_packet packets) (bytes ∷ []) b.more))
  where
    of : (rs : List Packet) × (air b.whole.xs ≡ packets ++ rs) × (map bytes_of_packet rs ≡ bytes ∷ b.more) → GoesOn packets f bytes
    of ([], e, m) = cc
    of (p ∷ rs, e, m) =
        let past = airings_of h.xs in
        let load : Load = record { counter = p.counter; piece = p.piece } in
        let cut : airings ++ more ≡ past ++ (list_of h.last ++ more) = ap (λ (l : List AiredTables). l ++ more) (h.airings_are ∙ last_behind past h.last) ∙ append_assoc past (list_of h.last) more in
        let told_cut = subst (AllByRecursion AiringFits) (h.airings_are ∙ last_behind past h.last) told in
        let joined : air b.whole.xs ≡ air h.xs ++ (h.handed ++ p ∷ rs) = e ∙ ap (λ (l : List Packet). l ++ p ∷ rs) h.packets_are ∙ append_assoc (air h.xs) h.handed (p ∷ rs) in
        let follow = same_cycles [] h.xs b.whole.xs (list_of h.last ++ more) (h.handed ++ p ∷ rs) (all_front AiringFits past (list_of h.last) told_cut) h.cycles b.whole.is_air.cycles h.no_null b.whole.no_null (b.whole.is_air.airings_are ∙ cut) joined in
        let goes = cycle_goes past h.last more h.handed p rs f (all_behind AiringFits past (list_of h.last) told_cut) h.carried not_end follow in
        let counts : Count 0 (loads_on p.pid packets ++ load ∷ loads_on p.pid rs) =
        subst (Count 0) (ap (loads_on p.pid) e ∙ loads_on-append p.pid packets (p ∷ rs) ∙ ap (λ (l : List Load). loads_on p.pid packets ++ l) (own_load p rs)) (b.whole.is_air.counted p.pid) in
        record {
          packet = p;
          bytes_are = (let e : bytes ≡ bytes_of_packet p = cc in e);
          fields = (all_behind HasFields packets (p ∷ rs) (subst (AllByRecursion HasFields) e b.whole.is_air.fields)).0;
          counter = counter_at 0 (loads_on p.pid packets) load (loads_on p.pid rs) counts ∙ ap (λ (n : ℕ). n % 16) (let e : 0 + length (loads_on p.pid packets) ≡ length (loads_on p.pid packets) = omega arith in e);
          behind = goes.0;
          goes = goes.1;
        }

-- what goes on makes a prefix
goes-begins : (airings : List AiredTables) (packets : List Packet) (f : ℕ → ToCome) (bytes : List ℕ) → AllByRecursion AiringFits airings → SoFar airings packets f → GoesOn packets f bytes → BeginAnAir airings (map bytes_of_packet packets ++ bytes ∷ [])
goes-begins airings packets f bytes told h g =
    let p = g.packet in
    let after : ℕ → ToCome = λ (q : ℕ). if q == p.pid then g.behind else f q in
    let here : after p.pid ≡ g.behind = ap (λ (b : Bool). if b then g.behind else f p.pid) (eq-eqb p.pid p.pid refl) in
    let next = goes-packet airings packets f after p h g.fields g.counter (subst (GoesTo (f p.pid) p.piece) (sym here) g.goes) (λ pid apart. ap (λ (b : Bool). if b then g.behind else f pid) (ne_eqb pid p.pid (λ e. apart (sym e)))) in
    subst (BeginAnAir airings) (map-append bytes_of_packet packets (p ∷ []) ∙ ap (λ (b : List ℕ). map bytes_of_packet packets ++ b ∷ []) (sym g.bytes_are)) (so_far-begins airings (packets ++ p ∷ []) after told next)

pub longer_lists_agree : LongerListsAgree
longer_lists_agree airings more accepted c bytes s not_end told = (
  λ b. subst (λ (l : List (List ℕ)). BeginAnAir airings (l ++ bytes ∷ [])) (sym s.accepted_are)
      (goes-begins airings s.packets (to_come_on c.on_pids) bytes s.can_be_sent s.so_far (longer_goes airings more s.packets (to_come_on c.on_pids) bytes s.can_be_sent s.so_far not_end (subst (λ (l : List (List ℕ)). BeginAnAir (airings ++ more) (l ++ bytes ∷ [])) s.accepted_are b))),
  λ b. longer_begins airings more (accepted ++ bytes ∷ []) told b,
)
