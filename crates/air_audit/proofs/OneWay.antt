-- What is to come is one.
use Rattle.std.proofs.Common.{◌≡◌, ℕ, inl, inr, List, [], ◌∷◌, ◌++◌, Option, Some, None, refl, sym, ap, ap₂, ◌∙◌, subst, append-nil}
use Rattle.std.specs.List.{AllByRecursion}
use Rattle.std.proofs.lemmas.List.{append_cancel_left}
use Rattle.version_book.specs.Airings.{AiredTables}
use Rattle.ts_packets.specs.Bytes.{Packet}
use Rattle.ts_packets.specs.Counting.{of_pid}
use Rattle.air_model.specs.Air.{cycle_sections, Aired, HasNoNull, Cycles, air, airings_of}
use Rattle.air_audit.specs.Fronts.{ToCome, nothing, all_waiting, CarrySoFar}
use Rattle.air_audit.specs.Audits.{on_pid, last_cycle, and_last}
use Rattle.air_audit.specs.Laws.{OneToCome}
use Rattle.si_lists.proofs.Lists.{all_front, all_behind, two_fronts}
use Rattle.air_audit.proofs.Runs.{so_far-Run, run_one_way, nothing_stays}
use Rattle.air_audit.proofs.Cycles.{AiringFits, cycle_apart, Follow, same_cycles}
use Rattle.air_audit.proofs.Airs.{so_far-air, air-nothing}

same_ends : (cs bs : List AiredTables) (a b : AiredTables) → cs ++ a ∷ [] ≡ bs ++ b ∷ [] → (cs ≡ bs) × (a ≡ b)
same_ends [] [] a b e = (refl, cc)
same_ends [] (y ∷ []) a b e = cc
same_ends [] (y ∷ z ∷ bs) a b e = cc
same_ends (x ∷ []) [] a b e = cc
same_ends (x ∷ z ∷ cs) [] a b e = cc
same_ends (x ∷ cs) (y ∷ bs) a b e =
    let first : x ≡ y = cc in
    let rest : cs ++ a ∷ [] ≡ bs ++ b ∷ [] = cc in
    let more = same_ends cs bs a b rest in
    (ap₂ (λ (z : AiredTables) (l : List AiredTables). z ∷ l) first more.0, more.1)

-- fronts of one packet list that are cycles of the same airings are one
same_front : (xs ys : List Aired) (r s : List Packet) → AllByRecursion AiringFits (airings_of xs) → Cycles [] xs → Cycles [] ys → HasNoNull (air xs) → HasNoNull (air ys) → airings_of ys ≡ airings_of xs → air xs ++ r ≡ air ys ++ s → AllByRecursion AiringFits (airings_of ys) → air xs ≡ air ys
same_front xs ys r s told c d nx ny e f told_ys = elim (two_fronts (air ys) s (air xs) r (sym f)) [
  | inl h ↦ sym (h.1 ∙ ap (λ (l : List Packet). air xs ++ l) (none (airings_of xs) h.0 (same_cycles [] xs ys [] h.0 told c d nx ny (e ∙ sym (append-nil (airings_of xs))) h.1)) ∙ append-nil (air xs))
  | inr h ↦ h.1 ∙ ap (λ (l : List Packet). air ys ++ l) (none (airings_of ys) h.0 (same_cycles [] ys xs [] h.0 told_ys d c ny nx (sym e ∙ sym (append-nil (airings_of ys))) h.1)) ∙ append-nil (air ys)
]
  where
    none : (past : List AiredTables) (q : List Packet) → Follow past [] q → q ≡ []
    none past q w = go w.zs w.airings_are w.packets_are
      where
        go : (zs : List Aired) → airings_of zs ≡ [] → q ≡ air zs → q ≡ []
        go [] e are = are
        go (z ∷ zs) e are = cc

-- where there is no last airing, nothing is to come
none_last : (handed : List Packet) (f : ℕ → ToCome) → ((pid : ℕ) → CarrySoFar (of_pid pid handed) [] (f pid)) → (pid : ℕ) → f pid ≡ nothing
none_last handed f h pid = nothing_stays (of_pid pid handed) (f pid) (so_far-Run [] (of_pid pid handed) (f pid) (h pid))

pub one_to_come : OneToCome
one_to_come airings packets f g told h k pid = go h.last k.last h.airings_are k.airings_are h.carried k.carried
  where
    go : (last other : Option AiredTables) → airings ≡ and_last (airings_of h.xs) last → airings ≡ and_last (airings_of k.xs) other
        → ((q : ℕ) → CarrySoFar (of_pid q h.handed) (on_pid q (last_cycle (airings_of h.xs) last)) (f q)) → ((q : ℕ) → CarrySoFar (of_pid q k.handed) (on_pid q (last_cycle (airings_of k.xs) other)) (g q)) → f pid ≡ g pid
    go None other e e_other c d =
        let none = none_last h.handed f c in
        none pid ∙ sym (air-nothing airings packets g told k (so_far-air airings packets f told h none) pid)
    go (Some a) None e e_other c d =
        let none = none_last k.handed g d in
        air-nothing airings packets f told h (so_far-air airings packets g told k none) pid ∙ sym (none pid)
    go (Some a) (Some b) e e_other c d =
        let past = airings_of h.xs in
        let ends = same_ends past (airings_of k.xs) a b (sym e ∙ e_other) in
        let told_all = subst (AllByRecursion AiringFits) e told in
        let told_other = all_front AiringFits (airings_of k.xs) (b ∷ []) (subst (AllByRecursion AiringFits) e_other told) in
        let both : air h.xs ++ h.handed ≡ air k.xs ++ k.handed = sym h.packets_are ∙ k.packets_are in
        let fronts = same_front h.xs k.xs h.handed k.handed (all_front AiringFits past (a ∷ []) told_all) h.cycles k.cycles h.no_null k.no_null (sym ends.0) both told_other in
        let handed : h.handed ≡ k.handed = append_cancel_left (air h.xs) h.handed k.handed (both ∙ ap (λ (l : List Packet). l ++ k.handed) (sym fronts)) in
        let ss = on_pid pid (cycle_sections past a) in
        let there : CarrySoFar (of_pid pid h.handed) ss (g pid) =
        subst (λ (l : List Packet). CarrySoFar (of_pid pid l) ss (g pid)) (sym handed)
        (subst (λ (x : AiredTables). CarrySoFar (of_pid pid k.handed) (on_pid pid (cycle_sections past x)) (g pid)) (sym ends.1)
        (subst (λ (l : List AiredTables). CarrySoFar (of_pid pid k.handed) (on_pid pid (cycle_sections l b)) (g pid)) (sym ends.0) (d pid))) in
        run_one_way (of_pid pid h.handed) (all_waiting ss) (f pid) (g pid) (cycle_apart pid past a (all_behind AiringFits past (a ∷ []) told_all).0)
        (so_far-Run ss (of_pid pid h.handed) (f pid) (c pid)) (so_far-Run ss (of_pid pid h.handed) (g pid) there)
