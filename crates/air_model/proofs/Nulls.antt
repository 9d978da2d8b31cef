-- An air without its null packets is an air of the same airings.
use Rattle.std.proofs.Common.{◌≡◌, ℕ, ◌<◌, ◌≤◌, ◌⊎◌, inl, inr, List, [], ◌∷◌, ◌++◌, Bool, true, false, not, Some, None, refl, sym, ap, ◌∙◌, subst, arith}
use Rattle.std.specs.Prelude.{◌==◌, if◌then◌else◌, cond, filter_map}
use Rattle.std.specs.List.{AllByRecursion, filter, cons_option}
use Rattle.std.proofs.lemmas.Bool.{eqb-true, eqb-false, ne_eqb}
use Rattle.std.proofs.lemmas.List.Elements.{filter-append}
use Rattle.version_book.specs.Airings.{AiredTables}
use Rattle.ts_packets.specs.Packets.{Piece, Carries}
use Rattle.ts_packets.specs.Bytes.{Packet, HasFields}
use Rattle.ts_packets.specs.Counting.{Load, load_on, loads_on, of_pid, Count}
use Rattle.air_model.specs.Air.{Aired, sent_on, cycle_sections, IsNullOrOther, HasNoNull, Cycles, air, airings_of, IsAirOf}
use Rattle.air_model.specs.Repeating.{RepeatingCycles, IsRepeatingAirOf}
use Rattle.air_model.specs.Nulls.{is_other, without_nulls, plain, NullsAreLeftOut, RepeatingNullsAreLeftOut, PlainAirsArePackets, PlainAirsHaveNoNull}

-- what holds of packets holds of those that are left
all_left : (P : Packet → Type 0) (ps : List Packet) → AllByRecursion P ps → AllByRecursion P (without_nulls ps)
all_left P [] h = tt
all_left P (p ∷ ps) h = go (p.pid == 8191) (all_left P ps h.1)
  where
    go : (b : Bool) → AllByRecursion P (without_nulls ps) → AllByRecursion P (cond (not b) (p ∷ without_nulls ps) (without_nulls ps))
    go true r = r
    go false r = (h.0, r)

others_left : (ps : List Packet) → AllByRecursion HasFields ps → HasNoNull (without_nulls ps)
others_left [] h = tt
others_left (p ∷ ps) h = go (p.pid == 8191) refl (others_left ps h.1)
  where
    go : (b : Bool) → (p.pid == 8191) ≡ b → HasNoNull (without_nulls ps) → HasNoNull (cond (not b) (p ∷ without_nulls ps) (without_nulls ps))
    go true e r = r
    go false e r = ((let n = eqb-false p.pid 8191 e in let f = h.0.pid in grind arith), r)

-- the loads of each other PID stay
loads_left : (pid : ℕ) → pid < 8191 → (ps : List Packet) → loads_on pid (without_nulls ps) ≡ loads_on pid ps
loads_left pid lt [] = refl
loads_left pid lt (p ∷ ps) = go (p.pid == 8191) refl (loads_left pid lt ps)
  where
    go : (b : Bool) → (p.pid == 8191) ≡ b → loads_on pid (without_nulls ps) ≡ loads_on pid ps
        → loads_on pid (cond (not b) (p ∷ without_nulls ps) (without_nulls ps)) ≡ cons_option (load_on pid p) (loads_on pid ps)
    go true e r =
        let null = eqb-true p.pid 8191 e in
        r ∙ sym (ap (λ (c : Bool). cons_option (if c then Some (let l : Load = record { counter = p.counter; piece = p.piece } in l) else None) (loads_on pid ps)) (ne_eqb p.pid pid (λ f. omega arith)))
    go false e r = ap (cons_option (load_on pid p)) r

pieces_left : (pid : ℕ) → pid < 8191 → (ps : List Packet) → of_pid pid (without_nulls ps) ≡ of_pid pid ps
pieces_left pid lt [] = refl
pieces_left pid lt (p ∷ ps) = go (p.pid == 8191) refl (pieces_left pid lt ps)
  where
    go : (b : Bool) → (p.pid == 8191) ≡ b → of_pid pid (without_nulls ps) ≡ of_pid pid ps
        → of_pid pid (cond (not b) (p ∷ without_nulls ps) (without_nulls ps)) ≡ cons_option (if p.pid == pid then Some p.piece else None) (of_pid pid ps)
    go true e r =
        let null = eqb-true p.pid 8191 e in
        r ∙ sym (ap (λ (c : Bool). cons_option (if c then Some p.piece else None) (of_pid pid ps)) (ne_eqb p.pid pid (λ f. omega arith)))
    go false e r = ap (cons_option (if p.pid == pid then Some p.piece else None)) r

-- and on other PIDs there is nothing
no_load : (pid : ℕ) → 8191 ≤ pid → (ps : List Packet) → HasNoNull ps → loads_on pid ps ≡ []
no_load pid le [] h = refl
no_load pid le (p ∷ ps) h =
    let lt = h.0 in
    ap (λ (c : Bool). cons_option (if c then Some (let l : Load = record { counter = p.counter; piece = p.piece } in l) else None) (loads_on pid ps)) (ne_eqb p.pid pid (λ f. omega arith)) ∙ no_load pid le ps h.1

-- ---- airs

pub air_left : PlainAirsArePackets
air_left [] = refl
air_left (x ∷ xs) = ap (λ (l : List Packet). without_nulls x.packets ++ l) (air_left xs) ∙ sym (filter-append is_other x.packets (air xs))

airings_left : (xs : List Aired) → airings_of (plain xs) ≡ airings_of xs
airings_left [] = refl
airings_left (x ∷ xs) = ap (λ (l : List AiredTables). x.airing ∷ l) (airings_left xs)

plain_cycles : (past : List AiredTables) (xs : List Aired) → Cycles past xs → Cycles past (plain xs)
plain_cycles past [] h = tt
plain_cycles past (x ∷ xs) h = (
  λ pid lt. subst (λ (l : List Piece). Carries l (filter_map (sent_on pid) (cycle_sections past x.airing))) (sym (pieces_left pid lt x.packets)) (h.0 pid lt),
  plain_cycles (past ++ x.airing ∷ []) xs h.1,
)

cycles_left : (past : List AiredTables) (xs : List Aired) → RepeatingCycles past xs → RepeatingCycles past (plain xs)
cycles_left past [] h = tt
cycles_left past (x ∷ xs) h = (
  record {
    sections = h.0.sections;
    are = h.0.are;
    carried = λ pid lt. subst (λ (l : List Piece). Carries l (filter_map (sent_on pid) h.0.sections)) (sym (pieces_left pid lt x.packets)) (h.0.carried pid lt);
  },
  cycles_left (past ++ x.airing ∷ []) xs h.1,
)

below_or : (pid : ℕ) → (pid < 8191) ⊎ (8191 ≤ pid)
below_or pid = grind arith

counts_left : (ps : List Packet) → AllByRecursion HasFields ps → (pid : ℕ) → Count 0 (loads_on pid ps) → (pid < 8191) ⊎ (8191 ≤ pid) → Count 0 (loads_on pid (without_nulls ps))
counts_left ps fields pid count (inl lt) = subst (Count 0) (sym (loads_left pid lt ps)) count
counts_left ps fields pid count (inr le) = subst (Count 0) (sym (no_load pid le (without_nulls ps) (others_left ps fields))) tt

pub plain_is_air : NullsAreLeftOut
plain_is_air airings xs is =
    let same = air_left xs in
    record {
      airings_are = airings_left xs ∙ is.airings_are;
      cycles = plain_cycles [] xs is.cycles;
      counted = λ pid. subst (λ (l : List Packet). Count 0 (loads_on pid l)) (sym same) (counts_left (air xs) is.fields pid (is.counted pid) (below_or pid));
      fields = subst (AllByRecursion HasFields) (sym same) (all_left HasFields (air xs) is.fields);
      nulls = subst (AllByRecursion IsNullOrOther) (sym same) (all_left IsNullOrOther (air xs) is.nulls);
    }

pub plain_repeats : RepeatingNullsAreLeftOut
plain_repeats airings xs is =
    let same = air_left xs in
    record {
      airings_are = airings_left xs ∙ is.airings_are;
      cycles = cycles_left [] xs is.cycles;
      counted = λ pid. subst (λ (l : List Packet). Count 0 (loads_on pid l)) (sym same) (counts_left (air xs) is.fields pid (is.counted pid) (below_or pid));
      fields = subst (AllByRecursion HasFields) (sym same) (all_left HasFields (air xs) is.fields);
      nulls = subst (AllByRecursion IsNullOrOther) (sym same) (all_left IsNullOrOther (air xs) is.nulls);
    }

pub no_null_left : PlainAirsHaveNoNull
no_null_left airings xs is = subst HasNoNull (sym (air_left xs)) (others_left (air xs) is.fields)
