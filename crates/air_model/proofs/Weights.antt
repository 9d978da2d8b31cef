-- What a cycle is planned of: one weight for each section that is laid, in the order of the tiers.
use Rattle.std.proofs.Common.{◌≡◌, ℕ, zero, suc, ◌+◌, ◌<◌, ◌≤◌, Bool, true, false, List, [], ◌∷◌, ◌++◌, length, refl, sym, ap, ap₂, ◌∙◌, subst, arith, map, min, ◌-◌, cond, append_assoc, length-append, length-drop}
use Rattle.std.specs.Prelude.{take, drop, ◌&&◌, not}
use Rattle.std.specs.List.{AllByRecursion, prefix_len}
use Rattle.std.proofs.lemmas.List.{length-map, length-take}
use Rattle.section_codec.specs.declared.table.NumberedBody.{NumberedBody}
use Rattle.section_codec.specs.declared.table.SubTable.{SubTable}
use Rattle.section_codec.specs.declared.table.Tier3.{Tier3}
use Rattle.section_codec.specs.declared.table.Tier3.TheVariants.{Fast, Near, Far}
use Rattle.section_codec.specs.Contents.{Content}
use Rattle.section_codec.specs.SubTables.{header_of, AreTiered}
use Rattle.section_codec.specs.Tables.{is_eit, tier_rank}
use Rattle.section_codec.proofs.ReadBack.{length-section_bytes}
use Rattle.air_model.specs.Cycle.{cycle_of}
use Rattle.air_model.specs.Sections.{is_fast, AreInTiers, planned}
use Rattle.air_model.proofs.Cursors.{planned_all}
use Rattle.air_model.proofs.Order.{cycles_are_whole}
use Rattle.version_book.specs.Airings.{CycleForm, AiredTables, version_at}
use Rattle.version_book.specs.Book.{aired}
use Rattle.ts_packets.specs.Packets.{packets_of}
use Rattle.air_model.proofs.Dense.{eight}
use Rattle.guide_model.specs.declared.offset.Offset.{Offset}
use Rattle.time_tables.proofs.Loops.{length-tot_section}
use Rattle.air_model.specs.Air.{sent_section, tot, times, leads, before_tdt, behind_tdt, weight, table_weights, weights_once}
use Rattle.air_model.specs.Laying.{sections_under, cycle_under}
use Rattle.air_model.specs.Planning.{weights_in, weights_of, tot_weight, time_weights, weights_under}

-- ---- they are those of the airing

weights_section : (v : ℕ) (t : SubTable) (ss : Content) → map (weight t.tier) (map (sent_section v t) ss) ≡ map (λ (s : NumberedBody). (t.tier, packets_of (12 + length s.body))) ss
weights_section v t [] = refl
weights_section v t (s ∷ ss) = ap₂ (λ (n : ℕ) (ws : List (Tier3 × ℕ)). (t.tier, packets_of n) ∷ ws) (length-section_bytes (header_of v t s) s.body) (weights_section v t ss)

weights_tables : (airings : List AiredTables) (ts : List SubTable) → table_weights airings ts ≡ weights_of ts
weights_tables airings [] = refl
weights_tables airings (t ∷ ts) = ap₂ (λ (x y : List (Tier3 × ℕ)). x ++ y) (weights_section (version_at t.key airings) t t.sections) (weights_tables airings ts)

-- those of the sections that tell the time
tot_given : (moment : ℕ) (offsets : List Offset) → tot_weight offsets ≡ map (weight Fast) (tot moment offsets)
tot_given moment [] = refl
tot_given moment (o ∷ offsets) = ap (λ (n : ℕ). (Fast, packets_of n) ∷ []) (sym (length-tot_section moment (o ∷ offsets)))

pub times_given : (moment : ℕ) (form : CycleForm) → time_weights form.offsets ≡ map (weight Fast) (times form moment)
times_given moment form =
    ap₂ (λ (n : ℕ) (l : List (Tier3 × ℕ)). (Fast, packets_of n) ∷ l) (sym (eight moment)) (tot_given moment form.offsets)

pub weights_given : (past : List AiredTables) (moment : ℕ) (form : CycleForm) (ts : List SubTable) → weights_under ts form.offsets ≡ weights_once past (aired ts moment form)
weights_given past moment form ts =
    let all = past ++ aired ts moment form ∷ [] in
    ap₂ (λ (x y : List (Tier3 × ℕ)). x ++ (time_weights form.offsets ++ y)) (sym (weights_tables all (before_tdt ts))) (sym (weights_tables all (behind_tdt ts)))
    ∙ ap (λ (l : List (Tier3 × ℕ)). table_weights all (before_tdt ts) ++ (l ++ table_weights all (behind_tdt ts))) (times_given moment form)

-- ---- there is one for each section that is laid

each_under : (vs : List ℕ) (ts : List SubTable) → length vs ≡ length ts → length (sections_under vs ts) ≡ length (weights_of ts)
each_under [] [] e = refl
each_under [] (t ∷ ts) e = absurd (omega arith)
each_under (v ∷ vs) [] e = absurd (omega arith)
each_under (v ∷ vs) (t ∷ ts) e =
    let x = length-append (map (sent_section v t) t.sections) (sections_under vs ts) in
    let y = length-append (weights_in t) (weights_of ts) in
    let z = length-map t.sections (sent_section v t) in
    let w : length (weights_in t) ≡ length t.sections = length-map t.sections (λ (s : NumberedBody). (t.tier, packets_of (12 + length s.body))) in
    let i = each_under vs ts (omega arith) in
    omega arith

pub each_cycle : (vs : List ℕ) (ts : List SubTable) (moment : ℕ) (form : CycleForm) → length vs ≡ length ts → length (cycle_under vs ts (times form moment)) ≡ length (weights_under ts form.offsets)
each_cycle vs ts moment form e =
    let n = prefix_len leads ts in
    let told = times form moment in
    let weights = time_weights form.offsets in
    let same = ap length (times_given moment form) ∙ length-map told (weight Fast) in
    let front = each_under (take n vs) (before_tdt ts) (length-take n vs ∙ ap (min n) e ∙ sym (length-take n ts)) in
    let behind = each_under (drop n vs) (behind_tdt ts) (length-drop n vs ∙ ap (λ (k : ℕ). k - n) e ∙ sym (length-drop n ts)) in
    let x = length-append (sections_under (take n vs) (before_tdt ts)) (told ++ sections_under (drop n vs) (behind_tdt ts)) in
    let y = length-append (weights_of (before_tdt ts)) (weights ++ weights_of (behind_tdt ts)) in
    let v = length-append told (sections_under (drop n vs) (behind_tdt ts)) in
    let w = length-append weights (weights_of (behind_tdt ts)) in
    omega arith

-- the plan names no others
pub places_within : (vs : List ℕ) (ts : List SubTable) (moment : ℕ) (form : CycleForm) → length vs ≡ length ts
    → AllByRecursion (λ (at : ℕ). at < length (cycle_under vs ts (times form moment))) (cycle_of (planned (weights_under ts form.offsets) form.quota))
places_within vs ts moment form e =
    let ws = weights_under ts form.offsets in
    let many = planned_all ws form.quota ∙ sym (each_cycle vs ts moment form e) in
    subst (λ (n : ℕ). AllByRecursion (λ (at : ℕ). at < n) (cycle_of (planned ws form.quota))) many (cycles_are_whole (planned ws form.quota)).known

-- ---- they stand in the order of the tiers

-- the ranks do not fall, from r on
abbrev Rise : ℕ → List (Tier3 × ℕ) → Type 0
Rise r [] = Unit {0}
Rise r (w ∷ ws) = (r ≤ tier_rank w.0) × Rise (tier_rank w.0) ws

rise_lower : (q r : ℕ) (ws : List (Tier3 × ℕ)) → q ≤ r → Rise r ws → Rise q ws
rise_lower q r [] l h = tt
rise_lower q r (w ∷ ws) l h = let m = h.0 in (omega arith, h.1)

rise_in_tiers : (r : ℕ) (ws : List (Tier3 × ℕ)) → Rise r ws → AreInTiers ws
rise_in_tiers r [] h = tt
rise_in_tiers r (w ∷ []) h = tt
rise_in_tiers r (w ∷ x ∷ ws) h = (h.1.0, rise_in_tiers (tier_rank w.0) (x ∷ ws) h.1)

-- the sections of a sub-table, and then others that do not fall
rise_table : (r : ℕ) (t : SubTable) (ss : Content) (ws : List (Tier3 × ℕ)) → r ≤ tier_rank t.tier → Rise (tier_rank t.tier) ws → Rise r (map (λ (s : NumberedBody). (t.tier, packets_of (12 + length s.body))) ss ++ ws)
rise_table r t [] ws l h = rise_lower r (tier_rank t.tier) ws l h
rise_table r t (s ∷ ss) ws l h = (l, rise_table (tier_rank t.tier) t ss ws (omega arith) h)

rise_tables : (r : ℕ) (t : SubTable) (ts : List SubTable) → r ≤ tier_rank t.tier → AreTiered (t ∷ ts) → Rise r (weights_of (t ∷ ts))
rise_tables r t [] l h = rise_table r t t.sections [] l tt
rise_tables r t (u ∷ ts) l h = rise_table r t t.sections (weights_of (u ∷ ts)) l (rise_tables (tier_rank t.tier) u ts h.0 h.1)

rise_all : (ts : List SubTable) → AreTiered ts → Rise 0 (weights_of ts)
rise_all [] h = tt
rise_all (t ∷ ts) h = rise_tables 0 t ts (omega arith) h

tiered_behind : (n : ℕ) (ts : List SubTable) → AreTiered ts → AreTiered (drop n ts)
tiered_behind zero ts h = h
tiered_behind (suc n) [] h = h
tiered_behind (suc n) (t ∷ []) h = tiered_behind n [] tt
tiered_behind (suc n) (t ∷ u ∷ ts) h = tiered_behind n (u ∷ ts) h.1

-- those that lead are Fast
rank_leads : (t : SubTable) → leads t ≡ true → tier_rank t.tier ≡ 0
rank_leads t h = go t.tier (is_eit t.key.table) h
  where
    go : (tier : Tier3) (eit : Bool) → (is_fast tier && not eit) ≡ true → tier_rank tier ≡ 0
    go Fast eit e = refl
    go Near eit e = absurd (let f : false ≡ true = e in let b : Prim.⊥ = cc in b)
    go Far eit e = absurd (let f : false ≡ true = e in let b : Prim.⊥ = cc in b)

rise_leading : (ts : List SubTable) (ws : List (Tier3 × ℕ)) → Rise 0 ws → Rise 0 (weights_of (take (prefix_len leads ts) ts) ++ ws)
rise_leading [] ws h = h
rise_leading (t ∷ ts) ws h = go (leads t) refl (rise_leading ts ws h)
  where
    n : ℕ
    n = prefix_len leads ts

    go : (b : Bool) → leads t ≡ b → Rise 0 (weights_of (take n ts) ++ ws) → Rise 0 (weights_of (take (cond b (1 + n) 0) (t ∷ ts)) ++ ws)
    go false e rest = h
    go true e rest =
        let rank = rank_leads t e in
        let longer : Rise 0 (weights_of (take (suc n) (t ∷ ts)) ++ ws) =
        subst (Rise 0) (sym (append_assoc (weights_in t) (weights_of (take n ts)) ws)) (rise_table 0 t t.sections (weights_of (take n ts) ++ ws) (omega arith) (subst (λ (r : ℕ). Rise r (weights_of (take n ts) ++ ws)) (sym rank) rest)) in
        subst (λ (k : ℕ). Rise 0 (weights_of (take k (t ∷ ts)) ++ ws)) (let f : suc n ≡ 1 + n = omega arith in f) longer

rise_times : (offsets : List Offset) (ws : List (Tier3 × ℕ)) → Rise 0 ws → Rise 0 (time_weights offsets ++ ws)
rise_times [] ws h = (omega arith, h)
rise_times (o ∷ offsets) ws h = (omega arith, (omega arith, h))

pub in_tiers : (ts : List SubTable) (offsets : List Offset) → AreTiered ts → AreInTiers (weights_under ts offsets)
in_tiers ts offsets h =
    let n = prefix_len leads ts in
    rise_in_tiers 0 (weights_under ts offsets)
    (rise_leading ts (time_weights offsets ++ weights_of (behind_tdt ts)) (rise_times offsets (weights_of (behind_tdt ts)) (rise_all (behind_tdt ts) (tiered_behind n ts h))))
