-- What is planned depends on the sub-tables and the form of an airing alone: not on versions and moments.
use Rattle.std.proofs.Common.{◌≡◌, ℕ, ◌+◌, List, [], ◌∷◌, ◌++◌, length, map, refl, sym, ap, ap₂, ◌∙◌}
use Rattle.std.specs.Prelude.{cond, not}
use Rattle.std.specs.List.{AllZip, prefix_len}
use Rattle.section_codec.specs.SubTables.{header_of}
use Rattle.section_codec.specs.Tables.{tier_of}
use Rattle.section_codec.specs.declared.table.NumberedBody.{NumberedBody}
use Rattle.section_codec.specs.declared.table.SubTable.{SubTable}
use Rattle.section_codec.specs.declared.table.Tier3.{Tier3}
use Rattle.section_codec.specs.declared.table.Tier3.TheVariants.{Fast}
use Rattle.section_codec.proofs.ReadBack.{length-section_bytes}
use Rattle.ts_packets.specs.Packets.{packets_of}
use Rattle.version_book.specs.Airings.{AiredTables, CycleForm, version_at}
use Rattle.air_model.specs.Sections.{planned}
use Rattle.air_timing.specs.declared.pace.Paced.{Paced}
use Rattle.air_model.specs.Air.{Sent, sent_section, sections_of, table_sections, times, before_tdt, behind_tdt, sections_once, weight, table_weights, weights_once}
use Rattle.cycle_timing.specs.SubTables.{TableName, name_of, is_name, number_of}
use Rattle.cycle_timing.specs.Planning.{paced_of, paced_in, plan_at, plan_of}
use Rattle.cycle_timing.proofs.Moments.{AreAlike, alike_times, zip_append}

-- ---- sections with other versions

alike_section : (v w : ℕ) (t : SubTable) (s : NumberedBody) → AreAlike (sent_section v t s) (sent_section w t s)
alike_section v w t s = record { pid = refl; len = length-section_bytes (header_of v t s) s.body ∙ sym (length-section_bytes (header_of w t s) s.body); name = refl }

alike_sections : (v w : ℕ) (t : SubTable) (ss : List NumberedBody) → AllZip AreAlike (map (sent_section v t) ss) (map (sent_section w t) ss)
alike_sections v w t [] = tt
alike_sections v w t (s ∷ ss) = (alike_section v w t s, alike_sections v w t ss)

alike_tables : (one two : List AiredTables) (ts : List SubTable) → AllZip AreAlike (table_sections one ts) (table_sections two ts)
alike_tables one two [] = tt
alike_tables one two (t ∷ ts) =
    zip_append AreAlike (sections_of (version_at t.key one) t) (sections_of (version_at t.key two) t) (table_sections one ts) (table_sections two ts)
    (alike_sections (version_at t.key one) (version_at t.key two) t t.sections) (alike_tables one two ts)

abbrev airing : List SubTable → CycleForm → ℕ → AiredTables
airing tables form moment = record { tables = tables; moment = moment; form = form }

pub alike_once : (past other : List AiredTables) (tables : List SubTable) (form : CycleForm) (m n : ℕ)
    → AllZip AreAlike (sections_once past (airing tables form m)) (sections_once other (airing tables form n))
alike_once past other tables form m n =
    let a = airing tables form m in
    let b = airing tables form n in
    let one = past ++ a ∷ [] in
    let two = other ++ b ∷ [] in
    zip_append AreAlike (table_sections one (before_tdt tables)) (table_sections two (before_tdt tables)) (times form m ++ table_sections one (behind_tdt tables)) (times form n ++ table_sections two (behind_tdt tables))
    (alike_tables one two (before_tdt tables))
    (zip_append AreAlike (times form m) (times form n) (table_sections one (behind_tdt tables)) (table_sections two (behind_tdt tables)) (alike_times a m n) (alike_tables one two (behind_tdt tables)))

-- ---- what is planned of them

number_alike : (n : TableName) (ss us : List Sent) → AllZip AreAlike ss us → prefix_len (λ (other : Sent). not (is_name n (name_of other))) ss ≡ prefix_len (λ (other : Sent). not (is_name n (name_of other))) us
number_alike n [] [] h = refl
number_alike n [] (u ∷ us) h = absurd h
number_alike n (s ∷ ss) [] h = absurd h
number_alike n (s ∷ ss) (u ∷ us) h = ap₂ (λ (m : TableName) (k : ℕ). cond (not (is_name n m)) (1 + k) 0) h.0.name (number_alike n ss us h.1)

paced_alike : (all others : List Sent) → AllZip AreAlike all others → (ss us : List Sent) → AllZip AreAlike ss us → map (paced_of all) ss ≡ map (paced_of others) us
paced_alike all others h [] [] k = refl
paced_alike all others h [] (u ∷ us) k = absurd k
paced_alike all others h (s ∷ ss) [] k = absurd k
paced_alike all others h (s ∷ ss) (u ∷ us) k =
    let number : number_of all s ≡ number_of others u = ap (λ (n : TableName). prefix_len (λ (other : Sent). not (is_name n (name_of other))) all) k.0.name ∙ number_alike (name_of u) all others h in
    let here : paced_of all s ≡ paced_of others u =
    ap₂ (λ (p : ℕ) (n : TableName). record { pid = p; tier = tier_of n.table; len = length s.bytes; table = number_of all s }) k.0.pid k.0.name
    ∙ ap₂ (λ (l n : ℕ). record { pid = u.pid; tier = tier_of (name_of u).table; len = l; table = n }) k.0.len number in
    ap₂ (λ (p : Paced) (l : List Paced). p ∷ l) here (paced_alike all others h ss us k.1)

weights_alike : (tier : Tier3) (ss us : List Sent) → AllZip AreAlike ss us → map (weight tier) ss ≡ map (weight tier) us
weights_alike tier [] [] h = refl
weights_alike tier [] (u ∷ us) h = absurd h
weights_alike tier (s ∷ ss) [] h = absurd h
weights_alike tier (s ∷ ss) (u ∷ us) h = ap₂ (λ (n : ℕ) (l : List (Tier3 × ℕ)). (tier, packets_of n) ∷ l) h.0.len (weights_alike tier ss us h.1)

table_weights_same : (one two : List AiredTables) (ts : List SubTable) → table_weights one ts ≡ table_weights two ts
table_weights_same one two [] = refl
table_weights_same one two (t ∷ ts) =
    ap₂ (λ (l r : List (Tier3 × ℕ)). l ++ r)
    (weights_alike t.tier (sections_of (version_at t.key one) t) (sections_of (version_at t.key two) t) (alike_sections (version_at t.key one) (version_at t.key two) t t.sections)) (table_weights_same one two ts)

pub weights_same : (past other : List AiredTables) (tables : List SubTable) (form : CycleForm) (m n : ℕ) → weights_once past (airing tables form m) ≡ weights_once other (airing tables form n)
weights_same past other tables form m n =
    let a = airing tables form m in
    let b = airing tables form n in
    let one = past ++ a ∷ [] in
    let two = other ++ b ∷ [] in
    ap₂ (λ (l r : List (Tier3 × ℕ)). l ++ r) (table_weights_same one two (before_tdt tables))
    (ap₂ (λ (l r : List (Tier3 × ℕ)). l ++ r) (weights_alike Fast (times form m) (times form n) (alike_times a m n)) (table_weights_same one two (behind_tdt tables)))

pub paced_same : (past other : List AiredTables) (tables : List SubTable) (form : CycleForm) (m n : ℕ) → paced_in (sections_once past (airing tables form m)) ≡ paced_in (sections_once other (airing tables form n))
paced_same past other tables form m n =
    let ss = sections_once past (airing tables form m) in
    let us = sections_once other (airing tables form n) in
    let all = alike_once past other tables form m n in
    paced_alike ss us all ss us all

-- so it is the same of airings of the same sub-tables
pub plans_same : (rate : ℕ) (past other : List AiredTables) (a b : AiredTables) → b.tables ≡ a.tables → b.form ≡ a.form → plan_of rate other b ≡ plan_of rate past a
plans_same rate past other a b tables form =
    ap₂ (λ (ts : List SubTable) (f : CycleForm). plan_of rate other (airing ts f b.moment)) tables form
    ∙ ap₂ (λ (ss : List Paced) (ws : List (Tier3 × ℕ)). plan_at rate ss (planned ws a.form.quota)) (paced_same other past a.tables a.form b.moment a.moment) (weights_same other past a.tables a.form b.moment a.moment)
