-- The sections of an airing are listed as they are, whatever their versions and its moment.
use Rattle.std.proofs.Common.{◌≡◌, ℕ, zero, suc, ◌+◌, ◌<◌, ◌≤◌, List, [], ◌∷◌, ◌++◌, Bool, true, false, length, map, refl, sym, ap, ap₂, ◌∙◌, subst, arith, cond}
use Rattle.std.specs.Prelude.{not, ◌==◌, ◌&&◌, ◌↔◌, IsTrue, if◌then◌else◌, count_by, take}
use Rattle.std.specs.List.{prefix_len, AllByRecursion}
use Rattle.std.proofs.lemmas.List.{map-append}
use Rattle.std.proofs.lemmas.List.Sums.{sum_by-cons, sum_by-append}
use Rattle.std.proofs.lemmas.List.Elements.{recursion_from_All}
use Rattle.si_lists.proofs.Lists.{all_append, all_drop}
use Rattle.guide_model.specs.declared.offset.Offset.{Offset}
use Rattle.si_base.specs.Fields.{two_at}
use Rattle.section_codec.specs.KeyOrder.{is_key}
use Rattle.section_codec.specs.Tables.{tier_of}
use Rattle.section_codec.specs.Section.{section_bytes, longest_body}
use Rattle.section_codec.specs.SubTables.{IsFit, header_of}
use Rattle.section_codec.specs.declared.table.NumberedBody.{NumberedBody}
use Rattle.section_codec.specs.declared.table.SubTable.{SubTable}
use Rattle.section_codec.specs.declared.table.Tier3.{Tier3}
use Rattle.section_codec.proofs.ReadBack.{length-section_bytes, within}
use Rattle.ts_packets.specs.Packets.{packets_of}
use Rattle.time_tables.proofs.Loops.{length-tot_section}
use Rattle.time_tables.proofs.Offsets.{length-offsets_body}
use Rattle.air_model.specs.Sections.{is_fast, planned}
use Rattle.air_timing.specs.Rate.{IsRightSpan}
use Rattle.cycle_timing.specs.Leads.{measure}
use Rattle.cycle_timing.specs.Again.{IsRight, leads_in}
use Rattle.air_model.specs.Planning.{weights_of, time_weights, weights_under}
use Rattle.air_model.proofs.Weights.{weights_given}
use Rattle.version_book.specs.Airings.{AiredTables, version_at}
use Rattle.air_timing.specs.declared.pace.Paced.{Paced}
use Rattle.air_model.specs.Air.{Sent, sent_section, sections_of, table_sections, times, tot, before_tdt, behind_tdt, leads, sections_once, weights_once, CanBeTold}
use Rattle.air_model.proofs.Dense.{eight}
use Rattle.cycle_timing.specs.SubTables.{TableName, name_of, is_name, number_of}
use Rattle.cycle_timing.specs.Planning.{paced_of, paced_in, fast_groups, plan_at, timings_of}
use Rattle.cycle_timing.specs.declared.listed.Listed.{Listed}
use Rattle.cycle_timing.specs.Listing.{listed_section, listed_in, listed_of, time_listed, tot_listed, times_listed, listed_under, number_among, paced_as, paced_under, HasRange, IsSized}
use Rattle.cycle_timing.specs.Plans.{weights_listed, plan_under, timings_with}

all_take : {X : Type 0} (P : X → Type 0) (n : ℕ) (xs : List X) → AllByRecursion P xs → AllByRecursion P (take n xs)
all_take P zero xs h = tt
all_take P (suc n) [] h = tt
all_take P (suc n) (x ∷ xs) h = (h.0, all_take P n xs h.1)

-- ---- a section, and how it is listed

abbrev named : Listed → TableName
named l = record { pid = l.name.pid; table = l.name.table; ext = l.name.ext }

record IsListed (s : Sent) (l : Listed) : Type 0 where
  pub pid : s.pid ≡ l.name.pid
  pub len : length s.bytes ≡ l.len
  pub name : name_of s ≡ named l
  pub stream : l.name.stream ≡ 0
  pub network : l.name.network ≡ 0

-- each section of the one list is listed in the other
abbrev AreListed : List Sent → List Listed → Type 0
AreListed [] [] = Unit {0}
AreListed [] (l ∷ ls) = Prim.⊥
AreListed (s ∷ ss) [] = Prim.⊥
AreListed (s ∷ ss) (l ∷ ls) = IsListed s l × AreListed ss ls

both : (ss us : List Sent) (ls ks : List Listed) → AreListed ss ls → AreListed us ks → AreListed (ss ++ us) (ls ++ ks)
both [] us [] ks h k = k
both [] us (l ∷ ls) ks h k = absurd h
both (s ∷ ss) us [] ks h k = absurd h
both (s ∷ ss) us (l ∷ ls) ks h k = (h.0, both ss us ls ks h.1 k)

-- the extension stands in the fourth and fifth byte
ext_is : (v : ℕ) (t : SubTable) (s : NumberedBody) → t.key.ext < 65536 → two_at 3 (section_bytes (header_of v t s) s.body) ≡ t.key.ext
ext_is v t s small = omega arith

section_listed : (v : ℕ) (t : SubTable) (s : NumberedBody) → IsFit t → HasRange t → IsListed (sent_section v t s) (listed_section t s)
section_listed v t s fit small = record {
  pid = refl;
  len = length-section_bytes (header_of v t s) s.body;
  name = ap (λ (b : Bool). record { pid = t.key.pid; table = t.key.table; ext = if b then 0 else two_at 3 (section_bytes (header_of v t s) s.body) }) fit.long
      ∙ ap (λ (e : ℕ). record { pid = t.key.pid; table = t.key.table; ext = e }) (ext_is v t s small);
  stream = refl;
  network = refl;
}

sections_listed : (v : ℕ) (t : SubTable) (ss : List NumberedBody) → IsFit t → HasRange t → AreListed (map (sent_section v t) ss) (map (listed_section t) ss)
sections_listed v t [] fit small = tt
sections_listed v t (s ∷ ss) fit small = (section_listed v t s fit small, sections_listed v t ss fit small)

tables_listed : (airings : List AiredTables) (ts : List SubTable) → AllByRecursion IsFit ts → AllByRecursion HasRange ts → AreListed (table_sections airings ts) (listed_of ts)
tables_listed airings [] fit small = tt
tables_listed airings (t ∷ ts) fit small =
    both (sections_of (version_at t.key airings) t) (table_sections airings ts) (listed_in t) (listed_of ts)
    (sections_listed (version_at t.key airings) t t.sections fit.0 small.0) (tables_listed airings ts fit.1 small.1)

tot_told : (moment : ℕ) (offsets : List Offset) → AreListed (tot moment offsets) (tot_listed offsets)
tot_told moment [] = tt
tot_told moment (o ∷ offsets) = (record { pid = refl; len = length-tot_section moment (o ∷ offsets); name = refl; stream = refl; network = refl }, tt)

times_told : (a : AiredTables) → AreListed (times a.form a.moment) (times_listed a.form.offsets)
times_told a = (record { pid = refl; len = eight a.moment; name = refl; stream = refl; network = refl }, tot_told a.moment a.form.offsets)

once_listed : (past : List AiredTables) (a : AiredTables) → AllByRecursion IsFit a.tables → AllByRecursion HasRange a.tables → AreListed (sections_once past a) (listed_under a.tables a.form.offsets)
once_listed past a fit small =
    let n = prefix_len leads a.tables in
    let all = past ++ a ∷ [] in
    both (table_sections all (before_tdt a.tables)) (times a.form a.moment ++ table_sections all (behind_tdt a.tables)) (listed_of (before_tdt a.tables)) (times_listed a.form.offsets ++ listed_of (behind_tdt a.tables))
    (tables_listed all (before_tdt a.tables) (all_take IsFit n a.tables fit) (all_take HasRange n a.tables small))
    (both (times a.form a.moment) (table_sections all (behind_tdt a.tables)) (times_listed a.form.offsets) (listed_of (behind_tdt a.tables)) (times_told a)
    (tables_listed all (behind_tdt a.tables) (all_drop IsFit n a.tables fit) (all_drop HasRange n a.tables small)))

-- ---- the numbers of their sub-tables

keys_as_names : (a b : Bool) (x y : ℕ) → x ≡ 0 → y ≡ 0 → (a && x == y) ≡ a
keys_as_names true b x y e f = ap₂ (λ (m n : ℕ). m == n) e f
keys_as_names false b x y e f = refl

same_name : (k l : Listed) → k.name.stream ≡ 0 → l.name.stream ≡ 0 → k.name.network ≡ 0 → l.name.network ≡ 0 → is_key k.name l.name ≡ is_name (named k) (named l)
same_name k l a b c d =
    let names = is_name (named k) (named l) in
    keys_as_names (names && k.name.stream == l.name.stream) true k.name.network l.name.network c d
    ∙ keys_as_names names true k.name.stream l.name.stream a b

number_listed : (s : Sent) (l : Listed) → IsListed s l → (ss : List Sent) (ls : List Listed) → AreListed ss ls → number_of ss s ≡ number_among ls l
number_listed s l is [] [] h = refl
number_listed s l is [] (k ∷ ls) h = absurd h
number_listed s l is (u ∷ ss) [] h = absurd h
number_listed s l is (u ∷ ss) (k ∷ ls) h =
    let other = h.0 in
    ap₂ (λ (b : Bool) (n : ℕ). cond (not b) (1 + n) 0)
    (ap₂ is_name is.name other.name ∙ sym (same_name l k is.stream other.stream is.network other.network))
    (number_listed s l is ss ls h.1)

paced_listed : (all : List Sent) (known : List Listed) → AreListed all known → (ss : List Sent) (ls : List Listed) → AreListed ss ls → map (paced_as known) ls ≡ map (paced_of all) ss
paced_listed all known are [] [] h = refl
paced_listed all known are [] (l ∷ ls) h = absurd h
paced_listed all known are (s ∷ ss) [] h = absurd h
paced_listed all known are (s ∷ ss) (l ∷ ls) h =
    let is = h.0 in
    let here : paced_as known l ≡ paced_of all s =
    ap₂ (λ (p : ℕ) (n : TableName). record { pid = p; tier = tier_of n.table; len = l.len; table = number_among known l }) (sym is.pid) (sym is.name)
    ∙ ap₂ (λ (m n : ℕ). record { pid = s.pid; tier = tier_of (name_of s).table; len = m; table = n }) (sym is.len) (sym (number_listed s l is all known are)) in
    ap₂ (λ (p : Paced) (rest : List Paced). p ∷ rest) here (paced_listed all known are ss ls h.1)

-- ---- their weights

abbrev weigh : Listed → Tier3 × ℕ
weigh l = (l.tier, packets_of l.len)

abbrev weigh_body : SubTable → NumberedBody → Tier3 × ℕ
weigh_body t s = (t.tier, packets_of (12 + length s.body))

weights_in_is : (t : SubTable) (ss : List NumberedBody) → map weigh (map (listed_section t) ss) ≡ map (weigh_body t) ss
weights_in_is t [] = refl
weights_in_is t (s ∷ ss) = ap (λ (ws : List (Tier3 × ℕ)). weigh_body t s ∷ ws) (weights_in_is t ss)

weights_of_is : (ts : List SubTable) → map weigh (listed_of ts) ≡ weights_of ts
weights_of_is [] = refl
weights_of_is (t ∷ ts) =
    map-append weigh (listed_in t) (listed_of ts)
    ∙ ap₂ (λ (a b : List (Tier3 × ℕ)). a ++ b) (weights_in_is t t.sections) (weights_of_is ts)

weights_times : (offsets : List Offset) → map weigh (times_listed offsets) ≡ time_weights offsets
weights_times [] = refl
weights_times (o ∷ offsets) = refl

weights_are : (ts : List SubTable) (offsets : List Offset) → map weigh (listed_under ts offsets) ≡ weights_under ts offsets
weights_are ts offsets =
    map-append weigh (listed_of (before_tdt ts)) (times_listed offsets ++ listed_of (behind_tdt ts))
    ∙ ap₂ (λ (a b : List (Tier3 × ℕ)). a ++ b) (weights_of_is (before_tdt ts))
    (map-append weigh (times_listed offsets) (listed_of (behind_tdt ts))
    ∙ ap₂ (λ (a b : List (Tier3 × ℕ)). a ++ b) (weights_times offsets) (weights_of_is (behind_tdt ts)))

-- ---- what is planned of them

module _ (rate : ℕ) (past : List AiredTables) (a : AiredTables) (ts : List SubTable) (offsets : List Offset) (of_tables : a.tables ≡ ts) (of_offsets : a.form.offsets ≡ offsets)
    (fit : AllByRecursion IsFit ts) (small : AllByRecursion HasRange ts) where
  abbrev pub known : List Listed
  known = listed_under ts offsets

  sections_given : paced_under known ≡ paced_in (sections_once past a)
  sections_given =
      let h = once_listed past a (subst (AllByRecursion IsFit) (sym of_tables) fit) (subst (AllByRecursion HasRange) (sym of_tables) small) in
      ap₂ (λ (us : List SubTable) (os : List Offset). paced_under (listed_under us os)) (sym of_tables) (sym of_offsets)
      ∙ paced_listed (sections_once past a) (listed_under a.tables a.form.offsets) h (sections_once past a) (listed_under a.tables a.form.offsets) h

  weights_same : weights_listed known ≡ weights_once past a
  weights_same =
      ap₂ (λ (us : List SubTable) (os : List Offset). weights_listed (listed_under us os)) (sym of_tables) (sym of_offsets)
      ∙ weights_are a.tables a.form.offsets ∙ weights_given past a.moment a.form a.tables

  pub timings_given : timings_with rate (plan_under rate known) ≡ timings_of rate past a
  timings_given = ap₂ (λ (ss : List Paced) (ws : List (Tier3 × ℕ)). timings_with rate (plan_at rate ss (planned ws a.form.quota))) sections_given weights_same

  abbrev RightSpan : List Paced → List (Tier3 × ℕ) → Type 0
  RightSpan ss ws = IsRightSpan rate (measure ss (fast_groups ss (planned ws a.form.quota))) (plan_at rate ss (planned ws a.form.quota)).span

  pub right_given : (b : Bool) → IsTrue b ↔ RightSpan (paced_under known) (weights_listed known) → IsTrue b ↔ IsRight rate past a
  right_given b h =
      subst (λ (ws : List (Tier3 × ℕ)). IsTrue b ↔ RightSpan (paced_in (sections_once past a)) ws) weights_same
      (subst (λ (ss : List Paced). IsTrue b ↔ RightSpan ss (weights_listed known)) sections_given h)

  pub leads_given : measure (paced_under known) (fast_groups (paced_under known) (planned (weights_listed known) 0)) ≡ leads_in rate past a
  leads_given = ap₂ (λ (ss : List Paced) (ws : List (Tier3 × ℕ)). measure ss (fast_groups ss (planned ws a.form.quota))) sections_given weights_same

-- ---- they have bytes, and there is a TDT

sized_in : (t : SubTable) (ss : List NumberedBody) → AllByRecursion (λ (s : NumberedBody). length s.body ≤ longest_body t.key.table) ss → AllByRecursion IsSized (map (listed_section t) ss)
sized_in t [] h = tt
sized_in t (s ∷ ss) h = (record { some = omega arith; most = (let l = within t.key.table (length s.body) h.0 in omega arith) }, sized_in t ss h.1)

sized_of : (ts : List SubTable) → AllByRecursion IsFit ts → AllByRecursion IsSized (listed_of ts)
sized_of [] fit = tt
sized_of (t ∷ ts) fit =
    let here = fit.0 in
    all_append IsSized (listed_in t) (listed_of ts) (sized_in t t.sections (recursion_from_All _ t.sections here.bodies)) (sized_of ts fit.1)

sized_times : (offsets : List Offset) → CanBeTold offsets → AllByRecursion IsSized (times_listed offsets)
sized_times [] can = (record { some = omega arith; most = omega arith }, tt)
sized_times (o ∷ offsets) can =
    let size = length-offsets_body (o ∷ offsets) can.each in
    let few = can.few in
    (record { some = omega arith; most = omega arith }, (record { some = omega arith; most = omega arith }, tt))

pub all_sized : (ts : List SubTable) (offsets : List Offset) → AllByRecursion IsFit ts → CanBeTold offsets → AllByRecursion IsSized (listed_under ts offsets)
all_sized ts offsets fit can =
    let n = prefix_len leads ts in
    all_append IsSized (listed_of (before_tdt ts)) (times_listed offsets ++ listed_of (behind_tdt ts)) (sized_of (before_tdt ts) (all_take IsFit n ts fit))
    (all_append IsSized (times_listed offsets) (listed_of (behind_tdt ts)) (sized_times offsets can) (sized_of (behind_tdt ts) (all_drop IsFit n ts fit)))

pub some_fast : (ts : List SubTable) (offsets : List Offset) → 0 < count_by (λ (l : Listed). is_fast l.tier) (listed_under ts offsets)
some_fast ts offsets =
    let f : Listed → ℕ = λ l. cond (is_fast l.tier) 1 0 in
    let rest = tot_listed offsets ++ listed_of (behind_tdt ts) in
    let tdt_first = sum_by-cons f (time_listed 0x70 8) rest in
    let all = sum_by-append f (listed_of (before_tdt ts)) (time_listed 0x70 8 ∷ rest) in
    omega arith
