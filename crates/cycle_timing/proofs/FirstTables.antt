-- The sub-tables that are sent before event information are those of the sections that stand before it.
use Rattle.std.proofs.Common.{◌≡◌, ℕ, zero, suc, ◌+◌, ◌-◌, ◌<◌, ◌≤◌, List, [], ◌∷◌, ◌++◌, Bool, true, false, Some, length, map, take, refl, sym, ap, ap₂, ◌∙◌, subst, arith, append_assoc, length-append}
use Rattle.std.specs.Prelude.{◌==◌, ◌&&◌, ◌||◌, not, cond, filter, slice_get, take_while, count_by}
use Rattle.std.specs.List.{AllByRecursion, Contains, prefix_len, list_any}
use Rattle.std.proofs.lemmas.Bool.{eqb-true, eq-eqb, ne_eqb}
use Rattle.std.proofs.lemmas.List.{map-append}
use Rattle.std.proofs.lemmas.List.Elements.{filter-append}
use Rattle.std.proofs.lemmas.List.Sums.{sum_by-append, sum_by-cons}
use Rattle.si_lists.proofs.Lists.{all_append, all_map, all_to_map}
use Rattle.si_lists.proofs.Truths.{first_true, second_true}
use Rattle.guide_model.specs.declared.offset.Offset.{Offset}
use Rattle.section_codec.specs.Contents.{numbers_from}
use Rattle.section_codec.specs.Tables.{is_eit}
use Rattle.section_codec.specs.declared.table.NumberedBody.{NumberedBody}
use Rattle.section_codec.specs.declared.table.SubTable.{SubTable}
use Rattle.section_codec.specs.declared.table.Tier3.{Tier3}
use Rattle.section_codec.specs.declared.table.Tier3.TheVariants.{Fast}
use Rattle.version_book.specs.Airings.{AiredTables, version_at}
use Rattle.air_model.specs.Sections.{is_fast, planned}
use Rattle.air_model.proofs.Cursors.{planned_all}
use Rattle.air_model.proofs.Lists.{all-numbers}
use Rattle.air_timing.specs.declared.pace.Paced.{Paced}
use Rattle.air_timing.specs.Plan.{section_at}
use Rattle.air_model.specs.Air.{Sent, sent_section, sections_of, table_sections, tot, times, leads, before_tdt, behind_tdt, sections_once, weight, table_weights, weights_once}
use Rattle.air_model.proofs.Elements.{first_of, rest_of}
use Rattle.air_model.proofs.Planned.{all_got, weights_each}
use Rattle.cycle_timing.specs.SubTables.{TableName, name_of, is_name, distinct, groups}
use Rattle.cycle_timing.specs.Again.{first_sections, FirstTablesLead}
use Rattle.cycle_timing.specs.Leads.{is_of_events}
use Rattle.cycle_timing.specs.Planning.{paced_in, table_at}
use Rattle.cycle_timing.proofs.Cycles.{got_within, planned_at}
use Rattle.cycle_timing.proofs.PacedGroups.{all_filter, in_filter}
use Rattle.cycle_timing.proofs.Plans.{in_numbers}

-- ---- names and their first places

itself : (n : TableName) → is_name n n ≡ true
itself n = ap₂ (λ (a b : Bool). (a && n.table == n.table) && b) (eq-eqb n.pid n.pid refl) (eq-eqb n.ext n.ext refl) ∙ ap (λ (b : Bool). b && true) (eq-eqb n.table n.table refl)

same_name : (a b : TableName) → is_name a b ≡ true → a ≡ b
same_name a b e =
    let front = first_true (a.pid == b.pid && a.table == b.table) (a.ext == b.ext) e in
    let pid = eqb-true a.pid b.pid (first_true (a.pid == b.pid) (a.table == b.table) front) in
    let table = eqb-true a.table b.table (second_true (a.pid == b.pid) (a.table == b.table) front) in
    let ext = eqb-true a.ext b.ext (second_true (a.pid == b.pid && a.table == b.table) (a.ext == b.ext) e) in
    ap₂ (λ (p t : ℕ). record { pid = p; table = t; ext = a.ext }) pid table ∙ ap (λ (x : ℕ). record { pid = b.pid; table = b.table; ext = x }) ext

abbrev place_of : TableName → List Sent → ℕ
place_of n ss = prefix_len (λ (other : Sent). not (is_name n (name_of other))) ss

-- the first section of a name stands no later than any other one
record FirstPlace (n : TableName) (ss : List Sent) (i : ℕ) : Type 0 where
  pub least : place_of n ss ≤ i
  pub sent : Sent
  pub got : slice_get ss (place_of n ss) ≡ Some sent
  pub name : name_of sent ≡ n

first_place : (n : TableName) (ss : List Sent) (i : ℕ) (s : Sent) → slice_get ss i ≡ Some s → name_of s ≡ n → FirstPlace n ss i
first_place n [] i s e same = cc
first_place n (u ∷ ss) zero s e same =
    let own : u ≡ s = cc in
    let is : is_name n (name_of u) ≡ true = ap (is_name n) (ap name_of own ∙ same) ∙ itself n in
    let none : place_of n (u ∷ ss) ≡ 0 = ap (λ (b : Bool). cond (not b) (1 + place_of n ss) 0) is in
    record { least = omega arith; sent = u; got = ap (slice_get (u ∷ ss)) none; name = ap name_of own ∙ same }
first_place n (u ∷ ss) (suc i) s e same = go (is_name n (name_of u)) refl (first_place n ss i s e same)
  where
    go : (b : Bool) → is_name n (name_of u) ≡ b → FirstPlace n ss i → FirstPlace n (u ∷ ss) (suc i)
    go true is r =
        let none : place_of n (u ∷ ss) ≡ 0 = ap (λ (b : Bool). cond (not b) (1 + place_of n ss) 0) is in
        record { least = omega arith; sent = u; got = ap (slice_get (u ∷ ss)) none; name = sym (same_name n (name_of u) is) }
    go false is r =
        let more : place_of n (u ∷ ss) ≡ suc (place_of n ss) = ap (λ (b : Bool). cond (not b) (1 + place_of n ss) 0) is ∙ (let e : 1 + place_of n ss ≡ suc (place_of n ss) = omega arith in e) in
        let l = r.least in
        record { least = omega arith; sent = r.sent; got = ap (slice_get (u ∷ ss)) more ∙ r.got; name = r.name }

-- ---- numbers, each once, in the order of their first places

record Parted (P : ℕ → Type 0) (ns : List ℕ) (n : ℕ) : Type 0 where
  pub before : List ℕ
  pub after : List ℕ
  pub are : distinct ns ≡ before ++ n ∷ after
  pub each : AllByRecursion P before

distinct_parted : (P : ℕ → Type 0) (front : List ℕ) (n : ℕ) (rest : List ℕ) → AllByRecursion (λ (m : ℕ). (m ≡ n → Prim.⊥) × P m) front → Parted P (front ++ n ∷ rest) n
distinct_parted P [] n rest h = record { before = []; after = filter (λ (m : ℕ). not (m == n)) (distinct rest); are = refl; each = tt }
distinct_parted P (m ∷ front) n rest h =
    let r = distinct_parted P front n rest h.1 in
    let keep : ℕ → Bool = λ (k : ℕ). not (k == m) in
    let off : not (n == m) ≡ true = ap not (ne_eqb n m (λ e. h.0.0 (sym e))) in
    let parted : filter keep (distinct (front ++ n ∷ rest)) ≡ filter keep r.before ++ n ∷ filter keep r.after =
    ap (filter keep) r.are ∙ filter-append keep r.before (n ∷ r.after) ∙ ap (λ (b : Bool). filter keep r.before ++ cond b (n ∷ filter keep r.after) (filter keep r.after)) off in
    record { before = m ∷ filter keep r.before; after = filter keep r.after; are = ap (λ (l : List ℕ). m ∷ l) parted; each = (h.0.1, all_filter P keep r.before r.each) }

numbers-cut : (a j k : ℕ) → numbers_from a (j + suc k) ≡ numbers_from a j ++ (a + j) ∷ numbers_from (1 + (a + j)) k
numbers-cut a zero k = ap₂ (λ (n m : ℕ). numbers_from m n) (let e : 0 + suc k ≡ suc k = omega arith in e) refl ∙ ap (λ (m : ℕ). m ∷ numbers_from (1 + m) k) (let e : a ≡ a + 0 = omega arith in e)
numbers-cut a (suc j) k = ap (λ (n : ℕ). numbers_from a n) (let e : suc j + suc k ≡ suc (j + suc k) = omega arith in e) ∙ ap (λ (t : List ℕ). a ∷ t) (numbers-cut (1 + a) j k)
    ∙ ap (λ (m : ℕ). a ∷ (numbers_from (1 + a) j ++ m ∷ numbers_from (1 + m) k)) (let e : 1 + a + j ≡ a + suc j = omega arith in e)

-- ---- the front of a list that passes

in_while : {X : Type 0} (q : X → Bool) (before : List X) (x : X) (after : List X) → AllByRecursion (λ (y : X). q y ≡ true) before → q x ≡ true → Contains (take_while q (before ++ x ∷ after)) x
in_while q [] x after h e =
    let n : prefix_len q (x ∷ after) ≡ suc (prefix_len q after) = ap (λ (b : Bool). cond b (1 + prefix_len q after) 0) e ∙ (let z : 1 + prefix_len q after ≡ suc (prefix_len q after) = omega arith in z) in
    subst (λ (k : ℕ). Contains (take k (x ∷ after)) x) (sym n) (first_of x (take (prefix_len q after) after))
in_while q (y ∷ before) x after h e =
    let more = before ++ x ∷ after in
    let n : prefix_len q (y ∷ more) ≡ suc (prefix_len q more) = ap (λ (b : Bool). cond b (1 + prefix_len q more) 0) h.0 ∙ (let z : 1 + prefix_len q more ≡ suc (prefix_len q more) = omega arith in z) in
    subst (λ (k : ℕ). Contains (take k (y ∷ more)) x) (sym n) (rest_of y (take (prefix_len q more) more) x (in_while q before x after h.1 e))

-- ---- an airing

module _ (once : List Sent) (fasts n : ℕ) (low : n ≤ fasts) (all : fasts ≤ length once)
    (none : (i : ℕ) (s : Sent) → i < n → slice_get once i ≡ Some s → s.pid ≡ 0x0012 → Prim.⊥) where
  abbrev ss : List Paced
  ss = paced_in once

  abbrev fast : List ℕ
  fast = numbers_from 0 fasts

  abbrev table : ℕ → ℕ
  table = table_at ss

  abbrev is_first : List ℕ → Bool
  is_first group = not (is_of_events ss group)

  -- a section and the first one of its sub-table
  record Own (i : ℕ) : Type 0 where
    pub sent : Sent
    pub got : slice_get once i ≡ Some sent
    pub number : table i ≡ place_of (name_of sent) once
    pub first : FirstPlace (name_of sent) once i

  own : (i : ℕ) → i < length once → Own i
  own i l =
      let g = got_within once i l in
      record { sent = g.0; got = g.1; number = ap (λ (p : Paced). p.table) (planned_at once i g.0 g.1); first = first_place (name_of g.0) once i g.0 g.1 refl }

  not_events : (i : ℕ) → i < length once → table i < n → ((section_at ss i).pid == 0x0012) ≡ false
  not_events i l lt =
      let o = own i l in
      let f = o.first in
      let m = o.number in
      let pid : (section_at ss i).pid ≡ f.sent.pid = ap (λ (p : Paced). p.pid) (planned_at once i o.sent o.got) ∙ sym (ap (λ (t : TableName). t.pid) f.name) in
      ne_eqb (section_at ss i).pid 0x0012 (λ e. none (place_of (name_of o.sent) once) f.sent (omega arith) f.got (sym pid ∙ e))

  abbrev group_of : ℕ → List ℕ
  group_of k = filter (λ (x : ℕ). table x == k) fast

  -- a group of a sub-table whose first section stands before events has none
  group_first : (k : ℕ) → k < n → is_first (group_of k) ≡ true
  group_first k lt = ap not (go fast (all-numbers (λ (i : ℕ). i < length once) 0 fasts (λ i a b. omega arith)))
    where
      events : List ℕ → Bool
      events xs = list_any (λ (x : ℕ). (section_at ss x).pid == 0x0012) xs

      go : (xs : List ℕ) → AllByRecursion (λ (i : ℕ). i < length once) xs → is_of_events ss (filter (λ (x : ℕ). table x == k) xs) ≡ false
      go [] h = refl
      go (x ∷ xs) h = one (table x == k) refl (go xs h.1)
        where
          one : (b : Bool) → (table x == k) ≡ b → is_of_events ss (filter (λ (x : ℕ). table x == k) xs) ≡ false → is_of_events ss (cond b (x ∷ filter (λ (x : ℕ). table x == k) xs) (filter (λ (x : ℕ). table x == k) xs)) ≡ false
          one false e r = r
          one true e r =
              let same = eqb-true (table x) k e in
              ap₂ (λ (a b : Bool). a || b) (not_events x h.0 (omega arith)) r

  -- so a section before events stands in one of the first groups
  first_groups : (x : ℕ) → x < n → (group : List ℕ) × Contains (take_while is_first (groups table fast)) group × Contains group x
  first_groups x lt =
      let o = own x (omega arith) in
      let k = table x in
      let f = o.first in
      let num = o.number in
      let least = f.least in
      let u = own k (omega arith) in
      let same : name_of u.sent ≡ name_of o.sent = (let e : Some u.sent ≡ Some f.sent = sym u.got ∙ ap (slice_get once) num ∙ f.got in let s : u.sent ≡ f.sent = cc in ap name_of s ∙ f.name) in
      let own_number : table k ≡ k = u.number ∙ ap (λ (t : TableName). place_of t once) same ∙ sym num in
      let cut : fast ≡ numbers_from 0 k ++ (0 + k) ∷ numbers_from (1 + (0 + k)) (fasts - suc k) = ap (numbers_from 0) (let e : fasts ≡ k + suc (fasts - suc k) = omega arith in e) ∙ numbers-cut 0 k (fasts - suc k) in
      let rest = numbers_from (1 + (0 + k)) (fasts - suc k) in
      let numbers : map table fast ≡ map table (numbers_from 0 k) ++ k ∷ map table rest =
      ap (map table) cut ∙ map-append table (numbers_from 0 k) ((0 + k) ∷ rest) ∙ ap (λ (m : ℕ). map table (numbers_from 0 k) ++ m ∷ map table rest) (ap table (let e : 0 + k ≡ k = omega arith in e) ∙ own_number) in
      let front = all_to_map (λ (m : ℕ). (m ≡ k → Prim.⊥) × (m < n)) table (numbers_from 0 k)
      (all-numbers (λ (i : ℕ). (table i ≡ k → Prim.⊥) × (table i < n)) 0 k (λ i a b. (let v = own i (omega arith) in let w = v.number in let l = v.first.least in ((λ e. omega arith), omega arith)))) in
      let parted = distinct_parted (λ (m : ℕ). m < n) (map table (numbers_from 0 k)) k (map table rest) front in
      let gs : groups table fast ≡ map group_of parted.before ++ group_of k ∷ map group_of parted.after =
      ap (map group_of) (ap distinct numbers ∙ parted.are) ∙ map-append group_of parted.before (k ∷ parted.after) in
      let pass = all_to_map (λ (g : List ℕ). is_first g ≡ true) group_of parted.before (all_map (λ (m : ℕ). m < n) (λ (m : ℕ). is_first (group_of m) ≡ true) (λ m l. group_first m l) parted.before parted.each) in (
        group_of k,
        subst (λ (l : List (List ℕ)). Contains (take_while is_first l) (group_of k)) (sym gs) (in_while is_first (map group_of parted.before) (group_of k) (map group_of parted.after) pass (group_first k (omega arith))),
        in_filter (λ (y : ℕ). table y == k) fast x (in_numbers x 0 fasts (omega arith) (omega arith)) (eq-eqb k k refl),
      )

-- ---- the sections that stand before events

got_front : (xs ys : List Sent) (i : ℕ) (s : Sent) → i < length xs → slice_get (xs ++ ys) i ≡ Some s → slice_get xs i ≡ Some s
got_front [] ys i s l e = absurd (omega arith)
got_front (x ∷ xs) ys zero s l e = e
got_front (x ∷ xs) ys (suc i) s l e = got_front xs ys i s (omega arith) e

abbrev IsNoEvents : Sent → Type 0
IsNoEvents s = s.pid ≡ 0x0012 → Prim.⊥

no_events_table : (v : ℕ) (t : SubTable) → (t.key.pid ≡ 0x0012 → Prim.⊥) → (ss : List NumberedBody) → AllByRecursion IsNoEvents (map (sent_section v t) ss)
no_events_table v t off [] = tt
no_events_table v t off (s ∷ rest) = (off, no_events_table v t off rest)

no_events_tables : (airings : List AiredTables) (ts : List SubTable) → AllByRecursion (λ (t : SubTable). t.key.pid ≡ 0x0012 → Prim.⊥) ts → AllByRecursion IsNoEvents (table_sections airings ts)
no_events_tables airings [] off = tt
no_events_tables airings (t ∷ ts) off =
    all_append IsNoEvents (sections_of (version_at t.key airings) t) (table_sections airings ts) (no_events_table (version_at t.key airings) t off.0 t.sections) (no_events_tables airings ts off.1)

no_events_times : (a : AiredTables) (m : ℕ) → AllByRecursion IsNoEvents (times a.form m)
no_events_times a m = ((λ e. omega arith), go a.form.offsets)
  where
    go : (offsets : List Offset) → AllByRecursion IsNoEvents (tot m offsets)
    go [] = tt
    go (o ∷ offsets) = ((λ e. omega arith), tt)

-- they are Fast ones
abbrev fast_in : List (Tier3 × ℕ) → ℕ
fast_in ws = count_by (λ (s : Tier3 × ℕ). is_fast s.0) ws

fast_of_tier : (tier : Tier3) → is_fast tier ≡ true → (ss : List Sent) → fast_in (map (weight tier) ss) ≡ length ss
fast_of_tier tier e [] = refl
fast_of_tier tier e (s ∷ more) =
    sum_by-cons (λ (s : Tier3 × ℕ). cond (is_fast s.0) 1 0) (weight tier s) (map (weight tier) more) ∙ ap₂ (λ (b : Bool) (n : ℕ). cond b 1 0 + n) e (fast_of_tier tier e more) ∙ (let z : 1 + length more ≡ suc (length more) = omega arith in z)

fast_tables_in : (airings : List AiredTables) (ts : List SubTable) → AllByRecursion (λ (t : SubTable). is_fast t.tier ≡ true) ts → fast_in (table_weights airings ts) ≡ length (table_sections airings ts)
fast_tables_in airings [] h = refl
fast_tables_in airings (t ∷ ts) h =
    let own = sections_of (version_at t.key airings) t in
    sum_by-append (λ (s : Tier3 × ℕ). cond (is_fast s.0) 1 0) (map (weight t.tier) own) (table_weights airings ts)
    ∙ ap₂ (λ (n m : ℕ). n + m) (fast_of_tier t.tier h.0 own) (fast_tables_in airings ts h.1) ∙ sym (length-append own (table_sections airings ts))

leads_fast : (ts : List SubTable) → AllByRecursion (λ (t : SubTable). is_fast t.tier ≡ true) (before_tdt ts)
leads_fast [] = tt
leads_fast (t ∷ ts) = go (leads t) refl (leads_fast ts)
  where
    go : (b : Bool) → leads t ≡ b → AllByRecursion (λ (t : SubTable). is_fast t.tier ≡ true) (before_tdt ts) → AllByRecursion (λ (t : SubTable). is_fast t.tier ≡ true) (before_tdt (t ∷ ts))
    go false e rest = subst (λ (k : ℕ). AllByRecursion (λ (t : SubTable). is_fast t.tier ≡ true) (take k (t ∷ ts))) (sym (ap (λ (b : Bool). cond b (1 + prefix_len leads ts) 0) e)) tt
    go true e rest =
        let n : prefix_len leads (t ∷ ts) ≡ suc (prefix_len leads ts) = ap (λ (b : Bool). cond b (1 + prefix_len leads ts) 0) e ∙ (let z : 1 + prefix_len leads ts ≡ suc (prefix_len leads ts) = omega arith in z) in
        subst (λ (k : ℕ). AllByRecursion (λ (t : SubTable). is_fast t.tier ≡ true) (take k (t ∷ ts))) (sym n) (first_true (is_fast t.tier) (not (is_eit t.key.table)) e, rest)

pub first_tables_lead : FirstTablesLead
first_tables_lead rate past a off x l =
    let all = past ++ a ∷ [] in
    let front = table_sections all (before_tdt a.tables) in
    let told = times a.form a.moment in
    let back = table_sections all (behind_tdt a.tables) in
    let once = sections_once past a in
    let whole : once ≡ (front ++ told) ++ back = sym (append_assoc front told back) in
    let first = first_sections past a in
    let none = all_append IsNoEvents front told (no_events_tables all (before_tdt a.tables) off) (no_events_times a a.moment) in
    let one : Tier3 × ℕ → ℕ = λ s. cond (is_fast s.0) 1 0 in
    let w_front = table_weights all (before_tdt a.tables) in
    let w_told = map (weight Fast) told in
    let w_back = table_weights all (behind_tdt a.tables) in
    let f = sum_by-append one w_front (w_told ++ w_back) in
    let g = sum_by-append one w_told w_back in
    let h = fast_tables_in all (before_tdt a.tables) (leads_fast a.tables) in
    let k = fast_of_tier Fast refl told in
    let size = length-append front told in
    let low : length first ≤ (planned (weights_once past a) a.form.quota).fasts = omega arith in
    let w = weights_each past a in
    let t = planned_all (weights_once past a) a.form.quota in
    let most : (planned (weights_once past a) a.form.quota).fasts ≤ length once = omega arith in
    first_groups once (planned (weights_once past a) a.form.quota).fasts (length first) low most
    (λ i s m e. all_got IsNoEvents first i s none (got_front first back i s m (ap (λ (l : List Sent). slice_get l i) (sym whole) ∙ e))) x l
