-- The parts of a plan: sections, groups and body of sections that are listed.
use Rattle.std.proofs.Common.{◌≡◌, ℕ, zero, suc, ◌+◌, ◌-◌, ◌<◌, ◌≤◌, List, [], ◌∷◌, ◌++◌, Option, Some, None, length, map, take, drop, get_or, refl, sym, ap, ap₂, ◌∙◌, subst, arith, cond}
use Rattle.std.specs.Prelude.{slice_set, slice_index, slice_index_or, replicate, count_by, not}
use Rattle.std.specs.List.{All, AllByRecursion, prefix_len}
use Rattle.std.proofs.Math.Path.{fun_ext}
use Rattle.std.proofs.lemmas.List.{length-map, get_or-map, length_push}
use Rattle.std.proofs.lemmas.List.Sums.{sum_by-cons}
use Rattle.std.proofs.lemmas.List.Elements.{All-from_recursion}
use Rattle.si_lists.proofs.Lists.{all_push}
use Rattle.ts_packets.specs.Packets.{packets_of}
use Rattle.section_codec.specs.Contents.{numbers_from}
use Rattle.section_codec.specs.declared.table.Tier3.{Tier3}
use Rattle.section_codec.specs.declared.table.Tier3.TheVariants.{Fast}
use Rattle.section_codec.proofs.KeyOrderFacts.{is_key-itself}
use Rattle.air_model.specs.Cursor.{upto}
use Rattle.air_model.specs.Cycle.{Planned as Tiers}
use Rattle.air_model.specs.Sections.{is_fast, is_near}
use Rattle.air_model.proofs.Cursors.{tiers_fit}
use Rattle.air_timing.specs.declared.pace.Paced.{Paced}
use Rattle.air_timing.specs.Pacing.{place_at}
use Rattle.air_timing.specs.PaceView.{Seen, place_of}
use Rattle.air_model.specs.Packing.{Packing, begun_at}
use Rattle.air_timing.specs.Plan.{section_at}
use Rattle.cycle_timing.specs.SubTables.{groups}
use Rattle.cycle_timing.specs.Planning.{table_at, body_of, fast_groups}
use Rattle.cycle_timing.proofs.Plans.{total, all_fast, all_body}
use Rattle.cycle_timing.specs.declared.listed.Listed.{Listed}
use Rattle.cycle_timing.specs.Listing.{number_among, paced_as, paced_under, IsSized}
use Rattle.cycle_timing.specs.Tiers.{tiers_of}
use Rattle.cycle_timing.specs.Turns.{grouped}
use Rattle.cycle_timing.specs.Plans.{tiers_under, plan_under, plan_with, AreNumbered, IsWithin}
use Rattle.cycle_timing.proofs.Found.{place_within}
use Rattle.cycle_timing.proofs.Naming.{is_named, cut_at}
use Rattle.cycle_timing.proofs.Grouping.{place_in, numbers_of, groups_push, numbers_more}
use Rattle.cycle_timing.proofs.Chunks.{upto_next}

-- ---- sections

no_section : Listed
no_section = record { tier = Fast; name = record { pid = 0; table = 0; ext = 0; stream = 0; network = 0 }; len = 0 }

section_is : (ls : List Listed) (x : ℕ) → x < length ls → section_at (paced_under ls) x ≡ paced_as ls (get_or ls x no_section)
section_is ls x l = get_or-map (paced_as ls) ls x no_section (record { pid = 0; tier = Fast; len = 0; table = 0 }) l

number_within : (ls : List Listed) (x : ℕ) → x < length ls → number_among ls (get_or ls x no_section) < length ls
number_within ls x l =
    let s = get_or ls x no_section in
    let cut = cut_at ls x no_section l in
    subst (λ (all : List Listed). prefix_len (λ (other : Listed). not (is_named s.name other)) all < length all) (sym cut)
    (place_within is_named (take x ls) s (drop (x + 1) ls) s.name (is_key-itself s.name))

pub numbered : (ls : List Listed) → All IsSized ls → AreNumbered (paced_under ls)
numbered ls sized = record {
  tables = λ x l.
      let size = length-map ls (paced_as ls) in
      let less : x < length ls = omega arith in
      let at = number_within ls x less in
      let same : (section_at (paced_under ls) x).table ≡ number_among ls (get_or ls x no_section) = ap (λ (s : Paced). s.table) (section_is ls x less) in
      omega arith;
  lens = λ x l.
      let size = length-map ls (paced_as ls) in
      let less : x < length ls = omega arith in
      let at = (sized x no_section less).most in
      let same : (section_at (paced_under ls) x).len ≡ (get_or ls x no_section).len = ap (λ (s : Paced). s.len) (section_is ls x less) in
      omega arith;
}

-- ---- groups

abbrev pub AllSome : List (List ℕ) → Type 0
AllSome gs = AllByRecursion (λ (g : List ℕ). 0 < length g) gs

all_set : (gs : List (List ℕ)) (i : ℕ) (g : List ℕ) → AllSome gs → 0 < length g → AllSome (slice_set gs i g)
all_set [] i g all some = tt
all_set (h ∷ gs) zero g all some = (some, all.1)
all_set (h ∷ gs) (suc i) g all some = (all.0, all_set gs i g all.1 some)

all_grouped : (o : Option ℕ) (gs : List (List ℕ)) (x : ℕ) → AllSome gs → AllSome (grouped o gs x)
all_grouped None gs x all = all_push (λ (g : List ℕ). 0 < length g) gs (x ∷ []) all (omega arith)
all_grouped (Some i) gs x all = all_set gs i (slice_index_or gs i [] ++ x ∷ []) all (let e = length_push (slice_index_or gs i []) x in omega arith)

groups_each : (table : ℕ → ℕ) (a k : ℕ) → AllSome (groups table (numbers_from a k))
groups_each table a zero = tt
groups_each table a (suc k) =
    let xs = numbers_from a k in
    subst AllSome (sym (ap (groups table) (numbers_more a k) ∙ groups_push table xs (a + k)))
    (all_grouped (place_in (numbers_of table xs) (table (a + k))) (groups table xs) (a + k) (groups_each table a k))

pub each_some : (table : ℕ → ℕ) (n : ℕ) → All (λ (g : List ℕ). 0 < length g) (groups table (upto 0 n))
each_some table n = All-from_recursion (λ (g : List ℕ). 0 < length g) (groups table (upto 0 n)) (groups_each table 0 (n - 0))

pub some_groups : (table : ℕ → ℕ) (n : ℕ) → 0 < n → 0 < length (groups table (upto 0 n))
some_groups table n l = subst (λ (xs : List ℕ). 0 < length (groups table xs)) (sym (upto_next 0 n l)) (omega arith)

from_none : (n : ℕ) → upto 0 n ≡ numbers_from 0 n
from_none n = ap (numbers_from 0) (let e : n - 0 ≡ n = omega arith in e)

-- ---- tiers

count_mapped : {X Y : Type 0} (p : Y → _) (f : X → Y) (xs : List X) → count_by p (map f xs) ≡ count_by (λ (x : X). p (f x)) xs
count_mapped p f [] = refl
count_mapped {X} {Y} p f (x ∷ xs) =
    sum_by-cons (λ (y : Y). cond (p y) 1 0) (f x) (map f xs)
    ∙ ap (λ (n : ℕ). cond (p (f x)) 1 0 + n) (count_mapped p f xs)
    ∙ sym (sum_by-cons (λ (y : X). cond (p (f y)) 1 0) x xs)

abbrev weigh : Listed → Tier3 × ℕ
weigh l = (l.tier, packets_of l.len)

sizes_mapped : (ls : List Listed) → map (λ (l : Listed). packets_of l.len) ls ≡ map (λ (s : Tier3 × ℕ). s.1) (map weigh ls)
sizes_mapped [] = refl
sizes_mapped (l ∷ ls) = ap (λ (ns : List ℕ). packets_of l.len ∷ ns) (sizes_mapped ls)

pub record AreTiers (ls : List Listed) (fasts nears : ℕ) (sizes : List ℕ) : Type 0 where
  pub fasts_are : fasts ≡ count_by (λ (l : Listed). is_fast l.tier) ls
  pub nears_are : nears ≡ count_by (λ (l : Listed). is_near l.tier) ls
  pub sizes_are : sizes ≡ map (λ (l : Listed). packets_of l.len) ls

module _ (ls : List Listed) (fasts nears : ℕ) (sizes : List ℕ) (are : AreTiers ls fasts nears sizes) where
  weights : List (Tier3 × ℕ)
  weights = map weigh ls

  fasts_weighed : fasts ≡ count_by (λ (s : Tier3 × ℕ). is_fast s.0) (map weigh ls)
  fasts_weighed = are.fasts_are ∙ sym (count_mapped (λ (s : Tier3 × ℕ). is_fast s.0) weigh ls)

  nears_weighed : nears ≡ count_by (λ (s : Tier3 × ℕ). is_near s.0) (map weigh ls)
  nears_weighed = are.nears_are ∙ sym (count_mapped (λ (s : Tier3 × ℕ). is_near s.0) weigh ls)

  sizes_weighed : sizes ≡ map (λ (s : Tier3 × ℕ). s.1) (map weigh ls)
  sizes_weighed = are.sizes_are ∙ sizes_mapped ls

  pub sizes_length : length sizes ≡ length ls
  sizes_length = ap length are.sizes_are ∙ length-map ls (λ (l : Listed). packets_of l.len)

  pub tiers_within : fasts + nears ≤ length sizes
  tiers_within = tiers_fit (map weigh ls) fasts nears sizes fasts_weighed nears_weighed sizes_weighed

  pub tiers_are : tiers_of fasts nears sizes ≡ tiers_under ls
  tiers_are =
      let f = count_by (λ (s : Tier3 × ℕ). is_fast s.0) (map weigh ls) in
      let n = count_by (λ (s : Tier3 × ℕ). is_near s.0) (map weigh ls) in
      let made : ℕ → List ℕ → Tiers = λ k l. record { fasts = f; nears = n; fars = k - (f + n); size = slice_index l; quota = 0 } in
      ap₂ (λ (a b : ℕ). tiers_of a b sizes) fasts_weighed nears_weighed
      ∙ ap₂ made (sizes_length ∙ sym (length-map ls weigh)) sizes_weighed

  -- the plan of these parts
  pub plan_is : (rate : ℕ) (ss : List Paced) (gs : List (List ℕ)) (body : List ℕ) → ss ≡ paced_under ls → gs ≡ groups (table_at ss) (upto 0 fasts)
      → body ≡ body_of ss (tiers_of fasts nears sizes) → plan_with rate ss gs body ≡ plan_under rate ls
  plan_is rate ss gs body ss_are gs_are body_is =
      ap₂ (plan_with rate ss) (gs_are ∙ ap (groups (table_at ss)) (from_none fasts)) body_is
      ∙ ap₂ (λ (s : List Paced) (t : Tiers). plan_with rate s (fast_groups s t) (body_of s t)) ss_are tiers_are

  pub groups_are : (ss : List Paced) (gs : List (List ℕ)) → ss ≡ paced_under ls → gs ≡ groups (table_at ss) (upto 0 fasts) → gs ≡ fast_groups (paced_under ls) (tiers_under ls)
  groups_are ss gs ss_are gs_are = gs_are ∙ ap (groups (table_at ss)) (from_none fasts) ∙ ap₂ fast_groups ss_are tiers_are

  within_each : (ss : List Paced) → ss ≡ paced_under ls → (i : ℕ) → i < total (tiers_of fasts nears sizes) → IsWithin ss i
  within_each ss ss_are i l =
      let long = ap length ss_are ∙ length-map ls (paced_as ls) in
      let size = sizes_length in
      let fit = tiers_within in
      omega arith

  pub groups_within : (ss : List Paced) (gs : List (List ℕ)) → ss ≡ paced_under ls → gs ≡ groups (table_at ss) (upto 0 fasts) → AllByRecursion (AllByRecursion (IsWithin ss)) gs
  groups_within ss gs ss_are gs_are =
      subst (AllByRecursion (AllByRecursion (IsWithin ss))) (sym (gs_are ∙ ap (groups (table_at ss)) (from_none fasts)))
      (all_fast (IsWithin ss) ss (tiers_of fasts nears sizes) (within_each ss ss_are))

  pub body_within : (ss : List Paced) (body : List ℕ) → ss ≡ paced_under ls → body ≡ body_of ss (tiers_of fasts nears sizes) → AllByRecursion (IsWithin ss) body
  body_within ss body ss_are body_is =
      subst (AllByRecursion (IsWithin ss)) (sym body_is) (all_body (IsWithin ss) ss (tiers_of fasts nears sizes) (λ i a l. within_each ss ss_are i l))

-- ---- the place of a pace that is opened

free_none : (n table : ℕ) → ◌≡◌ {A = ℕ} (slice_index_or (replicate n 0) table 0) 0
free_none zero table = refl
free_none (suc n) zero = refl
free_none (suc n) (suc table) = free_none n table

pub opened : (s : Seen) (n tables : ℕ) → s.packing ≡ begun_at n → s.free ≡ replicate tables 0 → place_of s ≡ place_at n
opened s n tables packing free =
    ap₂ (λ (p : Packing) (f : List ℕ). record { packing = p; free = λ (table : ℕ). slice_index_or f table 0 }) packing free
    ∙ ap (λ (f : ℕ → ℕ). record { packing = begun_at n; free = f }) (fun_ext (free_none tables))
