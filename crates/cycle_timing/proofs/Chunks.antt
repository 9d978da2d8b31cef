-- Chunks, cut from a place on.
use Rattle.std.proofs.Common.{◌≡◌, ℕ, suc, ◌+◌, ◌-◌, ◌<◌, ◌≤◌, ◌⊎◌, inl, inr, List, [], ◌∷◌, ◌++◌, Bool, true, false, length, refl, sym, ap, ap₂, ◌∙◌, arith, append_assoc}
use Rattle.std.specs.Prelude.{if◌then◌else◌, nat_le, slice_index, flat_map}
use Rattle.std.proofs.lemmas.Bool.{le-leb, lt-leb}
use Rattle.section_codec.specs.Contents.{numbers_from}
use Rattle.air_model.specs.Cutting.{in_front, cut_from, cut, packets_in}
use Rattle.air_model.specs.Cycle.{at_least_one}
use Rattle.air_model.specs.Cursor.{upto}
use Rattle.si_lists.proofs.Parts.{lt_or}
use Rattle.air_timing.specs.declared.pace.Paced.{Paced}
use Rattle.air_timing.specs.Spreading.{spread}
use Rattle.cycle_timing.specs.SubTables.{groups}
use Rattle.cycle_timing.specs.Planning.{table_at, in_turns, body_of}
use Rattle.cycle_timing.proofs.PacedLeads.{length_numbers}
use Rattle.cycle_timing.specs.Tiers.{tiers_of}
use Rattle.cycle_timing.proofs.Grouping.{upto_push}

-- these sections in front of the first part
abbrev pub in_fronts : List ℕ → List (List ℕ) → List (List ℕ)
in_fronts [] parts = parts
in_fronts (x ∷ xs) parts = in_front x (in_fronts xs parts)

fronts_push : (xs : List ℕ) (x : ℕ) (parts : List (List ℕ)) → in_fronts (xs ++ x ∷ []) parts ≡ in_fronts xs (in_front x parts)
fronts_push [] x parts = refl
fronts_push (y ∷ xs) x parts = ap (in_front y) (fronts_push xs x parts)

fronts_part : (xs : List ℕ) (part : List ℕ) (parts : List (List ℕ)) → in_fronts xs (part ∷ parts) ≡ (xs ++ part) ∷ parts
fronts_part [] part parts = refl
fronts_part (y ∷ xs) part parts = ap (in_front y) (fronts_part xs part parts)

fronts_none : (x : ℕ) (xs : List ℕ) → in_fronts (x ∷ xs) [] ≡ (x ∷ xs) ∷ []
fronts_none x [] = refl
fronts_none x (y ∷ xs) = ap (in_front x) (fronts_none y xs)

pub upto_next : (a b : ℕ) → a < b → upto a b ≡ a ∷ upto (a + 1) b
upto_next a b l =
    ap (numbers_from a) (let e : b - a ≡ suc (b - (a + 1)) = omega arith in e)
    ∙ ap (λ (m : ℕ). a ∷ numbers_from m (b - (a + 1))) (let e : 1 + a ≡ a + 1 = omega arith in e)

pub upto_none : (a b : ℕ) → b ≤ a → upto a b ≡ []
upto_none a b l = ap (numbers_from a) (let e : b - a ≡ 0 = omega arith in e)

module _ (size : ℕ → ℕ) (least wanted from end many : ℕ) where
  -- a section that is not enough
  pub part_less : (wants : ℕ) → from ≤ end → end < many → size end < wants
      → cut_from size least wanted (upto from many) ≡ in_fronts (upto from end) (cut_from size least wants (upto end many))
      → cut_from size least wanted (upto from many) ≡ in_fronts (upto from (end + 1)) (cut_from size least (wants - size end) (upto (end + 1) many))
  part_less wants order less few so_far =
      let rest = upto (end + 1) many in
      so_far ∙ ap (λ (l : List ℕ). in_fronts (upto from end) (cut_from size least wants l)) (upto_next end many less)
      ∙ ap (λ (b : Bool). in_fronts (upto from end) (if b then (end ∷ []) ∷ cut_from size least least rest else in_front end (cut_from size least (wants - size end) rest))) (lt-leb wants (size end) few)
      ∙ sym (fronts_push (upto from end) end (cut_from size least (wants - size end) rest))
      ∙ ap (λ (l : List ℕ). in_fronts l (cut_from size least (wants - size end) rest)) (sym (upto_push from end order))

  -- and one that is
  pub part_full : (wants : ℕ) → from ≤ end → end < many → wants ≤ size end
      → cut_from size least wanted (upto from many) ≡ in_fronts (upto from end) (cut_from size least wants (upto end many))
      → cut_from size least wanted (upto from many) ≡ upto from (end + 1) ∷ cut size least (upto (end + 1) many)
  part_full wants order less enough so_far =
      let rest = upto (end + 1) many in
      so_far ∙ ap (λ (l : List ℕ). in_fronts (upto from end) (cut_from size least wants l)) (upto_next end many less)
      ∙ ap (λ (b : Bool). in_fronts (upto from end) (if b then (end ∷ []) ∷ cut_from size least least rest else in_front end (cut_from size least (wants - size end) rest))) (le-leb wants (size end) enough)
      ∙ fronts_part (upto from end) (end ∷ []) (cut size least rest)
      ∙ ap (λ (l : List ℕ). l ∷ cut size least rest) (sym (upto_push from end order))

  -- the last part
  pub part_last : (wants : ℕ) → from < many → end ≡ many
      → cut_from size least wanted (upto from many) ≡ in_fronts (upto from end) (cut_from size least wants (upto end many))
      → cut_from size least wanted (upto from many) ≡ upto from end ∷ cut size least (upto end many)
  part_last wants less done so_far =
      let none = upto_none end many (omega arith) in
      so_far ∙ ap₂ (λ (a b : List ℕ). in_fronts a (cut_from size least wants b)) (upto_next from end (omega arith)) none
      ∙ fronts_none from (upto (from + 1) end)
      ∙ ap₂ (λ (a b : List ℕ). a ∷ cut size least b) (sym (upto_next from end (omega arith))) (sym none)

-- ---- the chunks from a place on

abbrev pub chunks_from : List ℕ → ℕ → ℕ → List (List ℕ)
chunks_from sizes wanted from = at_least_one (cut (slice_index sizes) wanted (upto from (length sizes)))

some_front : (x : ℕ) (parts : List (List ℕ)) → at_least_one (in_front x parts) ≡ in_front x parts
some_front x [] = refl
some_front x (part ∷ parts) = refl

some_cut : (size : ℕ → ℕ) (least x : ℕ) (xs : List ℕ) → at_least_one (cut size least (x ∷ xs)) ≡ cut size least (x ∷ xs)
some_cut size least x xs = go (nat_le least (size x))
  where
    go : (b : Bool) → at_least_one (if b then (x ∷ []) ∷ cut_from size least least xs else in_front x (cut_from size least (least - size x) xs)) ≡ (if b then (x ∷ []) ∷ cut_from size least least xs else in_front x (cut_from size least (least - size x) xs))
    go true = refl
    go false = some_front x (cut_from size least (least - size x) xs)

module _ (sizes : List ℕ) (wanted from end : ℕ) where
  abbrev Cuts : Type 0
  Cuts = from < length sizes → cut (slice_index sizes) wanted (upto from (length sizes)) ≡ upto from end ∷ cut (slice_index sizes) wanted (upto end (length sizes))

  pub chunks_more : from ≤ end → end < length sizes → Cuts → chunks_from sizes wanted from ≡ upto from end ∷ chunks_from sizes wanted end
  chunks_more order less cuts =
      ap at_least_one (cuts (omega arith))
      ∙ ap (λ (parts : List (List ℕ)). upto from end ∷ parts)
      (ap (cut (slice_index sizes) wanted) (upto_next end (length sizes) less)
      ∙ sym (some_cut (slice_index sizes) wanted end (upto (end + 1) (length sizes)))
      ∙ sym (ap (λ (xs : List ℕ). at_least_one (cut (slice_index sizes) wanted xs)) (upto_next end (length sizes) less)))

  pub chunks_last : from ≤ length sizes → end ≡ length sizes → Cuts → chunks_from sizes wanted from ≡ upto from end ∷ []
  chunks_last bound done cuts = go (lt_or from (length sizes))
    where
      go : (from < length sizes) ⊎ (length sizes ≤ from) → chunks_from sizes wanted from ≡ upto from end ∷ []
      go (inl less) =
          ap at_least_one (cuts less ∙ ap (λ (xs : List ℕ). upto from end ∷ cut (slice_index sizes) wanted xs) (upto_none end (length sizes) (omega arith)))
      go (inr over) =
          ap (λ (xs : List ℕ). at_least_one (cut (slice_index sizes) wanted xs)) (upto_none from (length sizes) over)
          ∙ ap (λ (xs : List ℕ). xs ∷ []) (sym (upto_none from end (omega arith)))

-- ---- the body

abbrev pub for_chunk : List Paced → List ℕ → List ℕ → List ℕ
for_chunk ss near chunk = in_turns ss near ++ in_turns ss chunk

pub body_begins : (ss : List Paced) (sizes : List ℕ) (fasts nears wanted : ℕ) → wanted ≡ packets_in (slice_index sizes) (numbers_from fasts (fasts + nears - fasts))
    → flat_map (for_chunk ss (upto fasts (fasts + nears))) (chunks_from sizes wanted (fasts + nears)) ≡ body_of ss (tiers_of fasts nears sizes)
body_begins ss sizes fasts nears wanted wanted_is =
    let near : upto fasts (fasts + nears) ≡ numbers_from fasts nears = ap (numbers_from fasts) (let e : fasts + nears - fasts ≡ nears = omega arith in e) in
    ap₂ (λ (xs : List ℕ) (n : ℕ). flat_map (for_chunk ss xs) (chunks_from sizes n (fasts + nears))) near (wanted_is ∙ ap (packets_in (slice_index sizes)) near)

pub body_next : (ss : List Paced) (near chunk body new all made : List ℕ) (chunks rest : List (List ℕ)) → chunks ≡ chunk ∷ rest
    → body ++ flat_map (for_chunk ss near) chunks ≡ all → made ≡ in_turns ss near → new ≡ (body ++ made) ++ in_turns ss chunk
    → new ++ flat_map (for_chunk ss near) rest ≡ all
body_next ss near chunk body new all made chunks rest chunks_are so_far made_is new_is =
    let more = flat_map (for_chunk ss near) rest in
    ap (λ (l : List ℕ). l ++ more) (new_is ∙ ap (λ (l : List ℕ). (body ++ l) ++ in_turns ss chunk) made_is
    ∙ append_assoc body (in_turns ss near) (in_turns ss chunk))
    ∙ append_assoc body (for_chunk ss near chunk) more
    ∙ sym (ap (λ (parts : List (List ℕ)). body ++ flat_map (for_chunk ss near) parts) chunks_are) ∙ so_far

pub turns_put : (ss : List Paced) (from to : ℕ) (start new : List ℕ) (made : List (List ℕ)) → made ≡ groups (table_at ss) (upto from to)
    → new ≡ start ++ spread (to - from) made → new ≡ start ++ in_turns ss (upto from to)
turns_put ss from to start new made made_are new_is =
    new_is ∙ ap₂ (λ (n : ℕ) (gs : List (List ℕ)). start ++ spread n gs) (sym (length_numbers from (to - from))) made_are
