-- A content of an event information table that goes by segments describes itself.
use Rattle.std.proofs.Common.{◌≡◌, ℕ, zero, suc, ◌+◌, ◌<◌, List, [], ◌∷◌, ◌++◌, Bool, true, false, ◌==◌, length, map, refl, sym, ap, ap₂, ◌∙◌, subst, eq-eqb, eqb-true}
use Rattle.std.specs.Prelude.{cond, if◌then◌else◌, filter, find, Option, Some, None, option_map, is_some, IsSome}
use Rattle.std.specs.List.{AllByRecursion}
use Rattle.std.proofs.lemmas.List.Elements.{filter-append}
use Rattle.section_codec.specs.declared.table.Key.{Key}
use Rattle.section_codec.specs.declared.table.NumberedBody.{NumberedBody}
use Rattle.section_codec.specs.Tables.{is_eit}
use Rattle.section_codec.specs.Contents.{numbers, numbers_from, last_number, part_in, Content}
use Rattle.section_codec.specs.Segments.{segment_of, segment_last_in, numbers_in_segment, and_numbers, segments_need, table_needs, told_by, segment_last_at, GoBySegments}
use Rattle.section_codec.proofs.ContentFacts.{own_parts}
use Rattle.sub_collect.specs.Runs.{Counted, latest_section, has_number, latest_with, segment_last_of, last_told_by, is_in_segment, last_told, needed, needed_at}
use Rattle.sub_collect.specs.Collectors.{body_of}
use Rattle.sub_collect.specs.Laws.{section_with, sections_with, IsSectionOf, HoldAll, BySegmentsIsNumbered}
use Rattle.sub_collect.proofs.Runs.{no-latest}
use Rattle.sub_collect.proofs.Whole.{last_sent, bodies, latest-of, none_held}
use Rattle.sub_collect.proofs.OneContent.{passes}

-- ---- what segments need grows with what is known of them

joins : (f g more again : Option (List ℕ)) (ns : List ℕ) → ((xs : List ℕ) → f ≡ Some xs → g ≡ Some xs) → ((xs : List ℕ) → more ≡ Some xs → again ≡ Some xs) → and_numbers f more ≡ Some ns
    → and_numbers g again ≡ Some ns
joins None g more again ns first rest e = cc
joins (Some xs) g None again ns first rest e = cc
joins (Some xs) g (Some ys) again ns first rest e = ap₂ and_numbers (first xs refl) (rest ys refl) ∙ e

need_more : (f g : ℕ → Option ℕ) → ((n x : ℕ) → f n ≡ Some x → g n ≡ Some x) → (n k : ℕ) (ns : List ℕ) → segments_need f n k ≡ Some ns → segments_need g n k ≡ Some ns
need_more f g more n zero ns e = e
need_more f g more n (suc k) ns e =
    joins (option_map (numbers_in_segment n) (f n)) (option_map (numbers_in_segment n) (g n)) (segments_need f (1 + n) k) (segments_need g (1 + n) k) ns (λ xs h. one (f n) refl xs h) (need_more f g more (1 + n) k) e
  where
    one : (o : Option ℕ) → f n ≡ o → (xs : List ℕ) → option_map (numbers_in_segment n) o ≡ Some xs → option_map (numbers_in_segment n) (g n) ≡ Some xs
    one None h xs is = cc
    one (Some x) h xs is = ap (option_map (numbers_in_segment n)) (more n x h) ∙ is

-- ---- the latest of sections that pass a test

some_section : (s : Counted) (ss : List Counted) → IsSome (latest_section (s ∷ ss))
some_section s [] = refl
some_section s (t ∷ ss) = some_section t ss

-- where sections pass a test, some pass a weaker one
some_pass : (p q : Counted → Bool) → ((s : Counted) → p s ≡ true → q s ≡ true) → (ss : List Counted) → IsSome (latest_section (filter p ss)) → IsSome (latest_section (filter q ss))
some_pass p q weaker [] some = some
some_pass p q weaker (s ∷ ss) some = go (p s) refl (q s) refl some (some_pass p q weaker ss)
  where
    go : (a : Bool) → p s ≡ a → (b : Bool) → q s ≡ b → IsSome (latest_section (cond a (s ∷ filter p ss) (filter p ss))) → (IsSome (latest_section (filter p ss)) → IsSome (latest_section (filter q ss)))
        → IsSome (latest_section (cond b (s ∷ filter q ss) (filter q ss)))
    go a e true f h rec = some_section s (filter q ss)
    go true e false f h rec =
        let z : true ≡ false = sym (weaker s e) ∙ f in
        absurd (let w : Prim.⊥ = cc in w)
    go false e false f h rec = rec h

-- the latest of sections behind others
latest_behind : (before ss : List Counted) → IsSome (latest_section ss) → latest_section (before ++ ss) ≡ latest_section ss
latest_behind [] ss some = refl
latest_behind (x ∷ []) [] some = cc
latest_behind (x ∷ []) (s ∷ ss) some = refl
latest_behind (x ∷ y ∷ before) ss some = latest_behind (y ∷ before) ss some

-- ---- the sections of a content

module _ (content : Content) where
  -- a section tells what the content tells of its segment
  abbrev Agrees : NumberedBody → Type 0
  Agrees p = segment_last_in p.number p.body ≡ segment_last_at content (segment_of p.number)

  found_part : (n : ℕ) (body : List ℕ) (ps : Content) → AllByRecursion Agrees ps → part_in n ps ≡ Some body → segment_last_in n body ≡ segment_last_at content (segment_of n)
  found_part n body [] agree e = cc
  found_part n body (p ∷ ps) agree e = go (n == p.number) refl e (λ f. found_part n body ps agree.1 f)
    where
      go : (b : Bool) → (n == p.number) ≡ b → (if b then Some p.body else part_in n ps) ≡ Some body → (part_in n ps ≡ Some body → segment_last_in n body ≡ segment_last_at content (segment_of n))
          → segment_last_in n body ≡ segment_last_at content (segment_of n)
      go true same f rec =
          let its : p.body ≡ body = cc in
          let number : n ≡ p.number = eqb-true n p.number same in
          ap₂ segment_last_in number (sym its) ∙ agree.0 ∙ ap (λ (m : ℕ). segment_last_at content (segment_of m)) (sym number)
      go false other f rec = rec f

-- a part of a segment, where the content tells its last number
part_of : (segment x : ℕ) (P : NumberedBody → Type 0) (ps : Content) → AllByRecursion P ps → told_by (find (λ (p : NumberedBody). segment_of p.number == segment) ps) ≡ Some x
    → (p : NumberedBody) × (segment_of p.number ≡ segment) × P p
part_of segment x P [] all e = cc
part_of segment x P (p ∷ ps) all e = go (segment_of p.number == segment) refl e (λ f. part_of segment x P ps all.1 f)
  where
    go : (b : Bool) → (segment_of p.number == segment) ≡ b → told_by (cond b (Some p) (find (λ (q : NumberedBody). segment_of q.number == segment) ps)) ≡ Some x
        → (told_by (find (λ (q : NumberedBody). segment_of q.number == segment) ps) ≡ Some x → (p : NumberedBody) × (segment_of p.number ≡ segment) × P p)
        → (p : NumberedBody) × (segment_of p.number ≡ segment) × P p
    go true f h rec = (p, eqb-true (segment_of p.number) segment f, all.0)
    go false f h rec = rec h

module _ (k : Key) (content : Content) (events : is_eit k.table ≡ true) (by : GoBySegments content) where
  its_last : (s : Counted) → IsSectionOf k content s → segment_last_of s ≡ segment_last_at content (segment_of s.number)
  its_last s is =
      ap (λ (q : Key). if is_eit q.table then segment_last_in s.number s.body else None) is.key
      ∙ ap (λ (b : Bool). if b then segment_last_in s.number s.body else None) events
      ∙ found_part content s.number s.body content by.agree is.part

  -- the latest section of a segment tells what the content tells
  told_at : (ss : List Counted) (segment : ℕ) (s : Counted) → AllByRecursion (IsSectionOf k content) ss → latest_section (filter (is_in_segment segment) ss) ≡ Some s
      → segment_last_of s ≡ segment_last_at content segment
  told_at ss segment s all e =
      let is = latest-of (λ (t : Counted). IsSectionOf k content t × (is_in_segment segment t ≡ true)) (filter (is_in_segment segment) ss) s (passes (IsSectionOf k content) (is_in_segment segment) ss all) e in
      its_last s is.0 ∙ ap (segment_last_at content) (eqb-true (segment_of s.number) segment is.1)

  needed_is : (run : List Counted) (s : Counted) → latest_section run ≡ Some s → s.key ≡ k → s.last ≡ last_number content → needed run ≡ table_needs (last_told run) (last_number content)
  needed_is run s e key last =
      ap (needed_at run) e
      ∙ ap (λ (q : Key). if is_eit q.table then table_needs (last_told run) s.last else Some (numbers_from 0 (1 + s.last))) key
      ∙ ap (λ (b : Bool). if b then table_needs (last_told run) s.last else Some (numbers_from 0 (1 + s.last))) events
      ∙ ap (table_needs (last_told run)) last

  -- sections of the content, behind others, that have all its numbers
  all_told : (before ss : List Counted) → AllByRecursion (IsSectionOf k content) ss → HoldAll content ss → table_needs (last_told (before ++ ss)) (last_number content) ≡ Some (numbers content)
  all_told before ss all holds =
      need_more (segment_last_at content) (last_told (before ++ ss)) one 0 (1 + segment_of (last_number content)) (numbers content) by.needed
    where
      one : (segment x : ℕ) → segment_last_at content segment ≡ Some x → last_told (before ++ ss) segment ≡ Some x
      one segment x e =
          let part = part_of segment x (λ (p : NumberedBody). IsSome (latest_with p.number ss)) content holds e in
          let some : IsSome (latest_section (filter (is_in_segment segment) ss)) =
          some_pass (has_number part.0.number) (is_in_segment segment) (λ s h. eq-eqb (segment_of s.number) segment (ap segment_of (eqb-true s.number part.0.number h) ∙ part.1)) ss part.2 in
          let behind : latest_section (filter (is_in_segment segment) (before ++ ss)) ≡ latest_section (filter (is_in_segment segment) ss) =
          ap latest_section (filter-append (is_in_segment segment) before ss) ∙ latest_behind (filter (is_in_segment segment) before) (filter (is_in_segment segment) ss) some in
          ap last_told_by behind ∙ told (latest_section (filter (is_in_segment segment) ss)) refl some ∙ e
        where
          told : (o : Option Counted) → latest_section (filter (is_in_segment segment) ss) ≡ o → IsSome o → last_told_by o ≡ segment_last_at content segment
          told None f some = cc
          told (Some s) f some = told_at ss segment s all f

  own_sections : (v : ℕ) → AllByRecursion (IsSectionOf k content) (sections_with k v content)
  own_sections v = go content (own_parts content by.ascending)
    where
      go : (ps : Content) → AllByRecursion (λ (p : NumberedBody). part_in p.number content ≡ Some p.body) ps
          → AllByRecursion (IsSectionOf k content) (map (section_with k v (last_number content)) ps)
      go [] all = tt
      go (p ∷ ps) all = (record { key = refl; part = all.0; last = refl }, go ps all.1)

  own_held : (v : ℕ) → HoldAll content (sections_with k v content)
  own_held v = go content (bodies k v (last_number content) [] content by.ascending)
    where
      some : (o : Option Counted) (body : List ℕ) → body_of o ≡ Some body → IsSome o
      some None body e = cc
      some (Some s) body e = refl

      go : (ps : Content) → AllByRecursion (λ (p : NumberedBody). body_of (latest_with p.number (sections_with k v content)) ≡ Some p.body) ps
          → AllByRecursion (λ (p : NumberedBody). IsSome (latest_with p.number (sections_with k v content))) ps
      go [] all = tt
      go (p ∷ ps) all = (some (latest_with p.number (sections_with k v content)) p.body all.0, go ps all.1)

  no-other : (run : List Counted) (ns : List ℕ) → AllByRecursion (IsSectionOf k content) run → needed run ≡ Some ns → (o : Option Counted) → latest_section run ≡ o → ns ≡ numbers content
  no-other run ns all e None f =
      let none : None ≡ Some ns = ap (needed_at run) (sym f) ∙ e in
      absurd (let z : Prim.⊥ = cc in z)
  no-other run ns all e (Some s) f =
      let is = latest-of (IsSectionOf k content) run s all f in
      let told : segments_need (segment_last_at content) 0 (1 + segment_of (last_number content)) ≡ Some ns =
      need_more (last_told run) (segment_last_at content) one 0 (1 + segment_of (last_number content)) ns (sym (needed_is run s f is.key is.last) ∙ e) in
      let same : Some ns ≡ Some (numbers content) = sym told ∙ by.needed in
      let is_same : ns ≡ numbers content = cc in
      is_same
    where
      one : (segment x : ℕ) → last_told run segment ≡ Some x → segment_last_at content segment ≡ Some x
      one segment x h = go (latest_section (filter (is_in_segment segment) run)) refl h
        where
          go : (o : Option Counted) → latest_section (filter (is_in_segment segment) run) ≡ o → last_told_by o ≡ Some x → segment_last_at content segment ≡ Some x
          go None g i = cc
          go (Some t) g i = sym (told_at run segment t all g) ∙ i

  known : (run : List Counted) → AllByRecursion (IsSectionOf k content) run → HoldAll content run → (o : Option Counted) → latest_section run ≡ o → IsSome (needed run)
  known run all holds None f = absurd (none_held content by.some (subst (HoldAll content) (no-latest run f) holds))
  known run all holds (Some s) f =
      let is = latest-of (IsSectionOf k content) run s all f in
      ap (λ (o : Option (List ℕ)). is_some o) (needed_is run s f is.key is.last ∙ all_told [] run all holds)

  whole : (v : ℕ) (before : List Counted) (ps : Content) → content ≡ ps → needed (before ++ sections_with k v content) ≡ Some (numbers content)
  whole v before [] e = absurd (let none : 0 < 0 = subst (λ (c : Content). 0 < length c) e by.some in let z : Prim.⊥ = cc in z)
  whole v before (p ∷ ps) e =
      let r = last_sent k v (last_number content) before p ps in
      needed_is (before ++ sections_with k v content) r.0 (ap (λ (c : Content). latest_section (before ++ map (section_with k v (last_number content)) c)) e ∙ r.1) r.3 r.2
      ∙ all_told before (sections_with k v content) (own_sections v) (own_held v)

pub by_segments : BySegmentsIsNumbered
by_segments k content events by = record {
  some = by.some;
  ascending = by.ascending;
  whole = λ v before. whole k content events by v before content refl;
  no_other = λ run ns all e. no-other k content events by run ns all e (latest_section run) refl;
  known = λ run all holds. known k content events by run all holds (latest_section run) refl;
}
