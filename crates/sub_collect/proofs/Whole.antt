-- The sections of a content, in order, complete it.
use Rattle.std.proofs.Common.{◌≡◌, ℕ, ◌+◌, ◌<◌, List, [], ◌∷◌, ◌++◌, Bool, true, false, ◌==◌, length, map, refl, sym, ap, ◌∙◌, subst, arith, append_assoc, append-nil, eq-eqb, eqb-true}
use Rattle.std.specs.Prelude.{cond, if◌then◌else◌, filter, Option, Some, None, is_some, IsSome}
use Rattle.std.specs.List.{AllByRecursion}
use Rattle.std.proofs.lemmas.List.Elements.{filter-append}
use Rattle.section_codec.specs.declared.table.Key.{Key}
use Rattle.section_codec.specs.declared.table.NumberedBody.{NumberedBody}
use Rattle.section_codec.specs.Tables.{is_eit}
use Rattle.section_codec.specs.Contents.{numbers, numbers_from, last_number, Ascend, Content}
use Rattle.section_codec.specs.Segments.{table_needs}
use Rattle.section_codec.proofs.ContentFacts.{above_first, Ascend-rest, Ascend-from, last_number-from}
use Rattle.section_codec.proofs.KeyOrderFacts.{is_key-itself}
use Rattle.section_codec.proofs.SameContent.{same_part}
use Rattle.sub_collect.specs.Runs.{Counted, latest_section, has_number, latest_with, run_of, last_told, needed, needed_at, with_part, gathered, gathered_at, whole, completed}
use Rattle.sub_collect.specs.Completions.{is_of, of_key}
use Rattle.sub_collect.specs.Collectors.{body_of}
use Rattle.sub_collect.specs.Laws.{section_with, sections_with, IsSectionOf, HoldAll, WholeCompletes, FromZeroIsNumbered}
use Rattle.sub_collect.proofs.Runs.{run_of-new, latest-push, no-latest, version-joins}

-- ---- the run that sections of one version end

pub run_behind : (heard rest : List Counted) (s : Counted) → latest_section heard ≡ Some s → AllByRecursion (λ (t : Counted). t.version ≡ s.version) rest → run_of (heard ++ rest) ≡ run_of heard ++ rest
run_behind heard [] s e all = ap run_of (append-nil heard) ∙ sym (append-nil (run_of heard))
run_behind heard (t ∷ rest) s e all =
    ap run_of (sym (append_assoc heard (t ∷ []) rest))
    ∙ run_behind (heard ++ t ∷ []) rest t (latest-push heard t) (turn rest all.1)
    ∙ ap (λ (l : List Counted). l ++ rest) (version-joins heard s t e (sym all.0))
    ∙ append_assoc (run_of heard) (t ∷ []) rest
  where
    turn : (xs : List Counted) → AllByRecursion (λ (x : Counted). x.version ≡ s.version) xs → AllByRecursion (λ (x : Counted). x.version ≡ t.version) xs
    turn [] h = tt
    turn (x ∷ xs) h = (h.0 ∙ sym all.0, turn xs h.1)

-- some sections of the run, and then these
run_end : (heard rest : List Counted) (s : Counted) → AllByRecursion (λ (t : Counted). t.version ≡ s.version) rest → (before : List Counted) × (run_of (heard ++ s ∷ rest) ≡ before ++ s ∷ rest)
run_end heard rest s all = go (latest_section heard) refl
  where
    one : (run_of (heard ++ s ∷ rest) ≡ run_of (heard ++ s ∷ []) ++ rest)
    one = ap run_of (sym (append_assoc heard (s ∷ []) rest)) ∙ run_behind (heard ++ s ∷ []) rest s (latest-push heard s) all

    by : (before : List Counted) → run_of (heard ++ s ∷ []) ≡ before ++ s ∷ [] → (b : List Counted) × (run_of (heard ++ s ∷ rest) ≡ b ++ s ∷ rest)
    by before e = (before, one ∙ ap (λ (l : List Counted). l ++ rest) e ∙ append_assoc before (s ∷ []) rest)

    same : (t : Counted) → latest_section heard ≡ Some t → (b : Bool) → (t.version == s.version) ≡ b → (b : List Counted) × (run_of (heard ++ s ∷ rest) ≡ b ++ s ∷ rest)
    same t e true f = by (run_of heard) (version-joins heard t s e (eqb-true t.version s.version f))
    same t e false f = by [] (run_of-new heard t s e (λ (g : t.version ≡ s.version). (let h : true ≡ false = sym (eq-eqb t.version s.version g) ∙ f in let z : Prim.⊥ = cc in z)))

    go : (o : Option Counted) → latest_section heard ≡ o → (before : List Counted) × (run_of (heard ++ s ∷ rest) ≡ before ++ s ∷ rest)
    go None e = by [] (none heard e)
      where
        none : (xs : List Counted) → latest_section xs ≡ None → run_of (xs ++ s ∷ []) ≡ s ∷ []
        none [] f = refl
        none (x ∷ []) f = cc
        none (x ∷ y ∷ xs) f = absurd (some y xs f)
          where
            some : (y : Counted) (xs : List Counted) → latest_section (y ∷ xs) ≡ None → Prim.⊥
            some y [] g = cc
            some y (z ∷ xs) g = some z xs g
    go (Some t) e = same t e (t.version == s.version) refl

-- ---- the bodies that sections with ascending numbers leave

module _ (k : Key) (v last : ℕ) where
  abbrev sent : List NumberedBody → List Counted
  sent ps = map (section_with k v last) ps

  below_first : (n : ℕ) (ps : List NumberedBody) → AllByRecursion (λ (p : NumberedBody). n < p.number) ps → filter (has_number n) (sent ps) ≡ []
  below_first n [] up = refl
  below_first n (p ∷ ps) up =
      ap (λ (b : Bool). cond b (section_with k v last p ∷ filter (has_number n) (sent ps)) (filter (has_number n) (sent ps))) (apart (p.number == n) refl up.0)
      ∙ below_first n ps up.1
    where
      apart : (b : Bool) → (p.number == n) ≡ b → n < p.number → (p.number == n) ≡ false
      apart true e lt = let same : p.number ≡ n = eqb-true p.number n e in absurd (omega (arith, same, lt))
      apart false e lt = e

  pub bodies : (before : List Counted) (ps : List NumberedBody) → Ascend ps → AllByRecursion (λ (p : NumberedBody). body_of (latest_with p.number (before ++ sent ps)) ≡ Some p.body) ps
  bodies before [] up = tt
  bodies before (p ∷ ps) up =
      let s = section_with k v last p in
      let e : (before ++ s ∷ []) ++ sent ps ≡ before ++ s ∷ sent ps = append_assoc before (s ∷ []) (sent ps) in
      let found : latest_with p.number (before ++ s ∷ sent ps) ≡ Some s =
      ap (latest_with p.number) (sym e)
      ∙ ap latest_section (filter-append (has_number p.number) (before ++ s ∷ []) (sent ps))
      ∙ ap (λ (l : List Counted). latest_section (filter (has_number p.number) (before ++ s ∷ []) ++ l)) (below_first p.number ps (above_first p ps up))
      ∙ ap latest_section (append-nil (filter (has_number p.number) (before ++ s ∷ [])))
      ∙ ap latest_section (filter-append (has_number p.number) before (s ∷ []))
      ∙ ap (λ (b : Bool). latest_section (filter (has_number p.number) before ++ cond b (s ∷ []) [])) (eq-eqb p.number p.number refl)
      ∙ latest-push (filter (has_number p.number) before) s in
      (ap body_of found, subst (λ (l : List Counted). AllByRecursion (λ (q : NumberedBody). body_of (latest_with q.number l) ≡ Some q.body) ps) e (bodies (before ++ s ∷ []) ps (Ascend-rest p ps up)))

  pub last_sent : (before : List Counted) (p : NumberedBody) (ps : List NumberedBody) → (s : Counted) × (latest_section (before ++ sent (p ∷ ps)) ≡ Some s) × (s.last ≡ last) × (s.key ≡ k)
  last_sent before p [] = (section_with k v last p, latest-push before (section_with k v last p), refl, refl)
  last_sent before p (q ∷ ps) =
      let r = last_sent (before ++ section_with k v last p ∷ []) q ps in
      (r.0, ap latest_section (sym (append_assoc before (section_with k v last p ∷ []) (sent (q ∷ ps)))) ∙ r.1, r.2, r.3)

  all_one : (ps : List NumberedBody) → AllByRecursion (λ (t : Counted). t.version ≡ v) (sent ps)
  all_one [] = tt
  all_one (p ∷ ps) = (refl, all_one ps)

  own_key : (ps : List NumberedBody) → of_key k (sent ps) ≡ sent ps
  own_key [] = refl
  own_key (p ∷ ps) =
      ap (λ (b : Bool). cond b (section_with k v last p ∷ of_key k (sent ps)) (of_key k (sent ps))) (is_key-itself k)
      ∙ ap (λ (l : List Counted). section_with k v last p ∷ l) (own_key ps)

-- the content is gathered where the latest section of each number has its body
pub gathers : (run : List Counted) (ps : Content) → AllByRecursion (λ (p : NumberedBody). body_of (latest_with p.number run) ≡ Some p.body) ps → gathered run (numbers ps) ≡ Some ps
gathers run [] all = refl
gathers run (p ∷ ps) all = go (latest_with p.number run) refl (gathers run ps all.1)
  where
    go : (o : Option Counted) → latest_with p.number run ≡ o → gathered run (numbers ps) ≡ Some ps → gathered run (numbers (p ∷ ps)) ≡ Some (p ∷ ps)
    go None e rest =
        let none : None ≡ Some p.body = ap body_of (sym e) ∙ all.0 in
        absurd (let z : Prim.⊥ = cc in z)
    go (Some s) e rest =
        let body : Some s.body ≡ Some p.body = ap body_of (sym e) ∙ all.0 in
        let same : s.body ≡ p.body = cc in
        let part : NumberedBody = record { number = p.number; body = s.body } in
        ap (λ (o : Option Counted). with_part p.number o (gathered run (numbers ps))) e
        ∙ ap (with_part p.number (Some s)) rest
        ∙ ap (λ (q : NumberedBody). Some (q ∷ ps)) (same_part part p refl same)

pub whole-completes : WholeCompletes
whole-completes past k v [] numbered = absurd (let none : 0 < 0 = numbered.some in omega arith)
whole-completes past k v (p ∷ ps) numbered =
    let last = last_number (p ∷ ps) in
    let ss = sections_with k v (p ∷ ps) in
    let heard = of_key k past in
    let e : of_key k (past ++ ss) ≡ heard ++ ss = filter-append (is_of k) past ss ∙ ap (λ (l : List Counted). heard ++ l) (own_key k v last (p ∷ ps)) in
    let r = run_end heard (sent k v last ps) (section_with k v last p) (all_one k v last ps) in
    ap completed e
    ∙ ap whole r.1
    ∙ ap (gathered_at (r.0 ++ ss)) (numbered.whole v r.0)
    ∙ gathers (r.0 ++ ss) (p ∷ ps) (bodies k v last r.0 (p ∷ ps) numbered.ascending)

-- ---- numbers from 0 on

pub latest-of : (P : Counted → Type 0) (ss : List Counted) (s : Counted) → AllByRecursion P ss → latest_section ss ≡ Some s → P s
latest-of P [] s all e = cc
latest-of P (x ∷ []) s all e = subst P (let f : x ≡ s = cc in f) all.0
latest-of P (x ∷ y ∷ ss) s all e = latest-of P (y ∷ ss) s all.1 e

-- sections that hold all numbers of some content are some
pub none_held : (content : Content) → 0 < length content → HoldAll content [] → Prim.⊥
none_held [] some holds = let none : 0 < 0 = some in omega arith
none_held (p ∷ ps) some holds =
    let none : false ≡ true = holds.0 in
    let z : Prim.⊥ = cc in
    z

-- what a run of a table without segments needs, by its latest section
plain_needs : (run : List Counted) (s : Counted) (k : Key) → latest_section run ≡ Some s → s.key ≡ k → is_eit k.table ≡ false → needed run ≡ Some (numbers_from 0 (1 + s.last))
plain_needs run s k e key plain =
    ap (needed_at run) e
    ∙ ap (λ (q : Key). if is_eit q.table then table_needs (last_told run) s.last else Some (numbers_from 0 (1 + s.last))) key
    ∙ ap (λ (b : Bool). if b then table_needs (last_told run) s.last else Some (numbers_from 0 (1 + s.last))) plain

pub from_zero : FromZeroIsNumbered
from_zero k [] plain some are = absurd (let none : 0 < 0 = some in omega arith)
from_zero k (p ∷ ps) plain some are = record {
  some = some;
  ascending = Ascend-from 0 (p ∷ ps) are;
  whole = λ v before.
      let r = last_sent k v (last_number (p ∷ ps)) before p ps in
      plain_needs (before ++ sections_with k v (p ∷ ps)) r.0 k r.1 r.3 plain ∙ ap (λ (n : ℕ). Some (numbers_from 0 (1 + n))) r.2 ∙ ap (λ (ns : List ℕ). Some ns) is;
  no_other = λ run ns all e. other run ns all e (latest_section run) refl;
  known = λ run all holds. known run all holds (latest_section run) refl;
}
  where
    is : numbers_from 0 (1 + last_number (p ∷ ps)) ≡ numbers (p ∷ ps)
    is = ap (λ (n : ℕ). numbers_from 0 n) (let l = last_number-from 0 (p ∷ ps) are some in let f : 1 + last_number (p ∷ ps) ≡ length (p ∷ ps) = omega (arith, l) in f) ∙ sym are

    other : (run : List Counted) (ns : List ℕ) → AllByRecursion (IsSectionOf k (p ∷ ps)) run → needed run ≡ Some ns → (o : Option Counted) → latest_section run ≡ o → ns ≡ numbers (p ∷ ps)
    other run ns all e None f =
        let none : None ≡ Some ns = ap (needed_at run) (sym f) ∙ e in
        absurd (let z : Prim.⊥ = cc in z)
    other run ns all e (Some s) f =
        let one = latest-of (IsSectionOf k (p ∷ ps)) run s all f in
        let told : Some (numbers_from 0 (1 + s.last)) ≡ Some ns = sym (plain_needs run s k f one.key plain) ∙ e in
        let same : numbers_from 0 (1 + s.last) ≡ ns = cc in
        sym same ∙ ap (λ (n : ℕ). numbers_from 0 (1 + n)) one.last ∙ is

    known : (run : List Counted) → AllByRecursion (IsSectionOf k (p ∷ ps)) run → HoldAll (p ∷ ps) run → (o : Option Counted) → latest_section run ≡ o → IsSome (needed run)
    known run all holds None f = absurd (none_held (p ∷ ps) some (subst (HoldAll (p ∷ ps)) (no-latest run f) holds))
    known run all holds (Some s) f = ap (λ (o : Option (List ℕ)). is_some o) (plain_needs run s k f (latest-of (IsSectionOf k (p ∷ ps)) run s all f).key plain)
