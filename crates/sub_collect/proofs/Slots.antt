-- What a run holds and needs, one section more.
use Rattle.std.proofs.Common.{◌≡◌, ◌≢◌, ℕ, zero, suc, ◌+◌, ◌<◌, ◌≤◌, length, get_or, ap₂, List, [], ◌∷◌, ◌++◌, Bool, true, false, ◌==◌, refl, sym, ap, ◌∙◌, arith, eq-eqb, eqb-true}
use Rattle.std.specs.Prelude.{if◌then◌else◌, cond, filter, Option, Some, None, option_map}
use Rattle.std.specs.Ordering.{nat_cmp}
use Rattle.std.specs.Cmp.{unsigned_ties}
use Rattle.std.specs.BTreeMap.{is_at}
use Rattle.std.specs.Map.{lookup}
use Rattle.std.proofs.lemmas.List.Elements.{filter-append}
use Rattle.section_codec.specs.Tables.{is_eit}
use Rattle.section_codec.specs.Contents.{numbers_from, Content}
use Rattle.section_codec.specs.Segments.{segment_of, numbers_in_segment, and_numbers, segments_need}
use Rattle.sub_collect.specs.Runs.{Counted, latest_section, has_number, latest_with, segment_last_of, last_told_by, is_in_segment, last_told, needed_at, with_part, gathered, gathered_at, whole}
use Rattle.sub_collect.specs.Collectors.{body_in, body_of}
use Rattle.sub_collect.specs.Slots.{held_with, told_with, needed_by, with_body, content_by, whole_by}
use Rattle.sub_collect.proofs.Runs.{latest-push}

-- ---- the body of a number, as the map has it

pub body_in-get : (n : ℕ) (es : List (ℕ × List ℕ)) → lookup (is_at (nat_cmp n)) es ≡ body_in n es
body_in-get n [] = refl
body_in-get n (e ∷ es) =
    ap (λ (b : Bool). cond b (Some e.1) (lookup (is_at (nat_cmp n)) es)) (sym (unsigned_ties n e.0))
    ∙ ap (λ (o : Option (List ℕ)). if n == e.0 then Some e.1 else o) (body_in-get n es)

-- ---- one section more in a run

behind_none : (xs : List Counted) → latest_section (xs ++ []) ≡ latest_section xs
behind_none [] = refl
behind_none (x ∷ []) = refl
behind_none (x ∷ y ∷ xs) = behind_none (y ∷ xs)

latest_that-push : (test : Counted → Bool) (xs : List Counted) (s : Counted) → latest_section (filter test (xs ++ s ∷ [])) ≡ (if test s then Some s else latest_section (filter test xs))
latest_that-push test xs s = ap latest_section (filter-append test xs (s ∷ [])) ∙ go (test s)
  where
    go : (b : Bool) → latest_section (filter test xs ++ cond b (s ∷ []) []) ≡ (if b then Some s else latest_section (filter test xs))
    go true = latest-push (filter test xs) s
    go false = behind_none (filter test xs)

pub turned : (a b : ℕ) → (a == b) ≡ (b == a)
turned a b = go (a == b) refl (b == a) refl
  where
    go : (x : Bool) → (a == b) ≡ x → (y : Bool) → (b == a) ≡ y → (a == b) ≡ (b == a)
    go true e y f = ap (λ (k : ℕ). a == k) (sym (eqb-true a b e)) ∙ ap (λ (k : ℕ). k == a) (eqb-true a b e)
    go false e true f = absurd (let z : true ≡ false = sym (eq-eqb a b (sym (eqb-true b a f))) ∙ e in let w : Prim.⊥ = cc in w)
    go false e false f = e ∙ sym f

-- the latest body of a number, one section more
pub body_of-push : (n : ℕ) (xs : List Counted) (s : Counted) → body_of (latest_with n (xs ++ s ∷ [])) ≡ held_with (λ m. body_of (latest_with m xs)) s.number s.body n
body_of-push n xs s = ap body_of (latest_that-push (has_number n) xs s) ∙ go (has_number n s) ∙ ap (λ (b : Bool). if b then Some s.body else body_of (latest_with n xs)) (turned s.number n)
  where
    go : (b : Bool) → body_of (if b then Some s else latest_with n xs) ≡ (if b then Some s.body else body_of (latest_with n xs))
    go true = refl
    go false = refl

-- the last number of a segment, one section more
pub last_told-push : (xs : List Counted) (s : Counted) (segment : ℕ) → last_told (xs ++ s ∷ []) segment ≡ told_with (last_told xs) s.number (segment_last_of s) segment
last_told-push xs s segment = ap last_told_by (latest_that-push (is_in_segment segment) xs s) ∙ go (is_in_segment segment s)
  where
    go : (b : Bool) → last_told_by (if b then Some s else latest_section (filter (is_in_segment segment) xs)) ≡ (if b then segment_last_of s else last_told xs segment)
    go true = refl
    go false = refl

-- ---- the needed numbers, by the last numbers of the segments

segments-same : (f g : ℕ → Option ℕ) → ((n : ℕ) → f n ≡ g n) → (n k : ℕ) → segments_need f n k ≡ segments_need g n k
segments-same f g same n zero = refl
segments-same f g same n (suc k) = ap₂ and_numbers (ap (option_map (numbers_in_segment n)) (same n)) (segments-same f g same (1 + n) k)

pub needed-same : (segmented : Bool) (f g : ℕ → Option ℕ) → ((n : ℕ) → f n ≡ g n) → (last : ℕ) → needed_by segmented f last ≡ needed_by segmented g last
needed-same true f g same last = segments-same f g same 0 (1 + segment_of last)
needed-same false f g same last = refl

-- ---- what a run has whole, by the bodies that it holds

gathered-by : (run : List Counted) (held : ℕ → Option (List ℕ)) → ((n : ℕ) → held n ≡ body_of (latest_with n run)) → (ns : List ℕ) → gathered run ns ≡ content_by held ns
gathered-by run held is [] = refl
gathered-by run held is (n ∷ ns) =
    go (latest_with n run) (gathered run ns)
    ∙ ap (λ (o : Option (List ℕ)). with_body n o (gathered run ns)) (sym (is n))
    ∙ ap (with_body n (held n)) (gathered-by run held is ns)
  where
    go : (o : Option Counted) (rest : Option Content) → with_part n o rest ≡ with_body n (body_of o) rest
    go None rest = refl
    go (Some s) None = refl
    go (Some s) (Some parts) = refl

-- the latest body of each number and the last number of each segment tell what a run has whole
pub whole-by : (run : List Counted) (s : Counted) (held : ℕ → Option (List ℕ)) (lasts : ℕ → Option ℕ) → latest_section run ≡ Some s
    → ((n : ℕ) → held n ≡ body_of (latest_with n run)) → ((n : ℕ) → lasts n ≡ last_told run n) → whole run ≡ whole_by held (needed_by (is_eit s.key.table) lasts s.last)
whole-by run s held lasts e is told =
    ap (λ (o : Option Counted). gathered_at run (needed_at run o)) e
    ∙ at (needed_by (is_eit s.key.table) (last_told run) s.last)
    ∙ ap (whole_by held) (needed-same (is_eit s.key.table) (last_told run) lasts (λ n. sym (told n)) s.last)
  where
    at : (o : Option (List ℕ)) → gathered_at run o ≡ whole_by held o
    at None = refl
    at (Some ns) = gathered-by run held is ns

-- with one section more, a run has whole what it then holds of the numbers that it then needs
pub whole-push : (run : List Counted) (s : Counted) (held : ℕ → Option (List ℕ)) (lasts : ℕ → Option ℕ)
    → ((n : ℕ) → held n ≡ body_of (latest_with n run)) → ((n : ℕ) → lasts n ≡ last_told run n)
    → whole (run ++ s ∷ []) ≡ whole_by (held_with held s.number s.body) (needed_by (is_eit s.key.table) (told_with lasts s.number (segment_last_of s)) s.last)
whole-push run s held lasts is told =
    whole-by (run ++ s ∷ []) s (held_with held s.number s.body) (told_with lasts s.number (segment_last_of s)) (latest-push run s)
    (λ n. go n (n == s.number) ∙ sym (body_of-push n run s))
    (λ n. by n (segment_of s.number == n) ∙ sym (last_told-push run s n))
  where
    go : (n : ℕ) (b : Bool) → (if b then Some s.body else held n) ≡ (if b then Some s.body else body_of (latest_with n run))
    go n true = refl
    go n false = is n

    by : (n : ℕ) (b : Bool) → (if b then segment_last_of s else lasts n) ≡ (if b then segment_last_of s else last_told run n)
    by n true = refl
    by n false = told n

-- a number that is not held leaves nothing whole
pub content_by-gap : (held : ℕ → Option (List ℕ)) (m n k : ℕ) → held m ≡ None → n ≤ m → m < n + k → content_by held (numbers_from n k) ≡ None
content_by-gap held m n zero none le lt = absurd (omega arith)
content_by-gap held m n (suc k) none le lt = go (n == m) refl (λ (le' : 1 + n ≤ m). content_by-gap held m (1 + n) k none le' (omega arith))
  where
    here : (o : Option (List ℕ)) → with_body n o None ≡ None
    here None = refl
    here (Some b) = refl

    go : (b : Bool) → (n == m) ≡ b → (1 + n ≤ m → content_by held (numbers_from (1 + n) k) ≡ None) → with_body n (held n) (content_by held (numbers_from (1 + n) k)) ≡ None
    go true e rec = ap (λ (o : Option (List ℕ)). with_body n o (content_by held (numbers_from (1 + n) k))) (ap held (eqb-true n m e) ∙ none)
    go false e rec =
        let other : n ≢ m = λ (same : n ≡ m). (let f : true ≡ false = sym (eq-eqb n m same) ∙ e in let z : Prim.⊥ = cc in z) in
        ap (with_body n (held n)) (rec (omega arith)) ∙ here (held n)

-- a number that is missing leaves nothing whole
pub content_by-missing : (held : ℕ → Option (List ℕ)) (ns : List ℕ) (i d : ℕ) → i < length ns → held (get_or ns i d) ≡ None → content_by held ns ≡ None
content_by-missing held [] i d lt none = absurd (omega arith)
content_by-missing held (n ∷ ns) zero d lt none = ap (λ (o : Option (List ℕ)). with_body n o (content_by held ns)) none
content_by-missing held (n ∷ ns) (suc i) d lt none = ap (with_body n (held n)) (content_by-missing held ns i d (omega arith) none) ∙ here (held n)
  where
    here : (o : Option (List ℕ)) → with_body n o None ≡ None
    here None = refl
    here (Some b) = refl
