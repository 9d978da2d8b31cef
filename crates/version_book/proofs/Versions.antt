-- Versions of a key along an airing list.
use Rattle.std.proofs.Common.{◌≡◌, ◌≢◌, ℕ, ◌+◌, ◌%◌, List, [], ◌∷◌, ◌++◌, Bool, true, false, refl, sym, ap, ◌∙◌, subst, arith, inl, inr, ◌⊎◌, append_assoc, append-nil}
use Rattle.std.specs.List.{cons_option}
use Rattle.std.specs.Prelude.{if◌then◌else◌, option_to_list, Option, Some, None}
use Rattle.std.proofs.lemmas.List.Elements.{filter_map-append}
use Rattle.section_codec.specs.declared.table.Key.{Key}
use Rattle.section_codec.specs.Contents.{Content, is_content}
use Rattle.section_codec.proofs.SameContent.{is_content-same}
use Rattle.version_book.specs.Airings.{AiredTables, content_at, carried, changes_after}
use Rattle.version_book.specs.Book.{last_of}
use Rattle.version_book.specs.Laws.{NeighboursAgree, AnotherBetween}

-- ---- one content more

step : (b : Bool) (n m : ℕ) → (if b then n + m else 1 + (n + m)) ≡ (if b then n else 1 + n) + m
step true n m = refl
step false n m = omega arith

-- one more content adds a change where it differs from the last
pub changes_after-push : (c : Content) (cs : List Content) (d : Content) →
    changes_after c (cs ++ d ∷ []) ≡ changes_after c cs + (if is_content (last_of c cs) d then 0 else 1)
changes_after-push c [] d = go (is_content c d)
  where
    go : (b : Bool) → (if b then 0 else 1 + 0) ≡ 0 + (if b then 0 else 1)
    go true = refl
    go false = refl
changes_after-push c (x ∷ cs) d =
    let h = changes_after-push x cs d in
    let m = (if is_content (last_of x cs) d then 0 else 1) in
    ap (λ (n : ℕ). if is_content c x then n else 1 + n) h ∙ step (is_content c x) (changes_after x cs) m

pub last_of-push : (c : Content) (cs : List Content) (d : Content) → last_of c (cs ++ d ∷ []) ≡ d
last_of-push c [] d = refl
last_of-push c (x ∷ cs) d = last_of-push x cs d

differ : (n : ℕ) → n % 32 ≡ (1 + n) % 32 → Prim.⊥
differ n e = grind arith

push_differ : (n m : ℕ) (b : Bool) → m ≡ n + (if b then 0 else 1) → n % 32 ≡ m % 32 → b ≡ true
push_differ n m true h e = refl
push_differ n m false h e = absurd (differ n (e ∙ ap (λ (x : ℕ). x % 32) (let g : m ≡ 1 + n = omega arith in g)))

pub neighbours : NeighboursAgree
neighbours c cs d e =
    is_content-same (last_of c cs) d (push_differ (changes_after c cs) (changes_after c (cs ++ d ∷ [])) (is_content (last_of c cs) d) (changes_after-push c cs d) e)

same_or : (x y : ℕ) → (x ≡ y) ⊎ (x ≢ y)
same_or x y = grind arith

pub between : AnotherBetween
between b bs [] d same other = absurd (other (neighbours b bs d (same ∙ ap (λ (x : List Content). changes_after b (x ++ d ∷ []) % 32) (append-nil bs))))
between b bs (e ∷ cs) d same other = go (same_or (changes_after b (bs ++ e ∷ []) % 32) (changes_after b bs % 32)) (λ s n. between b (bs ++ e ∷ []) cs d s n)
  where
    shift : (xs : List Content) → (bs ++ e ∷ []) ++ xs ≡ bs ++ e ∷ xs
    shift xs = append_assoc bs (e ∷ []) xs

    go : (changes_after b (bs ++ e ∷ []) % 32 ≡ changes_after b bs % 32) ⊎ (changes_after b (bs ++ e ∷ []) % 32 ≢ changes_after b bs % 32)
        → (changes_after b (bs ++ e ∷ []) % 32 ≡ changes_after b (((bs ++ e ∷ []) ++ cs) ++ d ∷ []) % 32 → last_of b (bs ++ e ∷ []) ≢ d
        → (one two : List Content) × (f : Content) × (cs ≡ one ++ f ∷ two) × (changes_after b (((bs ++ e ∷ []) ++ one) ++ f ∷ []) % 32 ≢ changes_after b (bs ++ e ∷ []) % 32))
        → (one two : List Content) × (f : Content) × (e ∷ cs ≡ one ++ f ∷ two) × (changes_after b ((bs ++ one) ++ f ∷ []) % 32 ≢ changes_after b bs % 32)
    go (inr apart) rec = ([], cs, e, refl, subst (λ (x : List Content). changes_after b (x ++ e ∷ []) % 32 ≢ changes_after b bs % 32) (sym (append-nil bs)) apart)
    go (inl equal) rec =
        let last : last_of b bs ≡ e = neighbours b bs e (sym equal) in
        let r = rec (equal ∙ same ∙ ap (λ (x : List Content). changes_after b (x ++ d ∷ []) % 32) (sym (shift cs))) (λ is. other (last ∙ sym (last_of-push b bs e) ∙ is)) in (
          e ∷ r.0,
          r.1,
          r.2,
          ap (λ (x : List Content). e ∷ x) r.3,
          λ is. r.4 (ap (λ (x : List Content). changes_after b (x ++ r.2 ∷ []) % 32) (shift r.0) ∙ is ∙ sym equal),
        )

-- ---- one airing more

none_behind : (o : Option Content) → cons_option o [] ≡ option_to_list o
none_behind None = refl
none_behind (Some c) = refl

-- what the airings carry of a key, with one airing more
pub carried-push : (k : Key) (past : List AiredTables) (a : AiredTables) → carried k (past ++ a ∷ []) ≡ carried k past ++ option_to_list (content_at k a)
carried-push k past a = filter_map-append (content_at k) past (a ∷ []) ∙ ap (λ (xs : List Content). carried k past ++ xs) (none_behind (content_at k a))
