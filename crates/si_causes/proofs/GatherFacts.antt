-- Lemmas on collecting a line.
use Rattle.std.proofs.Common.{◌≡◌, ℕ, ◌+◌, ◌≤◌, ◌<◌, true, false, List, [], ◌∷◌, ◌++◌, length, take, refl, sym, ap, ◌∙◌, subst, arith, append-nil, append_assoc, length-append, length-take}
use Rattle.std.specs.Prelude.{Option}
use Rattle.std.specs.Io.KnownBytes.{Consumes}
use Rattle.std.proofs.KnownBytes.{Consumes-trans, Consumes-nil}
use Rattle.si_causes.specs.Lines.{first_line, after_line, has_end}
use Rattle.si_causes.specs.Gathering.{Hand, Split, Gathered, hand}
use Rattle.si_causes.proofs.LineFacts.{first_line_append, after_line_append, has_end_append, first_line_whole, after_line_none, take_take_append}

pub start : {S : Type 0} (left : S → Option (List ℕ)) (faults : S → ℕ) (old : Hand S) → old.line ≡ [] → old.taken ≤ old.limit → Split left faults old old [] []
start left faults old empty le = record {
  consumed = Consumes-nil (left old.source);
  taken = omega arith;
  within = le;
  same = append-nil old.held;
  no_end = refl;
  line = empty;
  quiet = refl;
}

-- what is at hand in all, up to its first LF
pub ended : {S : Type 0} (left : S → Option (List ℕ)) (faults : S → ℕ) (old mid : Hand S) (before more held line : List ℕ) → Split left faults old mid before more
    → line ≡ take 16386 (mid.line ++ first_line mid.held) → held ≡ after_line mid.held → has_end mid.held ≡ true
    → Gathered left old (hand mid.source held line mid.taken mid.limit) more × (has_end (old.held ++ more) ≡ true)
ended left faults old mid before more held line s l h e = (
  record {
    consumed = s.consumed;
    taken = s.taken;
    within = s.within;
    line = l ∙ ap (λ x. take 16386 (x ++ first_line mid.held)) s.line ∙ take_take_append 16386 before (first_line mid.held)
        ∙ ap (take 16386) (sym (first_line_append before mid.held s.no_end) ∙ ap first_line (sym s.same));
    rest = h ∙ sym (after_line_append before mid.held s.no_end) ∙ ap after_line (sym s.same);
  },
  ap has_end s.same ∙ has_end_append before mid.held s.no_end ∙ e,
)

-- no LF, and the next piece
pub grown : {S : Type 0} (left : S → Option (List ℕ)) (faults : S → ℕ) (old mid : Hand S) (before more piece line : List ℕ) (source : S) (taken limit : ℕ) → Split left faults old mid before more
    → line ≡ take 16386 (mid.line ++ first_line mid.held) → has_end mid.held ≡ false → Consumes (left mid.source) (left source) piece
    → taken ≡ mid.taken + length piece → taken ≤ old.limit → faults source ≡ faults mid.source
    → Split left faults old (hand source piece line taken limit) (before ++ mid.held) (more ++ piece)
grown left faults old mid before more piece line source taken limit s l e c t w f = record {
  consumed = Consumes-trans (left old.source) (left mid.source) (left source) more piece s.consumed c;
  taken = omega (arith, s.taken, t, length-append more piece);
  within = w;
  same = sym (append_assoc old.held more piece) ∙ ap (λ x. x ++ piece) s.same;
  no_end = has_end_append before mid.held s.no_end ∙ e;
  line = l ∙ ap (λ x. take 16386 (x ++ first_line mid.held)) s.line ∙ take_take_append 16386 before (first_line mid.held)
      ∙ ap (λ x. take 16386 (before ++ x)) (first_line_whole mid.held e);
  quiet = f ∙ s.quiet;
}

-- no LF, and nothing more
pub at_end : {S : Type 0} (left : S → Option (List ℕ)) (faults : S → ℕ) (old new : Hand S) (before more : List ℕ) → Split left faults old new before more → new.held ≡ []
    → Gathered left old new more × (has_end (old.held ++ more) ≡ false) × (old.held ++ more ≡ before)
at_end left faults old new before more s e =
    let all : old.held ++ more ≡ before = s.same ∙ ap (λ x. before ++ x) e ∙ append-nil before in
    let none : has_end (old.held ++ more) ≡ false = ap has_end all ∙ s.no_end in (
      record {
        consumed = s.consumed;
        taken = s.taken;
        within = s.within;
        line = s.line ∙ ap (take 16386) (sym all ∙ sym (first_line_whole (old.held ++ more) none));
        rest = e ∙ sym (after_line_none (old.held ++ more) none);
      },
      none,
      all,
    )

pub no_length : (xs : List ℕ) → length xs ≡ 0 → xs ≡ []
no_length [] e = refl
no_length (x ∷ xs) e = absurd (omega arith)

-- a piece of one byte is that byte
pub one_more : (a b c : Option (List ℕ)) (more piece : List ℕ) → length piece ≡ 1 → Consumes a b more → Consumes b c piece → (byte : ℕ) × Consumes a c (more ++ byte ∷ [])
one_more a b c more [] one p q = absurd (omega arith)
one_more a b c more (x ∷ xs) one p q =
    (x, subst (λ l. Consumes a c (more ++ x ∷ l)) (no_length xs (omega arith)) (Consumes-trans a b c more (x ∷ xs) p q))

pub take_nothing : (n : ℕ) (xs : List ℕ) → 0 < n → take n xs ≡ [] → xs ≡ []
take_nothing n xs lt e = no_length xs (omega (arith, length-take n xs, ap length e))
