-- A report tells its journal, its line on the bit rate, and how it ends.
use Rattle.std.proofs.Common.{◌≡◌, ◌∙◌, ◌==◌, ◌++◌, ◌∷◌, ◌+◌, ◌/◌, ◌%◌, ℕ, zero, suc, Bool, true, false, List, [], refl, sym, ap, subst, inl, inr, ◌⊎◌, arith, append-nil, append_assoc}
use Rattle.std.specs.Prelude.{Option, Some, None, codes, decimal, not, nat_lt}
use Rattle.std.specs.List.{list_all}
use Rattle.std.specs.Fmt.{digits, digits_onto, digit_glyph}
use Rattle.std.proofs.lemmas.Bool.{and_parts, cases_Bool, ne_eqb}
use Rattle.std.proofs.lemmas.List.Folds.{list_all-append}
use Rattle.si_causes.specs.Lines.{after_line, first_line}
use Rattle.mux_model.specs.declared.mux.Mux.{Mux}
use Rattle.journal_model.specs.declared.step.Entry.{Entry}
use Rattle.journal_air.specs.Air.{airings}
use Rattle.journal_text.specs.Back.{BeginsNoEntry}
use Rattle.journal_text.specs.Entries.{journal_text}
use Rattle.journal_text.proofs.Journals.{journals_end}
use Rattle.cycle_player.specs.Tally.{Tallied, least_rate}
use Rattle.cycle_player.specs.Tallies.{tally_of}
use Rattle.epg_report.specs.Rates.{kept_text, needed_text, rate_line}
use Rattle.epg_play.specs.declared.stop.PlayStop.{PlayStop}
use Rattle.epg_play.specs.Leaves.{ending_text, rates_for, report_text}
use Rattle.epg_play.specs.Reports.{ReportsTellJournals}

-- ---- a line ends at the first LF

abbrev pub is_inner : ℕ → Bool
is_inner b = not (b == 10)

abbrev pub IsInner : List ℕ → Type 0
IsInner xs = list_all is_inner xs ≡ true

pub is_no_end : (b : ℕ) → is_inner b ≡ true → (b == 10) ≡ false
is_no_end b h = elim (cases_Bool (b == 10)) [
  | inl e ↦ absurd (let k = rw e at h in cc k)
  | inr e ↦ e
]

first_of : (xs rest : List ℕ) → IsInner xs → first_line (xs ++ 10 ∷ rest) ≡ xs
first_of [] rest h = refl
first_of (x ∷ xs) rest h =
    let (a, b) = and_parts (is_inner x) (list_all is_inner xs) h in
    rw (is_no_end x a) (ap (λ (l : List ℕ). x ∷ l) (first_of xs rest b))

after_of : (xs rest : List ℕ) → IsInner xs → after_line (xs ++ 10 ∷ rest) ≡ rest
after_of [] rest h = refl
after_of (x ∷ xs) rest h =
    let (a, b) = and_parts (is_inner x) (list_all is_inner xs) h in
    rw (is_no_end x a) (after_of xs rest b)

lines_same : (xs ys us vs : List ℕ) → IsInner xs → IsInner ys → xs ++ 10 ∷ us ≡ ys ++ 10 ∷ vs → (xs ≡ ys) × (us ≡ vs)
lines_same xs ys us vs h k e = (
  sym (first_of xs us h) ∙ ap first_line e ∙ first_of ys vs k,
  sym (after_of xs us h) ∙ ap after_line e ∙ after_of ys vs k,
)

-- ---- the line on a bit rate has one LF

pub inner_append : (xs ys : List ℕ) → IsInner xs → IsInner ys → IsInner (xs ++ ys)
inner_append xs ys h k = list_all-append is_inner xs ys ∙ rw (h, k) refl

glyph_inner : (d : ℕ) → is_inner (digit_glyph false d) ≡ true
glyph_inner d =
    let low : ((48 + d) == 10) ≡ false = ne_eqb (48 + d) 10 (λ e. absurd (omega arith)) in
    let high : ((87 + d) == 10) ≡ false = ne_eqb (87 + d) 10 (λ e. absurd (omega arith)) in
    elim (cases_Bool (nat_lt d 10)) [
      | inl e ↦ rw (e, low) refl
      | inr e ↦ rw (e, high) refl
    ]

digits_inner : (k n : ℕ) (behind : List ℕ) → IsInner behind → IsInner (digits_onto k 10 false n behind)
digits_inner zero n behind h = h
digits_inner (suc k) n behind h =
    let more : IsInner (digit_glyph false (n % 10) ∷ behind) = rw (glyph_inner (n % 10)) h in
    elim (cases_Bool (n / 10 == 0)) [
      | inl e ↦ rw e more
      | inr e ↦ rw e (digits_inner k (n / 10) (digit_glyph false (n % 10) ∷ behind) more)
    ]

pub decimal_inner : (n : ℕ) → IsInner (decimal n)
unfolding digits
decimal_inner n = digits_inner 64 n [] refl

comma_inner : (xs ys : List ℕ) → IsInner xs → IsInner ys → IsInner (xs ++ codes "," ++ ys)
comma_inner xs ys h k = inner_append (xs ++ codes ",") ys (inner_append xs (codes ",") h refl) k

needed_inner : (rate : Option ℕ) → IsInner (needed_text rate)
needed_inner None = refl
needed_inner (Some rate) = decimal_inner rate

kept_inner : (t : Tallied) → IsInner (kept_text t)
kept_inner t = elim (cases_Bool (t.short == 0)) [
  | inl e ↦ rw e refl
  | inr e ↦ rw e (comma_inner (decimal t.short) (needed_text (least_rate t.most)) (decimal_inner t.short) (needed_inner (least_rate t.most)))
]

-- nothing, or a line that begins with an r
abbrev pub IsRateLine : List ℕ → Type 0
IsRateLine xs = (xs ≡ []) ⊎ ((body : List ℕ) × IsInner body × (xs ≡ 114 ∷ (body ++ 10 ∷ [])))

line_shape : (xs ys : List ℕ) → IsInner xs → IsInner ys → IsRateLine (codes "rate," ++ xs ++ codes "," ++ ys ++ codes "\n")
line_shape xs ys h k =
    inr (
      codes "ate," ++ xs ++ codes "," ++ ys,
      comma_inner xs ys h k,
      refl,
    )

pub rate_shape : (rate : Option ℕ) (t : Tallied) → IsRateLine (rate_line rate t)
rate_shape None t = inl refl
rate_shape (Some rate) t = line_shape (decimal rate) (kept_text t) (decimal_inner rate) (kept_inner t)

rates_shape : (described : Option Mux) (journal : List Entry) → IsRateLine (rates_for described journal)
rates_shape None journal = inl refl
rates_shape (Some mux) journal = rate_shape mux.rate (tally_of mux.rate (airings mux journal))

-- ---- what stands after a journal

no_entry : (s : Option PlayStop) → BeginsNoEntry (ending_text s)
no_entry None = tt
no_entry (Some stop) = refl

no_entry_with : (xs : List ℕ) (s : Option PlayStop) → IsRateLine xs → BeginsNoEntry (xs ++ ending_text s)
no_entry_with xs s (inl none) = subst (λ (l : List ℕ). BeginsNoEntry (l ++ ending_text s)) (sym none) (no_entry s)
no_entry_with xs s (inr (body, inner, is)) = subst (λ (l : List ℕ). BeginsNoEntry (l ++ ending_text s)) (sym is) refl

abbrev begins_with_r : List ℕ → Bool
begins_with_r [] = false
begins_with_r (b ∷ bs) = b == 114

no_r : (s : Option PlayStop) → begins_with_r (ending_text s) ≡ false
no_r None = refl
no_r (Some stop) = refl

no_rate : (s : Option PlayStop) (rest : List ℕ) → ending_text s ≡ 114 ∷ rest → ⊥
no_rate s rest e = (let k : false ≡ true = sym (no_r s) ∙ ap begins_with_r e in cc k)

parts : (xs ys : List ℕ) (s t : Option PlayStop) → IsRateLine xs → IsRateLine ys → xs ++ ending_text s ≡ ys ++ ending_text t → (xs ≡ ys) × (ending_text s ≡ ending_text t)
parts xs ys s t (inl none) (inl other) e = (none ∙ sym other, rw (none, other) at e)
parts xs ys s t (inl none) (inr (body, inner, is)) e = absurd (no_rate s ((body ++ 10 ∷ []) ++ ending_text t) (rw (none, is) at e))
parts xs ys s t (inr (body, inner, is)) (inl none) e = absurd (no_rate t ((body ++ 10 ∷ []) ++ ending_text s) (sym (rw (none, is) at e)))
parts xs ys s t (inr (body, inner, is)) (inr (other, within, are)) e =
    let texts : 114 ∷ ((body ++ 10 ∷ []) ++ ending_text s) ≡ 114 ∷ ((other ++ 10 ∷ []) ++ ending_text t) = rw (is, are) at e in
    let behind : (body ++ 10 ∷ []) ++ ending_text s ≡ (other ++ 10 ∷ []) ++ ending_text t = cc texts in
    let same = lines_same body other (ending_text s) (ending_text t) inner within (sym (append_assoc body (10 ∷ []) (ending_text s)) ∙ behind ∙ append_assoc other (10 ∷ []) (ending_text t)) in
    (is ∙ ap (λ (l : List ℕ). 114 ∷ (l ++ 10 ∷ [])) same.0 ∙ sym are, same.1)

pub reports_tell_journals : ReportsTellJournals
reports_tell_journals one other a b s t h k e =
    let us = rates_for one a in
    let vs = rates_for other b in
    let texts : journal_text a ++ (us ++ ending_text s) ≡ journal_text b ++ (vs ++ ending_text t) =
    sym (append_assoc (journal_text a) us (ending_text s)) ∙ e ∙ append_assoc (journal_text b) vs (ending_text t) in
    let journals = journals_end a b (us ++ ending_text s) (vs ++ ending_text t) h k (no_entry_with us s (rates_shape one a)) (no_entry_with vs t (rates_shape other b)) texts in
    let rest = parts us vs s t (rates_shape one a) (rates_shape other b) journals.1 in
    record { journal = journals.0; rates = rest.0; ending = rest.1 }

-- without a bit rate it has no line on one
pub plain_report : (mux : Mux) (journal : List Entry) → mux.rate ≡ None
    → report_text (Some mux) journal ≡ journal_text journal
plain_report mux journal e =
    ap (λ (r : Option ℕ). journal_text journal ++ rate_line r (tally_of r (airings mux journal))) e
    ∙ append-nil (journal_text journal)
