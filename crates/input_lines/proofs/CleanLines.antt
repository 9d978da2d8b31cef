-- Facts on the fields of a clean line.
use Rattle.std.proofs.Common.{◌≡◌, ◌==◌, ◌&&◌, ◌++◌, ◌∷◌, ◌∙◌, [], ℕ, suc, zero, List, Option, Some, None, refl, ap, subst, true, false, inl, inr, take, length, get_or, not, ◌<◌, arith}
use Rattle.std.specs.List.{list_all, list_any}
use Rattle.std.specs.Prelude.{nat_le}
use Rattle.std.specs.Str.{IsUtf8, chars, is_utf8}
use Rattle.std.proofs.lemmas.Bool.{cases_Bool, eqb-true, leb-true, le-leb, or_parts, and_parts}
use Rattle.std.proofs.lemmas.Str.{encodes-chars, scalars-chars, chars-encodes, cons_from_encodes, is_utf8-from_IsUtf8, IsUtf8-from_is_utf8}
use lib.Utf8.{encode, scalar, scalars}
use Rattle.csv.specs.Machine.{Read, next_record}
use Rattle.csv.specs.Reading.{default_config, strip_bom, is_bom}
use Rattle.csv.specs.Records.{field_at}
use Rattle.csv.specs.declared.parser.State.TheVariants as st
use Rattle.std.specs.List.{AllByRecursion}
use Rattle.guide_model.specs.Control.{is_control, has_control}
use Rattle.guide_model.specs.Decoding.{IsKept}
use Rattle.input_lines.specs.Fields.{IsLine, is_line, line_fields, fields_or_none, record_of}
use Rattle.input_lines.proofs.CleanText.{is_plain_char, IsClean, AllClean, RecordClean}
use Rattle.input_lines.proofs.Clean.{reads-clean}

pub kept_at : (fs : List (List ℕ)) (i : ℕ) (x : List ℕ) → AllByRecursion IsKept fs → field_at fs i ≡ Some x → IsKept x
unfolding field_at
kept_at [] i x h e = absurd (cc e)
kept_at (f ∷ fs) zero x h e = subst IsKept (cc e) h.0
kept_at (f ∷ fs) (suc i) x h e = kept_at fs i x h.1 e

pub kept_in : (fs : List (List ℕ)) (i : ℕ) (x : List ℕ) → AllByRecursion IsKept fs → i < length fs → IsKept (get_or fs i x)
kept_in [] i x h l = absurd (omega (arith, l))
kept_in (f ∷ fs) zero x h l = h.0
kept_in (f ∷ fs) (suc i) x h l = kept_in fs i x h.1 (omega (arith, l))

pub take_more : (fs : List (List ℕ)) (i : ℕ) (x : List ℕ) → field_at fs i ≡ Some x → take (suc i) fs ≡ take i fs ++ x ∷ []
unfolding field_at
take_more [] i x e = absurd (cc e)
take_more (f ∷ fs) zero x e = let same : f ≡ x = cc e in ap (λ (z : List ℕ). z ∷ []) same
take_more (f ∷ fs) (suc i) x e = ap (λ (l : List (List ℕ)). f ∷ l) (take_more fs i x e)

plain_from : (cs : List ℕ) → scalars cs ≡ true → list_any is_control cs ≡ false → list_all is_plain_char cs ≡ true
plain_from [] s n = refl
plain_from (c ∷ cs) s n =
    let (a, b) = and_parts (scalar c) (scalars cs) s in
    let (d, e) = or_parts (is_control c) (list_any is_control cs) n in
    rw (a, d) (plain_from cs b e)

plain_back : (cs : List ℕ) → list_all is_plain_char cs ≡ true → (scalars cs ≡ true) × (list_any is_control cs ≡ false)
plain_back [] h = (refl, refl)
plain_back (c ∷ cs) h =
    let (a, b) = and_parts (is_plain_char c) (list_all is_plain_char cs) h in
    let (s, n) = and_parts (scalar c) (not (is_control c)) a in
    let (t, m) = plain_back cs b in
    let quiet : is_control c ≡ false = elim (cases_Bool (is_control c)) [
      | inl e ↦ cc (rw e at n)
      | inr e ↦ e
    ] in
    (rw s t, rw quiet m)

pub clean_from : (bs : List ℕ) → IsUtf8 bs → list_any is_control (chars bs) ≡ false → IsClean bs
clean_from bs u n = (chars bs, plain_from (chars bs) (scalars-chars bs u) n, encodes-chars bs u)

pub clean_back : (bs : List ℕ) → IsClean bs → IsUtf8 bs × (list_any is_control (chars bs) ≡ false)
clean_back bs (cs, h, e) =
    let (s, n) = plain_back cs h in
    ((cs, (s, e)), subst (λ (l : List ℕ). list_any is_control (chars l) ≡ false) e (rw (chars-encodes cs s) n))

-- a mark of three bytes is one character
mark_is : (a b c : ℕ) (rest : List ℕ) → is_bom a b c ≡ true → a ∷ b ∷ c ∷ rest ≡ encode 65279 ++ rest
unfolding encode
mark_is a b c rest e =
    let (xy, z) = and_parts ((a == 0xEF) && (b == 0xBB)) (c == 0xBF) e in
    let (x, y) = and_parts (a == 0xEF) (b == 0xBB) xy in
    let i = eqb-true a 239 x in
    let j = eqb-true b 187 y in
    let k = eqb-true c 191 z in cc (i, j, k)

pub strip_clean : (bs : List ℕ) → IsClean bs → IsClean (strip_bom bs)
unfolding strip_bom
strip_clean (a ∷ b ∷ c ∷ rest) (cs, ok, e) = elim (cases_Bool (is_bom a b c)) [
  | inl mark ↦
      let (es, is, back) = cons_from_encodes cs rest 65279 (e ∙ mark_is a b c rest mark) in
      let parts = and_parts (is_plain_char 65279) (list_all is_plain_char es) (subst (λ (l : List ℕ). list_all is_plain_char l ≡ true) is ok) in
      rw mark (es, parts.1, back)
  | inr none ↦ rw none (cs, ok, e)
]
strip_clean other h = h

none_clean : (o : Option Read) → RecordClean o → AllClean (fields_or_none o)
none_clean None h = tt
none_clean (Some p) h = h

pub kept_from : (bs : List ℕ) → IsClean bs → IsKept bs
kept_from bs h = let back = clean_back bs h in record { utf8 = back.0; clean = back.1 }

all_kept : (fs : List (List ℕ)) → AllClean fs → AllByRecursion IsKept fs
all_kept [] h = tt
all_kept (f ∷ fs) h = (kept_from f h.0, all_kept fs h.1)

-- the fields of a line that may be kept may be kept
pub line_kept : (bs : List ℕ) → IsKept bs → AllByRecursion IsKept (line_fields bs)
line_kept bs k =
    let (cs, ok, e) = strip_clean bs (clean_from bs k.utf8 k.clean) in
    all_kept (line_fields bs) (none_clean (next_record default_config st.StartRecord [] [] (strip_bom bs))
    (subst (λ (l : List ℕ). RecordClean (next_record default_config st.StartRecord [] [] l)) e (reads-clean cs ok st.StartRecord [] [] tt ([], refl, refl) refl)))

-- the test of a line tells whether it may be a record
pub is_line_yes : (bs : List ℕ) → IsLine bs → is_line bs ≡ true
is_line_yes bs h = rw (le-leb (length bs) 16384 h.short, is_utf8-from_IsUtf8 bs h.kept.utf8, h.kept.clean) refl

pub line_record_of : (bs : List ℕ) → IsLine bs → record_of bs ≡ Some (line_fields bs)
line_record_of bs h = rw (is_line_yes bs h) refl

pub is_line_back : (bs : List ℕ) → is_line bs ≡ true → IsLine bs
is_line_back bs e =
    let (s, r) = and_parts (nat_le (length bs) 16384) (is_utf8 bs && not (has_control bs)) e in
    let (u, n) = and_parts (is_utf8 bs) (not (has_control bs)) r in
    record {
      short = leb-true (length bs) 16384 s;
      kept = record {
        utf8 = IsUtf8-from_is_utf8 bs u;
        clean = elim (cases_Bool (has_control bs)) [
          | inl c ↦ cc (rw c at n)
          | inr c ↦ c
        ];
      };
    }

pub no_line_record : (bs : List ℕ) → (IsLine bs → ⊥) → record_of bs ≡ None
no_line_record bs never = elim (cases_Bool (is_line bs)) [
  | inl e ↦ absurd (never (is_line_back bs e))
  | inr e ↦ rw e refl
]
