-- The fields that csv reads of a text with no control character have none.
use Rattle.std.proofs.Common.{◌≡◌, ◌⊎◌, ◌==◌, ◌&&◌, ◌++◌, ◌∷◌, ◌∙◌, [], ℕ, ◌<◌, ◌≤◌, ◌+◌, ◌/◌, List, Bool, Some, refl, sym, ap, subst, true, false, append_assoc, inl, inr, arith, ⊎_elim}
use Rattle.std.specs.Prelude.{if◌then◌else◌, ⊤}
use Rattle.std.specs.List.{list_all}
use Rattle.std.proofs.lemmas.List.{append-nil}
use Rattle.std.proofs.lemmas.Bool.{cases_Bool, ne_eqb, cases_lt}
use Rattle.std.proofs.lemmas.Str.{encode_ascii, encodes-append}
use lib.Dec.{ltb}
use Rattle.std.proofs.lemmas.Bool.Decides.{nat_tests}
use lib.Utf8.{encode, encodes, next}
use Rattle.csv.specs.Machine.{Runs, next_record, step, in_field, is_end, fields_after, field_after}
use Rattle.csv.specs.Reading.{default_config}
use Rattle.csv.specs.declared.parser.State.{State}
use Rattle.csv.specs.declared.parser.State.TheVariants as st
use Rattle.csv.specs.declared.parser.Action.{Action}
use Rattle.csv.specs.declared.parser.Action.TheVariants as act
use Rattle.csv.proofs.ReadFacts.{run-copies}
use Rattle.input_lines.proofs.CleanText.{is_plain_char, IsClean, AllClean, RecordClean}

-- bytes that stand in characters past ASCII
abbrev pub High : List ℕ → Type 0
High [] = ⊤
High (b ∷ bs) = (128 ≤ b) × High bs

no-mark : (b k : ℕ) → 128 ≤ b → k < 128 → (b == k) ≡ false
no-mark b k h l = ne_eqb b k (λ e. absurd (omega arith))

high-field : (b : ℕ) → 128 ≤ b → in_field default_config b ≡ (st.InField, act.Copy)
high-field b h = rw (no-mark b 44 h (omega arith), no-mark b 13 h (omega arith), no-mark b 10 h (omega arith)) refl

high-quoted : (b : ℕ) → 128 ≤ b → step default_config st.InQuoted b ≡ (st.InQuoted, act.Copy)
high-quoted b h = rw (no-mark b 34 h (omega arith)) refl

field-runs : (xs : List ℕ) → High xs → Runs default_config st.InField xs
unfolding Runs
field-runs [] h = tt
field-runs (b ∷ bs) h = (high-field b h.0, field-runs bs h.1)

quoted-runs : (xs : List ℕ) → High xs → Runs default_config st.InQuoted xs
unfolding Runs
quoted-runs [] h = tt
quoted-runs (b ∷ bs) h = (high-quoted b h.0, quoted-runs bs h.1)

-- a state that the default reader comes to
abbrev good : State → Bool
good st.InEscape = false
good st.InComment = false
good other = true

good-field : (c : ℕ) → good (in_field default_config c).0 ≡ true
good-field c = elim (cases_Bool (c == 44)) [
  | inl e ↦ rw e refl
  | inr a ↦ elim (cases_Bool (c == 13)) [
    | inl e ↦ rw (a, e) refl
    | inr b ↦ elim (cases_Bool (c == 10)) [
      | inl e ↦ rw (a, b, e) refl
      | inr d ↦ rw (a, b, d) refl
    ]
  ]
]

good-start : (c : ℕ) → good (step default_config st.StartField c).0 ≡ true
good-start c = elim (cases_Bool (c == 34)) [
  | inl e ↦ rw e refl
  | inr a ↦ rw a (good-field c)
]

good-record : (c : ℕ) → good (step default_config st.StartRecord c).0 ≡ true
good-record c = elim (cases_Bool (c == 13)) [
  | inl e ↦ rw e refl
  | inr b ↦ elim (cases_Bool (c == 10)) [
    | inl e ↦ rw (b, e) refl
    | inr d ↦ elim (cases_Bool (c == 34)) [
      | inl e ↦ rw (b, d, e) refl
      | inr q ↦ elim (cases_Bool (c == 44)) [
        | inl e ↦ rw (b, d, q, e) refl
        | inr a ↦ rw (b, d, q, a) refl
      ]
    ]
  ]
]

good-after-cr : (c : ℕ) → (c == 10) ≡ false → good (step default_config st.StartRecord c).0 ≡ true → good (step default_config st.AfterCr c).0 ≡ true
good-after-cr c a h = rw a (rw a at h)

good-step : (s : State) (c : ℕ) → good s ≡ true → good (step default_config s c).0 ≡ true
good-step st.StartRecord c g = good-record c
good-step st.StartField c g = good-start c
good-step st.InField c g = good-field c
good-step st.InQuoted c g = elim (cases_Bool (c == 34)) [
  | inl e ↦ rw e refl
  | inr a ↦ rw a refl
]
good-step st.AfterQuote c g = elim (cases_Bool (c == 34)) [
  | inl e ↦ rw e refl
  | inr a ↦ rw a (good-field c)
]
good-step st.InEscape c g = cc g
good-step st.InComment c g = cc g
good-step st.AfterCr c g = elim (cases_Bool (c == 10)) [
  | inl e ↦ rw e refl
  | inr a ↦ good-after-cr c a (good-record c)
]

clean-snoc : (fs : List (List ℕ)) (f : List ℕ) → AllClean fs → IsClean f → AllClean (fs ++ (f ∷ []))
clean-snoc [] f h g = (g, tt)
clean-snoc (x ∷ xs) f h g = (h.0, clean-snoc xs f h.1 g)

all-snoc : (cs : List ℕ) (ds : List ℕ) → list_all is_plain_char cs ≡ true → list_all is_plain_char ds ≡ true → list_all is_plain_char (cs ++ ds) ≡ true
all-snoc [] ds h g = g
all-snoc (x ∷ xs) ds h g = elim (cases_Bool (is_plain_char x)) [
  | inl e ↦ rw e (all-snoc xs ds (rw e at h) g)
  | inr n ↦ cc (rw n at h)
]

-- one more character of a field
clean-more : (field : List ℕ) (c : ℕ) → IsClean field → is_plain_char c ≡ true → IsClean (field ++ encode c)
clean-more field c (cs, ok, is) h =
    (cs ++ (c ∷ []), all-snoc cs (c ∷ []) ok (rw h refl), encodes-append cs (c ∷ []) ∙ ap (λ (t : List ℕ). t ++ (encode c ++ [])) is ∙ ap (λ (t : List ℕ). field ++ t) (append-nil (encode c)))

clean-none : IsClean []
clean-none = ([], refl, refl)

abbrev Reads : List ℕ → Type 0
Reads xs = (s : State) (fields : List (List ℕ)) (field : List ℕ) → AllClean fields → IsClean field → good s ≡ true → RecordClean (next_record default_config s fields field xs)

-- one ASCII character
ascii-after : (c : ℕ) (xs : List ℕ) (s : State) (a : Action) (fields : List (List ℕ)) (field : List ℕ) → Reads xs → AllClean fields → IsClean field → IsClean (field ++ (c ∷ [])) → good s ≡ true
    → RecordClean (if is_end a then Some (fields_after a fields field, s, xs) else next_record default_config s (fields_after a fields field) (field_after a c field) xs)
ascii-after c xs s act.EndField fields field more cs f fc g = more s (fields ++ (field ∷ [])) [] (clean-snoc fields field cs f) clean-none g
ascii-after c xs s act.Skip fields field more cs f fc g = more s fields field cs f g
ascii-after c xs s act.Copy fields field more cs f fc g = more s fields (field ++ (c ∷ [])) cs fc g
ascii-after c xs s act.EndRecord fields field more cs f fc g = clean-snoc fields field cs f

both-left : (a b : Bool) → (a && b) ≡ true → a ≡ true
both-left true b e = refl
both-left false b e = cc e

both-right : (a b : Bool) → (a && b) ≡ true → b ≡ true
both-right true b e = e
both-right false b e = cc e

not-below : (a b : ℕ) → b ≤ a → ltb a b ≡ false
not-below a b h = grind (arith, nat_tests)

-- a character past ASCII has high bytes alone
pub encode-high : (c : ℕ) → 128 ≤ c → (b : ℕ) × (bs : List ℕ) × (encode c ≡ b ∷ bs) × High (b ∷ bs)
unfolding encode
encode-high c h = rw (not-below c 128 h) (elim (cases_Bool (ltb c 2048)) [
  | inl two ↦ (192 + c / 64, next c ∷ [], rw two refl, (omega arith, (omega arith, tt)))
  | inr more ↦ elim (cases_Bool (ltb c 65536)) [
    | inl three ↦ (224 + c / 4096, next (c / 64) ∷ next c ∷ [], rw (more, three) refl, (omega arith, (omega arith, (omega arith, tt))))
    | inr four ↦ (240 + c / 262144, next (c / 4096) ∷ next (c / 64) ∷ next c ∷ [], rw (more, four) refl, (omega arith, (omega arith, (omega arith, (omega arith, tt)))))
  ]
])

-- what a high byte does in each state
high-step : (s : State) (b : ℕ) → good s ≡ true → 128 ≤ b → (step default_config s b ≡ (st.InField, act.Copy)) ⊎ (step default_config s b ≡ (st.InQuoted, act.Copy))
high-step st.StartRecord b g h = inl (rw (no-mark b 13 h (omega arith), no-mark b 10 h (omega arith), no-mark b 34 h (omega arith), no-mark b 44 h (omega arith)) refl)
high-step st.StartField b g h = inl (rw (no-mark b 34 h (omega arith), no-mark b 44 h (omega arith), no-mark b 13 h (omega arith), no-mark b 10 h (omega arith)) refl)
high-step st.InField b g h = inl (high-field b h)
high-step st.InQuoted b g h = inr (high-quoted b h)
high-step st.AfterQuote b g h = inl (rw (no-mark b 34 h (omega arith), no-mark b 44 h (omega arith), no-mark b 13 h (omega arith), no-mark b 10 h (omega arith)) refl)
high-step st.InEscape b g h = cc g
high-step st.InComment b g h = cc g
high-step st.AfterCr b g h = inl (rw (no-mark b 10 h (omega arith), no-mark b 13 h (omega arith), no-mark b 34 h (omega arith), no-mark b 44 h (omega arith)) refl)

first-copy : (s s2 : State) (b : ℕ) (fields : List (List ℕ)) (field tail : List ℕ) → step default_config s b ≡ (s2, act.Copy)
    → next_record default_config s fields field (b ∷ tail) ≡ next_record default_config s2 fields (field ++ (b ∷ [])) tail
unfolding next_record
first-copy s s2 b fields field tail e = rw e refl

at-end : (s : State) (fields : List (List ℕ)) (field : List ℕ) → AllClean fields → IsClean field → RecordClean (next_record default_config s fields field [])
unfolding next_record
at-end st.StartRecord fields field cf f = tt
at-end st.AfterCr fields field cf f = tt
at-end other fields field cf f = clean-snoc fields field cf f

-- a high character joins the field at hand
high-run : (s s2 : State) (b : ℕ) (bs tail : List ℕ) (fields : List (List ℕ)) (field : List ℕ) → step default_config s b ≡ (s2, act.Copy) → Runs default_config s2 bs
    → next_record default_config s fields field ((b ∷ bs) ++ tail) ≡ next_record default_config s2 fields (field ++ (b ∷ bs)) tail
high-run s s2 b bs tail fields field e runs =
    first-copy s s2 b fields field (bs ++ tail) e ∙ run-copies default_config s2 fields (field ++ (b ∷ [])) bs tail runs
    ∙ ap (λ (t : List ℕ). next_record default_config s2 fields t tail) (append_assoc field (b ∷ []) bs)

abbrev Clean-after : State → List (List ℕ) → List ℕ → List ℕ → Type 0
Clean-after s fields field xs = RecordClean (next_record default_config s fields field xs)

ascii-char : (c : ℕ) (xs : List ℕ) (s : State) (fields : List (List ℕ)) (field : List ℕ) → Reads xs → AllClean fields → IsClean field → IsClean (field ++ (c ∷ [])) → good s ≡ true → Clean-after s fields field (c ∷ xs)
unfolding next_record
ascii-char c xs s fields field more cf f fc g = ascii-after c xs (step default_config s c).0 (step default_config s c).1 fields field more cf f fc (good-step s c g)

-- the fields of the record that is read of clean text are clean
pub reads-clean : (cs : List ℕ) → list_all is_plain_char cs ≡ true → Reads (encodes cs)
reads-clean [] ok s fields field cf f g = at-end s fields field cf f
reads-clean (c ∷ cs) ok s fields field cf f g =
    let plain : is_plain_char c ≡ true = both-left (is_plain_char c) (list_all is_plain_char cs) ok in
    let rest : list_all is_plain_char cs ≡ true = both-right (is_plain_char c) (list_all is_plain_char cs) ok in
    let more : Reads (encodes cs) = reads-clean cs rest in
    ⊎_elim
    (λ (low : c < 128).
    let e = encode_ascii c low in
    subst (λ (t : List ℕ). Clean-after s fields field (t ++ encodes cs)) (sym e)
    (ascii-char c (encodes cs) s fields field more cf f (subst (λ (t : List ℕ). IsClean (field ++ t)) e (clean-more field c f plain)) g))
    (λ (high : 128 ≤ c).
    let (b, bs, e, h) = encode-high c high in
    let joined : IsClean (field ++ (b ∷ bs)) = subst (λ (t : List ℕ). IsClean (field ++ t)) e (clean-more field c f plain) in
    subst (λ (t : List ℕ). Clean-after s fields field (t ++ encodes cs)) (sym e)
    (⊎_elim
    (λ (i : step default_config s b ≡ (st.InField, act.Copy)). subst RecordClean (sym (high-run s st.InField b bs (encodes cs) fields field i (field-runs bs h.1))) (more st.InField fields (field ++ (b ∷ bs)) cf joined refl))
    (λ (q : step default_config s b ≡ (st.InQuoted, act.Copy)). subst RecordClean (sym (high-run s st.InQuoted b bs (encodes cs) fields field q (quoted-runs bs h.1))) (more st.InQuoted fields (field ++ (b ∷ bs)) cf joined refl))
    (high-step s b g h.0)))
    (cases_lt c 128)
