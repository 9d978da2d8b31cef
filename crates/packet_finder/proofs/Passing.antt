-- Bytes that are passed over, stretch by stretch.
use Rattle.std.proofs.Common.{◌≡◌, ℕ, ◌+◌, ◌-◌, ◌<◌, ◌≤◌, ◌⊎◌, Bool, true, false, List, [], ◌∷◌, ◌++◌, length, take, drop, refl, sym, ap, subst, ◌∙◌, arith, append-nil, append_assoc, length-append, length-drop, length-take-le, inl, inr}
use Rattle.std.specs.Prelude.{is_some, Some, None, Option, Result}
use Rattle.std.specs.Io.KnownBytes.{Consumes}
use Rattle.std.proofs.lemmas.List.{drop-append-le, take-append-drop, drop_all}
use Rattle.packet_reader.specs.Reading.{Gathers}
use Rattle.packet_finder.specs.Pieces.{row_length, before_row}
use Rattle.packet_finder.specs.Steps.{MayFollow, AreBeforeRow, IsAtRow, HoldsRow, PassesOver, PassedTo}
use Rattle.packet_finder.specs.declared.stop.FindStop.{FindStop}
use Rattle.packet_finder.proofs.RowFacts.{length_front, before_places}

false-true : false ≡ true → ⊥
false-true e = cc

-- no row begins in the first n bytes of those that are held
pub record NoRow (ended : Bool) (held : List ℕ) (n : ℕ) : Type 0 where
  pub within : n ≤ length held
  pub none : (i : ℕ) → i < n → row_length (drop i held) ≡ None
  pub judged : ended ≡ false → (i : ℕ) → i < n → 409 ≤ length held - i

pub rowless_of : (ended : Bool) (bytes held : List ℕ) (n : ℕ) → bytes ≡ held → n ≤ length bytes → ((i : ℕ) → i < n → row_length (drop i bytes) ≡ None) → (ended ≡ false → (i : ℕ) → i < n → 409 ≤ length bytes - i)
    → NoRow ended held n
rowless_of ended bytes held n same within none judged = subst (λ l. NoRow ended l n) same (record { within = within; none = none; judged = judged })

none_behind : (ended : Bool) (held behind : List ℕ) (n : ℕ) → NoRow ended held n → MayFollow ended behind → (i : ℕ) → i < n → row_length (drop i (held ++ behind)) ≡ None
none_behind true held behind n rowless may i lt = ap (λ l. row_length (drop i (held ++ l))) (may refl) ∙ ap (λ l. row_length (drop i l)) (append-nil held) ∙ rowless.none i lt
none_behind false held behind n rowless may i lt =
    ap row_length (drop-append-le i held behind (omega (arith, lt, rowless.within)))
    ∙ length_front (drop i held) behind (let enough = rowless.judged refl i lt in omega (arith, enough, length-drop i held))
    ∙ rowless.none i lt

parted : (n : ℕ) (held behind : List ℕ) → held ++ behind ≡ take n held ++ (drop n held ++ behind)
parted n held behind = ap (λ l. l ++ behind) (sym (take-append-drop n held)) ∙ append_assoc (take n held) (drop n held) behind

before_held : (ended : Bool) (held behind : List ℕ) (n : ℕ) → NoRow ended held n → MayFollow ended behind → before_row (held ++ behind) ≡ n + before_row (drop n held ++ behind)
before_held ended held behind n rowless may =
    let size : length (take n held) ≡ n = length-take-le n held rowless.within in
    let front = parted n held behind in
    ap before_row front
    ∙ before_places (take n held) (drop n held ++ behind)
    (λ i lt. ap (λ l. row_length (drop i l)) (sym front) ∙ none_behind ended held behind n rowless may i (omega (arith, lt, size)))
    ∙ ap (λ k. k + before_row (drop n held ++ behind)) size

-- n bytes more are passed over
pub more_passed : (ended then : Bool) (passed held more : List ℕ) (n : ℕ) → AreBeforeRow ended passed held → MayFollow ended more → (ended ≡ true → then ≡ true) → NoRow then (held ++ more) n
    → AreBeforeRow then (passed ++ take n (held ++ more)) (drop n (held ++ more))
more_passed ended then passed held more n before none stays rowless = λ behind may.
    let now = held ++ more in
    let both : MayFollow ended (more ++ behind) = λ e. ap (λ l. l ++ behind) (none e) ∙ may (stays e) in
    let size : length (take n now) ≡ n = length-take-le n now rowless.within in
    let all : (passed ++ take n now) ++ (drop n now ++ behind) ≡ passed ++ (held ++ (more ++ behind)) =
    append_assoc passed (take n now) (drop n now ++ behind) ∙ ap (λ l. passed ++ l) (sym (parted n now behind) ∙ append_assoc held more behind) in
    let rest : before_row (held ++ (more ++ behind)) ≡ n + before_row (drop n now ++ behind) = ap before_row (sym (append_assoc held more behind)) ∙ before_held then now behind n rowless may in
    let a = ap before_row all in
    let b = before (more ++ behind) both in
    let size_all = length-append passed (take n now) in
    omega (arith, a, b, rest, size, size_all)

-- and so are the bytes that were held
pub passed_parted : (start more last passed held : List ℕ) (n : ℕ) → start ++ more ≡ passed ++ held → start ++ (more ++ last) ≡ (passed ++ take n (held ++ last)) ++ drop n (held ++ last)
passed_parted start more last passed held n e =
    sym (append_assoc start more last) ∙ ap (λ l. l ++ last) e ∙ append_assoc passed held last ∙ ap (λ l. passed ++ l) (sym (take-append-drop n (held ++ last)))
    ∙ sym (append_assoc passed (take n (held ++ last)) (drop n (held ++ last)))

pub consumes_more : (a b c : Option (List ℕ)) (xs ys : List ℕ) → Consumes a b xs → Consumes b c ys → Consumes a c (xs ++ ys)
consumes_more None b c xs ys x y = tt
consumes_more (Some l) None c xs ys x y = absurd x
consumes_more (Some l) (Some m) None xs ys x y = absurd y
consumes_more (Some l) (Some m) (Some k) xs ys x y = x ∙ ap (λ t. xs ++ t) y ∙ sym (append_assoc xs ys k)

-- where the bytes passed over end
pub at_stop : (ended : Bool) (held : List ℕ) (n : ℕ) → (is_some (row_length (drop n held)) ≡ true) ⊎ ((ended ≡ false) × (length held - n < 409)) ⊎ (n ≡ length held)
    → (ended ≡ false → 409 ≤ length (drop n held)) → IsAtRow ended (drop n held)
at_stop ended held n (inl row) enough = inl (row, enough)
at_stop ended held n (inr (inl (going, few))) enough = absurd (let e = enough going in omega (arith, e, few, length-drop n held))
at_stop true held n (inr (inr all)) enough = inr (refl, ap (λ k. drop k held) all ∙ drop_all (length held) held (omega arith))
at_stop false held n (inr (inr all)) enough = absurd (let e = enough refl in omega (arith, e, all, length-drop n held))

-- where the first row that is held can be judged, it is reached at once
pub none_short : (ended : Bool) (held : List ℕ) (n : ℕ) → HoldsRow ended held → ended ≡ false → NoRow ended held n → length (drop n held) < 409 → ⊥
none_short ended held n (inl over) going rowless few = false-true (sym going ∙ over)
none_short ended held n (inr enough) going rowless few =
    let before = before_held ended held [] n rowless (λ e. refl) in
    let all = ap before_row (append-nil held) in
    let size = length-drop n held in
    let rest = length-drop (before_row held) held in
    omega (arith, enough, few, before, all, size, rest)

pub none_at_once : (before then : Bool) (held now : List ℕ) (n : ℕ) → HoldsRow before held → (before ≡ true → then ≡ true) → (409 ≤ length held → now ≡ held) → then ≡ false → NoRow then now n → length (drop n now) < 409 → ⊥
none_at_once before then held now n (inl over) stays same going rowless few = false-true (sym going ∙ stays over)
none_at_once before then held now n (inr enough) stays same going rowless few =
    let is = same (omega (arith, enough, length-drop (before_row held) held)) in
    none_short then now n (inr (subst (λ l. 409 ≤ length (drop (before_row l) l)) (sym is) enough)) going rowless few

-- ---- stretch by stretch

-- The source gave some bytes, and n of all were passed over.
pub record HasPassed (left_old left_new : Option (List ℕ)) (ended_old ended_new : Bool) (held_old held_new : List ℕ) (n : ℕ) : Type 0 where
  pub more : List ℕ
  pub passed : List ℕ
  pub gave : Consumes left_old left_new more
  pub none : MayFollow ended_old more
  pub stays : ended_old ≡ true → ended_new ≡ true
  pub parted : held_old ++ more ≡ passed ++ held_new
  pub no_row : AreBeforeRow ended_new passed held_new
  pub size : n ≡ length passed

consumes_none : (a : Option (List ℕ)) → Consumes a a []
consumes_none None = tt
consumes_none (Some xs) = refl

pub none_passed : (left : Option (List ℕ)) (ended : Bool) (held : List ℕ) → HasPassed left left ended ended held held 0
none_passed left ended held = record {
  more = [];
  passed = [];
  gave = consumes_none left;
  none = λ e. refl;
  stays = λ e. e;
  parted = append-nil held;
  no_row = λ behind may. omega arith;
  size = refl;
}

none_last : (held last now : List ℕ) → now ≡ held ++ last → now ≡ held → last ≡ []
none_last held [] now e same = refl
none_last held (b ∷ last) now e same = absurd (let a = ap length (sym e ∙ same) in omega (arith, a, length-append held (b ∷ last)))

pub then_passed : (left_old left_mid left_new : Option (List ℕ)) (ended_old ended_mid ended_new : Bool) (held_old held_mid held : List ℕ) (n k : ℕ)
    → HasPassed left_old left_mid ended_old ended_mid held_old held_mid n → Gathers left_mid left_new held_mid held → (ended_mid ≡ true → (ended_new ≡ true) × (held ≡ held_mid)) → NoRow ended_new held k
    → HasPassed left_old left_new ended_old ended_new held_old (drop k held) (n + k)
then_passed left_old left_mid left_new ended_old ended_mid ended_new held_old held_mid held n k before gathers over rowless =
    let last = gathers.0 in
    let now = gathers.1 in
    let none : MayFollow ended_mid last = λ e. none_last held_mid last held now (over e).1 in
    record {
      more = before.more ++ last;
      passed = before.passed ++ take k held;
      gave = consumes_more left_old left_mid left_new before.more last before.gave gathers.2;
      none = λ e. ap (λ l. l ++ last) (before.none e) ∙ none (before.stays e);
      stays = λ e. (over (before.stays e)).0;
      parted = passed_parted held_old before.more last before.passed held_mid k before.parted ∙ ap (λ l. (before.passed ++ take k l) ++ drop k l) (sym now);
      no_row = subst (λ l. AreBeforeRow ended_new (before.passed ++ take k l) (drop k l)) (sym now)
          (more_passed ended_mid ended_new before.passed held_mid last k before.no_row none (λ e. (over e).0) (subst (λ l. NoRow ended_new l k) now rowless));
      size = (let a = before.size in omega (arith, a, length-append before.passed (take k held), length-take-le k held rowless.within));
    }

-- and where it ends
pub passes_over : (left_old left_new : Option (List ℕ)) (ended_old ended_new : Bool) (held_old held_new : List ℕ) (n : ℕ) (result : Result ℕ FindStop) (done : HasPassed left_old left_new ended_old ended_new held_old held_new n)
    → PassedTo ended_new done.passed held_new result → PassesOver left_old left_new ended_old ended_new held_old held_new result
passes_over left_old left_new ended_old ended_new held_old held_new n result done to = record {
  more = done.more;
  passed = done.passed;
  gave = done.gave;
  none = done.none;
  stays = done.stays;
  parted = done.parted;
  no_row = done.no_row;
  passed_to = to;
}
