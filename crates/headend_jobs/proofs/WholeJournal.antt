-- A whole journal by its callers: what stands behind a part of it, and which swaps it has.
use Rattle.std.proofs.Common.{◌≡◌, ◌≢◌, ◌⊎◌, ⊎_elim, inl, inr, ℕ, ◌==◌, List, [], ◌∷◌, ◌++◌, Bool, false, refl, sym, ap, ◌∙◌, subst, append-nil, eq-eqb, ne_eqb}
use Rattle.std.specs.Prelude.{None, if◌then◌else◌}
use Rattle.std.specs.List.{AllByRecursion}
use Rattle.std.proofs.lemmas.List.{append_cancel_left, append_cancel_right}
use Rattle.std.proofs.lemmas.List.Elements.{filter-append}
use native.Mathlib.Decide.{ℕ_discrete}
use mathlib.Core.Logic.{dite}
use Rattle.mux_model.specs.declared.mux.Mux.{Mux}
use Rattle.si_time.specs.declared.moment.Moment.{Moment}
use Rattle.journal_model.specs.declared.step.Step.{Step}
use Rattle.journal_model.specs.declared.step.Step.TheVariants.{Edit as edit, Tick, Publish, Swap}
use Rattle.journal_model.specs.declared.step.Entry.{Entry}
use Rattle.desk_core.specs.Journal.{Legal, LegalAfter, moment_of, outcome_of}
use Rattle.desk_core.specs.Publications.{aired_by, swaps}
use Rattle.desk_core.proofs.DerivedFacts.{not_aired}
use Rattle.journal_air.specs.OnAir.{is_swap}
use Rattle.turn_lock.specs.declared.known.Caller.{Caller}
use Rattle.turn_lock.specs.Journal.{entries_of}
use Rattle.turn_lock.specs.Knowledge.{NotLowest}
use Rattle.desk_hall.specs.Turn.{caller_of}
use Rattle.headend_jobs.specs.Whole.{IsWhole, NoSwaps, SwapsNot}
use Rattle.journal_air.proofs.SwapFacts.{swaps-append}

abbrev pub of : ℕ → List Entry → List Entry
of k journal = entries_of caller_of k journal

of_append : (k : ℕ) (xs ys : List Entry) → of k (xs ++ ys) ≡ of k xs ++ of k ys
of_append k xs ys = filter-append (λ (e : Entry). e.who == k) xs ys

pub of_mine : (k : ℕ) (e : Entry) (es : List Entry) → e.who ≡ k → of k (e ∷ es) ≡ e ∷ of k es
of_mine k e es is = ap (λ (b : Bool). if b then e ∷ of k es else of k es) (eq-eqb e.who k is)

pub of_other : (k : ℕ) (e : Entry) (es : List Entry) → e.who ≢ k → of k (e ∷ es) ≡ of k es
of_other k e es ne = ap (λ (b : Bool). if b then e ∷ of k es else of k es) (ne_eqb e.who k ne)

empty_left : (xs ys : List Entry) → xs ++ ys ≡ [] → xs ≡ []
empty_left [] ys e = refl
empty_left (x ∷ xs) ys e = absurd (cc e)

empty_right : (xs ys : List Entry) → xs ++ ys ≡ [] → ys ≡ []
empty_right [] ys e = e
empty_right (x ∷ xs) ys e = absurd (cc e)

-- entries that are all of one caller
only : (n : ℕ) (ys : List Entry) → ((k : ℕ) → k ≢ n → of k ys ≡ []) → ys ≡ of n ys
only n [] none = refl
only n (y ∷ ys) none = dite (ℕ_discrete y.who n)
    (λ is. ap (λ (l : List Entry). y ∷ l) (only n ys (λ k ne. empty_right (of k (y ∷ [])) (of k ys) (sym (of_append k (y ∷ []) ys) ∙ none k ne))) ∙ sym (of_mine n y ys is))
    (λ ne. absurd (let h = sym (of_mine y.who y ys refl) ∙ none y.who ne in cc h))

-- of a caller that made nothing behind xs, nothing stands there
none_behind : (k : ℕ) (xs ys made : List Entry) → of k xs ≡ made → of k (xs ++ ys) ≡ made → of k ys ≡ []
none_behind k xs ys made a b = append_cancel_left made (of k ys) [] (ap (λ (l : List Entry). l ++ of k ys) (sym a) ∙ sym (of_append k xs ys) ∙ b ∙ sym (append-nil made))

-- whether k is the lowest number of one of the callers, whose facts then hold
find : (P : ℕ → Type 0) (cs : List (Caller Entry)) (k : ℕ) → AllByRecursion (λ (c : Caller Entry). P c.low) cs → P k ⊎ NotLowest cs k
find P [] k all = inr tt
find P (c ∷ cs) k all = dite (ℕ_discrete k c.low)
    (λ is. inl (subst P (sym is) all.0))
    (λ ne. ⊎_elim (λ h. inl h) (λ h. inr (ne, h)) (find P cs k all.1))

both : (P Q R : Caller Entry → Type 0) → ((c : Caller Entry) → P c → Q c → R c) → (cs : List (Caller Entry)) → AllByRecursion P cs → AllByRecursion Q cs → AllByRecursion R cs
both P Q R f [] p q = tt
both P Q R f (c ∷ cs) p q = (f c p.0 q.0, both P Q R f cs p.1 q.1)

-- What stands behind a part of a whole journal, where the pass alone has made more since then.
pub rest_is : (own own' : Caller Entry) (fin : List (Caller Entry)) (xs ys added : List Entry) → own'.low ≡ own.low → own'.made ≡ own.made ++ added
    → AllByRecursion (λ (c : Caller Entry). of c.low xs ≡ c.made) (own ∷ fin) → IsWhole (xs ++ ys) (own' ∷ fin) → ys ≡ added
rest_is own own' fin xs ys added low made before whole =
    let mine : of own.low ys ≡ added =
    append_cancel_left own.made (of own.low ys) added
    (ap (λ (l : List Entry). l ++ of own.low ys) (sym before.0) ∙ sym (of_append own.low xs ys) ∙ ap (λ (k : ℕ). of k (xs ++ ys)) (sym low) ∙ whole.made.0 ∙ made) in
    let each : AllByRecursion (λ (c : Caller Entry). of c.low ys ≡ []) fin =
    both (λ c. of c.low xs ≡ c.made) (λ c. of c.low (xs ++ ys) ≡ c.made) (λ c. of c.low ys ≡ []) (λ c a b. none_behind c.low xs ys c.made a b) fin before.1 whole.made.1 in
    only own.low ys (λ k ne. ⊎_elim (λ h. h)
    (λ (h : NotLowest fin k). empty_right (of k xs) (of k ys) (sym (of_append k xs ys) ∙ whole.others k (subst (λ (n : ℕ). k ≢ n) (sym low) ne, h)))
    (find (λ k. of k ys ≡ []) fin k each))
    ∙ mine

-- A part of a whole journal is whole too, where what stands behind it is the pass's own.
pub front_whole : (own own' : Caller Entry) (fin : List (Caller Entry)) (xs ys : List Entry) → own'.low ≡ own.low → own'.made ≡ own.made ++ ys → of own.low ys ≡ ys
    → AllByRecursion (λ (c : Caller Entry). of c.low ys ≡ []) fin → IsWhole (xs ++ ys) (own' ∷ fin) → IsWhole xs (own ∷ fin)
front_whole own own' fin xs ys low made mine none whole = record {
  made = (
    append_cancel_right (of own.low xs) own.made ys
        (ap (λ (l : List Entry). of own.low xs ++ l) (sym mine) ∙ sym (of_append own.low xs ys) ∙ ap (λ (k : ℕ). of k (xs ++ ys)) (sym low) ∙ whole.made.0 ∙ made),
    both (λ c. of c.low ys ≡ []) (λ c. of c.low (xs ++ ys) ≡ c.made) (λ c. of c.low xs ≡ c.made)
        (λ c a b. sym (append-nil (of c.low xs)) ∙ ap (λ (l : List Entry). of c.low xs ++ l) (sym a) ∙ sym (of_append c.low xs ys) ∙ b) fin none whole.made.1,
  );
  others = λ k h. empty_left (of k xs) (of k ys) (sym (of_append k xs ys) ∙ whole.others k (subst (λ (n : ℕ). k ≢ n) (sym low) h.0, h.1));
}

-- ---- which entries are swaps

-- what holds of each caller's entries holds of all
pub of_all : (P : ℕ → Entry → Type 0) (journal : List Entry) → ((k : ℕ) → AllByRecursion (P k) (of k journal)) → AllByRecursion (λ (e : Entry). P e.who e) journal
of_all P [] all = tt
of_all P (e ∷ es) all = (
  (subst (λ (l : List Entry). AllByRecursion (P e.who) l) (of_mine e.who e es refl) (all e.who)).0,
  of_all P es (λ k. dite (ℕ_discrete e.who k)
      (λ is. (subst (λ (l : List Entry). AllByRecursion (P k) l) (of_mine k e es is) (all k)).1)
      (λ ne. subst (λ (l : List Entry). AllByRecursion (P k) l) (of_other k e es ne) (all k))),
)

-- not n's, so no swap
abbrev IsNone : ℕ → ℕ → Entry → Type 0
IsNone n k e = k ≢ n → is_swap e.step ≡ false

all_none : (n k : ℕ) (entries : List Entry) → (k ≢ n → NoSwaps entries) → AllByRecursion (IsNone n k) entries
all_none n k [] h = tt
all_none n k (e ∷ es) h = ((λ ne. (h ne).0), all_none n k es (λ ne. (h ne).1))

-- only n's entries of a whole journal are swaps, where no other caller made one
pub swaps_of_one : (n : ℕ) (journal : List Entry) (cs : List (Caller Entry)) → IsWhole journal cs → AllByRecursion (SwapsNot n) cs → AllByRecursion (λ (e : Entry). IsNone n e.who e) journal
swaps_of_one n journal cs whole none =
    of_all (IsNone n) journal (λ k. all_none n k (of k journal) (λ ne. ⊎_elim (λ h. h ne)
    (λ h. subst NoSwaps (sym (whole.others k h)) tt)
    (find (λ k. k ≢ n → NoSwaps (of k journal)) cs k
    (both (SwapsNot n) (λ c. of c.low journal ≡ c.made) (λ c. c.low ≢ n → NoSwaps (of c.low journal)) (λ c s e ne. subst NoSwaps (sym e) (s ne)) cs none whole.made))))

-- ---- swaps

no_swap_airs : (mux : Mux) (before : List Entry) (step : Step) → is_swap step ≡ false → aired_by (outcome_of mux before step) ≡ None
no_swap_airs mux before Swap h = cc h
no_swap_airs mux before Publish h = refl
no_swap_airs mux before (edit feed e) h = refl
no_swap_airs mux before (Tick at) h = not_aired (moment_of mux before) at

-- of a legal journal, the entries of others put nothing on air
others_none : (n : ℕ) (mux : Mux) (before entries : List Entry) → LegalAfter mux before entries → AllByRecursion (λ (e : Entry). IsNone n e.who e) entries → AllByRecursion (λ (e : Entry). e.who ≢ n → aired_by e.outcome ≡ None) entries
others_none n mux before [] legal none = tt
others_none n mux before (e ∷ es) legal none =
    ((λ ne. ap aired_by legal.0 ∙ no_swap_airs mux before e.step (none.0 ne)), others_none n mux (before ++ e ∷ []) es legal.1 none.1)

pub swaps_none : (e : Entry) → aired_by e.outcome ≡ None → swaps (e ∷ []) ≡ []
swaps_none e none = rw none refl

-- so the swaps are those of one caller's entries
pub swaps_by_one : (n : ℕ) (entries : List Entry) → AllByRecursion (λ (e : Entry). e.who ≢ n → aired_by e.outcome ≡ None) entries → swaps entries ≡ swaps (of n entries)
swaps_by_one n [] none = refl
swaps_by_one n (e ∷ es) none = dite (ℕ_discrete e.who n)
    (λ is. swaps-append (e ∷ []) es ∙ ap (λ (l : List (ℕ × Moment)). swaps (e ∷ []) ++ l) (swaps_by_one n es none.1) ∙ sym (swaps-append (e ∷ []) (of n es)) ∙ ap swaps (sym (of_mine n e es is)))
    (λ ne. swaps-append (e ∷ []) es ∙ ap (λ (l : List (ℕ × Moment)). l ++ swaps es) (swaps_none e (none.0 ne)) ∙ swaps_by_one n es none.1 ∙ ap swaps (sym (of_other n e es ne)))

-- The swaps of a part of a journal, in which one caller alone made any.
pub swaps_part : (n : ℕ) (mux : Mux) (front made : List Entry) (cs : List (Caller Entry)) → Legal mux front → IsWhole front cs → AllByRecursion (SwapsNot n) cs → of n front ≡ made
    → swaps front ≡ swaps made
swaps_part n mux front made cs legal whole none is =
    swaps_by_one n front (others_none n mux [] front legal (swaps_of_one n front cs whole none)) ∙ ap swaps is
