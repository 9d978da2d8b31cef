-- One more entry, and what it puts on air.
use Rattle.std.proofs.Common.{◌≡◌, ℕ, ◌≤◌, true, false, List, [], ◌∷◌, ◌++◌, take, refl, sym, ap, ◌∙◌, subst, arith, append-nil, append_assoc}
use Rattle.std.specs.Prelude.{map, Option, Some, None, Result, Ok, Err, OnOk}
use mathlib.Core.List.{map-append}
use Rattle.std.specs.List.{AllByRecursion, cons_option}
use Rattle.std.specs.Io.KnownBytes.{Appends}
use Rattle.std.proofs.KnownBytes.{Appends-trans}
use Rattle.std.proofs.lemmas.List.Elements.{filter_map-append}
use Rattle.si_time.specs.declared.moment.Moment.{Moment}
use Rattle.guide_model.specs.declared.guide.Guide.{Guide}
use Rattle.mux_model.specs.declared.mux.Mux.{Mux}
use Rattle.version_book.specs.Airings.{CycleForm, AiredTables}
use Rattle.air_model.specs.Air.{Aired, airings_of, air_bytes}
use Rattle.air_model.proofs.Airs.{airings_of-push, air_bytes-push}
use Rattle.cycle_player.specs.Airs.{cycle_at, IsAirAt}
use Rattle.cycle_player.proofs.Airs.{made_push}
use Rattle.cycle_player.specs.Sending.{Sending, AtEnd}
use Rattle.journal_model.specs.declared.step.Step.{Step}
use Rattle.journal_model.specs.declared.step.Step.TheVariants.{Edit as edit, Tick, Publish, Swap}
use Rattle.journal_model.specs.declared.step.Outcome.{Outcome}
use Rattle.journal_model.specs.declared.step.Entry.{Entry}
use Rattle.desk_core.specs.Journal.{publishes, moment_of, outcome_of, LegalAfter, Legal}
use Rattle.desk_core.specs.Publications.{aired_by, publication, swaps}
use Rattle.desk_core.specs.Desks.{DeskState}
use Rattle.desk_core.proofs.DerivedFacts.{not_aired}
use Rattle.desk_core.proofs.JournalFacts.{publication-kept, aired-swap, legal_more}
use Rattle.publication.specs.Tables.{tables_of}
use Rattle.journal_air.specs.Air.{mux_form, airings, airings_by, airing_at}
use Rattle.journal_air.specs.OnAir.{AreAlike, cycle_bytes, airing_on, IsPlayerOf, HasSentAll, HasAired, SentCycle, AiredTo, and_step, is_swap}
use Rattle.journal_air.specs.declared.send.SendStop.{SendStop}
use Rattle.journal_air.specs.declared.send.SendStop.TheVariants.{Air as OnFault, Memory}

-- ---- the airing list with one more entry

abbrev IsKnown : ℕ → Option (ℕ × Moment) → Type 0
IsKnown k None = Unit {0}
IsKnown k (Some aired) = aired.0 ≤ k

-- the swaps of entries, part by part
pub swaps-append : (xs ys : List Entry) → swaps (xs ++ ys) ≡ swaps xs ++ swaps ys
swaps-append xs ys = filter_map-append (λ (y : Entry). aired_by y.outcome) xs ys

-- what entries put on air, part by part
pub airings-append : (mux : Mux) (journal xs ys : List Entry) → airings_by mux journal (xs ++ ys) ≡ airings_by mux journal xs ++ airings_by mux journal ys
airings-append mux journal xs ys =
    ap (map (airing_at mux journal)) (swaps-append xs ys) ∙ map-append (airing_at mux journal) (swaps xs) (swaps ys)

pub publishes-front : (xs ys : List Entry) → publishes xs ≤ publishes (xs ++ ys)
publishes-front [] ys = omega arith
publishes-front (x ∷ xs) ys = omega (arith, publishes-front xs ys)

step_known : (mux : Mux) (before : List Entry) (step : Step) (k : ℕ) → publishes before ≤ k → IsKnown k (aired_by (outcome_of mux before step))
step_known mux before (edit feed e) k le = tt
step_known mux before (Tick at) k le = subst (IsKnown k) (sym (not_aired (moment_of mux before) at)) tt
step_known mux before Publish k le = tt
step_known mux before Swap k le = le

legal_known : (mux : Mux) (before entries : List Entry) (k : ℕ) → LegalAfter mux before entries → publishes (before ++ entries) ≤ k → AllByRecursion (λ (e : Entry). IsKnown k (aired_by e.outcome)) entries
legal_known mux before [] k legal le = tt
legal_known mux before (e ∷ es) k legal le = (
  subst (λ (o : Outcome). IsKnown k (aired_by o)) (sym legal.0) (step_known mux before e.step k (omega (arith, publishes-front before (e ∷ es)))),
  legal_known mux (before ++ e ∷ []) es k legal.1 (subst (λ (l : List Entry). publishes l ≤ k) (sym (append_assoc before (e ∷ []) es)) le),
)

same_airing : (mux : Mux) (xs : List Entry) (e : Entry) (swap : ℕ × Moment) → swap.0 ≤ publishes xs → airing_at mux (xs ++ e ∷ []) swap ≡ airing_at mux xs swap
same_airing mux xs e swap known =
    ap (λ (g : Guide). let a : AiredTables = record { tables = tables_of mux g; moment = swap.1.0; form = mux_form mux } in a) (publication-kept mux xs e swap.0 known)

same_airings : (mux : Mux) (xs : List Entry) (e : Entry) (ys : List Entry) → AllByRecursion (λ (y : Entry). IsKnown (publishes xs) (aired_by y.outcome)) ys
    → airings_by mux (xs ++ e ∷ []) ys ≡ airings_by mux xs ys
same_airings mux xs e [] known = refl
same_airings mux xs e (y ∷ ys) known = go (aired_by y.outcome) known.0 (same_airings mux xs e ys known.1)
  where
    go : (o : Option (ℕ × Moment)) → IsKnown (publishes xs) o → airings_by mux (xs ++ e ∷ []) ys ≡ airings_by mux xs ys
        → map (airing_at mux (xs ++ e ∷ [])) (cons_option o (swaps ys)) ≡ map (airing_at mux xs) (cons_option o (swaps ys))
    go None is rest = rest
    go (Some swap) is rest = rw (same_airing mux xs e swap is, rest) refl

pub airings-push : (mux : Mux) (xs : List Entry) (e : Entry) → Legal mux xs → airings mux (xs ++ e ∷ []) ≡ airings mux xs ++ airings_by mux (xs ++ e ∷ []) (e ∷ [])
airings-push mux xs e legal =
    airings-append mux (xs ++ e ∷ []) xs (e ∷ [])
    ∙ ap (λ (l : List AiredTables). l ++ airings_by mux (xs ++ e ∷ []) (e ∷ [])) (same_airings mux xs e xs (legal_known mux [] xs (publishes xs) legal (omega arith)))

pub airings-other : (mux : Mux) (xs : List Entry) (e : Entry) → Legal mux xs → aired_by e.outcome ≡ None → airings mux (xs ++ e ∷ []) ≡ airings mux xs
airings-other mux xs e legal none = airings-push mux xs e legal ∙ rw none (append-nil (airings mux xs))

-- a desk after a swap: its airing list goes on with what is on air
pub airings-swap : (mux : Mux) (xs : List Entry) (e : Entry) (aired : ℕ × Moment) → Legal mux xs → aired_by e.outcome ≡ Some aired
    → airings mux (xs ++ e ∷ []) ≡ airings mux xs ++ airing_on (record { mux = mux; entries = xs ++ e ∷ [] }) (mux_form mux) ∷ []
airings-swap mux xs e aired legal some =
    airings-push mux xs e legal
    ∙ rw some (ap (λ (a : ℕ × Moment). let y : AiredTables = record { tables = tables_of mux (publication mux (xs ++ e ∷ []) a.0); moment = a.1.0; form = mux_form mux } in airings mux xs ++ y ∷ []) (sym (aired-swap mux xs e aired some)))

-- ---- a step, and what is on air after it

pub step_legal : (desk : DeskState) (who : ℕ) (step : Step) → Legal desk.mux desk.entries → Legal (and_step desk who step).mux (and_step desk who step).entries
step_legal desk who step legal = legal_more desk.mux [] desk.entries (record { who = who; step = step; outcome = outcome_of desk.mux desk.entries step }) legal refl

pub swap_airs : (mux : Mux) (xs : List Entry) (step : Step) → is_swap step ≡ true → aired_by (outcome_of mux xs step) ≡ Some (publishes xs, moment_of mux xs)
swap_airs mux xs Swap h = refl
swap_airs mux xs Publish h = cc
swap_airs mux xs (edit feed e) h = cc
swap_airs mux xs (Tick at) h = cc

other_airs : (mux : Mux) (xs : List Entry) (step : Step) → is_swap step ≡ false → aired_by (outcome_of mux xs step) ≡ None
other_airs mux xs Swap h = cc
other_airs mux xs Publish h = refl
other_airs mux xs (edit feed e) h = refl
other_airs mux xs (Tick at) h = not_aired (moment_of mux xs) at

is_swap-Swap : (step : Step) → is_swap step ≡ true → step ≡ Swap
is_swap-Swap Swap h = refl
is_swap-Swap Publish h = cc
is_swap-Swap (edit feed e) h = cc
is_swap-Swap (Tick at) h = cc

pub other_airings : (desk : DeskState) (who : ℕ) (step : Step) → Legal desk.mux desk.entries → is_swap step ≡ false → airings desk.mux desk.entries ≡ airings (and_step desk who step).mux (and_step desk who step).entries
other_airings desk who step legal h =
    sym (airings-other desk.mux desk.entries (record { who = who; step = step; outcome = outcome_of desk.mux desk.entries step }) legal (other_airs desk.mux desk.entries step h))

other_sent : (earlier : List Aired) (desk : DeskState) (who : ℕ) (step : Step) (player : Sending) (xs : List Aired) → Legal desk.mux desk.entries → is_swap step ≡ false → HasSentAll earlier desk player xs → HasSentAll earlier (and_step desk who step) player xs
other_sent earlier desk who step player xs legal h sent =
    record { at_end = sent.at_end; airings_are = sent.airings_are ∙ other_airings desk who step legal h; made = sent.made; player_of = sent.player_of }

pub other_aired : (earlier : List Aired) (desk : DeskState) (who : ℕ) (step : Step) (player : Sending) (before now : Option (List ℕ)) → Legal desk.mux desk.entries → is_swap step ≡ false → HasAired earlier desk player before now → HasAired earlier (and_step desk who step) player before now
other_aired earlier desk who step player before now legal h (xs, sent, bytes) = (xs, other_sent earlier desk who step player xs legal h sent, bytes)

swap_airings : (desk : DeskState) (who : ℕ) (step : Step) (xs : List Aired) (x : Aired) → Legal desk.mux desk.entries → is_swap step ≡ true → airings_of xs ≡ airings desk.mux desk.entries → x.airing ≡ airing_on (and_step desk who step) (mux_form desk.mux)
    → airings_of (xs ++ x ∷ []) ≡ airings (and_step desk who step).mux (and_step desk who step).entries
swap_airings desk who step xs x legal h are e =
    let entry : Entry = record { who = who; step = step; outcome = outcome_of desk.mux desk.entries step } in
    airings_of-push xs x ∙ ap (λ (l : List AiredTables). l ++ x.airing ∷ []) are ∙ ap (λ (a : AiredTables). airings desk.mux desk.entries ++ a ∷ []) e
    ∙ sym (airings-swap desk.mux desk.entries entry (publishes desk.entries, moment_of desk.mux desk.entries) legal (swap_airs desk.mux desk.entries step h))

-- the airing of a player with the multiplex's form
own_form : (desk after : DeskState) (player : Sending) → player.form ≡ mux_form desk.mux → airing_on after player.form ≡ airing_on after (mux_form desk.mux)
own_form desk after player form = ap (λ (f : CycleForm). airing_on after f) form

-- cycles behind earlier ones, part by part
pub airings_of-append : (xs ys : List Aired) → airings_of (xs ++ ys) ≡ airings_of xs ++ airings_of ys
airings_of-append [] ys = refl
airings_of-append (x ∷ xs) ys = ap (λ l. x.airing ∷ l) (airings_of-append xs ys)

-- a player of a multiplex stays one
pub player_kept : (mux : Mux) (old new : Sending) → AreAlike old new → IsPlayerOf mux old → IsPlayerOf mux new
player_kept mux old new kept is = record { form = kept.form ∙ is.form; rate = kept.rate ∙ is.rate }

-- what a player of a multiplex sent is made at the rate of the multiplex
made_at : (mux : Mux) (player : Sending) (before : List Aired) (x : Aired) (a : AiredTables) → player.rate ≡ mux.rate → x.airing ≡ a → x.packets ≡ cycle_at player.rate before a
    → x.packets ≡ cycle_at mux.rate before x.airing
made_at mux player before x a rate e made = made ∙ ap (λ (r : Option ℕ). cycle_at r before a) rate ∙ ap (cycle_at mux.rate before) (sym e)

-- one more cycle was sent
swap_sent : (earlier : List Aired) (desk : DeskState) (who : ℕ) (step : Step) (old new : Sending) (xs : List Aired) (x : Aired) → Legal desk.mux desk.entries → is_swap step ≡ true → HasSentAll earlier desk old xs → AreAlike old new
    → x.airing ≡ airing_on (and_step desk who step) old.form → x.packets ≡ cycle_at new.rate (earlier ++ xs) (airing_on (and_step desk who step) old.form) → AtEnd ((earlier ++ xs) ++ x ∷ []) new
    → HasSentAll earlier (and_step desk who step) new (xs ++ x ∷ [])
swap_sent earlier desk who step old new xs x legal h sent kept e made at_end =
    let is = player_kept desk.mux old new kept sent.player_of in
    record {
      at_end = subst (λ (l : List Aired). AtEnd l new) (append_assoc earlier xs (x ∷ [])) at_end;
      airings_are = swap_airings desk who step xs x legal h sent.airings_are (e ∙ own_form desk (and_step desk who step) old sent.player_of.form);
      made = made_push desk.mux.rate earlier xs x sent.made (made_at desk.mux new (earlier ++ xs) x _ is.rate e made);
      player_of = is;
    }

pub swap_aired : (earlier : List Aired) (desk : DeskState) (who : ℕ) (step : Step) (old new : Sending) (before mid now : Option (List ℕ)) (r : Result (Unit {0}) SendStop) → Legal desk.mux desk.entries → is_swap step ≡ true → AreAlike old new
    → HasAired earlier desk old before mid → ((xs : List Aired) → AtEnd xs old → SentCycle xs (airing_on (and_step desk who step) old.form) new mid now r) → AiredTo earlier (and_step desk who step) new before now r
swap_aired earlier desk who step old new before mid now (Ok u) legal h kept (xs, sent, bytes) sends =
    let (x, e, made, ended, took) = sends (earlier ++ xs) sent.at_end in (
      xs ++ x ∷ [],
      swap_sent earlier desk who step old new xs x legal h sent kept e made ended,
      subst (Appends before now) (sym (air_bytes-push xs x)) (Appends-trans before mid now (air_bytes xs) (cycle_bytes x) bytes took),
    )
swap_aired earlier desk who step old new before mid now (Err Memory) legal h kept has sends = tt
swap_aired earlier desk who step old new before mid now (Err OnFault) legal h kept (xs, sent, bytes) sends =
    let (x, e, made, is_air, (n, proper, took)) = sends (earlier ++ xs) sent.at_end in
    let is = player_kept desk.mux old new kept sent.player_of in
    let all : (earlier ++ xs) ++ x ∷ [] ≡ earlier ++ (xs ++ x ∷ []) = append_assoc earlier xs (x ∷ []) in
    let are : airings_of (earlier ++ (xs ++ x ∷ [])) ≡ airings_of earlier ++ airings (and_step desk who step).mux (and_step desk who step).entries =
    airings_of-append earlier (xs ++ x ∷ [])
    ∙ ap (λ (l : List AiredTables). airings_of earlier ++ l) (swap_airings desk who step xs x legal h sent.airings_are (e ∙ own_form desk (and_step desk who step) old sent.player_of.form)) in
    record {
      front = desk.entries;
      last = record { who = who; step = step; outcome = outcome_of desk.mux desk.entries step };
      entries = refl;
      is_swap = is_swap-Swap step h;
      whole = xs;
      cut = x;
      is_air = subst (λ (r : Option ℕ). IsAirAt r (airings_of earlier ++ airings (and_step desk who step).mux (and_step desk who step).entries) (earlier ++ (xs ++ x ∷ []))) is.rate
          (subst (λ (l : List AiredTables). IsAirAt new.rate l (earlier ++ (xs ++ x ∷ []))) are (subst (λ (l : List Aired). IsAirAt new.rate (airings_of l) l) all is_air));
      made = made_push desk.mux.rate earlier xs x sent.made (made_at desk.mux new (earlier ++ xs) x _ is.rate e made);
      taken = n;
      proper = proper;
      bytes = Appends-trans before mid now (air_bytes xs) (take n (cycle_bytes x)) bytes took;
    }

-- ---- the same, of a desk that did the step

pub after_swap_aired : (earlier : List Aired) (desk after : DeskState) (who : ℕ) (step : Step) (old new : Sending) (before mid now : Option (List ℕ)) (r : Result (Unit {0}) SendStop) → after ≡ and_step desk who step → Legal desk.mux desk.entries → is_swap step ≡ true → AreAlike old new
    → HasAired earlier desk old before mid → ((xs : List Aired) → AtEnd xs old → SentCycle xs (airing_on after old.form) new mid now r) → AiredTo earlier after new before now r
after_swap_aired earlier desk after who step old new before mid now r e legal h kept has =
    subst (λ (d : DeskState). ((xs : List Aired) → AtEnd xs old → SentCycle xs (airing_on d old.form) new mid now r) → AiredTo earlier d new before now r) (sym e) (swap_aired earlier desk who step old new before mid now r legal h kept has)

pub after_other_aired : (earlier : List Aired) (desk after : DeskState) (who : ℕ) (step : Step) (player : Sending) (before now : Option (List ℕ)) → after ≡ and_step desk who step → Legal desk.mux desk.entries → is_swap step ≡ false → HasAired earlier desk player before now → HasAired earlier after player before now
after_other_aired earlier desk after who step player before now e legal h has = subst (λ (d : DeskState). HasAired earlier d player before now) (sym e) (other_aired earlier desk who step player before now legal h has)

pub after_legal : (desk after : DeskState) (who : ℕ) (step : Step) → after ≡ and_step desk who step → Legal desk.mux desk.entries → Legal after.mux after.entries
after_legal desk after who step e legal = subst (λ (d : DeskState). Legal d.mux d.entries) (sym e) (step_legal desk who step legal)

pub on_ok : {E : Type 0} {P : Type 0} (r : Result (Unit {0}) E) → P → OnOk r P
on_ok (Ok u) p = p
on_ok (Err e) p = tt
