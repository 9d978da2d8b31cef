-- The journal of a run, from what the last pass knows of it.
use Rattle.std.proofs.Common.{◌≡◌, ◌≢◌, ◌⊎◌, inl, inr, ℕ, zero, suc, List, [], ◌∷◌, ◌++◌, map, refl, sym, ap, ◌∙◌, subst, append-nil, append_assoc}
use Rattle.std.specs.Prelude.{Option, Some, None}
use Rattle.std.specs.List.{AllByRecursion}
use Rattle.mux_model.specs.declared.mux.Mux.{Mux}
use Rattle.si_time.specs.declared.moment.Moment.{Moment}
use Rattle.version_book.specs.Airings.{AiredTables}
use Rattle.journal_model.specs.declared.step.Step.{Step}
use Rattle.journal_model.specs.declared.step.Step.TheVariants.{Publish, Tick}
use Rattle.journal_model.specs.declared.step.Outcome.{Outcome}
use Rattle.journal_model.specs.declared.step.Outcome.TheVariants.{Published}
use Rattle.journal_model.specs.declared.step.Entry.{Entry}
use Rattle.desk_core.specs.Journal.{Legal, LegalAfter}
use Rattle.journal_model.specs.Steps.{Command, command_of}
use Rattle.desk_core.specs.Publications.{swaps}
use Rattle.journal_air.specs.Air.{airings_by}
use Rattle.turn_lock.specs.declared.known.Caller.{Caller}
use Rattle.turn_lock.specs.Knowledge.{Closes, numbers}
use Rattle.desk_hall.specs.Turn.{View, caller_of, entry_of, with_entries, Made, Idle, Knows, Did}
use Rattle.headend_jobs.specs.Playing.{swaps_by}
use Rattle.headend_jobs.specs.Ticking.{Ticked}
use Rattle.headend_jobs.proofs.Ticking.{did_join, tick_entries}
use Rattle.headend_jobs.specs.Whole.{IsWhole, JournalDid, SwapsNot}
use Rattle.desk_hall.proofs.Passes.{did_idle, did_more, did_none, made_knows, more_more}
use Rattle.journal_air.proofs.SwapFacts.{airings-append, swaps-append}
use Rattle.headend_jobs.proofs.WholeJournal.{of, rest_is, front_whole, swaps_part, of_mine, of_other}

-- ---- entries of one caller

abbrev pub AllMade : ℕ → List Entry → Type 0
AllMade n es = AllByRecursion (λ (e : Entry). e.who ≡ n) es

own_of : (n : ℕ) (es : List Entry) → AllMade n es → of n es ≡ es
own_of n [] all = refl
own_of n (e ∷ es) all = of_mine n e es all.0 ∙ ap (λ (l : List Entry). e ∷ l) (own_of n es all.1)

none_of : (n k : ℕ) (es : List Entry) → AllMade n es → k ≢ n → of k es ≡ []
none_of n k [] all ne = refl
none_of n k (e ∷ es) all ne = of_other k e es (λ is. ne (sym is ∙ all.0)) ∙ none_of n k es all.1 ne

-- entries with commands of one caller are its own
pub commands_made : (n : ℕ) (commands : List Command) (es : List Entry) → map command_of es ≡ commands → AllByRecursion (λ (c : Command). c.0 ≡ n) commands → AllMade n es
commands_made n commands [] e all = tt
commands_made n [] (x ∷ es) e all = absurd (cc e)
commands_made n (c ∷ commands) (x ∷ es) e all =
    (let head : command_of x ≡ c = cc e in ap (λ (d : Command). d.0) head ∙ all.0, commands_made n commands es (cc e) all.1)

pub swaps_own : (n k : ℕ) → AllByRecursion (λ (c : Command). c.0 ≡ n) (swaps_by n k)
swaps_own n zero = tt
swaps_own n (suc k) = (refl, swaps_own n k)

legal_front : (mux : Mux) (before xs ys : List Entry) → LegalAfter mux before (xs ++ ys) → LegalAfter mux before xs
legal_front mux before [] ys legal = tt
legal_front mux before (x ∷ xs) ys legal = (legal.0, legal_front mux (before ++ x ∷ []) xs ys legal.1)

closes_whole : (v : View) (journal : List Entry) → Closes caller_of v journal → IsWhole journal (numbers v)
closes_whole v journal c = record { made = c.exact.made; others = c.others }

-- ---- where nothing was made behind the jobs

pub closed_plain : (mux : Mux) (v w : View) (player : Caller Entry) (feeds : List (Caller Entry)) (journal : List Entry) → Closes caller_of w journal → Legal mux journal → w ≡ record v { seen = w.seen }
    → v.finished ≡ player ∷ feeds → player.low ≡ 1 → AllByRecursion (SwapsNot 1) (v.own ∷ player ∷ feeds)
    → JournalDid v.own player feeds [] mux journal
closed_plain mux v w player feeds journal c legal same fin one none =
    let whole : IsWhole journal (v.own ∷ player ∷ feeds) =
    subst (λ (l : List (Caller Entry)). IsWhole journal (v.own ∷ l)) fin (subst (λ (z : View). IsWhole journal (numbers z)) same (closes_whole w journal c)) in
    record {
      mine = whole.made.0 ∙ sym (append-nil v.own.made);
      each = whole.made.1;
      others = whole.others;
      legal = legal;
      front = journal;
      ends = sym (append-nil journal);
      swaps_are = swaps_part 1 mux journal player.made (v.own ∷ player ∷ feeds) legal whole none (ap (λ (k : ℕ). of k journal) (sym one) ∙ whole.made.1.0)
          ∙ ap swaps (sym (append-nil player.made));
    }

-- ---- where the control published and swapped behind the jobs

knows_by : (m w : View) → Knows m → (w ≡ m) ⊎ Knows w → Knows w
knows_by m w k (inl same) = subst Knows (sym same) k
knows_by m w k (inr knows) = knows

nothing_of : (n : ℕ) (es : List Entry) → AllMade n es → (cs : List (Caller Entry)) → AllByRecursion (λ (c : Caller Entry). c.low ≢ n) cs → AllByRecursion (λ (c : Caller Entry). of c.low es ≡ []) cs
nothing_of n es all [] apart = tt
nothing_of n es all (c ∷ cs) apart = (none_of n c.low es all apart.0, nothing_of n es all cs apart.1)

knows_did : (commands : List Command) (m w : View) → Knows m → Did commands m w → Knows w
knows_did commands m w k d = knows_by m w k d.turned

-- Turns of a pass: one that made an entry, and others after it.
pub record TurnsDone (v w : View) (final : List Entry) : Type 0 where
  pub step : Step
  pub outcome : Outcome
  pub after : View
  pub made : Made step outcome v after
  pub commands : List Command
  pub did : Did commands after w
  pub own : AllMade v.own.low did.added
  pub final_is : final ≡ entry_of v.own.low step outcome ∷ did.added

pub turns_gained : (v w : View) (final : List Entry) → TurnsDone v w final → w ≡ with_entries v w.seen final
turns_gained v w final t =
    let entry : Entry = entry_of v.own.low t.step t.outcome in
    t.did.gained ∙ ap (λ (z : View). with_entries z w.seen t.did.added) t.made.gained ∙ more_more v t.after.seen w.seen (entry ∷ []) t.did.added
    ∙ ap (with_entries v w.seen) (sym t.final_is)

closed_turns : (mux : Mux) (v w : View) (player : Caller Entry) (feeds : List (Caller Entry)) (final journal : List Entry) (t : TurnsDone v w final) → Closes caller_of w journal → Legal mux journal
    → v.finished ≡ player ∷ feeds → player.low ≡ 1 → AllByRecursion (SwapsNot 1) (v.own ∷ player ∷ feeds) → AllByRecursion (λ (c : Caller Entry). c.low ≢ v.own.low) (player ∷ feeds)
    → JournalDid v.own player feeds (entry_of v.own.low t.step t.outcome ∷ t.did.added) mux journal
closed_turns mux v w player feeds its journal t c legal fin one none apart =
    let m : View = t.after in
    let p = t.made in
    let d = t.did in
    let entry : Entry = entry_of v.own.low t.step t.outcome in
    let cs : List (Caller Entry) = player ∷ feeds in
    let low_m : m.own.low ≡ v.own.low = ap (λ (z : View). z.own.low) p.gained in
    let low_w : w.own.low ≡ m.own.low = ap (λ (z : View). z.own.low) d.gained in
    let fin_m : m.finished ≡ cs = ap (λ (z : View). z.finished) p.gained ∙ fin in
    let fin_w : w.finished ≡ cs = ap (λ (z : View). z.finished) d.gained ∙ fin_m in
    let made_m : m.own.made ≡ v.own.made ++ entry ∷ [] = ap (λ (z : View). z.own.made) p.gained in
    let made_w : w.own.made ≡ m.own.made ++ d.added = ap (λ (z : View). z.own.made) d.gained in
    let whole : IsWhole journal (w.own ∷ cs) = subst (λ (l : List (Caller Entry)). IsWhole journal (w.own ∷ l)) fin_w (closes_whole w journal c) in
    let know_m : Knows m = made_knows t.step t.outcome v m p in
    let know_w : Knows w = knows_did t.commands m w know_m d in
    let exact_m : AllByRecursion (λ (z : Caller Entry). of z.low m.seen ≡ z.made) (m.own ∷ cs) = subst (λ (l : List (Caller Entry)). AllByRecursion (λ (z : Caller Entry). of z.low m.seen ≡ z.made) (m.own ∷ l)) fin_m know_m.exact.made in
    let exact_w : AllByRecursion (λ (z : Caller Entry). of z.low w.seen ≡ z.made) (w.own ∷ cs) = subst (λ (l : List (Caller Entry)). AllByRecursion (λ (z : Caller Entry). of z.low w.seen ≡ z.made) (w.own ∷ l)) fin_w know_w.exact.made in
    let no_more : c.began.0 ≡ [] = rest_is w.own w.own cs w.seen c.began.0 [] refl (sym (append-nil w.own.made)) exact_w (subst (λ (l : List Entry). IsWhole l (w.own ∷ cs)) (sym c.began.1) whole) in
    let seen_is : w.seen ≡ journal = sym (append-nil w.seen) ∙ ap (λ (l : List Entry). w.seen ++ l) (sym no_more) ∙ c.began.1 in
    let parts : m.seen ++ d.began.0 ≡ journal = d.began.1 ∙ seen_is in
    let more : d.began.0 ≡ d.added = rest_is m.own w.own cs m.seen d.began.0 d.added low_w made_w exact_m (subst (λ (l : List Entry). IsWhole l (w.own ∷ cs)) (sym parts) whole) in
    let final : List Entry = entry ∷ d.added in
    let ends : journal ≡ p.before ++ final =
    sym parts ∙ ap (λ (l : List Entry). m.seen ++ l) more ∙ ap (λ (l : List Entry). l ++ d.added) p.seen ∙ append_assoc p.before (entry ∷ []) d.added in
    let of_low : AllMade v.own.low d.added = t.own in
    let made_f : w.own.made ≡ v.own.made ++ final = made_w ∙ ap (λ (l : List Entry). l ++ d.added) made_m ∙ append_assoc v.own.made (entry ∷ []) d.added in
    let front : IsWhole p.before (v.own ∷ cs) =
    front_whole v.own w.own cs p.before final (low_w ∙ low_m) made_f (own_of v.own.low final (refl, of_low))
    (nothing_of v.own.low final (refl, of_low) cs apart)
    (subst (λ (l : List Entry). IsWhole l (w.own ∷ cs)) ends whole) in
    let swaps_front : swaps p.before ≡ swaps player.made =
    swaps_part 1 mux p.before player.made (v.own ∷ cs) (legal_front mux [] p.before final (subst (Legal mux) ends legal)) front none (ap (λ (i : ℕ). of i p.before) (sym one) ∙ front.made.1.0) in
    record {
      mine = ap (λ (i : ℕ). of i journal) (sym (low_w ∙ low_m)) ∙ whole.made.0 ∙ made_f;
      each = whole.made.1;
      others = λ i h. whole.others i (subst (λ (j : ℕ). i ≢ j) (sym (low_w ∙ low_m)) h.0, h.1);
      legal = legal;
      front = p.before;
      ends = ends;
      swaps_are = ap swaps ends ∙ swaps-append p.before final ∙ ap (λ (l : List (ℕ × Moment)). l ++ swaps final) swaps_front ∙ sym (swaps-append player.made final);
    }

pub closed_final : (mux : Mux) (v w : View) (player : Caller Entry) (feeds : List (Caller Entry)) (final journal : List Entry) → TurnsDone v w final → Closes caller_of w journal → Legal mux journal
    → v.finished ≡ player ∷ feeds → player.low ≡ 1 → AllByRecursion (SwapsNot 1) (v.own ∷ player ∷ feeds) → AllByRecursion (λ (c : Caller Entry). c.low ≢ v.own.low) (player ∷ feeds)
    → JournalDid v.own player feeds final mux journal
closed_final mux v w player feeds final journal t c legal fin one none apart =
    subst (λ (l : List Entry). JournalDid v.own player feeds l mux journal) (sym t.final_is) (closed_turns mux v w player feeds final journal t c legal fin one none apart)

-- the control's tick and its publish, and then its swaps
pub went_turns : (tick : Option Moment) (v b m w : View) (n : ℕ) (commands : List Command) (t : Ticked tick v b) → Made Publish (Published n) b m → (d : Did commands m w) → AllMade m.own.low d.added
    → TurnsDone v w (tick_entries tick v b t ++ entry_of v.own.low Publish (Published n) ∷ d.added)
went_turns None v b m w n commands t p d own =
    let made : Made Publish (Published n) v m = subst (λ (z : View). Made Publish (Published n) z m) t p in
    record {
      step = Publish;
      outcome = Published n;
      after = m;
      made = made;
      commands = commands;
      did = d;
      own = subst (λ (i : ℕ). AllMade i d.added) (ap (λ (z : View). z.own.low) made.gained) own;
      final_is = refl;
    }
went_turns (Some at) v b m w n commands (outcome, made) p d own =
    let low_b : b.own.low ≡ v.own.low = ap (λ (z : View). z.own.low) made.gained in
    let low_m : m.own.low ≡ b.own.low = ap (λ (z : View). z.own.low) p.gained in
    record {
      step = Tick at;
      outcome = outcome;
      after = b;
      made = made;
      commands = (b.own.low, Publish) ∷ commands;
      did = did_join ((b.own.low, Publish) ∷ []) commands b m w (did_more [] Publish (Published n) b b m (did_none b) p) d;
      own = (low_b, subst (λ (i : ℕ). AllMade i d.added) (low_m ∙ low_b) own);
      final_is = ap (λ (i : ℕ). entry_of v.own.low (Tick at) outcome ∷ (entry_of i Publish (Published n) ∷ d.added)) (sym low_b);
    }

-- its tick alone
pub tick_turns : (at : Moment) (v b w : View) (t : Ticked (Some at) v b) → Idle b w → TurnsDone v w (tick_entries (Some at) v b t)
tick_turns at v b w (outcome, made) idle = record {
  step = Tick at;
  outcome = outcome;
  after = b;
  made = made;
  commands = [];
  did = did_idle [] b b w (did_none b) idle;
  own = tt;
  final_is = refl;
}

-- what puts nothing on air
pub airs_final : (mux : Mux) (journal made first added : List Entry) → airings_by mux journal first ≡ [] → airings_by mux journal (made ++ added) ≡ airings_by mux journal (made ++ (first ++ added))
airs_final mux journal made first added none =
    airings-append mux journal made added
    ∙ ap (λ (l : List AiredTables). airings_by mux journal made ++ l) (ap (λ (l : List AiredTables). l ++ airings_by mux journal added) (sym none) ∙ sym (airings-append mux journal first added))
    ∙ sym (airings-append mux journal made (first ++ added))
