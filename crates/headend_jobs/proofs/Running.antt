-- What the jobs of a run leave, of what a run gave them.
use Rattle.std.proofs.Common.{◌≡◌, ◌≢◌, inl, inr, ℕ, ◌+◌, ◌≤◌, ◌<◌, Bool, true, false, List, [], ◌∷◌, ◌++◌, length, map, take, refl, sym, ap, ◌∙◌, subst, arith, lt_of_not-le}
use Rattle.std.specs.Prelude.{Option, Some, None, Result, Ok, Err, OnOk, ◌||◌, is_some}
use Rattle.std.specs.List.{AllByRecursion}
use native.Mathlib.Decide.{ℕ_discrete, dec_le}
use mathlib.Core.Logic.{dite}
use mathlib.Core.List.{IsPrefix}
use Rattle.si_time.specs.declared.moment.Moment.{Moment}
use Rattle.mux_model.specs.declared.mux.Mux.{Mux}
use Rattle.si_causes.specs.Causes.{Rose}
use Rattle.si_causes.specs.Reading.{Reading}
use Rattle.si_causes.proofs.CauseFacts.{Appends-nothing}
use Rattle.cycle_player.specs.Airs.{AreMadeAt}
use Rattle.cycle_player.specs.Making.{tick_then}
use Rattle.cycle_player.specs.Sending.{AtEnd, AtEndAt, Sending}
use Rattle.cycle_player.specs.Tallies.{tally_of}
use Rattle.cycle_player.proofs.Making.{end_tells}
use Rattle.cycle_player.specs.Tally.{no_cycles}
use Rattle.air_model.specs.Air.{Aired}
use Rattle.journal_model.specs.declared.control.Control.{Control}
use Rattle.journal_model.specs.declared.control.Control.TheVariants.{Tick, Publish}
use Rattle.journal_model.specs.declared.edit.Edit.{Edit}
use Rattle.journal_model.specs.declared.step.Step.{Step}
use Rattle.journal_model.specs.declared.step.Entry.{Entry}
use Rattle.journal_model.specs.Steps.{Command, command_of}
use Rattle.journal_air.specs.Air.{airings, airings_by}
use Rattle.journal_air.specs.declared.send.SendStop.{SendStop}
use Rattle.journal_air.specs.declared.send.SendStop.TheVariants.{Air, Memory}
use Rattle.journal_air.specs.OnAir.{HasAirCause, IsPlayerOf, is_swap}
use Rattle.turn_lock.specs.declared.known.Caller.{Caller}
use Rattle.turn_lock.specs.Knowledge.{HasAny, TableId}
use Rattle.desk_hall.specs.Turn.{Did, View}
use Rattle.desk_hall.specs.Reads.{DidEach, Stream, commands_by, control_step, edit_step}
use Rattle.headend_jobs.specs.declared.jobs.FeedJob.{FeedJob}
use Rattle.headend_jobs.specs.declared.jobs.ControlJob.{ControlJob}
use Rattle.headend_jobs.specs.Crews.{AreBack, Lone}
use Rattle.headend_jobs.specs.Jobs.{ControlDid, FeedsDid, callers_of, new_control, new_feeds, new_pass}
use Rattle.headend_jobs.specs.Live.{LastMade, PlayedAs, and_sent, halts}
use Rattle.headend_jobs.specs.Playing.{HasPlayedTo, HasPlayedFront, HasPlayedSome, SwapsPlayed}
use Rattle.headend_jobs.specs.Sends.{Wrote}
use Rattle.headend_jobs.specs.Ticking.{tick_by, tick_now, tick_of, ticks_for, turns_by}
use Rattle.headend_jobs.specs.Whole.{NoSwaps, SwapsNot}
use Rattle.headend_jobs.proofs.Ticking.{own_tick, ticks_len}

pub swaps_did : (ticking : Bool) (mux : Mux) (n : ℕ) (v w : View) (old new : Sending) (mid now : Option (List ℕ)) (end : Result (Unit {0}) SendStop) → SwapsPlayed ticking mux n v w old new mid now end
    → (commands : List Command) × Did commands v w
swaps_did ticking mux n v w old new mid now (Ok u) (t, on) = (turns_by v.own.low t.ticks, t.did)
swaps_did ticking mux n v w old new mid now (Err Air) (k, less, (t, on)) = (turns_by v.own.low t.ticks, t.did)
swaps_did ticking mux n v w old new mid now (Err Memory) (t, on) = (turns_by v.own.low t.ticks ++ take t.more (tick_by v.own.low t.tick), t.did)

-- no cycles, at any rate
made_none : (rate : Option ℕ) → AreMadeAt rate [] []
made_none None = tt
made_none (Some rate) = tt

tally_none : (rate : Option ℕ) → tally_of rate [] ≡ no_cycles
tally_none None = refl
tally_none (Some rate) = refl

-- what a player that had sent nothing had played
pub nothing_played : (mux : Mux) (seen : List Entry) (player : Sending) (mid : Option (List ℕ)) → AtEnd [] player → IsPlayerOf mux player → player.tally ≡ no_cycles → HasPlayedTo mux seen [] player mid mid
nothing_played mux seen player mid ready is counted =
    record { cycles = []; at_end = ready; airings_are = λ journal p. refl; made = made_none mux.rate; player_of = is; tally = counted ∙ sym (tally_none mux.rate); bytes = Appends-nothing mid }

-- and what it has sent
module _ (mux : Mux) (v w : View) (old new : Sending) (mid now : Option (List ℕ)) (empty : v.own.made ≡ []) (ready : AtEnd [] old) (is : IsPlayerOf mux old) (counted : old.tally ≡ no_cycles) where
  none_played : HasPlayedTo mux v.seen [] old mid mid
  none_played = nothing_played mux v.seen old mid ready is counted

  made_is : (commands : List Command) → (d : Did commands v w) → w.own.made ≡ d.added
  made_is commands d = ap (λ (z : View). z.own.made) d.gained ∙ ap (λ (l : List Entry). l ++ d.added) empty

  pub first_played : (n : ℕ) (end : Result (Unit {0}) SendStop) → SwapsPlayed true mux n v w old new mid now end → PlayedAs mux w.seen w.own.made new mid now end
  first_played n (Ok u) (t, on) = subst (λ (l : List Entry). HasPlayedTo mux w.seen l new mid now) (sym (made_is (turns_by v.own.low t.ticks) t.did)) (on [] mid none_played)
  first_played n (Err Air) (k, less, (t, on)) = subst (λ (l : List Entry). HasPlayedFront mux w.seen l new mid now) (sym (made_is (turns_by v.own.low t.ticks) t.did)) (on [] mid none_played)
  first_played n (Err Memory) (t, on) =
      subst (λ (l : List Entry). HasPlayedSome mux w.seen l mid now) (sym (made_is (turns_by v.own.low t.ticks ++ take t.more (tick_by v.own.low t.tick)) t.did)) (on [] mid none_played)

  -- the tick that the clock tells after it is that of the swap after its swaps
  module _ (journal final : List Entry) (are : airings mux journal ≡ airings_by mux journal (w.own.made ++ final)) (began : IsPrefix w.seen journal) where
    tick_told : (n : ℕ) (u : Unit {0}) → SwapsPlayed true mux n v w old new mid now (Ok u) → tick_now true new ≡ tick_of mux journal n
    tick_told n u (t, on) =
        let h = first_played n (Ok u) (t, on) in
        let same = made_is (turns_by v.own.low t.ticks) t.did in
        let ticks : t.ticks ≡ ticks_for mux.rate [] (airings_by mux journal w.own.made) = t.ticks_are [] mid none_played journal began ∙ ap (λ (l : List Entry). ticks_for mux.rate [] (airings_by mux journal l)) (sym same) in
        let len : length (airings_by mux journal w.own.made) ≡ n = sym (ticks_len mux.rate [] (airings_by mux journal w.own.made)) ∙ ap length (sym ticks) ∙ t.count in
        end_tells mux.rate h.cycles new h.player_of.rate h.at_end h.made ∙ ap (tick_then mux.rate) (h.airings_are journal began) ∙ own_tick mux journal w.own.made final are n len

    pub last_told : {X Y : Type 0} (n : ℕ) (end : Result (Unit {0}) SendStop) (x : Option X) (y : Option Y) (who : ℕ) (sent : Result (Unit {0}) SendStop) → SwapsPlayed true mux n v w old new mid now end
        → LastMade (halts end x y) (tick_now true new) who final sent → LastMade (halts end x y) (tick_of mux journal n) who final sent
    last_told n (Ok u) x y who sent played last = subst (λ (o : Option Moment). LastMade (is_some x || is_some y) o who final sent) (tick_told n u played) last
    last_told n (Err stop) x y who sent played last = last

-- ---- the passes after the jobs

-- nothing is left of a cycle at its end
pub end_left : (rate : Option ℕ) (xs : List Aired) (s : Sending) → AtEndAt rate xs s → s.left ≡ []
end_left None xs s e = e.none
end_left (Some rate) xs s e = e.none

pub lone_did : (t : TableId) (mux : Mux) (who : ℕ) (commands : List Command) (w : View) → Did commands (new_pass t mux who) w → Lone t who w
lone_did t mux who commands w d = record {
  turns_are = ap (λ (z : View). z.turns) d.gained;
  low = ap (λ (z : View). z.own.low) d.gained;
  span = ap (λ (z : View). z.own.span) d.gained;
  alone = ap (λ (z : View). z.finished) d.gained;
}

-- whose steps are no swaps has made none
pub no_swaps : {T : Type 0} (step : T → Step) → ((value : T) → is_swap (step value) ≡ false) → (who : ℕ) (values : List T) (added : List Entry) → map command_of added ≡ commands_by who step values → NoSwaps added
no_swaps step none who [] [] e = tt
no_swaps step none who [] (x ∷ added) e = absurd (cc e)
no_swaps step none who (v ∷ values) [] e = absurd (cc e)
no_swaps step none who (v ∷ values) (x ∷ added) e =
    let head : command_of x ≡ (who, step v) = cc e in
    (ap (λ (c : Command). is_swap c.1) head ∙ none v, no_swaps step none who values added (cc e))

edit_none : (feed : ℕ) (e : Edit) → is_swap (edit_step feed e) ≡ false
edit_none feed e = refl

control_none : (c : Control) → is_swap (control_step c) ≡ false
control_none (Tick at) = refl
control_none Publish = refl

-- what a job that reads has made of a pass that had made nothing
each_no_swaps : {T : Type 0} (step : T → Step) → ((value : T) → is_swap (step value) ≡ false) → (v w : View) (values : List T) → v.own.made ≡ [] → DidEach step v w values → NoSwaps w.own.made
each_no_swaps step none v w values empty d =
    subst NoSwaps (sym (ap (λ (z : View). z.own.made) d.gained ∙ ap (λ (l : List Entry). l ++ d.added) empty))
    (no_swaps step none v.own.low values d.added d.commands_are)

pub control_plain : {S : Type 0} (st : Stream S) (t : TableId) (mux : Mux) (reader : Reading S) (job : ControlJob S) → ControlDid st (new_control t mux reader) job → NoSwaps job.pass.own.made
control_plain st t mux reader job d = each_no_swaps control_step control_none (new_pass t mux 0) job.pass d.did.0 refl d.did.1

pub feeds_back : {S : Type 0} (st : Stream S) (t : TableId) (mux : Mux) (n : ℕ) (readers : List (Reading S)) (jobs : List (FeedJob S)) → FeedsDid st (new_feeds t mux n readers) jobs → AreBack t n jobs
feeds_back st t mux n [] [] did = tt
feeds_back st t mux n [] (job ∷ jobs) did = absurd did
feeds_back st t mux n (r ∷ rs) [] did = absurd did
feeds_back st t mux n (r ∷ rs) (job ∷ jobs) (did, more) = (
  record {
    feed = did.feed;
    lone = lone_did t mux (n + 1) (commands_by (n + 1) (edit_step n) did.read.did.0) job.pass did.read.did.1;
    plain = each_no_swaps (edit_step n) (edit_none n) (new_pass t mux (n + 1)) job.pass did.read.did.0 refl did.read.did.1;
  },
  feeds_back st t mux (n + 1) rs jobs more,
)

above : (k n : ℕ) → n ≤ k → k ≢ n → n + 1 ≤ k
above k n le ne = dite (dec_le (n + 1) k) (λ h. h) (λ h. absurd (ne (let less = lt_of_not-le h in omega (arith, le, less))))

module _ {S : Type 0} (t : TableId) where
  -- what holds of each caller that the feeds bring
  each_caller : (P : Caller Entry → Type 0) → ((c : Caller Entry) (n : ℕ) → 1 ≤ n → c.low ≡ n + 1 → NoSwaps c.made → P c) → (n : ℕ) (jobs : List (FeedJob S)) → 1 ≤ n → AreBack t n jobs → AllByRecursion P (callers_of jobs)
  each_caller P f n [] some back = tt
  each_caller P f n (job ∷ jobs) some (one, more) = (f job.pass.own n some one.lone.low one.plain, each_caller P f (n + 1) jobs (omega (arith, some)) more)

  -- their numbers follow each other
  feeds_have : (n : ℕ) (jobs : List (FeedJob S)) → AreBack t n jobs → (k : ℕ) → n + 1 ≤ k → k < n + 1 + length jobs → HasAny (callers_of jobs) k
  feeds_have n [] back k le less = absurd (omega (arith, le, less))
  feeds_have n (job ∷ jobs) (one, more) k le less = dite (ℕ_discrete k (n + 1))
      (λ e. inl (let low = one.lone.low in omega (arith, e, low), (let low = one.lone.low in let span = one.lone.span in omega (arith, e, low, span))))
      (λ ne. inr (feeds_have (n + 1) jobs more k (above k (n + 1) le ne) (omega (arith, less))))

  module _ (jobs : List (FeedJob S)) (back : AreBack t 1 jobs) (control player : View) (c : Lone t 0 control) (p : Lone t 1 player) where
    pub have : (callers : ℕ) → callers ≡ length jobs + 2 → (k : ℕ) → k < callers → HasAny (control.own ∷ player.own ∷ callers_of jobs) k
    have callers e k less = dite (ℕ_discrete k 0)
        (λ z. inl (let low = c.low in omega (arith, z, low), (let low = c.low in let span = c.span in omega (arith, z, low, span))))
        (λ a. dite (ℕ_discrete k 1)
        (λ z. inr (inl (let low = p.low in omega (arith, z, low), (let low = p.low in let span = p.span in omega (arith, z, low, span)))))
        (λ b. inr (inr (feeds_have 1 jobs back k (above k 1 (above k 0 (omega arith) a) b) (omega (arith, less, e))))))

    pub swaps_are : NoSwaps control.own.made → AllByRecursion (SwapsNot 1) (control.own ∷ player.own ∷ callers_of jobs)
    swaps_are none = ((λ ne. none), ((λ ne. absurd (ne p.low)), each_caller (SwapsNot 1) (λ x k le low plain ne. plain) 1 jobs (omega arith) back))

    pub apart_are : AllByRecursion (λ (x : Caller Entry). x.low ≢ control.own.low) (player.own ∷ callers_of jobs)
    apart_are =
        subst (λ (n : ℕ). AllByRecursion (λ (x : Caller Entry). x.low ≢ n) (player.own ∷ callers_of jobs)) (sym c.low)
        ((λ e. absurd (let low = p.low in omega (arith, e, low))), each_caller (λ x. x.low ≢ 0) (λ x k le low plain e. absurd (omega (arith, low, e))) 1 jobs (omega arith) back)

-- ---- causes

-- what holds of a player that was not stopped
pub going_ready : {X Y : Type 0} (P : Type 0) (end : Result (Unit {0}) SendStop) (x : Option X) (y : Option Y) → halts end x y ≡ false → OnOk end P → P
going_ready P (Ok u) x y going p = p
going_ready P (Err stop) x y going p = absurd (cc going)

pub and_ok : (X Y Z : Type 0) (end last : Result (Unit {0}) SendStop) → (X → Y → Z) → OnOk end X → OnOk last Y → OnOk (and_sent end last) Z
and_ok X Y Z (Ok u) (Ok v) f x y = f x y
and_ok X Y Z (Ok u) (Err e) f x y = tt
and_ok X Y Z (Err e) last f x y = tt

-- a failure of the air has its cause, whether the player met it or the control
rose_on : (a b c : ℕ) → a ≤ b → b ≤ c → Rose a b → Rose a c
rose_on a b c le more (inl less) = inl (omega (arith, less, more))
rose_on a b c le more (inr most) = dite (dec_le (b + 1) c) (λ h. inl (omega (arith, le, h))) (λ h. inr (let less = lt_of_not-le h in omega (arith, less, more) ∙ most))

rose_from : (a b c : ℕ) → a ≤ b → Rose b c → Rose a c
rose_from a b c le (inl less) = inl (omega (arith, le, less))
rose_from a b c le (inr most) = inr most

cause_from : (a b c : ℕ) (sent : Result (Unit {0}) SendStop) → a ≤ b → HasAirCause b c sent → HasAirCause a c sent
cause_from a b c (Ok u) le h = tt
cause_from a b c (Err Air) le h = rose_from a b c le h
cause_from a b c (Err Memory) le h = tt

cause_on : (a b c : ℕ) (end : Result (Unit {0}) SendStop) → a ≤ b → b ≤ c → HasAirCause a b end → HasAirCause a c end
cause_on a b c (Ok u) le more h = tt
cause_on a b c (Err Air) le more h = rose_on a b c le more h
cause_on a b c (Err Memory) le more h = tt

-- whether the player met it or the control
pub cause_all : (a b c : ℕ) (end last : Result (Unit {0}) SendStop) → a ≤ b → b ≤ c → HasAirCause a b end → HasAirCause b c last → HasAirCause a c (and_sent end last)
cause_all a b c (Ok u) last le more h k = cause_from a b c last le k
cause_all a b c (Err stop) last le more h k = cause_on a b c (Err stop) le more h

-- what was written, and then more
pub wrote_then : {A : Type 0} (faults : A → ℕ) (is_same : A → A → Type 0) (chain : (a b c : A) → is_same a b → is_same b c → is_same a c) (a b c : A) (r last : Result (Unit {0}) SendStop)
    → Wrote faults is_same a b r → Wrote faults is_same b c last → Wrote faults is_same a c last
wrote_then faults is_same chain a b c r last first then = record {
  cause = cause_from (faults a) (faults b) (faults c) last first.later then.cause;
  later = (let le = first.later in let more = then.later in omega (arith, le, more));
  same = chain a b c first.same then.same;
}
