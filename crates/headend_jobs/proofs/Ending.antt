-- How a run ends: the control's last turns, its journal, and its air.
use Rattle.std.proofs.Common.{◌≡◌, ◌≢◌, ◌⊎◌, inl, inr, ℕ, zero, suc, ◌+◌, ◌≤◌, ◌<◌, Bool, true, false, List, [], ◌∷◌, ◌++◌, length, map, take, refl, sym, ap, ◌∙◌, subst, arith, append-nil, append_assoc}
use Rattle.std.proofs.lemmas.List.{map-append}
use Rattle.std.specs.Prelude.{Option, Some, None, Result, Ok, Err, ◌||◌, is_some}
use Rattle.si_time.specs.declared.moment.Moment.{Moment}
use Rattle.std.specs.List.{AllByRecursion}
use mathlib.Core.List.{IsPrefix}
use Rattle.mux_model.specs.declared.mux.Mux.{Mux}
use Rattle.version_book.specs.Airings.{AiredTables}
use Rattle.air_model.specs.Air.{airings_of}
use Rattle.cycle_player.specs.Airs.{IsAirAt}
use Rattle.cycle_player.specs.Sending.{Sending}
use Rattle.journal_model.specs.declared.step.Step.TheVariants.{Publish}
use Rattle.journal_model.specs.declared.step.Outcome.TheVariants.{Published}
use Rattle.journal_model.specs.declared.step.Entry.{Entry}
use Rattle.desk_core.specs.Journal.{Legal}
use Rattle.journal_model.specs.Steps.{Command, command_of}
use Rattle.journal_air.specs.declared.send.SendStop.{SendStop}
use Rattle.journal_air.specs.declared.send.SendStop.TheVariants.{Air, Memory}
use Rattle.journal_air.specs.Air.{airing_at, airings, airings_by}
use Rattle.turn_lock.specs.declared.known.Caller.{Caller}
use Rattle.turn_lock.specs.Knowledge.{Closes}
use Rattle.turn_lock.proofs.Lists.{prefix_self, prefix_trans}
use Rattle.desk_hall.specs.Turn.{View, caller_of, entry_of, with_entries, Made, Idle, Did}
use Rattle.headend_jobs.specs.Playing.{HasPlayedTo, HasPlayedFront, HasPlayedSome, SwapsPlayed, TurnsBegun, TurnsMade, swaps_by}
use Rattle.headend_jobs.specs.Ticking.{Ticked, tick_by, tick_now, turns_by}
use Rattle.headend_jobs.specs.Whole.{JournalDid, SwapsNot, final_commands}
use Rattle.journal_air.specs.AirOf.{AirOf, CutAirOf, SomeAirOf, AirDid}
use Rattle.journal_air.specs.Tallied.{IsTallyOf}
use Rattle.cycle_player.specs.Tally.{Tallied}
use Rattle.cycle_player.specs.Tallies.{tally_of}
use Rattle.headend_jobs.specs.Live.{EndDid, FinalDid, Halted, LastDid, PlayedAs, TallyDid, Went, and_sent, halts}
use Rattle.desk_hall.proofs.Passes.{made_began, more_none}
use Rattle.headend_jobs.proofs.Airs.{own_air, put_longer}
use Rattle.headend_jobs.proofs.Closing.{AllMade, TurnsDone, airs_final, closed_final, closed_plain, commands_made, swaps_own, tick_turns, turns_gained, went_turns}
use Rattle.headend_jobs.proofs.Ticking.{tick_airs, tick_began, tick_commands, tick_entries, tick_low, turns_plain}
use Rattle.journal_air.proofs.SwapFacts.{airings-append}

abbrev Known : Type 0
Known = Option (List ℕ)

-- ---- nothing of the pass changes but what it has seen and made

abbrev pub Stays : View → View → Type 0
Stays v w = (added : List Entry) × (w ≡ with_entries v w.seen added)

stays_same : (v w : View) → w ≡ v → Stays v w
stays_same v w e = ([], e ∙ more_none v ∙ ap (λ (l : List Entry). with_entries v l []) (ap (λ (z : View). z.seen) (sym e)))

stays_turns_done : (v w : View) (final : List Entry) → TurnsDone v w final → Stays v w
stays_turns_done v w final t = (final, turns_gained v w final t)

stays_idle : (v w : View) → Idle v w → Stays v w
stays_idle v w idle = ([], idle.same ∙ ap (λ (z : View). let y : View = record z { seen = w.seen } in y) (more_none v))

stays_halted : (tick : Option Moment) (v b w : View) → (b ≡ v) ⊎ Ticked tick v b → Idle b w → Stays v w
stays_halted tick v b w (inl same) idle = stays_idle v w (subst (λ (z : View). Idle z w) same idle)
stays_halted None v b w (inr same) idle = stays_idle v w (subst (λ (z : View). Idle z w) same idle)
stays_halted (Some at) v b w (inr t) idle = stays_turns_done v w (tick_entries (Some at) v b t) (tick_turns at v b w t idle)

-- the control's two swaps, which have no ticks
pub record LastSwaps (m w : View) : Type 0 where
  pub k : ℕ
  pub few : k ≤ 2
  pub commands : List Command
  pub did : Did commands m w
  pub are : commands ≡ swaps_by m.own.low k

abbrev last_swaps : (mux : Mux) (k : ℕ) (m w : View) (old : Sending) (mid : Known) → k ≤ 2 → TurnsMade false mux k m w old mid → LastSwaps m w
last_swaps mux k m w old mid few t = record {
  k = k;
  few = few;
  commands = turns_by m.own.low t.ticks;
  did = t.did;
  are = turns_plain m.own.low t.ticks t.ticks_are ∙ ap (swaps_by m.own.low) t.count;
}

no_tick : (more who : ℕ) (tick : Option Moment) → (0 < more → tick ≡ None) → take more (tick_by who tick) ≡ []
no_tick zero who tick none = refl
no_tick (suc more) who tick none = ap (λ (o : Option Moment). take (suc more) (tick_by who o)) (none (omega arith))

abbrev begun_swaps : (mux : Mux) (m w : View) (old : Sending) (mid : Known) → TurnsBegun false mux 2 m w old mid → LastSwaps m w
begun_swaps mux m w old mid t = record {
  k = length t.ticks;
  few = (let fits = t.count in omega (arith, fits));
  commands = turns_by m.own.low t.ticks ++ take t.more (tick_by m.own.low t.tick);
  did = t.did;
  are = ap (λ (l : List Command). turns_by m.own.low t.ticks ++ l) (no_tick t.more m.own.low t.tick t.tick_is) ∙ append-nil (turns_by m.own.low t.ticks) ∙ turns_plain m.own.low t.ticks t.ticks_are;
}

swaps_mine : (m w : View) (l : LastSwaps m w) → AllMade m.own.low l.did.added
swaps_mine m w l = commands_made m.own.low (swaps_by m.own.low l.k) l.did.added (l.did.commands_are ∙ l.are) (swaps_own m.own.low l.k)

-- what the control made last
abbrev went_entries : (tick : Option Moment) (v b m w : View) (n : ℕ) → Ticked tick v b → LastSwaps m w → List Entry
went_entries tick v b m w n t l = tick_entries tick v b t ++ entry_of v.own.low Publish (Published n) ∷ l.did.added

went_done : (tick : Option Moment) (v b m w : View) (n : ℕ) (t : Ticked tick v b) → Made Publish (Published n) b m → (l : LastSwaps m w) → TurnsDone v w (went_entries tick v b m w n t l)
went_done tick v b m w n t p l = went_turns tick v b m w n l.commands t p l.did (swaps_mine m w l)

swaps_of : (mux : Mux) (m w : View) (old new : Sending) (mid now : Known) (r : Result (Unit {0}) SendStop) → SwapsPlayed false mux 2 m w old new mid now r → LastSwaps m w
swaps_of mux m w old new mid now (Ok u) (t, on) = last_swaps mux 2 m w old mid (omega arith) t
swaps_of mux m w old new mid now (Err Air) (k, less, (t, on)) = last_swaps mux (suc k) m w old mid (omega (arith, less)) t
swaps_of mux m w old new mid now (Err Memory) (t, on) = begun_swaps mux m w old mid t

stays_final : (mux : Mux) (v w : View) (old new : Sending) (mid now : Known) (r : Result (Unit {0}) SendStop) → FinalDid mux v w old new mid now r → Stays v w
stays_final mux v w old new mid now r (inr h) = stays_halted (tick_now true old) v h.between w h.ticked h.idle
stays_final mux v w old new mid now r (inl f) =
    let l = swaps_of mux f.published w old new mid now r f.played in
    stays_turns_done v w _ (went_done (tick_now true old) v f.between f.published w f.number f.ticked f.made l)

pub stays : (halted : Bool) (mux : Mux) (v w : View) (old new : Sending) (mid now : Known) (r : Result (Unit {0}) SendStop) → LastDid halted mux v w old new mid now r → Stays v w
stays false mux v w old new mid now r d = stays_final mux v w old new mid now r d
stays true mux v w old new mid now r d = stays_same v w d.1

pub stays_numbers : (v w : View) → Stays v w → (w.own.low ≡ v.own.low) × (w.own.span ≡ v.own.span) × (w.finished ≡ v.finished)
stays_numbers v w (added, e) = (ap (λ (z : View). z.own.low) e, ap (λ (z : View). z.own.span) e, ap (λ (z : View). z.finished) e)

pub stays_turns : (v w : View) → Stays v w → (w.turns ≡ v.turns)
stays_turns v w (added, e) = ap (λ (z : View). z.turns) e

pub stays_on : (v w : View) → Stays v w → (w.on ≡ v.on)
stays_on v w (added, e) = ap (λ (z : View). z.on) e

-- ---- the air

air_ok : (mux : Mux) (journal seen entries : List Entry) (new : Sending) (before now : Known) → airings mux journal ≡ airings_by mux journal entries → IsPrefix seen journal
    → HasPlayedTo mux seen entries new before now → AirOf mux journal before now
air_ok mux journal seen entries new before now is p h = record {
  cycles = h.cycles;
  is_air = subst (λ (l : List AiredTables). IsAirAt mux.rate l h.cycles) (h.airings_are journal p ∙ sym is) (own_air mux new h.cycles h.player_of h.at_end);
  made = h.made;
  bytes = h.bytes;
}

air_cut : (mux : Mux) (journal seen entries : List Entry) (player : Sending) (before now : Known) → airings mux journal ≡ airings_by mux journal entries → IsPrefix seen journal
    → HasPlayedFront mux seen entries player before now → CutAirOf mux journal before now
air_cut mux journal seen entries player before now is p h = record {
  whole = h.whole;
  cut = h.cut;
  is_air = subst (λ (l : List AiredTables). IsAirAt mux.rate l (h.whole ++ h.cut ∷ [])) (h.airings_are journal p ∙ sym is) h.is_air;
  made = h.made;
  taken = h.taken;
  proper = h.proper;
  bytes = h.bytes;
}

air_some : (mux : Mux) (journal seen entries : List Entry) (before now : Known) → airings mux journal ≡ airings_by mux journal entries → IsPrefix seen journal
    → HasPlayedSome mux seen entries before now → SomeAirOf mux journal before now
air_some mux journal seen entries before now is p h = record {
  cycles = h.whole;
  is_air = h.is_air;
  made = h.made;
  left = airings_by mux journal h.left;
  airings_are = is ∙ ap (airings_by mux journal) h.entries_are ∙ airings-append mux journal h.done h.left ∙ ap (λ (l : List AiredTables). l ++ airings_by mux journal h.left) (sym (h.airings_are journal p));
  bytes = h.bytes;
}

air_as : (mux : Mux) (journal seen entries : List Entry) (player : Sending) (before now : Known) (end : Result (Unit {0}) SendStop) → airings mux journal ≡ airings_by mux journal entries → IsPrefix seen journal
    → PlayedAs mux seen entries player before now end → AirDid mux journal before now end
air_as mux journal seen entries player before now (Ok u) is p h = air_ok mux journal seen entries player before now is p h
air_as mux journal seen entries player before now (Err Air) is p h = air_cut mux journal seen entries player before now is p h
air_as mux journal seen entries player before now (Err Memory) is p h = air_some mux journal seen entries before now is p h

-- the tally of its cycles
tally_ok : (mux : Mux) (journal seen entries : List Entry) (player : Sending) (before now : Known) → airings mux journal ≡ airings_by mux journal entries → IsPrefix seen journal
    → HasPlayedTo mux seen entries player before now → IsTallyOf mux journal player.tally
tally_ok mux journal seen entries player before now is p h = h.tally ∙ ap (tally_of mux.rate) (h.airings_are journal p ∙ sym is)

tally_cut : (mux : Mux) (journal seen entries : List Entry) (player : Sending) (before now : Known) → airings mux journal ≡ airings_by mux journal entries → IsPrefix seen journal
    → HasPlayedFront mux seen entries player before now → IsTallyOf mux journal player.tally
tally_cut mux journal seen entries player before now is p h = h.tally ∙ ap (tally_of mux.rate) (h.airings_are journal p ∙ sym is)

tally_as : (mux : Mux) (journal seen entries : List Entry) (player : Sending) (before now : Known) (end : Result (Unit {0}) SendStop) → airings mux journal ≡ airings_by mux journal entries → IsPrefix seen journal
    → PlayedAs mux seen entries player before now end → TallyDid mux journal player.tally end
tally_as mux journal seen entries player before now (Ok u) is p h = tally_ok mux journal seen entries player before now is p h
tally_as mux journal seen entries player before now (Err Air) is p h = tally_cut mux journal seen entries player before now is p h
tally_as mux journal seen entries player before now (Err Memory) is p h = tt

-- ---- the end

played_longer : (mux : Mux) (seen more entries : List Entry) (player : Sending) (before now : Known) → IsPrefix seen more → HasPlayedTo mux seen entries player before now → HasPlayedTo mux more entries player before now
played_longer mux seen more entries player before now p h = record {
  cycles = h.cycles;
  at_end = h.at_end;
  airings_are = put_longer mux seen more entries (airings_of h.cycles) p h.airings_are;
  made = h.made;
  player_of = h.player_of;
  tally = h.tally;
  bytes = h.bytes;
}

-- whole cycles are also some
to_some : (mux : Mux) (seen more entries : List Entry) (player : Sending) (before now : Known) → IsPrefix seen more → HasPlayedTo mux seen entries player before now → HasPlayedSome mux more entries before now
to_some mux seen more entries player before now p h = record {
  done = entries;
  left = [];
  entries_are = sym (append-nil entries);
  whole = h.cycles;
  is_air = own_air mux player h.cycles h.player_of h.at_end;
  airings_are = put_longer mux seen more entries (airings_of h.cycles) p h.airings_are;
  made = h.made;
  bytes = h.bytes;
}

front_final : (who k : ℕ) → k ≤ 2 → (who, Publish) ∷ swaps_by who k ≡ take (suc k) (final_commands who)
front_final who zero le = refl
front_final who (suc zero) le = refl
front_final who (suc (suc zero)) le = refl
front_final who (suc (suc (suc k))) le = absurd (omega arith)

-- a tick, and a front of what comes after it
take_after : (xs ys : List Command) (k : ℕ) → xs ++ take k ys ≡ take (length xs + k) (xs ++ ys)
take_after [] ys k = let e : k ≡ 0 + k = omega arith in ap (λ (n : ℕ). take n ys) e
take_after (x ∷ xs) ys k =
    let e : suc (length xs + k) ≡ suc (length xs) + k = omega arith in
    ap (λ (l : List Command). x ∷ l) (take_after xs ys k) ∙ ap (λ (n : ℕ). take n (x ∷ (xs ++ ys))) e

tick_front : (who : ℕ) (tick : Option Moment) → tick_by who tick ≡ take (length (tick_by who tick)) (tick_by who tick ++ final_commands who)
tick_front who None = refl
tick_front who (Some at) = refl

-- what a whole journal puts on air
pub airs_are : {control player : Caller Entry} {feeds : List (Caller Entry)} {final : List Entry} {mux : Mux} {journal : List Entry} → JournalDid control player feeds final mux journal
    → airings mux journal ≡ airings_by mux journal (player.made ++ final)
airs_are {mux = mux} {journal = journal} did = ap (map (airing_at mux journal)) did.swaps_are

module _ (mux : Mux) (control player : View) (feeds : List (Caller Entry)) (old : Sending) (mid now : Known) (journal : List Entry) (v w : View) where
  -- what the ending rests on
  pub record Ready : Type 0 where
    pub closes : Closes caller_of w journal
    pub legal : Legal mux journal
    pub own : v.own ≡ control.own
    pub finished : v.finished ≡ player.own ∷ feeds
    pub seen : IsPrefix player.seen v.seen
    pub low : player.own.low ≡ 1
    pub swaps : AllByRecursion (SwapsNot 1) (control.own ∷ player.own ∷ feeds)
    pub apart : AllByRecursion (λ (c : Caller Entry). c.low ≢ control.own.low) (player.own ∷ feeds)

  plain : Ready → w ≡ record v { seen = w.seen } → JournalDid control.own player.own feeds [] mux journal
  plain r same =
      subst (λ (c : Caller Entry). JournalDid c player.own feeds [] mux journal) r.own
      (closed_plain mux v w player.own feeds journal r.closes r.legal same r.finished r.low (subst (λ (c : Caller Entry). AllByRecursion (SwapsNot 1) (c ∷ player.own ∷ feeds)) (sym r.own) r.swaps))

  plain_air : Ready → IsPrefix v.seen w.seen → IsPrefix player.seen journal
  plain_air r p = prefix_trans player.seen v.seen journal r.seen (prefix_trans v.seen w.seen journal p r.closes.began)

  same_seen : w ≡ v → w ≡ record v { seen = w.seen }
  same_seen e = e ∙ ap (λ (l : List Entry). let z : View = record v { seen = l } in z) (ap (λ (z : View). z.seen) (sym e))

  prefix_same : w ≡ v → IsPrefix v.seen w.seen
  prefix_same e = subst (IsPrefix v.seen) (ap (λ (z : View). z.seen) (sym e)) (prefix_self v.seen)

  -- nothing was made
  pub ended_plain : Ready → (new : Sending) (end : Result (Unit {0}) SendStop) → w ≡ v → now ≡ mid → new ≡ old → EndDid mux control player feeds old end true mid now journal new.tally end
  ended_plain r new end e same kept =
      let did = plain r (same_seen e) in
      record {
        final = [];
        journal_did = did;
        began = plain_air r (prefix_same e);
        last = refl;
        aired = λ before h. air_as mux journal player.seen player.own.made old before now end (airs_are did ∙ ap (airings_by mux journal) (append-nil player.own.made)) (plain_air r (prefix_same e))
            (subst (λ (k : Known). PlayedAs mux player.seen player.own.made old before k end) (sym same) h);
        tallied = λ before h. subst (λ (s : Sending). TallyDid mux journal s.tally end) (sym kept)
            (tally_as mux journal player.seen player.own.made old before mid end (airs_are did ∙ ap (airings_by mux journal) (append-nil player.own.made)) (plain_air r (prefix_same e)) h);
      }

  -- turns were made after all jobs
  turns_did : Ready → (final : List Entry) → TurnsDone v w final → JournalDid control.own player.own feeds final mux journal
  turns_did r final t =
      subst (λ (c : Caller Entry). JournalDid c player.own feeds final mux journal) r.own
      (closed_final mux v w player.own feeds final journal t r.closes r.legal r.finished r.low
      (subst (λ (c : Caller Entry). AllByRecursion (SwapsNot 1) (c ∷ player.own ∷ feeds)) (sym r.own) r.swaps)
      (subst (λ (c : Caller Entry). AllByRecursion (λ (x : Caller Entry). x.low ≢ c.low) (player.own ∷ feeds)) (sym r.own) r.apart))

  seen_turns : Ready → IsPrefix v.seen w.seen → IsPrefix player.seen journal
  seen_turns r p = prefix_trans player.seen v.seen journal r.seen (prefix_trans v.seen w.seen journal p r.closes.began)

  -- the control's last turns were made
  module _ (tick : Option Moment) (b m : View) (t : Ticked tick v b) (n : ℕ) (p : Made Publish (Published n) b m) (l : LastSwaps m w) where
    abbrev final_of : List Entry
    final_of = went_entries tick v b m w n t l

    final_did : Ready → JournalDid control.own player.own feeds final_of mux journal
    final_did r = turns_did r final_of (went_done tick v b m w n t p l)

    to_publish : IsPrefix v.seen m.seen
    to_publish = prefix_trans v.seen b.seen m.seen (tick_began tick v b t) (made_began Publish (Published n) b m p)

    final_began : Ready → IsPrefix player.seen journal
    final_began r = seen_turns r (prefix_trans v.seen m.seen w.seen to_publish l.did.began)

    first_airs : airings_by mux journal (tick_entries tick v b t ++ entry_of v.own.low Publish (Published n) ∷ []) ≡ []
    first_airs = airings-append mux journal (tick_entries tick v b t) (entry_of v.own.low Publish (Published n) ∷ []) ∙ append-nil (airings_by mux journal (tick_entries tick v b t)) ∙ tick_airs mux journal tick v b t

    final_airs : Ready → airings mux journal ≡ airings_by mux journal (player.own.made ++ l.did.added)
    final_airs r =
        airs_are (final_did r)
        ∙ ap (λ (f : List Entry). airings_by mux journal (player.own.made ++ f)) (sym (append_assoc (tick_entries tick v b t) (entry_of v.own.low Publish (Published n) ∷ []) l.did.added))
        ∙ sym (airs_final mux journal player.own.made (tick_entries tick v b t ++ entry_of v.own.low Publish (Published n) ∷ []) l.did.added first_airs)

    -- what was played before is played still
    played_on : Ready → (before : Known) → HasPlayedTo mux player.seen player.own.made old before mid → HasPlayedTo mux m.seen player.own.made old before mid
    played_on r before h = played_longer mux player.seen m.seen player.own.made old before mid (prefix_trans player.seen v.seen m.seen r.seen to_publish) h

    final_commands_are : Ready → map command_of final_of ≡ tick_by control.own.low tick ++ (control.own.low, Publish) ∷ swaps_by control.own.low l.k
    final_commands_are r =
        let low_m : m.own.low ≡ v.own.low = ap (λ (z : View). z.own.low) p.gained ∙ tick_low tick v b t in
        subst (λ (i : ℕ). map command_of final_of ≡ tick_by i tick ++ (i, Publish) ∷ swaps_by i l.k) (ap (λ (c : Caller Entry). c.low) r.own)
        (map-append command_of (tick_entries tick v b t) (entry_of v.own.low Publish (Published n) ∷ l.did.added)
        ∙ ap (λ (c : List Command). c ++ (v.own.low, Publish) ∷ map command_of l.did.added) (tick_commands tick v b t)
        ∙ ap (λ (c : List Command). tick_by v.own.low tick ++ (v.own.low, Publish) ∷ c) (l.did.commands_are ∙ l.are ∙ ap (λ (i : ℕ). swaps_by i l.k) low_m))

    final_front : Ready → map command_of final_of ≡ tick_by control.own.low tick ++ take (suc l.k) (final_commands control.own.low)
    final_front r = final_commands_are r ∙ ap (λ (c : List Command). tick_by control.own.low tick ++ c) (front_final control.own.low l.k l.few)

  ended_final : Ready → (new : Sending) (u : Unit {0}) (sent : Result (Unit {0}) SendStop) → Went mux v w old new mid now sent → EndDid mux control player feeds old (Ok u) false mid now journal new.tally sent
  ended_final r new u (Ok x) f =
      let (t, on) = f.played in
      let tick = tick_now true old in
      let l = last_swaps mux 2 f.published w old mid (omega arith) t in
      record {
        final = final_of tick f.between f.published f.ticked f.number f.made l;
        journal_did = final_did tick f.between f.published f.ticked f.number f.made l r;
        began = final_began tick f.between f.published f.ticked f.number f.made l r;
        last = final_front tick f.between f.published f.ticked f.number f.made l r;
        aired = λ before h. air_ok mux journal w.seen (player.own.made ++ t.did.added) new before now (final_airs tick f.between f.published f.ticked f.number f.made l r) r.closes.began
            (on player.own.made before (played_on tick f.between f.published f.ticked f.number f.made l r before h));
        tallied = λ before h. tally_ok mux journal w.seen (player.own.made ++ t.did.added) new before now (final_airs tick f.between f.published f.ticked f.number f.made l r) r.closes.began
            (on player.own.made before (played_on tick f.between f.published f.ticked f.number f.made l r before h));
      }
  ended_final r new u (Err Air) f =
      let (k, less, (t, on)) = f.played in
      let tick = tick_now true old in
      let l = last_swaps mux (suc k) f.published w old mid (omega (arith, less)) t in
      record {
        final = final_of tick f.between f.published f.ticked f.number f.made l;
        journal_did = final_did tick f.between f.published f.ticked f.number f.made l r;
        began = final_began tick f.between f.published f.ticked f.number f.made l r;
        last = (k, less, final_front tick f.between f.published f.ticked f.number f.made l r);
        aired = λ before h. air_cut mux journal w.seen (player.own.made ++ t.did.added) new before now (final_airs tick f.between f.published f.ticked f.number f.made l r) r.closes.began
            (on player.own.made before (played_on tick f.between f.published f.ticked f.number f.made l r before h));
        tallied = λ before h. tally_cut mux journal w.seen (player.own.made ++ t.did.added) new before now (final_airs tick f.between f.published f.ticked f.number f.made l r) r.closes.began
            (on player.own.made before (played_on tick f.between f.published f.ticked f.number f.made l r before h));
      }
  ended_final r new u (Err Memory) f =
      let (t, on) = f.played in
      let tick = tick_now true old in
      let l = begun_swaps mux f.published w old mid t in
      record {
        final = final_of tick f.between f.published f.ticked f.number f.made l;
        journal_did = final_did tick f.between f.published f.ticked f.number f.made l r;
        began = final_began tick f.between f.published f.ticked f.number f.made l r;
        last = (
          length (tick_by control.own.low tick) + suc (length t.ticks),
          final_front tick f.between f.published f.ticked f.number f.made l r ∙ take_after (tick_by control.own.low tick) (final_commands control.own.low) (suc (length t.ticks)),
        );
        aired = λ before h. air_some mux journal w.seen (player.own.made ++ t.did.added) before now (final_airs tick f.between f.published f.ticked f.number f.made l r) r.closes.began
            (on player.own.made before (played_on tick f.between f.published f.ticked f.number f.made l r before h));
        tallied = λ before h. tt;
      }

  -- memory was wanting for the publish
  halted_air : Ready → (final : List Entry) → JournalDid control.own player.own feeds final mux journal → airings_by mux journal final ≡ [] → IsPrefix player.seen journal → now ≡ mid → (before : Known)
      → HasPlayedTo mux player.seen player.own.made old before mid → SomeAirOf mux journal before now
  halted_air r final did none began same before h =
      air_some mux journal player.seen player.own.made before now
      (airs_are did ∙ airings-append mux journal player.own.made final ∙ ap (λ (l : List AiredTables). airings_by mux journal player.own.made ++ l) none ∙ append-nil (airings_by mux journal player.own.made)) began
      (subst (λ (k : Known). HasPlayedSome mux player.seen player.own.made before k) (sym same) (to_some mux player.seen player.seen player.own.made old before mid (prefix_self player.seen) h))

  halted_plain : Ready → (tally : Tallied) (u : Unit {0}) → Idle v w → now ≡ mid → EndDid mux control player feeds old (Ok u) false mid now journal tally (Err Memory)
  halted_plain r tally u i same =
      let did = plain r i.same in
      record {
        final = [];
        journal_did = did;
        began = plain_air r i.began;
        last = (0, refl);
        aired = λ before h. halted_air r [] did refl (plain_air r i.began) same before h;
        tallied = λ before h. tt;
      }

  -- after its tick
  halted_ticked : Ready → (tally : Tallied) (u : Unit {0}) (at : Moment) (b : View) (t : Ticked (Some at) v b) → Some at ≡ tick_now true old → Idle b w → now ≡ mid → EndDid mux control player feeds old (Ok u) false mid now journal tally (Err Memory)
  halted_ticked r tally u at b t is i same =
      let final : List Entry = tick_entries (Some at) v b t in
      let did = turns_did r final (tick_turns at v b w t i) in
      let began = seen_turns r (prefix_trans v.seen b.seen w.seen (tick_began (Some at) v b t) i.began) in
      let low : v.own.low ≡ control.own.low = ap (λ (c : Caller Entry). c.low) r.own in
      record {
        final = final;
        journal_did = did;
        began = began;
        last = (1, ap (λ (i : ℕ). tick_by i (Some at)) low ∙ ap (λ (o : Option Moment). take 1 (tick_by control.own.low o ++ final_commands control.own.low)) is);
        aired = λ before h. halted_air r final did (tick_airs mux journal (Some at) v b t) began same before h;
        tallied = λ before h. tt;
      }

  halted_by : Ready → (tally : Tallied) (u : Unit {0}) (tick : Option Moment) (b : View) → tick ≡ tick_now true old → (b ≡ v) ⊎ Ticked tick v b → Idle b w → now ≡ mid → EndDid mux control player feeds old (Ok u) false mid now journal tally (Err Memory)
  halted_by r tally u tick b is (inl there) i same = halted_plain r tally u (subst (λ (z : View). Idle z w) there i) same
  halted_by r tally u None b is (inr there) i same = halted_plain r tally u (subst (λ (z : View). Idle z w) there i) same
  halted_by r tally u (Some at) b is (inr t) i same = halted_ticked r tally u at b t is i same

  ended_halted : Ready → (tally : Tallied) (u : Unit {0}) (sent : Result (Unit {0}) SendStop) → Halted v w old mid now sent → EndDid mux control player feeds old (Ok u) false mid now journal tally (Err Memory)
  ended_halted r tally u sent h = halted_by r tally u (tick_now true old) h.between refl h.ticked h.idle h.same

  ended_going : Ready → (new : Sending) (u : Unit {0}) (stopped : Bool) (sent : Result (Unit {0}) SendStop) → LastDid stopped mux v w old new mid now sent → EndDid mux control player feeds old (Ok u) stopped mid now journal new.tally sent
  ended_going r new u true sent d = subst (λ (z : Result (Unit {0}) SendStop). EndDid mux control player feeds old (Ok u) true mid now journal new.tally z) (sym d.0) (ended_plain r new (Ok u) d.1 d.2 d.3)
  ended_going r new u false sent (inl f) = ended_final r new u sent f
  ended_going r new u false sent (inr h) = subst (λ (z : Result (Unit {0}) SendStop). EndDid mux control player feeds old (Ok u) false mid now journal new.tally z) (sym h.memory) (ended_halted r new.tally u sent h)

  pub ended : {X Y : Type 0} → Ready → (new : Sending) (end last : Result (Unit {0}) SendStop) (x : Option X) (y : Option Y)
      → LastDid (halts end x y) mux v w old new mid now last → EndDid mux control player feeds old end (halts end x y) mid now journal new.tally (and_sent end last)
  ended r new (Err stop) last x y d = ended_plain r new (Err stop) d.1 d.2 d.3
  ended r new (Ok u) last x y d = ended_going r new u (is_some x || is_some y) last d
