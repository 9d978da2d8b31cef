-- Several swaps of one pass, each after its tick and with its cycle, while other callers go on.
use Rattle.std.proofs.Common.{◌≡◌, ◌⊎◌, inl, inr, ℕ, suc, ◌<◌, Bool, true, false, List, [], ◌∷◌, ◌++◌, length, take, refl, sym, ap, ◌∙◌, subst, arith, append-nil, append_assoc, length-append}
use Rattle.std.specs.Prelude.{Option, Some, None, Ok, Err}
use mathlib.Core.List.{IsPrefix}
use Rattle.si_time.specs.declared.moment.Moment.{Moment}
use Rattle.mux_model.specs.declared.mux.Mux.{Mux}
use Rattle.version_book.specs.Airings.{AiredTables}
use Rattle.air_model.specs.Air.{Aired}
use Rattle.cycle_player.specs.Making.{tick_then}
use Rattle.cycle_player.specs.Sending.{Sending, AtEnd}
use Rattle.cycle_player.proofs.Making.{end_tells}
use Rattle.journal_model.specs.declared.step.Step.TheVariants.{Swap, Tick}
use Rattle.journal_model.specs.declared.step.Outcome.{Outcome}
use Rattle.journal_model.specs.declared.step.Outcome.TheVariants.{Swapped}
use Rattle.journal_model.specs.declared.step.Entry.{Entry}
use Rattle.journal_model.specs.Steps.{Command}
use Rattle.journal_air.specs.Air.{airing_at, airings_by}
use Rattle.journal_air.specs.declared.send.SendStop.{SendStop}
use Rattle.journal_air.specs.declared.send.SendStop.TheVariants.{Air, Memory}
use Rattle.journal_air.proofs.SwapFacts.{airings-append}
use Rattle.turn_lock.proofs.Lists.{prefix_trans}
use Rattle.desk_hall.specs.Turn.{View, entry_of, Made, Idle, Did}
use Rattle.headend_jobs.specs.Ticking.{Ticked, tick_by, tick_now, ticks_for, turns_by}
use Rattle.headend_jobs.specs.Playing.{HasPlayedTo, HasPlayedFront, HasPlayedSome, SwapSent, SwapPlayed, SwapsPlayed, TurnsMade, AreTicks, IsNextTick, GoesOn}
use Rattle.desk_hall.proofs.Passes.{did_none, did_more, did_idle, did_as, made_began}
use Rattle.headend_jobs.proofs.Airs.{sent_whole, sent_front, sent_none, stands_still}
use Rattle.headend_jobs.proofs.Ticking.{none_push, take_tick, tick_airs, ticks_push, turns_push}

abbrev Known : Type 0
Known = Option (List ℕ)

-- what goes on after what went on
then_on : (has : List Entry → Known → Type 0) (mux : Mux) (v m : View) (first then : List Entry) (old p : Sending) (mid t : Known)
    → GoesOn (λ entries before. HasPlayedTo mux m.seen entries p before t) mux v first old mid → GoesOn has mux m then p t → GoesOn has mux v (first ++ then) old mid
then_on has mux v m first then old p mid t a b = λ front before played.
    subst (λ (l : List Entry). has l before) (append_assoc front first then) (b (front ++ first) before (a front before played))

-- ---- ticks

module _ (mux : Mux) (v : View) (old : Sending) (mid : Known) where
  ticks_none : (ticking : Bool) → AreTicks ticking mux v v.seen [] old mid []
  ticks_none false = tt
  ticks_none true = λ front before played journal p. refl

  -- in longer journals, and with more entries that put nothing on air
  other_ticks : (ticking : Bool) (seen more added others : List Entry) (ticks : List (Option Moment)) → IsPrefix seen more → ((journal : List Entry) → airings_by mux journal others ≡ airings_by mux journal added)
      → AreTicks ticking mux v seen added old mid ticks → AreTicks ticking mux v more others old mid ticks
  other_ticks false seen more added others ticks p same are = are
  other_ticks true seen more added others ticks p same are = λ front before played journal q.
      subst (λ (l : List AiredTables). ticks ≡ ticks_for mux.rate (airings_by mux journal front) l) (sym (same journal)) (are front before played journal (prefix_trans seen more journal p q))

  other_tick : (ticking : Bool) (seen more added others : List Entry) (tick : Option Moment) → IsPrefix seen more → ((journal : List Entry) → airings_by mux journal others ≡ airings_by mux journal added)
      → IsNextTick ticking mux v seen added old mid tick → IsNextTick ticking mux v more others old mid tick
  other_tick false seen more added others tick p same is = is
  other_tick true seen more added others tick p same is = λ front before played journal q.
      subst (λ (l : List AiredTables). tick ≡ tick_then mux.rate (airings_by mux journal front ++ l)) (sym (same journal)) (is front before played journal (prefix_trans seen more journal p q))

  -- what the player's clock tells after what it has played
  next_tick : (ticking : Bool) (m : View) (added : List Entry) (p : Sending) (t : Known) → GoesOn (λ entries before. HasPlayedTo mux m.seen entries p before t) mux v added old mid
      → IsNextTick ticking mux v m.seen added old mid (tick_now ticking p)
  next_tick false m added p t on = refl
  next_tick true m added p t on = λ front before played journal q.
      let h = on front before played in
      end_tells mux.rate h.cycles p h.player_of.rate h.at_end h.made ∙ ap (tick_then mux.rate) (h.airings_are journal q ∙ airings-append mux journal front added)

  -- with one swap more
  ticks_more : (ticking : Bool) (seen more added : List Entry) (ticks : List (Option Moment)) (tick : Option Moment) (who n : ℕ) (at : Moment) → IsPrefix seen more
      → AreTicks ticking mux v seen added old mid ticks → IsNextTick ticking mux v seen added old mid tick
      → AreTicks ticking mux v more (added ++ entry_of who Swap (Swapped n at) ∷ []) old mid (ticks ++ tick ∷ [])
  ticks_more false seen more added ticks tick who n at p are is = none_push ticks tick are is
  ticks_more true seen more added ticks tick who n at p are is = λ front before played journal q.
      let there = prefix_trans seen more journal p q in
      let entry : Entry = entry_of who Swap (Swapped n at) in
      let past : List AiredTables = airings_by mux journal front in
      let here : List AiredTables = airings_by mux journal added in
      ap (λ (l : List (Option Moment)). l ++ tick ∷ []) (are front before played journal there)
      ∙ ap (λ (o : Option Moment). ticks_for mux.rate past here ++ o ∷ []) (is front before played journal there)
      ∙ sym (ticks_push mux.rate past here (airing_at mux journal (n, at)))
      ∙ ap (ticks_for mux.rate past) (sym (airings-append mux journal added (entry ∷ [])))

-- ---- swaps

-- so many swaps were made, and a cycle was sent for each
pub record PlayedSo (ticking : Bool) (mux : Mux) (n : ℕ) (v w : View) (old new : Sending) (mid now : Known) : Type 0 where
  pub made : TurnsMade ticking mux n v w old mid
  pub on_air : GoesOn (λ entries before. HasPlayedTo mux w.seen entries new before now) mux v made.did.added old mid
  pub stands : w.on ≡ Some mux
  pub turns : w.turns ≡ v.turns
  pub ready : (xs : List Aired) × AtEnd xs new

-- and this tick after them
record TickedSo (ticking : Bool) (mux : Mux) (n : ℕ) (tick : Option Moment) (v w : View) (old new : Sending) (mid now : Known) : Type 0 where
  ticks : List (Option Moment)
  count : length ticks ≡ n
  did : Did (turns_by v.own.low ticks ++ tick_by v.own.low tick) v w
  ticks_are : AreTicks ticking mux v w.seen did.added old mid ticks
  tick_is : IsNextTick ticking mux v w.seen did.added old mid tick
  on_air : GoesOn (λ entries before. HasPlayedTo mux w.seen entries new before now) mux v did.added old mid
  stands : w.on ≡ Some mux
  turns : w.turns ≡ v.turns

pub so_none : (ticking : Bool) (mux : Mux) (v : View) (player : Sending) (written : Known) → v.on ≡ Some mux → (xs : List Aired) × AtEnd xs player → PlayedSo ticking mux 0 v v player player written written
so_none ticking mux v player written on ready = record {
  made = record { ticks = []; count = refl; did = did_none v; ticks_are = ticks_none mux v player written ticking };
  on_air = λ front before has. subst (λ (l : List Entry). HasPlayedTo mux v.seen l player before written) (sym (append-nil front)) has;
  stands = on;
  turns = refl;
  ready = ready;
}

-- a tick puts nothing on air
ticked_on : (mux : Mux) (at : Moment) (outcome : Outcome) (m b : View) (p : Sending) (t : Known) → Made (Tick at) outcome m b
    → GoesOn (λ entries before. HasPlayedTo mux b.seen entries p before t) mux m (entry_of m.own.low (Tick at) outcome ∷ []) p t
ticked_on mux at outcome m b p t made = λ front before h.
    let entry : Entry = entry_of m.own.low (Tick at) outcome in
    record {
      cycles = h.cycles;
      at_end = h.at_end;
      airings_are = λ journal q.
          h.airings_are journal (prefix_trans m.seen b.seen journal (made_began (Tick at) outcome m b made) q)
          ∙ sym (airings-append mux journal front (entry ∷ []) ∙ ap (λ (l : List AiredTables). airings_by mux journal front ++ l) (tick_airs mux journal (Some at) m b (outcome, made)) ∙ append-nil (airings_by mux journal front));
      made = h.made;
      player_of = h.player_of;
      tally = h.tally;
      bytes = h.bytes;
    }

tick_so : (ticking : Bool) (mux : Mux) (n : ℕ) (tick : Option Moment) (v m b : View) (old p : Sending) (mid t : Known) → tick ≡ tick_now ticking p → PlayedSo ticking mux n v m old p mid t → Ticked tick m b → TickedSo ticking mux n tick v b old p mid t
tick_so ticking mux n None v m b old p mid t is g same =
    subst (λ (z : View). TickedSo ticking mux n None v z old p mid t) (sym same)
    (record {
      ticks = g.made.ticks;
      count = g.made.count;
      did = did_as (turns_by v.own.low g.made.ticks) (turns_by v.own.low g.made.ticks ++ []) v m g.made.did (sym (append-nil (turns_by v.own.low g.made.ticks)));
      ticks_are = g.made.ticks_are;
      tick_is = subst (λ (o : Option Moment). IsNextTick ticking mux v m.seen g.made.did.added old mid o) (sym is) (next_tick mux v old mid ticking m g.made.did.added p t g.on_air);
      on_air = g.on_air;
      stands = g.stands;
      turns = g.turns;
    })
tick_so ticking mux n (Some at) v m b old p mid t is g (outcome, made) =
    let entry : Entry = entry_of m.own.low (Tick at) outcome in
    let p' = made_began (Tick at) outcome m b made in
    let airs : (journal : List Entry) → airings_by mux journal (g.made.did.added ++ entry ∷ []) ≡ airings_by mux journal g.made.did.added =
    (λ journal. airings-append mux journal g.made.did.added (entry ∷ []) ∙ ap (λ (l : List AiredTables). airings_by mux journal g.made.did.added ++ l) (tick_airs mux journal (Some at) m b (outcome, made)) ∙ append-nil (airings_by mux journal g.made.did.added)) in
    record {
      ticks = g.made.ticks;
      count = g.made.count;
      did = did_more (turns_by v.own.low g.made.ticks) (Tick at) outcome v m b g.made.did made;
      ticks_are = other_ticks mux v old mid ticking m.seen b.seen g.made.did.added (g.made.did.added ++ entry ∷ []) g.made.ticks p' airs g.made.ticks_are;
      tick_is = other_tick mux v old mid ticking m.seen b.seen g.made.did.added (g.made.did.added ++ entry ∷ []) (Some at) p' airs
          (subst (λ (o : Option Moment). IsNextTick ticking mux v m.seen g.made.did.added old mid o) (sym is) (next_tick mux v old mid ticking m g.made.did.added p t g.on_air));
      on_air = then_on (λ entries before. HasPlayedTo mux b.seen entries p before t) mux v m g.made.did.added (entry ∷ []) old p mid t g.on_air (ticked_on mux at outcome m b p t made);
      stands = ap (λ (z : View). z.on) made.gained ∙ g.stands;
      turns = ap (λ (z : View). z.turns) made.gained ∙ g.turns;
    }

-- one swap more, which the pass made after others and its tick
abbrev swap_did : (ticking : Bool) (mux : Mux) (n : ℕ) (tick : Option Moment) (number : ℕ) (at : Moment) (v b w : View) (old p : Sending) (mid t : Known) → TickedSo ticking mux n tick v b old p mid t
    → Made Swap (Swapped number at) b w → TurnsMade ticking mux (suc n) v w old mid
swap_did ticking mux n tick number at v b w old p mid t s made = record {
  ticks = s.ticks ++ tick ∷ [];
  count = (let len = length-append s.ticks (tick ∷ []) in let is = s.count in omega (arith, len, is));
  did = did_as ((turns_by v.own.low s.ticks ++ tick_by v.own.low tick) ++ (v.own.low, Swap) ∷ []) (turns_by v.own.low (s.ticks ++ tick ∷ [])) v w
      (did_more (turns_by v.own.low s.ticks ++ tick_by v.own.low tick) Swap (Swapped number at) v b w s.did made) (turns_push v.own.low s.ticks tick);
  ticks_are = ticks_more mux v old mid ticking b.seen w.seen s.did.added s.ticks tick b.own.low number at (made_began Swap (Swapped number at) b w made) s.ticks_are s.tick_is;
}

so_sent : (ticking : Bool) (mux : Mux) (n : ℕ) (v m w : View) (old p new : Sending) (mid t now : Known) (u : Unit {0}) → PlayedSo ticking mux n v m old p mid t → (s : SwapSent (tick_now ticking p) mux m w p new t now (Ok u)) → PlayedSo ticking mux (suc n) v w old new mid now
so_sent ticking mux n v m w old p new mid t now u g s =
    let b = s.between in
    let tick = tick_now ticking p in
    let a = tick_so ticking mux n tick v m b old p mid t refl g s.ticked in
    record {
      made = swap_did ticking mux n tick s.airing.number s.airing.moment v b w old p mid t a s.made;
      on_air = then_on (λ entries before. HasPlayedTo mux w.seen entries new before now) mux v b a.did.added (entry_of b.own.low Swap (Swapped s.airing.number s.airing.moment) ∷ []) old p mid t a.on_air (sent_whole tick mux m w p new t now u s);
      stands = stands_still mux Swap (Swapped s.airing.number s.airing.moment) b w a.stands s.made;
      turns = ap (λ (z : View). z.turns) s.made.gained ∙ a.turns;
      ready = (let r = g.ready in let h = s.sent r.0 r.1 in (r.0 ++ h.0 ∷ [], h.3));
    }

pub so_more : (ticking : Bool) (mux : Mux) (n : ℕ) (v m w : View) (old p new : Sending) (mid t now : Known) (u : Unit {0}) → PlayedSo ticking mux n v m old p mid t → SwapPlayed (tick_now ticking p) mux m w p new t now (Ok u) → PlayedSo ticking mux (suc n) v w old new mid now
so_more ticking mux n v m w old p new mid t now u g (inl s) = so_sent ticking mux n v m w old p new mid t now u g s
so_more ticking mux n v m w old p new mid t now u g (inr none) = absurd (cc (none.memory))

pub so_all : (ticking : Bool) (mux : Mux) (n count : ℕ) (v w : View) (old new : Sending) (mid now : Known) (u : Unit {0}) → n ≡ count → PlayedSo ticking mux n v w old new mid now → SwapsPlayed ticking mux count v w old new mid now (Ok u)
so_all ticking mux n count v w old new mid now u e g = subst (λ (k : ℕ). SwapsPlayed ticking mux k v w old new mid now (Ok u)) e (g.made, g.on_air)

-- memory was wanting for the turn of a swap
so_idle : (ticking : Bool) (mux : Mux) (n count : ℕ) (tick : Option Moment) (v b w : View) (old p new : Sending) (mid t now : Known) → n < count → TickedSo ticking mux n tick v b old p mid t → Idle b w → now ≡ t
    → SwapsPlayed ticking mux count v w old new mid now (Err Memory)
so_idle ticking mux n count tick v b w old p new mid t now less a idle same = (
  record {
    ticks = a.ticks;
    tick = tick;
    more = 1;
    count = (let is = a.count in omega (arith, is, less));
    did = did_as (turns_by v.own.low a.ticks ++ tick_by v.own.low tick) (turns_by v.own.low a.ticks ++ take 1 (tick_by v.own.low tick)) v w
        (did_idle (turns_by v.own.low a.ticks ++ tick_by v.own.low tick) v b w a.did idle)
        (ap (λ (l : List Command). turns_by v.own.low a.ticks ++ l) (sym (take_tick v.own.low tick)));
    ticks_are = other_ticks mux v old mid ticking b.seen w.seen a.did.added a.did.added a.ticks idle.began (λ journal. refl) a.ticks_are;
    tick_is = λ some. other_tick mux v old mid ticking b.seen w.seen a.did.added a.did.added tick idle.began (λ journal. refl) a.tick_is;
  },
  λ front before played. subst (λ (l : List Entry). HasPlayedSome mux w.seen (front ++ l) before now) (append-nil a.did.added)
      (then_on (λ entries before. HasPlayedSome mux w.seen entries before now) mux v b a.did.added [] old p mid t a.on_air (sent_none mux b w p t now [] idle.began same) front before played),
)

-- or for that of its tick
so_still : (ticking : Bool) (mux : Mux) (n count : ℕ) (v m w : View) (old p new : Sending) (mid t now : Known) → n < count → PlayedSo ticking mux n v m old p mid t → Idle m w → now ≡ t
    → SwapsPlayed ticking mux count v w old new mid now (Err Memory)
so_still ticking mux n count v m w old p new mid t now less g idle same =
    let turns = turns_by v.own.low g.made.ticks in (
      record {
        ticks = g.made.ticks;
        tick = None;
        more = 0;
        count = (let is = g.made.count in omega (arith, is, less));
        did = did_as turns (turns ++ []) v w (did_idle turns v m w g.made.did idle) (sym (append-nil turns));
        ticks_are = other_ticks mux v old mid ticking m.seen w.seen g.made.did.added g.made.did.added g.made.ticks idle.began (λ journal. refl) g.made.ticks_are;
        tick_is = λ some. absurd (omega (arith, some));
      },
      λ front before played. subst (λ (l : List Entry). HasPlayedSome mux w.seen (front ++ l) before now) (append-nil g.made.did.added)
          (then_on (λ entries before. HasPlayedSome mux w.seen entries before now) mux v m g.made.did.added [] old p mid t g.on_air (sent_none mux m w p t now [] idle.began same) front before played),
    )

pub so_stop : (ticking : Bool) (mux : Mux) (n count : ℕ) (v m w : View) (old p new : Sending) (mid t now : Known) (stop : SendStop) → n < count → PlayedSo ticking mux n v m old p mid t → SwapPlayed (tick_now ticking p) mux m w p new t now (Err stop)
    → SwapsPlayed ticking mux count v w old new mid now (Err stop)
so_stop ticking mux n count v m w old p new mid t now Air less g (inl s) =
    let b = s.between in
    let tick = tick_now ticking p in
    let a = tick_so ticking mux n tick v m b old p mid t refl g s.ticked in (
      n,
      less,
      (
        swap_did ticking mux n tick s.airing.number s.airing.moment v b w old p mid t a s.made,
        then_on (λ entries before. HasPlayedFront mux w.seen entries new before now) mux v b a.did.added (entry_of b.own.low Swap (Swapped s.airing.number s.airing.moment) ∷ []) old p mid t a.on_air (sent_front tick mux m w p new t now s),
      ),
    )
so_stop ticking mux n count v m w old p new mid t now Air less g (inr none) = absurd (cc (none.memory))
so_stop ticking mux n count v m w old p new mid t now Memory less g (inl s) =
    let b = s.between in
    let tick = tick_now ticking p in
    let entry : Entry = entry_of b.own.low Swap (Swapped s.airing.number s.airing.moment) in
    let a = tick_so ticking mux n tick v m b old p mid t refl g s.ticked in
    let made = swap_did ticking mux n tick s.airing.number s.airing.moment v b w old p mid t a s.made in
    let turns = turns_by v.own.low (a.ticks ++ tick ∷ []) in (
      record {
        ticks = a.ticks ++ tick ∷ [];
        tick = None;
        more = 0;
        count = (let is = made.count in omega (arith, is, less));
        did = did_as turns (turns ++ []) v w made.did (sym (append-nil turns));
        ticks_are = made.ticks_are;
        tick_is = λ some. absurd (omega (arith, some));
      },
      then_on (λ entries before. HasPlayedSome mux w.seen entries before now) mux v b a.did.added (entry ∷ []) old p mid t a.on_air
          (sent_none mux b w p t now (entry ∷ []) (made_began Swap (Swapped s.airing.number s.airing.moment) b w s.made) (s.wanting refl)),
    )
so_stop ticking mux n count v m w old p new mid t now Memory less g (inr none) = go none.ticked
  where
    go : (none.between ≡ m) ⊎ Ticked (tick_now ticking p) m none.between → SwapsPlayed ticking mux count v w old new mid now (Err Memory)
    go (inl same) = so_still ticking mux n count v m w old p new mid t now less g (subst (λ (z : View). Idle z w) same none.idle) none.same
    go (inr ticked) = so_idle ticking mux n count (tick_now ticking p) v none.between w old p new mid t now less (tick_so ticking mux n (tick_now ticking p) v m none.between old p mid t refl g ticked) none.idle none.same

pub so_next : (ticking : Bool) (mux : Mux) (n next : ℕ) (v m w : View) (old p new : Sending) (mid t now : Known) (u : Unit {0}) → next ≡ suc n → PlayedSo ticking mux n v m old p mid t → SwapPlayed (tick_now ticking p) mux m w p new t now (Ok u)
    → PlayedSo ticking mux next v w old new mid now
so_next ticking mux n next v m w old p new mid t now u e g s = subst (λ (k : ℕ). PlayedSo ticking mux k v w old new mid now) (sym e) (so_more ticking mux n v m w old p new mid t now u g s)
