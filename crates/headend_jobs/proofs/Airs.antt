-- What a swap puts on air, in each journal that begins with what its pass has then seen.
use Rattle.std.proofs.Common.{◌≡◌, ℕ, ◌≤◌, List, [], ◌∷◌, ◌++◌, take, refl, sym, ap, ◌∙◌, subst, arith}
use Rattle.std.specs.Prelude.{Option, Some, Ok, Err}
use Rattle.std.specs.Io.KnownBytes.{Appends}
use Rattle.std.proofs.KnownBytes.{Appends-trans}
use mathlib.Core.List.{IsPrefix}
use Rattle.guide_model.specs.declared.guide.Guide.{Guide}
use Rattle.si_time.specs.declared.moment.Moment.{Moment}
use Rattle.mux_model.specs.declared.mux.Mux.{Mux}
use Rattle.version_book.specs.Airings.{CycleForm, AiredTables}
use Rattle.air_model.specs.Air.{Aired, airings_of, air_bytes}
use Rattle.air_model.proofs.Airs.{airings_of-push, air_bytes-push}
use Rattle.cycle_player.specs.Airs.{cycle_at, IsAirAt}
use Rattle.cycle_player.specs.Sending.{Sending, AtEnd}
use Rattle.cycle_player.proofs.Airs.{made_push}
use Rattle.cycle_player.specs.Tallies.{tally_of}
use Rattle.cycle_player.proofs.Ends.{end_air}
use Rattle.publication.specs.Tables.{tables_of, HasServicesOf}
use Rattle.journal_model.specs.declared.step.Step.{Step}
use Rattle.journal_model.specs.declared.step.Step.TheVariants.{Swap}
use Rattle.journal_model.specs.declared.step.Outcome.{Outcome}
use Rattle.journal_model.specs.declared.step.Outcome.TheVariants.{Swapped}
use Rattle.desk_core.specs.declared.airing.Airing.{Airing}
use Rattle.journal_model.specs.declared.step.Entry.{Entry}
use Rattle.desk_core.specs.Journal.{publishes}
use Rattle.desk_core.specs.Publications.{aired_by, publication}
use Rattle.desk_core.specs.Desks.{on_air_of}
use Rattle.desk_core.proofs.JournalFacts.{publication_stays}
use Rattle.journal_air.specs.declared.send.SendStop.TheVariants.{Air}
use Rattle.journal_air.specs.OnAir.{IsPlayerOf, airing_by, cycle_bytes}
use Rattle.journal_air.specs.Air.{airings_by, mux_form}
use Rattle.journal_air.specs.Tallied.{HasCounted}
use Rattle.journal_air.proofs.Tallied.{counted_more}
use Rattle.journal_air.proofs.SwapFacts.{airings-append, publishes-front}
use Rattle.journal_air.proofs.AirFacts.{on_air_services}
use Rattle.turn_lock.proofs.Lists.{prefix_trans}
use Rattle.desk_hall.specs.Turn.{View, entry_of, desk_with, Made}
use Rattle.headend_jobs.specs.Playing.{airing_with_tables, ArePutOnAir, HasPlayedTo, HasPlayedFront, HasPlayedSome, SwapSent, GoesOn}
use Rattle.desk_hall.proofs.Turns.{some_same}
use Rattle.desk_hall.proofs.Passes.{made_began}

abbrev Known : Type 0
Known = Option (List ℕ)

-- the number of a swap is the number of a publication that its pass has seen
pub swap_number : (n : ℕ) (airing : Airing) (v w : View) → (m : Made Swap (Swapped airing.number airing.moment) v w) → airing.number ≤ publishes w.seen
swap_number n airing v w m =
    let same : airing.number ≡ publishes m.before = ap (λ p. p.0) (some_same _ _ (ap aired_by m.outcome_is)) in
    omega (arith, same, publishes-front m.before (entry_of v.own.low Swap (Swapped airing.number airing.moment) ∷ []), ap publishes m.seen)

-- what one swap puts on air
pub puts : (mux : Mux) (airing : Airing) (v w : View) → Made Swap (Swapped airing.number airing.moment) v w → airing ≡ on_air_of (desk_with mux w.seen)
    → ArePutOnAir mux w.seen (entry_of v.own.low Swap (Swapped airing.number airing.moment) ∷ []) (airing_with_tables mux airing ∷ [])
puts mux airing v w m is journal (zs, e) =
    let le = swap_number 0 airing v w m in
    let guide : airing.guide ≡ publication mux w.seen airing.number = subst (λ (x : Airing). x.guide ≡ publication mux w.seen x.number) (sym is) refl in
    let there : publication mux journal airing.number ≡ publication mux w.seen airing.number =
    ap (λ (l : List Entry). publication mux l airing.number) (sym e) ∙ publication_stays mux w.seen zs airing.number le in
    ap (λ (g : Guide). let a : AiredTables = record { tables = tables_of mux g; moment = airing.moment.0; form = mux_form mux } in a ∷ []) (guide ∙ sym there)

-- what is on air in longer journals too
pub put_longer : (mux : Mux) (seen more entries : List Entry) (airings : List AiredTables) → IsPrefix seen more → ArePutOnAir mux seen entries airings → ArePutOnAir mux more entries airings
put_longer mux seen more entries airings p are journal q = are journal (prefix_trans seen more journal p q)

-- and of more entries
pub put_more : (mux : Mux) (seen front then : List Entry) (xs ys : List AiredTables) → ArePutOnAir mux seen front xs → ArePutOnAir mux seen then ys → ArePutOnAir mux seen (front ++ then) (xs ++ ys)
put_more mux seen front then xs ys a b journal p =
    ap (λ (l : List AiredTables). l ++ ys) (a journal p) ∙ ap (λ (l : List AiredTables). airings_by mux journal front ++ l) (b journal p)
    ∙ sym (airings-append mux journal front then)

-- the airings of the cycles with one more, whose entry was just made
one_more : (mux : Mux) (airing : Airing) (v w : View) (front : List Entry) (xs : List Aired) (x : Aired) → Made Swap (Swapped airing.number airing.moment) v w → airing ≡ on_air_of (desk_with mux w.seen)
    → ArePutOnAir mux v.seen front (airings_of xs) → x.airing ≡ airing_with_tables mux airing
    → ArePutOnAir mux w.seen (front ++ entry_of v.own.low Swap (Swapped airing.number airing.moment) ∷ []) (airings_of (xs ++ x ∷ []))
one_more mux airing v w front xs x m is are e =
    let entry : Entry = entry_of v.own.low Swap (Swapped airing.number airing.moment) in
    subst (λ (l : List AiredTables). ArePutOnAir mux w.seen (front ++ entry ∷ []) l)
    (ap (λ (a : AiredTables). airings_of xs ++ a ∷ []) (sym e) ∙ sym (airings_of-push xs x))
    (put_more mux w.seen front (entry ∷ []) (airings_of xs) (airing_with_tables mux airing ∷ [])
    (put_longer mux v.seen w.seen front (airings_of xs) (made_began Swap (Swapped airing.number airing.moment) v w m) are)
    (puts mux airing v w m is))

-- the airing of a player with the multiplex's form
own_form : (mux : Mux) (airing : Airing) (player : Sending) → player.form ≡ mux_form mux → airing_by mux player.form airing ≡ airing_with_tables mux airing
own_form mux airing player form = ap (λ (f : CycleForm). airing_by mux f airing) form

-- the packets of a cycle, at the multiplex's rate
own_cycle : (rate : Option ℕ) (player : Sending) (xs : List Aired) (x : Aired) (a : AiredTables)
    → player.rate ≡ rate → x.airing ≡ a → x.packets ≡ cycle_at player.rate xs a
    → x.packets ≡ cycle_at rate xs x.airing
own_cycle rate player xs x a same e packets =
    packets ∙ ap (λ (r : Option ℕ). cycle_at r xs a) same ∙ ap (cycle_at rate xs) (sym e)

-- what a player of the multiplex has sent is an air at the multiplex's rate
pub own_air : (mux : Mux) (player : Sending) (xs : List Aired) → IsPlayerOf mux player
    → AtEnd xs player → IsAirAt mux.rate (airings_of xs) xs
own_air mux player xs is end =
    subst (λ (r : Option ℕ). IsAirAt r (airings_of xs) xs) is.rate (end_air xs player end)

-- the tally with one more cycle, which was begun
one_counted : (mux : Mux) (airing : Airing) (old new : Sending) (xs : List Aired) (x : Aired) → x.airing ≡ airing_by mux old.form airing → IsPlayerOf mux old
    → old.tally ≡ tally_of mux.rate (airings_of xs) → HasCounted (airing_by mux old.form airing) old new → new.tally ≡ tally_of mux.rate (airings_of (xs ++ x ∷ []))
one_counted mux airing old new xs x e is has counted =
    counted_more mux.rate (airings_of xs) (airings_of (xs ++ x ∷ [])) (airing_by mux old.form airing) old new
    (airings_of-push xs x ∙ ap (λ (a : AiredTables). airings_of xs ++ a ∷ []) e) is.rate has counted

-- a whole cycle was sent
pub sent_whole : (tick : Option Moment) (mux : Mux) (v w : View) (old new : Sending) (mid now : Known) (u : Unit {0}) → (s : SwapSent tick mux v w old new mid now (Ok u))
    → GoesOn (λ entries before. HasPlayedTo mux w.seen entries new before now) mux s.between (entry_of s.between.own.low Swap (Swapped s.airing.number s.airing.moment) ∷ []) old mid
sent_whole tick mux v w old new mid now u s = λ front before h.
    let xs = h.cycles in
    let (x, e, packets, ended, took) = s.sent xs h.at_end in
    let rate : new.rate ≡ mux.rate = s.rate ∙ h.player_of.rate in
    record {
      cycles = xs ++ x ∷ [];
      at_end = ended;
      airings_are = one_more mux s.airing s.between w front xs x s.made s.airing_is h.airings_are (e ∙ own_form mux s.airing old h.player_of.form);
      made = made_push mux.rate [] xs x h.made (own_cycle mux.rate new xs x _ rate e packets);
      player_of = record { form = s.form ∙ h.player_of.form; rate = rate };
      tally = one_counted mux s.airing old new xs x e h.player_of h.tally s.counted;
      bytes = subst (Appends before now) (sym (air_bytes-push xs x)) (Appends-trans before mid now (air_bytes xs) (cycle_bytes x) h.bytes took);
    }

-- a cycle was sent in part
pub sent_front : (tick : Option Moment) (mux : Mux) (v w : View) (old new : Sending) (mid now : Known) → (s : SwapSent tick mux v w old new mid now (Err Air))
    → GoesOn (λ entries before. HasPlayedFront mux w.seen entries new before now) mux s.between (entry_of s.between.own.low Swap (Swapped s.airing.number s.airing.moment) ∷ []) old mid
sent_front tick mux v w old new mid now s = λ front before h.
    let xs = h.cycles in
    let (x, e, packets, is_air, (n, proper, took)) = s.sent xs h.at_end in
    let rate : new.rate ≡ mux.rate = s.rate ∙ h.player_of.rate in
    record {
      whole = xs;
      cut = x;
      is_air = subst (λ (r : Option ℕ). IsAirAt r (airings_of (xs ++ x ∷ [])) (xs ++ x ∷ [])) rate is_air;
      airings_are = one_more mux s.airing s.between w front xs x s.made s.airing_is h.airings_are (e ∙ own_form mux s.airing old h.player_of.form);
      made = made_push mux.rate [] xs x h.made (own_cycle mux.rate new xs x _ rate e packets);
      tally = one_counted mux s.airing old new xs x e h.player_of h.tally s.counted;
      taken = n;
      proper = proper;
      bytes = Appends-trans before mid now (air_bytes xs) (take n (cycle_bytes x)) h.bytes took;
    }

-- no cycle was sent
pub sent_none : (mux : Mux) (v w : View) (old : Sending) (mid now : Known) (added : List Entry) → IsPrefix v.seen w.seen → now ≡ mid
    → GoesOn (λ entries before. HasPlayedSome mux w.seen entries before now) mux v added old mid
sent_none mux v w old mid now added p same = λ front before h. record {
  done = front;
  left = added;
  entries_are = refl;
  whole = h.cycles;
  is_air = own_air mux old h.cycles h.player_of h.at_end;
  airings_are = put_longer mux v.seen w.seen front (airings_of h.cycles) p h.airings_are;
  made = h.made;
  bytes = subst (λ (k : Known). Appends before k (air_bytes h.cycles)) (sym same) h.bytes;
}

-- what the airing of a swap needs for its cycle
pub airing_services : (mux : Mux) (airing : Airing) (w : View) → airing ≡ on_air_of (desk_with mux w.seen) → HasServicesOf mux airing.guide
airing_services mux airing w is = on_air_services (desk_with mux w.seen) mux airing refl is

pub stands_still : (mux : Mux) (step : Step) (outcome : Outcome) (v w : View) → v.on ≡ Some mux → Made step outcome v w → w.on ≡ Some mux
stands_still mux step outcome v w on m = ap (λ (z : View). z.on) m.gained ∙ on
