-- A journal that ends with a publish and two swaps.
use Rattle.std.proofs.Common.{◌≡◌, ℕ, suc, ◌+◌, ◌-◌, ◌≤◌, cond, List, [], ◌∷◌, ◌++◌, Option, Some, None, length, map, take, drop, refl, sym, ap, ap₂, ◌∙◌, subst, arith, append-nil, append_assoc, length-append, length-drop}
use Rattle.std.proofs.lemmas.List.{length-map}
use Rattle.std.specs.Prelude.{slice_range, slice_index}
use Rattle.std.specs.List.{cons_option}
use Rattle.std.specs.Io.KnownBytes.{Appends}
use Rattle.std.proofs.lemmas.List.{map-append, drop-map, take_all, get_or-append-add}
use Rattle.std.proofs.lemmas.List.Elements.{filter_map-append}
use Rattle.si_time.specs.declared.moment.Moment.{Moment}
use Rattle.guide_model.specs.declared.guide.Guide.{Guide}
use Rattle.mux_model.specs.declared.mux.Mux.{Mux}
use Rattle.mux_model.specs.Fed.{fed_services}
use Rattle.guide_limits.specs.Guides.{book_after, guide_of as guide_at}
use Rattle.journal_model.specs.declared.step.Step.{Step}
use Rattle.journal_model.specs.declared.step.Step.TheVariants.{Publish, Swap}
use Rattle.journal_model.specs.declared.step.Entry.{Entry}
use Rattle.journal_model.specs.Steps.{Command, command_of}
use Rattle.desk_core.specs.Journal.{Legal, LegalAfter, is_publish, accepted, accepted_by, publishes, moment_of, ticked_by, outcome_of}
use Rattle.desk_core.specs.Publications.{aired_by, guide_after, publication, swaps}
use Rattle.desk_core.proofs.JournalFacts.{publishes-push, accepted-push, publication-kept, publication-new, moment-other}
use Rattle.version_book.specs.Airings.{AiredTables}
use Rattle.ts_packets.specs.Bytes.{Packet, bytes_of_packet}
use Rattle.ts_packets.specs.WholePackets.{whole_packets}
use Rattle.ts_packets.proofs.WholePackets.{whole_packets-all}
use Rattle.ts_demux.specs.Sections.{heard_all}
use Rattle.air_model.specs.Air.{Aired, air, airings_of, air_bytes}
use Rattle.air_model.specs.Repeating.{IsRepeatingAirOf}
use Rattle.air_model.proofs.Airs.{air-push, repeating-whole}
use Rattle.cycle_player.specs.Airs.{IsAirAt}
use Rattle.cycle_player.proofs.Airs.{air_repeats}
use Rattle.air_laws.proofs.Coherent.{packets_joined, packets_whole}
use Rattle.guide_screen.specs.declared.need.Heard.{Heard}
use Rattle.guide_screen.specs.declared.need.Heard.TheVariants.{Whole}
use Rattle.guide_receiver.specs.Latest.{clock_of}
use Rattle.guide_receiver.specs.Guides.{guide_of}
use Rattle.publication.specs.Tables.{tables_of}
use Rattle.journal_air.specs.Screen.{screen_of}
use Rattle.journal_air.specs.Published.{number_at, StaysPublished, AreShown}
use Rattle.journal_air.specs.Air.{airing_at, airings}
use Rattle.journal_air.specs.JournalScreenShown.{IsAsRead, numbers_on_air}
use Rattle.journal_air.specs.Last.{IsShownLast}
use Rattle.journal_air.specs.JournalScreenLaws.{JournalsEndShown}
use Rattle.journal_air.proofs.JournalScreenShown.{exact_of}

-- ---- lists

-- cycles whose airings end with two
split_two : (front : List AiredTables) (a b : AiredTables) (cycles : List Aired) → airings_of cycles ≡ front ++ a ∷ b ∷ []
    → (before : List Aired) × (x : Aired) × (y : Aired) × (cycles ≡ before ++ x ∷ y ∷ []) × (x.airing ≡ a) × (y.airing ≡ b) × (length before ≡ length front)
split_two [] a b [] e = cc
split_two [] a b (x ∷ []) e = cc
split_two [] a b (x ∷ y ∷ []) e = (let one : x.airing ≡ a = cc in let two : y.airing ≡ b = cc in ([], x, y, refl, one, two, refl))
split_two [] a b (x ∷ y ∷ z ∷ cycles) e = cc
split_two (c ∷ front) a b [] e = cc
split_two (c ∷ front) a b (z ∷ cycles) e =
    let rest : airings_of cycles ≡ front ++ a ∷ b ∷ [] = cc in
    let (before, x, y, cut, one, two, size) = split_two front a b cycles rest in
    (z ∷ before, x, y, ap (λ (l : List Aired). z ∷ l) cut, one, two, ap suc size)

no_parts : {X : Type 0} (one : List X) (x : X) (two : List X) → [] ≡ one ++ x ∷ two → Prim.⊥
no_parts [] x two e = cc
no_parts (y ∷ one) x two e = cc

-- entries after others are legal after them
legal_behind : (mux : Mux) (before front rest : List Entry) → LegalAfter mux before (front ++ rest) → LegalAfter mux (before ++ front) rest
legal_behind mux before [] rest legal = subst (λ (l : List Entry). LegalAfter mux l rest) (sym (append-nil before)) legal
legal_behind mux before (x ∷ front) rest legal =
    subst (λ (l : List Entry). LegalAfter mux l rest) (append_assoc before (x ∷ []) front) (legal_behind mux (before ++ x ∷ []) front rest legal.1)

-- an entry that is no accepted edit
none_accepted : (before : List Entry) (e : Entry) → accepted (e ∷ []) ≡ [] → accepted (before ++ e ∷ []) ≡ accepted before
none_accepted before e none = accepted-push before e ∙ ap (λ l. accepted before ++ l) none ∙ append-nil (accepted before)

-- ---- the end of a journal

module _ (mux : Mux) (front : List Entry) (p f l : Entry) (publish : p.step ≡ Publish) (first : f.step ≡ Swap) (last : l.step ≡ Swap)
    (legal : Legal mux (front ++ p ∷ f ∷ l ∷ [])) where
  abbrev journal : List Entry
  journal = front ++ p ∷ f ∷ l ∷ []

  abbrev one : List Entry
  one = front ++ p ∷ []

  abbrev two : List Entry
  two = one ++ f ∷ []

  abbrev three : List Entry
  three = two ++ l ∷ []

  abbrev number : ℕ
  number = 1 + publishes front

  whole : journal ≡ three
  whole = sym (ap (λ (xs : List Entry). xs ++ l ∷ []) (append_assoc front (p ∷ []) (f ∷ [])) ∙ append_assoc front (p ∷ f ∷ []) (l ∷ []))

  behind : LegalAfter mux front (p ∷ f ∷ l ∷ [])
  behind = legal_behind mux [] front (p ∷ f ∷ l ∷ []) legal

  count_one : publishes one ≡ number
  count_one = publishes-push front p ∙ ap (λ (s : Step). publishes front + cond (is_publish s) 1 0) publish ∙ omega arith

  count_two : publishes two ≡ number
  count_two = publishes-push one f ∙ ap (λ (s : Step). publishes one + cond (is_publish s) 1 0) first ∙ omega (arith, count_one)

  aired_p : aired_by p.outcome ≡ None
  aired_p = ap aired_by (behind.0 ∙ ap (outcome_of mux front) publish)

  aired_f : aired_by f.outcome ≡ Some (number, moment_of mux one)
  aired_f = ap aired_by (behind.1.0 ∙ ap (outcome_of mux one) first) ∙ ap (λ (n : ℕ). Some (n, moment_of mux one)) count_one

  aired_l : aired_by l.outcome ≡ Some (number, moment_of mux two)
  aired_l = ap aired_by (behind.1.1.0 ∙ ap (outcome_of mux two) last) ∙ ap (λ (n : ℕ). Some (n, moment_of mux two)) count_two

  abbrev last_swaps : List (ℕ × Moment)
  last_swaps = (number, moment_of mux one) ∷ (number, moment_of mux two) ∷ []

  swaps_are : swaps journal ≡ swaps front ++ last_swaps
  swaps_are =
      filter_map-append (λ (e : Entry). aired_by e.outcome) front (p ∷ f ∷ l ∷ [])
      ∙ (λ i. swaps front ++ cons_option (aired_p i) (cons_option (aired_f i) (cons_option (aired_l i) [])))

  -- the publication has what the whole journal leaves
  frozen : publication mux three number ≡ guide_after mux front
  frozen =
      publication-kept mux two l number (omega (arith, count_two)) ∙ publication-kept mux one f number (omega (arith, count_one))
      ∙ publication-new mux front p number (ap is_publish publish) refl

  accepted_are : accepted three ≡ accepted front
  accepted_are =
      none_accepted two l (ap (λ (s : Step). cons_option (accepted_by s l.outcome) []) last)
      ∙ none_accepted one f (ap (λ (s : Step). cons_option (accepted_by s f.outcome) []) first)
      ∙ none_accepted front p (ap (λ (s : Step). cons_option (accepted_by s p.outcome) []) publish)

  moment_is : moment_of mux three ≡ moment_of mux front
  moment_is =
      moment-other mux two l (ap (λ (s : Step). ticked_by s l.outcome) last)
      ∙ moment-other mux one f (ap (λ (s : Step). ticked_by s f.outcome) first)
      ∙ moment-other mux front p (ap (λ (s : Step). ticked_by s p.outcome) publish)

  guide_is : publication mux journal number ≡ guide_after mux journal
  guide_is =
      ap (λ (j : List Entry). publication mux j number) whole ∙ frozen
      ∙ sym (λ i. guide_at (book_after (fed_services mux) (accepted_are i)) (moment_is i)) ∙ ap (guide_after mux) (sym whole)

  -- ---- its air

  module _ (is : IsAsRead mux journal) (cycles : List Aired)
      (air_is : IsAirAt mux.rate (airings mux journal) cycles) (join : ℕ) where
    repeating : IsRepeatingAirOf (airings mux journal) cycles
    repeating = air_repeats mux.rate (airings mux journal) cycles air_is

    abbrev before_two : List AiredTables
    before_two = map (airing_at mux journal) (swaps front)

    airings_are : airings_of cycles ≡ before_two ++ airing_at mux journal (number, moment_of mux one) ∷ airing_at mux journal (number, moment_of mux two) ∷ []
    airings_are = repeating.airings_are ∙ ap (map (airing_at mux journal)) swaps_are ∙ map-append (airing_at mux journal) (swaps front) last_swaps

    abbrev heard_packets : List (List ℕ)
    heard_packets = drop join (whole_packets (air_bytes cycles))

    packets_are : heard_packets ≡ map bytes_of_packet (slice_range (air cycles) join (length (air cycles)))
    packets_are =
        let packets : List (List ℕ) = map bytes_of_packet (air cycles) in
        let all : whole_packets (air_bytes cycles) ≡ packets =
        ap whole_packets (packets_joined (air cycles)) ∙ whole_packets-all packets (packets_whole (air cycles) (repeating-whole (airings mux journal) cycles repeating)) in
        let rest : take (length (air cycles) - join) (drop join (air cycles)) ≡ drop join (air cycles) =
        take_all (length (air cycles) - join) (drop join (air cycles)) (omega (arith, length-drop join (air cycles))) in
        ap (drop join) all ∙ drop-map bytes_of_packet join (air cycles) ∙ ap (map bytes_of_packet) (sym rest)

    module _ (before : List Aired) (x y : Aired) (cut : cycles ≡ before ++ x ∷ y ∷ []) (size : length before ≡ length before_two) where
      apart : cycles ≡ (before ++ x ∷ []) ++ y ∷ []
      apart = cut ∙ sym (append_assoc before (x ∷ []) (y ∷ []))

      numbers_are : numbers_on_air journal ≡ map (λ (swap : ℕ × Moment). swap.0) (swaps front) ++ number ∷ number ∷ []
      numbers_are = ap (map (λ (swap : ℕ × Moment). swap.0)) swaps_are ∙ map-append (λ (swap : ℕ × Moment). swap.0) (swaps front) last_swaps

      number_is : number_at (numbers_on_air journal) (length (before ++ x ∷ [])) ≡ number
      number_is =
          let numbers : List ℕ = map (λ (swap : ℕ × Moment). swap.0) (swaps front) in
          let place : length (before ++ x ∷ []) ≡ length numbers + 1 =
          omega (arith, length-append before (x ∷ []), size, length-map (swaps front) (airing_at mux journal), length-map (swaps front) (λ (swap : ℕ × Moment). swap.0)) in
          ap₂ (λ (ns : List ℕ) (n : ℕ). slice_index ns n) numbers_are place ∙ get_or-append-add numbers (number ∷ number ∷ []) 1 0

      stays : join ≤ length (air (before ++ x ∷ [])) → StaysPublished (numbers_on_air journal) join (length (air cycles)) (before ++ x ∷ []) y []
      stays joined = record {
        joined = joined;
        whole = (
            let all : air cycles ≡ air (before ++ x ∷ []) ++ y.packets = ap air apart ∙ air-push (before ++ x ∷ []) y in
            omega (arith, ap (λ (ps : List Packet). length ps) all, length-append (air (before ++ x ∷ [])) y.packets)
            );
        same = λ one two z e there. absurd (no_parts one z two e);
      }

      repeats : IsRepeatingAirOf (airings_of cycles) cycles
      repeats =
          subst (λ (airs : List AiredTables). IsRepeatingAirOf airs cycles) (sym repeating.airings_are)
          repeating

      shown_at : join ≤ length (air (before ++ x ∷ [])) → AreShown mux (guide_after mux journal) heard_packets
      shown_at joined =
          let here = exact_of mux journal is legal cycles [] (sym repeating.airings_are ∙ sym (append-nil (airings_of cycles))) repeats join (length (air cycles))
          (before ++ x ∷ []) y [] apart (stays joined) in
          let own = ap (publication mux journal) number_is ∙ guide_is in
          subst (AreShown mux (guide_after mux journal)) (sym packets_are)
          (subst (λ (guide : Guide). AreShown mux guide (map bytes_of_packet (slice_range (air cycles) join (length (air cycles))))) own here)

      last_shown : (heard : Option Heard) → heard ≡ Some (guide_of heard_packets) → join ≤ length (air (before ++ x ∷ []))
          → (clock : ℕ) × (clock_of (heard_all [] (drop join (whole_packets (air_bytes (before ++ x ∷ y ∷ []))))) ≡ Some clock) × (heard ≡ Some (Whole (screen_of mux (guide_after mux journal) clock)))
      last_shown heard is_heard joined =
          let s = shown_at joined in (
            s.clock,
            subst (λ (c : List Aired). clock_of (heard_all [] (drop join (whole_packets (air_bytes c)))) ≡ Some s.clock) cut s.told,
            is_heard ∙ ap (λ (h : Heard). Some h) s.shown,
          )

    pub ends_shown : (before now : Option (List ℕ)) → Appends before now (air_bytes cycles) → (heard : Option Heard) → heard ≡ Some (guide_of heard_packets)
        → IsShownLast join mux journal before now heard
    ends_shown before now bytes heard is_heard =
        let (front_cycles, x, y, cut, x_is, y_is, size) =
        split_two before_two (airing_at mux journal (number, moment_of mux one)) (airing_at mux journal (number, moment_of mux two)) cycles airings_are in
        record {
          cycles = front_cycles;
          first = x;
          last = y;
          is_air = subst (IsAirAt mux.rate (airings mux journal)) cut air_is;
          bytes = subst (λ (c : List Aired). Appends before now (air_bytes c)) cut bytes;
          first_is = ap (λ (a : AiredTables). a.tables) x_is ∙ ap (tables_of mux) guide_is;
          last_is = ap (λ (a : AiredTables). a.tables) y_is ∙ ap (tables_of mux) guide_is;
          shown = last_shown front_cycles x y cut size heard is_heard;
        }

pub journals_last : JournalsEndShown
journals_last who join mux journal is legal ends cycles air_is before now bytes heard heard_is = by ends.final ends.ends ends.commands
  where
    by : (final : List Entry) → journal ≡ ends.front ++ final → map command_of final ≡ (who, Publish) ∷ (who, Swap) ∷ (who, Swap) ∷ [] → IsShownLast join mux journal before now heard
    by [] e commands = cc commands
    by (p ∷ []) e commands = cc commands
    by (p ∷ f ∷ []) e commands = cc commands
    by (p ∷ f ∷ l ∷ []) e commands =
        let publish : command_of p ≡ (who, Publish) = cc commands in
        let first : command_of f ≡ (who, Swap) = cc commands in
        let last : command_of l ≡ (who, Swap) = cc commands in
        subst (λ (j : List Entry). IsShownLast join mux j before now heard) (sym e)
        (ends_shown mux ends.front p f l (ap (λ (c : Command). c.1) publish) (ap (λ (c : Command). c.1) first) (ap (λ (c : Command). c.1) last)
        (subst (Legal mux) e legal) (subst (IsAsRead mux) e is) cycles (subst (λ (j : List Entry). IsAirAt mux.rate (airings mux j) cycles) e air_is) join before now bytes heard heard_is)
    by (p ∷ f ∷ l ∷ more ∷ final) e commands = cc commands
