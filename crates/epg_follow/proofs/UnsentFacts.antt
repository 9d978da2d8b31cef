-- The cycle of a swap goes on with an air, also where it was not begun.
use Rattle.std.proofs.Common.{◌≡◌, ◌<◌, ℕ, List, [], ◌∷◌, ◌++◌, Option, Some, None, refl, sym, ap, ◌∙◌, subst, subst₂, inl, inr, arith, append-nil, append_assoc}
use Rattle.std.specs.List.{AllByRecursion}
use Rattle.std.proofs.lemmas.List.Elements.{All-contains}
use Rattle.si_lists.proofs.Lists.{all_behind, all_map}
use Rattle.guide_model.specs.declared.offset.Offset.{Offset}
use Rattle.section_codec.specs.SubTables.{IsFit}
use Rattle.version_book.specs.Airings.{AiredTables, CycleForm}
use Rattle.air_model.specs.Air.{Aired, IsSendable, Sent, airings_of, cycle_sections, times, tot}
use Rattle.air_model.specs.Bursts.{sent_in}
use Rattle.air_model.specs.Repeating.{IsSentOf}
use Rattle.air_model.proofs.Airs.{air_more-dense}
use Rattle.air_model.proofs.Bursts.{bursts_go_on}
use Rattle.air_model.proofs.Elements.{of_element}
use Rattle.air_model.proofs.Repeating.{cycle_is_sent}
use Rattle.cycle_timing.specs.Airs.{CanBeTimed}
use Rattle.cycle_timing.specs.Cycle.{bursts_of, clock_of, sent_at}
use Rattle.cycle_timing.specs.Planning.{timings_of}
use Rattle.cycle_timing.proofs.Sent.{bursts_sent, swap_least}
use Rattle.cycle_player.specs.Airs.{AreMadeAt, IsAirAt}
use Rattle.cycle_player.specs.Making.{cycle_of}
use Rattle.cycle_player.proofs.Airs.{airings_are, made_push}
use Rattle.mux_model.specs.declared.mux.Mux.{Mux}
use Rattle.journal_model.specs.declared.step.Step.TheVariants.{Swap}
use Rattle.journal_model.specs.declared.step.Entry.{Entry}
use Rattle.desk_core.specs.Journal.{Legal, LegalAfter, moment_of, outcome_of, publishes}
use Rattle.desk_core.specs.Publications.{aired_by}
use Rattle.journal_air.specs.Air.{airings, mux_form}
use Rattle.journal_air.specs.JournalScreenShown.{IsAsRead}
use Rattle.journal_air.specs.OnAir.{airing_on, is_swap}
use Rattle.journal_air.proofs.Spaced.{airings_timed}
use Rattle.journal_air.proofs.SwapFacts.{airings-swap, swap_airs}
use Rattle.epg_follow.proofs.RecoveryFacts.{legal_front}

-- ---- one more cycle

abbrev IsBelow : Sent → Type 0
IsBelow s = s.pid < 8191

times_below : (form : CycleForm) (m : ℕ) → AllByRecursion IsBelow (times form m)
times_below form m = (omega arith, go form.offsets)
  where
    go : (offsets : List Offset) → AllByRecursion IsBelow (tot m offsets)
    go [] = tt
    go (o ∷ offsets) = (omega arith, tt)

sent_below : (past : List AiredTables) (a : AiredTables) → IsSendable a → (s : Sent) → IsSentOf past a s → IsBelow s
sent_below past a can s (inl (t, p, has, among, e)) = subst IsBelow (sym e) (All-contains IsFit a.tables t can.tables has).pid
sent_below past a can s (inr (at, later, has)) = of_element IsBelow (times a.form at) s (times_below a.form at) has

-- the cycle that is made of an airing makes an air longer
next_air : (rate : Option ℕ) (xs : List Aired) (a : AiredTables) → CanBeTimed a → IsAirAt rate (airings_of xs) xs
    → IsAirAt rate (airings_of xs ++ a ∷ []) (xs ++ cycle_of rate xs a ∷ [])
next_air None xs a can is =
    let past = airings_of xs in
    air_more-dense past xs a is (all_map (IsSentOf past a) IsBelow (sent_below past a can.sendable) (cycle_sections past a) (cycle_is_sent past a).each)
next_air (Some rate) xs a can is =
    let past = airings_of xs in
    let c = clock_of rate xs a in
    let bursts = bursts_of (sent_at rate past c a) (timings_of rate past a) in
    let are = bursts_sent rate past c a can (swap_least a.moment _) in
    bursts_go_on past xs a bursts is are (all_map (IsSentOf past a) IsBelow (sent_below past a can.sendable) (sent_in bursts) are.each)

-- ---- of a swap

-- the last of legal entries
legal_last : (mux : Mux) (before front : List Entry) (last : Entry) → LegalAfter mux before (front ++ last ∷ []) → last.outcome ≡ outcome_of mux (before ++ front) last.step
legal_last mux before [] last legal = subst (λ (l : List Entry). last.outcome ≡ outcome_of mux l last.step) (sym (append-nil before)) legal.0
legal_last mux before (x ∷ front) last legal =
    subst (λ (l : List Entry). last.outcome ≡ outcome_of mux l last.step) (append_assoc before (x ∷ []) front) (legal_last mux (before ++ x ∷ []) front last legal.1)

-- After earlier cycles these are an air of a journal. The cycle of a swap that comes last goes on with them.
pub swap_goes_on : (mux : Mux) (journal : List Entry) (last : Entry) (earlier cycles : List Aired) → IsAsRead mux (journal ++ last ∷ []) → Legal mux (journal ++ last ∷ []) → last.step ≡ Swap
    → IsAirAt mux.rate (airings mux journal) (earlier ++ cycles) → AreMadeAt mux.rate earlier cycles
    → (next : Aired) × IsAirAt mux.rate (airings mux (journal ++ last ∷ [])) (earlier ++ (cycles ++ next ∷ [])) × AreMadeAt mux.rate earlier (cycles ++ next ∷ [])
swap_goes_on mux journal last earlier cycles read legal swap is made =
    let a = airing_on (record { mux = mux; entries = journal ++ last ∷ [] }) (mux_form mux) in
    let some : aired_by last.outcome ≡ Some (publishes journal, moment_of mux journal) =
    ap aired_by (legal_last mux [] journal last legal) ∙ swap_airs mux journal last.step (ap is_swap swap) in
    let all : airings mux (journal ++ last ∷ []) ≡ airings mux journal ++ a ∷ [] =
    airings-swap mux journal last (publishes journal, moment_of mux journal) (legal_front mux [] journal (last ∷ []) legal) some in
    let can = all_behind CanBeTimed (airings mux journal) (a ∷ []) (subst (AllByRecursion CanBeTimed) all (airings_timed mux (journal ++ last ∷ []) read legal)) in
    let own : airings_of (earlier ++ cycles) ≡ airings mux journal = airings_are mux.rate (airings mux journal) (earlier ++ cycles) is in
    let next = cycle_of mux.rate (earlier ++ cycles) a in
    let more = next_air mux.rate (earlier ++ cycles) a can.0 (subst (λ (l : List AiredTables). IsAirAt mux.rate l (earlier ++ cycles)) (sym own) is) in (
      next,
      subst₂ (IsAirAt mux.rate) (ap (λ (l : List AiredTables). l ++ a ∷ []) own ∙ sym all) (append_assoc earlier cycles (next ∷ [])) more,
      made_push mux.rate earlier cycles next made refl,
    )
