-- The events of the made load are all within the schedule of the screen after a run.
use Rattle.std.proofs.Common.{◌≡◌, ◌≤◌, ◌<◌, ◌+◌, ◌*◌, ℕ, true, List, [], ◌∷◌, length, map, refl, sym, ap, ap₂, subst, ◌∙◌, arith}
use Rattle.std.specs.Prelude.{nat_le, nat_lt}
use Rattle.std.specs.List.{AllByRecursion, filter, sum_by}
use Rattle.std.proofs.lemmas.Bool.Decides.{nat_tests}
use Rattle.std.proofs.lemmas.List.{length-map}
use Rattle.std.proofs.lemmas.List.Sums.{sum_by-cons}
use Rattle.si_lists.proofs.Lists.{all_through}
use Rattle.si_lists.proofs.Filters.{all_stay}
use Rattle.guide_model.specs.declared.event.Event.{Event}
use Rattle.guide_model.specs.declared.guide.Guide.{Guide}
use Rattle.guide_model.specs.declared.guide.ServiceGuide.{ServiceGuide}
use Rattle.guide_model.specs.declared.screen.ScreenService.{ScreenService}
use Rattle.mux_model.specs.declared.mux.MuxService.{MuxService}
use Rattle.table_bodies.specs.Eit.{shown_event}
use Rattle.guide_limits.specs.Events.{midnight}
use Rattle.guide_limits.specs.Standing.{standing}
use Rattle.journal_model.specs.declared.edit.Edit.{Edit}
use Rattle.desk_core.specs.Journal.{accepted, moment_of}
use Rattle.desk_core.specs.Publications.{guide_after}
use Rattle.publication.specs.Parts.{part_of}
use Rattle.journal_air.specs.Screen.{is_scheduled, own_shown, service_shown}
use Rattle.si_workload.specs.declared.shows.Show.{Show}
use Rattle.si_workload.specs.Shows.{shows_of}
use Rattle.si_workload.specs.Texts.{moment_at}
use Rattle.epg_soak.specs.WorkloadLoad.{soak_mux, service_edits, feed_services, soak_edits}
use Rattle.epg_soak.proofs.Chains.{IsMadeShow, chain_of, chain_made}
use Rattle.epg_soak.proofs.WorkloadEvents.{show_event}
use Rattle.epg_soak.proofs.Days.{service_goes}
use Rattle.epg_soak.proofs.WorkloadJournals.{among, is_of, of_service, IsFeed, feed_one, feed_two, Shares, standing_own, journal_ran}
use Rattle.epg_soak.proofs.Callers.{is_journal, first_edits, second_edits, runs_counted}
use Rattle.epg_soak.specs.Events.{SoakRunsAreShown}
use Rattle.epg_soak.proofs.Moments.{first_midnight, moment_within}

-- ---- events that are all scheduled

abbrev AreScheduled : ℕ → List Event → Type 0
AreScheduled moment events = AllByRecursion (λ (e : Event). is_scheduled (midnight moment) e ≡ true) events

all_shown : (moment : ℕ) (service : MuxService) (guide : ServiceGuide) → AreScheduled moment guide.events → length (service_shown moment service guide).events ≡ length guide.events
all_shown moment service guide h =
    length-map (filter (is_scheduled (midnight moment)) guide.events) shown_event
    ∙ ap (λ (l : List Event). length l) (all_stay (is_scheduled (midnight moment)) guide.events h)

sum_shown : (guide : Guide) (services : List MuxService) → AllByRecursion (λ (s : MuxService). AreScheduled guide.moment.0 (part_of guide s.service).events) services
    → sum_by (λ (s : ScreenService). length s.events) (map (own_shown guide) services) ≡ sum_by (λ (s : ServiceGuide). length s.events) (map (λ (s : MuxService). part_of guide s.service) services)
sum_shown guide [] h = refl
sum_shown guide (s ∷ services) h =
    let part = part_of guide s.service in
    sum_by-cons (λ (x : ScreenService). length x.events) (own_shown guide s) (map (own_shown guide) services)
    ∙ ap₂ (λ (a b : ℕ). a + b) (all_shown guide.moment.0 s part h.0) (sum_shown guide services h.1)
    ∙ sym (sum_by-cons (λ (x : ServiceGuide). length x.events) part (map (λ (s : MuxService). part_of guide s.service) services))

-- ---- the shows of a service

show_scheduled : (moment : ℕ) → moment_at 0 ≤ moment → moment < moment_at 96 → (s : Show) → IsMadeShow s → is_scheduled (midnight moment) (show_event s) ≡ true
show_scheduled moment low high s made =
    let starts = made.show.starts in
    let day = first_midnight moment low high in
    let begun : nat_le (midnight moment) (moment_at s.start) ≡ true = let le : midnight moment ≤ moment_at s.start = omega (arith, day) in grind (arith, nat_tests, le) in
    let within : nat_lt (moment_at s.start) (midnight moment + 64 * 86400) ≡ true =
    let lt : moment_at s.start < midnight moment + 64 * 86400 = omega (arith, day, starts) in grind (arith, nat_tests, lt) in
    rw (begun, within) refl

module _ (number feed : ℕ) (is : IsFeed number feed) (past : List Edit) (shares : Shares number feed past (soak_edits number feed)) (s : ℕ) (member : is_of feed s ≡ true) where
  stand : standing s past ≡ map show_event (shows_of number s)
  stand =
      let low : s ≤ 65535 = among (λ (n : ℕ). n ≤ 65535) s (feed_services feed) is.low member in
      let own = among (λ (n : ℕ). of_service n (soak_edits number feed) ≡ service_edits number n) s (feed_services feed) is.own member in
      standing_own s past ∙ ap (standing s) (shares s member ∙ own) ∙ (service_goes number s low).1

  all_scheduled : (moment : ℕ) → moment_at 0 ≤ moment → moment < moment_at 96 → AreScheduled moment (standing s past)
  all_scheduled moment low high =
      subst (AreScheduled moment) (sym stand)
      (all_through IsMadeShow (λ (e : Event). is_scheduled (midnight moment) e ≡ true) show_event (show_scheduled moment low high) (shows_of number s) (chain_made 1 0 (shows_of number s) (omega arith) (chain_of number s)))

-- ---- a run

pub runs_shown : SoakRunsAreShown
runs_shown number journal run clock =
    let past = accepted journal in
    let at = moment_of soak_mux journal in
    let (low, high) = moment_within number journal run in
    let ran = journal_ran number journal (is_journal number journal run) in
    let one : Shares number 1 past (soak_edits number 1) = subst (λ (l : List Edit). Shares number 1 past l) (first_edits number journal run) ran.one in
    let two : Shares number 2 past (soak_edits number 2) = subst (λ (l : List Edit). Shares number 2 past l) (second_edits number journal run) ran.two in
    let a : (s : ℕ) → is_of 1 s ≡ true → AreScheduled at.0 (standing s past) = λ s m. all_scheduled number 1 (feed_one number) past one s m at.0 low high in
    let b : (s : ℕ) → is_of 2 s ≡ true → AreScheduled at.0 (standing s past) = λ s m. all_scheduled number 2 (feed_two number) past two s m at.0 low high in
    let counted = (runs_counted number journal run).2 in
    sum_shown (guide_after soak_mux journal) soak_mux.services (a 101 refl, (b 102 refl, (a 103 refl, (b 104 refl, (a 105 refl, (b 106 refl, (a 107 refl, (b 108 refl, tt))))))))
    ∙ counted.events at
