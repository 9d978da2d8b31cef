-- How many edits a whole journal of the load has, and how many events its guide.
use Rattle.std.proofs.Common.{lit≤, ◌≡◌, ◌≤◌, ◌+◌, ℕ, zero, suc, true, false, List, [], ◌∷◌, length, map, refl, sym, ap, ap₂, subst, ◌∙◌, arith, inl, inr}
use Rattle.std.specs.Prelude.{Option, Some, None, ◌==◌, flat_map}
use Rattle.std.specs.List.{AllByRecursion, cons_option, range_with_len, sum_by}
use Rattle.std.proofs.lemmas.Bool.{cases_Bool, eqb-true}
use Rattle.std.proofs.lemmas.List.{length-map, length-append}
use Rattle.std.proofs.lemmas.List.Sums.{sum_by-append, sum_by-cons}
use Rattle.guide_model.specs.declared.event.Event.{Event}
use Rattle.journal_model.specs.declared.edit.Edit.{Edit}
use Rattle.journal_model.specs.declared.step.Step.{Step}
use Rattle.journal_model.specs.declared.step.Step.TheVariants.{Edit as edit, Tick, Publish, Swap}
use Rattle.journal_model.specs.declared.step.Outcome.{Outcome}
use Rattle.journal_model.specs.declared.step.Entry.{Entry}
use Rattle.guide_limits.specs.Standing.{standing}
use Rattle.desk_core.specs.Journal.{accepted_by, accepted}
use Rattle.journal_text.specs.Lines.{items_of}
use Rattle.si_workload.specs.declared.shows.Show.{Show}
use Rattle.si_workload.specs.Shows.{shows_of, shows_on}
use Rattle.epg_soak.specs.WorkloadLoad.{show_item, day_edit, service_edits, feed_services, soak_edits}
use Rattle.epg_soak.specs.Journals.{edit_of, edits_by, IsOfFeeds, IsDoneStep, edit_in, edits_in, MadeJournalsAreCounted}
use Rattle.epg_soak.proofs.ItemLines.{item_count, feed_counted}
use Rattle.epg_soak.proofs.Chains.{chain_of}
use Rattle.epg_soak.proofs.MadeEdits.{count_edits}
use Rattle.epg_soak.proofs.WorkloadEvents.{show_event, other_number, same_number}
use Rattle.epg_soak.proofs.Days.{shows_before, before_none, before_all, before_more, service_goes}
use Rattle.epg_soak.proofs.WorkloadJournals.{among, is_of, of_service, IsFeed, feed_one, feed_two, Shares, standing_own, second_feed, journal_ran}

-- ---- edits

step_took : (step : Step) (outcome : Outcome) → IsDoneStep step outcome → accepted_by step outcome ≡ edit_in step
step_took (edit f e) outcome done = rw done refl
step_took (Tick at) outcome done = refl
step_took Publish outcome done = refl
step_took Swap outcome done = refl

all_took : (journal : List Entry) → AllByRecursion (λ (entry : Entry). IsDoneStep entry.step entry.outcome) journal → accepted journal ≡ edits_in journal
all_took [] h = refl
all_took (entry ∷ journal) h =
    ap (λ (o : Option Edit). cons_option o (accepted journal)) (step_took entry.step entry.outcome h.0) ∙ ap (λ (l : List Edit). cons_option (edit_in entry.step) l) (all_took journal h.1)

abbrev one_more : Option Edit → ℕ
one_more None = 0
one_more (Some e) = 1

length_option : (o : Option Edit) (edits : List Edit) → length (cons_option o edits) ≡ one_more o + length edits
length_option None edits = omega arith
length_option (Some e) edits = omega arith

step_counts : (step : Step) → IsOfFeeds step → one_more (edit_in step) ≡ one_more (edit_of 1 step) + one_more (edit_of 2 step)
step_counts (edit f e) feeds = elim (cases_Bool (f == 1)) [
  | inl own ↦ (let other : (f == 2) ≡ false = other_number f 2 (let a = eqb-true f 1 own in omega (arith, a)) in rw (own, other) refl)
  | inr later ↦ (let own : (f == 2) ≡ true = same_number f 2 (second_feed f feeds.0 feeds.1 later) in rw (later, own) refl)
]
step_counts (Tick at) feeds = refl
step_counts Publish feeds = refl
step_counts Swap feeds = refl

edits_count : (journal : List Entry) → AllByRecursion (λ (entry : Entry). IsOfFeeds entry.step) journal → length (edits_in journal) ≡ length (edits_by 1 journal) + length (edits_by 2 journal)
edits_count [] h = omega arith
edits_count (entry ∷ journal) h =
    let more = edits_count journal h.1 in
    let step = step_counts entry.step h.0 in
    omega (arith, more, step, length_option (edit_in entry.step) (edits_in journal), length_option (edit_of 1 entry.step) (edits_by 1 journal), length_option (edit_of 2 entry.step) (edits_by 2 journal))

-- ---- items

sum_flat : {X Y : Type 0} (g : Y → ℕ) (f : X → List Y) (xs : List X) → sum_by g (flat_map f xs) ≡ sum_by (λ (x : X). sum_by g (f x)) xs
sum_flat g f [] = refl
sum_flat {X = X} g f (x ∷ xs) =
    sum_by-append g (f x) (flat_map f xs) ∙ ap (λ (n : ℕ). sum_by g (f x) + n) (sum_flat g f xs) ∙ sym (sum_by-cons (λ (y : X). sum_by g (f y)) x xs)

sum_same : {X : Type 0} (f g : X → ℕ) → ((x : X) → f x ≡ g x) → (xs : List X) → sum_by f xs ≡ sum_by g xs
sum_same f g same [] = refl
sum_same f g same (x ∷ xs) = sum_by-cons f x xs ∙ ap₂ (λ (a b : ℕ). a + b) (same x) (sum_same f g same xs) ∙ sym (sum_by-cons g x xs)

module _ (number service : ℕ) where
  abbrev shows : List Show
  shows = shows_of number service

  days_items : (n day : ℕ) → day + n ≡ 14 → item_count (map (day_edit service shows) (range_with_len day n)) + length (shows_before day shows) ≡ length shows
  days_items zero day e =
      let last : day ≡ 14 = omega (arith, e) in
      let all = ap (λ (l : List Show). length l) (ap (λ (d : ℕ). shows_before d shows) last ∙ before_all 1 0 shows (chain_of number service)) in
      omega (arith, all)
  days_items (suc n) day e =
      let more = days_items n (day + 1) (omega (arith, e)) in
      let on = shows_on day shows in
      let parts = ap (λ (l : List Show). length l) (before_more day 1 0 shows (chain_of number service)) in
      let first = sum_by-cons (λ (e : Edit). length (items_of e)) (day_edit service shows day) (map (day_edit service shows) (range_with_len (day + 1) n)) in
      omega (arith, more, parts, first, length-append (shows_before day shows) on, length-map on show_item)

  service_items : item_count (service_edits number service) ≡ length shows
  service_items =
      let all = days_items 14 0 refl in
      let none = ap (λ (l : List Show). length l) (before_none shows) in
      omega (arith, all, none)

feed_items : (number feed : ℕ) → item_count (soak_edits number feed) ≡ sum_by (λ (s : ℕ). length (shows_of number s)) (feed_services feed)
feed_items number feed =
    sum_flat (λ (e : Edit). length (items_of e)) (service_edits number) (feed_services feed)
    ∙ sum_same (λ (s : ℕ). item_count (service_edits number s)) (λ (s : ℕ). length (shows_of number s)) (service_items number) (feed_services feed)

-- ---- events

stands : (number feed : ℕ) → IsFeed number feed → (past : List Edit) → Shares number feed past (soak_edits number feed) → (s : ℕ) → is_of feed s ≡ true → length (standing s past) ≡ length (shows_of number s)
stands number feed is past shares s member =
    let low : s ≤ 65535 = among (λ (n : ℕ). n ≤ 65535) s (feed_services feed) is.low member in
    let own = among (λ (n : ℕ). of_service n (soak_edits number feed) ≡ service_edits number n) s (feed_services feed) is.own member in
    let events : standing s past ≡ map show_event (shows_of number s) = standing_own s past ∙ ap (standing s) (shares s member ∙ own) ∙ (service_goes number s low).1 in
    ap (λ (l : List Event). length l) events ∙ length-map (shows_of number s) show_event

pub made_counted : MadeJournalsAreCounted
made_counted number journal h first second =
    let ran = journal_ran number journal h in
    let past = accepted journal in
    let count = edits_count journal h.feeds in
    let a = ap (λ (l : List Edit). length l) first in
    let b = ap (λ (l : List Edit). length l) second in
    let took = ap (λ (l : List Edit). length l) (all_took journal ran.done) in
    let c = count_edits number 1 in
    let d = count_edits number 2 in
    let one : Shares number 1 past (soak_edits number 1) = subst (λ (l : List Edit). Shares number 1 past l) first ran.one in
    let two : Shares number 2 past (soak_edits number 2) = subst (λ (l : List Edit). Shares number 2 past l) second ran.two in
    let e = feed_counted number 1 (lit≤ tt) (lit≤ tt) in
    let f = feed_counted number 2 (lit≤ tt) (lit≤ tt) in
    let s1 = stands number 1 (feed_one number) past one in
    let s2 = stands number 2 (feed_two number) past two in
    record {
      edits = omega (arith, count, a, b, c, d);
      done = omega (arith, took, count, a, b, c, d);
      events = λ moment. omega (arith, e, f, feed_items number 1, feed_items number 2, s1 101 refl, s2 102 refl, s1 103 refl, s2 104 refl, s1 105 refl, s2 106 refl, s1 107 refl, s2 108 refl);
    }
