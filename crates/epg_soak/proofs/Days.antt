-- The days of a service: each is accepted over the shows before it, and leaves those and its own.
use Rattle.std.proofs.Common.{◌≡◌, ◌≤◌, ◌<◌, ◌+◌, ◌*◌, ◌/◌, ℕ, zero, suc, Bool, true, false, List, [], ◌∷◌, ◌++◌, map, refl, sym, ap, subst, ◌∙◌, arith, inl, inr, append_assoc, append-nil}
use Rattle.std.specs.Prelude.{Option, nat_lt, ◌==◌, codes, decimal}
use Rattle.std.specs.List.{AllByRecursion, filter, range_with_len}
use Rattle.std.proofs.lemmas.Bool.{cases_Bool, eqb-true, ltb-true}
use Rattle.std.proofs.lemmas.Bool.Decides.{nat_tests}
use Rattle.std.proofs.lemmas.List.{length-append}
use Rattle.si_lists.proofs.Lists.{all_map, all_through}
use Rattle.si_lists.proofs.Parts.{lt_or}
use Rattle.guide_model.specs.Coding.{coded_size}
use Rattle.guide_model.specs.declared.event.Event.{Event}
use Rattle.journal_model.specs.declared.edit.Edit.{Edit}
use Rattle.journal_model.specs.declared.reply.Reply.TheVariants.{Done}
use Rattle.guide_limits.specs.Events.{midnight}
use Rattle.guide_limits.specs.Sound.{IsBefore, AreApart}
use Rattle.guide_limits.specs.Standing.{standing}
use Rattle.feed_book.specs.Replies.{is_outside, off_day, day_fault, day_reply, read_day_reply, reply_over}
use Rattle.feed_book.specs.Changes.{puts, day_put, events_with}
use Rattle.feed_book.specs.Accepted.{AreAccepted}
use Rattle.feed_book.proofs.Accepted.{standing-after}
use Rattle.feed_book.proofs.Faults.{not_outside}
use Rattle.si_workload.specs.declared.shows.Show.{Show}
use Rattle.si_workload.specs.Shows.{shows_of, shows_on}
use Rattle.si_workload.specs.Texts.{moment_at}
use Rattle.epg_soak.specs.WorkloadLoad.{show_item, name_edit, day_edit, service_edits}
use Rattle.epg_soak.proofs.Chains.{IsChain, chain_of}
use Rattle.epg_soak.proofs.MadeLines.{number_short}
use Rattle.epg_soak.proofs.MadeEdits.{date_read}
use Rattle.epg_soak.proofs.WorkloadEvents.{show_event, IsOn, chain_front, day_fine, day_puts, not_above, size_within, same_number, other_number}

-- ---- the shows before a day

abbrev pub shows_before : ℕ → List Show → List Show
shows_before day shows = filter (λ (s : Show). nat_lt s.start (96 * day)) shows

below : (n m : ℕ) → n < m → nat_lt n m ≡ true
below n m lt = grind (arith, nat_tests)

smaller_number : (n m : ℕ) → m < n → (n == m) ≡ false
smaller_number n m lt = grind (arith, nat_tests)

-- ids and starts of a chain are no smaller than its first
abbrev IsFrom : ℕ → ℕ → Show → Type 0
IsFrom id start s = (id ≤ s.id) × (start ≤ s.start)

lower : (m n k : ℕ) → m ≤ k → n ≤ m → n ≤ k
lower m n k h le = omega (arith, h, le)

chain_later : (id start : ℕ) (shows : List Show) → IsChain id start shows → AllByRecursion (IsFrom id start) shows
chain_later id start [] h = tt
chain_later id start (s ∷ shows) (i, t, is, rest) = (
  (omega (arith, i), omega (arith, t)),
  all_map (IsFrom (id + 1) (start + s.quarters)) (IsFrom id start) (λ later h. (lower (id + 1) id later.id h.0 (omega arith), lower (start + s.quarters) start later.start h.1 (omega arith))) shows (chain_later (id + 1) (start + s.quarters) shows rest),
)

before_of : (id start : ℕ) (s later : Show) → s.id ≡ id → s.start ≡ start → IsFrom (id + 1) (start + s.quarters) later → IsBefore (show_event s) (show_event later)
before_of id start s later i t h =
    let a = h.0 in
    let b = h.1 in
    (omega (arith, b, t), λ e. absurd (omega (arith, a, e, i)))

no_before : (day : ℕ) (shows : List Show) → AllByRecursion (λ (s : Show). 96 * day ≤ s.start) shows → shows_before day shows ≡ []
no_before day [] h = refl
no_before day (s ∷ shows) h = rw (not_above s.start (96 * day) h.0) (no_before day shows h.1)

pub before_none : (shows : List Show) → shows_before 0 shows ≡ []
before_none [] = refl
before_none (s ∷ shows) = rw (not_above s.start (96 * 0) (omega arith)) (before_none shows)

pub before_all : (id start : ℕ) (shows : List Show) → IsChain id start shows → shows_before 14 shows ≡ shows
before_all id start [] h = refl
before_all id start (s ∷ shows) (i, t, is, rest) =
    rw (below s.start (96 * 14) (let a = is.starts in omega (arith, a))) (ap (λ (l : List Show). s ∷ l) (before_all (id + 1) (start + s.quarters) shows rest))

pub before_more : (day id start : ℕ) (shows : List Show) → IsChain id start shows → shows_before (day + 1) shows ≡ shows_before day shows ++ shows_on day shows
before_more day id start [] h = refl
before_more day id start (s ∷ shows) (i, t, is, rest) =
    let more = before_more day (id + 1) (start + s.quarters) shows rest in
    elim (lt_or s.start (96 * day)) [
      | inl lt ↦ (
          let a = below s.start (96 * day) lt in
          let b = below s.start (96 * (day + 1)) (omega (arith, lt)) in
          let c = other_number (s.start / 96) day (omega (arith, lt)) in
          rw (a, b, c) (ap (λ (l : List Show). s ∷ l) more)
          )
      | inr le ↦ elim (lt_or s.start (96 * (day + 1))) [
        | inl lt ↦ (
            let a = not_above s.start (96 * day) le in
            let b = below s.start (96 * (day + 1)) lt in
            let c = same_number (s.start / 96) day (omega (arith, lt, le)) in
            let none : shows_before day shows ≡ [] = no_before day shows
            (all_map (IsFrom (id + 1) (start + s.quarters)) (λ (later : Show). 96 * day ≤ later.start) (λ later h. let u = h.1 in omega (arith, u, t, le)) shows (chain_later (id + 1) (start + s.quarters) shows rest)) in
            rw (a, b, c) (
            ap (λ (l : List Show). s ∷ l) more ∙ ap (λ (l : List Show). s ∷ (l ++ shows_on day shows)) none
            ∙ sym (ap (λ (l : List Show). l ++ s ∷ shows_on day shows) none)
            )
            )
        | inr ge ↦ (
            let a = not_above s.start (96 * day) le in
            let b = not_above s.start (96 * (day + 1)) ge in
            let c = smaller_number (s.start / 96) day (omega (arith, ge)) in
            rw (a, b, c) more
            )
      ]
    ]

-- they stand first
front_split : (day id start : ℕ) (shows : List Show) → IsChain id start shows → (more : List Show) × (shows ≡ shows_before day shows ++ more)
front_split day id start [] h = ([], refl)
front_split day id start (s ∷ shows) (i, t, is, rest) =
    elim (lt_or s.start (96 * day)) [
      | inl lt ↦ (
          let (more, e) = front_split day (id + 1) (start + s.quarters) shows rest in
          (more, rw (below s.start (96 * day) lt) (ap (λ (l : List Show). s ∷ l) e))
          )
      | inr le ↦ (
          let none : shows_before day shows ≡ [] = no_before day shows
          (all_map (IsFrom (id + 1) (start + s.quarters)) (λ (later : Show). 96 * day ≤ later.start) (λ later h. let u = h.1 in omega (arith, u, t, le)) shows (chain_later (id + 1) (start + s.quarters) shows rest)) in
          (s ∷ shows, rw (not_above s.start (96 * day) le) (sym (ap (λ (l : List Show). l ++ s ∷ shows) none)))
          )
    ]

passes : {X : Type 0} (p : X → Bool) (xs : List X) → AllByRecursion (λ (x : X). p x ≡ true) (filter p xs)
passes p [] = tt
passes p (x ∷ xs) = elim (cases_Bool (p x)) [
  | inl e ↦ rw e (e, passes p xs)
  | inr e ↦ rw e (passes p xs)
]

on_day : (day : ℕ) (shows : List Show) → AllByRecursion (IsOn day) (shows_on day shows)
on_day day shows =
    all_map (λ (s : Show). (s.start / 96 == day) ≡ true) (IsOn day) (λ (s : Show) e. eqb-true (s.start / 96) day e) (shows_on day shows) (passes (λ (s : Show). s.start / 96 == day) shows)

before_day : (day : ℕ) (shows : List Show) → AllByRecursion (λ (s : Show). s.start < 96 * day) (shows_before day shows)
before_day day shows =
    all_map (λ (s : Show). nat_lt s.start (96 * day) ≡ true) (λ (s : Show). s.start < 96 * day) (λ (s : Show) e. ltb-true s.start (96 * day) e) (shows_before day shows)
    (passes (λ (s : Show). nat_lt s.start (96 * day)) shows)

-- none of them starts on the day
off_none : (day : ℕ) (shows : List Show) → AllByRecursion (λ (s : Show). s.start < 96 * day) shows → off_day (moment_at (96 * day)) (map show_event shows) ≡ map show_event shows
off_none day [] h = refl
off_none day (s ∷ shows) h =
    let lt = h.0 in
    let early : midnight (moment_at s.start) < moment_at (96 * day) = omega (arith, lt) in
    rw (other_number (midnight (moment_at s.start)) (moment_at (96 * day)) early) (ap (λ (l : List Event). show_event s ∷ l) (off_none day shows h.1))

-- ---- edits

name_fine : (service : ℕ) → service ≤ 65535 → (events : List Event) → reply_over events (name_edit service) ≡ Done
name_fine service le events =
    let name = codes "Station " ++ decimal service in
    let a = number_short service le in
    let b = length-append (codes "Station ") (decimal service) in
    let size = size_within name in
    let named : is_outside 1 100 (coded_size name) ≡ false = not_outside 1 100 (coded_size name) (omega (arith, b, size)) (omega (arith, a, b, size)) in
    rw named refl

module _ (number service : ℕ) where
  abbrev pub shows : List Show
  shows = shows_of number service

  abbrev pub events_before : ℕ → List Event
  events_before day = map show_event (shows_before day shows)

  -- the shows of a day stand behind those before it, and others behind them
  day_chain : (day : ℕ) → (more : List Show) × IsChain 1 0 ((shows_before day shows ++ shows_on day shows) ++ more)
  day_chain day =
      let chain = chain_of number service in
      let (more, e) = front_split (day + 1) 1 0 shows chain in
      (more, subst (λ (l : List Show). IsChain 1 0 l) (e ∙ ap (λ (l : List Show). l ++ more) (before_more day 1 0 shows chain)) chain)

  day_done : (day : ℕ) → day < 14 → reply_over (events_before day) (day_edit service shows day) ≡ Done
  day_done day lt =
      let items = map show_item (shows_on day shows) in
      let (more, chain) = day_chain day in
      ap (λ (o : Option ℕ). read_day_reply o (events_before day) items) (date_read day lt)
      ∙ ap (λ (l : List Event). day_reply (day_fault (moment_at (96 * day)) 0 l items)) (off_none day (shows_before day shows) (before_day day shows))
      ∙ ap day_reply (day_fine day 0 (shows_on day shows) (shows_before day shows) more (on_day day shows) chain)

  day_leaves : (day : ℕ) → day < 14 → events_with (events_before day) (day_edit service shows day) ≡ events_before (day + 1)
  day_leaves day lt =
      let items = map show_item (shows_on day shows) in
      let (more, chain) = day_chain day in
      ap (λ (o : Option ℕ). day_put o items (events_before day)) (date_read day lt)
      ∙ ap (puts items) (off_none day (shows_before day shows) (before_day day shows))
      ∙ day_puts (shows_on day shows) (shows_before day shows) more chain
      ∙ ap (map show_event) (sym (before_more day 1 0 shows (chain_of number service)))

  chain_apart : (id start : ℕ) (all : List Show) → IsChain id start all → AreApart (map show_event all)
  chain_apart id start [] h = tt
  chain_apart id start (s ∷ all) (i, t, is, rest) =
      let some = is.some in (
        omega (arith, some),
        all_through (IsFrom (id + 1) (start + s.quarters)) (IsBefore (show_event s)) show_event (λ later h. before_of id start s later i t h) all (chain_later (id + 1) (start + s.quarters) all rest),
        chain_apart (id + 1) (start + s.quarters) all rest,
      )

  before_apart : (day : ℕ) → AreApart (events_before day)
  before_apart day =
      let chain = chain_of number service in
      let (more, e) = front_split day 1 0 shows chain in
      chain_apart 1 0 (shows_before day shows) (chain_front 1 0 (shows_before day shows) more (subst (λ (l : List Show). IsChain 1 0 l) e chain))

  -- after the days before it each day is done, and at the end all shows stand
  abbrev pub Goes : List Edit → List Edit → Type 0
  Goes past edits = AreAccepted past edits × (standing service (past ++ edits) ≡ map show_event shows)

  days_go : (n day : ℕ) (past : List Edit) → day + n ≡ 14 → standing service past ≡ events_before day → Goes past (map (day_edit service shows) (range_with_len day n))
  days_go zero day past e stands =
      let last : day ≡ 14 = omega (arith, e) in
      (tt, ap (standing service) (append-nil past) ∙ stands ∙ ap (λ (d : ℕ). events_before d) last ∙ ap (map show_event) (before_all 1 0 shows (chain_of number service)))
  days_go (suc n) day past e stands =
      let lt : day < 14 = omega (arith, e) in
      let edit = day_edit service shows day in
      let done : reply_over (standing service past) edit ≡ Done = ap (λ (l : List Event). reply_over l edit) stands ∙ day_done day lt in
      let apart : AreApart (standing service past) = subst AreApart (sym stands) (before_apart day) in
      let next : standing service (past ++ edit ∷ []) ≡ events_before (day + 1) = standing-after past edit done apart ∙ ap (λ (l : List Event). events_with l edit) stands ∙ day_leaves day lt in
      let (more, end) = days_go n (day + 1) (past ++ edit ∷ []) (omega (arith, e)) next in
      ((done, more), ap (standing service) (sym (append_assoc past (edit ∷ []) (map (day_edit service shows) (range_with_len (day + 1) n)))) ∙ end)

  pub service_goes : service ≤ 65535 → Goes [] (service_edits number service)
  service_goes le =
      let first : standing service (name_edit service ∷ []) ≡ events_before 0 = sym (ap (map show_event) (before_none shows)) in
      let (more, end) = days_go 14 0 (name_edit service ∷ []) refl first in
      ((name_fine service le (standing service []), more), end)
