-- Each edit of the load is done, wherever it stands in a journal.
use Rattle.std.proofs.Common.{◌≡◌, ◌≤◌, ◌<◌, ℕ, Bool, true, false, List, [], ◌∷◌, ◌++◌, reverse, refl, sym, ap, subst, ◌∙◌, arith, inl, inr, append_assoc, append-nil, lit≤}
use Rattle.std.specs.Prelude.{Option, Some, None, ◌==◌, flat_map}
use Rattle.std.specs.List.{AllByRecursion, filter, filter_map, cons_option, list_any, range_with_len}
use Rattle.std.proofs.lemmas.Bool.{cases_Bool, eqb-true}
use Rattle.std.proofs.lemmas.Bool.Decides.{nat_tests}
use Rattle.std.proofs.lemmas.List.{reverse-append}
use Rattle.std.proofs.lemmas.List.Elements.{filter-append, filter_map-append}
use Rattle.si_lists.proofs.Lists.{all_at, all_through, all_flat}
use Rattle.si_lists.proofs.Truths.{not_both}
use Rattle.guide_model.specs.declared.event.Event.{Event}
use Rattle.mux_model.specs.Fed.{fed_services}
use Rattle.journal_model.specs.declared.edit.Edit.{Edit}
use Rattle.journal_model.specs.declared.edit.Edit.TheVariants.{Put, Withdraw, Clear, Name, Day}
use Rattle.journal_model.specs.declared.reply.Reply.TheVariants.{Done}
use Rattle.guide_limits.specs.Standing.{sought, word_of, ids_in, once, by_start, standing, standing_sought}
use Rattle.feed_book.specs.Replies.{reply_over, service_of}
use Rattle.feed_book.specs.Accepted.{AreAccepted}
use Rattle.feed_book.specs.Books.{owns, reply_to}
use Rattle.journal_model.specs.declared.step.Step.{Step}
use Rattle.journal_model.specs.declared.step.Step.TheVariants.{Edit as edit, Tick, Publish, Swap}
use Rattle.journal_model.specs.declared.step.Outcome.{Outcome}
use Rattle.journal_model.specs.declared.step.Outcome.TheVariants.{Edited}
use Rattle.journal_model.specs.declared.step.Entry.{Entry}
use Rattle.desk_core.specs.Journal.{accepted_by, accepted, outcome_of, LegalAfter}
use Rattle.epg_soak.specs.Journals.{edit_of, edits_by, AreFirst, IsOfFeeds, IsDoneStep, IsSoakJournal, MadeEditsAreDone}
use Rattle.si_workload.specs.Shows.{shows_of}
use Rattle.epg_soak.specs.WorkloadLoad.{soak_mux, day_edit, service_edits, feed_services, soak_edits}
use Rattle.epg_soak.proofs.MadeLines.{days_below}
use Rattle.epg_soak.proofs.WorkloadEvents.{same_number, other_number}
use Rattle.epg_soak.proofs.Days.{service_goes}

-- ---- what stands of a service rests on its own edits

abbrev pub of_service : ℕ → List Edit → List Edit
of_service service edits = filter (λ (e : Edit). service_of e == service) edits

word_other : (service id : ℕ) (e : Edit) (back : Option Event) → (service_of e == service) ≡ false → word_of service id e back ≡ back
word_other service id (Put at item) back other = rw other refl
word_other service id (Withdraw at gone) back other = rw other refl
word_other service id (Clear at) back other = rw other refl
word_other service id (Name at provider name) back other = refl
word_other service id (Day at day items) back other = rw other refl

ids_other : (service : ℕ) (e : Edit) → (service_of e == service) ≡ false → ids_in service e ≡ []
ids_other service (Put at item) other = rw other refl
ids_other service (Withdraw at gone) other = refl
ids_other service (Clear at) other = refl
ids_other service (Name at provider name) other = refl
ids_other service (Day at day items) other = rw other refl

sought_own : (service id : ℕ) (edits : List Edit) → sought service id edits ≡ sought service id (of_service service edits)
sought_own service id [] = refl
sought_own service id (e ∷ older) = elim (cases_Bool (service_of e == service)) [
  | inl own ↦ rw own (ap (λ (back : Option Event). word_of service id e back) (sought_own service id older))
  | inr other ↦ rw other (word_other service id e (sought service id older) other ∙ sought_own service id older)
]

ids_own : (service : ℕ) (edits : List Edit) → flat_map (ids_in service) edits ≡ flat_map (ids_in service) (of_service service edits)
ids_own service [] = refl
ids_own service (e ∷ older) = elim (cases_Bool (service_of e == service)) [
  | inl own ↦ rw own (ap (λ (l : List ℕ). ids_in service e ++ l) (ids_own service older))
  | inr other ↦ rw other (ap (λ (l : List ℕ). l ++ flat_map (ids_in service) older) (ids_other service e other) ∙ ids_own service older)
]

chosen_same : {X Y : Type 0} (f g : X → Option Y) → ((x : X) → f x ≡ g x) → (xs : List X) → filter_map f xs ≡ filter_map g xs
chosen_same f g same [] = refl
chosen_same f g same (x ∷ xs) = rw (same x, chosen_same f g same xs) refl

reversed : {X : Type 0} (p : X → Bool) (xs : List X) → filter p (reverse xs) ≡ reverse (filter p xs)
reversed p [] = refl
reversed {X = X} p (x ∷ xs) =
    ap (λ (l : List X). filter p l) (reverse-append (x ∷ []) xs) ∙ filter-append p (reverse xs) (x ∷ []) ∙ ap (λ (l : List X). l ++ filter p (x ∷ [])) (reversed p xs)
    ∙ elim (cases_Bool (p x)) [
      | inl e ↦ rw e (sym (reverse-append (x ∷ []) (filter p xs)))
      | inr e ↦ rw e (append-nil (reverse (filter p xs)))
    ]

sought_same : (service : ℕ) (edits : List Edit) → standing_sought service edits ≡ standing_sought service (of_service service edits)
sought_same service edits =
    ap (λ (ids : List ℕ). by_start (filter_map (λ id. sought service id edits) (once ids))) (ids_own service edits)
    ∙ ap by_start (chosen_same (λ id. sought service id edits) (λ id. sought service id (of_service service edits)) (λ id. sought_own service id edits) (once (flat_map (ids_in service) (of_service service edits))))

pub standing_own : (service : ℕ) (past : List Edit) → standing service past ≡ standing service (of_service service past)
standing_own service past = sought_same service (reverse past) ∙ ap (standing_sought service) (reversed (λ (e : Edit). service_of e == service) past)

-- ---- edits in a row

accepted_at : (past front : List Edit) (e : Edit) (more : List Edit) → AreAccepted past (front ++ e ∷ more) → reply_over (standing (service_of e) (past ++ front)) e ≡ Done
accepted_at past [] e more h = ap (λ (l : List Edit). reply_over (standing (service_of e) l) e) (append-nil past) ∙ h.0
accepted_at past (first ∷ front) e more h =
    ap (λ (l : List Edit). reply_over (standing (service_of e) l) e) (sym (append_assoc past (first ∷ []) front)) ∙ accepted_at (past ++ first ∷ []) front e more h.1

-- ---- a feed of the load

-- is this one of the feed's services?
abbrev pub is_of : ℕ → ℕ → Bool
is_of feed service = list_any (λ (s : ℕ). s == service) (feed_services feed)

-- what holds of each of these numbers holds of each that is among them
pub among : (P : ℕ → Type 0) (n : ℕ) (ns : List ℕ) → AllByRecursion P ns → list_any (λ (m : ℕ). m == n) ns ≡ true → P n
among P n [] all h = absurd cc
among P n (m ∷ ns) all h = elim (cases_Bool (m == n)) [
  | inl e ↦ subst P (eqb-true m n e) all.0
  | inr e ↦ among P n ns all.1 (rw e at h)
]

-- no service of feed 1
abbrev IsOther : ℕ → Type 0
IsOther m = AllByRecursion (λ (n : ℕ). (m == n) ≡ false) (feed_services 1)

flipped : (m n : ℕ) → (m == n) ≡ false → (n == m) ≡ false
flipped m n h = grind (arith, nat_tests)

pub second_feed : (f : ℕ) → 1 ≤ f → f ≤ 2 → (f == 1) ≡ false → f ≡ 2
second_feed f low high other = grind (arith, nat_tests)

module _ (number : ℕ) where
  pub record IsFeed (feed : ℕ) : Type 0 where
    pub owned : AllByRecursion (λ (s : ℕ). owns (fed_services soak_mux) feed s ≡ true) (feed_services feed)
    pub low : AllByRecursion (λ (s : ℕ). s ≤ 65535) (feed_services feed)
    pub own : AllByRecursion (λ (s : ℕ). of_service s (soak_edits number feed) ≡ service_edits number s) (feed_services feed)
    pub edits : AllByRecursion (λ (e : Edit). is_of feed (service_of e) ≡ true) (soak_edits number feed)

  edits_of_feed : (feed : ℕ) → AllByRecursion (λ (s : ℕ). is_of feed s ≡ true) (feed_services feed) → AllByRecursion (λ (e : Edit). is_of feed (service_of e) ≡ true) (soak_edits number feed)
  edits_of_feed feed all =
      all_flat (λ (s : ℕ). is_of feed s ≡ true) (λ (e : Edit). is_of feed (service_of e) ≡ true) (service_edits number)
      (λ s h. (h, all_through (λ (day : ℕ). day < 14) (λ (e : Edit). is_of feed (service_of e) ≡ true) (day_edit s (shows_of number s)) (λ day lt. h) (range_with_len 0 14) days_below))
      (feed_services feed) all

  pub feed_one : IsFeed 1
  feed_one = record {
    owned = (refl, (refl, (refl, (refl, tt))));
    low = (lit≤ tt, (lit≤ tt, (lit≤ tt, (lit≤ tt, tt))));
    own = (refl, (refl, (refl, (refl, tt))));
    edits = edits_of_feed 1 (refl, (refl, (refl, (refl, tt))));
  }

  pub feed_two : IsFeed 2
  feed_two = record {
    owned = (refl, (refl, (refl, (refl, tt))));
    low = (lit≤ tt, (lit≤ tt, (lit≤ tt, (lit≤ tt, tt))));
    own = (refl, (refl, (refl, (refl, tt))));
    edits = edits_of_feed 2 (refl, (refl, (refl, (refl, tt))));
  }

  -- the next edit of a feed is done, where each of its services has had just the feed's edits of it
  next_done : (feed : ℕ) → IsFeed feed → (past front : List Edit) (e : Edit) (rest : List Edit) → soak_edits number feed ≡ front ++ e ∷ rest
      → ((s : ℕ) → is_of feed s ≡ true → of_service s past ≡ of_service s front) → reply_to (fed_services soak_mux) past feed e ≡ Done
  next_done feed is past front e rest whole same =
      let s = service_of e in
      let member : is_of feed s ≡ true = all_at (λ (x : Edit). is_of feed (service_of x) ≡ true) front e rest (subst (λ (l : List Edit). AllByRecursion (λ (x : Edit). is_of feed (service_of x) ≡ true) l) whole is.edits) in
      let owned : owns (fed_services soak_mux) feed s ≡ true = among (λ (n : ℕ). owns (fed_services soak_mux) feed n ≡ true) s (feed_services feed) is.owned member in
      let low : s ≤ 65535 = among (λ (n : ℕ). n ≤ 65535) s (feed_services feed) is.low member in
      let own : of_service s (soak_edits number feed) ≡ service_edits number s = among (λ (n : ℕ). of_service n (soak_edits number feed) ≡ service_edits number n) s (feed_services feed) is.own member in
      let self : (s == s) ≡ true = same_number s s refl in
      let here : of_service s (e ∷ rest) ≡ e ∷ of_service s rest = rw self refl in
      let row : service_edits number s ≡ of_service s front ++ e ∷ of_service s rest =
      sym own ∙ ap (of_service s) whole ∙ filter-append (λ (x : Edit). service_of x == s) front (e ∷ rest) ∙ ap (λ (l : List Edit). of_service s front ++ l) here in
      let done : reply_over (standing s (of_service s front)) e ≡ Done = accepted_at [] (of_service s front) e (of_service s rest) (subst (AreAccepted []) row (service_goes number s low).0) in
      let stands : standing s past ≡ standing s (of_service s front) = standing_own s past ∙ ap (standing s) (same s member) in
      rw owned (ap (λ (l : List Event). reply_over l e) stands ∙ done)

  -- ---- a journal

  -- each service of the feed has had just the feed's edits of it
  abbrev pub Shares : ℕ → List Edit → List Edit → Type 0
  Shares feed past front = (s : ℕ) → is_of feed s ≡ true → of_service s past ≡ of_service s front

  abbrev entry_with : ℕ → Step → Outcome → Entry
  entry_with who step outcome = record { who = who; step = step; outcome = outcome }

  -- a feed's edits with the next one
  parted : (feed f : ℕ) (before entries : List Entry) (who : ℕ) (e : Edit) (outcome : Outcome) → f ≡ feed
      → edits_by feed (before ++ entry_with who (edit f e) outcome ∷ entries) ≡ edits_by feed before ++ e ∷ edits_by feed entries
  parted feed f before entries who e outcome same =
      let here : edit_of feed (edit f e) ≡ Some e = rw (same_number f feed same) refl in
      filter_map-append (λ (entry : Entry). edit_of feed entry.step) before (entry_with who (edit f e) outcome ∷ entries)
      ∙ ap (λ (o : Option Edit). edits_by feed before ++ cons_option o (edits_by feed entries)) here

  now_done : (feed : ℕ) → IsFeed feed → (f : ℕ) (before entries : List Entry) (who : ℕ) (e : Edit) (outcome : Outcome) → f ≡ feed
      → Shares feed (accepted before) (edits_by feed before) → outcome ≡ outcome_of soak_mux before (edit f e)
      → AreFirst number feed (edits_by feed (before ++ entry_with who (edit f e) outcome ∷ entries)) → (outcome ≡ Edited Done) × (is_of feed (service_of e) ≡ true)
  now_done feed is f before entries who e outcome same shares legal (rest, whole) =
      let front = edits_by feed before in
      let more = edits_by feed entries ++ rest in
      let row : soak_edits number feed ≡ front ++ e ∷ more = whole ∙ ap (λ (l : List Edit). l ++ rest) (parted feed f before entries who e outcome same) ∙ append_assoc front (e ∷ edits_by feed entries) rest in
      let done : reply_to (fed_services soak_mux) (accepted before) feed e ≡ Done = next_done feed is (accepted before) front e more row shares in (
        legal ∙ ap (λ (n : ℕ). Edited (reply_to (fed_services soak_mux) (accepted before) n e)) same ∙ ap Edited done,
        all_at (λ (x : Edit). is_of feed (service_of x) ≡ true) front e more (subst (λ (l : List Edit). AllByRecursion (λ (x : Edit). is_of feed (service_of x) ≡ true) l) row is.edits),
      )

  -- the services of feed 1 are others than those of feed 2
  services_differ : (s t : ℕ) → is_of 1 s ≡ true → is_of 2 t ≡ true → (t == s) ≡ false
  services_differ s t h k =
      let table : AllByRecursion IsOther (feed_services 2) = (
        (refl, (refl, (refl, (refl, tt)))),
        ((refl, (refl, (refl, (refl, tt)))), ((refl, (refl, (refl, (refl, tt)))), ((refl, (refl, (refl, (refl, tt)))), tt))),
      ) in
      among (λ (n : ℕ). (t == n) ≡ false) s (feed_services 1) (among IsOther t (feed_services 2) table k) h

  -- one more edit, which is done
  push_edit : (feed f : ℕ) (before : List Entry) (who : ℕ) (e : Edit) (outcome : Outcome) → outcome ≡ Edited Done
      → Shares feed (accepted before) (edits_by feed before)
      → ((s : ℕ) → is_of feed s ≡ true → (f == feed) ≡ false → (service_of e == s) ≡ false)
      → Shares feed (accepted (before ++ entry_with who (edit f e) outcome ∷ [])) (edits_by feed (before ++ entry_with who (edit f e) outcome ∷ []))
  push_edit feed f before who e outcome done shares apart s member =
      let entry = entry_with who (edit f e) outcome in
      let own : Edit → Bool = λ x. service_of x == s in
      let took : accepted_by (edit f e) outcome ≡ Some e = rw done refl in
      let left : of_service s (accepted (before ++ entry ∷ [])) ≡ of_service s (accepted before) ++ of_service s (e ∷ []) =
      ap (of_service s) (filter_map-append (λ (x : Entry). accepted_by x.step x.outcome) before (entry ∷ []) ∙ ap (λ (o : Option Edit). accepted before ++ cons_option o []) took)
      ∙ filter-append own (accepted before) (e ∷ []) in
      let right : of_service s (edits_by feed (before ++ entry ∷ [])) ≡ of_service s (edits_by feed before) ++ of_service s (cons_option (edit_of feed (edit f e)) []) =
      ap (of_service s) (filter_map-append (λ (x : Entry). edit_of feed x.step) before (entry ∷ [])) ∙ filter-append own (edits_by feed before) (cons_option (edit_of feed (edit f e)) []) in
      let last : of_service s (e ∷ []) ≡ of_service s (cons_option (edit_of feed (edit f e)) []) = elim (cases_Bool (f == feed)) [
        | inl same ↦ rw same refl
        | inr other ↦ rw (other, apart s member other) refl
      ] in
      left ∙ ap (λ (l : List Edit). l ++ of_service s (e ∷ [])) (shares s member) ∙ ap (λ (l : List Edit). of_service s (edits_by feed before) ++ l) last ∙ sym right

  -- one more entry that is no edit
  push_other : (feed : ℕ) (before : List Entry) (entry : Entry) → accepted_by entry.step entry.outcome ≡ None → edit_of feed entry.step ≡ None
      → Shares feed (accepted before) (edits_by feed before) → Shares feed (accepted (before ++ entry ∷ [])) (edits_by feed (before ++ entry ∷ []))
  push_other feed before entry none nothing shares s member =
      let left : accepted (before ++ entry ∷ []) ≡ accepted before = filter_map-append (λ (x : Entry). accepted_by x.step x.outcome) before (entry ∷ []) ∙ ap (λ (o : Option Edit). accepted before ++ cons_option o []) none ∙ append-nil (accepted before) in
      let right : edits_by feed (before ++ entry ∷ []) ≡ edits_by feed before = filter_map-append (λ (x : Entry). edit_of feed x.step) before (entry ∷ []) ∙ ap (λ (o : Option Edit). edits_by feed before ++ cons_option o []) nothing ∙ append-nil (edits_by feed before) in
      ap (of_service s) left ∙ shares s member ∙ ap (of_service s) (sym right)

  abbrev Stepped : List Entry → ℕ → Step → Outcome → Type 0
  Stepped before who step outcome =
      let all = before ++ entry_with who step outcome ∷ [] in
      IsDoneStep step outcome × Shares 1 (accepted all) (edits_by 1 all) × Shares 2 (accepted all) (edits_by 2 all)

  stepped : (before entries : List Entry) (who : ℕ) (step : Step) (outcome : Outcome) → Shares 1 (accepted before) (edits_by 1 before) → Shares 2 (accepted before) (edits_by 2 before)
      → outcome ≡ outcome_of soak_mux before step → IsOfFeeds step
      → AreFirst number 1 (edits_by 1 (before ++ entry_with who step outcome ∷ entries)) → AreFirst number 2 (edits_by 2 (before ++ entry_with who step outcome ∷ entries))
      → Stepped before who step outcome
  stepped before entries who (edit f e) outcome one two legal feeds first second = elim (cases_Bool (f == 1)) [
    | inl own ↦ (
        let (done, member) = now_done 1 feed_one f before entries who e outcome (eqb-true f 1 own) one legal first in
        let other : (f == 2) ≡ false = other_number f 2 (let a = eqb-true f 1 own in omega (arith, a)) in (
          done,
          push_edit 1 f before who e outcome done one (λ s m other_feed. absurd (not_both (f == 1) own other_feed)),
          push_edit 2 f before who e outcome done two (λ s m other_feed. flipped s (service_of e) (services_differ (service_of e) s member m)),
        )
        )
    | inr later ↦ (
        let same = second_feed f feeds.0 feeds.1 later in
        let (done, member) = now_done 2 feed_two f before entries who e outcome same two legal second in (
          done,
          push_edit 1 f before who e outcome done one (λ s m other. services_differ s (service_of e) m member),
          push_edit 2 f before who e outcome done two (λ s m other. absurd (not_both (f == 2) (same_number f 2 same) other)),
        )
        )
  ]
  stepped before entries who (Tick at) outcome one two legal feeds first second = (tt, push_other 1 before (entry_with who (Tick at) outcome) refl refl one, push_other 2 before (entry_with who (Tick at) outcome) refl refl two)
  stepped before entries who Publish outcome one two legal feeds first second = (tt, push_other 1 before (entry_with who Publish outcome) refl refl one, push_other 2 before (entry_with who Publish outcome) refl refl two)
  stepped before entries who Swap outcome one two legal feeds first second = (tt, push_other 1 before (entry_with who Swap outcome) refl refl one, push_other 2 before (entry_with who Swap outcome) refl refl two)

  -- each edit of these entries is done, and after them each service has had just its feed's edits of it
  pub record Ran (before entries : List Entry) : Type 0 where
    pub done : AllByRecursion (λ (entry : Entry). IsDoneStep entry.step entry.outcome) entries
    pub one : Shares 1 (accepted (before ++ entries)) (edits_by 1 (before ++ entries))
    pub two : Shares 2 (accepted (before ++ entries)) (edits_by 2 (before ++ entries))

  run_done : (before entries : List Entry) → Shares 1 (accepted before) (edits_by 1 before) → Shares 2 (accepted before) (edits_by 2 before)
      → LegalAfter soak_mux before entries → AllByRecursion (λ (entry : Entry). IsOfFeeds entry.step) entries
      → AreFirst number 1 (edits_by 1 (before ++ entries)) → AreFirst number 2 (edits_by 2 (before ++ entries)) → Ran before entries
  run_done before [] one two legal feeds first second =
      let none : before ≡ before ++ [] = sym (append-nil before) in
      record {
        done = tt;
        one = subst (λ (l : List Entry). Shares 1 (accepted l) (edits_by 1 l)) none one;
        two = subst (λ (l : List Entry). Shares 2 (accepted l) (edits_by 2 l)) none two;
      }
  run_done before (entry ∷ entries) one two legal feeds first second =
      let all = before ++ entry ∷ [] in
      let regroup : before ++ entry ∷ entries ≡ all ++ entries = sym (append_assoc before (entry ∷ []) entries) in
      let now = stepped before entries entry.who entry.step entry.outcome one two legal.0 feeds.0 first second in
      let more = run_done all entries now.1 now.2 legal.1 feeds.1 (subst (λ (l : List Entry). AreFirst number 1 (edits_by 1 l)) regroup first) (subst (λ (l : List Entry). AreFirst number 2 (edits_by 2 l)) regroup second) in
      record {
        done = (now.0, more.done);
        one = subst (λ (l : List Entry). Shares 1 (accepted l) (edits_by 1 l)) (sym regroup) more.one;
        two = subst (λ (l : List Entry). Shares 2 (accepted l) (edits_by 2 l)) (sym regroup) more.two;
      }

  pub journal_ran : (journal : List Entry) → IsSoakJournal number journal → Ran [] journal
  journal_ran journal h = run_done [] journal (λ s m. refl) (λ s m. refl) h.legal h.feeds h.first h.second

pub made_done : MadeEditsAreDone
made_done number journal h = (journal_ran number journal h).done
