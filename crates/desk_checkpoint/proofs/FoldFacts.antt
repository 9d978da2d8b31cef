-- The steps of a checkpoint are taken, and what the desk has after them.
use Rattle.std.proofs.Common.{◌≡◌, ℕ, ◌+◌, ◌-◌, ◌≤◌, true, false, cond, List, [], ◌∷◌, ◌++◌, map, refl, sym, ap, ◌∙◌, subst, arith, append-nil, append_assoc, inl, inr}
use Rattle.std.specs.Prelude.{nat_lt, ◌==◌, Option, Some, None, filter_map}
use Rattle.std.specs.List.{AllByRecursion, cons_option}
use Rattle.std.proofs.lemmas.Bool.{cases_Bool, cond-true, cond-false}
use Rattle.std.proofs.lemmas.Bool.Decides.{nat_tests}
use Rattle.si_lists.proofs.Lists.{all_append, all_of_map}
use Rattle.si_time.specs.declared.moment.Moment.{Moment}
use Rattle.guide_model.specs.declared.guide.ServiceGuide.{ServiceGuide}
use Rattle.guide_model.specs.declared.guide.Guide.{Guide}
use Rattle.mux_model.specs.Fed.{FedService, fed_services}
use Rattle.mux_model.proofs.FedFacts.{fed_ascend}
use Rattle.mux_model.specs.declared.mux.Mux.{Mux}
use Rattle.mux_model.specs.Sound.{IsSound}
use Rattle.journal_model.specs.declared.edit.Edit.{Edit}
use Rattle.journal_model.specs.declared.reply.Reply.{Reply}
use Rattle.journal_model.specs.declared.reply.Reply.TheVariants as reply
use Rattle.guide_limits.specs.KeptService.{KeptService}
use Rattle.guide_limits.specs.Limits.{IsServiceWithin}
use Rattle.feed_book.specs.Replies.{service_of, reply_over}
use Rattle.guide_limits.specs.Standing.{standing}
use Rattle.feed_book.specs.Accepted.{AreAccepted}
use Rattle.guide_limits.specs.Guides.{kept_after, book_after, guide_of}
use Rattle.feed_book.specs.Books.{owns}
use Rattle.journal_model.specs.declared.step.Step.TheVariants.{Edit as edit, Tick, Publish}
use Rattle.journal_model.specs.declared.step.Outcome.TheVariants.{Edited, Ticked}
use Rattle.journal_model.specs.declared.step.Entry.{Entry}
use Rattle.desk_core.specs.Journal.{is_publish, accepted, publishes, later_of, latest_of_all, ticked_by, moment_of, Legal, entry_after, journal_after}
use Rattle.journal_model.specs.Steps.{Command}
use Rattle.desk_core.specs.Publications.{before_publish, publication, guide_after}
use Rattle.desk_core.proofs.JournalFacts.{publishes-push, accepted-push, publication-kept, publication-new, moment-tick, moment-other, journal_more}
use Rattle.desk_core.proofs.DerivedFacts.{edited, ticked_entry, published_entry}
use Rattle.desk_core.proofs.WithinFacts.{front_legal, draft_within}
use Rattle.desk_checkpoint.specs.Items.{filling, refilling}
use Rattle.desk_checkpoint.specs.Steps.{guide_steps, checkpoint_steps, folded, shift_of}
use Rattle.desk_checkpoint.specs.Going.{is_taken, GoOnAlike}
use Rattle.desk_checkpoint.proofs.BookFacts.{FeedEdit, book_edits, asked, edits_in, IsEmpty, IsAny, Rebuilds, rebuilt_all, by_filling, by_refilling, all_empty, all_any, IsOwned, book_owned, steps_are}

-- ---- what a desk has

-- after these entries the desk has these accepted edits, this moment, this many publications and this latest one
pub record Has (mux : Mux) (entries : List Entry) (past : List Edit) (now : Moment) (count : ℕ) (latest : Guide) : Type 0 where
  pub edits : accepted entries ≡ past
  pub moment : moment_of mux entries ≡ now
  pub count_is : publishes entries ≡ count
  pub latest_is : publication mux entries count ≡ latest

abbrev done_entry : FeedEdit → Entry
done_entry a = edited 0 a.0 a.1 reply.Done

kept_latest : (mux : Mux) (entries : List Entry) (entry : Entry) (count : ℕ) (latest : Guide) → publishes entries ≡ count
    → publication mux entries count ≡ latest → publication mux (entries ++ entry ∷ []) count ≡ latest
kept_latest mux entries entry count latest c l = publication-kept mux entries entry count (omega arith) ∙ l

has_edited : (mux : Mux) (entries : List Entry) (past : List Edit) (now : Moment) (count : ℕ) (latest : Guide) (a : FeedEdit)
    → Has mux entries past now count latest → Has mux (entries ++ done_entry a ∷ []) (past ++ a.1 ∷ []) now count latest
has_edited mux entries past now count latest a has = record {
  edits = accepted-push entries (done_entry a) ∙ ap (λ (es : List Edit). es ++ a.1 ∷ []) has.edits;
  moment = moment-other mux entries (done_entry a) refl ∙ has.moment;
  count_is = publishes-push entries (done_entry a) ∙ omega (arith, has.count_is);
  latest_is = kept_latest mux entries (done_entry a) count latest has.count_is has.latest_is;
}

has_all_edited : (mux : Mux) (entries : List Entry) (past : List Edit) (now : Moment) (count : ℕ) (latest : Guide) (asks : List FeedEdit)
    → Has mux entries past now count latest → Has mux (entries ++ map done_entry asks) (past ++ edits_in asks) now count latest
has_all_edited mux entries past now count latest [] has =
    subst (λ (l : List Entry). Has mux l (past ++ []) now count latest) (sym (append-nil entries)) (subst (λ (l : List Edit). Has mux entries l now count latest) (sym (append-nil past)) has)
has_all_edited mux entries past now count latest (a ∷ asks) has =
    subst (λ (l : List Entry). Has mux l (past ++ a.1 ∷ edits_in asks) now count latest) (append_assoc entries (done_entry a ∷ []) (map done_entry asks))
    (subst (λ (l : List Edit). Has mux ((entries ++ done_entry a ∷ []) ++ map done_entry asks) l now count latest) (append_assoc past (a.1 ∷ []) (edits_in asks))
    (has_all_edited mux (entries ++ done_entry a ∷ []) (past ++ a.1 ∷ []) now count latest asks (has_edited mux entries past now count latest a has)))

later_is : (now at : Moment) → now.0 ≤ at.0 → later_of now at ≡ at
later_is now at h = elim (cases_Bool (nat_lt at.0 now.0)) [
  | inl late ↦ absurd (not_late now at h late)
  | inr later ↦ rw later refl
]
  where
    not_late : (now at : Moment) → now.0 ≤ at.0 → nat_lt at.0 now.0 ≡ true → ⊥
    not_late now at h late = grind (arith, nat_tests)

has_ticked : (mux : Mux) (entries : List Entry) (past : List Edit) (now at : Moment) (count : ℕ) (latest : Guide) → now.0 ≤ at.0
    → Has mux entries past now count latest → Has mux (entries ++ ticked_entry 0 at Ticked ∷ []) past at count latest
has_ticked mux entries past now at count latest low has = record {
  edits = accepted-push entries (ticked_entry 0 at Ticked) ∙ append-nil (accepted entries) ∙ has.edits;
  moment = moment-tick mux entries (ticked_entry 0 at Ticked) at refl ∙ ap (λ (m : Moment). later_of m at) has.moment ∙ later_is now at low;
  count_is = publishes-push entries (ticked_entry 0 at Ticked) ∙ omega (arith, has.count_is);
  latest_is = kept_latest mux entries (ticked_entry 0 at Ticked) count latest has.count_is has.latest_is;
}

has_published : (mux : Mux) (entries : List Entry) (past : List Edit) (now : Moment) (count : ℕ) (latest : Guide)
    → Has mux entries past now count latest
    → Has mux (entries ++ published_entry 0 (1 + count) ∷ []) past now (1 + count) (guide_of (book_after (fed_services mux) past) now)
has_published mux entries past now count latest has = record {
  edits = accepted-push entries (published_entry 0 (1 + count)) ∙ append-nil (accepted entries) ∙ has.edits;
  moment = moment-other mux entries (published_entry 0 (1 + count)) refl ∙ has.moment;
  count_is = publishes-push entries (published_entry 0 (1 + count)) ∙ omega (arith, has.count_is);
  latest_is = publication-new mux entries (published_entry 0 (1 + count)) (1 + count) refl (ap (λ n. 1 + n) (sym has.count_is))
      ∙ ap (λ (es : List Edit). guide_of (book_after (fed_services mux) es) (moment_of mux entries)) has.edits ∙ ap (guide_of (book_after (fed_services mux) past)) has.moment;
}

-- ---- what is asked

abbrev IsTaken : Entry → Type 0
IsTaken entry = is_taken entry.outcome ≡ true

edits_taken : (asks : List FeedEdit) → AllByRecursion IsTaken (map done_entry asks)
edits_taken [] = tt
edits_taken (a ∷ asks) = (refl, edits_taken asks)

asked_done : (mux : Mux) (entries : List Entry) (past : List Edit) (asks : List FeedEdit) → accepted entries ≡ past
    → AreAccepted past (edits_in asks) → AllByRecursion (IsOwned (fed_services mux)) asks
    → journal_after mux entries (map asked asks) ≡ map done_entry asks
asked_done mux entries past [] is fine own = refl
asked_done mux entries past (a ∷ asks) is fine own =
    let replied : reply_over (standing (service_of a.1) (accepted entries)) a.1 ≡ reply.Done = ap (λ (es : List Edit). reply_over (standing (service_of a.1) es) a.1) is ∙ fine.0 in
    let first : entry_after mux entries (asked a) ≡ done_entry a = ap (λ (r : Reply). let entry : Entry = record { who = 0; step = edit a.0 a.1; outcome = Edited r } in entry) (cond-true (owns (fed_services mux) a.0 (service_of a.1)) _ _ own.0 ∙ replied) in
    ap (λ (x : Entry). x ∷ journal_after mux (entries ++ x ∷ []) (map asked asks)) first
    ∙ ap (λ (l : List Entry). done_entry a ∷ l)
    (asked_done mux (entries ++ done_entry a ∷ []) (past ++ a.1 ∷ []) asks (accepted-push entries (done_entry a) ∙ ap (λ (es : List Edit). es ++ a.1 ∷ []) is) fine.1 own.1)

tick_taken : (mux : Mux) (entries : List Entry) (now at : Moment) → moment_of mux entries ≡ now → now.0 ≤ at.0
    → entry_after mux entries (0, Tick at) ≡ ticked_entry 0 at Ticked
tick_taken mux entries now at is low = elim (cases_Bool (nat_lt at.0 (moment_of mux entries).0)) [
  | inl late ↦ absurd (not_late (moment_of mux entries) now at is low late)
  | inr later ↦ rw later refl
]
  where
    not_late : (m now at : Moment) → m ≡ now → now.0 ≤ at.0 → nat_lt at.0 m.0 ≡ true → ⊥
    not_late m now at is low late = let e : m.0 ≡ now.0 = ap (λ (m : Moment). m.0) is in grind (arith, nat_tests)

-- ---- the steps of a guide

-- these commands are taken after these entries, and what the desk has then
pub record Takes (mux : Mux) (entries : List Entry) (commands : List Command) (book : List KeptService) (now : Moment) (count : ℕ) (latest : Guide) : Type 0 where
  pub taken : AllByRecursion IsTaken (journal_after mux entries commands)
  pub past : List Edit
  pub has : Has mux (entries ++ journal_after mux entries commands) past now count latest
  pub book_is : book_after (fed_services mux) past ≡ book

-- more commands after others
takes_more : (mux : Mux) (entries : List Entry) (one two : List Command) (past : List Edit) (book_one book_two : List KeptService) (now_one now_two : Moment) (count_one count_two : ℕ) (latest_one latest_two : Guide)
    → (first : Takes mux entries one book_one now_one count_one latest_one)
    → Takes mux (entries ++ journal_after mux entries one) two book_two now_two count_two latest_two
    → Takes mux entries (one ++ two) book_two now_two count_two latest_two
takes_more mux entries one two past book_one book_two now_one now_two count_one count_two latest_one latest_two first second =
    let more = journal_more mux entries one two in
    let js = journal_after mux entries one in
    let ks = journal_after mux (entries ++ js) two in
    record {
      taken = subst (AllByRecursion IsTaken) (sym more) (all_append IsTaken js ks first.taken second.taken);
      past = second.past;
      has = subst (λ (l : List Entry). Has mux l second.past now_two count_two latest_two) (append_assoc entries js ks ∙ ap (λ (l : List Entry). entries ++ l) (sym more)) second.has;
      book_is = second.book_is;
    }

each_kept : (services : List FedService) (old : List Edit)
    → AllByRecursion IsServiceWithin (map (λ (kept : KeptService). kept.guide) (book_after services old))
    → AllByRecursion (λ (s : FedService). IsServiceWithin (kept_after old s).guide) services
each_kept services old within =
    all_of_map (λ (kept : KeptService). IsServiceWithin kept.guide) (kept_after old) services
    (all_of_map IsServiceWithin (λ (kept : KeptService). kept.guide) (book_after services old) within)

-- the edits that rebuild a book, and a tick
takes_book : (edits : ServiceGuide → List Edit) (IsReady : List Edit → ℕ → Type 0) → Rebuilds edits IsReady
    → (mux : Mux) (entries : List Entry) (past old : List Edit) (now at : Moment) (count : ℕ) (latest : Guide)
    → IsSound mux → AllByRecursion IsServiceWithin (map (λ (kept : KeptService). kept.guide) (book_after (fed_services mux) old))
    → AllByRecursion (λ (s : FedService). IsReady past s.service) (fed_services mux) → Has mux entries past now count latest → now.0 ≤ at.0
    → Takes mux entries (guide_steps edits mux (guide_of (book_after (fed_services mux) old) at)) (book_after (fed_services mux) old) at count latest
takes_book edits IsReady way mux entries past old now at count latest sound within ready has low =
    let book = book_after (fed_services mux) old in
    let asks = book_edits edits book in
    let commands = map asked asks ++ (0, Tick at) ∷ [] in
    let built = rebuilt_all edits IsReady way (fed_services mux) old past (fed_ascend mux sound) (each_kept (fed_services mux) old within) ready in
    let done : journal_after mux entries (map asked asks) ≡ map done_entry asks = asked_done mux entries past asks has.edits built.0 (book_owned edits way.own (fed_services mux) old) in
    let filled = has_all_edited mux entries past now count latest asks has in
    let tick : entry_after mux (entries ++ map done_entry asks) (0, Tick at) ≡ ticked_entry 0 at Ticked = tick_taken mux (entries ++ map done_entry asks) now at filled.moment low in
    let all : journal_after mux entries commands ≡ map done_entry asks ++ ticked_entry 0 at Ticked ∷ [] =
    journal_more mux entries (map asked asks) ((0, Tick at) ∷ [])
    ∙ ap (λ (l : List Entry). l ++ journal_after mux (entries ++ l) ((0, Tick at) ∷ [])) done
    ∙ ap (λ (x : Entry). map done_entry asks ++ x ∷ []) tick in
    let takes : Takes mux entries commands book at count latest = record {
      taken = subst (AllByRecursion IsTaken) (sym all) (all_append IsTaken (map done_entry asks) (ticked_entry 0 at Ticked ∷ []) (edits_taken asks) (refl, tt));
      past = past ++ edits_in asks;
      has = subst (λ (l : List Entry). Has mux l (past ++ edits_in asks) at count latest) (append_assoc entries (map done_entry asks) (ticked_entry 0 at Ticked ∷ []) ∙ ap (λ (l : List Entry). entries ++ l) (sym all))
          (has_ticked mux (entries ++ map done_entry asks) (past ++ edits_in asks) now at count latest low filled);
      book_is = built.1;
    } in
    subst (λ (cs : List Command). Takes mux entries (cs ++ (0, Tick at) ∷ []) book at count latest) (sym (steps_are edits (fed_services mux) old (fed_ascend mux sound))) takes

takes_publish : (mux : Mux) (entries : List Entry) (past : List Edit) (book : List KeptService) (now : Moment) (count : ℕ) (latest : Guide)
    → Has mux entries past now count latest → book_after (fed_services mux) past ≡ book
    → Takes mux entries ((0, Publish) ∷ []) book now (1 + count) (guide_of book now)
takes_publish mux entries past book now count latest has is = record {
  taken = (refl, tt);
  past = past;
  has = subst (λ (n : ℕ). Has mux (entries ++ published_entry 0 (1 + n) ∷ []) past now (1 + count) (guide_of book now)) (sym has.count_is)
      (subst (λ (b : List KeptService). Has mux (entries ++ published_entry 0 (1 + count) ∷ []) past now (1 + count) (guide_of b now)) is (has_published mux entries past now count latest has));
  book_is = is;
}

-- ---- moments do not fall

not_below : (a b : Moment) → nat_lt b.0 a.0 ≡ false → a.0 ≤ b.0
not_below a b e = grind (arith, nat_tests)

later_up : (a b : Moment) → a.0 ≤ (later_of a b).0
later_up a b = elim (cases_Bool (nat_lt b.0 a.0)) [
  | inl e ↦ rw e (omega arith)
  | inr e ↦ rw e (not_below a b e)
]

latest_up : (first : Moment) (ms : List Moment) → first.0 ≤ (latest_of_all first ms).0
latest_up first [] = omega arith
latest_up first (m ∷ ms) = omega (arith, latest_up (later_of first m) ms, later_up first m)

abbrev ticks : List Entry → List Moment
ticks entries = filter_map (λ (entry : Entry). ticked_by entry.step entry.outcome) entries

-- a moment in front of other ticks, where there is one
front_up : (o : Option Moment) (xs ys : List Moment) → ((first : Moment) → (latest_of_all first xs).0 ≤ (latest_of_all first ys).0)
    → (first : Moment) → (latest_of_all first (cons_option o xs)).0 ≤ (latest_of_all first (cons_option o ys)).0
front_up None xs ys up first = up first
front_up (Some m) xs ys up first = up (later_of first m)

before_up : (n : ℕ) (entries : List Entry) (first : Moment)
    → (latest_of_all first (ticks (before_publish n entries))).0 ≤ (latest_of_all first (ticks entries)).0
before_up n [] first = omega arith
before_up n (x ∷ xs) first = elim (cases_Bool (is_publish x.step)) [
  | inl p ↦ elim (cases_Bool (n == 1)) [
    | inl one ↦ rw (p, one) (latest_up first (ticks (x ∷ xs)))
    | inr more ↦ rw (p, more) (front_up (ticked_by x.step x.outcome) (ticks (before_publish (n - 1) xs)) (ticks xs) (before_up (n - 1) xs) first)
  ]
  | inr p ↦ rw p (front_up (ticked_by x.step x.outcome) (ticks (before_publish n xs)) (ticks xs) (before_up n xs) first)
]

-- ---- the checkpoint

has_nothing : (mux : Mux) → Has mux [] [] mux.start 0 (guide_after mux [])
has_nothing mux = record { edits = refl; moment = refl; count_is = refl; latest_is = refl }

-- the latest publication is made again
takes_publication : (mux : Mux) (journal : List Entry) → IsSound mux → Legal mux journal → (publishes journal == 0) ≡ false
    → let latest = publication mux journal (publishes journal) in
    let front = before_publish (publishes journal) journal in
    Takes mux [] (guide_steps filling mux latest ++ (0, Publish) ∷ []) (book_after (fed_services mux) (accepted front)) (moment_of mux front) 1 latest
takes_publication mux journal sound legal some =
    let front = before_publish (publishes journal) journal in
    let old = accepted front in
    let latest = guide_after mux front in
    let is : publication mux journal (publishes journal) ≡ latest = rw some refl in
    let first = takes_book filling IsEmpty by_filling mux [] [] old mux.start (moment_of mux front) 0 (guide_after mux []) sound
    (draft_within mux front sound (front_legal mux (publishes journal) [] journal legal)).services (all_empty (fed_services mux)) (has_nothing mux) (latest_up mux.start (ticks front)) in
    let both : Takes mux [] (guide_steps filling mux latest ++ (0, Publish) ∷ []) (book_after (fed_services mux) old) (moment_of mux front) 1 latest =
    takes_more mux [] (guide_steps filling mux latest) ((0, Publish) ∷ []) [] (book_after (fed_services mux) old) (book_after (fed_services mux) old) (moment_of mux front) (moment_of mux front) 0 1 (guide_after mux []) latest first
    (takes_publish mux ([] ++ journal_after mux [] (guide_steps filling mux latest)) first.past (book_after (fed_services mux) old) (moment_of mux front) 0 (guide_after mux []) first.has first.book_is) in
    subst (λ (g : Guide). Takes mux [] (guide_steps filling mux g ++ (0, Publish) ∷ []) (book_after (fed_services mux) old) (moment_of mux front) 1 g) (sym is) both

-- the book is made again after what was taken so far
takes_draft : (mux : Mux) (entries journal : List Entry) (past : List Edit) (now : Moment) (count : ℕ) (latest : Guide) → IsSound mux
    → Legal mux journal
    → Has mux entries past now count latest → now.0 ≤ (moment_of mux journal).0
    → Takes mux entries (guide_steps refilling mux (guide_after mux journal)) (book_after (fed_services mux) (accepted journal)) (moment_of mux journal) count latest
takes_draft mux entries journal past now count latest sound legal has low =
    takes_book refilling IsAny by_refilling mux entries past (accepted journal) now (moment_of mux journal) count latest sound
    (draft_within mux journal sound legal).services (all_any past (fed_services mux)) has low

-- how many publications there are after the checkpoint
abbrev left_of : ℕ → ℕ
left_of count = cond (count == 0) 0 1

pub takes_checkpoint : (mux : Mux) (journal : List Entry) → IsSound mux → Legal mux journal
    → Takes mux [] (checkpoint_steps mux journal) (book_after (fed_services mux) (accepted journal)) (moment_of mux journal) (left_of (publishes journal)) (publication mux journal (publishes journal))
takes_checkpoint mux journal sound legal =
    let count = publishes journal in
    let latest = publication mux journal count in
    elim (cases_Bool (count == 0)) [
      | inl none ↦
          let is : latest ≡ guide_after mux [] = rw none refl in
          let drafted = takes_draft mux [] journal [] mux.start 0 (guide_after mux []) sound legal (has_nothing mux) (latest_up mux.start (ticks journal)) in
          let steps : checkpoint_steps mux journal ≡ guide_steps refilling mux (guide_after mux journal) = rw none refl in
          subst (λ (l : List Command). Takes mux [] l (book_after (fed_services mux) (accepted journal)) (moment_of mux journal) (left_of count) latest) (sym steps)
          (subst (λ (g : Guide). Takes mux [] (guide_steps refilling mux (guide_after mux journal)) (book_after (fed_services mux) (accepted journal)) (moment_of mux journal) (left_of count) g) (sym is)
          (subst (λ n. Takes mux [] (guide_steps refilling mux (guide_after mux journal)) (book_after (fed_services mux) (accepted journal)) (moment_of mux journal) n (guide_after mux [])) (sym (cond-true (count == 0) 0 1 none)) drafted))
      | inr some ↦
          let front = before_publish count journal in
          let published = takes_publication mux journal sound legal some in
          let one = guide_steps filling mux latest ++ (0, Publish) ∷ [] in
          let two = guide_steps refilling mux (guide_after mux journal) in
          let drafted = takes_draft mux (journal_after mux [] one) journal published.past (moment_of mux front) 1 latest sound legal published.has (before_up count journal mux.start) in
          let both = takes_more mux [] one two [] (book_after (fed_services mux) (accepted front)) (book_after (fed_services mux) (accepted journal)) (moment_of mux front) (moment_of mux journal) 1 1 latest latest published drafted in
          let steps : checkpoint_steps mux journal ≡ one ++ two = ap (λ (l : List Command). l ++ two) (cond-false (count == 0) [] one some) in
          subst (λ (l : List Command). Takes mux [] l (book_after (fed_services mux) (accepted journal)) (moment_of mux journal) (left_of count) latest) (sym steps)
          (subst (λ n. Takes mux [] (one ++ two) (book_after (fed_services mux) (accepted journal)) (moment_of mux journal) n latest) (sym (cond-false (count == 0) 0 1 some)) both)
    ]

pub steps_taken : (mux : Mux) (journal : List Entry) → IsSound mux → Legal mux journal
    → AllByRecursion (λ (entry : Entry). is_taken entry.outcome ≡ true) (folded mux journal)
steps_taken mux journal sound legal = (takes_checkpoint mux journal sound legal).taken

pub goes_on : (mux : Mux) (journal : List Entry) → IsSound mux → Legal mux journal
    → GoOnAlike mux (shift_of (publishes journal)) journal (folded mux journal)
goes_on mux journal sound legal =
    let takes = takes_checkpoint mux journal sound legal in
    record {
      book = sym (ap (book_after (fed_services mux)) takes.has.edits ∙ takes.book_is);
      moment = sym takes.has.moment;
      count = shifted (publishes journal) ∙ ap (λ n. shift_of (publishes journal) + n) (sym takes.has.count_is);
      latest = sym (ap (publication mux (folded mux journal)) takes.has.count_is ∙ takes.has.latest_is);
    }
  where
    shifted : (n : ℕ) → n ≡ shift_of n + left_of n
    shifted n = elim (cases_Bool (n == 0)) [
      | inl none ↦ (let z : n ≡ 0 = grind (arith, nat_tests) in rw none (omega arith))
      | inr some ↦ (let one : 1 ≤ n = grind (arith, nat_tests) in rw some (omega arith))
    ]
