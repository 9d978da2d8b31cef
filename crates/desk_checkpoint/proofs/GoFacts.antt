-- Journals that go on alike.
use Rattle.std.proofs.Common.{◌≡◌, ℕ, ◌+◌, ◌≤◌, ◌<◌, Bool, true, false, cond, List, [], ◌∷◌, ◌++◌, map, refl, sym, ap, ◌∙◌, subst, arith, append-nil, append_assoc, inl, inr}
use Rattle.std.specs.Prelude.{nat_lt, ◌==◌, Some}
use Rattle.std.specs.List.{AllByRecursion, find}
use Rattle.std.proofs.lemmas.Bool.{cases_Bool, eqb-false}
use Rattle.std.proofs.lemmas.Bool.Decides.{nat_tests}
use Rattle.std.proofs.lemmas.Simd.{map-map}
use Rattle.si_lists.proofs.Lists.{all_of_map}
use Rattle.si_time.specs.declared.moment.Moment.{Moment}
use Rattle.mux_model.specs.declared.mux.Mux.{Mux}
use Rattle.mux_model.specs.Fed.{FedService, fed_services}
use Rattle.mux_model.specs.Sound.{IsSound}
use Rattle.guide_model.specs.declared.guide.Guide.{Guide}
use Rattle.guide_model.specs.declared.guide.ServiceGuide.{ServiceGuide}
use Rattle.journal_model.specs.declared.edit.Edit.{Edit}
use Rattle.journal_model.specs.declared.reply.Reply.{Reply}
use Rattle.guide_limits.specs.KeptService.{KeptService}
use Rattle.feed_book.specs.Accepted.{is_done}
use Rattle.feed_book.specs.Replies.{service_of}
use Rattle.guide_limits.specs.Sound.{AreAscending}
use Rattle.guide_limits.specs.Limits.{IsServiceWithin}
use Rattle.feed_book.specs.Changes.{is_owned, reply_in, book_with}
use Rattle.guide_limits.specs.Guides.{book_after, guide_of}
use Rattle.feed_book.specs.Books.{reply_to}
use Rattle.feed_book.proofs.Timeline.{found_holds}
use Rattle.feed_book.proofs.BookLemmas.{reply_in-stands, stands-after}
use Rattle.journal_model.specs.declared.step.Step.{Step}
use Rattle.journal_model.specs.declared.step.Step.TheVariants.{Edit as edit, Tick, Publish, Swap}
use Rattle.journal_model.specs.declared.step.Outcome.{Outcome}
use Rattle.journal_model.specs.declared.step.Outcome.TheVariants.{Edited, Published, Swapped}
use Rattle.journal_model.specs.declared.step.Entry.{Entry}
use Rattle.desk_core.specs.Journal.{is_publish, accepted, publishes, moment_of, later_of, ticked, outcome_of, LegalAfter, Legal, entry_after, journal_after}
use Rattle.journal_model.specs.Steps.{Command}
use Rattle.desk_core.specs.Publications.{publication, guide_after}
use Rattle.desk_core.proofs.JournalFacts.{publishes-push, accepted-push, publication-kept, publication-new, publication_stays, moment-other, legal_more, journal_legal}
use Rattle.desk_core.proofs.DerivedFacts.{edited, now_accepted, now_ticked}
use Rattle.desk_core.proofs.WithinFacts.{draft_within}
use Rattle.desk_checkpoint.specs.Steps.{checkpoint_steps, steps_of}
use Rattle.desk_checkpoint.specs.Going.{GoOnAlike}
use Rattle.journal_model.specs.Raising.{raised, raised_entry, all_raised}

-- ---- an edit, over the book alone

pub reply_by_book : (services : List FedService) (p q : List Edit) (feed : ℕ) (e : Edit) → book_after services p ≡ book_after services q
    → reply_to services p feed e ≡ reply_to services q feed e
reply_by_book services p q feed e same =
    sym (reply_in-stands feed e p services) ∙ ap (λ (book : List KeptService). reply_in book feed e) same ∙ reply_in-stands feed e q services

kept_within : (book : List KeptService) (kept : KeptService) (p : KeptService → Bool)
    → AllByRecursion IsServiceWithin (map (λ (kept : KeptService). kept.guide) book) → find p book ≡ Some kept → IsServiceWithin kept.guide
kept_within book kept p all found =
    found_holds (λ (k : KeptService). IsServiceWithin k.guide) p book kept (all_of_map IsServiceWithin (λ (k : KeptService). k.guide) book all) found

-- the book after an edit, from the book before it
book_by : (mux : Mux) (entries : List Entry) (who feed : ℕ) (e : Edit) → IsSound mux → Legal mux entries
    → let reply = reply_to (fed_services mux) (accepted entries) feed e in
    let book = book_after (fed_services mux) (accepted entries) in
    book_after (fed_services mux) (accepted (entries ++ edited who feed e reply ∷ [])) ≡ cond (is_done reply) (book_with feed e book) book
book_by mux entries who feed e sound legal =
    let past = accepted entries in
    let reply = reply_to (fed_services mux) past feed e in
    let book = book_after (fed_services mux) past in
    let within = draft_within mux entries sound legal in
    ap (book_after (fed_services mux)) (now_accepted entries who feed e reply)
    ∙ sym (stands-after feed e past (fed_services mux) book (cond (is_done reply) (book_with feed e book) book) reply
    (subst AreAscending (map-map (λ (g : ServiceGuide). g.service) (λ (kept : KeptService). kept.guide) book) within.ascend)
    refl (sym (reply_in-stands feed e past (fed_services mux))) refl
    (λ kept found. kept_within book kept (is_owned feed (service_of e)) within.services found))

-- ---- one command

raised_ticked : (shift : ℕ) (now at : Moment) → raised shift (ticked now at) ≡ ticked now at
raised_ticked shift now at = elim (cases_Bool (nat_lt at.0 now.0)) [
  | inl late ↦ rw late refl
  | inr later ↦ rw later refl
]

outcomes_alike : (mux : Mux) (shift : ℕ) (h c : List Entry) (step : Step) → GoOnAlike mux shift h c
    → outcome_of mux h step ≡ raised shift (outcome_of mux c step)
outcomes_alike mux shift h c (edit feed e) alike = ap Edited (reply_by_book (fed_services mux) (accepted h) (accepted c) feed e alike.book)
outcomes_alike mux shift h c (Tick at) alike = ap (λ (m : Moment). ticked m at) alike.moment ∙ sym (raised_ticked shift (moment_of mux c) at)
outcomes_alike mux shift h c Publish alike = ap Published (more shift (publishes c) alike.count)
  where
    more : (s n : ℕ) {m : ℕ} → m ≡ s + n → 1 + m ≡ s + (1 + n)
    more s n {m} e = omega arith
outcomes_alike mux shift h c Swap alike = ap (λ n. Swapped n (moment_of mux h)) alike.count ∙ ap (Swapped (shift + publishes c)) alike.moment

-- an entry that is no publish and no tick, or was late, leaves all but the book
same_rest : (mux : Mux) (shift : ℕ) (h c : List Entry) (x y : Entry) → GoOnAlike mux shift h c → is_publish x.step ≡ false
    → is_publish y.step ≡ false
    → book_after (fed_services mux) (accepted (h ++ x ∷ [])) ≡ book_after (fed_services mux) (accepted (c ++ y ∷ []))
    → moment_of mux (h ++ x ∷ []) ≡ moment_of mux (c ++ y ∷ [])
    → GoOnAlike mux shift (h ++ x ∷ []) (c ++ y ∷ [])
same_rest mux shift h c x y alike px py book moment =
    let count_h : publishes (h ++ x ∷ []) ≡ publishes h = publishes-push h x ∙ rw px (omega arith) in
    let count_c : publishes (c ++ y ∷ []) ≡ publishes c = publishes-push c y ∙ rw py (omega arith) in
    record {
      book = book;
      moment = moment;
      count = count_h ∙ alike.count ∙ ap (λ n. shift + n) (sym count_c);
      latest = ap (publication mux (h ++ x ∷ [])) count_h ∙ publication-kept mux h x (publishes h) (omega arith)
          ∙ alike.latest
          ∙ sym (ap (publication mux (c ++ y ∷ [])) count_c ∙ publication-kept mux c y (publishes c) (omega arith));
    }

-- an entry that is no edit leaves the book
same_book : (mux : Mux) (h c : List Entry) (x y : Entry) → accepted (x ∷ []) ≡ [] → accepted (y ∷ []) ≡ []
    → book_after (fed_services mux) (accepted h) ≡ book_after (fed_services mux) (accepted c)
    → book_after (fed_services mux) (accepted (h ++ x ∷ [])) ≡ book_after (fed_services mux) (accepted (c ++ y ∷ []))
same_book mux h c x y px py same =
    ap (book_after (fed_services mux)) (accepted-push h x ∙ ap (λ (es : List Edit). accepted h ++ es) px ∙ append-nil (accepted h))
    ∙ same
    ∙ sym (ap (book_after (fed_services mux)) (accepted-push c y ∙ ap (λ (es : List Edit). accepted c ++ es) py ∙ append-nil (accepted c)))

step_alike : (mux : Mux) (shift : ℕ) (h c : List Entry) (who : ℕ) (step : Step) → IsSound mux → Legal mux h → Legal mux c
    → GoOnAlike mux shift h c
    → GoOnAlike mux shift (h ++ entry_after mux h (who, step) ∷ []) (c ++ entry_after mux c (who, step) ∷ [])
step_alike mux shift h c who (edit feed e) sound legal_h legal_c alike =
    let x = entry_after mux h (who, edit feed e) in
    let y = entry_after mux c (who, edit feed e) in
    let replies = reply_by_book (fed_services mux) (accepted h) (accepted c) feed e alike.book in
    same_rest mux shift h c x y alike refl refl
    (book_by mux h who feed e sound legal_h
    ∙ ap (λ (r : Reply). cond (is_done r) (book_with feed e (book_after (fed_services mux) (accepted h))) (book_after (fed_services mux) (accepted h))) replies
    ∙ ap (λ (b : List KeptService). cond (is_done (reply_to (fed_services mux) (accepted c) feed e)) (book_with feed e b) b) alike.book
    ∙ sym (book_by mux c who feed e sound legal_c))
    (moment-other mux h x refl ∙ alike.moment ∙ sym (moment-other mux c y refl))
step_alike mux shift h c who (Tick at) sound legal_h legal_c alike =
    let x = entry_after mux h (who, Tick at) in
    let y = entry_after mux c (who, Tick at) in
    same_rest mux shift h c x y alike refl refl (same_book mux h c x y refl refl alike.book)
    (now_ticked mux h who at ∙ ap (λ (m : Moment). later_of m at) alike.moment ∙ sym (now_ticked mux c who at))
step_alike mux shift h c who Swap sound legal_h legal_c alike =
    let x = entry_after mux h (who, Swap) in
    let y = entry_after mux c (who, Swap) in
    same_rest mux shift h c x y alike refl refl (same_book mux h c x y refl refl alike.book)
    (moment-other mux h x refl ∙ alike.moment ∙ sym (moment-other mux c y refl))
step_alike mux shift h c who Publish sound legal_h legal_c alike =
    let x = entry_after mux h (who, Publish) in
    let y = entry_after mux c (who, Publish) in
    let count_h : publishes (h ++ x ∷ []) ≡ 1 + publishes h = publishes-push h x ∙ omega arith in
    let count_c : publishes (c ++ y ∷ []) ≡ 1 + publishes c = publishes-push c y ∙ omega arith in
    record {
      book = same_book mux h c x y refl refl alike.book;
      moment = moment-other mux h x refl ∙ alike.moment ∙ sym (moment-other mux c y refl);
      count = omega (arith, count_h, count_c, alike.count);
      latest = ap (publication mux (h ++ x ∷ [])) count_h ∙ publication-new mux h x (1 + publishes h) refl refl
          ∙ ap (λ (b : List KeptService). guide_of b (moment_of mux h)) alike.book ∙ ap (guide_of (book_after (fed_services mux) (accepted c))) alike.moment
          ∙ sym (ap (publication mux (c ++ y ∷ [])) count_c ∙ publication-new mux c y (1 + publishes c) refl refl);
    }

-- ---- many commands

pub journals_alike : (mux : Mux) (shift : ℕ) (h c : List Entry) (commands : List Command) → IsSound mux → Legal mux h → Legal mux c
    → GoOnAlike mux shift h c
    → journal_after mux h commands ≡ all_raised shift (journal_after mux c commands)
journals_alike mux shift h c [] sound legal_h legal_c alike = refl
journals_alike mux shift h c (k ∷ ks) sound legal_h legal_c alike =
    let x = entry_after mux h k in
    let y = entry_after mux c k in
    let first : x ≡ raised_entry shift y = ap (λ (o : Outcome). let entry : Entry = record { who = k.0; step = k.1; outcome = o } in entry) (outcomes_alike mux shift h c k.1 alike) in
    ap (λ (entries : List Entry). x ∷ entries) (journals_alike mux shift (h ++ x ∷ []) (c ++ y ∷ []) ks sound
    (legal_more mux [] h x legal_h refl) (legal_more mux [] c y legal_c refl) (step_alike mux shift h c k.0 k.1 sound legal_h legal_c alike))
    ∙ ap (λ (entry : Entry). entry ∷ all_raised shift (journal_after mux (c ++ y ∷ []) ks)) first

-- legal entries after legal entries
pub legal_on : (mux : Mux) (before xs ys : List Entry) → LegalAfter mux before xs → LegalAfter mux (before ++ xs) ys
    → LegalAfter mux before (xs ++ ys)
legal_on mux before [] ys p q = subst (λ (l : List Entry). LegalAfter mux l ys) (append-nil before) q
legal_on mux before (x ∷ xs) ys p q =
    (p.0, legal_on mux (before ++ x ∷ []) xs ys p.1 (subst (λ (l : List Entry). LegalAfter mux l ys) (sym (append_assoc before (x ∷ []) xs)) q))

pub after_alike : (mux : Mux) (shift : ℕ) (h c : List Entry) (commands : List Command) → IsSound mux → Legal mux h → Legal mux c
    → GoOnAlike mux shift h c
    → GoOnAlike mux shift (h ++ journal_after mux h commands) (c ++ journal_after mux c commands)
after_alike mux shift h c [] sound legal_h legal_c alike =
    subst (λ (l : List Entry). GoOnAlike mux shift l (c ++ [])) (sym (append-nil h)) (subst (λ (l : List Entry). GoOnAlike mux shift h l) (sym (append-nil c)) alike)
after_alike mux shift h c (k ∷ ks) sound legal_h legal_c alike =
    let x = entry_after mux h k in
    let y = entry_after mux c k in
    subst (λ (l : List Entry). GoOnAlike mux shift l (c ++ y ∷ journal_after mux (c ++ y ∷ []) ks)) (append_assoc h (x ∷ []) (journal_after mux (h ++ x ∷ []) ks))
    (subst (λ (l : List Entry). GoOnAlike mux shift ((h ++ x ∷ []) ++ journal_after mux (h ++ x ∷ []) ks) l) (append_assoc c (y ∷ []) (journal_after mux (c ++ y ∷ []) ks))
    (after_alike mux shift (h ++ x ∷ []) (c ++ y ∷ []) ks sound (legal_more mux [] h x legal_h refl) (legal_more mux [] c y legal_c refl) (step_alike mux shift h c k.0 k.1 sound legal_h legal_c alike)))

pub all_legal : (mux : Mux) (entries : List Entry) (commands : List Command) → Legal mux entries
    → Legal mux (entries ++ journal_after mux entries commands)
all_legal mux entries commands legal = legal_on mux [] entries (journal_after mux entries commands) legal (journal_legal mux entries commands)

-- ---- publications

below : {m n : ℕ} → m ≤ n → (n ≡ m → ⊥) → m < n
below {m} {n} low other = grind arith

above_by : {p m n : ℕ} (b : Bool) → p ≡ m + cond b 1 0 → m ≤ n → (n ≡ m → ⊥) → p ≤ n
above_by {p} {m} {n} true e low other = let more : m < n = below low other in omega arith
above_by {p} {m} {n} false e low other = omega arith

pub publications_alike : (mux : Mux) (shift : ℕ) (h c : List Entry) (commands : List Command) → IsSound mux → Legal mux h → Legal mux c
    → GoOnAlike mux shift h c
    → (n : ℕ) → publishes c ≤ n → n ≤ publishes (c ++ journal_after mux c commands)
    → publication mux (h ++ journal_after mux h commands) (shift + n) ≡ publication mux (c ++ journal_after mux c commands) n
publications_alike mux shift h c [] sound legal_h legal_c alike n low high =
    let is : n ≡ publishes c = (let high' = rw (append-nil c) at high in omega arith) in
    ap (λ (l : List Entry). publication mux l (shift + n)) (append-nil h) ∙ ap (λ m. publication mux h (shift + m)) is
    ∙ ap (publication mux h) (sym alike.count) ∙ alike.latest ∙ ap (publication mux c) (sym is) ∙ ap (λ (l : List Entry). publication mux l n) (sym (append-nil c))
publications_alike mux shift h c (k ∷ ks) sound legal_h legal_c alike n low high =
    let x = entry_after mux h k in
    let y = entry_after mux c k in
    let hs = journal_after mux (h ++ x ∷ []) ks in
    let cs = journal_after mux (c ++ y ∷ []) ks in
    elim (cases_Bool (n == publishes c)) [
      | inl e ↦ (
          let is : n ≡ publishes c = grind (arith, nat_tests) in
          ap (λ m. publication mux (h ++ x ∷ hs) (shift + m)) is ∙ ap (publication mux (h ++ x ∷ hs)) (sym alike.count)
          ∙ publication_stays mux h (x ∷ hs) (publishes h) (omega arith)
          ∙ alike.latest
          ∙ sym (publication_stays mux c (y ∷ cs) (publishes c) (omega arith)) ∙ ap (publication mux (c ++ y ∷ cs)) (sym is))
      | inr e ↦ (
          let above : publishes (c ++ y ∷ []) ≤ n = above_by (is_publish y.step) (publishes-push c y) low (eqb-false n (publishes c) e) in
          ap (λ (l : List Entry). publication mux l (shift + n)) (sym (append_assoc h (x ∷ []) hs))
          ∙ publications_alike mux shift (h ++ x ∷ []) (c ++ y ∷ []) ks sound (legal_more mux [] h x legal_h refl) (legal_more mux [] c y legal_c refl) (step_alike mux shift h c k.0 k.1 sound legal_h legal_c alike)
          n above (subst (λ (l : List Entry). n ≤ publishes l) (sym (append_assoc c (y ∷ []) cs)) high)
          ∙ ap (λ (l : List Entry). publication mux l n) (append_assoc c (y ∷ []) cs))
    ]

-- ---- folding again

pub folds_again : (mux : Mux) (shift : ℕ) (h c : List Entry) → GoOnAlike mux shift h c
    → checkpoint_steps mux h ≡ steps_of mux (shift + publishes c) (publication mux c (publishes c)) (guide_after mux c)
folds_again mux shift h c alike =
    ap (λ n. steps_of mux n (publication mux h (publishes h)) (guide_after mux h)) alike.count
    ∙ ap (λ (g : Guide). steps_of mux (shift + publishes c) g (guide_after mux h)) alike.latest
    ∙ ap (steps_of mux (shift + publishes c) (publication mux c (publishes c)))
    (ap (λ (b : List KeptService). guide_of b (moment_of mux h)) alike.book ∙ ap (guide_of (book_after (fed_services mux) (accepted c))) alike.moment)
