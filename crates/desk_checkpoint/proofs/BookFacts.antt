-- The edits of all services are accepted, and leave the book that they were made from.
use Rattle.std.proofs.Common.{◌≡◌, ℕ, ◌<◌, Bool, true, ◌&&◌, List, [], ◌∷◌, ◌++◌, map, eqb, refl, sym, ap, ◌∙◌, subst, arith, append-nil, append_assoc}
use Rattle.std.specs.List.{AllByRecursion, flat_map}
use Rattle.std.proofs.lemmas.Bool.{eq-eqb, or_left, or_right}
use Rattle.std.proofs.lemmas.List.{map-append}
use Rattle.std.proofs.lemmas.List.Concat.{flat_map-cons}
use Rattle.si_lists.proofs.Lists.{all_append, all_map}
use Rattle.guide_model.specs.declared.guide.ServiceGuide.{ServiceGuide}
use Rattle.mux_model.specs.Fed.{FedService, DoFedAscend, feed_of}
use Rattle.mux_model.proofs.FedFacts.{feeds_found}
use Rattle.journal_model.specs.declared.edit.Edit.{Edit}
use Rattle.guide_limits.specs.KeptService.{KeptService}
use Rattle.guide_limits.specs.Standing.{standing}
use Rattle.feed_book.specs.Replies.{service_of}
use Rattle.guide_limits.specs.Limits.{IsServiceWithin}
use Rattle.feed_book.specs.Accepted.{AreAccepted}
use Rattle.guide_limits.specs.Guides.{kept_after, book_after}
use Rattle.feed_book.specs.Books.{owns}
use Rattle.feed_book.proofs.Accepted.{standing-other, kept-other}
use Rattle.desk_checkpoint.specs.Items.{filling, refilling}
use Rattle.journal_model.specs.declared.step.Step.TheVariants.{Edit as edit}
use Rattle.journal_model.specs.Steps.{Command}
use Rattle.desk_checkpoint.specs.Steps.{service_steps}
use Rattle.desk_checkpoint.proofs.FillFacts.{IsRebuilt, filling_done, refilling_done, filling_own, refilling_own}

-- ---- edits with their feeds

-- an edit with the feed that asks for it
abbrev pub FeedEdit : Type 0
FeedEdit = ℕ × Edit

abbrev pub edits_for : (ServiceGuide → List Edit) → KeptService → List FeedEdit
edits_for edits kept = map (λ (e : Edit). (kept.feed, e)) (edits kept.guide)

-- the edits of all services, in ascending order
abbrev pub book_edits : (ServiceGuide → List Edit) → List KeptService → List FeedEdit
book_edits edits book = flat_map (edits_for edits) book

-- caller 0 asks for it
abbrev pub asked : FeedEdit → Command
asked a = (0, edit a.0 a.1)

-- the edits without their feeds
abbrev pub edits_in : List FeedEdit → List Edit
edits_in asks = map (λ (a : FeedEdit). a.1) asks

without_feed : (feed : ℕ) (edits : List Edit) → edits_in (map (λ (e : Edit). (feed, e)) edits) ≡ edits
without_feed feed [] = refl
without_feed feed (e ∷ edits) = ap (λ (es : List Edit). e ∷ es) (without_feed feed edits)

first_service : (edits : ServiceGuide → List Edit) (kept : KeptService) (book : List KeptService)
    → edits_in (book_edits edits (kept ∷ book)) ≡ edits kept.guide ++ edits_in (book_edits edits book)
first_service edits kept book =
    ap edits_in (flat_map-cons (edits_for edits) kept book)
    ∙ map-append (λ (a : FeedEdit). a.1) (edits_for edits kept) (book_edits edits book)
    ∙ ap (λ (es : List Edit). es ++ edits_in (book_edits edits book)) (without_feed kept.feed (edits kept.guide))

-- edits that are accepted after others
accepted_on : (past xs ys : List Edit) → AreAccepted past xs → AreAccepted (past ++ xs) ys → AreAccepted past (xs ++ ys)
accepted_on past [] ys p q = subst (λ (l : List Edit). AreAccepted l ys) (append-nil past) q
accepted_on past (x ∷ xs) ys p q =
    (p.0, accepted_on (past ++ x ∷ []) xs ys p.1 (subst (λ (l : List Edit). AreAccepted l ys) (sym (append_assoc past (x ∷ []) xs)) q))

-- ---- edits of other services

abbrev IsElsewhere : ℕ → Edit → Type 0
IsElsewhere service e = service_of e ≡ service → ⊥

kept_through : (past edits : List Edit) (s : FedService) → AllByRecursion (IsElsewhere s.service) edits
    → kept_after (past ++ edits) s ≡ kept_after past s
kept_through past [] s h = ap (λ (p : List Edit). kept_after p s) (append-nil past)
kept_through past (e ∷ edits) s h =
    ap (λ (p : List Edit). kept_after p s) (sym (append_assoc past (e ∷ []) edits)) ∙ kept_through (past ++ e ∷ []) edits s h.1 ∙ kept-other past e s h.0

-- each edit of a service of another number is elsewhere
own_elsewhere : (edits : List Edit) (own other : ℕ) → (own ≡ other → ⊥) → AllByRecursion (λ (e : Edit). service_of e ≡ own) edits
    → AllByRecursion (IsElsewhere other) edits
own_elsewhere edits own other differ h = all_map (λ (e : Edit). service_of e ≡ own) (IsElsewhere other) (λ e of_own same. differ (sym of_own ∙ same)) edits h

book_elsewhere : (edits : ServiceGuide → List Edit)
    → ((guide : ServiceGuide) → AllByRecursion (λ (e : Edit). service_of e ≡ guide.service) (edits guide))
    → (services : List FedService) (old : List Edit) (n : ℕ) → AllByRecursion (λ (s : FedService). n < s.service) services
    → AllByRecursion (IsElsewhere n) (edits_in (book_edits edits (book_after services old)))
book_elsewhere edits own [] old n h = tt
book_elsewhere edits own (s ∷ services) old n h =
    let kept = kept_after old s in
    subst (AllByRecursion (IsElsewhere n)) (sym (first_service edits kept (book_after services old)))
    (all_append (IsElsewhere n) (edits kept.guide) (edits_in (book_edits edits (book_after services old)))
    (own_elsewhere (edits kept.guide) s.service n (above n s.service h.0) (own kept.guide)) (book_elsewhere edits own services old n h.1))
  where
    above : (n m : ℕ) → n < m → m ≡ n → ⊥
    above n m l e = omega arith

-- ---- all services

-- a way to rebuild a service where it is ready for that
pub record Rebuilds (edits : ServiceGuide → List Edit) (IsReady : List Edit → ℕ → Type 0) : Type 0 where
  pub own : (guide : ServiceGuide) → AllByRecursion (λ (e : Edit). service_of e ≡ guide.service) (edits guide)
  pub rebuilt : (past : List Edit) (kept : KeptService) → IsReady past kept.guide.service → IsServiceWithin kept.guide → IsRebuilt past (edits kept.guide) kept
  pub stays : (past : List Edit) (e : Edit) (service : ℕ) → IsElsewhere service e → IsReady past service → IsReady (past ++ e ∷ []) service

ready_through : (edits : ServiceGuide → List Edit) (IsReady : List Edit → ℕ → Type 0) → Rebuilds edits IsReady
    → (past more : List Edit) (service : ℕ) → AllByRecursion (IsElsewhere service) more → IsReady past service
    → IsReady (past ++ more) service
ready_through edits IsReady way past [] service h ready = subst (λ (p : List Edit). IsReady p service) (sym (append-nil past)) ready
ready_through edits IsReady way past (e ∷ more) service h ready =
    subst (λ (p : List Edit). IsReady p service) (append_assoc past (e ∷ []) more) (ready_through edits IsReady way (past ++ e ∷ []) more service h.1 (way.stays past e service h.0 ready))

abbrev AreReady : (List Edit → ℕ → Type 0) → List Edit → List FedService → Type 0
AreReady IsReady past services = AllByRecursion (λ (s : FedService). IsReady past s.service) services

all_ready : (edits : ServiceGuide → List Edit) (IsReady : List Edit → ℕ → Type 0) → Rebuilds edits IsReady
    → (past more : List Edit) (n : ℕ) (services : List FedService)
    → AllByRecursion (λ (e : Edit). service_of e ≡ n) more → AllByRecursion (λ (s : FedService). n < s.service) services
    → AreReady IsReady past services → AreReady IsReady (past ++ more) services
all_ready edits IsReady way past more n [] own above ready = tt
all_ready edits IsReady way past more n (s ∷ services) own above ready = (
  ready_through edits IsReady way past more s.service (own_elsewhere more n s.service (λ e. (let l : n < s.service = above.0 in omega arith)) own) ready.0,
  all_ready edits IsReady way past more n services own above.1 ready.1,
)

pub rebuilt_all : (edits : ServiceGuide → List Edit) (IsReady : List Edit → ℕ → Type 0) → Rebuilds edits IsReady
    → (services : List FedService) (old past : List Edit)
    → DoFedAscend services → AllByRecursion (λ (s : FedService). IsServiceWithin (kept_after old s).guide) services
    → AreReady IsReady past services
    → AreAccepted past (edits_in (book_edits edits (book_after services old))) × (book_after services (past ++ edits_in (book_edits edits (book_after services old))) ≡ book_after services old)
rebuilt_all edits IsReady way [] old past ascend within ready = (tt, refl)
rebuilt_all edits IsReady way (s ∷ services) old past ascend within ready =
    let kept = kept_after old s in
    let here = edits kept.guide in
    let later = edits_in (book_edits edits (book_after services old)) in
    let split : edits_in (book_edits edits (book_after (s ∷ services) old)) ≡ here ++ later = first_service edits kept (book_after services old) in
    let first = way.rebuilt past kept ready.0 within.0 in
    let rest = rebuilt_all edits IsReady way services old (past ++ here) ascend.1 within.1 (all_ready edits IsReady way past here s.service services (way.own kept.guide) ascend.0 ready.1) in
    let whole : past ++ edits_in (book_edits edits (book_after (s ∷ services) old)) ≡ (past ++ here) ++ later = ap (λ (l : List Edit). past ++ l) split ∙ sym (append_assoc past here later) in (
      subst (AreAccepted past) (sym split) (accepted_on past here later first.accepted rest.0),
      ap (book_after (s ∷ services)) whole
          ∙ ap (λ (k : KeptService). k ∷ book_after services ((past ++ here) ++ later))
          (kept_through (past ++ here) later s (book_elsewhere edits way.own services old s.service ascend.0) ∙ first.stands s refl refl)
          ∙ ap (λ (b : List KeptService). kept ∷ b) rest.1,
    )

-- the two ways: over no events, and over any
abbrev pub IsEmpty : List Edit → ℕ → Type 0
IsEmpty past service = standing service past ≡ []

abbrev pub IsAny : List Edit → ℕ → Type 0
IsAny past service = Unit {0}

pub by_filling : Rebuilds filling IsEmpty
by_filling = record {
  own = filling_own;
  rebuilt = filling_done;
  stays = λ past e service other none. standing-other service past e other ∙ none;
}

pub by_refilling : Rebuilds refilling IsAny
by_refilling = record {
  own = refilling_own;
  rebuilt = λ past kept any within. refilling_done past kept within;
  stays = λ past e service other any. tt;
}

pub all_empty : (services : List FedService) → AreReady IsEmpty [] services
all_empty [] = tt
all_empty (s ∷ services) = (refl, all_empty services)

pub all_any : (past : List Edit) (services : List FedService) → AreReady IsAny past services
all_any past [] = tt
all_any past (s ∷ services) = (tt, all_any past services)

-- ---- who owns them

abbrev pub IsOwned : List FedService → FeedEdit → Type 0
IsOwned services a = owns services a.0 (service_of a.1) ≡ true

owned_each : (all services : List FedService)
    → ((s : FedService) → owns services s.feed s.service ≡ true → owns all s.feed s.service ≡ true)
    → AllByRecursion (λ (s : FedService). owns all s.feed s.service ≡ true) services
owned_each all [] up = tt
owned_each all (s ∷ services) up = (
  up s (or_left (eqb s.service s.service && eqb s.feed s.feed) (owns services s.feed s.service) (own (eqb s.service s.service) (eqb s.feed s.feed) (eq-eqb s.service s.service refl) (eq-eqb s.feed s.feed refl))),
  owned_each all services (λ t h. up t (or_right (eqb s.service t.service && eqb s.feed t.feed) (owns services t.feed t.service) h)),
)
  where
    own : (a b : Bool) → a ≡ true → b ≡ true → (a && b) ≡ true
    own a b p q = rw (p, q) refl

owned_all : (edits : ServiceGuide → List Edit)
    → ((guide : ServiceGuide) → AllByRecursion (λ (e : Edit). service_of e ≡ guide.service) (edits guide))
    → (all services : List FedService) (old : List Edit) → AllByRecursion (λ (s : FedService). owns all s.feed s.service ≡ true) services
    → AllByRecursion (IsOwned all) (book_edits edits (book_after services old))
owned_all edits own all [] old h = tt
owned_all edits own all (s ∷ services) old h =
    let kept = kept_after old s in
    subst (AllByRecursion (IsOwned all)) (sym (flat_map-cons (edits_for edits) kept (book_after services old)))
    (all_append (IsOwned all) (edits_for edits kept) (book_edits edits (book_after services old)) (of_feed (edits kept.guide) (own kept.guide)) (owned_all edits own all services old h.1))
  where
    of_feed : (es : List Edit) → AllByRecursion (λ (e : Edit). service_of e ≡ s.service) es → AllByRecursion (IsOwned all) (map (λ (e : Edit). (s.feed, e)) es)
    of_feed [] k = tt
    of_feed (e ∷ es) k = (ap (owns all s.feed) k.0 ∙ h.0, of_feed es k.1)

pub book_owned : (edits : ServiceGuide → List Edit)
    → ((guide : ServiceGuide) → AllByRecursion (λ (e : Edit). service_of e ≡ guide.service) (edits guide))
    → (services : List FedService) (old : List Edit) → AllByRecursion (IsOwned services) (book_edits edits (book_after services old))
book_owned edits own services old = owned_all edits own services services old (owned_each services services (λ s h. h))

-- ---- the steps

asked_each : (feed : ℕ) (edits : List Edit) → map asked (map (λ (e : Edit). (feed, e)) edits) ≡ map (λ (e : Edit). (0, edit feed e)) edits
asked_each feed [] = refl
asked_each feed (e ∷ edits) = ap (λ (cs : List Command). (0, edit feed e) ∷ cs) (asked_each feed edits)

each_steps : (edits : ServiceGuide → List Edit) (all services : List FedService) (past : List Edit) → AllByRecursion (λ (s : FedService). feed_of all s.service ≡ s.feed) services
    → flat_map (service_steps edits all) (map (λ (kept : KeptService). kept.guide) (book_after services past)) ≡ map asked (book_edits edits (book_after services past))
each_steps edits all [] past found = refl
each_steps edits all (s ∷ services) past found =
    let kept = kept_after past s in
    let rest = map (λ (kept : KeptService). kept.guide) (book_after services past) in
    flat_map-cons (service_steps edits all) kept.guide rest
    ∙ ap (λ (feed : ℕ). map (λ (e : Edit). (0, edit feed e)) (edits kept.guide) ++ flat_map (service_steps edits all) rest) found.0
    ∙ ap (λ (cs : List Command). cs ++ flat_map (service_steps edits all) rest) (sym (asked_each s.feed (edits kept.guide)))
    ∙ ap (λ (cs : List Command). map asked (edits_for edits kept) ++ cs) (each_steps edits all services past found.1)
    ∙ sym (map-append asked (edits_for edits kept) (book_edits edits (book_after services past)))
    ∙ ap (map asked) (sym (flat_map-cons (edits_for edits) kept (book_after services past)))

-- the steps of the services of a book's guide are its edits
pub steps_are : (edits : ServiceGuide → List Edit) (services : List FedService) (past : List Edit) → DoFedAscend services
    → flat_map (service_steps edits services) (map (λ (kept : KeptService). kept.guide) (book_after services past))
    ≡ map asked (book_edits edits (book_after services past))
steps_are edits services past ascend = each_steps edits services services past (feeds_found services ascend)
