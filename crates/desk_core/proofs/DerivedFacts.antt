-- What a desk keeps, with one more entry.
use Rattle.std.proofs.Common.{◌≡◌, ℕ, ◌+◌, ◌≤◌, length, cond, List, [], ◌∷◌, ◌++◌, refl, sym, ap, ◌∙◌, subst, arith, append-nil, inl, inr}
use Rattle.std.specs.Prelude.{◌<◌, ◌*◌, nat_lt, None}
use Rattle.std.specs.List.{AllByRecursion}
use Rattle.std.proofs.lemmas.Bool.{cases_Bool}
use Rattle.si_lists.proofs.Lists.{all_push}
use Rattle.si_time.specs.declared.moment.Moment.{Moment}
use Rattle.guide_model.specs.declared.guide.Guide.{Guide}
use Rattle.page_share.specs.Pages.{PagesView}
use Rattle.mux_model.specs.Fed.{fed_services}
use Rattle.mux_model.specs.declared.mux.Mux.{Mux}
use Rattle.mux_model.specs.Sound.{IsSound}
use Rattle.guide_limits.specs.KeptService.{KeptService}
use Rattle.journal_model.specs.declared.edit.Edit.{Edit}
use Rattle.journal_model.specs.declared.reply.Reply.{Reply}
use Rattle.feed_book.specs.Accepted.{is_done}
use Rattle.journal_model.specs.Edits.{IsDayWithin}
use Rattle.guide_limits.specs.Limits.{IsGuideWithin}
use Rattle.guide_limits.specs.Guides.{guide_of}
use Rattle.feed_book.specs.Books.{IsBookAfter, reply_to}
use Rattle.journal_model.specs.declared.step.Step.TheVariants.{Edit as edit, Tick, Publish, Swap}
use Rattle.journal_model.specs.declared.step.Outcome.TheVariants.{Edited, Ticked, Late, Published, Swapped}
use Rattle.journal_model.specs.declared.step.Outcome.{Outcome}
use Rattle.journal_model.specs.declared.step.Entry.{Entry}
use Rattle.desk_core.specs.declared.airing.Airing.{Airing}
use Rattle.desk_core.specs.declared.desk_state.Derived.{Derived}
use Rattle.desk_core.specs.Journal.{is_publish, accepted, publishes, moment_of, later_of, ticked}
use Rattle.desk_core.specs.Publications.{publication, airing_of, last_aired, guide_after, aired_by}
use Rattle.journal_model.specs.Steps.{IsStepWithin}
use Rattle.desk_core.specs.Holding.{IsDerived}
use Rattle.desk_core.proofs.JournalFacts.{publishes-push, accepted-push, publication-kept, publication-new, aired-swap, aired-other, moment-tick, moment-other, legal_more}

-- the entry of an edit
abbrev pub edited : ℕ → ℕ → Edit → Reply → Entry
edited who feed e reply = record { who = who; step = edit feed e; outcome = Edited reply }

pub now_accepted : (entries : List Entry) (who feed : ℕ) (e : Edit) (reply : Reply) → accepted (entries ++ edited who feed e reply ∷ []) ≡ cond (is_done reply) (accepted entries ++ e ∷ []) (accepted entries)
now_accepted entries who feed e reply = accepted-push entries (edited who feed e reply) ∙ (elim (cases_Bool (is_done reply)) [
  | inl h ↦ rw h refl
  | inr h ↦ rw h (append-nil (accepted entries))
])

-- one more step that a desk may be asked
steps_push : (entries : List Entry) (x : Entry) → AllByRecursion (λ (entry : Entry). IsStepWithin entry.step) entries → IsStepWithin x.step
    → AllByRecursion (λ (entry : Entry). IsStepWithin entry.step) (entries ++ x ∷ [])
steps_push entries x h within = all_push (λ (entry : Entry). IsStepWithin entry.step) entries x h within

-- an entry that is no publish and no swap leaves all but the book
pub held_edited : (mux : Mux) (entries : List Entry) (held : Derived) (who feed : ℕ) (e : Edit) (reply : Reply) (book : List KeptService)
    → IsDerived mux entries held → IsDayWithin e → reply ≡ reply_to (fed_services mux) (accepted entries) feed e
    → IsBookAfter (fed_services mux) (cond (is_done reply) (accepted entries ++ e ∷ []) (accepted entries)) book
    → IsDerived mux (entries ++ edited who feed e reply ∷ []) (record held { book = book })
held_edited mux entries held who feed e reply book h day replied stands =
    let x = edited who feed e reply in
    let count : publishes (entries ++ x ∷ []) ≡ publishes entries = publishes-push entries x ∙ omega arith in
    let now = now_accepted entries who feed e reply in
    let aired = aired-other mux entries x refl in
    record {
      sound = h.sound;
      legal = legal_more mux [] entries x h.legal (ap Edited replied);
      steps = steps_push entries x h.steps day;
      book = subst (λ past. IsBookAfter (fed_services mux) past book) (sym now) stands;
      moment = h.moment ∙ sym (moment-other mux entries x refl);
      published = h.published ∙ sym count;
      latest = h.latest ∙ sym (publication-kept mux entries x (publishes entries) (omega arith)) ∙ ap (publication mux (entries ++ x ∷ [])) (sym count);
      latest_within = h.latest_within;
      on_air = h.on_air
          ∙ ap (λ (g : Guide). let a : Airing = record { number = (last_aired mux entries).0; moment = (last_aired mux entries).1; guide = g } in a) (sym (publication-kept mux entries x (last_aired mux entries).0 h.on_air_number))
          ∙ ap (airing_of mux (entries ++ x ∷ [])) (sym aired);
      on_air_within = h.on_air_within;
      on_air_number = subst (λ (a : ℕ × Moment). a.0 ≤ publishes (entries ++ x ∷ [])) (sym aired) (omega (arith, h.on_air_number, count));
    }

abbrev pub published_entry : ℕ → ℕ → Entry
published_entry who n = record { who = who; step = Publish; outcome = Published n }

pub held_published : (mux : Mux) (entries : List Entry) (held : Derived) (latest : PagesView) (who : ℕ) → IsDerived mux entries held
    → latest.guide ≡ guide_of held.book (moment_of mux entries) → IsGuideWithin latest.guide
    → IsDerived mux (entries ++ published_entry who (1 + held.published) ∷ []) (record held { published = 1 + held.published; latest = latest })
held_published mux entries held latest who h is within =
    let x = published_entry who (1 + held.published) in
    let count : publishes (entries ++ x ∷ []) ≡ 1 + publishes entries = publishes-push entries x ∙ omega arith in
    let now : accepted (entries ++ x ∷ []) ≡ accepted entries = accepted-push entries x ∙ append-nil (accepted entries) in
    let aired = aired-other mux entries x refl in
    let frozen : latest.guide ≡ guide_after mux entries = is ∙ ap (λ (kept : List KeptService). guide_of kept (moment_of mux entries)) h.book in
    record {
      sound = h.sound;
      legal = legal_more mux [] entries x h.legal (ap (λ n. Published (1 + n)) h.published);
      steps = steps_push entries x h.steps tt;
      book = subst (λ past. IsBookAfter (fed_services mux) past held.book) (sym now) h.book;
      moment = h.moment ∙ sym (moment-other mux entries x refl);
      published = ap (λ n. 1 + n) h.published ∙ sym count;
      latest = frozen ∙ sym (publication-new mux entries x (1 + publishes entries) refl refl) ∙ ap (publication mux (entries ++ x ∷ [])) (sym count);
      latest_within = within;
      on_air = h.on_air
          ∙ ap (λ (g : Guide). let a : Airing = record { number = (last_aired mux entries).0; moment = (last_aired mux entries).1; guide = g } in a) (sym (publication-kept mux entries x (last_aired mux entries).0 h.on_air_number))
          ∙ ap (airing_of mux (entries ++ x ∷ [])) (sym aired);
      on_air_within = h.on_air_within;
      on_air_number = subst (λ (a : ℕ × Moment). a.0 ≤ publishes (entries ++ x ∷ [])) (sym aired) (omega (arith, h.on_air_number, count));
    }

abbrev pub swapped_entry : ℕ → ℕ → Moment → Entry
swapped_entry who n at = record { who = who; step = Swap; outcome = Swapped n at }

pub held_swapped : (mux : Mux) (entries : List Entry) (held : Derived) (who : ℕ) → IsDerived mux entries held
    → IsDerived mux (entries ++ swapped_entry who held.published (moment_of mux entries) ∷ [])
    (record held { on_air = record { number = held.published; moment = moment_of mux entries; guide = held.latest.guide } })
held_swapped mux entries held who h =
    let x = swapped_entry who held.published (moment_of mux entries) in
    let count : publishes (entries ++ x ∷ []) ≡ publishes entries = publishes-push entries x ∙ omega arith in
    let now : accepted (entries ++ x ∷ []) ≡ accepted entries = accepted-push entries x ∙ append-nil (accepted entries) in
    let aired = aired-swap mux entries x (held.published, moment_of mux entries) refl in
    let kept = publication-kept mux entries x (publishes entries) (omega arith) in
    record {
      sound = h.sound;
      legal = legal_more mux [] entries x h.legal (ap (λ n. Swapped n (moment_of mux entries)) h.published);
      steps = steps_push entries x h.steps tt;
      book = subst (λ past. IsBookAfter (fed_services mux) past held.book) (sym now) h.book;
      moment = h.moment ∙ sym (moment-other mux entries x refl);
      published = h.published ∙ sym count;
      latest = h.latest ∙ sym kept ∙ ap (publication mux (entries ++ x ∷ [])) (sym count);
      latest_within = h.latest_within;
      on_air = ap (λ (g : Guide). let a : Airing = record { number = held.published; moment = moment_of mux entries; guide = g } in a)
          (h.latest ∙ sym kept ∙ ap (publication mux (entries ++ x ∷ [])) (sym h.published))
          ∙ ap (airing_of mux (entries ++ x ∷ [])) (sym aired);
      on_air_within = h.latest_within;
      on_air_number = subst (λ (a : ℕ × Moment). a.0 ≤ publishes (entries ++ x ∷ [])) (sym aired) (omega (arith, h.published, count));
    }

-- the entry of a tick
abbrev pub ticked_entry : ℕ → Moment → Outcome → Entry
ticked_entry who at outcome = record { who = who; step = Tick at; outcome = outcome }

-- the moment after a tick at this moment, by what it is answered
pub now_ticked : (mux : Mux) (entries : List Entry) (who : ℕ) (at : Moment)
    → moment_of mux (entries ++ ticked_entry who at (ticked (moment_of mux entries) at) ∷ []) ≡ later_of (moment_of mux entries) at
now_ticked mux entries who at = elim (cases_Bool (nat_lt at.0 (moment_of mux entries).0)) [
  | inl late ↦ rw late (moment-other mux entries (ticked_entry who at (Late (moment_of mux entries))) refl)
  | inr later ↦ rw later (moment-tick mux entries (ticked_entry who at Ticked) at refl ∙ (rw later refl))
]

not_accepted : (entries : List Entry) (who : ℕ) (at : Moment) (outcome : Outcome) → accepted (entries ++ ticked_entry who at outcome ∷ []) ≡ accepted entries
not_accepted entries who at outcome = accepted-push entries (ticked_entry who at outcome) ∙ append-nil (accepted entries)

pub not_aired : (now at : Moment) → aired_by (ticked now at) ≡ None
not_aired now at = elim (cases_Bool (nat_lt at.0 now.0)) [
  | inl late ↦ rw late refl
  | inr later ↦ rw later refl
]

-- a tick leaves all but the moment
pub held_ticked : (mux : Mux) (entries : List Entry) (held : Derived) (who : ℕ) (at : Moment) → IsDerived mux entries held → at.0 < 65536 * 86400
    → IsDerived mux (entries ++ ticked_entry who at (ticked (moment_of mux entries) at) ∷ []) (record held { moment = later_of held.moment at })
held_ticked mux entries held who at h within =
    let x = ticked_entry who at (ticked (moment_of mux entries) at) in
    let count : publishes (entries ++ x ∷ []) ≡ publishes entries = publishes-push entries x ∙ omega arith in
    let now : accepted (entries ++ x ∷ []) ≡ accepted entries = not_accepted entries who at x.outcome in
    let aired = aired-other mux entries x (not_aired (moment_of mux entries) at) in
    record {
      sound = h.sound;
      legal = legal_more mux [] entries x h.legal refl;
      steps = steps_push entries x h.steps within;
      book = subst (λ past. IsBookAfter (fed_services mux) past held.book) (sym now) h.book;
      moment = ap (λ (m : Moment). later_of m at) h.moment ∙ sym (now_ticked mux entries who at);
      published = h.published ∙ sym count;
      latest = h.latest ∙ sym (publication-kept mux entries x (publishes entries) (omega arith)) ∙ ap (publication mux (entries ++ x ∷ [])) (sym count);
      latest_within = h.latest_within;
      on_air = h.on_air
          ∙ ap (λ (g : Guide). let a : Airing = record { number = (last_aired mux entries).0; moment = (last_aired mux entries).1; guide = g } in a) (sym (publication-kept mux entries x (last_aired mux entries).0 h.on_air_number))
          ∙ ap (airing_of mux (entries ++ x ∷ [])) (sym aired);
      on_air_within = h.on_air_within;
      on_air_number = subst (λ (a : ℕ × Moment). a.0 ≤ publishes (entries ++ x ∷ [])) (sym aired) (omega (arith, h.on_air_number, count));
    }

-- the same, by what the calls give
pub as_published : (mux : Mux) (entries : List Entry) (old new : Derived) (who n : ℕ) → IsDerived mux entries old
    → n ≡ 1 + old.published → new.latest.guide ≡ guide_of old.book old.moment → new ≡ record old { published = 1 + old.published; latest = new.latest } → IsGuideWithin new.latest.guide
    → IsDerived mux (entries ++ published_entry who n ∷ []) new
as_published mux entries old new who n h number latest is within =
    subst (λ (k : ℕ). IsDerived mux (entries ++ published_entry who k ∷ []) new) (sym number)
    (subst (λ (x : Derived). IsDerived mux (entries ++ published_entry who (1 + old.published) ∷ []) x) (sym is)
    (held_published mux entries old new.latest who h (latest ∙ ap (guide_of old.book) h.moment) within))

pub as_swapped : (mux : Mux) (entries : List Entry) (old new : Derived) (who n : ℕ) (at : Moment) → IsDerived mux entries old → at ≡ old.moment
    → n ≡ old.published → new ≡ record old { on_air = record { number = old.published; moment = old.moment; guide = old.latest.guide } }
    → IsDerived mux (entries ++ swapped_entry who n at ∷ []) new
as_swapped mux entries old new who n at h now number is =
    let P : Moment → Type 0 = λ (m : Moment). IsDerived mux (entries ++ swapped_entry who old.published m ∷ []) (record old { on_air = record { number = old.published; moment = m; guide = old.latest.guide } }) in
    let stood : IsDerived mux (entries ++ swapped_entry who old.published old.moment ∷ []) new =
    subst (λ (x : Derived). IsDerived mux (entries ++ swapped_entry who old.published old.moment ∷ []) x) (sym is) (subst P (sym h.moment) (held_swapped mux entries old who h)) in
    subst (λ (k : ℕ). IsDerived mux (entries ++ swapped_entry who k at ∷ []) new) (sym number)
    (subst (λ (m : Moment). IsDerived mux (entries ++ swapped_entry who old.published m ∷ []) new) (sym now) stood)

pub as_ticked : (mux : Mux) (entries : List Entry) (old new : Derived) (who : ℕ) (at : Moment) (outcome : Outcome) → IsDerived mux entries old → at.0 < 65536 * 86400
    → outcome ≡ ticked old.moment at → new ≡ record old { moment = later_of old.moment at }
    → IsDerived mux (entries ++ ticked_entry who at outcome ∷ []) new
as_ticked mux entries old new who at outcome h within answered is =
    let same : outcome ≡ ticked (moment_of mux entries) at = answered ∙ ap (λ (m : Moment). ticked m at) h.moment in
    subst (λ (o : Outcome). IsDerived mux (entries ++ ticked_entry who at o ∷ []) new) (sym same)
    (subst (λ (x : Derived). IsDerived mux (entries ++ ticked_entry who at (ticked (moment_of mux entries) at) ∷ []) x) (sym is) (held_ticked mux entries old who at h within))

pub open_held_is : (mux : Mux) (held : Derived) → IsSound mux → IsBookAfter (fed_services mux) [] held.book → held.moment ≡ mux.start → held.published ≡ 0 → held.latest.guide ≡ guide_of held.book mux.start → IsGuideWithin held.latest.guide
    → held.on_air ≡ record { number = 0; moment = mux.start; guide = held.latest.guide } → IsDerived mux [] held
open_held_is mux held sound book moment published latest within on_air =
    let frozen : held.latest.guide ≡ guide_after mux [] = latest ∙ ap (λ (kept : List KeptService). guide_of kept mux.start) book in
    record {
      sound = sound;
      legal = tt;
      steps = tt;
      book = book;
      moment = moment;
      published = published;
      latest = frozen;
      latest_within = within;
      on_air = on_air ∙ ap (λ (g : Guide). let a : Airing = record { number = 0; moment = mux.start; guide = g } in a) frozen;
      on_air_within = subst (λ (a : Airing). IsGuideWithin a.guide) (sym on_air) within;
      on_air_number = omega arith;
    }

pub few_publishes : (entries : List Entry) → publishes entries ≤ length entries
few_publishes [] = omega arith
few_publishes (x ∷ xs) = elim (cases_Bool (is_publish x.step)) [
  | inl e ↦ rw e (omega (arith, few_publishes xs))
  | inr e ↦ rw e (omega (arith, few_publishes xs))
]
