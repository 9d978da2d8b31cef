-- Each step keeps the rule.
use Rattle.std.proofs.Common.{◌≡◌, ◌≢◌, ◌⊎◌, ⊎_elim, inl, inr, ℕ, ◌+◌, ◌-◌, ◌<◌, ◌==◌, List, [], ◌∷◌, ◌++◌, length, drop, set, Bool, true, false, Option, Some, refl, sym, ap, subst, ◌∙◌, arith, lt_of_not-le, slice_index}
use Rattle.std.specs.List.{AllByRecursion}
use mathlib.Core.Option.{some, none, some-injective}
use lib.ListN.{get_elem?}
use mathlib.Core.List.{IsPrefix}
use mathlib.Core.Option as maybe
use native.Mathlib.Decide.{dec_le}
use mathlib.Core.Logic.{dite}
use prog.Atomic.{either}
use Rattle.atomic_table.specs.Table.{State, Me, Act, keeps, takes, gives, step, stepped, carried_after, opening, Valid, Allows, Splits, Joins, Final, Seen}
use Rattle.atomic_table.proofs.Lists.{at_set, set_again, set_here, set_else}
use Rattle.turn_lock.specs.declared.known.Caller.{Caller}
use Rattle.turn_lock.specs.declared.known.Known.{Known}
use Rattle.turn_lock.specs.Journal.{entries_of, Grows}
use Rattle.turn_lock.specs.Knowledge.{Knowledge, Has, HasAny, Exact, Closes, first_of}
use Rattle.atomic_table.specs.Seated.{TableId}
use Rattle.turn_lock.specs.Rule.{all_of, blank, first_view, holding, counted_view, let_go_view, kept_part, new_part, same_view, receipt_view, learnt, joined_with, IsFree, IsTaken, Fits, Views, Kept, Acquires, Counts, Releases, Compares}
use Rattle.turn_lock.proofs.Lists.{not-true, differ, within, at_end, same_place, prefix_self, prefix_trans, longer_fits, all_append, other_same, grown}
use Rattle.turn_lock.proofs.Numbers.{has_append, apart_append, has_left, has_right, all_same, exact_own, exact_lower, exact_upper, nothing, is_exact, none_other}
use Rattle.turn_lock.proofs.Viewing.{had_set, had_parts, had_join, apart_set, views_set, views_end, views_join, place_set, place_end}

module _ {S E G : Type 0} (entries : S → List E) (stands_on : S → G) (caller : E → ℕ) (callers : ℕ) (base : G) where
  abbrev Homes : Type 0
  Homes = List (maybe.Option (Option S))

  abbrev Now : List ℕ → Homes → List (Known E G) → State (Option S) (Known E G)
  Now ws hs views = record { words = ws; homes = hs; views = views }

  abbrev Rule : State (Option S) (Known E G) → Type 0
  Rule s = Kept entries stands_on caller callers base s

  abbrev FitsIn : List E → Known E G → Type 0
  FitsIn log v = Fits entries stands_on caller callers base log v

  abbrev ViewsIn : List E → List (Known E G) → Type 0
  ViewsIn log views = Views entries stands_on caller callers base log views

  abbrev FreeIn : ℕ → Homes → List (Known E G) → List E → Type 0
  FreeIn held homes views log = IsFree entries stands_on caller base held homes views log

  abbrev TakenIn : ℕ → Homes → List (Known E G) → List E → Type 0
  TakenIn held homes views log = IsTaken entries stands_on caller held homes views log

  -- what a step asks at one state: the new number of the word, the new view and the act
  abbrev Done : ℕ → ℕ → ℕ → List (ℕ × Option S) → (Me (Option S) (Known E G) → Type 0) → List ℕ → Homes → List (Known E G) → Type 0
  Done i n id carried then ws hs views =
      (w : Known E G) × (a : Act (Option S)) × Valid hs carried a × Rule (stepped (Now ws hs views) i n id carried w a) × then (w, carried_after carried a)

  -- the same view but for what does not concern others
  fits_seen : (log : List E) (v : Known E G) (seen : List E) (holder counted : Bool) → v.joined ≡ [] → IsPrefix seen log → FitsIn log v → FitsIn log (record v { holder = holder; counted = counted; seen = seen })
  fits_seen log v seen holder counted bare p fit = record {
    begins = p;
    kept = subst (λ (ls : List (List E)). AllByRecursion (λ l. IsPrefix l seen) ls) (sym bare) tt;
    exact = fit.exact;
    below = fit.below;
    parted = fit.parted;
    lasting = fit.lasting;
    stands = fit.stands;
  }

  -- acquire
  Tries : ℕ → ℕ → Known E G → List ℕ → Homes → List (Known E G) → Type 0
  Tries slots id v ws hs views = Done 0 (either (slice_index ws 0 == 0) 1 (slice_index ws 0)) id [] (Acquires entries stands_on caller (step slots 0 0 1 none) (v, []) (slice_index ws 0)) ws hs views

  pub acquires : (slots id : ℕ) (v : Known E G) → v.joined ≡ [] → 0 < v.own.span
      → Allows Rule slots id (v, []) 0 (λ n. either (n == 0) 1 n) (Acquires entries stands_on caller (step slots 0 0 1 none) (v, []))
  unfolding Tries
  acquires slots id v bare number s kept deep at fits =
      let P : List ℕ → Type 0 = λ ws. Tries slots id v ws s.homes s.views in
      subst P (sym kept.words) (
      ⊎_elim
      (λ (free : FreeIn kept.held s.homes s.views kept.log).
      let w : Known E G = holding v (entries free.state) in
      let own = kept.views.fits id v at in
      let seen : IsPrefix (entries free.state) kept.log = subst (λ (l : List E). IsPrefix l kept.log) (sym free.journal) (prefix_self kept.log) in
      let Q : ℕ → Type 0 = λ h. Tries slots id v (h ∷ length kept.log ∷ []) s.homes s.views in
      let R : Homes → Type 0 = λ hs. Tries slots id v (0 ∷ length kept.log ∷ []) hs s.views in
      subst Q (sym free.open_word) (subst R (sym free.home) (
        w,
        takes 0 (Some free.state),
        refl,
        record {
          log = kept.log;
          held = 1;
          words = refl;
          place = inr (record {
            shut_word = refl;
            out = refl;
            by = id;
            view = w;
            there = set_here s.views id w (within s.views id v at);
            holds = refl;
            journal = free.journal;
            number = number;
            alone = λ j u e holds. ⊎_elim (λ (t : (j ≡ id) × (w ≡ u)). t.0) (λ (t : (j ≢ id) × (get_elem? s.views j ≡ some u)). absurd (differ (sym holds ∙ free.none_holds j u t.1))) (at_set s.views id j w u e);
          });
          views = views_set entries stands_on caller callers base kept.log s.views id v w at (λ k h. h) (fits_seen kept.log v (entries free.state) true false bare seen own) kept.views;
          others = λ k n. kept.others k (had_set s.views id k v w at (λ h. h) n);
        },
        ((λ zero. (free.state, refl, refl, subst (IsPrefix v.seen) (sym free.journal) own.begins, λ g is. free.stands ∙ sym (own.stands g is))), (λ other. absurd (other refl))),
      )))
      (λ (taken : TakenIn kept.held s.homes s.views kept.log).
      let Q : ℕ → Type 0 = λ h. Tries slots id v (h ∷ length kept.log ∷ []) s.homes s.views in
      let R : ℕ → List (Known E G) → Type 0 = λ h l. Rule (Now (h ∷ length kept.log ∷ []) s.homes l) in
      let same : R kept.held s.views = record { log = kept.log; held = kept.held; words = refl; place = kept.place; views = kept.views; others = kept.others } in
      subst Q (sym taken.shut_word) (
        v,
        keeps,
        tt,
        subst (R 1) (sym (set_again s.views id v at)) (subst (λ (h : ℕ). R h s.views) taken.shut_word same),
        ((λ one. cc one), (λ other. refl)),
      ))
      kept.place
      )

  -- the holder's view stands for the journal
  holder_seen : (id : ℕ) (v : Known E G) (held : ℕ) (homes : Homes) (views : List (Known E G)) (log : List E) → v.holder ≡ true → get_elem? views id ≡ some v
      → (taken : TakenIn held homes views log) → (id ≡ taken.by) × (v.seen ≡ log)
  holder_seen id v held homes views log holds at taken =
      let same : id ≡ taken.by = taken.alone id v at holds in
      let is : v ≡ taken.view = same_place views id v taken.view at (ap (get_elem? views) same ∙ taken.there) in
      (same, ap (λ (z : Known E G). z.seen) is ∙ taken.journal)

  same_state : (y z : S) (said : Option S) → said ≡ Some y → said ≡ Some z → y ≡ z
  same_state y z said a b = let both : Some y ≡ Some z = sym a ∙ b in cc both

  -- the count is stored, and the journal is the one that was announced
  pub counts : (slots id after : ℕ) (said : Option S) (v : Known E G) (y : S) (carried : List (ℕ × Option S)) → said ≡ Some y → v.holder ≡ true → v.joined ≡ [] → 0 < v.own.span → after ≡ length (entries y)
      → Grows caller v.own.low v.seen (entries y)
      → Allows Rule slots id (v, carried) 1 (λ _. after) (λ _. Counts entries stands_on caller said (step slots 1 after 0 none) (v, carried) after)
  counts slots id after said v y carried named holds bare number is grows s kept deep at fits =
      ⊎_elim
      (λ (free : FreeIn kept.held s.homes s.views kept.log). absurd (differ (sym holds ∙ free.none_holds id v at)))
      (λ (taken : TakenIn kept.held s.homes s.views kept.log).
      let mine = holder_seen id v kept.held s.homes s.views kept.log holds at taken in
      let w : Known E G = counted_view v (entries y) in
      let added : List E = drop (length v.seen) (entries y) in
      let more = grown caller v.own.low v.seen (entries y) grows in
      let journal : entries y ≡ kept.log ++ added = more.0 ∙ ap (λ (l : List E). l ++ added) mine.1 in
      let own = kept.views.fits id v at in
      let lowest : Has v.own v.own.low = (omega arith, omega (arith, number)) in
      let later : IsPrefix kept.log (entries y) = (added, sym journal) in
      let fit : FitsIn (entries y) w = record {
        begins = prefix_self (entries y);
        kept = subst (λ (ls : List (List E)). AllByRecursion (λ l. IsPrefix l (entries y)) ls) (sym bare) tt;
        exact = subst (λ (l : List E). AllByRecursion (Exact caller l) (all_of w)) (sym journal) (
          exact_own caller kept.log added v.own number more.1 own.exact.0,
          all_same caller v.own.low kept.log added more.1 v.finished (λ k h e. own.parted.0 v.own.low lowest (subst (HasAny v.finished) e h)) own.exact.1,
        );
        below = own.below;
        parted = own.parted;
        lasting = own.lasting;
        stands = own.stands;
      } in
      let other : (j : ℕ) (u : Known E G) → j ≢ id → get_elem? s.views j ≡ some u → FitsIn (entries y) u = λ j u ne e.
      let f = kept.views.fits j u e in record {
        begins = prefix_trans u.seen kept.log (entries y) f.begins later;
        kept = f.kept;
        exact = subst (λ (l : List E). AllByRecursion (Exact caller l) (all_of u)) (sym journal)
            (all_same caller v.own.low kept.log added more.1 (all_of u) (λ k h is. kept.views.apart j id u v ne e at k h (inl (subst (Has v.own) (sym is) lowest))) f.exact);
        below = f.below;
        parted = f.parted;
        lasting = f.lasting;
        stands = f.stands;
      } in
      let P : List ℕ → Type 0 = λ ws. Done 1 after id carried (Counts entries stands_on caller said (step slots 1 after 0 none) (v, carried) after) ws s.homes s.views in
      subst P (sym kept.words) (
        w,
        keeps,
        tt,
        record {
          log = entries y;
          held = kept.held;
          words = ap (λ (z : ℕ). kept.held ∷ z ∷ []) is;
          place = inr (record {
            shut_word = taken.shut_word;
            out = taken.out;
            by = id;
            view = w;
            there = set_here s.views id w (within s.views id v at);
            holds = holds;
            journal = refl;
            number = number;
            alone = λ j u e holder. ⊎_elim (λ (t : (j ≡ id) × (w ≡ u)). t.0) (λ (t : (j ≢ id) × (get_elem? s.views j ≡ some u)). taken.alone j u t.1 holder ∙ sym mine.0) (at_set s.views id j w u e);
          });
          views = record {
            fits = λ j u e. ⊎_elim (λ (t : (j ≡ id) × (w ≡ u)). subst (FitsIn (entries y)) t.1 fit) (λ (t : (j ≢ id) × (get_elem? s.views j ≡ some u)). other j u t.0 t.1) (at_set s.views id j w u e);
            apart = apart_set entries stands_on caller callers base s.views id v w at (λ k h. h) kept.views.apart;
          };
          others = λ k n. let old = had_set s.views id k v w at (λ h. h) n in ap (entries_of caller k) journal ∙ other_same caller k v.own.low kept.log added more.1 (λ e. old id v at (inl (subst (Has v.own) (sym e) lowest))) ∙ kept.others k old;
        },
        (refl, is_exact caller (entries y) (all_of w) (number, own.lasting) fit.exact, λ z e. ap (λ (q : S). counted_view v (entries q)) (same_state y z said named e)),
      ))
      kept.place

  -- the lock is let go with the state that has the journal
  pub releases : (slots id : ℕ) (v : Known E G) (x : S) (g : G) → v.holder ≡ true → v.joined ≡ [] → v.seen ≡ entries x → v.on ≡ g ∷ [] → stands_on x ≡ g
      → Allows Rule slots id (v, (0, Some x) ∷ []) 0 (λ _. 0) (λ _. Releases entries stands_on caller (step slots 0 0 0 none) (v, (0, Some x) ∷ []) 0)
  releases slots id v x g holds bare is on stands s kept deep at fits =
      ⊎_elim
      (λ (free : FreeIn kept.held s.homes s.views kept.log). absurd (differ (sym holds ∙ free.none_holds id v at)))
      (λ (taken : TakenIn kept.held s.homes s.views kept.log).
      let mine = holder_seen id v kept.held s.homes s.views kept.log holds at taken in
      let w : Known E G = let_go_view v in
      let own = kept.views.fits id v at in
      let then : Me (Option S) (Known E G) → Type 0 = Releases entries stands_on caller (step slots 0 0 0 none) (v, (0, Some x) ∷ []) 0 in
      let P : List ℕ → Type 0 = λ ws. Done 0 0 id ((0, Some x) ∷ []) then ws s.homes s.views in
      let R : Homes → Type 0 = λ hs. Done 0 0 id ((0, Some x) ∷ []) then (kept.held ∷ length kept.log ∷ []) hs s.views in
      subst P (sym kept.words) (subst R (sym taken.out) (
        w,
        gives,
        tt,
        record {
          log = kept.log;
          held = 0;
          words = refl;
          place = inl (record {
            open_word = refl;
            state = x;
            home = refl;
            journal = sym is ∙ mine.1;
            stands = stands ∙ own.stands g on;
            none_holds = λ j u e. ⊎_elim (λ (t : (j ≡ id) × (w ≡ u)). ap (λ (z : Known E G). z.holder) (sym t.1))
                (λ (t : (j ≢ id) × (get_elem? s.views j ≡ some u)). not-true u.holder (λ h. t.0 (taken.alone j u t.1 h ∙ sym mine.0))) (at_set s.views id j w u e);
          });
          views = views_set entries stands_on caller callers base kept.log s.views id v w at (λ k h. h) (fits_seen kept.log v v.seen false false bare own.begins own) kept.views;
          others = λ k n. kept.others k (had_set s.views id k v w at (λ h. h) n);
        },
        (refl, refl),
      )))
      kept.place

  -- a step that changes nothing but a view of a seat that does not hold the lock, and keeps its numbers or some of them
  quiet : (s : State (Option S) (Known E G)) (id : ℕ) (v w : Known E G) (ws : List ℕ) → ws ≡ s.words → get_elem? s.views id ≡ some v → v.holder ≡ false → w.holder ≡ false
      → ((k : ℕ) → HasAny (all_of w) k → HasAny (all_of v) k) → ((k : ℕ) → HasAny (all_of v) k → HasAny (all_of w) k) → ((log : List E) → FitsIn log v → FitsIn log w) → Rule s → Rule (Now ws s.homes (set s.views id w))
  quiet s id v w ws same at idle after fewer more fit kept = record {
    log = kept.log;
    held = kept.held;
    words = same ∙ kept.words;
    place = place_set entries stands_on caller callers base kept.held s.homes s.views kept.log id v w at idle after kept.place;
    views = views_set entries stands_on caller callers base kept.log s.views id v w at fewer (fit kept.log (kept.views.fits id v at)) kept.views;
    others = λ k n. kept.others k (had_set s.views id k v w at (more k) n);
  }

  -- the count is read, and both lists of a join are beginnings of what is seen now
  pub compares : (slots id : ℕ) (v : Known E G) (carried : List (ℕ × Option S)) → v.holder ≡ false
      → Allows Rule slots id (v, carried) 1 (λ n. n) (Compares entries stands_on caller (step slots 1 0 0 none) (v, carried))
  compares slots id v carried idle s kept deep at fits =
      let w : Known E G = record v { joined = [] } in
      let same : set s.words 1 (slice_index s.words 1) ≡ s.words = subst (λ (ws : List ℕ). set ws 1 (slice_index ws 1) ≡ ws) (sym kept.words) refl in (
        w,
        keeps,
        tt,
        quiet s id v w (set s.words 1 (slice_index s.words 1)) same at idle idle (λ k h. h) (λ k h. h)
            (λ log f. record { begins = f.begins; kept = tt; exact = f.exact; below = f.below; parted = f.parted; lasting = f.lasting; stands = f.stands }) kept,
        (refl, refl, (kept.views.fits id v at).kept, (kept.views.fits id v at).parted),
      )

  -- a view is cut in two, or copied in part
  parts : (s : State (Option S) (Known E G)) (id : ℕ) (v left right : Known E G) → get_elem? s.views id ≡ some v → v.holder ≡ false → left.holder ≡ false → right.holder ≡ false
      → ((k : ℕ) → HasAny (all_of left) k → HasAny (all_of v) k) → ((k : ℕ) → HasAny (all_of right) k → HasAny (all_of v) k)
      → ((k : ℕ) → HasAny (all_of v) k → HasAny (all_of left) k ⊎ HasAny (all_of right) k)
      → ((log : List E) → FitsIn log v → (k : ℕ) → HasAny (all_of left) k → HasAny (all_of right) k → ⊥)
      → ((log : List E) → FitsIn log v → FitsIn log left) → ((log : List E) → FitsIn log v → FitsIn log right)
      → Rule s → Rule (Now s.words s.homes (set s.views id left ++ right ∷ []))
  parts s id v left right at idle idle_left idle_right fewer_left fewer_right cut apart fit_left fit_right kept =
      let own = kept.views.fits id v at in
      let Both : Known E G → ℕ → Type 0 = λ z k. HasAny (all_of z) k in
      let one : ViewsIn kept.log (set s.views id left) = views_set entries stands_on caller callers base kept.log s.views id v left at fewer_left (fit_left kept.log own) kept.views in
      let new : (j : ℕ) (u : Known E G) → get_elem? (set s.views id left) j ≡ some u → (k : ℕ) → Both u k → Both right k → ⊥ = λ j u e k hu hr.
      ⊎_elim (λ (t : (j ≡ id) × (left ≡ u)). apart kept.log own k (subst (λ (z : Known E G). Both z k) (sym t.1) hu) hr)
      (λ (t : (j ≢ id) × (get_elem? s.views j ≡ some u)). kept.views.apart j id u v t.0 t.1 at k hu (fewer_right k hr))
      (at_set s.views id j left u e) in
      record {
        log = kept.log;
        held = kept.held;
        words = kept.words;
        place = place_end entries stands_on caller callers base kept.held s.homes (set s.views id left) kept.log right idle_right
            (place_set entries stands_on caller callers base kept.held s.homes s.views kept.log id v left at idle idle_left kept.place);
        views = views_end entries stands_on caller callers base kept.log (set s.views id left) right new (fit_right kept.log own) one;
        others = λ k n. kept.others k (had_parts s.views id k v left right at (cut k) n);
      }

  no_number : (k : ℕ) → Has {E = E} (record { low = 0; span = 0; made = [] }) k → ⊥
  no_number k h = omega (arith, h.1)

  pub splits : (id span : ℕ) (v : Known E G) → v.holder ≡ false → 0 < span → span < v.own.span → Splits Rule id v (kept_part span v) (new_part span v)
  splits id span v idle asked fewer s kept at =
      let low : Caller E = record v.own { span = v.own.span - span } in
      let high : Caller E = record { low = v.own.low + (v.own.span - span); span = span; made = [] } in
      let lower : (k : ℕ) → Has low k → Has v.own k = λ k h. (h.0, omega (arith, h.1)) in
      let upper : (k : ℕ) → Has high k → Has v.own k = λ k h. (omega (arith, h.0), omega (arith, h.1, fewer)) in
      parts s id v (kept_part span v) (new_part span v) at idle idle refl
      (λ k h. ⊎_elim (λ (t : Has low k). inl (lower k t)) (λ (t : HasAny v.finished k). inr t) h)
      (λ k h. ⊎_elim (λ (t : Has high k). inl (upper k t)) (λ (t : ⊥). absurd t) h)
      (λ k h. ⊎_elim
      (λ (t : Has v.own k). dite (dec_le (v.own.low + (v.own.span - span)) k) (λ up. inr (inl (up, omega (arith, t.1, fewer)))) (λ not. inl (inl (t.0, lt_of_not-le not))))
      (λ (t : HasAny v.finished k). inl (inr t)) h)
      (λ log f k hl hr. ⊎_elim
      (λ (r : Has high k). ⊎_elim (λ (t : Has low k). omega (arith, t.1, r.0)) (λ (t : HasAny v.finished k). f.parted.0 k (upper k r) t) hl)
      (λ (r : ⊥). r) hr)
      (λ log f. record {
        begins = f.begins;
        kept = f.kept;
        exact = (exact_lower caller log v.own (v.own.span - span) (omega arith) f.exact.0, f.exact.1);
        below = λ k h. f.below k (⊎_elim (λ (t : Has low k). inl (lower k t)) (λ (t : HasAny v.finished k). inr t) h);
        parted = ((λ k h. f.parted.0 k (lower k h)), f.parted.1);
        lasting = f.lasting;
        stands = f.stands;
      })
      (λ log f. record {
        begins = f.begins;
        kept = tt;
        exact = (exact_upper caller log v.own (v.own.low + (v.own.span - span)) span (omega (arith, fewer)) (omega (arith, fewer)) f.exact.0, tt);
        below = λ k h. ⊎_elim (λ (t : Has high k). f.below k (inl (upper k t))) (λ (t : ⊥). absurd t) h;
        parted = ((λ k h n. n), tt);
        lasting = tt;
        stands = f.stands;
      })
      kept

  pub copies : (id : ℕ) (v : Known E G) → v.holder ≡ false → Splits Rule id v (same_view v) (receipt_view v)
  copies id v idle s kept at =
      parts s id v v (receipt_view v) at idle idle refl
      (λ k h. h)
      (λ k h. ⊎_elim (λ t. absurd (no_number k t)) (λ (t : ⊥). absurd t) h)
      (λ k h. inl h)
      (λ log f k hl hr. ⊎_elim (λ t. no_number k t) (λ (t : ⊥). t) hr)
      (λ log f. f)
      (λ log f. record {
        begins = f.begins;
        kept = tt;
        exact = ((λ k h. absurd (no_number k h)), tt);
        below = λ k h. ⊎_elim (λ t. absurd (no_number k t)) (λ (t : ⊥). absurd t) h;
        parted = ((λ k h n. n), tt);
        lasting = tt;
        stands = f.stands;
      })
      kept

  blank_fits : (log : List E) → FitsIn log blank
  blank_fits log = record {
    begins = (log, refl);
    kept = tt;
    exact = ((λ k h. absurd (no_number k h)), tt);
    below = λ k h. ⊎_elim (λ t. absurd (no_number k t)) (λ (t : ⊥). absurd t) h;
    parted = ((λ k h n. n), tt);
    lasting = tt;
    stands = λ g e. absurd (cc e);
  }

  -- one view takes in another
  takes_in : (s : State (Option S) (Known E G)) (id other : ℕ) (v w both : Known E G) → v.holder ≡ false → w.holder ≡ false → both.holder ≡ false
      → get_elem? s.views id ≡ some v → ¬ (other ≡ id) → get_elem? (set s.views id both) other ≡ some w
      → ((k : ℕ) → HasAny (all_of both) k → HasAny (all_of v) k ⊎ HasAny (all_of w) k)
      → ((k : ℕ) → HasAny (all_of v) k ⊎ HasAny (all_of w) k → HasAny (all_of both) k)
      → ((log : List E) → FitsIn log v → FitsIn log w → ((k : ℕ) → HasAny (all_of v) k → HasAny (all_of w) k → ⊥) → FitsIn log both)
      → Rule s → Rule (Now s.words s.homes (set (set s.views id both) other blank))
  takes_in s id other v w both idle idle_other idle_both at ne there more gather fit kept =
      let before : get_elem? s.views other ≡ some w = sym (set_else s.views id other both ne) ∙ there in
      record {
        log = kept.log;
        held = kept.held;
        words = kept.words;
        place = place_set entries stands_on caller callers base kept.held s.homes (set s.views id both) kept.log other w blank there idle_other refl
            (place_set entries stands_on caller callers base kept.held s.homes s.views kept.log id v both at idle idle_both kept.place);
        views = views_join entries stands_on caller callers base kept.log s.views id other v w both at before ne more
            (fit kept.log (kept.views.fits id v at) (kept.views.fits other w before) (λ k h r. kept.views.apart id other v w (λ e. ne (sym e)) at before k h r)) (blank_fits kept.log) kept.views;
        others = λ k n. kept.others k (had_join s.views id other k v w both blank at before ne (gather k) n);
      }

  pub joins : (id : ℕ) (v : Known E G) (other : ℕ) (w : Known E G) → v.holder ≡ false → w.holder ≡ false → 0 < w.own.span → Joins Rule id v other w (joined_with v w) blank
  joins id v other w idle idle_other number s kept at ne there =
      takes_in s id other v w (joined_with v w) idle idle_other idle at ne there
      (λ k h. ⊎_elim (λ (t : Has v.own k). inl (inl t)) (λ (t : HasAny (v.finished ++ all_of w) k). ⊎_elim (λ (r : HasAny v.finished k). inl (inr r)) (λ (r : HasAny (all_of w) k). inr r) (has_append v.finished (all_of w) k t)) h)
      (λ k h. ⊎_elim (λ (t : HasAny (all_of v) k). ⊎_elim (λ (r : Has v.own k). inl r) (λ (r : HasAny v.finished k). inr (has_left v.finished (all_of w) k r)) t) (λ (t : HasAny (all_of w) k). inr (has_right v.finished (all_of w) k t)) h)
      (λ log f g apart.
      let l = longer_fits log v.seen w.seen f.begins g.begins in record {
        begins = l.0;
        kept = (l.1, (l.2, tt));
        exact = (f.exact.0, all_append (Exact caller log) v.finished (all_of w) f.exact.1 g.exact);
        below = λ k h. ⊎_elim (λ (t : Has v.own k). f.below k (inl t)) (λ (t : HasAny (v.finished ++ all_of w) k). ⊎_elim (λ (r : HasAny v.finished k). f.below k (inr r)) (λ (r : HasAny (all_of w) k). g.below k r) (has_append v.finished (all_of w) k t)) h;
        parted = apart_append (all_of v) (all_of w) f.parted g.parted apart;
        lasting = all_append (λ c. 0 < c.span) v.finished (all_of w) f.lasting (number, g.lasting);
        stands = f.stands;
      })
      kept

  pub learns : (id : ℕ) (v : Known E G) (other : ℕ) (w : Known E G) → v.holder ≡ false → w.holder ≡ false → w.own.span ≡ 0 → w.finished ≡ [] → Joins Rule id v other w (learnt v w) blank
  learns id v other w idle idle_other none_own none_finished s kept at ne there =
      takes_in s id other v w (learnt v w) idle idle_other idle at ne there
      (λ k h. inl h)
      (λ k h. ⊎_elim (λ (t : HasAny (all_of v) k). t)
      (λ (t : HasAny (all_of w) k). ⊎_elim (λ (r : Has w.own k). absurd (omega (arith, r.0, r.1, none_own))) (λ (r : HasAny w.finished k). absurd (subst (λ (l : List (Caller E)). HasAny l k) none_finished r)) t) h)
      (λ log f g apart.
      let l = longer_fits log v.seen w.seen f.begins g.begins in record {
        begins = l.0;
        kept = (l.1, (l.2, tt));
        exact = f.exact;
        below = f.below;
        parted = f.parted;
        lasting = f.lasting;
        stands = f.stands;
      })
      kept

  pub opens : (x : S) → entries x ≡ [] → stands_on x ≡ base → Rule (opening (0 ∷ 0 ∷ []) (Some x ∷ []) (first_view callers base))
  opens x is stands =
      let v : Known E G = first_view callers base in
      let only : (j : ℕ) (u : Known E G) → get_elem? (v ∷ []) j ≡ some u → (j ≡ 0) × (v ≡ u) = λ j u e. ⊎_elim (λ t. absurd (cc t)) (λ (t : (j ≡ 0) × (v ≡ u)). t) (at_end [] v u j e) in
      let fit : FitsIn [] v = record {
        begins = ([], refl);
        kept = tt;
        exact = ((λ k h. sym (nothing v.own k refl)), tt);
        below = λ k h. ⊎_elim (λ (t : Has v.own k). omega (arith, t.1)) (λ (t : ⊥). absurd t) h;
        parted = ((λ k h n. n), tt);
        lasting = tt;
        stands = λ g e. let same : base ≡ g = cc e in sym same;
      } in
      record {
        log = [];
        held = 0;
        words = refl;
        place = inl (record { open_word = refl; state = x; home = refl; journal = is; stands = stands; none_holds = λ j u e. ap (λ (z : Known E G). z.holder) (sym (only j u e).1) });
        views = record {
          fits = λ j u e. subst (FitsIn []) (only j u e).1 fit;
          apart = λ i j a b ne ea eb k ha hb. ne ((only i a ea).0 ∙ sym (only j b eb).0);
        };
        others = λ k n. refl;
      }

  -- what the last state tells a pass that has all numbers
  pub record AtHome (v : Known E G) (s : State (Option S) (Known E G)) : Type 0 where
    pub state : S
    pub home : get_elem? s.homes 0 ≡ some (some (Some state))
    pub one : length s.homes ≡ 1
    pub stands : (g : G) → v.on ≡ g ∷ [] → stands_on state ≡ g
    pub closes : (turns : TableId) → Closes caller (record { turns = turns; seen = v.seen; own = v.own; finished = v.finished; on = first_of v.on }) (entries state)

  pub at_home : (id : ℕ) (v : Known E G) (s : State (Option S) (Known E G)) → v.holder ≡ false → 0 < v.own.span → ((k : ℕ) → k < callers → HasAny (all_of v) k)
      → Rule s → get_elem? s.views id ≡ some v → AtHome v s
  at_home id v s idle number whole kept at =
      let own = kept.views.fits id v at in
      ⊎_elim
      (λ (free : FreeIn kept.held s.homes s.views kept.log). record {
        state = free.state;
        home = ap (λ (l : Homes). get_elem? l 0) free.home;
        one = ap length free.home;
        stands = λ g on. free.stands ∙ sym (own.stands g on);
        closes = λ turns. subst (λ (l : List E). Closes caller (record { turns = turns; seen = v.seen; own = v.own; finished = v.finished; on = first_of v.on }) l) (sym free.journal) (record {
          began = own.begins;
          apart = own.parted;
          exact = is_exact caller kept.log (all_of v) (number, own.lasting) own.exact;
          others = λ k n. none_other caller callers kept.log (all_of v) whole own.exact (λ i le. kept.others i (λ j u e h. let lt = (kept.views.fits j u e).below i h in omega (arith, lt, le))) k n;
        });
      })
      (λ (taken : TakenIn kept.held s.homes s.views kept.log).
      let apart : taken.by ≢ id = λ same. differ (sym taken.holds ∙ ap (λ (z : Known E G). z.holder) (same_place s.views id taken.view v (subst (λ (i : ℕ). get_elem? s.views i ≡ some taken.view) same taken.there) at) ∙ idle) in
      let lowest : HasAny (all_of taken.view) taken.view.own.low = inl (omega arith, omega (arith, taken.number)) in
      let low = (kept.views.fits taken.by taken.view taken.there).below taken.view.own.low lowest in
      absurd (kept.views.apart taken.by id taken.view v apart taken.there at taken.view.own.low lowest (whole taken.view.own.low low)))
      kept.place

  -- what a pass sees of its view
  abbrev pub shown : TableId → Known E G → Knowledge E G
  shown turns v = record { turns = turns; seen = v.seen; own = v.own; finished = v.finished; on = first_of v.on }

  -- what is taken from the slot of a closed table, by a pass that has all numbers
  pub closing : (id : ℕ) (turns : TableId) (v : Known E G) (p : Knowledge E G) (n : ℕ) (ws : List ℕ) (xs : List (Option S)) (slot : Option S) → shown turns v ≡ p → callers ≡ n → v.holder ≡ false → 0 < v.own.span
      → ((g : G) × (v.on ≡ g ∷ [])) → ((k : ℕ) → k < n → HasAny (p.own ∷ p.finished) k) → Final (Seen Rule id v) ws xs → get_elem? xs 0 ≡ some slot
      → (x : S) × (slot ≡ Some x) × Closes caller p (entries x) × (p.on ≡ Some (stands_on x))
  closing id turns v p n ws xs slot is count idle number on whole final there =
      let (s, seen, words, deep, vals) = final in
      let all : (k : ℕ) → k < callers → HasAny (all_of v) k = λ k lt. subst (λ (z : Knowledge E G). HasAny (z.own ∷ z.finished) k) (sym is) (whole k (subst (λ (m : ℕ). k < m) count lt)) in
      let home : AtHome v s = at_home id v s idle number all seen.0 seen.1 in
      let x = home.state in
      let here : slot ≡ Some x = some-injective slot (Some x) (sym there ∙ vals 0 (Some x) home.home) in (
        x,
        here,
        subst (λ (z : Knowledge E G). Closes caller z (entries x)) is (home.closes turns),
        ap (λ (z : Knowledge E G). z.on) (sym is) ∙ ap (λ (z : List G). first_of z) on.1 ∙ ap (λ (z : G). Some z) (sym (home.stands on.0 on.1)),
      )

  -- the state that was taken
  pub closed : (p : Knowledge E G) (y : S) (slot : Option S) → slot ≡ Some y → (x : S) × (slot ≡ Some x) × Closes caller p (entries x) × (p.on ≡ Some (stands_on x)) → Closes caller p (entries y) × (p.on ≡ Some (stands_on y))
  closed p y slot is (x, here, closes, stands) =
      let same : x ≡ y = same_state x y slot here is in
      (subst (λ (z : S). Closes caller p (entries z)) same closes, subst (λ (z : S). p.on ≡ Some (stands_on z)) same stands)
