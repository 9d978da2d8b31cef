-- The sections of an airing at different moments: only what they tell differs.
use Rattle.std.proofs.Common.{◌≡◌, ℕ, zero, suc, ◌+◌, ◌<◌, ◌≤◌, ◌⊎◌, inl, inr, List, [], ◌∷◌, ◌++◌, Some, take, drop, length, refl, sym, ap, ap₂, ◌∙◌, subst, arith, append_assoc, length-append}
use Rattle.std.specs.Prelude.{slice_get, ◌%◌}
use Rattle.std.specs.List.{AllByRecursion, AllZip, Contains, prefix_len}
use Rattle.std.proofs.lemmas.List.{take-append-drop}
use Rattle.std.proofs.lemmas.List.Elements.{filter_map-append, Contains-append_cases}
use Rattle.guide_model.specs.declared.offset.Offset.{Offset}
use Rattle.section_codec.specs.Contents.{Content}
use Rattle.section_codec.specs.declared.table.Key.{Key}
use Rattle.section_codec.specs.declared.table.NumberedBody.{NumberedBody}
use Rattle.section_codec.specs.declared.table.SubTable.{SubTable}
use Rattle.time_tables.specs.Tot.{tot_section}
use Rattle.time_tables.proofs.Loops.{length-tot_section}
use Rattle.version_book.specs.Airings.{AiredTables, content_at, changes, version_at}
use Rattle.air_model.specs.Air.{Sent, sent_section, sections_of, table_sections, tdt, tot, times, leads, before_tdt, behind_tdt, sections_once, cycle_sections}
use Rattle.air_model.specs.Repeating.{IsSentOf}
use Rattle.air_model.proofs.Dense.{eight}
use Rattle.air_model.proofs.Elements.{elements, of_element, around, mapped, joined}
use Rattle.air_model.proofs.Planned.{at_contains, places_planned}
use Rattle.air_model.proofs.Repeating.{cycle_is_sent}
use Rattle.si_lists.proofs.Lists.{all_map}
use Rattle.cycle_timing.specs.SubTables.{name_of}
use Rattle.cycle_timing.specs.Cycle.{at_moment}

-- ---- versions

version_same : (k : Key) (past : List AiredTables) (a : AiredTables) (m : ℕ) → version_at k (past ++ at_moment m a ∷ []) ≡ version_at k (past ++ a ∷ [])
version_same k past a m =
    ap (λ (l : List Content). changes l % 32) (filter_map-append (content_at k) past (at_moment m a ∷ []) ∙ sym (filter_map-append (content_at k) past (a ∷ [])))

tables_same : (past : List AiredTables) (a : AiredTables) (m : ℕ) (ts : List SubTable) → table_sections (past ++ at_moment m a ∷ []) ts ≡ table_sections (past ++ a ∷ []) ts
tables_same past a m [] = refl
tables_same past a m (t ∷ ts) = ap₂ (λ (v : ℕ) (l : List Sent). sections_of v t ++ l) (version_same t.key past a m) (tables_same past a m ts)

-- ---- the sections, in three parts

abbrev pub front_of : List AiredTables → AiredTables → List Sent
front_of past a = table_sections (past ++ a ∷ []) (before_tdt a.tables)

abbrev pub back_of : List AiredTables → AiredTables → List Sent
back_of past a = table_sections (past ++ a ∷ []) (behind_tdt a.tables)

pub once_at : (past : List AiredTables) (a : AiredTables) (m : ℕ) → sections_once past (at_moment m a) ≡ front_of past a ++ (times a.form m ++ back_of past a)
once_at past a m = ap₂ (λ (l r : List Sent). l ++ (times a.form m ++ r)) (tables_same past a m (before_tdt a.tables)) (tables_same past a m (behind_tdt a.tables))

-- ---- two lists, element by element

module _ {X : Type 0} (R : X → X → Type 0) where
  pub zip_same : ((x : X) → R x x) → (xs : List X) → AllZip R xs xs
  zip_same same [] = tt
  zip_same same (x ∷ xs) = (same x, zip_same same xs)

  pub zip_append : (xs ys cs ds : List X) → AllZip R xs ys → AllZip R cs ds → AllZip R (xs ++ cs) (ys ++ ds)
  zip_append [] [] cs ds h k = k
  zip_append [] (y ∷ ys) cs ds h k = absurd h
  zip_append (x ∷ xs) [] cs ds h k = absurd h
  zip_append (x ∷ xs) (y ∷ ys) cs ds h k = (h.0, zip_append xs ys cs ds h.1 k)

  pub zip_got : (xs ys : List X) (i : ℕ) (x : X) → AllZip R xs ys → slice_get xs i ≡ Some x → (y : X) × (slice_get ys i ≡ Some y) × R x y
  zip_got [] ys i x h e = cc
  zip_got (a ∷ xs) [] i x h e = absurd h
  zip_got (a ∷ xs) (b ∷ ys) zero x h e = let f : a ≡ x = cc in (b, refl, subst (λ (c : X). R c b) f h.0)
  zip_got (a ∷ xs) (b ∷ ys) (suc i) x h e = zip_got xs ys i x h.1 e

  pub zip_length : (xs ys : List X) → AllZip R xs ys → length xs ≡ length ys
  zip_length [] [] h = refl
  zip_length [] (b ∷ ys) h = absurd h
  zip_length (a ∷ xs) [] h = absurd h
  zip_length (a ∷ xs) (b ∷ ys) h = ap suc (zip_length xs ys h.1)

-- ---- what does not differ

pub record AreAlike (a b : Sent) : Type 0 where
  pub pid : a.pid ≡ b.pid
  pub len : length a.bytes ≡ length b.bytes
  pub name : name_of a ≡ name_of b

alike_tot : (offsets : List Offset) (m n : ℕ) → AllZip AreAlike (tot m offsets) (tot n offsets)
alike_tot [] m n = tt
alike_tot (o ∷ offsets) m n = (record { pid = refl; len = length-tot_section m (o ∷ offsets) ∙ sym (length-tot_section n (o ∷ offsets)); name = refl }, tt)

pub alike_times : (a : AiredTables) (m n : ℕ) → AllZip AreAlike (times a.form m) (times a.form n)
alike_times a m n = (record { pid = refl; len = eight m ∙ sym (eight n); name = refl }, alike_tot a.form.offsets m n)

alike_itself : (s : Sent) → AreAlike s s
alike_itself s = record { pid = refl; len = refl; name = refl }

pub alike_at : (past : List AiredTables) (a : AiredTables) (m n : ℕ) → AllZip AreAlike (sections_once past (at_moment m a)) (sections_once past (at_moment n a))
alike_at past a m n =
    subst (λ (l : List Sent). AllZip AreAlike (sections_once past (at_moment m a)) l) (sym (once_at past a n))
    (subst (λ (l : List Sent). AllZip AreAlike l (front_of past a ++ (times a.form n ++ back_of past a))) (sym (once_at past a m))
    (zip_append AreAlike (front_of past a) (front_of past a) (times a.form m ++ back_of past a) (times a.form n ++ back_of past a) (zip_same AreAlike alike_itself (front_of past a))
    (zip_append AreAlike (times a.form m) (times a.form n) (back_of past a) (back_of past a) (alike_times a m n) (zip_same AreAlike alike_itself (back_of past a)))))

-- ---- each is a section of the airing

sent_of : (past : List AiredTables) (a : AiredTables) (m : ℕ) → a.moment ≤ m → (s : Sent) → IsSentOf past (at_moment m a) s → IsSentOf past a s
sent_of past a m later s (inl (t, p, has_t, has_p, e)) = inl (t, p, has_t, has_p, e ∙ ap (λ (v : ℕ). sent_section v t p) (version_same t.key past a m))
sent_of past a m later s (inr (at, from, has)) = inr (at, omega arith, has)

pub once_sent : (past : List AiredTables) (a : AiredTables) (m : ℕ) → a.moment ≤ m → AllByRecursion (IsSentOf past a) (sections_once past (at_moment m a))
once_sent past a m later =
    let b = at_moment m a in
    let all = sections_once past b in
    all_map (Contains all) (IsSentOf past a)
    (λ s has. sent_of past a m later s (of_element (IsSentOf past b) (cycle_sections past b) s (cycle_is_sent past b).each (at_contains all _ s (places_planned past b) has)))
    all (elements all)

-- ---- where a section stands, at each moment

got_there : {X : Type 0} (before : List X) (x : X) (after : List X) → slice_get (before ++ x ∷ after) (length before) ≡ Some x
got_there [] x after = refl
got_there (y ∷ before) x after = got_there before x after

pub record HasPlace (past : List AiredTables) (a : AiredTables) (sent : ℕ → Sent) : Type 0 where
  pub place : ℕ
  pub within : place < length (sections_once past a)
  pub got : (m : ℕ) → slice_get (sections_once past (at_moment m a)) place ≡ Some (sent m)

times_length : (a : AiredTables) (m n : ℕ) → length (times a.form m) ≡ length (times a.form n)
times_length a m n = zip_length AreAlike (times a.form m) (times a.form n) (alike_times a m n)

in_front : (past : List AiredTables) (a : AiredTables) (s : Sent) → Contains (front_of past a) s → HasPlace past a (λ m. s)
in_front past a s has =
    let w = around (front_of past a) s has in
    let before = w.0 in
    let after = w.1 in
    record {
      place = length before;
      within = omega (arith, ap length w.2, length-append before (s ∷ after), ap length (once_at past a a.moment), length-append (front_of past a) (times a.form a.moment ++ back_of past a));
      got = λ m. ap (λ (l : List Sent). slice_get l (length before)) (once_at past a m ∙ ap (λ (l : List Sent). l ++ (times a.form m ++ back_of past a)) w.2 ∙ append_assoc before (s ∷ after) (times a.form m ++ back_of past a))
          ∙ got_there before s (after ++ (times a.form m ++ back_of past a));
    }

in_back : (past : List AiredTables) (a : AiredTables) (s : Sent) → Contains (back_of past a) s → HasPlace past a (λ m. s)
in_back past a s has =
    let w = around (back_of past a) s has in
    let before = w.0 in
    let after = w.1 in
    let front = front_of past a in
    let whole : (m : ℕ) → sections_once past (at_moment m a) ≡ (front ++ (times a.form m ++ before)) ++ s ∷ after =
    λ m. once_at past a m ∙ ap (λ (l : List Sent). front ++ (times a.form m ++ l)) w.2 ∙ ap (λ (l : List Sent). front ++ l) (sym (append_assoc (times a.form m) before (s ∷ after))) ∙ sym (append_assoc front (times a.form m ++ before) (s ∷ after)) in
    let size : (m : ℕ) → length (front ++ (times a.form m ++ before)) ≡ length front + (length (times a.form a.moment) + length before) =
    λ m. omega (arith, length-append front (times a.form m ++ before), length-append (times a.form m) before, times_length a m a.moment) in
    record {
      place = length front + (length (times a.form a.moment) + length before);
      within = omega (arith, ap length (whole a.moment), length-append (front ++ (times a.form a.moment ++ before)) (s ∷ after), size a.moment);
      got = λ m. ap₂ (λ (l : List Sent) (n : ℕ). slice_get l n) (whole m) (sym (size m)) ∙ got_there (front ++ (times a.form m ++ before)) s after;
    }

-- a section of a sub-table,
pub table_place : (past : List AiredTables) (a : AiredTables) (t : SubTable) (p : NumberedBody) → Contains a.tables t → Contains t.sections p
    → HasPlace past a (λ m. sent_section (version_at t.key (past ++ a ∷ [])) t p)
table_place past a t p has_t has_p = go (Contains-append_cases (take n a.tables) (drop n a.tables) t (subst (λ l. Contains l t) (sym (take-append-drop n a.tables)) has_t))
  where
    n : ℕ
    n = prefix_len leads a.tables

    s : Sent
    s = sent_section (version_at t.key (past ++ a ∷ [])) t p

    in_tables : (ts : List SubTable) → Contains ts t → Contains (table_sections (past ++ a ∷ []) ts) s
    in_tables ts has = joined (λ (u : SubTable). sections_of (version_at u.key (past ++ a ∷ [])) u) ts t s has (mapped (sent_section (version_at t.key (past ++ a ∷ [])) t) t.sections p has_p)

    go : Contains (take n a.tables) t ⊎ Contains (drop n a.tables) t → HasPlace past a (λ m. s)
    go (inl has) = in_front past a s (in_tables (before_tdt a.tables) has)
    go (inr has) = in_back past a s (in_tables (behind_tdt a.tables) has)

-- and one that tells the time
in_times : (past : List AiredTables) (a : AiredTables) (sent : ℕ → Sent) (before after : ℕ → List Sent) (k : ℕ) → ((m : ℕ) → times a.form m ≡ before m ++ sent m ∷ after m) → ((m : ℕ) → length (before m) ≡ k)
    → HasPlace past a sent
in_times past a sent before after k are size =
    let front = front_of past a in
    let back = back_of past a in
    let whole : (m : ℕ) → sections_once past (at_moment m a) ≡ (front ++ before m) ++ sent m ∷ (after m ++ back) =
    λ m. once_at past a m ∙ ap (λ (l : List Sent). front ++ (l ++ back)) (are m) ∙ ap (λ (l : List Sent). front ++ l) (append_assoc (before m) (sent m ∷ after m) back) ∙ sym (append_assoc front (before m) (sent m ∷ (after m ++ back))) in
    let place : (m : ℕ) → length (front ++ before m) ≡ length front + k = λ m. omega (arith, length-append front (before m), size m) in
    record {
      place = length front + k;
      within = omega (arith, ap length (whole a.moment), length-append (front ++ before a.moment) (sent a.moment ∷ (after a.moment ++ back)), place a.moment);
      got = λ m. ap₂ (λ (l : List Sent) (n : ℕ). slice_get l n) (whole m) (sym (place m)) ∙ got_there (front ++ before m) (sent m) (after m ++ back);
    }

pub tdt_place : (past : List AiredTables) (a : AiredTables) → HasPlace past a tdt
tdt_place past a = in_times past a tdt (λ m. []) (λ m. tot m a.form.offsets) 0 (λ m. refl) (λ m. refl)

abbrev pub one_tot : Offset → List Offset → ℕ → Sent
one_tot o offsets m = record { pid = 0x0014; bytes = tot_section m (o ∷ offsets) }

pub tot_place : (past : List AiredTables) (a : AiredTables) (o : Offset) (offsets : List Offset) → a.form.offsets ≡ o ∷ offsets → HasPlace past a (one_tot o offsets)
tot_place past a o offsets e = in_times past a (one_tot o offsets) (λ m. tdt m ∷ []) (λ m. []) 1 (λ m. ap (λ (l : List Offset). tdt m ∷ tot m l) e) (λ m. refl)
