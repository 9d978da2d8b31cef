-- A cycle that is sent in the order of its plan is one that repeats as it likes.
use Rattle.std.proofs.Common.{ℕ, ◌≤◌, ◌⊎◌, inl, inr, List, [], ◌∷◌, ◌++◌, take, drop, map, refl, sym, subst, arith}
use Rattle.std.specs.List.{AllByRecursion, Contains, prefix_len}
use Rattle.std.proofs.lemmas.List.{take-append-drop}
use Rattle.std.proofs.lemmas.List.Elements.{All-contains_itself, All-take, All-drop, recursion_from_All, Contains-append_left, Contains-append_right, Contains-append_cases}
use Rattle.si_lists.proofs.Lists.{all_append, all_map}
use Rattle.section_codec.specs.declared.table.NumberedBody.{NumberedBody}
use Rattle.section_codec.specs.declared.table.SubTable.{SubTable}
use Rattle.air_model.specs.Cycle.{cycle_of}
use Rattle.air_model.specs.Sections.{planned}
use Rattle.version_book.specs.Airings.{AiredTables, version_at}
use Rattle.air_model.specs.Air.{Sent, Aired, sent_section, sections_of, table_sections, tdt, tot, times, leads, before_tdt, behind_tdt, sections_once, weights_once, cycle_sections, Cycles}
use Rattle.air_model.specs.Repeating.{IsTimeFrom, IsSentOf, AreSentOf, RepeatingCycles, AirsRepeat}
pub use Rattle.air_model.proofs.Elements.{elements, of_element, first_of, rest_of, around, mapped, joined}
use Rattle.air_model.proofs.Planned.{all_at, at_contains, places_planned}

-- ---- the sections of a cycle

once_is_sent : (past : List AiredTables) (a : AiredTables) → AreSentOf past a (sections_once past a)
once_is_sent past a = record {
  each =
      all_append (IsSentOf past a) (table_sections (past ++ a ∷ []) (before_tdt a.tables)) behind
      (of_tables (before_tdt a.tables) (recursion_from_All (Contains a.tables) (before_tdt a.tables) (All-take (Contains a.tables) n a.tables (All-contains_itself a.tables))))
      (all_append (IsSentOf past a) ts (table_sections (past ++ a ∷ []) (behind_tdt a.tables)) (all_map (Contains ts) (IsSentOf past a) (λ s has. inr (a.moment, now, has)) ts (elements ts))
      (of_tables (behind_tdt a.tables) (recursion_from_All (Contains a.tables) (behind_tdt a.tables) (All-drop (Contains a.tables) n a.tables (All-contains_itself a.tables)))));
  all = λ t p has_t has_p. one t p has_p (Contains-append_cases (take n a.tables) (drop n a.tables) t (subst (λ l. Contains l t) (sym (take-append-drop n a.tables)) has_t));
  time = (a.moment, of_now, told.0);
  local_time = (a.moment, of_now, told.1);
}
  where
    n : ℕ
    n = prefix_len leads a.tables

    ts : List Sent
    ts = times a.form a.moment

    behind : List Sent
    behind = ts ++ table_sections (past ++ a ∷ []) (behind_tdt a.tables)

    now : a.moment ≤ a.moment
    now = omega arith

    of_now : IsTimeFrom a a.moment
    of_now = record { later = now; written = λ lt. lt }

    in_times : (s : Sent) → Contains ts s → Contains (sections_once past a) s
    in_times s has =
        Contains-append_right (table_sections (past ++ a ∷ []) (before_tdt a.tables)) behind s
        (Contains-append_left ts (table_sections (past ++ a ∷ []) (behind_tdt a.tables)) s has)

    told : AllByRecursion (Contains (sections_once past a)) ts
    told = all_map (Contains ts) (Contains (sections_once past a)) in_times ts (elements ts)

    of_sections : (t : SubTable) → Contains a.tables t → (ps : List NumberedBody) → AllByRecursion (Contains t.sections) ps → AllByRecursion (IsSentOf past a) (map (sent_section (version_at t.key (past ++ a ∷ [])) t) ps)
    of_sections t has [] all = tt
    of_sections t has (p ∷ ps) all = (inl (t, p, has, all.0, refl), of_sections t has ps all.1)

    of_tables : (ts : List SubTable) → AllByRecursion (Contains a.tables) ts → AllByRecursion (IsSentOf past a) (table_sections (past ++ a ∷ []) ts)
    of_tables [] all = tt
    of_tables (t ∷ ts) all =
        all_append (IsSentOf past a) (sections_of (version_at t.key (past ++ a ∷ [])) t) (table_sections (past ++ a ∷ []) ts)
        (of_sections t all.0 t.sections (elements t.sections)) (of_tables ts all.1)

    in_tables : (ts : List SubTable) (t : SubTable) (p : NumberedBody) → Contains ts t → Contains t.sections p → Contains (table_sections (past ++ a ∷ []) ts) (sent_section (version_at t.key (past ++ a ∷ [])) t p)
    in_tables ts t p has_t has_p =
        joined (λ (u : SubTable). sections_of (version_at u.key (past ++ a ∷ [])) u) ts t (sent_section (version_at t.key (past ++ a ∷ [])) t p) has_t (mapped (sent_section (version_at t.key (past ++ a ∷ [])) t) t.sections p has_p)

    one : (t : SubTable) (p : NumberedBody) → Contains t.sections p → Contains (take n a.tables) t ⊎ Contains (drop n a.tables) t → Contains (sections_once past a) (sent_section (version_at t.key (past ++ a ∷ [])) t p)
    one t p has_p (inl has) =
        Contains-append_left (table_sections (past ++ a ∷ []) (before_tdt a.tables)) behind (sent_section (version_at t.key (past ++ a ∷ [])) t p)
        (in_tables (before_tdt a.tables) t p has has_p)
    one t p has_p (inr has) =
        Contains-append_right (table_sections (past ++ a ∷ []) (before_tdt a.tables)) behind (sent_section (version_at t.key (past ++ a ∷ [])) t p)
        (Contains-append_right ts (table_sections (past ++ a ∷ []) (behind_tdt a.tables)) (sent_section (version_at t.key (past ++ a ∷ [])) t p) (in_tables (behind_tdt a.tables) t p has has_p))

pub cycle_is_sent : (past : List AiredTables) (a : AiredTables) → AreSentOf past a (cycle_sections past a)
cycle_is_sent past a =
    let once = once_is_sent past a in
    let sections = sections_once past a in
    let order = cycle_of (planned (weights_once past a) a.form.quota) in
    record {
      each = all_at (IsSentOf past a) sections order once.each;
      all = λ t p has_t has_p. at_contains sections order (sent_section (version_at t.key (past ++ a ∷ [])) t p) (places_planned past a) (once.all t p has_t has_p);
      time = (once.time.0, once.time.1, at_contains sections order (tdt once.time.0) (places_planned past a) once.time.2);
      local_time = (
        once.local_time.0,
        once.local_time.1,
        all_map (Contains sections) (Contains (cycle_sections past a)) (λ s has. at_contains sections order s (places_planned past a) has) (tot once.local_time.0 a.form.offsets) once.local_time.2,
      );
    }

cycles_repeat : (past : List AiredTables) (xs : List Aired) → Cycles past xs → RepeatingCycles past xs
cycles_repeat past [] h = tt
cycles_repeat past (x ∷ xs) h =
    (record { sections = cycle_sections past x.airing; are = cycle_is_sent past x.airing; carried = h.0 }, cycles_repeat (past ++ x.airing ∷ []) xs h.1)

pub airs_repeat : AirsRepeat
airs_repeat airings xs is = record { airings_are = is.airings_are; cycles = cycles_repeat [] xs is.cycles; counted = is.counted; fields = is.fields; nulls = is.nulls }
