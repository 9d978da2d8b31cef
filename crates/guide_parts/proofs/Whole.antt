-- Where the whole screen is heard, the screen of parts is the same.
use Rattle.std.proofs.Common.{◌≡◌, ℕ, zero, suc, ◌+◌, ◌-◌, ◌≤◌, ◌<◌, List, [], ◌∷◌, ◌++◌, Bool, true, false, map, refl, sym, ap, ap₂, ◌∙◌, subst, arith, append-nil, inl, inr, ◌⊎◌, nat_cmp, Less, Equal, Greater}
use Rattle.std.specs.Prelude.{if◌then◌else◌, cond, ◌==◌, nat_lt, min, Option, Some, None, is_some, IsSome, option_and_then, unwrap_or}
use Rattle.std.specs.List.{AllByRecursion, flat_map}
use Rattle.std.specs.Ordering.{match_ordering}
use Rattle.std.specs.BTreeMap.{insert_entry}
use Rattle.std.proofs.lemmas.Bool.{eqb-true, cases_lt}
use Rattle.std.proofs.lemmas.Grind.{flat_map-append}
use Rattle.guide_model.specs.declared.screen.ScreenEvent.{ScreenEvent}
use Rattle.section_codec.specs.declared.table.Key.{Key}
use Rattle.section_codec.specs.Contents.{Content, numbers_from, part_in}
use Rattle.section_codec.specs.Keys.{eit_numbers_in}
use Rattle.table_bodies.specs.declared.pat.PatEntry.{PatEntry}
use Rattle.table_bodies.specs.declared.sdt.SdtService.{SdtService}
use Rattle.sub_collect.specs.Marks.{Taken, content_over, run_over}
use Rattle.sub_collect.specs.Parts.{part_of, held}
use Rattle.guide_screen.specs.View.{sections, pmt_key, eit_key, table_at}
use Rattle.table_bodies.specs.Pmt.{pmt_in}
use Rattle.guide_screen.specs.Reading.{events_in, value_in}
use Rattle.guide_screen.specs.declared.need.Need.{Need}
use Rattle.guide_screen.specs.Needs.{Want, unless, unmet, unmet_of, want_pmt, want_present, want_schedule, want_table, want_service, schedule_tables, with_service, by_service, last_beside, last_table, tables_to}
use Rattle.guide_screen.specs.Screen.{pid_in, pmt_pid, pmt_of, events_at, schedule_of}
use Rattle.guide_parts.specs.declared.part_screen.Listed.{Listed}
use Rattle.guide_parts.specs.Parts.{Parts}
use Rattle.guide_parts.specs.PartScreen.{described, by_id, in_order, table_held, last_told, schedule_held, pmt_held}
use Rattle.guide_parts.specs.Laws.{HoldsNothing, IsWholeBeside}
use Rattle.guide_parts.proofs.FirstNumbers.{BeginsAtZero, content_begins}

-- The parts are those of these sections and marks.
pub record ArePartsOver (past : List Taken) (P : Parts) : Type 0 where
  pub content : (k : Key) → P.view.content k ≡ content_over past k
  pub part : (k : Key) → P.part k ≡ part_of k past

never : {A : Type 0} → true ≡ false → A
never e = absurd (let z : Prim.⊥ = cc in z)

-- ---- services in order

abbrev entries_of : List SdtService → List (ℕ × Listed)
entries_of ss = map (λ (s : SdtService). (s.service, described s)) ss

put_described : (s : SdtService) (ss : List SdtService) → insert_entry nat_cmp (entries_of ss) s.service (described s) ≡ entries_of (with_service s ss)
put_described s [] = refl
put_described s (t ∷ ts) = go (nat_lt s.service t.service) (s.service == t.service) refl (put_described s ts)
  where
    go : (less same : Bool) → (s.service == t.service) ≡ same → insert_entry nat_cmp (entries_of ts) s.service (described s) ≡ entries_of (with_service s ts)
        → match_ordering (cond less Less (cond same Equal Greater)) ((s.service, described s) ∷ entries_of (t ∷ ts)) ((t.service, described s) ∷ entries_of ts)
        ((t.service, described t) ∷ insert_entry nat_cmp (entries_of ts) s.service (described s))
        ≡ entries_of (if less then s ∷ t ∷ ts else if same then s ∷ ts else t ∷ with_service s ts)
    go true same e rest = refl
    go false true e rest = ap (λ (id : ℕ). (id, described s) ∷ entries_of ts) (sym (eqb-true s.service t.service e))
    go false false e rest = ap (λ (l : List (ℕ × Listed)). (t.service, described t) ∷ l) rest

described_by_id : (ss : List SdtService) → by_id (map described ss) ≡ entries_of (by_service ss)
described_by_id [] = refl
described_by_id (s ∷ ss) = ap (λ (l : List (ℕ × Listed)). insert_entry nat_cmp l s.service (described s)) (described_by_id ss) ∙ put_described s (by_service ss)

values_back : (ss : List SdtService) → map (λ (e : ℕ × Listed). e.1) (entries_of ss) ≡ map described ss
values_back [] = refl
values_back (s ∷ ss) = ap (λ (l : List Listed). described s ∷ l) (values_back ss)

pub described_in_order : (ss : List SdtService) → in_order (map described ss ++ []) ≡ map described (by_service ss)
described_in_order ss =
    ap in_order (append-nil (map described ss)) ∙ ap (map (λ (e : ℕ × Listed). e.1)) (described_by_id ss) ∙ values_back (by_service ss)

-- ---- needs that are met

pub both_none : {X : Type 0} (xs ys : List X) → xs ++ ys ≡ [] → (xs ≡ []) × (ys ≡ [])
both_none [] ys e = (refl, e)
both_none (x ∷ xs) ys e = cc

module _ (content : Key → Option Content) where
  met_by : (need : Need) (b : Bool) → unless need b ≡ [] → b ≡ true
  met_by need true e = refl
  met_by need false e = cc

  pub two_met : (xs ys : List Want) → unmet_of content (xs ++ ys) ≡ [] → (unmet_of content xs ≡ []) × (unmet_of content ys ≡ [])
  two_met xs ys e = both_none (unmet_of content xs) (unmet_of content ys) (sym (flat_map-append (unmet content) xs ys) ∙ e)

  first_met : (w : Want) (ws : List Want) → unmet_of content (w ∷ ws) ≡ [] → IsSome (content w.key) × (unmet_of content ws ≡ [])
  first_met w ws e =
      let both = both_none (unmet content w) (unmet_of content ws) e in
      (met_by w.need (is_some (content w.key)) both.0, both.1)

  -- the PMT of a program was completed
  pub pmt_met : (service pid : ℕ) → (service == 0) ≡ false → (es : List PatEntry) → unmet_of content (flat_map want_pmt es) ≡ [] → pid_in service es ≡ Some pid → IsSome (content (pmt_key pid service))
  pmt_met service pid some [] e found = cc
  pmt_met service pid some (x ∷ es) e found =
      let both = two_met (want_pmt x) (flat_map want_pmt es) e in
      go (x.program == service) refl found both.0 (pmt_met service pid some es both.1)
    where
      here : (program p : ℕ) → program ≡ service → p ≡ pid → unmet_of content (want_pmt (record { program = program; pid = p })) ≡ [] → IsSome (content (pmt_key pid service))
      here program p a b m =
          subst (λ (n : ℕ). IsSome (content (pmt_key pid n))) a
          (subst (λ (n : ℕ). IsSome (content (pmt_key n program))) b
          (first_met (record { need = Rattle.guide_screen.specs.declared.need.Need.TheVariants.Pmt p program; key = pmt_key p program }) []
          (ap (λ (z : Bool). unmet_of content (if z then [] else record { need = Rattle.guide_screen.specs.declared.need.Need.TheVariants.Pmt p program; key = pmt_key p program } ∷ []))
          (sym (ap (λ (n : ℕ). n == 0) a ∙ some)) ∙ m)).0)

      go : (b : Bool) → (x.program == service) ≡ b → (if b then Some x.pid else pid_in service es) ≡ Some pid → unmet_of content (want_pmt x) ≡ []
          → (pid_in service es ≡ Some pid → IsSome (content (pmt_key pid service))) → IsSome (content (pmt_key pid service))
      go true a f m rest =
          let same : x.pid ≡ pid = cc in
          here x.program x.pid (eqb-true x.program service a) same m
      go false a f m rest = rest f

  -- ---- the tables of a service

  pub each_met : (sdt : Key) (ss : List SdtService) → unmet_of content (flat_map (want_service content sdt) ss) ≡ []
      → AllByRecursion (λ (s : SdtService). unmet_of content (want_service content sdt s) ≡ []) ss
  each_met sdt [] e = tt
  each_met sdt (s ∷ ss) e =
      let both = two_met (want_service content sdt s) (flat_map (want_service content sdt) ss) e in
      (both.0, each_met sdt ss both.1)

  pub present_met : (sdt : Key) (s : SdtService) → s.present ≡ true → unmet_of content (want_present sdt s) ≡ [] → IsSome (content (eit_key sdt 0x4E s.service))
  present_met sdt s flag e =
      let w : Want = record { need = Rattle.guide_screen.specs.declared.need.Need.TheVariants.Present s.service; key = eit_key sdt 0x4E s.service } in
      (first_met w [] (ap (λ (b : Bool). unmet_of content (if b then w ∷ [] else [])) (sym flag) ∙ e)).0

  tables_met : (sdt : Key) (id n many : ℕ) → unmet_of content (map (want_table sdt id) (numbers_from n many)) ≡ [] → (t : ℕ) → n ≤ t → t < n + many → IsSome (content (eit_key sdt t id))
  tables_met sdt id n zero e t le lt = absurd (omega arith)
  tables_met sdt id n (suc many) e t le lt =
      let one = first_met (want_table sdt id n) (map (want_table sdt id) (numbers_from (1 + n) many)) e in
      go (cases_lt n t) one.0 (λ (le' : 1 + n ≤ t). tables_met sdt id (1 + n) many one.1 t le' (omega (arith, lt)))
    where
      go : (n < t) ⊎ (t ≤ n) → IsSome (content (eit_key sdt n id)) → (1 + n ≤ t → IsSome (content (eit_key sdt t id))) → IsSome (content (eit_key sdt t id))
      go (inl h) first rest = rest (omega (arith, h))
      go (inr h) first rest = subst (λ (m : ℕ). IsSome (content (eit_key sdt m id))) (let same : n ≡ t = omega (arith, h, le) in same) first

  -- the tables of a schedule that is told to be sent were completed
  pub schedule_met : (sdt : Key) (s : SdtService) → s.schedule ≡ true → unmet_of content (want_schedule content sdt s) ≡ []
      → (t : ℕ) → 0x50 ≤ t → (t ≡ 0x50) ⊎ (t ≤ last_table 0x5F (table_at content sdt s.service 0x50)) → IsSome (content (eit_key sdt t s.service))
  schedule_met sdt s flag e t le within = go within
    where
      id : ℕ
      id = s.service

      last : ℕ
      last = last_table 0x5F (table_at content sdt s.service 0x50)

      all : unmet_of content (map (want_table sdt s.service) (schedule_tables content sdt s.service)) ≡ []
      all = ap (λ (b : Bool). unmet_of content (if b then map (want_table sdt s.service) (schedule_tables content sdt s.service) else [])) (sym flag) ∙ e

      one : IsSome (content (eit_key sdt 0x50 s.service)) × (unmet_of content (map (want_table sdt s.service) (tables_to 0x51 last)) ≡ [])
      one = first_met (want_table sdt s.service 0x50) (map (want_table sdt s.service) (tables_to 0x51 last)) all

      first : t ≡ 0x50 → IsSome (content (eit_key sdt t s.service))
      first same = subst (λ (m : ℕ). IsSome (content (eit_key sdt m s.service))) (sym same) one.0

      further : t ≤ last → (0x50 < t) ⊎ (t ≤ 0x50) → IsSome (content (eit_key sdt t s.service))
      further h (inl up) = tables_met sdt s.service 0x51 (1 + last - 0x51) one.1 t (omega (arith, up)) (omega (arith, up, h))
      further h (inr down) = first (omega (arith, le, down))

      go : (t ≡ 0x50) ⊎ (t ≤ last) → IsSome (content (eit_key sdt t s.service))
      go (inl same) = first same
      go (inr h) = further h (cases_lt 0x50 t)

-- ---- tables, one after the other

same_tables : {X : Type 0} (f g : ℕ → List X) (n many : ℕ) → ((t : ℕ) → n ≤ t → t < n + many → f t ≡ g t) → flat_map f (numbers_from n many) ≡ flat_map g (numbers_from n many)
same_tables f g n zero same = refl
same_tables {X = X} f g n (suc many) same =
    ap₂ (λ (a b : List X). a ++ b) (same n (omega arith) (omega arith))
    (same_tables f g (1 + n) many (λ t le lt. same t (omega (arith, le)) (omega (arith, lt))))

abbrev none_of : ℕ → List ScreenEvent
none_of t = []

no_tables : (n many : ℕ) → flat_map none_of (numbers_from n many) ≡ []
no_tables n zero = refl
no_tables n (suc many) = no_tables (1 + n) many

min_most : (m n : ℕ) → min m n ≤ m
min_most m n = omega arith

most : (o : Option (ℕ × ℕ)) → last_beside 0x5F o ≤ 0x5F
most None = omega arith
most (Some told) = min_most 0x5F told.1

-- the last table, by the first section or by that with number 0
same_last : (c : Content) → BeginsAtZero c → last_told c ≡ last_table 0x5F c
same_last c begins =
    ap last_told begins.cut
    ∙ go begins.first.number begins.zero_is
    ∙ sym (ap (last_table 0x5F) begins.cut)
  where
    go : (n : ℕ) → n ≡ 0 → last_beside 0x5F (eit_numbers_in begins.first.body) ≡ last_beside 0x5F (option_and_then eit_numbers_in (if 0 == n then Some begins.first.body else part_in 0 begins.rest))
    go n e = ap (λ (m : ℕ). last_beside 0x5F (option_and_then eit_numbers_in (if 0 == m then Some begins.first.body else part_in 0 begins.rest))) (sym e)

-- ---- what is held of what was completed

module _ (past : List Taken) (P : Parts) (are : ArePartsOver past P) where
  abbrev content : Key → Option Content
  content = P.view.content

  abbrev IsSame : Key → Type 0
  IsSame k = P.part k ≡ sections (P.view.content k)

  pub whole_same : (k : Key) → IsSome (P.view.content k) → IsSame k
  whole_same k some = are.part k ∙ go (content_over past k) refl (subst (λ (o : Option Content). IsSome o) (are.content k) some) ∙ sym (ap sections (are.content k))
    where
      go : (o : Option Content) → content_over past k ≡ o → IsSome o → unwrap_or (content_over past k) (held (run_over k past)) ≡ sections (content_over past k)
      go None e s = never (sym s)
      go (Some c) e s = ap (λ (o : Option Content). unwrap_or o (held (run_over k past))) e ∙ sym (ap sections e)

  pub nothing_same : (k : Key) → HoldsNothing P k → IsSame k
  nothing_same k none = go (P.view.content k) refl
    where
      go : (o : Option Content) → P.view.content k ≡ o → P.part k ≡ sections (P.view.content k)
      go None e = none e ∙ sym (ap sections e)
      go (Some c) e = whole_same k (ap is_some e)

  module _ (sdt : Key) (s : SdtService) (beside : IsWholeBeside P sdt s) (met : unmet_of P.view.content (want_service P.view.content sdt s) ≡ []) where
    both : (unmet_of P.view.content (want_present sdt s) ≡ []) × (unmet_of P.view.content (want_schedule P.view.content sdt s) ≡ [])
    both = two_met P.view.content (want_present sdt s) (want_schedule P.view.content sdt s) met

    pub present_same : IsSame (eit_key sdt 0x4E s.service)
    present_same = go s.present refl
      where
        go : (b : Bool) → s.present ≡ b → IsSame (eit_key sdt 0x4E s.service)
        go true e = whole_same (eit_key sdt 0x4E s.service) (present_met P.view.content sdt s e both.0)
        go false e = nothing_same (eit_key sdt 0x4E s.service) (beside.present e)

    -- the events of a table
    abbrev shown : ℕ → List ScreenEvent
    shown t = events_in (table_held P.part (Some sdt) t s.service)

    abbrev listened : ℕ → List ScreenEvent
    listened t = events_at P.view.content sdt s.service t

    without_first : P.view.content (eit_key sdt 0x50 s.service) ≡ None → s.schedule ≡ false → schedule_held P.part (Some sdt) s.service ≡ schedule_of P.view.content sdt s.service 0x50 0x5F
    without_first none flag =
        ap (λ (c : Content). flat_map shown (tables_to 0x50 (last_told c))) (beside.first flag none 0x50 (omega arith) (omega arith))
        ∙ same_tables shown none_of 0x50 16 (λ t le lt. ap events_in (beside.first flag none t le (omega (arith, lt))))
        ∙ no_tables 0x50 16
        ∙ sym (ap (λ (o : Option Content). flat_map listened (tables_to 0x50 (last_table 0x5F (sections o)))) none)

    with_first : (c : Content) → P.view.content (eit_key sdt 0x50 s.service) ≡ Some c → schedule_held P.part (Some sdt) s.service ≡ schedule_of P.view.content sdt s.service 0x50 0x5F
    with_first c some =
        ap (λ (x : Content). flat_map shown (tables_to 0x50 (last_told x))) (whole_same (eit_key sdt 0x50 s.service) (ap is_some some) ∙ ap sections some)
        ∙ ap (λ (n : ℕ). flat_map shown (tables_to 0x50 n)) (same_last c (content_begins past (eit_key sdt 0x50 s.service) c (sym (are.content (eit_key sdt 0x50 s.service)) ∙ some)))
        ∙ same_tables shown listened 0x50 (1 + last_table 0x5F c - 0x50) (λ t le lt. ap events_in (table_same t le (omega (arith, le, lt))))
        ∙ sym (ap (λ (o : Option Content). flat_map listened (tables_to 0x50 (last_table 0x5F (sections o)))) some)
      where
        limit : last_table 0x5F c ≤ 0x5F
        limit = most (value_in eit_numbers_in 0 c)

        table_same : (t : ℕ) → 0x50 ≤ t → t ≤ last_table 0x5F c → IsSame (eit_key sdt t s.service)
        table_same t le within = go s.schedule refl
          where
            last_is : last_table 0x5F c ≡ last_table 0x5F (table_at P.view.content sdt s.service 0x50)
            last_is = sym (ap (λ (o : Option Content). last_table 0x5F (sections o)) some)

            go : (b : Bool) → s.schedule ≡ b → IsSame (eit_key sdt t s.service)
            go true e = whole_same (eit_key sdt t s.service) (schedule_met P.view.content sdt s e both.1 t le (inr (subst (λ (n : ℕ). t ≤ n) last_is within)))
            go false e = nothing_same (eit_key sdt t s.service) (beside.schedule e t le (omega (arith, within, limit)))

    pub schedule_same : schedule_held P.part (Some sdt) s.service ≡ schedule_of P.view.content sdt s.service 0x50 0x5F
    schedule_same = go (P.view.content (eit_key sdt 0x50 s.service)) refl
      where
        flag_is : P.view.content (eit_key sdt 0x50 s.service) ≡ None → (b : Bool) → s.schedule ≡ b → s.schedule ≡ false
        flag_is none true e = never (sym (schedule_met P.view.content sdt s e both.1 0x50 (omega arith) (inl refl)) ∙ ap is_some none)
        flag_is none false e = e

        go : (o : Option Content) → P.view.content (eit_key sdt 0x50 s.service) ≡ o → schedule_held P.part (Some sdt) s.service ≡ schedule_of P.view.content sdt s.service 0x50 0x5F
        go None e = without_first e (flag_is e s.schedule refl)
        go (Some c) e = with_first c e

  pub pmt_same : (es : List PatEntry) → unmet_of P.view.content (flat_map want_pmt es) ≡ [] → (service : ℕ) → pmt_held P.part service (pmt_pid es service) ≡ pmt_of P.view.content service (pmt_pid es service)
  pmt_same es met service = go (service == 0) refl
    where
      on : (pid : Option ℕ) → ((p : ℕ) → pid ≡ Some p → IsSome (P.view.content (pmt_key p service))) → pmt_held P.part service pid ≡ pmt_of P.view.content service pid
      on None f = refl
      on (Some p) f = ap (value_in pmt_in 0) (whole_same (pmt_key p service) (f p refl))

      go : (b : Bool) → (service == 0) ≡ b → pmt_held P.part service (if b then None else pid_in service es) ≡ pmt_of P.view.content service (if b then None else pid_in service es)
      go true e = refl
      go false e = on (pid_in service es) (λ p found. pmt_met P.view.content service p e es met found)
