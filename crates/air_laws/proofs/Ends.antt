-- What is heard of a key at the end, where it stays on air.
use Rattle.std.proofs.Common.{◌≡◌, ◌≢◌, ℕ, ◌+◌, ◌-◌, ◌%◌, ◌<◌, ◌≤◌, ◌⊎◌, inl, inr, List, [], ◌∷◌, ◌++◌, Bool, true, false, Option, Some, None, length, map, refl, sym, ap, ◌∙◌, subst, arith, append_assoc, append-nil, eqb-true}
use Rattle.std.specs.Prelude.{if◌then◌else◌, filter, filter_map, IsSome, is_some, ◌==◌}
use Rattle.std.specs.List.{AllByRecursion}
use Rattle.std.proofs.lemmas.List.{map-append}
use Rattle.std.proofs.lemmas.List.Elements.{filter-append}
use Rattle.si_lists.proofs.Lists.{all_append, all_map}
use Rattle.si_lists.proofs.Parts.{lt_or}
use Rattle.section_codec.specs.declared.table.Key.{Key}
use Rattle.section_codec.specs.declared.table.NumberedBody.{NumberedBody}
use Rattle.section_codec.specs.Contents.{Content}
use Rattle.section_codec.proofs.SameContent.{is_content-itself}
use Rattle.version_book.specs.Airings.{AiredTables, content_at, carried, version_at}
use Rattle.version_book.specs.Book.{GivenVersion, kept_after}
use Rattle.version_book.specs.Slots.{next_version}
use Rattle.ts_packets.specs.Packets.{Carries}
use Rattle.ts_packets.specs.Counting.{of_pid}
use Rattle.ts_demux.proofs.Parts.{within-all, within-none}
use Rattle.sub_collect.specs.Runs.{Counted, run_of, latest_section, has_number, latest_with, completed}
use Rattle.sub_collect.specs.Laws.{HoldAll, IsSectionOf, IsWith, IsNumbered}
use Rattle.sub_collect.proofs.Runs.{version-joins, run_of-new, latest-push, no-latest}
use Rattle.sub_collect.proofs.Whole.{none_held, run_behind}
use Rattle.sub_collect.proofs.OneContent.{completes}
use Rattle.section_codec.specs.Tables.{is_counted}
use Rattle.air_model.specs.Air.{Aired, sent_on, air, airings_of}
use Rattle.air_model.specs.Repeating.{RepeatingCycles}
use Rattle.air_laws.specs.Counting.{CanBeHeard}
use Rattle.air_laws.proofs.Blocks.{block, block-complete}
use Rattle.air_laws.proofs.Cycles.{length_groups, count_both}
use Rattle.air_laws.proofs.Counts.{key_heard, sent_of_key}
use Rattle.air_laws.proofs.CoherenceTold.{Told, section_of, told_each, part_told, told_by, sections_each, none_told, part_sound, IsToldOf}
use Rattle.air_laws.proofs.Steady.{carried_by, IsSteady, latest_told, IsRun, run_of_steady, some_latest, kept-none, kept-some, version-some, some_heard}

-- ---- more sections hold what some hold

more_hold : (n : ℕ) (xs ys : List Counted) → IsSome (latest_with n xs) → IsSome (latest_with n (xs ++ ys))
more_hold n xs ys h =
    subst (λ (l : List Counted). IsSome (latest_section l)) (sym (filter-append (has_number n) xs ys)) (more (filter (has_number n) xs) (filter (has_number n) ys) h)
  where
    first : (x : Counted) (xs : List Counted) → is_some (latest_section (x ∷ xs)) ≡ true
    first x [] = refl
    first x (y ∷ xs) = first y xs

    more : (xs ys : List Counted) → IsSome (latest_section xs) → IsSome (latest_section (xs ++ ys))
    more [] ys h = (let no : false ≡ true = h in cc)
    more (x ∷ xs) ys h = first x (xs ++ ys)

behind_hold : (n : ℕ) (xs ys : List Counted) → IsSome (latest_with n ys) → IsSome (latest_with n (xs ++ ys))
behind_hold n xs ys h =
    subst (λ (l : List Counted). IsSome (latest_section l)) (sym (filter-append (has_number n) xs ys)) (more (filter (has_number n) xs) (filter (has_number n) ys) h)
  where
    first : (x : Counted) (xs : List Counted) → is_some (latest_section (x ∷ xs)) ≡ true
    first x [] = refl
    first x (y ∷ xs) = first y xs

    more : (xs ys : List Counted) → IsSome (latest_section ys) → IsSome (latest_section (xs ++ ys))
    more [] ys h = h
    more (x ∷ xs) [] h = (let no : false ≡ true = h in cc)
    more (x ∷ xs) (y ∷ ys) h = first x (xs ++ y ∷ ys)

hold_more : (c : Content) (xs ys : List Counted) → HoldAll c xs → HoldAll c (xs ++ ys)
hold_more c xs ys h = all_map (λ (p : NumberedBody). IsSome (latest_with p.number xs)) (λ (p : NumberedBody). IsSome (latest_with p.number (xs ++ ys))) (λ p s. more_hold p.number xs ys s) c h

hold_behind : (c : Content) (xs ys : List Counted) → HoldAll c ys → HoldAll c (xs ++ ys)
hold_behind c xs ys h = all_map (λ (p : NumberedBody). IsSome (latest_with p.number ys)) (λ (p : NumberedBody). IsSome (latest_with p.number (xs ++ ys))) (λ p s. behind_hold p.number xs ys s) c h

-- ---- sections of one version at the end are in the run

run_with : (xs : List Counted) (y : Counted) → (front : List Counted) × (run_of (xs ++ y ∷ []) ≡ front ++ y ∷ [])
run_with xs y = go (latest_section xs) refl
  where
    at_version : (s : Counted) → latest_section xs ≡ Some s → (b : Bool) → (s.version == y.version) ≡ b → (front : List Counted) × (run_of (xs ++ y ∷ []) ≡ front ++ y ∷ [])
    at_version s e true f = (run_of xs, version-joins xs s y e (eqb-true s.version y.version f))
    at_version s e false f = ([], run_of-new xs s y e (differ s.version y.version f))
      where
        differ : (a b : ℕ) → (a == b) ≡ false → a ≢ b
        differ a b f same = grind (arith, f, same)

    go : (o : Option Counted) → latest_section xs ≡ o → (front : List Counted) × (run_of (xs ++ y ∷ []) ≡ front ++ y ∷ [])
    go None e = ([], ap (λ (l : List Counted). run_of (l ++ y ∷ [])) (no-latest xs e))
    go (Some s) e = at_version s e (s.version == y.version) refl

pub run_at_end : (xs : List Counted) (y : Counted) (ys : List Counted) → AllByRecursion (λ (s : Counted). s.version ≡ y.version) ys
    → (front : List Counted) × (run_of (xs ++ y ∷ ys) ≡ front ++ y ∷ ys)
run_at_end xs y ys same =
    let r = run_with xs y in (
      r.0,
      ap run_of (sym (append_assoc xs (y ∷ []) ys)) ∙ run_behind (xs ++ y ∷ []) ys y (latest-push xs y) same
          ∙ ap (λ (l : List Counted). l ++ ys) r.1 ∙ append_assoc r.0 (y ∷ []) ys,
    )

-- ---- the last of them

latest_behind : (front : List Told) (t : Told) (ts : List Told) → latest_told (front ++ t ∷ ts) ≡ latest_told (t ∷ ts)
latest_behind [] t ts = refl
latest_behind (u ∷ []) t ts = refl
latest_behind (u ∷ v ∷ front) t ts = latest_behind (v ∷ front) t ts

latest_is : (P : Told → Type 0) (t : Told) (ts : List Told) (last : Told) → AllByRecursion P (t ∷ ts) → latest_told (t ∷ ts) ≡ Some last → P last
latest_is P t [] last all e = (let same : t ≡ last = cc in subst P same all.0)
latest_is P t (u ∷ us) last all e = latest_is P u us last all.1 e

-- ---- sections that end with a whole content

abbrev IsLate : Key → Content → ℕ → Told → Type 0
IsLate k c v t = (carried_by k t ≡ Some c) × (t.section.version ≡ v)

pub record EndsWhole (k : Key) (c : Content) (v : ℕ) (ts : List Told) : Type 0 where
  pub front : List Told
  pub last : List Told
  pub are : ts ≡ front ++ last
  pub holds : HoldAll c (map section_of last)
  pub same : AllByRecursion (IsLate k c v) last

-- so do these behind others
with_front : (k : Key) (c : Content) (v : ℕ) (others ts : List Told) → EndsWhole k c v ts → EndsWhole k c v (others ++ ts)
with_front k c v others ts ends = record {
  front = others ++ ends.front;
  last = ends.last;
  are = ap (λ (l : List Told). others ++ l) ends.are ∙ sym (append_assoc others ends.front ends.last);
  holds = ends.holds;
  same = ends.same;
}

some_run : (k : Key) (low high : ℕ) (all : List Aired) (ts : List Told) → AllByRecursion (IsToldOf k low high all) ts → IsSteady k ts → (last : Told) → latest_told ts ≡ Some last
    → IsRun k low high all ts
some_run k low high all [] each steady last e = cc
some_run k low high all (t ∷ ts) each steady last e = run_of_steady k low high all t ts each steady

versions_late : (k : Key) (c : Content) (v w : ℕ) (ts : List Told) → w ≡ v → AllByRecursion (IsLate k c v) ts → AllByRecursion (λ (s : Counted). s.version ≡ w) (map section_of ts)
versions_late k c v w [] e same = tt
versions_late k c v w (t ∷ ts) e same = (same.0.1 ∙ sym e, versions_late k c v w ts e same.1)

-- they complete it
completed_late : (k : Key) (low high : ℕ) (all : List Aired) (c : Content) (v : ℕ) (front : List Told) (t : Told) (ts : List Told) → IsNumbered k c
    → AllByRecursion (IsToldOf k low high all) (front ++ t ∷ ts) → IsSteady k (front ++ t ∷ ts) → HoldAll c (map section_of (t ∷ ts)) → AllByRecursion (IsLate k c v) (t ∷ ts)
    → completed (map section_of (front ++ t ∷ ts)) ≡ Some c
completed_late k low high all c v front t ts numbered each steady holds same =
    let late = some_latest (IsLate k c v) t ts same in
    let latest : latest_told (front ++ t ∷ ts) ≡ Some late.0 = latest_behind front t ts ∙ late.2 in
    let r = some_run k low high all (front ++ t ∷ ts) each steady late.0 latest in
    let one : Some r.last ≡ Some late.0 = sym r.latest ∙ latest in
    let last : r.last ≡ late.0 = cc in
    let both : Some r.is.content ≡ Some c = sym r.is.carries ∙ ap (carried_by k) last ∙ late.1.0 in
    let content : r.is.content ≡ c = cc in
    let heard : List Counted = map section_of (front ++ t ∷ ts) in
    let parts : heard ≡ map section_of front ++ t.section ∷ map section_of ts = map-append section_of front (t ∷ ts) in
    let end = run_at_end (map section_of front) t.section (map section_of ts) (versions_late k c v t.section.version ts same.0.1 same.1) in
    completes k c numbered heard (subst (λ (d : Content). AllByRecursion (IsSectionOf k d) (run_of heard)) content r.run)
    (subst (HoldAll c) (sym (ap run_of parts ∙ end.1)) (hold_behind c end.0 (t.section ∷ map section_of ts) holds))

pub ends_completed : (k : Key) (low high : ℕ) (all : List Aired) (c : Content) (v : ℕ) (ts : List Told) → IsNumbered k c → AllByRecursion (IsToldOf k low high all) ts
    → IsSteady k ts → EndsWhole k c v ts → completed (map section_of ts) ≡ Some c
ends_completed k low high all c v ts numbered each steady ends = go ends.last ends.are ends.holds ends.same
  where
    go : (last : List Told) → ts ≡ ends.front ++ last → HoldAll c (map section_of last) → AllByRecursion (IsLate k c v) last → completed (map section_of ts) ≡ Some c
    go [] are holds same = absurd (none_held c numbered.some holds)
    go (t ∷ us) are holds same =
        subst (λ (l : List Told). completed (map section_of l) ≡ Some c) (sym are)
        (completed_late k low high all c v ends.front t us numbered (subst (AllByRecursion (IsToldOf k low high all)) are each) (subst (IsSteady k) are steady) holds same)

-- ---- a cycle that is heard whole, and those behind it

module _ (k : Key) (lt : k.pid < 8191) (counted : is_counted k.pid k.table ≡ true) (c : Content) where
  -- the sections of a cycle that is reached carry it
  abbrev pub CarryWhileHeard : ℕ → List Aired → Type 0
  CarryWhileHeard high xs =
      (one two : List Aired) (y : Aired) → xs ≡ one ++ y ∷ two → 0 < length (of_pid k.pid y.packets) → length (of_pid k.pid (air one)) < high → content_at k y.airing ≡ Some c

  carry_on : (high : ℕ) (x : Aired) (xs : List Aired) (n : ℕ) → n ≡ length (of_pid k.pid x.packets) → CarryWhileHeard high (x ∷ xs) → CarryWhileHeard (high - n) xs
  carry_on high x xs n size carry one two y e some before_high =
      let both = count_both k.pid x.packets (air one) in
      carry (x ∷ one) two y (ap (λ (l : List Aired). x ∷ l) e) some (let near : length (of_pid k.pid (air (x ∷ one))) < high = omega (arith, both, size, before_high) in near)

  late_each : (v : ℕ) (before : List Aired) (x : Aired) (ss : List Counted) → content_at k x.airing ≡ Some c → AllByRecursion (λ (s : Counted). s.version ≡ v) ss
      → AllByRecursion (IsLate k c v) (told_each before x ss)
  late_each v before x [] is all = tt
  late_each v before x (s ∷ ss) is all = ((is, all.0), late_each v before x ss is all.1)

  -- the version that the content keeps
  same_version : (past : List AiredTables) (a : AiredTables) (v : ℕ) → kept_after (carried k past) ≡ Some (record { version = v; content = c }) → content_at k a ≡ Some c
      → version_at k (past ++ a ∷ []) ≡ v
  same_version past a v kept is =
      version-some k lt counted past a c is ∙ ap (λ (o : Option GivenVersion). next_version o c) kept
      ∙ ap (λ (b : Bool). if b then v else (v + 1) % 32) (is_content-itself c)

  still_kept : (past : List AiredTables) (a : AiredTables) (v : ℕ) → kept_after (carried k past) ≡ Some (record { version = v; content = c }) → content_at k a ≡ Some c
      → kept_after (carried k (past ++ a ∷ [])) ≡ Some (record { version = v; content = c })
  still_kept past a v kept is =
      kept-some k lt counted past a c is
      ∙ ap (λ (n : ℕ). let g : GivenVersion = record { version = n; content = c } in Some g)
      (ap (λ (o : Option GivenVersion). next_version o c) kept ∙ ap (λ (b : Bool). if b then v else (v + 1) % 32) (is_content-itself c))

  -- what is heard of later cycles
  late_told : (v : ℕ) (past : List AiredTables) (before xs : List Aired) (h : RepeatingCycles past xs) → AllByRecursion CanBeHeard (airings_of xs) → (low high : ℕ) → low ≡ 0
      → kept_after (carried k past) ≡ Some (record { version = v; content = c }) → CarryWhileHeard high xs → AllByRecursion (IsLate k c v) (told_by k lt past before xs h low high)
  late_told v past before [] h can low high first kept carry = tt
  late_told v past before (x ∷ xs) h can low high first kept carry = go (lt_or 0 high) (lt_or 0 n)
      (λ is. late_told v (past ++ x.airing ∷ []) (before ++ x ∷ []) xs h.1 can.1 (low - n) (high - n) (let none : low - n ≡ 0 = omega (arith, first) in none)
      (still_kept past x.airing v kept is) (carry_on high x xs n size carry))
      (λ none. late_told v (past ++ x.airing ∷ []) (before ++ x ∷ []) xs h.1 can.1 (low - n) (high - n) (let z : low - n ≡ 0 = omega (arith, first) in z)
      (kept-none k lt counted past x.airing none ∙ kept) (carry_on high x xs n size carry))
    where
      own : Carries (of_pid k.pid x.packets) (filter_map (sent_on k.pid) h.0.sections)
      own = h.0.carried k.pid lt

      n : ℕ
      n = length own.groups

      size : n ≡ length (of_pid k.pid x.packets)
      size = length_groups (of_pid k.pid x.packets) (filter_map (sent_on k.pid) h.0.sections) own

      rest : List Told
      rest = told_by k lt (past ++ x.airing ∷ []) (before ++ x ∷ []) xs h.1 (low - n) (high - n)

      -- of a cycle without packets of the PID nothing is heard
      silent : n ≤ 0 → part_told k lt past x h.0 low high ≡ []
      silent few = ap (key_heard k) (within-none low high own.groups (inr (let le : n ≤ low = omega (arith, few) in le)))

      none_carried : n ≤ 0 → (o : Option Content) → content_at k x.airing ≡ o → content_at k x.airing ≡ None
      none_carried few None e = e
      none_carried few (Some d) e = absurd (some_heard k lt counted past x xs h can.0 d e low high first (let le : n ≤ high = omega (arith, few) in le) (silent few))

      go : (0 < high) ⊎ (high ≤ 0) → (0 < n) ⊎ (n ≤ 0) → (content_at k x.airing ≡ Some c → AllByRecursion (IsLate k c v) rest)
          → (content_at k x.airing ≡ None → AllByRecursion (IsLate k c v) rest)
          → AllByRecursion (IsLate k c v) (told_each before x (part_told k lt past x h.0 low high) ++ rest)
      go (inr none) has more less =
          subst (AllByRecursion (IsLate k c v)) (sym (none_told k lt past before (x ∷ xs) h low high (let le : high ≤ low = omega (arith, none) in le))) tt
      go (inl some) (inr few) more less =
          subst (λ (l : List Counted). AllByRecursion (IsLate k c v) (told_each before x l ++ rest)) (sym (silent few)) (less (none_carried few (content_at k x.airing) refl))
      go (inl some) (inl has) more less =
          let is : content_at k x.airing ≡ Some c = carry [] xs x refl (let any : 0 < length (of_pid k.pid x.packets) = omega (arith, has, size) in any) some in
          let version = same_version past x.airing v kept is in
          all_append (IsLate k c v) (told_each before x (part_told k lt past x h.0 low high)) rest
          (late_each v before x (part_told k lt past x h.0 low high) is
          (all_map (IsWith k (version_at k (past ++ x.airing ∷ [])) c) (λ (s : Counted). s.version ≡ v) (λ s w. w.1 ∙ version)
          (part_told k lt past x h.0 low high) (part_sound k lt past x h.0 can.0 c is low high)))
          (more is)

  -- what is heard of a cycle that is heard whole, behind others and before others
  pub ends_whole : (past : List AiredTables) (done before : List Aired) (x : Aired) (after : List Aired) (h : RepeatingCycles past (before ++ x ∷ after))
      → AllByRecursion CanBeHeard (airings_of (before ++ x ∷ after)) → content_at k x.airing ≡ Some c → (low high : ℕ) → low ≤ length (of_pid k.pid (air before))
      → length (of_pid k.pid (air before)) + length (of_pid k.pid x.packets) ≤ high
      → CarryWhileHeard (high - (length (of_pid k.pid (air before)) + length (of_pid k.pid x.packets))) after
      → EndsWhole k c (version_at k ((past ++ airings_of before) ++ x.airing ∷ [])) (told_by k lt past done (before ++ x ∷ after) h low high)
  ends_whole past done [] x after h can is low high under over carry =
      let own : Carries (of_pid k.pid x.packets) (filter_map (sent_on k.pid) h.0.sections) = h.0.carried k.pid lt in
      let n : ℕ = length own.groups in
      let size : n ≡ length (of_pid k.pid x.packets) = length_groups (of_pid k.pid x.packets) (filter_map (sent_on k.pid) h.0.sections) own in
      let v : ℕ = version_at k (past ++ x.airing ∷ []) in
      let first : low ≡ 0 = omega (arith, under) in
      let enough : n ≤ high = omega (arith, size, over) in
      let rest : List Told = told_by k lt (past ++ x.airing ∷ []) (done ++ x ∷ []) after h.1 (low - n) (high - n) in
      let here : List Counted = part_told k lt past x h.0 low high in
      let all : here ≡ block k h.0.sections =
      ap (key_heard k) (within-all low high own.groups first enough own.ended ∙ sym own.sections) ∙ sent_of_key k h.0.sections in
      let kept : kept_after (carried k (past ++ x.airing ∷ [])) ≡ Some (record { version = v; content = c }) =
      kept-some k lt counted past x.airing c is ∙ ap (λ (m : ℕ). let g : GivenVersion = record { version = m; content = c } in Some g) (sym (version-some k lt counted past x.airing c is)) in
      let left : high - n ≡ high - (length (of_pid k.pid (air [])) + length (of_pid k.pid x.packets)) = omega (arith, size) in
      let later = late_told v (past ++ x.airing ∷ []) (done ++ x ∷ []) after h.1 can.1 (low - n) (high - n) (let none : low - n ≡ 0 = omega (arith, first) in none) kept
      (subst (λ (m : ℕ). CarryWhileHeard m after) (sym left) carry) in
      let own_late = late_each v done x here is
      (all_map (IsWith k v c) (λ (s : Counted). s.version ≡ v) (λ s w. w.1) here (part_sound k lt past x h.0 can.0 c is low high)) in
      let sections : map section_of (told_each done x here ++ rest) ≡ here ++ map section_of rest =
      map-append section_of (told_each done x here) rest ∙ ap (λ (l : List Counted). l ++ map section_of rest) (sections_each done x here) in
      let holds : HoldAll c (here ++ map section_of rest) =
      hold_more c here (map section_of rest) (subst (HoldAll c) (sym all) (block-complete past x.airing can.0 k c is counted h.0.sections h.0.are)) in
      subst (λ (l : List AiredTables). EndsWhole k c (version_at k (l ++ x.airing ∷ [])) (told_each done x here ++ rest)) (sym (append-nil past))
      (record {
        front = [];
        last = told_each done x here ++ rest;
        are = refl;
        holds = subst (HoldAll c) (sym sections) holds;
        same = all_append (IsLate k c v) (told_each done x here) rest own_late later;
      })
  ends_whole past done (y ∷ before) x after h can is low high under over carry =
      let own : Carries (of_pid k.pid y.packets) (filter_map (sent_on k.pid) h.0.sections) = h.0.carried k.pid lt in
      let n : ℕ = length own.groups in
      let size : n ≡ length (of_pid k.pid y.packets) = length_groups (of_pid k.pid y.packets) (filter_map (sent_on k.pid) h.0.sections) own in
      let both : length (of_pid k.pid (air (y ∷ before))) ≡ length (of_pid k.pid y.packets) + length (of_pid k.pid (air before)) = count_both k.pid y.packets (air before) in
      let a : ℕ = length (of_pid k.pid (air before)) in
      let b : ℕ = length (of_pid k.pid x.packets) in
      let left : (high - n) - (a + b) ≡ high - (length (of_pid k.pid (air (y ∷ before))) + b) = omega (arith, size, both) in
      let r = ends_whole (past ++ y.airing ∷ []) (done ++ y ∷ []) before x after h.1 can.1 is (low - n) (high - n)
      (let le : low - n ≤ a = omega (arith, size, both, under) in le) (let le : a + b ≤ high - n = omega (arith, size, both, over) in le)
      (subst (λ (m : ℕ). CarryWhileHeard m after) (sym left) carry) in
      subst (λ (l : List AiredTables). EndsWhole k c (version_at k (l ++ x.airing ∷ [])) (told_by k lt past done (y ∷ (before ++ x ∷ after)) h low high))
      (append_assoc past (y.airing ∷ []) (airings_of before))
      (with_front k c (version_at k (((past ++ y.airing ∷ []) ++ airings_of before) ++ x.airing ∷ [])) (told_each done y (part_told k lt past y h.0 low high))
      (told_by k lt (past ++ y.airing ∷ []) (done ++ y ∷ []) (before ++ x ∷ after) h.1 (low - n) (high - n)) r)
