-- Sections of a key in the order in which they are heard: next to each other, those of one version are of one content.
use Rattle.std.proofs.Common.{◌≡◌, ◌≢◌, ℕ, ◌+◌, ◌-◌, ◌%◌, ◌<◌, ◌≤◌, ◌⊎◌, inl, inr, List, [], ◌∷◌, ◌++◌, Bool, true, false, ◌==◌, Option, Some, None, length, map, refl, sym, ap, ◌∙◌, subst, arith, append-nil, eqb-true}
use Rattle.std.specs.Prelude.{if◌then◌else◌, filter_map, option_to_list}
use Rattle.std.specs.List.{AllByRecursion}
use Rattle.si_lists.proofs.Lists.{all_map, all_two}
use Rattle.si_lists.proofs.Parts.{le_either}
use Rattle.si_lists.proofs.Truths.{first_true, second_true}
use Rattle.section_codec.specs.declared.table.Key.{Key}
use Rattle.section_codec.specs.Contents.{Content, is_content}
use Rattle.section_codec.proofs.SameContent.{is_content-same}
use Rattle.version_book.specs.Airings.{AiredTables, content_at, carried, changes, version_at}
use Rattle.version_book.specs.Book.{GivenVersion, kept_after}
use Rattle.version_book.specs.Slots.{next_version}
use Rattle.version_book.proofs.Versions.{carried-push}
use Rattle.version_book.proofs.Airs.{next_version-is, kept_after-push}
use Rattle.ts_packets.specs.Packets.{Carries}
use Rattle.ts_packets.specs.Counting.{of_pid}
use Rattle.ts_demux.proofs.Parts.{within-none, within-all}
use Rattle.sub_collect.specs.Runs.{Counted, all_of_version, is_one_version, run_of, latest_section}
use Rattle.sub_collect.specs.Laws.{HoldAll, IsSectionOf, IsWith}
use Rattle.sub_collect.proofs.Whole.{none_held}
use Rattle.section_codec.specs.Tables.{is_counted}
use Rattle.air_model.specs.Air.{Aired, sent_on, airings_of}
use Rattle.air_model.specs.Repeating.{RepeatingCycles}
use Rattle.air_laws.specs.Counting.{CanBeHeard}
use Rattle.air_laws.proofs.Blocks.{block, block-complete, numbered_of}
use Rattle.air_laws.proofs.Counts.{key_heard, sent_of_key}
use Rattle.air_laws.proofs.CoherenceTold.{Told, section_of, told_each, part_told, told_by, none_told, part_none, part_sound, IsToldOf}

abbrev pub carried_by : Key → Told → Option Content
carried_by k t = content_at k t.cycle.airing

-- behind a section of this version and this content: as long as the version stays, so does the content
abbrev pub Follows : Key → ℕ → Option Content → List Told → Type 0
Follows k v o [] = Unit {0}
Follows k v o (t ∷ ts) = (v ≡ t.section.version → o ≡ carried_by k t) × Follows k t.section.version (carried_by k t) ts

abbrev pub IsSteady : Key → List Told → Type 0
IsSteady k [] = Unit {0}
IsSteady k (t ∷ ts) = Follows k t.section.version (carried_by k t) ts

-- the same behind airings of which this is kept
abbrev Behind : Key → Option GivenVersion → List Told → Type 0
Behind k None ts = IsSteady k ts
Behind k (Some kept) ts = Follows k kept.version (Some kept.content) ts

steady_behind : (k : Key) (v : ℕ) (o : Option Content) (ts : List Told) → Follows k v o ts → IsSteady k ts
steady_behind k v o [] h = tt
steady_behind k v o (t ∷ ts) h = h.1

steady_by : (k : Key) (kept : Option GivenVersion) (ts : List Told) → Behind k kept ts → IsSteady k ts
steady_by k None ts h = h
steady_by k (Some kept) ts h = steady_behind k kept.version (Some kept.content) ts h

behind_none : (k : Key) (kept : Option GivenVersion) → Behind k kept []
behind_none k None = tt
behind_none k (Some kept) = tt

-- ---- the sections of one cycle, and then others

abbrev AreOfVersion : ℕ → List Counted → Type 0
AreOfVersion v ss = AllByRecursion (λ (s : Counted). s.version ≡ v) ss

follows_cycle : (k : Key) (v : ℕ) (before : List Aired) (x : Aired) (ss : List Counted) (rest : List Told) → AreOfVersion v ss
    → Follows k v (content_at k x.airing) rest → Follows k v (content_at k x.airing) (told_each before x ss ++ rest)
follows_cycle k v before x [] rest are h = h
follows_cycle k v before x (s ∷ ss) rest are h = (
  λ e. refl,
  subst (λ (n : ℕ). Follows k n (content_at k x.airing) (told_each before x ss ++ rest)) (sym are.0) (follows_cycle k v before x ss rest are.1 h),
)

steady_cycle : (k : Key) (v : ℕ) (before : List Aired) (x : Aired) (ss : List Counted) (rest : List Told) → AreOfVersion v ss
    → Follows k v (content_at k x.airing) rest → IsSteady k (told_each before x ss ++ rest)
steady_cycle k v before x [] rest are h = steady_behind k v (content_at k x.airing) rest h
steady_cycle k v before x (s ∷ ss) rest are h =
    subst (λ (n : ℕ). Follows k n (content_at k x.airing) (told_each before x ss ++ rest)) (sym are.0) (follows_cycle k v before x ss rest are.1 h)

-- under the version of the content before, the next content is the same
same_content : (kept : GivenVersion) (c : Content) → kept.version ≡ next_version (Some kept) c → kept.content ≡ c
same_content kept c e = go (is_content kept.content c) refl e
  where
    go : (b : Bool) → is_content kept.content c ≡ b → kept.version ≡ (if b then kept.version else (kept.version + 1) % 32) → kept.content ≡ c
    go true f g = is_content-same kept.content c f
    go false f g = absurd (apart kept.version g)
      where
        apart : (v : ℕ) → v ≢ (v + 1) % 32
        apart v e = grind arith

behind_cycle : (k : Key) (kept : Option GivenVersion) (c : Content) (before : List Aired) (x : Aired) (ss : List Counted) (rest : List Told)
    → content_at k x.airing ≡ Some c → AreOfVersion (next_version kept c) ss → Follows k (next_version kept c) (content_at k x.airing) rest
    → (ss ≡ [] → rest ≡ []) → Behind k kept (told_each before x ss ++ rest)
behind_cycle k kept c before x [] rest is are h none = subst (Behind k kept) (sym (none refl)) (behind_none k kept)
behind_cycle k None c before x (s ∷ ss) rest is are h none = steady_cycle k (next_version None c) before x (s ∷ ss) rest are h
behind_cycle k (Some kept) c before x (s ∷ ss) rest is are h none = (
  λ e. ap (λ (d : Content). Some d) (same_content kept c (e ∙ are.0)) ∙ sym is,
  steady_cycle k (next_version (Some kept) c) before x (s ∷ ss) rest are h,
)

-- ---- a cycle that is heard whole

module _ (k : Key) (lt : k.pid < 8191) (counted : is_counted k.pid k.table ≡ true) where
  -- it has a section of each key that it carries
  pub some_heard : (past : List AiredTables) (x : Aired) (xs : List Aired) (h : RepeatingCycles past (x ∷ xs)) → CanBeHeard x.airing → (c : Content) → content_at k x.airing ≡ Some c
      → (low high : ℕ) → low ≡ 0 → length (h.0.carried k.pid lt).groups ≤ high → part_told k lt past x h.0 low high ≡ [] → Prim.⊥
  some_heard past x xs h can c is low high first whole none =
      let own : Carries (of_pid k.pid x.packets) (filter_map (sent_on k.pid) h.0.sections) = h.0.carried k.pid lt in
      let all : part_told k lt past x h.0 low high ≡ block k h.0.sections =
      ap (key_heard k) (within-all low high own.groups first whole own.ended ∙ sym own.sections) ∙ sent_of_key k h.0.sections in
      none_held c (numbered_of past x.airing can k c is).some
      (subst (HoldAll c) (sym all ∙ none) (block-complete past x.airing can k c is counted h.0.sections h.0.are))

  -- what is kept with one airing more
  pub kept-none : (past : List AiredTables) (a : AiredTables) → content_at k a ≡ None → kept_after (carried k (past ++ a ∷ [])) ≡ kept_after (carried k past)
  kept-none past a e =
      ap kept_after (carried-push k past a ∙ ap (λ (o : Option Content). carried k past ++ option_to_list o) e ∙ append-nil (carried k past))

  one_more : (past : List AiredTables) (a : AiredTables) (c : Content) → content_at k a ≡ Some c → carried k (past ++ a ∷ []) ≡ carried k past ++ c ∷ []
  one_more past a c e = carried-push k past a ∙ ap (λ (o : Option Content). carried k past ++ option_to_list o) e

  pub kept-some : (past : List AiredTables) (a : AiredTables) (c : Content) → content_at k a ≡ Some c
      → kept_after (carried k (past ++ a ∷ [])) ≡ Some (record { version = next_version (kept_after (carried k past)) c; content = c })
  kept-some past a c e = ap kept_after (one_more past a c e) ∙ kept_after-push (carried k past) c

  pub version-some : (past : List AiredTables) (a : AiredTables) (c : Content) → content_at k a ≡ Some c → version_at k (past ++ a ∷ []) ≡ next_version (kept_after (carried k past)) c
  version-some past a c e = ap (λ (cs : List Content). changes cs % 32) (one_more past a c e) ∙ next_version-is (carried k past) c

  -- what follows a cycle that carries the key
  next_of : (past : List AiredTables) (x : Aired) (c : Content) → content_at k x.airing ≡ Some c → (rest : List Told)
      → Behind k (kept_after (carried k (past ++ x.airing ∷ []))) rest → Follows k (next_version (kept_after (carried k past)) c) (content_at k x.airing) rest
  next_of past x c is rest next =
      subst (λ (o : Option Content). Follows k (next_version (kept_after (carried k past)) c) o rest) (sym is)
      (subst (λ (o : Option GivenVersion). Behind k o rest) (kept-some past x.airing c is) next)

  versions_of : (past : List AiredTables) (x : Aired) (c : Content) → content_at k x.airing ≡ Some c → (ss : List Counted)
      → AllByRecursion (IsWith k (version_at k (past ++ x.airing ∷ [])) c) ss → AreOfVersion (next_version (kept_after (carried k past)) c) ss
  versions_of past x c is ss all =
      all_map (IsWith k (version_at k (past ++ x.airing ∷ [])) c) (λ (s : Counted). s.version ≡ next_version (kept_after (carried k past)) c)
      (λ s h. h.1 ∙ version-some past x.airing c is) ss all

  -- a part that begins with the first of these cycles
  from_first : (past : List AiredTables) (before xs : List Aired) (h : RepeatingCycles past xs) → AllByRecursion CanBeHeard (airings_of xs) → (low high : ℕ) → low ≡ 0
      → Behind k (kept_after (carried k past)) (told_by k lt past before xs h low high)
  from_first past before [] h can low high first = behind_none k (kept_after (carried k past))
  from_first past before (x ∷ xs) h can low high first =
      go (content_at k x.airing) refl (le_either high n)
      (from_first (past ++ x.airing ∷ []) (before ++ x ∷ []) xs h.1 can.1 (low - n) (high - n) (let none : low - n ≡ 0 = omega (arith, first) in none))
    where
      n : ℕ
      n = length (h.0.carried k.pid lt).groups

      ss : List Counted
      ss = part_told k lt past x h.0 low high

      rest : List Told
      rest = told_by k lt (past ++ x.airing ∷ []) (before ++ x ∷ []) xs h.1 (low - n) (high - n)

      few : (high n low : ℕ) → high ≤ n → high - n ≤ low - n
      few high n low le = omega (arith, le)

      empty : (c : Content) → content_at k x.airing ≡ Some c → (high ≤ n) ⊎ (n ≤ high) → ss ≡ [] → rest ≡ []
      empty c is (inl le) none = none_told k lt (past ++ x.airing ∷ []) (before ++ x ∷ []) xs h.1 (low - n) (high - n) (few high n low le)
      empty c is (inr le) none = absurd (some_heard past x xs h can.0 c is low high first le none)

      go : (o : Option Content) → content_at k x.airing ≡ o → (high ≤ n) ⊎ (n ≤ high) → Behind k (kept_after (carried k (past ++ x.airing ∷ []))) rest
          → Behind k (kept_after (carried k past)) (told_each before x ss ++ rest)
      go None is place next =
          subst (λ (l : List Counted). Behind k (kept_after (carried k past)) (told_each before x l ++ rest)) (sym (part_none k lt past x h.0 can.0 is low high))
          (subst (λ (o : Option GivenVersion). Behind k o rest) (kept-none past x.airing is) next)
      go (Some c) is place next =
          behind_cycle k (kept_after (carried k past)) c before x ss rest is (versions_of past x c is ss (part_sound k lt past x h.0 can.0 c is low high))
          (next_of past x c is rest next) (empty c is place)

  -- any part
  pub steady_told : (past : List AiredTables) (before xs : List Aired) (h : RepeatingCycles past xs) → AllByRecursion CanBeHeard (airings_of xs) → (low high : ℕ)
      → IsSteady k (told_by k lt past before xs h low high)
  steady_told past before [] h can low high = tt
  steady_told past before (x ∷ xs) h can low high =
      go (content_at k x.airing) refl (le_either n low)
      (steady_told (past ++ x.airing ∷ []) (before ++ x ∷ []) xs h.1 can.1 (low - n) (high - n))
    where
      n : ℕ
      n = length (h.0.carried k.pid lt).groups

      ss : List Counted
      ss = part_told k lt past x h.0 low high

      rest : List Told
      rest = told_by k lt (past ++ x.airing ∷ []) (before ++ x ∷ []) xs h.1 (low - n) (high - n)

      go : (o : Option Content) → content_at k x.airing ≡ o → (n ≤ low) ⊎ (low ≤ n) → IsSteady k rest → IsSteady k (told_each before x ss ++ rest)
      go None is place next =
          subst (λ (l : List Counted). IsSteady k (told_each before x l ++ rest)) (sym (part_none k lt past x h.0 can.0 is low high)) next
      go (Some c) is (inl le) next =
          subst (λ (l : List (List ℕ)). IsSteady k (told_each before x (key_heard k l) ++ rest))
          (sym (within-none low high (h.0.carried k.pid lt).groups (inr le))) next
      go (Some c) is (inr le) next =
          steady_cycle k (next_version (kept_after (carried k past)) c) before x ss rest (versions_of past x c is ss (part_sound k lt past x h.0 can.0 c is low high))
          (next_of past x c is rest
          (from_first (past ++ x.airing ∷ []) (before ++ x ∷ []) xs h.1 can.1 (low - n) (high - n) (let none : low - n ≡ 0 = omega (arith, le) in none)))

-- ---- a front of such sections

follows_front : (k : Key) (v : ℕ) (o : Option Content) (ts us : List Told) → Follows k v o (ts ++ us) → Follows k v o ts
follows_front k v o [] us h = tt
follows_front k v o (t ∷ ts) us h = (h.0, follows_front k t.section.version (carried_by k t) ts us h.1)

pub steady_front : (k : Key) (ts us : List Told) → IsSteady k (ts ++ us) → IsSteady k ts
steady_front k [] us h = tt
steady_front k (t ∷ ts) us h = follows_front k t.section.version (carried_by k t) ts us h

-- ---- their run

-- those of one version are of one content
one_content : (k : Key) (v : ℕ) (o : Option Content) (ts : List Told) → Follows k v o ts → all_of_version v (map section_of ts) ≡ true
    → AllByRecursion (λ (t : Told). carried_by k t ≡ o) ts
one_content k v o [] h e = tt
one_content k v o (t ∷ ts) h e =
    let own : t.section.version ≡ v = eqb-true t.section.version v (first_true (t.section.version == v) (all_of_version v (map section_of ts)) e) in
    let same : o ≡ carried_by k t = h.0 (sym own) in
    let rest : all_of_version v (map section_of ts) ≡ true = second_true (t.section.version == v) (all_of_version v (map section_of ts)) e in (
      sym same,
      one_content k v o ts
          (subst (λ (n : ℕ). Follows k n o ts) own (subst (λ (p : Option Content). Follows k t.section.version p ts) (sym same) h.1)) rest,
    )

-- the last of them
abbrev pub latest_told : List Told → Option Told
latest_told [] = None
latest_told (t ∷ []) = Some t
latest_told (t ∷ u ∷ ts) = latest_told (u ∷ ts)

pub latest_of_told : (ts : List Told) (t : Told) → latest_told ts ≡ Some t → latest_section (map section_of ts) ≡ Some t.section
latest_of_told [] t e = cc
latest_of_told (t ∷ []) u e = (let same : t ≡ u = cc in ap (λ (x : Told). Some x.section) same)
latest_of_told (t ∷ u ∷ ts) v e = latest_of_told (u ∷ ts) v e

pub some_latest : (P : Told → Type 0) (t : Told) (ts : List Told) → AllByRecursion P (t ∷ ts)
    → (last : Told) × P last × (latest_told (t ∷ ts) ≡ Some last)
some_latest P t [] all = (t, all.0, refl)
some_latest P t (u ∷ us) all = some_latest P u us all.1

-- The last of steady sections carries the content of which all of their run are.
pub record IsRun (k : Key) (low high : ℕ) (all : List Aired) (ts : List Told) : Type 0 where
  pub last : Told
  pub is : IsToldOf k low high all last
  pub latest : latest_told ts ≡ Some last
  pub run : AllByRecursion (IsSectionOf k is.content) (run_of (map section_of ts))

module _ (k : Key) (low high : ℕ) (all : List Aired) where
  abbrev Is : Told → Type 0
  Is u = IsToldOf k low high all u

  of_content : (c : Content) (us : List Told) → AllByRecursion Is us → AllByRecursion (λ (u : Told). carried_by k u ≡ Some c) us
      → AllByRecursion (IsSectionOf k c) (map section_of us)
  of_content c [] is same = tt
  of_content c (u ∷ us) is same =
      let both : Some is.0.content ≡ Some c = sym is.0.carries ∙ same.0 in
      let one : is.0.content ≡ c = cc in
      (subst (λ (d : Content). IsSectionOf k d u.section) one is.0.is.0, of_content c us is.1 same.1)

  one_version : (t : Told) (ts : List Told) → AllByRecursion Is (t ∷ ts) → IsSteady k (t ∷ ts) → is_one_version (map section_of (t ∷ ts)) ≡ true
      → IsRun k low high all (t ∷ ts)
  one_version t ts each steady e =
      let same : AllByRecursion (λ (u : Told). carried_by k u ≡ carried_by k t) (t ∷ ts) =
      (refl, one_content k t.section.version (carried_by k t) ts steady e) in
      let end = some_latest (λ (u : Told). Is u × (carried_by k u ≡ carried_by k t)) t ts
      (all_two Is (λ (u : Told). carried_by k u ≡ carried_by k t) (λ (u : Told). Is u × (carried_by k u ≡ carried_by k t)) (λ u a b. (a, b)) (t ∷ ts) each same) in
      let c : Content = end.1.0.content in
      let carries : carried_by k t ≡ Some c = sym end.1.1 ∙ end.1.0.carries in
      let all_run : run_of (map section_of (t ∷ ts)) ≡ map section_of (t ∷ ts) =
      ap (λ (b : Bool). if b then map section_of (t ∷ ts) else run_of (map section_of ts)) e in
      record {
        last = end.0;
        is = end.1.0;
        latest = end.2;
        run = subst (AllByRecursion (IsSectionOf k c)) (sym all_run)
            (of_content c (t ∷ ts) each
            (all_map (λ (u : Told). carried_by k u ≡ carried_by k t) (λ (u : Told). carried_by k u ≡ Some c) (λ u f. f ∙ carries) (t ∷ ts) same));
      }

  earlier : (t u : Told) (us : List Told) → AllByRecursion Is (t ∷ u ∷ us) → IsSteady k (t ∷ u ∷ us) → (b : Bool) → is_one_version (map section_of (t ∷ u ∷ us)) ≡ b
      → IsRun k low high all (u ∷ us) → IsRun k low high all (t ∷ u ∷ us)
  earlier t u us each steady true e r = one_version t (u ∷ us) each steady e
  earlier t u us each steady false e r =
      let rest : run_of (map section_of (t ∷ u ∷ us)) ≡ run_of (map section_of (u ∷ us)) =
      ap (λ (b : Bool). if b then map section_of (t ∷ u ∷ us) else run_of (map section_of (u ∷ us))) e in
      record {
        last = r.last;
        is = r.is;
        latest = r.latest;
        run = subst (AllByRecursion (IsSectionOf k r.is.content)) (sym rest) r.run;
      }

  pub run_of_steady : (t : Told) (ts : List Told) → AllByRecursion Is (t ∷ ts) → IsSteady k (t ∷ ts) → IsRun k low high all (t ∷ ts)
  run_of_steady t [] each steady = one_version t [] each steady refl
  run_of_steady t (u ∷ us) each steady =
      earlier t u us each steady (is_one_version (map section_of (t ∷ u ∷ us))) refl (run_of_steady u us each.1 steady.1)
