-- The sections of a key that are heard of a part of an air, each with the airing whose cycle it is of.
use Rattle.std.proofs.Common.{◌≡◌, ℕ, ◌+◌, ◌-◌, ◌<◌, ◌≤◌, ◌⊎◌, inl, inr, List, [], ◌∷◌, ◌++◌, Option, Some, None, length, map, refl, sym, ap, ap₂}
use Rattle.std.proofs.Common.{◌∙◌, subst, arith, append_assoc}
use Rattle.std.specs.Prelude.{filter_map}
use Rattle.std.specs.List.{AllByRecursion}
use Rattle.std.proofs.lemmas.List.{map-append}
use Rattle.si_lists.proofs.Lists.{all_append}
use Rattle.section_codec.specs.declared.table.Key.{Key}
use Rattle.section_codec.specs.Contents.{Content}
use Rattle.version_book.specs.Airings.{AiredTables, content_at, version_at}
use Rattle.ts_packets.specs.Packets.{Carries}
use Rattle.ts_packets.specs.Bytes.{Packet}
use Rattle.ts_packets.specs.Counting.{of_pid}
use Rattle.ts_demux.specs.Laws.{within}
use Rattle.ts_demux.proofs.Parts.{within-none, within-append, some_part}
use Rattle.sub_collect.specs.Runs.{Counted}
use Rattle.sub_collect.specs.Laws.{IsNumbered, IsWith}
use Rattle.air_model.specs.Air.{Aired, sent_on, air, airings_of}
use Rattle.air_model.specs.Repeating.{IsRepeatingCycle, RepeatingCycles}
use Rattle.air_model.proofs.Airs.{air-push, airings_of-push}
use Rattle.air_laws.specs.Counting.{CanBeHeard}
use Rattle.air_laws.proofs.Blocks.{block-sound, block-none, numbered_of}
use Rattle.air_laws.proofs.Joined.{groups_by}
use Rattle.air_laws.proofs.Cycles.{length_groups, count_both}
use Rattle.air_laws.proofs.Counts.{key_heard, key_heard-append, sent_of_key, part_of_key}

-- a section that counts, and the cycle that sent it, behind others
pub record Told : Type 0 where
  pub section : Counted
  pub before : List Aired
  pub cycle : Aired

abbrev pub section_of : Told → Counted
section_of t = t.section

abbrev pub told_of : List Aired → Aired → Counted → Told
told_of before x s = record { section = s; before = before; cycle = x }

abbrev pub told_each : List Aired → Aired → List Counted → List Told
told_each before x ss = map (told_of before x) ss

-- the sections of a key in a part of the packets of its PID, cycle by cycle
abbrev pub part_told : (k : Key) → k.pid < 8191 → (past : List AiredTables) (x : Aired) → IsRepeatingCycle past x → ℕ → ℕ → List Counted
part_told k lt past x h low high = key_heard k (within low high (h.carried k.pid lt).groups)

abbrev pub told_by : (k : Key) → k.pid < 8191 → (past : List AiredTables) (before xs : List Aired) → RepeatingCycles past xs → ℕ → ℕ → List Told
told_by k lt past before [] h low high = []
told_by k lt past before (x ∷ xs) h low high =
    told_each before x (part_told k lt past x h.0 low high)
    ++ told_by k lt (past ++ x.airing ∷ []) (before ++ x ∷ []) xs h.1 (low - length (h.0.carried k.pid lt).groups) (high - length (h.0.carried k.pid lt).groups)

pub sections_each : (before : List Aired) (x : Aired) (ss : List Counted) → map section_of (told_each before x ss) ≡ ss
sections_each before x [] = refl
sections_each before x (s ∷ ss) = ap (λ (l : List Counted). s ∷ l) (sections_each before x ss)

-- they are those heard
pub sections_told : (k : Key) (lt : k.pid < 8191) (past : List AiredTables) (before xs : List Aired) (h : RepeatingCycles past xs) (low high : ℕ)
    → map section_of (told_by k lt past before xs h low high) ≡ key_heard k (within low high (groups_by k.pid lt past xs h))
sections_told k lt past before [] h low high = ap (key_heard k) (sym (within-none low high [] (inr (omega arith))))
sections_told k lt past before (x ∷ xs) h low high =
    let own : Carries (of_pid k.pid x.packets) (filter_map (sent_on k.pid) h.0.sections) = h.0.carried k.pid lt in
    let gs : List (List (List ℕ)) = own.groups in
    let hs : List (List (List ℕ)) = groups_by k.pid lt (past ++ x.airing ∷ []) xs h.1 in
    let there : List (List ℕ) = within (low - length gs) (high - length gs) hs in
    let rest = told_by k lt (past ++ x.airing ∷ []) (before ++ x ∷ []) xs h.1 (low - length gs) (high - length gs) in
    map-append section_of (told_each before x (part_told k lt past x h.0 low high)) rest
    ∙ ap₂ (λ (l m : List Counted). l ++ m) (sections_each before x (part_told k lt past x h.0 low high))
    (sections_told k lt (past ++ x.airing ∷ []) (before ++ x ∷ []) xs h.1 (low - length gs) (high - length gs))
    ∙ sym (key_heard-append k (within low high gs) there)
    ∙ ap (key_heard k) (sym (within-append low high gs hs own.ended))

-- no packet, no section
pub none_told : (k : Key) (lt : k.pid < 8191) (past : List AiredTables) (before xs : List Aired) (h : RepeatingCycles past xs) (low high : ℕ) → high ≤ low
    → told_by k lt past before xs h low high ≡ []
none_told k lt past before [] h low high le = refl
none_told k lt past before (x ∷ xs) h low high le =
    let gs : List (List (List ℕ)) = (h.0.carried k.pid lt).groups in
    ap₂ (λ (l : List (List ℕ)) (m : List Told). told_each before x (key_heard k l) ++ m) (within-none low high gs (inl le))
    (none_told k lt (past ++ x.airing ∷ []) (before ++ x ∷ []) xs h.1 (low - length gs) (high - length gs) (fewer low high (length gs) le))
  where
    fewer : (low high n : ℕ) → high ≤ low → high - n ≤ low - n
    fewer low high n le = omega (arith, le)

-- ---- one cycle

nothing : (ss : List Counted) → AllByRecursion (λ (s : Counted). Prim.⊥) ss → ss ≡ []
nothing [] all = refl
nothing (s ∷ ss) all = absurd all.0

module _ (k : Key) (lt : k.pid < 8191) (past : List AiredTables) (x : Aired) (h : IsRepeatingCycle past x) (can : CanBeHeard x.airing) where
  -- all sections of the key
  abbrev own : Carries (of_pid k.pid x.packets) (filter_map (sent_on k.pid) h.sections)
  own = h.carried k.pid lt

  all_sections : (P : Counted → Type 0) → AllByRecursion P (key_heard k (filter_map (sent_on k.pid) h.sections)) → (low high : ℕ)
      → AllByRecursion P (part_told k lt past x h low high)
  all_sections P all low high =
      part_of_key k P low high own.groups (subst (λ (l : List (List ℕ)). AllByRecursion P (key_heard k l)) own.sections all)

  -- of a key that the airing does not carry nothing is heard
  pub part_none : content_at k x.airing ≡ None → (low high : ℕ) → part_told k lt past x h low high ≡ []
  part_none none low high =
      nothing (part_told k lt past x h low high)
      (all_sections (λ (s : Counted). Prim.⊥)
      (subst (AllByRecursion (λ (s : Counted). Prim.⊥))
      (sym (sent_of_key k h.sections ∙ block-none past x.airing can k none h.sections h.are.each)) tt) low high)

  -- what is heard of one that it carries are sections of its content, under its version
  pub part_sound : (c : Content) → content_at k x.airing ≡ Some c → (low high : ℕ)
      → AllByRecursion (IsWith k (version_at k (past ++ x.airing ∷ [])) c) (part_told k lt past x h low high)
  part_sound c some low high =
      all_sections (IsWith k (version_at k (past ++ x.airing ∷ [])) c)
      (subst (AllByRecursion (IsWith k (version_at k (past ++ x.airing ∷ [])) c)) (sym (sent_of_key k h.sections))
      (block-sound past x.airing can k c some h.sections h.are.each)) low high

-- ---- where a section is of

-- Of an air of all these cycles a section is heard in a part of the packets of its PID.
pub record IsToldOf (k : Key) (low high : ℕ) (all : List Aired) (t : Told) : Type 0 where
  pub after : List Aired
  pub cut : all ≡ t.before ++ t.cycle ∷ after
  pub content : Content
  pub carries : content_at k t.cycle.airing ≡ Some content
  pub is : IsWith k (version_at k (airings_of t.before ++ t.cycle.airing ∷ [])) content t.section
  pub numbered : IsNumbered k content
  pub reaches : low < length (of_pid k.pid (air t.before)) + length (of_pid k.pid t.cycle.packets)
  pub begins : length (of_pid k.pid (air t.before)) < high
  pub some : 0 < length (of_pid k.pid t.cycle.packets)
  pub order : low < high

abbrev before_on : Key → List Aired → ℕ
before_on k before = length (of_pid k.pid (air before))

before-push : (k : Key) (before : List Aired) (x : Aired) → before_on k (before ++ x ∷ []) ≡ before_on k before + length (of_pid k.pid x.packets)
before-push k before x = ap (λ (l : List Packet). length (of_pid k.pid l)) (air-push before x) ∙ count_both k.pid (air before) x.packets

reached : (low n part size : ℕ) → part ≡ low - n → part < size → low < n + size
reached low n part size e lt = omega (arith, e, lt)

begun : (low high n part end : ℕ) → part ≡ low - n → end ≡ high - n → part < end → (n < high) × (low < high)
begun low high n part end e f lt = (omega (arith, e, f, lt), omega (arith, e, f, lt))

further : (low n part size m : ℕ) → part ≡ low - n → m ≡ n + size → part - size ≡ low - m
further low n part size m e f = omega (arith, e, f)

module _ (k : Key) (lt : k.pid < 8191) (low high : ℕ) (all : List Aired) where
  each_part : (past : List AiredTables) (before : List Aired) (x : Aired) (after : List Aired) (h : IsRepeatingCycle past x) → CanBeHeard x.airing
      → airings_of before ≡ past → all ≡ before ++ x ∷ after → (part end : ℕ) → part ≡ low - before_on k before → end ≡ high - before_on k before
      → AllByRecursion (IsToldOf k low high all) (told_each before x (part_told k lt past x h part end))
  each_part past before x after h can are cut part end e f = go (content_at k x.airing) refl (some_part part end own.groups)
    where
      own : Carries (of_pid k.pid x.packets) (filter_map (sent_on k.pid) h.sections)
      own = h.carried k.pid lt

      size : length own.groups ≡ length (of_pid k.pid x.packets)
      size = length_groups (of_pid k.pid x.packets) (filter_map (sent_on k.pid) h.sections) own

      one : (c : Content) → content_at k x.airing ≡ Some c → part < length (of_pid k.pid x.packets) → part < end → (ss : List Counted)
          → AllByRecursion (IsWith k (version_at k (past ++ x.airing ∷ [])) c) ss → AllByRecursion (IsToldOf k low high all) (told_each before x ss)
      one c g lt less [] ok = tt
      one c g lt less (s ∷ ss) ok =
          let told : IsToldOf k low high all (told_of before x s) = record {
            after = after;
            cut = cut;
            content = c;
            carries = g;
            is = subst (λ (l : List AiredTables). IsWith k (version_at k (l ++ x.airing ∷ [])) c s) (sym are) ok.0;
            numbered = numbered_of past x.airing can k c g;
            reaches = reached low (before_on k before) part (length (of_pid k.pid x.packets)) e lt;
            begins = (begun low high (before_on k before) part end e f less).0;
            some = (let any : 0 < length (of_pid k.pid x.packets) = omega (arith, lt) in any);
            order = (begun low high (before_on k before) part end e f less).1;
          } in
          (told, one c g lt less ss ok.1)

      go : (o : Option Content) → content_at k x.airing ≡ o → (within part end own.groups ≡ []) ⊎ ((part < length own.groups) × (part < end))
          → AllByRecursion (IsToldOf k low high all) (told_each before x (part_told k lt past x h part end))
      go None g some =
          subst (λ (ss : List Counted). AllByRecursion (IsToldOf k low high all) (told_each before x ss)) (sym (part_none k lt past x h can g part end)) tt
      go (Some c) g (inl none) =
          subst (λ (l : List (List ℕ)). AllByRecursion (IsToldOf k low high all) (told_each before x (key_heard k l))) (sym none) tt
      go (Some c) g (inr some) =
          one c g (subst (λ (n : ℕ). part < n) size some.0) some.1 (part_told k lt past x h part end) (part_sound k lt past x h can c g part end)

  pub each_told : (past : List AiredTables) (before xs : List Aired) (h : RepeatingCycles past xs) → AllByRecursion CanBeHeard (airings_of xs)
      → airings_of before ≡ past → all ≡ before ++ xs → (part end : ℕ) → part ≡ low - before_on k before → end ≡ high - before_on k before
      → AllByRecursion (IsToldOf k low high all) (told_by k lt past before xs h part end)
  each_told past before [] h can are cut part end e f = tt
  each_told past before (x ∷ xs) h can are cut part end e f =
      let own : Carries (of_pid k.pid x.packets) (filter_map (sent_on k.pid) h.0.sections) = h.0.carried k.pid lt in
      let n : ℕ = length own.groups in
      let size : n ≡ length (of_pid k.pid x.packets) = length_groups (of_pid k.pid x.packets) (filter_map (sent_on k.pid) h.0.sections) own in
      let more : before_on k (before ++ x ∷ []) ≡ before_on k before + n =
      before-push k before x ∙ ap (λ (m : ℕ). before_on k before + m) (sym size) in
      all_append (IsToldOf k low high all) (told_each before x (part_told k lt past x h.0 part end))
      (told_by k lt (past ++ x.airing ∷ []) (before ++ x ∷ []) xs h.1 (part - n) (end - n))
      (each_part past before x xs h.0 can.0 are cut part end e f)
      (each_told (past ++ x.airing ∷ []) (before ++ x ∷ []) xs h.1 can.1
      (airings_of-push before x ∙ ap (λ (l : List AiredTables). l ++ x.airing ∷ []) are)
      (cut ∙ sym (append_assoc before (x ∷ []) xs)) (part - n) (end - n)
      (further low (before_on k before) part n (before_on k (before ++ x ∷ [])) e more)
      (further high (before_on k before) end n (before_on k (before ++ x ∷ [])) f more))
