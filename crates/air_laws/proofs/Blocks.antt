-- What the sections of one airing count for.
use Rattle.std.proofs.Common.{◌≡◌, ℕ, ◌<◌, ◌≤◌, List, [], ◌∷◌, ◌++◌, Bool, true, false, ◌&&◌, inl, inr, Option, Some, None, length, refl, sym, ap, ap₂, ◌∙◌, subst, arith, lit<, map, eq-eqb}
use Rattle.std.specs.Prelude.{if◌then◌else◌, cond, filter, option_map, is_some, IsSome}
use Rattle.std.specs.List.{AllByRecursion, Contains, cons_option}
use Rattle.std.proofs.lemmas.List.{map-append}
use Rattle.std.proofs.lemmas.List.Elements.{filter-append, All-contains, recursion_from_All}
use Rattle.si_lists.proofs.Lists.{all_map}
use Rattle.guide_model.specs.declared.offset.Offset.{Offset}
use Rattle.time_tables.proofs.Sections.{five_bytes}
use Rattle.time_tables.specs.Tot.{AreSent}
use Rattle.time_tables.proofs.Loops.{tot-is_a_section}
use Rattle.section_codec.specs.declared.table.Key.{Key}
use Rattle.section_codec.specs.declared.table.NumberedBody.{NumberedBody}
use Rattle.section_codec.specs.declared.table.SubTable.{SubTable}
use Rattle.section_codec.specs.Contents.{last_number, part_in, Content}
use Rattle.section_codec.specs.Keys.{key_in}
use Rattle.section_codec.specs.Section.{longest_body, FitsLong}
use Rattle.section_codec.proofs.ReadBack.{section_in-section_bytes, section_in-short_bytes}
use Rattle.section_codec.proofs.ContentFacts.{own_parts, below_last}
use Rattle.section_codec.specs.KeyOrder.{is_key}
use Rattle.section_codec.proofs.KeyOrderFacts.{is_key-same, is_key-itself}
use Rattle.si_time.specs.Moments.{moment_bcd}
use Rattle.version_book.specs.Airings.{AiredTables, CycleForm, content_in, content_at, version_at}
use Rattle.version_book.proofs.Airs.{AreOwn-all}
use Rattle.sub_collect.specs.Runs.{Counted, counted, latest_section, has_number, latest_with}
use Rattle.sub_collect.specs.Completions.{is_of, of_key}
use Rattle.sub_collect.specs.Laws.{section_with, sections_with, HoldAll, IsWith, IsNumbered}
use Rattle.section_codec.specs.Tables.{is_counted}
use Rattle.guide_receiver.specs.Counting.{is_body_of_table, counted_by, counted_in, counted_among}
use Rattle.section_codec.specs.SubTables.{IsFit, header_of}
use Rattle.guide_receiver.proofs.Shown.{among-append}
use Rattle.air_model.specs.Air.{Sent, sent_section, tdt, tot, times, CanBeTold}
use Rattle.air_model.specs.Repeating.{IsSentOf, AreSentOf}
use Rattle.air_model.proofs.Repeating.{elements, of_element, around}
use Rattle.air_laws.specs.Counting.{raw_of, IsReadable, CanBeHeard}
use Rattle.air_laws.specs.HearingLaws.{TableCounts}

pub version_at-lt : (k : Key) (airings : List AiredTables) → version_at k airings < 32
version_at-lt k airings = omega arith

-- ---- one section

-- what a section of a sub-table needs
pub record CanCount (t : SubTable) (p : NumberedBody) : Type 0 where
  pub keyed : key_in t.key.pid (header_of 0 t p) p.body ≡ Some t.key
  pub body : is_body_of_table (header_of 0 t p) p.body ≡ true
  pub number : p.number ≤ last_number t.sections
  pub within : length p.body ≤ longest_body t.key.table

pub can_count : (t : SubTable) → IsFit t → IsReadable t → AllByRecursion (CanCount t) t.sections
can_count t fit read = go t.sections read.keyed read.bodies (below_last t.sections fit.ascending) (recursion_from_All (λ (p : NumberedBody). length p.body ≤ longest_body t.key.table) t.sections fit.bodies)
  where
    go : (ps : List NumberedBody) → AllByRecursion (λ (p : NumberedBody). key_in t.key.pid (header_of 0 t p) p.body ≡ Some t.key) ps
        → AllByRecursion (λ (p : NumberedBody). is_body_of_table (header_of 0 t p) p.body ≡ true) ps → AllByRecursion (λ (p : NumberedBody). p.number ≤ last_number t.sections) ps
        → AllByRecursion (λ (p : NumberedBody). length p.body ≤ longest_body t.key.table) ps → AllByRecursion (CanCount t) ps
    go [] a d b c = tt
    go (p ∷ ps) a d b c = (record { keyed = a.0; body = d.0; number = b.0; within = c.0 }, go ps a.1 d.1 b.1 c.1)

-- a section of a sub-table under a version, as it counts
abbrev pub as_counted : ℕ → SubTable → NumberedBody → Counted
as_counted version t p = section_with t.key version (last_number t.sections) p

pub one_counts : (t : SubTable) → IsFit t → IsReadable t → (version : ℕ) → version < 32 → (p : NumberedBody) → CanCount t p
    → counted_in (raw_of (sent_section version t p)) ≡ (if is_counted t.key.pid t.key.table then Some (as_counted version t p) else None)
one_counts t fit read version lt p can =
    let h = header_of version t p in
    let fits : FitsLong h p.body = record {
      table = read.table;
      form = fit.long;
      ext = read.ext;
      version = lt;
      number = can.number;
      last = read.last;
      within = can.within;
    } in
    let key : key_in t.key.pid h p.body ≡ Some t.key = can.keyed in
    ap (counted_by t.key.pid) (section_in-section_bytes h p.body fits)
    ∙ ap (λ (o : Option Key). if true && is_counted t.key.pid t.key.table && is_body_of_table h p.body then option_map (λ (k : Key). counted k h p.body) o else None) key
    ∙ ap (λ (b : Bool). if true && is_counted t.key.pid t.key.table && b then Some (as_counted version t p) else None) body
    ∙ go (is_counted t.key.pid t.key.table)
  where
    body : is_body_of_table (header_of version t p) p.body ≡ true
    body = can.body

    go : (b : Bool) → (if true && b && true then Some (as_counted version t p) else None) ≡ (if b then Some (as_counted version t p) else None)
    go true = refl
    go false = refl

pub table_counts : TableCounts
table_counts t fit read version lt = go t.sections (can_count t fit read) ∙ all (is_counted t.key.pid t.key.table)
  where
    each : Bool → List NumberedBody → List Counted
    each b [] = []
    each b (p ∷ ps) = cons_option (if b then Some (as_counted version t p) else None) (each b ps)

    go : (ps : List NumberedBody) → AllByRecursion (CanCount t) ps → counted_among (map raw_of (map (sent_section version t) ps)) ≡ each (is_counted t.key.pid t.key.table) ps
    go [] can = refl
    go (p ∷ ps) can = ap₂ (λ (o : Option Counted) (l : List Counted). cons_option o l) (one_counts t fit read version lt p can.0) (go ps can.1)

    none : (ps : List NumberedBody) → each false ps ≡ []
    none [] = refl
    none (p ∷ ps) = none ps

    some : (ps : List NumberedBody) → each true ps ≡ map (section_with t.key version (last_number t.sections)) ps
    some [] = refl
    some (p ∷ ps) = ap (λ (l : List Counted). as_counted version t p ∷ l) (some ps)

    all : (b : Bool) → each b t.sections ≡ (if b then sections_with t.key version t.sections else [])
    all true = some t.sections
    all false = none t.sections

-- the sections that tell the time count for nothing
tdt_uncounted : (moment : ℕ) → counted_in (raw_of (tdt moment)) ≡ None
tdt_uncounted moment = ap (counted_by 0x0014) (section_in-short_bytes 0x70 (moment_bcd moment) (record { fits = lit< tt; form = refl; no_crc = refl; within = omega (arith, five_bytes moment) }))

times_uncounted : (form : CycleForm) (moment : ℕ) → CanBeTold form.offsets → AllByRecursion (λ (s : Sent). counted_in (raw_of s) ≡ None) (times form moment)
times_uncounted form moment can = (tdt_uncounted moment, go form.offsets can)
  where
    go : (offsets : List Offset) → CanBeTold offsets → AllByRecursion (λ (s : Sent). counted_in (raw_of s) ≡ None) (tot moment offsets)
    go [] can = tt
    go (o ∷ offsets) can =
        (ap (counted_by 0x0014) (tot-is_a_section moment (o ∷ offsets) (record { some = omega arith; few = can.few; each = can.each })), tt)

-- ---- the sections of an airing that count for a key

abbrev pub block : Key → List Sent → List Counted
block k ss = of_key k (counted_among (map raw_of ss))

pub block-append : (k : Key) (ss ts : List Sent) → block k (ss ++ ts) ≡ block k ss ++ block k ts
block-append k ss ts =
    ap (λ l. of_key k (counted_among l)) (map-append raw_of ss ts) ∙ ap (of_key k) (among-append (map raw_of ss) (map raw_of ts))
    ∙ filter-append (is_of k) (counted_among (map raw_of ss)) (counted_among (map raw_of ts))

-- a section with a number among others
some_latest : (n : ℕ) (before after : List Counted) (s : Counted) → s.number ≡ n → IsSome (latest_with n (before ++ s ∷ after))
some_latest n before after s e =
    let found : filter (has_number n) (before ++ s ∷ after) ≡ filter (has_number n) before ++ s ∷ filter (has_number n) after =
    filter-append (has_number n) before (s ∷ after) ∙ ap (λ (b : Bool). filter (has_number n) before ++ cond b (s ∷ filter (has_number n) after) (filter (has_number n) after)) (eq-eqb s.number n e) in
    ap (λ (l : List Counted). is_some (latest_section l)) found ∙ some (filter (has_number n) before) s (filter (has_number n) after)
  where
    first : (s : Counted) (xs : List Counted) → is_some (latest_section (s ∷ xs)) ≡ true
    first s [] = refl
    first s (x ∷ xs) = first x xs

    some : (xs : List Counted) (s : Counted) (ys : List Counted) → is_some (latest_section (xs ++ s ∷ ys)) ≡ true
    some [] s ys = first s ys
    some (x ∷ []) s ys = first s ys
    some (x ∷ y ∷ xs) s ys = some (y ∷ xs) s ys

module _ (past : List AiredTables) (a : AiredTables) (can : CanBeHeard a) (k : Key) where
  abbrev version : SubTable → ℕ
  version t = version_at t.key (past ++ a ∷ [])

  fit_of : (t : SubTable) → Contains a.tables t → IsFit t
  fit_of t has = All-contains IsFit a.tables t can.fit has

  read_of : (t : SubTable) → Contains a.tables t → IsReadable t
  read_of t has = of_element IsReadable a.tables t can.readable has

  -- what one of its sections counts for
  counts : (t : SubTable) (p : NumberedBody) → Contains a.tables t → Contains t.sections p
      → counted_in (raw_of (sent_section (version t) t p)) ≡ (if is_counted t.key.pid t.key.table then Some (as_counted (version t) t p) else None)
  counts t p has_t has_p =
      one_counts t (fit_of t has_t) (read_of t has_t) (version t) (version_at-lt t.key (past ++ a ∷ [])) p
      (of_element (CanCount t) t.sections p (can_count t (fit_of t has_t) (read_of t has_t)) has_p)

  -- what holds of each section of the key's sub-table holds of those that count for the key
  pub block-each : (P : Counted → Type 0) → ((t : SubTable) (p : NumberedBody) → Contains a.tables t → Contains t.sections p → t.key ≡ k → is_counted k.pid k.table ≡ true → P (as_counted (version t) t p))
      → (ss : List Sent) → AllByRecursion (IsSentOf past a) ss → AllByRecursion P (block k ss)
  block-each P holds [] each = tt
  block-each P holds (s ∷ ss) each = one s each.0 (counted_in (raw_of s)) refl (block-each P holds ss each.1)
    where
      one : (s : Sent) → IsSentOf past a s → (o : Option Counted) → counted_in (raw_of s) ≡ o → AllByRecursion P (block k ss) → AllByRecursion P (of_key k (cons_option o (counted_among (map raw_of ss))))
      one s is None e rest = rest
      one s (inr (at, later, has)) (Some c) e rest =
          let told : counted_in (raw_of s) ≡ None =
          of_element (λ (x : Sent). counted_in (raw_of x) ≡ None) (times a.form at) s (times_uncounted a.form at can.offsets) has in
          absurd (let z : Prim.⊥ = (let none : None ≡ Some c = sym told ∙ e in cc) in z)
      one s (inl (t, p, has_t, has_p, is)) (Some c) e rest = go (is_counted t.key.pid t.key.table) refl (sym (counts t p has_t has_p) ∙ ap (λ (x : Sent). counted_in (raw_of x)) (sym is) ∙ e)
        where
          same : c ≡ as_counted (version t) t p → is_counted t.key.pid t.key.table ≡ true → (b : Bool) → is_key c.key k ≡ b → AllByRecursion P (cond (is_key c.key k) (c ∷ block k ss) (block k ss))
          same f g false h = subst (λ (b : Bool). AllByRecursion P (cond b (c ∷ block k ss) (block k ss))) (sym h) rest
          same f g true h =
              let key : t.key ≡ k = ap (λ (x : Counted). x.key) (sym f) ∙ is_key-same c.key k h in
              let counted : is_counted k.pid k.table ≡ true = ap (λ (q : Key). is_counted q.pid q.table) (sym key) ∙ g in
              subst (λ (b : Bool). AllByRecursion P (cond b (c ∷ block k ss) (block k ss))) (sym h) (subst P (sym f) (holds t p has_t has_p key counted), rest)

          go : (b : Bool) → is_counted t.key.pid t.key.table ≡ b → (if is_counted t.key.pid t.key.table then Some (as_counted (version t) t p) else None) ≡ Some c → AllByRecursion P (cond (is_key c.key k) (c ∷ block k ss) (block k ss))
          go true g h =
              let some : Some (as_counted (version t) t p) ≡ Some c = ap (λ (b : Bool). if b then Some (as_counted (version t) t p) else None) (sym g) ∙ h in
              let f : as_counted (version t) t p ≡ c = cc in
              same (sym f) g (is_key c.key k) refl
          go false g h =
              let none : None ≡ Some c = ap (λ (b : Bool). if b then Some (as_counted (version t) t p) else None) (sym g) ∙ h in
              absurd (let z : Prim.⊥ = cc in z)

  nothing : (xs : List Counted) → AllByRecursion (λ (s : Counted). Prim.⊥) xs → xs ≡ []
  nothing [] all = refl
  nothing (x ∷ xs) all = absurd all.0

  -- the content of a key is its sub-table's
  content_of : (t : SubTable) → Contains a.tables t → t.key ≡ k → content_at k a ≡ Some t.sections
  content_of t has e = ap (λ (q : Key). content_in q a.tables) (sym e) ∙ of_element (λ (u : SubTable). content_in u.key a.tables ≡ Some u.sections) a.tables t (AreOwn-all a.tables can.differ) has

  -- a key that the airing does not carry has no sections
  pub block-none : content_at k a ≡ None → (ss : List Sent) → AllByRecursion (IsSentOf past a) ss → block k ss ≡ []
  block-none none ss each =
      nothing (block k ss) (block-each (λ (s : Counted). Prim.⊥) (λ t p has_t has_p e counted. (let f : Some t.sections ≡ None = sym (content_of t has_t e) ∙ none in let z : Prim.⊥ = cc in z)) ss each)

  -- a key that does not count has none
  pub block-uncounted : is_counted k.pid k.table ≡ false → (ss : List Sent) → AllByRecursion (IsSentOf past a) ss → block k ss ≡ []
  block-uncounted other ss each =
      nothing (block k ss) (block-each (λ (s : Counted). Prim.⊥) (λ t p has_t has_p e counted. (let f : true ≡ false = sym counted ∙ other in let z : Prim.⊥ = cc in z)) ss each)

  -- the sub-table of a key that is carried
  pub carrier : (c : Content) → content_at k a ≡ Some c → (t : SubTable) × Contains a.tables t × (t.key ≡ k) × (t.sections ≡ c)
  carrier c e = go a.tables (elements a.tables) e
    where
      go : (ts : List SubTable) → AllByRecursion (Contains a.tables) ts → content_in k ts ≡ Some c → (t : SubTable) × Contains a.tables t × (t.key ≡ k) × (t.sections ≡ c)
      go [] has e = cc
      go (t ∷ ts) has e = which (is_key k t.key) refl e (λ f. go ts has.1 f)
        where
          which : (b : Bool) → is_key k t.key ≡ b → (if b then Some t.sections else content_in k ts) ≡ Some c → (content_in k ts ≡ Some c → (t : SubTable) × Contains a.tables t × (t.key ≡ k) × (t.sections ≡ c))
              → (t : SubTable) × Contains a.tables t × (t.key ≡ k) × (t.sections ≡ c)
          which true f g rest =
              let same : t.sections ≡ c = cc in
              (t, has.0, sym (is_key-same k t.key f), same)
          which false f g rest = rest g

  pub numbered_of : (c : Content) → content_at k a ≡ Some c → IsNumbered k c
  numbered_of c e =
      let t = carrier c e in
      subst (λ (q : Key). IsNumbered q c) t.2 (subst (IsNumbered t.0.key) t.3 (read_of t.0 t.1).numbered)

  -- those that count are sections of its content, under its version
  pub block-sound : (c : Content) → content_at k a ≡ Some c → (ss : List Sent) → AllByRecursion (IsSentOf past a) ss → AllByRecursion (IsWith k (version_at k (past ++ a ∷ [])) c) (block k ss)
  block-sound c e ss each = block-each (IsWith k (version_at k (past ++ a ∷ [])) c) one ss each
    where
      one : (t : SubTable) (p : NumberedBody) → Contains a.tables t → Contains t.sections p → t.key ≡ k → is_counted k.pid k.table ≡ true → IsWith k (version_at k (past ++ a ∷ [])) c (as_counted (version t) t p)
      one t p has_t has_p key counted =
          let some : Some t.sections ≡ Some c = sym (content_of t has_t key) ∙ e in
          let same : t.sections ≡ c = cc in
          let part : part_in p.number t.sections ≡ Some p.body = of_element (λ (q : NumberedBody). part_in q.number t.sections ≡ Some q.body) t.sections p (own_parts t.sections (fit_of t has_t).ascending) has_p in
          (record { key = key; part = ap (part_in p.number) (sym same) ∙ part; last = ap last_number same }, ap (λ (q : Key). version_at q (past ++ a ∷ [])) key)

  -- and each of them is there
  pub block-complete : (c : Content) → content_at k a ≡ Some c → is_counted k.pid k.table ≡ true → (ss : List Sent) → AreSentOf past a ss → HoldAll c (block k ss)
  block-complete c e counted ss are =
      let t = carrier c e in
      subst (λ (d : Content). HoldAll d (block k ss)) t.3 (all_map (Contains t.0.sections) (λ (p : NumberedBody). IsSome (latest_with p.number (block k ss))) (one t.0 t.1 t.2) t.0.sections (elements t.0.sections))
    where
      one : (t : SubTable) → Contains a.tables t → t.key ≡ k → (p : NumberedBody) → Contains t.sections p → IsSome (latest_with p.number (block k ss))
      one t has_t key p has_p =
          let s = sent_section (version t) t p in
          let parts = around ss s (are.all t p has_t has_p) in
          let is : counted_in (raw_of s) ≡ Some (as_counted (version t) t p) =
          counts t p has_t has_p ∙ ap (λ (b : Bool). if b then Some (as_counted (version t) t p) else None) (ap (λ (q : Key). is_counted q.pid q.table) key ∙ counted) in
          let own : is_key t.key k ≡ true = ap (λ (q : Key). is_key q k) key ∙ is_key-itself k in
          let behind : block k (s ∷ parts.1) ≡ as_counted (version t) t p ∷ block k parts.1 =
          ap (λ (o : Option Counted). of_key k (cons_option o (counted_among (map raw_of parts.1)))) is
          ∙ ap (λ (b : Bool). cond b (as_counted (version t) t p ∷ block k parts.1) (block k parts.1)) own in
          let all : block k ss ≡ block k parts.0 ++ as_counted (version t) t p ∷ block k parts.1 =
          ap (block k) parts.2 ∙ block-append k parts.0 (s ∷ parts.1) ∙ ap (λ (l : List Counted). block k parts.0 ++ l) behind in
          subst (λ (l : List Counted). IsSome (latest_with p.number l)) (sym all) (some_latest p.number (block k parts.0) (block k parts.1) (as_counted (version t) t p) refl)
