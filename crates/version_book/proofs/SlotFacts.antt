-- The slots of a version book, and what they keep.
use Rattle.std.proofs.Common.{◌≡◌, ℕ, zero, suc, ◌+◌, ◌%◌, ◌<◌, List, [], ◌∷◌, length, drop, get_or, Bool, true, false, refl, sym, ap, ◌∙◌, subst, arith, drop-cons}
use Rattle.std.specs.Prelude.{if◌then◌else◌, Option, Some, None, option_map, map, is_some, cond}
use Rattle.std.specs.declared.cmp.Ordering.{Ordering}
use Rattle.std.specs.declared.cmp.Ordering.TheVariants.{Less, Equal, Greater}
use Rattle.std.specs.Ordering.{is_eq, match_ordering}
use Rattle.std.specs.BTreeMap.{insert_entry, is_at}
use Rattle.std.specs.Map.{lookup, keys_of}
use Rattle.std.specs.List.{AllByRecursion}
use Rattle.std.specs.List.Sorted.{IsStrictlySortedBy}
use Rattle.std.proofs.lemmas.List.{get_or-map}
use Rattle.std.proofs.lemmas.Map.Keys.{sorted_head, sorted_tail}
use Rattle.section_codec.specs.declared.table.Key.{Key}
use Rattle.section_codec.specs.declared.table.SubTable.{SubTable}
use Rattle.section_codec.specs.KeyOrder.{is_key, key_cmp}
use Rattle.section_codec.specs.SubTables.{Lacks, KeysDiffer}
use Rattle.section_codec.specs.Contents.{Content, is_content}
use Rattle.version_book.specs.Book.{GivenVersion, given_in}
use Rattle.section_codec.proofs.SameContent.{is_content-same}
use Rattle.section_codec.proofs.KeyOrderFacts.{is_key-same, is_key-itself, is_key-apart, key_ties}
use Rattle.version_book.specs.Slots.{kept_by, with_kept, shown, held_in, next_version, changed_content, given_after}
use Rattle.version_book.specs.declared.last_version.LastVersion.{LastVersion}

-- ---- an empty slot does not show

pub shown-insert : (cmp : Key → Key → Ordering) (k : Key) (es : List (Key × Option LastVersion)) → is_some (lookup (is_at (cmp k)) es) ≡ false → shown (insert_entry cmp es k None) ≡ shown es
shown-insert cmp k [] absent = refl
shown-insert cmp k (e ∷ es) absent = go (cmp k e.0) absent (λ later. shown-insert cmp k es later)
  where
    go : (o : Ordering) → is_some (cond (is_eq o) (Some e.1) (lookup (is_at (cmp k)) es)) ≡ false → (is_some (lookup (is_at (cmp k)) es) ≡ false → shown (insert_entry cmp es k None) ≡ shown es)
        → shown (match_ordering o ((k, None) ∷ e ∷ es) ((e.0, None) ∷ es) (e ∷ insert_entry cmp es k None)) ≡ shown (e ∷ es)
    go Less none rec = refl
    go Equal none rec = cc
    go Greater none rec = ap (with_kept e.0 e.1) (rec none)

-- ---- what the slots show is what they hold, where the keys ascend

-- no key above k is k
none_above : (cmp : Key → Key → Ordering) → ((a b : Key) → is_key a b ≡ is_eq (cmp a b)) → (k : Key) (es : List (Key × Option LastVersion))
    → AllByRecursion (λ y. cmp k y ≡ Less) (keys_of es) → given_in k (shown es) ≡ None
none_above cmp ties k [] above = refl
none_above cmp ties k (e ∷ es) above = go e.1 (none_above cmp ties k es above.1)
  where
    other : is_key k e.0 ≡ false
    other = ties k e.0 ∙ ap is_eq above.0

    go : (o : Option LastVersion) → given_in k (shown es) ≡ None → given_in k (with_kept e.0 o (shown es)) ≡ None
    go None rest = rest
    go (Some held) rest = ap (λ (b : Bool). if b then Some (kept_by held) else given_in k (shown es)) other ∙ rest

kept_in-shown_by : (cmp : Key → Key → Ordering) → ((a b : Key) → is_key a b ≡ is_eq (cmp a b)) → (k : Key) (es : List (Key × Option LastVersion))
    → IsStrictlySortedBy cmp (keys_of es) → given_in k (shown es) ≡ option_map kept_by (held_in (lookup (is_at (cmp k)) es))
kept_in-shown_by cmp ties k [] sorted = refl
kept_in-shown_by cmp ties k (e ∷ es) sorted =
    go (is_key k e.0) refl (is_eq (cmp k e.0)) (sym (ties k e.0)) e.1 (kept_in-shown_by cmp ties k es (sorted_tail cmp e.0 (keys_of es) sorted))
  where
    above : AllByRecursion (λ y. cmp e.0 y ≡ Less) (keys_of es)
    above = sorted_head cmp e.0 (keys_of es) sorted

    go : (b : Bool) → is_key k e.0 ≡ b → (d : Bool) → d ≡ is_key k e.0 → (o : Option LastVersion) → given_in k (shown es) ≡ option_map kept_by (held_in (lookup (is_at (cmp k)) es))
        → given_in k (with_kept e.0 o (shown es)) ≡ option_map kept_by (held_in (cond d (Some o) (lookup (is_at (cmp k)) es)))
    go true same true f None rec =
        let one : k ≡ e.0 = is_key-same k e.0 same in
        ap (λ (q : Key). given_in q (shown es)) one ∙ none_above cmp ties e.0 es above
    go true same true f (Some held) rec = ap (λ (b : Bool). if b then Some (kept_by held) else given_in k (shown es)) same
    go true same false f o rec = cc
    go false other true f o rec = cc
    go false other false f None rec = rec
    go false other false f (Some held) rec = ap (λ (b : Bool). if b then Some (kept_by held) else given_in k (shown es)) other ∙ rec

pub kept_in-shown : (k : Key) (es : List (Key × Option LastVersion)) → IsStrictlySortedBy key_cmp (keys_of es) → given_in k (shown es) ≡ option_map kept_by (held_in (lookup (is_at (key_cmp k)) es))
kept_in-shown k es sorted = kept_in-shown_by key_cmp key_ties k es sorted

-- ---- given to the slots

turned_true : (a b : Key) → is_key a b ≡ true → is_key b a ≡ true
turned_true a b e = ap (λ (q : Key). is_key b q) (is_key-same a b e) ∙ is_key-itself b

is_key-turned : (a b : Key) → is_key a b ≡ is_key b a
is_key-turned a b = go (is_key a b) refl (is_key b a) refl
  where
    go : (x : Bool) → is_key a b ≡ x → (y : Bool) → is_key b a ≡ y → is_key a b ≡ is_key b a
    go true e y f = e ∙ sym (turned_true a b e)
    go false e true f = turned_true b a f ∙ sym f
    go false e false f = e ∙ sym f

-- a key that these sub-tables lack keeps what it had
given_after-lacks : (f : Key → Option GivenVersion) (ts : List SubTable) (k : Key) → Lacks k ts → given_after f ts k ≡ f k
given_after-lacks f [] k lacks = refl
given_after-lacks f (t ∷ ts) k lacks =
    ap (λ (b : Bool). if b then Some (record { version = next_version (f t.key) t.sections; content = t.sections }) else given_after f ts k) (is_key-apart k t.key lacks.0)
    ∙ given_after-lacks f ts k lacks.1

-- what a slot is given: nothing where the content is the last one
abbrev pub filled_by : Key → ℕ → Option Content → (Key → Option GivenVersion) → Key → Option GivenVersion
filled_by k version None old q = old q
filled_by k version (Some content) old q = if is_key k q then Some (record { version = version; content = content }) else old q

same_kept : (kept : GivenVersion) (content : Content) → kept.content ≡ content → kept ≡ record { version = kept.version; content = content }
same_kept kept content e = λ i. record { version = kept.version; content = e i }

-- One sub-table more is given, from the last to the first.
module _ (f : Key → Option GivenVersion) (t : SubTable) (ts : List SubTable) (old : Key → Option GivenVersion) (before : (q : Key) → old q ≡ given_after f ts q) (lacks : Lacks t.key ts) (q : Key) where
  written : (x : GivenVersion) → (if is_key t.key q then Some x else old q) ≡ (if is_key q t.key then Some x else given_after f ts q)
  written x =
      ap (λ (b : Bool). if b then Some x else old q) (is_key-turned t.key q)
      ∙ ap (λ (o : Option GivenVersion). if is_key q t.key then Some x else o) (before q)

  stays : (kept : GivenVersion) → f t.key ≡ Some kept → kept.content ≡ t.sections
      → old q ≡ (if is_key q t.key then Some (record { version = kept.version; content = t.sections }) else given_after f ts q)
  stays kept e same = go (is_key q t.key) refl
    where
      go : (b : Bool) → is_key q t.key ≡ b → old q ≡ (if b then Some (record { version = kept.version; content = t.sections }) else given_after f ts q)
      go true one =
          before q ∙ ap (given_after f ts) (is_key-same q t.key one) ∙ given_after-lacks f ts t.key lacks ∙ e ∙ ap (λ (x : GivenVersion). Some x) (same_kept kept t.sections same)
      go false other = before q

  given_of : (o : Option GivenVersion) → f t.key ≡ o
      → filled_by t.key (next_version o t.sections) (changed_content o t.sections) old q ≡ (if is_key q t.key then Some (record { version = next_version o t.sections; content = t.sections }) else given_after f ts q)
  given_of None e = written (record { version = 0; content = t.sections })
  given_of (Some kept) e = go (is_content kept.content t.sections) refl
    where
      go : (b : Bool) → is_content kept.content t.sections ≡ b
          → filled_by t.key (if b then kept.version else (kept.version + 1) % 32) (if b then None else Some t.sections) old q
          ≡ (if is_key q t.key then Some (record { version = if b then kept.version else (kept.version + 1) % 32; content = t.sections }) else given_after f ts q)
      go true same = stays kept e (is_content-same kept.content t.sections same)
      go false other = written (record { version = (kept.version + 1) % 32; content = t.sections })

  pub given_step : filled_by t.key (next_version (f t.key) t.sections) (changed_content (f t.key) t.sections) old q ≡ given_after f (t ∷ ts) q
  given_step = given_of (f t.key) refl

-- ---- a turn of giving

KeysDiffer-drop : (n : ℕ) (ts : List SubTable) → KeysDiffer ts → KeysDiffer (drop n ts)
KeysDiffer-drop zero ts differ = differ
KeysDiffer-drop (suc n) [] differ = differ
KeysDiffer-drop (suc n) (t ∷ ts) differ = KeysDiffer-drop n ts differ.1

pub at_place : (ts : List SubTable) (n : ℕ) → n < length ts → (t : SubTable) × (t ≡ get_or ts n t)
at_place [] n lt = absurd (omega arith)
at_place (t ∷ ts) zero lt = (t, refl)
at_place (t ∷ ts) (suc n) lt = at_place ts n (omega arith)

-- the change that was planned for the sub-table at place n is made
pub given_turn : (f : Key → Option GivenVersion) (ts : List SubTable) (n : ℕ) (t : SubTable) (old : Key → Option GivenVersion) (change : Option Content) (version : ℕ)
    → n < length ts → t ≡ get_or ts n t → KeysDiffer ts → ((q : Key) → old q ≡ given_after f (drop (n + 1) ts) q)
    → change ≡ get_or (map (λ (x : SubTable). changed_content (f x.key) x.sections) ts) n change → version ≡ next_version (f t.key) t.sections
    → (q : Key) → filled_by t.key version change old q ≡ given_after f (drop n ts) q
given_turn f ts n t old change version lt at differ before planned counted q =
    let e : drop n ts ≡ t ∷ drop (suc n) ts = drop-cons ts n t lt ∙ ap (λ (x : SubTable). x ∷ drop (suc n) ts) (sym at) in
    let more : n + 1 ≡ suc n = omega arith in
    let d : KeysDiffer (t ∷ drop (suc n) ts) = subst KeysDiffer e (KeysDiffer-drop n ts differ) in
    let c : change ≡ changed_content (f t.key) t.sections =
    planned ∙ get_or-map (λ (x : SubTable). changed_content (f x.key) x.sections) ts n t change lt ∙ ap (λ (x : SubTable). changed_content (f x.key) x.sections) (sym at) in
    ap (λ (v : ℕ). filled_by t.key v change old q) counted
    ∙ ap (λ (o : Option Content). filled_by t.key (next_version (f t.key) t.sections) o old q) c
    ∙ given_step f t (drop (suc n) ts) old (λ k. before k ∙ ap (λ m. given_after f (drop m ts) k) more) d.0 q
    ∙ ap (λ (x : List SubTable). given_after f x q) (sym e)

-- what is kept where a slot is filled
pub put_kept : (held : LastVersion) (b : Bool) (new old : Option (Option LastVersion)) → new ≡ (if b then Some (Some held) else old)
    → option_map kept_by (held_in new) ≡ (if b then Some (kept_by held) else option_map kept_by (held_in old))
put_kept held b new old e = ap (λ (o : Option (Option LastVersion)). option_map kept_by (held_in o)) e ∙ go b
  where
    go : (b : Bool) → option_map kept_by (held_in (if b then Some (Some held) else old)) ≡ (if b then Some (kept_by held) else option_map kept_by (held_in old))
    go true = refl
    go false = refl
