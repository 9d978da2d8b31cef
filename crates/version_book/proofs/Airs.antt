-- One airing more: what is given to a book that stands for the airings before.
use Rattle.std.proofs.Common.{◌≡◌, ℕ, ◌+◌, ◌%◌, List, [], ◌∷◌, ◌++◌, Bool, true, false, refl, sym, ap, ◌∙◌, arith, append-nil}
use Rattle.std.specs.Prelude.{if◌then◌else◌, option_to_list, Option, Some, map}
use Rattle.std.specs.List.{AllByRecursion}
use Rattle.section_codec.specs.declared.table.Key.{Key}
use Rattle.section_codec.specs.declared.table.SubTable.{SubTable}
use Rattle.section_codec.specs.KeyOrder.{is_key}
use Rattle.section_codec.specs.SubTables.{Lacks, KeysDiffer}
use Rattle.section_codec.specs.Contents.{Content, is_content}
use Rattle.section_codec.proofs.KeyOrderFacts.{is_key-same, is_key-itself, is_key-apart}
use Rattle.version_book.specs.Airings.{CycleForm, AiredTables, content_in, carried, changes_after, changes, version_at}
use Rattle.version_book.specs.Book.{GivenVersion, last_of, kept_after, aired, versions_of}
use Rattle.version_book.specs.Slots.{next_version, given_after}
use Rattle.version_book.proofs.Versions.{changes_after-push, last_of-push, carried-push}

-- ---- one content more

changed_or_not : (b : Bool) (n : ℕ) → (n + (if b then 0 else 1)) % 32 ≡ (if b then n % 32 else (n % 32 + 1) % 32)
changed_or_not true n = omega arith
changed_or_not false n = omega arith

-- the version of one content more
pub next_version-is : (cs : List Content) (c : Content) → changes (cs ++ c ∷ []) % 32 ≡ next_version (kept_after cs) c
next_version-is [] c = refl
next_version-is (b ∷ bs) c =
    ap (λ n. n % 32) (changes_after-push b bs c) ∙ changed_or_not (is_content (last_of b bs) c) (changes_after b bs)

same_kept : (v w : ℕ) (c d : Content) → v ≡ w → c ≡ d → ◌≡◌ {A = GivenVersion} (record { version = v; content = c }) (record { version = w; content = d })
same_kept v w c d e f = λ i. record { version = e i; content = f i }

-- what is kept after one content more
pub kept_after-push : (cs : List Content) (c : Content) → kept_after (cs ++ c ∷ []) ≡ Some (record { version = next_version (kept_after cs) c; content = c })
kept_after-push [] c = refl
kept_after-push (b ∷ bs) c =
    ap (λ (x : GivenVersion). Some x) (same_kept _ _ _ _ (next_version-is (b ∷ bs) c) (last_of-push b bs c))

-- ---- what is kept of each key

-- Given to what the airings before leave, these sub-tables leave what one airing more leaves.
pub given_after-airing : (past : List AiredTables) (f : Key → Option GivenVersion) → ((k : Key) → f k ≡ kept_after (carried k past)) → (ts : List SubTable) (q : Key)
    → given_after f ts q ≡ kept_after (carried q past ++ option_to_list (content_in q ts))
given_after-airing past f before [] q = before q ∙ ap kept_after (sym (append-nil (carried q past)))
given_after-airing past f before (t ∷ ts) q = go (is_key q t.key) refl (given_after-airing past f before ts q)
  where
    go : (b : Bool) → is_key q t.key ≡ b → given_after f ts q ≡ kept_after (carried q past ++ option_to_list (content_in q ts))
        → (if b then Some (record { version = next_version (f t.key) t.sections; content = t.sections }) else given_after f ts q)
        ≡ kept_after (carried q past ++ option_to_list (if b then Some t.sections else content_in q ts))
    go true one rec =
        let kept : f t.key ≡ kept_after (carried q past) = before t.key ∙ ap (λ (k : Key). kept_after (carried k past)) (sym (is_key-same q t.key one)) in
        ap (λ (o : Option GivenVersion). Some (record { version = next_version o t.sections; content = t.sections })) kept
        ∙ sym (kept_after-push (carried q past) t.sections)
    go false other rec = rec

pub kept_after-airing : (past : List AiredTables) (ts : List SubTable) (moment : ℕ) (form : CycleForm) (q : Key)
    → kept_after (carried q (past ++ aired ts moment form ∷ [])) ≡ kept_after (carried q past ++ option_to_list (content_in q ts))
kept_after-airing past ts moment form q = ap kept_after (carried-push q past (aired ts moment form))

-- ---- the version of each sub-table

-- each of these is what the list of all has of its key
abbrev pub AreOwn : List SubTable → List SubTable → Type 0
AreOwn all ts = AllByRecursion (λ (t : SubTable). content_in t.key all ≡ Some t.sections) ts

own_behind : (t : SubTable) (all ts : List SubTable) → Lacks t.key ts → AreOwn all ts → AreOwn (t ∷ all) ts
own_behind t all [] lacks own = tt
own_behind t all (s ∷ ts) lacks own =
    (ap (λ (b : Bool). if b then Some t.sections else content_in s.key all) (is_key-apart s.key t.key (λ e. lacks.0 (sym e))) ∙ own.0, own_behind t all ts lacks.1 own.1)

pub AreOwn-all : (ts : List SubTable) → KeysDiffer ts → AreOwn ts ts
AreOwn-all [] differ = tt
AreOwn-all (t ∷ ts) differ =
    (ap (λ (b : Bool). if b then Some t.sections else content_in t.key ts) (is_key-itself t.key), own_behind t ts ts differ.0 (AreOwn-all ts differ.1))

each_version : (past : List AiredTables) (f : Key → Option GivenVersion) → ((k : Key) → f k ≡ kept_after (carried k past)) → (all : List SubTable) (moment : ℕ) (form : CycleForm) (ts : List SubTable) → AreOwn all ts
    → map (λ (t : SubTable). next_version (f t.key) t.sections) ts ≡ map (λ (t : SubTable). version_at t.key (past ++ aired all moment form ∷ [])) ts
each_version past f before all moment form [] own = refl
each_version past f before all moment form (t ∷ ts) own =
    let one : version_at t.key (past ++ aired all moment form ∷ []) ≡ next_version (f t.key) t.sections =
    ap (λ (cs : List Content). changes cs % 32) (carried-push t.key past (aired all moment form) ∙ ap (λ (o : Option Content). carried t.key past ++ option_to_list o) own.0)
    ∙ next_version-is (carried t.key past) t.sections ∙ ap (λ (o : Option GivenVersion). next_version o t.sections) (sym (before t.key)) in
    let rest = each_version past f before all moment form ts own.1 in
    ap (λ (n : ℕ). n ∷ map (λ (t : SubTable). next_version (f t.key) t.sections) ts) (sym one)
    ∙ ap (λ (ns : List ℕ). version_at t.key (past ++ aired all moment form ∷ []) ∷ ns) rest

-- what is given are the versions of the airing list
pub versions-airing : (past : List AiredTables) (f : Key → Option GivenVersion) → ((k : Key) → f k ≡ kept_after (carried k past)) → (ts : List SubTable) (moment : ℕ) (form : CycleForm) → KeysDiffer ts
    → map (λ (t : SubTable). next_version (f t.key) t.sections) ts ≡ versions_of past ts moment form
versions-airing past f before ts moment form differ = each_version past f before ts moment form ts (AreOwn-all ts differ)
