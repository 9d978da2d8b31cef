-- What is kept of keys that are handed over, and what the airings say of it.
use Rattle.std.proofs.Common.{◌≡◌, Bool, true, false, ℕ, suc, ◌+◌, ◌<◌, List, [], ◌∷◌, ◌++◌, append_assoc, map, refl, length, drop, drop-cons, get_or, sym, ap, ◌∙◌, subst, arith}
use Rattle.std.specs.Prelude.{if◌then◌else◌, Option, Some, None}
use Rattle.std.specs.List.{AllByRecursion, cons_option}
use Rattle.std.specs.List.Sorted.{IsStrictlySortedBy}
use Rattle.std.specs.Map.{keys_of}
use Rattle.std.specs.declared.cmp.Ordering.{Ordering}
use Rattle.std.specs.declared.cmp.Ordering.TheVariants.{Less, Equal, Greater}
use Rattle.std.specs.Ordering.{is_eq, ordering_reverse}
use Rattle.std.specs.Cmp.{IsTotalOrder}
use Rattle.std.proofs.lemmas.Cmp.{nat_cmp_total, on_total, then_total}
use Rattle.std.proofs.lemmas.List.Elements.{All-from_recursion}
use Rattle.section_codec.specs.declared.table.Key.{Key}
use Rattle.section_codec.specs.Contents.{Content}
use Rattle.section_codec.specs.KeyOrder.{is_key, key_cmp}
use Rattle.section_codec.proofs.KeyOrderFacts.{is_key-same, is_key-itself, key_ties}
use Rattle.version_book.specs.declared.key_version.KeyVersion.{KeyVersion}
use Rattle.version_book.specs.declared.last_version.LastVersion.{LastVersion}
use Rattle.version_book.specs.Airings.{AiredTables, content_at, carried}
use Rattle.version_book.specs.Book.{GivenVersion, GivenVersions, BookStandsFor, AreOrdered, given_in, given_entry, given_entries, kept_after, last_of}
use Rattle.version_book.specs.Laws.{WasCarried, KeptOnce, KeptWasCarried}
use Rattle.version_book.specs.Slots.{with_kept, shown}

-- ---- keys that are handed over

-- the key at place n in front of those behind it
pub kept_turn : (all : List KeyVersion) (n : ℕ) (k : KeyVersion) (old : Option GivenVersion) (q : Key) → n < length all → k ≡ get_or all n k → old ≡ given_in q (given_entries (drop (n + 1) all))
    → (if is_key q k.key then Some (given_entry k).1 else old) ≡ given_in q (given_entries (drop n all))
kept_turn all n k old q lt at before =
    let more : suc n ≡ n + 1 = omega arith in
    let here : drop n all ≡ k ∷ drop (n + 1) all = drop-cons all n k lt ∙ ap (λ (x : KeyVersion). x ∷ drop (suc n) all) (sym at) ∙ ap (λ m. k ∷ drop m all) more in
    ap (λ (o : Option GivenVersion). if is_key q k.key then Some (given_entry k).1 else o) before ∙ sym (ap (λ (ks : List KeyVersion). given_in q (given_entries ks)) here)

-- what one slot more shows
pub shown_turn : (kept : List KeyVersion) (more : GivenVersions) (key : Key) (slot : Option LastVersion) (rest : List (Key × Option LastVersion)) (all : GivenVersions) (left : List (Key × Option LastVersion)) → left ≡ (key, slot) ∷ rest
    → given_entries kept ++ shown left ≡ all → more ≡ given_entries kept ++ with_kept key slot [] → more ++ shown rest ≡ all
shown_turn kept more key slot rest all left is before now =
    ap (λ (l : GivenVersions). l ++ shown rest) now ∙ append_assoc (given_entries kept) (with_kept key slot []) (shown rest)
    ∙ ap (λ (l : GivenVersions). given_entries kept ++ l) (front key slot rest) ∙ ap (λ (l : List (Key × Option LastVersion)). given_entries kept ++ shown l) (sym is) ∙ before
  where
    front : (key : Key) (slot : Option LastVersion) (rest : List (Key × Option LastVersion)) → with_kept key slot [] ++ shown rest ≡ shown ((key, slot) ∷ rest)
    front key None rest = refl
    front key (Some held) rest = refl

-- what slots show is in the order of their keys
all_shown : (P : Key → Type 0) (es : List (Key × Option LastVersion)) → AllByRecursion P (keys_of es) → AllByRecursion P (keys_of (shown es))
all_shown P [] h = tt
all_shown P (e ∷ es) h = go e.1 (all_shown P es h.1)
  where
    go : (o : Option LastVersion) → AllByRecursion P (keys_of (shown es)) → AllByRecursion P (keys_of (with_kept e.0 o (shown es)))
    go None rest = rest
    go (Some held) rest = (h.0, rest)

pub shown_sorted : (cmp : Key → Key → Ordering) (es : List (Key × Option LastVersion)) → IsStrictlySortedBy cmp (keys_of es) → IsStrictlySortedBy cmp (keys_of (shown es))
unfolding IsStrictlySortedBy
shown_sorted cmp [] h = h
shown_sorted cmp (e ∷ es) h = go e.1 (shown_sorted cmp es h.1)
  where
    go : (o : Option LastVersion) → IsStrictlySortedBy cmp (keys_of (shown es)) → IsStrictlySortedBy cmp (keys_of (with_kept e.0 o (shown es)))
    go None rest = rest
    go (Some held) rest = (all_shown (λ y. cmp e.0 y ≡ Less) es h.0, rest)

pub keys_handed : (kept : List KeyVersion) → map (λ (k : KeyVersion). k.key) kept ≡ keys_of (given_entries kept)
keys_handed [] = refl
keys_handed (k ∷ kept) = ap (λ (ks : List Key). k.key ∷ ks) (keys_handed kept)

-- ---- what is kept is determined by the airings

keys_total : IsTotalOrder key_cmp
keys_total =
    then_total (on_total (λ (k : Key). k.pid) nat_cmp_total) (
    then_total (on_total (λ (k : Key). k.table) nat_cmp_total) (
    then_total (on_total (λ (k : Key). k.ext) nat_cmp_total) (
    then_total (on_total (λ (k : Key). k.stream) nat_cmp_total) (on_total (λ (k : Key). k.network) nat_cmp_total))))

-- nothing is kept of a key below all others
none_below : (k : Key) (entries : GivenVersions) → AllByRecursion (λ y. key_cmp k y ≡ Less) (keys_of entries) → given_in k entries ≡ None
none_below k [] below = refl
none_below k (e ∷ entries) below =
    ap (λ (b : Bool). if b then Some e.1 else given_in k entries) (key_ties k e.0 ∙ ap is_eq below.0) ∙ none_below k entries below.1

below_all : (k l : Key) (ks : List Key) → key_cmp k l ≡ Less → AllByRecursion (λ y. key_cmp l y ≡ Less) ks → AllByRecursion (λ y. key_cmp k y ≡ Less) ks
below_all k l [] h below = tt
below_all k l (m ∷ ks) h below = (keys_total.trans k l m h below.0, below_all k l ks h below.1)

first_kept : (e : Key × GivenVersion) (entries : GivenVersions) → given_in e.0 (e ∷ entries) ≡ Some e.1
first_kept e entries = ap (λ (b : Bool). if b then Some e.1 else given_in e.0 entries) (is_key-itself e.0)

some_none : {A : Type 0} {x : A} → Some x ≡ None → ⊥
some_none e = cc

-- the first of one is not below the first of another that keeps the same
not_below : (x y : Key × GivenVersion) (a b : GivenVersions) → AllByRecursion (λ k. key_cmp y.0 k ≡ Less) (keys_of b) → given_in x.0 (x ∷ a) ≡ given_in x.0 (y ∷ b) → key_cmp x.0 y.0 ≡ Less → ⊥
not_below x y a b above same less = some_none (sym (first_kept x a) ∙ same ∙ none_below x.0 (y ∷ b) (less, below_all x.0 y.0 (keys_of b) less above))

tail_kept : (x y : Key × GivenVersion) (a b : GivenVersions) → x ≡ y → AllByRecursion (λ k. key_cmp x.0 k ≡ Less) (keys_of a) → AllByRecursion (λ k. key_cmp y.0 k ≡ Less) (keys_of b)
    → ((k : Key) → given_in k (x ∷ a) ≡ given_in k (y ∷ b)) → (k : Key) → given_in k a ≡ given_in k b
tail_kept x y a b one above_a above_b same k = go (is_key k x.0) refl
  where
    go : (t : Bool) → is_key k x.0 ≡ t → given_in k a ≡ given_in k b
    go true e =
        let is : k ≡ x.0 = is_key-same k x.0 e in
        ap (λ (q : Key). given_in q a) is ∙ none_below x.0 a above_a
        ∙ sym (ap (λ (q : Key). given_in q b) (is ∙ ap (λ (z : Key × GivenVersion). z.0) one) ∙ none_below y.0 b above_b)
    go false e =
        sym (ap (λ (t : Bool). if t then Some x.1 else given_in k a) e) ∙ same k
        ∙ ap (λ (t : Bool). if t then Some y.1 else given_in k b) (ap (λ (z : Key × GivenVersion). is_key k z.0) (sym one) ∙ e)

same_entries : (a b : GivenVersions) → AreOrdered a → AreOrdered b → ((k : Key) → given_in k a ≡ given_in k b) → a ≡ b
unfolding IsStrictlySortedBy
same_entries [] [] p q same = refl
same_entries [] (y ∷ b) p q same = absurd (some_none (sym (first_kept y b) ∙ sym (same y.0)))
same_entries (x ∷ a) [] p q same = absurd (some_none (sym (first_kept x a) ∙ same x.0))
same_entries (x ∷ a) (y ∷ b) p q same = go (key_cmp x.0 y.0) refl (λ rest. same_entries a b p.1 q.1 rest)
  where
    go : (o : Ordering) → key_cmp x.0 y.0 ≡ o → (((k : Key) → given_in k a ≡ given_in k b) → a ≡ b) → x ∷ a ≡ y ∷ b
    go Less e rest = absurd (not_below x y a b q.0 (same x.0) e)
    go Greater e rest = absurd (not_below y x b a p.0 (sym (same y.0)) (keys_total.antisymm y.0 x.0 ∙ ap ordering_reverse e))
    go Equal e rest =
        let key : x.0 ≡ y.0 = is_key-same x.0 y.0 (key_ties x.0 y.0 ∙ ap is_eq e) in
        let found : Some x.1 ≡ Some y.1 = sym (first_kept x a) ∙ same x.0 ∙ ap (λ (q : Key). given_in q (y ∷ b)) key ∙ first_kept y b in
        let kept : x.1 ≡ y.1 = cc in
        let one : x ≡ y = λ i. (key i, kept i) in
        ap (λ (z : Key × GivenVersion). z ∷ a) one ∙ ap (λ (l : GivenVersions). y ∷ l) (rest (tail_kept x y a b one p.0 q.0 same))

-- two books in order that stand for the same airings keep the same
pub kept_once : KeptOnce
kept_once past a b p q s t = same_entries a b p q (λ k. s k ∙ sym (t k))

-- ---- what is kept was carried

-- some airing carried the last of the contents
last_carried : (k : Key) (past : List AiredTables) (c : Content) (cs : List Content) → carried k past ≡ c ∷ cs → WasCarried past k (last_of c cs)
last_carried k [] c cs e = absurd cc
last_carried k (a ∷ past) c cs e = go (content_at k a) refl e (last_carried k past)
  where
    further : (content : Content) → WasCarried past k content → WasCarried (a ∷ past) k content
    further content r = (a ∷ r.0, r.1, r.2, ap (λ (l : List AiredTables). a ∷ l) r.3, r.4)

    last : (ds : List Content) → content_at k a ≡ Some c → carried k past ≡ ds → ((d : Content) (es : List Content) → carried k past ≡ d ∷ es → WasCarried past k (last_of d es))
        → WasCarried (a ∷ past) k (last_of c ds)
    last [] here f rec = ([], a, past, refl, here)
    last (d ∷ es) here f rec = further (last_of d es) (rec d es f)

    go : (o : Option Content) → content_at k a ≡ o → cons_option o (carried k past) ≡ c ∷ cs → ((d : Content) (es : List Content) → carried k past ≡ d ∷ es → WasCarried past k (last_of d es))
        → WasCarried (a ∷ past) k (last_of c cs)
    go None here f rec = further (last_of c cs) (rec c cs f)
    go (Some d) here f rec =
        let first : d ≡ c = cc in
        let rest : carried k past ≡ cs = cc in
        last cs (here ∙ ap (λ (x : Content). Some x) first) rest rec

kept_of : (k : Key) (past : List AiredTables) (cs : List Content) (kept : GivenVersion) → carried k past ≡ cs → kept_after cs ≡ Some kept → WasCarried past k kept.content
kept_of k past [] kept e f = absurd cc
kept_of k past (c ∷ cs) kept e f =
    let same : last_of c cs ≡ kept.content = cc in
    subst (WasCarried past k) same (last_carried k past c cs e)

-- each entry is what is kept of its key
pub own_entries : (all entries : GivenVersions) → AreOrdered entries → ((k : Key) (kept : GivenVersion) → given_in k entries ≡ Some kept → given_in k all ≡ Some kept)
    → AllByRecursion (λ (e : Key × GivenVersion). given_in e.0 all ≡ Some e.1) entries
unfolding IsStrictlySortedBy
own_entries all [] p same = tt
own_entries all (e ∷ entries) p same =
    (same e.0 e.1 (first_kept e entries), own_entries all entries p.1 (λ k kept found. same k kept (behind k kept found (is_key k e.0) refl)))
  where
    behind : (k : Key) (kept : GivenVersion) → given_in k entries ≡ Some kept → (b : Bool) → is_key k e.0 ≡ b → given_in k (e ∷ entries) ≡ Some kept
    behind k kept found true is = absurd (some_none (sym found ∙ ap (λ (q : Key). given_in q entries) (is_key-same k e.0 is) ∙ none_below e.0 entries p.0))
    behind k kept found false is = ap (λ (b : Bool). if b then Some e.1 else given_in k entries) is ∙ found

all_carried : (past : List AiredTables) (all : GivenVersions) → BookStandsFor past all → (entries : GivenVersions)
    → AllByRecursion (λ (e : Key × GivenVersion). given_in e.0 all ≡ Some e.1) entries → AllByRecursion (λ (e : Key × GivenVersion). WasCarried past e.0 e.1.content) entries
all_carried past all stands [] own = tt
all_carried past all stands (e ∷ entries) own =
    (kept_of e.0 past (carried e.0 past) e.1 refl (sym (stands e.0) ∙ own.0), all_carried past all stands entries own.1)

pub kept_was_carried : KeptWasCarried
kept_was_carried past entries p stands =
    All-from_recursion (λ (e : Key × GivenVersion). WasCarried past e.0 e.1.content) entries (all_carried past entries stands entries (own_entries entries entries p (λ k kept found. found)))
