-- Which keys were completed, where it is known which can be.
use Rattle.std.proofs.Common.{◌≡◌, List, [], ◌∷◌, Bool, true, false, Option, Some, None, map, refl, sym, ap, ap₂, ◌∙◌, subst}
use Rattle.std.specs.Prelude.{cond, filter, ◌||◌}
use Rattle.std.specs.Option.{option_or}
use Rattle.std.specs.List.{AllByRecursion, Contains, list_any}
use Rattle.std.specs.List.Sorted.{IsStrictlySortedBy}
use Rattle.std.specs.Ordering.{is_eq}
use Rattle.std.specs.declared.cmp.Ordering.TheVariants.{Equal}
use Rattle.si_lists.proofs.Lists.{all_map, all_two}
use Rattle.section_codec.specs.declared.table.Key.{Key}
use Rattle.section_codec.specs.contracts.table.KeyOrd.TheImpl.Laws as key_law
use Rattle.section_codec.specs.KeyOrder.{is_key, key_cmp, in_order}
use Rattle.section_codec.proofs.KeyOrderFacts.{is_key-same, is_key-itself, key_ties}
use Rattle.sub_collect.specs.Completions.{latest_done}
use Rattle.sub_collect.specs.Laws.{is_done_of}
use Rattle.sub_collect.specs.declared.completed.Completed.{Completed}
use Rattle.guide_receiver.specs.Latest.{last_of}
use Rattle.air_laws.proofs.Ordered.{or_true, any_passes, put_are}

abbrev IsOnly : (Key → Bool) → Key → Completed → Type 0
IsOnly test k d = test d.key ≡ true → d.key ≡ k

all_same : (k : Key) (ks : List Key) → AllByRecursion (λ (q : Key). q ≡ k) ks → option_or (last_of ks) (Some k) ≡ Some k
all_same k [] all = refl
all_same k (q ∷ ks) all = go (last_of ks) refl (all_same k ks all.1)
  where
    go : (o : Option Key) → last_of ks ≡ o → option_or (last_of ks) (Some k) ≡ Some k → option_or (option_or (last_of ks) (Some q)) (Some k) ≡ Some k
    go None e rest = ap (λ (o : Option Key). option_or (option_or o (Some q)) (Some k)) e ∙ ap (λ (x : Key). Some x) all.0
    go (Some x) e rest = ap (λ (o : Option Key). option_or (option_or o (Some q)) (Some k)) e ∙ sym (ap (λ (o : Option Key). option_or o (Some k)) e) ∙ rest

-- what holds of each key that passes the test holds of those that are left
pass_with : (P : Key → Type 0) (test : Key → Bool) (ds : List Completed) → AllByRecursion (λ (d : Completed). test d.key ≡ true → P d.key) ds
    → AllByRecursion P (filter test (map (λ (d : Completed). d.key) ds))
pass_with P test [] all = tt
pass_with P test (d ∷ ds) all = go (test d.key) refl (pass_with P test ds all.1)
  where
    rest : List Key
    rest = filter test (map (λ (d : Completed). d.key) ds)

    go : (b : Bool) → test d.key ≡ b → AllByRecursion P rest → AllByRecursion P (cond (test d.key) (d.key ∷ rest) rest)
    go true e others = subst (λ (b : Bool). AllByRecursion P (cond b (d.key ∷ rest) rest)) (sym e) (all.0 e, others)
    go false e others = subst (λ (b : Bool). AllByRecursion P (cond b (d.key ∷ rest) rest)) (sym e) others

-- where one completion of the key is shown, and of keys that pass the test only of this one, it is the latest
pub only_is_latest : (test : Key → Bool) (k : Key) (ds : List Completed) → AllByRecursion (IsOnly test k) ds → test k ≡ true → (last : Completed)
    → latest_done (filter (is_done_of k) ds) ≡ Some last → last_of (filter test (map (λ (d : Completed). d.key) ds)) ≡ Some k
only_is_latest test k [] all passes last e = cc
only_is_latest test k (d ∷ ds) all passes last e = go (test d.key) refl (λ f. only_is_latest test k ds all.1 passes last f)
  where
    rest : List Key
    rest = filter test (map (λ (d : Completed). d.key) ds)

    other : test d.key ≡ false → (b : Bool) → is_key d.key k ≡ b → latest_done (filter (is_done_of k) ds) ≡ Some last
    other f true g =
        let both : true ≡ false = sym passes ∙ ap test (sym (is_key-same d.key k g)) ∙ f in
        absurd (let z : Prim.⊥ = cc in z)
    other f false g = ap (λ (b : Bool). latest_done (cond b (d ∷ filter (is_done_of k) ds) (filter (is_done_of k) ds))) (sym g) ∙ e

    go : (b : Bool) → test d.key ≡ b → (latest_done (filter (is_done_of k) ds) ≡ Some last → last_of rest ≡ Some k) → last_of (cond (test d.key) (d.key ∷ rest) rest) ≡ Some k
    go true f later =
        ap (λ (b : Bool). last_of (cond b (d.key ∷ rest) rest)) f ∙ ap (λ (q : Key). option_or (last_of rest) (Some q)) (all.0 f)
        ∙ all_same k rest (pass_with (λ (q : Key). q ≡ k) test ds all.1)
    go false f later = ap (λ (b : Bool). last_of (cond b (d.key ∷ rest) rest)) f ∙ later (other f (is_key d.key k) refl)

-- ---- of several keys

-- one completion of the key is shown
abbrev pub IsShown : List Completed → Key → Type 0
IsShown ds k = (last : Completed) × (latest_done (filter (is_done_of k) ds) ≡ Some last)

-- so it is among the keys that are left
stays_shown : (test : Key → Bool) (k : Key) → test k ≡ true → (ds : List Completed) (last : Completed) → latest_done (filter (is_done_of k) ds) ≡ Some last
    → list_any (λ (x : Key). is_key x k) (filter test (map (λ (d : Completed). d.key) ds)) ≡ true
stays_shown test k passes [] last e = cc
stays_shown test k passes (d ∷ ds) last e = go (is_key d.key k) refl e (stays_shown test k passes ds last)
  where
    rest : List Key
    rest = filter test (map (λ (d : Completed). d.key) ds)

    either : (b : Bool) → list_any (λ (x : Key). is_key x k) rest ≡ true → list_any (λ (x : Key). is_key x k) (cond b (d.key ∷ rest) rest) ≡ true
    either true f = or_true (is_key d.key k) (list_any (λ (x : Key). is_key x k) rest) f
    either false f = f

    go : (b : Bool) → is_key d.key k ≡ b → latest_done (cond b (d ∷ filter (is_done_of k) ds) (filter (is_done_of k) ds)) ≡ Some last
        → (latest_done (filter (is_done_of k) ds) ≡ Some last → list_any (λ (x : Key). is_key x k) rest ≡ true)
        → list_any (λ (x : Key). is_key x k) (cond (test d.key) (d.key ∷ rest) rest) ≡ true
    go true f g later =
        ap (λ (b : Bool). list_any (λ (x : Key). is_key x k) (cond b (d.key ∷ rest) rest)) (ap test (is_key-same d.key k f) ∙ passes)
        ∙ ap (λ (b : Bool). b || list_any (λ (x : Key). is_key x k) rest) f
    go false f g later = either (test d.key) (later g)

ties_any : (k : Key) (xs : List Key) → list_any (λ (x : Key). is_eq (key_cmp x k)) xs ≡ list_any (λ (x : Key). is_key x k) xs
ties_any k [] = refl
ties_any k (x ∷ xs) = ap₂ (λ (a b : Bool). a || b) (sym (key_ties x k)) (ties_any k xs)

tied_same : (x y : Key) → key_cmp x y ≡ Equal → x ≡ y
tied_same x y e = is_key-same x y (key_ties x y ∙ ap is_eq e)

-- Where the keys that pass the test are of these, and a completion of each of these is shown, they are these.
pub ordered_are : (test : Key → Bool) (ks : List Key) (ds : List Completed) → IsStrictlySortedBy key_cmp ks
    → AllByRecursion (λ (d : Completed). test d.key ≡ true → Contains ks d.key) ds
    → AllByRecursion (λ (k : Key). test k ≡ true) ks → AllByRecursion (IsShown ds) ks
    → in_order (filter test (map (λ (d : Completed). d.key) ds)) ≡ ks
ordered_are test ks ds up only pass shown =
    put_are key_cmp key_law.total-law tied_same (filter test (map (λ (d : Completed). d.key) ds)) ks up
    (all_map (Contains ks) (λ (x : Key). list_any (λ (k : Key). is_eq (key_cmp x k)) ks ≡ true) one_of (filter test (map (λ (d : Completed). d.key) ds)) (pass_with (Contains ks) test ds only))
    (all_two (λ (k : Key). test k ≡ true) (IsShown ds) (λ (k : Key). list_any (λ (x : Key). is_eq (key_cmp x k)) (filter test (map (λ (d : Completed). d.key) ds)) ≡ true) is_left ks pass shown)
  where
    one_of : (x : Key) → Contains ks x → list_any (λ (k : Key). is_eq (key_cmp x k)) ks ≡ true
    one_of x there = any_passes (λ (k : Key). is_eq (key_cmp x k)) ks x (sym (key_ties x x) ∙ is_key-itself x) there

    is_left : (k : Key) → test k ≡ true → IsShown ds k → list_any (λ (x : Key). is_eq (key_cmp x k)) (filter test (map (λ (d : Completed). d.key) ds)) ≡ true
    is_left k passes last =
        ties_any k (filter test (map (λ (d : Completed). d.key) ds)) ∙ stays_shown test k passes ds last.0 last.1
