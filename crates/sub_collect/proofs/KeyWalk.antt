-- The keys of a PID, one after the other, as a mark meets them.
use Rattle.std.proofs.Common.{◌≡◌, ◌≢◌, ℕ, ◌<◌, ◌≤◌, List, [], ◌∷◌, Bool, true, false, ◌&&◌, ◌||◌, cond, not, length, refl, sym, ap, ap₂, ◌∙◌, subst, eq-eqb, eqb-true, arith}
use Rattle.std.specs.Prelude.{◌==◌, filter, slice_get, Option, Some, None, is_some, IsSome, IfSome, option_map, MatchOption}
use Rattle.std.specs.declared.cmp.Ordering.{Ordering}
use Rattle.std.specs.declared.cmp.Ordering.TheVariants.{Less, Equal, Greater}
use Rattle.std.specs.declared.ops.Bound.{Bound}
use Rattle.std.specs.declared.ops.Bound.TheVariants.{Included, Excluded, Unbounded}
use Rattle.std.specs.Ordering.{is_lt, is_gt, is_eq, nat_cmp, ordering_then, MatchOrdering}
use Rattle.std.specs.Cmp.{IsTotalOrder}
use Rattle.std.specs.BTreeMap.{BTreeMap, get}
use Rattle.std.specs.BTreeMap.Range.{IsFromStart, IsRangeOf}
use Rattle.std.specs.Map.{keys_of, lookup}
use Rattle.std.proofs.lemmas.Bool.{and_parts, and_from}
use Rattle.std.proofs.lemmas.Cmp.{nat_cmp_total, on_total, then_total, tied_itself, ranked}
use Rattle.section_codec.specs.declared.table.Key.{Key}
use Rattle.section_codec.specs.KeyOrder.{is_key, key_cmp}
use Rattle.section_codec.proofs.KeyOrderFacts.{is_key-same, is_key-apart, key_ties}
use Rattle.sub_collect.specs.Collectors.{KeyHeard, KeysHeard, kept_in, forgotten, forgotten_if}
use Rattle.sub_collect.specs.KeyWalk.{is_after, HasNoKeyAfter, IsNextKey, BeginsAfter}
use Rattle.sub_collect.specs.Slots.{kept_by, shown}
use Rattle.sub_collect.specs.declared.collector.KeySlot.{KeySlot}
use Rattle.sub_collect.proofs.Keys.{kept_in-shown}

never : {A : Type 0} → true ≡ false → A
never e = absurd (let z : Prim.⊥ = cc in z)

-- ---- the order of keys

keys_total : IsTotalOrder key_cmp
keys_total =
    then_total (on_total (λ (k : Key). k.pid) nat_cmp_total) (
    then_total (on_total (λ (k : Key). k.table) nat_cmp_total) (
    then_total (on_total (λ (k : Key). k.ext) nat_cmp_total) (
    then_total (on_total (λ (k : Key). k.stream) nat_cmp_total) (on_total (λ (k : Key). k.network) nat_cmp_total))))

less : (o : Ordering) → is_lt o ≡ true → o ≡ Less
less Less e = refl
less Equal e = never (sym e)
less Greater e = never (sym e)

-- keys come in the order of their PIDs
pid_rises : (a b : Key) → is_gt (key_cmp a b) ≡ false → a.pid ≤ b.pid
pid_rises a b le = go (nat_cmp a.pid b.pid) (ranked a.pid b.pid (nat_cmp a.pid b.pid) refl) le
  where
    go : (o : Ordering) → MatchOrdering o (a.pid < b.pid) (a.pid ≡ b.pid) (b.pid < a.pid)
        → is_gt (ordering_then o (ordering_then (nat_cmp a.table b.table) (ordering_then (nat_cmp a.ext b.ext) (ordering_then (nat_cmp a.stream b.stream) (nat_cmp a.network b.network))))) ≡ false
        → a.pid ≤ b.pid
    go Less m h = omega (arith, m)
    go Equal m h = omega (arith, m)
    go Greater m h = never h

-- ---- the start of a range

pub all_of_pid : (pid : ℕ) (first : Key) → first.pid ≡ pid
    → ((k : Key) → k.pid ≡ pid → is_gt (key_cmp first k) ≡ false) → BeginsAfter pid None (Included first)
all_of_pid pid first its least = record {
  has = λ k after. least k (eqb-true k.pid pid after);
  least = λ k from. subst (λ (n : ℕ). n ≤ k.pid) its (pid_rises first k from);
  own = λ k from same. eq-eqb k.pid pid same;
}

pub later_of_pid : (pid : ℕ) (last : Key) → last.pid ≡ pid → BeginsAfter pid (Some last) (Excluded last)
later_of_pid pid last its = record {
  has = λ k after. less (key_cmp last k) (and_parts (k.pid == pid) (is_lt (key_cmp last k)) after).1;
  least = λ k from. subst (λ (n : ℕ). n ≤ k.pid) its (pid_rises last k (ap is_gt from));
  own = λ k from same. and_from (k.pid == pid) (is_lt (key_cmp last k)) (eq-eqb k.pid pid same) (ap is_lt from);
}

-- ---- what a range begins with

module _ (pid : ℕ) (last : Option Key) (start : Bound Key) (begins : BeginsAfter pid last start)
    (m : BTreeMap Key KeySlot) (r : List (Key × KeySlot)) (is : IsRangeOf key_cmp start Unbounded m r) where
  kept_of : (k : Key) (o : Option KeySlot) → get key_cmp m k ≡ o → kept_in k (shown m.entries) ≡ option_map kept_by o
  kept_of k o e = kept_in-shown k m.entries ∙ ap (option_map kept_by) e

  has_slot : (k : Key) → IsSome (kept_in k (shown m.entries)) → IsSome (get key_cmp m k)
  has_slot k some = go (get key_cmp m k) refl
    where
      go : (o : Option KeySlot) → get key_cmp m k ≡ o → is_some o ≡ true
      go None e = never (sym some ∙ ap is_some (kept_of k None e))
      go (Some slot) e = refl

  at_first : (e : Key × KeySlot) (t : List (Key × KeySlot)) → r ≡ e ∷ t → slice_get r 0 ≡ Some e
  at_first e t cut = ap (λ (l : List (Key × KeySlot)). slice_get l 0) cut

  from_first : (e : Key × KeySlot) (t : List (Key × KeySlot)) → r ≡ e ∷ t → IsFromStart key_cmp start e.0
  from_first e t cut =
      (subst (λ (o : Option (Key × KeySlot)). IfSome o (λ x. (IsFromStart key_cmp start x.0 × Unit {0}) × (get key_cmp m x.0 ≡ Some x.1))) (at_first e t cut) is.1).0.0

  from_on : (e : Key × KeySlot) (t : List (Key × KeySlot)) → r ≡ e ∷ t → (k : Key) → IsSome (kept_in k (shown m.entries)) → is_after pid last k ≡ true
      → is_gt (key_cmp e.0 k) ≡ false
  from_on e t cut k some after =
      subst (λ (o : Option (Key × KeySlot)). IfSome o (λ x. is_gt (key_cmp x.0 k) ≡ false)) (at_first e t cut) (is.2 k (begins.has k after, tt) (has_slot k some))

  pub none_is_left : r ≡ [] → HasNoKeyAfter pid last (shown m.entries)
  none_is_left empty k some = go (is_after pid last k) refl
    where
      go : (b : Bool) → is_after pid last k ≡ b → is_after pid last k ≡ false
      go true e = never (sym some ∙ ap is_some (kept_of k None (is.5 empty k (begins.has k e, tt))))
      go false e = e

  pub next_is_first : (e : Key × KeySlot) (t : List (Key × KeySlot)) → r ≡ e ∷ t → e.0.pid ≡ pid → IsNextKey pid last (shown m.entries) e.0
  next_is_first e t cut own = record {
    there = ap is_some (kept_of e.0 (Some e.1) (subst (λ (o : Option (Key × KeySlot)). IfSome o (λ x. (IsFromStart key_cmp start x.0 × Unit {0}) × (get key_cmp m x.0 ≡ Some x.1))) (at_first e t cut) is.1).1);
    after = begins.own e.0 (from_first e t cut) own;
    first = from_on e t cut;
  }

  pub others_are_left : (e : Key × KeySlot) (t : List (Key × KeySlot)) → r ≡ e ∷ t → (e.0.pid ≡ pid → Prim.⊥) → HasNoKeyAfter pid last (shown m.entries)
  others_are_left e t cut other k some = go (is_after pid last k) refl
    where
      pid_of : (l : Option Key) → is_after pid l k ≡ true → k.pid ≡ pid
      pid_of None a = eqb-true k.pid pid a
      pid_of (Some key) a = eqb-true k.pid pid (and_parts (k.pid == pid) (is_lt (key_cmp key k)) a).0

      go : (b : Bool) → is_after pid last k ≡ b → is_after pid last k ≡ false
      go true a =
          let up = pid_rises e.0 k (from_on e t cut k some a) in
          let down = begins.least e.0 (from_first e t cut) in
          let its = pid_of last a in
          absurd (other (omega (arith, up, down, its)))
      go false a = a

-- ---- one key

-- a key that had a section is forgotten
pub forgotten-put : (key q : Key) (before after : KeyHeard) (es : KeysHeard) → kept_in key es ≡ Some before → after ≡ forgotten before
    → cond (is_key key q) (Some after) (kept_in q es) ≡ forgotten_if (is_key key q) (kept_in q es)
forgotten-put key q before after es found is = go (is_key key q) refl
  where
    other : (o : Option KeyHeard) → o ≡ forgotten_if false o
    other None = refl
    other (Some kept) = refl

    go : (b : Bool) → is_key key q ≡ b → cond b (Some after) (kept_in q es) ≡ forgotten_if b (kept_in q es)
    go true e = ap Some is ∙ ap (forgotten_if true) (sym found ∙ ap (λ (k : Key). kept_in k es) (is_key-same key q e))
    go false e = other (kept_in q es)

-- of a key that had none there is nothing to forget
pub forgotten-none : (key q : Key) (es : KeysHeard) → kept_in key es ≡ None → kept_in q es ≡ forgotten_if (is_key key q) (kept_in q es)
forgotten-none key q es none = go (is_key key q) refl
  where
    other : (o : Option KeyHeard) → o ≡ forgotten_if false o
    other None = refl
    other (Some kept) = refl

    go : (b : Bool) → is_key key q ≡ b → kept_in q es ≡ forgotten_if b (kept_in q es)
    go true e =
        let own : kept_in q es ≡ None = ap (λ (k : Key). kept_in k es) (sym (is_key-same key q e)) ∙ none in
        own ∙ sym (ap (forgotten_if true) own)
    go false e = other (kept_in q es)

pub keys_of-shown : (es : List (Key × KeySlot)) → keys_of (shown es) ≡ keys_of es
keys_of-shown [] = refl
keys_of-shown (e ∷ es) = ap (λ (l : List Key). e.0 ∷ l) (keys_of-shown es)

-- ---- one key more

module _ (pid : ℕ) (last : Option Key) (now : KeysHeard) (key : Key) (next : IsNextKey pid last now key) where
  -- what comes after the next key comes after the last one
  later : (l : Option Key) → is_after pid l key ≡ true → (k : Key) → is_after pid (Some key) k ≡ true → is_after pid l k ≡ true
  later None a k b = (and_parts (k.pid == pid) (is_lt (key_cmp key k)) b).0
  later (Some before) a k b =
      let its = and_parts (key.pid == pid) (is_lt (key_cmp before key)) a in
      let own = and_parts (k.pid == pid) (is_lt (key_cmp key k)) b in
      and_from (k.pid == pid) (is_lt (key_cmp before k)) own.0
      (ap is_lt (keys_total.trans before key k (less (key_cmp before key) its.1) (less (key_cmp key k) own.1)))

  of_pid : (l : Option Key) → is_after pid l key ≡ true → (key.pid == pid) ≡ true
  of_pid None a = a
  of_pid (Some before) a = (and_parts (key.pid == pid) (is_lt (key_cmp before key)) a).0

  pub next-pid : key.pid ≡ pid
  next-pid = eqb-true key.pid pid (of_pid last next.after)

  -- fewer keys are left
  fewer : (p q : Key → Bool) → ((k : Key) → q k ≡ true → p k ≡ true) → (ks : List Key) → length (filter q ks) ≤ length (filter p ks)
  fewer p q sub [] = omega arith
  fewer p q sub (k ∷ ks) = go (q k) (p k) (sub k) (fewer p q sub ks)
    where
      go : (a b : Bool) → (a ≡ true → b ≡ true) → length (filter q ks) ≤ length (filter p ks) → length (cond a (k ∷ filter q ks) (filter q ks)) ≤ length (cond b (k ∷ filter p ks) (filter p ks))
      go true true s rec = omega (arith, rec)
      go true false s rec = never (sym (s refl))
      go false true s rec = omega (arith, rec)
      go false false s rec = rec

  fewer_still : (p q : Key → Bool) → ((k : Key) → q k ≡ true → p k ≡ true) → p key ≡ true → q key ≡ false → (es : KeysHeard) → IsSome (kept_in key es)
      → length (filter q (keys_of es)) < length (filter p (keys_of es))
  fewer_still p q sub its own [] some = never (sym some)
  fewer_still p q sub its own (e ∷ es) some = go (is_key key e.0) refl some (fewer_still p q sub its own es)
    where
      here : (a b : Bool) → a ≡ false → b ≡ true → length (filter q (keys_of es)) ≤ length (filter p (keys_of es))
          → length (cond a (e.0 ∷ filter q (keys_of es)) (filter q (keys_of es))) < length (cond b (e.0 ∷ filter p (keys_of es)) (filter p (keys_of es)))
      here true b h i rec = never h
      here false true h i rec = omega (arith, rec)
      here false false h i rec = never (sym i)

      there : (a b : Bool) → (a ≡ true → b ≡ true) → length (filter q (keys_of es)) < length (filter p (keys_of es))
          → length (cond a (e.0 ∷ filter q (keys_of es)) (filter q (keys_of es))) < length (cond b (e.0 ∷ filter p (keys_of es)) (filter p (keys_of es)))
      there true true s rec = omega (arith, rec)
      there true false s rec = never (sym (s refl))
      there false true s rec = omega (arith, rec)
      there false false s rec = rec

      go : (b : Bool) → is_key key e.0 ≡ b → is_some (cond b (Some e.1) (kept_in key es)) ≡ true
          → (IsSome (kept_in key es) → length (filter q (keys_of es)) < length (filter p (keys_of es)))
          → length (filter q (keys_of (e ∷ es))) < length (filter p (keys_of (e ∷ es)))
      go true same kept rec =
          let is : e.0 ≡ key = sym (is_key-same key e.0 same) in
          here (q e.0) (p e.0) (ap q is ∙ own) (ap p is ∙ its) (fewer p q sub (keys_of es))
      go false other kept rec = there (q e.0) (p e.0) (sub e.0) (rec kept)

  false_and : (b : Bool) → (b && false) ≡ false
  false_and true = refl
  false_and false = refl

  pub fewer_are_left : length (filter (is_after pid (Some key)) (keys_of now)) < length (filter (is_after pid last) (keys_of now))
  fewer_are_left =
      fewer_still (is_after pid last) (is_after pid (Some key)) (later last next.after) next.after
      (ap (λ (o : Ordering). key.pid == pid && is_lt o) (tied_itself keys_total key) ∙ false_and (key.pid == pid)) now next.there

  -- the next key is forgotten, and with it all up to it are
  met : (q : Key) → IsSome (kept_in q now) → (is_key key q || (q.pid == pid && not (is_after pid last q))) ≡ (q.pid == pid && not (is_after pid (Some key) q))
  met q some = go (q.pid == pid) refl (key_cmp key q) refl
    where
      apart : (q.pid == pid) ≡ false → is_key key q ≡ false
      apart e = is_key-apart key q (λ (same : key ≡ q). never (sym (of_pid last next.after) ∙ ap (λ (k : Key). k.pid == pid) same ∙ e))

      passed : is_gt (key_cmp key q) ≡ true → (b : Bool) → is_after pid last q ≡ b → is_after pid last q ≡ false
      passed g true a = never (sym g ∙ next.first q some a)
      passed g false a = a

      go : (b : Bool) → (q.pid == pid) ≡ b → (o : Ordering) → key_cmp key q ≡ o → (is_key key q || (b && not (is_after pid last q))) ≡ (b && not (b && is_lt o))
      go false e o f = ap (λ (x : Bool). x || false) (apart e)
      go true e Less f =
          ap₂ (λ (x y : Bool). x || (true && not y)) (key_ties key q ∙ ap is_eq f)
          (later last next.after q (and_from (q.pid == pid) (is_lt (key_cmp key q)) e (ap is_lt f)))
      go true e Equal f = ap (λ (x : Bool). x || (true && not (is_after pid last q))) (key_ties key q ∙ ap is_eq f)
      go true e Greater f =
          ap₂ (λ (x y : Bool). x || (true && not y)) (key_ties key q ∙ ap is_eq f) (passed (ap is_gt f) (is_after pid last q) refl)

  twice : (a b : Bool) (o : Option KeyHeard) → forgotten_if a (forgotten_if b o) ≡ forgotten_if (a || b) o
  twice a b None = refl
  twice true true (Some kept) = refl
  twice true false (Some kept) = refl
  twice false true (Some kept) = refl
  twice false false (Some kept) = refl

  pub one_more_is_forgotten : (old new : KeysHeard)
      → ((q : Key) → kept_in q now ≡ forgotten_if (q.pid == pid && not (is_after pid last q)) (kept_in q old))
      → ((q : Key) → kept_in q new ≡ forgotten_if (is_key key q) (kept_in q now))
      → (q : Key) → kept_in q new ≡ forgotten_if (q.pid == pid && not (is_after pid (Some key) q)) (kept_in q old)
  one_more_is_forgotten old new before here q =
      here q ∙ ap (forgotten_if (is_key key q)) (before q) ∙ twice (is_key key q) (q.pid == pid && not (is_after pid last q)) (kept_in q old)
      ∙ go (kept_in q old) (before q)
    where
      go : (o : Option KeyHeard) → kept_in q now ≡ forgotten_if (q.pid == pid && not (is_after pid last q)) o
          → forgotten_if (is_key key q || (q.pid == pid && not (is_after pid last q))) o ≡ forgotten_if (q.pid == pid && not (is_after pid (Some key) q)) o
      go None e = refl
      go (Some kept) e = ap (λ (b : Bool). forgotten_if b (Some kept)) (met q (ap is_some e))

-- ---- before the first key, and after the last one

left_whole : (b : Bool) (o : Option KeyHeard) → o ≡ forgotten_if (b && not b) o
left_whole b None = refl
left_whole true (Some kept) = refl
left_whole false (Some kept) = refl

pub none_is_forgotten : (pid : ℕ) (old : KeysHeard) (q : Key) → kept_in q old ≡ forgotten_if (q.pid == pid && not (is_after pid None q)) (kept_in q old)
none_is_forgotten pid old q = left_whole (q.pid == pid) (kept_in q old)

pub all_are_forgotten : (pid : ℕ) (last : Option Key) (old now : KeysHeard) → HasNoKeyAfter pid last now
    → ((q : Key) → kept_in q now ≡ forgotten_if (q.pid == pid && not (is_after pid last q)) (kept_in q old))
    → (q : Key) → kept_in q now ≡ forgotten_if (q.pid == pid) (kept_in q old)
all_are_forgotten pid last old now none forgot q = forgot q ∙ go (kept_in q old) (forgot q)
  where
    and_true : (b : Bool) → (b && true) ≡ b
    and_true true = refl
    and_true false = refl

    go : (o : Option KeyHeard) → kept_in q now ≡ forgotten_if (q.pid == pid && not (is_after pid last q)) o
        → forgotten_if (q.pid == pid && not (is_after pid last q)) o ≡ forgotten_if (q.pid == pid) o
    go None e = refl
    go (Some kept) e =
        ap (λ (b : Bool). forgotten_if b (Some kept)) (ap (λ (b : Bool). q.pid == pid && not b) (none q (ap is_some e)) ∙ and_true (q.pid == pid))
