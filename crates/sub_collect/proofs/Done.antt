-- Completions, one section more.
use Rattle.std.proofs.Common.{◌≡◌, List, [], ◌∷◌, ◌++◌, Bool, true, false, ◌==◌, refl, sym, ap, ◌∙◌, append_assoc, append-nil, eq-eqb, eqb-true}
use Rattle.std.specs.Prelude.{if◌then◌else◌, cond, filter, Option, Some, None, option_map, option_to_list}
use Rattle.std.specs.Option.{option_or}
use Rattle.std.specs.List.{cons_option, AllByRecursion}
use Rattle.std.proofs.lemmas.List.Elements.{filter-append}
use Rattle.std.proofs.lemmas.Bool.{and_parts, and_from}
use Rattle.section_codec.specs.declared.table.Key.{Key}
use Rattle.section_codec.specs.KeyOrder.{is_key}
use Rattle.section_codec.proofs.SameContent.{is_content-same, is_content-itself}
use Rattle.section_codec.proofs.KeyOrderFacts.{is_key-same, is_key-itself}
use Rattle.section_codec.specs.Contents.{Content, is_content}
use Rattle.sub_collect.specs.Runs.{Counted, latest_section, completed}
use Rattle.sub_collect.specs.Completions.{is_of, IsOfKey, of_key, done_at, completion_at, completion, completions, latest_done, latest_of, repeats, shown_after, shown_at, dones}
use Rattle.sub_collect.specs.Laws.{is_done_of, KeysApart, LatestApart, LatestIsShown, DonesGoOn, DonesOneMore, LatestOneMore}
use Rattle.sub_collect.specs.declared.completed.Completed.{Completed}
use Rattle.sub_collect.proofs.Runs.{latest-push}

-- ---- the last of completions

cons_nil : (o : Option Completed) → cons_option o [] ≡ option_to_list o
cons_nil None = refl
cons_nil (Some d) = refl

cons_append : (o : Option Completed) (xs ys : List Completed) → cons_option o (xs ++ ys) ≡ cons_option o xs ++ ys
cons_append None xs ys = refl
cons_append (Some d) xs ys = refl

latest_done-behind : (ds : List Completed) (o : Option Completed) → latest_done (ds ++ option_to_list o) ≡ option_or o (latest_done ds)
latest_done-behind [] None = refl
latest_done-behind [] (Some x) = refl
latest_done-behind (d ∷ []) None = refl
latest_done-behind (d ∷ []) (Some x) = refl
latest_done-behind (d ∷ e ∷ ds) None = latest_done-behind (e ∷ ds) None
latest_done-behind (d ∷ e ∷ ds) (Some x) = latest_done-behind (e ∷ ds) (Some x)

latest_done-front : (o : Option Completed) (ds : List Completed) → latest_done (cons_option o ds) ≡ option_or (latest_done ds) o
latest_done-front None ds = go (latest_done ds)
  where
    go : (p : Option Completed) → p ≡ option_or p None
    go None = refl
    go (Some d) = refl
latest_done-front (Some d) [] = refl
latest_done-front (Some d) (e ∷ ds) = go e ds
  where
    some : (e : Completed) (ds : List Completed) → (x : Completed) × (latest_done (e ∷ ds) ≡ Some x)
    some e [] = (e, refl)
    some e (f ∷ ds) = some f ds

    go : (e : Completed) (ds : List Completed) → latest_done (e ∷ ds) ≡ option_or (latest_done (e ∷ ds)) (Some d)
    go e ds =
        let s = some e ds in
        s.1 ∙ ap (λ (o : Option Completed). option_or o (Some d)) (sym s.1)

-- ---- sections of one key

completions-push : (before ss : List Counted) (s : Counted) → completions before (ss ++ s ∷ []) ≡ completions before ss ++ option_to_list (completion ((before ++ ss) ++ s ∷ []))
completions-push before [] s =
    cons_nil (completion (before ++ s ∷ []))
    ∙ ap (λ (l : List Counted). option_to_list (completion (l ++ s ∷ []))) (sym (append-nil before))
completions-push before (x ∷ ss) s =
    ap (cons_option (completion (before ++ x ∷ []))) (completions-push (before ++ x ∷ []) ss s)
    ∙ cons_append (completion (before ++ x ∷ [])) (completions (before ++ x ∷ []) ss) (option_to_list (completion (((before ++ x ∷ []) ++ ss) ++ s ∷ [])))
    ∙ ap (λ (l : List Counted). completions before (x ∷ ss) ++ option_to_list (completion (l ++ s ∷ []))) (append_assoc before (x ∷ []) ss)

-- the latest completion of sections of one key, one section more
pub latest-more : (heard : List Counted) (s : Counted) → latest_done (completions [] (heard ++ s ∷ [])) ≡ option_or (completion (heard ++ s ∷ [])) (latest_done (completions [] heard))
latest-more heard s = ap latest_done (completions-push [] heard s) ∙ latest_done-behind (completions [] heard) (completion (heard ++ s ∷ []))

-- the completion at the last of some sections is the latest one
latest-whole_from : (before : List Counted) (s : Counted) (ss : List Counted) (d : Completed) → completion (before ++ s ∷ ss) ≡ Some d → latest_done (completions before (s ∷ ss)) ≡ Some d
latest-whole_from before s [] d e = ap (λ (o : Option Completed). latest_done (cons_option o [])) e
latest-whole_from before s (t ∷ ss) d e =
    latest_done-front (completion (before ++ s ∷ [])) (completions (before ++ s ∷ []) (t ∷ ss))
    ∙ ap (λ (o : Option Completed). option_or o (completion (before ++ s ∷ []))) (latest-whole_from (before ++ s ∷ []) t ss d (ap completion (append_assoc before (s ∷ []) (t ∷ ss)) ∙ e))

pub latest-whole : (heard : List Counted) (d : Completed) → completion heard ≡ Some d → latest_done (completions [] heard) ≡ Some d
latest-whole [] d e = cc
latest-whole (s ∷ heard) d e = latest-whole_from [] s heard d e

-- the completion at a section
pub completion-push : (heard : List Counted) (s : Counted) → completion (heard ++ s ∷ []) ≡ option_map (done_at s) (completed (heard ++ s ∷ []))
completion-push heard s = ap (λ (o : Option Counted). completion_at o (completed (heard ++ s ∷ []))) (latest-push heard s)

pub done_key : (s : Counted) (o : Option Content) (d : Completed) → option_map (done_at s) o ≡ Some d → d.key ≡ s.key
done_key s None d e = cc
done_key s (Some c) d e =
    let f : done_at s c ≡ d = cc in
    ap (λ (x : Completed). x.key) (sym f)

all-push : (k : Key) (xs : List Counted) (s : Counted) → AllByRecursion (IsOfKey k) xs → s.key ≡ k → AllByRecursion (IsOfKey k) (xs ++ s ∷ [])
all-push k [] s all e = (e, tt)
all-push k (x ∷ xs) s all e = (all.0, all-push k xs s all.1 e)

pub latest-key : (k : Key) (xs : List Counted) (t : Counted) → AllByRecursion (IsOfKey k) xs → latest_section xs ≡ Some t → t.key ≡ k
latest-key k [] t all e = cc
latest-key k (x ∷ []) t all e =
    let f : x ≡ t = cc in
    ap (λ (s : Counted). s.key) (sym f) ∙ all.0
latest-key k (x ∷ y ∷ xs) t all e = latest-key k (y ∷ xs) t all.1 e

-- completions of sections of a key have it
latest_done-key_from : (k : Key) (before ss : List Counted) (d : Completed) → AllByRecursion (IsOfKey k) ss → latest_done (completions before ss) ≡ Some d → d.key ≡ k
latest_done-key_from k before [] d all e = cc
latest_done-key_from k before (s ∷ ss) d all e =
    go (latest_done (completions (before ++ s ∷ []) ss)) refl (sym (latest_done-front (completion (before ++ s ∷ [])) (completions (before ++ s ∷ []) ss)) ∙ e)
    (λ (f : latest_done (completions (before ++ s ∷ []) ss) ≡ Some d). latest_done-key_from k (before ++ s ∷ []) ss d all.1 f)
  where
    go : (o : Option Completed) → latest_done (completions (before ++ s ∷ []) ss) ≡ o → option_or (latest_done (completions (before ++ s ∷ []) ss)) (completion (before ++ s ∷ [])) ≡ Some d
        → (latest_done (completions (before ++ s ∷ []) ss) ≡ Some d → d.key ≡ k) → d.key ≡ k
    go None f g rec =
        let h : completion (before ++ s ∷ []) ≡ Some d = ap (λ (p : Option Completed). option_or p (completion (before ++ s ∷ []))) (sym f) ∙ g in
        done_key s (completed (before ++ s ∷ [])) d (sym (completion-push before s) ∙ h) ∙ all.0
    go (Some x) f g rec = rec (f ∙ ap (λ (p : Option Completed). option_or p (completion (before ++ s ∷ []))) (sym f) ∙ g)

pub latest_done-key : (k : Key) (heard : List Counted) (d : Completed) → AllByRecursion (IsOfKey k) heard → latest_done (completions [] heard) ≡ Some d → d.key ≡ k
latest_done-key k heard d all e = latest_done-key_from k [] heard d all e

-- ---- repeated completions

pub repeats-itself : (d : Completed) → repeats d d ≡ true
repeats-itself d = and_from (d.version == d.version) (is_content d.sections d.sections) (eq-eqb d.version d.version refl) (is_content-itself d.sections)

pub repeats-same : (a b : Completed) → a.key ≡ b.key → repeats a b ≡ true → a ≡ b
repeats-same a b k e =
    let p = and_parts (a.version == b.version) (is_content a.sections b.sections) e in
    let v : a.version ≡ b.version = eqb-true a.version b.version p.0 in
    let c : a.sections ≡ b.sections = is_content-same a.sections b.sections p.1 in
    λ i. record { key = k i; version = v i; sections = c i }

-- ---- the sections of a key

pub of_key-one : (k : Key) (past : List Counted) (s : Counted) → s.key ≡ k → of_key k (past ++ s ∷ []) ≡ of_key k past ++ s ∷ []
of_key-one k past s e =
    filter-append (is_of k) past (s ∷ [])
    ∙ ap (λ (b : Bool). of_key k past ++ cond b (s ∷ []) []) (ap (λ (q : Key). is_key q k) e ∙ is_key-itself k)

pub of_key-other : (k : Key) (past : List Counted) (s : Counted) → is_of k s ≡ false → of_key k (past ++ s ∷ []) ≡ of_key k past
of_key-other k past s e =
    filter-append (is_of k) past (s ∷ [])
    ∙ ap (λ (b : Bool). of_key k past ++ cond b (s ∷ []) []) e
    ∙ append-nil (of_key k past)

pub of_key-all : (k : Key) (ss : List Counted) → AllByRecursion (IsOfKey k) (of_key k ss)
of_key-all k [] = tt
of_key-all k (s ∷ ss) = go (is_of k s) refl (of_key-all k ss)
  where
    go : (b : Bool) → is_of k s ≡ b → AllByRecursion (IsOfKey k) (of_key k ss) → AllByRecursion (IsOfKey k) (cond b (s ∷ of_key k ss) (of_key k ss))
    go true e rest = (is_key-same s.key k e, rest)
    go false e rest = rest

of_key-same : (k : Key) (ss : List Counted) → AllByRecursion (IsOfKey k) ss → of_key k ss ≡ ss
of_key-same k [] all = refl
of_key-same k (s ∷ ss) all =
    ap (λ (b : Bool). cond b (s ∷ of_key k ss) (of_key k ss)) (ap (λ (q : Key). is_key q k) all.0 ∙ is_key-itself k)
    ∙ ap (λ (l : List Counted). s ∷ l) (of_key-same k ss all.1)

of_key-twice : (k : Key) (ss : List Counted) → of_key k (of_key k ss) ≡ of_key k ss
of_key-twice k ss = of_key-same k (of_key k ss) (of_key-all k ss)

-- what a section shows, by the sections of its key
pub shown_at-is : (past : List Counted) (s : Counted) → shown_at past s ≡ shown_after (latest_of s.key past) (completion (of_key s.key past ++ s ∷ []))
shown_at-is past s = ap (λ (l : List Counted). shown_after (latest_of s.key past) (completion l)) (of_key-one s.key past s refl)

shown-is : (o p : Option Completed) (d : Completed) → shown_after o p ≡ Some d → p ≡ Some d
shown-is None None d e = cc
shown-is (Some b) None d e = cc
shown-is None (Some x) d e = e
shown-is (Some b) (Some x) d e = go (repeats b x) e
  where
    go : (r : Bool) → (if r then None else Some x) ≡ Some d → Some x ≡ Some d
    go true f = cc
    go false f = f

shown-key : (past : List Counted) (s : Counted) (d : Completed) → shown_at past s ≡ Some d → d.key ≡ s.key
shown-key past s d e =
    let f = shown-is (latest_of s.key past) (completion (of_key s.key past ++ s ∷ [])) d (sym (shown_at-is past s) ∙ e) in
    done_key s (completed (of_key s.key past ++ s ∷ [])) d (sym (completion-push (of_key s.key past) s) ∙ f)

-- ---- laws

pub latest-apart : LatestApart
latest-apart k past = ap (λ (l : List Counted). latest_done (completions [] l)) (sym (of_key-twice k past))

shown-apart : (k : Key) (past : List Counted) (s : Counted) → s.key ≡ k → shown_at past s ≡ shown_at (of_key k past) s
shown-apart k past s e =
    let f : of_key s.key past ≡ of_key s.key (of_key k past) =
    ap (λ (q : Key). of_key q past) e ∙ sym (of_key-twice k past) ∙ ap (λ (q : Key). of_key q (of_key k past)) (sym e) in
    shown_at-is past s
    ∙ ap (λ (l : List Counted). shown_after (latest_done (completions [] l)) (completion (l ++ s ∷ []))) f
    ∙ sym (shown_at-is (of_key k past) s)

pub keys-apart : KeysApart
keys-apart k past [] = refl
keys-apart k past (s ∷ ss) = go (is_of k s) refl (keys-apart k (past ++ s ∷ []) ss)
  where
    ds : List Completed
    ds = dones (past ++ s ∷ []) ss

    kept : (o : Option Completed) → shown_at past s ≡ o → is_of k s ≡ true → filter (is_done_of k) (cons_option o ds) ≡ cons_option o (filter (is_done_of k) ds)
    kept None e same = refl
    kept (Some d) e same = ap (λ (b : Bool). cond b (d ∷ filter (is_done_of k) ds) (filter (is_done_of k) ds)) (ap (λ (q : Key). is_key q k) (shown-key past s d e) ∙ same)

    left : (o : Option Completed) → shown_at past s ≡ o → is_of k s ≡ false → filter (is_done_of k) (cons_option o ds) ≡ filter (is_done_of k) ds
    left None e other = refl
    left (Some d) e other = ap (λ (b : Bool). cond b (d ∷ filter (is_done_of k) ds) (filter (is_done_of k) ds)) (ap (λ (q : Key). is_key q k) (shown-key past s d e) ∙ other)

    go : (b : Bool) → is_of k s ≡ b → filter (is_done_of k) ds ≡ dones (of_key k (past ++ s ∷ [])) (of_key k ss)
        → filter (is_done_of k) (cons_option (shown_at past s) ds) ≡ dones (of_key k past) (cond b (s ∷ of_key k ss) (of_key k ss))
    go true e rec =
        let same : s.key ≡ k = is_key-same s.key k e in
        kept (shown_at past s) refl e
        ∙ ap (λ (o : Option Completed). cons_option o (filter (is_done_of k) ds)) (shown-apart k past s same)
        ∙ ap (cons_option (shown_at (of_key k past) s)) (rec ∙ ap (λ (l : List Counted). dones l (of_key k ss)) (of_key-one k past s same))
    go false e rec =
        left (shown_at past s) refl e
        ∙ rec ∙ ap (λ (l : List Counted). dones l (of_key k ss)) (of_key-other k past s e)

pub dones-go_on : DonesGoOn
dones-go_on past [] more = ap (λ (l : List Counted). dones l more) (sym (append-nil past))
dones-go_on past (s ∷ ss) more =
    ap (cons_option (shown_at past s)) (dones-go_on (past ++ s ∷ []) ss more)
    ∙ cons_append (shown_at past s) (dones (past ++ s ∷ []) ss) (dones ((past ++ s ∷ []) ++ ss) more)
    ∙ ap (λ (l : List Counted). dones past (s ∷ ss) ++ dones l more) (append_assoc past (s ∷ []) ss)

pub dones-one_more : DonesOneMore
dones-one_more past ss s = dones-go_on past ss (s ∷ []) ∙ ap (λ (l : List Completed). dones past ss ++ l) (cons_nil (shown_at (past ++ ss) s))

pub latest-one_more : LatestOneMore
latest-one_more k past s = go (is_of k s) refl
  where
    go : (b : Bool) → is_of k s ≡ b → latest_of k (past ++ s ∷ []) ≡ (if b then option_or (completion (of_key k (past ++ s ∷ []))) (latest_of k past) else latest_of k past)
    go true e =
        let f = of_key-one k past s (is_key-same s.key k e) in
        ap (λ (l : List Counted). latest_done (completions [] l)) f
        ∙ latest-more (of_key k past) s
        ∙ ap (λ (l : List Counted). option_or (completion l) (latest_of k past)) (sym f)
    go false e = ap (λ (l : List Counted). latest_done (completions [] l)) (of_key-other k past s e)

-- the latest of a key's completions, and of those that are shown
shown-or : (o p : Option Completed) → ((b d : Completed) → o ≡ Some b → p ≡ Some d → b.key ≡ d.key) → option_or (shown_after o p) o ≡ option_or p o
shown-or None None keys = refl
shown-or (Some b) None keys = refl
shown-or None (Some d) keys = refl
shown-or (Some b) (Some d) keys = go (repeats b d) refl
  where
    go : (r : Bool) → repeats b d ≡ r → option_or (if r then None else Some d) (Some b) ≡ Some d
    go true e = ap (λ (x : Completed). Some x) (repeats-same b d (keys b d refl refl) e)
    go false e = refl

or_assoc : (a b c : Option Completed) → option_or (option_or a b) c ≡ option_or a (option_or b c)
or_assoc None b c = refl
or_assoc (Some x) b c = refl

latest-shown_from : (k : Key) (before ss : List Counted) → AllByRecursion (IsOfKey k) before → AllByRecursion (IsOfKey k) ss
    → latest_done (completions [] (before ++ ss)) ≡ option_or (latest_done (dones before ss)) (latest_done (completions [] before))
latest-shown_from k before [] all more = ap (λ (l : List Counted). latest_done (completions [] l)) (append-nil before)
latest-shown_from k before (s ∷ ss) all more =
    let after = latest_done (dones (before ++ s ∷ []) ss) in
    let old = latest_done (completions [] before) in
    let shown : shown_at before s ≡ shown_after old (completion (before ++ s ∷ [])) =
    shown_at-is before s
    ∙ ap (λ (l : List Counted). shown_after (latest_done (completions [] l)) (completion (l ++ s ∷ []))) (ap (λ (q : Key). of_key q before) more.0 ∙ of_key-same k before all) in
    ap (λ (l : List Counted). latest_done (completions [] l)) (sym (append_assoc before (s ∷ []) ss))
    ∙ latest-shown_from k (before ++ s ∷ []) ss (all-push k before s all more.0) more.1
    ∙ ap (option_or after) (latest-more before s)
    ∙ ap (option_or after) (sym (shown-or old (completion (before ++ s ∷ [])) (λ b d e f.
    latest_done-key k before b all e ∙ sym (done_key s (completed (before ++ s ∷ [])) d (sym (completion-push before s) ∙ f) ∙ more.0))))
    ∙ ap (λ (o : Option Completed). option_or after (option_or o old)) (sym shown)
    ∙ sym (or_assoc after (shown_at before s) old)
    ∙ ap (λ (o : Option Completed). option_or o old) (sym (latest_done-front (shown_at before s) (dones (before ++ s ∷ []) ss)))

or_none : (o : Option Completed) → option_or o None ≡ o
or_none None = refl
or_none (Some d) = refl

pub latest-is_shown : LatestIsShown
latest-is_shown k past =
    latest-shown_from k [] (of_key k past) tt (of_key-all k past)
    ∙ or_none (latest_done (dones [] (of_key k past)))
    ∙ ap latest_done (sym (keys-apart k [] past))
