-- What is shown over marks.
use Rattle.std.proofs.Common.{◌≡◌, ℕ, List, [], ◌∷◌, ◌++◌, Bool, true, false, Option, Some, None, refl, sym, ap, ap₂, ◌∙◌, subst, append_assoc, append-nil}
use Rattle.std.specs.Prelude.{◌==◌, if◌then◌else◌, cond, filter}
use Rattle.std.specs.Option.{option_or}
use Rattle.std.specs.List.{AllByRecursion, cons_option}
use Rattle.std.proofs.lemmas.List.{map-append}
use Rattle.std.proofs.lemmas.List.Elements.{filter_map-append}
use Rattle.section_codec.specs.declared.table.Key.{Key}
use Rattle.section_codec.specs.KeyOrder.{is_key}
use Rattle.section_codec.proofs.KeyOrderFacts.{is_key-same, is_key-itself}
use Rattle.sub_collect.specs.Runs.{Counted, completed}
use Rattle.sub_collect.specs.Completions.{is_of, IsOfKey, of_key, completion, latest_done, repeats, shown_after, dones}
use Rattle.sub_collect.specs.Collectors.{AreOfKey}
use Rattle.sub_collect.specs.Laws.{is_done_of}
use Rattle.sub_collect.specs.declared.completed.Completed.{Completed}
use Rattle.sub_collect.proofs.Done.{completion-push, done_key, repeats-same}
use Rattle.sub_collect.specs.Marks.{Taken, Taken.Took, Taken.Forgot, Taken.ForgotAll, since_with, since_from, since_mark, completion_with, completions_from, completions_over, latest_over, shown_over, shown_with, dones_over, all_took, section_in, sections_taken}
use Rattle.sub_collect.specs.MarkLaws.{LatestOverIsShown}
use Rattle.sub_collect.proofs.Marking.{since-append, completions-append, shown_mark_free}

-- ---- the last of completions

cons_nil : (o : Option Completed) (ds : List Completed) → latest_done (ds ++ cons_option o []) ≡ option_or o (latest_done ds)
cons_nil None [] = refl
cons_nil (Some x) [] = refl
cons_nil None (d ∷ []) = refl
cons_nil (Some x) (d ∷ []) = refl
cons_nil o (d ∷ e ∷ ds) = cons_nil o (e ∷ ds)

or_none : (o : Option Completed) → option_or o None ≡ o
or_none None = refl
or_none (Some d) = refl

or_assoc : (a b c : Option Completed) → option_or (option_or a b) c ≡ option_or a (option_or b c)
or_assoc None b c = refl
or_assoc (Some x) b c = refl

some_done : (d : Completed) (ds : List Completed) → (x : Completed) × (latest_done (d ∷ ds) ≡ Some x)
some_done d [] = (d, refl)
some_done d (e ∷ ds) = some_done e ds

pub latest-append : (ds es : List Completed) → latest_done (ds ++ es) ≡ option_or (latest_done es) (latest_done ds)
latest-append [] es = sym (or_none (latest_done es))
latest-append (d ∷ []) [] = refl
latest-append (d ∷ []) (e ∷ es) =
    let s = some_done e es in
    s.1 ∙ ap (λ (o : Option Completed). option_or o (Some d)) (sym s.1)
latest-append (d ∷ f ∷ ds) es = latest-append (f ∷ ds) es

latest-front : (o : Option Completed) (ds : List Completed) → latest_done (cons_option o ds) ≡ option_or (latest_done ds) o
latest-front None ds = sym (or_none (latest_done ds))
latest-front (Some d) ds = latest-append (d ∷ []) ds

-- ---- keys

completion-key : (k : Key) (since : List Counted) (s : Counted) (d : Completed) → is_of k s ≡ true → completion (since ++ s ∷ []) ≡ Some d → d.key ≡ k
completion-key k since s d same e = done_key s (completed (since ++ s ∷ [])) d (sym (completion-push since s) ∙ e) ∙ is_key-same s.key k same

with-key : (k : Key) (since : List Counted) (x : Taken) (d : Completed) → completion_with k since x ≡ Some d → d.key ≡ k
with-key k since (Forgot pid) d e = cc
with-key k since ForgotAll d e = cc
with-key k since (Took s) d e = go (is_of k s) refl e
  where
    go : (b : Bool) → is_of k s ≡ b → (if b then completion (since ++ s ∷ []) else None) ≡ Some d → d.key ≡ k
    go true f g = completion-key k since s d f g
    go false f g = cc

each-key : (k : Key) (since : List Counted) (xs : List Taken) → AllByRecursion (λ (d : Completed). d.key ≡ k) (completions_from k since xs)
each-key k since [] = tt
each-key k since (x ∷ xs) = go (completion_with k since x) refl (each-key k (since_with k since x) xs)
  where
    go : (o : Option Completed) → completion_with k since x ≡ o → AllByRecursion (λ (d : Completed). d.key ≡ k) (completions_from k (since_with k since x) xs)
        → AllByRecursion (λ (d : Completed). d.key ≡ k) (cons_option o (completions_from k (since_with k since x) xs))
    go None e rest = rest
    go (Some d) e rest = (with-key k since x d e, rest)

latest-all : (P : Completed → Type 0) (ds : List Completed) (d : Completed) → AllByRecursion P ds → latest_done ds ≡ Some d → P d
latest-all P [] d all e = cc
latest-all P (x ∷ []) d all e = (let same : x ≡ d = cc in subst P same all.0)
latest-all P (x ∷ y ∷ ds) d all e = latest-all P (y ∷ ds) d all.1 e

latest-key : (k : Key) (past : List Taken) (d : Completed) → latest_over k past ≡ Some d → d.key ≡ k
latest-key k past d e = latest-all (λ (x : Completed). x.key ≡ k) (completions_over k past) d (each-key k [] past) e

-- ---- one more

pub latest-more : (k : Key) (past : List Taken) (x : Taken) → latest_over k (past ++ x ∷ []) ≡ option_or (completion_with k (since_mark k past) x) (latest_over k past)
latest-more k past x = ap latest_done (completions-append k [] past (x ∷ [])) ∙ cons_nil (completion_with k (since_mark k past) x) (completions_over k past)

-- what a section shows, by the sections of its key since the mark
pub shown-is : (past : List Taken) (s : Counted) → shown_over past s ≡ shown_after (latest_over s.key past) (completion (since_mark s.key past ++ s ∷ []))
shown-is past s =
    ap (λ (l : List Counted). shown_after (latest_over s.key past) (completion l))
    (since-append s.key [] past (Took s ∷ []) ∙ ap (λ (b : Bool). if b then since_mark s.key past ++ s ∷ [] else since_mark s.key past) (is_key-itself s.key))

-- what is shown is completed
pub shown_some : (o p : Option Completed) (d : Completed) → shown_after o p ≡ Some d → p ≡ Some d
shown_some None None d e = cc
shown_some (Some b) None d e = cc
shown_some None (Some x) d e = e
shown_some (Some b) (Some x) d e = go (repeats b x) e
  where
    go : (r : Bool) → (if r then None else Some x) ≡ Some d → Some x ≡ Some d
    go true f = cc
    go false f = f

pub shown-made : (past : List Taken) (s : Counted) (d : Completed) → shown_over past s ≡ Some d → completion (since_mark s.key past ++ s ∷ []) ≡ Some d
shown-made past s d e = shown_some (latest_over s.key past) (completion (since_mark s.key past ++ s ∷ [])) d (sym (shown-is past s) ∙ e)

shown-key : (past : List Taken) (s : Counted) (d : Completed) → shown_over past s ≡ Some d → d.key ≡ s.key
shown-key past s d e = completion-key s.key (since_mark s.key past) s d (is_key-itself s.key) (shown-made past s d e)

shown-or : (o p : Option Completed) → ((b d : Completed) → o ≡ Some b → p ≡ Some d → b.key ≡ d.key) → option_or (shown_after o p) o ≡ option_or p o
shown-or None None keys = refl
shown-or (Some b) None keys = refl
shown-or None (Some d) keys = refl
shown-or (Some b) (Some d) keys = go (repeats b d) refl
  where
    go : (r : Bool) → repeats b d ≡ r → option_or (if r then None else Some d) (Some b) ≡ Some d
    go true e = ap (λ (x : Completed). Some x) (repeats-same b d (keys b d refl refl) e)
    go false e = refl

-- of a key what a section or mark shows
abbrev own_shown : Key → Option Completed → Option Completed
own_shown k None = None
own_shown k (Some d) = if is_key d.key k then Some d else None

own-filter : (k : Key) (o : Option Completed) (ds : List Completed) → filter (is_done_of k) (cons_option o ds) ≡ cons_option (own_shown k o) (filter (is_done_of k) ds)
own-filter k None ds = refl
own-filter k (Some d) ds = go (is_key d.key k)
  where
    go : (b : Bool) → cond b (d ∷ filter (is_done_of k) ds) (filter (is_done_of k) ds) ≡ cons_option (if b then Some d else None) (filter (is_done_of k) ds)
    go true = refl
    go false = refl

own-latest : (k : Key) (past : List Taken) (x : Taken) → option_or (own_shown k (shown_with past x)) (latest_over k past) ≡ latest_over k (past ++ x ∷ [])
own-latest k past (Forgot pid) = sym (latest-more k past (Forgot pid))
own-latest k past ForgotAll = sym (latest-more k past ForgotAll)
own-latest k past (Took s) = go (is_of k s) refl ∙ sym (latest-more k past (Took s))
  where
    other : is_of k s ≡ false → (o : Option Completed) → shown_over past s ≡ o → own_shown k o ≡ None
    other e None f = refl
    other e (Some d) f = ap (λ (b : Bool). if b then Some d else None) (ap (λ (q : Key). is_key q k) (shown-key past s d f) ∙ e)

    own : is_of k s ≡ true → (o : Option Completed) → shown_over past s ≡ o → own_shown k o ≡ o
    own e None f = refl
    own e (Some d) f = ap (λ (b : Bool). if b then Some d else None) (ap (λ (q : Key). is_key q k) (shown-key past s d f) ∙ e)

    go : (b : Bool) → is_of k s ≡ b → option_or (own_shown k (shown_over past s)) (latest_over k past) ≡ option_or (if is_of k s then completion (since_mark k past ++ s ∷ []) else None) (latest_over k past)
    go false e =
        ap (λ (o : Option Completed). option_or o (latest_over k past)) (other e (shown_over past s) refl)
        ∙ sym (ap (λ (b : Bool). option_or (if b then completion (since_mark k past ++ s ∷ []) else None) (latest_over k past)) e)
    go true e =
        let same : s.key ≡ k = is_key-same s.key k e in
        let here : shown_over past s ≡ shown_after (latest_over k past) (completion (since_mark k past ++ s ∷ [])) =
        shown-is past s ∙ ap (λ (q : Key). shown_after (latest_over q past) (completion (since_mark q past ++ s ∷ []))) same in
        ap (λ (o : Option Completed). option_or o (latest_over k past)) (own e (shown_over past s) refl ∙ here)
        ∙ shown-or (latest_over k past) (completion (since_mark k past ++ s ∷ []))
        (λ b d f g. latest-key k past b f ∙ sym (completion-key k (since_mark k past) s d e g))
        ∙ sym (ap (λ (b : Bool). option_or (if b then completion (since_mark k past ++ s ∷ []) else None) (latest_over k past)) e)

latest_from : (k : Key) (past xs : List Taken) → latest_over k (past ++ xs) ≡ option_or (latest_done (filter (is_done_of k) (dones_over past xs))) (latest_over k past)
latest_from k past [] = ap (latest_over k) (append-nil past)
latest_from k past (x ∷ xs) =
    let later = latest_done (filter (is_done_of k) (dones_over (past ++ x ∷ []) xs)) in
    ap (latest_over k) (sym (append_assoc past (x ∷ []) xs))
    ∙ latest_from k (past ++ x ∷ []) xs
    ∙ ap (option_or later) (sym (own-latest k past x))
    ∙ sym (or_assoc later (own_shown k (shown_with past x)) (latest_over k past))
    ∙ ap (λ (o : Option Completed). option_or o (latest_over k past))
    (sym (ap latest_done (own-filter k (shown_with past x) (dones_over (past ++ x ∷ []) xs))
    ∙ latest-front (own_shown k (shown_with past x)) (filter (is_done_of k) (dones_over (past ++ x ∷ []) xs))))

pub latest_over_is_shown : LatestOverIsShown
latest_over_is_shown k past = latest_from k [] past ∙ or_none (latest_done (filter (is_done_of k) (dones_over [] past)))

-- ---- what is shown is completed

-- one of the completions of a key
made_at : (P : Completed → Type 0) (k : Key) (past : List Taken) (s : Counted) (rest : List Taken) → AllByRecursion P (completions_over k (past ++ Took s ∷ rest))
    → is_of k s ≡ true → (d : Completed) → completion (since_mark k past ++ s ∷ []) ≡ Some d → P d
made_at P k past s rest all same d e =
    let more : List Completed = completions_from k (since_with k (since_mark k past) (Took s)) rest in
    let parts : completions_over k (past ++ Took s ∷ rest) ≡ completions_over k past ++ (d ∷ more) =
    completions-append k [] past (Took s ∷ rest)
    ∙ ap (λ (o : Option Completed). completions_over k past ++ cons_option o more)
    (ap (λ (b : Bool). if b then completion (since_mark k past ++ s ∷ []) else None) same ∙ e) in
    behind (completions_over k past) (subst (AllByRecursion P) parts all)
  where
    behind : (xs : List Completed) → AllByRecursion P (xs ++ (d ∷ completions_from k (since_with k (since_mark k past) (Took s)) rest)) → P d
    behind [] h = h.0
    behind (x ∷ xs) h = behind xs h.1

-- what holds of each completion of each key holds of each that is shown
pub all_from : (P : Completed → Type 0) (past xs : List Taken) → ((k : Key) → AllByRecursion P (completions_over k (past ++ xs))) → AllByRecursion P (dones_over past xs)
all_from P past [] each = tt
all_from P past (x ∷ xs) each =
    one x each (shown_with past x) refl
    (all_from P (past ++ x ∷ []) xs (λ k. subst (λ (l : List Taken). AllByRecursion P (completions_over k l)) (sym (append_assoc past (x ∷ []) xs)) (each k)))
  where
    one : (x : Taken) → ((k : Key) → AllByRecursion P (completions_over k (past ++ x ∷ xs))) → (o : Option Completed) → shown_with past x ≡ o
        → (rest : AllByRecursion P (dones_over (past ++ x ∷ []) xs)) → AllByRecursion P (cons_option o (dones_over (past ++ x ∷ []) xs))
    one x each None e rest = rest
    one (Forgot pid) each (Some d) e rest = cc
    one ForgotAll each (Some d) e rest = cc
    one (Took s) each (Some d) e rest =
        (made_at P s.key past s xs (each s.key) (is_key-itself s.key) d (shown-made past s d e), rest)

pub all_shown_over : (P : Completed → Type 0) (taken : List Taken) → ((k : Key) → AllByRecursion P (completions_over k taken)) → AllByRecursion P (dones_over [] taken)
all_shown_over P taken each = all_from P [] taken each

-- ---- the sections of a key since the mark

since-one_key : (k : Key) (since : List Counted) (xs : List Taken) → AllByRecursion (IsOfKey k) since → AllByRecursion (IsOfKey k) (since_from k since xs)
since-one_key k since [] all = all
since-one_key k since (x ∷ xs) all = since-one_key k (since_with k since x) xs (with_one x)
  where
    push : (ss : List Counted) (s : Counted) → AllByRecursion (IsOfKey k) ss → s.key ≡ k → AllByRecursion (IsOfKey k) (ss ++ s ∷ [])
    push [] s h e = (e, tt)
    push (t ∷ ss) s h e = (h.0, push ss s h.1 e)

    with_one : (x : Taken) → AllByRecursion (IsOfKey k) (since_with k since x)
    with_one (Took s) = go (is_of k s) refl
      where
        go : (b : Bool) → is_of k s ≡ b → AllByRecursion (IsOfKey k) (if b then since ++ s ∷ [] else since)
        go true e = push since s all (is_key-same s.key k e)
        go false e = all
    with_one (Forgot pid) = go (pid == k.pid)
      where
        go : (b : Bool) → AllByRecursion (IsOfKey k) (if b then [] else since)
        go true = tt
        go false = all
    with_one ForgotAll = tt

-- the completion that they make is the latest of all
since-whole : (k : Key) (since : List Counted) (latest : Option Completed) (xs : List Taken) → ((d : Completed) → completion since ≡ Some d → latest ≡ Some d)
    → (d : Completed) → completion (since_from k since xs) ≡ Some d → option_or (latest_done (completions_from k since xs)) latest ≡ Some d
since-whole k since latest [] holds d e = holds d e
since-whole k since latest (x ∷ xs) holds d e =
    let one : Option Completed = completion_with k since x in
    let rest : Option Completed = latest_done (completions_from k (since_with k since x) xs) in
    ap (λ (o : Option Completed). option_or o latest) (latest-front one (completions_from k (since_with k since x) xs))
    ∙ or_assoc rest one latest
    ∙ since-whole k (since_with k since x) (option_or (completion_with k since x) latest) xs (with_one x) d e
  where
    with_one : (x : Taken) (d : Completed) → completion (since_with k since x) ≡ Some d → option_or (completion_with k since x) latest ≡ Some d
    with_one (Took s) d f = go (is_of k s) f
      where
        go : (b : Bool) → completion (if b then since ++ s ∷ [] else since) ≡ Some d → option_or (if b then completion (since ++ s ∷ []) else None) latest ≡ Some d
        go true g = ap (λ (o : Option Completed). option_or o latest) g
        go false g = holds d g
    with_one (Forgot pid) d f = go (pid == k.pid) f
      where
        go : (b : Bool) → completion (if b then [] else since) ≡ Some d → option_or None latest ≡ Some d
        go true g = cc
        go false g = holds d g
    with_one ForgotAll d f = cc

-- so they are sections of the key, and their completion is the latest
pub are_of_key : (k : Key) (past : List Taken) → AreOfKey k (since_mark k past) (latest_over k past)
are_of_key k past = record {
  each = since-one_key k [] past tt;
  key = latest-key k past;
  whole = λ d e. sym (or_none (latest_over k past)) ∙ since-whole k [] None past (λ c f. cc) d e;
}

pub are_of_none : (k : Key) → AreOfKey k [] None
are_of_none k = record { each = tt; key = λ d e. cc; whole = λ d e. cc }

-- ---- one section more

pub since-own : (k : Key) (past : List Taken) (s : Counted) → is_of k s ≡ true → since_mark k (past ++ Took s ∷ []) ≡ since_mark k past ++ s ∷ []
since-own k past s e = since-append k [] past (Took s ∷ []) ∙ ap (λ (b : Bool). if b then since_mark k past ++ s ∷ [] else since_mark k past) e

pub since-other : (k : Key) (past : List Taken) (s : Counted) → is_of k s ≡ false → since_mark k (past ++ Took s ∷ []) ≡ since_mark k past
since-other k past s e = since-append k [] past (Took s ∷ []) ∙ ap (λ (b : Bool). if b then since_mark k past ++ s ∷ [] else since_mark k past) e

pub latest-own : (k : Key) (past : List Taken) (s : Counted) → is_of k s ≡ true → latest_over k (past ++ Took s ∷ []) ≡ option_or (completion (since_mark k past ++ s ∷ [])) (latest_over k past)
latest-own k past s e =
    latest-more k past (Took s)
    ∙ ap (λ (b : Bool). option_or (if b then completion (since_mark k past ++ s ∷ []) else None) (latest_over k past)) e

pub latest-other : (k : Key) (past : List Taken) (s : Counted) → is_of k s ≡ false → latest_over k (past ++ Took s ∷ []) ≡ latest_over k past
latest-other k past s e =
    latest-more k past (Took s)
    ∙ ap (λ (b : Bool). option_or (if b then completion (since_mark k past ++ s ∷ []) else None) (latest_over k past)) e

-- ---- the sections alone

pub sections-took : (past : List Taken) (s : Counted) → sections_taken (past ++ Took s ∷ []) ≡ sections_taken past ++ s ∷ []
sections-took past s = filter_map-append section_in past (Took s ∷ [])

pub sections-forgot : (past : List Taken) (pid : ℕ) → sections_taken (past ++ Forgot pid ∷ []) ≡ sections_taken past
sections-forgot past pid = filter_map-append section_in past (Forgot pid ∷ []) ∙ append-nil (sections_taken past)

pub sections-all_forgot : (past : List Taken) → sections_taken (past ++ ForgotAll ∷ []) ≡ sections_taken past
sections-all_forgot past = filter_map-append section_in past (ForgotAll ∷ []) ∙ append-nil (sections_taken past)

pub sections-free : (ss : List Counted) → sections_taken (all_took ss) ≡ ss
sections-free [] = refl
sections-free (s ∷ ss) = ap (λ (l : List Counted). s ∷ l) (sections-free ss)

-- a key without a section since any mark was never completed
pub none-latest : (k : Key) (past : List Taken) → of_key k (sections_taken past) ≡ [] → (since_mark k past ≡ []) × (latest_over k past ≡ None)
none-latest k past none = ((nothing [] past none refl).0, ap latest_done (nothing [] past none refl).1)
  where
    nothing : (since : List Counted) (xs : List Taken) → of_key k (sections_taken xs) ≡ [] → since ≡ [] → (since_from k since xs ≡ []) × (completions_from k since xs ≡ [])
    nothing since [] e f = (f, refl)
    nothing since (Forgot pid ∷ xs) e f = nothing (if pid == k.pid then [] else since) xs e (go (pid == k.pid))
      where
        go : (b : Bool) → (if b then [] else since) ≡ []
        go true = refl
        go false = f
    nothing since (ForgotAll ∷ xs) e f = nothing [] xs e refl
    nothing since (Took s ∷ xs) e f = go (is_of k s) e (λ h. nothing since xs h f)
      where
        go : (b : Bool) → cond b (s ∷ of_key k (sections_taken xs)) (of_key k (sections_taken xs)) ≡ []
            → (of_key k (sections_taken xs) ≡ [] → (since_from k since xs ≡ []) × (completions_from k since xs ≡ []))
            → (since_from k (if b then since ++ s ∷ [] else since) xs ≡ []) × (cons_option (if b then completion (since ++ s ∷ []) else None) (completions_from k (if b then since ++ s ∷ [] else since) xs) ≡ [])
        go true h rec = cc
        go false h rec = rec h

-- what is shown without marks
pub dones-free : (past ss : List Counted) → dones_over (all_took past) (all_took ss) ≡ dones past ss
dones-free past [] = refl
dones-free past (s ∷ ss) =
    ap₂ cons_option (shown_mark_free past s)
    (ap (λ (l : List Taken). dones_over l (all_took ss)) (sym (map-append Took past (s ∷ []))) ∙ dones-free (past ++ s ∷ []) ss)

pub dones_over-append : (past xs ys : List Taken) → dones_over past (xs ++ ys) ≡ dones_over past xs ++ dones_over (past ++ xs) ys
dones_over-append past [] ys = ap (λ (l : List Taken). dones_over l ys) (sym (append-nil past))
dones_over-append past (x ∷ xs) ys =
    ap (cons_option (shown_with past x)) (dones_over-append (past ++ x ∷ []) xs ys)
    ∙ cons_both (shown_with past x) (dones_over (past ++ x ∷ []) xs) (dones_over ((past ++ x ∷ []) ++ xs) ys)
    ∙ ap (λ (l : List Taken). dones_over past (x ∷ xs) ++ dones_over l ys) (append_assoc past (x ∷ []) xs)
  where
    cons_both : (o : Option Completed) (a b : List Completed) → cons_option o (a ++ b) ≡ cons_option o a ++ b
    cons_both None a b = refl
    cons_both (Some d) a b = refl

pub shown_over-key : (past : List Taken) (s : Counted) (d : Completed) → shown_over past s ≡ Some d → d.key ≡ s.key
shown_over-key past s d e = shown-key past s d e
