-- Completions that sections show, and packets show.
use Rattle.std.specs.List.{cons_option}
use Rattle.std.proofs.Common.{◌≡◌, ℕ, Bool, true, false, List, [], ◌∷◌, ◌++◌, refl, sym, ap, ◌∙◌, map, flat_map, take, ◌+◌, ◌<◌, length, get_or, append-nil, append_assoc, Option, Some, None, option_map, if◌then◌else◌}
use Rattle.std.specs.Prelude.{option_to_list}
use Rattle.std.proofs.lemmas.List.{take_more}
use Rattle.ts_demux.specs.declared.section.RawSection.{RawSection}
use Rattle.ts_demux.specs.Sections.{ended_by, heard_each, heard_all}
use Rattle.section_codec.specs.Contents.{Content}
use Rattle.sub_collect.specs.Runs.{Counted, completed}
use Rattle.sub_collect.specs.Completions.{done_at, dones, latest_of, repeats, of_key, shown_after, shown_at}
use Rattle.sub_collect.specs.declared.completed.Completed.{Completed}
use Rattle.sub_collect.proofs.Done.{shown_at-is, completion-push, dones-go_on}
use Rattle.guide_receiver.specs.declared.done.DoneKey.{DoneKey}
use Rattle.guide_receiver.specs.Counting.{counted_in, counted_among}
use Rattle.guide_receiver.specs.Dones.{counted_heard, done_key}

not_repeated : (t : Bool) (d e : Completed) → (if t then None else Some e) ≡ Some d → e ≡ d
not_repeated true d e is = cc
not_repeated false d e is = cc

after_key : (before : Option Completed) (o : Option Content) (s : Counted) (d : Completed) → shown_after before (option_map (done_at s) o) ≡ Some d → d.key ≡ s.key
after_key None None s d is = cc
after_key (Some before) None s d is = cc
after_key None (Some c) s d is = let same : done_at s c ≡ d = cc in ap (λ (x : Completed). x.key) (sym same)
after_key (Some before) (Some c) s d is = ap (λ (x : Completed). x.key) (sym (not_repeated (repeats before (done_at s c)) d (done_at s c) is))

-- a completion has the key of the section that shows it
shown_key : (past : List Counted) (s : Counted) (d : Completed) → shown_at past s ≡ Some d → d.key ≡ s.key
shown_key past s d is =
    after_key (latest_of s.key past) (completed (of_key s.key past ++ s ∷ [])) s d
    (ap (shown_after (latest_of s.key past)) (sym (completion-push (of_key s.key past) s)) ∙ sym (shown_at-is past s) ∙ is)

abbrev pub keyed : Counted → ℕ → DoneKey
keyed s version = record { key = s.key; version = version }

pub by_version : (s : Counted) (o : Option Completed) → ((d : Completed) → o ≡ Some d → d.key ≡ s.key) → option_to_list (option_map (keyed s) (option_map (λ (d : Completed). d.version) o)) ≡ map done_key (option_to_list o)
by_version s None same = refl
by_version s (Some d) same = ap (λ k. let key : DoneKey = record { key = k; version = d.version } in key ∷ []) (sym (same d refl))

pub listed : (o : Option Completed) → map done_key (option_to_list o) ≡ map done_key (cons_option o [])
listed None = refl
listed (Some d) = refl

-- what one section shows, by the version that its key is done with
pub shown_by_section : (past : List Counted) (s : Counted) (shown : Option ℕ) → shown ≡ option_map (λ (d : Completed). d.version) (shown_at past s)
    → option_to_list (option_map (keyed s) shown) ≡ map done_key (dones past (s ∷ []))
shown_by_section past s shown is = ap (λ o. option_to_list (option_map (keyed s) o)) is ∙ by_version s (shown_at past s) (shown_key past s) ∙ listed (shown_at past s)

-- ---- several sections

map-append : {A B : Type 0} (f : A → B) (xs ys : List A) → map f (xs ++ ys) ≡ map f xs ++ map f ys
map-append f [] ys = refl
map-append f (x ∷ xs) ys = ap (λ t. f x ∷ t) (map-append f xs ys)

-- the completions of some sections, and then of others behind them
pub more_shown : (past ss more : List Counted) → map done_key (dones past (ss ++ more)) ≡ map done_key (dones past ss) ++ map done_key (dones (past ++ ss) more)
more_shown past ss more = ap (map done_key) (dones-go_on past ss more) ∙ map-append done_key (dones past ss) (dones (past ++ ss) more)

onto : (o : Option Counted) (a b c : List Counted) → c ≡ a ++ b → cons_option o c ≡ cons_option o a ++ b
onto None a b c same = same
onto (Some s) a b c same = ap (λ t. s ∷ t) same

pub among-append : (xs ys : List RawSection) → counted_among (xs ++ ys) ≡ counted_among xs ++ counted_among ys
among-append [] ys = refl
among-append (x ∷ xs) ys = onto (counted_in x) (counted_among xs) (counted_among ys) (counted_among (xs ++ ys)) (among-append xs ys)

-- ---- one packet more

each-push : (past packets : List (List ℕ)) (packet : List ℕ) → heard_each past (packets ++ packet ∷ []) ≡ heard_each past packets ++ ended_by (past ++ packets) packet ∷ []
each-push past [] packet = ap (λ p. ended_by p packet ∷ []) (sym (append-nil past))
each-push past (p ∷ ps) packet =
    ap (λ t. ended_by past p ∷ t) (each-push (past ++ p ∷ []) ps packet ∙ ap (λ t. heard_each (past ++ p ∷ []) ps ++ ended_by t packet ∷ []) (append_assoc past (p ∷ []) ps))

joined-push : (xss : List (List RawSection)) (xs : List RawSection) → flat_map (λ (t : List RawSection). t) (xss ++ xs ∷ []) ≡ flat_map (λ (t : List RawSection). t) xss ++ xs
joined-push [] xs = append-nil xs
joined-push (ys ∷ yss) xs = ap (λ t. ys ++ t) (joined-push yss xs) ∙ sym (append_assoc ys (flat_map (λ (t : List RawSection). t) yss) xs)

-- the sections of a list with one packet more
pub heard-push : (past : List (List ℕ)) (packet : List ℕ) → heard_all [] (past ++ packet ∷ []) ≡ heard_all [] past ++ ended_by past packet
heard-push past packet =
    ap (flat_map (λ (s : List RawSection). s)) (each-push [] past packet) ∙ joined-push (heard_each [] past) (ended_by past packet)

-- the counted ones of them
pub counted-push : (past : List (List ℕ)) (packet : List ℕ) → counted_heard (past ++ packet ∷ []) ≡ counted_heard past ++ counted_among (ended_by past packet)
counted-push past packet = ap counted_among (heard-push past packet) ∙ among-append (heard_all [] past) (ended_by past packet)

one_counted : (o : Option Counted) → cons_option o [] ≡ option_to_list o
one_counted None = refl
one_counted (Some s) = refl

-- the counted sections of one section more
pub among-next : (sections : List RawSection) (i : ℕ) (item : RawSection) → i < length sections → item ≡ get_or sections i item
    → counted_among (take (i + 1) sections) ≡ counted_among (take i sections) ++ option_to_list (counted_in item)
among-next sections i item lt is =
    ap counted_among (take_more sections i item lt ∙ ap (λ x. take i sections ++ x ∷ []) (sym is))
    ∙ among-append (take i sections) (item ∷ []) ∙ ap (λ t. counted_among (take i sections) ++ t) (one_counted (counted_in item))

pub one_shown : (past : List Counted) (o : Option Counted) (s : Counted) (shown : Option ℕ) → Some s ≡ o → shown ≡ option_map (λ (d : Completed). d.version) (shown_at past s)
    → option_to_list (option_map (keyed s) shown) ≡ map done_key (dones past (option_to_list o))
one_shown past None s shown of is = cc
one_shown past (Some t) s shown of is =
    let same : t ≡ s = cc in
    shown_by_section past s shown is ∙ ap (λ x. map done_key (dones past (x ∷ []))) (sym same)
