-- The completions of a key are those of the parts between the breaks of its PID, each by itself.
use Rattle.std.proofs.Common.{◌≡◌, ℕ, List, [], ◌∷◌, ◌++◌, Bool, true, false, ◌==◌, Option, Some, None, refl, sym, ap, ap₂, ◌∙◌, map, append_assoc, append-nil, eqb-true}
use Rattle.std.specs.Prelude.{if◌then◌else◌, filter_map, flat_map, not}
use Rattle.std.specs.List.{cons_option}
use Rattle.std.proofs.lemmas.Bool.{and_parts, not-true}
use Rattle.section_codec.specs.declared.table.Key.{Key}
use Rattle.ts_packets.specs.Bytes.{pid_in}
use Rattle.ts_demux.specs.Arrivals.{Arrival, arrival_on, arrivals_on, heard_of}
use Rattle.ts_demux.specs.Sections.{on_pid, ended_by, bytes_on}
use Rattle.ts_demux.specs.Keeping.{PidState, nothing, Seen, seen}
use Rattle.ts_demux.specs.Steps.{is_again, is_next, still_open, given_by, open_behind, given_after, kept_after, kept_behind}
use Rattle.ts_demux.proofs.Stretches.{given_all, given_all-is, kept_behind-push}
use Rattle.ts_demux.proofs.Adding.{elsewhere, adds, arrivals_on-push, ended_by-is}
use Rattle.sub_collect.specs.Runs.{Counted}
use Rattle.sub_collect.specs.Completions.{of_key, completion, completions}
use Rattle.sub_collect.specs.declared.completed.Completed.{Completed}
use Rattle.guide_receiver.specs.Counting.{counted_among}
use Rattle.air_laws.proofs.Keys.{from_pid}
use Rattle.air_laws.proofs.Counts.{key_heard, key_heard-append}
use Rattle.ts_demux.specs.Breaks.{Before, Before.Never, Before.AtGap, Before.Had, seen_before, before_all, is_break, onto_first, parts}
use Rattle.sub_collect.specs.Marks.{Taken, Taken.Forgot, since_from, completions_from, completions_over, all_took}
use Rattle.strict_receiver.specs.Strict.{marks_by, taken_by, taken_from, taken_of}
use Rattle.ts_demux.specs.Breaks.{breaks, came_before, is_lost}
use Rattle.ts_demux.proofs.Adding.{mapped}
use Rattle.ts_demux.proofs.Splitting.{Fits, fits_after, fits_none, first_part, later_parts, onto_first-is}
use Rattle.sub_collect.proofs.Marking.{since_free, completions_free, since-append, completions-append}

-- ---- packet by packet

-- what stays of the sections of a key at an arrival on its PID
abbrev pub since_at : Bool → List Counted → List Counted
since_at b since = if b then [] else since

-- the completions of a key, arrival by arrival on its PID
abbrev key_done : Key → Before → PidState → List Counted → List Arrival → List Completed
key_done k before kept since [] = []
key_done k before kept since (x ∷ xs) =
    completions (since_at (is_break before x) since) (key_heard k (given_after kept x))
    ++ key_done k (seen_before x) (kept_after kept x) (since_at (is_break before x) since ++ key_heard k (given_after kept x)) xs

-- what a packet ends on a PID
ended_on : (pid : ℕ) (past : List (List ℕ)) (packet : List ℕ) → filter_map (bytes_on pid) (ended_by past packet) ≡ adds pid past (arrival_on pid packet)
ended_on pid past packet =
    ap (filter_map (bytes_on pid)) (ended_by-is past packet) ∙ go (pid_in packet == pid) refl
  where
    go : (b : Bool) → (pid_in packet == pid) ≡ b
        → filter_map (bytes_on pid) (map (on_pid (pid_in packet)) (adds (pid_in packet) past (arrival_on (pid_in packet) packet))) ≡ adds pid past (arrival_on pid packet)
    go true e =
        mapped pid (pid_in packet) true e (adds (pid_in packet) past (arrival_on (pid_in packet) packet))
        ∙ ap (λ (n : ℕ). adds n past (arrival_on n packet)) (eqb-true (pid_in packet) pid e)
    go false e =
        mapped pid (pid_in packet) false e (adds (pid_in packet) past (arrival_on (pid_in packet) packet))
        ∙ sym (ap (adds pid past) (elsewhere pid packet e))

-- the sections of a key that a packet ends
counted_on : (k : Key) (past : List (List ℕ)) (packet : List ℕ) → of_key k (counted_among (ended_by past packet)) ≡ key_heard k (adds k.pid past (arrival_on k.pid packet))
counted_on k past packet = from_pid k (ended_by past packet) ∙ ap (key_heard k) (ended_on k.pid past packet)

-- the marks of a packet, for a key
marks-since : (k : Key) (since : List Counted) (past : List (List ℕ)) (packet : List ℕ)
    → since_from k since (marks_by past packet) ≡ since_at (breaks (came_before k.pid past) (arrival_on k.pid packet)) since
marks-since k since past packet = go (pid_in packet == k.pid) refl
  where
    q : ℕ
    q = pid_in packet

    with_mark : (lost : Bool) → since_from k since (if lost then Forgot q ∷ [] else []) ≡ (if lost then (if q == k.pid then [] else since) else since)
    with_mark true = refl
    with_mark false = refl

    pick : (lost b : Bool) → b ≡ true → (if lost then (if b then [] else since) else since) ≡ since_at lost since
    pick true true e = refl
    pick false b e = refl
    pick true false e = cc

    leave : (lost b : Bool) → b ≡ false → (if lost then (if b then [] else since) else since) ≡ since
    leave true false e = refl
    leave false b e = refl
    leave true true e = cc

    go : (b : Bool) → (pid_in packet == k.pid) ≡ b → since_from k since (marks_by past packet) ≡ since_at (breaks (came_before k.pid past) (arrival_on k.pid packet)) since
    go true e =
        with_mark (is_lost past packet) ∙ pick (is_lost past packet) (q == k.pid) e
        ∙ ap (λ (n : ℕ). since_at (breaks (came_before n past) (arrival_on n packet)) since) (eqb-true q k.pid e)
    go false e =
        with_mark (is_lost past packet) ∙ leave (is_lost past packet) (q == k.pid) e
        ∙ sym (ap (λ (o : Option Arrival). since_at (breaks (came_before k.pid past) o) since) (elsewhere k.pid packet e))

marks-done : (k : Key) (since : List Counted) (past : List (List ℕ)) (packet : List ℕ) → completions_from k since (marks_by past packet) ≡ []
marks-done k since past packet = go (is_lost past packet)
  where
    go : (b : Bool) → completions_from k since (if b then Forgot (pid_in packet) ∷ [] else []) ≡ []
    go true = refl
    go false = refl

-- what a packet adds for a key
abbrev pub since_now : Key → List Counted → List (List ℕ) → List ℕ → List Counted
since_now k since past packet = since_at (breaks (came_before k.pid past) (arrival_on k.pid packet)) since

pub taken-since : (k : Key) (since : List Counted) (past : List (List ℕ)) (packet : List ℕ)
    → since_from k since (taken_by past packet) ≡ since_now k since past packet ++ key_heard k (adds k.pid past (arrival_on k.pid packet))
taken-since k since past packet =
    let ss : List Counted = counted_among (ended_by past packet) in
    since-append k since (marks_by past packet) (all_took ss)
    ∙ ap (λ (l : List Counted). since_from k l (all_took ss)) (marks-since k since past packet)
    ∙ since_free k (since_now k since past packet) ss
    ∙ ap (λ (l : List Counted). since_now k since past packet ++ l) (counted_on k past packet)

taken-done : (k : Key) (since : List Counted) (past : List (List ℕ)) (packet : List ℕ)
    → completions_from k since (taken_by past packet) ≡ completions (since_now k since past packet) (key_heard k (adds k.pid past (arrival_on k.pid packet)))
taken-done k since past packet =
    let ss : List Counted = counted_among (ended_by past packet) in
    completions-append k since (marks_by past packet) (all_took ss)
    ∙ ap (λ (l : List Completed). l ++ completions_from k (since_from k since (marks_by past packet)) (all_took ss)) (marks-done k since past packet)
    ∙ ap (λ (l : List Counted). completions_from k l (all_took ss)) (marks-since k since past packet)
    ∙ completions_free k (since_now k since past packet) ss
    ∙ ap (completions (since_now k since past packet)) (counted_on k past packet)

-- one arrival more
pub before-push : (before : Before) (xs : List Arrival) (x : Arrival) → before_all before (xs ++ x ∷ []) ≡ seen_before x
before-push before [] x = refl
before-push before (y ∷ xs) x = before-push (seen_before y) xs x

abbrev pub kept_on : Key → List (List ℕ) → PidState
kept_on k past = kept_behind nothing (arrivals_on k.pid past)

by_arrivals : (k : Key) (since : List Counted) (past packets : List (List ℕ))
    → completions_from k since (taken_from past packets) ≡ key_done k (came_before k.pid past) (kept_on k past) since (arrivals_on k.pid packets)
by_arrivals k since past [] = refl
by_arrivals k since past (packet ∷ packets) =
    completions-append k since (taken_by past packet) (taken_from (past ++ packet ∷ []) packets)
    ∙ ap₂ (λ (a b : List Completed). a ++ b) (taken-done k since past packet)
    (ap (λ (l : List Counted). completions_from k l (taken_from (past ++ packet ∷ []) packets)) (taken-since k since past packet))
    ∙ go (arrival_on k.pid packet) refl (λ since. by_arrivals k since (past ++ packet ∷ []) packets)
  where
    later : List Taken
    later = taken_from (past ++ packet ∷ []) packets

    go : (o : Option Arrival) → arrival_on k.pid packet ≡ o
        → ((since : List Counted) → completions_from k since (taken_from (past ++ packet ∷ []) packets)
        ≡ key_done k (came_before k.pid (past ++ packet ∷ [])) (kept_on k (past ++ packet ∷ [])) since (arrivals_on k.pid packets))
        → completions (since_at (breaks (came_before k.pid past) o) since) (key_heard k (adds k.pid past o))
        ++ completions_from k (since_at (breaks (came_before k.pid past) o) since ++ key_heard k (adds k.pid past o)) (taken_from (past ++ packet ∷ []) packets)
        ≡ key_done k (came_before k.pid past) (kept_on k past) since (cons_option o (arrivals_on k.pid packets))
    go None e rec =
        let same : arrivals_on k.pid (past ++ packet ∷ []) ≡ arrivals_on k.pid past =
        arrivals_on-push k.pid past packet ∙ ap (λ (p : Option Arrival). arrivals_on k.pid past ++ cons_option p []) e ∙ append-nil (arrivals_on k.pid past) in
        ap (λ (l : List Counted). completions_from k l (taken_from (past ++ packet ∷ []) packets)) (append-nil since)
        ∙ rec since
        ∙ ap (λ (l : List Arrival). key_done k (before_all Never l) (kept_behind nothing l) since (arrivals_on k.pid packets)) same
    go (Some x) e rec =
        let more : arrivals_on k.pid (past ++ packet ∷ []) ≡ arrivals_on k.pid past ++ x ∷ [] =
        arrivals_on-push k.pid past packet ∙ ap (λ (p : Option Arrival). arrivals_on k.pid past ++ cons_option p []) e in
        let now : List Counted = since_at (is_break (came_before k.pid past) x) since in
        let new : List Counted = key_heard k (given_after (kept_on k past) x) in
        ap (λ (l : List Completed). completions now new ++ l)
        (rec (now ++ new)
        ∙ ap₂ (λ (b : Before) (p : PidState). key_done k b p (now ++ new) (arrivals_on k.pid packets))
        (ap (before_all Never) more ∙ before-push Never (arrivals_on k.pid past) x)
        (ap (kept_behind nothing) more ∙ kept_behind-push nothing (arrivals_on k.pid past) x))

-- ---- part by part

-- what a part between two breaks completes of a key
abbrev pub done_in : Key → List Arrival → List Completed
done_in k part = completions [] (key_heard k (heard_of part))

completions-more : (since ss ts : List Counted) → completions since (ss ++ ts) ≡ completions since ss ++ completions (since ++ ss) ts
completions-more since [] ts = ap (λ (l : List Counted). completions l ts) (sym (append-nil since))
completions-more since (s ∷ ss) ts =
    ap (cons_option (completion (since ++ s ∷ []))) (completions-more (since ++ s ∷ []) ss ts)
    ∙ cons_both (completion (since ++ s ∷ [])) (completions (since ++ s ∷ []) ss) (completions ((since ++ s ∷ []) ++ ss) ts)
    ∙ ap (λ (l : List Counted). completions since (s ∷ ss) ++ completions l ts) (append_assoc since (s ∷ []) ss)
  where
    cons_both : (o : Option Completed) (a b : List Completed) → cons_option o (a ++ b) ≡ cons_option o a ++ b
    cons_both None a b = refl
    cons_both (Some d) a b = refl

-- at a break an arrival is heard as if nothing had come
pub given_at_break : (before : Before) (kept : PidState) (x : Arrival) → Fits before kept → is_break before x ≡ true → (given_after kept x ≡ given_after nothing x) × (kept_after kept x ≡ kept_after nothing x)
given_at_break before kept Arrival.Gap h e = (refl, refl)
given_at_break Never kept (Arrival.Came l) h e = cc
given_at_break AtGap kept (Arrival.Came l) h e =
    let none : kept ≡ nothing = ap₂ (λ (a : Option Seen) (b : Option (List ℕ)). let p : PidState = record { last = a; section = b } in p) h.last h.closed in
    (ap (λ (p : PidState). given_after p (Arrival.Came l)) none, ap (λ (p : PidState). kept_after p (Arrival.Came l)) none)
given_at_break (Had last) kept (Arrival.Came l) h e =
    let both = and_parts (not (is_next (Some last) l)) (not (is_again (Some last) l)) e in
    let next : is_next kept.last l ≡ false = ap (λ (o : Option Seen). is_next o l) h.last ∙ not-true (is_next (Some last) l) both.0 in
    let again : is_again kept.last l ≡ false = ap (λ (o : Option Seen). is_again o l) h.last ∙ not-true (is_again (Some last) l) both.1 in (
      ap₂ (λ (a b : Bool). if a then [] else given_by (still_open b kept.section) l.piece) again next,
      ap₂ (λ (a b : Bool). if a then kept else (let p : PidState = record { last = Some (seen l); section = open_behind (still_open b kept.section) l.piece } in p)) again next,
    )

abbrev done_from : Key → List Counted → PidState → List (List Arrival) → List Completed
done_from k since kept ps = completions since (key_heard k (given_all kept (first_part ps))) ++ flat_map (done_in k) (later_parts ps)

by_parts_from : (k : Key) (xs : List Arrival) (before : Before) (kept : PidState) (since : List Counted) → Fits before kept
    → key_done k before kept since xs ≡ done_from k since kept (parts before xs)
by_parts_from k [] before kept since h = refl
by_parts_from k (x ∷ xs) before kept since h = go (is_break before x) refl (λ since p f. by_parts_from k xs (seen_before x) p since f)
  where
    go : (b : Bool) → is_break before x ≡ b
        → ((since : List Counted) (p : PidState) → Fits (seen_before x) p → key_done k (seen_before x) p since xs ≡ done_from k since p (parts (seen_before x) xs))
        → completions (since_at b since) (key_heard k (given_after kept x)) ++ key_done k (seen_before x) (kept_after kept x) (since_at b since ++ key_heard k (given_after kept x)) xs
        ≡ done_from k since kept (if b then [] ∷ onto_first x (parts (seen_before x) xs) else onto_first x (parts (seen_before x) xs))
    go false e rec =
        let ps : List (List Arrival) = parts (seen_before x) xs in
        let new : List Counted = key_heard k (given_after kept x) in
        let rest : List Counted = key_heard k (given_all (kept_after kept x) (first_part ps)) in
        ap (λ (l : List Completed). completions since new ++ l) (rec (since ++ new) (kept_after kept x) (fits_after kept x))
        ∙ sym (append_assoc (completions since new) (completions (since ++ new) rest) (flat_map (done_in k) (later_parts ps)))
        ∙ ap (λ (l : List Completed). l ++ flat_map (done_in k) (later_parts ps))
        (sym (completions-more since new rest) ∙ ap (completions since) (sym (key_heard-append k (given_after kept x) (given_all (kept_after kept x) (first_part ps)))))
        ∙ ap (done_from k since kept) (sym (onto_first-is x ps))
    go true e rec =
        let ps : List (List Arrival) = parts (seen_before x) xs in
        let at = given_at_break before kept x h e in
        let new : List Counted = key_heard k (given_after nothing x) in
        let rest : List Counted = key_heard k (given_all (kept_after nothing x) (first_part ps)) in
        ap₂ (λ (ss : List (List ℕ)) (p : PidState). completions [] (key_heard k ss) ++ key_done k (seen_before x) p (key_heard k ss) xs) at.0 at.1
        ∙ ap (λ (l : List Completed). completions [] new ++ l) (rec new (kept_after nothing x) (fits_after nothing x))
        ∙ sym (append_assoc (completions [] new) (completions new rest) (flat_map (done_in k) (later_parts ps)))
        ∙ ap (λ (l : List Completed). l ++ flat_map (done_in k) (later_parts ps))
        (sym (completions-more [] new rest) ∙ ap (completions []) (sym (key_heard-append k (given_after nothing x) (given_all (kept_after nothing x) (first_part ps))))
        ∙ ap (λ (ss : List (List ℕ)). completions [] (key_heard k ss)) (given_all-is (x ∷ first_part ps)))
        ∙ ap (λ (l : List (List Arrival)). done_from k since kept ([] ∷ l)) (sym (onto_first-is x ps))

parts-some : (before : Before) (xs : List Arrival) → parts before xs ≡ first_part (parts before xs) ∷ later_parts (parts before xs)
parts-some before [] = refl
parts-some before (x ∷ xs) = go (is_break before x) (parts (seen_before x) xs)
  where
    go : (b : Bool) (ps : List (List Arrival)) → (if b then [] ∷ onto_first x ps else onto_first x ps)
        ≡ first_part (if b then [] ∷ onto_first x ps else onto_first x ps) ∷ later_parts (if b then [] ∷ onto_first x ps else onto_first x ps)
    go true ps = refl
    go false [] = refl
    go false (p ∷ ps) = refl

-- The completions of a key of a packet list.
pub by_parts : (k : Key) (packets : List (List ℕ)) → completions_over k (taken_of packets) ≡ flat_map (done_in k) (parts Never (arrivals_on k.pid packets))
by_parts k packets =
    let xs : List Arrival = arrivals_on k.pid packets in
    by_arrivals k [] [] packets ∙ by_parts_from k xs Never nothing [] fits_none
    ∙ ap (λ (ss : List (List ℕ)). completions [] (key_heard k ss) ++ flat_map (done_in k) (later_parts (parts Never xs))) (given_all-is (first_part (parts Never xs)))
    ∙ ap (flat_map (done_in k)) (sym (parts-some Never xs))
