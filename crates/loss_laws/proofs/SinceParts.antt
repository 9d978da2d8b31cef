-- The sections of a key since the last mark are those of the last part between the breaks of its PID.
use Rattle.std.proofs.Common.{◌≡◌, ℕ, List, [], ◌∷◌, ◌++◌, Bool, true, false, Option, Some, None, refl, sym, ap, ap₂, ◌∙◌, append_assoc, append-nil}
use Rattle.std.specs.Prelude.{if◌then◌else◌}
use Rattle.std.specs.List.{cons_option}
use Rattle.section_codec.specs.declared.table.Key.{Key}
use Rattle.ts_demux.specs.Arrivals.{Arrival, arrival_on, arrivals_on, heard_of}
use Rattle.ts_demux.specs.Breaks.{Before, Before.Never, seen_before, before_all, is_break, onto_first, parts, breaks, came_before}
use Rattle.ts_demux.specs.Keeping.{PidState, nothing}
use Rattle.ts_demux.specs.Steps.{given_after, kept_after, kept_behind}
use Rattle.ts_demux.proofs.Adding.{adds, arrivals_on-push}
use Rattle.ts_demux.proofs.Splitting.{Fits, fits_after, fits_none}
use Rattle.ts_demux.proofs.Stretches.{given_all, given_all-is, kept_behind-push}
use Rattle.sub_collect.specs.Runs.{Counted}
use Rattle.sub_collect.specs.Marks.{since_from, since_mark}
use Rattle.sub_collect.proofs.Marking.{since-append}
use Rattle.strict_receiver.specs.Strict.{taken_by, taken_from, taken_of}
use Rattle.air_laws.proofs.Counts.{key_heard, key_heard-append}
use Rattle.loss_laws.proofs.ByParts.{since_at, taken-since, before-push, kept_on, given_at_break}

-- ---- arrival by arrival

-- the sections of a key since the last mark
abbrev key_since : Key → Before → PidState → List Counted → List Arrival → List Counted
key_since k before kept since [] = since
key_since k before kept since (x ∷ xs) =
    key_since k (seen_before x) (kept_after kept x) (since_at (is_break before x) since ++ key_heard k (given_after kept x)) xs

by_arrivals : (k : Key) (since : List Counted) (past packets : List (List ℕ))
    → since_from k since (taken_from past packets) ≡ key_since k (came_before k.pid past) (kept_on k past) since (arrivals_on k.pid packets)
by_arrivals k since past [] = refl
by_arrivals k since past (packet ∷ packets) =
    since-append k since (taken_by past packet) (taken_from (past ++ packet ∷ []) packets)
    ∙ ap (λ (l : List Counted). since_from k l (taken_from (past ++ packet ∷ []) packets)) (taken-since k since past packet)
    ∙ go (arrival_on k.pid packet) refl (λ since. by_arrivals k since (past ++ packet ∷ []) packets)
  where
    go : (o : Option Arrival) → arrival_on k.pid packet ≡ o
        → ((since : List Counted) → since_from k since (taken_from (past ++ packet ∷ []) packets)
        ≡ key_since k (came_before k.pid (past ++ packet ∷ [])) (kept_on k (past ++ packet ∷ [])) since (arrivals_on k.pid packets))
        → since_from k (since_at (breaks (came_before k.pid past) o) since ++ key_heard k (adds k.pid past o)) (taken_from (past ++ packet ∷ []) packets)
        ≡ key_since k (came_before k.pid past) (kept_on k past) since (cons_option o (arrivals_on k.pid packets))
    go None e rec =
        let same : arrivals_on k.pid (past ++ packet ∷ []) ≡ arrivals_on k.pid past =
        arrivals_on-push k.pid past packet ∙ ap (λ (p : Option Arrival). arrivals_on k.pid past ++ cons_option p []) e ∙ append-nil (arrivals_on k.pid past) in
        ap (λ (l : List Counted). since_from k l (taken_from (past ++ packet ∷ []) packets)) (append-nil since)
        ∙ rec since
        ∙ ap (λ (l : List Arrival). key_since k (before_all Never l) (kept_behind nothing l) since (arrivals_on k.pid packets)) same
    go (Some x) e rec =
        let more : arrivals_on k.pid (past ++ packet ∷ []) ≡ arrivals_on k.pid past ++ x ∷ [] =
        arrivals_on-push k.pid past packet ∙ ap (λ (p : Option Arrival). arrivals_on k.pid past ++ cons_option p []) e in
        let now : List Counted = since_at (is_break (came_before k.pid past) x) since ++ key_heard k (given_after (kept_on k past) x) in
        rec now
        ∙ ap₂ (λ (b : Before) (p : PidState). key_since k b p now (arrivals_on k.pid packets))
        (ap (before_all Never) more ∙ before-push Never (arrivals_on k.pid past) x)
        (ap (kept_behind nothing) more ∙ kept_behind-push nothing (arrivals_on k.pid past) x)

-- ---- part by part

-- the last part, or none
abbrev pub last_part : List (List Arrival) → List Arrival
last_part [] = []
last_part (p ∷ []) = p
last_part (p ∷ q ∷ ps) = last_part (q ∷ ps)

-- the sections of a key since the last mark, where these are the parts of what comes next
abbrev since_in : Key → List Counted → PidState → List (List Arrival) → List Counted
since_in k since kept [] = since
since_in k since kept (p ∷ []) = since ++ key_heard k (given_all kept p)
since_in k since kept (p ∷ q ∷ ps) = key_heard k (heard_of (last_part (q ∷ ps)))

-- an arrival that goes on
goes_on : (k : Key) (since : List Counted) (kept : PidState) (x : Arrival) (ps : List (List Arrival))
    → since_in k (since ++ key_heard k (given_after kept x)) (kept_after kept x) ps ≡ since_in k since kept (onto_first x ps)
goes_on k since kept x [] = ap (λ (l : List (List ℕ)). since ++ key_heard k l) (sym (append-nil (given_after kept x)))
goes_on k since kept x (p ∷ []) =
    append_assoc since (key_heard k (given_after kept x)) (key_heard k (given_all (kept_after kept x) p))
    ∙ ap (λ (l : List Counted). since ++ l) (sym (key_heard-append k (given_after kept x) (given_all (kept_after kept x) p)))
goes_on k since kept x (p ∷ q ∷ ps) = refl

-- and one that begins a part
begins : (k : Key) (since : List Counted) (kept : PidState) (x : Arrival) (ps : List (List Arrival))
    → since_in k (key_heard k (given_after nothing x)) (kept_after nothing x) ps ≡ since_in k since kept ([] ∷ onto_first x ps)
begins k since kept x [] = ap (key_heard k) (sym (append-nil (given_after nothing x)) ∙ given_all-is (x ∷ []))
begins k since kept x (p ∷ []) =
    sym (key_heard-append k (given_after nothing x) (given_all (kept_after nothing x) p)) ∙ ap (key_heard k) (given_all-is (x ∷ p))
begins k since kept x (p ∷ q ∷ ps) = refl

by_parts : (k : Key) (xs : List Arrival) (before : Before) (kept : PidState) (since : List Counted) → Fits before kept
    → key_since k before kept since xs ≡ since_in k since kept (parts before xs)
by_parts k [] before kept since h = sym (append-nil since)
by_parts k (x ∷ xs) before kept since h = go (is_break before x) refl (λ since p f. by_parts k xs (seen_before x) p since f)
  where
    go : (b : Bool) → is_break before x ≡ b
        → ((since : List Counted) (p : PidState) → Fits (seen_before x) p → key_since k (seen_before x) p since xs ≡ since_in k since p (parts (seen_before x) xs))
        → key_since k (seen_before x) (kept_after kept x) (since_at b since ++ key_heard k (given_after kept x)) xs
        ≡ since_in k since kept (if b then [] ∷ onto_first x (parts (seen_before x) xs) else onto_first x (parts (seen_before x) xs))
    go false e rec =
        rec (since ++ key_heard k (given_after kept x)) (kept_after kept x) (fits_after kept x)
        ∙ goes_on k since kept x (parts (seen_before x) xs)
    go true e rec =
        let at = given_at_break before kept x h e in
        ap₂ (λ (ss : List (List ℕ)) (p : PidState). key_since k (seen_before x) p (key_heard k ss) xs) at.0 at.1
        ∙ rec (key_heard k (given_after nothing x)) (kept_after nothing x) (fits_after nothing x)
        ∙ begins k since kept x (parts (seen_before x) xs)

pub since_parts : (k : Key) (packets : List (List ℕ)) → since_mark k (taken_of packets) ≡ key_heard k (heard_of (last_part (parts Never (arrivals_on k.pid packets))))
since_parts k packets =
    by_arrivals k [] [] packets ∙ by_parts k (arrivals_on k.pid packets) Never nothing [] fits_none ∙ last (parts Never (arrivals_on k.pid packets))
  where
    last : (ps : List (List Arrival)) → since_in k [] nothing ps ≡ key_heard k (heard_of (last_part ps))
    last [] = refl
    last (p ∷ []) = ap (key_heard k) (given_all-is p)
    last (p ∷ q ∷ ps) = refl
