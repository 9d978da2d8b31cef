-- The completions of one packet more.
use Rattle.std.proofs.Common.{◌≡◌, ℕ, ◌+◌, ◌<◌, ◌≤◌, Bool, true, false, List, [], ◌∷◌, ◌++◌, length, drop, map, refl, sym, ap, ◌∙◌, subst, arith, append-nil, append_assoc, length-append, length-drop, inl, inr}
use Rattle.std.specs.Prelude.{slice_index}
use Rattle.std.proofs.lemmas.List.{map-append, drop-append-le}
use Rattle.std.proofs.Math.ListN.{drop_of_length-le}
use Rattle.std.proofs.lemmas.Bool.{cases_lt}
use Rattle.guide_receiver.specs.declared.done.DoneKey.{DoneKey}
use Rattle.guide_receiver.proofs.Dones.{dones_push}
use Rattle.guide_receiver.specs.Heard.{Hearing, ReceiverStandsFor}
use Rattle.guide_receiver.specs.Dones.{DoneAt, at_packet, dones_by, dones_of}
use Rattle.air_monitor.specs.declared.done_line.DoneLine.{DoneLine}
use Rattle.air_monitor.specs.Heard.{AppendsFrontOf, AreInSync, HearsBy, IsFrontOf, line_at, lines_at, lines_from}

numbered : (join n : ℕ) (dones : List DoneKey) → map (λ (d : DoneAt). line_at (join + d.packet) d.done) (map (at_packet n) dones) ≡ lines_at (join + n) dones
numbered join n [] = refl
numbered join n (d ∷ ds) = ap (λ t. line_at (join + n) d ∷ t) (numbered join n ds)

-- the completions of one packet more
pub lines_push : (join : ℕ) (heard : List (List ℕ)) (p : List ℕ) → lines_from join (heard ++ p ∷ []) ≡ lines_from join heard ++ lines_at (join + length heard) (dones_by heard p)
lines_push join heard p =
    let line = λ (d : DoneAt). line_at (join + d.packet) d.done in
    ap (map line) (dones_push [] heard p) ∙ map-append line (dones_of heard) (map (at_packet (length heard)) (dones_by heard p))
    ∙ ap (λ t. lines_from join heard ++ t) (numbered join (length heard) (dones_by heard p))

-- ---- from one packet on

-- a packet before the first
pub drop_before : {X : Type 0} (join : ℕ) (xs : List X) (x : X) → length xs < join → drop join (xs ++ x ∷ []) ≡ drop join xs
drop_before join xs x lt = drop_of_length-le (xs ++ x ∷ []) (omega (arith, length-append xs (x ∷ []))) ∙ sym (drop_of_length-le xs (omega arith))

pub drop_from : {X : Type 0} (join : ℕ) (xs : List X) (x : X) → join ≤ length xs → drop join (xs ++ x ∷ []) ≡ drop join xs ++ x ∷ []
drop_from join xs x le = drop-append-le join xs (x ∷ []) le

-- where all are in sync, so are those before the last, and the last
pub sync_last : (xs : List (List ℕ)) (p : List ℕ) → AreInSync (xs ++ p ∷ []) → AreInSync xs × (slice_index p 0 ≡ 0x47)
sync_last [] p all = (tt, all.0)
sync_last (x ∷ xs) p all = let rest = sync_last xs p all.1 in ((all.0, rest.0), rest.1)

-- the completions so far are a front of those of one packet more
pub front_push : (join : ℕ) (heard : List (List ℕ)) (p : List ℕ) (dones : List DoneLine) → IsFrontOf dones (lines_from join heard) → IsFrontOf dones (lines_from join (heard ++ p ∷ []))
front_push join heard p dones (rest, is) =
    let more = lines_at (join + length heard) (dones_by heard p) in
    (rest ++ more, lines_push join heard p ∙ ap (λ t. t ++ more) is ∙ append_assoc dones rest more)

pub front_all : (dones lines : List DoneLine) → dones ≡ lines → IsFrontOf dones lines
front_all dones lines is = ([], sym is ∙ sym (append-nil dones))

-- what was heard as far as this is a front of what one packet more shows
front_by : (wanting : Bool) (join : ℕ) (heard : List (List ℕ)) (receiver : Hearing) (dones : List DoneLine) → HearsBy wanting join heard receiver dones → IsFrontOf dones (lines_from join heard)
front_by false join heard receiver dones h = front_all dones (lines_from join heard) h.1
front_by true join heard receiver dones h = h

-- in each case: a packet before the first changes nothing, and one behind stands behind the others
at_join : {X : Type 0} (P : List X → Type 0) (join : ℕ) (past : List X) (p : X) → (length past < join → P (drop join past)) → (join ≤ length past → P (drop join past ++ p ∷ [])) → P (drop join (past ++ p ∷ []))
at_join P join past p before from = elim (cases_lt (length past) join) [
  | inl lt ↦ subst P (sym (drop_before join past p lt)) (before lt)
  | inr le ↦ subst P (sym (drop_from join past p le)) (from le)
]

sync_front : (join : ℕ) (past : List (List ℕ)) (p : List ℕ) → AreInSync (drop join (past ++ p ∷ [])) → AreInSync (drop join past)
sync_front join past p all = elim (cases_lt (length past) join) [
  | inl lt ↦ subst AreInSync (drop_before join past p lt) all
  | inr le ↦ (sync_last (drop join past) p (subst AreInSync (drop_from join past p le) all)).0
]

-- once memory was wanting, the completions stay a front
pub deaf_more : (wanting : Bool) (join : ℕ) (past : List (List ℕ)) (p : List ℕ) (receiver : Hearing) (dones : List DoneLine)
    → (AreInSync (drop join past) → HearsBy wanting join (drop join past) receiver dones)
    → AreInSync (drop join (past ++ p ∷ [])) → HearsBy true join (drop join (past ++ p ∷ [])) receiver dones
deaf_more wanting join past p receiver dones heard sync =
    let front = front_by wanting join (drop join past) receiver dones (heard (sync_front join past p sync)) in
    at_join (λ (l : List (List ℕ)). IsFrontOf dones (lines_from join l)) join past p (λ lt. front) (λ le. front_push join (drop join past) p dones front)

-- a packet before the first is not heard
pub before_join : (join : ℕ) (past : List (List ℕ)) (p : List ℕ) (receiver : Hearing) (dones : List DoneLine) → length past < join
    → HearsBy false join (drop join past) receiver dones → HearsBy false join (drop join (past ++ p ∷ [])) receiver dones
before_join join past p receiver dones lt h = subst (λ (l : List (List ℕ)). HearsBy false join l receiver dones) (sym (drop_before join past p lt)) h

-- a packet is heard
pub from_join : (join : ℕ) (past : List (List ℕ)) (p : List ℕ) (number : ℕ) (old new : List DoneLine) (receiver : Hearing) → number ≡ length past → join ≤ length past
    → old ≡ lines_from join (drop join past) → ReceiverStandsFor (drop join past ++ p ∷ []) receiver → new ≡ old ++ lines_at number (dones_by (drop join past) p)
    → HearsBy false join (drop join (past ++ p ∷ [])) receiver new
from_join join past p number old new receiver is le before stands more =
    let heard = drop join past in
    let at : number ≡ join + length heard = omega (arith, length-drop join past) in
    let lines : new ≡ lines_from join (heard ++ p ∷ []) =
    more ∙ ap (λ t. t ++ lines_at number (dones_by heard p)) before ∙ ap (λ n. lines_from join heard ++ lines_at n (dones_by heard p)) at ∙ sym (lines_push join heard p) in
    subst (λ (l : List (List ℕ)). HearsBy false join l receiver new) (sym (drop_from join past p le)) (stands, lines)

-- or a front of what it shows was kept
pub front_from : (join : ℕ) (past : List (List ℕ)) (p : List ℕ) (number : ℕ) (old new : List DoneLine) (receiver : Hearing) → number ≡ length past → join ≤ length past
    → old ≡ lines_from join (drop join past) → AppendsFrontOf old new (lines_at number (dones_by (drop join past) p))
    → HearsBy true join (drop join (past ++ p ∷ [])) receiver new
front_from join past p number old new receiver is le before (front, (rest, parts), more) =
    let heard = drop join past in
    let at : number ≡ join + length heard = omega (arith, length-drop join past) in
    let shown = lines_at number (dones_by heard p) in
    let all : lines_from join (heard ++ p ∷ []) ≡ new ++ rest =
    lines_push join heard p ∙ ap (λ n. lines_from join heard ++ lines_at n (dones_by heard p)) (sym at) ∙ ap (λ t. t ++ shown) (sym before)
    ∙ ap (λ t. old ++ t) parts ∙ sym (append_assoc old front rest) ∙ ap (λ t. t ++ rest) (sym more) in
    subst (λ (l : List (List ℕ)). IsFrontOf new (lines_from join l)) (sym (drop_from join past p le)) (rest, all)

pub sync_of : (join : ℕ) (past : List (List ℕ)) (p : List ℕ) → join ≤ length past → AreInSync (drop join (past ++ p ∷ [])) → slice_index p 0 ≡ 0x47
sync_of join past p le all = (sync_last (drop join past) p (subst AreInSync (drop_from join past p le) all)).1

pub sync_before : (join : ℕ) (past : List (List ℕ)) (p : List ℕ) → AreInSync (drop join (past ++ p ∷ [])) → AreInSync (drop join past)
sync_before join past p all = sync_front join past p all
