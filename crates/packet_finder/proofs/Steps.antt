-- The steps by which a piece is found.
use Rattle.std.proofs.Common.{◌≡◌, ℕ, zero, suc, ◌+◌, ◌-◌, ◌<◌, ◌≤◌, nat_lt, Bool, true, false, List, [], ◌++◌, length, take, drop, refl, sym, ap, ◌∙◌, arith, append-nil, append_assoc, length-append, length-drop, inl, inr}
use Rattle.std.specs.Prelude.{is_some, Some, None, Option, unwrap_or, if◌then◌else◌}
use Rattle.std.proofs.lemmas.List.{take-append-le, drop-append-le}
use Rattle.std.proofs.Math.Seq.{drop-append_seam}
use Rattle.std.proofs.lemmas.Bool.Decides.{nat_tests}
use Rattle.packet_reader.specs.Recordings.{RecordingEnd.AtEnd, RecordingEnd.PastLimit, is_packet}
use Rattle.packet_finder.specs.Pieces.{Piece.Packet, Findings, needed, next_place, tail_here, row_length, before_row, is_over, and_piece, and_junk, packet_then, sought, found_in, junk_limit}
use Rattle.packet_finder.specs.Steps.{MayEnd, MayFollow, AreBeforeRow, IsAtRow}
use Rattle.packet_reader.proofs.RecordingFacts.{is_long}
use Rattle.packet_finder.proofs.RowFacts.{length_front, at_row, begins_packet}

false-true : false ≡ true → ⊥
false-true e = cc

-- ---- the steps of what is found

pub found_over : (all : Bool) (n : ℕ) (tail : Option ℕ) (bytes : List ℕ) → is_over all tail bytes ≡ true → found_in all n tail bytes ≡ ([], AtEnd)
unfolding found_in
found_over all zero tail bytes e = rw e refl
found_over all (suc n) tail bytes e = rw e refl

pub found_past : (all : Bool) (tail : Option ℕ) (bytes : List ℕ) → is_over all tail bytes ≡ false → found_in all 0 tail bytes ≡ ([], PastLimit)
unfolding found_in
found_past all tail bytes e = rw e refl

pub found_packet : (all : Bool) (n : ℕ) (tail : Option ℕ) (bytes : List ℕ) → is_over all tail bytes ≡ false → is_packet (take 188 (next_place tail bytes)) ≡ true
    → found_in all (suc n) tail bytes ≡ packet_then (found_in all n) (unwrap_or tail (tail_here bytes)) (next_place tail bytes)
unfolding found_in
found_packet all n tail bytes e is = rw (e, is) refl

pub found_sought : (all : Bool) (n : ℕ) (tail : Option ℕ) (bytes : List ℕ) → is_over all tail bytes ≡ false → is_packet (take 188 (next_place tail bytes)) ≡ false
    → found_in all (suc n) tail bytes ≡ sought all (found_in all n) (before_row bytes) (drop (before_row bytes) bytes)
unfolding found_in
found_sought all n tail bytes e none = rw (e, none) refl

-- ---- what stands behind does not change a place that is judged

-- the next place is judged
pub record IsJudged (ended : Bool) (tail : Option ℕ) (held : List ℕ) : Type 0 where
  pub enough : ended ≡ false → needed tail ≤ length held
  pub some : unwrap_or tail 0 < length held

skip_needed : (tail : Option ℕ) → unwrap_or tail 0 + 188 ≤ needed tail
skip_needed None = omega arith
skip_needed (Some t) = omega arith

pub judged_over : (ended all : Bool) (tail : Option ℕ) (held behind : List ℕ) → IsJudged ended tail held → MayEnd ended all behind → is_over all tail (held ++ behind) ≡ false
judged_over ended true tail held behind judged may = grind (arith, nat_tests, length-append held behind, judged.some)
judged_over true false tail held behind judged may = absurd (false-true (may refl).0)
judged_over false false tail held behind judged may = (let enough = judged.enough refl in grind (arith, nat_tests, length-append held behind, enough))

judged_place : (ended : Bool) (tail : Option ℕ) (held behind : List ℕ) → IsJudged ended tail held → next_place tail (held ++ behind) ≡ next_place tail held ++ behind
judged_place ended tail held behind judged = drop-append-le (unwrap_or tail 0) held behind (omega (arith, judged.some))

judged_piece : (ended all : Bool) (tail : Option ℕ) (held behind : List ℕ) → IsJudged ended tail held → MayEnd ended all behind → take 188 (next_place tail (held ++ behind)) ≡ take 188 (next_place tail held)
judged_piece true all tail held behind judged may = ap (λ l. take 188 (next_place tail (held ++ l))) (may refl).1 ∙ ap (λ l. take 188 (next_place tail l)) (append-nil held)
judged_piece false all tail held behind judged may =
    ap (take 188) (judged_place false tail held behind judged)
    ∙ take-append-le 188 (next_place tail held) behind (omega (arith, judged.enough refl, skip_needed tail, length-drop (unwrap_or tail 0) held))

judged_tail : (ended all : Bool) (tail : Option ℕ) (held behind : List ℕ) → IsJudged ended tail held → MayEnd ended all behind → unwrap_or tail (tail_here (held ++ behind)) ≡ unwrap_or tail (tail_here held)
judged_tail ended all (Some t) held behind judged may = refl
judged_tail true all None held behind judged may = ap (λ l. tail_here (held ++ l)) (may refl).1 ∙ ap tail_here (append-nil held)
judged_tail false all None held behind judged may = ap (λ (o : Option ℕ). unwrap_or o 188 - 188) (length_front held behind (judged.enough refl))

-- a packet in sync
pub packet_found : (ended all : Bool) (n : ℕ) (tail : Option ℕ) (held behind : List ℕ) → IsJudged ended tail held → MayEnd ended all behind → is_packet (take 188 (next_place tail held)) ≡ true
    → found_in all (suc n) tail (held ++ behind)
    ≡ and_piece (Packet (take 188 (next_place tail held))) (found_in all n (Some (unwrap_or tail (tail_here held))) (drop 188 (next_place tail held) ++ behind))
packet_found ended all n tail held behind judged may is =
    let piece = judged_piece ended all tail held behind judged may in
    let place = judged_place ended tail held behind judged in
    let long = is_long (next_place tail held) is in
    found_packet all n tail (held ++ behind) (judged_over ended all tail held behind judged may) (ap is_packet piece ∙ is)
    ∙ ap (λ t. packet_then (found_in all n) t (next_place tail (held ++ behind))) (judged_tail ended all tail held behind judged may)
    ∙ ap (λ p. and_piece (Packet p) (found_in all n (Some (unwrap_or tail (tail_here held))) (drop 188 (next_place tail (held ++ behind))))) piece
    ∙ ap (λ l. and_piece (Packet (take 188 (next_place tail held))) (found_in all n (Some (unwrap_or tail (tail_here held))) l)) (ap (drop 188) place ∙ drop-append-le 188 (next_place tail held) behind long)

-- sync was lost
sync_lost : (ended all : Bool) (n : ℕ) (tail : Option ℕ) (held behind : List ℕ) → IsJudged ended tail held → MayEnd ended all behind → is_packet (take 188 (next_place tail held)) ≡ false
    → found_in all (suc n) tail (held ++ behind) ≡ sought all (found_in all n) (before_row (held ++ behind)) (drop (before_row (held ++ behind)) (held ++ behind))
sync_lost ended all n tail held behind judged may none =
    found_sought all n tail (held ++ behind) (judged_over ended all tail held behind judged may) (ap is_packet (judged_piece ended all tail held behind judged may) ∙ none)

more_judged : (before after all : Bool) (more behind : List ℕ) → MayFollow before more → (before ≡ true → after ≡ true) → MayEnd after all behind → MayEnd before all (more ++ behind)
more_judged before after all more behind none stays may e = ((may (stays e)).0, ap (λ l. l ++ behind) (none e) ∙ (may (stays e)).1)

-- The next place was judged and has no packet, and bytes were passed over from there.
pub record Seeks (before after : Bool) (tail : Option ℕ) (held more passed rest : List ℕ) : Type 0 where
  pub judged : IsJudged before tail held
  pub lost : is_packet (take 188 (next_place tail held)) ≡ false
  pub none : MayFollow before more
  pub stays : before ≡ true → after ≡ true
  pub parted : held ++ more ≡ passed ++ rest
  pub no_row : AreBeforeRow after passed rest

all_bytes : (before after : Bool) (tail : Option ℕ) (held more passed rest behind : List ℕ) → Seeks before after tail held more passed rest → passed ++ (rest ++ behind) ≡ held ++ (more ++ behind)
all_bytes before after tail held more passed rest behind s = sym (append_assoc passed rest behind) ∙ ap (λ l. l ++ behind) (sym s.parted) ∙ append_assoc held more behind

seeks : (before after all : Bool) (n : ℕ) (tail : Option ℕ) (held more passed rest behind : List ℕ) → Seeks before after tail held more passed rest → MayEnd after all behind
    → found_in all (suc n) tail (passed ++ (rest ++ behind))
    ≡ sought all (found_in all n) (length passed + before_row (rest ++ behind)) (drop (length passed + before_row (rest ++ behind)) (passed ++ (rest ++ behind)))
seeks before after all n tail held more passed rest behind s may =
    let bytes = all_bytes before after tail held more passed rest behind s in
    let place = s.no_row behind (λ e. (may e).1) in
    ap (found_in all (suc n) tail) bytes
    ∙ sync_lost before all n tail held (more ++ behind) s.judged (more_judged before after all more behind s.none s.stays may) s.lost
    ∙ ap (λ l. sought all (found_in all n) (before_row l) (drop (before_row l) l)) (sym bytes)
    ∙ ap (λ k. sought all (found_in all n) k (drop k (passed ++ (rest ++ behind)))) place

-- a row begins in what is held, and is judged
pub at_judged : (ended : Bool) (held : List ℕ) → is_some (row_length held) ≡ true → (ended ≡ false → 409 ≤ length held) → IsJudged ended None held
at_judged ended held row enough = record { enough = enough; some = (let long = is_long held (begins_packet held row) in omega (arith, long)) }

row_at : (ended all : Bool) (held behind : List ℕ) → is_some (row_length held) ≡ true → (ended ≡ false → 409 ≤ length held) → MayEnd ended all behind → before_row (held ++ behind) ≡ 0
row_at true all held behind row enough may = ap (λ l. before_row (held ++ l)) (may refl).1 ∙ ap before_row (append-nil held) ∙ at_row held row
row_at false all held behind row enough may = at_row (held ++ behind) (ap (λ (o : Option ℕ). is_some o) (length_front held behind (enough refl)) ∙ row)

-- what comes at a row
pub then_row : (ended all : Bool) (n k : ℕ) (held behind : List ℕ) → k ≤ junk_limit → is_some (row_length held) ≡ true → (ended ≡ false → 409 ≤ length held) → MayEnd ended all behind
    → sought all (found_in all n) k (held ++ behind) ≡ and_junk k (found_in all (suc n) None (held ++ behind))
then_row ended all n k held behind le row enough may =
    let judged = at_judged ended held row enough in
    let going = judged_over ended all None held behind judged may in
    let room : nat_lt junk_limit k ≡ false = grind (arith, nat_tests, le) in
    let is : is_packet (take 188 (held ++ behind)) ≡ true = ap is_packet (judged_piece ended all None held behind judged may) ∙ begins_packet held row in
    (rw (room, going) refl) ∙ ap (and_junk k) (sym (found_packet all n None (held ++ behind) going is))

-- what is found behind the bytes passed over
pub found_behind : (before after all : Bool) (n : ℕ) (tail : Option ℕ) (held more passed rest behind : List ℕ) → Seeks before after tail held more passed rest → IsAtRow after rest → length passed ≤ junk_limit → MayEnd after all behind
    → found_in all (suc n) tail (passed ++ (rest ++ behind)) ≡ and_junk (length passed) (found_in all (suc n) None (rest ++ behind))
found_behind before after all n tail held more passed rest behind s (inl (row, enough)) le may =
    let zero_on : length passed + before_row (rest ++ behind) ≡ length passed = (let z = row_at after all rest behind row enough may in omega (arith, z)) in
    seeks before after all n tail held more passed rest behind s may
    ∙ ap (λ k. sought all (found_in all n) k (drop k (passed ++ (rest ++ behind)))) zero_on
    ∙ ap (sought all (found_in all n) (length passed)) (drop-append_seam passed (rest ++ behind))
    ∙ then_row after all n (length passed) rest behind le row enough may
found_behind before after false n tail held more passed rest behind s (inr (over, empty)) le may = absurd (false-true (may over).0)
found_behind before after true n tail held more passed rest behind s (inr (over, empty)) le may =
    let alone : rest ++ behind ≡ [] = ap (λ l. l ++ behind) empty ∙ (may over).1 in
    let place : length passed + before_row (rest ++ behind) ≡ length passed = (let z = ap before_row alone in omega (arith, z)) in
    let room : nat_lt junk_limit (length passed) ≡ false = grind (arith, nat_tests, le) in
    let last : sought true (found_in true n) (length passed) [] ≡ and_junk (length passed) ([], AtEnd) = rw room refl in
    seeks before after true n tail held more passed rest behind s may
    ∙ ap (λ k. sought true (found_in true n) k (drop k (passed ++ (rest ++ behind)))) place
    ∙ ap (sought true (found_in true n) (length passed)) (drop-append_seam passed (rest ++ behind))
    ∙ ap (sought true (found_in true n) (length passed)) alone
    ∙ last
    ∙ ap (and_junk (length passed)) (sym (ap (found_in true (suc n) None) alone ∙ found_over true (suc n) None [] refl))

-- too many bytes are passed over
pub too_many_passed : (before after : Bool) (n : ℕ) (tail : Option ℕ) (held more passed rest behind : List ℕ) → Seeks before after tail held more passed rest → junk_limit < length passed → MayFollow after behind
    → found_in true (suc n) tail (passed ++ (rest ++ behind)) ≡ ([], PastLimit)
too_many_passed before after n tail held more passed rest behind s many may =
    let over : nat_lt junk_limit (length passed + before_row (rest ++ behind)) ≡ true = grind (arith, nat_tests, many) in
    seeks before after true n tail held more passed rest behind s (λ e. (refl, may e)) ∙ (rw over refl)

-- ---- where too few bytes have come to judge a place

sought_none : (n k : ℕ) (rest : List ℕ) → length rest < 409 → (sought false (found_in false n) k rest).0 ≡ []
sought_none n k rest few = of (nat_lt junk_limit k) (grind (arith, nat_tests, few))
  where
    of : (b : Bool) → nat_lt (length rest) 409 ≡ true → (if b then ([], PastLimit) else if nat_lt (length rest) 409 then ([], AtEnd) else and_junk k (packet_then (found_in false n) (tail_here rest) rest)).0 ≡ []
    of true short = refl
    of false short = rw short refl

pub none_settled : (before : Bool) (n : ℕ) (tail : Option ℕ) (held more passed rest : List ℕ) → Seeks before false tail held more passed rest → length rest < 409 → (found_in false (suc n) tail (passed ++ rest)).0 ≡ []
none_settled before n tail held more passed rest s few =
    let end = append-nil rest in
    let k = length passed + before_row (rest ++ []) in
    let size = ap length end in
    ap (λ l. (found_in false (suc n) tail (passed ++ l)).0) (sym end)
    ∙ ap (λ (f : Findings). f.0) (seeks before false false n tail held more passed rest [] s (λ e. absurd (false-true e)))
    ∙ sought_none n k (drop k (passed ++ (rest ++ []))) (omega (arith, length-drop k (passed ++ (rest ++ [])), length-append passed (rest ++ []), size, few))

pub none_held : (n : ℕ) (tail : Option ℕ) (held : List ℕ) → IsJudged false tail held → is_packet (take 188 (next_place tail held)) ≡ false → length (drop (before_row held) held) < 409 → (found_in false (suc n) tail held).0 ≡ []
none_held n tail held judged none few =
    let end = append-nil held in
    ap (λ l. (found_in false (suc n) tail l).0) (sym end)
    ∙ ap (λ (f : Findings). f.0) (sync_lost false false n tail held [] judged (λ e. absurd (false-true e)) none)
    ∙ ap (λ l. (sought false (found_in false n) (before_row l) (drop (before_row l) l)).0) end
    ∙ sought_none n (before_row held) (drop (before_row held) held) few
