-- Packets in a row behind other bytes.
use Rattle.std.proofs.Common.{◌≡◌, ◌≢◌, ◌⊎◌, ◌==◌, ◌&&◌, ℕ, zero, suc, ◌+◌, ◌-◌, ◌<◌, ◌≤◌, nat_le, Bool, true, false, List, [], ◌∷◌, ◌++◌, length, take, drop, map, slice_index, refl, sym, ap, ◌∙◌, arith, append-nil, append_assoc, length-append, inl, inr}
use Rattle.std.specs.Prelude.{is_some, Some, None, Option, unwrap_or}
use Rattle.std.specs.List.{AllByRecursion}
use Rattle.std.proofs.lemmas.List.{take_at, get_or_append_left, get_or-append-add}
use Rattle.std.proofs.Math.Seq.{drop-append_seam}
use Rattle.std.proofs.lemmas.Bool.Decides.{nat_tests, eqb_tells}
use Rattle.si_lists.proofs.Truths.{first_true, second_true}
use Rattle.packet_reader.specs.Recordings.{RecordingEnd.AtEnd, is_packet}
use Rattle.packet_finder.specs.Pieces.{Piece, Piece.Packet, Findings, sync_at, is_row, row_length, tail_here, is_over, and_piece, and_junk, sought, before_row, found_in, found, junk_limit}
use Rattle.packet_finder.specs.Laws.{joined, AirIsFound}
use Rattle.packet_finder.proofs.RowFacts.{before_places, at_row}
use Rattle.packet_finder.proofs.Steps.{found_packet, found_sought, then_row}
use Rattle.packet_finder.proofs.Going.{at_front, some_left}

-- ---- a packet in front

true-false : true ≡ false → ⊥
true-false e = cc

size_of : (p : List ℕ) → is_packet p ≡ true → length p ≡ 188
size_of p is = (let e = first_true (length p == 188) _ is in grind (arith, nat_tests, e))

front_is : (p rest : List ℕ) → is_packet p ≡ true → take 188 (p ++ rest) ≡ p
front_is p rest is = take_at p rest 188 (size_of p is)

behind_is : (p rest : List ℕ) → is_packet p ≡ true → drop 188 (p ++ rest) ≡ rest
behind_is p rest is = ap (λ k. drop k (p ++ rest)) (sym (size_of p is)) ∙ drop-append_seam p rest

sync_here : (p rest : List ℕ) → is_packet p ≡ true → sync_at 0 (p ++ rest) ≡ true
sync_here p rest is =
    let some : nat_le (length (p ++ rest)) 0 ≡ false = grind (arith, nat_tests, size_of p is, length-append p rest) in
    rw (some, get_or_append_left p rest 0 0 (omega (arith, size_of p is))) (second_true (length p == 188) (slice_index p 0 == 0x47) is)

sync_on : (p rest : List ℕ) (n : ℕ) → is_packet p ≡ true → sync_at (188 + n) (p ++ rest) ≡ sync_at n rest
sync_on p rest n is =
    let size = size_of p is in
    let long : nat_le (length (p ++ rest)) (188 + n) ≡ nat_le (length rest) n = grind (arith, nat_tests, size, length-append p rest) in
    let byte : slice_index (p ++ rest) (188 + n) ≡ slice_index rest n = ap (λ k. slice_index (p ++ rest) k) (let e : 188 + n ≡ length p + n = omega (arith, size) in e) ∙ get_or-append-add p rest n 0 in
    rw (long, byte) refl

-- three packets are a row
row_of : (p q r rest : List ℕ) → is_packet p ≡ true → is_packet q ≡ true → is_packet r ≡ true → row_length (p ++ (q ++ (r ++ rest))) ≡ Some 188
unfolding row_length
row_of p q r rest x y z =
    let all = p ++ (q ++ (r ++ rest)) in
    let long : nat_le 188 (length all) ≡ true = grind (arith, nat_tests, size_of p x, length-append p (q ++ (r ++ rest))) in
    let one = sync_here p (q ++ (r ++ rest)) x in
    let two = sync_on p (q ++ (r ++ rest)) 0 x ∙ sync_here q (r ++ rest) y in
    let three = sync_on p (q ++ (r ++ rest)) 188 x ∙ sync_on q (r ++ rest) 0 y ∙ sync_here r rest z in
    let row : is_row 188 all ≡ true = rw (long, one, two, three) refl in
    rw row refl

-- ---- packets in sync

pub in_sync : (n : ℕ) (packets : List (List ℕ)) (behind : List ℕ) → AllByRecursion (λ packet. is_packet packet ≡ true) packets → length packets ≤ n
    → (more : Findings) × (found_in true n (Some 0) (joined packets ++ behind) ≡ (map Packet packets ++ more.0, more.1))
in_sync n [] behind each le = (found_in true n (Some 0) behind, refl)
in_sync zero (p ∷ packets) behind each le = absurd (omega (arith, le))
in_sync (suc n) (p ∷ packets) behind each le =
    let next = in_sync n packets behind each.1 (omega (arith, le)) in
    let rest = joined packets ++ behind in
    let bytes = append_assoc p (joined packets) behind in
    let going : is_over true (Some 0) (p ++ rest) ≡ false = grind (arith, nat_tests, size_of p each.0, length-append p rest) in (
      next.0,
      ap (found_in true (suc n) (Some 0)) bytes
          ∙ found_packet true n (Some 0) (p ++ rest) going (ap is_packet (front_is p rest each.0) ∙ each.0)
          ∙ ap (λ l. and_piece (Packet l) (found_in true n (Some 0) (drop 188 (p ++ rest)))) (front_is p rest each.0)
          ∙ ap (λ l. and_piece (Packet p) (found_in true n (Some 0) l)) (behind_is p rest each.0)
          ∙ ap (λ (f : Findings). and_piece (Packet p) f) next.1,
    )

-- ---- behind other bytes

junk_front : (k : ℕ) (pieces more : List Piece) (end : Findings) → (and_junk k (pieces ++ more, end.1)).0 ≡ (and_junk k (pieces, AtEnd)).0 ++ more
junk_front zero pieces more end = refl
junk_front (suc k) pieces more end = refl

-- a row begins at the first packet
record RowIs (rest : List ℕ) : Type 0 where
  pub row : row_length rest ≡ Some 188

row_is : (packets : List (List ℕ)) (behind : List ℕ) → AllByRecursion (λ packet. is_packet packet ≡ true) packets → 3 ≤ length packets → RowIs (joined packets ++ behind)
row_is [] behind each three = absurd (omega (arith, three))
row_is (p ∷ []) behind each three = absurd (omega (arith, three))
row_is (p ∷ q ∷ []) behind each three = absurd (omega (arith, three))
row_is (p ∷ q ∷ r ∷ packets) behind each three =
    let all : joined (p ∷ q ∷ r ∷ packets) ++ behind ≡ p ++ (q ++ (r ++ (joined packets ++ behind))) =
    append_assoc p (q ++ (r ++ joined packets)) behind ∙ ap (λ l. p ++ l) (append_assoc q (r ++ joined packets) behind) ∙ ap (λ l. p ++ (q ++ l)) (append_assoc r (joined packets) behind) in
    record { row = ap row_length all ∙ row_of p q r (joined packets ++ behind) each.0 each.1.0 each.1.1.0 }

no_packet : (b : ℕ) (l : List ℕ) → b ≢ 0x47 → is_packet (take 188 (b ∷ l)) ≡ false
no_packet b l other = elim (eqb_tells b 0x47) [
  | inl same ↦ absurd (other same.1)
  | inr apart ↦ and_no (length (take 188 (b ∷ l)) == 188) (b == 0x47) apart.0
]
  where
    and_no : (x y : Bool) → y ≡ false → (x && y) ≡ false
    and_no true y e = e
    and_no false y e = refl

pub air_is : AirIsFound
air_is noise packets behind rowless other few each three room =
    let rest = joined packets ++ behind in
    let row = (row_is packets behind each three).row in
    let begins : is_some (row_length rest) ≡ true = ap (λ (o : Option ℕ). is_some o) row in
    let tail : tail_here rest ≡ 0 = ap (λ (o : Option ℕ). unwrap_or o 188 - 188) row in
    let sync = in_sync 4294967295 packets behind each room in
    let found_rest = at_front 4294967295 rest tail ∙ sync.1 in
    (sync.0.0, of noise rowless other few begins found_rest ∙ junk_front (length noise) (map Packet packets) sync.0.0 sync.0)
  where
    of : (noise : List ℕ) → ((i : ℕ) → i < length noise → row_length (drop i (noise ++ (joined packets ++ behind))) ≡ None) → (noise ≡ []) ⊎ (slice_index noise 0 ≢ 0x47) → length noise ≤ junk_limit
        → is_some (row_length (joined packets ++ behind)) ≡ true → {f : Findings} → found_in true 4294967295 None (joined packets ++ behind) ≡ f → (found (noise ++ (joined packets ++ behind))).0 ≡ (and_junk (length noise) f).0
    of [] rowless other few begins e = ap (λ (f : Findings). f.0) e
    of (b ∷ noise) rowless (inl none) few begins e = absurd (let size = ap length none in omega (arith, size))
    of (b ∷ noise) rowless (inr first) few begins e =
        let rest = joined packets ++ behind in
        let all = (b ∷ noise) ++ rest in
        let before = before_places (b ∷ noise) rest rowless in
        let place : before_row all ≡ length (b ∷ noise) = (let z = at_row rest begins in omega (arith, before, z)) in
        let same = append-nil rest in
        ap (λ (f : Findings). f.0)
        (found_sought true 4294967294 None all (some_left None b (noise ++ rest) refl) (no_packet b (noise ++ rest) first)
        ∙ ap (λ k. sought true (found_in true 4294967294) k (drop k all)) place
        ∙ ap (sought true (found_in true 4294967294) (length (b ∷ noise))) (drop-append_seam (b ∷ noise) rest ∙ sym same)
        ∙ then_row true true 4294967294 (length (b ∷ noise)) rest [] few begins (λ e. absurd (true-false e)) (λ e. (refl, refl))
        ∙ ap (λ l. and_junk (length (b ∷ noise)) (found_in true 4294967295 None l)) same
        ∙ ap (and_junk (length (b ∷ noise))) e)
