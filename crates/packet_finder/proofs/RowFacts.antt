-- Rows of packets, and what stands before them.
use Rattle.std.proofs.Common.{◌≡◌, ℕ, suc, ◌+◌, ◌*◌, ◌<◌, ◌≤◌, ◌==◌, nat_le, Bool, true, false, List, [], ◌∷◌, ◌++◌, length, take, drop, slice_index, refl, ap, ◌∙◌, arith, length-append}
use Rattle.std.specs.Prelude.{is_some, Some, None, Option, cond}
use Rattle.std.proofs.lemmas.List.{get_or_append_left}
use Rattle.std.proofs.lemmas.Bool.Decides.{nat_tests}
use Rattle.si_lists.proofs.Truths.{first_true, second_true}
use Rattle.packet_reader.specs.Recordings.{is_packet}
use Rattle.packet_reader.proofs.RecordingFacts.{whole_piece}
use Rattle.packet_finder.specs.Pieces.{sync_at, is_row, row_length, before_row}

-- ---- what stands behind 409 bytes does not change whether a row begins

sync_front : (n : ℕ) (a b : List ℕ) → n < length a → sync_at n (a ++ b) ≡ sync_at n a
sync_front n a b lt =
    let long : nat_le (length (a ++ b)) n ≡ false = grind (arith, nat_tests, length-append a b) in
    let was : nat_le (length a) n ≡ false = grind (arith, nat_tests) in
    rw (long, was, get_or_append_left a b 0 n lt) refl

row_front : (apart : ℕ) (a b : List ℕ) → apart ≤ 204 → 409 ≤ length a → is_row apart (a ++ b) ≡ is_row apart a
row_front apart a b le enough =
    let long : nat_le 188 (length (a ++ b)) ≡ true = grind (arith, nat_tests, length-append a b) in
    let was : nat_le 188 (length a) ≡ true = grind (arith, nat_tests) in
    rw (long, was, sync_front 0 a b (omega (arith, enough)), sync_front apart a b (omega (arith, le, enough)), sync_front (2 * apart) a b (omega (arith, le, enough))) refl

pub length_front : (a b : List ℕ) → 409 ≤ length a → row_length (a ++ b) ≡ row_length a
unfolding row_length
length_front a b enough =
    rw (row_front 188 a b (omega arith) enough, row_front 192 a b (omega arith) enough, row_front 204 a b (omega arith) enough) refl

-- no row begins where none is told
pub no_length : (o : Option ℕ) → is_some o ≡ false → o ≡ None
no_length None e = refl
no_length (Some n) e = cc

-- ---- a row begins with a packet

row_packet : (apart : ℕ) (bytes : List ℕ) → is_row apart bytes ≡ true → is_packet (take 188 bytes) ≡ true
row_packet apart bytes row =
    let le = first_true (nat_le 188 (length bytes)) _ row in
    let enough : 188 ≤ length bytes = grind (arith, nat_tests, le) in
    let first = first_true (sync_at 0 bytes) _ (second_true (nat_le 188 (length bytes)) _ row) in
    let some : nat_le (length bytes) 0 ≡ false = grind (arith, nat_tests, enough) in
    let sync : (slice_index bytes 0 == 0x47) ≡ true = rw some at first in
    whole_piece bytes enough ∙ sync

pub begins_packet : (bytes : List ℕ) → is_some (row_length bytes) ≡ true → is_packet (take 188 bytes) ≡ true
unfolding row_length
begins_packet bytes some = of (is_row 188 bytes) (is_row 192 bytes) (is_row 204 bytes) refl refl refl some
  where
    of : (a b c : Bool) → is_row 188 bytes ≡ a → is_row 192 bytes ≡ b → is_row 204 bytes ≡ c
        → is_some {T = ℕ} (cond a (Some 188) (cond b (Some 192) (cond c (Some 204) None))) ≡ true → is_packet (take 188 bytes) ≡ true
    of true b c x y z e = row_packet 188 bytes x
    of false true c x y z e = row_packet 192 bytes y
    of false false true x y z e = row_packet 204 bytes z
    of false false false x y z e = cc

-- ---- what stands before the first row

pub at_row : (bytes : List ℕ) → is_some (row_length bytes) ≡ true → before_row bytes ≡ 0
at_row [] some = refl
at_row (b ∷ bytes) some = rw some refl

pub behind_place : (b : ℕ) (bytes : List ℕ) → row_length (b ∷ bytes) ≡ None → before_row (b ∷ bytes) ≡ suc (before_row bytes)
behind_place b bytes none =
    let no : is_some (row_length (b ∷ bytes)) ≡ false = ap is_some none in
    rw no refl

-- in the first bytes no row begins
pub before_places : (passed rest : List ℕ) → ((i : ℕ) → i < length passed → row_length (drop i (passed ++ rest)) ≡ None) → before_row (passed ++ rest) ≡ length passed + before_row rest
before_places [] rest none = omega arith
before_places (b ∷ passed) rest none =
    behind_place b (passed ++ rest) (none 0 (omega arith)) ∙ (let e = before_places passed rest (λ i lt. none (suc i) (omega (arith, lt))) in omega (arith, e))
