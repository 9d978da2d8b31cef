-- The pieces of a recording are its bytes.
use Rattle.std.proofs.Common.{◌≡◌, ◌⊎◌, ℕ, zero, suc, ◌-◌, ◌≤◌, nat_le, nat_lt, Bool, true, false, List, [], ◌∷◌, ◌++◌, length, take, drop, refl, sym, ap, subst, ◌∙◌, arith, append-nil, length-take-le, inl, inr}
use Rattle.std.specs.Prelude.{is_some, Some, None, Option, unwrap_or, if◌then◌else◌, cond}
use Rattle.std.proofs.lemmas.List.{take-append-drop}
use Rattle.std.proofs.lemmas.Bool.Decides.{nat_tests}
use Rattle.packet_reader.specs.Recordings.{RecordingEnd.AtEnd, RecordingEnd.PastLimit, is_packet, packet_limit}
use Rattle.packet_finder.specs.Pieces.{Findings, is_row, row_length, tail_here, next_place, is_over, and_junk, packet_then, sought, before_row, found_in, junk_limit}
use Rattle.packet_finder.specs.Laws.{AreBytes, BeginsOtherwise, BytesAreFound}
use Rattle.packet_finder.proofs.RowFacts.{begins_packet}
use Rattle.packet_finder.proofs.Steps.{found_over, found_past, found_packet, found_sought}

-- ---- tails are short

few_lengths : (a b c : Bool) → unwrap_or {T = ℕ} (cond a (Some 188) (cond b (Some 192) (cond c (Some 204) None))) 188 - 188 ≤ 16
few_lengths true b c = omega arith
few_lengths false true c = omega arith
few_lengths false false true = omega arith
few_lengths false false false = omega arith

short_tail : (bytes : List ℕ) → tail_here bytes ≤ 16
unfolding row_length
short_tail bytes = few_lengths (is_row 188 bytes) (is_row 192 bytes) (is_row 204 bytes)

short_after : (tail : Option ℕ) (bytes : List ℕ) → unwrap_or tail 0 ≤ 16 → unwrap_or tail (tail_here bytes) ≤ 16
short_after None bytes le = short_tail bytes
short_after (Some t) bytes le = le

-- ---- what is passed over

within : (bytes : List ℕ) → before_row bytes ≤ length bytes
within [] = omega arith
within (b ∷ bytes) = of (is_some (row_length (b ∷ bytes))) refl (within bytes)
  where
    of : (some : Bool) → is_some (row_length (b ∷ bytes)) ≡ some → before_row bytes ≤ length bytes → before_row (b ∷ bytes) ≤ length (b ∷ bytes)
    of true e le = rw e (omega arith)
    of false e le = rw e (omega (arith, le))

row_behind : (bytes : List ℕ) → (drop (before_row bytes) bytes ≡ []) ⊎ (is_some (row_length (drop (before_row bytes) bytes)) ≡ true)
row_behind [] = inl refl
row_behind (b ∷ bytes) = of (is_some (row_length (b ∷ bytes))) refl (row_behind bytes)
  where
    of : (some : Bool) → is_some (row_length (b ∷ bytes)) ≡ some → (drop (before_row bytes) bytes ≡ []) ⊎ (is_some (row_length (drop (before_row bytes) bytes)) ≡ true)
        → (drop (before_row (b ∷ bytes)) (b ∷ bytes) ≡ []) ⊎ (is_some (row_length (drop (before_row (b ∷ bytes)) (b ∷ bytes))) ≡ true)
    of true e next_row = inr (ap (λ k. is_some (row_length (drop k (b ∷ bytes)))) (let z : before_row (b ∷ bytes) ≡ 0 = rw e refl in z) ∙ e)
    of false e next_row = (let next : before_row (b ∷ bytes) ≡ suc (before_row bytes) = rw e refl in
        subst (λ k. (drop k (b ∷ bytes) ≡ []) ⊎ (is_some (row_length (drop k (b ∷ bytes))) ≡ true)) (sym next) next_row)

junk_bytes : (n : ℕ) (bytes : List ℕ) (found : Findings) → n ≤ length bytes → BeginsOtherwise found.0 → AreBytes found.0 (drop n bytes) → AreBytes (and_junk n found).0 bytes
junk_bytes zero bytes found le other are = are
junk_bytes (suc n) bytes found le other are = (take (suc n) bytes, drop (suc n) bytes, sym (take-append-drop (suc n) bytes), sym (length-take-le (suc n) bytes le), omega arith, other, are)

-- ---- all pieces, behind a tail

-- the bytes are a tail, and then those of the pieces
abbrev Laid : ℕ → Findings → List ℕ → Type 0
Laid tail found bytes = found.1 ≡ AtEnd → (front : List ℕ) × (rest : List ℕ) × (bytes ≡ front ++ rest) × (length front ≤ tail) × AreBytes found.0 rest

not_end : PastLimit ≡ AtEnd → ⊥
not_end e = cc

packet_bytes : (n tail : ℕ) (bytes : List ℕ) → tail ≤ 16 → is_packet (take 188 bytes) ≡ true → Laid tail (found_in true n (Some tail) (drop 188 bytes)) (drop 188 bytes)
    → (packet_then (found_in true n) tail bytes).1 ≡ AtEnd → AreBytes (packet_then (found_in true n) tail bytes).0 bytes
packet_bytes n tail bytes short is laid end =
    let l = laid end in
    (is, l.0, l.1, sym (take-append-drop 188 bytes) ∙ ap (λ r. take 188 bytes ++ r) l.2, omega (arith, l.3, short), l.4)

end_of_junk : (n : ℕ) (found : Findings) → (and_junk n found).1 ≡ found.1
end_of_junk zero found = refl
end_of_junk (suc n) found = refl

le_of : (n : ℕ) → nat_le n 0 ≡ true → n ≤ 0
le_of n e = grind (arith, nat_tests, e)

begins_none : (rest : List ℕ) → nat_le (length rest) 0 ≡ true → rest ≡ []
begins_none [] e = refl
begins_none (b ∷ rest) e = absurd (omega (arith, le_of (length (b ∷ rest)) e))

some_row : (bytes : List ℕ) → nat_le (length (drop (before_row bytes) bytes)) 0 ≡ false → is_some (row_length (drop (before_row bytes) bytes)) ≡ true
some_row bytes some = elim (row_behind bytes) [
  | inl none ↦ absurd (let size = ap length none in let zero : nat_le (length (drop (before_row bytes) bytes)) 0 ≡ true = rw size refl in not_both (sym zero ∙ some))
  | inr row ↦ row
]
  where
    not_both : true ≡ false → ⊥
    not_both e = cc

sought_bytes : (n : ℕ) (bytes : List ℕ) → ((tail : ℕ) (rest : List ℕ) → tail ≤ 16 → Laid tail (found_in true n (Some tail) rest) rest)
    → (sought true (found_in true n) (before_row bytes) (drop (before_row bytes) bytes)).1 ≡ AtEnd → AreBytes (sought true (found_in true n) (before_row bytes) (drop (before_row bytes) bytes)).0 bytes
sought_bytes n bytes each = of (nat_lt junk_limit (before_row bytes)) (nat_le (length (drop (before_row bytes) bytes)) 0) refl
  where
    k : ℕ
    k = before_row bytes

    rest : List ℕ
    rest = drop (before_row bytes) bytes

    of : (many over : Bool) → nat_le (length (drop (before_row bytes) bytes)) 0 ≡ over
        → (if many then ([], PastLimit) else if over then and_junk (before_row bytes) ([], AtEnd) else and_junk (before_row bytes) (packet_then (found_in true n) (tail_here (drop (before_row bytes) bytes)) (drop (before_row bytes) bytes))).1 ≡ AtEnd
        → AreBytes (if many then ([], PastLimit) else if over then and_junk (before_row bytes) ([], AtEnd) else and_junk (before_row bytes) (packet_then (found_in true n) (tail_here (drop (before_row bytes) bytes)) (drop (before_row bytes) bytes))).0 bytes
    of true over e end = absurd (not_end end)
    of false true e end = junk_bytes (before_row bytes) bytes ([], AtEnd) (within bytes) tt (begins_none (drop (before_row bytes) bytes) e)
    of false false e end =
        let place = drop (before_row bytes) bytes in
        let tail = tail_here place in
        junk_bytes (before_row bytes) bytes (packet_then (found_in true n) tail place) (within bytes) tt
        (packet_bytes n tail place (short_tail place) (begins_packet place (some_row bytes e)) (each tail (drop 188 place) (short_tail place))
        (sym (end_of_junk (before_row bytes) (packet_then (found_in true n) tail place)) ∙ end))

laid_over : (n : ℕ) (tail : Option ℕ) (bytes : List ℕ) → is_over true tail bytes ≡ true → Laid (unwrap_or tail 0) (found_in true n tail bytes) bytes
laid_over n tail bytes over =
    subst (λ (f : Findings). Laid (unwrap_or tail 0) f bytes) (sym (found_over true n tail bytes over)) (λ end. (bytes, [], sym (append-nil bytes), short, refl))
  where
    short : length bytes ≤ unwrap_or tail 0
    short = grind (arith, nat_tests, over)

pub laid : (n : ℕ) (tail : Option ℕ) (bytes : List ℕ) → unwrap_or tail 0 ≤ 16 → Laid (unwrap_or tail 0) (found_in true n tail bytes) bytes
laid zero tail bytes short = of (is_over true tail bytes) refl
  where
    of : (over : Bool) → is_over true tail bytes ≡ over → Laid (unwrap_or tail 0) (found_in true 0 tail bytes) bytes
    of true e = laid_over 0 tail bytes e
    of false e = subst (λ (f : Findings). Laid (unwrap_or tail 0) f bytes) (sym (found_past true tail bytes e)) (λ end. absurd (not_end end))
laid (suc n) tail bytes short = of (λ t rest le. laid n (Some t) rest le) (is_over true tail bytes) (is_packet (take 188 (next_place tail bytes))) refl refl
  where
    of : ((t : ℕ) (rest : List ℕ) → t ≤ 16 → Laid t (found_in true n (Some t) rest) rest) → (over is : Bool) → is_over true tail bytes ≡ over → is_packet (take 188 (next_place tail bytes)) ≡ is → Laid (unwrap_or tail 0) (found_in true (suc n) tail bytes) bytes
    of each true is e f = laid_over (suc n) tail bytes e
    of each false true e f =
        let after = unwrap_or tail (tail_here bytes) in
        let le = short_after tail bytes short in
        let long : unwrap_or tail 0 ≤ length bytes = grind (arith, nat_tests, e) in
        subst (λ (g : Findings). Laid (unwrap_or tail 0) g bytes) (sym (found_packet true n tail bytes e f))
        (λ end. (
          take (unwrap_or tail 0) bytes,
          next_place tail bytes,
          sym (take-append-drop (unwrap_or tail 0) bytes),
          (let size = length-take-le (unwrap_or tail 0) bytes long in omega (arith, size)),
          packet_bytes n after (next_place tail bytes) le f (each after (drop 188 (next_place tail bytes)) le) end,
        ))
    of each false false e f =
        subst (λ (g : Findings). Laid (unwrap_or tail 0) g bytes) (sym (found_sought true n tail bytes e f))
        (λ end. ([], bytes, refl, omega arith, sought_bytes n bytes each end))

pub bytes_are : BytesAreFound
bytes_are bytes end =
    let l = laid packet_limit None bytes (omega arith) end in
    let none : l.0 ≡ [] = empty l.0 l.3 in
    subst (AreBytes (found_in true packet_limit None bytes).0) (sym (l.2 ∙ ap (λ f. f ++ l.1) none)) l.4
  where
    empty : (front : List ℕ) → length front ≤ 0 → front ≡ []
    empty [] le = refl
    empty (b ∷ front) le = absurd (omega (arith, le))
