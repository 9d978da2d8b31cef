-- The packets of a recording, one after another, and what `next` gives of them.
use Rattle.std.proofs.Common.{◌≡◌, ◌≢◌, ℕ, suc, ◌<◌, ◌≤◌, ◌==◌, true, false, List, [], ◌∷◌, ◌++◌, length, take, drop, slice_index, refl, sym, ap, ◌∙◌, arith, append-nil, append_assoc, length-take, length-append, Option, Some, None, inl, inr}
use Rattle.std.proofs.lemmas.List.{take-append-le, drop-append-le, length-take-le, take-append-drop}
use Rattle.std.proofs.lemmas.Bool.Decides.{nat_tests, leb_tells}
use Rattle.std.specs.Io.KnownBytes.{IsAtEnd, prepend_known}
use Rattle.si_causes.proofs.TextFacts.{nothing_left}
use Rattle.si_lists.proofs.Truths.{second_true}
use Rattle.packet_reader.specs.Recordings.{is_packet, and_packet, packets_in, RecordingEnd.Broken, RecordingEnd.PastLimit}
use Rattle.packet_reader.specs.Reading.{Gathers}

false-true : false ≡ true → ⊥
false-true e = cc

pub packet_step : (n : ℕ) (bytes : List ℕ) → is_packet (take 188 bytes) ≡ true → packets_in (suc n) bytes ≡ and_packet (take 188 bytes) (packets_in n (drop 188 bytes))
packet_step n [] e = cc
packet_step n (b ∷ bs) e = rw e refl

pub broken_step : (n : ℕ) (bytes : List ℕ) → bytes ≢ [] → is_packet (take 188 bytes) ≡ false → packets_in (suc n) bytes ≡ ([], Broken)
broken_step n [] some e = absurd (some refl)
broken_step n (b ∷ bs) some e = rw e refl

pub past_step : (bytes : List ℕ) → bytes ≢ [] → packets_in 0 bytes ≡ ([], PastLimit)
past_step [] some = absurd (some refl)
past_step (b ∷ bs) some = refl

-- the first piece of bytes that hold it whole
pub whole_piece : (bytes : List ℕ) → 188 ≤ length bytes → is_packet (take 188 bytes) ≡ (slice_index bytes 0 == 0x47)
whole_piece [] le = absurd (omega arith)
whole_piece (b ∷ bs) le =
    let long : (length (take 188 (b ∷ bs)) == 188) ≡ true = rw (length-take-le 188 (b ∷ bs) le) refl in
    rw long refl

-- a piece that is shorter is no packet
pub short_piece : (bytes : List ℕ) → length bytes < 188 → is_packet (take 188 bytes) ≡ false
short_piece bytes lt =
    let short : (length (take 188 bytes) == 188) ≡ false = grind (arith, nat_tests, length-take 188 bytes) in
    rw short refl

-- what stands behind does not change whether the first piece is a packet, where nothing stands behind a short one
pub of_whole : (held rest : List ℕ) → (length held < 188 → rest ≡ []) → is_packet (take 188 (held ++ rest)) ≡ is_packet (take 188 held)
of_whole held rest alone = elim (leb_tells 188 (length held)) [
  | inl enough ↦ ap is_packet (take-append-le 188 held rest enough.1)
  | inr few ↦ ap (λ t. is_packet (take 188 (held ++ t))) (alone few.1) ∙ ap (λ t. is_packet (take 188 t)) (append-nil held)
]

-- a piece that is a packet has 188 bytes
pub is_long : (bytes : List ℕ) → is_packet (take 188 bytes) ≡ true → 188 ≤ length bytes
is_long bytes e = elim (leb_tells 188 (length bytes)) [
  | inl enough ↦ enough.1
  | inr few ↦ absurd (false-true (sym (short_piece bytes few.1) ∙ e))
]

-- and begins with the sync byte
pub begins : (bytes : List ℕ) → is_packet (take 188 bytes) ≡ true → slice_index (take 188 bytes) 0 ≡ 0x47
begins bytes e = grind (arith, nat_tests, second_true (length (take 188 bytes) == 188) (slice_index (take 188 bytes) 0 == 0x47) e)

-- what a source has left behind the bytes that are held, once it gave some more
pub told_behind : (left_old left_new : Option (List ℕ)) (held_old held_new bytes : List ℕ) → prepend_known held_old left_old ≡ Some bytes → Gathers left_old left_new held_old held_new
    → (rest : List ℕ) × (left_new ≡ Some rest) × (bytes ≡ held_new ++ rest)
told_behind None left_new held_old held_new bytes e g = cc
told_behind (Some xs) None held_old held_new bytes e g = absurd g.2
told_behind (Some xs) (Some ys) held_old held_new bytes e g =
    let same : held_old ++ xs ≡ bytes = cc in
    (ys, refl, sym same ∙ ap (λ t. held_old ++ t) g.2 ∙ sym (append_assoc held_old g.0 ys) ∙ ap (λ t. t ++ ys) (sym g.1))

-- and these are left where nothing of them is taken
pub all_left : (left_old left_new : Option (List ℕ)) (held_old held_new bytes : List ℕ) → prepend_known held_old left_old ≡ Some bytes → Gathers left_old left_new held_old held_new
    → prepend_known held_new left_new ≡ Some bytes
all_left left_old left_new held_old held_new bytes told gathers =
    let t = told_behind left_old left_new held_old held_new bytes told gathers in
    ap (prepend_known held_new) t.1 ∙ ap Some (sym t.2)

-- bytes begin with some, so they are some
not_empty : (held rest : List ℕ) → length held ≢ 0 → held ++ rest ≢ []
not_empty held rest some e = some (omega (arith, ap length e, length-append held rest))

-- what comes where some bytes are held, by how many packets may still come and by the first piece
pub past_limit : (left_old left_new : Option (List ℕ)) (held_old held_new bytes : List ℕ) → prepend_known held_old left_old ≡ Some bytes → Gathers left_old left_new held_old held_new
    → length held_new ≢ 0 → packets_in 0 bytes ≡ ([], PastLimit)
past_limit left_old left_new held_old held_new bytes told gathers some =
    let t = told_behind left_old left_new held_old held_new bytes told gathers in
    ap (packets_in 0) t.2 ∙ past_step (held_new ++ t.0) (not_empty held_new t.0 some)

pub broken : (left_old left_new : Option (List ℕ)) (held_old held_new bytes : List ℕ) → prepend_known held_old left_old ≡ Some bytes → Gathers left_old left_new held_old held_new
    → (length held_new < 188 → IsAtEnd left_new) → length held_new ≢ 0 → is_packet (take 188 held_new) ≡ false → (n : ℕ) → packets_in (suc n) bytes ≡ ([], Broken)
broken left_old left_new held_old held_new bytes told gathers end some none n =
    let t = told_behind left_old left_new held_old held_new bytes told gathers in
    let piece = of_whole held_new t.0 (λ few. nothing_left left_new t.0 t.1 (end few)) in
    ap (packets_in (suc n)) t.2 ∙ broken_step n (held_new ++ t.0) (not_empty held_new t.0 some) (piece ∙ none)

pub goes_on : (left_old left_new : Option (List ℕ)) (held_old held_new bytes : List ℕ) → prepend_known held_old left_old ≡ Some bytes → Gathers left_old left_new held_old held_new
    → is_packet (take 188 held_new) ≡ true → (n : ℕ)
    → (rest : List ℕ) × (prepend_known (drop 188 held_new) left_new ≡ Some rest) × (packets_in (suc n) bytes ≡ and_packet (take 188 held_new) (packets_in n rest))
goes_on left_old left_new held_old held_new bytes told gathers is n =
    let t = told_behind left_old left_new held_old held_new bytes told gathers in
    let long = is_long held_new is in
    let piece = of_whole held_new t.0 (λ few. absurd (omega (arith, few, long))) in (
      drop 188 held_new ++ t.0,
      ap (prepend_known (drop 188 held_new)) t.1,
      ap (packets_in (suc n)) t.2 ∙ packet_step n (held_new ++ t.0) (piece ∙ is)
          ∙ ap (λ p. and_packet p (packets_in n (drop 188 (held_new ++ t.0)))) (take-append-le 188 held_new t.0 long)
          ∙ ap (λ r. and_packet (take 188 held_new) (packets_in n r)) (drop-append-le 188 held_new t.0 long),
    )

-- the piece in front of what is left
pub taken : (left_old left_new : Option (List ℕ)) (held_old held_new bytes : List ℕ) → prepend_known held_old left_old ≡ Some bytes → Gathers left_old left_new held_old held_new
    → (rest : List ℕ) × (prepend_known (drop 188 held_new) left_new ≡ Some rest) × (bytes ≡ take 188 held_new ++ rest)
taken left_old left_new held_old held_new bytes told gathers =
    let t = told_behind left_old left_new held_old held_new bytes told gathers in (
      drop 188 held_new ++ t.0,
      ap (prepend_known (drop 188 held_new)) t.1,
      t.2 ∙ ap (λ l. l ++ t.0) (sym (take-append-drop 188 held_new)) ∙ append_assoc (take 188 held_new) (drop 188 held_new) t.0,
    )
