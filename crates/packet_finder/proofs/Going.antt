-- What is found beside the packets of a recording without faults.
use Rattle.std.proofs.Common.{◌≡◌, ◌≢◌, ℕ, zero, suc, nat_le, Bool, true, false, List, [], ◌∷◌, ◌++◌, length, take, drop, map, refl, sym, ap, subst, ◌∙◌, arith, append-nil}
use Rattle.std.specs.Prelude.{Some, None, Option, unwrap_or, if◌then◌else◌}
use Rattle.std.proofs.lemmas.Bool.Decides.{nat_tests}
use Rattle.packet_reader.specs.Recordings.{RecordingEnd, RecordingEnd.AtEnd, RecordingEnd.Broken, RecordingEnd.PastLimit, is_packet, and_packet, packets_in, packet_limit}
use Rattle.packet_reader.proofs.RecordingFacts.{packet_step, broken_step}
use Rattle.packet_finder.specs.Pieces.{Piece.Packet, Findings, tail_here, is_over, and_piece, packet_then, sought, before_row, found_in}
use Rattle.packet_finder.specs.Laws.{packets_of, FindingGoesOn}
use Rattle.packet_finder.proofs.Steps.{found_over, found_past, found_packet}

abbrev pub Recording : Type 0
Recording = List (List ℕ) × RecordingEnd

-- the packets of a recording are the first of those found, and where it is whole, all
pub record GoesOn (found : Findings) (recording : Recording) : Type 0 where
  pub front : (more : List (List ℕ)) × (packets_of found.0 ≡ recording.0 ++ more)
  pub all : recording.1 ≢ Broken → found ≡ (map Packet recording.0, recording.1)

same : (found : Findings) (recording : Recording) → found ≡ (map Packet recording.0, recording.1) → GoesOn found recording
same found recording e = record { front = ([], ap (λ (f : Findings). packets_of f.0) e ∙ packets recording.0 ∙ sym (append-nil recording.0)); all = λ whole. e }
  where
    packets : (ps : List (List ℕ)) → packets_of (map Packet ps) ≡ ps
    packets [] = refl
    packets (p ∷ ps) = ap (λ l. p ∷ l) (packets ps)

one_more : (p : List ℕ) (found : Findings) (recording : Recording) → GoesOn found recording → GoesOn (and_piece (Packet p) found) (and_packet p recording)
one_more p found recording goes = record {
  front = (goes.front.0, ap (λ l. p ∷ l) goes.front.1);
  all = λ whole. ap (λ (f : Findings). and_piece (Packet p) f) (goes.all whole);
}

-- a byte is left
pub some_left : (tail : Option ℕ) (b : ℕ) (bytes : List ℕ) → unwrap_or tail 0 ≡ 0 → is_over true tail (b ∷ bytes) ≡ false
some_left tail b bytes none = rw none (some (length bytes))
  where
    some : (n : ℕ) → nat_le (suc n) 0 ≡ false
    some n = grind (arith, nat_tests)

pub goes_on : (n : ℕ) (bytes : List ℕ) → GoesOn (found_in true n (Some 0) bytes) (packets_in n bytes)
goes_on n [] = same (found_in true n (Some 0) []) (packets_in n []) (found_over true n (Some 0) [] refl)
goes_on zero (b ∷ bytes) = same (found_in true 0 (Some 0) (b ∷ bytes)) ([], PastLimit) (found_past true (Some 0) (b ∷ bytes) (some_left (Some 0) b bytes refl))
goes_on (suc n) (b ∷ bytes) = of (goes_on n (drop 188 (b ∷ bytes))) (is_packet (take 188 (b ∷ bytes))) refl
  where
    of : GoesOn (found_in true n (Some 0) (drop 188 (b ∷ bytes))) (packets_in n (drop 188 (b ∷ bytes))) → (is : Bool) → is_packet (take 188 (b ∷ bytes)) ≡ is → GoesOn (found_in true (suc n) (Some 0) (b ∷ bytes)) (packets_in (suc n) (b ∷ bytes))
    of next true is =
        subst (λ (f : Findings). GoesOn f (packets_in (suc n) (b ∷ bytes))) (sym (found_packet true n (Some 0) (b ∷ bytes) (some_left (Some 0) b bytes refl) is))
        (subst (λ (r : Recording). GoesOn (packet_then (found_in true n) 0 (b ∷ bytes)) r) (sym (packet_step n (b ∷ bytes) is))
        (one_more (take 188 (b ∷ bytes)) (found_in true n (Some 0) (drop 188 (b ∷ bytes))) (packets_in n (drop 188 (b ∷ bytes))) next))
    of next false none =
        subst (λ (r : Recording). GoesOn (found_in true (suc n) (Some 0) (b ∷ bytes)) r) (sym (broken_step n (b ∷ bytes) (λ e. cc) none))
        (record { front = (packets_of (found_in true (suc n) (Some 0) (b ∷ bytes)).0, refl); all = λ whole. absurd (whole refl) })

-- with no tail at the front
pub at_front : (n : ℕ) (bytes : List ℕ) → tail_here bytes ≡ 0 → found_in true n None bytes ≡ found_in true n (Some 0) bytes
unfolding found_in
at_front zero bytes e = refl
at_front (suc n) bytes e =
    ap (λ t. if nat_le (length bytes) 0 then ([], AtEnd) else if is_packet (take 188 bytes) then packet_then (found_in true n) t bytes else sought true (found_in true n) (before_row bytes) (drop (before_row bytes) bytes)) e

pub finding_goes : FindingGoesOn
finding_goes bytes none =
    let goes = goes_on packet_limit bytes in
    let front = at_front packet_limit bytes none in
    ((goes.front.0, ap (λ (f : Findings). packets_of f.0) front ∙ goes.front.1), λ whole. front ∙ goes.all whole)
