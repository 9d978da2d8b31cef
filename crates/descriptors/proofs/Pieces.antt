-- The pieces of an extended text as descriptors.
use Rattle.std.proofs.Common.{◌≡◌, ℕ, suc, ◌+◌, ◌*◌, ◌<◌, ◌≤◌, Bool, true, false, List, [], ◌∷◌, ◌++◌, length, take, drop, refl, sym, ap, ◌∙◌, arith, subst, length-append, length-drop, append_assoc, if◌then◌else◌}
use Rattle.std.specs.Prelude.{IsUtf8}
use Rattle.std.specs.List.{concat}
use Rattle.guide_model.specs.Coding.{all_plain, coded_text, coded_size}
use Rattle.guide_model.specs.Cutting.{pieces, cut_size}
use Rattle.guide_model.proofs.CutFacts.{coded_size-bounds, cut_size-pos}
use Rattle.guide_model.proofs.PieceFacts.{pieces-join, pieces-few, pieces-none, pieces-next, IsUtf8-rest}
use Rattle.std.proofs.lemmas.List.{nil_from_length}
use Rattle.descriptors.specs.ExtendedEvent.{extended_event_fields}
use Rattle.descriptors.specs.Descriptors.{descriptor}
use Rattle.descriptors.specs.EventDescriptors.{numbered, extended_events, content_of}
use Rattle.guide_model.specs.declared.event.Genre.{Genre}
use Rattle.descriptors.proofs.EventEntries.{length-content_body}

pub length-coded_text : (text : List ℕ) → length (coded_text text) ≡ coded_size text
length-coded_text text = go (all_plain text)
  where
    go : (plain : Bool) → length (if plain then text else 0x15 ∷ text) ≡ (if plain then length text else 1 + length text)
    go true = refl
    go false = omega arith

-- ---- how many bytes

-- those of the extended_event descriptors of pieces: eight before each piece
abbrev pub extended_size : List (List ℕ) → ℕ
extended_size [] = 0
extended_size (piece ∷ more) = 8 + coded_size piece + extended_size more

pub extended_size-le : (ps : List (List ℕ)) → extended_size ps ≤ 9 * length ps + length (concat ps)
extended_size-le [] = omega arith
extended_size-le (p ∷ ps) = omega (arith, extended_size-le ps, coded_size-bounds p, length-append p (concat ps))

pub extended_size-small : (text : List ℕ) → IsUtf8 text → length text ≤ 1000 → extended_size (pieces text) ≤ 1045
extended_size-small text u le =
    omega (arith, extended_size-le (pieces text), pieces-few text u, ap length (pieces-join text u))

pub few_pieces : (text : List ℕ) → IsUtf8 text → length text ≤ 1000 → length (pieces text) ≤ 5
few_pieces text u le = omega (arith, pieces-few text u)

pub length-numbered : (n last : ℕ) (language : List ℕ) (ps : List (List ℕ)) → length language ≡ 3 → length (numbered n last language ps) ≡ extended_size ps
length-numbered n last language [] three = refl
length-numbered n last language (p ∷ ps) three =
    omega (arith, length-numbered (suc n) last language ps three, three, length-coded_text p, length-append (descriptor 0x4E (extended_event_fields n last language (coded_text p))) (numbered (suc n) last language ps), length-append language (0 ∷ length (coded_text p) ∷ coded_text p))

pub length-extended_events : (language text : List ℕ) → length language ≡ 3 → length (extended_events language text) ≡ extended_size (pieces text)
length-extended_events language text three = length-numbered 0 _ language (pieces text) three

pub length-content_of : (genres : List Genre) → 0 < length genres → length (content_of genres) ≡ 2 + 2 * length genres
length-content_of [] some = absurd (omega arith)
length-content_of (g ∷ genres) some = omega (arith, length-content_body (g ∷ genres))

-- ---- a cut

pub cut_pieces : (text : List ℕ) (n : ℕ) (front rest : List ℕ) → IsUtf8 text → 0 < length text → n ≡ cut_size text → front ≡ take n text → rest ≡ drop n text → pieces text ≡ front ∷ pieces rest
cut_pieces text n front rest u some size f r =
    pieces-next text u some
    ∙ ap (λ (xs : List ℕ). xs ∷ pieces (drop (cut_size text) text)) (ap (λ i. take i text) (sym size) ∙ sym f)
    ∙ ap (λ (xs : List ℕ). front ∷ pieces xs) (ap (λ i. drop i text) (sym size) ∙ sym r)

pub cut_utf8 : (text : List ℕ) (n : ℕ) (rest : List ℕ) → IsUtf8 text → n ≡ cut_size text → rest ≡ drop n text → IsUtf8 rest
cut_utf8 text n rest u size r = subst IsUtf8 (ap (λ i. drop i text) (sym size) ∙ sym r) (IsUtf8-rest text u)

pub cut_less : (text : List ℕ) (n : ℕ) (rest : List ℕ) → IsUtf8 text → 0 < length text → n ≡ cut_size text → rest ≡ drop n text → length rest < length text
cut_less text n rest u some size r = omega (arith, cut_size-pos text u some, size, ap length r, length-drop n text)

-- ---- at the end of a text

pub no_pieces : (text : List ℕ) → length text ≡ 0 → pieces text ≡ []
no_pieces text e = ap pieces (nil_from_length text e) ∙ pieces-none

-- ---- a turn over the pieces

pub numbered-next : (n last : ℕ) (language out more piece : List ℕ) (ps qs : List (List ℕ)) (all : List ℕ)
    → ps ≡ piece ∷ qs → out ++ numbered n last language ps ≡ all → more ≡ out ++ descriptor 0x4E (extended_event_fields n last language (coded_text piece))
    → more ++ numbered (n + 1) last language qs ≡ all
numbered-next n last language out more piece ps qs all e so_far m =
    let k : n + 1 ≡ suc n = omega arith in
    let one = descriptor 0x4E (extended_event_fields n last language (coded_text piece)) in
    ap (λ (xs : List ℕ). xs ++ numbered (n + 1) last language qs) m
    ∙ ap (λ i. (out ++ one) ++ numbered i last language qs) k
    ∙ append_assoc out one (numbered (suc n) last language qs)
    ∙ ap (λ xs. out ++ numbered n last language xs) (sym e) ∙ so_far
