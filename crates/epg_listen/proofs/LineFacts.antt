-- The lines of pieces, one after another.
use Rattle.std.proofs.Common.{◌≡◌, ℕ, ◌+◌, ◌<◌, List, [], ◌∷◌, ◌++◌, length, length-append, take, map, get_or, refl, sym, ap, ap₂, ◌∙◌, append-nil, append_assoc, arith, false}
use Rattle.std.specs.Prelude.{Bool}
use Rattle.std.proofs.lemmas.List.{map_more}
use Rattle.packet_finder.specs.Pieces.{Piece, Piece.Packet, Piece.Junk}
use Rattle.packet_finder.specs.Laws.{packets_of}
use Rattle.guide_receiver.specs.declared.done.DoneKey.{DoneKey}
use Rattle.guide_receiver.specs.Dones.{DoneAt, at_packet, dones_by, dones_behind}
use Rattle.guide_receiver.specs.Texts.{done_line, done_lines}
use Rattle.guide_receiver.specs.Guides.{guide_of}
use Rattle.guide_text.specs.Guides.{guide_text}
use Rattle.epg_listen.specs.Lines.{History, nothing_heard, after, after_all, heard_of, piece_lines, number_after, lines_after, heard_text}
use Rattle.epg_listen.specs.Laws.{PacketsAreReported}

lines_append : (xs ys : List DoneAt) → done_lines (xs ++ ys) ≡ done_lines xs ++ done_lines ys
lines_append [] ys = refl
lines_append (x ∷ xs) ys = ap (λ t. done_line x ++ t) (lines_append xs ys) ∙ sym (append_assoc (done_line x) (done_lines xs) (done_lines ys))

pub lines_next : (n : ℕ) (dones : List DoneKey) (i : ℕ) (d item : DoneKey) (text new : List ℕ) → i < length dones → item ≡ get_or dones i d
    → text ≡ done_lines (map (at_packet n) (take i dones)) → new ≡ text ++ done_line (at_packet n item) → new ≡ done_lines (map (at_packet n) (take (i + 1) dones))
lines_next n dones i d item text new lt is before more =
    more ∙ ap (λ t. t ++ done_line (at_packet n item)) before
    ∙ ap (λ t. done_lines (map (at_packet n) (take i dones)) ++ t) (sym (append-nil (done_line (at_packet n item))))
    ∙ sym (lines_append (map (at_packet n) (take i dones)) (at_packet n item ∷ []))
    ∙ ap (λ x. done_lines (map (at_packet n) (take i dones) ++ at_packet n x ∷ [])) is
    ∙ ap done_lines (sym (map_more (at_packet n) dones i d lt))

-- ---- one piece more

all_push : (strict : Bool) (h : History) (heard : List Piece) (p : Piece) → after_all strict h (heard ++ p ∷ []) ≡ after strict (after_all strict h heard) p
all_push strict h [] p = refl
all_push strict h (q ∷ heard) p = all_push strict (after strict h q) heard p

pub heard_push : (strict : Bool) (heard : List Piece) (p : Piece) → heard_of strict (heard ++ p ∷ []) ≡ after strict (heard_of strict heard) p
heard_push strict heard p = all_push strict nothing_heard heard p

next_number : (n : ℕ) (q : Piece) (heard : List Piece) → number_after n q + length (packets_of heard) ≡ n + length (packets_of (q ∷ heard))
next_number n (Packet packet) heard = omega arith
next_number n (Junk count) heard = refl

lines_push : (strict : Bool) (n : ℕ) (h : History) (heard : List Piece) (p : Piece)
    → lines_after strict n h (heard ++ p ∷ []) ≡ lines_after strict n h heard ++ piece_lines strict (n + length (packets_of heard)) (after_all strict h heard) p
lines_push strict n h [] p =
    let same : n ≡ n + 0 = omega arith in
    append-nil (piece_lines strict n h p) ∙ ap (λ k. piece_lines strict k h p) same
lines_push strict n h (q ∷ heard) p =
    ap (λ t. piece_lines strict n h q ++ t) (lines_push strict (number_after n q) (after strict h q) heard p)
    ∙ sym (append_assoc (piece_lines strict n h q) (lines_after strict (number_after n q) (after strict h q) heard) (piece_lines strict (number_after n q + length (packets_of heard)) (after_all strict (after strict h q) heard) p))
    ∙ ap (λ k. lines_after strict n h (q ∷ heard) ++ piece_lines strict k (after_all strict (after strict h q) heard) p) (next_number n q heard)

-- the report of one piece more
pub text_push : (strict : Bool) (heard : List Piece) (p : Piece)
    → heard_text strict (heard ++ p ∷ []) ≡ heard_text strict heard ++ piece_lines strict (length (packets_of heard)) (heard_of strict heard) p
text_push strict heard p =
    let same : 0 + length (packets_of heard) ≡ length (packets_of heard) = omega arith in
    lines_push strict 0 nothing_heard heard p
    ∙ ap (λ k. heard_text strict heard ++ piece_lines strict k (heard_of strict heard) p) same

-- ---- packets, without `--strict`

free_lines : (past packets : List (List ℕ)) → lines_after false (length past) (record { earlier = []; past = past }) (map Packet packets) ≡ done_lines (dones_behind past packets)
free_lines past [] = refl
free_lines past (p ∷ packets) =
    let now : List DoneAt = map (at_packet (length past)) (dones_by past p) in
    let size : length past + 1 ≡ length (past ++ p ∷ []) = omega (arith, length-append past (p ∷ [])) in
    ap (λ t. done_lines now ++ t)
    (ap (λ n. lines_after false n (record { earlier = []; past = past ++ p ∷ [] }) (map Packet packets)) size ∙ free_lines (past ++ p ∷ []) packets)
    ∙ sym (lines_append now (dones_behind (past ++ p ∷ []) packets))

free_past : (earlier : List (List (List ℕ))) (past packets : List (List ℕ)) → (after_all false (record { earlier = earlier; past = past }) (map Packet packets)).past ≡ past ++ packets
free_past earlier past [] = sym (append-nil past)
free_past earlier past (p ∷ packets) = free_past earlier (past ++ p ∷ []) packets ∙ append_assoc past (p ∷ []) packets

pub packets_told : PacketsAreReported
packets_told packets = ap₂ (λ (a b : List ℕ). a ++ b) (free_lines [] packets) (ap (λ (l : List (List ℕ)). guide_text (guide_of l)) (free_past [] [] packets))
