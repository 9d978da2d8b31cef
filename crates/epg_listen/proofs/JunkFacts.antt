-- Bytes that are passed over, and their line.
use Rattle.std.proofs.Common.{◌≡◌, ℕ, List, [], ◌∷◌, ◌++◌, length, ap, sym, subst, ◌∙◌, append-nil}
use Rattle.std.specs.Prelude.{Bool, Option, Result}
use Rattle.packet_finder.specs.Pieces.{Piece, Piece.Junk}
use Rattle.packet_finder.specs.Laws.{packets_of}
use Rattle.packet_finder.specs.Finding.{piece_of}
use Rattle.packet_finder.specs.declared.found.Found.{Found}
use Rattle.packet_finder.specs.declared.found.Found.TheVariants as was
use Rattle.epg_listen.specs.declared.listen.ListenStop.{ListenStop}
use Rattle.epg_listen.specs.Lines.{History, piece_lines}
use Rattle.epg_listen.specs.Hearing.{ReportsLines, IsTooManyAt}
use Rattle.epg_listen.proofs.Finding.{packets_push}

-- the line has the number of the next packet, which is that of the packets so far
pub junk_reports : (strict : Bool) (h : History) (heard : List Piece) (last : List ℕ) (found : Found) (count number : ℕ) (old new : Option (List ℕ)) (r : Result (Unit {0}) ListenStop)
    → found ≡ was.Junk count → number ≡ length (packets_of (heard ++ piece_of last found ∷ []))
    → ReportsLines old new (piece_lines strict number h (Junk count)) r
    → ReportsLines old new (piece_lines strict (length (packets_of heard)) h (piece_of last found)) r
junk_reports strict h heard last (was.Packet n) count number old new r is numbered told = cc
junk_reports strict h heard last (was.Junk n) count number old new r is numbered told =
    let same : n ≡ count = cc in
    let none : packets_of (heard ++ Junk n ∷ []) ≡ packets_of heard = packets_push heard (Junk n) ∙ append-nil (packets_of heard) in
    let now : number ≡ length (packets_of heard) = numbered ∙ ap (λ (l : List (List ℕ)). length l) none in
    subst (λ k. ReportsLines old new (piece_lines strict k h (Junk n)) r) now
    (subst (λ k. ReportsLines old new (piece_lines strict number h (Junk k)) r) (sym same) told)

pub junk_too_many : (h : History) (found : Found) (count : ℕ) (r : Result (Unit {0}) ListenStop) → found ≡ was.Junk count
    → IsTooManyAt (was.Junk count) h r → IsTooManyAt found h r
junk_too_many h found count r is many = subst (λ (f : Found). IsTooManyAt f h r) (sym is) many
