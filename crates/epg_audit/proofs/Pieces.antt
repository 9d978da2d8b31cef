-- The packets that were taken of a recording, and those that are left.
use Rattle.std.proofs.Common.{◌≡◌, ℕ, zero, suc, ◌+◌, ◌*◌, ◌/◌, ◌<◌, List, [], ◌∷◌, ◌++◌, length, take, drop, get_or, refl, sym, ap, ap₂, ◌∙◌, arith, append-nil, append_assoc, length-append}
use Rattle.std.proofs.lemmas.List.{take_at, drop_at}
use Rattle.std.proofs.Math.Seq.{take-append_seam}
use Rattle.ts_packets.specs.Packets.{joined}
use Rattle.ts_packets.specs.WholePackets.{AreWhole, pieces, whole_packets}
use Rattle.ts_packets.proofs.WholePackets.{joined-push, whole-push}
use Rattle.epg_audit.specs.Checks.{AreTaken}

pub taken_none : (bytes : List ℕ) → AreTaken bytes [] bytes
taken_none bytes = record { parted = refl; whole = tt }

pub taken_more : (bytes : List ℕ) (packets : List (List ℕ)) (rest p behind : List ℕ) → AreTaken bytes packets rest → rest ≡ p ++ behind → length p ≡ 188 → AreTaken bytes (packets ++ p ∷ []) behind
taken_more bytes packets rest p behind t e long = record {
  parted = t.parted ∙ ap (λ (l : List ℕ). joined packets ++ l) e ∙ sym (append_assoc (joined packets) p behind) ∙ ap (λ (l : List ℕ). l ++ behind) (sym (joined-push packets p));
  whole = whole-push packets p t.whole long;
}

-- ---- pieces

-- the pieces of whole packets and of what stands behind them
pieces_parted : (packets : List (List ℕ)) (n m : ℕ) (rest : List ℕ) → n ≡ length packets + m → AreWhole packets → pieces n (joined packets ++ rest) ≡ packets ++ pieces m rest
pieces_parted [] n m rest count whole = (let same : n ≡ m = omega (arith, count) in ap (λ (k : ℕ). pieces k rest) same)
pieces_parted (p ∷ ps) zero m rest count whole = absurd (omega (arith, count))
pieces_parted (p ∷ ps) (suc n) m rest count whole =
    let behind = joined ps ++ rest in
    let apart : joined (p ∷ ps) ++ rest ≡ p ++ behind = append_assoc p (joined ps) rest in
    ap (λ (b : List ℕ). take 188 b ∷ pieces n (drop 188 b)) apart
    ∙ ap₂ (λ (x y : List ℕ). x ∷ pieces n y) (take_at p behind 188 whole.0) (drop_at p behind 188 whole.0)
    ∙ ap (λ (l : List (List ℕ)). p ∷ l) (pieces_parted ps n m rest (omega (arith, count)) whole.1)

length-joined : (packets : List (List ℕ)) → AreWhole packets → length (joined packets) ≡ 188 * length packets
length-joined [] whole = refl
length-joined (p ∷ ps) whole = omega (arith, length-append p (joined ps), whole.0, length-joined ps whole.1)

pub size_parted : (bytes : List ℕ) (packets : List (List ℕ)) (rest : List ℕ) → AreTaken bytes packets rest → length bytes ≡ 188 * length packets + length rest
size_parted bytes packets rest t = ap length t.parted ∙ length-append (joined packets) rest ∙ ap (λ (n : ℕ). n + length rest) (length-joined packets t.whole)

pub packets_parted : (bytes : List ℕ) (packets : List (List ℕ)) (rest : List ℕ) → AreTaken bytes packets rest → whole_packets bytes ≡ packets ++ whole_packets rest
packets_parted bytes packets rest t =
    let count : length bytes / 188 ≡ length packets + length rest / 188 = omega (arith, size_parted bytes packets rest t) in
    ap (λ (n : ℕ). pieces n bytes) count ∙ ap (pieces (length packets + length rest / 188)) t.parted ∙ pieces_parted packets (length packets + length rest / 188) (length rest / 188) rest refl t.whole

-- what is shorter than a packet has no piece
pub no_pieces : (rest : List ℕ) → length rest < 188 → whole_packets rest ≡ []
no_pieces rest few = (let none : length rest / 188 ≡ 0 = omega (arith, few) in ap (λ (n : ℕ). pieces n rest) none)

pub packets_taken : (bytes : List ℕ) (packets : List (List ℕ)) (rest : List ℕ) → AreTaken bytes packets rest → length rest < 188 → whole_packets bytes ≡ packets
packets_taken bytes packets rest t few = packets_parted bytes packets rest t ∙ ap (λ (l : List (List ℕ)). packets ++ l) (no_pieces rest few) ∙ append-nil packets

-- ---- places

pub front_is : {X : Type 0} (xs ys : List X) (n : ℕ) → n ≡ length xs → take n (xs ++ ys) ≡ xs
front_is xs ys n e = ap (λ (k : ℕ). take k (xs ++ ys)) e ∙ take-append_seam xs ys

pub at_front : {X : Type 0} (xs : List X) (x : X) (ys : List X) (d : X) (n : ℕ) → n ≡ length xs → get_or (xs ++ x ∷ ys) n d ≡ x
at_front [] x ys d n e = ap (λ (k : ℕ). get_or (x ∷ ys) k d) e
at_front (y ∷ xs) x ys d zero e = absurd (omega (arith, e))
at_front (y ∷ xs) x ys d (suc n) e = at_front xs x ys d n (omega (arith, e))
