-- Packets of a section alone carry it, and payloads joined are sections joined.
use Rattle.std.proofs.Common.{◌≡◌, ℕ, ◌-◌, List, [], ◌∷◌, ◌++◌, true, length, refl, sym, ap, ◌∙◌, subst, arith, take, replicate, eq-eqb}
use Rattle.std.proofs.Common.{length-take}
use Rattle.ts_packets.specs.Packets.{Piece, joined, pieces, alone, Carries}
use Rattle.ts_packets.specs.Laws.{AloneIsCarried, PayloadIs, UsefulIsJoined}
use Rattle.ts_packets.proofs.Filling.{filled-is}
use Rattle.ts_packets.proofs.Carrying.{Carries-alone, joined_useful}
use Rattle.ts_packets.proofs.Stamps.{one_pid}

pub alone_carried : AloneIsCarried
alone_carried pid section = subst (λ (ps : List Piece). Carries ps (section ∷ [])) (sym (one_pid pid pid true (eq-eqb pid pid refl) (pieces [] (alone section)))) (Carries-alone section)

-- so many bytes of a packet are fill
fill_left : (n : ℕ) (xs : List ℕ) → n - length xs ≡ n - length (take n xs)
fill_left n xs = omega (arith, length-take n xs)

pub payload_is : PayloadIs
payload_is rest [] = filled-is 184 rest ∙ ap (λ (k : ℕ). take 184 rest ++ replicate k 255) (fill_left 184 rest)
payload_is rest (s ∷ ss) =
    let xs = rest ++ joined (s ∷ ss) in
    ap (λ (l : List ℕ). length rest ∷ l) (filled-is 183 xs ∙ ap (λ (k : ℕ). take 183 xs ++ replicate k 255) (let e : 183 - length xs ≡ 184 - length (length rest ∷ take 183 xs) = omega (arith, fill_left 183 xs) in e))

pub useful_joined : UsefulIsJoined
useful_joined ps ss c = joined_useful [] c.groups c.ended ∙ ap joined (sym c.sections)
