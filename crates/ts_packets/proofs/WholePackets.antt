-- Whole packets, joined, and fronts of them.
use Rattle.std.proofs.Common.{◌≡◌, ℕ, zero, suc, ◌+◌, ◌-◌, ◌*◌, ◌/◌, ◌<◌, ◌≤◌, List, [], ◌∷◌, ◌++◌, length, take, drop, refl, sym, ap, ap₂, ◌∙◌, arith, append-nil, append_assoc, length-append, length-take, inl, inr}
use Rattle.std.proofs.lemmas.List.{take_at, drop_at}
use Rattle.std.proofs.lemmas.Bool.{cases_lt}
use Rattle.std.proofs.lemmas.List.Concat.{flat_map-append}
use Rattle.std.proofs.Math.Seq.{take-append-add}
use Rattle.ts_packets.specs.Packets.{joined}
use Rattle.ts_packets.specs.WholePackets.{AreWhole, pieces, whole_packets}

-- the pieces of whole packets
pub pieces-joined : (packets : List (List ℕ)) (part : List ℕ) → AreWhole packets → pieces (length packets) (joined packets ++ part) ≡ packets
pieces-joined [] part whole = refl
pieces-joined (p ∷ ps) part whole =
    let rest = joined ps ++ part in
    let apart : joined (p ∷ ps) ++ part ≡ p ++ rest = append_assoc p (joined ps) part in
    ap (λ (b : List ℕ). take 188 b ∷ pieces (length ps) (drop 188 b)) apart
    ∙ ap₂ (λ (x y : List ℕ). x ∷ pieces (length ps) y) (take_at p rest 188 whole.0) (drop_at p rest 188 whole.0)
    ∙ ap (λ t. p ∷ t) (pieces-joined ps part whole.1)

length-joined : (packets : List (List ℕ)) → AreWhole packets → length (joined packets) ≡ 188 * length packets
length-joined [] whole = refl
length-joined (p ∷ ps) whole = omega (arith, length-append p (joined ps), whole.0, length-joined ps whole.1)

-- whole packets, and a part that is shorter, have just these whole packets
pub whole_packets-joined : (packets : List (List ℕ)) (part : List ℕ) → AreWhole packets → length part < 188 → whole_packets (joined packets ++ part) ≡ packets
whole_packets-joined packets part whole shorter =
    let count : length (joined packets ++ part) / 188 ≡ length packets = omega (arith, length-append (joined packets) part, length-joined packets whole) in
    ap (λ n. pieces n (joined packets ++ part)) count ∙ pieces-joined packets part whole

pub whole-push : (packets : List (List ℕ)) (p : List ℕ) → AreWhole packets → length p ≡ 188 → AreWhole (packets ++ p ∷ [])
whole-push [] p whole is = (is, tt)
whole-push (x ∷ xs) p whole is = (whole.0, whole-push xs p whole.1 is)

pub joined-push : (packets : List (List ℕ)) (p : List ℕ) → joined (packets ++ p ∷ []) ≡ joined packets ++ p
joined-push packets p = flat_map-append (λ (x : List ℕ). x) packets (p ∷ []) ∙ ap (λ t. joined packets ++ t) (append-nil p)

taken_nothing : {X : Type 0} (n : ℕ) → take n (let xs : List X = [] in xs) ≡ []
taken_nothing zero = refl
taken_nothing (suc n) = refl

front_few : (p rest : List ℕ) (ps : List (List ℕ)) (n : ℕ) → n < 188 → whole_packets (take n (p ++ rest)) ≡ take (n / 188) (p ∷ ps)
front_few p rest ps n lt =
    let size : length (take n (p ++ rest)) / 188 ≡ 0 = omega (arith, length-take n (p ++ rest)) in
    let none : n / 188 ≡ 0 = omega arith in
    ap (λ k. pieces k (take n (p ++ rest))) size ∙ ap (λ k. take k (p ∷ ps)) (sym none)

front_many : (p rest : List ℕ) (ps : List (List ℕ)) (n : ℕ) → length p ≡ 188 → 188 ≤ n → ((m : ℕ) → whole_packets (take m rest) ≡ take (m / 188) ps) → whole_packets (take n (p ++ rest)) ≡ take (n / 188) (p ∷ ps)
front_many p rest ps n size le others =
    let m = n - 188 in
    let split : n ≡ length p + m = omega (arith, size) in
    let taken : take n (p ++ rest) ≡ p ++ take m rest = ap (λ k. take k (p ++ rest)) split ∙ take-append-add p rest m in
    let count : length (p ++ take m rest) / 188 ≡ suc (length (take m rest) / 188) = omega (arith, length-append p (take m rest), size) in
    let more : n / 188 ≡ suc (m / 188) = omega arith in
    ap whole_packets taken ∙ ap (λ k. pieces k (p ++ take m rest)) count
    ∙ ap₂ (λ (x y : List ℕ). x ∷ pieces (length (take m rest) / 188) y) (take_at p (take m rest) 188 size) (drop_at p (take m rest) 188 size)
    ∙ ap (λ t. p ∷ t) (others m) ∙ ap (λ k. take k (p ∷ ps)) (sym more)

front_count : (ps : List (List ℕ)) (n : ℕ) → AreWhole ps → whole_packets (take n (joined ps)) ≡ take (n / 188) ps
front_count [] n whole = ap whole_packets (taken_nothing n) ∙ sym (taken_nothing (n / 188))
front_count (p ∷ ps) n whole = elim (cases_lt n 188) [
  | inl lt ↦ front_few p (joined ps) ps n lt
  | inr le ↦ front_many p (joined ps) ps n whole.0 le (λ m. front_count ps m whole.1)
]

-- the whole packets of a front of whole packets
pub whole_packets-front : (ps : List (List ℕ)) (n : ℕ) → AreWhole ps → whole_packets (take n (joined ps)) ≡ take (n / 188) ps
whole_packets-front ps n whole = front_count ps n whole

pub whole_packets-all : (ps : List (List ℕ)) → AreWhole ps → whole_packets (joined ps) ≡ ps
whole_packets-all ps whole = ap whole_packets (sym (append-nil (joined ps))) ∙ whole_packets-joined ps [] whole (omega arith)
