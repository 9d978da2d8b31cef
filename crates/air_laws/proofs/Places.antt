-- The place of a cycle in an air.
use Rattle.std.proofs.Common.{◌≡◌, ℕ, ◌+◌, ◌<◌, ◌≤◌, ◌⊎◌, inl, inr, List, ◌∷◌, ◌++◌, length, sym, ap, ◌∙◌, subst, arith, append_assoc}
use Rattle.std.proofs.Math.Seq.{take-append_seam}
use Rattle.std.proofs.lemmas.List.{length-append}
use Rattle.std.proofs.lemmas.List.Concat.{flat_map-append}
use Rattle.ts_packets.specs.Bytes.{Packet}
use Rattle.ts_packets.specs.Counting.{piece_on, of_pid}
use Rattle.ts_packets.proofs.Stamps.{of_pid-append}
use Rattle.air_model.specs.Air.{Aired, air}
use Rattle.air_laws.specs.Joining.{count_before, HasPacketIn}
use Rattle.si_lists.proofs.Parts.{le_either, lt_or, chosen-before, chosen-fewer}

-- what counts up tells an order
order_told : (f : ℕ → ℕ) → ((n m : ℕ) → n ≤ m → f n ≤ f m) → (n m : ℕ) → f n < f m → n < m
order_told f up n m lt = go (lt_or n m)
  where
    go : (n < m) ⊎ (m ≤ n) → n < m
    go (inl less) = less
    go (inr le) = absurd (let more : f m ≤ f n = up m n le in let z : Prim.⊥ = omega (arith, more, lt) in z)

pub before_up : (pid : ℕ) (ps : List Packet) (n m : ℕ) → n ≤ m → count_before pid ps n ≤ count_before pid ps m
before_up pid ps n m le = chosen-before (piece_on pid) n m ps le

-- packets, and how many of them are of a PID
count_front : (pid : ℕ) (ps qs : List Packet) → count_before pid (ps ++ qs) (length ps) ≡ length (of_pid pid ps)
count_front pid ps qs = ap (λ (l : List Packet). length (of_pid pid l)) (take-append_seam ps qs)

pub count_at : (pid : ℕ) (before after : List Aired) (x : Aired)
    → count_before pid (air (before ++ x ∷ after)) (length (air before)) ≡ length (of_pid pid (air before))
count_at pid before after x =
    ap (λ (l : List Packet). count_before pid l (length (air before))) (flat_map-append (λ (y : Aired). y.packets) before (x ∷ after))
    ∙ count_front pid (air before) (x.packets ++ air after)

pub count_behind : (pid : ℕ) (before after : List Aired) (x : Aired)
    → count_before pid (air (before ++ x ∷ after)) (length (air before) + length x.packets)
    ≡ length (of_pid pid (air before)) + length (of_pid pid x.packets)
count_behind pid before after x =
    let cut : air (before ++ x ∷ after) ≡ (air before ++ x.packets) ++ air after =
    flat_map-append (λ (y : Aired). y.packets) before (x ∷ after) ∙ sym (append_assoc (air before) x.packets (air after)) in
    ap (λ (l : List Packet). count_before pid l (length (air before) + length x.packets)) cut
    ∙ ap (count_before pid ((air before ++ x.packets) ++ air after)) (sym (length-append (air before) x.packets))
    ∙ count_front pid (air before ++ x.packets) (air after)
    ∙ ap length (of_pid-append pid (air before) x.packets) ∙ length-append (of_pid pid (air before)) (of_pid pid x.packets)

-- a part that has a packet of the PID and of the cycle has a packet of the cycle
pub has_packet : (pid : ℕ) (before after : List Aired) (x : Aired) (join end : ℕ)
    → count_before pid (air (before ++ x ∷ after)) join < length (of_pid pid (air before)) + length (of_pid pid x.packets)
    → length (of_pid pid (air before)) < count_before pid (air (before ++ x ∷ after)) end
    → 0 < length (of_pid pid x.packets)
    → count_before pid (air (before ++ x ∷ after)) join < count_before pid (air (before ++ x ∷ after)) end
    → HasPacketIn join end (length (air before)) x
has_packet pid before after x join end reaches begins some order =
    let count : ℕ → ℕ = count_before pid (air (before ++ x ∷ after)) in
    let up = before_up pid (air (before ++ x ∷ after)) in
    let place : ℕ = length (air before) in
    let behind : ℕ = place + length x.packets in
    in_both place (length x.packets) join end
    (order_told count up join behind (subst (λ (n : ℕ). count join < n) (sym (count_behind pid before after x)) reaches))
    (order_told count up place end (subst (λ (n : ℕ). n < count end) (sym (count_at pid before after x)) begins))
    (order_told count up join end order)
    (some_packet (length (of_pid pid x.packets)) (length x.packets) some (chosen-fewer (piece_on pid) x.packets))
  where
    some_packet : (n m : ℕ) → 0 < n → n ≤ m → 0 < m
    some_packet n m lt le = omega (arith, lt, le)

    in_both : (first size join end : ℕ) → join < first + size → first < end → join < end → 0 < size
        → (place : ℕ) × (first ≤ place) × (place < first + size) × (join ≤ place) × (place < end)
    in_both first size join end a b c d = go (le_either join first)
      where
        go : (join ≤ first) ⊎ (first ≤ join) → (place : ℕ) × (first ≤ place) × (place < first + size) × (join ≤ place) × (place < end)
        go (inl le) = (first, omega arith, omega (arith, d), le, b)
        go (inr le) = (join, le, a, omega arith, c)
