-- Packets that take one section after the other are those of the sections' stretches.
use Rattle.std.proofs.Common.{◌≡◌, ℕ, zero, suc, ◌+◌, ◌-◌, ◌<◌, ◌≤◌, List, [], ◌∷◌, ◌++◌, Bool, true, false, Option, Some, None, length, refl, sym, ap, ap₂, ◌∙◌, subst, arith, take, drop, map, append_assoc, append-nil, length-append, length-drop}
use Rattle.std.specs.Prelude.{◌==◌, ◌&&◌, nat_lt, if◌then◌else◌}
use Rattle.std.proofs.lemmas.Bool.{eqb-true}
use Rattle.std.proofs.lemmas.Bool.Decides.{nat_tests}
use Rattle.std.proofs.lemmas.List.{drop-drop}
use Rattle.si_lists.proofs.Parts.{drop_behind}
use Rattle.ts_packets.specs.Packets.{Piece, filled, joined, piece_of, left_by, pieces, beginning, waiting, packed}
use Rattle.ts_packets.specs.Bytes.{Packet, packet_on}
use Rattle.ts_packets.specs.Packer.{Begun, empty_on, pointer_at, with_first, with_further, piece_so_far, finished}
use Rattle.ts_packets.proofs.Dense.{HaveBytes, some_begins, smaller, waiting-have, packed_enough}
use Rattle.air_model.specs.Air.{Sent}
use Rattle.air_model.specs.Making.{bytes_of, each_dense, front_on, behind_on, goes_on}
use Rattle.air_model.proofs.Dense.{HaveSome, first_packets, front_some}
use Rattle.carousel_player.specs.Packing.{packets_behind, not_put, packets_with, packets_from}

-- ---- a stretch that goes on, packet by packet

-- the sections on this PID that can begin in a packet of which n bytes are taken, and all after these
abbrev beginning_on : ℕ → ℕ → List Sent → List (List ℕ)
beginning_on pid n ss = beginning n (bytes_of (front_on pid ss))

abbrev waiting_on : ℕ → ℕ → List Sent → List Sent
waiting_on pid n [] = []
waiting_on pid n (s ∷ ss) = if (s.pid == pid) && nat_lt n 183 then waiting_on pid (n + length s.bytes) ss else s ∷ ss

front_waiting : (pid n : ℕ) (ss : List Sent) → bytes_of (front_on pid (waiting_on pid n ss)) ≡ waiting n (bytes_of (front_on pid ss))
front_waiting pid n [] = refl
front_waiting pid n (s ∷ ss) = go (s.pid == pid) refl (nat_lt n 183) refl (front_waiting pid (n + length s.bytes) ss)
  where
    front : List (List ℕ)
    front = bytes_of (front_on pid ss)

    go : (b : Bool) → (s.pid == pid) ≡ b → (c : Bool) → nat_lt n 183 ≡ c → bytes_of (front_on pid (waiting_on pid (n + length s.bytes) ss)) ≡ waiting (n + length s.bytes) front
        → bytes_of (front_on pid (if b && c then waiting_on pid (n + length s.bytes) ss else s ∷ ss)) ≡ waiting n (bytes_of (if b then s ∷ front_on pid ss else []))
    go true e true f rec = rec ∙ ap (λ (x : Bool). if x then waiting (n + length s.bytes) front else s.bytes ∷ front) (sym f)
    go true e false f rec = ap (λ (x : Bool). bytes_of (if x then s ∷ front_on pid ss else [])) e ∙ ap (λ (x : Bool). if x then waiting (n + length s.bytes) front else s.bytes ∷ front) (sym f)
    go false e c f rec = ap (λ (x : Bool). bytes_of (if x then s ∷ front_on pid ss else [])) e

behind_waiting : (pid n : ℕ) (ss : List Sent) → behind_on pid (waiting_on pid n ss) ≡ behind_on pid ss
behind_waiting pid n [] = refl
behind_waiting pid n (s ∷ ss) = go (s.pid == pid) refl (nat_lt n 183) (behind_waiting pid (n + length s.bytes) ss)
  where
    go : (b : Bool) → (s.pid == pid) ≡ b → (c : Bool) → behind_on pid (waiting_on pid (n + length s.bytes) ss) ≡ behind_on pid ss
        → behind_on pid (if b && c then waiting_on pid (n + length s.bytes) ss else s ∷ ss) ≡ (if b then behind_on pid ss else s ∷ ss)
    go true e true rec = rec
    go true e false rec = ap (λ (x : Bool). if x then behind_on pid ss else s ∷ ss) e
    go false e c rec = ap (λ (x : Bool). if x then behind_on pid ss else s ∷ ss) e

-- nothing goes on
pub nothing_goes_on : (pid : ℕ) (ss : List Sent) → goes_on pid [] ss ≡ each_dense ss
nothing_goes_on pid [] = refl
nothing_goes_on pid (s ∷ ss) = go (s.pid == pid) refl
  where
    packets : List (List ℕ) → List Sent → List Packet
    packets here behind = map (packet_on pid) (pieces [] (packed (0 + length (joined here)) [] here)) ++ each_dense behind

    go : (b : Bool) → (s.pid == pid) ≡ b → packets (bytes_of (if b then s ∷ front_on pid ss else [])) (if b then behind_on pid ss else s ∷ ss) ≡ each_dense (s ∷ ss)
    go true e =
        let same : s.pid ≡ pid = eqb-true s.pid pid e in
        let bound : 0 + length (joined (s.bytes ∷ bytes_of (front_on pid ss))) ≡ length (joined (s.bytes ∷ bytes_of (front_on pid ss))) = omega arith in
        ap (λ (m : ℕ). map (packet_on pid) (pieces [] (packed m [] (s.bytes ∷ bytes_of (front_on pid ss)))) ++ each_dense (behind_on pid ss)) bound
        ∙ subst (λ (q : ℕ). map (packet_on q) (pieces [] (packed (length (joined (s.bytes ∷ bytes_of (front_on q ss)))) [] (s.bytes ∷ bytes_of (front_on q ss)))) ++ each_dense (behind_on q ss) ≡ each_dense (s ∷ ss)) same
        (sym (first_packets s ss))
    go false e = refl

-- there is something to send on this PID: the rest of a section, or a section
abbrev Goes : ℕ → List ℕ → List Sent → Type 0
Goes pid (b ∷ rest) ss = Unit {0}
Goes pid [] [] = Prim.⊥
Goes pid [] (s ∷ ss) = s.pid ≡ pid

-- the first packet, and those after it
record FirstGoes (pid : ℕ) (rest : List ℕ) (ss : List Sent) : Type 0 where
  is : goes_on pid rest ss ≡ packet_on pid (piece_of rest (beginning_on pid (length rest) ss)) ∷ goes_on pid (left_by rest (beginning_on pid (length rest) ss)) (waiting_on pid (length rest) ss)

first_by : (pid m : ℕ) (rest : List ℕ) (ss : List Sent) → HaveSome ss → length rest + length (joined (bytes_of (front_on pid ss))) ≡ suc m → 0 < length rest + length (joined (beginning_on pid (length rest) ss))
    → packed (suc m) rest (bytes_of (front_on pid ss)) ≡ beginning_on pid (length rest) ss ∷ packed m (left_by rest (beginning_on pid (length rest) ss)) (waiting (length rest) (bytes_of (front_on pid ss)))
    → FirstGoes pid rest ss
first_by pid m rest ss all count some step =
    let front = bytes_of (front_on pid ss) in
    let n = length rest in
    let g = beginning_on pid n ss in
    let w = waiting_on pid n ss in
    let left = left_by rest g in
    let have : HaveBytes front = front_some pid ss all in
    let enough : packed m left (waiting n front) ≡ packed (length left + length (joined (waiting n front))) left (waiting n front) =
    packed_enough m (length left + length (joined (waiting n front))) left (waiting n front) (waiting-have n front have) (smaller m rest front some (omega (arith, count))) (omega arith) in
    record {
      is = ap (λ (k : ℕ). map (packet_on pid) (pieces rest (packed k rest front)) ++ each_dense (behind_on pid ss)) count
          ∙ ap (λ (gs : List (List (List ℕ))). map (packet_on pid) (pieces rest gs) ++ each_dense (behind_on pid ss)) step
          ∙ ap (λ (gs : List (List (List ℕ))). packet_on pid (piece_of rest g) ∷ (map (packet_on pid) (pieces left gs) ++ each_dense (behind_on pid ss))) enough
          ∙ ap₂ (λ (f : List (List ℕ)) (behind : List Sent). packet_on pid (piece_of rest g) ∷ (map (packet_on pid) (pieces left (packed (length left + length (joined f)) left f)) ++ each_dense behind))
          (sym (front_waiting pid n ss)) (sym (behind_waiting pid n ss));
    }

first_goes : (pid : ℕ) (rest : List ℕ) (ss : List Sent) → HaveSome ss → Goes pid rest ss → FirstGoes pid rest ss
first_goes pid (b ∷ rest) ss all h =
    let front = bytes_of (front_on pid ss) in
    first_by pid (length rest + length (joined front)) (b ∷ rest) ss all (omega arith) (omega arith) refl
first_goes pid [] [] all h = absurd h
first_goes pid [] (s ∷ ss) all h = subst (λ (q : ℕ). FirstGoes q [] (s ∷ ss)) h own
  where
    front : List (List ℕ)
    front = s.bytes ∷ bytes_of (front_on s.pid ss)

    here : bytes_of (front_on s.pid (s ∷ ss)) ≡ front
    here = ap (λ (x : Bool). bytes_of (if x then s ∷ front_on s.pid ss else [])) (same s.pid)
      where
        same : (n : ℕ) → (n == n) ≡ true
        same n = grind (arith, nat_tests)

    own : FirstGoes s.pid [] (s ∷ ss)
    own =
        let some = some_begins s.bytes (bytes_of (front_on s.pid ss)) all.0 in
        let total : length (joined front) ≡ suc (length (joined front) - 1) = let l = length-append s.bytes (joined (bytes_of (front_on s.pid ss))) in let q = all.0 in omega arith in
        first_by s.pid (length (joined front) - 1) [] (s ∷ ss) all (ap (λ (f : List (List ℕ)). 0 + length (joined f)) here ∙ omega (arith, total))
        (subst (λ (f : List (List ℕ)). 0 < 0 + length (joined (beginning 0 f))) (sym here) some)
        (subst (λ (f : List (List ℕ)). packed (suc (length (joined front) - 1)) [] f ≡ beginning 0 f ∷ packed (length (joined front) - 1) (left_by [] (beginning 0 f)) (waiting 0 f)) (sym here) refl)

-- ---- a packet that is begun

-- with these sections begun after what it has
abbrev pointer_with : Option ℕ → ℕ → List (List ℕ) → Option ℕ
pointer_with pointer n [] = pointer
pointer_with pointer n (s ∷ ss) = pointer_at pointer n

pointed_twice : (pointer : Option ℕ) (n m : ℕ) (g : List (List ℕ)) → pointer_with (pointer_at pointer n) m g ≡ pointer_at pointer n
pointed_twice None n m [] = refl
pointed_twice None n m (s ∷ ss) = refl
pointed_twice (Some p) n m [] = refl
pointed_twice (Some p) n m (s ∷ ss) = refl

-- the first packet, and those after it
abbrev first_with : Begun → List (List ℕ) → List Sent → List Packet
first_with b g w =
    packet_on b.pid (piece_so_far (pointer_with b.pointer (length b.bytes) g) (b.bytes ++ joined g))
    ∷ goes_on b.pid (not_put (pointer_with b.pointer (length b.bytes) g) (b.bytes ++ joined g)) w

packets_with-is : (b : Begun) (ss : List Sent) → packets_with b ss ≡ first_with b (beginning_on b.pid (length b.bytes) ss) (waiting_on b.pid (length b.bytes) ss)
packets_with-is b [] = ap (λ (l : List ℕ). packet_on b.pid (piece_so_far b.pointer l) ∷ goes_on b.pid (not_put b.pointer l) []) (sym (append-nil b.bytes))
packets_with-is b (s ∷ ss) = go (s.pid == b.pid) (nat_lt (length b.bytes) 183) refl (packets_with-is (with_first b s.bytes) ss)
  where
    n : ℕ
    n = length b.bytes

    m : ℕ
    m = n + length s.bytes

    next : Begun
    next = with_first b s.bytes

    more : length next.bytes ≡ m
    more = length-append b.bytes s.bytes

    here : List (List ℕ)
    here = bytes_of (front_on b.pid ss)

    go : (x y : Bool) → nat_lt n 183 ≡ y → packets_with next ss ≡ first_with next (beginning_on b.pid (length next.bytes) ss) (waiting_on b.pid (length next.bytes) ss)
        → (if x && y then packets_with next ss else finished b ∷ goes_on b.pid (not_put b.pointer b.bytes) (s ∷ ss))
        ≡ first_with b (beginning n (bytes_of (if x then s ∷ front_on b.pid ss else []))) (if x && y then waiting_on b.pid m ss else s ∷ ss)
    go true true e rec =
        let g = beginning m here in
        rec
        ∙ ap (λ (k : ℕ). first_with next (beginning_on b.pid k ss) (waiting_on b.pid k ss)) more
        ∙ ap₂ (λ (p : Option ℕ) (l : List ℕ). packet_on b.pid (piece_so_far p l) ∷ goes_on b.pid (not_put p l) (waiting_on b.pid m ss)) (pointed_twice b.pointer n (length next.bytes) g) (append_assoc b.bytes s.bytes (joined g))
        ∙ ap (λ (x : Bool). first_with b (if x then s.bytes ∷ g else []) (waiting_on b.pid m ss)) (sym e)
    go true false e rec =
        ap (λ (l : List ℕ). packet_on b.pid (piece_so_far b.pointer l) ∷ goes_on b.pid (not_put b.pointer l) (s ∷ ss)) (sym (append-nil b.bytes))
        ∙ ap (λ (x : Bool). first_with b (if x then s.bytes ∷ beginning m here else []) (s ∷ ss)) (sym e)
    go false y e rec = ap (λ (l : List ℕ). packet_on b.pid (piece_so_far b.pointer l) ∷ goes_on b.pid (not_put b.pointer l) (s ∷ ss)) (sym (append-nil b.bytes))

-- a packet of the rest alone
abbrev pub goes_begun : ℕ → List ℕ → Begun
goes_begun pid rest = record { pid = pid; pointer = None; bytes = rest }

pub goes_with : (pid : ℕ) (rest : List ℕ) (ss : List Sent) → HaveSome ss → Goes pid rest ss → goes_on pid rest ss ≡ packets_with (goes_begun pid rest) ss
goes_with pid rest ss all h = (first_goes pid rest ss all h).is ∙ at (beginning_on pid (length rest) ss) ∙ sym (packets_with-is (goes_begun pid rest) ss)
  where
    w : List Sent
    w = waiting_on pid (length rest) ss

    at : (g : List (List ℕ)) → packet_on pid (piece_of rest g) ∷ goes_on pid (left_by rest g) w ≡ first_with (goes_begun pid rest) g w
    at [] = ap (λ (l : List ℕ). packet_on pid (piece_so_far None l) ∷ goes_on pid (drop 184 l) w) (sym (append-nil rest))
    at (x ∷ g) = refl

-- a section has bytes to come
pub goes_some : (pid : ℕ) (rest : List ℕ) (ss : List Sent) → 0 < length rest → Goes pid rest ss
goes_some pid [] ss some = absurd (omega arith)
goes_some pid (b ∷ rest) ss some = tt

-- what is to come is taken from an empty packet on
pub begins_empty : (s : Sent) (ss : List Sent) (from : ℕ) → HaveSome (s ∷ ss) → packets_behind (s ∷ ss) from ≡ packets_from (empty_on s.pid) (s ∷ ss) from
begins_empty s ss zero all = sym (nothing_goes_on s.pid (s ∷ ss)) ∙ goes_with s.pid [] (s ∷ ss) all refl
begins_empty s ss (suc from) all = refl

pub some_with : (b : Begun) (ss : List Sent) → (p : Packet) × (ps : List Packet) × (packets_with b ss ≡ p ∷ ps)
some_with b [] = (finished b, goes_on b.pid (not_put b.pointer b.bytes) [], refl)
some_with b (s ∷ ss) = go ((s.pid == b.pid) && nat_lt (length b.bytes) 183) (some_with (with_first b s.bytes) ss)
  where
    go : (x : Bool) → ((p : Packet) × (ps : List Packet) × (packets_with (with_first b s.bytes) ss ≡ p ∷ ps))
        → (p : Packet) × (ps : List Packet) × ((if x then packets_with (with_first b s.bytes) ss else finished b ∷ goes_on b.pid (not_put b.pointer b.bytes) (s ∷ ss)) ≡ p ∷ ps)
    go true rec = rec
    go false rec = (finished b, goes_on b.pid (not_put b.pointer b.bytes) (s ∷ ss), refl)

pub some_packet : (s : Sent) (ss : List Sent) (from : ℕ) → HaveSome (s ∷ ss) → from < length s.bytes → (p : Packet) × (ps : List Packet) × (packets_behind (s ∷ ss) from ≡ p ∷ ps)
some_packet s ss zero all lt =
    let some = some_with (empty_on s.pid) (s ∷ ss) in
    (some.0, some.1, begins_empty s ss zero all ∙ some.2)
some_packet s ss (suc from) all lt =
    let rest = drop (suc from) s.bytes in
    let some = some_with (goes_begun s.pid rest) ss in
    (some.0, some.1, goes_with s.pid rest ss all.1 (goes_some s.pid rest ss (omega (arith, length-drop (suc from) s.bytes))) ∙ some.2)

-- ---- a packet takes the next section

can_begin_in : (p q n : ℕ) → p ≡ q → n < 183 → ((p == q) && nat_lt n 183) ≡ true
can_begin_in p q n e lt = go (p == q) (let same : (p == q) ≡ true = grind (arith, nat_tests) in same) (nat_lt n 183) (let small : nat_lt n 183 ≡ true = grind (arith, nat_tests) in small)
  where
    go : (b : Bool) → b ≡ true → (c : Bool) → c ≡ true → (b && c) ≡ true
    go true e true f = refl
    go true e false f = f
    go false e c f = e

no_room_in : (p q n : ℕ) → 183 ≤ n → ((p == q) && nat_lt n 183) ≡ false
no_room_in p q n le = go (p == q) (nat_lt n 183) (let big : nat_lt n 183 ≡ false = grind (arith, nat_tests) in big)
  where
    go : (b c : Bool) → c ≡ false → (b && c) ≡ false
    go true c f = f
    go false c f = refl

-- a section begins in it, and goes as far as it goes
pub takes_first : (b : Begun) (s : Sent) (ss : List Sent) → s.pid ≡ b.pid → length b.bytes < 183 → packets_with b (s ∷ ss) ≡ packets_with (with_first b s.bytes) ss
takes_first b s ss on lt =
    ap (λ (x : Bool). if x then packets_with (with_first b s.bytes) ss else finished b ∷ goes_on b.pid (not_put b.pointer b.bytes) (s ∷ ss)) (can_begin_in s.pid b.pid (length b.bytes) on lt)

-- it takes none: it is full,
pub is_full : (b : Begun) (ss : List Sent) → 183 ≤ length b.bytes → packets_with b ss ≡ finished b ∷ goes_on b.pid (not_put b.pointer b.bytes) ss
is_full b [] full = refl
is_full b (s ∷ ss) full =
    ap (λ (x : Bool). if x then packets_with (with_first b s.bytes) ss else finished b ∷ goes_on b.pid (not_put b.pointer b.bytes) (s ∷ ss)) (no_room_in s.pid b.pid (length b.bytes) full)

-- or the next is of another PID
pub is_other : (b : Begun) (s : Sent) (ss : List Sent) → (s.pid == b.pid) ≡ false → packets_with b (s ∷ ss) ≡ finished b ∷ goes_on b.pid (not_put b.pointer b.bytes) (s ∷ ss)
is_other b s ss other =
    ap (λ (x : Bool). if x && nat_lt (length b.bytes) 183 then packets_with (with_first b s.bytes) ss else finished b ∷ goes_on b.pid (not_put b.pointer b.bytes) (s ∷ ss)) other

-- and holds all that was put into it
pub holds_all : (b : Begun) (ss : List Sent) → not_put b.pointer b.bytes ≡ [] → finished b ∷ goes_on b.pid (not_put b.pointer b.bytes) ss ≡ finished b ∷ each_dense ss
holds_all b ss fits = ap (λ (l : List Packet). finished b ∷ l) (ap (λ (r : List ℕ). goes_on b.pid r ss) fits ∙ nothing_goes_on b.pid ss)

-- fill stands only after what is there
filled_front : (n : ℕ) (xs : List ℕ) → filled n (take n xs) ≡ filled n xs
filled_front zero xs = refl
filled_front (suc n) [] = refl
filled_front (suc n) (x ∷ xs) = ap (λ (l : List ℕ). x ∷ l) (filled_front n xs)

take_behind : (n : ℕ) (xs ys : List ℕ) → length xs ≤ n → take n (xs ++ ys) ≡ xs ++ take (n - length xs) ys
take_behind n [] ys le = ap (λ (k : ℕ). take k ys) (let e : n ≡ n - 0 = omega arith in e)
take_behind zero (x ∷ xs) ys le = absurd (omega arith)
take_behind (suc n) (x ∷ xs) ys le = ap (λ (l : List ℕ). x ∷ l) (take_behind n xs ys (omega arith)) ∙ ap (λ (k : ℕ). x ∷ xs ++ take k ys) (let e : n - length xs ≡ suc n - suc (length xs) = omega arith in e)

-- a section that begins and goes on past the packet
pub begins_past : (b : Begun) (s : Sent) (ss : List Sent) (count : ℕ) → s.pid ≡ b.pid → length b.bytes < 183 → count ≡ 183 - length b.bytes → count < length s.bytes
    → packets_with b (s ∷ ss) ≡ finished (with_first b (take count s.bytes)) ∷ packets_behind (s ∷ ss) count
begins_past b s ss zero on lt is more = absurd (omega arith)
begins_past b s ss (suc k) on lt is more =
    takes_first b s ss on lt
    ∙ is_full (with_first b s.bytes) ss (omega (arith, length-append b.bytes s.bytes))
    ∙ go b.pointer
    ∙ ap (λ (q : ℕ). finished (with_first b (take (suc k) s.bytes)) ∷ goes_on q (drop (suc k) s.bytes) ss) (sym on)
  where
    n : ℕ
    n = length b.bytes

    shown : (pointer : ℕ) → piece_so_far (Some pointer) (b.bytes ++ s.bytes) ≡ piece_so_far (Some pointer) (b.bytes ++ take (suc k) s.bytes)
    shown pointer = ap (λ (l : List ℕ). let piece : Piece = record { start = true; payload = pointer ∷ l } in piece)
        (sym (filled_front 183 (b.bytes ++ s.bytes)) ∙ ap (filled 183) (take_behind 183 b.bytes s.bytes (omega arith) ∙ ap (λ (m : ℕ). b.bytes ++ take m s.bytes) (sym is)))

    rest : drop 183 (b.bytes ++ s.bytes) ≡ drop (suc k) s.bytes
    rest = drop_behind 183 b.bytes s.bytes (omega arith) ∙ ap (λ (m : ℕ). drop m s.bytes) (sym is)

    both : (pointer : ℕ) → packet_on b.pid (piece_so_far (Some pointer) (b.bytes ++ s.bytes)) ∷ goes_on b.pid (drop 183 (b.bytes ++ s.bytes)) ss
        ≡ packet_on b.pid (piece_so_far (Some pointer) (b.bytes ++ take (suc k) s.bytes)) ∷ goes_on b.pid (drop (suc k) s.bytes) ss
    both pointer = ap₂ (λ (x : Piece) (l : List ℕ). packet_on b.pid x ∷ goes_on b.pid l ss) (shown pointer) rest

    go : (p : Option ℕ) → packet_on b.pid (piece_so_far (pointer_at p n) (b.bytes ++ s.bytes)) ∷ goes_on b.pid (not_put (pointer_at p n) (b.bytes ++ s.bytes)) ss
        ≡ packet_on b.pid (piece_so_far (pointer_at p n) (b.bytes ++ take (suc k) s.bytes)) ∷ goes_on b.pid (drop (suc k) s.bytes) ss
    go None = both n
    go (Some pointer) = both pointer

-- the rest of a section, which goes on past an empty packet
pub goes_past : (s : Sent) (ss : List Sent) (from : ℕ) → HaveSome ss → suc from + 184 < length s.bytes
    → packets_behind (s ∷ ss) (suc from) ≡ finished (with_further (empty_on s.pid) (take 184 (drop (suc from) s.bytes))) ∷ packets_behind (s ∷ ss) (suc from + 184)
goes_past s ss from all more =
    let rest = drop (suc from) s.bytes in
    let size = length-drop (suc from) s.bytes in
    let place : suc from + 184 ≡ suc (from + 184) = omega arith in
    let first = finished (with_further (empty_on s.pid) (take 184 rest)) in
    goes_with s.pid rest ss all (goes_some s.pid rest ss (omega (arith, size)))
    ∙ is_full (goes_begun s.pid rest) ss (omega (arith, size))
    ∙ ap₂ (λ (l : List ℕ) (r : List ℕ). packet_on s.pid (let piece : Piece = record { start = false; payload = l } in piece) ∷ goes_on s.pid r ss) (sym (filled_front 184 rest))
    (drop-drop 184 (suc from) s.bytes ∙ ap (λ (k : ℕ). drop k s.bytes) place)
    ∙ ap (λ (k : ℕ). first ∷ packets_behind (s ∷ ss) k) (sym place)

-- and one that ends in it
pub goes_whole : (s : Sent) (ss : List Sent) (from : ℕ) → HaveSome ss → suc from < length s.bytes → packets_behind (s ∷ ss) (suc from) ≡ packets_with (with_further (empty_on s.pid) (drop (suc from) s.bytes)) ss
goes_whole s ss from all more =
    let rest = drop (suc from) s.bytes in
    goes_with s.pid rest ss all (goes_some s.pid rest ss (omega (arith, length-drop (suc from) s.bytes)))
