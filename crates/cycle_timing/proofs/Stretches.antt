-- One stretch: its sections begin and end in the packets that the arithmetic of lengths says.
use Rattle.std.proofs.Common.{◌≡◌, ℕ, zero, suc, ◌+◌, ◌-◌, ◌/◌, ◌%◌, ◌<◌, ◌≤◌, List, [], ◌∷◌, ◌++◌, Bool, true, false, length, drop, refl, sym, ap, ap₂, ◌∙◌, arith, append_assoc, append-nil, length-append, length-drop}
use Rattle.std.specs.Prelude.{if◌then◌else◌, nat_lt, ◌==◌, ◌&&◌}
use Rattle.std.proofs.lemmas.Bool.{ltb-true, ltb-false, lt-ltb, le-ltb, eqb-true, eq-eqb, ne_eqb}
use Rattle.ts_packets.specs.Packets.{joined, beginning, waiting, left_by, packed, stretch}
use Rattle.ts_packets.proofs.Dense.{HaveBytes}
use Rattle.air_model.specs.Packing.{Packing, begins, taken, used_at_end, packed_one, packets_so_far, begun_at}
use Rattle.air_model.proofs.Packings.{used_some, so_far-begun}

-- the packets in which sections begin and end that begin in packet n, after so many bytes
abbrev pub spots : ℕ → ℕ → List (List ℕ) → List (ℕ × ℕ)
spots n u [] = []
spots n u (s ∷ ss) = (n, n + (u + length s) / 184) ∷ spots n (u + length s) ss

-- those of sections of which these groups begin in the packets from n on
abbrev pub spots_in : ℕ → List ℕ → List (List (List ℕ)) → List (ℕ × ℕ)
spots_in n rest [] = []
spots_in n rest (g ∷ gs) = spots n (length rest) g ++ spots_in (suc n) (left_by rest g) gs

-- where sections of one PID begin and end by their lengths, and what is packed with them
abbrev pub places : ℕ → Packing → List (List ℕ) → List (ℕ × ℕ)
places pid packing [] = []
places pid packing (s ∷ ss) = (begins packing pid, (packed_one packing pid (length s)).closed) ∷ places pid (packed_one packing pid (length s)) ss

abbrev pub ending : ℕ → Packing → List (List ℕ) → Packing
ending pid packing [] = packing
ending pid packing (s ∷ ss) = ending pid (packed_one packing pid (length s)) ss

-- two packings from which sections of a PID are packed alike
pub record Alike (pid : ℕ) (a b : Packing) : Type 0 where
  pub begins_same : begins a pid ≡ begins b pid
  pub taken_same : taken a pid ≡ taken b pid
  pub so_far : packets_so_far a ≡ packets_so_far b

alike-one : (pid len : ℕ) (a b : Packing) → Alike pid a b → packed_one a pid len ≡ packed_one b pid len
alike-one pid len a b l = ap₂ (λ (n t : ℕ). record { closed = n + (t + len) / 184; pid = pid; used = used_at_end (t + len) }) l.begins_same l.taken_same

pub alike-places : (pid : ℕ) (a b : Packing) → Alike pid a b → (ss : List (List ℕ)) → (places pid a ss ≡ places pid b ss) × (packets_so_far (ending pid a ss) ≡ packets_so_far (ending pid b ss))
alike-places pid a b l [] = (refl, l.so_far)
alike-places pid a b l (s ∷ ss) =
    (ap₂ (λ (n : ℕ) (p : Packing). (n, p.closed) ∷ places pid p ss) l.begins_same (alike-one pid (length s) a b l), ap (λ (p : Packing). packets_so_far (ending pid p ss)) (alike-one pid (length s) a b l))

-- a packet in which sections begin has these bytes of sections in it and after it
abbrev begun : ℕ → ℕ → ℕ → Packing
begun pid n t = record { closed = n + t / 184; pid = pid; used = used_at_end t }

-- a packet begins with what is left of a section
abbrev goes : ℕ → ℕ → ℕ → Packing
goes pid n zero = record { closed = n; pid = pid; used = 0 }
goes pid n (suc k) = record { closed = n + k / 184; pid = pid; used = k % 184 + 1 }

-- what a packing of this PID answers, by its numbers
pub inside : (closed pid used : ℕ) → used < 183 → (begins (record { closed = closed; pid = pid; used = used }) pid ≡ closed) × (taken (record { closed = closed; pid = pid; used = used }) pid ≡ used)
inside closed pid used h = go (used == 0) refl
  where
    go : (b : Bool) → (used == 0) ≡ b →
        ((if b then closed else if (pid == pid) && nat_lt used 183 then closed else closed + 1) ≡ closed) × ((if b then 0 else if (pid == pid) && nat_lt used 183 then used else 0) ≡ used)
    go true e = (refl, sym (eqb-true used 0 e))
    go false e =
        let r : ((pid == pid) && nat_lt used 183) ≡ true = ap₂ (λ (a b : Bool). a && b) (eq-eqb pid pid refl) (lt-ltb used 183 h) in
        (ap (λ (b : Bool). if b then closed else closed + 1) r, ap (λ (b : Bool). if b then used else 0) r)

full : (closed pid used : ℕ) → 183 ≤ used → (begins (record { closed = closed; pid = pid; used = used }) pid ≡ closed + 1) × (taken (record { closed = closed; pid = pid; used = used }) pid ≡ 0) × (packets_so_far (record { closed = closed; pid = pid; used = used }) ≡ closed + 1)
full closed pid used h = go (used == 0) (ne_eqb used 0 (λ e. omega arith))
  where
    go : (b : Bool) → b ≡ false →
        ((if b then closed else if (pid == pid) && nat_lt used 183 then closed else closed + 1) ≡ closed + 1) × ((if b then 0 else if (pid == pid) && nat_lt used 183 then used else 0) ≡ 0) × ((if b then closed else closed + 1) ≡ closed + 1)
    go true e = cc
    go false e =
        let r : ((pid == pid) && nat_lt used 183) ≡ false = ap₂ (λ (a b : Bool). a && b) (eq-eqb pid pid refl) (le-ltb used 183 h) in
        (ap (λ (b : Bool). if b then closed else closed + 1) r, ap (λ (b : Bool). if b then used else 0) r, refl)

used-short : (t : ℕ) → t < 184 → used_at_end t ≡ t
used-short t h = ap (λ (b : Bool). if b then t else t % 184 + 1) (lt-ltb t 184 h)

used-long : (t : ℕ) → 184 ≤ t → used_at_end t ≡ t % 184 + 1
used-long t h = ap (λ (b : Bool). if b then t else t % 184 + 1) (le-ltb t 184 h)

as_record : (pid a b c d : ℕ) → a ≡ b → c ≡ d → Alike pid (record { closed = a; pid = pid; used = c }) (record { closed = b; pid = pid; used = d })
as_record pid a b c d e f =
    let g : record { closed = a; pid = pid; used = c } ≡ record { closed = b; pid = pid; used = d } = ap₂ (λ (m n : ℕ). record { closed = m; pid = pid; used = n }) e f in
    record { begins_same = ap (λ (p : Packing). begins p pid) g; taken_same = ap (λ (p : Packing). taken p pid) g; so_far = ap packets_so_far g }

-- the next packet goes on with what is left after a full one
begun-next : (pid n t : ℕ) → 183 ≤ t → Alike pid (goes pid (suc n) (t - 183)) (begun pid n t)
begun-next pid n t h = go (t - 183) (omega arith)
  where
    go : (r : ℕ) → t ≡ 183 + r → Alike pid (goes pid (suc n) r) (begun pid n t)
    go zero e =
        let u : used_at_end t ≡ t = used-short t (omega arith) in
        let f = full (n + t / 184) pid (used_at_end t) (omega arith) in
        let f0 = f.0 in
        let f1 = f.1 in
        let f2 = f.2 in
        record { begins_same = omega arith; taken_same = sym f1; so_far = omega arith }
    go (suc k) e = as_record pid (suc n + k / 184) (n + t / 184) (k % 184 + 1) (used_at_end t) (omega arith) (let u = used-long t (omega arith) in omega arith)

goes-next : (pid n r : ℕ) → 183 ≤ r → Alike pid (goes pid (suc n) (r - 184)) (goes pid n r)
goes-next pid n zero h = absurd (omega arith)
goes-next pid n (suc k) h = go (suc k - 184) (omega arith)
  where
    go : (q : ℕ) → q ≡ suc k - 184 → Alike pid (goes pid (suc n) q) (goes pid n (suc k))
    go zero e =
        let f = full (n + k / 184) pid (k % 184 + 1) (omega arith) in
        let f0 = f.0 in
        let f1 = f.1 in
        let f2 = f.2 in
        record { begins_same = omega arith; taken_same = sym f1; so_far = omega arith }
    go (suc j) e = as_record pid (suc n + j / 184) (n + k / 184) (j % 184 + 1) (k % 184 + 1) (omega arith) (omega arith)

goes-begun : (pid n r : ℕ) → r < 183 → Alike pid (begun pid n r) (goes pid n r)
goes-begun pid n zero h = as_record pid (n + 0 / 184) n (used_at_end 0) 0 (omega arith) refl
goes-begun pid n (suc k) h = as_record pid (n + suc k / 184) (n + k / 184) (used_at_end (suc k)) (k % 184 + 1) (omega arith) (used-short (suc k) (omega arith) ∙ (let e : suc k ≡ k % 184 + 1 = omega arith in e))

-- packed groups against the arithmetic
pub record Packs (pid m n : ℕ) (rest : List ℕ) (ss : List (List ℕ)) : Type 0 where
  pub starts : spots_in n rest (packed m rest ss) ≡ places pid (goes pid n (length rest)) ss
  pub count : n + length (packed m rest ss) ≡ packets_so_far (ending pid (goes pid n (length rest)) ss)

record Group (pid m n : ℕ) (acc : List ℕ) (ss : List (List ℕ)) : Type 0 where
  starts :
      spots n (length acc) (beginning (length acc) ss) ++ spots_in (suc n) (drop 183 (acc ++ joined (beginning (length acc) ss))) (packed m (drop 183 (acc ++ joined (beginning (length acc) ss))) (waiting (length acc) ss))
      ≡ places pid (begun pid n (length acc)) ss
  count : suc n + length (packed m (drop 183 (acc ++ joined (beginning (length acc) ss))) (waiting (length acc) ss)) ≡ packets_so_far (ending pid (begun pid n (length acc)) ss)

-- the count and the places from an alike packing
moved : (pid m n : ℕ) (rest : List ℕ) (ss : List (List ℕ)) (r : ℕ) (p : Packing) → length rest ≡ r → Alike pid (goes pid n r) p → Packs pid m n rest ss →
    (spots_in n rest (packed m rest ss) ≡ places pid p ss) × (n + length (packed m rest ss) ≡ packets_so_far (ending pid p ss))
moved pid m n rest ss r p e l h =
    let a = alike-places pid (goes pid n r) p l ss in
    (h.starts ∙ ap (λ (k : ℕ). places pid (goes pid n k) ss) e ∙ a.0, h.count ∙ ap (λ (k : ℕ). packets_so_far (ending pid (goes pid n k) ss)) e ∙ a.1)

begun-so_far : (pid n t : ℕ) → 0 < t → packets_so_far (begun pid n t) ≡ n + t / 184 + 1
begun-so_far pid n t h = so_far-begun (begun pid n t) (used_some t h)

goes-so_far : (pid n r : ℕ) → packets_so_far (goes pid n r) ≡ n + (r + 183) / 184
goes-so_far pid n zero = let e : n ≡ n + 183 / 184 = omega arith in e
goes-so_far pid n (suc k) = so_far-begun (goes pid n (suc k)) (omega arith) ∙ (let e : n + k / 184 + 1 ≡ n + (suc k + 183) / 184 = omega arith in e)

group : (pid m n : ℕ) → ((rest : List ℕ) (ss : List (List ℕ)) → HaveBytes ss → length rest + length (joined ss) ≤ m → Packs pid m (suc n) rest ss) →
    (acc : List ℕ) (ss : List (List ℕ)) → HaveBytes ss → 0 < length acc → length acc + length (joined ss) ≤ suc m → Group pid m n acc ss
group pid m n again acc [] all some bound =
    let r : List ℕ = drop 183 (acc ++ []) in
    let l : length r ≡ length acc - 183 = length-drop 183 (acc ++ []) ∙ ap (λ (t : List ℕ). length t - 183) (append-nil acc) in
    let h = again r [] tt (let b : length r + 0 ≤ m = omega arith in b) in
    let c = h.count in
    let d = goes-so_far pid (suc n) (length r) in
    let e = begun-so_far pid n (length acc) some in
    record { starts = h.starts; count = omega arith }
group pid m n again acc (s ∷ ss) all some bound =
    go (nat_lt (length acc) 183) refl (group pid m n again (acc ++ s) ss all.1 (let h = length-append acc s in let b : 0 < length (acc ++ s) = omega arith in b)
    (let h = length-append acc s in let k = length-append s (joined ss) in let b : length (acc ++ s) + length (joined ss) ≤ suc m = omega arith in b))
  where
    at : List ℕ → List (List ℕ) → Bool → List (ℕ × ℕ)
    at s ss c =
        spots n (length acc) (if c then s ∷ beginning (length acc + length s) ss else [])
        ++ spots_in (suc n) (drop 183 (acc ++ joined (if c then s ∷ beginning (length acc + length s) ss else [])))
        (packed m (drop 183 (acc ++ joined (if c then s ∷ beginning (length acc + length s) ss else []))) (if c then waiting (length acc + length s) ss else s ∷ ss))

    go : (b : Bool) → nat_lt (length acc) 183 ≡ b → Group pid m n (acc ++ s) ss → Group pid m n acc (s ∷ ss)
    go false e g =
        let full = ltb-false (length acc) 183 e in
        let r : List ℕ = drop 183 (acc ++ []) in
        let l : length r ≡ length acc - 183 = length-drop 183 (acc ++ []) ∙ ap (λ (t : List ℕ). length t - 183) (append-nil acc) in
        let h = again r (s ∷ ss) all (let b : length r + length (joined (s ∷ ss)) ≤ m = omega arith in b) in
        let k = moved pid m (suc n) r (s ∷ ss) (length acc - 183) (begun pid n (length acc)) l (begun-next pid n (length acc) full) h in
        record {
          starts = ap (at s ss) e ∙ k.0;
          count = ap (λ (c : Bool). suc n + length (packed m (drop 183 (acc ++ joined (if c then s ∷ beginning (length acc + length s) ss else []))) (if c then waiting (length acc + length s) ss else s ∷ ss))) e ∙ k.1;
        }
    go true e g =
        let t = length acc in
        let short = ltb-true (length acc) 183 e in
        let n_is : n + t / 184 ≡ n = omega arith in
        let u : used_at_end t ≡ t = used-short t (omega arith) in
        let i : (begins (begun pid n t) pid ≡ n) × (taken (begun pid n t) pid ≡ t) =
        let j = inside (n + t / 184) pid (used_at_end t) (let b : used_at_end t < 183 = omega arith in b) in (j.0 ∙ n_is, j.1 ∙ u) in
        let next : packed_one (begun pid n t) pid (length s) ≡ begun pid n (t + length s) = ap₂ (λ (a b : ℕ). record { closed = a + (b + length s) / 184; pid = pid; used = used_at_end (b + length s) }) i.0 i.1 in
        let ls : length (acc ++ s) ≡ t + length s = length-append acc s in
        record {
          starts = ap (at s ss) e
              ∙ ap (λ (x : List ℕ). (n, n + (t + length s) / 184) ∷ (spots n (t + length s) (beginning (t + length s) ss) ++ spots_in (suc n) (drop 183 x) (packed m (drop 183 x) (waiting (t + length s) ss)))) (sym (append_assoc acc s (joined (beginning (t + length s) ss))))
              ∙ ap (λ (k : ℕ). (n, n + (t + length s) / 184) ∷ (spots n k (beginning k ss) ++ spots_in (suc n) (drop 183 ((acc ++ s) ++ joined (beginning k ss))) (packed m (drop 183 ((acc ++ s) ++ joined (beginning k ss))) (waiting k ss)))) (sym ls)
              ∙ ap (λ (x : List (ℕ × ℕ)). (n, n + (t + length s) / 184) ∷ x) (g.starts ∙ ap (λ (k : ℕ). places pid (begun pid n k) ss) ls)
              ∙ ap₂ (λ (k : ℕ) (p : Packing). (k, p.closed) ∷ places pid p ss) (sym i.0) (sym next);
          count = ap (λ (c : Bool). suc n + length (packed m (drop 183 (acc ++ joined (if c then s ∷ beginning (length acc + length s) ss else []))) (if c then waiting (length acc + length s) ss else s ∷ ss))) e
              ∙ ap (λ (x : List ℕ). suc n + length (packed m (drop 183 x) (waiting (t + length s) ss))) (sym (append_assoc acc s (joined (beginning (t + length s) ss))))
              ∙ ap (λ (k : ℕ). suc n + length (packed m (drop 183 ((acc ++ s) ++ joined (beginning k ss))) (waiting k ss))) (sym ls)
              ∙ g.count ∙ ap (λ (k : ℕ). packets_so_far (ending pid (begun pid n k) ss)) ls
              ∙ ap (λ (p : Packing). packets_so_far (ending pid p ss)) (sym next);
        }

pub packs : (pid m n : ℕ) (rest : List ℕ) (ss : List (List ℕ)) → HaveBytes ss → length rest + length (joined ss) ≤ m → Packs pid m n rest ss
packs pid zero n [] [] all bound = record { starts = refl; count = omega arith }
packs pid zero n [] (s ∷ ss) all bound = absurd (let l = all.0 in omega (arith, length-append s (joined ss)))
packs pid zero n (b ∷ rest) ss all bound = absurd (omega arith)
packs pid (suc m) n [] [] all bound = record { starts = refl; count = omega arith }
packs pid (suc m) n [] (s ∷ ss) all bound = done (group pid m n (λ rest ss all bound. packs pid m (suc n) rest ss all bound) s ss all.1 all.0 (let h = length-append s (joined ss) in omega arith))
  where
    done : Group pid m n s ss → Packs pid (suc m) n [] (s ∷ ss)
    done g =
        let z : length s ≡ 0 + length s = omega arith in
        record {
          starts = ap (λ (k : ℕ). (n, n + k / 184) ∷ (spots n k (beginning k ss) ++ spots_in (suc n) (drop 183 (s ++ joined (beginning k ss))) (packed m (drop 183 (s ++ joined (beginning k ss))) (waiting k ss)))) (sym z)
              ∙ ap (λ (x : List (ℕ × ℕ)). (n, n + length s / 184) ∷ x) g.starts ∙ ap (λ (k : ℕ). (n, n + k / 184) ∷ places pid (begun pid n k) ss) z;
          count = (let e : n + suc (length (packed m (drop 183 (s ++ joined (beginning (0 + length s) ss))) (waiting (0 + length s) ss))) ≡ suc n + length (packed m (drop 183 (s ++ joined (beginning (0 + length s) ss))) (waiting (0 + length s) ss)) = omega arith in e)
              ∙ ap (λ (k : ℕ). suc n + length (packed m (drop 183 (s ++ joined (beginning k ss))) (waiting k ss))) (sym z)
              ∙ g.count ∙ ap (λ (k : ℕ). packets_so_far (ending pid (begun pid n k) ss)) z;
        }
packs pid (suc m) n (b ∷ rest) ss all bound =
    done ss all bound (group pid m n (λ rest ss all bound. packs pid m (suc n) rest ss all bound) (b ∷ rest)) (λ rest ss all bound. packs pid m (suc n) rest ss all bound)
  where
    done : (ss : List (List ℕ)) → HaveBytes ss → length (b ∷ rest) + length (joined ss) ≤ suc m →
        ((ss : List (List ℕ)) → HaveBytes ss → 0 < length (b ∷ rest) → length (b ∷ rest) + length (joined ss) ≤ suc m → Group pid m n (b ∷ rest) ss) →
        ((rest : List ℕ) (ss : List (List ℕ)) → HaveBytes ss → length rest + length (joined ss) ≤ m → Packs pid m (suc n) rest ss) →
        Packs pid (suc m) n (b ∷ rest) ss
    done [] all bound g again =
        let r : List ℕ = drop 184 (b ∷ rest) in
        let l : length r ≡ length (b ∷ rest) - 184 = length-drop 184 (b ∷ rest) in
        let h = again r [] tt (let b : length r + 0 ≤ m = omega arith in b) in
        let c = h.count in
        let d = goes-so_far pid (suc n) (length r) in
        let e = goes-so_far pid n (length (b ∷ rest)) in
        record { starts = h.starts; count = omega arith }
    done (s ∷ ss) all bound g again = go (nat_lt (length (b ∷ rest)) 183) refl (g (s ∷ ss) all (omega arith) bound)
      where
        go : (c : Bool) → nat_lt (length (b ∷ rest)) 183 ≡ c → Group pid m n (b ∷ rest) (s ∷ ss) → Packs pid (suc m) n (b ∷ rest) (s ∷ ss)
        go true e g =
            let t = length (b ∷ rest) in
            let a = alike-places pid (begun pid n t) (goes pid n t) (goes-begun pid n t (ltb-true t 183 e)) (s ∷ ss) in
            let here = λ (c : Bool). if c then s ∷ beginning (t + length s) ss else [] in
            let mine = λ (c : Bool). packed m (left_by (b ∷ rest) (if c then s ∷ beginning (t + length s) ss else [])) (if c then waiting (t + length s) ss else s ∷ ss) in
            let yours = λ (c : Bool). packed m (drop 183 ((b ∷ rest) ++ joined (if c then s ∷ beginning (t + length s) ss else []))) (if c then waiting (t + length s) ss else s ∷ ss) in
            record {
              starts = ap (λ (c : Bool). spots n t (here c) ++ spots_in (suc n) (left_by (b ∷ rest) (here c)) (mine c)) e
                  ∙ sym (ap (λ (c : Bool). spots n t (here c) ++ spots_in (suc n) (drop 183 ((b ∷ rest) ++ joined (here c))) (yours c)) e) ∙ g.starts ∙ a.0;
              count = (let k : n + suc (length (mine (nat_lt t 183))) ≡ suc n + length (mine (nat_lt t 183)) = omega arith in k)
                  ∙ ap (λ (c : Bool). suc n + length (mine c)) e ∙ sym (ap (λ (c : Bool). suc n + length (yours c)) e) ∙ g.count ∙ a.1;
            }
        go false e g =
            let t = length (b ∷ rest) in
            let r : List ℕ = drop 184 (b ∷ rest) in
            let l : length r ≡ t - 184 = length-drop 184 (b ∷ rest) in
            let h = again r (s ∷ ss) all (let b : length r + length (joined (s ∷ ss)) ≤ m = omega arith in b) in
            let k = moved pid m (suc n) r (s ∷ ss) (t - 184) (goes pid n t) l (goes-next pid n t (ltb-false t 183 e)) h in
            let here = λ (c : Bool). if c then s ∷ beginning (t + length s) ss else [] in
            let mine = λ (c : Bool). packed m (left_by (b ∷ rest) (if c then s ∷ beginning (t + length s) ss else [])) (if c then waiting (t + length s) ss else s ∷ ss) in
            record {
              starts = ap (λ (c : Bool). spots n t (here c) ++ spots_in (suc n) (left_by (b ∷ rest) (here c)) (mine c)) e ∙ k.0;
              count = (let k : n + suc (length (mine (nat_lt t 183))) ≡ suc n + length (mine (nat_lt t 183)) = omega arith in k) ∙ ap (λ (c : Bool). suc n + length (mine c)) e ∙ k.1;
            }

-- a stretch from packet n on
pub record IsStretchAt (pid n : ℕ) (ss : List (List ℕ)) : Type 0 where
  pub starts : spots_in n [] (stretch ss) ≡ places pid (begun_at n) ss
  pub count : n + length (stretch ss) ≡ packets_so_far (ending pid (begun_at n) ss)

pub stretch_at : (pid n : ℕ) (ss : List (List ℕ)) → HaveBytes ss → IsStretchAt pid n ss
stretch_at pid n ss all =
    let p = packs pid (length (joined ss)) n [] ss all (omega arith) in
    let l : Alike pid (goes pid n 0) (begun_at n) = record { begins_same = refl; taken_same = refl; so_far = refl } in
    let m = moved pid (length (joined ss)) n [] ss 0 (begun_at n) refl l p in
    record { starts = m.0; count = m.1 }
