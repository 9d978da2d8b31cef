-- Counters that stand for the packets stamped, and packets that count.
use Rattle.std.proofs.Common.{◌≡◌, ℕ, zero, suc, ◌+◌, ◌%◌, ◌<◌, inl, inr, List, [], ◌∷◌, ◌++◌, Bool, true, false, cond, Option, Some, None, length, set, get_or, refl, sym, ap, ap₂, ◌∙◌, subst, arith, map, replicate, get_or-set_same, get_or-set_other, eq-eqb, ne_eqb, zero-add}
use Rattle.std.specs.Prelude.{◌==◌, if◌then◌else◌, unwrap_or}
use Rattle.std.specs.List.{AllByRecursion, cons_option}
use Rattle.std.proofs.lemmas.Bool.Decides.{eqb_tells}
use Rattle.std.proofs.lemmas.List.{get_or-replicate}
use Rattle.std.proofs.lemmas.List.Sums.{sum_by-append}
use Rattle.std.proofs.lemmas.List.Elements.{filter_map-append}
use Rattle.ts_packets.specs.Packets.{Piece}
use Rattle.ts_packets.specs.Bytes.{Packet, packet_on, bytes_of_packet, HasFields, pid_in}
use Rattle.ts_packets.specs.Counting.{count_on, next_after, StandFor, Load, load_on, loads_on, piece_on, of_pid, Count}
use Rattle.ts_packets.proofs.Headers.{pid_in-bytes}

-- before the first packet there is no counter
pub StandFor-none : StandFor [] (replicate 8192 None)
StandFor-none = record { next = λ pid lt. get_or-replicate 8192 pid None None lt }

count_on-push : (pid : ℕ) (past : List (List ℕ)) (p : List ℕ) → count_on pid (past ++ p ∷ []) ≡ count_on pid past + (if pid_in p == pid then 1 else 0)
count_on-push pid past p = sum_by-append (λ (bytes : List ℕ). cond (pid_in bytes == pid) 1 0) past (p ∷ [])
    ∙ ap (λ (n : ℕ). count_on pid past + n) (zero-add (cond (pid_in p == pid) 1 0))

count_on-cons : (pid : ℕ) (p : List ℕ) (past : List (List ℕ)) → count_on pid (p ∷ past) ≡ (if pid_in p == pid then 1 else 0) + count_on pid past
count_on-cons pid p past = sum_by-append (λ (bytes : List ℕ). cond (pid_in bytes == pid) 1 0) (p ∷ []) past
    ∙ ap (λ (n : ℕ). n + count_on pid past) (zero-add (cond (pid_in p == pid) 1 0))

-- the counter of one packet more
unwrap_next : (n : ℕ) → unwrap_or (next_after n) 0 ≡ n % 16
unwrap_next zero = omega arith
unwrap_next (suc n) = refl

next_more : (n : ℕ) → Some ((unwrap_or (next_after n) 0 % 16 + 1) % 16) ≡ next_after (n + 1)
next_more n =
    let one : n + 1 ≡ suc n = omega arith in
    let count : (unwrap_or (next_after n) 0 % 16 + 1) % 16 ≡ suc n % 16 = omega (arith, unwrap_next n) in
    ap (λ (k : ℕ). Some k) count ∙ ap next_after (sym one)

-- what is stamped
pub stamped_counter : (past : List (List ℕ)) (counters : List (Option ℕ)) (pid : ℕ) → StandFor past counters → pid < 8192 → unwrap_or (get_or counters pid None) 0 % 16 ≡ count_on pid past % 16
stamped_counter past counters pid s lt =
    ap (λ (o : Option ℕ). unwrap_or o 0 % 16) (s.next pid lt) ∙ ap (λ (k : ℕ). k % 16) (unwrap_next (count_on pid past)) ∙ (let f : count_on pid past % 16 % 16 ≡ count_on pid past % 16 = omega arith in f)

-- one more packet, and the next counter of its PID
pub StandFor-push : (past : List (List ℕ)) (counters : List (Option ℕ)) (p : List ℕ) (pid : ℕ) → StandFor past counters → length counters ≡ 8192 → pid < 8192 → pid_in p ≡ pid
    → StandFor (past ++ p ∷ []) (set counters pid (Some ((unwrap_or (get_or counters pid None) 0 % 16 + 1) % 16)))
StandFor-push past counters p pid s size lt is = record { next = next }
  where
    next : (q : ℕ) → q < 8192 → get_or (set counters pid (Some ((unwrap_or (get_or counters pid None) 0 % 16 + 1) % 16))) q None ≡ next_after (count_on q (past ++ p ∷ []))
    next q within = elim (eqb_tells pid q) [
      | inl same ↦
          let e : q ≡ pid = sym same.1 in
          let one : (pid_in p == q) ≡ true = eq-eqb (pid_in p) q (is ∙ same.1) in
          let more : count_on q (past ++ p ∷ []) ≡ count_on q past + 1 = count_on-push q past p ∙ ap (λ (b : Bool). count_on q past + cond b 1 0) one in
          ap (λ (k : ℕ). get_or (set counters pid (Some ((unwrap_or (get_or counters pid None) 0 % 16 + 1) % 16))) k None) e
          ∙ get_or-set_same counters pid (Some ((unwrap_or (get_or counters pid None) 0 % 16 + 1) % 16)) None (omega (arith, size))
          ∙ ap (λ (o : Option ℕ). Some ((unwrap_or o 0 % 16 + 1) % 16)) (s.next pid lt)
          ∙ next_more (count_on pid past) ∙ ap (λ (k : ℕ). next_after (count_on k past + 1)) (sym e) ∙ ap next_after (sym more)
      | inr apart ↦
          let no : (pid_in p == q) ≡ false = ne_eqb (pid_in p) q (λ f. apart.1 (sym is ∙ f)) in
          let more : count_on q (past ++ p ∷ []) ≡ count_on q past + 0 = count_on-push q past p ∙ ap (λ (b : Bool). count_on q past + cond b 1 0) no in
          get_or-set_other counters pid q (Some ((unwrap_or (get_or counters pid None) 0 % 16 + 1) % 16)) None (λ f. apart.1 (sym f)) ∙ s.next q within
          ∙ ap next_after (let f : count_on q past ≡ count_on q (past ++ p ∷ []) = omega (arith, more) in f)
    ]

pub loads_on-append : (pid : ℕ) (ps qs : List Packet) → loads_on pid (ps ++ qs) ≡ loads_on pid ps ++ loads_on pid qs
loads_on-append pid ps qs = filter_map-append (load_on pid) ps qs

pub of_pid-append : (pid : ℕ) (ps qs : List Packet) → of_pid pid (ps ++ qs) ≡ of_pid pid ps ++ of_pid pid qs
of_pid-append pid ps qs = filter_map-append (piece_on pid) ps qs

-- counters that go on, one list after the other
pub Count-append : (n : ℕ) (ls ms : List Load) → Count n ls → Count (n + length ls) ms → Count n (ls ++ ms)
Count-append n [] ms p q = subst (λ (k : ℕ). Count k ms) (let e : n + 0 ≡ n = omega arith in e) q
Count-append n (l ∷ ls) ms p q = (p.0, Count-append (1 + n) ls ms p.1 (subst (λ (k : ℕ). Count k ms) (let e : n + suc (length ls) ≡ 1 + n + length ls = omega arith in e) q))

-- the counter at a place is the number of loads before it
pub counter_at : (n : ℕ) (ls : List Load) (l : Load) (ms : List Load) → Count n (ls ++ l ∷ ms) → l.counter ≡ (n + length ls) % 16
counter_at n [] l ms h = h.0 ∙ ap (λ (k : ℕ). k % 16) (let e : n ≡ n + 0 = omega arith in e)
counter_at n (m ∷ ls) l ms h = counter_at (1 + n) ls l ms h.1 ∙ ap (λ (k : ℕ). k % 16) (let e : 1 + n + length ls ≡ n + suc (length ls) = omega arith in e)

-- packets that were written are counted by their records
pub count_on-written : (pid : ℕ) (ps : List Packet) → AllByRecursion HasFields ps → count_on pid (map bytes_of_packet ps) ≡ length (loads_on pid ps)
count_on-written pid [] all = refl
count_on-written pid (p ∷ ps) all =
    let told : (pid_in (bytes_of_packet p) == pid) ≡ (p.pid == pid) = ap (λ (n : ℕ). n == pid) (pid_in-bytes p all.0.pid) in
    count_on-cons pid (bytes_of_packet p) (map bytes_of_packet ps) ∙ ap₂ (λ (b : Bool) (n : ℕ). cond b 1 0 + n) told (count_on-written pid ps all.1) ∙ one (p.pid == pid)
  where
    one : (b : Bool) → cond b 1 0 + length (loads_on pid ps) ≡ length (cons_option (if b then Some (record { counter = p.counter; piece = p.piece }) else None) (loads_on pid ps))
    one true = omega arith
    one false = omega arith

-- pieces as packets of one PID, on a PID
pub one_pid : (pid q : ℕ) (b : Bool) → (q == pid) ≡ b → (ps : List Piece) → of_pid pid (map (packet_on q) ps) ≡ (if b then ps else [])
one_pid pid q true e [] = refl
one_pid pid q false e [] = refl
one_pid pid q true e (p ∷ ps) = ap (λ (x : Bool). cons_option (if x then Some p else None) (of_pid pid (map (packet_on q) ps))) e ∙ ap (λ (x : List Piece). p ∷ x) (one_pid pid q true e ps)
one_pid pid q false e (p ∷ ps) = ap (λ (x : Bool). cons_option (if x then Some p else None) (of_pid pid (map (packet_on q) ps))) e ∙ one_pid pid q false e ps
