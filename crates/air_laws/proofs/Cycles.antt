-- The cycles of which a part of an air is heard.
use Rattle.std.proofs.Common.{◌≡◌, ℕ, ◌+◌, ◌-◌, ◌<◌, inr, List, [], ◌∷◌, ◌++◌, Bool, true, false, ◌==◌, Some, None, length, refl, sym, ap}
use Rattle.std.proofs.Common.{◌∙◌, subst, arith, append_assoc, append-nil, eqb-true, eq-eqb}
use Rattle.std.specs.Prelude.{if◌then◌else◌, filter_map}
use Rattle.std.specs.List.{AllByRecursion, Contains, cons_option}
use Rattle.std.proofs.lemmas.List.{length-append}
use Rattle.std.proofs.lemmas.List.Elements.{filter_map-append, Contains-append_left, Contains-append_right}
use Rattle.si_lists.proofs.Lists.{all_map}
use Rattle.version_book.specs.Airings.{AiredTables}
use Rattle.ts_packets.specs.Packets.{Piece, all_of, Carries}
use Rattle.ts_packets.specs.Bytes.{Packet}
use Rattle.ts_packets.specs.Counting.{of_pid}
use Rattle.ts_packets.proofs.Carrying.{length-pieces}
use Rattle.ts_packets.proofs.Stamps.{of_pid-append}
use Rattle.ts_demux.specs.Laws.{within}
use Rattle.air_model.specs.Air.{Sent, Aired, sent_on, air, airings_of}
use Rattle.air_model.specs.Repeating.{IsSentOf, RepeatingCycles}
use Rattle.air_model.proofs.Repeating.{around}
use Rattle.ts_demux.proofs.Parts.{within-none, all-parts, all-part}
use Rattle.air_laws.proofs.Joined.{groups_by}

pub length_groups : (ps : List Piece) (ss : List (List ℕ)) (c : Carries ps ss) → length c.groups ≡ length ps
length_groups ps ss c = sym (length-pieces [] c.groups) ∙ ap length (sym c.are)

pub count_both : (pid : ℕ) (ps qs : List Packet) → length (of_pid pid (ps ++ qs)) ≡ length (of_pid pid ps) + length (of_pid pid qs)
count_both pid ps qs = ap length (of_pid-append pid ps qs) ∙ length-append (of_pid pid ps) (of_pid pid qs)

-- ---- sections of one PID

-- these bytes are such a section, on this PID
record IsSentOn (pid : ℕ) (P : Sent → Type 0) (bytes : List ℕ) : Type 0 where
  section : Sent
  is : P section
  on_pid : section.pid ≡ pid
  has_bytes : section.bytes ≡ bytes

sent_on_each : (pid : ℕ) (P : Sent → Type 0) (ss : List Sent) → AllByRecursion P ss
    → AllByRecursion (IsSentOn pid P) (filter_map (sent_on pid) ss)
sent_on_each pid P [] all = tt
sent_on_each pid P (s ∷ ss) all = go (s.pid == pid) refl (sent_on_each pid P ss all.1)
  where
    go : (b : Bool) → (s.pid == pid) ≡ b → AllByRecursion (IsSentOn pid P) (filter_map (sent_on pid) ss)
        → AllByRecursion (IsSentOn pid P) (cons_option (if b then Some s.bytes else None) (filter_map (sent_on pid) ss))
    go true e rest = (record { section = s; is = all.0; on_pid = eqb-true s.pid pid e; has_bytes = refl }, rest)
    go false e rest = rest

pub contains-sent : (ss : List Sent) (s : Sent) → Contains ss s → Contains (filter_map (sent_on s.pid) ss) s.bytes
contains-sent ss s has =
    let parts = around ss s has in
    let own : (s.pid == s.pid) ≡ true = eq-eqb s.pid s.pid refl in
    let rest = filter_map (sent_on s.pid) parts.1 in
    let all : filter_map (sent_on s.pid) ss ≡ filter_map (sent_on s.pid) parts.0 ++ (s.bytes ∷ rest) =
    ap (filter_map (sent_on s.pid)) parts.2 ∙ filter_map-append (sent_on s.pid) parts.0 (s ∷ parts.1)
    ∙ ap (λ (b : Bool). filter_map (sent_on s.pid) parts.0 ++ cons_option (if b then Some s.bytes else None) rest) own in
    subst (λ (l : List (List ℕ)). Contains l s.bytes) (sym all)
    (Contains-append_right (filter_map (sent_on s.pid) parts.0) (s.bytes ∷ rest) s.bytes (first s.bytes rest))
  where
    first : (x : List ℕ) (xs : List (List ℕ)) → Contains (x ∷ xs) x
    first x xs = Contains-append_left (x ∷ []) xs x (0, let one : 0 < length (x ∷ []) = omega arith in one, refl)

-- ---- the cycle of a section, by the packets of its PID

pub record IsOfCycle (pid join end : ℕ) (past : List AiredTables) (xs : List Aired) (bytes : List ℕ) : Type 0 where
  pub before : List Aired
  pub cycle : Aired
  pub after : List Aired
  pub section : Sent
  pub cut : xs ≡ before ++ cycle ∷ after
  pub sent : IsSentOf (past ++ airings_of before) cycle.airing section
  pub on_pid : section.pid ≡ pid
  pub has_bytes : section.bytes ≡ bytes
  pub reaches : join < length (of_pid pid (air before)) + length (of_pid pid cycle.packets)
  pub begins : length (of_pid pid (air before)) < end
  pub some : 0 < length (of_pid pid cycle.packets)
  pub order : join < end

-- the first cycle
own_part : (pid : ℕ) (past : List AiredTables) (x : Aired) (xs : List Aired) (ss : List Sent) → AllByRecursion (IsSentOf past x.airing) ss
    → (c : Carries (of_pid pid x.packets) (filter_map (sent_on pid) ss)) (join end : ℕ)
    → AllByRecursion (IsOfCycle pid join end past (x ∷ xs)) (within join end c.groups)
own_part pid past x xs ss each c join end = all-part (IsOfCycle pid join end past (x ∷ xs)) join end c.groups all
  where
    one : join < length c.groups → join < end → (bytes : List ℕ) → IsSentOn pid (IsSentOf past x.airing) bytes
        → IsOfCycle pid join end past (x ∷ xs) bytes
    one lt less bytes s =
        let size = length_groups (of_pid pid x.packets) (filter_map (sent_on pid) ss) c in
        record {
          before = [];
          cycle = x;
          after = xs;
          section = s.section;
          cut = refl;
          sent = subst (λ (l : List AiredTables). IsSentOf l x.airing s.section) (sym (append-nil past)) s.is;
          on_pid = s.on_pid;
          has_bytes = s.has_bytes;
          reaches = omega (arith, lt, size);
          begins = omega (arith, less);
          some = omega (arith, lt, size);
          order = less;
        }

    all : join < length c.groups → join < end → AllByRecursion (IsOfCycle pid join end past (x ∷ xs)) (all_of c.groups)
    all lt less =
        all_map (IsSentOn pid (IsSentOf past x.airing)) (IsOfCycle pid join end past (x ∷ xs)) (one lt less) (all_of c.groups)
        (subst (AllByRecursion (IsSentOn pid (IsSentOf past x.airing))) c.sections (sent_on_each pid (IsSentOf past x.airing) ss each))

-- a cycle behind it
shift-reaches : (join n a l b : ℕ) → b ≡ n + a → join - n < a + l → join < b + l
shift-reaches join n a l b e lt = omega (arith, e, lt)

shift-begins : (end n a b : ℕ) → b ≡ n + a → a < end - n → b < end
shift-begins end n a b e lt = omega (arith, e, lt)

shift-order : (join end n : ℕ) → join - n < end - n → join < end
shift-order join end n lt = omega (arith, lt)

behind_first : (pid : ℕ) (past : List AiredTables) (x : Aired) (xs : List Aired) (join end n : ℕ) → n ≡ length (of_pid pid x.packets)
    → (bytes : List ℕ) → IsOfCycle pid (join - n) (end - n) (past ++ x.airing ∷ []) xs bytes → IsOfCycle pid join end past (x ∷ xs) bytes
behind_first pid past x xs join end n size bytes r =
    let both : length (of_pid pid (x.packets ++ air r.before)) ≡ n + length (of_pid pid (air r.before)) =
    count_both pid x.packets (air r.before) ∙ ap (λ (k : ℕ). k + length (of_pid pid (air r.before))) (sym size) in
    record {
      before = x ∷ r.before;
      cycle = r.cycle;
      after = r.after;
      section = r.section;
      cut = ap (λ (l : List Aired). x ∷ l) r.cut;
      sent = subst (λ (l : List AiredTables). IsSentOf l r.cycle.airing r.section)
          (append_assoc past (x.airing ∷ []) (airings_of r.before)) r.sent;
      on_pid = r.on_pid;
      has_bytes = r.has_bytes;
      reaches = shift-reaches join n (length (of_pid pid (air r.before))) (length (of_pid pid r.cycle.packets))
          (length (of_pid pid (x.packets ++ air r.before))) both r.reaches;
      begins = shift-begins end n (length (of_pid pid (air r.before))) (length (of_pid pid (x.packets ++ air r.before))) both r.begins;
      some = r.some;
      order = shift-order join end n r.order;
    }

pub each_of_cycle : (pid : ℕ) (lt : pid < 8191) (past : List AiredTables) (xs : List Aired) (h : RepeatingCycles past xs) (join end : ℕ)
    → AllByRecursion (IsOfCycle pid join end past xs) (within join end (groups_by pid lt past xs h))
each_of_cycle pid lt past [] h join end =
    subst (AllByRecursion (IsOfCycle pid join end past [])) (sym (within-none join end [] (inr (omega arith)))) tt
each_of_cycle pid lt past (x ∷ xs) h join end =
    let own : Carries (of_pid pid x.packets) (filter_map (sent_on pid) h.0.sections) = h.0.carried pid lt in
    let gs : List (List (List ℕ)) = own.groups in
    let hs : List (List (List ℕ)) = groups_by pid lt (past ++ x.airing ∷ []) xs h.1 in
    let rest = each_of_cycle pid lt (past ++ x.airing ∷ []) xs h.1 (join - length gs) (end - length gs) in
    all-parts (IsOfCycle pid join end past (x ∷ xs)) join end gs hs own.ended
    (own_part pid past x xs h.0.sections h.0.are.each own join end)
    (all_map (IsOfCycle pid (join - length gs) (end - length gs) (past ++ x.airing ∷ []) xs) (IsOfCycle pid join end past (x ∷ xs))
    (behind_first pid past x xs join end (length gs) (length_groups (of_pid pid x.packets) (filter_map (sent_on pid) h.0.sections) own))
    (within (join - length gs) (end - length gs) hs) rest)
