-- Sections that share packets begin in the packets that the arithmetic of lengths says.
use Rattle.std.proofs.Common.{◌≡◌, ℕ, zero, suc, ◌+◌, ◌<◌, ◌≤◌, ◌⊎◌, inl, inr, List, [], ◌∷◌, ◌++◌, Bool, true, false, Option, Some, None, length, map, get_or, refl, sym, ap, ap₂, ◌∙◌, subst, arith, append_assoc, append-nil, length-append}
use Rattle.std.specs.Prelude.{◌==◌, if◌then◌else◌, slice_get}
use Rattle.std.specs.List.{AllByRecursion, cons_option}
use Rattle.std.proofs.lemmas.Bool.{eqb-true, eqb-false}
use Rattle.std.proofs.lemmas.Option.{slice_get_cases}
use Rattle.std.proofs.lemmas.List.{length-map, map-append}
use Rattle.std.proofs.lemmas.List.Concat.{flat_map-append}
use Rattle.si_lists.proofs.Lists.{all_map}
use Rattle.ts_packets.specs.Packets.{joined, piece_of, left_by, Begin, HasSectionByte, HaveSectionBytes, pieces, all_of, stretch}
use Rattle.ts_packets.specs.Bytes.{Packet, packet_on, packets_dense}
use Rattle.ts_packets.proofs.Carrying.{length-pieces}
use Rattle.ts_packets.proofs.Dense.{HaveBytes, are_packed}
use Rattle.air_model.specs.Packing.{Start, Packing, begun_at, begins, packed_one, packed_all, packets_so_far, starts_dense}
use Rattle.air_model.proofs.Packings.{IsFresh, fresh-begins}
use Rattle.air_model.specs.Air.{Sent, at_places}
use Rattle.air_model.specs.Making.{bytes_of, each_dense, front_on, behind_on, count_behind, counted}
use Rattle.air_model.proofs.Dense.{HaveSome, first_packets, both_parts, fewer, front_some, behind_all}
use Rattle.air_model.proofs.Planned.{all_at}
use Rattle.carousel_player.specs.Spacing.{BeginsAt, AreStarts}
use Rattle.carousel_player.proofs.Stretches.{starts_in, places, ending, Alike, alike-places, stretch_at}

-- ---- counters do not matter

abbrev pub uncounted : Packet → Packet
uncounted p = packet_on p.pid p.piece

pub uncounted-counted : (past ps : List Packet) → map uncounted (counted past ps) ≡ map uncounted ps
uncounted-counted past [] = refl
uncounted-counted past (p ∷ ps) = ap (λ (l : List Packet). uncounted p ∷ l) (uncounted-counted (past ++ count_behind past p ∷ []) ps)

-- where packets without counters are cut, so are the packets
record CutThere (ps : List Packet) (before : List Packet) (p : Packet) : Type 0 where
  pub front : List Packet
  pub here : Packet
  pub after : List Packet
  pub are : ps ≡ front ++ here ∷ after
  pub place : length front ≡ length before
  pub same : uncounted here ≡ p

cut_there : (ps before : List Packet) (p : Packet) (after : List Packet) → map uncounted ps ≡ before ++ p ∷ after → CutThere ps before p
cut_there [] [] p after e = absurd (let b : Prim.⊥ = cc in b)
cut_there [] (q ∷ before) p after e = absurd (let b : Prim.⊥ = cc in b)
cut_there (x ∷ ps) [] p after e = record { front = []; here = x; after = ps; are = refl; place = refl; same = (let f : uncounted x ≡ p = cc in f) }
cut_there (x ∷ ps) (q ∷ before) p after e =
    let f : map uncounted ps ≡ before ++ p ∷ after = cc in
    let r = cut_there ps before p after f in
    record { front = x ∷ r.front; here = r.here; after = r.after; are = ap (λ (l : List Packet). x ∷ l) r.are; place = ap suc r.place; same = r.same }

-- packets that are equal but for their counters
pub begins_alike : (ps qs : List Packet) (n : ℕ) (s : Sent) → map uncounted ps ≡ map uncounted qs → BeginsAt ps n s → BeginsAt qs n s
begins_alike ps qs n s e b =
    let c = cut_there qs (map uncounted b.before) (uncounted b.packet) (map uncounted b.after) (sym e ∙ ap (map uncounted) b.are ∙ map-append uncounted b.before (b.packet ∷ b.after)) in
    record {
      before = c.front;
      after = c.after;
      place = c.place ∙ length-map b.before uncounted ∙ b.place;
      packet = c.here;
      are = c.are;
      pid = ap (λ (p : Packet). p.pid) c.same ∙ b.pid;
      rest = b.rest;
      front = b.front;
      behind = b.behind;
      piece = ap (λ (p : Packet). p.piece) c.same ∙ b.piece;
      begins = b.begins;
    }

-- packets within an air, and those with the counters that they have there
pub begins_counted : (front ps rest : List Packet) (n : ℕ) (s : Sent) → BeginsAt (front ++ (ps ++ rest)) n s → BeginsAt (front ++ (counted front ps ++ rest)) n s
begins_counted front ps rest n s b =
    let behind : map uncounted (ps ++ rest) ≡ map uncounted (counted front ps ++ rest) =
    map-append uncounted ps rest ∙ ap (λ (l : List Packet). l ++ map uncounted rest) (sym (uncounted-counted front ps)) ∙ sym (map-append uncounted (counted front ps) rest) in
    begins_alike (front ++ (ps ++ rest)) (front ++ (counted front ps ++ rest)) n s
    (map-append uncounted front (ps ++ rest) ∙ ap (λ (l : List Packet). map uncounted front ++ l) behind ∙ sym (map-append uncounted front (counted front ps ++ rest))) b

-- ---- sections of one PID

-- sections begin in these packets, one by one
abbrev EachBegins : List Packet → List ℕ → List Sent → Type 0
EachBegins packets [] [] = Unit {0}
EachBegins packets [] (s ∷ ss) = Prim.⊥
EachBegins packets (n ∷ ns) [] = Prim.⊥
EachBegins packets (n ∷ ns) (s ∷ ss) = BeginsAt packets n s × EachBegins packets ns ss

begin_append : (packets : List Packet) (ms ns : List ℕ) (ss ts : List Sent) → EachBegins packets ms ss → EachBegins packets ns ts → EachBegins packets (ms ++ ns) (ss ++ ts)
begin_append packets [] ns [] ts h k = k
begin_append packets [] ns (s ∷ ss) ts h k = absurd h
begin_append packets (m ∷ ms) ns [] ts h k = absurd h
begin_append packets (m ∷ ms) ns (s ∷ ss) ts h k = (h.0, begin_append packets ms ns ss ts h.1 k)

abbrev on : ℕ → List (List ℕ) → List Sent
on pid ss = map (λ (b : List ℕ). record { pid = pid; bytes = b }) ss

joined_next : (front : List (List ℕ)) (s : List ℕ) → length (joined (front ++ s ∷ [])) ≡ length (joined front) + length s
joined_next front s =
    ap length (flat_map-append (λ (b : List ℕ). b) front (s ∷ [])) ∙ length-append (joined front) (s ++ []) ∙ ap (λ (l : List ℕ). length (joined front) + length l) (append-nil s)

-- those of a group begin in its packet
group_begins : (packets before after : List Packet) (pid : ℕ) (rest : List ℕ) (front behind : List (List ℕ)) → packets ≡ before ++ packet_on pid (piece_of rest (front ++ behind)) ∷ after
    → Begin (length rest + length (joined front)) behind → EachBegins packets (map (λ (s : List ℕ). length before) behind) (on pid behind)
group_begins packets before after pid rest front [] e b = tt
group_begins packets before after pid rest front (s ∷ behind) e b =
    let f : packets ≡ before ++ packet_on pid (piece_of rest ((front ++ s ∷ []) ++ behind)) ∷ after =
    e ∙ ap (λ (g : List (List ℕ)). before ++ packet_on pid (piece_of rest g) ∷ after) (sym (append_assoc front (s ∷ []) behind)) in
    let l : length rest + length (joined front) + length s ≡ length rest + length (joined (front ++ s ∷ [])) = omega (arith, joined_next front s) in
    let first : length rest + length (joined front) < 183 = b.0 in (
      record {
        before = before;
        after = after;
        place = refl;
        packet = packet_on pid (piece_of rest (front ++ s ∷ behind));
        are = e;
        pid = refl;
        rest = rest;
        front = front;
        behind = behind;
        piece = refl;
        begins = omega (arith, length-append rest (joined front));
      },
      group_begins packets before after pid rest (front ++ s ∷ []) behind f (subst (λ (n : ℕ). Begin n behind) l b.1),
    )

group_room : (rest : List ℕ) (g : List (List ℕ)) → HasSectionByte rest g → Begin (length rest + 0) g
group_room rest [] h = tt
group_room rest (s ∷ ss) h = subst (λ (n : ℕ). Begin n (s ∷ ss)) (let e : length rest ≡ length rest + 0 = omega arith in e) h

groups_begin : (packets before after : List Packet) (pid : ℕ) (rest : List ℕ) (gs : List (List (List ℕ))) → packets ≡ before ++ (map (packet_on pid) (pieces rest gs) ++ after)
    → HaveSectionBytes rest gs → EachBegins packets (starts_in (length before) gs) (on pid (all_of gs))
groups_begin packets before after pid rest [] e h = tt
groups_begin packets before after pid rest (g ∷ gs) e h =
    let p = packet_on pid (piece_of rest g) in
    let others = map (packet_on pid) (pieces (left_by rest g) gs) ++ after in
    let here = group_begins packets before others pid rest [] g e (group_room rest g h.0) in
    let next = groups_begin packets (before ++ p ∷ []) after pid (left_by rest g) gs (e ∙ sym (append_assoc before (p ∷ []) others)) h.1 in
    let one : length (before ++ p ∷ []) ≡ suc (length before) = omega (arith, length-append before (p ∷ [])) in
    subst (EachBegins packets (starts_in (length before) (g ∷ gs))) (sym (map-append (λ (b : List ℕ). record { pid = pid; bytes = b }) g (all_of gs)))
    (begin_append packets (map (λ (s : List ℕ). length before) g) (starts_in (suc (length before)) gs) (on pid g) (on pid (all_of gs)) here
    (subst (λ (n : ℕ). EachBegins packets (starts_in n gs) (on pid (all_of gs))) one next))

stretch_begins : (packets before after : List Packet) (pid : ℕ) (ss : List (List ℕ)) → HaveBytes ss → packets ≡ before ++ (packets_dense pid ss ++ after) → EachBegins packets (places pid (begun_at (length before)) ss) (on pid ss)
stretch_begins packets before after pid ss all e =
    let are = are_packed (length (joined ss)) [] ss all (omega arith) in
    let n = length before in
    subst (λ (ns : List ℕ). EachBegins packets ns (on pid ss)) (stretch_at pid n ss all).starts
    (subst (λ (l : List (List ℕ)). EachBegins packets (starts_in n (stretch ss)) (on pid l)) are.all (groups_begin packets before after pid [] (stretch ss) e are.have_room))

-- ---- sections on any PIDs

abbrev sent_places : Packing → List Sent → List ℕ
sent_places packing [] = []
sent_places packing (s ∷ ss) = begins packing s.pid ∷ sent_places (packed_one packing s.pid (length s.bytes)) ss

abbrev sent_ending : Packing → List Sent → Packing
sent_ending packing [] = packing
sent_ending packing (s ∷ ss) = sent_ending (packed_one packing s.pid (length s.bytes)) ss

places_append : (packing : Packing) (ss ts : List Sent) → sent_places packing (ss ++ ts) ≡ sent_places packing ss ++ sent_places (sent_ending packing ss) ts
places_append packing [] ts = refl
places_append packing (s ∷ ss) ts = ap (λ (l : List ℕ). begins packing s.pid ∷ l) (places_append (packed_one packing s.pid (length s.bytes)) ss ts)

ending_append : (packing : Packing) (ss ts : List Sent) → sent_ending packing (ss ++ ts) ≡ sent_ending (sent_ending packing ss) ts
ending_append packing [] ts = refl
ending_append packing (s ∷ ss) ts = ending_append (packed_one packing s.pid (length s.bytes)) ss ts

abbrev AllOn : ℕ → List Sent → Type 0
AllOn pid ss = AllByRecursion (λ (s : Sent). s.pid ≡ pid) ss

-- where all are on one PID, they begin as a stretch does,
record OnePid (pid : ℕ) (packing : Packing) (ss : List Sent) : Type 0 where
  pub starts : places pid packing (bytes_of ss) ≡ sent_places packing ss
  pub end : ending pid packing (bytes_of ss) ≡ sent_ending packing ss

one_pid : (pid : ℕ) (packing : Packing) (ss : List Sent) → AllOn pid ss → OnePid pid packing ss
one_pid pid packing [] h = record { starts = refl; end = refl }
one_pid pid packing (s ∷ ss) h =
    let r = one_pid pid (packed_one packing s.pid (length s.bytes)) ss h.1 in
    let e : pid ≡ s.pid = sym h.0 in
    record {
      starts = ap₂ (λ (q : ℕ) (l : List ℕ). begins packing q ∷ l) e (ap (λ (q : ℕ). places pid (packed_one packing q (length s.bytes)) (bytes_of ss)) e ∙ r.starts);
      end = ap (λ (q : ℕ). ending pid (packed_one packing q (length s.bytes)) (bytes_of ss)) e ∙ r.end;
    }

begin_on : (packets : List Packet) (pid : ℕ) (ns : List ℕ) (ss : List Sent) → AllOn pid ss → EachBegins packets ns (on pid (bytes_of ss)) → EachBegins packets ns ss
begin_on packets pid [] [] all h = tt
begin_on packets pid [] (s ∷ ss) all h = absurd h
begin_on packets pid (n ∷ ns) [] all h = absurd h
begin_on packets pid (n ∷ ns) (s ∷ ss) all h =
    let b = h.0 in (
      record {
        before = b.before;
        after = b.after;
        place = b.place;
        packet = b.packet;
        are = b.are;
        pid = b.pid ∙ sym all.0;
        rest = b.rest;
        front = b.front;
        behind = b.behind;
        piece = b.piece;
        begins = b.begins;
      },
      begin_on packets pid ns ss all.1 h.1,
    )

-- and their packet is not shared behind them
pid_after : (pid : ℕ) (packing : Packing) (ss : List Sent) → packing.pid ≡ pid → AllOn pid ss → (sent_ending packing ss).pid ≡ pid
pid_after pid packing [] e h = e
pid_after pid packing (s ∷ ss) e h = pid_after pid (packed_one packing s.pid (length s.bytes)) ss h.0 h.1

front_all : (pid : ℕ) (ss : List Sent) → AllOn pid (front_on pid ss)
front_all pid [] = tt
front_all pid (s ∷ ss) = go (s.pid == pid) refl (front_all pid ss)
  where
    go : (b : Bool) → (s.pid == pid) ≡ b → AllOn pid (front_on pid ss) → AllOn pid (if b then s ∷ front_on pid ss else [])
    go true e h = (eqb-true s.pid pid e, h)
    go false e h = tt

abbrev FreshFor : Packing → List Sent → Type 0
FreshFor packing [] = Unit {0}
FreshFor packing (s ∷ ss) = IsFresh s.pid packing

behind_fresh : (pid : ℕ) (packing : Packing) (ss : List Sent) → packing.pid ≡ pid → FreshFor packing (behind_on pid ss)
behind_fresh pid packing [] f = tt
behind_fresh pid packing (s ∷ ss) f = go (s.pid == pid) refl (behind_fresh pid packing ss f)
  where
    go : (b : Bool) → (s.pid == pid) ≡ b → FreshFor packing (behind_on pid ss) → FreshFor packing (if b then behind_on pid ss else s ∷ ss)
    go true e h = h
    go false e h = inr (λ g. eqb-false s.pid pid e (sym g ∙ f))

fresh_at : (n : ℕ) (ss : List Sent) → FreshFor (begun_at n) ss
fresh_at n [] = tt
fresh_at n (s ∷ ss) = inl refl

record BeginAll (packets : List Packet) (n : ℕ) (packing : Packing) (ss : List Sent) : Type 0 where
  pub starts : EachBegins packets (sent_places packing ss) ss
  pub count : n + length (each_dense ss) ≡ packets_so_far (sent_ending packing ss)

-- k bounds how many sections there are
begin_all : (k : ℕ) (packets before after : List Packet) (packing : Packing) (ss : List Sent) → length ss ≤ k → HaveSome ss → FreshFor packing ss → length before ≡ packets_so_far packing
    → packets ≡ before ++ (each_dense ss ++ after) → BeginAll packets (length before) packing ss
begin_all k packets before after packing [] l all f n e = record { starts = tt; count = omega arith }
begin_all zero packets before after packing (s ∷ ss) l all f n e = absurd (omega arith)
begin_all (suc k) packets before after packing (s ∷ ss) l all f n e =
    let front = front_on s.pid ss in
    let behind = behind_on s.pid ss in
    let both : (s ∷ front) ++ behind ≡ s ∷ ss = ap (λ (t : List Sent). s ∷ t) (both_parts s.pid ss) in
    let here = bytes_of (s ∷ front) in
    let own = packets_dense s.pid here in
    let cut : each_dense (s ∷ ss) ≡ own ++ each_dense behind = first_packets s ss in
    let have : HaveBytes here = (all.0, front_some s.pid ss all.1) in
    let all_on : AllOn s.pid (s ∷ front) = (refl, front_all s.pid ss) in
    let parts : packets ≡ before ++ (own ++ (each_dense behind ++ after)) =
    e ∙ ap (λ (t : List Packet). before ++ t) (ap (λ (t : List Packet). t ++ after) cut ∙ append_assoc own (each_dense behind) after) in
    let fresh = fresh-begins s.pid packing f in
    let a : Alike s.pid (begun_at (length before)) packing = record { begins_same = n ∙ sym fresh.0; taken_same = sym fresh.1; so_far = n } in
    let same = alike-places s.pid (begun_at (length before)) packing a here in
    let own_pid = one_pid s.pid packing (s ∷ front) all_on in
    let first : EachBegins packets (sent_places packing (s ∷ front)) (s ∷ front) =
    begin_on packets s.pid (sent_places packing (s ∷ front)) (s ∷ front) all_on
    (subst (λ (ns : List ℕ). EachBegins packets ns (on s.pid here)) (same.0 ∙ own_pid.starts) (stretch_begins packets before (each_dense behind ++ after) s.pid here have parts)) in
    let next = sent_ending packing (s ∷ front) in
    let many : length own ≡ length (stretch here) = length-map (pieces [] (stretch here)) (packet_on s.pid) ∙ length-pieces [] (stretch here) in
    let count : length before + length own ≡ packets_so_far next =
    ap (λ (m : ℕ). length before + m) many ∙ (stretch_at s.pid (length before) here have).count ∙ same.1 ∙ ap packets_so_far own_pid.end in
    let nf : FreshFor next behind = behind_fresh s.pid next ss (pid_after s.pid (packed_one packing s.pid (length s.bytes)) front refl (front_all s.pid ss)) in
    let nl : length (before ++ own) ≡ packets_so_far next = length-append before own ∙ count in
    let few : length behind ≤ k = omega (arith, fewer s.pid ss) in
    let r = begin_all k packets (before ++ own) after next behind few (behind_all (λ (t : Sent). 0 < length t.bytes) s.pid ss all.1) nf nl (parts ∙ sym (append_assoc before own (each_dense behind ++ after))) in
    record {
      starts = subst (λ (t : List Sent). EachBegins packets (sent_places packing t) t) both
          (subst (λ (ns : List ℕ). EachBegins packets ns ((s ∷ front) ++ behind)) (sym (places_append packing (s ∷ front) behind))
          (begin_append packets (sent_places packing (s ∷ front)) (sent_places next behind) (s ∷ front) behind first r.starts));
      count = ap (λ (t : List Packet). length before + length t) cut ∙ omega (arith, length-append own (each_dense behind), length-append before own, r.count)
          ∙ ap packets_so_far (sym (ending_append packing (s ∷ front) behind) ∙ ap (sent_ending packing) both);
    }

-- ---- sections at places of a list

-- each PID and each length is that of the section with this place
abbrev pub AreOf : List Sent → (ℕ → ℕ) → (ℕ → ℕ) → Type 0
AreOf ss pid len = (i : ℕ) (s : Sent) → slice_get ss i ≡ Some s → (pid i ≡ s.pid) × (len i ≡ length s.bytes)

abbrev Within : List Sent → List ℕ → Type 0
Within ss order = AllByRecursion (λ (i : ℕ). i < length ss) order

record AtPlaces (packets : List Packet) (ss : List Sent) (pid len : ℕ → ℕ) (packing : Packing) (order : List ℕ) : Type 0 where
  pub starts : EachBegins packets (sent_places packing (at_places ss order)) (at_places ss order) → AreStarts packets ss (starts_dense pid len packing order)
  pub end : sent_ending packing (at_places ss order) ≡ packed_all pid len packing order

at_their_places : (packets : List Packet) (ss : List Sent) (pid len : ℕ → ℕ) → AreOf ss pid len → (packing : Packing) (order : List ℕ) → Within ss order → AtPlaces packets ss pid len packing order
at_their_places packets ss pid len are packing [] h = record { starts = λ b. tt; end = refl }
at_their_places packets ss pid len are packing (i ∷ order) h = go (slice_get_cases ss i).1 (λ p. at_their_places packets ss pid len are p order h.1)
  where
    go : (((s : Sent) × (i < length ss) × (slice_get ss i ≡ Some s) × (get_or ss i s ≡ s)) ⊎ ((length ss ≤ i) × (slice_get ss i ≡ None)))
        → ((p : Packing) → AtPlaces packets ss pid len p order) → AtPlaces packets ss pid len packing (i ∷ order)
    go (inr past) again = absurd (let lt = h.0 in let le = past.0 in omega arith)
    go (inl found) again =
        let s = found.0 in
        let are_here = are i s found.2 in
        let next : Packing = packed_one packing s.pid (length s.bytes) in
        let same : packed_one packing (pid i) (len i) ≡ next = ap₂ (λ (q l : ℕ). packed_one packing q l) are_here.0 are_here.1 in
        let here : at_places ss (i ∷ order) ≡ s ∷ at_places ss order = ap (λ (o : Option Sent). cons_option o (at_places ss order)) found.2 in
        let r = again next in
        record {
          starts = λ b. (
              let c : EachBegins packets (sent_places packing (s ∷ at_places ss order)) (s ∷ at_places ss order) = subst (λ (t : List Sent). EachBegins packets (sent_places packing t) t) here b in (
                (s, found.2, subst (λ (q : ℕ). BeginsAt packets (begins packing q) s) (sym are_here.0) c.0),
                subst (λ (p : Packing). AreStarts packets ss (starts_dense pid len p order)) (sym same) (r.starts c.1),
              ));
          end = ap (sent_ending packing) here ∙ r.end ∙ ap (λ (p : Packing). packed_all pid len p order) (sym same);
        }

-- a cycle of sections within an air, whose packets have counters
pub record CycleStarts (ss : List Sent) (pid len : ℕ → ℕ) (order : List ℕ) (front rest : List Packet) : Type 0 where
  pub starts : AreStarts (front ++ (counted front (each_dense (at_places ss order)) ++ rest)) ss (starts_dense pid len (begun_at (length front)) order)
  pub count : length front + length (each_dense (at_places ss order)) ≡ packets_so_far (packed_all pid len (begun_at (length front)) order)

pub cycle_starts : (ss : List Sent) (pid len : ℕ → ℕ) → AreOf ss pid len → HaveSome ss → (order : List ℕ) → Within ss order → (front rest : List Packet) → CycleStarts ss pid len order front rest
cycle_starts ss pid len are some order within front rest =
    let own = each_dense (at_places ss order) in
    let packets = front ++ (own ++ rest) in
    let r = begin_all (length (at_places ss order)) packets front rest (begun_at (length front)) (at_places ss order) (omega arith) (all_at (λ (s : Sent). 0 < length s.bytes) ss order some) (fresh_at (length front) (at_places ss order)) refl refl in
    let here = at_their_places packets ss pid len are (begun_at (length front)) order within in
    record {
      starts = all_map
          (λ (start : Start). (s : Sent) × (slice_get ss start.section ≡ Some s) × BeginsAt packets start.packet s)
          (λ (start : Start). (s : Sent) × (slice_get ss start.section ≡ Some s) × BeginsAt (front ++ (counted front own ++ rest)) start.packet s)
          (λ start b. (b.0, b.1, begins_counted front own rest start.packet b.0 b.2))
          (starts_dense pid len (begun_at (length front)) order) (here.starts r.starts);
      count = r.count ∙ ap packets_so_far here.end;
    }
