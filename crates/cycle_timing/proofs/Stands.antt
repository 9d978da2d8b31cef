-- Sections of one PID that share packets begin and end in the packets that their lengths say.
use Rattle.std.proofs.Common.{◌≡◌, ℕ, suc, ◌+◌, ◌-◌, ◌/◌, ◌<◌, ◌≤◌, ◌⊎◌, inl, inr, List, [], ◌∷◌, ◌++◌, length, map, take, drop, refl, sym, ap, ◌∙◌, subst, arith, append_assoc, append-nil, length-append, length-drop}
use Rattle.std.proofs.lemmas.List.{length-map, map-append, take-append-drop}
use Rattle.std.proofs.lemmas.List.Concat.{flat_map-append}
use Rattle.si_lists.proofs.Parts.{lt_or, drop_behind}
use Rattle.ts_packets.specs.Packets.{joined, piece_of, left_by, left, Begin, HasSectionByte, HaveSectionBytes, pieces, all_of, stretch}
use Rattle.ts_packets.specs.Bytes.{Packet, packet_on, packets_dense}
use Rattle.ts_packets.proofs.Dense.{HaveBytes, are_packed}
use Rattle.air_model.specs.Packing.{begun_at}
use Rattle.air_model.specs.Air.{Sent}
use Rattle.air_model.specs.Making.{count_behind, counted}
use Rattle.cycle_timing.specs.Places.{BeginsAt, EndsAt, StandsIn}
use Rattle.cycle_timing.proofs.Stretches.{spots, spots_in, places, stretch_at}

-- ---- counters do not matter

abbrev pub uncounted : Packet → Packet
uncounted p = packet_on p.pid p.piece

uncounted-counted : (past ps : List Packet) → map uncounted (counted past ps) ≡ map uncounted ps
uncounted-counted past [] = refl
uncounted-counted past (p ∷ ps) = ap (λ (l : List Packet). uncounted p ∷ l) (uncounted-counted (past ++ count_behind past p ∷ []) ps)

-- where packets without counters are cut, so are the packets
record CutThere (ps : List Packet) (before : List Packet) (p : Packet) : Type 0 where
  pub front : List Packet
  pub here : Packet
  pub after : List Packet
  pub are : ps ≡ front ++ here ∷ after
  pub place : length front ≡ length before
  pub same : uncounted here ≡ p

cut_there : (ps before : List Packet) (p : Packet) (after : List Packet) → map uncounted ps ≡ before ++ p ∷ after → CutThere ps before p
cut_there [] [] p after e = absurd (let b : Prim.⊥ = cc in b)
cut_there [] (q ∷ before) p after e = absurd (let b : Prim.⊥ = cc in b)
cut_there (x ∷ ps) [] p after e = record { front = []; here = x; after = ps; are = refl; place = refl; same = (let f : uncounted x ≡ p = cc in f) }
cut_there (x ∷ ps) (q ∷ before) p after e =
    let f : map uncounted ps ≡ before ++ p ∷ after = cc in
    let r = cut_there ps before p after f in
    record { front = x ∷ r.front; here = r.here; after = r.after; are = ap (λ (l : List Packet). x ∷ l) r.are; place = ap suc r.place; same = r.same }

-- packets that are equal but for their counters
there : (ps qs before : List Packet) (p : Packet) (after : List Packet) → map uncounted ps ≡ map uncounted qs → ps ≡ before ++ p ∷ after → CutThere qs (map uncounted before) (uncounted p)
there ps qs before p after e are = cut_there qs (map uncounted before) (uncounted p) (map uncounted after) (sym e ∙ ap (map uncounted) are ∙ map-append uncounted before (p ∷ after))

begins_alike : (ps qs : List Packet) (n : ℕ) (s : Sent) → map uncounted ps ≡ map uncounted qs → BeginsAt ps n s → BeginsAt qs n s
begins_alike ps qs n s e b =
    let c = there ps qs b.before b.packet b.after e b.are in
    record {
      before = c.front;
      after = c.after;
      place = c.place ∙ length-map b.before uncounted ∙ b.place;
      packet = c.here;
      are = c.are;
      pid = ap (λ (p : Packet). p.pid) c.same ∙ b.pid;
      rest = b.rest;
      front = b.front;
      next = b.next;
      piece = ap (λ (p : Packet). p.piece) c.same ∙ b.piece;
      begins = b.begins;
    }

ends_alike : (ps qs : List Packet) (n : ℕ) (s : Sent) → map uncounted ps ≡ map uncounted qs → EndsAt ps n s → EndsAt qs n s
ends_alike ps qs n s e b =
    let c = there ps qs b.before b.packet b.after e b.are in
    record {
      before = c.front;
      after = c.after;
      place = c.place ∙ length-map b.before uncounted ∙ b.place;
      packet = c.here;
      are = c.are;
      pid = ap (λ (p : Packet). p.pid) c.same ∙ b.pid;
      rest = b.rest;
      group = b.group;
      piece = ap (λ (p : Packet). p.piece) c.same ∙ b.piece;
      ends = b.ends;
    }

-- packets within an air, and those with the counters that they have there
pub stands_counted : (front ps rest : List Packet) (first last : ℕ) (s : Sent) → StandsIn (front ++ (ps ++ rest)) first last s → StandsIn (front ++ (counted front ps ++ rest)) first last s
stands_counted front ps rest first last s b =
    let behind : map uncounted (ps ++ rest) ≡ map uncounted (counted front ps ++ rest) =
    map-append uncounted ps rest ∙ ap (λ (l : List Packet). l ++ map uncounted rest) (sym (uncounted-counted front ps)) ∙ sym (map-append uncounted (counted front ps) rest) in
    let same = map-append uncounted front (ps ++ rest) ∙ ap (λ (l : List Packet). map uncounted front ++ l) behind ∙ sym (map-append uncounted front (counted front ps ++ rest)) in
    record { begins = begins_alike (front ++ (ps ++ rest)) (front ++ (counted front ps ++ rest)) first s same b.begins; ends = ends_alike (front ++ (ps ++ rest)) (front ++ (counted front ps ++ rest)) last s same b.ends }

-- ---- where a section ends

-- the rest of a section goes on from a packet on
rest_ends : (packets before after : List Packet) (pid : ℕ) (rest : List ℕ) (gs : List (List (List ℕ))) (s earlier : List ℕ) → packets ≡ before ++ (map (packet_on pid) (pieces rest gs) ++ after)
    → HaveSectionBytes rest gs → left rest gs ≡ [] → s ≡ earlier ++ rest → 0 < length rest → EndsAt packets (length before + (length rest - 1) / 184) (record { pid = pid; bytes = s })
rest_ends packets before after pid rest [] s earlier e room ended is some = absurd (let l = ap length ended in omega arith)
rest_ends packets before after pid rest ([] ∷ gs) s earlier e room ended is some =
    let p = packet_on pid (piece_of rest []) in
    go (lt_or 184 (length rest))
    (λ sent are more. rest_ends packets (before ++ p ∷ []) after pid (drop 184 rest) gs s sent (e ∙ sym (append_assoc before (p ∷ []) (map (packet_on pid) (pieces (left_by rest []) gs) ++ after))) room.1 ended are more)
  where
    others : List Packet
    others = map (packet_on pid) (pieces (left_by rest []) gs) ++ after

    go : (184 < length rest) ⊎ (length rest ≤ 184)
        → ((sent : List ℕ) → s ≡ sent ++ drop 184 rest → 0 < length (drop 184 rest) → EndsAt packets (length (before ++ packet_on pid (piece_of rest []) ∷ []) + (length (drop 184 rest) - 1) / 184) (record { pid = pid; bytes = s }))
        → EndsAt packets (length before + (length rest - 1) / 184) (record { pid = pid; bytes = s })
    go (inr here) again = record {
      before = before;
      packet = packet_on pid (piece_of rest []);
      after = others;
      place = omega arith;
      are = e;
      pid = refl;
      rest = rest;
      group = [];
      piece = refl;
      ends = inl (earlier, is, some, here);
    }
    go (inl more) again =
        let p = packet_on pid (piece_of rest []) in
        let l = length-drop 184 rest in
        let bytes : s ≡ (earlier ++ take 184 rest) ++ drop 184 rest = is ∙ ap (λ (t : List ℕ). earlier ++ t) (sym (take-append-drop 184 rest)) ∙ sym (append_assoc earlier (take 184 rest) (drop 184 rest)) in
        let r = again (earlier ++ take 184 rest) bytes (omega arith) in
        subst (λ (n : ℕ). EndsAt packets n (record { pid = pid; bytes = s }))
        (let a = length-append before (p ∷ []) in let q : length (before ++ p ∷ []) + (length (drop 184 rest) - 1) / 184 ≡ length before + (length rest - 1) / 184 = omega arith in q) r
rest_ends packets before after pid rest ((t ∷ ts) ∷ gs) s earlier e room ended is some =
    let short = room.0.0 in
    record {
      before = before;
      packet = packet_on pid (piece_of rest (t ∷ ts));
      after = map (packet_on pid) (pieces (left_by rest (t ∷ ts)) gs) ++ after;
      place = omega arith;
      are = e;
      pid = refl;
      rest = rest;
      group = t ∷ ts;
      piece = refl;
      ends = inl (earlier, is, some, omega arith);
    }

joined_next : (front : List (List ℕ)) (s : List ℕ) → length (joined (front ++ s ∷ [])) ≡ length (joined front) + length s
joined_next front s =
    ap length (flat_map-append (λ (b : List ℕ). b) front (s ∷ [])) ∙ length-append (joined front) (s ++ []) ∙ ap (λ (l : List ℕ). length (joined front) + length l) (append-nil s)

-- the end of what a packet begins
last_of : (front : List (List ℕ)) (s : List ℕ) → joined (front ++ s ∷ []) ≡ joined front ++ s
last_of front s = flat_map-append (λ (b : List ℕ). b) front (s ∷ []) ∙ ap (λ (l : List ℕ). joined front ++ l) (append-nil s)

-- the last section of a group ends in its packet or in a later one
last_ends : (packets before after : List Packet) (pid : ℕ) (rest : List ℕ) (gs : List (List (List ℕ))) (front : List (List ℕ)) (s : List ℕ)
    → packets ≡ before ++ (map (packet_on pid) (pieces rest ((front ++ s ∷ []) ∷ gs)) ++ after) → HaveSectionBytes (left_by rest (front ++ s ∷ [])) gs → left (left_by rest (front ++ s ∷ [])) gs ≡ []
    → length rest + length (joined front) < 183
    → EndsAt packets (length before + (length rest + length (joined front) + length s) / 184) (record { pid = pid; bytes = s })
last_ends packets before after pid rest gs front s e room ended first = go (lt_or 183 (length rest + length (joined front) + length s))
  where
    g : List (List ℕ)
    g = front ++ s ∷ []

    u : ℕ
    u = length rest + length (joined front)

    others : List Packet
    others = map (packet_on pid) (pieces (left_by rest g) gs) ++ after

    behind : (f : List (List ℕ)) (t : List ℕ) → left_by rest (f ++ t ∷ []) ≡ drop 183 (rest ++ joined (f ++ t ∷ []))
    behind [] t = refl
    behind (x ∷ f) t = refl

    left_is : left_by rest g ≡ drop (183 - u) s
    left_is =
        behind front s ∙ ap (λ (l : List ℕ). drop 183 (rest ++ l)) (last_of front s) ∙ ap (drop 183) (sym (append_assoc rest (joined front) s))
        ∙ drop_behind 183 (rest ++ joined front) s (omega (arith, length-append rest (joined front))) ∙ ap (λ (n : ℕ). drop (183 - n) s) (length-append rest (joined front))

    go : (183 < u + length s) ⊎ (u + length s ≤ 183) → EndsAt packets (length before + (u + length s) / 184) (record { pid = pid; bytes = s })
    go (inr here) = record {
      before = before;
      packet = packet_on pid (piece_of rest g);
      after = others;
      place = omega arith;
      are = e;
      pid = refl;
      rest = rest;
      group = g;
      piece = refl;
      ends = inr (front, [], refl, omega (arith, length-append rest (joined front)));
    }
    go (inl more) =
        let p = packet_on pid (piece_of rest g) in
        let l : length (left_by rest g) ≡ length s - (183 - u) = ap length left_is ∙ length-drop (183 - u) s in
        let bytes : s ≡ take (183 - u) s ++ left_by rest g = sym (take-append-drop (183 - u) s) ∙ ap (λ (t : List ℕ). take (183 - u) s ++ t) (sym left_is) in
        let r = rest_ends packets (before ++ p ∷ []) after pid (left_by rest g) gs s (take (183 - u) s) (e ∙ sym (append_assoc before (p ∷ []) others)) room ended bytes (omega arith) in
        subst (λ (n : ℕ). EndsAt packets n (record { pid = pid; bytes = s }))
        (let a = length-append before (p ∷ []) in let q : length (before ++ p ∷ []) + (length (left_by rest g) - 1) / 184 ≡ length before + (u + length s) / 184 = omega arith in q) r

-- ---- sections of one PID

-- sections begin and end in these packets, one by one
abbrev pub EachStands : List Packet → List (ℕ × ℕ) → List Sent → Type 0
EachStands packets [] [] = Unit {0}
EachStands packets [] (s ∷ ss) = Prim.⊥
EachStands packets (n ∷ ns) [] = Prim.⊥
EachStands packets (n ∷ ns) (s ∷ ss) = StandsIn packets n.0 n.1 s × EachStands packets ns ss

stands_append : (packets : List Packet) (ms ns : List (ℕ × ℕ)) (ss ts : List Sent) → EachStands packets ms ss → EachStands packets ns ts → EachStands packets (ms ++ ns) (ss ++ ts)
stands_append packets [] ns [] ts h k = k
stands_append packets [] ns (s ∷ ss) ts h k = absurd h
stands_append packets (m ∷ ms) ns [] ts h k = absurd h
stands_append packets (m ∷ ms) ns (s ∷ ss) ts h k = (h.0, stands_append packets ms ns ss ts h.1 k)

abbrev pub on : ℕ → List (List ℕ) → List Sent
on pid ss = map (λ (b : List ℕ). record { pid = pid; bytes = b }) ss

-- those of a group begin in its packet
group_stands : (packets before after : List Packet) (pid : ℕ) (rest : List ℕ) (gs : List (List (List ℕ))) (front behind : List (List ℕ))
    → packets ≡ before ++ (map (packet_on pid) (pieces rest ((front ++ behind) ∷ gs)) ++ after) → HaveSectionBytes (left_by rest (front ++ behind)) gs → left (left_by rest (front ++ behind)) gs ≡ []
    → Begin (length rest + length (joined front)) behind → EachStands packets (spots (length before) (length rest + length (joined front)) behind) (on pid behind)
group_stands packets before after pid rest gs front [] e room ended b = tt
group_stands packets before after pid rest gs front (s ∷ behind) e room ended b =
    let same : (front ++ s ∷ []) ++ behind ≡ front ++ s ∷ behind = append_assoc front (s ∷ []) behind in
    let f = subst (λ (g : List (List ℕ)). packets ≡ before ++ (map (packet_on pid) (pieces rest (g ∷ gs)) ++ after)) (sym same) e in
    let r = subst (λ (g : List (List ℕ)). HaveSectionBytes (left_by rest g) gs) (sym same) room in
    let n = subst (λ (g : List (List ℕ)). left (left_by rest g) gs ≡ []) (sym same) ended in
    let l : length rest + length (joined front) + length s ≡ length rest + length (joined (front ++ s ∷ [])) = omega (arith, joined_next front s) in
    let first : length rest + length (joined front) < 183 = b.0 in (
      record { begins = begins first; ends = ends behind e room ended first b.1 },
      subst (λ (u : ℕ). EachStands packets (spots (length before) u behind) (on pid behind)) (sym l) (group_stands packets before after pid rest gs (front ++ s ∷ []) behind f r n (subst (λ (n : ℕ). Begin n behind) l b.1)),
    )
  where
    begins : length rest + length (joined front) < 183 → BeginsAt packets (length before) (record { pid = pid; bytes = s })
    begins first = record {
      before = before;
      after = map (packet_on pid) (pieces (left_by rest (front ++ s ∷ behind)) gs) ++ after;
      place = refl;
      packet = packet_on pid (piece_of rest (front ++ s ∷ behind));
      are = e;
      pid = refl;
      rest = rest;
      front = front;
      next = behind;
      piece = refl;
      begins = omega (arith, length-append rest (joined front));
    }

    ends : (behind : List (List ℕ)) → packets ≡ before ++ (map (packet_on pid) (pieces rest ((front ++ s ∷ behind) ∷ gs)) ++ after) → HaveSectionBytes (left_by rest (front ++ s ∷ behind)) gs
        → left (left_by rest (front ++ s ∷ behind)) gs ≡ [] → length rest + length (joined front) < 183 → Begin (length rest + length (joined front) + length s) behind
        → EndsAt packets (length before + (length rest + length (joined front) + length s) / 184) (record { pid = pid; bytes = s })
    ends [] e room ended first b = last_ends packets before after pid rest gs front s e room ended first
    ends (t ∷ behind) e room ended first b =
        let next = b.0 in
        record {
          before = before;
          after = map (packet_on pid) (pieces (left_by rest (front ++ s ∷ t ∷ behind)) gs) ++ after;
          place = omega arith;
          packet = packet_on pid (piece_of rest (front ++ s ∷ t ∷ behind));
          are = e;
          pid = refl;
          rest = rest;
          group = front ++ s ∷ t ∷ behind;
          piece = refl;
          ends = inr (front, t ∷ behind, refl, omega (arith, length-append rest (joined front)));
        }

group_room : (rest : List ℕ) (g : List (List ℕ)) → HasSectionByte rest g → Begin (length rest + 0) g
group_room rest [] h = tt
group_room rest (s ∷ ss) h = subst (λ (n : ℕ). Begin n (s ∷ ss)) (let e : length rest ≡ length rest + 0 = omega arith in e) h

groups_stand : (packets before after : List Packet) (pid : ℕ) (rest : List ℕ) (gs : List (List (List ℕ))) → packets ≡ before ++ (map (packet_on pid) (pieces rest gs) ++ after)
    → HaveSectionBytes rest gs → left rest gs ≡ [] → EachStands packets (spots_in (length before) rest gs) (on pid (all_of gs))
groups_stand packets before after pid rest [] e h ended = tt
groups_stand packets before after pid rest (g ∷ gs) e h ended =
    let p = packet_on pid (piece_of rest g) in
    let others = map (packet_on pid) (pieces (left_by rest g) gs) ++ after in
    let here = subst (λ (u : ℕ). EachStands packets (spots (length before) u g) (on pid g)) (let z : length rest + 0 ≡ length rest = omega arith in z) (group_stands packets before after pid rest gs [] g e h.1 ended (group_room rest g h.0)) in
    let next = groups_stand packets (before ++ p ∷ []) after pid (left_by rest g) gs (e ∙ sym (append_assoc before (p ∷ []) others)) h.1 ended in
    let one : length (before ++ p ∷ []) ≡ suc (length before) = omega (arith, length-append before (p ∷ [])) in
    subst (EachStands packets (spots_in (length before) rest (g ∷ gs))) (sym (map-append (λ (b : List ℕ). record { pid = pid; bytes = b }) g (all_of gs)))
    (stands_append packets (spots (length before) (length rest) g) (spots_in (suc (length before)) (left_by rest g) gs) (on pid g) (on pid (all_of gs)) here
    (subst (λ (n : ℕ). EachStands packets (spots_in n (left_by rest g) gs) (on pid (all_of gs))) one next))

pub stretch_stands : (packets before after : List Packet) (pid : ℕ) (ss : List (List ℕ)) → HaveBytes ss → packets ≡ before ++ (packets_dense pid ss ++ after)
    → EachStands packets (places pid (begun_at (length before)) ss) (on pid ss)
stretch_stands packets before after pid ss all e =
    let are = are_packed (length (joined ss)) [] ss all (omega arith) in
    let n = length before in
    subst (λ (ns : List (ℕ × ℕ)). EachStands packets ns (on pid ss)) (stretch_at pid n ss all).starts
    (subst (λ (l : List (List ℕ)). EachStands packets (spots_in n [] (stretch ss)) (on pid l)) are.all (groups_stand packets before after pid [] (stretch ss) e are.have_room are.ended))
