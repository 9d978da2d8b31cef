-- What is heard of packets that are written.
use Rattle.std.proofs.Common.{◌≡◌, ℕ, ◌+◌, ◌<◌, List, [], ◌∷◌, ◌++◌, Bool, true, false, ◌==◌, Option, Some, None, length, refl, sym, ap, ap₂, ◌∙◌, subst, arith, take, drop, map, append_assoc, length-append, take-append-drop, length-take, length-drop}
use Rattle.std.specs.Prelude.{if◌then◌else◌, option_map}
use Rattle.std.specs.List.{cons_option, AllByRecursion}
use Rattle.std.proofs.lemmas.List.Elements.{filter_map-append}
use Rattle.std.proofs.lemmas.Bool.{eqb-true}
use Rattle.si_lists.proofs.Lists.{all_front, all_behind}
use Rattle.ts_packets.specs.Packets.{Piece, pieces, left, HaveSectionBytes, all_of}
use Rattle.ts_packets.specs.Bytes.{Packet, HasFields, bytes_of_packet}
use Rattle.ts_packets.specs.Counting.{Load, load_on, loads_on, of_pid, Count}
use Rattle.ts_packets.proofs.Headers.{reads-written, pid_in-bytes}
use Rattle.ts_demux.specs.Hearing.{heard, IsSection}
use Rattle.ts_demux.specs.Arrivals.{Arrival, arrival_by, arrival_on, arrivals_on, heard_of, Arrival.Came}
use Rattle.ts_demux.specs.Sections.{sections_on}
use Rattle.ts_demux.specs.Laws.{ended, GoOn, PartGoesOn, PartIsHeard, CarriedIsHeard}
use Rattle.ts_demux.proofs.Hear.{heard_of-counting}
use Rattle.ts_demux.proofs.Heard.{AllSections, heard-pieces}
use Rattle.ts_demux.proofs.Windows.{length-pieces, left-append, heard_part}
use Rattle.ts_demux.proofs.Adding.{elsewhere}

-- a written packet arrives on its PID
pub arrives : (pid : ℕ) → pid < 8191 → (p : Packet) → HasFields p → arrival_on pid (bytes_of_packet p) ≡ option_map Came (load_on pid p)
arrives pid small p h = go (p.pid == pid) refl
  where
    load : Load
    load = record { counter = p.counter; piece = p.piece }

    go : (b : Bool) → (p.pid == pid) ≡ b → arrival_on pid (bytes_of_packet p) ≡ option_map Came (load_on pid p)
    go true e =
        let lt : p.pid < 8191 = subst (λ (n : ℕ). n < 8191) (sym (eqb-true p.pid pid e)) small in
        ap (arrival_by pid (bytes_of_packet p)) (reads-written p lt h.counter)
        ∙ ap (λ (b : Bool). if b then Some (Came load) else None) e
        ∙ sym (ap (λ (b : Bool). option_map Came (if b then Some load else None)) e)
    go false e =
        elsewhere pid (bytes_of_packet p) (ap (λ (n : ℕ). n == pid) (pid_in-bytes p h.pid) ∙ e)
        ∙ sym (ap (λ (b : Bool). option_map Came (if b then Some load else None)) e)

cons-mapped : (o : Option Load) (ls : List Load) → cons_option (option_map Came o) (map Came ls) ≡ map Came (cons_option o ls)
cons-mapped None ls = refl
cons-mapped (Some l) ls = refl

pub arrive : (pid : ℕ) → pid < 8191 → (ps : List Packet) → AllByRecursion HasFields ps → arrivals_on pid (map bytes_of_packet ps) ≡ map Came (loads_on pid ps)
arrive pid small [] h = refl
arrive pid small (p ∷ ps) h =
    ap₂ (λ (o : Option Arrival) (xs : List Arrival). cons_option o xs) (arrives pid small p h.0) (arrive pid small ps h.1) ∙ cons-mapped (load_on pid p) (loads_on pid ps)

pub pieces_of_loads : (pid : ℕ) (ps : List Packet) → map (λ (l : Load). l.piece) (loads_on pid ps) ≡ of_pid pid ps
pieces_of_loads pid [] = refl
pieces_of_loads pid (p ∷ ps) = go (p.pid == pid) (pieces_of_loads pid ps)
  where
    go : (b : Bool) → map (λ (l : Load). l.piece) (loads_on pid ps) ≡ of_pid pid ps
        → map (λ (l : Load). l.piece) (cons_option (if b then Some (record { counter = p.counter; piece = p.piece }) else None) (loads_on pid ps)) ≡ cons_option (if b then Some p.piece else None) (of_pid pid ps)
    go true e = ap (λ (x : List Piece). p.piece ∷ x) e
    go false e = e

-- Of written packets whose counters go on, what is heard is what is heard of one stretch.
pub heard_written : (pid : ℕ) → pid < 8191 → (ps : List Packet) → GoOn pid ps → sections_on pid (map bytes_of_packet ps) ≡ heard (of_pid pid ps)
heard_written pid small ps h =
    ap heard_of (arrive pid small ps h.fields) ∙ heard_of-counting h.counted.0 (loads_on pid ps) h.counted.1 ∙ ap heard (pieces_of_loads pid ps)

pub each_group : (groups : List (List (List ℕ))) → AllByRecursion IsSection (all_of groups) → AllSections groups
each_group [] h = tt
each_group (g ∷ groups) h = (all_front IsSection g (all_of groups) h, each_group groups (all_behind IsSection g (all_of groups) h))

pub carried_is_heard : CarriedIsHeard
carried_is_heard pid small packets sections carries each on =
    let all = each_group carries.groups (subst (AllByRecursion IsSection) carries.sections each) in
    heard_written pid small packets on ∙ ap heard carries.are ∙ heard-pieces [] carries.groups carries.have_room all
    ∙ ap (λ (rest : List ℕ). ended rest (all_of carries.groups)) carries.ended ∙ sym carries.sections

Count-front : (n : ℕ) (xs ys : List Load) → Count n (xs ++ ys) → Count n xs
Count-front n [] ys h = tt
Count-front n (x ∷ xs) ys h = (h.0, Count-front (1 + n) xs ys h.1)

Count-behind : (n : ℕ) (xs ys : List Load) → Count n (xs ++ ys) → (m : ℕ) × Count m ys
Count-behind n [] ys h = (n, h)
Count-behind n (x ∷ xs) ys h = Count-behind (1 + n) xs ys h.1

pub part_goes_on : PartGoesOn
part_goes_on pid before part after h =
    let cut : loads_on pid (before ++ (part ++ after)) ≡ loads_on pid before ++ (loads_on pid part ++ loads_on pid after) =
    filter_map-append (load_on pid) before (part ++ after) ∙ ap (λ (x : List Load). loads_on pid before ++ x) (filter_map-append (load_on pid) part after) in
    let behind = Count-behind h.counted.0 (loads_on pid before) (loads_on pid part ++ loads_on pid after) (subst (Count h.counted.0) cut h.counted.1) in
    record {
      fields = all_front HasFields part after (all_behind HasFields before (part ++ after) h.fields);
      counted = (behind.0, Count-front behind.0 (loads_on pid part) (loads_on pid after) behind.1);
    }

pub part_is_heard : PartIsHeard
part_is_heard pid small groups room each before after part are on =
    let A = before in
    let B = of_pid pid part in
    let C = after in
    let end = length A + length B in
    let front = take end groups in
    let one = take (length A) front in
    let two = drop (length A) front in
    let three = drop end groups in
    let parts : A ++ (B ++ C) ≡ pieces [] groups = are in
    let ends : end ≡ length A + length B = refl in
    let all : length A + (length B + length C) ≡ length groups =
    sym (length-append A (B ++ C) ∙ ap (λ (n : ℕ). length A + n) (length-append B C)) ∙ ap length parts ∙ length-pieces [] groups in
    let split : groups ≡ one ++ (two ++ three) =
    sym (sym (append_assoc one two three) ∙ ap (λ (x : List (List (List ℕ))). x ++ three) (take-append-drop (length A) front) ∙ take-append-drop end groups) in
    let fronts : length front ≡ end = omega (arith, length-take end groups, ends, all) in
    let first : length A ≡ length one = omega (arith, length-take (length A) front, fronts, ends) in
    let second : length B ≡ length two = omega (arith, length-drop (length A) front, fronts, ends) in
    let r = heard_part one two three A B C (subst (HaveSectionBytes []) split room) (subst AllSections split (each_group groups each))
    (parts ∙ ap (pieces []) split) first second in
    let rest : r.0 ≡ left [] front = r.2 ∙ sym (left-append [] one two) ∙ ap (left []) (take-append-drop (length A) front) in
    heard_written pid small part on ∙ r.1 ∙ ap (λ (x : List ℕ). ended x (all_of two)) rest
