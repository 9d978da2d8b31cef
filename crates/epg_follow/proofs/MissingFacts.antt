-- Few packets are missing between two that came.
use Rattle.std.proofs.Common.{◌≡◌, ℕ, ◌+◌, ◌≤◌, List, [], ◌∷◌, ◌++◌, Bool, true, false, Option, Some, None, length, map, refl, sym, ap, ◌∙◌, subst, arith, append_assoc, length-append}
use Rattle.std.specs.Prelude.{◌==◌, filter_map, if◌then◌else◌}
use Rattle.std.specs.List.{cons_option}
use Rattle.std.proofs.lemmas.List.{map-append}
use Rattle.std.proofs.lemmas.List.Elements.{filter_map-append}
use Rattle.air_model.specs.Air.{air}
use Rattle.loss_laws.specs.Thinned.{Fate, FewAreMissing, came_of, left, sent_of}
use Rattle.ts_packets.specs.Bytes.{Packet}
use Rattle.ts_packets.specs.Counting.{of_pid, piece_on}
use Rattle.loss_laws.proofs.ThinnedJournalHeard.{thinned_heard}
use Rattle.epg_follow.specs.Stands.{standing}
use Rattle.epg_follow.specs.Missing.{BridgedAirIsThinned, BridgedRunsAreHeard, fate_of, fates_over}
use Rattle.epg_follow.proofs.BridgeFacts.{air_joined}

-- ---- packets that did not come

abbrev pub missing_packet : Fate → Option Packet
missing_packet f = if f.came then None else Some f.packet

abbrev pub missing_of : List Fate → List Packet
missing_of fates = filter_map missing_packet fates

module _ (pid : ℕ) where
  abbrev count : List Packet → ℕ
  count ps = length (of_pid pid ps)

  count_more : (p : Packet) (ps : List Packet) → count (p ∷ ps) ≡ count (p ∷ []) + count ps
  count_more p ps = go (p.pid == pid)
    where
      go : (b : Bool) → length (cons_option (if b then Some p.piece else None) (of_pid pid ps)) ≡ length (cons_option (if b then Some p.piece else None) []) + count ps
      go true = omega arith
      go false = omega arith

  count_joined : (xs ys : List Packet) → count (xs ++ ys) ≡ count xs + count ys
  count_joined xs ys = ap length (filter_map-append (piece_on pid) xs ys) ∙ length-append (of_pid pid xs) (of_pid pid ys)

  -- each packet came or is missing
  count_fates : (fates : List Fate) → count (sent_of fates) ≡ count (came_of fates) + count (missing_of fates)
  count_fates [] = refl
  count_fates (f ∷ fates) = go f.came (count_fates fates)
    where
      go : (b : Bool) → count (sent_of fates) ≡ count (came_of fates) + count (missing_of fates) → count (f.packet ∷ sent_of fates)
          ≡ count (cons_option (if b then Some f.packet else None) (came_of fates)) + count (cons_option (if b then None else Some f.packet) (missing_of fates))
      go true rest = omega (arith, count_more f.packet (sent_of fates), count_more f.packet (came_of fates), rest)
      go false rest = omega (arith, count_more f.packet (sent_of fates), count_more f.packet (missing_of fates), rest)

  -- those missing in a part are missing in all
  count_part : (front part back : List Fate) → count (missing_of part) ≤ count (missing_of (front ++ (part ++ back)))
  count_part front part back =
      let one = ap count (filter_map-append missing_packet front (part ++ back)) ∙ count_joined (missing_of front) (missing_of (part ++ back)) in
      let two = ap count (filter_map-append missing_packet part back) ∙ count_joined (missing_of part) (missing_of back) in
      omega (arith, one, two)

pub few_missing : (fates : List Fate) → ((pid : ℕ) → length (of_pid pid (missing_of fates)) ≤ 14) → FewAreMissing fates
few_missing fates few before between after p q parts same none =
    let split : fates ≡ (before ++ left p ∷ []) ++ (between ++ left q ∷ after) =
    parts ∙ sym (append_assoc before (left p ∷ []) (between ++ left q ∷ after)) in
    let part = subst (λ (l : List Fate). length (of_pid p.pid (missing_of between)) ≤ length (of_pid p.pid (missing_of l))) (sym split) (count_part p.pid (before ++ left p ∷ []) between (left q ∷ after)) in
    let gone : length (of_pid p.pid (came_of between)) ≡ 0 = ap length none in
    omega (arith, count_fates p.pid between, part, gone, few p.pid)

-- ---- over a kill

sent_are : (came : Bool) (ps : List Packet) → sent_of (map (fate_of came) ps) ≡ ps
sent_are came [] = refl
sent_are came (p ∷ ps) = ap (λ (l : List Packet). p ∷ l) (sent_are came ps)

none_missing : (ps : List Packet) → missing_of (map (fate_of true) ps) ≡ []
none_missing [] = refl
none_missing (p ∷ ps) = none_missing ps

all_missing : (ps : List Packet) → missing_of (map (fate_of false) ps) ≡ ps
all_missing [] = refl
all_missing (p ∷ ps) = ap (λ (l : List Packet). p ∷ l) (all_missing ps)

over_sent : (before lost after : List Packet) → sent_of (fates_over before lost after) ≡ before ++ (lost ++ after)
over_sent before lost after =
    map-append (λ (f : Fate). f.packet) (map (fate_of true) before) (map (fate_of false) lost ++ map (fate_of true) after)
    ∙ ap (λ (l : List Packet). sent_of (map (fate_of true) before) ++ l) (map-append (λ (f : Fate). f.packet) (map (fate_of false) lost) (map (fate_of true) after))
    ∙ ap (λ (l : List Packet). l ++ (sent_of (map (fate_of false) lost) ++ sent_of (map (fate_of true) after))) (sent_are true before)
    ∙ ap (λ (l : List Packet). before ++ (l ++ sent_of (map (fate_of true) after))) (sent_are false lost)
    ∙ ap (λ (l : List Packet). before ++ (lost ++ l)) (sent_are true after)

over_missing : (before lost after : List Packet) (pid : ℕ) → length (of_pid pid (missing_of (fates_over before lost after))) ≡ length (of_pid pid lost)
over_missing before lost after pid =
    let one = ap (count pid) (filter_map-append missing_packet (map (fate_of true) before) (map (fate_of false) lost ++ map (fate_of true) after))
    ∙ count_joined pid (missing_of (map (fate_of true) before)) (missing_of (map (fate_of false) lost ++ map (fate_of true) after)) in
    let two = ap (count pid) (filter_map-append missing_packet (map (fate_of false) lost) (map (fate_of true) after))
    ∙ count_joined pid (missing_of (map (fate_of false) lost)) (missing_of (map (fate_of true) after)) in
    omega (arith, one, two, ap (count pid) (none_missing before), ap (count pid) (none_missing after), ap (count pid) (all_missing lost))

pub bridged_air_is_thinned : BridgedAirIsThinned
bridged_air_is_thinned mux before earlier pieces taken report stands more cycles is few =
    let sent = is.sent.sent in
    let lost = is.sent.lost in
    let fates = fates_over (air earlier ++ sent) lost (air cycles) in
    let packets : air ((earlier ++ stands.cycles) ++ cycles) ≡ (air earlier ++ sent) ++ (lost ++ air cycles) =
    air_joined (earlier ++ stands.cycles) cycles
    ∙ ap (λ (l : List Packet). l ++ air cycles) (air_joined earlier stands.cycles ∙ ap (λ (l : List Packet). air earlier ++ l) is.sent.packets_are ∙ sym (append_assoc (air earlier) sent lost))
    ∙ append_assoc (air earlier ++ sent) lost (air cycles) in
    record {
      all = over_sent (air earlier ++ sent) lost (air cycles) ∙ sym packets;
      few = few_missing fates (λ pid. subst (λ (n : ℕ). n ≤ 14) (sym (over_missing (air earlier ++ sent) lost (air cycles) pid)) (few pid));
    }

pub bridged_runs_are_heard : BridgedRunsAreHeard
bridged_runs_are_heard mux before earlier pieces taken report stands more cycles is few read =
    thinned_heard mux ((before ++ standing stands) ++ more) read is.legal ((earlier ++ stands.cycles) ++ cycles) is.is_air
    (fates_over (air earlier ++ is.sent.sent) is.sent.lost (air cycles))
    (bridged_air_is_thinned mux before earlier pieces taken report stands more cycles is few)
