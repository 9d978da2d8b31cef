-- Bytes in packets.
use Rattle.std.proofs.Common.{◌≡◌, ℕ, zero, suc, ◌+◌, ◌-◌, ◌/◌, ◌<◌, List, [], ◌∷◌, ◌++◌, length, take, drop, sym, ap, ◌∙◌, subst, arith, append-nil, append_assoc, Bool}
use Rattle.std.specs.Prelude.{Option, Some, None}
use Rattle.std.specs.Io.KnownBytes.{Appends, Keeps}
use Rattle.std.proofs.lemmas.List.{take_at, append_cancel_left}
use Rattle.guide_receiver.specs.Heard.{Hearing}
use Rattle.air_monitor.specs.declared.done_line.DoneLine.{DoneLine}
use Rattle.std.proofs.Math.Seq.{take-append-add}
use Rattle.air_monitor.specs.Heard.{AreInSync, HasHeard, HearsBy, HasTaken, Hears, Listening, WasHeard, Watching, WatchedOn}
use Rattle.ts_packets.specs.WholePackets.{AreWhole, whole_packets}
use Rattle.ts_packets.specs.Packets.{joined}
use Rattle.ts_packets.proofs.WholePackets.{whole_packets-joined, whole-push, joined-push, whole_packets-front, whole_packets-all}

-- some bytes more, and the packet is not yet whole
pub part_more : (past part more new : List ℕ) (listener : Listening) → HasTaken past part listener → new ≡ part ++ more → length new < 188 → HasTaken (past ++ more) new listener
part_more past part more new listener has is shorter = record {
  packets = has.packets;
  cut = ap (λ t. t ++ more) has.cut ∙ append_assoc (joined has.packets) part more ∙ ap (λ t. joined has.packets ++ t) (sym is);
  whole = has.whole;
  shorter = shorter;
  hears = has.hears;
}

-- some bytes more, and the packet is whole and heard
pub packet_more : (past part more packet rest : List ℕ) (old new : Listening) → HasTaken past part old → packet ≡ part ++ more → length packet ≡ 188 → rest ≡ []
    → ((packets : List (List ℕ)) → Hears packets old → Hears (packets ++ packet ∷ []) new) → HasTaken (past ++ more) rest new
packet_more past part more packet rest old new has is whole none heard = record {
  packets = has.packets ++ packet ∷ [];
  cut = ap (λ t. t ++ more) has.cut ∙ append_assoc (joined has.packets) part more ∙ ap (λ t. joined has.packets ++ t) (sym is)
      ∙ sym (joined-push has.packets packet) ∙ sym (append-nil (joined (has.packets ++ packet ∷ []))) ∙ ap (λ t. joined (has.packets ++ packet ∷ []) ++ t) (sym none);
  whole = whole-push has.packets packet has.whole whole;
  shorter = omega (arith, ap length none);
  hears = heard has.packets has.hears;
}

-- what was heard of the bytes that came
pub heard_of_taken : (taken part : List ℕ) (listener : Listening) → HasTaken taken part listener → HasHeard listener.join taken listener.wanting listener.receiver listener.dones
heard_of_taken taken part listener has =
    let packets : whole_packets taken ≡ has.packets = ap whole_packets has.cut ∙ whole_packets-joined has.packets part has.whole has.shorter in
    let P : List (List ℕ) → Type 0 = λ packets. AreInSync (drop listener.join packets) → HearsBy listener.wanting listener.join (drop listener.join packets) listener.receiver listener.dones in
    subst P (sym packets) has.hears.heard

-- what is filled behind a front
pub filled_more : (n k : ℕ) (front room behind : List ℕ) → length front ≡ n → length room ≡ k → take (n + k) (front ++ (room ++ behind)) ≡ front ++ room
filled_more n k front room behind of_front of_room =
    ap (λ m. take (m + k) (front ++ (room ++ behind))) (sym of_front) ∙ take-append-add front (room ++ behind) k ∙ ap (λ t. front ++ t) (take_at room behind k of_room)

-- what was kept was appended nothing
pub keeps_appends : (old new : Option (List ℕ)) → Keeps old new → Appends old new []
keeps_appends None new keeps = tt
keeps_appends (Some xs) None keeps = absurd keeps
keeps_appends (Some xs) (Some ys) keeps = keeps ∙ sym (append-nil xs)

-- a monitor that was opened, and is closed
pub was_heard : {A : Type 0} (written : A → Option (List ℕ)) (is_same : A → A → Type 0) (opened closed : Watching A) → HasTaken [] opened.part opened.listener → WatchedOn written is_same opened closed
    → WasHeard opened.listener.join (written opened.air) (written closed.air) closed.listener.wanting closed.listener.receiver closed.listener.dones
was_heard written is_same opened closed has on = record {
  taken = on.more;
  gave = on.gave;
  heard = subst (λ j. HasHeard j on.more closed.listener.wanting closed.listener.receiver closed.listener.dones) on.same_join (heard_of_taken on.more closed.part closed.listener (on.taken [] has));
}

sync_take : (n : ℕ) (ps : List (List ℕ)) → AreInSync ps → AreInSync (take n ps)
sync_take zero ps all = tt
sync_take (suc n) [] all = tt
sync_take (suc n) (p ∷ ps) all = (all.0, sync_take n ps all.1)

sync_drop : (n : ℕ) (ps : List (List ℕ)) → AreInSync ps → AreInSync (drop n ps)
sync_drop zero ps all = all
sync_drop (suc n) [] all = tt
sync_drop (suc n) (p ∷ ps) all = sync_drop n ps all.1

-- what was heard of an air of packets that begin with the sync_byte: all of it
pub heard_all : (join : ℕ) (taken : List ℕ) (ps : List (List ℕ)) (wanting : Bool) (receiver : Hearing) (dones : List DoneLine) → AreWhole ps → AreInSync ps → taken ≡ joined ps
    → HasHeard join taken wanting receiver dones → HearsBy wanting join (drop join ps) receiver dones
heard_all join taken ps wanting receiver dones whole sync is heard =
    let packets : whole_packets taken ≡ ps = ap whole_packets is ∙ whole_packets-all ps whole in
    let P : List (List ℕ) → Type 0 = λ ps. AreInSync (drop join ps) → HearsBy wanting join (drop join ps) receiver dones in
    subst P packets heard (sync_drop join ps sync)

-- and of a front of it: the packets that are whole
pub heard_front : (join n : ℕ) (taken : List ℕ) (ps : List (List ℕ)) (wanting : Bool) (receiver : Hearing) (dones : List DoneLine) → AreWhole ps → AreInSync ps → taken ≡ take n (joined ps)
    → HasHeard join taken wanting receiver dones → HearsBy wanting join (drop join (take (n / 188) ps)) receiver dones
heard_front join n taken ps wanting receiver dones whole sync is heard =
    let packets : whole_packets taken ≡ take (n / 188) ps = ap whole_packets is ∙ whole_packets-front ps n whole in
    let P : List (List ℕ) → Type 0 = λ ps. AreInSync (drop join ps) → HearsBy wanting join (drop join ps) receiver dones in
    subst P packets heard (sync_drop join (take (n / 188) ps) (sync_take (n / 188) ps sync))

-- where the air tells its bytes, what it took is known
pub told_taken : (before now : Option (List ℕ)) (bytes a b : List ℕ) → before ≡ Some bytes → Appends before now a → Appends before now b → a ≡ b
told_taken None now bytes a b told p q = cc
told_taken (Some xs) None bytes a b told p q = absurd p
told_taken (Some xs) (Some ys) bytes a b told p q = append_cancel_left xs a b (sym p ∙ q)
