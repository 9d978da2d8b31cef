-- What is left of the packets of cycles of which the last was cut.
use Rattle.std.proofs.Common.{◌≡◌, ℕ, ◌+◌, ◌-◌, ◌<◌, List, [], ◌∷◌, ◌++◌, length, take, zero, suc, refl, sym, ap, ◌∙◌, subst, inl, inr, arith, append_assoc, append-nil}
use Rattle.std.specs.Prelude.{flat_map}
use Rattle.std.specs.List.{AllByRecursion}
use Rattle.std.proofs.lemmas.Bool.{cases_lt}
use Rattle.std.proofs.lemmas.List.Concat.{flat_map-append}
use Rattle.std.proofs.Math.Seq.{take-append-add}
use Rattle.si_lists.proofs.Lists.{all_behind}
use Rattle.ts_packets.specs.Bytes.{Packet, bytes_of_packet}
use Rattle.air_model.specs.Air.{Aired, air, air_bytes}
use Rattle.air_model.proofs.Airs.{air-push}
use Rattle.journal_model.specs.declared.step.Entry.{Entry}
use Rattle.epg_follow.specs.Bridges.{IsAllButLost}
use Rattle.epg_follow.specs.Stands.{IsCutCycle, IsCutLast}

-- each of these packets has 188 bytes
abbrev pub AreWholePackets : List Packet → Type 0
AreWholePackets ps = AllByRecursion (λ (p : Packet). length (bytes_of_packet p) ≡ 188) ps

abbrev pub packet_bytes : List Packet → List ℕ
packet_bytes ps = flat_map bytes_of_packet ps

-- packets whose first bytes were taken: those that are whole, and the others
record Parted (ps : List Packet) (n : ℕ) : Type 0 where
  kept : List Packet
  lost : List Packet
  packets_are : ps ≡ kept ++ lost
  part : ℕ
  part_of_one : part < 188
  bytes : take n (packet_bytes ps) ≡ packet_bytes kept ++ take part (packet_bytes lost)

nothing_taken : (n : ℕ) → take n (let xs : List ℕ = [] in xs) ≡ []
nothing_taken zero = refl
nothing_taken (suc n) = refl

parted : (ps : List Packet) (n : ℕ) → AreWholePackets ps → Parted ps n
parted [] n whole = record { kept = []; lost = []; packets_are = refl; part = 0; part_of_one = omega arith; bytes = nothing_taken n }
parted (p ∷ ps) n whole = elim (cases_lt n 188) [
  | inl less ↦ record { kept = []; lost = p ∷ ps; packets_are = refl; part = n; part_of_one = less; bytes = refl }
  | inr more ↦
      let m = n - 188 in
      let rest = parted ps m whole.1 in
      let here = bytes_of_packet p in
      let size : n ≡ length here + m = omega (arith, whole.0, more) in
      record {
        kept = p ∷ rest.kept;
        lost = rest.lost;
        packets_are = ap (λ (l : List Packet). p ∷ l) rest.packets_are;
        part = rest.part;
        part_of_one = rest.part_of_one;
        bytes =
            ap (λ (k : ℕ). take k (here ++ packet_bytes ps)) size
            ∙ take-append-add here (packet_bytes ps) m
            ∙ ap (λ (l : List ℕ). here ++ l) rest.bytes
            ∙ sym (append_assoc here (packet_bytes rest.kept) (take rest.part (packet_bytes rest.lost)));
      }
]

cut_lost : (entries : List Entry) (cycles : List Aired) (taken : List ℕ) → AreWholePackets (air cycles) → IsCutCycle entries cycles taken → IsAllButLost entries cycles taken
cut_lost entries cycles taken whole is =
    let packets : air cycles ≡ air is.whole ++ is.cut.packets = ap air is.cycles_are ∙ air-push is.whole is.cut in
    let last = all_behind (λ (p : Packet). length (bytes_of_packet p) ≡ 188) (air is.whole) is.cut.packets (subst AreWholePackets packets whole) in
    let p = parted is.cut.packets is.count last in
    record {
      sent = air is.whole ++ p.kept;
      lost = p.lost;
      packets_are =
          packets ∙ ap (λ (l : List Packet). air is.whole ++ l) p.packets_are ∙ sym (append_assoc (air is.whole) p.kept p.lost);
      part = p.part;
      part_of_one = p.part_of_one;
      bytes =
          is.bytes ∙ ap (λ (l : List ℕ). air_bytes is.whole ++ l) p.bytes
          ∙ sym (append_assoc (air_bytes is.whole) (packet_bytes p.kept) (take p.part (packet_bytes p.lost)))
          ∙ ap (λ (l : List ℕ). l ++ take p.part (packet_bytes p.lost)) (sym (flat_map-append bytes_of_packet (air is.whole) p.kept));
      lost_are = inr (record {
        ends = is.ends;
        whole = is.whole;
        cut = is.cut;
        cycles_are = is.cycles_are;
        kept = p.kept;
        packets_are = p.packets_are;
      });
    }

-- all but the last packets of a last cycle were sent
pub all_but_lost : (entries : List Entry) (cycles : List Aired) (taken : List ℕ) → AreWholePackets (air cycles) → IsCutLast entries cycles taken → IsAllButLost entries cycles taken
all_but_lost entries cycles taken whole (inr cut) = cut_lost entries cycles taken whole cut
all_but_lost entries cycles taken whole (inl all) = record {
  sent = air cycles;
  lost = [];
  packets_are = sym (append-nil (air cycles));
  part = 0;
  part_of_one = omega arith;
  bytes = all ∙ sym (append-nil (air_bytes cycles));
  lost_are = inl refl;
}
