-- What the packets of bursts carry.
use Rattle.std.proofs.Common.{◌≡◌, ℕ, zero, suc, ◌<◌, List, [], ◌∷◌, ◌++◌, Bool, Some, None, length, refl, sym, ap, ◌∙◌, subst₂, arith}
use Rattle.std.specs.Prelude.{if◌then◌else◌, replicate, filter_map}
use Rattle.std.specs.List.{cons_option}
use Rattle.std.proofs.lemmas.Bool.{ne_eqb}
use Rattle.std.proofs.lemmas.List.Elements.{filter_map-append}
use Rattle.si_lists.proofs.Lists.{all_front, all_behind}
use Rattle.ts_packets.specs.Packets.{Piece, Carries}
use Rattle.ts_packets.specs.Counting.{of_pid}
use Rattle.ts_packets.proofs.Carrying.{Carries-none, Carries-append}
use Rattle.ts_packets.proofs.Stamps.{of_pid-append}
use Rattle.air_model.specs.Air.{Sent, sent_on, null_piece}
use Rattle.air_model.specs.Making.{each_dense}
use Rattle.air_model.proofs.Dense.{HaveSome, Carries-each_dense}
use Rattle.air_model.specs.Bursts.{Burst, null_packet, burst_packets, paced_packets, sent_in}

-- null packets are on no other PID
no_nulls : (pid : ℕ) → pid < 8191 → (n : ℕ) → of_pid pid (replicate n null_packet) ≡ []
no_nulls pid lt zero = refl
no_nulls pid lt (suc n) =
    ap (λ (b : Bool). cons_option (if b then Some null_piece else None) (of_pid pid (replicate n null_packet))) (ne_eqb 8191 pid (λ e. omega arith)) ∙ no_nulls pid lt n

burst_on : (pid : ℕ) → pid < 8191 → (b : Burst) → of_pid pid (burst_packets b) ≡ of_pid pid (each_dense b.sections)
burst_on pid lt b = of_pid-append pid (replicate b.nulls null_packet) (each_dense b.sections) ∙ ap (λ (l : List Piece). l ++ of_pid pid (each_dense b.sections)) (no_nulls pid lt b.nulls)

pub bursts_carry : (pid : ℕ) → pid < 8191 → (bursts : List Burst) → HaveSome (sent_in bursts) → Carries (of_pid pid (paced_packets bursts)) (filter_map (sent_on pid) (sent_in bursts))
bursts_carry pid lt [] some = Carries-none
bursts_carry pid lt (b ∷ bursts) some =
    let rest = sent_in bursts in
    let own = Carries-each_dense pid b.sections (all_front (λ (s : Sent). 0 < length s.bytes) b.sections rest some) in
    let later = bursts_carry pid lt bursts (all_behind (λ (s : Sent). 0 < length s.bytes) b.sections rest some) in
    subst₂ Carries (sym (of_pid-append pid (burst_packets b) (paced_packets bursts) ∙ ap (λ (l : List Piece). l ++ of_pid pid (paced_packets bursts)) (burst_on pid lt b)))
    (sym (filter_map-append (sent_on pid) b.sections rest))
    (Carries-append (of_pid pid (each_dense b.sections)) (of_pid pid (paced_packets bursts)) (filter_map (sent_on pid) b.sections) (filter_map (sent_on pid) rest) own later)
