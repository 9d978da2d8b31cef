-- Packets without a break, as a strict receiver hears them and as any receiver does.
use Rattle.std.proofs.Common.{◌≡◌, ℕ, List, [], ◌∷◌, ◌++◌, Bool, false, Some, None, refl, sym, ap, ap₂, ◌∙◌, subst, append_assoc, append-nil}
use Rattle.std.specs.Prelude.{if◌then◌else◌, map}
use Rattle.ts_packets.specs.Bytes.{pid_in}
use Rattle.ts_demux.specs.Breaks.{is_lost}
use Rattle.sub_collect.specs.Marks.{Taken, Taken.Forgot, all_took, dones_over}
use Rattle.guide_receiver.specs.Dones.{counted_heard, done_key}
use Rattle.guide_screen.specs.Screen.{heard_of}
use Rattle.guide_receiver.specs.Guides.{guide_over}
use Rattle.guide_receiver.specs.Heard.{took_by}
use Rattle.guide_receiver.proofs.Over.{took-push, dones-by, view-free}
use Rattle.strict_receiver.specs.Strict.{marks_by, taken_of}
use Rattle.strict_receiver.specs.Laws.{HasNoBreak, UnbrokenIsHeardAlike}
use Rattle.strict_receiver.proofs.Losing.{taken-push}

unmarked : (past : List (List ℕ)) (packet : List ℕ) → is_lost past packet ≡ false → marks_by past packet ≡ []
unmarked past packet e = ap (λ (b : Bool). if b then Forgot (pid_in packet) ∷ [] else []) e

-- no mark is made
abbrev IsUnmarked : List (List ℕ) → Type 0
IsUnmarked past = taken_of past ≡ all_took (counted_heard past)

one_more : (past : List (List ℕ)) (packet : List ℕ) → is_lost past packet ≡ false → IsUnmarked past → IsUnmarked (past ++ packet ∷ [])
one_more past packet e is =
    sym (taken-push past packet)
    ∙ ap (λ (l : List Taken). l ++ took_by past packet) (ap (λ (l : List Taken). taken_of past ++ l) (unmarked past packet e) ∙ append-nil (taken_of past) ∙ is)
    ∙ took-push past packet

all_unmarked : (past packets : List (List ℕ))
    → ((front rest : List (List ℕ)) (packet : List ℕ) → packets ≡ front ++ packet ∷ rest → is_lost (past ++ front) packet ≡ false) → IsUnmarked past → IsUnmarked (past ++ packets)
all_unmarked past [] none is = subst IsUnmarked (sym (append-nil past)) is
all_unmarked past (p ∷ ps) none is =
    subst IsUnmarked (append_assoc past (p ∷ []) ps)
    (all_unmarked (past ++ p ∷ []) ps
    (λ front rest packet cut. subst (λ (l : List (List ℕ)). is_lost l packet ≡ false) (sym (append_assoc past (p ∷ []) front)) (none (p ∷ front) rest packet (ap (λ (l : List (List ℕ)). p ∷ l) cut)))
    (one_more past p (subst (λ (l : List (List ℕ)). is_lost l p ≡ false) (append-nil past) (none [] ps p refl)) is))

unbroken_front : (packets past rest : List (List ℕ)) (packet : List ℕ) → packets ≡ past ++ packet ∷ rest → HasNoBreak packets → HasNoBreak past
unbroken_front packets past rest packet cut none = λ front more one e.
    none front (more ++ packet ∷ rest) one (cut ∙ ap (λ (l : List (List ℕ)). l ++ packet ∷ rest) e ∙ append_assoc front (one ∷ more) (packet ∷ rest))

pub unbroken_alike : UnbrokenIsHeardAlike
unbroken_alike packets none = record {
  lost = λ past rest packet cut. ap (λ (b : Bool). if b then Some (pid_in packet) else None) (none past rest packet cut);
  dones = λ past rest packet cut.
      ap₂ (λ (taken now : List Taken). map done_key (dones_over taken now)) (all_unmarked [] past (unbroken_front packets past rest packet cut none) refl)
      (ap (λ (l : List Taken). l ++ took_by past packet) (unmarked past packet (none past rest packet cut)))
      ∙ dones-by past packet;
  guide = ap (guide_over packets) (all_unmarked [] packets none refl) ∙ ap heard_of (view-free packets);
}
