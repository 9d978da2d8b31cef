-- Laws of a strict receiver.
use Rattle.std.specs.Prelude.{◌≡◌, ℕ, List, [], ◌∷◌, ◌++◌, flat_map, false, None}
use Rattle.section_codec.specs.declared.table.Key.{Key}
use Rattle.ts_demux.specs.Breaks.{is_lost}
use Rattle.sub_collect.specs.Marks.{run_over, completions_over}
use Rattle.guide_receiver.specs.Dones.{dones_by}
use Rattle.guide_receiver.specs.Guides.{guide_of}
use Rattle.strict_receiver.specs.Strict.{taken_of, lost_by, strict_dones_by, strict_guide_of}
use Rattle.strict_receiver.specs.Earlier.{taken_after}

-- None of these packets is a break on its PID.
abbrev pub HasNoBreak : List (List ℕ) → Type 0
HasNoBreak packets =
    (past rest : List (List ℕ)) (packet : List ℕ) → packets ≡ past ++ packet ∷ rest → is_lost past packet ≡ false

-- Of these packets a strict receiver reports no loss, and it completes and shows what any receiver does.
pub record IsHeardAlike (packets : List (List ℕ)) : Type 0 where
  pub lost : (past rest : List (List ℕ)) (packet : List ℕ) → packets ≡ past ++ packet ∷ rest → lost_by past packet ≡ None
  pub dones : (past rest : List (List ℕ)) (packet : List ℕ) → packets ≡ past ++ packet ∷ rest
      → strict_dones_by past packet ≡ dones_by past packet
  pub guide : strict_guide_of packets ≡ guide_of packets

-- Packets without a break are heard alike.
abbrev pub UnbrokenIsHeardAlike : Type 0
UnbrokenIsHeardAlike = (packets : List (List ℕ)) → HasNoBreak packets → IsHeardAlike packets

-- Recordings are heard apart: of each key those are completed that each recording completes by itself, and the sections that
-- are held are those of the last recording.
pub record AreHeardApart (earlier : List (List (List ℕ))) (packets : List (List ℕ)) : Type 0 where
  pub completions : (k : Key) → completions_over k (taken_after earlier packets)
      ≡ flat_map (λ recording. completions_over k (taken_of recording)) (earlier ++ packets ∷ [])
  pub run : (k : Key) → run_over k (taken_after earlier packets) ≡ run_over k (taken_of packets)

abbrev pub RecordingsAreHeardApart : Type 0
RecordingsAreHeardApart = (earlier : List (List (List ℕ))) (packets : List (List ℕ)) → AreHeardApart earlier packets
