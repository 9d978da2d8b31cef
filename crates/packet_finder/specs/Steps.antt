-- The steps by which a piece is found.
use Rattle.std.specs.Prelude.{◌≡◌, ◌⊎◌, ℕ, ◌+◌, ◌<◌, ◌≤◌, List, [], ◌++◌, true, Bool, false, length, take, drop, unwrap_or, Option, Some, None, Ok, Err, Result, is_some}
use Rattle.std.specs.Io.KnownBytes.{Consumes}
use Rattle.packet_reader.specs.Recordings.{RecordingEnd.AtEnd, RecordingEnd.PastLimit, is_packet, packet_limit}
use Rattle.packet_finder.specs.Pieces.{and_piece, before_row, row_length, junk_limit, needed, next_place, tail_here}
use Rattle.packet_finder.specs.Finding.{Finding, IsTaken, piece_of, to_find}
use Rattle.packet_finder.specs.declared.stop.FindStop.{FindStop}
use Rattle.packet_finder.specs.declared.stop.FindStop.TheVariants as stop
use Rattle.packet_finder.specs.declared.found.Found.{Found}

-- what may still stand behind the bytes of a source: nothing where it told its end
abbrev pub MayFollow : Bool → List ℕ → Type 0
MayFollow ended behind = ended ≡ true → behind ≡ []

-- No row begins in the first of these bytes, whatever comes behind them all.
abbrev pub AreBeforeRow : Bool → List ℕ → List ℕ → Type 0
AreBeforeRow ended passed held = (behind : List ℕ) → MayFollow ended behind → before_row (passed ++ (held ++ behind)) ≡ length passed + before_row (held ++ behind)

-- a row begins here, and it is judged; or the source ended
abbrev pub IsAtRow : Bool → List ℕ → Type 0
IsAtRow ended held = ((is_some (row_length held) ≡ true) × (ended ≡ false → 409 ≤ length held)) ⊎ ((ended ≡ true) × (held ≡ []))

-- where the bytes passed over end
abbrev pub PassedTo : Bool → List ℕ → List ℕ → Result ℕ FindStop → Type 0
PassedTo ended passed held (Ok n) = (n ≡ length passed) × (n ≤ junk_limit) × IsAtRow ended held
PassedTo ended passed held (Err stop.TooLong) = junk_limit < length passed
PassedTo ended passed held (Err stop.Failed) = (ended ≡ false) × (length held < 409)

-- The source gave some bytes behind those that were held, none where it told its end before; and those up to the first row were passed over.
pub record PassesOver (left_old left_new : Option (List ℕ)) (ended_old ended_new : Bool) (held_old held_new : List ℕ) (result : Result ℕ FindStop) : Type 0 where
  pub more : List ℕ
  pub passed : List ℕ
  pub gave : Consumes left_old left_new more
  pub none : MayFollow ended_old more
  pub stays : ended_old ≡ true → ended_new ≡ true
  pub parted : held_old ++ more ≡ passed ++ held_new
  pub no_row : AreBeforeRow ended_new passed held_new
  pub passed_to : PassedTo ended_new passed held_new result

-- what may be found of these bytes: all that are left, or those that have come
abbrev pub MayEnd : Bool → Bool → List ℕ → Type 0
MayEnd ended all behind = ended ≡ true → (all ≡ true) × (behind ≡ [])

-- What is found, whatever comes behind.
abbrev pub Finds : {S : Type 0} → Finding S → Finding S → List ℕ → Result (Option Found) FindStop → Type 0
Finds old new more (Ok (Some piece)) =
    (taken : List ℕ) × (old.held ++ more ≡ taken ++ new.held) × IsTaken new.packet piece taken
    × ((all : Bool) (behind : List ℕ) → MayEnd new.ended all behind
    → to_find all old (taken ++ (new.held ++ behind)) ≡ and_piece (piece_of new.packet piece) (to_find all new (new.held ++ behind)))
Finds old new more (Ok None) = to_find true old (old.held ++ more) ≡ ([], AtEnd)
Finds old new more (Err stop.TooLong) = (behind : List ℕ) → MayFollow new.ended behind → to_find true old ((old.held ++ more) ++ behind) ≡ ([], PastLimit)
Finds old new more (Err stop.Failed) = ((to_find false old (old.held ++ more)).0 ≡ []) × (new.ended ≡ false)

-- the same of what the source gave
abbrev pub FindsOn : {S : Type 0} → (S → Option (List ℕ)) → Finding S → Finding S → Result (Option Found) FindStop → Type 0
FindsOn left old new result = (more : List ℕ) × Consumes (left old.source) (left new.source) more × Finds old new more result

-- the first row that is held can be judged
abbrev pub HoldsRow : Bool → List ℕ → Type 0
HoldsRow ended held = (ended ≡ true) ⊎ (409 ≤ length (drop (before_row held) held))

-- the packet that is the first of what is held, handed out
abbrev pub handed_out : {S : Type 0} → Finding S → Finding S
handed_out old = record old {
  held = drop 188 old.held;
  packet = take 188 old.held;
  number = old.number + 1;
  tail = Some (unwrap_or old.tail (tail_here old.held));
  passed = false;
}

-- The next place is judged, and has no packet.
pub record LostSync {S : Type 0} (old : Finding S) : Type 0 where
  pub enough : old.ended ≡ false → needed old.tail ≤ length old.held
  pub some : unwrap_or old.tail 0 < length old.held
  pub none : is_packet (take 188 (next_place old.tail old.held)) ≡ false
  pub room : old.number < packet_limit
  pub first : old.passed ≡ false
