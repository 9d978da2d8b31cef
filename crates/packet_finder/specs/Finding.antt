-- What `next` of a finder of packets does.
use Rattle.std.specs.Prelude.{◌≡◌, ◌≢◌, ℕ, ◌+◌, ◌-◌, ◌<◌, List, [], ◌∷◌, ◌++◌, true, Bool, false, length, slice_index, Option, Some, None, Ok, Err, Result}
use Rattle.std.specs.Io.KnownBytes.{Consumes, prepend_known}
use Rattle.si_causes.specs.Causes.{Rose}
use Rattle.packet_reader.specs.Recordings.{RecordingEnd.AtEnd, RecordingEnd.PastLimit, packet_limit}
use Rattle.packet_finder.specs.Pieces.{Piece, Piece.Packet, Piece.Junk, Findings, and_piece, found_in}
use Rattle.packet_finder.specs.declared.stop.FindStop.{FindStop}
use Rattle.packet_finder.specs.declared.stop.FindStop.TheVariants as stop
use Rattle.packet_finder.specs.declared.found.Found.{Found}
use Rattle.packet_finder.specs.declared.found.Found.TheVariants as was

-- a finder of packets over a source
pub record Finding (S : Type 0) : Type 0 where
  pub source : S
  -- bytes that the source gave and that stand in no piece yet
  pub held : List ℕ
  -- how many packets were handed out
  pub number : ℕ
  -- the last piece, where it was a packet
  pub packet : List ℕ
  -- how many bytes stand behind each packet, where sync holds
  pub tail : Option ℕ
  -- whether the last piece was bytes passed over
  pub passed : Bool
  -- whether the source told its end
  pub ended : Bool
  -- why there are no more
  pub stop : Option FindStop

-- a finder that has read nothing
abbrev pub fresh : {S : Type 0} → S → Finding S
fresh source = record { source = source; held = []; number = 0; packet = []; tail = None; passed = false; ended = false; stop = None }

-- the bytes that a finder has still to give pieces of, where the source tells them
abbrev pub bytes_left : {S : Type 0} → (S → Option (List ℕ)) → Finding S → Option (List ℕ)
bytes_left left finder = prepend_known finder.held (left finder.source)

-- what a finder finds in these bytes: in all that are left (`ended`), or in those that have come
abbrev pub to_find : {S : Type 0} → Bool → Finding S → List ℕ → Findings
to_find ended finder bytes = found_in ended (packet_limit - finder.number) finder.tail bytes

-- the pieces are still to be found
abbrev pub LeavesPieces : {S : Type 0} → (S → Option (List ℕ)) → Finding S → Findings → Type 0
LeavesPieces left new pieces = (rest : List ℕ) × (bytes_left left new ≡ Some rest) × (to_find true new rest ≡ pieces)

-- What a call gives of the pieces to be found in told bytes: the first of them, and the others are left; or the stop. A read that failed
-- gives nothing of them.
abbrev pub GivesPiece : {S : Type 0} → (S → Option (List ℕ)) → Finding S → Findings → Result (Option Found) FindStop → Type 0
GivesPiece left new (Packet packet ∷ pieces, end) (Ok (Some (was.Packet n))) = (new.packet ≡ packet) × LeavesPieces left new (pieces, end)
GivesPiece left new (Junk count ∷ pieces, end) (Ok (Some (was.Junk n))) = (n ≡ count) × LeavesPieces left new (pieces, end)
GivesPiece left new ([], AtEnd) (Ok None) = bytes_left left new ≡ Some []
GivesPiece left new ([], PastLimit) (Err stop.TooLong) = Unit {0}
GivesPiece left new pieces (Err stop.Failed) = Unit {0}
GivesPiece left new pieces result = ⊥

-- the piece that was found
abbrev pub piece_of : List ℕ → Found → Piece
piece_of packet (was.Packet n) = Packet packet
piece_of packet (was.Junk n) = Junk n

-- A piece stands last of the bytes that were taken: a packet behind the tail of the one before, or all that was passed over.
abbrev pub IsTaken : List ℕ → Found → List ℕ → Type 0
IsTaken packet (was.Packet n) taken = (tail : List ℕ) × (taken ≡ tail ++ packet)
IsTaken packet (was.Junk n) taken = n ≡ length taken

-- What a call takes, also where the source does not tell its bytes: what it gave in this call stands behind those that were held. A piece is
-- taken from their front, and it is found there whatever comes behind. A read that failed: nothing is found in what has come.
abbrev pub TakesPiece : {S : Type 0} → (S → Option (List ℕ)) → Finding S → Finding S → Result (Option Found) FindStop → Type 0
TakesPiece left old new (Ok (Some piece)) =
    (more : List ℕ) × (taken : List ℕ) × Consumes (left old.source) (left new.source) more × (old.held ++ more ≡ taken ++ new.held)
    × IsTaken new.packet piece taken
    × (new.ended ≡ false → (behind : List ℕ)
    → to_find false old (taken ++ (new.held ++ behind)) ≡ and_piece (piece_of new.packet piece) (to_find false new (new.held ++ behind)))
TakesPiece left old new (Err stop.Failed) =
    (more : List ℕ) × Consumes (left old.source) (left new.source) more × ((to_find false old (old.held ++ more)).0 ≡ []) × (new.ended ≡ false)
TakesPiece left old new result = Unit {0}

-- What the calls tell of the finder alone: packets are counted from 0, and each is one; bytes passed over are counted, and then a packet comes
-- or the end.
abbrev pub Counted : {S : Type 0} → Finding S → Finding S → Result (Option Found) FindStop → Type 0
Counted old new (Ok (Some (was.Packet n))) = (n ≡ old.number) × (new.number ≡ n + 1) × (n < packet_limit) × (length new.packet ≡ 188) × (slice_index new.packet 0 ≡ 0x47)
Counted old new (Ok (Some (was.Junk n))) = (0 < n) × (new.number ≡ old.number) × (old.passed ≡ false) × (new.passed ≡ true)
Counted old new (Ok None) = (new.number ≡ old.number) × (new.ended ≡ true) × (new.held ≡ [])
Counted old new (Err s) = new.number ≡ old.number

-- why a call gives no piece, but for the end
abbrev pub stop_of : Result (Option Found) FindStop → Option FindStop
stop_of (Ok piece) = None
stop_of (Err s) = Some s

-- Once the source told its end it is left alone.
abbrev pub StaysEnded : {S : Type 0} → Finding S → Finding S → Type 0
StaysEnded old new = old.ended ≡ true → (new.ended ≡ true) × (new.source ≡ old.source)

-- a piece is found in the bytes that are held
abbrev pub HoldsPiece : {S : Type 0} → Finding S → Type 0
HoldsPiece old = (to_find old.ended old old.held).0 ≢ []

-- a read that failed raised the count
abbrev pub HasCause : {T : Type 0} → ℕ → ℕ → Result T FindStop → Type 0
HasCause before now (Err stop.Failed) = Rose before now
HasCause before now result = Unit {0}

-- a call met no fault, but where it answers `Failed`: the count is as it was
abbrev pub IsQuietUnlessFailed : {T : Type 0} → ℕ → ℕ → Result T FindStop → Type 0
IsQuietUnlessFailed before now (Err stop.Failed) = Unit {0}
IsQuietUnlessFailed before now result = now ≡ before
