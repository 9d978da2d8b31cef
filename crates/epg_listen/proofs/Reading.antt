-- What a reader of packets gives of a recording.
use Rattle.std.proofs.Common.{◌≡◌, ℕ, zero, suc, ◌*◌, ◌/◌, ◌-◌, ◌<◌, List, [], ◌∷◌, ◌++◌, length, take, drop, map, slice_index, refl, sym, ap, ◌∙◌, subst, arith, append-nil, append_assoc, length-append, inr, true, false}
use Rattle.std.specs.Prelude.{Option, Some, None, Ok, Err}
use Rattle.std.proofs.lemmas.List.{take_at}
use Rattle.std.proofs.Math.Seq.{drop-append_seam}
use Rattle.std.specs.Io.KnownBytes.{Consumes, prepend_known}
use Rattle.std.proofs.KnownBytes.{prepend_known-nil}
use Rattle.packet_reader.specs.Recordings.{RecordingEnd, RecordingEnd.AtEnd, RecordingEnd.Broken, RecordingEnd.PastLimit, packet_limit, is_packet, and_packet, packets_in, recording}
use Rattle.packet_reader.specs.Reading.{PacketReading, GivesPacket, TakesPacket, Counts, bytes_left, packets_to_come, fresh}
use Rattle.packet_reader.proofs.RecordingFacts.{packet_step, broken_step, short_piece}
use Rattle.packet_reader.proofs.Giving.{given_end, given_broken, given_past}
use Rattle.packet_reader.specs.declared.stop.PacketStop.{PacketStop}
use Rattle.packet_reader.specs.declared.stop.PacketStop.TheVariants as stop
use Rattle.packet_finder.specs.Pieces.{Findings, Piece, Piece.Packet}
use Rattle.packet_finder.specs.Laws.{packets_of}
use Rattle.epg_listen.specs.Pieces.{pieces_in}
use Rattle.epg_listen.specs.Leaves.{WereTaken}
use Rattle.epg_listen.specs.Giving.{HasParted, HasRead, Gives}

abbrev Recording : Type 0
Recording = List (List ℕ) × RecordingEnd

-- ---- packets as pieces

pub packets_back : (packets : List (List ℕ)) → packets_of (map Packet packets) ≡ packets
packets_back [] = refl
packets_back (p ∷ packets) = ap (λ (l : List (List ℕ)). p ∷ l) (packets_back packets)

map_both : (xs ys : List (List ℕ)) → map Packet (xs ++ ys) ≡ map Packet xs ++ map Packet ys
map_both [] ys = refl
map_both (x ∷ xs) ys = ap (λ (l : List Piece). Packet x ∷ l) (map_both xs ys)

-- ---- bytes of which packets were given

-- one more packet was heard
more_heard : (all y x : Recording) (heard : List (List ℕ)) (p : List ℕ) → all ≡ (heard ++ y.0, y.1) → y ≡ and_packet p x → all ≡ ((heard ++ p ∷ []) ++ x.0, x.1)
more_heard all y x heard p e t =
    e ∙ ap (λ (r : Recording). let q : Recording = (heard ++ r.0, r.1) in q) t
    ∙ ap (λ (l : List (List ℕ)). let q : Recording = (l, x.1) in q) (sym (append_assoc heard (p ∷ []) x.0))

-- nothing is left
last_heard : (all y : Recording) (heard : List (List ℕ)) (end : RecordingEnd) → all ≡ (heard ++ y.0, y.1) → y ≡ ([], end) → all ≡ (heard, end)
last_heard all y heard end e t =
    e ∙ ap (λ (r : Recording). let q : Recording = (heard ++ r.0, r.1) in q) t ∙ ap (λ (l : List (List ℕ)). let q : Recording = (l, end) in q) (append-nil heard)

-- a packet in front of some bytes
packet_front : (n : ℕ) (p more : List ℕ) → length p ≡ 188 → slice_index p 0 ≡ 0x47 → packets_in (suc n) (p ++ more) ≡ and_packet p (packets_in n more)
packet_front n p more long sync =
    let front : take 188 (p ++ more) ≡ p = take_at p more 188 long in
    let rest : drop 188 (p ++ more) ≡ more = ap (λ k. drop k (p ++ more)) (sym long) ∙ drop-append_seam p more in
    let is : is_packet (take 188 (p ++ more)) ≡ true = ap is_packet front ∙ (rw (long, sync) refl) in
    packet_step n (p ++ more) is ∙ ap (λ l. and_packet l (packets_in n (drop 188 (p ++ more)))) front ∙ ap (λ l. and_packet p (packets_in n l)) rest

more_parted : (bytes done rest : List ℕ) (heard : List (List ℕ)) (n : ℕ) (p behind : List ℕ) → HasParted bytes done heard (suc n) rest → rest ≡ p ++ behind → length p ≡ 188
    → slice_index p 0 ≡ 0x47 → HasParted bytes (done ++ p) (heard ++ p ∷ []) n behind
more_parted bytes done rest heard n p behind before is long sync = record {
  parted = before.parted ∙ ap (λ l. done ++ l) is ∙ sym (append_assoc done p behind);
  size = omega (arith, before.size, long, length-append done p, length-append heard (p ∷ []));
  goes_on = λ more.
      more_heard (recording ((done ++ p) ++ more)) (packets_in (suc n) (p ++ more)) (packets_in n more) heard p
      (ap recording (append_assoc done p more) ∙ before.goes_on (p ++ more)) (packet_front n p more long sync);
}

parted_recording : (bytes done rest : List ℕ) (heard : List (List ℕ)) (n : ℕ) → HasParted bytes done heard n rest → recording bytes ≡ (heard ++ (packets_in n rest).0, (packets_in n rest).1)
parted_recording bytes done rest heard n parted = ap recording parted.parted ∙ parted.goes_on rest

-- fewer bytes than a packet has hold none
none_in_short : (n : ℕ) (bytes : List ℕ) → length bytes < 188 → (packets_in n bytes).0 ≡ []
none_in_short n [] lt = refl
none_in_short zero (b ∷ bytes) lt = refl
none_in_short (suc n) (b ∷ bytes) lt = ap (λ (r : Recording). r.0) (broken_step n (b ∷ bytes) (λ e. cc) (short_piece (b ∷ bytes) lt))

whole_pieces : (k : ℕ) (done short : List ℕ) → length done ≡ 188 * k → length short < 188 → k ≡ length (done ++ short) / 188
whole_pieces k done short size lt = omega (arith, size, lt, length-append done short)

-- what is behind the bytes that a source gave
pub left_behind : (before after : Option (List ℕ)) (held more rest : List ℕ) → prepend_known held before ≡ Some rest → Consumes before after more
    → (behind : List ℕ) × (after ≡ Some behind) × (rest ≡ (held ++ more) ++ behind)
left_behind None after held more rest e gave = cc
left_behind (Some xs) None held more rest e gave = absurd gave
left_behind (Some xs) (Some ys) held more rest e gave =
    let same : held ++ xs ≡ rest = cc in
    (ys, refl, sym same ∙ ap (λ l. held ++ l) gave ∙ sym (append_assoc held more ys))

-- what is behind those that are held
pub told_behind : (after : Option (List ℕ)) (held rest : List ℕ) → prepend_known held after ≡ Some rest → (behind : List ℕ) × (after ≡ Some behind) × (rest ≡ held ++ behind)
told_behind None held rest tells = cc
told_behind (Some ys) held rest tells = (let same : held ++ ys ≡ rest = cc in (ys, refl, sym same))

-- ---- what a reader gave

-- a reader at the front of its source
pub start_read : {S : Type 0} (left : S → Option (List ℕ)) (reader : PacketReading S) (source : S) (bytes : List ℕ) → reader ≡ fresh source → left source ≡ Some bytes → HasRead left reader bytes []
start_read left reader source bytes e tells = record {
  packets = [];
  done = [];
  rest = bytes;
  heard_are = refl;
  tells = ap (bytes_left left) e ∙ prepend_known-nil (left source) ∙ tells;
  parts = record { parted = refl; size = refl; goes_on = λ more. ap (λ k. packets_in (packet_limit - k) more) (sym none) };
  number = none;
}
  where
    none : reader.number ≡ 0
    none = ap (λ r. r.number) e

pub read_packet : {S : Type 0} (left : S → Option (List ℕ)) (before after : PacketReading S) (bytes : List ℕ) (heard : List Piece) (n : ℕ) → HasRead left before bytes heard
    → TakesPacket left before after (Ok (Some n)) → Counts before after (Ok (Some n)) → (n ≡ length (packets_of heard)) × HasRead left after bytes (heard ++ Packet after.packet ∷ [])
read_packet left before after bytes heard n has takes counts =
    let t = takes has.rest has.tells in
    let fewer : packets_to_come before ≡ suc (packets_to_come after) = omega (arith, counts.0, counts.1, counts.2) in
    let back = ap (λ (l : List Piece). length (packets_of l)) has.heard_are ∙ ap (λ (l : List (List ℕ)). length l) (packets_back has.packets) in (
      counts.0 ∙ has.number ∙ sym back,
      record {
        packets = has.packets ++ after.packet ∷ [];
        done = has.done ++ after.packet;
        rest = t.0;
        heard_are = ap (λ (l : List Piece). l ++ Packet after.packet ∷ []) has.heard_are ∙ sym (map_both has.packets (after.packet ∷ []));
        tells = t.1;
        parts = more_parted bytes has.done has.rest has.packets (packets_to_come after) after.packet t.0 (subst (λ k. HasParted bytes has.done has.packets k has.rest) fewer has.parts) t.2 counts.3 counts.4;
        number = omega (arith, counts.0, counts.1, has.number, length-append has.packets (after.packet ∷ []));
      },
    )

-- the recording stops so
read_last : {S : Type 0} (left : S → Option (List ℕ)) (before : PacketReading S) (bytes : List ℕ) (heard : List Piece) (end : RecordingEnd) (has : HasRead left before bytes heard)
    → packets_in (packets_to_come before) has.rest ≡ ([], end) → pieces_in false bytes ≡ (heard, end)
read_last left before bytes heard end has e =
    let last = last_heard (recording bytes) (packets_in (packets_to_come before) has.rest) has.packets end (parted_recording bytes has.done has.rest has.packets (packets_to_come before) has.parts) e in
    ap (λ (r : Recording). let q : Findings = (map Packet r.0, r.1) in q) last
    ∙ ap (λ (l : List Piece). let q : Findings = (l, end) in q) (sym has.heard_are)

pub read_end : {S : Type 0} (left : S → Option (List ℕ)) (before after : PacketReading S) (bytes : List ℕ) (heard : List Piece) (has : HasRead left before bytes heard)
    → GivesPacket left before after (packets_in (packets_to_come before) has.rest) (Ok None) → pieces_in false bytes ≡ (heard, AtEnd)
read_end left before after bytes heard has gives = read_last left before bytes heard AtEnd has (given_end left before after (packets_in (packets_to_come before) has.rest) gives)

pub read_stop : {S : Type 0} (left : S → Option (List ℕ)) (before after : PacketReading S) (bytes : List ℕ) (heard : List Piece) (s : PacketStop) (gave : List Piece → Type 0) (has : HasRead left before bytes heard)
    → GivesPacket left before after (packets_in (packets_to_come before) has.rest) (Err s) → TakesPacket left before after (Err s) → Counts before after (Err s)
    → Gives false bytes (left after.source) gave after.packet heard (Err s)
read_stop left before after bytes heard (stop.Broken n) gave has gives takes counts =
    let back = ap (λ (l : List Piece). length (packets_of l)) has.heard_are ∙ ap (λ (l : List (List ℕ)). length l) (packets_back has.packets) in
    (read_last left before bytes heard Broken has (given_broken left before after (packets_in (packets_to_come before) has.rest) n gives), counts.0 ∙ has.number ∙ sym back)
read_stop left before after bytes heard stop.TooLong gave has gives takes counts = read_last left before bytes heard PastLimit has (given_past left before after (packets_in (packets_to_come before) has.rest) gives)
read_stop left before after bytes heard stop.Failed gave has gives takes counts =
    let short = before.held ++ takes.0 in
    let behind = left_behind (left before.source) (left after.source) before.held takes.0 has.rest has.tells takes.1 in
    let none = ap (λ (r : Recording). r.0) (has.parts.goes_on short) ∙ ap (λ (l : List (List ℕ)). has.packets ++ l) (none_in_short (packets_to_come before) short takes.2) ∙ append-nil has.packets in (
      has.done ++ short,
      record {
        behind = behind.0;
        bytes_are = has.parts.parted ∙ ap (λ l. has.done ++ l) behind.2 ∙ sym (append_assoc has.done short behind.0);
        left_is = behind.1;
        whole = λ e. ap (λ (l : List (List ℕ)). length l) none ∙ whole_pieces (length has.packets) has.done short has.parts.size takes.2;
      },
      ap (λ (l : List (List ℕ)). map Packet l) none ∙ sym has.heard_are,
    )

-- the pieces that it gave were taken
pub read_front : {S : Type 0} (left : S → Option (List ℕ)) (reader : PacketReading S) (bytes : List ℕ) (heard : List Piece) → HasRead left reader bytes heard → WereTaken false bytes (left reader.source) heard
read_front left reader bytes heard has =
    let last = told_behind (left reader.source) reader.held has.rest has.tells in
    let all = parted_recording bytes has.done has.rest has.packets (packets_to_come reader) has.parts in
    let taken = has.parts.goes_on reader.held in
    record {
      rest = map Packet (packets_in (packets_to_come reader) has.rest).0;
      pieces_are = pieces (packets_in (packets_to_come reader) has.rest).0 (recording bytes).0 (ap (λ (r : Recording). r.0) all);
      taken = has.done ++ reader.held;
      behind = last.0;
      bytes_are = has.parts.parted ∙ ap (λ l. has.done ++ l) last.2 ∙ sym (append_assoc has.done reader.held last.0);
      left_is = last.1;
      settled = inr (map Packet (packets_in (packets_to_come reader) reader.held).0, pieces (packets_in (packets_to_come reader) reader.held).0 (recording (has.done ++ reader.held)).0 (ap (λ (r : Recording). r.0) taken));
    }
  where
    pieces : (more all : List (List ℕ)) → all ≡ has.packets ++ more → map Packet all ≡ heard ++ map Packet more
    pieces more all e = ap (λ (l : List (List ℕ)). map Packet l) e ∙ map_both has.packets more ∙ ap (λ (l : List Piece). l ++ map Packet more) (sym has.heard_are)
