-- What a finder of packets gives of a recording.
use Rattle.std.proofs.Common.{◌≡◌, ℕ, List, [], ◌∷◌, ◌++◌, length, refl, sym, ap, ◌∙◌, arith, append-nil, append_assoc, length-append, inl, inr, ◌⊎◌, Bool, true, false}
use Rattle.std.specs.Prelude.{Option, Some, None, Ok, Err}
use Rattle.std.specs.Io.KnownBytes.{IsAtEnd}
use Rattle.std.proofs.KnownBytes.{prepend_known-nil}
use Rattle.si_causes.proofs.TextFacts.{nothing_left}
use Rattle.packet_reader.specs.Recordings.{RecordingEnd, RecordingEnd.AtEnd, RecordingEnd.Broken, RecordingEnd.PastLimit}
use Rattle.packet_finder.specs.Pieces.{Findings, Piece, Piece.Packet, Piece.Junk, and_piece, found, found_so_far}
use Rattle.packet_finder.specs.Laws.{packets_of}
use Rattle.packet_finder.specs.Finding.{Finding, GivesPiece, TakesPiece, Counted, piece_of, bytes_left, fresh, to_find}
use Rattle.packet_finder.specs.declared.stop.FindStop.TheVariants as find
use Rattle.packet_finder.specs.declared.found.Found.{Found}
use Rattle.packet_finder.specs.declared.found.Found.TheVariants as was
use Rattle.epg_listen.specs.Pieces.{end_of, or_broken, pieces_in, pieces_taken}
use Rattle.epg_listen.specs.Leaves.{WasTaken, WereTaken}
use Rattle.epg_listen.specs.Giving.{HasFound, IsNumbered, has_piece}
use Rattle.epg_listen.proofs.Reading.{left_behind, told_behind}

false-true : false ≡ true → ⊥
false-true e = cc

-- ---- what a call gives

given_piece : {S : Type 0} (left : S → Option (List ℕ)) (after : Finding S) (y : Findings) (x : Found) → GivesPiece left after y (Ok (Some x))
    → (rest : List ℕ) × (bytes_left left after ≡ Some rest) × (y ≡ and_piece (piece_of after.packet x) (to_find true after rest))
given_piece left after (Packet p ∷ pieces, end) (was.Packet n) (is, (rest, told, then)) =
    (rest, told, ap (λ (f : Findings). and_piece (Packet p) f) (sym then) ∙ ap (λ q. and_piece (Packet q) (to_find true after rest)) (sym is))
given_piece left after (Junk c ∷ pieces, end) (was.Junk n) (is, (rest, told, then)) =
    (rest, told, ap (λ (f : Findings). and_piece (Junk c) f) (sym then) ∙ ap (λ q. and_piece (Junk q) (to_find true after rest)) (sym is))
given_piece left after (Junk c ∷ pieces, end) (was.Packet n) gives = absurd gives
given_piece left after (Packet p ∷ pieces, end) (was.Junk n) gives = absurd gives
given_piece left after ([], AtEnd) (was.Packet n) gives = absurd gives
given_piece left after ([], Broken) (was.Packet n) gives = absurd gives
given_piece left after ([], PastLimit) (was.Packet n) gives = absurd gives
given_piece left after ([], AtEnd) (was.Junk n) gives = absurd gives
given_piece left after ([], Broken) (was.Junk n) gives = absurd gives
given_piece left after ([], PastLimit) (was.Junk n) gives = absurd gives

given_end : {S : Type 0} (left : S → Option (List ℕ)) (after : Finding S) (y : Findings) → GivesPiece left after y (Ok None) → y ≡ ([], AtEnd)
given_end left after ([], AtEnd) gives = refl
given_end left after ([], Broken) gives = absurd gives
given_end left after ([], PastLimit) gives = absurd gives
given_end left after (Packet p ∷ pieces, end) gives = absurd gives
given_end left after (Junk c ∷ pieces, end) gives = absurd gives

given_past : {S : Type 0} (left : S → Option (List ℕ)) (after : Finding S) (y : Findings) → GivesPiece left after y (Err find.TooLong) → y ≡ ([], PastLimit)
given_past left after ([], AtEnd) gives = absurd gives
given_past left after ([], Broken) gives = absurd gives
given_past left after ([], PastLimit) gives = refl
given_past left after (Packet p ∷ pieces, end) gives = absurd gives
given_past left after (Junk c ∷ pieces, end) gives = absurd gives

-- one piece more was heard
more_found : (all y x : Findings) (heard : List Piece) (p : Piece) → all ≡ (heard ++ y.0, y.1) → y ≡ and_piece p x → all ≡ ((heard ++ p ∷ []) ++ x.0, x.1)
more_found all y x heard p e t =
    e ∙ ap (λ (r : Findings). let q : Findings = (heard ++ r.0, r.1) in q) t
    ∙ ap (λ (l : List Piece). let q : Findings = (l, x.1) in q) (sym (append_assoc heard (p ∷ []) x.0))

-- nothing is left
last_found : (all y : Findings) (heard : List Piece) (end : RecordingEnd) → all ≡ (heard ++ y.0, y.1) → y ≡ ([], end) → all ≡ (heard, end)
last_found all y heard end e t =
    e ∙ ap (λ (r : Findings). let q : Findings = (heard ++ r.0, r.1) in q) t ∙ ap (λ (l : List Piece). let q : Findings = (l, end) in q) (append-nil heard)

-- ---- what a finder gave

pub start_found : {S : Type 0} (left : S → Option (List ℕ)) (source : S) (bytes : List ℕ) → left source ≡ Some bytes → HasFound left (fresh source) bytes []
start_found left source bytes tells = record {
  done = [];
  rest = bytes;
  tells = prepend_known-nil (left source) ∙ tells;
  parted = refl;
  found_are = refl;
  settled = λ going more. refl;
  at_end = λ e. absurd (false-true e);
  number = refl;
}

pub packets_push : (heard : List Piece) (p : Piece) → packets_of (heard ++ p ∷ []) ≡ packets_of heard ++ packets_of (p ∷ [])
packets_push [] (Packet q) = refl
packets_push [] (Junk c) = refl
packets_push (Packet h ∷ heard) p = ap (λ (l : List (List ℕ)). h ∷ l) (packets_push heard p)
packets_push (Junk c ∷ heard) p = packets_push heard p

numbered : {S : Type 0} (before after : Finding S) (heard : List Piece) (x : Found) → before.number ≡ length (packets_of heard) → Counted before after (Ok (Some x))
    → IsNumbered heard x × (after.number ≡ length (packets_of (heard ++ piece_of after.packet x ∷ [])))
numbered before after heard (was.Packet n) number counted =
    let push = ap (λ (l : List (List ℕ)). length l) (packets_push heard (Packet after.packet)) in
    (counted.0 ∙ number, omega (arith, counted.0, counted.1, number, push, length-append (packets_of heard) (after.packet ∷ [])))
numbered before after heard (was.Junk n) number counted =
    (tt, counted.1 ∙ number ∙ sym (ap (λ (l : List (List ℕ)). length l) (packets_push heard (Junk n) ∙ append-nil (packets_of heard))))

pub found_piece : {S : Type 0} (left : S → Option (List ℕ)) (before after : Finding S) (bytes : List ℕ) (heard : List Piece) (x : Found) (has : HasFound left before bytes heard)
    → GivesPiece left after (to_find true before has.rest) (Ok (Some x)) → TakesPiece left before after (Ok (Some x)) → Counted before after (Ok (Some x))
    → (before.ended ≡ true → after.ended ≡ true) → (after.ended ≡ true → IsAtEnd (left after.source))
    → IsNumbered heard x × HasFound left after bytes (heard ++ piece_of after.packet x ∷ [])
found_piece left before after bytes heard x has gives (more, taken, consumes, cut, is_taken, settles) counted stays ended =
    let piece = piece_of after.packet x in
    let given = given_piece left after (to_find true before has.rest) x gives in
    let behind = left_behind (left before.source) (left after.source) before.held more has.rest has.tells consumes in
    let last = told_behind (left after.source) after.held given.0 given.1 in
    let same : behind.0 ≡ last.0 = one behind.0 last.0 (sym behind.1 ∙ last.1) in
    let number = numbered before after heard x has.number counted in (
      number.0,
      record {
        done = has.done ++ taken;
        rest = given.0;
        tells = given.1;
        parted = has.parted ∙ ap (λ l. has.done ++ l) (behind.2 ∙ ap (λ l. l ++ behind.0) cut ∙ append_assoc taken after.held behind.0 ∙ ap (λ l. taken ++ (after.held ++ l)) same ∙ ap (λ l. taken ++ l) (sym last.2)) ∙ sym (append_assoc has.done taken given.0);
        found_are = more_found (found bytes) (to_find true before has.rest) (to_find true after given.0) heard piece has.found_are given.2;
        settled = λ going rest. settled (before_going going) (settles going) rest;
        at_end = ended;
        number = number.1;
      },
    )
  where
    one : (xs ys : List ℕ) → Some xs ≡ Some ys → xs ≡ ys
    one xs ys e = cc

    before_going : after.ended ≡ false → before.ended ≡ false
    before_going going = of before.ended refl
      where
        of : (e : Bool) → before.ended ≡ e → before.ended ≡ false
        of false e = e
        of true e = absurd (false-true (sym going ∙ stays e))

    settled : before.ended ≡ false → ((behind : List ℕ) → to_find false before (taken ++ (after.held ++ behind)) ≡ and_piece (piece_of after.packet x) (to_find false after (after.held ++ behind)))
        → (rest : List ℕ) → found_so_far ((has.done ++ taken) ++ (after.held ++ rest)) ≡ (heard ++ piece_of after.packet x ∷ []) ++ (to_find false after (after.held ++ rest)).0
    settled going settles rest =
        let b : before.held ++ (more ++ rest) ≡ taken ++ (after.held ++ rest) = sym (append_assoc before.held more rest) ∙ ap (λ l. l ++ rest) cut ∙ append_assoc taken after.held rest in
        ap found_so_far (append_assoc has.done taken (after.held ++ rest) ∙ ap (λ l. has.done ++ l) (sym b))
        ∙ has.settled going (more ++ rest)
        ∙ ap (λ l. heard ++ (to_find false before l).0) b
        ∙ ap (λ (f : Findings). heard ++ f.0) (settles rest)
        ∙ sym (append_assoc heard (piece_of after.packet x ∷ []) (to_find false after (after.held ++ rest)).0)

-- ---- how the recording stops

pub found_end : {S : Type 0} (left : S → Option (List ℕ)) (before after : Finding S) (bytes : List ℕ) (heard : List Piece) (has : HasFound left before bytes heard)
    → GivesPiece left after (to_find true before has.rest) (Ok None) → pieces_in true bytes ≡ (heard, or_broken heard (packets_of heard))
found_end left before after bytes heard has gives =
    ap (λ (f : Findings). let q : Findings = (f.0, end_of f) in q)
    (last_found (found bytes) (to_find true before has.rest) heard AtEnd has.found_are (given_end left after (to_find true before has.rest) gives))

pub found_past : {S : Type 0} (left : S → Option (List ℕ)) (before after : Finding S) (bytes : List ℕ) (heard : List Piece) (has : HasFound left before bytes heard)
    → GivesPiece left after (to_find true before has.rest) (Err find.TooLong) → pieces_in true bytes ≡ (heard, PastLimit)
found_past left before after bytes heard has gives =
    ap (λ (f : Findings). let q : Findings = (f.0, end_of f) in q)
    (last_found (found bytes) (to_find true before has.rest) heard PastLimit has.found_are (given_past left after (to_find true before has.rest) gives))

-- a recording with a piece and no packet
pub none_found : (heard : List Piece) (n : ℕ) → has_piece heard ≡ true → n ≡ 0 → n ≡ length (packets_of heard) → or_broken heard (packets_of heard) ≡ Broken
none_found [] n some zero number = absurd (false-true some)
none_found (p ∷ heard) n some zero number = of (packets_of (p ∷ heard)) (sym number ∙ zero)
  where
    of : (packets : List (List ℕ)) → length packets ≡ 0 → or_broken (p ∷ heard) packets ≡ Broken
    of [] e = refl
    of (q ∷ packets) e = absurd (omega (arith, e))

pub some_found : (heard : List Piece) (n : ℕ) → ((has_piece heard ≡ true) × (n ≡ 0) → ⊥) → n ≡ length (packets_of heard) → or_broken heard (packets_of heard) ≡ AtEnd
some_found [] n not_none number = refl
some_found (p ∷ heard) n not_none number = of (packets_of (p ∷ heard)) number
  where
    of : (packets : List (List ℕ)) → n ≡ length packets → or_broken (p ∷ heard) packets ≡ AtEnd
    of [] e = absurd (not_none (refl, e))
    of (q ∷ packets) e = refl

-- a read failed
pub found_failed : {S : Type 0} (left : S → Option (List ℕ)) (before after : Finding S) (bytes : List ℕ) (heard : List Piece) → HasFound left before bytes heard
    → TakesPiece left before after (Err find.Failed) → (before.ended ≡ true → after.ended ≡ true)
    → (taken : List ℕ) × WasTaken true bytes (left after.source) taken × (pieces_taken true taken ≡ heard)
found_failed left before after bytes heard has (more, consumes, none, going) stays =
    let behind = left_behind (left before.source) (left after.source) before.held more has.rest has.tells consumes in (
      has.done ++ (before.held ++ more),
      record {
        behind = behind.0;
        bytes_are = has.parted ∙ ap (λ l. has.done ++ l) behind.2 ∙ sym (append_assoc has.done (before.held ++ more) behind.0);
        left_is = behind.1;
        whole = λ e. absurd (false-true (sym e));
      },
      has.settled (before_going before.ended refl) more ∙ ap (λ (l : List Piece). heard ++ l) none ∙ append-nil heard,
    )
  where
    before_going : (e : Bool) → before.ended ≡ e → before.ended ≡ false
    before_going false e = e
    before_going true e = absurd (false-true (sym going ∙ stays e))

-- the pieces that it gave were taken
pub found_front : {S : Type 0} (left : S → Option (List ℕ)) (finder : Finding S) (bytes : List ℕ) (heard : List Piece) → HasFound left finder bytes heard → WereTaken true bytes (left finder.source) heard
found_front left finder bytes heard has =
    let last = told_behind (left finder.source) finder.held has.rest has.tells in
    record {
      rest = (to_find true finder has.rest).0;
      pieces_are = ap (λ (f : Findings). f.0) has.found_are;
      taken = has.done ++ finder.held;
      behind = last.0;
      bytes_are = has.parted ∙ ap (λ l. has.done ++ l) last.2 ∙ sym (append_assoc has.done finder.held last.0);
      left_is = last.1;
      settled = of last.0 last.1 finder.ended refl;
    }
  where
    of : (behind : List ℕ) → left finder.source ≡ Some behind → (e : Bool) → finder.ended ≡ e → (behind ≡ []) ⊎ ((more : List Piece) × (pieces_taken true (has.done ++ finder.held) ≡ heard ++ more))
    of behind is true e = inl (nothing_left (left finder.source) behind is (has.at_end e))
    of behind is false e = inr ((to_find false finder (finder.held ++ [])).0, ap (λ l. found_so_far (has.done ++ l)) (sym (append-nil finder.held)) ∙ has.settled e [])

-- one piece was given at least
pub some_given : (heard : List Piece) (p : Piece) → true ≡ has_piece (heard ++ p ∷ [])
some_given [] p = refl
some_given (q ∷ heard) p = refl
