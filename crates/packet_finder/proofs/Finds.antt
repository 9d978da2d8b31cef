-- What a call finds, from its steps.
use Rattle.std.proofs.Common.{◌≡◌, ◌≢◌, ℕ, zero, suc, ◌+◌, ◌-◌, ◌<◌, ◌≤◌, nat_le, nat_lt, Bool, true, false, List, [], ◌∷◌, ◌++◌, length, take, drop, refl, sym, ap, subst, ◌∙◌, arith, append-nil, append_assoc, length-append, length-take-le, inl, inr}
use Rattle.std.specs.Prelude.{is_some, Some, None, Ok, Err, Option, Result, unwrap_or}
use Rattle.std.proofs.lemmas.List.{take-append-drop, take-append-le}
use Rattle.std.proofs.lemmas.Bool.Decides.{nat_tests, leb_tells}
use Rattle.std.specs.Io.KnownBytes.{IsAtEnd, prepend_known}
use Rattle.si_causes.proofs.TextFacts.{nothing_left}
use Rattle.packet_reader.specs.Recordings.{is_packet, packet_limit, RecordingEnd.AtEnd, RecordingEnd.Broken, RecordingEnd.PastLimit}
use Rattle.packet_reader.specs.Reading.{Gathers}
use Rattle.packet_reader.proofs.RecordingFacts.{is_long, begins, told_behind}
use Rattle.packet_finder.specs.Pieces.{Piece.Packet, Piece.Junk, Findings, and_piece, and_junk, needed, next_place, tail_here, row_length, before_row, found_in, BeginsOrEnds}
use Rattle.packet_finder.specs.Finding.{Finding, GivesPiece, TakesPiece, Counted, HoldsPiece, bytes_left, piece_of, to_find}
use Rattle.packet_finder.specs.Steps.{MayEnd, PassesOver, HoldsRow, Finds, FindsOn, LostSync, IsAtRow, handed_out}
use Rattle.packet_finder.specs.declared.stop.FindStop.{FindStop}
use Rattle.packet_finder.specs.declared.stop.FindStop.TheVariants as stop
use Rattle.packet_finder.specs.declared.found.Found.{Found}
use Rattle.packet_finder.specs.declared.found.Found.TheVariants as was
use Rattle.packet_finder.proofs.RowFacts.{begins_packet}
use Rattle.packet_finder.proofs.Passing.{consumes_more}
use Rattle.packet_finder.proofs.Steps.{IsJudged, Seeks, found_over, found_past, packet_found, found_behind, too_many_passed, none_settled, none_held, judged_over, at_judged}

false-true : false ≡ true → ⊥
false-true e = cc

-- nothing is handed out
pub none_handed : (n : ℕ) (held : List ℕ) → n ≤ length held → take n held ≡ [] → n ≡ 0
none_handed n held le none = let size = ap length none in omega (arith, le, size, length-take-le n held le)

one_less : (n : ℕ) → n < packet_limit → packet_limit - n ≡ suc (packet_limit - (n + 1))
one_less n lt = omega (arith, lt)

-- ---- from a place that is judged and has no packet

judged_of : {S : Type 0} (old : Finding S) → LostSync old → IsJudged old.ended old.tail old.held
judged_of old lost = record { enough = lost.enough; some = lost.some }

seeks_of : {S : Type 0} (old : Finding S) (a b : Option (List ℕ)) (ended : Bool) (rest : List ℕ) (r : Result ℕ FindStop) → LostSync old → (p : PassesOver a b old.ended ended old.held rest r)
    → Seeks old.ended ended old.tail old.held p.more p.passed rest
seeks_of old a b ended rest r lost p = record { judged = judged_of old lost; lost = lost.none; none = p.none; stays = p.stays; parted = p.parted; no_row = p.no_row }

pub seek_stop : {S : Type 0} (left : S → Option (List ℕ)) (old new : Finding S) (s : FindStop) → LostSync old → PassesOver (left old.source) (left new.source) old.ended new.ended old.held new.held (Err s) → FindsOn left old new (Err s)
seek_stop left old new stop.TooLong lost p =
    let s = seeks_of old (left old.source) (left new.source) new.ended new.held (Err stop.TooLong) lost p in (
      p.more,
      p.gave,
      λ behind may.
          ap (λ l. to_find true old (l ++ behind)) p.parted ∙ ap (to_find true old) (append_assoc p.passed new.held behind)
          ∙ ap (λ n. found_in true n old.tail (p.passed ++ (new.held ++ behind))) (one_less old.number lost.room)
          ∙ too_many_passed old.ended new.ended (packet_limit - (old.number + 1)) old.tail old.held p.more p.passed new.held behind s p.passed_to may,
    )
seek_stop left old new stop.Failed lost p =
    let s = seeks_of old (left old.source) (left new.source) new.ended new.held (Err stop.Failed) lost p in
    let going = p.passed_to.0 in (
      p.more,
      p.gave,
      (
        ap (λ l. (to_find false old l).0) p.parted
            ∙ ap (λ n. (found_in false n old.tail (p.passed ++ new.held)).0) (one_less old.number lost.room)
            ∙ none_settled old.ended (packet_limit - (old.number + 1)) old.tail old.held p.more p.passed new.held (subst (λ e. Seeks old.ended e old.tail old.held p.more p.passed new.held) going s) p.passed_to.1,
        going,
      ),
    )

some_junk : (k : ℕ) (found : Findings) → k ≢ 0 → and_junk k found ≡ and_piece (Junk k) found
some_junk zero found some = absurd (some refl)
some_junk (suc k) found some = refl

pub seek_junk : {S : Type 0} (left : S → Option (List ℕ)) (old new : Finding S) (k : ℕ) → LostSync old → PassesOver (left old.source) (left new.source) old.ended new.ended old.held new.held (Ok k) → k ≢ 0
    → new.number ≡ old.number → new.tail ≡ None → FindsOn left old new (Ok (Some (was.Junk k)))
seek_junk left old new k lost p some number tail =
    let s = seeks_of old (left old.source) (left new.source) new.ended new.held (Ok k) lost p in
    let size = p.passed_to.0 in
    let n = packet_limit - (old.number + 1) in
    let room = one_less old.number lost.room in (
      p.more,
      p.gave,
      (
        p.passed,
        p.parted,
        size,
        λ all behind may.
            ap (λ m. found_in all m old.tail (p.passed ++ (new.held ++ behind))) room
            ∙ found_behind old.ended new.ended all n old.tail old.held p.more p.passed new.held behind s p.passed_to.2 (let le = p.passed_to.1 in omega (arith, le, size)) may
            ∙ ap (λ m. and_junk m (found_in all (suc n) None (new.held ++ behind))) (sym size)
            ∙ some_junk k (found_in all (suc n) None (new.held ++ behind)) some
            ∙ ap (λ (t : Option ℕ). and_piece (Junk k) (found_in all (suc n) t (new.held ++ behind))) (sym tail)
            ∙ ap (λ m. and_piece (Junk k) (found_in all m new.tail (new.held ++ behind))) (sym room ∙ ap (λ m. packet_limit - m) (sym number)),
      ),
    )

-- a row begins at once
row_at_once : {S : Type 0} (old : Finding S) (a b : Option (List ℕ)) (ended : Bool) (rest : List ℕ) → LostSync old → (p : PassesOver a b old.ended ended old.held rest (Ok 0)) → (p.passed ≡ []) × (is_some (row_length rest) ≡ true) × (ended ≡ false → 409 ≤ length rest)
row_at_once old a b ended rest lost p = (none p.passed p.passed_to.0, (of p.passed_to.2).0, (of p.passed_to.2).1)
  where
    none : (l : List ℕ) → 0 ≡ length l → l ≡ []
    none [] e = refl
    none (b ∷ l) e = absurd (omega (arith, e))

    of : IsAtRow ended rest → (is_some (row_length rest) ≡ true) × (ended ≡ false → 409 ≤ length rest)
    of (inl row) = row
    of (inr (over, empty)) = absurd (let size = ap length p.parted in let none = ap length empty in let some = lost.some in let zero = p.passed_to.0 in omega (arith, size, none, some, zero, length-append old.held p.more, length-append p.passed rest))

pub packet_at_once : {S : Type 0} (old : Finding S) (a b : Option (List ℕ)) (ended : Bool) (rest : List ℕ) → LostSync old → PassesOver a b old.ended ended old.held rest (Ok 0) → is_packet (take 188 rest) ≡ true
packet_at_once old a b ended rest lost p = begins_packet rest (row_at_once old a b ended rest lost p).1

pub seek_packet : {S : Type 0} (left : S → Option (List ℕ)) (old mid : Finding S) (number : ℕ) → LostSync old → PassesOver (left old.source) (left mid.source) old.ended mid.ended old.held mid.held (Ok 0)
    → mid.number ≡ old.number → mid.tail ≡ None → FindsOn left old (handed_out mid) (Ok (Some (was.Packet number)))
seek_packet left old mid number lost p same tail =
    let s = seeks_of old (left old.source) (left mid.source) mid.ended mid.held (Ok 0) lost p in
    let row = row_at_once old (left old.source) (left mid.source) mid.ended mid.held lost p in
    let n = packet_limit - (old.number + 1) in
    let judged = at_judged mid.ended mid.held row.1 row.2 in
    let is = begins_packet mid.held row.1 in
    let front = take-append-drop 188 mid.held in (
      p.more,
      p.gave,
      (
        take 188 mid.held,
        p.parted ∙ ap (λ l. l ++ mid.held) row.0 ∙ sym front,
        ([], refl),
        λ all behind may.
            let bytes : take 188 mid.held ++ (drop 188 mid.held ++ behind) ≡ p.passed ++ (mid.held ++ behind) =
            sym (append_assoc (take 188 mid.held) (drop 188 mid.held) behind) ∙ ap (λ l. l ++ behind) front ∙ ap (λ l. l ++ (mid.held ++ behind)) (sym row.0) in
            ap (λ l. found_in all (packet_limit - old.number) old.tail l) bytes
            ∙ ap (λ m. found_in all m old.tail (p.passed ++ (mid.held ++ behind))) (one_less old.number lost.room)
            ∙ found_behind old.ended mid.ended all n old.tail old.held p.more p.passed mid.held behind s p.passed_to.2 (let size = p.passed_to.0 in omega (arith, size)) may
            ∙ ap (λ m. and_junk m (found_in all (suc n) None (mid.held ++ behind))) (sym p.passed_to.0)
            ∙ packet_found mid.ended all n None mid.held behind judged may is
            ∙ ap (λ m. and_piece (Packet (take 188 mid.held)) (found_in all (packet_limit - (m + 1)) (Some (tail_here mid.held)) (drop 188 mid.held ++ behind))) (sym same)
            ∙ ap (λ (t : Option ℕ). and_piece (Packet (take 188 mid.held)) (found_in all (packet_limit - (mid.number + 1)) (Some (unwrap_or t (tail_here mid.held))) (drop 188 mid.held ++ behind))) (sym tail),
      ),
    )

pub row_or_end : (ended : Bool) (held : List ℕ) → IsAtRow ended held → BeginsOrEnds ended held
row_or_end ended held (inl row) = inl (begins_packet held row.0)
row_or_end ended held (inr over) = inr over

-- where a piece is held, a row is
pub row_held : {S : Type 0} (old : Finding S) → LostSync old → HoldsPiece old → HoldsRow old.ended old.held
row_held old lost holds = of old.ended refl
  where
    of : (e : Bool) → old.ended ≡ e → HoldsRow old.ended old.held
    of true e = inl e
    of false e = elim (leb_tells 409 (length (drop (before_row old.held) old.held))) [
      | inl enough ↦ inr enough.1
      | inr few ↦ absurd (holds (
          ap (λ a. (found_in a (packet_limit - old.number) old.tail old.held).0) e ∙ ap (λ n. (found_in false n old.tail old.held).0) (one_less old.number lost.room)
          ∙ none_held (packet_limit - (old.number + 1)) old.tail old.held (subst (λ a. IsJudged a old.tail old.held) e (judged_of old lost)) lost.none few.1))
    ]

-- ---- from a place that is to be judged

pub counted_packet : {S : Type 0} (old mid : Finding S) (number : ℕ) → number ≡ old.number → mid.number ≡ old.number → old.number < packet_limit → is_packet (take 188 mid.held) ≡ true → Counted old (handed_out mid) (Ok (Some (was.Packet number)))
counted_packet old mid number is same room packet =
    (is, ap (λ n. n + 1) (same ∙ sym is), omega (arith, is, room), length-take-le 188 mid.held (is_long mid.held packet), begins mid.held packet)

-- what stands behind the bytes that were held
gathered : {S : Type 0} (left : S → Option (List ℕ)) (old new : Finding S) (held : List ℕ) → Gathers (left old.source) (left new.source) old.held held → (r : Result (Option Found) FindStop)
    → ((more : List ℕ) → held ≡ old.held ++ more → Finds old new more r) → FindsOn left old new r
gathered left old new held gathers r finds = (gathers.0, gathers.2, finds gathers.0 gathers.1)

-- the source ended, and no byte is left but for a tail
pub find_end : {S : Type 0} (left : S → Option (List ℕ)) (old new : Finding S) (held : List ℕ) → Gathers (left old.source) (left new.source) old.held held → length held ≤ unwrap_or old.tail 0 → FindsOn left old new (Ok None)
find_end left old new held gathers few =
    let over : nat_le (length held) (unwrap_or old.tail 0) ≡ true = grind (arith, nat_tests, few) in
    (gathers.0, gathers.2, ap (to_find true old) (sym gathers.1) ∙ found_over true (packet_limit - old.number) old.tail held over)

-- too few bytes had come when a read failed
pub find_failed : {S : Type 0} (left : S → Option (List ℕ)) (old new : Finding S) (held : List ℕ) → Gathers (left old.source) (left new.source) old.held held → length held < needed old.tail → new.ended ≡ false → FindsOn left old new (Err stop.Failed)
find_failed left old new held gathers few going =
    let over : nat_lt (length held) (needed old.tail) ≡ true = grind (arith, nat_tests, few) in
    (gathers.0, gathers.2, (ap (λ l. (to_find false old l).0) (sym gathers.1) ∙ ap (λ (f : Findings). f.0) (found_over false (packet_limit - old.number) old.tail held over), going))

-- no packet may come any more
pub find_past : {S : Type 0} (left : S → Option (List ℕ)) (old new : Finding S) (held : List ℕ) → Gathers (left old.source) (left new.source) old.held held → IsJudged new.ended old.tail held → old.number ≡ packet_limit → FindsOn left old new (Err stop.TooLong)
find_past left old new held gathers judged number =
    let none : packet_limit - old.number ≡ 0 = omega (arith, number) in (
      gathers.0,
      gathers.2,
      λ behind may.
          ap (λ l. to_find true old (l ++ behind)) (sym gathers.1) ∙ ap (λ n. found_in true n old.tail (held ++ behind)) none
          ∙ found_past true old.tail (held ++ behind) (judged_over new.ended true old.tail held behind judged (λ e. (refl, may e))),
    )

same_tail : (tail : Option ℕ) (held : List ℕ) → unwrap_or tail (tail_here (next_place tail held)) ≡ unwrap_or tail (tail_here held)
same_tail None held = refl
same_tail (Some t) held = refl

-- a packet in sync
pub find_packet : {S : Type 0} (left : S → Option (List ℕ)) (old mid : Finding S) (held : List ℕ) (number : ℕ) → Gathers (left old.source) (left mid.source) old.held held → IsJudged mid.ended old.tail held
    → is_packet (take 188 (next_place old.tail held)) ≡ true → old.number < packet_limit → mid.held ≡ next_place old.tail held → mid.number ≡ old.number → mid.tail ≡ old.tail → FindsOn left old (handed_out mid) (Ok (Some (was.Packet number)))
find_packet left old mid held number gathers judged is room place same tail =
    let skip = unwrap_or old.tail 0 in
    let next = next_place old.tail held in
    let n = packet_limit - (old.number + 1) in
    let parts : (take skip held ++ take 188 next) ++ drop 188 next ≡ held = append_assoc (take skip held) (take 188 next) (drop 188 next) ∙ ap (λ l. take skip held ++ l) (take-append-drop 188 next) ∙ take-append-drop skip held in
    let result : (l : List ℕ) (t : Option ℕ) (m : ℕ) → l ≡ next → t ≡ old.tail → m ≡ old.number → (all : Bool) (behind : List ℕ) → MayEnd mid.ended all behind
    → found_in all (packet_limit - old.number) old.tail ((take skip held ++ take 188 next) ++ (drop 188 l ++ behind)) ≡ and_piece (Packet (take 188 l)) (found_in all (packet_limit - (m + 1)) (Some (unwrap_or t (tail_here l))) (drop 188 l ++ behind)) =
    λ l t m is_place is_tail is_number all behind may.
    let bytes : (take skip held ++ take 188 next) ++ (drop 188 next ++ behind) ≡ held ++ behind = sym (append_assoc (take skip held ++ take 188 next) (drop 188 next) behind) ∙ ap (λ k. k ++ behind) parts in
    rw (is_place, is_tail, is_number)
    (ap (found_in all (packet_limit - old.number) old.tail) bytes ∙ ap (λ k. found_in all k old.tail (held ++ behind)) (one_less old.number room)
    ∙ packet_found mid.ended all n old.tail held behind judged may is
    ∙ ap (λ k. and_piece (Packet (take 188 next)) (found_in all n (Some k) (drop 188 next ++ behind))) (sym (same_tail old.tail held))) in
    (gathers.0, gathers.2, (take skip held ++ take 188 next, sym gathers.1 ∙ sym parts ∙ ap (λ l. (take skip held ++ take 188 next) ++ drop 188 l) (sym place), (take skip held, ap (λ l. take skip held ++ take 188 l) (sym place)), result mid.held mid.tail mid.number place tail same))

-- what is found behind the bytes that came
pub find_seek : {S : Type 0} (left : S → Option (List ℕ)) (old mid new : Finding S) (r : Result (Option Found) FindStop) → Gathers (left old.source) (left mid.source) old.held mid.held → mid.number ≡ old.number → mid.tail ≡ old.tail
    → FindsOn left mid new r → FindsOn left old new r
find_seek left old mid new r gathers number tail found =
    (gathers.0 ++ found.0, consumes_more (left old.source) (left mid.source) (left new.source) gathers.0 found.0 gathers.2 found.1, of r found.2)
  where
    same : (a : Bool) (l : List ℕ) → to_find a old l ≡ to_find a mid l
    same a l = ap (λ n. found_in a (packet_limit - n) old.tail l) (sym number) ∙ ap (λ (t : Option ℕ). found_in a (packet_limit - mid.number) t l) (sym tail)

    all : old.held ++ (gathers.0 ++ found.0) ≡ mid.held ++ found.0
    all = sym (append_assoc old.held gathers.0 found.0) ∙ ap (λ l. l ++ found.0) (sym gathers.1)

    of : (x : Result (Option Found) FindStop) → Finds mid new found.0 x → Finds old new (gathers.0 ++ found.0) x
    of (Ok (Some piece)) f = (f.0, all ∙ f.1, f.2, λ a behind may. same a (f.0 ++ (new.held ++ behind)) ∙ f.3 a behind may)
    of (Ok None) f = same true (old.held ++ (gathers.0 ++ found.0)) ∙ ap (to_find true mid) all ∙ f
    of (Err stop.TooLong) f = λ behind may. same true ((old.held ++ (gathers.0 ++ found.0)) ++ behind) ∙ ap (λ l. to_find true mid (l ++ behind)) all ∙ f behind may
    of (Err stop.Failed) f = (ap (λ (x : Findings). x.0) (same false (old.held ++ (gathers.0 ++ found.0))) ∙ ap (λ l. (to_find false mid l).0) all ∙ f.0, f.1)

-- ---- the clauses of a call

any_failed : {S : Type 0} (left : S → Option (List ℕ)) (new : Finding S) (p : Findings) → GivesPiece left new p (Err stop.Failed)
any_failed left new (Packet packet ∷ pieces, end) = tt
any_failed left new (Junk n ∷ pieces, end) = tt
any_failed left new ([], AtEnd) = tt
any_failed left new ([], Broken) = tt
any_failed left new ([], PastLimit) = tt

pub gives_piece : {S : Type 0} (left : S → Option (List ℕ)) (old new : Finding S) (r : Result (Option Found) FindStop) (bytes : List ℕ) → FindsOn left old new r → (new.ended ≡ true → IsAtEnd (left new.source))
    → (r ≡ Ok None → IsAtEnd (left new.source) × (new.held ≡ [])) → bytes_left left old ≡ Some bytes → GivesPiece left new (to_find true old bytes) r
gives_piece left old new r bytes found at end told =
    let t = told_behind (left old.source) (left new.source) old.held (old.held ++ found.0) bytes told (found.0, refl, found.1) in
    subst (λ l. GivesPiece left new (to_find true old l) r) (sym t.2) (of r t.0 t.1 found.2 end)
  where
    may_end : (behind : List ℕ) → left new.source ≡ Some behind → MayEnd new.ended true behind
    may_end behind is = λ e. (refl, nothing_left (left new.source) behind is (at e))

    gives : (x : Found) (behind : List ℕ) → left new.source ≡ Some behind → GivesPiece left new (and_piece (piece_of new.packet x) (to_find true new (new.held ++ behind))) (Ok (Some x))
    gives (was.Packet n) behind is = (refl, (new.held ++ behind, ap (prepend_known new.held) is, refl))
    gives (was.Junk n) behind is = (refl, (new.held ++ behind, ap (prepend_known new.held) is, refl))

    of : (x : Result (Option Found) FindStop) (behind : List ℕ) → left new.source ≡ Some behind → Finds old new found.0 x → (x ≡ Ok None → IsAtEnd (left new.source) × (new.held ≡ [])) → GivesPiece left new (to_find true old ((old.held ++ found.0) ++ behind)) x
    of (Ok (Some piece)) behind is f end =
        subst (λ p. GivesPiece left new p (Ok (Some piece)))
        (sym (ap (λ l. to_find true old (l ++ behind)) f.1 ∙ ap (to_find true old) (append_assoc f.0 new.held behind) ∙ f.3 true behind (may_end behind is))) (gives piece behind is)
    of (Ok None) behind is f end =
        let last = end refl in
        let empty = nothing_left (left new.source) behind is last.0 in
        subst (λ p. GivesPiece left new p (Ok None)) (sym (ap (λ l. to_find true old ((old.held ++ found.0) ++ l)) empty ∙ ap (to_find true old) (append-nil (old.held ++ found.0)) ∙ f))
        (ap (prepend_known new.held) is ∙ ap (λ l. Some (new.held ++ l)) empty ∙ ap (λ l. Some (l ++ [])) last.1)
    of (Err stop.TooLong) behind is f end = subst (λ p. GivesPiece left new p (Err stop.TooLong)) (sym (f behind (λ e. nothing_left (left new.source) behind is (at e)))) tt
    of (Err stop.Failed) behind is f end = any_failed left new (to_find true old ((old.held ++ found.0) ++ behind))

pub takes_piece : {S : Type 0} (left : S → Option (List ℕ)) (old : Finding S) (packet : List ℕ) (new : Finding S) (r : Result (Option Found) FindStop) → FindsOn left (record old { packet = packet }) new r → TakesPiece left old new r
takes_piece left old packet new (Ok (Some piece)) found = (found.0, found.2.0, found.1, found.2.1, found.2.2, λ going behind. found.2.3 false behind (λ e. absurd (false-true (sym going ∙ e))))
takes_piece left old packet new (Ok None) found = tt
takes_piece left old packet new (Err stop.TooLong) found = tt
takes_piece left old packet new (Err stop.Failed) found = (found.0, found.1, found.2.0, found.2.1)

-- ---- what is held when a call begins

-- where a packet begins, one still does once more bytes have come
pub begins_still : (before after : Bool) (held now more : List ℕ) → now ≡ held ++ more → (before ≡ true → (after ≡ true) × (now ≡ held)) → BeginsOrEnds before held → BeginsOrEnds after now
begins_still before after held now more is over (inl packet) = inl (ap (λ l. is_packet (take 188 l)) is ∙ ap is_packet (take-append-le 188 held more (is_long held packet)) ∙ packet)
begins_still before after held now more is over (inr (end, empty)) = inr ((over end).0, (over end).1 ∙ empty)

-- so no bytes are passed over twice
pub not_passed : (passed ended : Bool) (tail : Option ℕ) (held : List ℕ) → (passed ≡ true → (tail ≡ None) × BeginsOrEnds ended held) → unwrap_or tail 0 < length held → is_packet (take 188 (next_place tail held)) ≡ false → passed ≡ false
not_passed false ended tail held begins some none = refl
not_passed true ended tail held begins some none = absurd (of (begins refl).1)
  where
    place : next_place tail held ≡ held
    place = ap (λ (t : Option ℕ). next_place t held) (begins refl).0

    of : BeginsOrEnds ended held → ⊥
    of (inl packet) = false-true (sym none ∙ ap (λ l. is_packet (take 188 l)) place ∙ packet)
    of (inr (end, empty)) = (let size = ap length empty in omega (arith, size, some))

-- where a piece is held, no byte is asked for
pub nothing_asked : {S : Type 0} (old : Finding S) (source : S) (ended : Bool) (held : List ℕ) → HoldsPiece old → (old.ended ≡ true → (ended ≡ true) × (source ≡ old.source) × (held ≡ old.held))
    → (needed old.tail ≤ length old.held → (ended ≡ old.ended) × (source ≡ old.source) × (held ≡ old.held)) → (ended ≡ old.ended) × (source ≡ old.source) × (held ≡ old.held)
nothing_asked old source ended held holds over lazy = of old.ended refl
  where
    of : (e : Bool) → old.ended ≡ e → (ended ≡ old.ended) × (source ≡ old.source) × (held ≡ old.held)
    of true e = ((over e).0 ∙ sym e, (over e).1, (over e).2)
    of false e = elim (leb_tells (needed old.tail) (length old.held)) [
      | inl enough ↦ lazy enough.1
      | inr few ↦ absurd (holds (
          ap (λ a. (found_in a (packet_limit - old.number) old.tail old.held).0) e
          ∙ ap (λ (f : Findings). f.0) (found_over false (packet_limit - old.number) old.tail old.held (let over : nat_lt (length old.held) (needed old.tail) ≡ true = grind (arith, nat_tests, few.1) in over))))
    ]

pub holds_still : {S : Type 0} (old mid : Finding S) → HoldsPiece old → mid.ended ≡ old.ended → mid.held ≡ old.held → mid.number ≡ old.number → mid.tail ≡ old.tail → HoldsPiece mid
holds_still old mid holds ended held number tail = λ none. holds (
    ap (λ a. (found_in a (packet_limit - old.number) old.tail old.held).0) (sym ended)
    ∙ ap (λ n. (found_in mid.ended (packet_limit - n) old.tail old.held).0) (sym number)
    ∙ ap (λ (t : Option ℕ). (found_in mid.ended (packet_limit - mid.number) t old.held).0) (sym tail)
    ∙ ap (λ l. (found_in mid.ended (packet_limit - mid.number) mid.tail l).0) (sym held)
    ∙ none)
