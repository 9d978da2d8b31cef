-- A recording, packet by packet.
use Rattle.std.proofs.Common.{◌≡◌, ℕ, ◌<◌, ◌≤◌, Bool, true, false, List, [], ◌∷◌, ◌++◌, length, take, refl, sym, ap, ◌∙◌, subst, arith, length-append}
use Rattle.std.specs.Prelude.{Option, Some, None, Ok, Err, if◌then◌else◌, nat_lt}
use Rattle.std.specs.Io.KnownBytes.{IsAtEnd as IsReadToEnd}
use Rattle.std.proofs.lemmas.Bool.Decides.{nat_tests}
use Rattle.std.proofs.lemmas.List.{length-take-le, take_at}
use Rattle.packet_reader.specs.Recordings.{packets_in}
use Rattle.si_causes.proofs.CauseFacts.{Rose-from}
use Rattle.packet_reader.specs.Reading.{Counts, GivesPacket, HasCause, KeepsPiece, PacketReading, TakesPacket, bytes_left, packets_to_come}
use Rattle.packet_reader.specs.declared.stop.PacketStop.{PacketStop}
use Rattle.packet_reader.specs.declared.stop.PacketStop.TheVariants as stop
use Rattle.packet_reader.proofs.Giving.{given_broken, given_end, given_past, held_at_end, held_first, none_at_end, some_broken, some_past_limit}
use Rattle.version_book.specs.Airings.{AiredTables}
use Rattle.air_model.specs.declared.rule.Rule.{Rule}
use Rattle.air_model.specs.declared.rule.Rule.TheVariants.{Pid, Shape}
use Rattle.epg_report.specs.declared.status.Status.TheVariants.{BadStream, NotAir, Short}
use Rattle.epg_audit.specs.Checks.{Checks, Follows, GivesEnd, HasReadCause, recording_status}
use Rattle.epg_audit.specs.Recorded.{is_passed, passed_over}
use Rattle.epg_audit.proofs.Faults.{broken_in_cycle, cut_short, differs_in_cycle, no_shape, past_limit, short_in_cycle}
use Rattle.epg_audit.proofs.Nulls.{seen_same, shapeless}
use Rattle.epg_audit.proofs.Pieces.{taken_more, taken_none}
use Rattle.air_audit.specs.CycleAirs.{BeginAirAt}
use Rattle.air_audit.specs.CycleChecking.{Auditing, IsAtEnd, IsOf, StandsAt, rule_at}
use Rattle.air_audit.proofs.CycleLaws.{longer_begins, stands_begins}
use Rattle.air_audit.specs.TimedAirs.{seen}

module _ {F : Type 0} (rate : Option ℕ) (nulls : Bool) (left : F → Option (List ℕ))
    (start old new : PacketReading F) where
  -- before the first packet
  pub follows_none : (c : Auditing) (passed : Option ℕ) → IsOf rate nulls c → StandsAt [] [] c
      → start.number ≡ 0 → passed ≡ passed_over nulls []
      → Follows rate nulls left start start [] c passed
  follows_none c passed is stands first counted = record {
    packets = [];
    is_of = is;
    stands = none_seen nulls stands;
    number = first;
    within = omega arith;
    counted = counted;
    taken = λ bytes told. (bytes, told, taken_none bytes);
  }
    where
      none_seen : (b : Bool) → StandsAt [] [] c → StandsAt [] (seen b []) c
      none_seen false s = s
      none_seen true s = s

  -- another cycle begins
  pub follows_begun : (aired next : List AiredTables) (c d : Auditing) (passed : Option ℕ)
      → (f : Follows rate nulls left start old aired c passed) → IsOf rate nulls d
      → StandsAt next (seen nulls f.packets) d → Follows rate nulls left start old next d passed
  follows_begun aired next c d passed f is stands =
      record {
        packets = f.packets;
        is_of = is;
        stands = stands;
        number = f.number;
        within =
            f.within;
        counted = f.counted;
        taken = f.taken;
      }

  -- one packet more that is accepted
  pub follows_more : (airings : List AiredTables) (c d : Auditing) (passed more : Option ℕ)
      (p : List ℕ) (n : ℕ) → (f : Follows rate nulls left start old airings c passed)
      → IsOf rate nulls d → StandsAt airings (seen nulls (f.packets ++ p ∷ [])) d
      → more ≡ passed_over nulls (f.packets ++ p ∷ []) → p ≡ new.packet
      → Counts old new (Ok (Some n)) → TakesPacket left old new (Ok (Some n))
      → Follows rate nulls left start new airings d more
  follows_more airings c d passed more p n f is stands counted same counts takes = record {
    packets = f.packets ++ p ∷ [];
    is_of = is;
    stands = stands;
    number = omega (arith, counts.0, counts.1, f.number, length-append f.packets (p ∷ []));
    within = omega (arith, counts.0, counts.2, f.number, length-append f.packets (p ∷ []));
    counted = counted;
    taken = λ bytes told.
        let t = f.taken bytes told in
        let u = takes t.0 t.1 in
        (u.0, u.1, taken_more bytes f.packets t.0 p u.0 t.2 (u.2 ∙ ap (λ (l : List ℕ). l ++ u.0) (sym same)) (ap length same ∙ counts.3));
  }

  -- one that is passed over
  pub follows_over : (airings : List AiredTables) (c : Auditing) (passed more : Option ℕ)
      (p : List ℕ) (n : ℕ) → (f : Follows rate nulls left start old airings c passed)
      → is_passed nulls p ≡ true
      → more ≡ passed_over nulls (f.packets ++ p ∷ []) → p ≡ new.packet
      → Counts old new (Ok (Some n)) → TakesPacket left old new (Ok (Some n))
      → Follows rate nulls left start new airings c more
  follows_over airings c passed more p n f over counted same counts takes =
      follows_more airings c c passed more p n f f.is_of
      (subst (λ (l : List (List ℕ)). StandsAt airings l c)
      (sym (seen_same nulls f.packets p over)) f.stands) counted same counts takes

  -- one that differs
  pub follows_differ : (airings : List AiredTables) (c d : Auditing) (passed more : Option ℕ)
      (p : List ℕ) (n : ℕ) (rule : Rule) → (f : Follows rate nulls left start old airings c passed)
      → (IsAtEnd c → ⊥)
      → (BeginAirAt rate nulls airings (seen nulls (f.packets ++ p ∷ [])) → ⊥)
      → rule ≡ rule_at (seen nulls f.packets) c p → p ≡ new.packet
      → Counts old new (Ok (Some n)) → TakesPacket left old new (Ok (Some n))
      → Checks rate nulls left start new airings d more (Err (NotAir n rule))
  follows_differ airings c d passed more p n rule f unended differs rule_is same counts takes = λ bytes told others can.
      let t = f.taken bytes told in
      let u = takes t.0 t.1 in
      differs_in_cycle rate nulls airings others bytes f.packets t.0 p u.0 n rule c f.is_of f.stands
      unended can differs rule_is t.2 (u.2 ∙ ap (λ (l : List ℕ). l ++ u.0) (sym same))
      (ap length same ∙ counts.3) (counts.0 ∙ f.number)

  -- none is left
  pub follows_short : (airings : List AiredTables) (c d : Auditing) (passed more : Option ℕ) (n : ℕ)
      → (f : Follows rate nulls left start old airings c passed) → (IsAtEnd c → ⊥) → n ≡ new.number
      → Counts old new (Ok None)
      → ((bytes : List ℕ) → bytes_left left old ≡ Some bytes
      → GivesPacket left old new (packets_in (packets_to_come old) bytes) (Ok None))
      → Checks rate nulls left start new airings d more (Err (Short n))
  follows_short airings c d passed more n f unended number counts gives = λ bytes told others can.
      let t = f.taken bytes told in
      let none = none_at_end (packets_to_come old) t.0 (given_end left old new (packets_in (packets_to_come old) t.0) (gives t.0 t.1)) in
      short_in_cycle rate nulls airings others bytes f.packets t.0 n c f.is_of f.stands unended can
      t.2 none (number ∙ counts.0 ∙ f.number)

  -- what is left where a piece is no packet, by how many bytes are held
  left_short : (rest : List ℕ) → bytes_left left new ≡ Some rest → (length new.held < 188 → IsReadToEnd (left new.source)) → length new.held < 188 → length rest < 188
  left_short rest told end few =
      let all = held_at_end new.held rest (left new.source) told (end few) in
      omega (arith, ap length all, few)

  left_long : (rest : List ℕ) → bytes_left left new ≡ Some rest → 188 ≤ length new.held → 188 ≤ length rest
  left_long rest told enough =
      let more = held_first new.held rest (left new.source) told in
      omega (arith, ap length more.1, length-append new.held more.0, enough)

  abbrev GivesNow : PacketStop → Type 0
  GivesNow s = (bytes : List ℕ) → bytes_left left old ≡ Some bytes → GivesPacket left old new (packets_in (packets_to_come old) bytes) (Err s)

  broken_stop : (airings : List AiredTables) (c d : Auditing) (passed more : Option ℕ) (n : ℕ)
      → (f : Follows rate nulls left start old airings c passed) → (IsAtEnd c → ⊥) → n ≡ old.number
      → GivesNow (stop.Broken n) → KeepsPiece left old new (Err (stop.Broken n))
      → (few : Bool) → nat_lt (length new.held) 188 ≡ few
      → Checks rate nulls left start new airings d more
      (Err (if few then BadStream n else NotAir n Shape))
  broken_stop airings c d passed more n f unended number gives keeps true is = λ bytes told others can.
      let t = f.taken bytes told in
      let broken = some_broken (packets_to_come old) t.0 (given_broken left old new (packets_in (packets_to_come old) t.0) n (gives t.0 t.1)) in
      let few : length new.held < 188 = grind (arith, nat_tests, is) in
      cut_short rate nulls (airings ++ others) bytes f.packets t.0 n
      (longer_begins rate nulls airings others (seen nulls f.packets) can
      (stands_begins rate nulls airings (seen nulls f.packets) c f.is_of f.stands)) t.2 broken.0
      (left_short t.0 (keeps.0 t.0 t.1) keeps.1 few) (number ∙ f.number)
  broken_stop airings c d passed more n f unended number gives keeps false is = λ bytes told others can.
      let t = f.taken bytes told in
      let broken = some_broken (packets_to_come old) t.0 (given_broken left old new (packets_in (packets_to_come old) t.0) n (gives t.0 t.1)) in
      let enough : 188 ≤ length new.held = grind (arith, nat_tests, is) in
      broken_in_cycle rate nulls airings others bytes f.packets t.0 n c f.is_of f.stands unended can
      t.2 (left_long t.0 (keeps.0 t.0 t.1) enough) broken.1 (number ∙ f.number)

  -- the reader stops
  pub follows_stop : (airings : List AiredTables) (c d : Auditing) (passed more : Option ℕ)
      (s : PacketStop) → (f : Follows rate nulls left start old airings c passed) → (IsAtEnd c → ⊥)
      → Counts old new (Err s) → GivesNow s → KeepsPiece left old new (Err s)
      → Checks rate nulls left start new airings d more (Err (recording_status new s Shape))
  follows_stop airings c d passed more stop.Failed f unended counts gives keeps = λ bytes told others can. tt
  follows_stop airings c d passed more stop.TooLong f unended counts gives keeps = λ bytes told others can.
      let t = f.taken bytes told in
      let past = some_past_limit (packets_to_come old) t.0 (given_past left old new (packets_in (packets_to_come old) t.0) (gives t.0 t.1)) in
      past_limit rate nulls (airings ++ others) bytes f.packets t.0
      (longer_begins rate nulls airings others (seen nulls f.packets) can
      (stands_begins rate nulls airings (seen nulls f.packets) c f.is_of f.stands)) t.2 past.1
      (omega (arith, past.0, f.number, f.within))
  follows_stop airings c d passed more (stop.Broken n) f unended counts gives keeps = broken_stop airings c d passed more n f unended counts.0 gives keeps (nat_lt (length new.held) 188) refl

  -- ---- behind the last cycle

  pub ends_none : ((bytes : List ℕ) → bytes_left left old ≡ Some bytes → GivesPacket left old new (packets_in (packets_to_come old) bytes) (Ok None)) → GivesEnd nulls left old (Ok tt)
  ends_none gives rest told = none_at_end (packets_to_come old) rest (given_end left old new (packets_in (packets_to_come old) rest) (gives rest told))

  pub ends_some : (p : List ℕ) (n : ℕ) → is_passed nulls p ≡ false → p ≡ new.packet → Counts old new (Ok (Some n)) → TakesPacket left old new (Ok (Some n)) → GivesEnd nulls left old (Err (NotAir n Pid))
  ends_some p n other same counts takes rest told =
      let u = takes rest told in
      let first : take 188 rest ≡ p = ap (take 188) u.2 ∙ take_at new.packet u.0 188 counts.3 ∙ sym same in
      (counts.0, refl, omega (arith, ap length u.2, length-append new.packet u.0, counts.3), ap (is_passed nulls) first ∙ other)

  broken_end : (n : ℕ) → n ≡ old.number → GivesNow (stop.Broken n) → KeepsPiece left old new (Err (stop.Broken n)) → (few : Bool) → nat_lt (length new.held) 188 ≡ few
      → GivesEnd nulls left old (Err (if few then BadStream n else NotAir n Pid))
  broken_end n number gives keeps true is rest told =
      let broken = some_broken (packets_to_come old) rest (given_broken left old new (packets_in (packets_to_come old) rest) n (gives rest told)) in
      let few : length new.held < 188 = grind (arith, nat_tests, is) in
      (number, broken.0, left_short rest (keeps.0 rest told) keeps.1 few)
  broken_end n number gives keeps false is rest told =
      let broken = some_broken (packets_to_come old) rest (given_broken left old new (packets_in (packets_to_come old) rest) n (gives rest told)) in
      let enough : 188 ≤ length new.held = grind (arith, nat_tests, is) in
      let long = left_long rest (keeps.0 rest told) enough in
      (number, refl, long, shapeless nulls (take 188 rest) (no_shape (take 188 rest) (length-take-le 188 rest long) broken.1))

  pub ends_stop : (s : PacketStop) → Counts old new (Err s) → GivesNow s → KeepsPiece left old new (Err s) → GivesEnd nulls left old (Err (recording_status new s Pid))
  ends_stop stop.Failed counts gives keeps rest told = tt
  ends_stop stop.TooLong counts gives keeps rest told =
      let past = some_past_limit (packets_to_come old) rest (given_past left old new (packets_in (packets_to_come old) rest) (gives rest told)) in
      (omega (arith, past.0), past.1)
  ends_stop (stop.Broken n) counts gives keeps rest told = broken_end n counts.0 gives keeps (nat_lt (length new.held) 188) refl rest told

-- a reader that stops by a failed read has its cause
broken_caused : (before now : ℕ) (n : ℕ) (rule : Rule) (few : Bool) → HasReadCause before now (Err (if few then BadStream n else NotAir n rule))
broken_caused before now n rule true = tt
broken_caused before now n rule false = tt

pub stop_caused : {F : Type 0} (before mid now : ℕ) (reader : PacketReading F) (s : PacketStop) (rule : Rule) → before ≤ mid → HasCause {T = Option ℕ} mid now (Err s) → HasReadCause before now (Err (recording_status reader s rule))
stop_caused before mid now reader stop.Failed rule le cause = Rose-from before mid now le cause
stop_caused before mid now reader stop.TooLong rule le cause = tt
stop_caused before mid now reader (stop.Broken n) rule le cause = broken_caused before now n rule (nat_lt (length reader.held) 188)
