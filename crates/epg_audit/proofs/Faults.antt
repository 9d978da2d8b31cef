-- Why a recording is at fault.
use Rattle.std.proofs.Common.{◌≡◌, ℕ, suc, ◌==◌, ◌<◌, ◌≤◌, Bool, true, false, List, [], ◌∷◌, ◌++◌, Option, length, take, drop, get_or, slice_index, refl, sym, ap, ◌∙◌, arith, append_assoc, length-append, subst, inl, inr}
use Rattle.std.proofs.lemmas.Bool.{cases_Bool}
use Rattle.std.proofs.lemmas.List.{take-append-drop, length-take-le}
use Rattle.std.specs.Prelude.{◌&&◌}
use Rattle.packet_reader.specs.Recordings.{is_packet, packet_limit}
use Rattle.version_book.specs.Airings.{AiredTables}
use Rattle.ts_packets.specs.WholePackets.{whole_packets}
use Rattle.air_model.specs.Air.{CanBeSent}
use Rattle.air_model.specs.declared.rule.Rule.{Rule}
use Rattle.air_model.specs.declared.rule.Rule.TheVariants.{Pid, Shape}
use Rattle.air_audit.specs.Checking.{has_shape}
use Rattle.epg_report.specs.declared.status.Status.TheVariants.{BadStream, NotAir, Short, TooLong}
use Rattle.epg_report.specs.declared.status.Origin.TheVariants.{Recording}
use Rattle.epg_audit.specs.Checks.{AreTaken}
use Rattle.epg_audit.specs.Recorded.{IsFaulty, IsRecordedAir, is_passed}
use Rattle.epg_audit.proofs.Nulls.{seen_more, seen_same, shapeless}
use Rattle.epg_audit.proofs.Pieces.{at_front, front_is, packets_parted, packets_taken, size_parted, taken_more}
use Rattle.air_audit.specs.CycleAirs.{AreAirAt, BeginAirAt}
use Rattle.air_audit.specs.CycleChecking.{Auditing, IsAtEnd, IsOf, StandsAt, rule_at}
use Rattle.air_audit.specs.Breaking.{BreaksAt}
use Rattle.air_audit.proofs.CycleLaws.{breaks_within, end_is_air, longer_airs, longer_begins, longer_lists_agree, no_air_yet, nothing_after, shape_broken, stands_begins, wrong_shape}
use Rattle.air_audit.specs.TimedAirs.{seen}

-- ---- a packet that differs

-- a packet stands behind those that were taken
differs_at : (rate : Option ℕ) (nulls : Bool) (airings : List AiredTables) (bytes : List ℕ)
    (packets : List (List ℕ)) (rest p behind : List ℕ) (n : ℕ) (rule : Rule)
    → AreTaken bytes packets rest → rest ≡ p ++ behind → length p ≡ 188 → n ≡ length packets
    → BeginAirAt rate nulls airings (seen nulls packets)
    → (BeginAirAt rate nulls airings (seen nulls (packets ++ p ∷ [])) → ⊥)
    → BreaksAt rate nulls airings (seen nulls packets) p rule
    → IsFaulty rate nulls airings bytes (NotAir n rule)
differs_at rate nulls airings bytes packets rest p behind n rule t e long number begins differs
    breaks =
    let all : whole_packets bytes ≡ (packets ++ p ∷ []) ++ whole_packets behind = packets_parted bytes (packets ++ p ∷ []) behind (taken_more bytes packets rest p behind t e long) in
    let cut : whole_packets bytes ≡ packets ++ p ∷ whole_packets behind = all ∙ append_assoc packets (p ∷ []) (whole_packets behind) in
    let front : take n (whole_packets bytes) ≡ packets = ap (take n) cut ∙ front_is packets (p ∷ whole_packets behind) n number in
    let next : take (suc n) (whole_packets bytes) ≡ packets ++ p ∷ [] = ap (take (suc n)) all ∙ front_is (packets ++ p ∷ []) (whole_packets behind) (suc n) (omega (arith, number, length-append packets (p ∷ []))) in
    let here : get_or (whole_packets bytes) n [] ≡ p = ap (λ (l : List (List ℕ)). get_or l n []) cut ∙ at_front packets p (whole_packets behind) [] n number in (
      record {
        within = omega (arith, ap length cut, length-append packets (p ∷ whole_packets behind), number);
        begins = subst (λ (l : List (List ℕ)). BeginAirAt rate nulls airings (seen nulls l))
            (sym front) begins;
        differs = λ b. differs (subst (λ (l : List (List ℕ)). BeginAirAt rate nulls airings
            (seen nulls l)) next b);
      },
      subst (λ (l : List (List ℕ)). BreaksAt rate nulls airings (seen nulls l)
          (get_or (whole_packets bytes) n []) rule) (sym front)
          (subst (λ (q : List ℕ). BreaksAt rate nulls airings (seen nulls packets) q rule)
          (sym here) breaks),
    )

-- in a cycle that has not ended, whatever airings follow
differs_kept : (rate : Option ℕ) (nulls : Bool) (airings others : List AiredTables) (bytes : List ℕ)
    (packets : List (List ℕ)) (rest p behind : List ℕ) (n : ℕ) (rule : Rule) (c : Auditing)
    → IsOf rate nulls c → StandsAt airings (seen nulls packets) c → (IsAtEnd c → ⊥)
    → CanBeSent others → is_passed nulls p ≡ false
    → (BeginAirAt rate nulls airings (seen nulls (packets ++ p ∷ [])) → ⊥)
    → rule ≡ rule_at (seen nulls packets) c p
    → AreTaken bytes packets rest → rest ≡ p ++ behind → length p ≡ 188 → n ≡ length packets
    → IsFaulty rate nulls (airings ++ others) bytes (NotAir n rule)
differs_kept rate nulls airings others bytes packets rest p behind n rule c is stands unended can
    other differs rule_is t e long number =
    let more = seen_more nulls packets p other in
    differs_at rate nulls (airings ++ others) bytes packets rest p behind n rule t e long number
    (longer_begins rate nulls airings others (seen nulls packets) can
    (stands_begins rate nulls airings (seen nulls packets) c is stands))
    (λ b. differs (subst (BeginAirAt rate nulls airings) (sym more)
    (longer_lists_agree rate nulls airings others (seen nulls packets) c p is stands unended can
    (subst (BeginAirAt rate nulls (airings ++ others)) more b))))
    (inl (breaks_within rate nulls airings others (seen nulls packets) c p rule is stands unended
    can rule_is))

-- a packet that is passed over makes no difference
pub differs_in_cycle : (rate : Option ℕ) (nulls : Bool) (airings others : List AiredTables)
    (bytes : List ℕ) (packets : List (List ℕ)) (rest p behind : List ℕ) (n : ℕ) (rule : Rule)
    (c : Auditing) → IsOf rate nulls c → StandsAt airings (seen nulls packets) c → (IsAtEnd c → ⊥)
    → CanBeSent others → (BeginAirAt rate nulls airings (seen nulls (packets ++ p ∷ [])) → ⊥)
    → rule ≡ rule_at (seen nulls packets) c p
    → AreTaken bytes packets rest → rest ≡ p ++ behind → length p ≡ 188 → n ≡ length packets
    → IsFaulty rate nulls (airings ++ others) bytes (NotAir n rule)
differs_in_cycle rate nulls airings others bytes packets rest p behind n rule c is stands unended
    can differs rule_is t e long number = elim (cases_Bool (is_passed nulls p)) [
      | inl over ↦ absurd (differs (subst (BeginAirAt rate nulls airings)
          (sym (seen_same nulls packets p over))
          (stands_begins rate nulls airings (seen nulls packets) c is stands)))
      | inr other ↦ differs_kept rate nulls airings others bytes packets rest p behind n rule c is
          stands unended can other differs rule_is t e long number
    ]

-- a piece that does not begin as a packet
pub no_shape : (p : List ℕ) → length p ≡ 188 → is_packet p ≡ false → has_shape p ≡ false
no_shape p long e =
    let whole : (length p == 188) ≡ true = rw long refl in
    let sync : (slice_index p 0 == 71) ≡ false = (let h : ((length p == 188) && (slice_index p 0 == 71)) ≡ false = e in rw whole at h) in
    rw sync refl

pub broken_in_cycle : (rate : Option ℕ) (nulls : Bool) (airings others : List AiredTables)
    (bytes : List ℕ) (packets : List (List ℕ)) (rest : List ℕ) (n : ℕ) (c : Auditing)
    → IsOf rate nulls c → StandsAt airings (seen nulls packets) c → (IsAtEnd c → ⊥)
    → CanBeSent others → AreTaken bytes packets rest → 188 ≤ length rest
    → is_packet (take 188 rest) ≡ false → n ≡ length packets
    → IsFaulty rate nulls (airings ++ others) bytes (NotAir n Shape)
broken_in_cycle rate nulls airings others bytes packets rest n c is stands unended can t long broken
    number =
    let p = take 188 rest in
    let size : length p ≡ 188 = length-take-le 188 rest long in
    let shape = no_shape p size broken in
    let other = shapeless nulls p shape in
    differs_kept rate nulls airings others bytes packets rest p (drop 188 rest) n Shape c is stands
    unended can other
    (λ b. wrong_shape rate nulls airings (seen nulls packets) c p is stands unended shape
    (subst (BeginAirAt rate nulls airings) (seen_more nulls packets p other) b))
    (shape_broken (seen nulls packets) c p unended shape) t (sym (take-append-drop 188 rest)) size
    number

-- behind the last cycle
pub differs_at_end : (rate : Option ℕ) (nulls : Bool) (airings : List AiredTables) (bytes : List ℕ)
    (packets : List (List ℕ)) (rest : List ℕ) (n : ℕ) (c : Auditing) → IsOf rate nulls c
    → StandsAt airings (seen nulls packets) c → IsAtEnd c
    → AreTaken bytes packets rest → 188 ≤ length rest → is_passed nulls (take 188 rest) ≡ false
    → n ≡ length packets → IsFaulty rate nulls airings bytes (NotAir n Pid)
differs_at_end rate nulls airings bytes packets rest n c is stands end t long other number =
    let p = take 188 rest in
    differs_at rate nulls airings bytes packets rest p (drop 188 rest) n Pid t
    (sym (take-append-drop 188 rest)) (length-take-le 188 rest long) number
    (stands_begins rate nulls airings (seen nulls packets) c is stands)
    (λ b. nothing_after rate nulls airings (seen nulls packets) c p is stands end
    (subst (BeginAirAt rate nulls airings) (seen_more nulls packets p other) b))
    (inr (end_is_air rate nulls airings (seen nulls packets) c is stands end, refl))

-- ---- a recording that ends, or goes on

pub short_in_cycle : (rate : Option ℕ) (nulls : Bool) (airings others : List AiredTables)
    (bytes : List ℕ) (packets : List (List ℕ)) (rest : List ℕ) (n : ℕ) (c : Auditing)
    → IsOf rate nulls c → StandsAt airings (seen nulls packets) c → (IsAtEnd c → ⊥)
    → CanBeSent others → AreTaken bytes packets rest → rest ≡ [] → n ≡ length packets
    → IsFaulty rate nulls (airings ++ others) bytes (Short n)
short_in_cycle rate nulls airings others bytes packets rest n c is stands unended can t none
    number =
    let begins = stands_begins rate nulls airings (seen nulls packets) c is stands in
    let all : whole_packets bytes ≡ packets = packets_taken bytes packets rest t (omega (arith, ap length none)) in
    record {
      whole = omega (arith, size_parted bytes packets rest t, ap length none, number);
      begins = subst (λ (l : List (List ℕ)). BeginAirAt rate nulls (airings ++ others)
          (seen nulls l)) (sym all) (longer_begins rate nulls airings others (seen nulls packets)
          can begins);
      no_air = λ air. no_air_yet rate nulls airings (seen nulls packets) c is stands unended
          (longer_airs rate nulls airings others (seen nulls packets) c is stands
          (subst (λ (l : List (List ℕ)). AreAirAt rate nulls (airings ++ others) (seen nulls l))
          all air));
    }

pub cut_short : (rate : Option ℕ) (nulls : Bool) (airings : List AiredTables) (bytes : List ℕ)
    (packets : List (List ℕ)) (rest : List ℕ) (n : ℕ)
    → BeginAirAt rate nulls airings (seen nulls packets) → AreTaken bytes packets rest
    → 0 < length rest → length rest < 188
    → n ≡ length packets → IsFaulty rate nulls airings bytes (BadStream n)
cut_short rate nulls airings bytes packets rest n begins t some few number = record {
  more = omega (arith, size_parted bytes packets rest t, some, number);
  less = omega (arith, size_parted bytes packets rest t, few, number);
  begins = subst (λ (l : List (List ℕ)). BeginAirAt rate nulls airings (seen nulls l))
      (sym (packets_taken bytes packets rest t few)) begins;
}

pub past_limit : (rate : Option ℕ) (nulls : Bool) (airings : List AiredTables) (bytes : List ℕ)
    (packets : List (List ℕ)) (rest : List ℕ) → BeginAirAt rate nulls airings (seen nulls packets)
    → AreTaken bytes packets rest → 0 < length rest
    → packet_limit ≡ length packets → IsFaulty rate nulls airings bytes (TooLong Recording)
past_limit rate nulls airings bytes packets rest begins t some number = record {
  more = omega (arith, size_parted bytes packets rest t, some, number);
  begins =
      subst (λ (l : List (List ℕ)). BeginAirAt rate nulls airings (seen nulls l))
      (sym (ap (take packet_limit) (packets_parted bytes packets rest t)
      ∙ front_is packets (whole_packets rest) packet_limit number)) begins;
}

-- nothing is left behind the last cycle
pub recorded : (rate : Option ℕ) (nulls : Bool) (airings : List AiredTables) (bytes : List ℕ)
    (packets : List (List ℕ)) (rest : List ℕ) → AreAirAt rate nulls airings (seen nulls packets)
    → AreTaken bytes packets rest → rest ≡ [] → length packets ≤ packet_limit
    → IsRecordedAir rate nulls airings bytes
recorded rate nulls airings bytes packets rest air t none few =
    let all : whole_packets bytes ≡ packets = packets_taken bytes packets rest t (omega (arith, ap length none)) in
    record {
      air = subst (λ (l : List (List ℕ)). AreAirAt rate nulls airings (seen nulls l)) (sym all) air;
      whole = omega (arith, size_parted bytes packets rest t, ap length none, ap length all);
      limit = omega (arith, few, ap length all);
    }
