-- Laws of an auditor at a bit rate or without one.
use Rattle.std.proofs.Common.{◌≡◌, ℕ, Bool, false, List, [], ◌∷◌, ◌++◌, Option, Some, None, refl, sym, ap, ◌∙◌, subst, inl, inr}
use Rattle.std.specs.Prelude.{◌↔◌, IsNone}
use Rattle.std.proofs.lemmas.Bool.{false≢true}
use Rattle.version_book.specs.Airings.{AiredTables}
use Rattle.air_model.specs.Air.{CanBeSent}
use Rattle.air_model.specs.declared.rule.Rule.{Rule}
use Rattle.air_model.specs.declared.rule.Rule.TheVariants.{Shape}
use Rattle.air_audit.specs.Checking.{has_shape}
use Rattle.air_audit.specs.Fronts.{to_come_on}
use Rattle.air_audit.proofs.Checks as dense
use Rattle.air_audit.proofs.Ends as dense_ends
use Rattle.air_audit.proofs.Longer as dense_longer
use Rattle.air_audit.specs.TimedAirs.{BeginTheAir}
use Rattle.ts_packets.specs.declared.written.TsPacket.{TsPacket}
use Rattle.air_audit.specs.TimedChecking.{rule_by as timed_rule}
use Rattle.air_audit.proofs.TimedAirs as timed_airs
use Rattle.air_audit.proofs.Stands as timed
use Rattle.air_audit.specs.CycleAirs.{AreAirAt, BeginAirAt}
use Rattle.air_audit.specs.Breaking.{BreaksWithin}
use Rattle.air_audit.specs.CycleChecking.{Auditing, BeginsFor, IsAtEnd, IsOf, StandsAt, rule_at}

-- with the bit rate and the null packets of an auditor
as_timed : (rate : Option ℕ) (nulls own_nulls : Bool) (own : ℕ) (P : Option ℕ → Bool → Type 0)
    → rate ≡ Some own → own_nulls ≡ nulls → P (Some own) own_nulls → P rate nulls
as_timed rate nulls own_nulls own P is same p =
    subst (λ (r : Option ℕ). P r nulls) (sym is) (subst (P (Some own)) same p)

as_dense : (rate : Option ℕ) (P : Option ℕ → Type 0) → rate ≡ None → P None → P rate
as_dense rate P is p = subst P (sym is) p

of_timed : (rate : Option ℕ) (nulls own_nulls : Bool) (own : ℕ) (P : Option ℕ → Bool → Type 0)
    → rate ≡ Some own → own_nulls ≡ nulls → P rate nulls → P (Some own) own_nulls
of_timed rate nulls own_nulls own P is same p =
    subst (P (Some own)) (sym same) (subst (λ (r : Option ℕ). P r nulls) is p)

-- ---- what an auditor accepted

pub stands_begins : (rate : Option ℕ) (nulls : Bool) (airings : List AiredTables)
    (accepted : List (List ℕ)) (c : Auditing) → IsOf rate nulls c → StandsAt airings accepted c
    → BeginAirAt rate nulls airings accepted
stands_begins rate nulls airings accepted (inl c) is stands =
    as_dense rate (λ r. BeginAirAt r nulls airings accepted) is
    (dense.stands_begins airings accepted c stands)
stands_begins rate nulls airings accepted (inr c) is stands =
    as_timed rate nulls c.nulls c.playing.rate (λ r n. BeginAirAt r n airings accepted) is.0 is.1
    (timed.stands_begins airings accepted c stands)

pub end_is_air : (rate : Option ℕ) (nulls : Bool) (airings : List AiredTables)
    (accepted : List (List ℕ)) (c : Auditing) → IsOf rate nulls c → StandsAt airings accepted c
    → IsAtEnd c
    → AreAirAt rate nulls airings accepted
end_is_air rate nulls airings accepted (inl c) is stands end =
    as_dense rate (λ r. AreAirAt r nulls airings accepted) is
    ((dense.end_is_air airings accepted c stands).0 end)
end_is_air rate nulls airings accepted (inr c) is stands end =
    as_timed rate nulls c.nulls c.playing.rate (λ r n. AreAirAt r n airings accepted) is.0 is.1
    (timed.after_is_air airings accepted c (timed.stands_after airings accepted c end stands))

-- what begins an air to an auditor
pub begins_at : (rate : Option ℕ) (nulls : Bool) (airings : List AiredTables)
    (packets : List (List ℕ)) (c : Auditing) → IsOf rate nulls c
    → BeginsFor c airings packets ↔ BeginAirAt rate nulls airings packets
begins_at rate nulls airings packets (inl c) is = (
  (λ b. as_dense rate (λ r. BeginAirAt r nulls airings packets) is b),
  (λ b. subst (λ r. BeginAirAt r nulls airings packets) is b),
)
begins_at rate nulls airings packets (inr c) is = (
  (λ b. as_timed rate nulls c.nulls c.playing.rate (λ r n. BeginAirAt r n airings packets) is.0 is.1
      b),
  (λ b. of_timed rate nulls c.nulls c.playing.rate (λ r n. BeginAirAt r n airings packets) is.0 is.1
      b),
)

-- ---- longer lists

pub longer_begins : (rate : Option ℕ) (nulls : Bool) (airings others : List AiredTables)
    (packets : List (List ℕ)) → CanBeSent others → BeginAirAt rate nulls airings packets
    → BeginAirAt rate nulls (airings ++ others) packets
longer_begins None nulls airings others packets can b =
    dense_longer.longer_begins airings others packets can b
longer_begins (Some rate) nulls airings others packets can b =
    timed_airs.longer_begins rate nulls airings others packets b

pub longer_lists_agree : (rate : Option ℕ) (nulls : Bool) (airings others : List AiredTables)
    (accepted : List (List ℕ)) (c : Auditing) (packet : List ℕ) → IsOf rate nulls c
    → StandsAt airings accepted c
    → (IsAtEnd c → ⊥) → CanBeSent others
    → BeginAirAt rate nulls (airings ++ others) (accepted ++ packet ∷ [])
    → BeginAirAt rate nulls airings (accepted ++ packet ∷ [])
longer_lists_agree rate nulls airings others accepted (inl c) packet is stands unended can b =
    as_dense rate (λ r. BeginAirAt r nulls airings (accepted ++ packet ∷ [])) is
    ((dense_longer.longer_lists_agree airings others accepted c packet stands unended can).0
    (subst (λ r. BeginAirAt r nulls (airings ++ others) (accepted ++ packet ∷ [])) is b))
longer_lists_agree rate nulls airings others accepted (inr c) packet is stands unended can b =
    as_timed rate nulls c.nulls c.playing.rate
    (λ r n. BeginAirAt r n airings (accepted ++ packet ∷ [])) is.0 is.1
    ((timed.longer_lists_agree airings others accepted c packet stands unended).0
    (of_timed rate nulls c.nulls c.playing.rate
    (λ r n. BeginAirAt r n (airings ++ others) (accepted ++ packet ∷ [])) is.0 is.1 b))

pub whole_airs_end : (rate : Option ℕ) (nulls : Bool) (airings : List AiredTables)
    (packets : List (List ℕ)) (packet : List ℕ) → CanBeSent airings
    → AreAirAt rate nulls airings packets
    → BeginAirAt rate nulls airings (packets ++ packet ∷ []) → ⊥
whole_airs_end None nulls airings packets packet can air_is b =
    dense_ends.whole_airs_end airings packets packet can air_is b
whole_airs_end (Some rate) nulls airings packets packet can air_is b =
    timed_airs.whole_airs_end rate nulls airings packets packet air_is b

-- what an auditor accepted that is an air of a longer list is one of its own list
pub longer_airs : (rate : Option ℕ) (nulls : Bool) (airings others : List AiredTables)
    (accepted : List (List ℕ)) (c : Auditing) → IsOf rate nulls c → StandsAt airings accepted c
    → AreAirAt rate nulls (airings ++ others) accepted → AreAirAt rate nulls airings accepted
longer_airs rate nulls airings others accepted (inl c) is stands long =
    as_dense rate (λ r. AreAirAt r nulls airings accepted) is
    (dense_ends.longer_airs airings others accepted stands.can_be_sent
    (subst (λ r. AreAirAt r nulls (airings ++ others) accepted) is long)
    (dense.stands_begins airings accepted c stands))
longer_airs rate nulls airings others accepted (inr c) is stands long =
    as_timed rate nulls c.nulls c.playing.rate (λ r n. AreAirAt r n airings accepted) is.0 is.1
    (timed_airs.longer_airs c.playing.rate c.nulls airings others accepted
    (of_timed rate nulls c.nulls c.playing.rate
    (λ r n. AreAirAt r n (airings ++ others) accepted) is.0 is.1 long)
    (timed.stands_begins airings accepted c stands))

-- an air begins with its first packets
pub air_begins : (rate : Option ℕ) (nulls : Bool) (airings : List AiredTables)
    (packets more : List (List ℕ)) → AreAirAt rate nulls airings (packets ++ more)
    → BeginAirAt rate nulls airings packets
air_begins None nulls airings packets more air_is = record { more = more; whole = air_is }
air_begins (Some rate) nulls airings packets more air_is = record { more = more; whole = air_is }

-- ---- refused packets

-- a packet whose header is not written is refused
pub wrong_shape : (rate : Option ℕ) (nulls : Bool) (airings : List AiredTables)
    (accepted : List (List ℕ)) (c : Auditing) (packet : List ℕ) → IsOf rate nulls c
    → StandsAt airings accepted c
    → (IsAtEnd c → ⊥) → has_shape packet ≡ false
    → BeginAirAt rate nulls airings (accepted ++ packet ∷ []) → ⊥
wrong_shape rate nulls airings accepted (inl c) packet is stands unended shape b =
    let none = (dense.wrong_shape airings accepted c packet stands shape).1
    (subst (λ r. BeginAirAt r nulls airings (accepted ++ packet ∷ [])) is b) in
    cc none
wrong_shape rate nulls airings accepted (inr c) packet is stands unended shape b =
    let begins : BeginTheAir c.playing.rate c.nulls airings (accepted ++ packet ∷ []) =
    of_timed rate nulls c.nulls c.playing.rate
    (λ r n. BeginAirAt r n airings (accepted ++ packet ∷ [])) is.0 is.1 b in
    false≢true (sym shape ∙ timed.next_shape airings accepted c packet stands unended begins)

-- the rule that is answered is broken
pub breaks_within : (rate : Option ℕ) (nulls : Bool) (airings others : List AiredTables)
    (accepted : List (List ℕ)) (c : Auditing) (packet : List ℕ) (rule : Rule) → IsOf rate nulls c
    → StandsAt airings accepted c
    → (IsAtEnd c → ⊥) → CanBeSent others → rule ≡ rule_at accepted c packet
    → BreaksWithin rate nulls (airings ++ others) accepted packet rule
breaks_within rate nulls airings others accepted (inl c) packet rule is stands unended can rule_is =
    as_dense rate (λ r. BreaksWithin r nulls (airings ++ others) accepted packet rule) is (record {
      front = airings;
      others = others;
      airings_are = refl;
      packets = stands.packets;
      accepted_are = stands.accepted_are;
      to_come = to_come_on c.on_pids;
      so_far = stands.so_far;
      goes_on = unended;
      rule_is = rule_is;
    })
breaks_within rate nulls airings others accepted (inr c) packet rule is stands unended can rule_is =
    let (next, next_is, begins) = timed.expects airings accepted c stands unended in
    as_timed rate nulls c.nulls c.playing.rate
    (λ r n. BreaksWithin r n (airings ++ others) accepted packet rule) is.0 is.1 (record {
      expected = next.0;
      expects = timed_airs.longer_begins c.playing.rate c.nulls airings others
          (accepted ++ next.0 ∷ []) begins;
      rule_is = rule_is ∙ ap (λ o. timed_rule o packet) next_is;
    })

-- a packet whose header is not written breaks the rule of it
pub shape_broken : (accepted : List (List ℕ)) (c : Auditing) (packet : List ℕ) → (IsAtEnd c → ⊥)
    → has_shape packet ≡ false → Shape ≡ rule_at accepted c packet
shape_broken accepted (inl c) packet unended shape = rw shape refl
shape_broken accepted (inr c) packet unended shape = by c.next refl
  where
    by : (o : Option TsPacket) → c.next ≡ o → Shape ≡ timed_rule o packet
    by None e = absurd (unended e)
    by (Some next) e = rw shape refl

-- what is answered of a packet, by the auditor of its kind
pub exactly_of : (airings : List AiredTables) (accepted packets : List (List ℕ))
    (now own : Auditing) (result told : Option Rule) → own ≡ now → result ≡ told
    → (StandsAt airings accepted own → IsNone told ↔ BeginsFor own airings packets)
    → StandsAt airings accepted now → IsNone result ↔ BeginsFor now airings packets
exactly_of airings accepted packets now own result told same is by stands =
    subst (λ (c : Auditing). IsNone result ↔ BeginsFor c airings packets) same
    (subst (λ (r : Option Rule). IsNone r ↔ BeginsFor own airings packets) (sym is)
    (by (subst (StandsAt airings accepted) (sym same) stands)))

-- after a whole air no packet is accepted
pub nothing_after : (rate : Option ℕ) (nulls : Bool) (airings : List AiredTables) (accepted : List (List ℕ)) (c : Auditing) (packet : List ℕ) → IsOf rate nulls c → StandsAt airings accepted c
    → IsAtEnd c → BeginAirAt rate nulls airings (accepted ++ packet ∷ []) → ⊥
nothing_after rate nulls airings accepted (inl c) packet is stands end b =
    dense_ends.whole_airs_end airings accepted packet stands.can_be_sent ((dense.end_is_air airings accepted c stands).0 end)
    (subst (λ r. BeginAirAt r nulls airings (accepted ++ packet ∷ [])) is b)
nothing_after rate nulls airings accepted (inr c) packet is stands end b =
    timed_airs.whole_airs_end c.playing.rate c.nulls airings accepted packet (timed.after_is_air airings accepted c (timed.stands_after airings accepted c end stands))
    (of_timed rate nulls c.nulls c.playing.rate (λ r n. BeginAirAt r n airings (accepted ++ packet ∷ [])) is.0 is.1 b)

-- and before its end it is none
pub no_air_yet : (rate : Option ℕ) (nulls : Bool) (airings : List AiredTables) (accepted : List (List ℕ)) (c : Auditing) → IsOf rate nulls c → StandsAt airings accepted c
    → (IsAtEnd c → ⊥) → AreAirAt rate nulls airings accepted → ⊥
no_air_yet rate nulls airings accepted (inl c) is stands unended air_is =
    unended ((dense.end_is_air airings accepted c stands).1 (subst (λ r. AreAirAt r nulls airings accepted) is air_is))
no_air_yet rate nulls airings accepted (inr c) is stands unended air_is =
    let (next, next_is, begins) = timed.expects airings accepted c stands unended in
    timed_airs.whole_airs_end c.playing.rate c.nulls airings accepted next.0 (of_timed rate nulls c.nulls c.playing.rate (λ r n. AreAirAt r n airings accepted) is.0 is.1 air_is) begins
