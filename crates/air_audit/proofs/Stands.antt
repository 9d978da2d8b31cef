-- What an auditor at a bit rate stands for, from call to call.
use Rattle.std.proofs.Common.{◌≡◌, ℕ, ◌<◌, Bool, true, false, List, [], ◌∷◌, ◌++◌, Option, Some, None, length, map, refl, sym, ap, ◌∙◌, subst, arith, append_assoc, append-nil, inl, inr, ◌⊎◌}
use Rattle.std.specs.Prelude.{◌&&◌, ◌↔◌, not, is_some, IfNone, IsNone, bytes_eq}
use Rattle.std.proofs.lemmas.Bool.{cases_Bool}
use Rattle.std.proofs.lemmas.List.{append_cancel_left}
use Rattle.std.proofs.lemmas.Slice.Eq.{bytes_eq-Decides}
use Rattle.version_book.specs.Airings.{AiredTables}
use Rattle.ts_packets.specs.Bytes.{Packet, bytes_of_packet}
use Rattle.ts_packets.specs.declared.written.TsPacket.{TsPacket}
use Rattle.air_model.specs.Air.{Aired, air, airings_of}
use Rattle.air_model.proofs.Airs.{air-push, airings_of-push}
use Rattle.air_model.proofs.Counted.{length-counted}
use Rattle.air_audit.specs.Passing.{is_null, past_nulls}
use Rattle.cycle_player.specs.Playing.{TimedPlaying, AtEnd, Within, Begins}
use Rattle.cycle_player.proofs.Plays.{Within-end}
use Rattle.cycle_timing.proofs.Airs.{timed_airs_are_airs}
use Rattle.air_audit.specs.Checking.{has_shape}
use Rattle.air_audit.proofs.Checks.{shape_of_written}
use Rattle.std.specs.List.{AllByRecursion}
use Rattle.ts_packets.specs.Bytes.{HasFields}
use Rattle.air_audit.specs.TimedAirs.{seen_of, AreTheAir, BeginTheAir}
use Rattle.air_audit.specs.TimedChecking.{TimedChecking, StandsAfter, StandsWithin, StandsFor, IsWithin, IsPlaced, Came, IsAtEnd}
use Rattle.air_audit.specs.TimedLaws.{LongerListsAgree}
use Rattle.air_audit.proofs.TimedAirs.{goes_on, longer_begins, seen_air, seen_of_append, whole_airs_end}

-- ---- the player hands out a packet

-- what the next packet of a player tells
abbrev pub Comes : TimedPlaying → TimedPlaying → Option TsPacket → Type 0
Comes old new result =
    (xs : List Aired) (x : Aired) (p : Packet) (rest : List Packet) → Within xs x (p ∷ rest) old
    → (result ≡ Some (record { 0 = bytes_of_packet p })) × Within xs x rest new

-- one of the packets to come
pub record CameNext (xs : List Aired) (x : Aired) (rest : List Packet) (new : TimedPlaying)
    (packet : TsPacket) : Type 0 where
  pub p : Packet
  pub left : List Packet
  pub rest_is : rest ≡ p ∷ left
  pub bytes_are : packet.0 ≡ bytes_of_packet p
  pub within : Within xs x left new

pub came_next : (xs : List Aired) (x : Aired) (rest : List Packet) (old new : TimedPlaying)
    (result : Option TsPacket) (packet : TsPacket) → result ≡ Some packet → Comes old new result
    → IsNone result ↔ (old.left ≡ []) → Within xs x rest old → CameNext xs x rest new packet
came_next xs x [] old new result packet e comes none w =
    let gone : IsNone result = none.1 (Within-end xs x old w).none in
    let no = subst IsNone e gone in
    cc no
came_next xs x (p ∷ left) old new result packet e comes none w =
    let (is, within) = comes xs x p left w in
    let same : (let o : Option TsPacket = Some packet in o)
    ≡ Some (record { 0 = bytes_of_packet p }) = sym e ∙ is in
    let bytes : packet ≡ record { 0 = bytes_of_packet p } = cc same in
    record {
      p = p;
      left = left;
      rest_is = refl;
      bytes_are =
          ap (λ (q : TsPacket). q.0) bytes;
      within = within;
    }

pub came_last : (xs : List Aired) (x : Aired) (rest : List Packet) (old new : TimedPlaying)
    (result : Option TsPacket) → result ≡ None → Comes old new result → IfNone result (new ≡ old)
    → Within xs x rest old → AtEnd (xs ++ x ∷ []) new × (rest ≡ [])
came_last xs x [] old new result e comes kept w =
    let same : new ≡ old = subst (λ (o : Option TsPacket). IfNone o (new ≡ old)) e kept in
    (subst (AtEnd (xs ++ x ∷ [])) (sym same) (Within-end xs x old w), refl)
came_last xs x (p ∷ left) old new result e comes kept w =
    let (is, within) = comes xs x p left w in
    let no : (let o : Option TsPacket = None in o) ≡ Some (record { 0 = bytes_of_packet p }) =
    sym e ∙ is in
    cc no

-- so many packets are left
pub many_left : (xs : List Aired) (x : Aired) (rest : List Packet) (p : TimedPlaying)
    → Within xs x rest p → length rest ≡ length p.left
many_left xs x rest p w = ap length w.rest_is ∙ length-counted (air xs ++ w.handed) p.left

pub one_less : (xs : List Aired) (x : Aired) (rest : List Packet) (old new : TimedPlaying)
    (packet : TsPacket) → Within xs x rest old → CameNext xs x rest new packet
    → length new.left < length old.left
one_less xs x rest old new packet w came =
    omega (
      arith,
      many_left xs x rest old w,
      many_left xs x came.left new came.within,
      ap length
          came.rest_is,
    )

-- ---- packets that are looked at

-- a null packet is passed over
pub seen_passed : (nulls : Bool) (p : Packet) (left : List Packet) (bytes : List ℕ)
    → bytes ≡ bytes_of_packet p → (nulls && is_null bytes) ≡ true
    → seen_of nulls (p ∷ left) ≡ seen_of nulls left
seen_passed false p left bytes is e = cc e
seen_passed true p left bytes is e =
    let null : is_null (bytes_of_packet p) ≡ true = ap is_null (sym is) ∙ e in
    rw null refl

-- and no other one
pub seen_next : (nulls : Bool) (p : Packet) (left : List Packet) (bytes : List ℕ)
    → bytes ≡ bytes_of_packet p → (nulls && is_null bytes) ≡ false
    → seen_of nulls (p ∷ left) ≡ bytes ∷ seen_of nulls left
seen_next false p left bytes is e = ap (λ (b : List ℕ). b ∷ map bytes_of_packet left) (sym is)
seen_next true p left bytes is e =
    let other : is_null (bytes_of_packet p) ≡ false = ap is_null (sym is) ∙ e in
    rw other (ap (λ (b : List ℕ). b ∷ past_nulls (map bytes_of_packet left)) (sym is))

-- ---- the end of a run of null packets

-- from there the packets to come are as they were, but for null packets that are passed over
pub record KeepsOn (nulls : Bool) (xs : List Aired) (x : Aired) (rest : List Packet)
    (now : TimedPlaying) : Type 0 where
  pub left : List Packet
  pub within : Within xs x left now
  pub same : seen_of nulls rest ≡ seen_of nulls left

pub keeps_none : (nulls : Bool) (xs : List Aired) (x : Aired) (rest : List Packet)
    (now : TimedPlaying) → Within xs x rest now → KeepsOn nulls xs x rest now
keeps_none nulls xs x rest now w = record { left = rest; within = w; same = refl }

pub keeps_more : (nulls : Bool) (xs : List Aired) (x : Aired) (rest : List Packet)
    (mid new : TimedPlaying) (result : Option TsPacket) (packet : TsPacket)
    → KeepsOn nulls xs x rest mid → result ≡ Some packet
    → Comes mid new result → IsNone result ↔ (mid.left ≡ []) → (nulls && is_null packet.0) ≡ true
    → KeepsOn nulls xs x rest new
keeps_more nulls xs x rest mid new result packet k e comes none passed =
    let came = came_next xs x k.left mid new result packet e comes none k.within in
    record {
      left = came.left;
      within = came.within;
      same = k.same ∙ ap (seen_of nulls) came.rest_is
          ∙ seen_passed nulls came.p came.left packet.0 came.bytes_are passed;
    }

pub keeps_came : (nulls : Bool) (xs : List Aired) (x : Aired) (rest : List Packet)
    (mid new : TimedPlaying) (result : Option TsPacket) (packet : TsPacket)
    → KeepsOn nulls xs x rest mid → result ≡ Some packet
    → Comes mid new result → IsNone result ↔ (mid.left ≡ []) → (nulls && is_null packet.0) ≡ false
    → Came nulls xs x rest new (Some packet)
keeps_came nulls xs x rest mid new result packet k e comes none other =
    let came = came_next xs x k.left mid new result packet e comes none k.within in (
      came.left,
      came.within,
      k.same ∙ ap (seen_of nulls) came.rest_is
          ∙ seen_next nulls came.p came.left packet.0 came.bytes_are other,
    )

pub keeps_ended : (nulls : Bool) (xs : List Aired) (x : Aired) (rest : List Packet)
    (mid new : TimedPlaying) (result : Option TsPacket) → KeepsOn nulls xs x rest mid
    → result ≡ None
    → Comes mid new result → IfNone result (new ≡ mid) → Came nulls xs x rest new None
keeps_ended nulls xs x rest mid new result k e comes kept =
    let (end, gone) = came_last xs x k.left mid new result e comes kept k.within in
    (end, k.same ∙ ap (seen_of nulls) gone ∙ seen_none nulls)
  where
    seen_none : (n : Bool) → seen_of n [] ≡ []
    seen_none false = refl
    seen_none true = refl

pub came_placed : (nulls : Bool) (xs : List Aired) (x : Aired) (rest : List Packet)
    (p : TimedPlaying) (result : Option TsPacket) → Came nulls xs x rest p result
    → IsPlaced result p
came_placed nulls xs x rest p None came = (xs ++ x ∷ [], came.0)
came_placed nulls xs x rest p (Some next) came = (xs, x, came.0, came.1)

-- ---- what it stands for

-- with the packet that the player hands out next, where it stands within a cycle
pub stands_came : (nulls : Bool) (airings : List AiredTables) (accepted : List (List ℕ))
    (xs : List Aired) (x : Aired) (rest : List Packet) (c : TimedChecking) → c.nulls ≡ nulls
    → airings_of (xs ++ x ∷ []) ≡ airings
    → seen_of nulls (air (xs ++ x ∷ [])) ≡ accepted ++ seen_of nulls rest
    → Came nulls xs x rest c.playing c.next → StandsFor airings accepted c
stands_came nulls airings accepted xs x rest c same are packets came = by c.next refl came
  where
    by : (o : Option TsPacket) → c.next ≡ o → Came nulls xs x rest c.playing o
        → StandsFor airings accepted c
    by None e (end, none) = inl (record {
      xs = xs ++ x ∷ [];
      airings_are = are;
      at_end = end;
      none = e;
      accepted_are = ap (λ (n : Bool). seen_of n (air (xs ++ x ∷ []))) same ∙ packets
          ∙ ap (λ (l : List (List ℕ)). accepted ++ l) none ∙ append-nil accepted;
    })
    by (Some next) e (left, within, first) = inr (record {
      xs = xs;
      x = x;
      rest = left;
      airings_are = are;
      within = within;
      next = next;
      next_is = e;
      packets_are = ap (λ (n : Bool). seen_of n (air (xs ++ x ∷ []))) same ∙ packets
          ∙ ap (λ (l : List (List ℕ)). accepted ++ l) first
          ∙ ap (λ (n : Bool). accepted ++ next.0 ∷ seen_of n left) (sym same);
    })

-- where a packet is expected, it stands within a cycle
pub stands_within : (airings : List AiredTables) (accepted : List (List ℕ)) (c : TimedChecking)
    (next : TsPacket) → c.next ≡ Some next → StandsFor airings accepted c
    → StandsWithin airings accepted c
stands_within airings accepted c next e (inl after) =
    (let no : (let o : Option TsPacket = None in o) ≡ Some next = sym after.none ∙ e in cc no)
stands_within airings accepted c next e (inr within) = within

-- and where none is, after the last
pub stands_after : (airings : List AiredTables) (accepted : List (List ℕ)) (c : TimedChecking)
    → c.next ≡ None → StandsFor airings accepted c → StandsAfter airings accepted c
stands_after airings accepted c e (inl after) = after
stands_after airings accepted c e (inr within) =
    (let no : (let o : Option TsPacket = None in o) ≡ Some within.next = sym e ∙ within.next_is in
    cc no)

pub after_is_air : (airings : List AiredTables) (accepted : List (List ℕ)) (c : TimedChecking)
    → StandsAfter airings accepted c → AreTheAir c.playing.rate c.nulls airings accepted
after_is_air airings accepted c s =
    record {
      xs = s.xs;
      airings_are = s.airings_are;
      timed = s.at_end.timed;
      packets_are =
          s.accepted_are;
    }

-- the whole air of the list, with the cycle at hand
pub within_is_air : (airings : List AiredTables) (accepted : List (List ℕ)) (c : TimedChecking)
    (s : StandsWithin airings accepted c)
    → AreTheAir c.playing.rate c.nulls airings (accepted ++ s.next.0 ∷ seen_of c.nulls s.rest)
within_is_air airings accepted c s =
    record {
      xs = s.xs ++ s.x ∷ [];
      airings_are = s.airings_are;
      timed =
          s.within.timed;
      packets_are = s.packets_are;
    }

-- its first packets are accepted
pub stands_begins : (airings : List AiredTables) (accepted : List (List ℕ)) (c : TimedChecking)
    → StandsFor airings accepted c → BeginTheAir c.playing.rate c.nulls airings accepted
stands_begins airings accepted c (inl after) =
    record {
      more = [];
      whole = subst (AreTheAir c.playing.rate c.nulls airings)
          (sym (append-nil accepted)) (after_is_air airings accepted c after);
    }
stands_begins airings accepted c (inr within) =
    record {
      more = within.next.0 ∷ seen_of c.nulls within.rest;
      whole =
          within_is_air airings accepted c within;
    }

-- the packet that is expected is the next one,
pub next_begins : (airings : List AiredTables) (accepted : List (List ℕ)) (c : TimedChecking)
    (s : StandsWithin airings accepted c)
    → BeginTheAir c.playing.rate c.nulls airings (accepted ++ s.next.0 ∷ [])
next_begins airings accepted c s = record {
  more = seen_of c.nulls s.rest;
  whole = subst (AreTheAir c.playing.rate c.nulls airings)
      (sym (append_assoc accepted (s.next.0 ∷ []) (seen_of c.nulls s.rest)))
      (within_is_air airings accepted c s);
}

-- and no other one is, also of a longer list
pub only_next : (airings others : List AiredTables) (accepted : List (List ℕ)) (c : TimedChecking)
    (packet : List ℕ) (s : StandsWithin airings accepted c)
    → BeginTheAir c.playing.rate c.nulls (airings ++ others) (accepted ++ packet ∷ [])
    → s.next.0 ≡ packet
only_next airings others accepted c packet s b =
    let nulls = c.nulls in
    let on = goes_on c.playing.rate airings others (s.xs ++ s.x ∷ []) b.whole.xs s.airings_are
    s.within.timed b.whole.airings_are b.whole.timed in
    let more = seen_of nulls (air on.ys) in
    let whole : (accepted ++ s.next.0 ∷ seen_of nulls s.rest) ++ more ≡ (accepted ++ packet ∷ [])
    ++ b.more =
    ap (λ (l : List (List ℕ)). l ++ more) (sym s.packets_are)
    ∙ sym (seen_air nulls (s.xs ++ s.x ∷ []) on.ys)
    ∙ ap (λ (l : List Aired). seen_of nulls (air l)) (sym on.are) ∙ b.whole.packets_are in
    let rest : s.next.0 ∷ (seen_of nulls s.rest ++ more) ≡ packet ∷ b.more =
    append_cancel_left accepted (s.next.0 ∷ (seen_of nulls s.rest ++ more)) (packet ∷ b.more)
    (sym (append_assoc accepted (s.next.0 ∷ seen_of nulls s.rest) more) ∙ whole
    ∙ append_assoc accepted (packet ∷ []) b.more) in
    cc rest

pub only_next_here : (airings : List AiredTables) (accepted : List (List ℕ)) (c : TimedChecking)
    (packet : List ℕ) (s : StandsWithin airings accepted c)
    → BeginTheAir c.playing.rate c.nulls airings (accepted ++ packet ∷ []) → s.next.0 ≡ packet
only_next_here airings accepted c packet s b =
    only_next airings [] accepted c packet s
    (longer_begins c.playing.rate c.nulls airings [] (accepted ++ packet ∷ []) b)

-- ---- laws

pub longer_lists_agree : LongerListsAgree
longer_lists_agree airings others accepted c packet stands unended = (
  (λ b. by c.next refl b),
  (λ b. longer_begins c.playing.rate c.nulls airings others (accepted ++ packet ∷ []) b),
)
  where
    by : (o : Option TsPacket) → c.next ≡ o
        → BeginTheAir c.playing.rate c.nulls (airings ++ others) (accepted ++ packet ∷ [])
        → BeginTheAir c.playing.rate c.nulls airings (accepted ++ packet ∷ [])
    by None e b = absurd (unended e)
    by (Some next) e b =
        let s = stands_within airings accepted c next e stands in
        subst (λ (p : List ℕ). BeginTheAir c.playing.rate c.nulls airings (accepted ++ p ∷ []))
        (only_next airings others accepted c packet s b) (next_begins airings accepted c s)

-- ---- the calls

is_nothing : (o : Option TsPacket) (r : Bool) → is_some o ≡ not r → r ≡ true → o ≡ None
is_nothing None r e yes' = refl
is_nothing (Some next) r e yes' = cc (e ∙ ap not yes')

something : (o : Option TsPacket) (r : Bool) → is_some o ≡ not r → r ≡ false
    → (next : TsPacket) × (o ≡ Some next)
something None r e no' = cc (e ∙ ap not no')
something (Some next) r e no' = (next, refl)

-- at an end it is the whole air, and else it is none
pub end_is_air : (airings : List AiredTables) (accepted : List (List ℕ)) (c : TimedChecking)
    (r : Bool) → is_some c.next ≡ not r → StandsFor airings accepted c
    → (r ≡ true) ↔ AreTheAir c.playing.rate c.nulls airings accepted
end_is_air airings accepted c r e stands = (
  (λ yes'. after_is_air airings accepted c
      (stands_after airings accepted c (is_nothing c.next r e yes') stands)),
  (λ air_is. by (cases_Bool r) air_is),
)
  where
    by : (r ≡ true) ⊎ (r ≡ false) → AreTheAir c.playing.rate c.nulls airings accepted → r ≡ true
    by (inl yes') air_is = yes'
    by (inr no') air_is =
        let (next, is) = something c.next r e no' in
        let s = stands_within airings accepted c next is stands in
        absurd (whole_airs_end c.playing.rate c.nulls airings accepted s.next.0 air_is
        (next_begins airings accepted c s))

pub bytes_same : (one two : List ℕ) → bytes_eq one two ≡ true → one ≡ two
bytes_same one two e = (bytes_eq-Decides one two).0 e

pub apart : (one two : List ℕ) → bytes_eq one two ≡ false → one ≡ two → ⊥
apart one two e same =
    let yes' = (bytes_eq-Decides one two).1 same in
    let no : true ≡ false = sym yes' ∙ e in
    cc no

-- after the whole air no packet is accepted
pub ended_refuses : (airings : List AiredTables) (accepted : List (List ℕ)) (c : TimedChecking)
    (packet : List ℕ) → c.next ≡ None → StandsFor airings accepted c
    → (true ≡ false) ↔ BeginTheAir c.playing.rate c.nulls airings (accepted ++ packet ∷ [])
ended_refuses airings accepted c packet e stands = (
  (λ no. cc no),
  (λ b. absurd (whole_airs_end c.playing.rate c.nulls airings accepted packet
      (after_is_air airings accepted c (stands_after airings accepted c e stands)) b)),
)

pub expected_is : (airings : List AiredTables) (accepted : List (List ℕ)) (c : TimedChecking)
    (next : TsPacket) (s : StandsWithin airings accepted c) → c.next ≡ Some next → s.next ≡ next
expected_is airings accepted c next s e =
    let same : (let o : Option TsPacket = Some s.next in o) ≡ Some next = sym s.next_is ∙ e in
    cc same

-- nor is another packet than the one expected
pub other_refused : (airings : List AiredTables) (accepted : List (List ℕ)) (c : TimedChecking)
    (packet : List ℕ) (next : TsPacket) → c.next ≡ Some next → StandsFor airings accepted c
    → (next.0 ≡ packet → ⊥)
    → (true ≡ false) ↔ BeginTheAir c.playing.rate c.nulls airings (accepted ++ packet ∷ [])
other_refused airings accepted c packet next e stands other =
    let s = stands_within airings accepted c next e stands in (
      (λ no. cc no),
      (λ b. absurd (other (ap (λ (p : TsPacket). p.0)
          (sym (expected_is airings accepted c next s e))
          ∙ only_next_here airings accepted c packet s b))),
    )

pub expected_begins : (airings : List AiredTables) (accepted : List (List ℕ)) (c : TimedChecking)
    (next : TsPacket) → c.next ≡ Some next → StandsFor airings accepted c
    → BeginTheAir c.playing.rate c.nulls airings (accepted ++ next.0 ∷ [])
expected_begins airings accepted c next e stands =
    let s = stands_within airings accepted c next e stands in
    subst (λ (p : TsPacket). BeginTheAir c.playing.rate c.nulls airings (accepted ++ p.0 ∷ []))
    (expected_is airings accepted c next s e) (next_begins airings accepted c s)

-- the one expected is accepted, and the player hands out the next
pub accepted_next : (airings : List AiredTables) (accepted : List (List ℕ))
    (old new : TimedChecking) (packet : List ℕ) (next : TsPacket) → old.next ≡ Some next
    → StandsFor airings accepted old → next.0 ≡ packet
    → new.nulls ≡ old.nulls → ((xs : List Aired) (x : Aired) (rest : List Packet)
    → Within xs x rest old.playing → Came old.nulls xs x rest new.playing new.next)
    → StandsFor airings (accepted ++ packet ∷ []) new
accepted_next airings accepted old new packet next e stands same nulls came =
    let s = stands_within airings accepted old next e stands in
    let here : s.next.0 ≡ packet =
    ap (λ (p : TsPacket). p.0) (expected_is airings accepted old next s e) ∙ same in
    stands_came old.nulls airings (accepted ++ packet ∷ []) s.xs s.x s.rest new nulls s.airings_are
    (s.packets_are ∙ ap (λ (b : List ℕ). accepted ++ b ∷ seen_of old.nulls s.rest) here
    ∙ sym (append_assoc accepted (packet ∷ []) (seen_of old.nulls s.rest)))
    (came s.xs s.x s.rest s.within)

-- a cycle was begun, and the player stands within it
pub begun_within : (o : Option TsPacket) (old new : TimedPlaying) (a : AiredTables) → o ≡ None
    → IsPlaced o old → ((xs : List Aired) → AtEnd xs old → Begins xs a new) → IsWithin new
begun_within None old new a e (xs, end) begun =
    let (x, is, packets, w) = begun xs end in
    (xs, x, x.packets, w)
begun_within (Some next) old new a e placed begun = cc e

-- a cycle more is to come
pub swap_stands : (airings : List AiredTables) (accepted : List (List ℕ)) (old new : TimedChecking)
    (mid : TimedPlaying) (a : AiredTables) → old.next ≡ None → StandsFor airings accepted old
    → new.nulls ≡ old.nulls
    → ((xs : List Aired) → AtEnd xs old.playing → Begins xs a mid)
    → ((xs : List Aired) (x : Aired) (rest : List Packet) → Within xs x rest mid
    → Came old.nulls xs x rest new.playing new.next)
    → StandsFor (airings ++ a ∷ []) accepted new
swap_stands airings accepted old new mid a e stands nulls begun came =
    let s = stands_after airings accepted old e stands in
    let (x, is, packets, w) = begun s.xs s.at_end in
    stands_came old.nulls (airings ++ a ∷ []) accepted s.xs x x.packets new nulls
    (airings_of-push s.xs x ∙ ap (λ (l : List AiredTables). l ++ x.airing ∷ []) s.airings_are
    ∙ ap (λ (b : AiredTables). airings ++ b ∷ []) is)
    (ap (seen_of old.nulls) (air-push s.xs x) ∙ seen_of_append old.nulls (air s.xs) x.packets
    ∙ ap (λ (l : List (List ℕ)). l ++ seen_of old.nulls x.packets) s.accepted_are)
    (came s.xs x x.packets w)

-- ---- while a cycle has not ended

-- a packet is expected,
pub expects : (airings : List AiredTables) (accepted : List (List ℕ)) (c : TimedChecking)
    → StandsFor airings accepted c → (IsAtEnd c → ⊥)
    → (next : TsPacket) × (c.next ≡ Some next)
    × BeginTheAir c.playing.rate c.nulls airings (accepted ++ next.0 ∷ [])
expects airings accepted c (inl after) unended = absurd (unended after.none)
expects airings accepted c (inr s) unended = (s.next, s.next_is, next_begins airings accepted c s)

all_seen : (nulls : Bool) (ps : List Packet) → AllByRecursion HasFields ps
    → AllByRecursion (λ (b : List ℕ). has_shape b ≡ true) (seen_of nulls ps)
all_seen false [] all = tt
all_seen true [] all = tt
all_seen false (p ∷ ps) all = (shape_of_written p all.0, all_seen false ps all.1)
all_seen true (p ∷ ps) all = elim (cases_Bool (is_null (bytes_of_packet p))) [
  | inl null ↦ rw null (all_seen true ps all.1)
  | inr other ↦ rw other (shape_of_written p all.0, all_seen true ps all.1)
]

one_at : (P : List ℕ → Type 0) (front : List (List ℕ)) (b : List ℕ) (rest : List (List ℕ))
    → AllByRecursion P (front ++ b ∷ rest) → P b
one_at P [] b rest all = all.0
one_at P (a ∷ front) b rest all = one_at P front b rest all.1

-- whose header is one that is written
pub next_shape : (airings : List AiredTables) (accepted : List (List ℕ)) (c : TimedChecking)
    (packet : List ℕ) → StandsFor airings accepted c → (IsAtEnd c → ⊥)
    → BeginTheAir c.playing.rate c.nulls airings (accepted ++ packet ∷ []) → has_shape packet ≡ true
next_shape airings accepted c packet (inl after) unended b = absurd (unended after.none)
next_shape airings accepted c packet (inr s) unended b =
    let same : s.next.0 ≡ packet = only_next_here airings accepted c packet s b in
    let cycles : List Aired = s.xs ++ s.x ∷ [] in
    let fields = (timed_airs_are_airs c.playing.rate cycles s.within.timed s.within.can).fields in
    let all = subst (AllByRecursion (λ (b : List ℕ). has_shape b ≡ true)) s.packets_are
    (all_seen c.nulls (air cycles) fields) in
    subst (λ (b : List ℕ). has_shape b ≡ true) same
    (one_at (λ (b : List ℕ). has_shape b ≡ true) accepted s.next.0 (seen_of c.nulls s.rest) all)
