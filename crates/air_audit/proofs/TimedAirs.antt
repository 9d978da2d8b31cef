-- An airing list has one air at a bit rate.
use Rattle.std.proofs.Common.{◌≡◌, ℕ, Bool, true, false, List, [], ◌∷◌, ◌++◌, length, map, refl, sym, ap, ap₂, ◌∙◌, subst, arith, append_assoc, append-nil, length-append}
use Rattle.std.specs.Prelude.{not}
use Rattle.std.proofs.lemmas.List.{map-append}
use Rattle.std.proofs.lemmas.List.Concat.{flat_map-append}
use Rattle.std.proofs.lemmas.List.Elements.{filter-append}
use Rattle.version_book.specs.Airings.{AiredTables}
use Rattle.ts_packets.specs.Bytes.{Packet, bytes_of_packet}
use Rattle.air_model.specs.Air.{Aired, air, airings_of}
use Rattle.cycle_timing.specs.Cycle.{cycle_timed, clock_of, AreTimed}
use Rattle.air_audit.specs.Passing.{is_null}
use Rattle.air_audit.specs.TimedAirs.{seen, seen_of, AreTheAir}
use Rattle.air_audit.specs.TimedLaws.{LongerBegins, LongerAirs, WholeAirsEnd}

-- ---- packets that are looked at

pub seen_append : (nulls : Bool) (one two : List (List ℕ))
    → seen nulls (one ++ two) ≡ seen nulls one ++ seen nulls two
seen_append false one two = refl
seen_append true one two = filter-append (λ (bytes : List ℕ). not (is_null bytes)) one two

pub seen_of_append : (nulls : Bool) (one two : List Packet)
    → seen_of nulls (one ++ two) ≡ seen_of nulls one ++ seen_of nulls two
seen_of_append nulls one two =
    ap (seen nulls) (map-append bytes_of_packet one two)
    ∙ seen_append nulls (map bytes_of_packet one) (map bytes_of_packet two)

pub air_append : (xs ys : List Aired) → air (xs ++ ys) ≡ air xs ++ air ys
air_append xs ys = flat_map-append (λ (x : Aired). x.packets) xs ys

pub seen_air : (nulls : Bool) (xs ys : List Aired)
    → seen_of nulls (air (xs ++ ys)) ≡ seen_of nulls (air xs) ++ seen_of nulls (air ys)
seen_air nulls xs ys = ap (seen_of nulls) (air_append xs ys)
    ∙ seen_of_append nulls (air xs) (air ys)

-- ---- cycles at a bit rate

-- the airings and the rate determine them
pub timed_same : (rate : ℕ) (before xs ys : List Aired) → airings_of xs ≡ airings_of ys
    → AreTimed rate before xs → AreTimed rate before ys → xs ≡ ys
timed_same rate before [] [] e one two = refl
timed_same rate before [] (y ∷ ys) e one two = cc e
timed_same rate before (x ∷ xs) [] e one two = cc e
timed_same rate before (x ∷ xs) (y ∷ ys) e one two =
    let first : x.airing ≡ y.airing = cc e in
    let others : airings_of xs ≡ airings_of ys = cc e in
    let packets : x.packets ≡ y.packets =
    one.0 ∙ ap (λ (a : AiredTables). cycle_timed rate (airings_of before) (air before)
    (clock_of rate before a) a) first ∙ sym two.0 in
    let same : x ≡ y = ap₂ (λ (a : AiredTables) (ps : List Packet). let z : Aired =
    record { airing = a; packets = ps } in z) first packets in
    ap₂ (λ (z : Aired) (zs : List Aired). z ∷ zs) same
    (timed_same rate (before ++ x ∷ []) xs ys others one.1
    (subst (λ (z : Aired). AreTimed rate (before ++ z ∷ []) ys) (sym same) two.1))

-- each airing list has such cycles
pub timed_more : (rate : ℕ) (before : List Aired) (airings : List AiredTables)
    → (xs : List Aired) × (airings_of xs ≡ airings) × AreTimed rate before xs
timed_more rate before [] = ([], refl, tt)
timed_more rate before (a ∷ airings) =
    let x : Aired = record {
      airing = a;
      packets =
          cycle_timed rate (airings_of before) (air before) (clock_of rate before a) a;
    } in
    let (xs, are, timed) = timed_more rate (before ++ x ∷ []) airings in
    (x ∷ xs, ap (λ (l : List AiredTables). a ∷ l) are, (refl, timed))

pub timed_join : (rate : ℕ) (before earlier cycles : List Aired) → AreTimed rate before earlier
    → AreTimed rate (before ++ earlier) cycles → AreTimed rate before (earlier ++ cycles)
timed_join rate before [] cycles first more =
    subst (λ (l : List Aired). AreTimed rate l cycles) (append-nil before) more
timed_join rate before (x ∷ earlier) cycles first more = (
  first.0,
  timed_join rate (before ++ x ∷ []) earlier cycles first.1
      (subst (λ (l : List Aired). AreTimed rate l cycles)
      (sym (append_assoc before (x ∷ []) earlier)) more),
)

-- the air of a longer list goes on after that of a shorter one
pub record GoesOn (rate : ℕ) (airings others : List AiredTables) (xs zs : List Aired) : Type 0 where
  pub ys : List Aired
  pub are : zs ≡ xs ++ ys

pub goes_on : (rate : ℕ) (airings others : List AiredTables) (xs zs : List Aired)
    → airings_of xs ≡ airings → AreTimed rate [] xs → airings_of zs ≡ airings ++ others
    → AreTimed rate [] zs
    → GoesOn rate airings others xs zs
goes_on rate airings others xs zs are timed all timed_all =
    let (ys, more, timed_more') = timed_more rate xs others in
    let same : airings_of zs ≡ airings_of (xs ++ ys) =
    all ∙ sym (map-append (λ (x : Aired). x.airing) xs ys
    ∙ ap₂ (λ (l m : List AiredTables). l ++ m) are more) in
    record {
      ys = ys;
      are = timed_same rate [] zs (xs ++ ys) same timed_all
          (timed_join rate [] xs ys timed timed_more');
    }

-- ---- laws

pub longer_begins : LongerBegins
longer_begins rate nulls airings others packets b =
    let w = b.whole in
    let (ys, more, timed_ys) = timed_more rate w.xs others in
    record {
      more = b.more ++ seen_of nulls (air ys);
      whole = record {
        xs = w.xs ++ ys;
        airings_are = map-append (λ (x : Aired). x.airing) w.xs ys
            ∙ ap₂ (λ (l m : List AiredTables). l ++ m) w.airings_are more;
        timed = timed_join rate [] w.xs ys w.timed timed_ys;
        packets_are = seen_air nulls w.xs ys
            ∙ ap (λ (l : List (List ℕ)). l ++ seen_of nulls (air ys)) w.packets_are
            ∙ append_assoc packets b.more (seen_of nulls (air ys));
      };
    }

-- the air of one list is one
pub same_air : (rate : ℕ) (nulls : Bool) (airings : List AiredTables) (one two : List (List ℕ))
    → AreTheAir rate nulls airings one → AreTheAir rate nulls airings two → one ≡ two
same_air rate nulls airings one two a b =
    sym a.packets_are ∙ ap (λ (l : List Aired). seen_of nulls (air l))
    (timed_same rate [] a.xs b.xs (a.airings_are ∙ sym b.airings_are) a.timed b.timed)
    ∙ b.packets_are

pub whole_airs_end : WholeAirsEnd
whole_airs_end rate nulls airings packets packet air_is b =
    let same = same_air rate nulls airings packets ((packets ++ packet ∷ []) ++ b.more) air_is
    b.whole in
    omega (
      arith,
      ap length same,
      length-append (packets ++ packet ∷ []) b.more,
      length-append
          packets (packet ∷ []),
    )

no_more : (one two three : List (List ℕ)) → (one ++ two) ++ three ≡ one → one ++ two ≡ one
no_more one two three e =
    let none : length two ≡ 0 = omega (
      arith,
      ap length e,
      length-append (one ++ two) three,
      length-append one two,
    ) in
    go two none
  where
    go : (l : List (List ℕ)) → length l ≡ 0 → one ++ l ≡ one
    go [] is = append-nil one
    go (x ∷ l) is = absurd (omega (arith, is))

pub longer_airs : LongerAirs
longer_airs rate nulls airings others packets long b =
    let w = b.whole in
    let on = goes_on rate airings others w.xs long.xs w.airings_are w.timed long.airings_are
    long.timed in
    let all : (packets ++ b.more) ++ seen_of nulls (air on.ys) ≡ packets =
    ap (λ (l : List (List ℕ)). l ++ seen_of nulls (air on.ys)) (sym w.packets_are)
    ∙ sym (seen_air nulls w.xs on.ys)
    ∙ ap (λ (l : List Aired). seen_of nulls (air l)) (sym on.are) ∙ long.packets_are in
    subst (AreTheAir rate nulls airings) (no_more packets b.more (seen_of nulls (air on.ys)) all) w
