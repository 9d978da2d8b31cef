-- Behind a whole air nothing goes on.
use Rattle.std.proofs.Common.{◌≡◌, ℕ, ◌<◌, List, [], ◌∷◌, ◌++◌, refl, sym, ap, ap₂, ◌∙◌, subst, map, append-nil, append_assoc}
use Rattle.std.specs.Prelude.{None}
use Rattle.std.specs.List.{AllByRecursion}
use Rattle.std.proofs.lemmas.List.{map-append}
use Rattle.si_lists.proofs.Lists.{all_front}
use Rattle.version_book.specs.Airings.{AiredTables}
use Rattle.ts_packets.specs.Bytes.{HasFields, bytes_of_packet, Packet}
use Rattle.ts_packets.specs.Counting.{Load, loads_on, Count}
use Rattle.ts_packets.proofs.Stamps.{loads_on-append}
use Rattle.air_model.specs.Air.{Aired, CanBeSent, IsNullOrOther, HasNoNull, Cycles, IsAirOf, air, airings_of}
use Rattle.air_audit.specs.Fronts.{ToCome, nothing}
use Rattle.air_audit.specs.Audits.{AreAnAir, BeginAnAir, SoFar}
use Rattle.air_audit.specs.Laws.{LongerAirs, WholeAirsEnd}
use Rattle.air_audit.proofs.Airs.{begins-goes}
use Rattle.air_audit.proofs.Lists.{Count-front}
use Rattle.air_audit.proofs.Runs.{none_so_far, nothing_goes}

-- where an air is whole, nothing of it is to come
whole_so_far : (airings : List AiredTables) (xs : List Aired) → IsAirOf airings xs → HasNoNull (air xs) → SoFar airings (air xs) (λ (pid : ℕ). nothing)
whole_so_far airings xs is no_null = record {
  xs = xs;
  last = None;
  handed = [];
  airings_are = sym is.airings_are;
  packets_are = sym (append-nil (air xs));
  cycles = is.cycles;
  no_null = no_null;
  carried = λ pid. none_so_far [];
  counted = is.counted;
  fields = is.fields;
}

pub whole_airs_end : WholeAirsEnd
whole_airs_end airings packets bytes fit is begins =
    let cut = subst (λ (l : List (List ℕ)). BeginAnAir airings (l ++ bytes ∷ [])) (sym is.packets_are) begins in
    let goes = begins-goes airings (air is.xs) (λ (pid : ℕ). nothing) bytes fit (whole_so_far airings is.xs is.is_air is.no_null) cut in
    nothing_goes goes.packet.piece goes.behind goes.goes

-- cycles of the first of these airings, and those behind them
record Parted (past airings : List AiredTables) (zs : List Aired) : Type 0 where
  xs : List Aired
  ys : List Aired
  are : zs ≡ xs ++ ys
  airings_are : airings_of xs ≡ airings
  cycles : Cycles past xs

parted : (past airings more : List AiredTables) (zs : List Aired) → airings_of zs ≡ airings ++ more → Cycles past zs → Parted past airings zs
parted past [] more zs e c = record { xs = []; ys = zs; are = refl; airings_are = refl; cycles = tt }
parted past (a ∷ airings) more [] e c = cc e
parted past (a ∷ airings) more (z ∷ zs) e c =
    let same : z.airing ≡ a = cc e in
    let others : airings_of zs ≡ airings ++ more = cc e in
    let p = parted (past ++ z.airing ∷ []) airings more zs others c.1 in
    record { xs = z ∷ p.xs; ys = p.ys; are = ap (λ (l : List Aired). z ∷ l) p.are; airings_are = ap₂ (λ (x : AiredTables) (l : List AiredTables). x ∷ l) same p.airings_are; cycles = (c.0, p.cycles) }

air-parts : (xs ys : List Aired) → air (xs ++ ys) ≡ air xs ++ air ys
air-parts [] ys = refl
air-parts (x ∷ xs) ys = ap (λ (l : List Packet). x.packets ++ l) (air-parts xs ys) ∙ sym (append_assoc x.packets (air xs) (air ys))

-- the first cycles of an air are an air of the first airings
first_cycles : (airings more : List AiredTables) (zs : List Aired) (is : IsAirOf (airings ++ more) zs) → (p : Parted [] airings zs) → IsAirOf airings p.xs
first_cycles airings more zs is p =
    let cut : air zs ≡ air p.xs ++ air p.ys = ap air p.are ∙ air-parts p.xs p.ys in
    record {
      airings_are = p.airings_are;
      cycles = p.cycles;
      counted = λ pid. Count-front 0 (loads_on pid (air p.xs)) (loads_on pid (air p.ys)) (subst (Count 0) (ap (loads_on pid) cut ∙ loads_on-append pid (air p.xs) (air p.ys)) (is.counted pid));
      fields = all_front HasFields (air p.xs) (air p.ys) (subst (AllByRecursion HasFields) cut is.fields);
      nulls = all_front IsNullOrOther (air p.xs) (air p.ys) (subst (AllByRecursion IsNullOrOther) cut is.nulls);
    }

pub longer_airs : LongerAirs
longer_airs airings more packets fit is begins = of (map bytes_of_packet (air p.ys)) (sym is.packets_are ∙ ap (map bytes_of_packet) (ap air p.are ∙ air-parts p.xs p.ys) ∙ map-append bytes_of_packet (air p.xs) (air p.ys))
  where
    p : Parted [] airings is.xs
    p = parted [] airings more is.xs is.is_air.airings_are is.is_air.cycles

    no_null : HasNoNull (air p.xs)
    no_null = all_front (λ (q : Packet). q.pid < 8191) (air p.xs) (air p.ys) (subst HasNoNull (ap air p.are ∙ air-parts p.xs p.ys) is.no_null)

    front : AreAnAir airings (map bytes_of_packet (air p.xs))
    front = record { xs = p.xs; is_air = first_cycles airings more is.xs is.is_air p; no_null = no_null; packets_are = refl }

    of : (behind : List (List ℕ)) → packets ≡ map bytes_of_packet (air p.xs) ++ behind → AreAnAir airings packets
    of [] e = subst (AreAnAir airings) (sym (e ∙ append-nil (map bytes_of_packet (air p.xs)))) front
    of (b ∷ behind) e =
        let start = map bytes_of_packet (air p.xs) in
        absurd (whole_airs_end airings start b fit front (record {
          more = behind ++ begins.more;
          whole = subst (AreAnAir airings) (ap (λ (l : List (List ℕ)). l ++ begins.more) e ∙ append_assoc start (b ∷ behind) begins.more ∙ sym (append_assoc start (b ∷ []) (behind ++ begins.more))) begins.whole;
        }))
