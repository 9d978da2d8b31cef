-- The keys of what is heard of an air are those that its airings carry.
use Rattle.std.proofs.Common.{◌≡◌, ℕ, ◌/◌, ◌≤◌, List, [], ◌∷◌, ◌++◌, Bool, true, false, ◌||◌, Option, Some, None, length, take, map, refl, sym, ap, ◌∙◌, subst, arith, length-take}
use Rattle.std.specs.Prelude.{if◌then◌else◌, flat_map, slice_range}
use Rattle.std.specs.List.{AllByRecursion}
use Rattle.std.specs.Set.{is_member}
use Rattle.std.proofs.Math.Bool.{or-true}
use Rattle.std.proofs.lemmas.List.Folds.{list_any-append}
use Rattle.section_codec.specs.declared.table.Key.{Key}
use Rattle.section_codec.specs.declared.table.SubTable.{SubTable}
use Rattle.section_codec.specs.Contents.{Content}
use Rattle.section_codec.specs.KeyOrder.{is_key}
use Rattle.version_book.specs.Airings.{AiredTables, content_in}
use Rattle.ts_packets.specs.Bytes.{bytes_of_packet}
use Rattle.ts_packets.specs.WholePackets.{whole_packets}
use Rattle.ts_demux.specs.Sections.{heard_all}
use Rattle.sub_collect.specs.Runs.{Counted}
use Rattle.sub_collect.specs.KeyCounts.{section_keys}
use Rattle.sub_collect.specs.Completions.{of_key}
use Rattle.sub_collect.proofs.KeyCounts.{key_among}
use Rattle.section_codec.specs.Tables.{is_counted}
use Rattle.guide_receiver.specs.Dones.{counted_heard}
use Rattle.air_model.specs.Air.{Aired, air, airings_of, air_bytes}
use Rattle.air_model.specs.Repeating.{IsRepeatingAirOf}
use Rattle.air_laws.specs.Counting.{CanBeHeard}
use Rattle.air_laws.specs.Sending.{carried_keys}
use Rattle.air_laws.specs.Joining.{count_before}
use Rattle.air_laws.specs.CoherenceLaws.{HeardKeysAreCarried}
use Rattle.air_laws.proofs.Counts.{none_counts}
use Rattle.air_laws.proofs.CoherenceTold.{Told, section_of, IsToldOf}
use Rattle.air_laws.proofs.Coherent.{part_heard, part_sections, part_each, front_part, part-map, front_packets}

-- a key that has a content among sub-tables is one of theirs
content_key : (k : Key) (ts : List SubTable) (c : Content) → content_in k ts ≡ Some c → is_member is_key (map (λ (t : SubTable). t.key) ts) k ≡ true
content_key k [] c e = cc
content_key k (t ∷ ts) c e = go (is_key k t.key) e (content_key k ts c)
  where
    go : (b : Bool) → (if b then Some t.sections else content_in k ts) ≡ Some c → (content_in k ts ≡ Some c → is_member is_key (map (λ (u : SubTable). u.key) ts) k ≡ true)
        → (b || is_member is_key (map (λ (u : SubTable). u.key) ts) k) ≡ true
    go true f rest = refl
    go false f rest = rest f

-- and is carried by all airings with the one that has it
carried_among : (k : Key) (before : List Aired) (x : Aired) (after : List Aired) (c : Content) → content_in k x.airing.tables ≡ Some c
    → is_member is_key (carried_keys (airings_of (before ++ x ∷ after))) k ≡ true
carried_among k [] x after c e =
    list_any-append (is_key k) (map (λ (t : SubTable). t.key) x.airing.tables) (carried_keys (airings_of after))
    ∙ ap (λ b. b || is_member is_key (carried_keys (airings_of after)) k) (content_key k x.airing.tables c e)
carried_among k (y ∷ before) x after c e =
    list_any-append (is_key k) (map (λ (t : SubTable). t.key) y.airing.tables) (carried_keys (airings_of (before ++ x ∷ after)))
    ∙ ap (λ b. is_member is_key (map (λ (t : SubTable). t.key) y.airing.tables) k || b) (carried_among k before x after c e)
    ∙ or-true (is_member is_key (map (λ (t : SubTable). t.key) y.airing.tables) k)

module _ (airings : List AiredTables) (xs : List Aired) (is : IsRepeatingAirOf airings xs) (can : AllByRecursion CanBeHeard airings) (k : Key) (join end : ℕ) where
  carried_told : (ts : List Told) → AllByRecursion (IsToldOf k (count_before k.pid (air xs) join) (count_before k.pid (air xs) end) xs) ts → (map section_of ts ≡ [] → Prim.⊥)
      → is_member is_key (carried_keys airings) k ≡ true
  carried_told [] each some = absurd (some refl)
  carried_told (t ∷ ts) each some =
      let told = each.0 in
      subst (λ (all : List AiredTables). is_member is_key (carried_keys all) k ≡ true) (ap airings_of (sym told.cut) ∙ is.airings_are)
      (carried_among k t.before t.cycle told.after told.content told.carries)

  carried_part : (b : Bool) → is_counted k.pid k.table ≡ b → (of_key k (counted_heard (map bytes_of_packet (slice_range (air xs) join end))) ≡ [] → Prim.⊥)
      → is_member is_key (carried_keys airings) k ≡ true
  carried_part false e some = absurd (some (none_counts k e (heard_all [] (map bytes_of_packet (slice_range (air xs) join end)))))
  carried_part true e some =
      carried_told (part_heard airings xs is can k e join end) (part_each airings xs is can k e join end)
      (λ none. some (part_sections airings xs is can k e join end ∙ none))

pub heard_keys_carried : HeardKeysAreCarried
heard_keys_carried airings xs is can n join end le k there =
    let all : List (List ℕ) = map bytes_of_packet (air xs) in
    let front : whole_packets (take n (air_bytes xs)) ≡ take (n / 188) all = front_packets airings xs is n in
    let few : end ≤ n / 188 = (let a = ap length front in let b = length-take (n / 188) all in omega (arith, le, a, b)) in
    let part : slice_range (whole_packets (take n (air_bytes xs))) join end ≡ map bytes_of_packet (slice_range (air xs) join end) =
    ap (λ (ps : List (List ℕ)). slice_range ps join end) front ∙ front_part (n / 188) join end all few ∙ part-map bytes_of_packet join end (air xs) in
    carried_part airings xs is can k join end (is_counted k.pid k.table) refl
    (key_among (counted_heard (map bytes_of_packet (slice_range (air xs) join end))) k
    (ap (λ (ps : List (List ℕ)). is_member is_key (section_keys (counted_heard ps)) k) (sym part) ∙ there))
