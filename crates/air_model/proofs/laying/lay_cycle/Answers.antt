use Rattle.std.proofs.Common.{◌≡◌, min, ℕ, List, [], ◌∷◌, ◌++◌, length, take, drop, ap, ap₂, ◌∙◌, subst, arith, append_assoc}
use Rattle.std.specs.List.{prefix_len}
use Rattle.std.proofs.lemmas.List.Sums.{prefix_len-le-length}
use Rattle.air_model.specs.Air.{Sent, leads, before_tdt, behind_tdt}
use Rattle.air_model.specs.Laying.{AreLaid, sections_under, told_with}
use Rattle.air_model.proofs.Laid.{room-parts, take_within, drop_within}
use Rattle.air_model.proofs.laying.lay_cycle.Goals as goal

pub split_at-requires : goal.split_at-requires
split_at-requires c = omega (arith, c.lead_count-count.ensures, prefix_len-le-length leads c.args.tables.now)

pub lay_tables-requires-clause-room : goal.lay_tables-requires-clause-room
lay_tables-requires-clause-room c =
    let cut = room-parts c.lead_count-count.result c.args.tables.now c.split_at.result.0.now c.split_at.result.1.now c.split_at.ensures.front c.split_at.ensures.back in
    omega (arith, cut.0, c.requires.room)

pub lay_tables-requires-clause-places : goal.lay_tables-requires-clause-places
lay_tables-requires-clause-places c =
    let cut = room-parts c.lead_count-count.result c.args.tables.now c.split_at.result.0.now c.split_at.result.1.now c.split_at.ensures.front c.split_at.ensures.back in
    omega (arith, cut.1, c.requires.places)

pub lay_times-requires-clause-room : goal.lay_times-requires-clause-room
lay_times-requires-clause-room c =
    let cut = room-parts c.lead_count-count.result c.args.tables.now c.split_at.result.0.now c.split_at.result.1.now c.split_at.ensures.front c.split_at.ensures.back in
    omega (arith, cut.0, c.requires.room, c.lay_tables.ensures.bytes.len, c.lay_tables.ensures.bytes.capacity)

pub lay_times-requires-clause-places : goal.lay_times-requires-clause-places
lay_times-requires-clause-places c =
    let cut = room-parts c.lead_count-count.result c.args.tables.now c.split_at.result.0.now c.split_at.result.1.now c.split_at.ensures.front c.split_at.ensures.back in
    omega (arith, cut.1, c.requires.places, c.lay_tables.ensures.placed.len, c.lay_tables.ensures.placed.capacity)

pub lay_tables-requires-2-clause-room : goal.lay_tables-requires-2-clause-room
lay_tables-requires-2-clause-room c =
    let cut = room-parts c.lead_count-count.result c.args.tables.now c.split_at.result.0.now c.split_at.result.1.now c.split_at.ensures.front c.split_at.ensures.back in
    omega (arith, cut.0, c.requires.room, c.lay_tables.ensures.bytes.len, c.lay_tables.ensures.bytes.capacity, c.lay_times.ensures.bytes.len, c.lay_times.ensures.bytes.capacity)

pub lay_tables-requires-2-clause-places : goal.lay_tables-requires-2-clause-places
lay_tables-requires-2-clause-places c =
    let cut = room-parts c.lead_count-count.result c.args.tables.now c.split_at.result.0.now c.split_at.result.1.now c.split_at.ensures.front c.split_at.ensures.back in
    omega (arith, cut.1, c.requires.places, c.lay_tables.ensures.placed.len, c.lay_tables.ensures.placed.capacity, c.lay_times.ensures.placed.len, c.lay_times.ensures.placed.capacity)

pub returns : goal.returns
returns c ss h =
    let tables = c.args.tables.now in
    let versions = c.args.versions.now in
    let n = prefix_len leads tables in
    let told = told_with c.args.moment.0 c.args.section.now in
    let early = sections_under c.split_at-2.result.0.now c.split_at.result.0.now in
    let late = sections_under c.split_at-2.result.1.now c.split_at.result.1.now in
    let before : c.split_at.result.0.now ≡ before_tdt tables = c.split_at.ensures.front ∙ ap (λ (k : ℕ). take k tables) c.lead_count-count.ensures in
    let behind : c.split_at.result.1.now ≡ behind_tdt tables = c.split_at.ensures.back ∙ ap (λ (k : ℕ). drop k tables) c.lead_count-count.ensures in
    let at : c.min.result ≡ min n (length versions) = omega (arith, c.min.ensures, c.lead_count-count.ensures) in
    let first : c.split_at-2.result.0.now ≡ take n versions = c.split_at-2.ensures.front ∙ ap (λ (k : ℕ). take k versions) at ∙ take_within n versions in
    let second : c.split_at-2.result.1.now ≡ drop n versions = c.split_at-2.ensures.back ∙ ap (λ (k : ℕ). drop k versions) at ∙ drop_within n versions in
    let joined : ((ss ++ early) ++ told) ++ late ≡ ss ++ (early ++ (told ++ late)) = append_assoc (ss ++ early) told late ∙ append_assoc ss early (told ++ late) in
    let placed : early ++ (told ++ late) ≡ sections_under (take n versions) (before_tdt tables) ++ (told ++ sections_under (drop n versions) (behind_tdt tables)) =
    ap₂ (λ (x y : List Sent). x ++ (told ++ y)) (ap₂ sections_under first before) (ap₂ sections_under second behind) in
    subst (λ (l : List Sent). AreLaid l c.lay_tables-2.new.bytes.items c.lay_tables-2.new.placed.items) (joined ∙ ap (λ (l : List Sent). ss ++ l) placed)
    (c.lay_tables-2.ensures.laid ((ss ++ early) ++ told) (c.lay_times.ensures.laid (ss ++ early) (c.lay_tables.ensures.laid ss h)))
