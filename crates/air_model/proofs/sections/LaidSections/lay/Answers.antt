use Rattle.std.proofs.Common.{◌≡◌, ◌∷◌, List, [], length, sym, ap, ◌∙◌, subst, subst₂, arith}
use Rattle.section_codec.specs.declared.table.SubTable.{SubTable}
use Rattle.version_book.specs.Airings.{CycleForm}
use Rattle.air_model.specs.Air.{Sent, tdt, times}
use Rattle.air_model.specs.Laying.{AreLaid, cycle_under, room_for}
use Rattle.air_model.proofs.Begun.{laid_placed, laid_within, cycle_laid, laid_count}
use Rattle.air_model.proofs.Laid.{laid_sent}
use Rattle.air_model.proofs.Retelling.{laid_told}
use Rattle.air_model.proofs.sections.LaidSections.lay.Goals as goal

pub lay_cycle-requires-clause-room : goal.lay_cycle-requires-clause-room
lay_cycle-requires-clause-room c = omega (arith, c.requires.room.room, c.in_ok-section.ensures.size, ap room_for c.as_slice.ensures)

pub returns-clause-sections : goal.returns-clause-sections
returns-clause-sections c past quota stands =
    let ts = c.args.tables.now.list in
    let vs = c.as_slice-2.result.now in
    let form : CycleForm = record { quota = quota; offsets = c.args.offsets.now } in
    let bytes = c.lay_cycle.new.bytes.items in
    let placed = c.lay_cycle.new.placed.items in
    let laid = c.lay_cycle.ensures [] (record { bytes_are = c.requires.room.no_byte; placed_are = c.requires.room.no_place }) in
    let whole : AreLaid (cycle_under vs ts (times form c.args.moment.0)) bytes placed =
    subst₂ (λ (l : List SubTable) (t : List Sent). AreLaid (cycle_under vs l (tdt c.args.moment.0 ∷ t)) bytes placed) c.as_slice.ensures c.in_ok-section.ensures.sent laid in
    cycle_laid past c.args.moment.0 form vs ts bytes placed whole (c.as_slice-2.ensures ∙ c.in_ok-versions.ensures.versions past c.args.moment.0 form stands)

pub returns-clause-placed : goal.returns-clause-placed
returns-clause-placed c =
    let ts = c.args.tables.now.list in
    let vs = c.as_slice-2.result.now in
    let form : CycleForm = record { quota = 0; offsets = c.args.offsets.now } in
    let bytes = c.lay_cycle.new.bytes.items in
    let placed = c.lay_cycle.new.placed.items in
    let laid = c.lay_cycle.ensures [] (record { bytes_are = c.requires.room.no_byte; placed_are = c.requires.room.no_place }) in
    let whole : AreLaid (cycle_under vs ts (times form c.args.moment.0)) bytes placed =
    subst₂ (λ (l : List SubTable) (t : List Sent). AreLaid (cycle_under vs l (tdt c.args.moment.0 ∷ t)) bytes placed) c.as_slice.ensures c.in_ok-section.ensures.sent laid in
    laid_placed vs ts c.args.moment.0 form bytes placed whole c.requires.fit.each c.requires.offsets

pub returns-clause-within : goal.returns-clause-within
returns-clause-within c quota =
    let ts = c.args.tables.now.list in
    let vs = c.as_slice-2.result.now in
    let form : CycleForm = record { quota = quota; offsets = c.args.offsets.now } in
    let bytes = c.lay_cycle.new.bytes.items in
    let placed = c.lay_cycle.new.placed.items in
    let laid = c.lay_cycle.ensures [] (record { bytes_are = c.requires.room.no_byte; placed_are = c.requires.room.no_place }) in
    let whole : AreLaid (cycle_under vs ts (times form c.args.moment.0)) bytes placed =
    subst₂ (λ (l : List SubTable) (t : List Sent). AreLaid (cycle_under vs l (tdt c.args.moment.0 ∷ t)) bytes placed) c.as_slice.ensures c.in_ok-section.ensures.sent laid in
    let each : length vs ≡ length ts = ap length c.as_slice-2.ensures ∙ c.in_ok-versions.ensures.each in
    laid_within vs ts c.args.moment.0 form bytes placed whole each

pub returns-clause-told : goal.returns-clause-told
returns-clause-told c past quota at stands =
    let ts = c.args.tables.now.list in
    let vs = c.as_slice-2.result.now in
    let form : CycleForm = record { quota = quota; offsets = c.args.offsets.now } in
    let bytes = c.lay_cycle.new.bytes.items in
    let placed = c.lay_cycle.new.placed.items in
    let laid = c.lay_cycle.ensures [] (record { bytes_are = c.requires.room.no_byte; placed_are = c.requires.room.no_place }) in
    let whole : AreLaid (cycle_under vs ts (times form c.args.moment.0)) bytes placed =
    subst₂ (λ (l : List SubTable) (t : List Sent). AreLaid (cycle_under vs l (tdt c.args.moment.0 ∷ t)) bytes placed) c.as_slice.ensures c.in_ok-section.ensures.sent laid in
    laid_told past at c.args.moment.0 form vs ts bytes placed whole c.requires.fit.each (c.as_slice-2.ensures ∙ c.in_ok-versions.ensures.versions past at form stands)

pub returns-clause-line : goal.returns-clause-line
returns-clause-line c =
    let ts = c.args.tables.now.list in
    let vs = c.as_slice-2.result.now in
    let form : CycleForm = record { quota = 0; offsets = c.args.offsets.now } in
    let bytes = c.lay_cycle.new.bytes.items in
    let placed = c.lay_cycle.new.placed.items in
    let laid = c.lay_cycle.ensures [] (record { bytes_are = c.requires.room.no_byte; placed_are = c.requires.room.no_place }) in
    let whole : AreLaid (cycle_under vs ts (times form c.args.moment.0)) bytes placed =
    subst₂ (λ (l : List SubTable) (t : List Sent). AreLaid (cycle_under vs l (tdt c.args.moment.0 ∷ t)) bytes placed) c.as_slice.ensures c.in_ok-section.ensures.sent laid in
    record {
      laid = subst (λ (l : List Sent). AreLaid l bytes placed) (sym (laid_sent (cycle_under vs ts (times form c.args.moment.0)) bytes placed whole)) whole;
      each = laid_placed vs ts c.args.moment.0 form bytes placed whole c.requires.fit.each c.requires.offsets;
    }

pub returns-clause-count : goal.returns-clause-count
returns-clause-count c past quota =
    let ts = c.args.tables.now.list in
    let vs = c.as_slice-2.result.now in
    let form : CycleForm = record { quota = quota; offsets = c.args.offsets.now } in
    let bytes = c.lay_cycle.new.bytes.items in
    let placed = c.lay_cycle.new.placed.items in
    let laid = c.lay_cycle.ensures [] (record { bytes_are = c.requires.room.no_byte; placed_are = c.requires.room.no_place }) in
    let whole : AreLaid (cycle_under vs ts (times form c.args.moment.0)) bytes placed =
    subst₂ (λ (l : List SubTable) (t : List Sent). AreLaid (cycle_under vs l (tdt c.args.moment.0 ∷ t)) bytes placed) c.as_slice.ensures c.in_ok-section.ensures.sent laid in
    let each : length vs ≡ length ts = ap length c.as_slice-2.ensures ∙ c.in_ok-versions.ensures.each in
    laid_count past vs ts c.args.moment.0 form bytes placed whole each
