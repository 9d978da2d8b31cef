use Rattle.std.proofs.Common.{◌≡◌, ℕ, ◌+◌, ◌∷◌, ◌++◌, [], map, ap, ◌∙◌}
use Rattle.si_lists.proofs.Outcomes.{on_ok, ok_more}
use Rattle.section_codec.specs.declared.table.SubTable.{SubTable}
use Rattle.eit_segments.specs.Schedule.{last_table}
use Rattle.eit_segments.specs.Laws.{at_of}
use Rattle.publication.specs.Schedule.{last_table_of, schedules_of}
use Rattle.publication.specs.Streams.{bearer_of}
use Rattle.publication.proofs.EventFacts.{places_in, placed_in, small_entries}
use Rattle.publication.proofs.eit_tables.put_remote.Goals as goal

pub last_table-last-requires-clause-events : goal.last_table-last-requires-clause-events
last_table-last-requires-clause-events c =
    placed_in c.args.service.now.events c.as_slice.result.now c.in_ok-at.at.items c.deref.result.now c.deref.ensures.value c.in_ok-at.ensures.events c.as_slice.ensures c.requires.events c.in_ok-at.ensures.small

pub present_table-requires-clause-order : goal.present_table-requires-clause-order
present_table-requires-clause-order c =
    (placed_in c.args.service.now.events c.as_slice.result.now c.in_ok-at.at.items c.deref-2.result.now c.deref-2.ensures.value c.in_ok-at.ensures.events c.as_slice.ensures c.requires.events c.in_ok-at.ensures.small).order

pub put_schedule-requires-clause-placed : goal.put_schedule-requires-clause-placed
put_schedule-requires-clause-placed c =
    placed_in c.args.service.now.events c.as_slice.result.now c.in_ok-at.at.items c.deref-3.result.now c.deref-3.ensures.value c.in_ok-at.ensures.events c.as_slice.ensures c.requires.events c.in_ok-at.ensures.small

pub put_schedule-requires-clause-last : goal.put_schedule-requires-clause-last
put_schedule-requires-clause-last c =
    c.last_table-last.ensures.table
    ∙ ap (last_table c.midnight-day.result.0) (places_in c.args.service.now.events c.as_slice.result.now c.in_ok-at.at.items c.deref.result.now c.deref.ensures.value c.in_ok-at.ensures.events c.as_slice.ensures)

pub returns-clause-present : goal.returns-clause-present
returns-clause-present c =
    on_ok c.put_schedule.result _ (c.in_ok-push.ensures.ok ∙ ap (λ (t : SubTable). c.args.near.now ++ t ∷ []) c.in_ok-present_table.ensures)

pub returns-clause-far : goal.returns-clause-far
returns-clause-far c =
    let of = bearer_of c.args.of in
    let service = c.args.service.now in
    let day = c.midnight-day.result.0 in
    let last : c.last_table-last.result ≡ last_table_of day service.events =
    c.last_table-last.ensures.table
    ∙ ap (last_table day) (places_in service.events c.as_slice.result.now c.in_ok-at.at.items c.deref.result.now c.deref.ensures.value c.in_ok-at.ensures.events c.as_slice.ensures) in
    let made : c.put_schedule.new.list ≡ c.args.far.now ++ schedules_of of day service 0x50 (1 + c.last_table-last.result) → c.put_schedule.new.list ≡ _ =
    λ m. m
    ∙ ap (λ (n : ℕ). c.args.far.now ++ schedules_of of day service 0x50 (1 + n)) last
    ∙ ap (λ (d : ℕ). c.args.far.now ++ schedules_of of d service 0x50 (1 + last_table_of d service.events)) c.midnight-day.ensures in
    ok_more c.put_schedule.result _ _ made c.put_schedule.ensures

pub returns-clause-small : goal.returns-clause-small
returns-clause-small c =
    on_ok c.put_schedule.result _ (small_entries c.args.service.now.events c.in_ok-at.at.items (c.in_ok-at.ensures.events ∙ ap (map at_of) c.as_slice.ensures) c.in_ok-at.ensures.small)
