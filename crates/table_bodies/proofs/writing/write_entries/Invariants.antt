use Rattle.std.proofs.Common.{◌≡◌, ◌++◌, take, flat_map}
use Rattle.table_bodies.specs.Eit.{written_bytes}
use Rattle.table_bodies.proofs.writing.write_entries.Given as goal

-- the entries of the events so far stand behind what was there
abbrev pub invariant-loop-event : goal.invariant-loop-event
invariant-loop-event l = l.out.items ≡ l.fn.out.items ++ flat_map (written_bytes l.status) (take l.event-index l.events)
