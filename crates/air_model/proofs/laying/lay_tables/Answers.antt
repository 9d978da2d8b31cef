use Rattle.std.proofs.Common.{◌≡◌, ℕ, ◌+◌, ◌≤◌, List, [], ◌∷◌, ◌++◌, length, take, drop, sym, ap, ◌∙◌, subst, arith, append_assoc, vec_len}
use Rattle.std.proofs.lemmas.List.{length_push}
use Rattle.std.proofs.lemmas.Slice.Zip.{zip_turn, zip_end}
use Rattle.air_model.specs.Air.{Sent, sections_of}
use Rattle.air_model.specs.Laying.{AreLaid, sections_under, room_for, places_for}
use Rattle.air_model.proofs.Laid.{tables_at, tables_more, sections_all}
use Rattle.air_model.proofs.laying.lay_tables.Goals as goal

pub loop-table-preserved : goal.loop-table-preserved
loop-table-preserved c =
    let tables = c.args.tables.now in
    let versions = c.args.versions.now in
    let table = c.in-Some.table.now in
    let version = c.in-Some.version.now in
    let n = length c.loop-table.yielded in
    let turn = zip_turn tables versions c.loop-table.yielded c.into_iter-table-iterator.result c.loop-table.table-iterator c.next.new.self c.next.result (cc) (cc) c.loop-table.yielded_by (c.in-Some.table, c.in-Some.version) c.in-Some.is c.next.ensures.steps in
    let next : length (c.loop-table.yielded ++ (c.in-Some.table, c.in-Some.version) ∷ []) ≡ n + 1 = length_push c.loop-table.yielded (c.in-Some.table, c.in-Some.version) in
    let behind = tables_at tables n table turn.0 (turn.2 table) in
    let more : sections_under (take (n + 1) versions) (take (n + 1) tables) ≡ sections_under (take n versions) (take n tables) ++ sections_of version table =
    tables_more versions tables n version table turn.1 turn.0 (turn.3 version) (turn.2 table) in
    record {
      laid = λ ss h. subst (λ (l : List Sent). AreLaid l c.lay_table.new.bytes.items c.lay_table.new.placed.items)
          (append_assoc ss (sections_under (take n versions) (take n tables)) (sections_of version table)
          ∙ ap (λ (l : List Sent). ss ++ l) (sym more ∙ ap (λ (k : ℕ). sections_under (take k versions) (take k tables)) (sym next)))
          (c.lay_table.ensures.laid (ss ++ sections_under (take n versions) (take n tables)) (c.loop-table.invariant.laid ss h));
      bytes_len = subst (λ (k : ℕ). vec_len c.lay_table.new.bytes + room_for (drop k tables) ≤ vec_len c.args.bytes.now + room_for tables) (sym next) (omega (arith, behind.0, c.lay_table.ensures.bytes.len, c.loop-table.invariant.bytes_len));
      bytes_capacity = omega (arith, c.lay_table.ensures.bytes.capacity, c.loop-table.invariant.bytes_capacity);
      placed_len = subst (λ (k : ℕ). vec_len c.lay_table.new.placed + places_for (drop k tables) ≤ vec_len c.args.placed.now + places_for tables) (sym next) (omega (arith, behind.1, c.lay_table.ensures.placed.len, c.loop-table.invariant.placed_len));
      placed_capacity = omega (arith, c.lay_table.ensures.placed.capacity, c.loop-table.invariant.placed_capacity);
    }

pub returns-clause-laid : goal.returns-clause-laid
returns-clause-laid c ss h =
    let tables = c.args.tables.now in
    let versions = c.args.versions.now in
    let last = zip_end tables versions c.loop-table.yielded c.into_iter-table-iterator.result c.loop-table.table-iterator c.next.new.self c.next.result (cc) (cc) c.loop-table.yielded_by c.in-None.is c.next.ensures.steps in
    subst (λ (l : List Sent). AreLaid (ss ++ l) c.loop-table.bytes.items c.loop-table.placed.items) (sections_all versions tables (length c.loop-table.yielded) last) (c.loop-table.invariant.laid ss h)
