use Rattle.std.proofs.Common.{◌++◌, ◌∷◌, [], List, take, subst, sym, ap, ◌∙◌}
use Rattle.std.proofs.lemmas.List.{take_more, flat_map_more}
use Rattle.std.proofs.lemmas.List.Elements.{All-more}
use Rattle.section_codec.specs.declared.table.SubTable.{SubTable}
use Rattle.cycle_timing.specs.declared.listed.Listed.{Listed}
use Rattle.cycle_timing.specs.Listing.{listed_in, listed_of, HasRange}
use Rattle.cycle_timing.proofs.listed.put_tables.Goals as goal

pub loop-table-preserved : goal.loop-table-preserved
loop-table-preserved c =
    let i = c.loop-table.invariant in
    let at = c.loop-table.table-index in
    let ts = c.args.tables.now in
    let t = c.table-item.result in
    let more = take_more ts at t c.loop-table-test.true in
    let start = c.args.listed.now.items in
    record {
      listed = c.in_ok-put_table.ensures.listed ∙ ap (λ (l : List Listed). l ++ listed_in t) i.listed ∙ flat_map_more listed_in start (take at ts) t
          ∙ ap (λ (u : SubTable). start ++ listed_of (take at ts ++ u ∷ [])) c.table-item.is ∙ ap (λ (us : List SubTable). start ++ listed_of us) (sym more);
      ranges = All-more HasRange ts at t c.loop-table-test.true i.ranges (subst HasRange c.table-item.is c.in_ok-put_table.ensures.range);
    }
