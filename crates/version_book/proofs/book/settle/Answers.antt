use Rattle.std.proofs.Common.{◌≡◌, ℕ, ◌<◌, ◌≤◌, List, length, map, take, drop, get_or, vec_len, Option, ap, sym, refl, ◌∙◌, rules, arith}
use Rattle.std.proofs.lemmas.List.{get_or-map, length-map}
use Rattle.section_codec.specs.declared.table.SubTable.{SubTable}
use Rattle.section_codec.specs.Contents.{Content}
use Rattle.version_book.specs.Slots.{kept_at, next_version, version_given, content_given, given_after}
use Rattle.si_lists.proofs.Parts.{popped}
use Rattle.version_book.proofs.SlotFacts.{at_place, given_turn, put_kept, filled_by}
use Rattle.version_book.proofs.book.settle.Goals as goal

pub loop-change-preserved : goal.loop-change-preserved
loop-change-preserved c =
    let ts = c.args.tables.now in
    let f = kept_at c.args.slots.now in
    let all = map (content_given c.args.slots.now) ts in
    let new = c.pop.new.self in
    let n = length new.items in
    let old = c.loop-change.changes in
    let within : vec_len old ≤ length all = omega (arith, c.loop-change.invariant.within, length-map ts (content_given c.args.slots.now)) in
    let p = popped (vec_len old) all new.items c.in-Some.change (sym c.loop-change.invariant.changes ∙ c.in-Some.ensures.items) within in
    let lt : n < length ts = omega (arith, p.0, c.loop-change.invariant.within) in
    let len : vec_len new ≡ n = new.ok.0 in
    let t = at_place ts n lt in
    record {
      within = omega (arith, len, lt);
      changes = p.1 ∙ ap (λ k. take k all) (sym len);
      kept = λ q.
          ap (λ (o : Option Content). filled_by t.0.key (next_version (f t.0.key) t.0.sections) o (kept_at c.loop-change.slots) q) (sym c.in_default-change.is)
          ∙ given_turn f ts n t.0 (kept_at c.loop-change.slots) c.in-Some.change (next_version (f t.0.key) t.0.sections) lt t.1 c.requires.differ
          (λ k. c.loop-change.invariant.kept k ∙ ap (λ m. given_after f (drop m ts) k) p.0) p.2 refl q
          ∙ ap (λ k. given_after f (drop k ts) q) (sym len);
      made = c.loop-change.invariant.made;
      ordered = c.loop-change.invariant.ordered;
    }

pub loop-change-preserved-in-Some-change : goal.loop-change-preserved-in-Some-change
loop-change-preserved-in-Some-change c =
    let ts = c.args.tables.now in
    let f = kept_at c.args.slots.now in
    let all = map (content_given c.args.slots.now) ts in
    let new = c.pop.new.self in
    let n = length new.items in
    let old = c.loop-change.changes in
    let within : vec_len old ≤ length all = omega (arith, c.loop-change.invariant.within, length-map ts (content_given c.args.slots.now)) in
    let p = popped (vec_len old) all new.items c.in-Some.change (sym c.loop-change.invariant.changes ∙ c.in-Some.ensures.items) within in
    let lt : n < length ts = omega (arith, p.0, c.loop-change.invariant.within) in
    let len : vec_len new ≡ n = new.ok.0 in
    let place = c.len-at.result in
    let at : place ≡ n = c.len-at.ensures ∙ len in
    let t = get_or ts place c.index-tables-at.result in
    let here : get_or ts place t ≡ t = ap (λ (d : SubTable). get_or ts place d) (sym c.index-tables-at.is) in
    let counted : get_or c.args.versions.now place 0 ≡ next_version (f t.key) t.sections =
    ap (λ (vs : List ℕ). get_or vs place 0) c.requires.versions
    ∙ get_or-map (version_given c.args.slots.now) ts place t 0 (omega (arith, at, lt)) ∙ ap (version_given c.args.slots.now) here in
    record {
      within = omega (arith, len, lt);
      changes = p.1 ∙ ap (λ k. take k all) (sym len);
      kept = λ q.
          put_kept _ _ _ _ (c.fill.ensures.put q)
          ∙ ap (λ (o : Option Content). filled_by t.key (get_or c.args.versions.now place 0) o (kept_at c.loop-change.slots) q) (sym c.in-Some-change.is)
          ∙ given_turn f ts n t (kept_at c.loop-change.slots) c.in-Some.change (get_or c.args.versions.now place 0) lt (sym here ∙ ap (λ k. get_or ts k t) at) c.requires.differ
          (λ k. c.loop-change.invariant.kept k ∙ ap (λ m. given_after f (drop m ts) k) p.0) p.2 counted q
          ∙ ap (λ k. given_after f (drop k ts) q) (sym len);
      made = search rules;
      ordered = c.fill.ensures.ordered;
    }
