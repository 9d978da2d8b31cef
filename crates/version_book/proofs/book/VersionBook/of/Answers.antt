use Rattle.std.proofs.Common.{◌≡◌, ◌-◌, ◌<◌, length, take, drop, vec_len, sym, ap, ◌∙◌, subst, arith}
use Rattle.std.specs.List.{All}
use Rattle.std.proofs.lemmas.List.Elements.{All-take}
use Rattle.si_lists.proofs.Parts.{popped}
use Rattle.version_book.specs.declared.key_version.KeyVersion.{KeyVersion}
use Rattle.version_book.specs.Book.{given_in, given_entries}
use Rattle.version_book.specs.Slots.{kept_at}
use Rattle.version_book.proofs.SlotFacts.{kept_in-shown}
use Rattle.version_book.proofs.KeptEntries.{kept_turn}
use Rattle.version_book.proofs.book.VersionBook.of.Goals as goal

pub loop-last-preserved : goal.loop-last-preserved
loop-last-preserved c =
    let all = c.args.kept in
    let new = c.pop.new.self in
    let n = length new.items in
    let old = c.loop-last.list in
    let i = c.loop-last.invariant in
    let p = popped (vec_len old) all new.items c.in-Some.last (sym i.left ∙ c.in-Some.ensures.items) i.within in
    let lt : n < length all = omega (arith, p.0, i.within) in
    let len : vec_len new ≡ n = new.ok.0 in
    record {
      within = omega (arith, len, lt);
      left = p.1 ∙ ap (λ k. take k all) (sym len);
      small = subst (All (λ (k : KeyVersion). k.version < 32)) (sym c.in-Some.ensures.rest) (All-take (λ (k : KeyVersion). k.version < 32) (vec_len old - 1) old.items i.small);
      kept = λ q.
          c.in_ok-keep.ensures.kept q
          ∙ kept_turn all n c.in-Some.last (kept_at c.loop-last.slots q) q lt p.2 (i.kept q ∙ ap (λ m. given_in q (given_entries (drop m all))) p.0)
          ∙ ap (λ k. given_in q (given_entries (drop k all))) (sym len);
      ordered = c.keep.ensures.ordered;
    }

pub returns-clause-keeps : goal.returns-clause-keeps
returns-clause-keeps c = λ k.
    let i = c.loop-last.invariant in
    kept_in-shown k c.loop-last.slots.entries i.ordered ∙ i.kept k ∙ ap (λ m. given_in k (given_entries (drop m c.args.kept))) c.in_default.ensures.cases.0

pub returns-clause-stands : goal.returns-clause-stands
returns-clause-stands c = λ past stands k.
    let i = c.loop-last.invariant in
    kept_in-shown k c.loop-last.slots.entries i.ordered ∙ i.kept k ∙ ap (λ m. given_in k (given_entries (drop m c.args.kept))) c.in_default.ensures.cases.0 ∙ stands k
