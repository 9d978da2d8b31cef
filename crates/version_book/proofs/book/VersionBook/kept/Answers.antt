use Rattle.std.proofs.Common.{◌≡◌, ◌++◌, ap, sym, ◌∙◌, subst, append-nil}
use Rattle.std.specs.List.Sorted.{IsStrictlySortedBy}
use Rattle.std.specs.Map.{keys_of}
use Rattle.section_codec.specs.KeyOrder.{key_cmp}
use Rattle.version_book.specs.Book.{given_entries}
use Rattle.version_book.specs.Slots.{shown}
use Rattle.version_book.proofs.KeptEntries.{shown_sorted, keys_handed}
use Rattle.version_book.proofs.book.VersionBook.kept.Goals as goal

pub returns : goal.returns
returns c =
    let slots = c.self.inside.slots.entries in
    let kept = c.loop-key.kept in
    let all : given_entries kept ≡ shown slots = sym (append-nil (given_entries kept)) ∙ ap (λ l. given_entries kept ++ shown l) (sym c.in-None.ensures.steps.0) ∙ c.loop-key.invariant.entries in
    record {
      entries = all ∙ c.self.view_is;
      ascend = subst (IsStrictlySortedBy key_cmp) (sym (keys_handed kept ∙ ap keys_of all)) (shown_sorted key_cmp slots c.self.invariant);
      small = c.loop-key.invariant.small;
    }
