use Rattle.std.proofs.Common.{◌≡◌, ◌≢◌, [], true, false, sym, ap, ◌∙◌, lit<}
use Rattle.std.specs.Prelude.{map}
use Rattle.std.proofs.lemmas.Iterator.Splits.{YieldsList-from_str_split}
use Rattle.std.proofs.lemmas.Iterator.Consumers.{map_from_collect}
use Rattle.script_lines.specs.Items.{all_some, genre_of}
use Rattle.script_lines.proofs.Genres.{genres_of_some, onto_nil}
use Rattle.script_lines.proofs.items.read_genres.Goals as goal

true_false : true ≡ false → ⊥
true_false e = cc

pub loop-group-init : goal.loop-group-init
loop-group-init c =
    let parts = rw c.in_ok-groups.was at (map_from_collect _ c.collect.ensures.ran (YieldsList-from_str_split 32 c.args.field.now (lit< tt) c.split.ensures.text c.split.ensures.has_more c.split.ensures.pattern)) in
    let some : c.args.field.now ≢ [] = λ e. true_false (sym (rw e at c.is_empty.ensures) ∙ c.if-is_empty.false) in
    rw (c.new-genres.ensures, c.deref-group-items.ensures.value) (onto_nil (all_some (map genre_of (map (λ x. x.now) c.in_ok-groups.groups.items))) ∙ ap (λ l. all_some (map genre_of l)) parts ∙ sym (genres_of_some c.args.field.now some))
