use Rattle.std.proofs.Common.{ap, ◌∙◌, lit<, map}
use Rattle.std.proofs.lemmas.Iterator.Splits.{YieldsList-from_str_split}
use Rattle.std.proofs.lemmas.Iterator.Consumers.{map_from_collect}
use Rattle.script_lines.specs.Items.{genre_from}
use Rattle.script_lines.proofs.items.read_genre.Goals as goal

pub returns : goal.returns
returns c =
    let parts = rw c.in_ok-parts.was at (map_from_collect _ c.collect.ensures.ran (YieldsList-from_str_split 46 c.args.group.now (lit< tt) c.split.ensures.text c.split.ensures.has_more c.split.ensures.pattern)) in
    c.genre_of_parts.ensures ∙ ap (λ l. genre_from (map (λ x. x.now) l)) c.deref.ensures.value ∙ ap genre_from parts
