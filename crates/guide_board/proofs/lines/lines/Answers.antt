use Rattle.std.proofs.Common.{rules, ◌≡◌, ◌∙◌, ◌+◌, ◌<◌, [], ◌∷◌, ◌++◌, List, length, map, take, sym, ap, ap₂}
use Rattle.std.proofs.lemmas.List.{take_more, map-append}
use Rattle.std.proofs.lemmas.Option.{slice_get_within, get_or_from_slice_get}
use Rattle.guide_model.specs.declared.guide.ServiceGuide.{ServiceGuide}
use Rattle.guide_board.specs.declared.lines.Line.{Line}
use Rattle.guide_board.specs.Lines.{line_of}
use Rattle.guide_board.proofs.lines.lines.Goals as goal

pub loop-i-preserved : goal.loop-i-preserved
loop-i-preserved c =
    let services = c.args.guide.now.guide.services in
    let moment = c.args.guide.now.guide.moment.0 in
    let i = c.loop-i.i in
    let service = c.at.result.now in
    let within : i < length services = slice_get_within services i service c.at.ensures in
    let here = get_or_from_slice_get services i service service c.at.ensures in
    let more : take (i + 1) services ≡ take i services ++ service ∷ [] = take_more services i service within ∙ ap (λ (s : ServiceGuide). take i services ++ s ∷ []) here in
    let line : c.in_ok-line_of.field-0 ≡ line_of moment service = search rules in
    let items : c.push.new.self.items ≡ c.loop-i.lines.items ++ c.in_ok-line_of.field-0 ∷ [] = search rules in
    items
    ∙ (ap₂ (λ (ls : List Line) (l : Line). ls ++ l ∷ []) c.loop-i.invariant line
    ∙ (sym (map-append (line_of moment) (take i services) (service ∷ [])) ∙ ap (map (line_of moment)) (sym more)))
