use Rattle.std.proofs.lemmas.List.{nil_from_length}
use Rattle.std.proofs.Common.{◌≡◌, ◌∙◌, length, Option, sym, ap}
use Rattle.std.proofs.lemmas.Bool.{eqb-true}
use Rattle.section_codec.specs.declared.table.Key.{Key}
use Rattle.guide_screen.specs.View.{sections_at}
use Rattle.guide_screen.specs.Reading.{programs_in, services_in}
use Rattle.guide_screen.specs.Needs.{by_service, programs_of, services_of}
use Rattle.guide_screen.proofs.Hearing.{shown_whole}
use Rattle.guide_screen.proofs.heard.heard_guide.Goals as goal

pub returns : goal.returns
returns c V holds offsets others =
    let content = V.content in
    let programs : c.in_ok-programs.programs.items ≡ programs_of V =
    c.in_ok-programs.ensures content holds.keeps ∙ ap (λ (k : Option Key). programs_in (sections_at content k)) (sym holds.pat) in
    let services : c.in_ok-services.services.items ≡ services_of V =
    c.in_ok-services.ensures content holds.keeps
    ∙ ap (λ (k : Option Key). by_service (services_in (sections_at content k))) (sym holds.sdt) in
    let wanting = c.in_ok-needs.ensures V holds (c.deref.ensures.value ∙ programs) (c.deref-2.ensures.value ∙ services) in
    let empty : length c.in_ok-needs.needs.items ≡ 0 = sym c.in_ok-needs.needs.ok.0
    ∙ eqb-true _ _ (sym c.is_empty.ensures ∙ c.if-is_empty.true) in
    shown_whole c.args.contents.now c.args.latest V c.in-Some.of c.in_ok-screen.screen holds
    (sym c.named.ensures ∙ c.in-Some.is) (sym wanting ∙ nil_from_length c.in_ok-needs.needs.items empty)
    (c.in_ok-screen.ensures V holds.keeps (c.deref-3.ensures.value ∙ programs) services offsets others)
