-- A whole guide is shown alike, of tables that were completed and of parts.
use Rattle.std.proofs.Common.{◌≡◌, List, [], true, false, refl, sym, ap, ◌∙◌, subst, option_map}
use Rattle.si_lists.proofs.Lists.{all_map}
use Rattle.guide_model.specs.declared.screen.Screen.{Screen}
use Rattle.section_codec.specs.declared.table.Key.{Key}
use Rattle.table_bodies.specs.declared.sdt.SdtService.{SdtService}
use Rattle.sub_collect.specs.Marks.{Taken, content_over, all_took}
use Rattle.sub_collect.specs.declared.completed.Completed.{Completed}
use Rattle.sub_collect.proofs.Marking.{mark_free}
use Rattle.guide_receiver.specs.Dones.{counted_heard}
use Rattle.guide_screen.specs.declared.need.Heard.TheVariants.{Whole}
use Rattle.guide_screen.specs.View.{View}
use Rattle.guide_screen.specs.Needs.{needs, services_of}
use Rattle.guide_screen.specs.Screen.{heard_of}
use Rattle.guide_screen.proofs.Hearing.{whole_needs_nothing}
use Rattle.guide_receiver.specs.Guides.{view_of}
use Rattle.guide_receiver.proofs.Over.{view-free}
use Rattle.strict_receiver.specs.Earlier.{sections_in, taken_after, strict_view_after}
use Rattle.guide_parts.specs.Parts.{parts_over}
use Rattle.guide_parts.specs.PartScreen.{part_screen, part_guide}
use Rattle.guide_parts.specs.Laws.{screen_as_part, NamesCompleted, IsWholeBeside}
use Rattle.guide_parts.proofs.WholeScreen.{partial_is_listen}
use Rattle.guide_parts.specs.PartTexts.{part_text_with}
use Rattle.guide_parts.proofs.WholeText.{whole_text}
use Rattle.guide_parts.specs.HeardLaws.{HoldsWholeBeside, ShowsWhole, GuideIsSame, StrictGuideIsSame, NothingIsBeside}
use Rattle.guide_parts.proofs.Names.{named_completed}

shows_whole : (V : View) (taken : List Taken) → ((k : Key) → V.content k ≡ content_over taken k) → NamesCompleted V → HoldsWholeBeside (parts_over V taken)
    → (shown : Screen) → heard_of V ≡ Whole shown → ShowsWhole (parts_over V taken) shown
shows_whole V taken contents names beside shown heard =
    let same : part_screen (parts_over V taken) ≡ screen_as_part shown = partial_is_listen V taken contents names beside shown heard in
    let none : needs V ≡ [] = (whole_needs_nothing V).0 (shown, heard) in
    let guide : part_guide (parts_over V taken) ≡ record { wanting = []; shown = screen_as_part shown } = λ i. record { wanting = none i; shown = same i } in
    record { guide = guide; text = λ details. ap (part_text_with details) guide ∙ whole_text details shown }

pub guide_same : GuideIsSame
guide_same packets beside shown heard =
    shows_whole (view_of packets) (all_took (counted_heard packets))
    (λ k. ap (option_map (λ (d : Completed). d.sections)) (sym (mark_free k (counted_heard packets)).1))
    (subst NamesCompleted (view-free packets) (named_completed [] packets (all_took (counted_heard packets)))) beside shown heard

pub strict_guide_same : StrictGuideIsSame
strict_guide_same earlier packets beside shown heard =
    shows_whole (strict_view_after earlier packets) (taken_after earlier packets) (λ k. refl)
    (named_completed (sections_in earlier) packets (taken_after earlier packets)) beside shown heard

pub nothing_beside : NothingIsBeside
nothing_beside V taken tells sdt is =
    all_map (λ (s : SdtService). (s.present ≡ true) × (s.schedule ≡ true)) (IsWholeBeside (parts_over V taken) sdt)
    (λ s t. record {
      present = λ e. (let z : true ≡ false = sym t.0 ∙ e in absurd (let w : Prim.⊥ = cc in w));
      schedule = λ e. (let z : true ≡ false = sym t.1 ∙ e in absurd (let w : Prim.⊥ = cc in w));
      first = λ e. (let z : true ≡ false = sym t.1 ∙ e in absurd (let w : Prim.⊥ = cc in w));
    })
    (services_of V) tells
