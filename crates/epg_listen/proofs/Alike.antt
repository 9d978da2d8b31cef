-- A whole guide is reported alike with `--partial` and without.
use Rattle.std.proofs.Common.{◌≡◌, ◌++◌, true, false, sym, ap, ◌∙◌}
use Rattle.std.specs.Prelude.{Bool}
use Rattle.guide_model.specs.declared.screen.Screen.{Screen}
use Rattle.guide_screen.specs.Screen.{heard_of as shown_of}
use Rattle.guide_screen.specs.declared.need.Heard.TheVariants.{Whole}
use Rattle.guide_text.specs.Guides.{guide_text_with}
use Rattle.guide_parts.specs.HeardLaws.{HoldsWholeBeside}
use Rattle.guide_parts.proofs.HeardWhole.{guide_same, strict_guide_same}
use Rattle.command_words.specs.Grammar.{ListenOptions}
use Rattle.epg_listen.specs.Lines.{History, heard_of, heard_text, heard_guide, view_heard}
use Rattle.epg_listen.specs.Laws.{parts_heard, WholeIsReportedAlike}

guide_alike : (how : ListenOptions) (strict : Bool) (h : History) → HoldsWholeBeside (parts_heard strict h) → (shown : Screen) → shown_of (view_heard strict h) ≡ Whole shown
    → heard_guide (record how { partial = true }) strict h ≡ heard_guide (record how { partial = false }) strict h
guide_alike how false h beside shown is = (guide_same h.past beside shown is).text how.details ∙ ap (guide_text_with how.details) (sym is)
guide_alike how true h beside shown is = (strict_guide_same h.earlier h.past beside shown is).text how.details ∙ ap (guide_text_with how.details) (sym is)

pub reported_alike : WholeIsReportedAlike
reported_alike how pieces beside shown is =
    ap (λ t. heard_text how.strict pieces ++ t) (guide_alike how how.strict (heard_of how.strict pieces) beside shown is)
