use Rattle.std.proofs.Common.{◌+◌, ◌++◌, List, sym, ap, subst, ◌∙◌}
use Rattle.journal_model.specs.declared.step.Entry.{Entry}
use Rattle.desk_core.specs.Journal.{Legal, journal_after}
use Rattle.desk_core.specs.Publications.{publication}
use Rattle.desk_checkpoint.specs.Going.{GoOnAlike}
use Rattle.desk_checkpoint.proofs.AirFacts.{aired_alike}
use Rattle.desk_checkpoint.proofs.GoFacts.{journals_alike, after_alike, all_legal, publications_alike}
use Rattle.desk_checkpoint.proofs.folding_laws.desks_go_on.Goals as goal

pub returns-clause-replies : goal.returns-clause-replies
returns-clause-replies c = λ mux shift h s commands sound legal_h legal_s alike. journals_alike mux shift h s commands sound legal_h legal_s alike

pub returns-clause-legal : goal.returns-clause-legal
returns-clause-legal c = λ mux shift h s commands sound legal_h legal_s alike.
    let same = journals_alike mux shift h s commands sound legal_h legal_s alike in (
      subst (λ (l : List Entry). Legal mux (h ++ l)) same (all_legal mux h commands legal_h),
      all_legal mux s commands legal_s,
      subst (λ (l : List Entry). GoOnAlike mux shift (h ++ l) (s ++ journal_after mux s commands)) same (after_alike mux shift h s commands sound legal_h legal_s alike),
    )

pub returns-clause-publications : goal.returns-clause-publications
returns-clause-publications c = λ mux shift h s commands sound legal_h legal_s alike n low high.
    ap (λ (l : List Entry). publication mux (h ++ l) (shift + n)) (sym (journals_alike mux shift h s commands sound legal_h legal_s alike))
    ∙ publications_alike mux shift h s commands sound legal_h legal_s alike n low high

pub returns-clause-aired : goal.returns-clause-aired
returns-clause-aired c = λ mux shift h s commands sound legal_h legal_s alike. aired_alike mux shift h s commands sound legal_h legal_s alike
