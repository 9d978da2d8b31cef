use Rattle.std.proofs.Common.{subst}
use Rattle.std.specs.List.{AllByRecursion}
use Rattle.guide_model.specs.Decoding.{IsKept}
use Rattle.mux_model.specs.declared.mux.Mux.{Mux}
use Rattle.mux_model.specs.Fed.{IsNamed, fed_services}
use Rattle.mux_model.specs.Sound.{IsSoundWithIds}
use Rattle.journal_model.specs.declared.step.Entry.{Entry}
use Rattle.journal_model.specs.Steps.{IsStepInWindow}
use Rattle.desk_core.proofs.MomentFacts.{written_steps}
use Rattle.journal_air.specs.Laws.{HasTypedEdits}
use Rattle.headend_live.proofs.typed.desk_is_as_read.Goals as goal

pub returns : goal.returns
returns c =
    let own = c.mux-mux.ensures.value in
    let all = c.entries.ensures.value in
    record {
      sound = subst IsSoundWithIds own c.mux_has_ids.ensures;
      network = subst (λ (m : Mux). IsKept m.network_name) own c.names_are_kept.ensures.network;
      services = subst (λ (m : Mux). AllByRecursion IsNamed (fed_services m)) own c.names_are_kept.ensures.services;
      edits = subst HasTypedEdits all c.edits_are_typed.ensures;
      steps = subst (AllByRecursion (λ (e : Entry). IsStepInWindow e.step)) all (written_steps c.entries.result.now c.entries.ensures.within);
    }
