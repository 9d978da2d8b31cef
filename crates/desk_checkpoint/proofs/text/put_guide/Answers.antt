use Rattle.std.proofs.Common.{◌≡◌, ◌++◌, ℕ, List, OnOk, flat_map, sym, refl, subst, ◌∙◌}
use Rattle.mux_model.specs.Fed.{fed_services}
use Rattle.journal_model.specs.declared.step.Step.TheVariants.{Tick}
use Rattle.journal_text.proofs.LineFacts.{behind}
use Rattle.desk_checkpoint.specs.Text.{service_text, step_text}
use Rattle.desk_checkpoint.proofs.TextFacts.{guide_text}
use Rattle.desk_checkpoint.proofs.text.put_guide.Goals as goal

pub returns : goal.returns
returns c =
    let mux = c.args.mux.now in
    let guide = c.args.guide.now in
    let out = c.args.out.now.items in
    let services = flat_map (service_text c.args.clears (fed_services mux)) guide.services in
    let tick = step_text (0, Tick guide.moment) in
    let middle : c.put_services.new.out.items ≡ out ++ services =
    c.in_ok-put_services.ensures ∙ (λ k. out ++ flat_map (service_text c.args.clears (fed_services mux)) (c.as_slice.ensures k)) in
    subst (λ (t : List ℕ). OnOk c.put_step.result (c.put_step.new.out.items ≡ out ++ t)) (sym (guide_text c.args.clears mux guide))
    (behind c.put_step.result out services tick tick c.put_services.new.out.items c.put_step.new.out.items middle refl c.put_step.ensures)
