use Rattle.std.proofs.Common.{◌≡◌, Option, None, ap, sym, ◌∙◌}
use Rattle.std.specs.Prelude.{option_map, unwrap_or}
use Rattle.sub_collect.specs.Runs.{run_of}
use Rattle.sub_collect.specs.Collectors.{body_in, last_in}
use Rattle.sub_collect.specs.Parts.{held}
use Rattle.sub_collect.specs.PartSlots.{known_by, held_by}
use Rattle.sub_collect.specs.Slots.{kept_by}
use Rattle.sub_collect.specs.declared.completed.Completed.{Completed}
use Rattle.sub_collect.proofs.Runs.{latest-run}
use Rattle.sub_collect.proofs.Done.{latest-key}
use Rattle.sub_collect.proofs.PartsHeld.{held-kept}
use Rattle.sub_collect.proofs.collector.KeySlot.part.Goals as goal

pub returns-in_ok-held-in-None : goal.returns-in_ok-held-in-None
returns-in_ok-held-in-None c = λ heard latest kept are.
    let k = c.args.key in
    let run = c.args.self.now.run in
    let none : latest ≡ None = sym kept.latest_is ∙ c.in-None.is in
    c.in_ok-held-in-None.ensures
    ∙ ap (λ b. held_by (λ n. body_in n run.held.entries) (known_by b (last_in run.lasts) run.last)) c.is_eit.ensures
    ∙ held-kept k (run_of heard) (kept_by c.args.self.now).run kept.run (λ s e. latest-key k heard s are.each (sym (latest-run heard) ∙ e))
    ∙ sym (ap (λ (o : Option Completed). unwrap_or (option_map (λ d. d.sections) o) (held (run_of heard))) none)
