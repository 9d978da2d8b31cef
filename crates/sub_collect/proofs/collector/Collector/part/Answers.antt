use Rattle.std.proofs.Common.{◌≡◌, List, Some, None, option_map, ap, ap₂, sym, ◌∙◌}
use Rattle.std.specs.Prelude.{Option, unwrap_or}
use Rattle.sub_collect.specs.Runs.{Counted, run_of}
use Rattle.sub_collect.specs.Marks.{since_mark, latest_over}
use Rattle.sub_collect.specs.Collectors.{KeysHeard, kept_in}
use Rattle.sub_collect.specs.Parts.{held}
use Rattle.sub_collect.specs.Slots.{kept_by}
use Rattle.sub_collect.specs.declared.completed.Completed.{Completed}
use Rattle.sub_collect.proofs.MarksShown.{are_of_key, none-latest}
use Rattle.sub_collect.proofs.Keys.{kept_in-shown, of-kept, of-none}
use Rattle.sub_collect.proofs.collector.Collector.part.Goals as goal

pub returns-in-Some : goal.returns-in-Some
returns-in-Some c = λ past stands.
    let k = c.args.key in
    let found : kept_in k c.args.self.now ≡ Some (kept_by c.in-Some.slot.now) =
    ap (λ (b : KeysHeard). kept_in k b) (sym c.self.view_is) ∙ kept_in-shown k c.self.inside.slots.entries ∙ ap (option_map kept_by) (sym c.in-Some.ensures.value) in
    c.part.ensures (since_mark k past) (latest_over k past) (of-kept k past (kept_in k c.args.self.now) (kept_by c.in-Some.slot.now) (stands.each k) found) (are_of_key k past)

pub returns-in-None : goal.returns-in-None
returns-in-None c = λ past stands.
    let k = c.args.key in
    let found : kept_in k c.args.self.now ≡ None =
    ap (λ (b : KeysHeard). kept_in k b) (sym c.self.view_is) ∙ kept_in-shown k c.self.inside.slots.entries ∙ ap (option_map kept_by) (sym c.in-None.ensures.value) in
    let none = none-latest k past (of-none k past (kept_in k c.args.self.now) (stands.each k) found) in
    sym (ap₂ (λ (o : Option Completed) (l : List Counted). unwrap_or (option_map (λ d. d.sections) o) (held (run_of l))) none.1 none.0)
