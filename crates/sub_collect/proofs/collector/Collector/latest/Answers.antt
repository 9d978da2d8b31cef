use Rattle.std.proofs.Common.{◌≡◌, Some, None, option_map, ap, sym, ◌∙◌}
use Rattle.sub_collect.specs.Collectors.{KeysHeard, kept_in}
use Rattle.sub_collect.specs.Slots.{kept_by}
use Rattle.sub_collect.proofs.Keys.{kept_in-shown, of-kept, of-none}
use Rattle.sub_collect.proofs.MarksShown.{none-latest}
use Rattle.sub_collect.proofs.collector.Collector.latest.Goals as goal

pub returns-in-Some : goal.returns-in-Some
returns-in-Some c = record {
  latest = λ past stands.
      let k = c.args.key in
      let found : kept_in k c.args.self.now ≡ Some (kept_by c.in-Some.slot.now) =
      ap (λ (b : KeysHeard). kept_in k b) (sym c.self.view_is) ∙ kept_in-shown k c.self.inside.slots.entries ∙ ap (option_map kept_by) (sym c.in-Some.ensures.value) in
      c.as_ref.ensures.value ∙ (of-kept k past (kept_in k c.args.self.now) (kept_by c.in-Some.slot.now) (stands.each k) found).latest_is;
}

pub returns-in-None : goal.returns-in-None
returns-in-None c = record {
  latest = λ past stands.
      let k = c.args.key in
      let found : kept_in k c.args.self.now ≡ None =
      ap (λ (b : KeysHeard). kept_in k b) (sym c.self.view_is) ∙ kept_in-shown k c.self.inside.slots.entries ∙ ap (option_map kept_by) (sym c.in-None.ensures.value) in
      sym (none-latest k past (of-none k past (kept_in k c.args.self.now) (stands.each k) found)).1;
}
