use Rattle.std.proofs.Common.{◌≡◌, List, Some, None, option_map, ap, sym, subst, refl, false, ◌∙◌}
use Rattle.si_lists.proofs.Truths.{not_both}
use Rattle.sub_collect.specs.Runs.{Counted, counted, run_of}
use Rattle.sub_collect.specs.KeyCounts.{HaveFewKeys}
use Rattle.sub_collect.specs.Marks.{since_mark, latest_over}
use Rattle.sub_collect.specs.Collectors.{KeysHeard, kept_in, IsHeldIn}
use Rattle.sub_collect.specs.Slots.{kept_by}
use Rattle.sub_collect.proofs.MarksShown.{are_of_key, none-latest, shown-is, sections-took}
use Rattle.sub_collect.proofs.Keys.{kept_in-shown, kept-same, of-kept, of-none, stands-put}
use Rattle.sub_collect.proofs.KeyCounts.{few-known}
use Rattle.sub_collect.proofs.Taking.{none-held}
use Rattle.sub_collect.proofs.collector.Collector.repeats.Goals as goal

pub returns-in-Some-clause-held : goal.returns-in-Some-clause-held
returns-in-Some-clause-held c = λ past stands.
    let k = c.args.key in
    let found : kept_in k c.args.self.now ≡ Some (kept_by c.in-Some.slot.now) =
    ap (λ (b : KeysHeard). kept_in k b) (sym c.self.view_is) ∙ kept_in-shown k c.self.inside.slots.entries ∙ ap (option_map kept_by) (sym c.in-Some.ensures.value) in
    c.repeats.ensures.held (since_mark k past) (latest_over k past) (of-kept k past (kept_in k c.args.self.now) (kept_by c.in-Some.slot.now) (stands.each k) found)

pub returns-in-Some-clause-repeated : goal.returns-in-Some-clause-repeated
returns-in-Some-clause-repeated c = λ held.
    let k = c.args.key in
    let s = counted k c.args.header.now c.args.body.now in
    let again = c.repeats.ensures.repeated held in
    let found : kept_in k c.args.self.now ≡ Some (kept_by c.in-Some.slot.now) =
    ap (λ (b : KeysHeard). kept_in k b) (sym c.self.view_is) ∙ kept_in-shown k c.self.inside.slots.entries ∙ ap (option_map kept_by) (sym c.in-Some.ensures.value) in
    record {
      quiet = λ past stands.
          shown-is past s ∙ again.quiet (since_mark k past) (latest_over k past) (of-kept k past (kept_in k c.args.self.now) (kept_by c.in-Some.slot.now) (stands.each k) found) (are_of_key k past);
      stands = λ past stands. record {
        each = stands-put past s c.args.self.now c.args.self.now (kept_by c.in-Some.slot.now) stands.each (kept-same k (kept_by c.in-Some.slot.now) c.args.self.now found)
            (again.stands (since_mark k past) (latest_over k past) (of-kept k past (kept_in k c.args.self.now) (kept_by c.in-Some.slot.now) (stands.each k) found) (are_of_key k past));
        few = subst HaveFewKeys (sym (sections-took past s)) (few-known past s (kept_by c.in-Some.slot.now) (kept_in k c.args.self.now) (stands.each k) found stands.few);
      };
    }

pub returns-in-None-clause-held : goal.returns-in-None-clause-held
returns-in-None-clause-held c = λ past stands.
    let k = c.args.key in
    let s = counted k c.args.header.now c.args.body.now in
    let found : kept_in k c.args.self.now ≡ None =
    ap (λ (b : KeysHeard). kept_in k b) (sym c.self.view_is) ∙ kept_in-shown k c.self.inside.slots.entries ∙ ap (option_map kept_by) (sym c.in-None.ensures.value) in
    let none = (none-latest k past (of-none k past (kept_in k c.args.self.now) (stands.each k) found)).0 in (
      λ held. absurd (not_both false held refl),
      λ held. absurd (none-held s (subst (λ (l : List Counted). IsHeldIn (run_of l) s) none held)),
    )
