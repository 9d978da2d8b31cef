use Rattle.std.proofs.Common.{rules, ◌≡◌, List, Option, Some, None, option_map, cond, sym, refl, ap, subst, ◌∙◌}
use Rattle.std.specs.Prelude.{IsSome}
use Rattle.std.specs.Map.{keys_of}
use Rattle.std.specs.BTreeMap.{BTreeMap}
use Rattle.section_codec.specs.declared.table.Key.{Key}
use Rattle.section_codec.specs.KeyOrder.{is_key}
use Rattle.sub_collect.specs.Collectors.{KeysHeard, kept_in, forgotten_if}
use Rattle.sub_collect.specs.Slots.{kept_by, shown}
use Rattle.sub_collect.specs.declared.collector.KeySlot.{KeySlot}
use Rattle.sub_collect.specs.declared.collector.Collector.TheInside.{Inside}
use Rattle.sub_collect.proofs.Keys.{kept_in-shown, kept-put}
use Rattle.sub_collect.proofs.KeyWalk.{forgotten-put, forgotten-none, keys_of-shown}
use Rattle.sub_collect.proofs.collector.Collector.forget_key.Goals as goal
use Rattle.sub_collect.proofs.collector.Collector.forget_key.Goals.{in-Some, in_default}

pub returns-clause-kept : goal.returns-clause-kept
returns-clause-kept c = λ q.
    let key = c.args.key in
    let old = c.self.inside.slots.entries in
    elim c.match-get_mut.branch [
      | in-Some w ↦
          let found : kept_in key c.args.self.now ≡ Some (kept_by w.in-Some.slot.now) =
          ap (λ (b : KeysHeard). kept_in key b) (sym c.self.view_is) ∙ kept_in-shown key old ∙ ap (option_map kept_by) (sym w.in-Some.ensures.value) in
          let held = subst IsSome w.in-Some.ensures.value refl in
          let slot = w.forget.new.self in
          ap (λ (i : Inside). kept_in q (shown i.slots.entries)) w.self-inside-is
          ∙ kept-put key slot old (c.get_mut.follows.lender slot).entries (((c.get_mut.follows.holds slot).3 held).0) q
          ∙ ap (λ (b : KeysHeard). cond (is_key key q) (Some (kept_by slot)) (kept_in q b)) c.self.view_is
          ∙ forgotten-put key q (kept_by w.in-Some.slot.now) (kept_by slot) c.args.self.now found w.forget.ensures
      | in_default w ↦
          let none : kept_in key c.args.self.now ≡ None =
          ap (λ (b : KeysHeard). kept_in key b) (sym c.self.view_is) ∙ kept_in-shown key old ∙ ap (option_map kept_by) (sym w.in_default.ensures.value) in
          ap (λ (i : Inside). kept_in q (shown i.slots.entries)) w.self-inside-is
          ∙ ap (λ (m : BTreeMap Key KeySlot). kept_in q (shown m.entries)) c.get_mut.follows.holds-at-none
          ∙ ap (kept_in q) c.self.view_is
          ∙ forgotten-none key q c.args.self.now none
    ]

pub returns-clause-keys : goal.returns-clause-keys
returns-clause-keys c =
    let old = c.self.inside.slots.entries in
    elim c.match-get_mut.branch [
      | in-Some w ↦
          let slot = w.forget.new.self in
          ap (λ (i : Inside). keys_of (shown i.slots.entries)) w.self-inside-is
          ∙ keys_of-shown (c.get_mut.follows.lender slot).entries ∙ (c.get_mut.follows.holds slot).1
          ∙ sym (keys_of-shown old) ∙ ap keys_of c.self.view_is
      | in_default w ↦
          ap (λ (i : Inside). keys_of (shown i.slots.entries)) w.self-inside-is
          ∙ ap (λ (m : BTreeMap Key KeySlot). keys_of (shown m.entries)) c.get_mut.follows.holds-at-none
          ∙ ap keys_of c.self.view_is
    ]
