use Rattle.std.proofs.Common.{◌≡◌, ◌++◌, ◌∷◌, [], List, Option, Some, None, option_map, ap, sym, refl, subst, ◌∙◌}
use Rattle.std.specs.Prelude.{IsSome, cond, if◌then◌else◌}
use Rattle.std.specs.Option.{option_or}
use Rattle.std.specs.BTreeMap.{BTreeMap, get, is_at}
use Rattle.std.proofs.lemmas.Result.{IfOk-weaker, on_ok_weaker, on_err_weaker}
use Rattle.section_codec.specs.declared.table.Key.{Key}
use Rattle.section_codec.specs.KeyOrder.{is_key, key_cmp}
use Rattle.sub_collect.specs.Runs.{Counted, counted}
use Rattle.sub_collect.specs.Completions.{completion}
use Rattle.sub_collect.specs.Marks.{since_mark, latest_over}
use Rattle.sub_collect.specs.Collectors.{KeysHeard, kept_in, IsKeptOf}
use Rattle.sub_collect.specs.Slots.{kept_by, shown}
use Rattle.sub_collect.specs.declared.completed.Completed.{Completed}
use Rattle.sub_collect.specs.declared.collector.KeySlot.{KeySlot}
use Rattle.sub_collect.proofs.MarksShown.{are_of_key, are_of_none, none-latest, shown-is}
use Rattle.sub_collect.proofs.Keys.{kept_in-shown, shown-set, of-kept, of-none, stands-put, kept-put, shown-first}
use Rattle.sub_collect.proofs.collector.Collector.count.Goals as goal

pub returns-in-Some-clause-shown : goal.returns-in-Some-clause-shown
returns-in-Some-clause-shown c =
    let k = c.args.key in
    let s = counted k c.args.header.now c.args.body in
    let found : kept_in k c.args.self.now ≡ Some (kept_by c.in-Some.slot.now) =
    ap (λ (b : KeysHeard). kept_in k b) (sym c.self.view_is) ∙ kept_in-shown k c.self.inside.slots.entries ∙ ap (option_map kept_by) (sym c.in-Some.ensures.value) in
    IfOk-weaker c.take.result _ _ (λ shown take past stands.
    take (since_mark k past) (latest_over k past) (of-kept k past (kept_in k c.args.self.now) (kept_by c.in-Some.slot.now) (stands k) found) (are_of_key k past)
    ∙ ap (option_map (λ (d : Completed). d.version)) (sym (shown-is past s))) c.take.ensures.shown

pub returns-in-Some-clause-stands : goal.returns-in-Some-clause-stands
returns-in-Some-clause-stands c =
    let k = c.args.key in
    let s = counted k c.args.header.now c.args.body in
    let old = c.self.inside.slots.entries in
    let new = c.get_mut.follows.lender c.take.new.self in
    let found : kept_in k c.args.self.now ≡ Some (kept_by c.in-Some.slot.now) =
    ap (λ (b : KeysHeard). kept_in k b) (sym c.self.view_is) ∙ kept_in-shown k old ∙ ap (option_map kept_by) (sym c.in-Some.ensures.value) in
    let held = subst IsSome c.in-Some.ensures.value refl in
    on_ok_weaker c.take.result (λ take past stands.
    stands-put past s c.args.self.now (shown new.entries) (kept_by c.take.new.self) stands
    (λ q. kept-put k c.take.new.self old new.entries (((c.get_mut.follows.holds c.take.new.self).3 held).0) q
    ∙ ap (λ (b : KeysHeard). if is_key k q then Some (kept_by c.take.new.self) else kept_in q b) c.self.view_is)
    (take (since_mark k past) (latest_over k past) (of-kept k past (kept_in k c.args.self.now) (kept_by c.in-Some.slot.now) (stands k) found) (are_of_key k past))) c.take.ensures.stands

pub returns-in-Some-clause-memory : goal.returns-in-Some-clause-memory
returns-in-Some-clause-memory c =
    on_err_weaker c.take.result (λ same.
    ap shown (c.get_mut.follows.holds c.take.new.self).0
    ∙ shown-set (is_at (key_cmp c.args.key)) c.self.inside.slots.entries c.in-Some.slot.now c.take.new.self (sym c.in-Some.ensures.value) same
    ∙ c.self.view_is) c.take.ensures.memory

pub returns-in_ok-insert-in-None-clause-shown : goal.returns-in_ok-insert-in-None-clause-shown
returns-in_ok-insert-in-None-clause-shown c = λ past stands.
    let k = c.args.key in
    let s = counted k c.args.header.now c.args.body in
    let found : kept_in k c.args.self.now ≡ None =
    ap (λ (b : KeysHeard). kept_in k b) (sym c.self.view_is) ∙ kept_in-shown k c.self.inside.slots.entries ∙ ap (option_map kept_by) (sym c.in-None.ensures.value) in
    c.in_ok-shown-in-None.ensures.shown [] None c.open-slot.ensures.stands (are_of_none k)
    ∙ ap (option_map (λ (d : Completed). d.version)) (shown-first past s (of-none k past (kept_in k c.args.self.now) (stands k) found))

pub returns-in_ok-insert-in-None-clause-stands : goal.returns-in_ok-insert-in-None-clause-stands
returns-in_ok-insert-in-None-clause-stands c = λ past stands.
    let k = c.args.key in
    let s = counted k c.args.header.now c.args.body in
    let old = c.self.inside.slots.entries in
    let slot = c.take-in-None.new.self in
    let found : kept_in k c.args.self.now ≡ None =
    ap (λ (b : KeysHeard). kept_in k b) (sym c.self.view_is) ∙ kept_in-shown k old ∙ ap (option_map kept_by) (sym c.in-None.ensures.value) in
    let none = none-latest k past (of-none k past (kept_in k c.args.self.now) (stands k) found) in
    let same : c.get_mut.follows.lender-at-none ≡ c.self.inside.slots = c.get_mut.follows.holds-at-none in
    stands-put past s c.args.self.now (shown c.insert.new.self.entries) (kept_by slot) stands
    (λ q. kept-put k slot old c.insert.new.self.entries
    (λ p. c.in_ok-insert-in-None.ensures.updates.0 p ∙ ap (λ (m : BTreeMap Key KeySlot). cond (is_at (key_cmp k) p) (Some slot) (get key_cmp m p)) same) q
    ∙ ap (λ (b : KeysHeard). if is_key k q then Some (kept_by slot) else kept_in q b) c.self.view_is)
    (subst (λ (l : List Counted). IsKeptOf (l ++ s ∷ []) (option_or (completion (l ++ s ∷ [])) (latest_over k past)) (kept_by slot)) (sym none.0)
    (subst (λ (o : Option Completed). IsKeptOf (s ∷ []) (option_or (completion (s ∷ [])) o) (kept_by slot)) (sym none.1) (c.in_ok-shown-in-None.ensures.stands [] None c.open-slot.ensures.stands (are_of_none k))))
