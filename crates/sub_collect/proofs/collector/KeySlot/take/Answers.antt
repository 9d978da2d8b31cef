use Rattle.std.proofs.Common.{◌≡◌, ℕ, List, ◌++◌, ◌∷◌, [], Option, None, option_map, ap, sym, refl, subst, ◌∙◌}
use Rattle.std.specs.Option.{option_or}
use Rattle.sub_collect.specs.Runs.{Counted, all_of_version, counted, run_of}
use Rattle.sub_collect.specs.Completions.{completion, shown_after}
use Rattle.sub_collect.specs.Collectors.{IsKeptOf}
use Rattle.sub_collect.specs.Slots.{kept_run, kept_by, latest_with_done}
use Rattle.sub_collect.specs.declared.completed.Completed.{Completed}
use Rattle.sub_collect.proofs.Runs.{run_of-push, run_of-other}
use Rattle.sub_collect.proofs.Taking.{put-done, put-kept}
use Rattle.sub_collect.proofs.collector.KeySlot.take.Goals as goal

pub returns-then-self-header-clause-shown : goal.returns-then-self-header-clause-shown
returns-then-self-header-clause-shown c = λ heard before is are.
    let s = counted c.args.key c.args.header.now c.args.body in
    let latest = c.args.self.now.latest in
    let run = run_of-other heard c.args.self.now.run.version s is.run.version c.if-self-header.true in
    c.show.ensures.shown
    ∙ ap (λ (o : Option Completed). option_map (λ (d : Completed). d.version) (shown_after latest o)) (c.in_ok-done.ensures.done [] c.open-run.ensures.stands ∙ sym (put-done c.args.key heard before are s refl [] run))
    ∙ ap (λ (o : Option Completed). option_map (λ (d : Completed). d.version) (shown_after o (completion (heard ++ s ∷ [])))) is.latest_is

pub returns-then-self-header-clause-stands : goal.returns-then-self-header-clause-stands
returns-then-self-header-clause-stands c = λ heard before is are.
    let s = counted c.args.key c.args.header.now c.args.body in
    let latest = c.args.self.now.latest in
    let run = run_of-other heard c.args.self.now.run.version s is.run.version c.if-self-header.true in
    let kept = kept_run c.put.new.self in
    subst (λ (o : Option Completed). IsKeptOf (heard ++ s ∷ []) (option_or (completion (heard ++ s ∷ [])) before) (record { run = kept; latest = o }))
    (sym (c.show.ensures.latest ∙ ap (latest_with_done latest) (c.in_ok-done.ensures.done [] c.open-run.ensures.stands)))
    (put-kept c.args.key heard before are s refl [] run latest is.latest_is kept (c.in_ok-done.ensures.stands [] c.open-run.ensures.stands))

pub returns-then-repeats-clause-shown : goal.returns-then-repeats-clause-shown
returns-then-repeats-clause-shown c = λ heard before is are.
    let again = c.repeats.ensures.repeated c.if-repeats.true in
    let s = counted c.args.key c.args.header.now c.args.body in
    let same = ap (λ (b : List ℕ). counted c.args.key c.args.header.now b) c.as_slice.ensures in
    ap (option_map (λ (d : Completed). d.version))
    (sym (subst (λ (t : Counted). shown_after before (completion (heard ++ t ∷ [])) ≡ None) same (again.quiet heard before is are)))

pub returns-then-repeats-clause-stands : goal.returns-then-repeats-clause-stands
returns-then-repeats-clause-stands c = λ heard before is are.
    let again = c.repeats.ensures.repeated c.if-repeats.true in
    let same = ap (λ (b : List ℕ). counted c.args.key c.args.header.now b) c.as_slice.ensures in
    subst (λ (t : Counted). IsKeptOf (heard ++ t ∷ []) (option_or (completion (heard ++ t ∷ [])) before) (kept_by c.args.self.now)) same (again.stands heard before is are)

pub returns-clause-shown : goal.returns-clause-shown
returns-clause-shown c = λ heard before is are.
    let s = counted c.args.key c.args.header.now c.args.body in
    let latest = c.args.self.now.latest in
    let run = run_of-push heard s (ap (λ (v : ℕ). all_of_version v (run_of heard)) (sym c.if-self-header.false) ∙ is.run.version) in
    c.show-2.ensures.shown
    ∙ ap (λ (o : Option Completed). option_map (λ (d : Completed). d.version) (shown_after latest o)) (c.in_ok-done-2.ensures.done (run_of heard) is.run ∙ sym (put-done c.args.key heard before are s refl (run_of heard) run))
    ∙ ap (λ (o : Option Completed). option_map (λ (d : Completed). d.version) (shown_after o (completion (heard ++ s ∷ [])))) is.latest_is

pub returns-clause-stands : goal.returns-clause-stands
returns-clause-stands c = λ heard before is are.
    let s = counted c.args.key c.args.header.now c.args.body in
    let latest = c.args.self.now.latest in
    let run = run_of-push heard s (ap (λ (v : ℕ). all_of_version v (run_of heard)) (sym c.if-self-header.false) ∙ is.run.version) in
    let kept = kept_run c.put-2.new.self in
    subst (λ (o : Option Completed). IsKeptOf (heard ++ s ∷ []) (option_or (completion (heard ++ s ∷ [])) before) (record { run = kept; latest = o }))
    (sym (c.show-2.ensures.latest ∙ ap (latest_with_done latest) (c.in_ok-done-2.ensures.done (run_of heard) is.run)))
    (put-kept c.args.key heard before are s refl (run_of heard) run latest is.latest_is kept (c.in_ok-done-2.ensures.stands (run_of heard) is.run))
