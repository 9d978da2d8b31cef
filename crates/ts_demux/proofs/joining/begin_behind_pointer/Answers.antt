use Rattle.std.proofs.Common.{◌≡◌, ◌≤◌, ◌∷◌, List, ℕ, Option, length, map, sym, subst, arith}
use Rattle.std.specs.Prelude.{IfOk, OnOk}
use Rattle.ts_demux.specs.Sections.{on_pid}
use Rattle.ts_demux.proofs.Starting.{start_given, start_kept}
use Rattle.ts_demux.proofs.joining.begin_behind_pointer.Goals as goal

pub returns-clause-given : goal.returns-clause-given
returns-clause-given c =
    let payload = c.args.payload.now in
    let bytes = c.in-Some.bytes.now in
    let p = c.from-pointer.result in
    let is : payload ≡ p ∷ bytes = grind arith in
    let fits : p ≤ length bytes = grind arith in
    let given = start_given c.args.section.now payload bytes c.split_at.result.0.now c.split_at.result.1.now p is fits c.split_at.ensures.front c.split_at.ensures.back in
    subst (λ (x : List (List ℕ)). IfOk c.begin_at_target.result (λ sections. sections ≡ map (on_pid c.args.pid) x)) (sym given) c.begin_at_target.ensures.given

pub returns-clause-kept : goal.returns-clause-kept
returns-clause-kept c =
    let payload = c.args.payload.now in
    let bytes = c.in-Some.bytes.now in
    let p = c.from-pointer.result in
    let is : payload ≡ p ∷ bytes = grind arith in
    let fits : p ≤ length bytes = grind arith in
    let kept = start_kept payload bytes c.split_at.result.1.now p is fits c.split_at.ensures.back in
    subst (λ (x : Option (List ℕ)). OnOk c.begin_at_target.result (c.begin_at_target.new.section ≡ x)) (sym kept) c.begin_at_target.ensures.kept
