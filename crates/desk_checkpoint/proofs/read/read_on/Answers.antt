use Rattle.std.proofs.Common.{◌∙◌, refl, arith, ap, subst, sym}
use Rattle.std.specs.Prelude.{Bool}
use Rattle.input_lines.specs.Ahead.{ahead}
use Rattle.desk_checkpoint.specs.Answers.{Answers}
use Rattle.desk_checkpoint.specs.Checkpoints.{with_part}
use Rattle.desk_checkpoint.specs.Reads.{first_part}
use Rattle.desk_checkpoint.proofs.ReadFacts.{read_part, read_refused}
use Rattle.desk_checkpoint.proofs.read.read_on.Goals as goal

pub parts-init : goal.parts-init
parts-init g c = record {
  going = c.requires.going;
  same = g.met.S.Source.same_at_once c.args.lines.now.source;
  later = omega arith;
  mux = refl;
  told = λ text told. (text, told, refl);
}

pub parts-preserved : goal.parts-preserved
parts-preserved g c =
    let i = c.parts.invariant in
    let part = c.in-Ok.found in
    let r = c.in-Ok.ensures.reads in
    let took = subst (λ (b : Bool). Answers b (with_part c.parts.reading part.1) c.take.new.self) c.if-not-branch.false c.in_ok-take.ensures.answers in
    record {
      going = (r.takes i.going).looked.going;
      same = g.met.S.Source.same_later c.args.lines.now.source c.parts.lines.source c.next_part.new.lines.source i.same r.same;
      later = omega (arith, i.later, r.later);
      mux = c.take.ensures.mux ∙ i.mux;
      told = λ text told.
          let t = i.told text told in
          let l = r.gives i.going t.0 t.1 in
          (l.rest, l.told, t.2 ∙ read_part c.parts.reading c.take.new.self (ahead c.parts.lines t.0) (ahead c.next_part.new.lines l.rest) part (ap (λ (b : Bool). first_part b (ahead c.parts.lines t.0)) (sym c.steps_may_come.ensures) ∙ l.reads) took (sym c.is_end-ends.ensures ∙ c.if-ends.false));
    }

pub returns-then-not-branch-clause-gives : goal.returns-then-not-branch-clause-gives
returns-then-not-branch-clause-gives g c = λ text told.
    let i = c.parts.invariant in
    let part = c.in-Ok.found in
    let none = subst (λ (b : Bool). Answers b (with_part c.parts.reading part.1) c.take.new.self) c.if-not-branch.true c.in_ok-take.ensures.answers in
    let t = i.told text told in
    let l = c.in-Ok.ensures.reads.gives i.going t.0 t.1 in
    t.2 ∙ read_refused c.parts.reading (ahead c.parts.lines t.0) (ahead c.next_part.new.lines l.rest) part (ap (λ (b : Bool). first_part b (ahead c.parts.lines t.0)) (sym c.steps_may_come.ensures) ∙ l.reads) none
