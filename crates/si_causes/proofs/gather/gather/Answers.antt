use Rattle.std.proofs.Common.{◌≡◌, ◌+◌, ◌++◌, [], length, refl, sym, ap, ◌∙◌, arith, false, true, ◌≤◌, take, drop, lit<}
use Rattle.std.proofs.Math.Seq.{drop-length}
use Rattle.std.proofs.KnownBytes.{Consumes-kept}
use Rattle.si_causes.specs.Lines.{has_end}
use Rattle.si_causes.specs.Gathering.{hand}
use Rattle.si_causes.proofs.LineFacts.{has_end_append, after_line_none}
use Rattle.si_causes.proofs.CauseFacts.{Rose-from}
use Rattle.si_causes.proofs.GatherFacts.{start, ended, grown, at_end, take_nothing, no_length, one_more}
use Rattle.si_causes.proofs.gather.gather.Goals as goal
use Rattle.si_causes.proofs.gather.gather.Goals.{then-taken-limit, else-taken-limit}

false-true : false ≡ true → ⊥
false-true e = cc

pub loop-limit-init : goal.loop-limit-init
loop-limit-init g c =
    (([], [], start g.S.Source.left g.S.Source.faults (hand c.args.source.now c.args.held.now c.args.line.now c.args.taken.now c.args.limit) c.requires.empty c.requires.within), λ _. (refl, refl), g.met.S.Source.same_at_once c.args.source.now)

pub read_piece-requires-clause-empty : goal.read_piece-requires-clause-empty
read_piece-requires-clause-empty g c =
    c.take_line.ensures.held ∙ after_line_none c.loop-limit.held (sym c.take_line.ensures.found ∙ c.if-take_line.false)

pub returns-then-take_line-clause-gathers : goal.returns-then-take_line-clause-gathers
returns-then-take_line-clause-gathers g c =
    let i = c.loop-limit.invariant.0 in
    let r = ended g.S.Source.left g.S.Source.faults _ (hand c.loop-limit.source c.loop-limit.held c.loop-limit.line c.loop-limit.taken c.args.limit) i.0 i.1 c.take_line.new.held c.take_line.new.line i.2
    c.take_line.ensures.line c.take_line.ensures.held (sym c.take_line.ensures.found ∙ c.if-take_line.true) in
    (i.1, r.0, r.1)

pub returns-in-Err-clause-gathers : goal.returns-in-Err-clause-gathers
returns-in-Err-clause-gathers g c =
    let i = c.loop-limit.invariant.0 in
    let s = i.2 in
    let none = sym c.take_line.ensures.found ∙ c.if-take_line.false in (
      c.in-Err.ensures.err.0,
      (
        i.1,
        Consumes-kept (g.S.Source.left c.args.source.now) (g.S.Source.left c.loop-limit.source) (g.S.Source.left c.read_piece.new.source) i.1 s.consumed c.in-Err.ensures.err.1,
        ap has_end s.same ∙ has_end_append i.0 c.loop-limit.held s.no_end ∙ none,
        Rose-from (g.S.Source.faults c.args.source.now) (g.S.Source.faults c.loop-limit.source) (g.S.Source.faults c.read_piece.new.source) (omega (arith, s.quiet)) c.in-Err.ensures.cause.failed,
      ),
    )

pub returns-then-is_empty-clause-gathers : goal.returns-then-is_empty-clause-gathers
returns-then-is_empty-clause-gathers g c =
    let i = c.loop-limit.invariant.0 in
    let none = sym c.take_line.ensures.found ∙ c.if-take_line.false in
    let zero : length c.read_piece.new.held ≡ 0 = omega (arith, c.in-Ok.ensures.ok.0, c.if-count-eq0.true) in
    let s = grown g.S.Source.left g.S.Source.faults (hand c.args.source.now c.args.held.now c.args.line.now c.args.taken.now c.args.limit) (hand c.loop-limit.source c.loop-limit.held c.loop-limit.line c.loop-limit.taken c.args.limit)
    i.0 i.1 c.read_piece.new.held c.take_line.new.line c.read_piece.new.source c.loop-limit.taken c.args.limit i.2
    c.take_line.ensures.line none c.in-Ok.ensures.ok.2 (omega arith) i.2.within c.in-Ok.ensures.quiet in
    let e = at_end g.S.Source.left g.S.Source.faults _ _ _ _ s (no_length c.read_piece.new.held zero) in
    let empty = take_nothing 16386 (i.0 ++ c.loop-limit.held) (lit< tt) (sym s.line ∙ c.is_empty.ensures.0 c.if-is_empty.true) in
    (i.1 ++ c.read_piece.new.held, e.0, (e.2 ∙ empty, c.in-Ok.ensures.end c.if-count-eq0.true))

pub returns-else-is_empty-clause-gathers : goal.returns-else-is_empty-clause-gathers
returns-else-is_empty-clause-gathers g c =
    let i = c.loop-limit.invariant.0 in
    let none = sym c.take_line.ensures.found ∙ c.if-take_line.false in
    let zero : length c.read_piece.new.held ≡ 0 = omega (arith, c.in-Ok.ensures.ok.0, c.if-count-eq0.true) in
    let s = grown g.S.Source.left g.S.Source.faults (hand c.args.source.now c.args.held.now c.args.line.now c.args.taken.now c.args.limit) (hand c.loop-limit.source c.loop-limit.held c.loop-limit.line c.loop-limit.taken c.args.limit)
    i.0 i.1 c.read_piece.new.held c.take_line.new.line c.read_piece.new.source c.loop-limit.taken c.args.limit i.2
    c.take_line.ensures.line none c.in-Ok.ensures.ok.2 (omega arith) i.2.within c.in-Ok.ensures.quiet in
    let e = at_end g.S.Source.left g.S.Source.faults _ _ _ _ s (no_length c.read_piece.new.held zero) in (
      i.1 ++ c.read_piece.new.held,
      e.0,
      (e.1, λ z. let shows = c.is_empty.ensures.1 (s.line ∙ ap (take 16386) (sym e.2 ∙ z)) in false-true (sym c.if-is_empty.false ∙ shows), c.in-Ok.ensures.end c.if-count-eq0.true),
    )

pub returns-then-taken-limit-2-clause-gathers : goal.returns-then-taken-limit-2-clause-gathers
returns-then-taken-limit-2-clause-gathers g c =
    let i = c.loop-limit.invariant.0 in
    let s = i.2 in
    let none = sym c.take_line.ensures.found ∙ c.if-take_line.false in
    let room : c.if-taken-limit.room ≡ 1 =
    elim c.if-taken-limit.branch [ then-taken-limit w ↦ omega arith | else-taken-limit w ↦ omega arith ] in
    let one : length c.read_piece.new.held ≡ 1 = omega (arith, c.in-Ok.ensures.ok.0, c.in-Ok.ensures.ok.1, c.if-count-eq0.false) in
    let over = one_more (g.S.Source.left c.args.source.now) (g.S.Source.left c.loop-limit.source) (g.S.Source.left c.read_piece.new.source) i.1 c.read_piece.new.held one s.consumed c.in-Ok.ensures.ok.2 in (
      c.consume.ensures ∙ ap (λ k. drop k c.read_piece.new.held) c.in-Ok.ensures.ok.0 ∙ drop-length c.read_piece.new.held,
      (
        i.1,
        over.0,
        over.1,
        omega (arith, s.taken, s.within, c.if-taken-limit-2.true),
        ap has_end s.same ∙ has_end_append i.0 c.loop-limit.held s.no_end ∙ none,
      ),
    )

pub loop-limit-preserved : goal.loop-limit-preserved
loop-limit-preserved g c =
    let i = c.loop-limit.invariant.0 in
    let none = sym c.take_line.ensures.found ∙ c.if-take_line.false in
    let within : c.loop-limit.taken + c.in-Ok.count ≤ c.args.limit =
    elim c.if-taken-limit.branch [ then-taken-limit w ↦ omega (arith, c.in-Ok.ensures.ok.1) | else-taken-limit w ↦ absurd (omega arith) ] in (
      (
        i.0 ++ c.loop-limit.held,
        i.1 ++ c.read_piece.new.held,
        grown g.S.Source.left g.S.Source.faults (hand c.args.source.now c.args.held.now c.args.line.now c.args.taken.now c.args.limit) (hand c.loop-limit.source c.loop-limit.held c.loop-limit.line c.loop-limit.taken c.args.limit)
            i.0 i.1 c.read_piece.new.held c.take_line.new.line c.read_piece.new.source (c.loop-limit.taken + c.in-Ok.count) c.args.limit i.2
            c.take_line.ensures.line none c.in-Ok.ensures.ok.2 (omega (arith, c.in-Ok.ensures.ok.0)) within c.in-Ok.ensures.quiet,
      ),
      λ h. absurd (false-true (sym none ∙ ap has_end (c.loop-limit.invariant.1 h).1 ∙ h)),
      g.met.S.Source.same_later c.args.source.now c.loop-limit.source c.read_piece.new.source c.loop-limit.invariant.2 c.in-Ok.ensures.same,
    )
