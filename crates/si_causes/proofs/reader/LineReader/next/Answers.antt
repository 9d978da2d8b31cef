use Rattle.std.proofs.Common.{rules, ◌≡◌, ◌+◌, ◌≤◌, ◌++◌, [], true, false, refl, sym, ap, ◌∙◌, arith, length, length-append, subst, List, ◌∷◌, ℕ}
use Rattle.std.specs.Io.KnownBytes.{Consumes}
use Rattle.std.specs.Prelude.{None, Some}
use Rattle.si_causes.specs.Lines.{first_line, after_line, shown}
use Rattle.si_causes.specs.Reading.{Reading}
use Rattle.si_causes.proofs.LineFacts.{parted, after_line_none, shown_front, some_length}
use Rattle.si_causes.proofs.TextFacts.{line_gives, line_falls, stop_gives, stop_came}
use Rattle.si_causes.proofs.reader.LineReader.next.Goals as goal

true-false : true ≡ false → ⊥
true-false e = cc

no_front : (xs ys : List ℕ) → xs ++ ys ≡ [] → (xs ≡ []) × (ys ≡ [])
no_front [] ys e = (refl, e)
no_front (x ∷ xs) ys e = cc

pub overflow_sub-self : goal.overflow_sub-self
overflow_sub-self g c =
    let p = rw c.in-Ok-Line.field-0-is at c.in-Ok-Line.ensures.gathers in
    omega (arith, ap length c.bytes.ensures, ap length c.bytes-in-Ok-Line.ensures, ap length p.1.rest, p.1.taken, parted (c.self.inside.held ++ p.0) p.2, length-append c.self.inside.held p.0)

pub returns-in-Ok-Line-clause-came : goal.returns-in-Ok-Line-clause-came
returns-in-Ok-Line-clause-came g c =
    let p = rw c.in-Ok-Line.field-0-is at c.in-Ok-Line.ensures.gathers in
    let bytes = length-append c.self.inside.held p.0 in
    let held = ap length c.bytes-in-Ok-Line.ensures in
    let fits : length c.bytes-in-Ok-Line.result.now ≤ c.gather.new.taken =
    omega (arith, ap length c.bytes.ensures, held, ap length p.1.rest, p.1.taken, parted (c.self.inside.held ++ p.0) p.2, bytes) in
    rw (← c.self.view_is) (λ going. (
      p.0,
      record {
        gave = p.1.consumed;
        line = c.finish-in-Ok-Line.ensures ∙ ap shown p.1.line ∙ shown_front (first_line (c.self.inside.held ++ p.0));
        rest = p.1.rest;
        passed = omega (arith, ap length c.bytes.ensures, held, p.1.taken, bytes, fits);
        within = omega (arith, held, p.1.within, fits);
        limit = refl;
        number = refl;
        count = refl;
        last = λ none. absurd (true-false (sym p.2 ∙ none));
        going = going;
      },
    ))

pub returns-in-Ok-Line-clause-lines : goal.returns-in-Ok-Line-clause-lines
returns-in-Ok-Line-clause-lines g c =
    λ going text told. let came = returns-in-Ok-Line-clause-came g c going in line_gives g.S.Source.left _ _ _ came.0 text came.1 told

pub returns-in-Ok-Line-clause-falls : goal.returns-in-Ok-Line-clause-falls
returns-in-Ok-Line-clause-falls g c =
    let going : c.self.inside.stop ≡ None = search rules in
    let came = returns-in-Ok-Line-clause-came g c (rw (← c.self.view_is) going) in
    (going, line_falls g.S.Source.left _ _ _ came.0 came.1)

pub returns-in-Ok-Last-clause-came : goal.returns-in-Ok-Last-clause-came
returns-in-Ok-Last-clause-came g c =
    let p = rw c.in-Ok-Last.field-0-is at c.in-Ok-Last.ensures.gathers in
    let none = ap length (p.1.rest ∙ after_line_none (c.self.inside.held ++ p.0) p.2.0) in
    rw (← c.self.view_is) (λ going. (
      p.0,
      record {
        gave = p.1.consumed;
        line = c.finish.ensures ∙ ap shown p.1.line ∙ shown_front (first_line (c.self.inside.held ++ p.0));
        rest = p.1.rest;
        passed = omega (arith, ap length c.bytes.ensures, none, p.1.taken, length-append c.self.inside.held p.0);
        within = omega (arith, none, p.1.within);
        limit = refl;
        number = refl;
        count = refl;
        last = λ open_end. (p.2.1, p.2.2, refl);
        going = going;
      },
    ))

pub returns-in-Ok-Last-clause-lines : goal.returns-in-Ok-Last-clause-lines
returns-in-Ok-Last-clause-lines g c =
    λ going text told. let came = returns-in-Ok-Last-clause-came g c going in line_gives g.S.Source.left _ _ _ came.0 text came.1 told

pub returns-in-Ok-End-clause-came : goal.returns-in-Ok-End-clause-came
returns-in-Ok-End-clause-came g c =
    let p = rw c.in-Ok-End.field-0-is at c.in-Ok-End.ensures.gathers in
    let none = no_front c.self.inside.held p.0 p.2.0 in
    rw (← c.self.view_is) (λ going. record {
      gave = subst (Consumes (g.S.Source.left c.self.inside.source) (g.S.Source.left c.gather.new.source)) none.1 p.1.consumed;
      held = none.0;
      rest = p.1.rest ∙ ap after_line p.2.0;
      at_end = p.2.1;
      ended = refl;
      passed = refl;
      count = refl;
      going = going;
    })

pub returns-in-Err-clause-came : goal.returns-in-Err-clause-came
returns-in-Err-clause-came g c =
    let inside = c.self.inside in
    let old : Reading g.row.S.Denot = record { source = inside.source; held = inside.held; passed = inside.passed; number = inside.number; line = inside.line; ended = inside.ended; stop = inside.stop; limit = inside.limit } in
    let new : Reading g.row.S.Denot = record { source = c.gather.new.source; held = c.gather.new.held; passed = inside.passed; number = inside.number; line = c.gather.new.line; ended = inside.ended; stop = Some c.in-Err.stop; limit = inside.limit } in
    rw (← c.self.view_is) (λ going. stop_came g.S.Source.left g.S.Source.faults old new c.clear.new.self c.gather.new.line (inside.passed + length c.bytes.result.now) c.gather.new.taken c.in-Err.stop
    (omega (arith, ap length c.bytes.ensures)) c.in-Err.ensures.gathers.1 refl refl refl)

pub returns-in-Err-clause-lines : goal.returns-in-Err-clause-lines
returns-in-Err-clause-lines g c =
    let inside = c.self.inside in
    let old : Reading g.row.S.Denot = record { source = inside.source; held = inside.held; passed = inside.passed; number = inside.number; line = inside.line; ended = inside.ended; stop = inside.stop; limit = inside.limit } in
    let new : Reading g.row.S.Denot = record { source = c.gather.new.source; held = c.gather.new.held; passed = inside.passed; number = inside.number; line = c.gather.new.line; ended = inside.ended; stop = Some c.in-Err.stop; limit = inside.limit } in
    rw (← c.self.view_is) (λ going text told. stop_gives g.S.Source.left g.S.Source.faults old new c.clear.new.self c.gather.new.line (inside.passed + length c.bytes.result.now) c.gather.new.taken c.in-Err.stop text
    (omega (arith, ap length c.bytes.ensures)) c.in-Err.ensures.gathers.1 told)

pub invariant_of-self-in-Ok-Line : goal.invariant_of-self-in-Ok-Line
invariant_of-self-in-Ok-Line g c =
    let p = rw c.in-Ok-Line.field-0-is at c.in-Ok-Line.ensures.gathers in
    let held = ap length c.bytes-in-Ok-Line.ensures in
    let fits : length c.bytes-in-Ok-Line.result.now + c.self.inside.passed + 1 ≤ c.gather.new.taken =
    omega (arith, ap length c.bytes.ensures, held, ap length p.1.rest, p.1.taken, parted (c.self.inside.held ++ p.0) p.2, length-append c.self.inside.held p.0) in (
      omega (arith, held, p.1.within, fits),
      c.self.invariant.1,
      omega (arith, fits, c.self.invariant.2),
      λ e. absurd (true-false (sym e ∙ c.if-self.false)),
    )

pub invariant_of-self-in-Ok-Last : goal.invariant_of-self-in-Ok-Last
invariant_of-self-in-Ok-Last g c =
    let p = rw c.in-Ok-Last.field-0-is at c.in-Ok-Last.ensures.gathers in
    let rest = p.1.rest ∙ after_line_none (c.self.inside.held ++ p.0) p.2.0 in (
      omega (arith, ap length rest, p.1.within),
      c.self.invariant.1,
      omega (arith, ap length c.bytes.ensures, p.1.taken, some_length (c.self.inside.held ++ p.0) p.2.1, length-append c.self.inside.held p.0, c.self.invariant.2),
      λ _. (rest, p.2.2),
    )
