use Rattle.std.proofs.Common.{◌≡◌, ◌∙◌, ◌≤◌, ◌<◌, ◌+◌, ◌-◌, ◌⊎◌, inl, inr, ℕ, List, Bool, true, false, length, drop, refl, sym, ap, subst, arith}
use Rattle.std.specs.Prelude.{is_some}
use Rattle.std.proofs.lemmas.Bool.Decides.{leb_tells}
use Rattle.packet_finder.specs.Pieces.{row_length}
use Rattle.packet_finder.specs.Steps.{HoldsRow}
use Rattle.packet_finder.proofs.Passing.{NoRow, none_passed, rowless_of, then_passed, passes_over, at_stop, none_at_once}
use Rattle.packet_finder.proofs.finder.pass_over.Goals as goal
use Rattle.packet_finder.proofs.finder.pass_over.Goals.{then-ended-via-then-ended, then-ended-via-else-ended+then-bytes-ge-ROW}

pub loop-held-init : goal.loop-held-init
loop-held-init g c = record {
  end = c.requires.end;
  quiet = refl;
  same = g.met.S.Source.same_at_once c.args.source.now;
  lazy = λ holds. (refl, refl, refl);
  so_far = none_passed (g.S.Source.left c.args.source.now) c.args.ended.now c.args.held.now;
}

none_at_first : (ended : Bool) (held : List ℕ) → NoRow ended held 0
none_at_first ended held = record { within = omega arith; none = λ i lt. absurd (omega (arith, lt)); judged = λ e i lt. absurd (omega (arith, lt)) }

ended_not : (b : Bool) → b ≡ true → b ≡ false → ⊥
ended_not b e f = cc

at_limit : (n k : ℕ) → n ≡ k → (n < 18446744073709551616 → ⊥) → 18446744073709551615 < k
at_limit n k same over = elim (leb_tells 18446744073709551616 n) [
  | inl many ↦ omega (arith, many.1, same)
  | inr few ↦ absurd (over few.1)
]

pub returns-in_default-clause-passes : goal.returns-in_default-clause-passes
returns-in_default-clause-passes g c =
    let left = g.S.Source.left in
    let l = c.loop-held in
    let now = c.gather.new in
    let done = then_passed (left c.args.source.now) (left l.source) (left now.source) c.args.ended.now l.ended now.ended c.args.held.now l.held now.held l.passed 0 l.invariant.so_far
    c.gather.ensures.gathers (λ e. (let o = c.gather.ensures.over e in (o.0, o.2))) (none_at_first now.ended now.held) in
    passes_over (left c.args.source.now) (left now.source) c.args.ended.now now.ended c.args.held.now now.held (l.passed + 0) _ done (c.in_default.ensures.short)

pub returns-in_default-checked_add-clause-passes : goal.returns-in_default-checked_add-clause-passes
returns-in_default-checked_add-clause-passes g c =
    let left = g.S.Source.left in
    let l = c.loop-held in
    let now = c.gather.new in
    let places = c.places_before_row-places in
    let rowless = rowless_of now.ended c.bytes.result.now now.held places.result c.bytes.ensures places.ensures.within places.ensures.none places.ensures.judged in
    let done = then_passed (left c.args.source.now) (left l.source) (left now.source) c.args.ended.now l.ended now.ended c.args.held.now l.held now.held l.passed places.result l.invariant.so_far
    c.gather.ensures.gathers (λ e. (let o = c.gather.ensures.over e in (o.0, o.2))) rowless in
    let many : 18446744073709551615 < length done.passed = at_limit (l.passed + places.result) (length done.passed) done.size c.in_default-checked_add.ensures in
    rw c.consume.ensures (passes_over (left c.args.source.now) (left now.source) c.args.ended.now now.ended c.args.held.now (drop places.result now.held) (l.passed + places.result) _ done many)

pub returns-then-ended-clause-passes : goal.returns-then-ended-clause-passes
returns-then-ended-clause-passes g c =
    let left = g.S.Source.left in
    let l = c.loop-held in
    let now = c.gather.new in
    let places = c.places_before_row-places in
    let rowless = rowless_of now.ended c.bytes.result.now now.held places.result c.bytes.ensures places.ensures.within places.ensures.none places.ensures.judged in
    let done = then_passed (left c.args.source.now) (left l.source) (left now.source) c.args.ended.now l.ended now.ended c.args.held.now l.held now.held l.passed places.result l.invariant.so_far
    c.gather.ensures.gathers (λ e. (let o = c.gather.ensures.over e in (o.0, o.2))) rowless in
    let rest = drop places.result now.held in
    let enough : now.ended ≡ false → 409 ≤ length rest = λ going. elim c.then-ended.branch [
      | then-ended-via-then-ended w ↦ absurd (ended_not now.ended w.if-ended.true going)
      | then-ended-via-else-ended+then-bytes-ge-ROW w ↦ omega (arith, w.if-bytes-ge-ROW.true, ap length w.bytes-else-ended.ensures, ap length c.consume.ensures)
    ] in
    let stops = at_stop now.ended now.held places.result (subst (λ h. (is_some (row_length (drop places.result h)) ≡ true) ⊎ ((now.ended ≡ false) × (length h - places.result < 409)) ⊎ (places.result ≡ length h)) c.bytes.ensures places.ensures.stops) enough in
    let sum : c.in-Some.sum ≡ l.passed + places.result = c.in-Some.ensures.1 in
    rw (c.consume.ensures, sum) (passes_over (left c.args.source.now) (left now.source) c.args.ended.now now.ended c.args.held.now rest (l.passed + places.result) _ done (done.size, omega (arith, c.in-Some.ensures.0), stops))

pub loop-held-preserved : goal.loop-held-preserved
loop-held-preserved g c =
    let left = g.S.Source.left in
    let l = c.loop-held in
    let now = c.gather.new in
    let places = c.places_before_row-places in
    let rowless = rowless_of now.ended c.bytes.result.now now.held places.result c.bytes.ensures places.ensures.within places.ensures.none places.ensures.judged in
    let done = then_passed (left c.args.source.now) (left l.source) (left now.source) c.args.ended.now l.ended now.ended c.args.held.now l.held now.held l.passed places.result l.invariant.so_far
    c.gather.ensures.gathers (λ e. (let o = c.gather.ensures.over e in (o.0, o.2))) rowless in
    let rest = drop places.result now.held in
    let few : length rest < 409 = omega (arith, c.if-bytes-ge-ROW.false, ap length c.bytes-else-ended.ensures, ap length c.consume.ensures) in
    let going : now.ended ≡ false = c.if-ended.false in
    let sum : c.in-Some.sum ≡ l.passed + places.result = c.in-Some.ensures.1 in
    record {
      end = c.gather.ensures.end;
      quiet = c.in-Ok.ensures.quiet ∙ l.invariant.quiet;
      same = g.met.S.Source.same_later c.args.source.now l.source now.source l.invariant.same c.gather.ensures.same;
      lazy = λ holds.
          let same = l.invariant.lazy holds in
          absurd (none_at_once l.ended now.ended l.held now.held places.result (subst (λ e. HoldsRow e l.held) (sym same.0) (subst (HoldsRow c.args.ended.now) (sym same.2) holds)) (λ e. (c.gather.ensures.over e).0) (λ enough. (c.gather.ensures.lazy enough).2) going rowless few);
      so_far = rw (c.consume.ensures, sum) done;
    }
