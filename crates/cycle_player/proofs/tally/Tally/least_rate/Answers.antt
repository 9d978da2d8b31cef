use Rattle.std.proofs.Common.{◌≡◌, ℕ, ◌*◌, true, false, Some, sym, ap, ◌∙◌, arith}
use Rattle.std.specs.Prelude.{max}
use Rattle.cycle_player.specs.Tally.{Tallied, is_right, least_rate}
use Rattle.cycle_player.proofs.TimedTallies.{none_next, least_none, least_some}
use Rattle.cycle_player.proofs.tally.Tally.least_rate.Goals as goal

pub returns-then-is_right : goal.returns-then-is_right
returns-then-is_right c =
    let l = c.self.inside.most in
    let rate = c.least_with-rate.ensures in
    let yes : is_right (max (c.rates.half * 3008) 100000) l ≡ true = ap (λ (r : ℕ). is_right r l) (sym rate) ∙ sym c.is_right.ensures ∙ c.if-is_right.true in
    ap (λ (r : ℕ). Some r) rate
    ∙ sym (least_some l c.rates.half c.rates-test.true c.rates.auto.half yes c.rates.invariant.none)
    ∙ ap (λ (t : Tallied). least_rate t.most) c.self.view_is

pub rates-preserved : goal.rates-preserved
rates-preserved c =
    let l = c.self.inside.most in
    let rate = c.least_with-rate.ensures in
    let no : is_right (max (c.rates.half * 3008) 100000) l ≡ false = ap (λ (r : ℕ). is_right r l) (sym rate) ∙ sym c.is_right.ensures ∙ c.if-is_right.false in
    record {
      leads = c.rates.invariant.leads;
      none = none_next l c.self.invariant.often c.self.invariant.round c.rates.half no c.rates.invariant.none;
    }

pub returns : goal.returns
returns c =
    let l = c.self.inside.most in
    sym (least_none l (λ s least less. c.rates.invariant.none s least (let end = c.rates-test.false in omega arith))) ∙ ap (λ (t : Tallied). least_rate t.most) c.self.view_is
