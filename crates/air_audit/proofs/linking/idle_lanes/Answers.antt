use Rattle.std.proofs.Common.{◌≡◌, ◌+◌, ◌∷◌, ◌++◌, [], ℕ, List, sym, ap, ◌∙◌, arith, length, get_or, map}
use Rattle.std.specs.List.{range_with_len}
use Rattle.std.proofs.lemmas.List.FromFn.{map-range_with_len_more, length-map-range_with_len, get_or-map-range_with_len}
use Rattle.air_audit.specs.declared.lanes.Lane.{Lane}
use Rattle.air_audit.proofs.linking.idle_lanes.Goals as goal

idle : ℕ → ℕ → Lane
idle places pid = record { pid = pid; at = 0; end = 0; next = places }

pub loop-pid-preserved : goal.loop-pid-preserved
unfolding idle
loop-pid-preserved c =
    let pid = c.loop-pid.pid in
    c.in_ok-push.ensures.items ∙ ap (λ (ls : List Lane). ls ++ idle c.args.places pid ∷ []) c.loop-pid.invariant
    ∙ sym (map-range_with_len_more (idle c.args.places) 0 pid pid (let e : 0 + pid ≡ pid = omega arith in e))

pub returns : goal.returns
unfolding idle
returns c =
    let pid = c.loop-pid.pid in
    let all : pid ≡ 8192 = omega (arith, c.loop-pid.auto.pid-end, c.loop-pid-test.false) in
    let items : c.loop-pid.lanes.items ≡ map (idle c.args.places) (range_with_len 0 pid) = c.loop-pid.invariant in
    record {
      many = ap length items ∙ length-map-range_with_len (idle c.args.places) 0 pid ∙ all;
      each = λ i d lt. ap (λ (l : List Lane). get_or l i d) items ∙ get_or-map-range_with_len (idle c.args.places) 0 pid i i d (omega (arith, all, lt)) (omega arith);
    }
