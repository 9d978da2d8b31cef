use Rattle.std.proofs.Common.{◌≡◌, ◌+◌, ◌++◌, List, ℕ, take, subst, sym, ap, ◌∙◌, arith, append-nil, append_assoc, refl}
use Rattle.std.proofs.Math.Seq.{take-add}
use Rattle.air_monitor.specs.Heard.{HasTaken}
use Rattle.air_monitor.proofs.listen.listen.Goals as goal

pub loop-at-init : goal.loop-at-init
loop-at-init c = record {
  within = omega arith;
  shorter = c.requires;
  taken = λ past has. subst (λ (l : List ℕ). HasTaken l c.args.part.now c.args.listener.now) (sym (append-nil past)) has;
  join = refl;
}

pub loop-at-preserved : goal.loop-at-preserved
loop-at-preserved c =
    let i = c.loop-at.invariant in
    let n = c.listen_once-at.result in
    let bytes = c.args.bytes.now in
    let rest = c.split_at.ensures.back in record {
      within = omega (arith, c.listen_once-at.ensures.within, c.split_at.ensures.back_len);
      shorter = c.listen_once-at.ensures.shorter;
      taken = λ past has.
          let parts : past ++ take c.loop-at.at bytes ++ take n c.split_at.result.1.now ≡ past ++ take (c.loop-at.at + n) bytes =
          append_assoc past (take c.loop-at.at bytes) (take n c.split_at.result.1.now)
          ∙ ap (λ (t : List ℕ). past ++ (take c.loop-at.at bytes ++ take n t)) rest ∙ ap (λ (t : List ℕ). past ++ t) (sym (take-add c.loop-at.at n bytes)) in
          subst (λ (l : List ℕ). HasTaken l c.listen_once-at.new.part c.listen_once-at.new.listener) parts (c.listen_once-at.ensures.taken (past ++ take c.loop-at.at bytes) (i.taken past has));
      join = c.listen_once-at.ensures.join ∙ i.join;
    }
