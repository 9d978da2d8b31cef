use Rattle.std.proofs.Common.{◌≡◌, ℕ, List, Option, Some, None, set, sym, ap, ap₂, ◌∙◌, subst, slice_index_or}
use Rattle.std.specs.Option.{option_or}
use Rattle.std.proofs.lemmas.List.{get_or-replicate, get_or_default}
use Rattle.ts_packets.specs.declared.pid_counter.PidCounter.{PidCounter}
use Rattle.ts_packets.specs.Counting.{AreNext}
use Rattle.ts_packets.proofs.KeptCounters.{AreNext-none, AreNext-more, named_more}
use Rattle.ts_packets.proofs.counters.Counters.of.Goals as goal

pub loop-counter-init : goal.loop-counter-init
loop-counter-init c = record { next = AreNext-none; written = λ pid fits. get_or-replicate 8192 pid None None fits }

pub loop-counter-preserved : goal.loop-counter-preserved
loop-counter-preserved c =
    let kept = c.args.kept.now in
    let at = c.loop-counter.counter-index in
    let next = c.loop-counter.next in
    let i = c.loop-counter.invariant in
    let none : PidCounter = record { pid = 0; next = 0 } in
    let counter = slice_index_or kept at none in
    let fit = c.requires at none c.loop-counter-test.true in
    let same : set next counter.pid (option_or (slice_index_or next counter.pid None) (Some counter.next)) ≡ set next c.from-pid.result c.or.result =
    ap₂ (set next) (sym c.from-pid.ensures) (ap (λ (p : ℕ). option_or (slice_index_or next p None) (Some counter.next)) (sym c.from-pid.ensures) ∙ sym c.or.ensures) in
    record {
      next = subst AreNext same (AreNext-more next counter.pid counter.next i.next fit.0 fit.1);
      written = λ pid fits. ap (λ (l : List (Option ℕ)). slice_index_or l pid None) (sym same)
          ∙ named_more next kept at counter c.loop-counter-test.true (get_or_default kept at none counter c.loop-counter-test.true) i.next.size fit.0 i.written pid fits;
    }
