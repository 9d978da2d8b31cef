use Rattle.std.proofs.Common.{◌≡◌, ◌<◌, ℕ, [], length, sym, ◌∙◌, subst}
use Rattle.std.specs.List.{AllByRecursion}
use Rattle.std.proofs.lemmas.List.{length-map}
use Rattle.version_book.specs.Airings.{AiredTables}
use Rattle.version_book.specs.Book.{aired}
use Rattle.air_timing.specs.declared.timing.Timing.{Timing}
use Rattle.air_model.specs.Air.{sections_once}
use Rattle.cycle_timing.specs.Planning.{timings_of}
use Rattle.cycle_timing.proofs.Cycles.{timings_within}
use Rattle.air_model.specs.Laying.{sent_at}
use Rattle.air_model.specs.Telling.{laid_in}
use Rattle.cycle_player.proofs.Chosen.{placed_fit}
use Rattle.cycle_player.proofs.Queues.{alone_at_start, both_laid}
use Rattle.cycle_player.proofs.runs.RunQueue.begin.Goals as goal

pub invariant_of-self-2 : goal.invariant_of-self-2
invariant_of-self-2 c =
    let a : AiredTables = aired c.args.tables.now.list c.args.moment.0 (record { quota = 0; offsets = c.args.offsets.now }) in
    let ts = c.in_ok-timings.timings.items in
    let bytes = c.lay.new.self.bytes.items in
    let placed = c.lay.new.self.placed.items in
    let are : ts ≡ timings_of c.args.rate [] a = c.in_ok-timings.ensures.all ∙ c.in_ok-plan.ensures.frames [] a (sym c.as_slice-list.ensures) (λ i. c.args.offsets.now) in
    let many : length (sections_once [] a) ≡ length (laid_in bytes placed) = sym (length-map placed (sent_at bytes) ∙ c.in_ok-lay.ensures.count [] 0) in
    let within : AllByRecursion (λ (t : Timing). t.section < length (laid_in bytes placed)) ts =
    subst (λ (n : ℕ). AllByRecursion (λ (t : Timing). t.section < n) ts) many (subst (AllByRecursion (λ (t : Timing). t.section < length (sections_once [] a))) (sym are) (timings_within c.args.rate [] a)) in
    record {
      line = c.in_ok-lay.ensures.line;
      course = record {
        left = both_laid (length (laid_in bytes placed)) ts within c.in_ok-timings.ensures.most;
        hand = alone_at_start ts;
        each = placed_fit bytes placed c.in_ok-lay.ensures.line.each;
        rate = c.requires.rate;
      };
    }

pub returns-clause-left : goal.returns-clause-left
returns-clause-left c past a tables offsets = c.in_ok-timings.ensures.all ∙ c.in_ok-plan.ensures.frames past a (tables ∙ sym c.as_slice-list.ensures) offsets

pub returns-clause-right : goal.returns-clause-right
returns-clause-right c past a tables offsets = c.in_ok-plan.ensures.right past a (tables ∙ sym c.as_slice-list.ensures) offsets

pub returns-clause-leads : goal.returns-clause-leads
returns-clause-leads c past a tables offsets = c.in_ok-plan.ensures.leads past a (tables ∙ sym c.as_slice-list.ensures) offsets
