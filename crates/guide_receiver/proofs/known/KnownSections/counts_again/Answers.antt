use Rattle.std.proofs.Common.{subst, sym}
use Rattle.std.specs.List.{All}
use Rattle.std.specs.Map.{values_of}
use Rattle.std.proofs.lemmas.Map.Views.{All-values-set_value}
use Rattle.guide_receiver.specs.Known.{IsKnown}
use Rattle.guide_receiver.proofs.Rounds.{found-known}
use Rattle.guide_receiver.proofs.known.KnownSections.counts_again.Goals as goal

pub returns-then-is_of-clause-known : goal.returns-then-is_of-clause-known
returns-then-is_of-clause-known c = λ are.
    let P = IsKnown c.args.collector.now c.args.self.now.round in
    let entries = c.args.self.now.sections.entries in
    let before = found-known c.args.collector.now c.args.self.now.round _ entries c.in-Some-get_mut.known.now c.in-Some-get_mut.ensures.value are.each in
    record {
      begun = are.begun;
      each = subst (λ es. All P (values_of es)) (sym (c.get_mut.follows.holds c.is_held.new.known).0)
          (All-values-set_value _ P entries c.is_held.new.known are.each (c.is_held.ensures.kept before));
    }

pub returns-else-is_of-clause-known : goal.returns-else-is_of-clause-known
returns-else-is_of-clause-known c = λ are.
    let P = IsKnown c.args.collector.now c.args.self.now.round in
    let entries = c.args.self.now.sections.entries in
    let before = found-known c.args.collector.now c.args.self.now.round _ entries c.in-Some-get_mut.known.now c.in-Some-get_mut.ensures.value are.each in
    record {
      begun = are.begun;
      each = subst (λ es. All P (values_of es)) (sym (c.get_mut.follows.holds c.in-Some-get_mut.known.now).0)
          (All-values-set_value _ P entries c.in-Some-get_mut.known.now are.each before);
    }
