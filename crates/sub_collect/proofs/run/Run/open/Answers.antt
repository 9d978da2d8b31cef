use Rattle.std.proofs.Common.{None, refl, ap, arith, inl, inr, replicate}
use Rattle.sub_collect.specs.Collectors.{body_in}
use Rattle.std.proofs.lemmas.List.{get_or-replicate, get_or_past}
use Rattle.std.proofs.lemmas.Bool.{cases_lt}
use Rattle.sub_collect.proofs.run.Run.open.Goals as goal

pub returns-clause-stands : goal.returns-clause-stands
returns-clause-stands c = record {
  version = refl;
  last = λ s e. cc;
  held = λ n. ap (body_in n) c.new.ensures.empty;
  front = record { below = λ n lt. absurd (omega arith); gap = λ lt. ap (body_in 0) c.new.ensures.empty };
  lasts = λ segment. elim (cases_lt segment 32) [
    | inl lt ↦ get_or-replicate 32 segment None None lt
    | inr le ↦ get_or_past (replicate 32 None) segment None le
  ];
}
