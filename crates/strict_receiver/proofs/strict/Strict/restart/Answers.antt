use Rattle.std.proofs.Common.{[], ◌∷◌, ◌++◌, List, subst, sym}
use Rattle.ts_demux.specs.declared.section.RawSection.{RawSection}
use Rattle.sub_collect.specs.Marks.{Taken, Taken.ForgotAll}
use Rattle.guide_receiver.specs.Heard.{ReceiverStandsAfter}
use Rattle.strict_receiver.specs.Earlier.{sections_in, taken_after}
use Rattle.strict_receiver.specs.Standing.{StrictStandsAfter}
use Rattle.strict_receiver.proofs.Apart.{taken-afresh, sections-afresh}
use Rattle.strict_receiver.proofs.strict.Strict.restart.Goals as goal

pub returns : goal.returns
returns c = λ earlier past stands.
    let kept = subst (StrictStandsAfter earlier past) (sym c.self.view_is) stands in
    record {
      heard = subst (λ (taken : List Taken). ReceiverStandsAfter (sections_in (earlier ++ past ∷ [])) [] taken c.restart.new.self) (taken-afresh earlier past)
          (subst (λ (sections : List RawSection). ReceiverStandsAfter sections [] (taken_after earlier past ++ ForgotAll ∷ []) c.restart.new.self) (sections-afresh earlier past)
          (c.restart.ensures (sections_in earlier) past (taken_after earlier past) kept.heard));
      gaps = c.none-self-inside.ensures;
    }
