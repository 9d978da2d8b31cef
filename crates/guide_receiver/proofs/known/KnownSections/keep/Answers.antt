use Rattle.std.proofs.Common.{refl}
use Rattle.std.proofs.lemmas.Map.Views.{All-values-PutsEntry}
use Rattle.guide_receiver.specs.Known.{IsKnown}
use Rattle.guide_receiver.specs.contracts.known.SectionNamePartialEq.TheImpl as name_eq
use Rattle.guide_receiver.proofs.Rounds.{put-known}
use Rattle.guide_receiver.proofs.known.KnownSections.keep.Goals as goal

pub returns : goal.returns
returns c = λ collector are. record {
  begun = are.begun;
  each = All-values-PutsEntry (name_eq.ghosts).eq (IsKnown collector c.args.self.now.round) c.args.self.now.sections c.insert.new.self _ _ _ c.in_ok-insert.ensures.entries are.each
      (put-known collector c.args.self.now.round _ are.begun refl);
}
