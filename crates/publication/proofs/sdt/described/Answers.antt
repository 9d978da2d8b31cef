use Rattle.std.proofs.Common.{ap}
use Rattle.std.specs.List.{list_any}
use Rattle.std.proofs.lemmas.Str.{chars-nil}
use Rattle.guide_model.specs.Control.{is_control}
use Rattle.publication.proofs.sdt.described.Goals as goal

pub of_kept-requires : goal.of_kept-requires
of_kept-requires c = ap (list_any is_control) chars-nil
