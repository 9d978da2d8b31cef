use Rattle.std.proofs.Common.{ap}
use Rattle.std.specs.List.{list_any}
use Rattle.std.proofs.lemmas.Str.{chars-nil}
use Rattle.guide_model.specs.Control.{is_control}
use Rattle.board_rows.proofs.guides.no_text.Goals as goal

pub of_kept-requires : goal.of_kept-requires
of_kept-requires c = ap (list_any is_control) chars-nil
