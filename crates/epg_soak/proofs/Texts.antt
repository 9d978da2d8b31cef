-- The made texts are whole, and whole texts decide that a run ends with Done.
use Rattle.std.proofs.Common.{List, [], ◌∷◌, refl, ap, lit≤}
use Rattle.input_lines.specs.Ahead.{Stop}
use Rattle.journal_model.specs.declared.edit.Edit.{Edit}
use Rattle.si_workload.specs.Texts.{feed_text}
use Rattle.epg_soak.specs.WorkloadLoad.{soak_mux}
use Rattle.epg_soak.specs.Laws.{control_behind}
use Rattle.epg_soak.proofs.Closed.{control_read, description_read}
use Rattle.epg_soak.proofs.MadeEdits.{feeds_read}
use Rattle.epg_live.proofs.DecidedFacts.{whole_done}
use Rattle.epg_soak.specs.Runs.{MadeTextsAreDone, MadeTextsAreWhole, soak_text}

-- ---- the made texts

pub made_whole : MadeTextsAreWhole
made_whole number first second files have = record {
  mux = soak_mux;
  behind = control_behind;
  whole = description_read.1;
  served = refl;
  control = ap (λ r. r.1) control_read;
  feeds = (
    record { text = feed_text number 1; file = have.first_is; end = ap (λ (r : List Edit × Stop). r.1) (feeds_read number 1 (lit≤ tt) (lit≤ tt)) },
    (
      record { text = feed_text number 2; file = have.second_is; end = ap (λ (r : List Edit × Stop). r.1) (feeds_read number 2 (lit≤ tt) (lit≤ tt)) },
      tt,
    ),
  );
}

pub made_done : MadeTextsAreDone
made_done number first second files have = whole_done soak_text [] (first ∷ second ∷ []) files (made_whole number first second files have)
