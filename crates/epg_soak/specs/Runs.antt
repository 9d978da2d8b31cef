-- Runs of `live` over the made texts of a load.
use Rattle.std.specs.Prelude.{◌≡◌, ℕ, List, [], ◌∷◌, ◌++◌, length, Option, Some}
use Rattle.si_causes.specs.Opening.{Files, file_at}
use Rattle.journal_model.specs.declared.step.Entry.{Entry}
use Rattle.epg_report.specs.declared.status.Status.TheVariants.{Done}
use Rattle.epg_live.specs.declared.reporting.Observed.{Observed}
use Rattle.epg_live.specs.Decided.{AreWhole, text_status}
use Rattle.epg_live.specs.Runs.{LiveCall}
use Rattle.epg_live.specs.Ends.{HasMet}
use Rattle.si_workload.specs.Texts.{mux_text, control_text, feed_text}
use Rattle.epg_soak.specs.Journals.{IsCounted, IsSoakJournal}
use Rattle.epg_soak.specs.Callers.{IsSoakRun}

-- the input: the made description, and the made lines of the control behind it
abbrev pub soak_text : List ℕ
soak_text = mux_text ++ control_text

-- the files of these two paths are the made texts of feeds 1 and 2
pub record HaveFeedTexts (number : ℕ) (first second : List ℕ) (files : Files) : Type 0 where
  pub first_is : file_at first files ≡ Some (feed_text number 1)
  pub second_is : file_at second files ≡ Some (feed_text number 2)

-- The input and the files of the feeds are whole,
abbrev pub MadeTextsAreWhole : Type 0
MadeTextsAreWhole =
    (number : ℕ) (first second : List ℕ) (files : Files) → HaveFeedTexts number first second files → AreWhole soak_text [] (first ∷ second ∷ []) files

-- and so decide that a run ends with Done, where nothing fails.
abbrev pub MadeTextsAreDone : Type 0
MadeTextsAreDone =
    (number : ℕ) (first second : List ℕ) (files : Files) → HaveFeedTexts number first second files
    → text_status soak_text [] (first ∷ second ∷ []) files ≡ Done

-- A call of `live` with three cycles over these texts.
pub record IsMade (number : ℕ) (call : LiveCall) : Type 0 where
  pub first : List ℕ
  pub second : List ℕ
  pub paths : call.paths ≡ first ∷ second ∷ []
  pub cycles : call.plan.cycles ≡ 3
  pub text : call.text ≡ soak_text
  pub feeds : HaveFeedTexts number first second call.files

-- Such a call met Done, and this is its journal.
pub record HasMetDone (number : ℕ) (journal : List Entry) : Type 0 where
  pub call : LiveCall
  pub made : IsMade number call
  pub observed : Observed
  pub met : HasMet call journal observed Done

-- That journal is one of a whole run of the load;
abbrev pub DoneRunsAreWhole : Type 0
DoneRunsAreWhole = (number : ℕ) (journal : List Entry) → HasMetDone number journal → IsSoakRun number journal

-- so it has 132 entries, each edit is done, and all are counted.
abbrev pub DoneRunsAreCounted : Type 0
DoneRunsAreCounted =
    (number : ℕ) (journal : List Entry) → HasMetDone number journal → (length journal ≡ 132) × IsSoakJournal number journal × IsCounted number journal
