-- How what a run of `play` sends is heard.
use Rattle.std.proofs.Common.{◌≡◌, ℕ, List, [], take, refl, subst}
use Rattle.std.specs.Prelude.{Option, Some, None, Ok, Err}
use Rattle.std.specs.List.{AllByRecursion}
use Rattle.guide_model.specs.Decoding.{IsKept}
use Rattle.input_lines.specs.Lines.{record_lines}
use Rattle.input_lines.specs.Ahead.{Ahead, Tail}
use Rattle.mux_model.specs.declared.mux.MuxService.{MuxService}
use Rattle.mux_model.specs.Sound.{remote_services}
use Rattle.mux_model.specs.declared.mux.Mux.{Mux}
use Rattle.mux_model.proofs.FedFacts.{HasNames, fed_named}
use Rattle.mux_config.specs.Descriptions.{description_ahead}
use Rattle.mux_config.proofs.FineLines.{described_texts_are_kept}
use Rattle.journal_model.specs.Steps.{Command}
use Rattle.desk_core.specs.Journal.{journal_of}
use Rattle.desk_core.proofs.JournalFacts.{journal_legal}
use Rattle.journal_air.specs.JournalScreenShown.{IsAsRead}
use Rattle.journal_air.specs.declared.send.SendStop.TheVariants as send
use Rattle.journal_air.specs.AirOf.{CutAirOf}
use Rattle.journal_air.proofs.Sent.{air_sent}
use Rattle.epg_report.specs.Told.{ReportTaken}
use Rattle.epg_play.specs.Script.{Script, script_of_lines}
use Rattle.epg_play.specs.Leaves.{IsAired, IsAiredFront, IsSent, first_journal, journal_for, whole_journal}
use Rattle.epg_play.proofs.HearingFacts.{mux_of_script, mux_with}
use Rattle.epg_play.proofs.TypedFacts.{AreTypedCommands, first-typed, journal-typed, journal-window, script-typed}

module _ (lines : List (List ℕ)) (tail : Tail) (air : ReportTaken) where
  abbrev script : Script
  script = script_of_lines lines tail

  abbrev ahead : Ahead
  ahead = record { rows = record_lines 1 lines; tail = tail }

  abbrev HasKeptNames : Mux → Type 0
  HasKeptNames mux =
      IsKept mux.network_name × (AllByRecursion (λ (s : MuxService). IsKept s.provider × IsKept s.name) mux.services × AllByRecursion HasNames (remote_services mux.others))

  as_read : (commands : List Command) (mux : Mux) → AreTypedCommands commands → script.mux ≡ Some mux → IsAsRead mux (journal_of mux commands)
  as_read commands mux typed e =
      let kept = mux_with HasKeptNames (description_ahead ahead) mux (described_texts_are_kept ahead) e in
      record {
        sound = mux_of_script lines tail mux e;
        network = kept.0;
        services = fed_named mux kept.1;
        edits = journal-typed mux commands typed;
        steps = journal-window mux commands typed;
      }

  by_mux : (commands : List Command) (o : Option Mux) → AreTypedCommands commands → script.mux ≡ o → IsAired o (journal_for o commands) air → IsSent o (journal_for o commands) air
  by_mux commands None typed e is = is
  by_mux commands (Some mux) typed e is = air_sent mux (journal_of mux commands) air.old air.new (Ok tt) (as_read commands mux typed e) (journal_legal mux [] commands) is

  by_front : (commands : List Command) (o : Option Mux) → AreTypedCommands commands → script.mux ≡ o → IsAiredFront o (journal_for o commands) air → IsSent o (journal_for o commands) air
  by_front commands None typed e is = (let no : (let n : Option Mux = None in n) ≡ Some is.mux = is.is_described in cc no)
  by_front commands (Some mux) typed e is =
      let same : is.mux ≡ mux = (let d : (let m : Option Mux = Some mux in m) ≡ Some is.mux = is.is_described in cc d) in
      air_sent mux (journal_of mux commands) air.old air.new (Err send.Air) (as_read commands mux typed e) (journal_legal mux [] commands)
      (subst (λ (m : Mux). CutAirOf m (journal_of mux commands) air.old air.new) same is.cut)

  pub whole_sent : IsAired script.mux (whole_journal script) air → IsSent script.mux (whole_journal script) air
  whole_sent is = by_mux script.commands script.mux (script-typed lines tail) refl is

  pub cut_sent : (k : ℕ) → IsAiredFront script.mux (first_journal k script) air → IsSent script.mux (first_journal k script) air
  cut_sent k is = by_front (take k script.commands) script.mux (first-typed k script.commands (script-typed lines tail)) refl is

-- the journal of a script is one that lines give
pub script_as_read : (lines : List (List ℕ)) (tail : Tail) (mux : Mux) → (script_of_lines lines tail).mux ≡ Some mux → IsAsRead mux (journal_of mux (script_of_lines lines tail).commands)
script_as_read lines tail mux e =
    let air : ReportTaken = record { old = None; new = None; faults_old = 0; faults_new = 0 } in
    as_read lines tail air (script_of_lines lines tail).commands mux (script-typed lines tail) e
