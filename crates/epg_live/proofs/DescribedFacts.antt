-- What reading the description told of the text of the input.
use Rattle.std.proofs.Common.{◌≡◌, ℕ, List, [], ◌++◌, refl, ap, ◌∙◌, subst, append-nil}
use Rattle.std.specs.Prelude.{Option, Some, None, Ok}
use Rattle.std.specs.Io.KnownBytes.{Consumes}
use Rattle.si_causes.specs.Reading.{Reading, fresh}
use Rattle.si_causes.specs.declared.stop.ReadStop.TheVariants.{Failed, TooLong as Overlong}
use Rattle.input_lines.specs.Going.{WereWhole}
use Rattle.input_lines.proofs.Steps.{whole_more}
use Rattle.mux_model.specs.declared.mux.Mux.{Mux}
use Rattle.mux_config.specs.Reads.{ReadMux}
use Rattle.mux_config.specs.Descriptions.{description_ahead}
use Rattle.mux_config.proofs.Reading.{first_read}
use Rattle.input_lines.specs.declared.stop.EditStop.{EditStop}
use Rattle.input_lines.specs.declared.stop.EditStop.TheVariants as edit
use Rattle.input_lines.specs.Ahead.{Breaks, Came}
use Rattle.input_lines.specs.Reads.{ahead_with}
use Rattle.journal_model.specs.declared.step.Entry.{Entry}
use Rattle.journal_model.specs.Steps.{Command}
use Rattle.desk_hall.specs.Reads.{TakenDid, commands_by, control_step, controls_ahead}
use Rattle.headend_jobs.specs.Callers.{CommandsAre}
use Rattle.mux_config.specs.Texts.{ahead_taken}
use Rattle.epg_live.specs.Runs.{ControlTook, HasRead}

-- of known bytes some were taken, and the others are left
pub bytes_left : (left : Option (List ℕ)) (text taken : List ℕ) → Consumes (Some text) left taken → (rest : List ℕ) × (text ≡ taken ++ rest) × (left ≡ Some rest)
bytes_left None text taken h = absurd h
bytes_left (Some rest) text taken h = (rest, h, refl)

module _ {S : Type 0} (left : S → Option (List ℕ)) (faults : S → ℕ) (alike : S → S → Type 0) where
  -- a multiplex was described, and the reader has what is behind it still to give
  pub has_read : (new : Reading S) (source : S) (text : List ℕ) (mux : Mux) → left source ≡ Some text → ReadMux left faults alike (fresh source) new (Ok mux) → HasRead left text mux new
  has_read new source text mux tells read =
      let first = first_read left faults alike (fresh source) new source text mux refl tells read in
      record { source = source; tells = tells; read = first.0; came = first.1 }

  -- The commands of the control's lines that were whole in the bytes taken, where a read of them failed: these bytes are a front of the text.
  pub control_took : (text : List ℕ) (mux : Mux) (old new : Reading S) (journal : List Entry) (then : List Command) (stop : Option EditStop) → HasRead left text mux old
      → TakenDid (λ values. CommandsAre journal 0 (commands_by 0 control_step values ++ then)) left controls_ahead old new stop → (stop ≡ Some (edit.Read Failed) → then ≡ [])
      → ControlTook text (left new.source) mux journal stop
  control_took text mux old new journal then None h did none = tt
  control_took text mux old new journal then (Some (edit.NoCommand n)) h did none = tt
  control_took text mux old new journal then (Some (edit.Read Overlong)) h did none = tt
  control_took text mux old new journal then (Some edit.Memory) h did none = tt
  control_took text mux old new journal then (Some (edit.Read Failed)) h did none =
      let both : WereWhole left (fresh h.source) new (h.came.looked.lines ++ did.lines) = whole_more left (fresh h.source) old new h.came.looked.lines did.lines h.came.looked.handed did.unended did.whole in
      let whole : description_ahead (ahead_taken both.more) ≡ Came (Ok mux) (ahead_with old did.lines Breaks) = ap (λ l. description_ahead (ahead_with (fresh h.source) l Breaks)) both.whole ∙ h.came.reads did.lines Breaks in
      let b = bytes_left (left new.source) text both.more (subst (λ (o : Option (List ℕ)). Consumes o (left new.source) both.more) h.tells both.gave) in
      let commands = commands_by 0 control_step (controls_ahead (ahead_with old did.lines Breaks)).0 in
      record {
        behind = ahead_with old did.lines Breaks;
        taken = record { taken = both.more; rest = b.0; text_is = b.1; left_is = b.2; whole = whole };
        stop = did.stop;
        commands = did.commands ∙ ap (λ l. commands ++ l) (none refl) ∙ append-nil commands;
      }
