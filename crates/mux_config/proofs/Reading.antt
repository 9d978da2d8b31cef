-- The lines of a description, one after another.
use Rattle.std.proofs.Common.{◌≡◌, ℕ, ◌+◌, true, false, List, [], ◌∷◌, ◌++◌, Option, Some, None, Ok, Err, refl, sym, ap, subst, ◌∙◌}
use Rattle.std.specs.Prelude.{Result, IfOk, IfSome}
use Rattle.si_causes.specs.Reading.{Reading, fresh, text_left}
use Rattle.si_causes.specs.declared.stop.ReadStop.{ReadStop}
use Rattle.si_causes.proofs.TextFacts.{fresh_text}
use Rattle.input_lines.specs.Ahead.{Ahead, Breaks, Came, Found, Row, Tail, ahead, and_then, first_row, missing_at, row_of}
use Rattle.input_lines.specs.Reads.{Leaves, Passes, ReadOf, ahead_with}
use Rattle.input_lines.specs.Records.{NextRecord}
use Rattle.input_lines.specs.declared.stop.EditStop.{EditStop}
use Rattle.input_lines.specs.declared.stop.EditStop.TheVariants as edit
use Rattle.input_lines.proofs.LineReads.{ReadsOn, line_missing, line_read, line_stopped, on_join, on_value, read_as, read_memory, read_on, read_then, read_unread, read_value}
use Rattle.input_lines.proofs.Steps.{if_none, no_stop_on, sticky_on}
use Rattle.mux_model.specs.declared.mux.Mux.{Mux}
use Rattle.mux_model.specs.Sound.{IsSound}
use Rattle.mux_config.specs.declared.fault.Word.TheVariants.{End}
use Rattle.mux_config.specs.declared.fault.MuxFault.{MuxFault}
use Rattle.mux_config.specs.declared.fault.MuxFault.TheVariants.{Missing}
use Rattle.mux_config.specs.declared.stop.MuxStop.{MuxStop}
use Rattle.mux_config.specs.declared.stop.MuxStop.TheVariants.{Fault, Read, Memory}
use Rattle.mux_lines.specs.declared.record.Numbered.{Numbered}
use Rattle.mux_config.specs.Descriptions.{Description, described_from, description_ahead, fault_in, ended}
use Rattle.mux_lines.specs.Fields.{found_line}
use Rattle.mux_config.specs.Reads.{Makes, ReadMux, TookLine, answer_to}
use Rattle.mux_config.proofs.FineLines.{whole_descriptions_are_sound}

-- the description ahead, behind records that were read
abbrev pub from : List Numbered → Ahead → Found Description
from before ahead = described_from before ahead.rows ahead.tail

-- and by its first line
abbrev with_row : List Numbered → Row → Ahead → Found Description
with_row before row behind = described_from before (row ∷ behind.rows) behind.tail

by_row : (before : List Numbered) (ahead : Ahead) → from before ahead ≡ and_then (first_row missing_at ahead) (with_row before)
by_row before ahead = go ahead.rows ahead.tail
  where
    go : (rows : List Row) (tail : Tail) → described_from before rows tail ≡ and_then (row_of missing_at rows tail) (with_row before)
    go [] tail = refl
    go (row ∷ rows) tail = refl

-- ---- one line

module _ (before : List Numbered) (n : ℕ) (line : List ℕ) where
  goes_on : (after : List Numbered) → TookLine before n (found_line line) after (Ok false) → (behind : Ahead) → with_row before (n, line) behind ≡ from after behind
  goes_on after (none, open_end, is) behind = rw (none, open_end) (ap (λ (l : List Numbered). from l behind) (sym is))

  ends : (after : List Numbered) → TookLine before n (found_line line) after (Ok true) → (behind : Ahead) → with_row before (n, line) behind ≡ Came (ended before) behind
  ends after (none, end, is) behind = rw (none, end) refl

  fails : (after : List Numbered) (fault : MuxFault) → TookLine before n (found_line line) after (Err (Fault fault)) → (behind : Ahead) → with_row before (n, line) behind ≡ Came (Err fault) behind
  fails after fault took behind = rw took refl

-- ---- what was read

module _ {S : Type 0} (left : S → Option (List ℕ)) (faults : S → ℕ) (alike : S → S → Type 0) (once : (a : S) → alike a a) (onward : (a b c : S) → alike a b → alike b c → alike a c) where
  -- Behind records that were taken, up to now, the next line came.
  module _ (old now new : Reading S) (records : List Numbered) (n : ℕ) (line : List ℕ) (shown : line ≡ new.line) (on : ReadsOn left faults alike (from []) (from records) old now)
      (e : NextRecord left faults alike now new (Ok (Some n))) where
    row : ReadOf left faults alike (first_row missing_at) now new (Ok (n, line))
    row = line_read left faults alike once onward missing_at now new n line refl shown e

    pub taken_more : (after : List Numbered) → TookLine records n (found_line line) after (Ok false) → ReadsOn left faults alike (from []) (from after) old new
    taken_more after took =
        on_join left faults alike once onward (from []) (from records) (from after) old now new on
        (on_value left faults alike once onward (first_row missing_at) (n, line) (from records) (from after) now new
        (λ a b came. by_row records a ∙ ap (λ (q : Found Row). and_then q (with_row records)) came ∙ goes_on records n line after took b)
        (λ a s stops. by_row records a ∙ ap (λ (q : Found Row). and_then q (with_row records)) stops) row)

    -- and with it the description
    with_line : (read : Result Description EditStop) (result : Result Mux MuxStop) → result ≡ answer_to read → ReadOf left faults alike (with_row records (n, line)) new new read → ReadMux left faults alike old new result
    with_line read result is of = record {
      read = read;
      answer = is;
      reads = read_on left faults alike once onward (from []) (from records) old now new read on
          (read_as left faults alike once onward (from records) (λ l. and_then (first_row missing_at l) (with_row records)) now new read (by_row records)
          (read_then left faults alike once onward (first_row missing_at) (with_row records) now new new (n, line) read row of));
      sticky = if_none _ old.stop (no_stop_on old.stop (Some n) old now new refl on.sticky e.sticky);
    }

    has_made : (made : Description) → ((behind : Ahead) → with_row records (n, line) behind ≡ Came made behind) → (result : Result Mux MuxStop) → result ≡ answer_to (Ok made) → ReadMux left faults alike old new result
    has_made made is result same = with_line (Ok made) result same (read_value left faults alike once onward (with_row records (n, line)) made new is)

    no_memory : ReadMux left faults alike old new (Err Memory)
    no_memory = with_line (Err edit.Memory) (Err Memory) refl (read_memory left faults alike once onward (with_row records (n, line)) new)

    pub ended_read : (after : List Numbered) (result : Result Mux MuxStop) → TookLine records n (found_line line) after (Ok true) → Makes (ended records) result → ReadMux left faults alike old new result
    ended_read after (Ok mux) took makes = has_made (Ok mux) (λ b. ends records n line after took b ∙ ap (λ d. let r : Found Description = Came d b in r) makes) (Ok mux) refl
    ended_read after (Err (Fault fault)) took makes =
        has_made (Err fault) (λ b. ends records n line after took b ∙ ap (λ d. let r : Found Description = Came d b in r) makes) (Err (Fault fault)) refl
    ended_read after (Err (Read stop)) took makes = absurd makes
    ended_read after (Err Memory) took makes = no_memory

    pub line_fails : (after : List Numbered) (stop : MuxStop) → TookLine records n (found_line line) after (Err stop) → ReadMux left faults alike old new (Err stop)
    line_fails after (Fault fault) took = has_made (Err fault) (fails records n line after fault took) (Err (Fault fault)) refl
    line_fails after (Read stop) took = absurd took
    line_fails after Memory took = no_memory

  module _ (old now new : Reading S) (records : List Numbered) (on : ReadsOn left faults alike (from []) (from records) old now) where
    no_line : (stop : EditStop) → ReadOf {T = Row} left faults alike (first_row missing_at) now new (Err stop) → ReadOf {T = Description} left faults alike (from []) old new (Err stop)
    no_line stop none =
        read_on left faults alike once onward (from []) (from records) old now new (Err stop) on
        (read_as left faults alike once onward (from records) (λ l. and_then (first_row missing_at l) (with_row records)) now new (Err stop) (by_row records)
        (read_unread left faults alike once onward (first_row missing_at) (with_row records) now new stop none))

    -- the text ends
    pub end_read : NextRecord left faults alike now new (Ok None) → ReadMux left faults alike old new (Err (Fault (Missing End)))
    end_read e = record {
      read = Err (edit.NoCommand (new.number + 1));
      answer = refl;
      reads = no_line (edit.NoCommand (new.number + 1)) (line_missing left faults alike once onward now new (new.number + 1) refl e);
      sticky = if_none _ old.stop (no_stop_on old.stop None old now new refl on.sticky e.sticky);
    }

    pub stop_read : (stop : ReadStop) → NextRecord left faults alike now new (Err stop) → ReadMux left faults alike old new (Err (Read stop))
    stop_read stop e = record {
      read = Err (edit.Read stop);
      answer = refl;
      reads = no_line (edit.Read stop) (line_stopped left faults alike once onward missing_at now new stop refl refl e);
      sticky = as_mux old.stop (sticky_on old.stop (λ s. (let r : Result (Option ℕ) ReadStop = Err stop in r) ≡ Err s) old now new refl on.sticky e.sticky);
    }
      where
        as_mux : (o : Option ReadStop) → IfSome o (λ s. ((let r : Result (Option ℕ) ReadStop = Err stop in r) ≡ Err s) × (new ≡ old)) → IfSome o (λ s. ((let r : Result Mux MuxStop = Err (Read stop) in r) ≡ Err (Read s)) × (new ≡ old))
        as_mux None h = tt
        as_mux (Some s) h = (let is = h.0 in (cc is, h.1))

-- ---- what an answer says was read

module _ {S : Type 0} (left : S → Option (List ℕ)) (faults : S → ℕ) (alike : S → S → Type 0) where
  by_mux : (old new : Reading S) (mux : Mux) (r : Result Description EditStop) → (let m : Result Mux MuxStop = Ok mux in m) ≡ answer_to r → ReadOf left faults alike description_ahead old new r
      → ReadOf left faults alike description_ahead old new (Ok (Ok mux))
  by_mux old new mux (Ok (Ok made)) is reads = (let same : made ≡ mux = cc is in subst (λ (m : Mux). ReadOf left faults alike description_ahead old new (Ok (Ok m))) same reads)
  by_mux old new mux (Ok (Err fault)) is reads = cc is
  by_mux old new mux (Err (edit.NoCommand n)) is reads = cc is
  by_mux old new mux (Err (edit.Read stop)) is reads = cc is
  by_mux old new mux (Err edit.Memory) is reads = cc is

  pub mux_read : (old new : Reading S) (mux : Mux) → ReadMux left faults alike old new (Ok mux) → ReadOf left faults alike description_ahead old new (Ok (Ok mux))
  mux_read old new mux read = by_mux old new mux read.read read.answer read.reads

  -- by a reader that had read nothing of this text
  pub first_read : (old new : Reading S) (source : S) (text : List ℕ) (mux : Mux) → old ≡ fresh source → left source ≡ Some text → ReadMux left faults alike old new (Ok mux)
      → Leaves left description_ahead (Came (Ok mux)) (fresh source) new text × Passes left description_ahead (Came (Ok mux)) (fresh source) new
  first_read old new source text mux e tells read =
      let reads = mux_read (fresh source) new mux (subst (λ (r : Reading S). ReadMux left faults alike r new (Ok mux)) e read) in
      (reads.gives refl text (fresh_text left source ∙ tells), reads.takes refl)

  by_stop : (old new : Reading S) (stop : ReadStop) (r : Result Description EditStop) → (let m : Result Mux MuxStop = Err (Read stop) in m) ≡ answer_to r → ReadOf left faults alike description_ahead old new r
      → ReadOf {T = Description} left faults alike description_ahead old new (Err (edit.Read stop))
  by_stop old new stop (Ok (Ok mux)) is reads = cc is
  by_stop old new stop (Ok (Err fault)) is reads = cc is
  by_stop old new stop (Err (edit.NoCommand n)) is reads = cc is
  by_stop old new stop (Err (edit.Read here)) is reads = (let same : here ≡ stop = cc is in subst (λ (s : ReadStop). ReadOf {T = Description} left faults alike description_ahead old new (Err (edit.Read s))) same reads)
  by_stop old new stop (Err edit.Memory) is reads = cc is

  pub read_stopped : (old new : Reading S) (stop : ReadStop) → ReadMux left faults alike old new (Err (Read stop)) → ReadOf {T = Description} left faults alike description_ahead old new (Err (edit.Read stop))
  read_stopped old new stop read = by_stop old new stop read.read read.answer read.reads

  by_fault : (old new : Reading S) (fault : MuxFault) (text : List ℕ) → old.stop ≡ None → text_left left old ≡ Some text → (r : Result Description EditStop) → (let m : Result Mux MuxStop = Err (Fault fault) in m) ≡ answer_to r
      → ReadOf left faults alike description_ahead old new r → fault_in (description_ahead (ahead old text)) ≡ Some fault
  by_fault old new fault text going told (Ok (Ok mux)) is reads = cc is
  by_fault old new fault text going told (Ok (Err here)) is reads = (let same : here ≡ fault = cc is in ap fault_in (reads.gives going text told).reads ∙ ap (λ (f : MuxFault). let o : Option MuxFault = Some f in o) same)
  by_fault old new fault text going told (Err (edit.NoCommand n)) is reads = ap fault_in (reads.gives going text told) ∙ cc is
  by_fault old new fault text going told (Err (edit.Read stop)) is reads = cc is
  by_fault old new fault text going told (Err edit.Memory) is reads = cc is

  -- of a told text
  pub fault_read : (old new : Reading S) (fault : MuxFault) (text : List ℕ) → old.stop ≡ None → text_left left old ≡ Some text → ReadMux left faults alike old new (Err (Fault fault)) → fault_in (description_ahead (ahead old text)) ≡ Some fault
  fault_read old new fault text going told read = by_fault old new fault text going told read.read read.answer read.reads

  -- a multiplex that was read is sound
  pub read_sound : (old new : Reading S) (result : Result Mux MuxStop) → ReadMux left faults alike old new result → IfOk result IsSound
  read_sound old new (Err stop) read = tt
  read_sound old new (Ok mux) read =
      let came = (mux_read old new mux read).takes (going old.stop read.sticky) in
      (whole_descriptions_are_sound (ahead_with old (came.looked.lines ++ []) Breaks) mux (ahead_with new [] Breaks) (came.reads [] Breaks)).sound
    where
      going : (o : Option ReadStop) → IfSome o (λ s. ((let r : Result Mux MuxStop = Ok mux in r) ≡ Err (Read s)) × (new ≡ old)) → o ≡ None
      going None h = refl
      going (Some s) h = absurd (let is = h.0 in cc is)
