-- A whole description is sound, since each of its lines says only what is in its range.
use Rattle.std.proofs.Common.{◌≡◌, ℕ, Bool, true, false, cond, List, [], ◌∷◌, Option, Some, None, refl}
use Rattle.std.specs.Prelude.{if◌then◌else◌, option_map, Ok}
use Rattle.std.specs.Option.{option_or}
use Rattle.input_lines.specs.Ahead.{Ahead, Came, Found, Row, Tail}
use Rattle.mux_model.specs.declared.mux.Mux.{Mux}
use Rattle.mux_config.specs.declared.fault.MuxFault.{MuxFault}
use Rattle.mux_lines.specs.declared.record.RecordFound.{RecordFound}
use Rattle.mux_lines.specs.declared.record.RecordFound.TheVariants.{NoRecord, OutOfRange, Is}
use Rattle.mux_lines.specs.declared.record.Numbered.{Numbered}
use Rattle.mux_config.specs.Descriptions.{Description, and_found, described_from, ended, fault_of, has_no_place, is_end, repeated_at, unless}
use Rattle.mux_lines.specs.Fields.{found_line}
use Rattle.mux_config.specs.Taken.{is_full}
use Rattle.mux_config.specs.Laws.{DescribedTextsAreKept, WholeDescriptionsAreSound}
use Rattle.mux_config.proofs.FineRecords.{AreTaken}
use Rattle.mux_config.proofs.Soundness.{IsFineMux, fine_end, taken_more, taken_none}
use Rattle.mux_lines.specs.Fine.{IsFineFound}
use Rattle.mux_lines.proofs.FineFields.{fine_line}

-- ---- a description

-- a record that has no fault has a place, repeats none, and has room
placed : (b : Bool) (o : Option ℕ) (past : Bool) (range full : MuxFault) (twice : ℕ → MuxFault) → cond b (Some range) (option_or (option_map twice o) (cond past (Some full) None)) ≡ None → (b ≡ false) × (o ≡ None) × (past ≡ false)
placed true o past range full twice e = cc e
placed false (Some n) past range full twice e = cc e
placed false None true range full twice e = cc e
placed false None false range full twice e = (refl, refl, refl)

fine_next : (before : List Numbered) (n : ℕ) (found : RecordFound) → AreTaken before → IsFineFound found → fault_of before n found ≡ None → AreTaken (and_found before n found)
fine_next before n NoRecord f fine e = f
fine_next before n OutOfRange f fine e = f
fine_next before n (Is r) f fine e =
    let p = placed (has_no_place before r) (repeated_at before r) (is_full before r) _ _ _ e in
    taken_more before n r f fine p.0 p.1 p.2

step_fine : (fault : Option MuxFault) (b : Bool) (before : List Numbered) (behind : Ahead) (next : Found Description) (mux : Mux) (left : Ahead) → AreTaken before → (fault ≡ None → next ≡ Came (Ok mux) left → IsFineMux mux)
    → unless fault behind (if b then Came (ended before) behind else next) ≡ Came (Ok mux) left → IsFineMux mux
step_fine (Some f) b before behind next mux left fine others e = cc e
step_fine None true before behind next mux left fine others e = (let same : (let f : Found Description = Came (ended before) behind in f) ≡ Came (Ok mux) left = e in fine_end before mux fine (cc same))
step_fine None false before behind next mux left fine others e = others refl e

fine_from : (rows : List Row) (tail : Tail) (before : List Numbered) (mux : Mux) (behind : Ahead) → AreTaken before → described_from before rows tail ≡ Came (Ok mux) behind → IsFineMux mux
fine_from [] tail before mux behind fine e = cc e
fine_from (row ∷ rows) tail before mux behind fine e =
    let found = found_line row.1 in
    step_fine (fault_of before row.0 found) (is_end found) before (record { rows = rows; tail = tail }) (described_from (and_found before row.0 found) rows tail) mux behind fine
    (λ none next. fine_from rows tail (and_found before row.0 found) mux behind (fine_next before row.0 found fine (fine_line row.1) none) next) e

pub whole_descriptions_are_sound : WholeDescriptionsAreSound
whole_descriptions_are_sound lines mux behind e = (fine_from lines.rows lines.tail [] mux behind taken_none e).sound

pub described_texts_are_kept : DescribedTextsAreKept
described_texts_are_kept lines mux behind e = let fine = fine_from lines.rows lines.tail [] mux behind taken_none e in (fine.network_name, (fine.services, fine.remotes))
