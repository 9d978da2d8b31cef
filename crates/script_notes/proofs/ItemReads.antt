-- The next line in place of an item of a day.
use Rattle.std.proofs.Common.{◌≡◌, ◌≤◌, ◌<◌, ◌*◌, ◌+◌, ℕ, suc, List, [], ◌∷◌, refl, sym, ap, ◌∙◌, subst, inl, inr, arith}
use Rattle.std.specs.Prelude.{Some, None, Ok, Err, Result}
use Rattle.std.proofs.lemmas.Bool.{cases_Bool}
use Rattle.si_causes.specs.Reading.{Reading, room}
use Rattle.si_causes.specs.declared.stop.ReadStop.{ReadStop}
use Rattle.si_causes.specs.declared.stop.ReadStop.TheVariants.{Failed, TooLong as Overlong}
use Rattle.input_lines.specs.Records.{NextRecord}
use Rattle.input_lines.specs.declared.stop.EditStop.{EditStop}
use Rattle.input_lines.specs.declared.stop.EditStop.TheVariants.{NoCommand as Refused, Read, Memory}
use Rattle.input_lines.specs.Ahead.{Ahead, Row, Tail, Ends, Exceeds, Breaks, Found, Came, Stopped, Unread, first_row, row_of, stop_at}
use Rattle.input_lines.specs.Reads.{ReadOf, stopped_by}
use Rattle.input_lines.proofs.LineReads.{Known, ReadsOn}
use Rattle.journal_model.specs.declared.edit.Item.{Item as AnItem}
use Rattle.script_notes.specs.declared.day.ItemRead.{ItemRead}
use Rattle.script_notes.specs.declared.day.ItemRead.TheVariants as read
use Rattle.script_notes.specs.declared.head.DayHead.{DayHead}
use Rattle.script_notes.specs.declared.noting.Held.{Held}
use Rattle.script_notes.specs.declared.noting.Held.TheVariants.{Ended}
use Rattle.script_notes.specs.declared.noting.Noting.{Noting}
use Rattle.script_notes.specs.declared.noting.Noting.TheVariants.{Bad}
use Rattle.script_notes.specs.declared.why.Why.TheVariants.{NoItem}
use Rattle.script_notes.specs.Faults.{why_item_line}
use Rattle.script_notes.specs.Held.{IsHeldBy, came_held, left_over, nothing_ahead, with_held}
use Rattle.script_notes.specs.Notings.{is_attached, told, unattached}
use Rattle.script_notes.specs.Walks.{IsItemOn, IsItemRead, NotedTo, day_walk, held_at, item_in, item_walk, with_row}
use Rattle.script_notes.proofs.Steps.{memory_on, noted_end, noted_on, row_on, stop_as}

-- ---- a day by the next line

day_row : (day : DayHead) (k : ℕ) (items : List AnItem) (rows : List Row) (tail : Tail) (row : Row) (b : Ahead) → row_of stop_at rows tail ≡ Came row b
    → day_walk day (suc k) items (record { rows = rows; tail = tail }) ≡ item_walk (day_walk day k) items row (item_in row.1) b
unfolding day_walk
day_row day k items [] tail row b e = absurd cc
day_row day k items (first ∷ rows) tail row b e =
    let same : first ≡ row = cc in
    let rest : (let a : Ahead = record { rows = rows; tail = tail } in a) ≡ b = cc in
    ap (λ r. item_walk (day_walk day k) items r (item_in r.1) (record { rows = rows; tail = tail })) same ∙ ap (item_walk (day_walk day k) items row (item_in row.1)) rest

pub day_next : (day : DayHead) (k : ℕ) (items : List AnItem) (n : ℕ) (line : List ℕ) (a b : Ahead) → first_row stop_at a ≡ Came (n, line) b
    → day_walk day (suc k) items a ≡ item_walk (day_walk day k) items (n, line) (item_in line) b
day_next day k items n line a b e = day_row day k items a.rows a.tail (n, line) b e

day_none : (day : DayHead) (k : ℕ) (items : List AnItem) (rows : List Row) (tail : Tail) (s : ReadStop) → row_of stop_at rows tail ≡ Stopped (stopped_by s)
    → day_walk day (suc k) items (record { rows = rows; tail = tail }) ≡ Stopped (stopped_by s)
unfolding day_walk
day_none day k items (row ∷ rows) tail s e = absurd cc
day_none day k items [] (Ends n) Failed e = absurd cc
day_none day k items [] (Ends n) Overlong e = absurd cc
day_none day k items [] Exceeds Failed e = absurd cc
day_none day k items [] Exceeds Overlong e = refl
day_none day k items [] Breaks Failed e = refl
day_none day k items [] Breaks Overlong e = absurd cc

pub day_stops : (day : DayHead) (k : ℕ) (items : List AnItem) (s : ReadStop) (a : Ahead) → first_row stop_at a ≡ Stopped (stopped_by s) → day_walk day (suc k) items a ≡ Stopped (stopped_by s)
day_stops day k items s a e = day_none day k items a.rows a.tail s e

day_missing : (day : DayHead) (k n : ℕ) (items : List AnItem) → day_walk day (suc k) items (nothing_ahead n) ≡ Came (Bad n NoItem) (nothing_ahead n)
unfolding day_walk
day_missing day k n items = refl

day_unread : (day : DayHead) (k : ℕ) (items : List AnItem) → day_walk day (suc k) items (record { rows = []; tail = Breaks }) ≡ Stopped Unread
unfolding day_walk
day_unread day k items = refl

-- what is ahead of a reader that holds a line that is no item
held_ahead : {S : Type 0} (n : ℕ) (new : Reading S) (b : Ahead) → new.number ≡ n → unattached (with_row (n, new.line) b) ≡ with_held (held_at new.line) new b
held_ahead n new b count = elim (cases_Bool (is_attached new.line)) [
  | inl e ↦ rw e refl
  | inr e ↦ rw e (ap (λ k. with_row (k, new.line) b) (sym count))
]

held_by : {S : Type 0} (left : S → Known) (line : List ℕ) (new : Reading S) → IsHeldBy left (held_at line) new
held_by left line new = elim (cases_Bool (is_attached line)) [
  | inl e ↦ rw e tt
  | inr e ↦ rw e tt
]

held_less : {S : Type 0} (line : List ℕ) (old new : Reading S) → room new < room old → left_over (held_at line) new ≤ 2 * room old + 1
held_less line old new lt = elim (cases_Bool (is_attached line)) [
  | inl e ↦ rw e (omega arith)
  | inr e ↦ rw e (omega arith)
]

module _ {S : Type 0} (left : S → Known) (faults : S → ℕ) (alike : S → S → Type 0) (once : (a : S) → alike a a) (onward : (a b c : S) → alike a b → alike b c → alike a c) where
  pub item_on : (day : DayHead) (k : ℕ) (items : List AnItem) (old new : Reading S) (n : ℕ) → NextRecord left faults alike old new (Ok (Some n))
      → ReadsOn left faults alike (day_walk day (suc k) items) (item_walk (day_walk day k) items (n, new.line) (item_in new.line)) old new
  item_on day k items old new n e =
      row_on left faults alike once onward (day_walk day (suc k) items) (item_walk (day_walk day k) items (n, new.line) (item_in new.line)) old new n e
      (λ a b h. day_next day k items n new.line a b h) (λ a h. day_stops day k items Failed a h)

  pub item_read : (old new : Reading S) (n : ℕ) (line : List ℕ) (r : Result ItemRead EditStop) → old.stop ≡ None → NextRecord left faults alike old new (Ok (Some n)) → line ≡ new.line → IsItemOn n line r
      → IsItemRead left faults alike old new r
  item_read old new n line (Ok (read.Item item)) going e same says = record { n = n; came = e; is = ap item_in (sym same) ∙ says }
  item_read old new n line (Ok (read.Bad noting held)) going e same (none, noting_is, held_is) = λ day k items.
      let count : new.number ≡ n = (e.came going).count in
      let none_in : item_in new.line ≡ None = ap item_in (sym same) ∙ none in
      let bad : noting ≡ Bad n (told (why_item_line new.line)) = noting_is ∙ ap (λ l. Bad n (told (why_item_line l))) same in
      let held_as : held ≡ held_at new.line = held_is ∙ ap held_at same in
      let on : ReadsOn left faults alike (day_walk day (suc k) items) (came_held (Bad n (told (why_item_line new.line))) (held_at new.line) new) old new =
      row_on left faults alike once onward (day_walk day (suc k) items) (came_held (Bad n (told (why_item_line new.line))) (held_at new.line) new) old new n e
      (λ a b h.
      day_next day k items n new.line a b h
      ∙ ap (λ o. item_walk (day_walk day k) items (n, new.line) o b) none_in
      ∙ ap (λ c. let r : Found Noting = Came (Bad n (told (why_item_line new.line))) c in r) (held_ahead n new b count))
      (λ a h. day_stops day k items Failed a h) in
      let whole : NotedTo left faults alike (day_walk day (suc k) items) (Bad n (told (why_item_line new.line))) (held_at new.line) old new =
      noted_on left faults alike once onward (day_walk day (suc k) items) (Bad n (told (why_item_line new.line))) (held_at new.line) old new going on (held_by left new.line new) (held_less new.line old new e.falls.1) in
      subst (λ (x : Noting). NotedTo left faults alike (day_walk day (suc k) items) x held old new) (sym bad)
      (subst (λ (x : Held). NotedTo left faults alike (day_walk day (suc k) items) (Bad n (told (why_item_line new.line))) x old new) (sym held_as) whole)
  item_read old new n line (Err Memory) going e same says = λ day k items.
      memory_on left faults alike once onward (day_walk day (suc k) items) (item_walk (day_walk day k) items (n, new.line) (item_in new.line)) old new (item_on day k items old new n e)
  item_read old new n line (Err (Refused m)) going e same says = absurd says
  item_read old new n line (Err (Read s)) going e same says = absurd says

  pub item_missing : (old new : Reading S) (n : ℕ) → n ≡ new.number + 1 → NextRecord left faults alike old new (Ok None) → (day : DayHead) (k : ℕ) (items : List AnItem)
      → NotedTo left faults alike (day_walk day (suc k) items) (Bad n NoItem) Ended old new
  item_missing old new n is e day k items =
      subst (λ (m : ℕ). NotedTo left faults alike (day_walk day (suc k) items) (Bad m NoItem) Ended old new) (sym is)
      (noted_end left faults alike once onward (day_walk day (suc k) items) (Bad (new.number + 1) NoItem) old new e (day_unread day k items) (day_missing day k (new.number + 1) items))

  pub item_stopped : (old new : Reading S) (s : ReadStop) → old.stop ≡ None → NextRecord left faults alike old new (Err s) → (day : DayHead) (k : ℕ) (items : List AnItem)
      → ReadOf {T = Noting} left faults alike (day_walk day (suc k) items) old new (Err (Read s))
  item_stopped old new s going e day k items = stop_as left faults alike once onward (day_walk day (suc k) items) old new s going e (λ a h. day_stops day k items s a h)
