-- The items of a day, one after another.
use Rattle.std.proofs.Common.{◌≡◌, ◌<◌, ◌+◌, ◌-◌, ℕ, suc, List, [], ◌∷◌, ◌++◌, refl, sym, ap, ◌∙◌, subst, arith}
use Rattle.std.specs.Prelude.{None, Ok, Err}
use Rattle.si_causes.specs.Reading.{Reading}
use Rattle.input_lines.specs.declared.stop.EditStop.{EditStop}
use Rattle.input_lines.specs.declared.stop.EditStop.TheVariants.{NoCommand as Refused, Read, Memory}
use Rattle.input_lines.specs.Ahead.{Ahead, Found, Came}
use Rattle.input_lines.specs.Reads.{ReadOf}
use Rattle.input_lines.proofs.LineReads.{Known, ReadsOn, on_join, on_none, read_on, read_memory}
use Rattle.journal_model.specs.declared.edit.Item.{Item as AnItem}
use Rattle.script_notes.specs.declared.day.ItemRead.TheVariants as read
use Rattle.script_notes.specs.declared.head.DayHead.{DayHead}
use Rattle.script_notes.specs.declared.noting.Held.{Held}
use Rattle.script_notes.specs.declared.noting.Held.TheVariants.{Nothing}
use Rattle.script_notes.specs.declared.noting.Noting.{Noting}
use Rattle.script_notes.specs.declared.noting.Noting.TheVariants.{Item}
use Rattle.script_notes.specs.Heads.{day_command}
use Rattle.script_notes.specs.Held.{came_held}
use Rattle.script_notes.specs.Walks.{IsItemRead, IsNoted, ItemCame, NotedTo, day_walk, item_walk}
use Rattle.script_notes.proofs.ItemReads.{day_next, day_stops}
use Rattle.script_notes.proofs.Steps.{noted_join, noted_on, row_on}
use Rattle.si_causes.specs.declared.stop.ReadStop.TheVariants.{Failed}

-- what is still to come of a day of which these items were read
abbrev pub rest_of : DayHead → ℕ → List AnItem → Ahead → Found Noting
rest_of day counter items = day_walk day (day.count - counter) items

day_all : (day : DayHead) (k : ℕ) (items : List AnItem) (a : Ahead) → k ≡ 0 → day_walk day k items a ≡ Came (Item (day_command day items)) a
unfolding day_walk
day_all day k items a e = ap (λ n. day_walk day n items a) e

module _ {S : Type 0} (left : S → Known) (faults : S → ℕ) (alike : S → S → Type 0) (once : (a : S) → alike a a) (onward : (a b c : S) → alike a b → alike b c → alike a c) where
  pub day_begins : (day : DayHead) (items : List AnItem) (reader : Reading S) → items ≡ [] → ReadsOn left faults alike (day_walk day day.count []) (rest_of day 0 items) reader reader
  day_begins day items reader e =
      let all : day.count ≡ day.count - 0 = omega arith in
      on_none left faults alike once onward (day_walk day day.count []) (rest_of day 0 items) reader
      (λ a. ap (λ k. day_walk day k [] a) all ∙ ap (λ l. day_walk day (day.count - 0) l a) (sym e))

  pub day_more : (day : DayHead) (counter : ℕ) (items longer : List AnItem) (item : AnItem) (old now new : Reading S) → counter < day.count → longer ≡ items ++ item ∷ []
      → ReadsOn left faults alike (day_walk day day.count []) (rest_of day counter items) old now → ItemCame left faults alike now new item
      → ReadsOn left faults alike (day_walk day day.count []) (rest_of day (counter + 1) longer) old new
  day_more day counter items longer item old now new lt e on came =
      let j = day.count - (counter + 1) in
      let fewer : day.count - counter ≡ suc j = omega (arith, lt) in
      on_join left faults alike once onward (day_walk day day.count []) (rest_of day counter items) (rest_of day (counter + 1) longer) old now new on
      (row_on left faults alike once onward (rest_of day counter items) (rest_of day (counter + 1) longer) now new came.n came.came
      (λ a b h.
      ap (λ k. day_walk day k items a) fewer
      ∙ day_next day j items came.n new.line a b h
      ∙ ap (λ o. item_walk (day_walk day j) items (came.n, new.line) o b) came.is
      ∙ ap (λ l. day_walk day j l b) (sym e))
      (λ a h. ap (λ k. day_walk day k items a) fewer ∙ day_stops day j items Failed a h))

  -- a line at fault stands in place of an item
  pub day_bad : (day : DayHead) (counter : ℕ) (items : List AnItem) (noting : Noting) (held : Held) (old now new : Reading S) → counter < day.count → old.stop ≡ None
      → ReadsOn left faults alike (day_walk day day.count []) (rest_of day counter items) old now → IsItemRead left faults alike now new (Ok (read.Bad noting held))
      → NotedTo left faults alike (day_walk day day.count []) noting held old new
  day_bad day counter items noting held old now new lt going on bad =
      let j = day.count - (counter + 1) in
      let fewer : day.count - counter ≡ suc j = omega (arith, lt) in
      noted_join left faults alike once onward (day_walk day day.count []) (rest_of day counter items) noting held old now new going on
      (subst (λ (k : ℕ). NotedTo left faults alike (day_walk day k items) noting held now new) (sym fewer) (bad day j items))

  pub day_stopped : (day : DayHead) (counter : ℕ) (items : List AnItem) (stop : EditStop) (old now new : Reading S) → counter < day.count
      → ReadsOn left faults alike (day_walk day day.count []) (rest_of day counter items) old now → IsItemRead left faults alike now new (Err stop)
      → IsNoted left faults alike (day_walk day day.count []) old new (Err stop)
  day_stopped day counter items (Refused n) old now new lt on bad = absurd bad
  day_stopped day counter items (Read s) old now new lt on bad =
      let j = day.count - (counter + 1) in
      let fewer : day.count - counter ≡ suc j = omega (arith, lt) in
      read_on left faults alike once onward (day_walk day day.count []) (rest_of day counter items) old now new (Err (Read s)) on
      (subst (λ (k : ℕ). ReadOf {T = Noting} left faults alike (day_walk day k items) now new (Err (Read s))) (sym fewer) (bad day j items))
  day_stopped day counter items Memory old now new lt on bad =
      let j = day.count - (counter + 1) in
      let fewer : day.count - counter ≡ suc j = omega (arith, lt) in
      read_on left faults alike once onward (day_walk day day.count []) (rest_of day counter items) old now new (Err Memory) on
      (subst (λ (k : ℕ). ReadOf {T = Noting} left faults alike (day_walk day k items) now new (Err Memory)) (sym fewer) (bad day j items))

  -- there was no memory to keep an item that was read
  pub day_kept : (day : DayHead) (counter : ℕ) (items : List AnItem) (item : AnItem) (stop : EditStop) (old now new : Reading S) → counter < day.count → stop ≡ Memory
      → ReadsOn left faults alike (day_walk day day.count []) (rest_of day counter items) old now → ItemCame left faults alike now new item
      → IsNoted left faults alike (day_walk day day.count []) old new (Err stop)
  day_kept day counter items item stop old now new lt memory on came =
      let longer = items ++ item ∷ [] in
      subst (λ (s : EditStop). IsNoted left faults alike (day_walk day day.count []) old new (Err s)) (sym memory)
      (read_on left faults alike once onward (day_walk day day.count []) (rest_of day (counter + 1) longer) old new new (Err Memory) (day_more day counter items longer item old now new lt refl on came)
      (read_memory left faults alike once onward (rest_of day (counter + 1) longer) new))

  -- all items were read
  pub day_whole : (day : DayHead) (counter : ℕ) (items : List AnItem) (old now : Reading S) → old.stop ≡ None → day.count - counter ≡ 0
      → ReadsOn left faults alike (day_walk day day.count []) (rest_of day counter items) old now → NotedTo left faults alike (day_walk day day.count []) (Item (day_command day items)) Nothing old now
  day_whole day counter items old now going none on =
      let noting = Item (day_command day items) in
      noted_on left faults alike once onward (day_walk day day.count []) noting Nothing old now going
      (on_join left faults alike once onward (day_walk day day.count []) (rest_of day counter items) (came_held noting Nothing now) old now now on
      (on_none left faults alike once onward (rest_of day counter items) (came_held noting Nothing now) now (λ a. day_all day (day.count - counter) items a none)))
      tt (let le = on.goes_on in omega arith)
