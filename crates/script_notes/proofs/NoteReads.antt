-- A noting, put together of its line and of the items behind it.
use Rattle.std.proofs.Common.{◌≡◌, ◌≤◌, ◌<◌, ◌*◌, ◌+◌, ℕ, Bool, List, ◌∷◌, ◌++◌, length, refl, sym, ap, ◌∙◌, arith, length-append}
use Rattle.std.specs.Prelude.{None, Ok, Err, Result}
use Rattle.si_causes.specs.Reading.{Reading, room}
use Rattle.si_causes.specs.declared.stop.ReadStop.{ReadStop}
use Rattle.si_causes.specs.declared.stop.ReadStop.TheVariants.{Failed, TooLong as Overlong}
use Rattle.input_lines.specs.Lines.{lines_of}
use Rattle.input_lines.specs.Going.{HasEnded}
use Rattle.input_lines.specs.declared.stop.EditStop.{EditStop}
use Rattle.input_lines.specs.declared.stop.EditStop.TheVariants.{NoCommand as Refused, Read, Memory}
use Rattle.input_lines.specs.Ahead.{Ahead, Row, Tail, Ends, Breaks, Found, Stopped, End, ahead, and_then, tail_of}
use Rattle.si_causes.specs.Text.{AtEnd, PastLimit, TextEnd}
use Rattle.input_lines.specs.Reads.{Gives, Leaves, Looked, ReadOf, Takes, ahead_with}
use Rattle.input_lines.proofs.LineReads.{Known, ReadsOn, on_none, on_value, read_on, read_unread}
use Rattle.script_lines.specs.declared.script.ScriptItem.TheVariants as item
use Rattle.script_notes.specs.declared.noting.Held.{Held}
use Rattle.script_notes.specs.declared.noting.Held.TheVariants.{Nothing, Attached, Line, Ended}
use Rattle.script_notes.specs.declared.noting.Noting.{Noting}
use Rattle.script_notes.specs.declared.noting.Noting.TheVariants.{Item, Bad}
use Rattle.script_notes.specs.Held.{FallsNoting, GivesNoting, IsHeldBy, NotingOf, PassesTo, TakesNoting, came_held, first_held, left_over}
use Rattle.script_notes.specs.Sound.{IsReadNoting}
use Rattle.script_notes.specs.Walks.{IsNoted, NotedTo, RowCame, RowsEnd, line_walk, row_held}
use Rattle.script_notes.proofs.Numbered.{AreAfter, attached_after, ordered, records_after, walk_is}
use Rattle.script_notes.proofs.Steps.{noted_join, noted_on}

-- ---- what is ahead has its numbers

abbrev IsNumbered : ℕ → List (List ℕ) → Tail → Type 0
IsNumbered n lines tail = (e : ℕ) → tail ≡ Ends e → e ≡ n + length lines

-- what is read line by line of what is ahead with what is held
abbrev pub walk_held : {S : Type 0} → Bool → Held → Reading S → Ahead → Found Noting
walk_held after held reader lines = and_then (row_held held reader lines) (line_walk after)

held_is : {S : Type 0} (after : Bool) (held : Held) (reader : Reading S) (rows : List Row) (tail : Tail) → AreAfter reader.number rows tail
    → first_held after held reader (record { rows = rows; tail = tail }) ≡ walk_held after held reader (record { rows = rows; tail = tail })
held_is after Nothing reader rows tail h = sym (walk_is after rows tail (ordered reader.number rows tail h))
held_is after Attached reader rows tail h = sym (walk_is after _ tail (ordered reader.number _ tail (attached_after reader.number rows tail h)))
held_is after Line reader rows tail h = sym (walk_is after ((reader.number, reader.line) ∷ rows) tail h)
held_is after Ended reader rows tail h = refl

lines_are : {S : Type 0} (after : Bool) (held : Held) (reader : Reading S) (lines : List (List ℕ)) (tail : Tail) → IsNumbered (reader.number + 1) lines tail
    → first_held after held reader (ahead_with reader lines tail) ≡ walk_held after held reader (ahead_with reader lines tail)
lines_are after held reader lines tail h = held_is after held reader _ tail (records_after reader.number (reader.number + 1) lines tail (omega arith) h)

breaks : (n : ℕ) (lines : List (List ℕ)) → IsNumbered n lines Breaks
breaks n lines e is = absurd cc

tails : (n : ℕ) (lines : List (List ℕ)) (end : TextEnd) → IsNumbered n lines (tail_of (n + length lines) end)
tails n lines AtEnd e is = cc
tails n lines PastLimit e is = absurd cc

text_is : {S : Type 0} (after : Bool) (held : Held) (reader : Reading S) (text : List ℕ) → first_held after held reader (ahead reader text) ≡ walk_held after held reader (ahead reader text)
text_is after held reader text =
    let lines = lines_of reader text in
    lines_are after held reader lines.0 (tail_of (reader.number + 1 + length lines.0) lines.1) (tails (reader.number + 1) lines.0 lines.1)

abbrev looked_is : {S : Type 0} (left : S → Known) (after : Bool) (held : Held) (old new : Reading S) → Looked left (walk_held after held old) old new → Looked left (first_held after held old) old new
looked_is left after held old new k = record {
  lines = k.lines;
  handed = k.handed;
  count = k.count;
  going = k.going;
  needed = λ front last e. lines_are after held old front Breaks (breaks (old.number + 1) front) ∙ k.needed front last e;
}

pub ended_by : {S : Type 0} (left : S → Known) (held : Held) (new : Reading S) → HasEnded left new → IsHeldBy left held new
ended_by left Nothing new h = tt
ended_by left Attached new h = tt
ended_by left Line new h = tt
ended_by left Ended new h = h

-- ---- a noting

module _ {S : Type 0} (left : S → Known) (faults : S → ℕ) (alike : S → S → Type 0) (once : (a : S) → alike a a) (onward : (a b c : S) → alike a b → alike b c → alike a c) where
  -- what is read as another is
  pub noted_as : (f g : Ahead → Found Noting) (old new : Reading S) (r : Result (Noting × Held) EditStop) → old.stop ≡ None → ((a : Ahead) → f a ≡ g a) → IsNoted left faults alike g old new r → IsNoted left faults alike f old new r
  noted_as f g old new (Ok noted) going same k = noted_join left faults alike once onward f g noted.0 noted.1 old old new going (on_none left faults alike once onward f g old same) k
  noted_as f g old new (Err (Refused n)) going same k = absurd k
  noted_as f g old new (Err (Read s)) going same k = read_on left faults alike once onward f g old old new (Err (Read s)) (on_none left faults alike once onward f g old same) k
  noted_as f g old new (Err Memory) going same k = read_on left faults alike once onward f g old old new (Err Memory) (on_none left faults alike once onward f g old same) k

  -- a line that needs no other one
  pub line_noted : (after : Bool) (row : Row) (noting : Noting) (held : Held) (reader : Reading S) → reader.stop ≡ None → IsHeldBy left held reader → left_over held reader ≤ 2 * room reader + 1
      → ((a : Ahead) → line_walk after row a ≡ came_held noting held reader a) → NotedTo left faults alike (line_walk after row) noting held reader reader
  line_noted after row noting held reader going by le same =
      noted_on left faults alike once onward (line_walk after row) noting held reader reader going (on_none left faults alike once onward (line_walk after row) (came_held noting held reader) reader same) by le

  line_on : (after : Bool) (held : Held) (old mid : Reading S) (n : ℕ) → RowCame left faults alike held old mid n → ReadsOn left faults alike (walk_held after held old) (line_walk after (n, mid.line)) old mid
  line_on after held old mid n k =
      on_value left faults alike once onward (row_held held old) (n, mid.line) (walk_held after held old) (line_walk after (n, mid.line)) old mid
      (λ a b h. ap (λ (r : Found Row). and_then r (line_walk after)) h) (λ a s h. ap (λ (r : Found Row). and_then r (line_walk after)) h) k.reads

  gives_noting : (after : Bool) (held now : Held) (old new : Reading S) (noting : Noting) (text : List ℕ) → IsReadNoting noting → Leaves left (first_held after held old) (came_held noting now new) old new text
      → GivesNoting left (first_held after held old) now old new text (Ok noting)
  gives_noting after held now old new (Item (item.Step who s)) text read k = k
  gives_noting after held now old new (Item (item.Kept n o)) text read k = k
  gives_noting after held now old new (Item item.End) text read k = absurd read
  gives_noting after held now old new (Bad n why) text read k = k

  takes_noting : (after : Bool) (held now : Held) (old new : Reading S) (noting : Noting) → IsReadNoting noting → PassesTo left (first_held after held old) (came_held noting now new) old new
      → TakesNoting left faults (first_held after held old) now old new (Ok noting)
  takes_noting after held now old new (Item (item.Step who s)) read k = k
  takes_noting after held now old new (Item (item.Kept n o)) read k = k
  takes_noting after held now old new (Item item.End) read k = absurd read
  takes_noting after held now old new (Bad n why) read k = k

  falls_noting : (held now : Held) (old new : Reading S) (noting : Noting) → IsReadNoting noting → left_over now new < left_over held old → FallsNoting held now old new (Ok noting)
  falls_noting held now old new (Item (item.Step who s)) read k = k
  falls_noting held now old new (Item (item.Kept n o)) read k = k
  falls_noting held now old new (Item item.End) read k = absurd read
  falls_noting held now old new (Bad n why) read k = k

  no_end : (noting : Noting) (P : Type 0) → IsReadNoting noting → (let r : Result Noting EditStop = Ok noting in r) ≡ Ok (Item item.End) → P
  no_end (Item (item.Step who s)) P read e = absurd cc
  no_end (Item (item.Kept n o)) P read e = absurd cc
  no_end (Item item.End) P read e = absurd read
  no_end (Bad n why) P read e = absurd cc

  pub noting_came : (after : Bool) (held now : Held) (old mid new : Reading S) (n : ℕ) (noting : Noting) → old.stop ≡ None → RowCame left faults alike held old mid n → IsReadNoting noting
      → NotedTo left faults alike (line_walk after (n, mid.line)) noting now mid new → NotingOf left faults alike after held now old new (Ok noting)
  noting_came after held now old mid new n noting going row read k =
      let whole = noted_join left faults alike once onward (walk_held after held old) (line_walk after (n, mid.line)) noting now old mid new going (line_on after held old mid n row) k in
      let first = first_held after held old in
      record {
        gives = λ text told.
            let m = whole.gives text told in
            gives_noting after held now old new noting text read (record { rest = m.rest; told = m.told; reads = text_is after held old text ∙ m.reads });
        takes =
            let t = whole.takes in
            takes_noting after held now old new noting read (record {
              looked = looked_is left after held old new t.looked;
              reads = λ more tail may.
                  let all : IsNumbered (old.number + 1) (t.looked.lines ++ more) tail = λ e is. omega (arith, may.last e is, t.looked.count, length-append t.looked.lines more) in
                  lines_are after held old (t.looked.lines ++ more) tail all ∙ t.reads more tail may;
            });
        falls = falls_noting held now old new noting read (let a = k.falls in let b = row.falls in omega arith);
        at_end = λ is. no_end noting _ read is;
        later = whole.later;
        same = whole.same;
      }

  -- ---- the end, and stops

  pub noting_ends : (after : Bool) (held : Held) (old new : Reading S) → RowsEnd left faults alike (row_held held old) old new → NotingOf left faults alike after held held old new (Ok (Item item.End))
  noting_ends after held old new k =
      let ends : (a : Ahead) → row_held held old a ≡ Stopped End → walk_held after held old a ≡ Stopped End = λ a h. ap (λ (r : Found Row). and_then r (line_walk after)) h in
      record {
        gives = λ text told. let m = k.gives text told in (text_is after held old text ∙ ends (ahead old text) m.0, m.1);
        takes =
            let t = k.takes in
            let last : IsNumbered (old.number + 1) t.looked.lines (Ends (new.number + 1)) = λ e is. (let same : new.number + 1 ≡ e = cc in omega (arith, same, t.looked.count)) in
            record {
              looked = record {
                lines = t.looked.lines;
                handed = t.looked.handed;
                count = t.looked.count;
                going = t.looked.going;
                needed = λ front last e.
                    lines_are after held old front Breaks (breaks (old.number + 1) front)
                    ∙ ap (λ (r : Found Row). and_then r (line_walk after)) (t.looked.needed front last e);
              };
              done = t.done;
              reads = lines_are after held old t.looked.lines (Ends (new.number + 1)) last ∙ ends (ahead_with old t.looked.lines (Ends (new.number + 1))) t.reads;
            };
        falls = tt;
        at_end = λ is. k.at_end;
        later = k.later;
        same = k.same;
      }

  stop_gives : (after : Bool) (held now : Held) (old new : Reading S) (stop : EditStop) (text : List ℕ) → IsNoted left faults alike (walk_held after held old) old new (Err stop) → Gives {T = Noting} left (walk_held after held old) old new text (Err stop)
      → GivesNoting left (first_held after held old) now old new text (Err stop)
  stop_gives after held now old new (Refused n) text k g = absurd k
  stop_gives after held now old new (Read Failed) text k g = tt
  stop_gives after held now old new (Read Overlong) text k g = text_is after held old text ∙ g
  stop_gives after held now old new Memory text k g = tt

  stop_takes : (after : Bool) (held now : Held) (old new : Reading S) (stop : EditStop) → IsNoted left faults alike (walk_held after held old) old new (Err stop) → Takes {T = Noting} left faults (walk_held after held old) old new (Err stop)
      → TakesNoting left faults (first_held after held old) now old new (Err stop)
  stop_takes after held now old new (Refused n) k t = absurd k
  stop_takes after held now old new (Read Failed) k t = record {
    lines = t.lines;
    whole = t.whole;
    unended = t.unended;
    cause = t.cause;
    stopped = t.stopped;
    reads = lines_are after held old t.lines Breaks (breaks (old.number + 1) t.lines) ∙ t.reads;
  }
  stop_takes after held now old new (Read Overlong) k t = t
  stop_takes after held now old new Memory k t = looked_is left after held old new t

  read_stop : (after : Bool) (held : Held) (old new : Reading S) (stop : EditStop) → old.stop ≡ None → IsNoted left faults alike (walk_held after held old) old new (Err stop) → ReadOf {T = Noting} left faults alike (walk_held after held old) old new (Err stop)
      → NotingOf left faults alike after held held old new (Err stop)
  read_stop after held old new stop going k r = record {
    gives = λ text told. stop_gives after held held old new stop text k (r.gives going text told);
    takes = stop_takes after held held old new stop k (r.takes going);
    falls = tt;
    at_end = λ is. absurd cc;
    later = r.later;
    same = r.same;
  }

  pub noting_stopped : (after : Bool) (held : Held) (old mid new : Reading S) (n : ℕ) (stop : EditStop) → old.stop ≡ None → RowCame left faults alike held old mid n → IsNoted left faults alike (line_walk after (n, mid.line)) mid new (Err stop)
      → NotingOf left faults alike after held held old new (Err stop)
  noting_stopped after held old mid new n (Refused m) going row k = absurd k
  noting_stopped after held old mid new n (Read s) going row k =
      let r = read_on left faults alike once onward (walk_held after held old) (line_walk after (n, mid.line)) old mid new (Err (Read s)) (line_on after held old mid n row) k in
      read_stop after held old new (Read s) going r r
  noting_stopped after held old mid new n Memory going row k =
      let r = read_on left faults alike once onward (walk_held after held old) (line_walk after (n, mid.line)) old mid new (Err Memory) (line_on after held old mid n row) k in
      read_stop after held old new Memory going r r

  pub row_stopped : (after : Bool) (held : Held) (old new : Reading S) (s : ReadStop) → old.stop ≡ None → ReadOf {T = Row} left faults alike (row_held held old) old new (Err (Read s)) → NotingOf left faults alike after held held old new (Err (Read s))
  row_stopped after held old new s going k =
      let r = read_unread left faults alike once onward (row_held held old) (line_walk after) old new (Read s) k in
      read_stop after held old new (Read s) going r r
