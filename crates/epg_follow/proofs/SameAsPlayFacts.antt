-- Lines without a fault are followed as they are played.
use Rattle.std.proofs.Common.{◌≡◌, ℕ, Bool, true, false, List, [], ◌∷◌, ◌++◌, refl, sym, ap, ◌∙◌, inl, inr}
use Rattle.std.specs.Prelude.{Option, Some, None, is_some, if◌then◌else◌}
use Rattle.std.proofs.lemmas.Bool.{cases_Bool}
use Rattle.input_lines.specs.Fields.{record_of}
use Rattle.input_lines.specs.Ahead.{Ahead, Came, Found, IfCame, Row, Stopped, and_all, first_row, on_line, stop_at}
use Rattle.input_lines.specs.Ahead as reading
use Rattle.input_lines.proofs.ValuesAhead.{any_came, then_came}
use Rattle.mux_model.specs.declared.mux.Mux.{Mux}
use Rattle.journal_model.specs.declared.step.Step.{Step}
use Rattle.journal_model.specs.declared.step.Outcome.{Outcome}
use Rattle.journal_model.specs.declared.step.Entry.{Entry}
use Rattle.journal_model.specs.Steps.{Command}
use Rattle.desk_core.specs.Journal.{entry_after, journal_after, outcome_of}
use Rattle.journal_air.specs.OnAir.{and_step}
use Rattle.journal_model.specs.Raising.{all_raised, raised}
use Rattle.script_lines.specs.declared.script.ScriptItem.{ScriptItem}
use Rattle.script_lines.specs.declared.script.ScriptItem.TheVariants.{Step as step, Kept, End}
use Rattle.script_lines.specs.Script.{Asked, IsRead, asked_by, first_script_item, is_command, is_outcome_line, item_on, items_ahead, kept_in, kept_item, read_command, read_item, step_item}
use Rattle.script_lines.proofs.ItemsAhead.{items_go_on}
use Rattle.script_notes.specs.declared.noting.Noting.TheVariants.{Item}
use Rattle.script_notes.specs.Notings.{first_noting, noted}
use Rattle.epg_play.specs.Items.{course_at}
use Rattle.epg_play.specs.Outcomes.{is_outcome}
use Rattle.epg_play.specs.Script.{Disagreed, Ended, Stop, commands_of, difference, first_difference, first_of, stop_of, up_to}
use Rattle.epg_play.proofs.CourseFacts.{agreed_ahead, differs_ahead, step_ahead, stop_ahead}
use Rattle.epg_play.proofs.GoingOn.{desk_with}
use Rattle.epg_play.proofs.RunFacts.{none_raised}
use Rattle.script_notes.specs.Pieces.{Entered, piece_text}
use Rattle.epg_follow.specs.Course.{Adds, Followed, and_others, entered}
use Rattle.epg_follow.specs.Going.{followed_at}
use Rattle.epg_follow.proofs.CourseFacts.{line_ahead, stop_ahead as follow_stops}
use Rattle.epg_follow.specs.SameAsPlay.{EntriesAreTheJournal, FollowIsPlay, entered_all}

-- ---- an item that is read is none that says the end

kept_read : (n : ℕ) (found : Found Outcome) → IfCame IsRead (kept_item n found)
kept_read n (Came outcome behind) = tt
kept_read n (Stopped stop) = tt

step_read : (found : Found Command) → IfCame IsRead (step_item found)
step_read (Came command behind) = tt
step_read (Stopped stop) = tt

fields_read : (after : Bool) (n : ℕ) (fields : List (List ℕ)) (behind : Ahead) → IfCame IsRead (read_item after n fields behind)
fields_read after n fields behind = go (is_outcome_line fields)
  where
    go : (outcome : Bool) → IfCame IsRead (if outcome then kept_item n (on_line n (kept_in after fields) behind) else step_item (read_command n fields behind))
    go true = kept_read n (on_line n (kept_in after fields) behind)
    go false = step_read (read_command n fields behind)

item_read : (after : Bool) (lines : Ahead) → IfCame IsRead (first_script_item after lines)
item_read after lines =
    then_came (λ (row : Row). Unit {0}) IsRead (first_row stop_at lines) (λ row behind. item_on after row.0 (record_of row.1) behind) (any_came (first_row stop_at lines))
    (λ row behind any. then_came (λ (fields : List (List ℕ)). Unit {0}) IsRead (on_line row.0 (record_of row.1) behind) (read_item after row.0) (any_came (on_line row.0 (record_of row.1) behind))
    (λ fields rest any. fields_read after row.0 fields rest))

-- ---- item by item

abbrev Items : Type 0
Items = List ScriptItem × reading.Stop

abbrev Rest : Type 0
Rest = List Command × Stop

module _ (keep : Bool) (shift : ℕ) (mux : Mux) where
  abbrev entered_of : List Entry → List Command → Followed
  entered_of journal commands = entered_all (all_raised shift (journal_after mux journal commands))

  -- what holds of the items that are ahead
  abbrev Holds : List ScriptItem → Type 0
  Holds items = (journal : List Entry) (made : Option Outcome) (lines : Ahead) (commands : List Command) → items_ahead (is_some made) lines ≡ (items, reading.End)
      → course_at shift (desk_with mux journal) made lines ≡ (commands, Ended) → followed_at keep shift mux journal made lines ≡ entered_of journal commands

  noted_same : (made : Option Outcome) (lines behind : Ahead) (item : ScriptItem) → first_script_item (is_some made) lines ≡ Came item behind → first_noting (is_some made) lines ≡ Came (Item item) behind
  noted_same made lines behind item e = ap (noted (is_some made) lines) e

  -- the first item, and those behind it
  first_is : (made : Option Outcome) (lines : Ahead) (found : Found ScriptItem) (items : Items) → first_script_item (is_some made) lines ≡ found → items_ahead (is_some made) lines ≡ items
      → and_all found (λ (item : ScriptItem). items_ahead (is_command item)) ≡ items
  first_is made lines found items e is = sym (items_go_on (is_some made) lines ∙ ap (λ (f : Found ScriptItem). and_all f (λ (item : ScriptItem). items_ahead (is_command item))) e) ∙ is

  at_end : (journal : List Entry) (made : Option Outcome) (lines : Ahead) (commands : List Command) (found : Found ScriptItem) → first_script_item (is_some made) lines ≡ found
      → items_ahead (is_some made) lines ≡ ([], reading.End) → course_at shift (desk_with mux journal) made lines ≡ (commands, Ended)
      → followed_at keep shift mux journal made lines ≡ entered_of journal commands
  at_end journal made lines commands (Came item behind) e is course =
      (let not = ap (λ (p : Items). p.0) (first_is made lines (Came item behind) ([], reading.End) e is) in cc not)
  at_end journal made lines commands (Stopped stop) e is course =
      let ends : stop ≡ reading.End = ap (λ (p : Items). p.1) (first_is made lines (Stopped stop) ([], reading.End) e is) in
      let stopped : first_script_item (is_some made) lines ≡ Stopped reading.End = e ∙ ap (λ (s : reading.Stop). let f : Found ScriptItem = Stopped s in f) ends in
      let none : [] ≡ commands = ap (λ (p : Rest). p.0) (sym (stop_ahead shift (desk_with mux journal) made lines reading.End stopped) ∙ course) in
      follow_stops keep shift mux journal made lines reading.End (ap (noted (is_some made) lines) stopped)
      ∙ ap (entered_of journal) none

  -- an outcome that is kept
  after_kept : (items : List ScriptItem) → Holds items → (journal : List Entry) (made : Option Outcome) (lines behind : Ahead) (commands : List Command) (n : ℕ) (kept : Outcome)
      → first_script_item (is_some made) lines ≡ Came (Kept n kept) behind → items_ahead false behind ≡ (items, reading.End) → course_at shift (desk_with mux journal) made lines ≡ (commands, Ended)
      → followed_at keep shift mux journal made lines ≡ entered_of journal commands
  after_kept items holds journal None lines behind commands n kept e rest course =
      line_ahead keep shift mux journal None lines behind (Item (Kept n kept)) (noted_same None lines behind (Kept n kept) e)
      ∙ holds journal None behind commands rest (sym (agreed_ahead shift (desk_with mux journal) None lines behind n kept e refl) ∙ course)
  after_kept items holds journal (Some found) lines behind commands n kept e rest course =
      elim (cases_Bool (is_outcome kept found)) [
        | inl same ↦
            line_ahead keep shift mux journal (Some found) lines behind (Item (Kept n kept)) (noted_same (Some found) lines behind (Kept n kept) e)
            ∙ rw same (holds journal None behind commands rest
            (sym (agreed_ahead shift (desk_with mux journal) (Some found) lines behind n kept e (rw same refl)) ∙ course))
        | inr other ↦
            (let differs = differs_ahead shift (desk_with mux journal) (Some found) lines behind n kept (Disagreed n kept found) e (rw other refl) in
            let not : Disagreed n kept found ≡ Ended = ap (λ (p : Rest). p.1) (sym differs ∙ course) in
            cc not)
      ]

  -- a command
  after_step : (items : List ScriptItem) → Holds items → (journal : List Entry) (made : Option Outcome) (lines behind : Ahead) (commands : List Command) (who : ℕ) (s : Step)
      → first_script_item (is_some made) lines ≡ Came (step who s) behind → items_ahead true behind ≡ (items, reading.End) → course_at shift (desk_with mux journal) made lines ≡ (commands, Ended)
      → followed_at keep shift mux journal made lines ≡ entered_of journal commands
  after_step items holds journal made lines behind commands who s e rest course =
      let desk = and_step (desk_with mux journal) who s in
      let after : Option Outcome = Some (raised shift (outcome_of mux journal s)) in
      let ours = course_at shift desk after behind in
      let goes : ((who, s) ∷ ours.0, ours.1) ≡ (commands, Ended) = sym (step_ahead shift (desk_with mux journal) made lines behind who s e) ∙ course in
      let first : (who, s) ∷ ours.0 ≡ commands = ap (λ (p : Rest). p.0) goes in
      let ends : ours ≡ (ours.0, Ended) = ap (λ (t : Stop). let p : Rest = (ours.0, t) in p) (ap (λ (p : Rest). p.1) goes) in
      line_ahead keep shift mux journal made lines behind (Item (step who s)) (noted_same made lines behind (step who s) e)
      ∙ ap (and_others (Adds (Entered (entered shift mux journal (who, s)))))
      (holds (journal ++ entry_after mux journal (who, s) ∷ []) after behind ours.0 rest ends)
      ∙ ap (entered_of journal) first

  by_item : (items : List ScriptItem) → Holds items → (item : ScriptItem) → IsRead item → (journal : List Entry) (made : Option Outcome) (lines behind : Ahead) (commands : List Command)
      → first_script_item (is_some made) lines ≡ Came item behind → items_ahead (is_command item) behind ≡ (items, reading.End) → course_at shift (desk_with mux journal) made lines ≡ (commands, Ended)
      → followed_at keep shift mux journal made lines ≡ entered_of journal commands
  by_item items holds (step who s) is journal made lines behind commands e rest course = after_step items holds journal made lines behind commands who s e rest course
  by_item items holds (Kept n kept) is journal made lines behind commands e rest course = after_kept items holds journal made lines behind commands n kept e rest course
  by_item items holds End is journal made lines behind commands e rest course = absurd is

  one_more : (item : ScriptItem) (items : List ScriptItem) → Holds items → (journal : List Entry) (made : Option Outcome) (lines : Ahead) (commands : List Command) (found : Found ScriptItem)
      → first_script_item (is_some made) lines ≡ found → IfCame IsRead found
      → items_ahead (is_some made) lines ≡ (item ∷ items, reading.End) → course_at shift (desk_with mux journal) made lines ≡ (commands, Ended)
      → followed_at keep shift mux journal made lines ≡ entered_of journal commands
  one_more item items holds journal made lines commands (Stopped stop) e read is course =
      (let not = ap (λ (p : Items). p.0) (first_is made lines (Stopped stop) (item ∷ items, reading.End) e is) in cc not)
  one_more item items holds journal made lines commands (Came own behind) e read is course =
      let all = first_is made lines (Came own behind) (item ∷ items, reading.End) e is in
      let rest = items_ahead (is_command own) behind in
      let others : rest.0 ≡ items = (let l = ap (λ (p : Items). p.0) all in cc l) in
      let ends : rest.1 ≡ reading.End = ap (λ (p : Items). p.1) all in
      by_item items holds own read journal made lines behind commands e
      (ap (λ (l : List ScriptItem). let p : Items = (l, rest.1) in p) others ∙ ap (λ (t : reading.Stop). let p : Items = (items, t) in p) ends) course

  all_hold : (items : List ScriptItem) → Holds items
  all_hold [] journal made lines commands is course = at_end journal made lines commands (first_script_item (is_some made) lines) refl is course
  all_hold (item ∷ items) journal made lines commands is course =
      one_more item items (all_hold items) journal made lines commands (first_script_item (is_some made) lines) refl (item_read (is_some made) lines) is course

-- ---- a script

-- no first difference is an end
abbrev Late : Option (ℕ × Stop) → Type 0
Late None = Unit {0}
Late (Some found) = found.1 ≡ Ended → ⊥

abbrev LateHere : Option Stop → Type 0
LateHere None = Unit {0}
LateHere (Some stop) = stop ≡ Ended → ⊥

difference_late : (kept : Option (ℕ × Outcome)) (made : Outcome) → LateHere (difference kept made)
difference_late None made = tt
difference_late (Some kept) made = go (is_outcome kept.1 made)
  where
    go : (same : Bool) → LateHere (if same then None else Some (Disagreed kept.0 kept.1 made))
    go true = tt
    go false = λ e. cc e

first_late : (here : Option Stop) (later : Option (ℕ × Stop)) → LateHere here → Late later → Late (first_of here later)
first_late (Some here) later is others = is
first_late None None is others = tt
first_late None (Some later) is others = others

all_late : (asked : List Asked) (entries : List Entry) → Late (first_difference asked entries)
all_late [] entries = tt
all_late (asked ∷ more) [] = tt
all_late (asked ∷ more) (entry ∷ entries) =
    first_late (difference asked.1 entry.outcome) (first_difference more entries) (difference_late asked.1 entry.outcome) (all_late more entries)

-- a script that is played to its end was read to its end
read_to_end : (found : Option (ℕ × Stop)) (commands done : List Command) (stop : reading.Stop) → Late found → up_to found commands (stop_of stop) ≡ (done, Ended) → stop ≡ reading.End
read_to_end None commands done reading.End late e = refl
read_to_end None commands done (reading.NoCommand n) late e = (let not = ap (λ (p : Rest). p.1) e in cc not)
read_to_end None commands done reading.TooLong late e = (let not = ap (λ (p : Rest). p.1) e in cc not)
read_to_end None commands done reading.Unread late e = (let not = ap (λ (p : Rest). p.1) e in cc not)
read_to_end (Some found) commands done stop late e = absurd (late (ap (λ (p : Rest). p.1) e))

pub follow_is_play : FollowIsPlay
follow_is_play keep mux journal lines commands played =
    let items = items_ahead false lines in
    let asked = asked_by items.0 in
    let all = commands_of asked in
    let ends = read_to_end (first_difference asked (journal_after mux journal all)) all commands items.1 (all_late asked (journal_after mux journal all)) played in
    let course : course_at 0 (desk_with mux journal) None lines ≡ (commands, Ended) =
    ap (λ (l : List Entry). up_to (first_difference asked l) all (stop_of items.1)) (none_raised (journal_after mux journal all)) ∙ played in
    all_hold keep 0 mux items.0 journal None lines commands (ap (λ (t : reading.Stop). let p : Items = (items.0, t) in p) ends) course
    ∙ ap entered_all (none_raised (journal_after mux journal commands))

pub entries_are_the_journal : EntriesAreTheJournal
entries_are_the_journal [] = refl
entries_are_the_journal (e ∷ es) = ap (λ l. piece_text (Entered e) ++ l) (entries_are_the_journal es)
