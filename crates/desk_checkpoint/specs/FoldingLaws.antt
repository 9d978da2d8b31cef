-- Laws of checkpoints.
use Rattle.std.specs.Prelude.{◌≡◌, ◌≤◌, ℕ, ◌+◌, true, List, [], ◌++◌}
use Rattle.std.specs.List.{AllByRecursion}
use Rattle.mux_model.specs.declared.mux.Mux.{Mux}
use Rattle.mux_model.specs.Sound.{IsSound}
use Rattle.journal_model.specs.declared.step.Entry.{Entry}
use Rattle.journal_model.specs.Steps.{Command, IsStepWithin}
use Rattle.script_lines.specs.Script.{IsShapedStep}
use Rattle.desk_core.specs.Journal.{Legal, publishes, journal_after}
use Rattle.desk_core.specs.Publications.{guide_after, publication, swaps}
use Rattle.journal_air.specs.Air.{airings, airings_by}
use Rattle.desk_checkpoint.specs.Steps.{checkpoint_steps, steps_of, folded, shift_of}
use Rattle.desk_checkpoint.specs.Going.{is_taken, GoOnAlike}
use Rattle.journal_model.specs.Raising.{all_raised}

-- ---- of a checkpoint

-- The steps of the checkpoint of a legal journal are all taken by a fresh desk of its multiplex.
abbrev pub StepsAreTaken : Type 0
StepsAreTaken =
    (mux : Mux) (journal : List Entry) → IsSound mux → Legal mux journal
    → AllByRecursion (λ (entry : Entry). is_taken entry.outcome ≡ true) (folded mux journal)

-- A desk may be asked them, where it was asked the journal; and their edits are such as lines can give.
abbrev pub StepsAreWithin : Type 0
StepsAreWithin =
    (mux : Mux) (journal : List Entry) → IsSound mux → Legal mux journal
    → AllByRecursion (λ (entry : Entry). IsStepWithin entry.step) journal
    → AllByRecursion (λ (command : Command). IsStepWithin command.1) (checkpoint_steps mux journal)
    × AllByRecursion (λ (command : Command). IsShapedStep command.1) (checkpoint_steps mux journal)

-- They put nothing on air.
abbrev pub NothingIsAired : Type 0
NothingIsAired =
    (mux : Mux) (journal : List Entry) → IsSound mux → Legal mux journal → swaps (folded mux journal) ≡ []

-- After them the desk goes on as after the journal.
abbrev pub GoesOn : Type 0
GoesOn =
    (mux : Mux) (journal : List Entry) → IsSound mux → Legal mux journal
    → GoOnAlike mux (shift_of (publishes journal)) journal (folded mux journal)

-- Whatever is asked then, the air of the journal goes on with that of the desk.
abbrev pub AirGoesOn : Type 0
AirGoesOn =
    (mux : Mux) (journal : List Entry) (commands : List Command) → IsSound mux → Legal mux journal
    → let more = journal_after mux (folded mux journal) commands in
    airings mux (journal ++ all_raised (shift_of (publishes journal)) more)
    ≡ airings mux journal ++ airings mux (folded mux journal ++ more)

-- ---- of two legal journals that go on alike, after which the same is asked

-- After both, replies and outcomes are equal, but for the shift.
abbrev pub RepliesAreEqual : Type 0
RepliesAreEqual =
    (mux : Mux) (shift : ℕ) (journal short : List Entry) (commands : List Command)
    → IsSound mux → Legal mux journal → Legal mux short → GoOnAlike mux shift journal short
    → journal_after mux journal commands ≡ all_raised shift (journal_after mux short commands)

-- So the first journal goes on legally with the entries of the second, raised, and the two go on alike again.
abbrev pub StaysLegal : Type 0
StaysLegal =
    (mux : Mux) (shift : ℕ) (journal short : List Entry) (commands : List Command)
    → IsSound mux → Legal mux journal → Legal mux short → GoOnAlike mux shift journal short
    → let more = journal_after mux short commands in
    Legal mux (journal ++ all_raised shift more)
    × Legal mux (short ++ more)
    × GoOnAlike mux shift (journal ++ all_raised shift more) (short ++ more)

-- From the latest of the second journal on, each publication is that of the first with the raised number.
abbrev pub PublicationsAreEqual : Type 0
PublicationsAreEqual =
    (mux : Mux) (shift : ℕ) (journal short : List Entry) (commands : List Command)
    → IsSound mux → Legal mux journal → Legal mux short → GoOnAlike mux shift journal short
    → let more = journal_after mux short commands in
    (n : ℕ) → publishes short ≤ n → n ≤ publishes (short ++ more)
    → publication mux (journal ++ all_raised shift more) (shift + n) ≡ publication mux (short ++ more) n

-- What the first journal puts on air with what was asked is what it did alone, and then what the swaps after the second do.
abbrev pub AiredIsEqual : Type 0
AiredIsEqual =
    (mux : Mux) (shift : ℕ) (journal short : List Entry) (commands : List Command)
    → IsSound mux → Legal mux journal → Legal mux short → GoOnAlike mux shift journal short
    → let more = journal_after mux short commands in
    airings mux (journal ++ all_raised shift more) ≡ airings mux journal ++ airings_by mux (short ++ more) more

-- The checkpoint of the first journal is made of what the second has, and of the shift.
abbrev pub FoldsAgain : Type 0
FoldsAgain =
    (mux : Mux) (shift : ℕ) (journal short : List Entry) → GoOnAlike mux shift journal short
    → checkpoint_steps mux journal
    ≡ steps_of mux (shift + publishes short) (publication mux short (publishes short)) (guide_after mux short)
