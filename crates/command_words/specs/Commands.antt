-- A command as it was read, and what its words spelled.
use Rattle.std.specs.Prelude.{◌≤◌, List, ℕ, length, map, option_map, String, string_bytes}
use Rattle.command_words.specs.declared.command.Command.{Command}
use Rattle.command_words.specs.declared.command.Command.TheVariants as command
use Rattle.command_words.specs.declared.command.LiveWords.{LiveWords}
use Rattle.command_words.specs.declared.audit.AuditWords.{AuditWords}
use Rattle.command_words.specs.declared.play.PlayWords.{PlayWords}
use Rattle.command_words.specs.declared.listen.ListenWords.{ListenWords}
use Rattle.command_words.specs.declared.setting.LiveOption.{LiveOption}
use Rattle.command_words.specs.declared.setting.LiveOption.TheVariants as option
use Rattle.command_words.specs.Grammar.{CommandLine, ListenOptions, PlayOptions, Play, Listen, Live, Soak, Audit, Setting, Feed, Cycles, Join, View}

-- words as their bytes
abbrev pub texts : {Y : Type 0} → List (String Y) → List (List ℕ)
texts words = map string_bytes words

-- an option without its value
abbrev pub option_of : Setting → LiveOption
option_of (Feed path) = option.Feed
option_of (Cycles n) = option.Cycles
option_of (Join j) = option.Join
option_of (View s) = option.View

-- the words of this `live` say this
abbrev pub said_live : LiveWords → CommandLine
said_live live = Live (texts live.feeds.items) live.cycles live.join live.views

-- the words of this `play` say this
abbrev pub play_options_said : PlayWords → PlayOptions
play_options_said play = record { fold = play.fold; follow = play.follow; keep_going = play.keep_going; long = play.long }

abbrev pub said_play : PlayWords → CommandLine
said_play play = Play (play_options_said play) (option_map string_bytes play.resume)

-- the words of this `audit` say this
abbrev pub said_audit : AuditWords → CommandLine
said_audit audit = Audit (string_bytes audit.path) audit.nulls

-- the words of this `listen` say this
abbrev pub options_said : ListenWords → ListenOptions
options_said listen = record { details = listen.details; partial = listen.partial; resync = listen.resync; strict = listen.strict }

abbrev pub said_listen : ListenWords → CommandLine
said_listen listen = Listen (options_said listen)

-- the words of this command say this
abbrev pub said : Command → CommandLine
said (command.Play play) = said_play play
said (command.Listen listen) = said_listen listen
said (command.Live live) = said_live live
said (command.Soak number) = Soak number
said (command.Audit audit) = said_audit audit

-- the limits of a command: at most 16 feeds, 1,000 cycles, and 8 views; the number of a load has at most nine digits
abbrev pub IsWithin : Command → Type 0
IsWithin (command.Play play) = Unit {0}
IsWithin (command.Listen listen) = Unit {0}
IsWithin (command.Live live) = (length live.feeds.items ≤ 16) × (live.cycles ≤ 1000) × (length live.views ≤ 8)
IsWithin (command.Soak number) = number ≤ 999999999
IsWithin (command.Audit audit) = Unit {0}
