-- Which command the words of a run spell.
use Rattle.headend_live.specs.declared.live.LivePlan.{LivePlan}
use Rattle.std.specs.Prelude.{◌≡◌, ℕ, Bool, true, false, List, None, Some, String}
use Rattle.command_words.specs.Commands.{texts}
use Rattle.command_words.specs.Grammar.{ListenOptions, PlayOptions, Audit, Listen, Live, Play, Soak, command_of, followed, played, played_long}

abbrev pub IsUsage : {Y : Type 0} → List (String Y) → Type 0
IsUsage words = command_of (texts words) ≡ None

-- `play` with no option
abbrev pub IsPlay : {Y : Type 0} → List (String Y) → Type 0
IsPlay words = command_of (texts words) ≡ Some (Play (played false) None)

-- with `--fold` and no other option
abbrev pub IsFold : {Y : Type 0} → List (String Y) → Type 0
IsFold words = command_of (texts words) ≡ Some (Play (played true) None)

-- from the checkpoint at this path, with `--fold` or without
abbrev pub IsResume : {Y : Type 0} → List (String Y) → List ℕ → Bool → Type 0
IsResume words path fold = command_of (texts words) ≡ Some (Play (played fold) (Some path))

-- the same with `--long`
abbrev pub IsLongPlay : {Y : Type 0} → List (String Y) → Type 0
IsLongPlay words = command_of (texts words) ≡ Some (Play (played_long false) None)

abbrev pub IsLongFold : {Y : Type 0} → List (String Y) → Type 0
IsLongFold words = command_of (texts words) ≡ Some (Play (played_long true) None)

abbrev pub IsLongResume : {Y : Type 0} → List (String Y) → List ℕ → Bool → Type 0
IsLongResume words path fold = command_of (texts words) ≡ Some (Play (played_long fold) (Some path))

-- with `--follow`, which implies `--long`, and with `--keep-going` or without
abbrev pub IsFollow : {Y : Type 0} → List (String Y) → Bool → Type 0
IsFollow words keep = command_of (texts words) ≡ Some (Play (followed keep) None)

-- the same from the checkpoint at this path
abbrev pub IsFollowResume : {Y : Type 0} → List (String Y) → List ℕ → Bool → Type 0
IsFollowResume words path keep = command_of (texts words) ≡ Some (Play (followed keep) (Some path))

-- `play` from no checkpoint, whatever its other options
abbrev pub SpellsFreshPlay : {Y : Type 0} → List (String Y) → Type 0
SpellsFreshPlay words = (options : PlayOptions) × (command_of (texts words) ≡ Some (Play options None))

-- `listen`, which hears so
abbrev pub IsListen : {Y : Type 0} → List (String Y) → ListenOptions → Type 0
IsListen words how = command_of (texts words) ≡ Some (Listen how)

-- however it hears
abbrev pub SpellsListen : {Y : Type 0} → List (String Y) → Type 0
SpellsListen words = (how : ListenOptions) × IsListen words how

-- over the files of these paths, with so many cycles, heard from a packet on, and these views
abbrev pub IsLive : {Y : Type 0} → List (String Y) → List (List ℕ) → LivePlan → Type 0
IsLive words paths plan = command_of (texts words) ≡ Some (Live paths plan.cycles plan.join plan.views)

-- of the load with this number
abbrev pub IsSoak : {Y : Type 0} → List (String Y) → ℕ → Type 0
IsSoak words number = command_of (texts words) ≡ Some (Soak number)

-- of the recording at this path, with `--nulls` or without
abbrev pub IsAudit : {Y : Type 0} → List (String Y) → List ℕ → Bool → Type 0
IsAudit words path nulls = command_of (texts words) ≡ Some (Audit path nulls)

-- of a recording, whatever its path
abbrev pub SpellsAudit : {Y : Type 0} → List (String Y) → Type 0
SpellsAudit words = (path : List ℕ) × (nulls : Bool) × IsAudit words path nulls

-- of a load, whatever its number
abbrev pub SpellsSoak : {Y : Type 0} → List (String Y) → Type 0
SpellsSoak words = (number : ℕ) × IsSoak words number
