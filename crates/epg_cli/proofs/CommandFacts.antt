-- The command that the words of a run spell, and the statuses that a command has not.
use Rattle.std.proofs.Common.{◌≡◌, ℕ, Bool, List, refl, subst, inl, inr, ◌⊎◌}
use Rattle.std.specs.Prelude.{Option, Some, None, Result, Err}
use Rattle.headend_live.specs.declared.live.LivePlan.{LivePlan}
use Rattle.si_causes.specs.Causes.{Rose}
use Rattle.command_words.specs.declared.command.WordsStop.{WordsStop}
use Rattle.command_words.specs.declared.command.WordsStop.TheVariants as words
use Rattle.command_words.specs.Grammar.{CommandLine, ListenOptions, PlayOptions, Play, Listen, Live, Soak, Audit}
use Rattle.epg_report.specs.declared.status.Status.{Status}
use Rattle.epg_report.specs.declared.status.Status.TheVariants.{Usage, OpenFault, ReadFault, WriteFault, Memory}
use Rattle.epg_report.specs.declared.status.Origin.TheVariants.{Input, Feed, Recording}
use Rattle.epg_report.specs.declared.status.Outlet.TheVariants.{Air, Report}
use Rattle.epg_listen.specs.Leaves.{IsOfListen}
use Rattle.epg_live.specs.Stops.{HasStatusCause, IsOfLive}
use Rattle.epg_soak.specs.SoakRun.{IsOfSoak}
use Rattle.epg_report.specs.Told.{OpenerAsked}
use Rattle.epg_audit.specs.Finds.{HasMetCause}
use Rattle.epg_audit.specs.Leaves.{IsOfAudit}

-- ---- words spell one command

pub play_listen : (c : Option CommandLine) (options : PlayOptions) (resume : Option (List ℕ)) (how : ListenOptions) → c ≡ Some (Play options resume) → c ≡ Some (Listen how) → ⊥
play_listen c options resume how e f = cc

pub play_live : (c : Option CommandLine) (options : PlayOptions) (resume : Option (List ℕ)) (paths : List (List ℕ)) (plan : LivePlan) → c ≡ Some (Play options resume) → c ≡ Some (Live paths plan.cycles plan.join plan.views) → ⊥
play_live c options resume paths plan e f = cc

pub listen_live : (c : Option CommandLine) (how : ListenOptions) (paths : List (List ℕ)) (plan : LivePlan) → c ≡ Some (Listen how) → c ≡ Some (Live paths plan.cycles plan.join plan.views) → ⊥
listen_live c how paths plan e f = cc

pub some_none : (c : Option CommandLine) (k : CommandLine) → c ≡ Some k → c ≡ None → ⊥
some_none c k e f = cc

pub play_soak : (c : Option CommandLine) (options : PlayOptions) (resume : Option (List ℕ)) (number : ℕ) → c ≡ Some (Play options resume) → c ≡ Some (Soak number) → ⊥
play_soak c options resume number e f = cc

pub listen_soak : (c : Option CommandLine) (how : ListenOptions) (number : ℕ) → c ≡ Some (Listen how) → c ≡ Some (Soak number) → ⊥
listen_soak c how number e f = cc

pub live_soak : (c : Option CommandLine) (paths : List (List ℕ)) (plan : LivePlan) (number : ℕ) → c ≡ Some (Live paths plan.cycles plan.join plan.views) → c ≡ Some (Soak number) → ⊥
live_soak c paths plan number e f = cc

pub play_audit : (c : Option CommandLine) (options : PlayOptions) (resume : Option (List ℕ)) (path : List ℕ) (nulls : Bool) → c ≡ Some (Play options resume) → c ≡ Some (Audit path nulls) → ⊥
play_audit c options resume path nulls e f = cc

pub listen_audit : (c : Option CommandLine) (how : ListenOptions) (path : List ℕ) (nulls : Bool) → c ≡ Some (Listen how) → c ≡ Some (Audit path nulls) → ⊥
listen_audit c how path nulls e f = cc

pub live_audit : (c : Option CommandLine) (paths : List (List ℕ)) (plan : LivePlan) (path : List ℕ) (nulls : Bool) → c ≡ Some (Live paths plan.cycles plan.join plan.views) → c ≡ Some (Audit path nulls) → ⊥
live_audit c paths plan path nulls e f = cc

pub soak_audit : (c : Option CommandLine) (number : ℕ) (path : List ℕ) (nulls : Bool) → c ≡ Some (Soak number) → c ≡ Some (Audit path nulls) → ⊥
soak_audit c number path nulls e f = cc

-- neither `listen` nor `audit`
pub play_sends : (c : Option CommandLine) (options : PlayOptions) (resume : Option (List ℕ)) → c ≡ Some (Play options resume) → ((how : ListenOptions) × (c ≡ Some (Listen how))) ⊎ ((path : List ℕ) × (nulls : Bool) × (c ≡ Some (Audit path nulls))) → ⊥
play_sends c options resume e (inl (how, listen)) = play_listen c options resume how e listen
play_sends c options resume e (inr (path, nulls, audit)) = play_audit c options resume path nulls e audit

pub live_sends : (c : Option CommandLine) (paths : List (List ℕ)) (plan : LivePlan) → c ≡ Some (Live paths plan.cycles plan.join plan.views) → ((how : ListenOptions) × (c ≡ Some (Listen how))) ⊎ ((path : List ℕ) × (nulls : Bool) × (c ≡ Some (Audit path nulls))) → ⊥
live_sends c paths plan e (inl (how, listen)) = listen_live c how paths plan listen e
live_sends c paths plan e (inr (path, nulls, audit)) = live_audit c paths plan path nulls e audit

pub soak_sends : (c : Option CommandLine) (number : ℕ) → c ≡ Some (Soak number) → ((how : ListenOptions) × (c ≡ Some (Listen how))) ⊎ ((path : List ℕ) × (nulls : Bool) × (c ≡ Some (Audit path nulls))) → ⊥
soak_sends c number e (inl (how, listen)) = listen_soak c how number listen e
soak_sends c number e (inr (path, nulls, audit)) = soak_audit c number path nulls e audit

pub none_sends : (c : Option CommandLine) → c ≡ None → ((how : ListenOptions) × (c ≡ Some (Listen how))) ⊎ ((path : List ℕ) × (nulls : Bool) × (c ≡ Some (Audit path nulls))) → ⊥
none_sends c none (inl (how, listen)) = some_none c (Listen how) listen none
none_sends c none (inr (path, nulls, audit)) = some_none c (Audit path nulls) audit none

-- none of those that open no file
pub audit_others : (c : Option CommandLine) (path : List ℕ) (nulls : Bool) → c ≡ Some (Audit path nulls) → ((options : PlayOptions) × (c ≡ Some (Play options None))) ⊎ (((how : ListenOptions) × (c ≡ Some (Listen how))) ⊎ ((number : ℕ) × (c ≡ Some (Soak number)))) → ⊥
audit_others c path nulls e (inl (options, play)) = play_audit c options None path nulls play e
audit_others c path nulls e (inr (inl (how, listen))) = listen_audit c how path nulls listen e
audit_others c path nulls e (inr (inr (number, soak))) = soak_audit c number path nulls soak e

pub audit_is : (P : List ℕ → Bool → Type 0) (c : Option CommandLine) (read path : List ℕ) (said nulls : Bool) → c ≡ Some (Audit read said) → c ≡ Some (Audit path nulls) → P read said → P path nulls
audit_is P c read path said nulls e f p =
    let first : read ≡ path = cc in
    let second : said ≡ nulls = cc in
    subst (P path) second (subst (λ (l : List ℕ). P l said) first p)

pub live_others : (c : Option CommandLine) (paths : List (List ℕ)) (plan : LivePlan) → c ≡ Some (Live paths plan.cycles plan.join plan.views)
    → ((options : PlayOptions) × (c ≡ Some (Play options None))) ⊎ (((how : ListenOptions) × (c ≡ Some (Listen how))) ⊎ ((number : ℕ) × (c ≡ Some (Soak number)))) → ⊥
live_others c paths plan e (inl (options, play)) = play_live c options None paths plan play e
live_others c paths plan e (inr (inl (how, listen))) = listen_live c how paths plan listen e
live_others c paths plan e (inr (inr (number, soak))) = live_soak c paths plan number e soak

-- the words that were read are those that were spelled
pub play_is : (c : Option CommandLine) (read line : CommandLine) → c ≡ Some read → c ≡ Some line → read ≡ line
play_is c read line e f = cc

-- the opener is asked only where a run goes on from a checkpoint
pub play_opens : (P : Type 0) (c : Option CommandLine) (options : PlayOptions) (resume : Option (List ℕ)) → c ≡ Some (Play options resume) → ((o : PlayOptions) → Play options resume ≡ Play o None → P)
    → ((options : PlayOptions) × (c ≡ Some (Play options None))) ⊎ (((how : ListenOptions) × (c ≡ Some (Listen how))) ⊎ ((number : ℕ) × (c ≡ Some (Soak number)))) → P
play_opens P c options resume e kept (inl (o, play)) = kept o (play_is c (Play options resume) (Play o None) e play)
play_opens P c options resume e kept (inr (inl (how, listen))) = absurd (play_listen c options resume how e listen)
play_opens P c options resume e kept (inr (inr (number, soak))) = absurd (play_soak c options resume number e soak)

-- what holds of the words that were read holds of those that were spelled
pub live_is : (P : List (List ℕ) → LivePlan → Type 0) (c : Option CommandLine) (read paths : List (List ℕ)) (said plan : LivePlan) → c ≡ Some (Live read said.cycles said.join said.views) → c ≡ Some (Live paths plan.cycles plan.join plan.views) → P read said → P paths plan
live_is P c read paths said plan e f p =
    let first : read ≡ paths = cc in
    let second : said.cycles ≡ plan.cycles = cc in
    let third : said.join ≡ plan.join = cc in
    let fourth : said.views ≡ plan.views = cc in
    let same : said ≡ plan = rw (second, third, fourth) refl in
    subst (λ (ps : List (List ℕ)). P ps plan) first (subst (P read) same p)

pub listen_is : (P : ListenOptions → Type 0) (c : Option CommandLine) (read how : ListenOptions) → c ≡ Some (Listen read) → c ≡ Some (Listen how) → P read → P how
listen_is P c read how e f p = let same : read ≡ how = cc in subst P same p

pub soak_is : (P : ℕ → Type 0) (c : Option CommandLine) (read number : ℕ) → c ≡ Some (Soak read) → c ≡ Some (Soak number) → P read → P number
soak_is P c read number e f p = let same : read ≡ number = cc in subst P same p

-- ---- statuses that a command has not

pub listen_usage : (s : Status) → IsOfListen s → s ≡ Usage → ⊥
listen_usage s is e = subst IsOfListen e is

pub live_usage : (s : Status) → IsOfLive s → s ≡ Usage → ⊥
live_usage s is e = subst IsOfLive e is

pub listen_open : (s : Status) (f : ℕ) → IsOfListen s → s ≡ OpenFault f → ⊥
listen_open s f is e = subst IsOfListen e is

pub audit_usage : (s : Status) → IsOfAudit s → s ≡ Usage → ⊥
audit_usage s is e = subst IsOfAudit e is

pub soak_usage : (s : Status) → IsOfSoak s → s ≡ Usage → ⊥
soak_usage s is e = subst IsOfSoak e is

pub soak_open : (s : Status) (f : ℕ) → IsOfSoak s → s ≡ OpenFault f → ⊥
soak_open s f is e = subst IsOfSoak e is

pub memory_usage : (s : Status) → s ≡ Memory → s ≡ Usage → ⊥
memory_usage s e f = cc

pub memory_read : {T : Type 0} → (let r : Result T WordsStop = Err words.Memory in r) ≡ Err words.Usage → ⊥
memory_read e = cc

-- ---- each fault has its cause

pub listen_cause : (i j f g a b : ℕ) (s : Status) → IsOfListen s → (s ≡ ReadFault Input → Rose i j) → HasStatusCause i j f g a b s
listen_cause i j f g a b (ReadFault Input) is read = read refl
listen_cause i j f g a b (ReadFault (Feed k)) is read = absurd is
listen_cause i j f g a b (ReadFault Recording) is read = absurd is
listen_cause i j f g a b (WriteFault Air) is read = absurd is
listen_cause i j f g a b (WriteFault Report) is read = tt
listen_cause i j f g a b other is read = tt

pub soak_cause : (i j f g a b : ℕ) (s : Status) → IsOfSoak s → (s ≡ WriteFault Air → Rose a b) → HasStatusCause i j f g a b s
soak_cause i j f g a b (ReadFault Input) is air = absurd is
soak_cause i j f g a b (ReadFault (Feed k)) is air = absurd is
soak_cause i j f g a b (ReadFault Recording) is air = absurd is
soak_cause i j f g a b (WriteFault Air) is air = air refl
soak_cause i j f g a b (WriteFault Report) is air = tt
soak_cause i j f g a b other is air = tt

pub audit_cause : (i j a b : ℕ) (opener : OpenerAsked) (s : Status) → IsOfAudit s → HasMetCause i j opener s → HasStatusCause i j opener.read_old opener.read_new a b s
audit_cause i j a b opener (ReadFault Input) is cause = cause
audit_cause i j a b opener (ReadFault (Feed k)) is cause = absurd is
audit_cause i j a b opener (ReadFault Recording) is cause = cause
audit_cause i j a b opener (WriteFault Air) is cause = absurd is
audit_cause i j a b opener (WriteFault Report) is cause = tt
audit_cause i j a b opener other is cause = tt

pub audit_open : (i j : ℕ) (opener : OpenerAsked) (s : Status) (n : ℕ) → HasMetCause i j opener s → s ≡ OpenFault n → Rose opener.faults_old opener.faults_new
audit_open i j opener s n cause e = subst (HasMetCause i j opener) e cause
