-- What the commands of a script put on air, and what the first of them do.
use Rattle.std.proofs.Common.{◌≡◌, Bool, ℕ, ◌+◌, List, [], ◌∷◌, ◌++◌, length, sym, ap, ◌∙◌, subst, append-nil, append_assoc}
use Rattle.std.specs.Prelude.{Option, Some}
use Rattle.si_causes.specs.Text.{text_lines}
use Rattle.input_lines.specs.Ahead.{tail_of}
use Rattle.version_book.specs.Airings.{AiredTables}
use Rattle.air_model.specs.Air.{CanBeSent}
use Rattle.air_laws.proofs.HearingTold.{sent_of}
use Rattle.mux_model.specs.declared.mux.Mux.{Mux}
use Rattle.journal_model.specs.Steps.{Command}
use Rattle.desk_core.specs.Journal.{entry_after, journal_of}
use Rattle.desk_core.specs.Desks.{DeskState}
use Rattle.desk_core.proofs.JournalFacts.{journal_legal, journal_more}
use Rattle.journal_air.specs.Air.{airings, airings_by}
use Rattle.journal_air.proofs.CarryFacts.{airings_heard}
use Rattle.journal_air.specs.JournalScreenShown.{IsAsRead}
use Rattle.journal_air.specs.Heard.{IsHeardAs}
use Rattle.journal_air.proofs.Heard.{airs_heard}
use Rattle.journal_air.proofs.SwapFacts.{airings-push}
use Rattle.epg_report.specs.declared.status.Status.{Status}
use Rattle.epg_play.specs.Script.{Script, script_in}
use Rattle.epg_play.specs.Leaves.{whole_journal}
use Rattle.epg_play.proofs.RunFacts.{IsPlayed, IsPlayedTo}
use Rattle.epg_play.proofs.SentFacts.{script_as_read}
use Rattle.epg_audit.specs.Audits.{desk_airings}
use Rattle.epg_audit.specs.Recorded.{airings_for, script_airings}
use Rattle.air_audit.specs.CycleAirs.{AreAirAt}
use Rattle.journal_air.proofs.Spaced.{airings_timed}
use Rattle.epg_audit.proofs.Plain.{heard_in}

-- ---- the first commands

front_airings : (mux : Mux) (done others : List Command) → (more : List AiredTables) × (airings mux (journal_of mux (done ++ others)) ≡ airings mux (journal_of mux done) ++ more)
front_airings mux done [] = ([], ap (λ (l : List Command). airings mux (journal_of mux l)) (append-nil done) ∙ sym (append-nil (airings mux (journal_of mux done))))
front_airings mux done (c ∷ others) =
    let rest = front_airings mux (done ++ c ∷ []) others in
    let before = journal_of mux done in
    let e = entry_after mux before c in
    let tail = airings_by mux (before ++ e ∷ []) (e ∷ []) in
    let one : airings mux (journal_of mux (done ++ c ∷ [])) ≡ airings mux before ++ tail = ap (airings mux) (journal_more mux [] done (c ∷ [])) ∙ airings-push mux before e (journal_legal mux [] done) in (
      tail ++ rest.0,
      ap (λ (l : List Command). airings mux (journal_of mux l)) (sym (append_assoc done (c ∷ []) others)) ∙ rest.1
          ∙ ap (λ (l : List AiredTables). l ++ rest.0) one ∙ append_assoc (airings mux before) tail rest.0,
    )

-- what is on air where all commands of a script were done
pub desk_is_script : (script : Script) (status : Status) (mux : Mux) (desk : DeskState) → IsPlayed script status mux desk → desk_airings desk ≡ script_airings script
desk_is_script script status mux desk p =
    ap desk_airings p.did ∙ ap (λ (o : Option Mux). airings_for o (whole_journal (record { mux = o; commands = script.commands; stop = script.stop }))) (sym p.described)

-- and where the first were
pub desk_begins_script : (script : Script) (mux : Mux) (desk : DeskState) → IsPlayedTo script mux desk → (more : List AiredTables) × (script_airings script ≡ desk_airings desk ++ more)
desk_begins_script script mux desk p =
    let front = front_airings mux p.done p.others in (
      front.0,
      ap (λ (o : Option Mux). airings_for o (whole_journal (record { mux = o; commands = script.commands; stop = script.stop }))) p.described
          ∙ ap (λ (l : List Command). airings mux (journal_of mux l)) p.commands_are ∙ front.1 ∙ ap (λ (d : DeskState). desk_airings d ++ front.0) (sym p.did),
    )

-- ---- what a script puts on air can be sent

script_read : (text : List ℕ) (mux : Mux) → (script_in text).mux ≡ Some mux → IsAsRead mux (journal_of mux (script_in text).commands)
script_read text mux e = (let lines = text_lines text in script_as_read lines.0 (tail_of (1 + length lines.0) lines.1) mux e)

pub script_sent : (text : List ℕ) (mux : Mux) → (script_in text).mux ≡ Some mux → CanBeSent (airings mux (journal_of mux (script_in text).commands))
script_sent text mux e =
    let read = script_read text mux e in
    let journal = journal_of mux (script_in text).commands in
    sent_of (airings mux journal) (airings_heard mux journal read.sound read.edits (journal_legal mux [] (script_in text).commands))

-- ---- how an air of it is heard

pub script_heard : (text : List ℕ) (mux : Mux) (nulls : Bool) (packets : List (List ℕ))
    → (script_in text).mux ≡ Some mux
    → AreAirAt mux.rate nulls (airings mux (journal_of mux (script_in text).commands)) packets
    → IsHeardAs mux (journal_of mux (script_in text).commands) packets
script_heard text mux nulls packets e is =
    let journal = journal_of mux (script_in text).commands in
    let read = script_read text mux e in
    let legal = journal_legal mux [] (script_in text).commands in
    let (xs, air_is, are) =
    heard_in mux.rate nulls (airings mux journal) packets (airings_timed mux journal read legal) is
    in
    subst (IsHeardAs mux journal) are (airs_heard mux journal xs read legal air_is)
