-- What an audit finds, from how it went.
use Rattle.std.proofs.Common.{◌≡◌, ℕ, Bool, List, ◌++◌, refl, sym, ap, ◌∙◌, append_assoc, subst, inl, inr, ◌⊎◌}
use Rattle.std.specs.Prelude.{Option, Some, None, Ok, Err, Result, IfSome, IsSome}
use Rattle.si_lists.proofs.Lists.{all_append, all_behind}
use Rattle.si_causes.specs.Opening.{Files, Tries, file_at}
use Rattle.si_causes.specs.Reading.{Reading, fresh as unread}
use Rattle.si_causes.specs.declared.stop.ReadStop.TheVariants.{Failed, TooLong as Overlong}
use Rattle.input_lines.specs.Ahead.{Came}
use Rattle.input_lines.specs.Reads.{Leaves as LeavesAhead, Passes}
use Rattle.packet_reader.specs.Reading.{PacketReading, bytes_left}
use Rattle.mux_model.specs.declared.mux.Mux.{Mux}
use Rattle.mux_config.specs.Descriptions.{description_ahead}
use Rattle.mux_config.specs.declared.stop.MuxStop.{MuxStop}
use Rattle.mux_config.specs.declared.stop.MuxStop.TheVariants as mux
use Rattle.desk_core.specs.Journal.{journal_of}
use Rattle.desk_core.specs.Desks.{DeskState, fresh}
use Rattle.journal_air.specs.Air.{airings}
use Rattle.version_book.specs.Airings.{AiredTables}
use Rattle.ts_packets.specs.WholePackets.{whole_packets}
use Rattle.air_model.specs.Air.{CanBeSent}
use Rattle.epg_report.specs.declared.status.Status.{Status}
use Rattle.epg_report.specs.declared.status.Status.TheVariants.{BadStream, Done, Memory, NotAir, ReadFault, Short, TooLong as PastLimit}
use Rattle.epg_report.specs.declared.status.Origin.TheVariants.{Recording}
use Rattle.epg_play.specs.declared.stop.PlayStop.{PlayStop}
use Rattle.epg_play.specs.declared.stop.PlayStop.TheVariants.{NoMux as Undescribed, Read, Air as OnAir, Memory as NoMemory}
use Rattle.epg_play.specs.Leaves.{mux_stop, script_status, status_for, whole_journal}
use Rattle.epg_play.specs.Played.{IsItemStop}
use Rattle.epg_play.proofs.CourseFacts.{ended_is}
use Rattle.epg_play.specs.Script.{Script, Stop, no_mux, script_in, script_taken}
use Rattle.epg_play.proofs.RunFacts.{IsPlayed, IsUndescribed, PlayedBy, rest_played, went_played}
use Rattle.epg_audit.specs.declared.cycles.AirCount.{AirCount}
use Rattle.epg_audit.specs.Audits.{AuditDid, CycleStops, EndStops, IsCounted, RecordingAudited, ScriptStops, desk_airings}
use Rattle.journal_model.specs.declared.step.Entry.{Entry}
use Rattle.epg_report.specs.Asked.{AtPath}
use Rattle.epg_report.specs.Told.{OpenerAsked}
use Rattle.epg_audit.specs.Finds.{AskedOnceDescribed, FindsIn, IsAccepted, IsAtFault, IsFound, StopsBehind}
use Rattle.journal_air.specs.Heard.{IsHeardAs}
use Rattle.epg_audit.specs.Recorded.{BeginsWithAir, IsFaulty, IsRecordedAir, airings_for, script_airings, rate_in}
use Rattle.epg_audit.proofs.Airings.{desk_begins_script, desk_is_script, script_heard, script_sent}
use Rattle.air_audit.specs.CycleAirs.{AreAirAt}
use Rattle.air_audit.specs.TimedAirs.{seen}

-- ---- a script that stops

pub some_mux : (o : Option Mux) (mux : Mux) → o ≡ Some mux → IsSome o
some_mux None mux e = cc e
some_mux (Some other) mux e = refl

if_some : (o : Option Mux) (mux : Mux) (Is : Type 0) → o ≡ Some mux → Is → IfSome o (λ m. Is)
if_some None mux Is e is = cc e
if_some (Some other) mux Is e is = is

stops_behind : (path : List ℕ) (nulls : Bool) (files : Files) (opener : OpenerAsked) (script : Script) (status : Status) (mux : Mux) (desk : DeskState) (bytes : List ℕ) → IsPlayed script status mux desk → file_at path files ≡ Some bytes
    → BeginsWithAir desk.mux.rate nulls (desk_airings desk) bytes
    → Tries opener.tried_old opener.tried_new path
    → StopsBehind path nulls files opener script status
stops_behind path nulls files opener script status mux desk bytes p file begins tried = record {
  stopped = p.stopped;
  asked = subst (λ (o : Option Mux). AskedOnceDescribed o path opener) (sym p.described) tried;
  begins = if_some script.mux mux
      (AtPath path files (BeginsWithAir (rate_in script.mux) nulls (script_airings script)))
      p.described
      (record {
        bytes = bytes;
        file = file;
        is = subst (λ (r : Option ℕ). BeginsWithAir r nulls (script_airings script) bytes)
            (ap (λ (d : DeskState). d.mux.rate) p.did ∙ sym (ap rate_in p.described))
            (subst (λ (l : List AiredTables). BeginsWithAir desk.mux.rate nulls l bytes)
            (desk_is_script script status mux desk p) begins);
      });
}

-- a script without a multiplex
undescribed_behind : (path : List ℕ) (nulls : Bool) (files : Files) (opener : OpenerAsked) (script : Script) (stop : Stop) → script ≡ no_mux stop → opener.tried_new ≡ opener.tried_old
    → StopsBehind path nulls files opener script (script_status stop)
undescribed_behind path nulls files opener script stop e same =
    subst (λ (s : Script). StopsBehind path nulls files opener s (script_status stop)) (sym e) (record { stopped = refl; begins = tt; asked = same })

pub mux_found : (path : List ℕ) (nulls : Bool) (files : Files) (opener : OpenerAsked) (text : List ℕ) (left : Option (List ℕ)) (stop : MuxStop) → IsUndescribed text left stop → opener.tried_new ≡ opener.tried_old
    → IsFound path nulls files opener text left (status_for (mux_stop stop))
mux_found path nulls files opener text left (mux.Fault fault) is same = undescribed_behind path nulls files opener (script_in text) _ is same
mux_found path nulls files opener text left (mux.Read Overlong) is same = undescribed_behind path nulls files opener (script_in text) _ is same
mux_found path nulls files opener text left (mux.Read Failed) is same =
    record { taken = is.taken; behind = is.behind; text_is = is.text_is; left_is = is.left_is; stops = undescribed_behind path nulls files opener (script_taken is.taken) _ is.script same }
mux_found path nulls files opener text left mux.Memory is same = tt

script_found : (path : List ℕ) (nulls : Bool) (files : Files) (opener : OpenerAsked) (text bytes : List ℕ) (left : Option (List ℕ)) (mux : Mux) (desk : DeskState) (stop : PlayStop) → PlayedBy text left mux desk (Err stop) → file_at path files ≡ Some bytes
    → BeginsWithAir desk.mux.rate nulls (desk_airings desk) bytes
    → Tries opener.tried_old opener.tried_new path → IsItemStop stop
    → IsFound path nulls files opener text left (status_for stop)
script_found path nulls files opener text bytes left mux desk (Undescribed fault) played file begins tried no_air = absurd no_air
script_found path nulls files opener text bytes left mux desk (Read Failed) played file begins tried no_air =
    record { taken = played.taken; behind = played.behind; text_is = played.text_is; left_is = played.left_is; stops = stops_behind path nulls files opener (script_taken played.taken) _ mux desk bytes played.played file begins tried }
script_found path nulls files opener text bytes left mux desk OnAir played file begins tried no_air = absurd no_air
script_found path nulls files opener text bytes left mux desk NoMemory played file begins tried no_air = tt
script_found path nulls files opener text bytes left mux desk stop played file begins tried no_air = stops_behind path nulls files opener (script_in text) (status_for stop) mux desk bytes played file begins tried

-- ---- a recording that is at fault

recording_found : (path : List ℕ) (nulls : Bool) (files : Files) (opener : OpenerAsked) (text bytes : List ℕ) (left : Option (List ℕ)) (mux : Mux) (status : Status) → (script_in text).mux ≡ Some mux → file_at path files ≡ Some bytes
    → IsAtFault nulls (script_in text) status bytes → IsFound path nulls files opener text left status
recording_found path nulls files opener text bytes left mux (NotAir n rule) e file faulty = record { bytes = bytes; file = file; is = faulty }
recording_found path nulls files opener text bytes left mux (Short n) e file faulty = record { bytes = bytes; file = file; is = faulty }
recording_found path nulls files opener text bytes left mux (BadStream n) e file faulty = record { bytes = bytes; file = file; is = faulty }
recording_found path nulls files opener text bytes left mux (PastLimit Recording) e file faulty = record { bytes = bytes; file = file; is = faulty }
recording_found path nulls files opener text bytes left mux (ReadFault Recording) e file faulty = some_mux (script_in text).mux mux e
recording_found path nulls files opener text bytes left mux other e file faulty = absurd faulty.faulty

-- ---- a recording that was audited

module _ {S F : Type 0} (left : S → Option (List ℕ)) (gives : F → Option (List ℕ)) (source : S) (mid new : Reading S) (start : PacketReading F) (path : List ℕ) (nulls : Bool) (files : Files) (opener : OpenerAsked) (text bytes : List ℕ) (mux : Mux)
    (told : left source ≡ Some text) (ahead : LeavesAhead left description_ahead (Came (Ok mux)) (unread source) mid text) (came : Passes left description_ahead (Came (Ok mux)) (unread source) mid)
    (file : file_at path files ≡ Some bytes) (tells : bytes_left gives start ≡ Some bytes) (tried : Tries opener.tried_old opener.tried_new path) where
  cycle_found : (desk : DeskState) (status : Status) → CycleStops nulls left gives mid new start (fresh mux) desk status → IsFound path nulls files opener text (left new.source) status
  cycle_found desk status c =
      let p = went_played left source mid new text mux desk c.made ahead c.went in
      let more = desk_begins_script (script_in text) mux desk p in
      let sent = subst CanBeSent (script_is mux p.described ∙ more.1) (script_sent text mux p.described) in
      let own : desk.mux.rate ≡ rate_in (script_in text).mux =
      ap (λ (d : DeskState). d.mux.rate) p.did ∙ sym (ap rate_in p.described) in
      let faulty_with = λ (others : List AiredTables) (can : CanBeSent others). subst
      (λ (r : Option ℕ). IsFaulty r nulls (desk_airings desk ++ others) bytes status) own
      (c.faulty bytes tells others can) in
      recording_found path nulls files opener text bytes (left new.source) mux status p.described file
      (record {
        faulty = subst (λ (l : List AiredTables). IsFaulty (rate_in (script_in text).mux) nulls l
            bytes status) (sym more.1) (faulty_with more.0
            (all_behind _ (desk_airings desk) more.0 sent));
        first = inr (λ others can. subst
            (λ (l : List AiredTables). IsFaulty (rate_in (script_in text).mux) nulls l bytes status)
            (sym (append_assoc (desk_airings desk) more.0 others)
            ∙ ap (λ (l : List AiredTables). l ++ others) (sym more.1))
            (faulty_with (more.0 ++ others)
            (all_append _ more.0 others (all_behind _ (desk_airings desk) more.0 sent) can)));
      })
    where
      script_is : (m : Mux) → (script_in text).mux ≡ Some m → airings m (journal_of m (script_in text).commands) ≡ script_airings (script_in text)
      script_is m e = ap (λ (o : Option Mux). airings_for o (whole_journal (record { mux = o; commands = (script_in text).commands; stop = (script_in text).stop }))) (sym e)

  end_found : (desk : DeskState) (status : Status) → EndStops nulls left gives mid new start (fresh mux) desk status → IsFound path nulls files opener text (left new.source) status
  end_found desk status e =
      let p = rest_played left source mid new text mux desk (Ok tt) told ahead came e.ended in
      recording_found path nulls files opener text bytes (left new.source) mux status p.described file
      (record {
        faulty = subst (λ (l : List AiredTables). IsFaulty (rate_in (script_in text).mux) nulls l
            bytes status) (desk_is_script (script_in text) Done mux desk p)
            (subst (λ (r : Option ℕ). IsFaulty r nulls (desk_airings desk) bytes status)
            (ap (λ (d : DeskState). d.mux.rate) p.did ∙ sym (ap rate_in p.described))
            (e.faulty bytes tells));
        first = inl (ended_is _ p.stopped);
      })

  stop_found : (desk : DeskState) (status : Status) → ScriptStops nulls left gives mid new start (fresh mux) desk status → IsFound path nulls files opener text (left new.source) status
  stop_found desk status s =
      subst (IsFound path nulls files opener text (left new.source)) (sym s.is)
      (script_found path nulls files opener text bytes (left new.source) mux desk s.stop (rest_played left source mid new text mux desk (Err s.stop) told ahead came s.stops) file (s.behind bytes tells) tried s.of_script)

  err_found : (desk : DeskState) (status : Status) → AuditDid nulls left gives mid new start (fresh mux) desk (Err status) → IsFound path nulls files opener text (left new.source) status
  err_found desk Memory did = tt
  err_found desk status did = by did
    where
      by : ScriptStops nulls left gives mid new start (fresh mux) desk status ⊎ (CycleStops nulls left gives mid new start (fresh mux) desk status ⊎ EndStops nulls left gives mid new start (fresh mux) desk status)
          → IsFound path nulls files opener text (left new.source) status
      by (inl s) = stop_found desk status s
      by (inr (inl c)) = cycle_found desk status c
      by (inr (inr e)) = end_found desk status e

  accepted : (desk : DeskState) (count : AirCount) → AuditDid nulls left gives mid new start (fresh mux) desk (Ok tt) → ((bs : List ℕ) → bytes_left gives start ≡ Some bs → IsCounted nulls bs (desk_airings desk) count)
      → IsAccepted path nulls files (script_in text) count
  accepted desk count did counts =
      let p = rest_played left source mid new text mux desk (Ok tt) told ahead came did.0 in
      let same : desk_airings desk ≡ airings mux (whole_journal (script_in text)) = desk_is_script (script_in text) Done mux desk p ∙ described p.described in
      let air : IsRecordedAir mux.rate nulls (airings mux (whole_journal (script_in text))) bytes =
      subst (λ (l : List AiredTables). IsRecordedAir mux.rate nulls l bytes) same
      (subst (λ (r : Option ℕ). IsRecordedAir r nulls (desk_airings desk) bytes)
      (ap (λ (d : DeskState). d.mux.rate) p.did) (did.1 bytes tells)) in
      record {
        ended = ended_is _ p.stopped;
        mux = mux;
        described = p.described;
        bytes = bytes;
        file = file;
        air = air;
        heard = subst (λ (j : List Entry). IsHeardAs mux j (seen nulls (whole_packets bytes)))
            (journal_is p.described) (script_heard text mux nulls (seen nulls (whole_packets bytes))
            p.described
            (subst (λ (j : List Entry). AreAirAt mux.rate nulls (airings mux j)
            (seen nulls (whole_packets bytes))) (sym (journal_is p.described)) air.air));
        counts = subst (λ (l : List AiredTables). IsCounted nulls bytes l count) same (counts bytes tells);
      }
    where
      journal_is : (script_in text).mux ≡ Some mux → journal_of mux (script_in text).commands ≡ whole_journal (script_in text)
      journal_is e = ap (λ (o : Option Mux). whole_journal (record { mux = o; commands = (script_in text).commands; stop = (script_in text).stop })) (sym e)

      described : (script_in text).mux ≡ Some mux → script_airings (script_in text) ≡ airings mux (whole_journal (script_in text))
      described e = ap (λ (o : Option Mux). airings_for o (whole_journal (script_in text))) e

  pub audited_finds : (result : Result AirCount Status) → RecordingAudited nulls left gives mid new start mux result → FindsIn path nulls files opener text (left new.source) result
  audited_finds (Ok count) a = accepted a.0 count a.1 a.2
  audited_finds (Err status) a = err_found a.0 status a.1
