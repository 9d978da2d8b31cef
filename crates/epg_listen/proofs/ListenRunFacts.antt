-- A run of `listen`, from what it leaves and how it ended.
use Rattle.std.proofs.Common.{◌≡◌, ◌≤◌, ◌⊎◌, ◌++◌, ◌∙◌, ℕ, List, [], ◌∷◌, true, false, inl, inr, refl, sym, ap, subst, arith, append-nil, append_assoc}
use Rattle.std.specs.Prelude.{Bool, Option, Some, Ok, Err, Result, OnOk, flat_map}
use Rattle.std.proofs.lemmas.List.Concat.{flat_map-append}
use Rattle.std.specs.Io.KnownBytes.{IsAtEnd}
use Rattle.si_causes.specs.Causes.{Rose}
use Rattle.si_causes.proofs.CauseFacts.{Rose-from, Rose-to}
use Rattle.packet_reader.specs.declared.stop.PacketStop.{PacketStop}
use Rattle.packet_reader.specs.declared.stop.PacketStop.TheVariants as packet
use Rattle.packet_reader.specs.Recordings.{RecordingEnd.AtEnd}
use Rattle.packet_finder.specs.Pieces.{Findings, Piece, Piece.Packet, Piece.Junk}
use Rattle.ts_demux.specs.Sections.{ended_by}
use Rattle.sub_collect.specs.KeyCounts.{key_count}
use Rattle.sub_collect.specs.Runs.{Counted}
use Rattle.sub_collect.proofs.KeyCounts.{count-grows}
use Rattle.guide_receiver.specs.Counting.{counted_among}
use Rattle.guide_receiver.specs.Dones.{counted_heard}
use Rattle.guide_receiver.proofs.Shown.{counted-push}
use Rattle.command_words.specs.Grammar.{ListenOptions}
use Rattle.epg_listen.specs.declared.listen.ListenStop.{ListenStop}
use Rattle.epg_listen.specs.declared.listen.ListenStop.TheVariants as stop
use Rattle.epg_report.specs.declared.status.Status.{Status}
use Rattle.epg_report.specs.declared.status.Status.TheVariants.{Done, BadStream, TooLong, ReadFault, WriteFault, Memory, TooMany}
use Rattle.epg_report.specs.declared.status.Origin.TheVariants.{Input}
use Rattle.epg_report.specs.declared.status.Outlet.TheVariants.{Report}
use Rattle.epg_report.specs.Told.{ReportTaken, SourceGave}
use Rattle.epg_listen.specs.Pieces.{pieces_in}
use Rattle.epg_listen.specs.Lines.{History, nothing_heard, after, after_all, counted_in, heard_of}
use Rattle.epg_listen.specs.Leaves.{HasRoom, HearsThrough, IsKeyTooMany, IsOfListen, LeavesHeard, ListenRun, packet_stop_status}
use Rattle.epg_listen.specs.Hearing.{EndsHeard, HasHeard, HasReadCause, HasReportCause}
use Rattle.epg_listen.proofs.ListenFacts.{hears_through, leaves_heard, of_listen}

-- ---- how it ended

not_done : (s : PacketStop) → packet_stop_status s ≡ Done → ⊥
not_done (packet.Broken n) e = cc
not_done packet.TooLong e = cc
not_done packet.Failed e = cc

not_written : (s : PacketStop) → packet_stop_status s ≡ WriteFault Report → ⊥
not_written (packet.Broken n) e = cc
not_written packet.TooLong e = cc
not_written packet.Failed e = cc

at_end : (how : ListenOptions) (strict : Bool) (stands : History → Type 0) (r : Result (Unit {0}) ListenStop) (report : ReportTaken) (status : Status) (P : Type 0) → EndsHeard how strict stands r report status → OnOk r P → status ≡ Done → P
at_end how strict stands (Ok u) report status P ends end e = end
at_end how strict stands (Err (stop.Read s)) report status P (inl memory) end e = cc
at_end how strict stands (Err (stop.Read s)) report status P (inr (is, told)) end e = absurd (not_done s (sym is ∙ e))
at_end how strict stands (Err (stop.TooMany n)) report status P (inl memory) end e = cc
at_end how strict stands (Err (stop.TooMany n)) report status P (inr (is, told)) end e = cc
at_end how strict stands (Err stop.Report) report status P (is, same) end e = cc
at_end how strict stands (Err stop.Memory) report status P is end e = cc

read_rose : (how : ListenOptions) (strict : Bool) (stands : History → Type 0) (r : Result (Unit {0}) ListenStop) (report : ReportTaken) (status : Status) (before now : ℕ) → EndsHeard how strict stands r report status → HasReadCause before now r → status ≡ ReadFault Input → Rose before now
read_rose how strict stands (Ok u) report status before now ends cause e = absurd (subst (EndsHeard how strict stands (Ok u) report) e ends)
read_rose how strict stands (Err (stop.Read (packet.Broken n))) report status before now (inl memory) cause e = cc
read_rose how strict stands (Err (stop.Read (packet.Broken n))) report status before now (inr (is, told)) cause e = cc
read_rose how strict stands (Err (stop.Read packet.TooLong)) report status before now (inl memory) cause e = cc
read_rose how strict stands (Err (stop.Read packet.TooLong)) report status before now (inr (is, told)) cause e = cc
read_rose how strict stands (Err (stop.Read packet.Failed)) report status before now ends cause e = cause
read_rose how strict stands (Err (stop.TooMany n)) report status before now (inl memory) cause e = cc
read_rose how strict stands (Err (stop.TooMany n)) report status before now (inr (is, told)) cause e = cc
read_rose how strict stands (Err stop.Report) report status before now (is, same) cause e = cc
read_rose how strict stands (Err stop.Memory) report status before now is cause e = cc

report_rose : (how : ListenOptions) (strict : Bool) (stands : History → Type 0) (r : Result (Unit {0}) ListenStop) (report : ReportTaken) (status : Status) (before : ℕ) → before ≤ report.faults_old → report.faults_old ≤ report.faults_new
    → EndsHeard how strict stands r report status → HasReportCause before report.faults_old r → status ≡ WriteFault Report → Rose before report.faults_new
report_rose how strict stands (Ok u) report status before le later ends cause e = Rose-from before report.faults_old report.faults_new le (subst (EndsHeard how strict stands (Ok u) report) e ends).1
report_rose how strict stands (Err (stop.Read s)) report status before le later (inl memory) cause e = cc
report_rose how strict stands (Err (stop.Read s)) report status before le later (inr (is, told)) cause e = absurd (not_written s (sym is ∙ e))
report_rose how strict stands (Err (stop.TooMany n)) report status before le later (inl memory) cause e = cc
report_rose how strict stands (Err (stop.TooMany n)) report status before le later (inr (is, told)) cause e = cc
report_rose how strict stands (Err stop.Report) report status before le later ends cause e = Rose-to before report.faults_old report.faults_new le cause later
report_rose how strict stands (Err stop.Memory) report status before le later is cause e = cc

-- ---- a recording that is whole

-- a piece more brings no fewer keys
more_counted : (strict : Bool) (h : History) (p : Piece) → (more : List Counted) × (counted_in (after strict h p) ≡ counted_in h ++ more)
more_counted strict h (Packet p) =
    (counted_among (ended_by h.past p), ap (λ (l : List Counted). flat_map counted_heard h.earlier ++ l) (counted-push h.past p) ∙ sym (append_assoc (flat_map counted_heard h.earlier) (counted_heard h.past) (counted_among (ended_by h.past p))))
more_counted false h (Junk count) = ([], sym (append-nil (counted_in h)))
more_counted true h (Junk count) =
    ([], append-nil (flat_map counted_heard (h.earlier ++ h.past ∷ [])) ∙ flat_map-append counted_heard h.earlier (h.past ∷ []) ∙ ap (λ (l : List Counted). flat_map counted_heard h.earlier ++ l) (append-nil (counted_heard h.past)) ∙ sym (append-nil (counted_in h)))

keys_grow : (strict : Bool) (h : History) (pieces : List Piece) → key_count (counted_in h) ≤ key_count (counted_in (after_all strict h pieces))
keys_grow strict h [] = omega arith
keys_grow strict h (p ∷ pieces) =
    let more = more_counted strict h p in
    let one = count-grows (counted_in h) more.0 in
    let same = ap key_count more.1 in
    let rest = keys_grow strict (after strict h p) pieces in
    omega (arith, one, same, rest)

all_append : (strict : Bool) (h : History) (xs ys : List Piece) → after_all strict h (xs ++ ys) ≡ after_all strict (after_all strict h xs) ys
all_append strict h [] ys = refl
all_append strict h (x ∷ xs) ys = all_append strict (after strict h x) xs ys

never_too_many : (strict : Bool) (pieces : List Piece) (n : ℕ) → IsKeyTooMany strict pieces n → HasRoom strict pieces → Prim.⊥
never_too_many strict pieces n is few =
    let front = is.front ++ Packet is.packet ∷ [] in
    let all : heard_of strict pieces ≡ after_all strict (heard_of strict front) is.rest =
    ap (heard_of strict) (is.pieces_are ∙ sym (append_assoc is.front (Packet is.packet ∷ []) is.rest)) ∙ all_append strict nothing_heard front is.rest in
    let same = ap (λ (h : History). key_count (counted_in h)) all in
    let grows = keys_grow strict (heard_of strict front) is.rest in
    let many = is.many in
    omega (arith, grows, same, many, few)

heard_whole : (strict : Bool) (recording : Findings) (status : Status) → HearsThrough strict recording status → recording.1 ≡ AtEnd → HasRoom strict recording.0 → (status ≡ Done) ⊎ (status ≡ Memory)
heard_whole strict recording Done through end few = inl refl
heard_whole strict recording Memory through end few = inr refl
heard_whole strict recording (BadStream n) through end few = let both = sym end ∙ through.0 in cc
heard_whole strict recording (TooMany n) through end few = absurd (never_too_many strict recording.0 n through few)
heard_whole strict recording (TooLong Input) through end few = let both = sym end ∙ through.0 in cc
heard_whole strict recording other through end few = absurd through

-- ---- the run

pub listen_run : (how : ListenOptions) (input : SourceGave) (report : ReportTaken) (status : Status) → ((bytes : List ℕ) → input.old ≡ Some bytes → LeavesHeard how bytes input.new report status) → IsOfListen status → (status ≡ Done → IsAtEnd input.new)
    → (status ≡ ReadFault Input → Rose input.faults_old input.faults_new) → (status ≡ WriteFault Report → Rose report.faults_old report.faults_new) → ListenRun how input report status
listen_run how input report status leaves known end read_rose report_rose = record {
  leaves = leaves;
  completes = λ bytes tells no_read no_report. hears_through how bytes input.new report status (leaves bytes tells) (λ e. no_read (read_rose e)) (λ e. no_report (report_rose e));
  whole = λ bytes tells ended few no_read no_report.
      heard_whole how.strict (pieces_in how.resync bytes) status (hears_through how bytes input.new report status (leaves bytes tells) (λ e. no_read (read_rose e)) (λ e. no_report (report_rose e))) ended few;
  known = known;
  end = end;
  input_cause = read_rose;
  report_cause = report_rose;
}

-- where memory was wanting
pub listen_memory : (how : ListenOptions) (input : SourceGave) (report : ReportTaken) (status : Status) → status ≡ Memory → ListenRun how input report status
listen_memory how input report status e =
    listen_run how input report status (λ bytes tells. subst (λ (s : Status). LeavesHeard how bytes input.new report s) (sym e) tt) (subst IsOfListen (sym e) tt)
    (λ h. absurd (no_end h)) (λ h. absurd (no_read h)) (λ h. absurd (no_report h))
  where
    no_end : status ≡ Done → ⊥
    no_end h = cc

    no_read : status ≡ ReadFault Input → ⊥
    no_read h = cc

    no_report : status ≡ WriteFault Report → ⊥
    no_report h = cc

-- A run that heard its recording as far as this (`r`), and then ended its report.
pub heard_run : (how : ListenOptions) (input : SourceGave) (old mid new : Option (List ℕ)) (f g h : ℕ) (stands : History → Type 0) (r : Result (Unit {0}) ListenStop) (status : Status)
    → ((bytes : List ℕ) → input.old ≡ Some bytes → HasHeard how.resync how.strict bytes input.new stands old mid r) → OnOk r (IsAtEnd input.new) → HasReadCause input.faults_old input.faults_new r → HasReportCause f g r → f ≤ g → g ≤ h
    → EndsHeard how how.strict stands r (record { old = mid; new = new; faults_old = g; faults_new = h }) status → ListenRun how input (record { old = old; new = new; faults_old = f; faults_new = h }) status
heard_run how input old mid new f g h stands r status heard end read_cause report_cause le later ends =
    let report : ReportTaken = record { old = old; new = new; faults_old = f; faults_new = h } in
    let last : ReportTaken = record { old = mid; new = new; faults_old = g; faults_new = h } in
    listen_run how input report status
    (λ bytes tells. leaves_heard how r bytes input.new stands old mid new f g h status le (heard bytes tells) ends)
    (of_listen how how.strict stands r last status ends)
    (at_end how how.strict stands r last status (IsAtEnd input.new) ends end)
    (read_rose how how.strict stands r last status input.faults_old input.faults_new ends read_cause)
    (report_rose how how.strict stands r last status f le later ends report_cause)
