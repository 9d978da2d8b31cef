-- Pieces of a recording, one after another, and what is reported of them.
use Rattle.std.proofs.Common.{◌≡◌, ℕ, ◌≤◌, List, [], ◌∷◌, ◌++◌, length, refl, sym, ap, ◌∙◌, subst, append_assoc, inl, inr}
use Rattle.std.specs.Prelude.{Bool, Option, Ok, Err, Result}
use Rattle.std.specs.Io.KnownBytes.{Appends}
use Rattle.std.proofs.KnownBytes.{Appends-trans}
use Rattle.si_causes.proofs.CauseFacts.{Rose-from, front_behind}
use Rattle.si_causes.specs.Causes.{AppendsFront}
use Rattle.packet_reader.specs.Recordings.{RecordingEnd.AtEnd}
use Rattle.packet_reader.specs.declared.stop.PacketStop.{PacketStop}
use Rattle.packet_reader.specs.declared.stop.PacketStop.TheVariants as packet
use Rattle.packet_finder.specs.Pieces.{Findings, Piece, Piece.Packet}
use Rattle.packet_finder.specs.Laws.{packets_of}
use Rattle.packet_finder.specs.Finding.{piece_of}
use Rattle.packet_finder.specs.declared.found.Found.{Found}
use Rattle.packet_finder.specs.declared.found.Found.TheVariants as was
use Rattle.sub_collect.specs.KeyCounts.{HaveTooManyKeys}
use Rattle.command_words.specs.Grammar.{ListenOptions}
use Rattle.epg_listen.specs.declared.listen.ListenStop.{ListenStop}
use Rattle.epg_listen.specs.declared.listen.ListenStop.TheVariants as stop
use Rattle.epg_report.specs.declared.status.Status.{Status}
use Rattle.epg_report.specs.declared.status.Status.TheVariants.{Done, BadStream, TooLong, ReadFault, WriteFault, Memory, TooMany}
use Rattle.epg_report.specs.declared.status.Origin.TheVariants.{Input, Feed}
use Rattle.epg_report.specs.declared.status.Origin.TheVariants as origin
use Rattle.epg_report.specs.declared.status.Outlet.TheVariants.{Air, Report}
use Rattle.epg_report.specs.Texts.{fault_line, fault_text}
use Rattle.epg_report.specs.Told.{ReportTaken, Reported}
use Rattle.epg_listen.specs.Pieces.{pieces_in, pieces_taken}
use Rattle.epg_listen.specs.Lines.{History, after, counted_in, heard_of, piece_lines, heard_text, heard_guide}
use Rattle.epg_listen.proofs.LineFacts.{heard_push, text_push}
use Rattle.epg_listen.specs.Leaves.{packet_stop_text, packet_stop_status, HasRoom, WereTaken, LeavesHeard, IsOfListen, HearsThrough}
use Rattle.epg_listen.specs.Giving.{Gives, IsNumbered}
use Rattle.epg_listen.specs.Hearing.{HasHeard, ReportsLines, EndsHeard, HasReadCause, IsNoReadStop, IsTooManyAt}

-- ---- pieces

-- one piece more was reported
pub reported_more : (strict : Bool) (heard : List Piece) (p : Piece) (a b c : Option (List ℕ)) → Appends a b (heard_text strict heard)
    → Appends b c (piece_lines strict (length (packets_of heard)) (heard_of strict heard) p) → Appends a c (heard_text strict (heard ++ p ∷ []))
reported_more strict heard p a b c done more =
    subst (Appends a c) (sym (text_push strict heard p))
    (Appends-trans a b c (heard_text strict heard) (piece_lines strict (length (packets_of heard)) (heard_of strict heard) p) done more)

-- and what hears stands for one more
pub stands_more : (strict : Bool) (stands : History → Type 0) (heard : List Piece) (p : Piece) → stands (after strict (heard_of strict heard) p) → stands (heard_of strict (heard ++ p ∷ []))
stands_more strict stands heard p is = subst stands (sym (heard_push strict heard p)) is

text_is : (strict : Bool) (old new : Option (List ℕ)) (xs ys : List Piece) → xs ≡ ys → Appends old new (heard_text strict ys) → Appends old new (heard_text strict xs)
text_is strict old new xs ys e done = subst (λ (l : List Piece). Appends old new (heard_text strict l)) (sym e) done

room_is : (strict : Bool) (xs ys : List Piece) → xs ≡ ys → HasRoom strict ys → HasRoom strict xs
room_is strict xs ys e few = subst (λ (l : List Piece). HasRoom strict l) (sym e) few

pub heard_end : (resync strict : Bool) (bytes : List ℕ) (left : Option (List ℕ)) (heard : List Piece) (stands : History → Type 0) (old new : Option (List ℕ))
    → pieces_in resync bytes ≡ (heard, AtEnd) → Appends old new (heard_text strict heard) → stands (heard_of strict heard) → HasRoom strict heard → HasHeard resync strict bytes left stands old new (Ok tt)
heard_end resync strict bytes left heard stands old new e done is few =
    let pieces = ap (λ (f : Findings). f.0) e in (
      ap (λ (f : Findings). f.1) e,
      text_is strict old new (pieces_in resync bytes).0 heard pieces done,
      subst (λ (l : List Piece). stands (heard_of strict l)) (sym pieces) is,
      room_is strict (pieces_in resync bytes).0 heard pieces few,
    )

pub heard_stop : (resync strict : Bool) (s : PacketStop) (bytes : List ℕ) (left : Option (List ℕ)) (gave : List Piece → Type 0) (given : List ℕ) (heard : List Piece) (stands : History → Type 0) (old new : Option (List ℕ))
    → Gives resync bytes left gave given heard (Err s) → Appends old new (heard_text strict heard) → HasRoom strict heard → HasHeard resync strict bytes left stands old new (Err (stop.Read s))
heard_stop resync strict (packet.Broken n) bytes left gave given heard stands old new (e, number) done few =
    let pieces = ap (λ (f : Findings). f.0) e in (
      ap (λ (f : Findings). f.1) e,
      number ∙ ap (λ (l : List Piece). length (packets_of l)) (sym pieces),
      text_is strict old new (pieces_in resync bytes).0 heard pieces done,
      room_is strict (pieces_in resync bytes).0 heard pieces few,
    )
heard_stop resync strict packet.TooLong bytes left gave given heard stands old new e done few =
    let pieces = ap (λ (f : Findings). f.0) e in
    (ap (λ (f : Findings). f.1) e, text_is strict old new (pieces_in resync bytes).0 heard pieces done, room_is strict (pieces_in resync bytes).0 heard pieces few)
heard_stop resync strict packet.Failed bytes left gave given heard stands old new (taken, is, e) done few =
    (taken, is, text_is strict old new (pieces_taken resync taken) heard e done, room_is strict (pieces_taken resync taken) heard e few)

-- the lines of a piece were not all written, or there was no memory for them, or none came, for it brings a key too many
pub heard_line : (resync strict : Bool) (s : ListenStop) (bytes : List ℕ) (left : Option (List ℕ)) (stands : History → Type 0) (heard : List Piece) (p : List ℕ) (found : Found) (a b c : Option (List ℕ))
    → WereTaken resync bytes left (heard ++ piece_of p found ∷ []) → IsNumbered heard found → Appends a b (heard_text strict heard)
    → ReportsLines b c (piece_lines strict (length (packets_of heard)) (heard_of strict heard) (piece_of p found)) (Err s) → HasRoom strict heard
    → IsTooManyAt found (after strict (heard_of strict heard) (piece_of p found)) (Err s) → HasHeard resync strict bytes left stands a c (Err s)
heard_line resync strict (stop.Read s) bytes left stands heard p found a b c came number done reports few many = absurd reports
heard_line resync strict (stop.TooMany k) bytes left stands heard p (was.Junk count) a b c came number done reports few many = absurd many
heard_line resync strict (stop.TooMany k) bytes left stands heard p (was.Packet n) a b c came number done reports few many = (
  record {
    front = heard;
    packet = p;
    rest = came.rest;
    pieces_are = came.pieces_are ∙ append_assoc heard (Packet p ∷ []) came.rest;
    number = many.0 ∙ number;
    few = few;
    many = subst (λ (h : History). HaveTooManyKeys (counted_in h)) (sym (heard_push strict heard (Packet p))) many.1;
  },
  subst (λ (w : Option (List ℕ)). Appends a w (heard_text strict heard)) reports done,
)
heard_line resync strict stop.Memory bytes left stands heard p found a b c came number done reports few many = tt
heard_line resync strict stop.Report bytes left stands heard p found a b c came number done reports few many = (
  heard ++ piece_of p found ∷ [],
  came,
  subst (AppendsFront a c) (sym (text_push strict heard (piece_of p found)))
      (front_behind a b c (heard_text strict heard) (piece_lines strict (length (packets_of heard)) (heard_of strict heard) (piece_of p found)) done reports),
)

-- ---- the run is over

-- the guide was reported by a text that is the guide's, or a proper front of it
pub guide_told : (how : ListenOptions) (strict : Bool) (h : History) (old new : Option (List ℕ)) (text : List ℕ) → text ≡ heard_guide how strict h → Appends old new text → Appends old new (heard_guide how strict h)
guide_told how strict h old new text e told = subst (Appends old new) e told

pub guide_front : (how : ListenOptions) (strict : Bool) (h : History) (old new : Option (List ℕ)) (text : List ℕ) → text ≡ heard_guide how strict h → AppendsFront old new text → AppendsFront old new (heard_guide how strict h)
guide_front how strict h old new text e told = subst (AppendsFront old new) e told

-- what is reported behind something that was written
behind : (a b c : Option (List ℕ)) (f g h : ℕ) (xs ys : List ℕ) → f ≤ g → Appends a b xs → Reported (record { old = b; new = c; faults_old = g; faults_new = h }) ys
    → Reported (record { old = a; new = c; faults_old = f; faults_new = h }) (xs ++ ys)
behind a b c f g h xs ys le done (inl all) = inl (Appends-trans a b c xs ys done all)
behind a b c f g h xs ys le done (inr (rose, front)) = inr (Rose-from f g h le rose, front_behind a b c xs ys done front)

pub leaves_heard : (how : ListenOptions) (heard : Result (Unit {0}) ListenStop) (bytes : List ℕ) (left : Option (List ℕ)) (stands : History → Type 0) (old mid new : Option (List ℕ)) (f g h : ℕ) (status : Status) → f ≤ g → HasHeard how.resync how.strict bytes left stands old mid heard
    → EndsHeard how how.strict stands heard (record { old = mid; new = new; faults_old = g; faults_new = h }) status → LeavesHeard how bytes left (record { old = old; new = new; faults_old = f; faults_new = h }) status
leaves_heard how (Ok u) bytes left stands old mid new f g h Done le (ended, done, is, few) ends =
    let pieces = (pieces_in how.resync bytes).0 in
    record { ended = ended; few = few; report_is = Appends-trans old mid new (heard_text how.strict pieces) (heard_guide how how.strict (heard_of how.strict pieces)) done (ends (heard_of how.strict pieces) is) }
leaves_heard how (Ok u) bytes left stands old mid new f g h (WriteFault Report) le (ended, done, is, few) ends =
    let pieces = (pieces_in how.resync bytes).0 in
    inr (ended, front_behind old mid new (heard_text how.strict pieces) (heard_guide how how.strict (heard_of how.strict pieces)) done (ends.0 (heard_of how.strict pieces) is))
leaves_heard how (Ok u) bytes left stands old mid new f g h Memory le has ends = tt
leaves_heard how (Ok u) bytes left stands old mid new f g h other le has ends = absurd ends
leaves_heard how (Err stop.Memory) bytes left stands old mid new f g h status le has ends = subst (LeavesHeard how bytes left (record { old = old; new = new; faults_old = f; faults_new = h })) (sym ends) tt
leaves_heard how (Err stop.Report) bytes left stands old mid new f g h status le has ends =
    let told : ReportTaken = record { old = old; new = new; faults_old = f; faults_new = h } in
    subst (LeavesHeard how bytes left told) (sym ends.0) (inl (has.0, has.1, subst (λ (w : Option (List ℕ)). AppendsFront old w (heard_text how.strict has.0)) ends.1 has.2))
leaves_heard how (Err (stop.Read s)) bytes left stands old mid new f g h status le has (inl memory) = subst (LeavesHeard how bytes left (record { old = old; new = new; faults_old = f; faults_new = h })) (sym memory) tt
leaves_heard how (Err (stop.Read (packet.Broken n))) bytes left stands old mid new f g h status le has (inr (is, reported)) =
    subst (LeavesHeard how bytes left (record { old = old; new = new; faults_old = f; faults_new = h })) (sym is) (has.0, has.1, record { few = has.3; report_is = behind old mid new f g h (heard_text how.strict (pieces_in how.resync bytes).0) (fault_line (packet_stop_text (packet.Broken n))) le has.2 reported })
leaves_heard how (Err (stop.Read packet.TooLong)) bytes left stands old mid new f g h status le has (inr (is, reported)) =
    subst (LeavesHeard how bytes left (record { old = old; new = new; faults_old = f; faults_new = h })) (sym is) (has.0, record { few = has.2; report_is = behind old mid new f g h (heard_text how.strict (pieces_in how.resync bytes).0) (fault_line (packet_stop_text packet.TooLong)) le has.1 reported })
leaves_heard how (Err (stop.Read packet.Failed)) bytes left stands old mid new f g h status le has (inr (is, reported)) =
    subst (LeavesHeard how bytes left (record { old = old; new = new; faults_old = f; faults_new = h })) (sym is) (record { taken = has.0; is_taken = has.1; few = has.3; report_is = behind old mid new f g h (heard_text how.strict (pieces_taken how.resync has.0)) (fault_line (packet_stop_text packet.Failed)) le has.2 reported })
leaves_heard how (Err (stop.TooMany n)) bytes left stands old mid new f g h status le has (inl memory) = subst (LeavesHeard how bytes left (record { old = old; new = new; faults_old = f; faults_new = h })) (sym memory) tt
leaves_heard how (Err (stop.TooMany n)) bytes left stands old mid new f g h status le has (inr (is, reported)) =
    subst (LeavesHeard how bytes left (record { old = old; new = new; faults_old = f; faults_new = h })) (sym is)
    (record { first = has.0; report_is = behind old mid new f g h (heard_text how.strict has.0.front) (fault_line (fault_text (TooMany n))) le has.1 reported })

-- where nothing fails, the end of the recording decides
pub hears_through : (how : ListenOptions) (bytes : List ℕ) (left : Option (List ℕ)) (report : ReportTaken) (status : Status) → LeavesHeard how bytes left report status → (status ≡ ReadFault Input → ⊥) → (status ≡ WriteFault Report → ⊥) → HearsThrough how.strict (pieces_in how.resync bytes) status
hears_through how bytes left report Done leave r w = (leave.ended, leave.few)
hears_through how bytes left report (BadStream n) leave r w = (leave.0, leave.1, leave.2.few)
hears_through how bytes left report (TooMany n) leave r w = leave.first
hears_through how bytes left report (TooLong Input) leave r w = (leave.0, leave.1.few)
hears_through how bytes left report (TooLong (Feed f)) leave r w = absurd leave
hears_through how bytes left report (TooLong origin.Recording) leave r w = absurd leave
hears_through how bytes left report (ReadFault Input) leave r w = absurd (r refl)
hears_through how bytes left report (ReadFault (Feed f)) leave r w = absurd leave
hears_through how bytes left report (ReadFault origin.Recording) leave r w = absurd leave
hears_through how bytes left report (WriteFault Report) leave r w = absurd (w refl)
hears_through how bytes left report (WriteFault Air) leave r w = absurd leave
hears_through how bytes left report Memory leave r w = tt
hears_through how bytes left report other leave r w = absurd leave

pub no_read_cause : (before now : ℕ) (s : ListenStop) → IsNoReadStop (let r : Result (Unit {0}) ListenStop = Err s in r) → HasReadCause before now (Err s)
no_read_cause before now (stop.Read s) none = absurd none
no_read_cause before now (stop.TooMany n) none = tt
no_read_cause before now stop.Report none = tt
no_read_cause before now stop.Memory none = tt

-- a run of `listen` has no other status
stop_of_listen : (s : PacketStop) → IsOfListen (packet_stop_status s)
stop_of_listen (packet.Broken n) = tt
stop_of_listen other = tt

pub of_listen : (how : ListenOptions) (strict : Bool) (stands : History → Type 0) (heard : Result (Unit {0}) ListenStop) (t : ReportTaken) (status : Status) → EndsHeard how strict stands heard t status → IsOfListen status
of_listen how strict stands (Ok u) t Done ends = tt
of_listen how strict stands (Ok u) t (WriteFault Report) ends = tt
of_listen how strict stands (Ok u) t Memory ends = tt
of_listen how strict stands (Ok u) t other ends = absurd ends
of_listen how strict stands (Err stop.Report) t status ends = subst IsOfListen (sym ends.0) tt
of_listen how strict stands (Err stop.Memory) t status ends = subst IsOfListen (sym ends) tt
of_listen how strict stands (Err (stop.TooMany n)) t status (inl memory) = subst IsOfListen (sym memory) tt
of_listen how strict stands (Err (stop.TooMany n)) t status (inr (is, reported)) = subst IsOfListen (sym is) tt
of_listen how strict stands (Err (stop.Read s)) t status (inl memory) = subst IsOfListen (sym memory) tt
of_listen how strict stands (Err (stop.Read s)) t status (inr (is, reported)) = subst IsOfListen (sym is) (stop_of_listen s)
