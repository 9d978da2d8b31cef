-- Following goes on line by line.
use Rattle.std.proofs.Common.{◌≡◌, ℕ, Bool, true, false, List, [], ◌∷◌, ◌++◌, take, refl, sym, ap, ◌∙◌, subst, append-nil, append_assoc, inl, inr, ◌⊎◌}
use Rattle.std.specs.Prelude.{Option, Some, None, is_some, Err}
use Rattle.std.specs.Io.KnownBytes.{Appends}
use Rattle.std.proofs.KnownBytes.{Appends-trans}
use Rattle.si_causes.proofs.CauseFacts.{Appends-nothing}
use Rattle.si_causes.specs.declared.stop.ReadStop.TheVariants.{Failed}
use Rattle.si_causes.specs.Reading.{Reading, text_left}
use Rattle.input_lines.proofs.Steps.{handed_none, handed_more, whole_more}
use Rattle.input_lines.specs.Ahead.{Ahead, Breaks, Came, Stopped, ahead}
use Rattle.input_lines.specs.Ahead as reading
use Rattle.input_lines.specs.Reads.{Faulted, ahead_with}
use Rattle.mux_model.specs.declared.mux.Mux.{Mux}
use Rattle.journal_model.specs.declared.step.Outcome.{Outcome}
use Rattle.journal_model.specs.declared.step.Entry.{Entry}
use Rattle.desk_core.specs.Journal.{journal_after}
use Rattle.desk_core.specs.Lean.{StandsFor}
use Rattle.journal_model.specs.Raising.{all_raised}
use Rattle.epg_report.specs.Told.{ReportTaken}
use Rattle.cycle_player.specs.Sending.{Sending}
use Rattle.journal_air.specs.OnAir.{HasAired, IsPlayerOf}
use Rattle.journal_air.specs.Tallied.{HasTallied}
use Rattle.epg_play.proofs.GoingOn.{desk_with}
use Rattle.epg_play.specs.Script.{Stop, Unread, stop_of}
use Rattle.script_notes.specs.Pieces.{Piece, entries_in, piece_text, pieces_text}
use Rattle.script_notes.specs.declared.noting.Noting.{Noting}
use Rattle.script_notes.specs.declared.noting.Held.{Held}
use Rattle.script_notes.specs.declared.noting.Held.TheVariants.{Nothing}
use Rattle.script_notes.specs.Notings.{first_noting}
use Rattle.script_notes.specs.Held.{MayBeAhead, ahead_held, first_held, with_held}
use Rattle.epg_follow.specs.declared.follower.Follower.{Follower}
use Rattle.epg_follow.specs.declared.stop.FollowStop.TheVariants.{Air, Memory, Read, Report}
use Rattle.epg_follow.specs.Course.{Addition, Adds, Ends, Followed, addition, and_others, entries_with, made_by}
use Rattle.epg_follow.specs.Items.{Carries, CarriesFront, GoesOn, IsSwapEntry, LineCut, LineDone, LineGivenUp, LineRefused, LineUnreported, NotingCame, added, desk_of}
use Rattle.epg_follow.specs.Going.{AreAdded, Went, followed_at}
use Rattle.epg_follow.specs.Rest.{Entering, FollowedWholeLines, Reached, RestDid, StopsAt, journal_at, with_pieces}
use Rattle.epg_follow.proofs.CourseFacts.{added_entries, added_more, commands_with, ends_there, entries_are, line_ahead, pieces_text-append, pieces_text-one, stop_ahead, stopped}

-- what a sink took, from one moment to another
abbrev pub took : Option (List ℕ) → Option (List ℕ) → ℕ → ℕ → ReportTaken
took old new before now = record { old = old; new = new; faults_old = before; faults_new = now }

-- ---- pieces more

module _ (keep : Bool) (journal : List Entry) (start now new : Follower) (pieces : List Piece) (at : Entering journal start now pieces) (noting : Noting) where
  abbrev here : List Entry
  here = journal_at at

  -- what the line adds, in the start's words
  abbrev own : Addition
  own = addition keep start.shift start.desk.mux here now.made noting

  pub adds_same : addition keep now.shift now.desk.mux here now.made noting ≡ own
  adds_same = ap (λ (s : ℕ). addition keep s now.desk.mux here now.made noting) at.shift ∙ ap (λ (m : Mux). addition keep start.shift m here now.made noting) at.mux

  pub entries_same : entries_with keep now.shift now.desk.mux here noting ≡ entries_with keep start.shift start.desk.mux here noting
  entries_same = ap (λ (s : ℕ). entries_with keep s now.desk.mux here noting) at.shift ∙ ap (λ (m : Mux). entries_with keep start.shift m here noting) at.mux

  pub made_same : made_by keep now.shift now.desk.mux here noting ≡ made_by keep start.shift start.desk.mux here noting
  made_same = ap (λ (s : ℕ). made_by keep s now.desk.mux here noting) at.shift ∙ ap (λ (m : Mux). made_by keep start.shift m here noting) at.mux

  pub next_journal : entries_with keep now.shift now.desk.mux here noting ≡ journal ++ journal_after start.desk.mux journal (commands_with at.commands noting)
  next_journal = entries_same ∙ entries_are keep start.shift start.desk.mux journal at.commands noting

  abbrev pub entering_more : new.desk.mux ≡ now.desk.mux → new.shift ≡ now.shift → Entering journal start new (pieces ++ added own)
  entering_more mux shift = record {
    commands = commands_with at.commands noting;
    mux = mux ∙ at.mux;
    shift = shift ∙ at.shift;
    entries = added_entries keep start.shift start.desk.mux journal at.commands pieces now.made noting at.entries;
  }

-- ---- what the sinks took, line by line

pub carries_more : (journal mid after : List Entry) (start now new : Follower) (w0 w1 w2 : Option (List ℕ)) (f0 f1 f2 : ℕ) → Carries journal mid start now (took w0 w1 f0 f1)
    → Carries mid after now new (took w1 w2 f1 f2) → Carries journal after start new (took w0 w2 f0 f2)
carries_more journal mid after start now new w0 w1 w2 f0 f1 f2 a b = record {
  aired = λ earlier before has. b.aired earlier before (a.aired earlier before has);
  tallied = λ is has. let r = a.tallied is has in b.tallied r.0 r.1;
}

pub carries_cut : (journal mid after : List Entry) (start now new : Follower) (w0 w1 w2 : Option (List ℕ)) (f0 f1 f2 : ℕ) → Carries journal mid start now (took w0 w1 f0 f1)
    → CarriesFront mid after now new (took w1 w2 f1 f2) → CarriesFront journal after start new (took w0 w2 f0 f2)
carries_cut journal mid after start now new w0 w1 w2 f0 f1 f2 a b = record {
  aired = λ earlier before has. b.aired earlier before (a.aired earlier before has);
  tallied = λ is has. let r = a.tallied is has in b.tallied r.0 r.1;
}

-- nothing was followed yet
pub went_none : {S : Type 0} (keep : Bool) (left : S → Option (List ℕ)) (lines : Reading S) (journal : List Entry) (start : Follower) (w r : Option (List ℕ)) (f g : ℕ)
    → StandsFor journal start.desk → start.made ≡ None → start.held ≡ Nothing → Went keep left lines lines journal start start (took w w f f) (took r r g g)
went_none keep left lines journal start w r f g stands made held =
    let none : journal ++ [] ≡ journal = append-nil journal in
    let entering : Entering journal start start [] = record { commands = []; mux = refl; shift = refl; entries = refl } in
    let same : (a : Ahead) → AreAdded keep journal start (journal ++ []) start a (with_held start.held lines a) [] = λ a.
    subst (λ (h : Held). AreAdded keep journal start (journal ++ []) start a (with_held h lines a) []) (sym held)
    (subst (λ (o : Option Outcome). followed_at keep start.shift start.desk.mux journal None a ≡ with_pieces [] (followed_at keep start.shift start.desk.mux (journal ++ []) o a)) (sym made)
    (ap (λ (l : List Entry). followed_at keep start.shift start.desk.mux l None a) (sym none))) in
    record {
      pieces = [];
      reached = record {
        entering = entering;
        carries = subst (λ (l : List Entry). Carries journal l start start (took w w f f)) (sym none) (record { aired = λ earlier before has. has; tallied = λ is has. (is, has) });
        reported = Appends-nothing r;
      };
      stands = subst (λ (l : List Entry). StandsFor l start.desk) (sym none) stands;
      told = λ text told. (text, told, same (ahead lines text));
      lines = [];
      handed = handed_none left lines;
      reads = λ more going. same (ahead_with lines more Breaks);
    }

module _ {S : Type 0} (keep : Bool) (left : S → Option (List ℕ)) (old now new : Reading S) (journal : List Entry) (start mid end : Follower)
    (w0 w1 w2 r0 r1 r2 : Option (List ℕ)) (f0 f1 f2 g0 g1 g2 : ℕ)
    (w : Went keep left old now journal start mid (took w0 w1 f0 f1) (took r0 r1 g0 g1)) where
  abbrev at : Entering journal start mid w.pieces
  at = w.reached.entering

  abbrev held_here : List Entry
  held_here = journal_at at

  -- the same of what is ahead behind a line that was done
  module _ (noting : Noting) (mux : end.desk.mux ≡ mid.desk.mux) (shift : end.shift ≡ mid.shift)
      (done : LineDone keep held_here mid end noting (took w1 w2 f1 f2) (took r1 r2 g1 g2)) where
    abbrev ours : Addition
    ours = addition keep start.shift start.desk.mux held_here mid.made noting

    abbrev goes : Entering journal start end (w.pieces ++ added ours)
    goes = entering_more keep journal start mid end w.pieces at noting mux shift

    on : GoesOn ours
    on = subst GoesOn (adds_same keep journal start mid end w.pieces at noting) done.goes_on

    made_then : end.made ≡ made_by keep start.shift start.desk.mux held_here noting
    made_then = done.made ∙ made_same keep journal start mid end w.pieces at noting

    added_then : (a b behind : Ahead) → AreAdded keep journal start held_here mid a b w.pieces → first_noting (is_some mid.made) b ≡ Came noting behind
        → AreAdded keep journal start (journal_at goes) end a behind (w.pieces ++ added ours)
    added_then a b behind e came =
        e ∙ ap (with_pieces w.pieces) (line_ahead keep start.shift start.desk.mux held_here mid.made b behind noting came)
        ∙ added_more w.pieces ours _ on
        ∙ ap (λ (l : List Entry). with_pieces (w.pieces ++ added ours) (followed_at keep start.shift start.desk.mux l (made_by keep start.shift start.desk.mux held_here noting) behind))
        (entries_are keep start.shift start.desk.mux journal at.commands noting)
        ∙ ap (λ (o : Option Outcome). with_pieces (w.pieces ++ added ours) (followed_at keep start.shift start.desk.mux (journal_at goes) o behind)) (sym made_then)

    abbrev reached_then : Reached journal start end (took w0 w2 f0 f2) (took r0 r2 g0 g2) (w.pieces ++ added ours)
    reached_then = record {
      entering = goes;
      carries = carries_more journal held_here (journal_at goes) start mid end w0 w1 w2 f0 f1 f2 w.reached.carries
          (subst (λ (l : List Entry). Carries held_here l mid end (took w1 w2 f1 f2)) (next_journal keep journal start mid end w.pieces at noting) done.carries);
      reported = subst (Appends r0 r2) (sym (pieces_text-append w.pieces (added ours)))
          (Appends-trans r0 r1 r2 (pieces_text w.pieces) (pieces_text (added ours)) w.reached.reported
          (subst (λ (a : Addition). Appends r1 r2 (pieces_text (added a))) (adds_same keep journal start mid end w.pieces at noting) done.reported));
    }

    may_be : (more : List (List ℕ)) → new.ended ≡ false → MayBeAhead new more Breaks
    may_be more going = record {
      last = λ n e. cc e;
      ended = λ has empty. (let no : true ≡ false = sym has ∙ going in cc no);
    }

    pub went_line : NotingCame left (is_some mid.made) mid.held end.held now new noting → Went keep left old new journal start end (took w0 w2 f0 f2) (took r0 r2 g0 g2)
    went_line came = record {
      pieces = w.pieces ++ added ours;
      reached = reached_then;
      stands = subst (λ (l : List Entry). StandsFor l end.desk) (next_journal keep journal start mid end w.pieces at noting) done.stands;
      told = λ text told.
          let t = w.told text told in
          let g = came.gives t.0 t.1 in
          (g.rest, g.told, added_then (ahead old text) (ahead_held mid.held now t.0) (ahead_held end.held new g.rest) t.2 g.reads);
      lines = w.lines ++ came.takes.looked.lines;
      handed = handed_more left old now new w.lines came.takes.looked.lines w.handed came.takes.looked.handed;
      reads = λ more going.
          let L = came.takes.looked.lines in
          subst (λ (l : List (List ℕ)). AreAdded keep journal start (journal_at goes) end (ahead_with old l Breaks) (with_held end.held new (ahead_with new more Breaks)) (w.pieces ++ added ours)) (sym (append_assoc w.lines L more))
          (added_then (ahead_with old (w.lines ++ (L ++ more)) Breaks) (with_held mid.held now (ahead_with now (L ++ more) Breaks)) (with_held end.held new (ahead_with new more Breaks))
          (w.reads (L ++ more) (came.takes.looked.handed.since going)) (came.takes.reads more Breaks (may_be more going)));
    }

  -- ---- why it does not go on

  -- what is ahead stops at once
  stops_with : (stop : Stop) (comment : List Piece) → ((rest : List ℕ) → text_left left now ≡ Some rest
      → followed_at keep start.shift start.desk.mux held_here mid.made (ahead_held mid.held now rest) ≡ stopped stop comment)
      → (text : List ℕ) → text_left left old ≡ Some text → followed_at keep start.shift start.desk.mux journal None (ahead old text) ≡ record { pieces = w.pieces; stop = stop; comment = comment }
  stops_with stop comment stops text told =
      let t = w.told text told in
      t.2 ∙ ap (with_pieces w.pieces) (stops t.0 t.1) ∙ ends_there w.pieces stop comment

  -- at a state with the same player
  reached_still : end.desk.mux ≡ mid.desk.mux → end.shift ≡ mid.shift → end.player ≡ mid.player → w2 ≡ w1 → r2 ≡ r1 → Reached journal start end (took w0 w2 f0 f2) (took r0 r2 g0 g2) w.pieces
  reached_still mux shift player silent unreported = record {
    entering = record { commands = at.commands; mux = mux ∙ at.mux; shift = shift ∙ at.shift; entries = at.entries };
    carries = record {
      aired = λ earlier before has.
          let then = w.reached.carries.aired earlier before has in
          subst (λ (o : Option (List ℕ)). HasAired earlier (desk_of held_here end) end.player before o) (sym silent)
          (subst (λ (p : Sending). HasAired earlier (desk_of held_here end) p before w1) (sym player)
          (subst (λ (m : Mux). HasAired earlier (desk_with m held_here) mid.player before w1) (sym mux) then));
      tallied = λ is has.
          let then = w.reached.carries.tallied is has in (
            subst (λ (p : Sending). IsPlayerOf end.desk.mux p) (sym player) (subst (λ (m : Mux). IsPlayerOf m mid.player) (sym mux) then.0),
            subst (λ (p : Sending). HasTallied (desk_of held_here end) p) (sym player) (subst (λ (m : Mux). HasTallied (desk_with m held_here) mid.player) (sym mux) then.1),
          );
    };
    reported = subst (λ (o : Option (List ℕ)). Appends r0 o (pieces_text w.pieces)) (sym unreported) w.reached.reported;
  }

  -- the reader gives no more
  pub read_ended : end.desk.mux ≡ mid.desk.mux → end.shift ≡ mid.shift → end.player ≡ mid.player → w2 ≡ w1 → r2 ≡ r1 → (stop : reading.Stop)
      → ((rest : List ℕ) → text_left left now ≡ Some rest → first_noting (is_some mid.made) (ahead_held mid.held now rest) ≡ Stopped stop) → (text : List ℕ) → text_left left old ≡ Some text
      → StopsAt journal start end (took w0 w2 f0 f2) (took r0 r2 g0 g2) (followed_at keep start.shift start.desk.mux journal None (ahead old text)) (stop_of stop) []
  read_ended mux shift player silent unreported stop stops text told = (
    w.pieces,
    stops_with (stop_of stop) [] (λ rest is. stop_ahead keep start.shift start.desk.mux held_here mid.made (ahead_held mid.held now rest) stop (stops rest is)) text told,
    reached_still mux shift player silent unreported,
  )

  -- a line ends the script
  pub line_ends : (noting : Noting) (stop : Stop) (comment : List Piece) → end.desk.mux ≡ mid.desk.mux → end.shift ≡ mid.shift
      → LineRefused keep held_here mid end noting (took w1 w2 f1 f2) (took r1 r2 g1 g2) (Ends stop comment) → NotingCame left (is_some mid.made) mid.held end.held now new noting
      → (text : List ℕ) → text_left left old ≡ Some text
      → StopsAt journal start end (took w0 w2 f0 f2) (took r0 r2 g0 g2) (followed_at keep start.shift start.desk.mux journal None (ahead old text)) stop comment
  line_ends noting stop comment mux shift refused came text told = (
    w.pieces,
    stops_with stop comment (λ rest is.
        let g = came.gives rest is in
        line_ahead keep start.shift start.desk.mux held_here mid.made (ahead_held mid.held now rest) (ahead_held end.held new g.rest) noting g.reads
        ∙ ap (λ (a : Addition). and_others a (followed_at keep start.shift start.desk.mux (entries_with keep start.shift start.desk.mux held_here noting)
        (made_by keep start.shift start.desk.mux held_here noting) (ahead_held end.held new g.rest))) (sym (adds_same keep journal start mid end w.pieces at noting) ∙ refused.is)) text told,
    reached_still mux shift refused.player refused.silent refused.unreported,
  )

  -- ---- a piece that was not done whole

  module _ (noting : Noting) (piece : Piece) (is : addition keep mid.shift mid.desk.mux held_here mid.made noting ≡ Adds piece) where
    own_is : addition keep start.shift start.desk.mux held_here mid.made noting ≡ Adds piece
    own_is = sym (adds_same keep journal start mid end w.pieces at noting) ∙ is

    -- it is the next of the script
    pub piece_next : NotingCame left (is_some mid.made) mid.held end.held now new noting → (text : List ℕ) → text_left left old ≡ Some text
        → (rest : Followed) × (followed_at keep start.shift start.desk.mux journal None (ahead old text) ≡ with_pieces (w.pieces ++ piece ∷ []) rest)
    piece_next came text told =
        let t = w.told text told in
        let g = came.gives t.0 t.1 in
        let others = followed_at keep start.shift start.desk.mux (entries_with keep start.shift start.desk.mux held_here noting) (made_by keep start.shift start.desk.mux held_here noting) (ahead_held end.held new g.rest) in (
          others,
          t.2
              ∙ ap (with_pieces w.pieces) (line_ahead keep start.shift start.desk.mux held_here mid.made (ahead_held mid.held now t.0) (ahead_held end.held new g.rest) noting g.reads
              ∙ ap (λ (a : Addition). and_others a others) own_is)
              ∙ added_more w.pieces (Adds piece) others tt,
        )

    pub entering_piece : end.desk.mux ≡ mid.desk.mux → end.shift ≡ mid.shift
        → (e : Entering journal start end (w.pieces ++ piece ∷ [])) × (journal_at e ≡ entries_with keep mid.shift mid.desk.mux held_here noting)
    entering_piece mux shift = (
      record {
        commands = commands_with at.commands noting;
        mux = mux ∙ at.mux;
        shift = shift ∙ at.shift;
        entries = subst (λ (a : Addition). entries_in (w.pieces ++ added a) ≡ all_raised start.shift (journal_after start.desk.mux journal (commands_with at.commands noting))) own_is
            (added_entries keep start.shift start.desk.mux journal at.commands w.pieces mid.made noting at.entries);
      },
      sym (next_journal keep journal start mid end w.pieces at noting),
    )

    texts_more : Appends r1 r2 (piece_text piece) → Appends r0 r2 (pieces_text (w.pieces ++ piece ∷ []))
    texts_more more =
        subst (Appends r0 r2) (sym (pieces_text-append w.pieces (piece ∷ [])))
        (Appends-trans r0 r1 r2 (pieces_text w.pieces) (pieces_text (piece ∷ [])) w.reached.reported (subst (Appends r1 r2) (sym (pieces_text-one piece)) more))

    carries_still : w2 ≡ w1 → Carries journal held_here start mid (took w0 w2 f0 f2)
    carries_still silent = subst (λ (o : Option (List ℕ)). Carries journal held_here start mid (took w0 o f0 f2)) (sym silent)
        (record { aired = w.reached.carries.aired; tallied = w.reached.carries.tallied })

  pub unreported : (noting : Noting) → LineUnreported keep held_here mid end noting (took w1 w2 f1 f2) (took r1 r2 g1 g2) → NotingCame left (is_some mid.made) mid.held end.held now new noting
      → (text : List ℕ) → text_left left old ≡ Some text
      → RestDid journal start end (took w0 w2 f0 f2) (took r0 r2 g0 g2) (followed_at keep start.shift start.desk.mux journal None (ahead old text)) (Err Report)
  unreported noting u came text told =
      let (rest, is) = piece_next noting u.piece u.adds_it came text told in
      let (n, proper, more) = u.front in (
        w.pieces,
        u.piece,
        rest,
        is,
        record {
          state = mid;
          entering = at;
          carries = carries_still noting u.piece u.adds_it u.silent;
          n = n;
          proper = proper;
          reported = Appends-trans r0 r1 r2 (pieces_text w.pieces) (take n (piece_text u.piece)) w.reached.reported more;
        },
      )

  pub cut : (noting : Noting) → end.desk.mux ≡ mid.desk.mux → end.shift ≡ mid.shift → LineCut keep held_here mid end noting (took w1 w2 f1 f2) (took r1 r2 g1 g2)
      → NotingCame left (is_some mid.made) mid.held end.held now new noting → (text : List ℕ) → text_left left old ≡ Some text
      → RestDid journal start end (took w0 w2 f0 f2) (took r0 r2 g0 g2) (followed_at keep start.shift start.desk.mux journal None (ahead old text)) (Err Air)
  cut noting mux shift c came text told =
      let (rest, is) = piece_next noting c.piece c.adds_it came text told in
      let (entering, same) = entering_piece noting c.piece c.adds_it mux shift in (
        w.pieces ++ c.piece ∷ [],
        rest,
        is,
        record {
          entering = entering;
          carries = carries_cut journal held_here (journal_at entering) start mid end w0 w1 w2 f0 f1 f2 w.reached.carries
              (subst (λ (l : List Entry). CarriesFront held_here l mid end (took w1 w2 f1 f2)) (sym same) c.carries);
          reported = texts_more noting c.piece c.adds_it c.reported;
        },
      )

  -- nothing more was done for want of memory
  pub nothing_more : w2 ≡ w1 → r2 ≡ r1 → (text : List ℕ) → text_left left old ≡ Some text
      → RestDid journal start end (took w0 w2 f0 f2) (took r0 r2 g0 g2) (followed_at keep start.shift start.desk.mux journal None (ahead old text)) (Err Memory)
  nothing_more silent unreported text told =
      let t = w.told text told in
      let none : w.pieces ++ [] ≡ w.pieces = append-nil w.pieces in (
        w.pieces,
        [],
        followed_at keep start.shift start.desk.mux held_here mid.made (ahead_held mid.held now t.0),
        t.2 ∙ ap (λ (l : List Piece). with_pieces l (followed_at keep start.shift start.desk.mux held_here mid.made (ahead_held mid.held now t.0))) (sym none),
        record {
          state = mid;
          entering = at;
          carries = subst (λ (o : Option (List ℕ)). Carries journal held_here start mid (took w0 o f0 f2)) (sym silent)
              (record { aired = w.reached.carries.aired; tallied = w.reached.carries.tallied });
          swap_is = inl refl;
          reported = subst (λ (l : List Piece). Appends r0 r2 (pieces_text l)) (sym none) (subst (λ (o : Option (List ℕ)). Appends r0 o (pieces_text w.pieces)) (sym unreported) w.reached.reported);
        },
      )

  pub given_up : (noting : Noting) → LineGivenUp keep held_here mid end noting (took w1 w2 f1 f2) (took r1 r2 g1 g2) → NotingCame left (is_some mid.made) mid.held end.held now new noting
      → (text : List ℕ) → text_left left old ≡ Some text
      → RestDid journal start end (took w0 w2 f0 f2) (took r0 r2 g0 g2) (followed_at keep start.shift start.desk.mux journal None (ahead old text)) (Err Memory)
  given_up noting g came text told = by g.reported
    where
      by : (r2 ≡ r1) ⊎ ((piece : Piece) × (addition keep mid.shift mid.desk.mux held_here mid.made noting ≡ Adds piece) × IsSwapEntry piece × Appends r1 r2 (piece_text piece))
          → RestDid journal start end (took w0 w2 f0 f2) (took r0 r2 g0 g2) (followed_at keep start.shift start.desk.mux journal None (ahead old text)) (Err Memory)
      by (inl none) = nothing_more g.silent none text told
      by (inr (piece, adds, swap, more)) =
          let (rest, is) = piece_next noting piece adds came text told in (
            w.pieces,
            piece ∷ [],
            rest,
            is,
            record {
              state = mid;
              entering = at;
              carries = carries_still noting piece adds g.silent;
              swap_is = inr (piece, refl, swap);
              reported = texts_more noting piece adds more;
            },
          )

  -- a read failed
  pub read_failed : (faults : S → ℕ) → end.desk.mux ≡ mid.desk.mux → end.shift ≡ mid.shift → end.player ≡ mid.player → w2 ≡ w1 → r2 ≡ r1
      → Faulted left faults (first_held (is_some mid.made) mid.held now) now new
      → FollowedWholeLines keep left old new journal start end (took w0 w2 f0 f2) (took r0 r2 g0 g2)
  read_failed faults mux shift player silent unreported f = record {
    lines = w.lines ++ f.lines;
    whole = whole_more left old now new w.lines f.lines w.handed f.unended f.whole;
    unended = w.handed.since f.unended;
    did = (
      w.pieces,
      w.reads f.lines f.unended ∙ ap (with_pieces w.pieces) (stop_ahead keep start.shift start.desk.mux held_here mid.made (with_held mid.held now (ahead_with now f.lines Breaks)) reading.Unread f.reads)
          ∙ ends_there w.pieces Unread [],
      reached_still mux shift player silent unreported,
    );
  }

  -- what was done is the front of what there is
  pub read_on : end.desk.mux ≡ mid.desk.mux → end.shift ≡ mid.shift → end.player ≡ mid.player → w2 ≡ w1 → r2 ≡ r1 → (text : List ℕ) → text_left left old ≡ Some text
      → RestDid journal start end (took w0 w2 f0 f2) (took r0 r2 g0 g2) (followed_at keep start.shift start.desk.mux journal None (ahead old text)) (Err (Read Failed))
  read_on mux shift player silent unreported text told =
      let t = w.told text told in
      (w.pieces, followed_at keep start.shift start.desk.mux held_here mid.made (ahead_held mid.held now t.0), t.2, reached_still mux shift player silent unreported)
