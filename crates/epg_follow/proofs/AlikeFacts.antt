-- A script that is followed at a desk which goes on as a journal does adds the pieces of that journal.
use Rattle.std.proofs.Common.{◌≡◌, ℕ, Bool, false, List, [], ◌∷◌, ◌++◌, refl, sym, ap, ◌∙◌}
use Rattle.std.specs.Prelude.{Option, Some, None}
use Rattle.input_lines.specs.Ahead.{Ahead}
use Rattle.input_lines.specs.Ahead as reading
use Rattle.mux_model.specs.declared.mux.Mux.{Mux}
use Rattle.mux_model.specs.Sound.{IsSound}
use Rattle.journal_model.specs.declared.step.Outcome.{Outcome}
use Rattle.journal_model.specs.declared.step.Entry.{Entry}
use Rattle.journal_model.specs.Steps.{Command}
use Rattle.desk_core.specs.Journal.{Legal, entry_after}
use Rattle.desk_checkpoint.specs.Going.{GoOnAlike}
use Rattle.journal_model.specs.Raising.{raised_entry}
use Rattle.desk_checkpoint.proofs.GoFacts.{after_alike, all_legal, journals_alike}
use Rattle.script_lines.specs.declared.script.ScriptItem.TheVariants.{Step as step, Kept, End}
use Rattle.script_notes.specs.declared.noting.Noting.{Noting}
use Rattle.script_notes.specs.declared.noting.Noting.TheVariants.{Bad, Item}
use Rattle.script_notes.specs.Notings.{notings_ahead}
use Rattle.epg_play.proofs.RunFacts.{raised_none}
use Rattle.script_notes.specs.Pieces.{Entered}
use Rattle.epg_follow.specs.Course.{Adds, Followed, addition, and_others, entered, followed, followed_of}

pub entry_unraised : (e : Entry) → raised_entry 0 e ≡ e
entry_unraised e = ap (λ (o : Outcome). let x : Entry = record { who = e.who; step = e.step; outcome = o } in x) (raised_none e.outcome)

module _ (keep : Bool) (mux : Mux) (shift : ℕ) (sound : IsSound mux) where
  -- the entry of a command, after the one journal and after the other
  entry_same : (h c : List Entry) (command : Command) → Legal mux h → Legal mux c → GoOnAlike mux shift h c → entered shift mux c command ≡ entered 0 mux h command
  entry_same h c command legal_h legal_c alike =
      let are : entry_after mux h command ∷ [] ≡ raised_entry shift (entry_after mux c command) ∷ [] = journals_alike mux shift h c (command ∷ []) sound legal_h legal_c alike in
      let one : entry_after mux h command ≡ raised_entry shift (entry_after mux c command) = cc are in
      sym one ∙ sym (entry_unraised (entry_after mux h command))

  abbrev of : ℕ → List Entry → Option Outcome → List Noting → reading.Stop → Followed
  of s before made notings stop = followed_of keep s mux before made notings stop

  -- of a line that is no command
  others_same : (notings : List Noting) (stop : reading.Stop) → ((h c : List Entry) (made : Option Outcome) → Legal mux h → Legal mux c → GoOnAlike mux shift h c → of shift c made notings stop ≡ of 0 h made notings stop)
      → (noting : Noting) (h c : List Entry) (made : Option Outcome) → Legal mux h → Legal mux c → GoOnAlike mux shift h c
      → of shift c made (noting ∷ notings) stop ≡ of 0 h made (noting ∷ notings) stop
  others_same notings stop rest (Item (step who s)) h c made legal_h legal_c alike =
      let command : Command = (who, s) in
      let same = entry_same h c command legal_h legal_c alike in
      let on = after_alike mux shift h c (command ∷ []) sound legal_h legal_c alike in
      rw same (ap (and_others (Adds (Entered (entered 0 mux h command))))
      (ap (λ (o : Option Outcome). of shift (c ++ entry_after mux c command ∷ []) o notings stop) (ap (λ (e : Entry). let o : Option Outcome = Some e.outcome in o) same)
      ∙ rest (h ++ entry_after mux h command ∷ []) (c ++ entry_after mux c command ∷ []) (Some (entered 0 mux h command).outcome)
      (all_legal mux h (command ∷ []) legal_h) (all_legal mux c (command ∷ []) legal_c) on))
  others_same notings stop rest (Item (Kept n kept)) h c made legal_h legal_c alike =
      ap (and_others (addition keep 0 mux h made (Item (Kept n kept)))) (rest h c None legal_h legal_c alike)
  others_same notings stop rest (Item End) h c made legal_h legal_c alike =
      ap (and_others (addition keep 0 mux h made (Item End))) (rest h c None legal_h legal_c alike)
  others_same notings stop rest (Bad n why) h c made legal_h legal_c alike =
      ap (and_others (addition keep 0 mux h made (Bad n why))) (rest h c None legal_h legal_c alike)

  all_same : (notings : List Noting) (stop : reading.Stop) (h c : List Entry) (made : Option Outcome) → Legal mux h → Legal mux c → GoOnAlike mux shift h c
      → of shift c made notings stop ≡ of 0 h made notings stop
  all_same [] stop h c made legal_h legal_c alike = refl
  all_same (noting ∷ notings) stop h c made legal_h legal_c alike =
      others_same notings stop (all_same notings stop) noting h c made legal_h legal_c alike

  pub followed_same : (h c : List Entry) (lines : Ahead) → Legal mux h → Legal mux c → GoOnAlike mux shift h c → followed keep shift mux c lines ≡ followed keep 0 mux h lines
  followed_same h c lines legal_h legal_c alike = all_same (notings_ahead false lines).0 (notings_ahead false lines).1 h c None legal_h legal_c alike
