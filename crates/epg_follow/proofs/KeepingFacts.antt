-- No line at fault ends a script that goes on.
use Rattle.std.proofs.Common.{◌≡◌, ℕ, Bool, true, false, List, [], ◌∷◌, refl, sym, ap, ◌∙◌, subst}
use Rattle.std.specs.Prelude.{Option, Some, None, if◌then◌else◌}
use Rattle.input_lines.specs.Ahead.{Ahead, Came, Found, Stopped, and_all}
use Rattle.input_lines.specs.Ahead as reading
use Rattle.mux_model.specs.declared.mux.Mux.{Mux}
use Rattle.journal_model.specs.declared.step.Outcome.{Outcome}
use Rattle.journal_model.specs.declared.step.Entry.{Entry}
use Rattle.script_lines.specs.declared.script.ScriptItem.{ScriptItem}
use Rattle.script_lines.specs.declared.script.ScriptItem.TheVariants.{Step as step, Kept, End}
use Rattle.script_lines.specs.Script.{first_script_item}
use Rattle.script_notes.specs.declared.why.Why.TheVariants.{Disagrees}
use Rattle.script_notes.specs.declared.noting.Noting.{Noting}
use Rattle.script_notes.specs.declared.noting.Noting.TheVariants.{Bad, Item}
use Rattle.script_notes.specs.Notings.{first_noting, is_command_noting, noted, notings_ahead}
use Rattle.script_notes.proofs.NotingsAhead.{notings_go_on}
use Rattle.epg_play.specs.Outcomes.{is_outcome}
use Rattle.epg_play.specs.Script.{stop_of}
use Rattle.script_notes.specs.Pieces.{Noted}
use Rattle.epg_follow.specs.Course.{Adds, Agrees, and_others, Followed, followed_of, entries_with, made_by}
use Rattle.epg_follow.specs.Keeping.{IsNoFault, KeepingGoesOn}

-- ---- why no more notings are read

abbrev IsPlain : reading.Stop → Type 0
IsPlain stop = IsNoFault (stop_of stop)

noted_plain : (after : Bool) (lines : Ahead) (found : Found ScriptItem) (stop : reading.Stop) → noted after lines found ≡ Stopped stop → IsPlain stop
noted_plain after lines (Came item behind) stop e = cc e
noted_plain after lines (Stopped (reading.NoCommand n)) stop e = cc e
noted_plain after lines (Stopped reading.End) stop e = (let same : reading.End ≡ stop = cc e in subst IsPlain same tt)
noted_plain after lines (Stopped reading.TooLong) stop e = (let same : reading.TooLong ≡ stop = cc e in subst IsPlain same tt)
noted_plain after lines (Stopped reading.Unread) stop e = (let same : reading.Unread ≡ stop = cc e in subst IsPlain same tt)

abbrev Notings : Type 0
Notings = List Noting × reading.Stop

first_is : (after : Bool) (lines : Ahead) (found : Found Noting) (notings : Notings) → first_noting after lines ≡ found → notings_ahead after lines ≡ notings
    → and_all found (λ (noting : Noting). notings_ahead (is_command_noting noting)) ≡ notings
first_is after lines found notings e is =
    sym (notings_go_on after lines ∙ ap (λ (f : Found Noting). and_all f (λ (noting : Noting). notings_ahead (is_command_noting noting))) e) ∙ is

stops_plainly : (notings : List Noting) (after : Bool) (lines : Ahead) (stop : reading.Stop) → notings_ahead after lines ≡ (notings, stop) → IsPlain stop
stops_plainly [] after lines stop is = none (first_noting after lines) refl
  where
    none : (found : Found Noting) → first_noting after lines ≡ found → IsPlain stop
    none (Came noting behind) e = (let not = ap (λ (n : Notings). n.0) (first_is after lines (Came noting behind) ([], stop) e is) in cc not)
    none (Stopped own) e =
        (let same : own ≡ stop = ap (λ (n : Notings). n.1) (first_is after lines (Stopped own) ([], stop) e is) in
        subst IsPlain same (noted_plain after lines (first_script_item after lines) own e))
stops_plainly (noting ∷ notings) after lines stop is = more (first_noting after lines) refl (λ b l s e. stops_plainly notings b l s e)
  where
    more : (found : Found Noting) → first_noting after lines ≡ found → ((b : Bool) (l : Ahead) (s : reading.Stop) → notings_ahead b l ≡ (notings, s) → IsPlain s) → IsPlain stop
    more (Stopped own) e others = (let not = ap (λ (n : Notings). n.0) (first_is after lines (Stopped own) (noting ∷ notings, stop) e is) in cc not)
    more (Came own behind) e others =
        (let all = first_is after lines (Came own behind) (noting ∷ notings, stop) e is in
        let rest = notings_ahead (is_command_noting own) behind in
        let same : rest.0 ≡ notings = (let l = ap (λ (n : Notings). n.0) all in cc l) in
        let ends : rest.1 ≡ stop = ap (λ (n : Notings). n.1) all in
        others (is_command_noting own) behind stop
        (ap (λ (l : List Noting). let n : Notings = (l, rest.1) in n) same ∙ ap (λ (s : reading.Stop). let n : Notings = (notings, s) in n) ends))

-- ---- what they add

module _ (shift : ℕ) (mux : Mux) where
  abbrev of : List Entry → Option Outcome → List Noting → reading.Stop → Followed
  of before made notings stop = followed_of true shift mux before made notings stop

  -- an outcome that is kept
  kept_adds : (n : ℕ) (kept made : Outcome) (others : Followed) → IsNoFault others.stop
      → IsNoFault (and_others (if is_outcome kept made then Agrees else Adds (Noted n (Disagrees kept made))) others).stop
  kept_adds n kept made others ends = go (is_outcome kept made)
    where
      go : (same : Bool) → IsNoFault (and_others (if same then Agrees else Adds (Noted n (Disagrees kept made))) others).stop
      go true = ends
      go false = ends

  all_add : (notings : List Noting) (before : List Entry) (made : Option Outcome) (stop : reading.Stop) → IsPlain stop → IsNoFault (of before made notings stop).stop
  all_add [] before made stop plain = plain
  all_add (Item (step who s) ∷ notings) before made stop plain =
      all_add notings (entries_with true shift mux before (Item (step who s))) (made_by true shift mux before (Item (step who s))) stop plain
  all_add (Item (Kept n kept) ∷ notings) before None stop plain = all_add notings before None stop plain
  all_add (Item (Kept n kept) ∷ notings) before (Some made) stop plain =
      kept_adds n kept made (of before None notings stop) (all_add notings before None stop plain)
  all_add (Item End ∷ notings) before made stop plain = all_add notings before None stop plain
  all_add (Bad n why ∷ notings) before made stop plain = all_add notings before None stop plain

pub keeping_goes_on : KeepingGoesOn
keeping_goes_on mux journal lines =
    (let notings = notings_ahead false lines in
    all_add 0 mux notings.0 journal None notings.1 (stops_plainly notings.0 false lines notings.1 refl))
