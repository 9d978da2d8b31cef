-- Several turns of one pass.
use Rattle.std.proofs.Common.{◌≡◌, ℕ, List, [], ◌∷◌, ◌++◌, refl, sym, ap, ◌∙◌, subst, inl, inr, append-nil, append_assoc}
use Rattle.std.specs.Prelude.{Result, Ok, Err, IfOk, OnErr}
use Rattle.std.proofs.lemmas.List.{map-append}
use mathlib.Core.List.{IsPrefix}
use Rattle.journal_model.specs.declared.step.Step.{Step}
use Rattle.journal_model.specs.declared.step.Outcome.{Outcome}
use Rattle.journal_model.specs.declared.step.Entry.{Entry}
use Rattle.journal_model.specs.Steps.{Command, command_of}
use Rattle.turn_lock.proofs.Lists.{prefix_self, prefix_trans}
use Rattle.desk_hall.specs.Turn.{View, entry_of, with_entries, Made, Idle, KeepsNumbers, Knows, Did}
use Rattle.desk_hall.specs.Reads.{DidEach, commands_by}

-- what is seen of a pass that made an entry begins with what it had seen
pub made_began : (step : Step) (outcome : Outcome) (v w : View) → Made step outcome v w → IsPrefix v.seen w.seen
made_began step outcome v w m = prefix_trans v.seen m.before w.seen m.began (entry_of v.own.low step outcome ∷ [], sym m.seen)

pub made_knows : (step : Step) (outcome : Outcome) (v w : View) → Made step outcome v w → Knows w
made_knows step outcome v w m = record { mux = m.mux; stands = ap (λ (z : View). z.on) m.gained ∙ m.stands; legal = m.legal; exact = m.exact }

pub idle_knows : (v w : View) → Idle v w → Knows w
idle_knows v w i = record { mux = i.mux; stands = ap (λ (z : View). z.on) i.same ∙ i.stands; legal = i.legal; exact = i.exact }

-- the pass with no entry more
pub more_none : (v : View) → v ≡ with_entries v v.seen []
more_none v = ap (λ (l : List Entry). let z : View = record v { own = record v.own { made = l } } in z) (sym (append-nil v.own.made))

pub more_more : (v : View) (mid seen xs ys : List Entry) → with_entries (with_entries v mid xs) seen ys ≡ with_entries v seen (xs ++ ys)
more_more v mid seen xs ys = ap (λ (l : List Entry). let z : View = record v { seen = seen; own = record v.own { made = l } } in z) (append_assoc v.own.made xs ys)

abbrev pub did_none : (v : View) → Did [] v v
did_none v = record { added = []; commands_are = refl; gained = more_none v; began = prefix_self v.seen; turned = inl refl }

abbrev pub did_more : (commands : List Command) (step : Step) (outcome : Outcome) (v m w : View) → Did commands v m → Made step outcome m w → Did (commands ++ (v.own.low, step) ∷ []) v w
did_more commands step outcome v m w d e =
    let low : m.own.low ≡ v.own.low = ap (λ (z : View). z.own.low) d.gained in
    let entry : Entry = entry_of m.own.low step outcome in
    record {
      added = d.added ++ entry ∷ [];
      commands_are = map-append command_of d.added (entry ∷ []) ∙ ap (λ (l : List Command). l ++ (m.own.low, step) ∷ []) d.commands_are ∙ ap (λ (n : ℕ). commands ++ (n, step) ∷ []) low;
      gained = e.gained ∙ ap (λ (z : View). with_entries z w.seen (entry ∷ [])) d.gained ∙ more_more v m.seen w.seen d.added (entry ∷ []);
      began = prefix_trans v.seen m.seen w.seen d.began (made_began step outcome m w e);
      turned = inr (made_knows step outcome m w e);
    }

abbrev pub did_idle : (commands : List Command) (v m w : View) → Did commands v m → Idle m w → Did commands v w
did_idle commands v m w d i = record {
  added = d.added;
  commands_are = d.commands_are;
  gained = i.same ∙ ap (λ (z : View). let y : View = record z { seen = w.seen } in y) d.gained;
  began = prefix_trans v.seen m.seen w.seen d.began i.began;
  turned = inr (idle_knows m w i);
}

module _ {T : Type 0} (step : T → Step) where
  pub each_none : (v : View) → DidEach step v v []
  each_none v = did_none v

  pub each_more : (v m w : View) (values : List T) (value : T) (outcome : Outcome) → DidEach step v m values → Made (step value) outcome m w → DidEach step v w (values ++ value ∷ [])
  each_more v m w values value outcome d e =
      subst (λ (l : List Command). Did l v w) (sym (map-append (λ (x : T). let c : Command = (v.own.low, step x) in c) values (value ∷ [])))
      (did_more (commands_by v.own.low step values) (step value) outcome v m w d e)

  pub each_idle : (v m w : View) (values : List T) → DidEach step v m values → Idle m w → DidEach step v w values
  each_idle v m w values d i = did_idle (commands_by v.own.low step values) v m w d i

abbrev pub did_as : (commands others : List Command) (v w : View) → Did commands v w → commands ≡ others → Did others v w
did_as commands others v w d e = record { added = d.added; commands_are = d.commands_are ∙ e; gained = d.gained; began = d.began; turned = d.turned }

-- ---- what stays

keeps_with : (v : View) (seen added : List Entry) → KeepsNumbers v (with_entries v seen added)
keeps_with v seen added = record { turns = refl; low = refl; span = refl; finished = refl; on = refl }

pub keeps_gained : (v w : View) (seen added : List Entry) → w ≡ with_entries v seen added → KeepsNumbers v w
keeps_gained v w seen added is = subst (λ (z : View). KeepsNumbers v z) (sym is) (keeps_with v seen added)

keeps_seen : (v : View) (seen : List Entry) → KeepsNumbers v (record v { seen = seen })
keeps_seen v seen = record { turns = refl; low = refl; span = refl; finished = refl; on = refl }

pub idle_keeps : (v w : View) → Idle v w → KeepsNumbers v w
idle_keeps v w i = subst (λ (z : View). KeepsNumbers v z) (sym i.same) (keeps_seen v w.seen)

pub made_keeps : (step : Step) (outcome : Outcome) (v w : View) → Made step outcome v w → KeepsNumbers v w
made_keeps step outcome v w m = keeps_gained v w w.seen (entry_of v.own.low step outcome ∷ []) m.gained

pub did_keeps : (commands : List Command) (v w : View) → Did commands v w → KeepsNumbers v w
did_keeps commands v w d = keeps_gained v w w.seen d.added d.gained

-- behind a turn that made an entry or none
pub turn_keeps : {T E : Type 0} (v w : View) (step : Step) (outcome_of : T → Outcome) (r : Result T E) → IfOk r (λ x. Made step (outcome_of x) v w) → OnErr r (Idle v w) → KeepsNumbers v w
turn_keeps v w step outcome_of (Ok x) made idle = made_keeps step (outcome_of x) v w made
turn_keeps v w step outcome_of (Err e) made idle = idle_keeps v w idle
