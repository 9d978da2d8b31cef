-- A job that reads values and does each in a turn.
use Rattle.std.proofs.Common.{◌≡◌, ℕ, ◌≤◌, List, [], ◌∷◌, ◌++◌, arith, refl, sym, ap, ◌∙◌, subst}
use Rattle.std.specs.Prelude.{Option, Some, None, Result, Ok, Err, IfSome}
use Rattle.si_causes.proofs.CauseFacts.{Rose-from}
use Rattle.si_causes.specs.Reading.{Reading}
use Rattle.si_causes.specs.declared.stop.ReadStop.{ReadStop}
use Rattle.si_causes.specs.declared.stop.ReadStop.TheVariants.{Failed, TooLong as Overlong}
use Rattle.input_lines.specs.declared.stop.EditStop.{EditStop}
use Rattle.input_lines.specs.declared.stop.EditStop.TheVariants.{NoCommand as Refused, Read, Memory}
use Rattle.input_lines.specs.Ahead.{Ahead, Found, Came, Stop, and_all}
use Rattle.input_lines.specs.Reads.{NextOf, Passes, Takes}
use Rattle.journal_model.specs.declared.step.Step.{Step}
use Rattle.journal_model.specs.declared.step.Outcome.{Outcome}
use Rattle.desk_hall.specs.Turn.{View, Made, Idle}
use Rattle.desk_hall.specs.Reads.{DidEach, HasReadCause, ReaderDid, Stream}
use Rattle.desk_hall.proofs.Passes.{each_none, each_more, each_idle}
use Rattle.desk_hall.proofs.Follows.{Follows, follows_none, follows_more, ended, stopped, wanting, taken}

abbrev Known : Type 0
Known = Option (List ℕ)

-- where a reader had stopped before, nothing was read and no turn was taken
abbrev pub Stuck : {S : Type 0} → Option ReadStop → Reading S → Reading S → View → View → Type 0
Stuck stop old now v w = IfSome stop (λ _. (now ≡ old) × (w ≡ v))

pub stuck_same : {S : Type 0} (stop : Option ReadStop) (reader : Reading S) (v : View) → Stuck stop reader reader v v
stuck_same None reader v = tt
stuck_same (Some stop) reader v = (refl, refl)

none_if : {P : ReadStop → Type 0} (o : Option ReadStop) → IfSome o P → ((s : ReadStop) → P s → ⊥) → o ≡ None
none_if None h never = refl
none_if (Some s) h never = absurd (never s h)

-- a call that answered a value was made of a reader that had not stopped
pub not_stopped : {S V : Type 0} (o : Option ReadStop) (value : V) (now new : Reading S) → IfSome o (λ stop. ((let r : Result V EditStop = Ok value in r) ≡ Err (Read stop)) × (new ≡ now)) → o ≡ None
not_stopped o value now new h = none_if o h (λ s p. absurd (cc (p.0)))

pub was_going : {S : Type 0} (o : Option ReadStop) (old now : Reading S) (v w : View) → o ≡ old.stop → Stuck o old now v w → now.stop ≡ None → o ≡ None
was_going None old now v w e s is = refl
was_going {S = S} (Some stop) old now v w e s is = absurd (let never : Some stop ≡ None = e ∙ ap (λ (r : Reading S). r.stop) (sym s.0) ∙ is in cc never)

-- what a stop says of a reader that had stopped before
abbrev pub StaysStopped : {S : Type 0} → Option ReadStop → Option EditStop → Reading S → Reading S → View → View → Type 0
StaysStopped o result old new v w = IfSome o (λ stop. (result ≡ Some (Read stop)) × (new ≡ old) × (w ≡ v))

pub stays_going : {S : Type 0} (o : Option ReadStop) (result : Option EditStop) (old new : Reading S) (v w : View) → o ≡ None → StaysStopped o result old new v w
stays_going None result old new v w e = tt
stays_going (Some stop) result old new v w e = absurd (cc e)

pub stays_stopped : {S : Type 0} (V : Type 0) (o : Option ReadStop) (stop : EditStop) (old now new : Reading S) (v w : View) → o ≡ old.stop → Stuck o old now v w
    → IfSome now.stop (λ s. ((let r : Result V EditStop = Err stop in r) ≡ Err (Read s)) × (new ≡ now)) → StaysStopped o (Some stop) old new v w
stays_stopped V None stop old now new v w e s h = tt
stays_stopped {S = S} V (Some t) stop old now new v w e s h =
    let at = subst (λ (o : Option ReadStop). IfSome o (λ z. ((let r : Result V EditStop = Err stop in r) ≡ Err (Read z)) × (new ≡ now))) (ap (λ (r : Reading S). r.stop) s.0 ∙ sym e) h in
    (cc (at.0), at.1 ∙ s.0, s.1)

module _ {S T : Type 0} (st : Stream S) (first : Ahead → Found T) (all : Ahead → List T × Stop) (go_on : (lines : Ahead) → all lines ≡ and_all (first lines) (λ (value : T). all)) (step : T → Step) where
  -- the values that were read from old to now were done in turns from v to w
  pub record Going (old now : Reading S) (v w : View) : Type 0 where
    pub done : List T
    pub did : DidEach step v w done
    pub follows : old.stop ≡ None → Follows st.left first all go_on old now done
    pub going : old.stop ≡ None → now.stop ≡ None
    pub stuck : Stuck old.stop old now v w
    pub later : st.faults old.source ≤ st.faults now.source
    pub same : st.same old.source now.source

  pub going_none : (reader : Reading S) (v : View) → st.same reader.source reader.source → Going reader reader v v
  going_none reader v same = record {
    done = [];
    did = each_none step v;
    follows = λ e. follows_none st.left first all go_on reader;
    going = λ e. e;
    stuck = stuck_same reader.stop reader v;
    later = omega arith;
    same = same;
  }

  module _ (chain : (a b c : S) → st.same a b → st.same b c → st.same a c) (old now new : Reading S) (v m w : View) (g : Going old now v m) where
    abbrev Reads : Result (Option T) EditStop → Type 0
    Reads r = NextOf st.left st.faults st.same first now new r

    -- the reader had not stopped where a value came
    pub went : (value : T) → Reads (Ok (Some value)) → old.stop ≡ None
    went value r = was_going old.stop old now v m refl g.stuck (not_stopped now.stop (Some value) now new r.sticky)

    -- a value was read and done
    pub going_more : (value : T) (outcome : Outcome) → Reads (Ok (Some value)) → Made (step value) outcome m w → Going old new v w
    going_more value outcome r e =
        let is = not_stopped now.stop (Some value) now new r.sticky in
        let next : Passes st.left first (Came value) now new = r.takes is in
        record {
          done = g.done ++ value ∷ [];
          did = each_more step v m w g.done value outcome g.did e;
          follows = λ o. follows_more st.left first all go_on old now new g.done value (g.follows o) (r.gives is) next;
          going = λ o. next.looked.going;
          stuck = subst (λ (o : Option ReadStop). Stuck o old new v w) (sym (went value r)) tt;
          later = omega (arith, g.later, r.later);
          same = chain old.source now.source new.source g.same r.same;
        }

    -- ---- what the job did

    -- all of it
    pub read_end : Reads (Ok None) → ReaderDid step all st v m old new None
    read_end r = record {
      did = (g.done, g.did);
      told = λ o text told. ended st.left first all go_on (DidEach step v m) old now g.done (g.follows o) g.did (λ rest is. (r.gives (g.going o) rest is).0) text told;
      taken = λ o. tt;
      end = λ o. r.at_end refl;
      cause = λ o. tt;
      later = omega (arith, g.later, r.later);
      same = chain old.source now.source new.source g.same r.same;
    }

    caused : (stop : EditStop) → (now.stop ≡ None → Takes st.left st.faults first now new (let e : Result T EditStop = Err stop in e)) → old.stop ≡ None → HasReadCause (st.faults old.source) (st.faults new.source) (Some stop)
    caused (Read Failed) takes o = Rose-from (st.faults old.source) (st.faults now.source) (st.faults new.source) g.later (takes (g.going o)).cause
    caused (Read Overlong) takes o = tt
    caused (Refused n) takes o = tt
    caused Memory takes o = tt

    -- up to a stop of the reader
    pub read_stop : (stop : EditStop) → Reads (Err stop) → ReaderDid step all st v m old new (Some stop)
    read_stop stop r = record {
      did = (g.done, g.did);
      told = λ o text told. stopped st.left first all go_on (DidEach step v m) old now new g.done stop (g.follows o) g.did (r.gives (g.going o)) text told;
      taken = λ o. taken st.left first all go_on (DidEach step v m) st.faults old now new g.done stop (g.follows o) g.did (r.takes (g.going o));
      end = λ none. absurd (cc none);
      cause = λ o. caused stop r.takes o;
      later = omega (arith, g.later, r.later);
      same = chain old.source now.source new.source g.same r.same;
    }

    -- up to want of memory for a turn
    pub read_want : (value : T) → Reads (Ok (Some value)) → Idle m w → ReaderDid step all st v w old new (Some Memory)
    read_want value r i =
        let did = each_idle step v m w g.done g.did i in
        record {
          did = (g.done, did);
          told = λ o text told. wanting st.left first all go_on (DidEach step v w) old now g.done (g.follows o) did text told;
          taken = λ o. tt;
          end = λ none. absurd (cc none);
          cause = λ o. tt;
          later = omega (arith, g.later, r.later);
          same = chain old.source now.source new.source g.same r.same;
        }
