-- What is read of the lines ahead of a reader, one value after another, and why no more is.
use Rattle.std.proofs.Common.{◌≡◌, ℕ, List, [], ◌∷◌, ◌++◌, length, take, refl, sym, ap, ◌∙◌, subst, append-nil, append_assoc}
use Rattle.std.specs.Prelude.{Option, Some, None, Err}
use Rattle.std.proofs.Math.Seq.{take-append_seam}
use Rattle.si_causes.specs.Reading.{Reading, text_left}
use Rattle.si_causes.specs.declared.stop.ReadStop.TheVariants.{Failed, TooLong as Overlong}
use Rattle.input_lines.specs.Going.{HandedOut}
use Rattle.input_lines.proofs.Steps.{handed_none, handed_more, whole_more}
use Rattle.input_lines.specs.declared.stop.EditStop.{EditStop}
use Rattle.input_lines.specs.declared.stop.EditStop.TheVariants.{NoCommand as Refused, Read, Memory}
use Rattle.input_lines.specs.Ahead.{Ahead, Tail, Breaks, Found, Came, Stopped, Stop, End, NoCommand, TooLong, Unread, ahead, and_all}
use Rattle.input_lines.specs.Reads.{Gives, Takes, Passes, Leaves, ahead_with}
use Rattle.desk_hall.specs.Reads.{ToldDid, TakenDid}

abbrev Known : Type 0
Known = Option (List ℕ)

module _ {S T : Type 0} (left : S → Known) (first : Ahead → Found T) (all : Ahead → List T × Stop) (go_on : (lines : Ahead) → all lines ≡ and_all (first lines) (λ (value : T). all)) where
  -- of what was ahead these values were read, and this is ahead behind them
  abbrev pub Splits : Ahead → Ahead → List T → Type 0
  Splits lines behind done = all lines ≡ (done ++ (all behind).0, (all behind).1)

  splits_more : (lines now behind : Ahead) (done : List T) (value : T) → Splits lines now done → first now ≡ Came value behind → Splits lines behind (done ++ value ∷ [])
  splits_more lines now behind done value d e =
      d ∙ ap (λ (p : List T × Stop). let q : List T × Stop = (done ++ p.0, p.1) in q) (go_on now ∙ ap (λ (r : Found T). and_all r (λ (v : T). all)) e)
      ∙ ap (λ (l : List T). let q : List T × Stop = (l, (all behind).1) in q) (sym (append_assoc done (value ∷ []) (all behind).0))

  splits_last : (lines now : Ahead) (done : List T) (stop : Stop) → Splits lines now done → first now ≡ Stopped stop → all lines ≡ (done, stop)
  splits_last lines now done stop d e =
      d ∙ ap (λ (p : List T × Stop). let q : List T × Stop = (done ++ p.0, p.1) in q) (go_on now ∙ ap (λ (r : Found T). and_all r (λ (v : T). all)) e)
      ∙ ap (λ (l : List T). let q : List T × Stop = (l, stop) in q) (append-nil done)

  -- From old to now these values were read.
  pub record Follows (old now : Reading S) (done : List T) : Type 0 where
    pub told : (text : List ℕ) → text_left left old ≡ Some text → (rest : List ℕ) × (text_left left now ≡ Some rest) × Splits (ahead old text) (ahead now rest) done
    pub lines : List (List ℕ)
    pub handed : HandedOut left old now lines
    pub reads : (more : List (List ℕ)) (tail : Tail) → Splits (ahead_with old (lines ++ more) tail) (ahead_with now more tail) done

  pub follows_none : (reader : Reading S) → Follows reader reader []
  follows_none reader = record {
    told = λ text told. (text, told, refl);
    lines = [];
    handed = handed_none left reader;
    reads = λ more tail. refl;
  }

  pub follows_more : (old now new : Reading S) (done : List T) (value : T) → Follows old now done
      → ((text : List ℕ) → text_left left now ≡ Some text → Leaves left first (Came value) now new text) → Passes left first (Came value) now new
      → Follows old new (done ++ value ∷ [])
  follows_more old now new done value w gives takes = record {
    told = λ text told.
        let t = w.told text told in
        let g = gives t.0 t.1 in
        (g.rest, g.told, splits_more (ahead old text) (ahead now t.0) (ahead new g.rest) done value t.2 g.reads);
    lines = w.lines ++ takes.looked.lines;
    handed = handed_more left old now new w.lines takes.looked.lines w.handed takes.looked.handed;
    reads = λ more tail.
        subst (λ (l : List (List ℕ)). Splits (ahead_with old l tail) (ahead_with new more tail) (done ++ value ∷ [])) (sym (append_assoc w.lines takes.looked.lines more))
        (splits_more (ahead_with old (w.lines ++ (takes.looked.lines ++ more)) tail) (ahead_with now (takes.looked.lines ++ more) tail) (ahead_with new more tail) done value (w.reads (takes.looked.lines ++ more) tail) (takes.reads more tail));
  }

  -- ---- why no more is read, and what was done

  module _ (did : List T → Type 0) where
    all_did : (a : List T × Stop) (done : List T) (stop : Stop) → a ≡ (done, stop) → did done → (a.1 ≡ stop) × did a.0
    all_did a done stop e d = (ap (λ (p : List T × Stop). p.1) e, subst did (sym (ap (λ (p : List T × Stop). p.0) e)) d)

    -- what was done is a front of what was ahead
    front_did : (a b : List T × Stop) (done : List T) → a ≡ (done ++ b.0, b.1) → did done → (k : ℕ) × did (take k a.0)
    front_did a b done e d = (length done, subst did (sym (ap (λ (p : List T × Stop). take (length done) p.0) e ∙ take-append_seam done b.0)) d)

    told_stop : (old now : Reading S) (done : List T) (stop : Stop) → Follows old now done → did done
        → ((rest : List ℕ) → text_left left now ≡ Some rest → first (ahead now rest) ≡ Stopped stop)
        → (text : List ℕ) → text_left left old ≡ Some text → ((all (ahead old text)).1 ≡ stop) × did (all (ahead old text)).0
    told_stop old now done stop w d stops text told =
        let t = w.told text told in
        all_did (all (ahead old text)) done stop (splits_last (ahead old text) (ahead now t.0) done stop t.2 (stops t.0 t.1)) d

    told_front : (old now : Reading S) (done : List T) → Follows old now done → did done
        → (text : List ℕ) → text_left left old ≡ Some text → (k : ℕ) × did (take k (all (ahead old text)).0)
    told_front old now done w d text told = (let t = w.told text told in front_did (all (ahead old text)) (all (ahead now t.0)) done t.2 d)

    pub ended : (old now : Reading S) (done : List T) → Follows old now done → did done
        → ((rest : List ℕ) → text_left left now ≡ Some rest → first (ahead now rest) ≡ Stopped End)
        → (text : List ℕ) → text_left left old ≡ Some text → ToldDid did (all (ahead old text)) None
    ended old now done w d stops text told = told_stop old now done End w d stops text told

    pub stopped : (old now new : Reading S) (done : List T) (stop : EditStop) → Follows old now done → did done
        → ((rest : List ℕ) → text_left left now ≡ Some rest → Gives left first now new rest (Err stop))
        → (text : List ℕ) → text_left left old ≡ Some text → ToldDid did (all (ahead old text)) (Some stop)
    stopped old now new done (Refused n) w d gives text told = told_stop old now done (NoCommand n) w d gives text told
    stopped old now new done (Read Overlong) w d gives text told = told_stop old now done TooLong w d gives text told
    stopped old now new done (Read Failed) w d gives text told = told_front old now done w d text told
    stopped old now new done Memory w d gives text told = told_front old now done w d text told

    -- memory was wanting for a turn
    pub wanting : (old now : Reading S) (done : List T) → Follows old now done → did done → (text : List ℕ) → text_left left old ≡ Some text → ToldDid did (all (ahead old text)) (Some Memory)
    wanting old now done w d text told = told_front old now done w d text told

    pub taken : (faults : S → ℕ) (old now new : Reading S) (done : List T) (stop : EditStop) → Follows old now done → did done
        → Takes left faults first now new (Err stop) → TakenDid did left all old new (Some stop)
    taken faults old now new done (Read Failed) w d f =
        let lines = w.lines ++ f.lines in
        let last = splits_last (ahead_with old lines Breaks) (ahead_with now f.lines Breaks) done Unread (w.reads f.lines Breaks) f.reads in
        let r = all_did (all (ahead_with old lines Breaks)) done Unread last d in
        record { lines = lines; whole = whole_more left old now new w.lines f.lines w.handed f.unended f.whole; unended = w.handed.since f.unended; stop = r.0; commands = r.1 }
    taken faults old now new done (Read Overlong) w d f = tt
    taken faults old now new done (Refused n) w d f = tt
    taken faults old now new done Memory w d f = tt
