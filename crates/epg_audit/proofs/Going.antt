-- An audit, command by command.
use Rattle.std.proofs.Common.{◌≡◌, ℕ, Bool, true, false, List, [], ◌∷◌, ◌++◌, length, length-append, take, refl, sym, ap, ◌∙◌, subst, arith, inl, inr, ◌⊎◌}
use Rattle.std.specs.Prelude.{Option, Some, Ok, Err, OnOk, Result}
use Rattle.si_causes.specs.Reading.{Reading}
use Rattle.si_causes.specs.declared.stop.ReadStop.TheVariants.{Failed}
use Rattle.packet_reader.specs.Reading.{PacketReading, bytes_left}
use Rattle.mux_model.specs.declared.mux.Mux.{Mux}
use Rattle.journal_model.specs.declared.step.Step.{Step}
use Rattle.journal_model.specs.declared.step.Step.TheVariants.{Edit as edit, Tick, Publish, Swap}
use Rattle.journal_model.specs.declared.step.Outcome.{Outcome}
use Rattle.journal_model.specs.declared.step.Entry.{Entry}
use Rattle.desk_core.specs.Journal.{Legal, entry_after, moment_of, publishes}
use Rattle.desk_core.specs.Desks.{DeskState, fresh}
use Rattle.desk_core.proofs.DerivedFacts.{not_aired}
use Rattle.journal_air.specs.Air.{airings, mux_form}
use Rattle.version_book.specs.Airings.{AiredTables, CycleForm}
use Rattle.ts_packets.specs.WholePackets.{whole_packets}
use Rattle.air_model.specs.declared.rule.Rule.{Rule}
use Rattle.journal_air.specs.OnAir.{airing_on, is_swap}
use Rattle.journal_air.proofs.SwapFacts.{airings-other, airings-swap}
use Rattle.epg_report.specs.declared.status.Status.{Status}
use Rattle.epg_report.specs.declared.status.Status.TheVariants.{BadStream, Memory, NotAir, ReadFault, TooLong}
use Rattle.epg_report.specs.declared.status.Origin.TheVariants.{Recording}
use Rattle.epg_play.specs.declared.stop.PlayStop.{PlayStop}
use Rattle.epg_play.specs.declared.stop.PlayStop.TheVariants.{Read, Memory as NoMemory}
use Rattle.journal_model.specs.Raising.{all_raised}
use Rattle.epg_play.specs.declared.desk.ScriptDesk.{ScriptDesk}
use Rattle.epg_play.specs.declared.item.ItemDone.TheVariants as item
use Rattle.epg_play.specs.Items.{IsAt, ItemLeft, Stands, StepAt, Stops, Went}
use Rattle.epg_play.proofs.RunFacts.{none_raised}
use Rattle.epg_play.specs.Leaves.{status_for}
use Rattle.epg_play.specs.Played.{IsItemStop}
use Rattle.epg_audit.specs.Audits.{AuditDid, DeskAudited, ScriptStops, desk_airings}
use Rattle.epg_audit.specs.Checks.{AreTaken, Checks, Ends, Follows, GivesEnd, GivesNoMore}
use Rattle.epg_audit.specs.Recorded.{BeginsWithAir, IsFaulty, passed_over}
use Rattle.epg_audit.proofs.Faults.{cut_short, differs_at_end, past_limit, recorded}
use Rattle.epg_audit.proofs.Pieces.{front_is, packets_parted, packets_taken}
use Rattle.air_audit.specs.CycleAirs.{AreAirAt}
use Rattle.air_audit.specs.CycleChecking.{Auditing, IsAtEnd, form_of}
use Rattle.air_audit.proofs.CycleLaws.{end_is_air, stands_begins}
use Rattle.air_audit.specs.TimedAirs.{seen}

-- ---- what a step puts on air

swapped : (mux : Mux) (xs : List Entry) (who : ℕ) (step : Step) → Legal mux xs → is_swap step ≡ true
    → airings mux (xs ++ entry_after mux xs (who, step) ∷ []) ≡ airings mux xs ++ airing_on (record { mux = mux; entries = xs ++ entry_after mux xs (who, step) ∷ [] }) (mux_form mux) ∷ []
swapped mux xs who Swap legal is = airings-swap mux xs (entry_after mux xs (who, Swap)) (publishes xs, moment_of mux xs) legal refl
swapped mux xs who Publish legal is = (let no_swap : ⊥ = cc in absurd no_swap)
swapped mux xs who (edit feed e) legal is = (let no_swap : ⊥ = cc in absurd no_swap)
swapped mux xs who (Tick at) legal is = (let no_swap : ⊥ = cc in absurd no_swap)

kept : (mux : Mux) (xs : List Entry) (who : ℕ) (step : Step) → Legal mux xs → is_swap step ≡ false → airings mux (xs ++ entry_after mux xs (who, step) ∷ []) ≡ airings mux xs
kept mux xs who Swap legal is = (let no_other : ⊥ = cc in absurd no_other)
kept mux xs who Publish legal is = airings-other mux xs (entry_after mux xs (who, Publish)) legal refl
kept mux xs who (edit feed e) legal is = airings-other mux xs (entry_after mux xs (who, edit feed e)) legal refl
kept mux xs who (Tick at) legal is = airings-other mux xs (entry_after mux xs (who, Tick at)) legal (not_aired (moment_of mux xs) at)

-- a swap puts one airing more on air, in a cycle of the checker's form
pub swap_adds : (desk new : DeskState) (c : Auditing) → Legal desk.mux desk.entries
    → StepAt true desk new → form_of c ≡ mux_form desk.mux
    → desk_airings desk ++ airing_on new (form_of c) ∷ [] ≡ desk_airings new
swap_adds desk new c legal s form =
    ap (λ (f : CycleForm). desk_airings desk ++ airing_on new f ∷ []) form
    ∙ ap (λ (d : DeskState). desk_airings desk ++ airing_on d (mux_form desk.mux) ∷ []) s.did
    ∙ sym (ap desk_airings s.did ∙ swapped desk.mux desk.entries s.who s.step legal s.is)

-- and nothing else does
pub other_keeps : (desk new : DeskState) → Legal desk.mux desk.entries → StepAt false desk new ⊎ (new ≡ desk) → desk_airings new ≡ desk_airings desk
other_keeps desk new legal (inl s) = ap desk_airings s.did ∙ kept desk.mux desk.entries s.who s.step legal s.is
other_keeps desk new legal (inr same) = ap desk_airings same

-- the multiplex stays
pub step_mux : (swap : Bool) (desk new : DeskState) → StepAt swap desk new → new.mux ≡ desk.mux
step_mux swap desk new s = ap (λ (d : DeskState). d.mux) s.did

pub other_mux : (desk new : DeskState) → StepAt false desk new ⊎ (new ≡ desk) → new.mux ≡ desk.mux
other_mux desk new (inl s) = step_mux false desk new s
other_mux desk new (inr same) = ap (λ (d : DeskState). d.mux) same

-- ---- what an audit does

module _ {S F : Type 0} (nulls : Bool) (left : S → Option (List ℕ)) (gives : F → Option (List ℕ)) (first now : Reading S) (start mid new : PacketReading F) (before desk : DeskState) where
  abbrev rate : Option ℕ
  rate = desk.mux.rate

  abbrev Did : Result (Unit {0}) Status → Type 0
  Did result = AuditDid nulls left gives first now start before desk result

  -- the packets so far are an air of what the desk has put on air
  front_air : (rate : Option ℕ) (airings : List AiredTables) (c : Auditing) (passed : Option ℕ)
      (bytes : List ℕ) → (f : Follows rate nulls gives start mid airings c passed) → IsAtEnd c
      → bytes_left gives start ≡ Some bytes → BeginsWithAir rate nulls airings bytes
  front_air rate airings c passed bytes f end told =
      let t = f.taken bytes told in
      let all = packets_parted bytes f.packets t.0 t.2 in
      let front : take (length f.packets) (whole_packets bytes) ≡ f.packets = ap (take (length f.packets)) all ∙ front_is f.packets (whole_packets t.0) (length f.packets) refl in
      record {
        n = length f.packets;
        within = omega (arith, ap length all, length-append f.packets (whole_packets t.0));
        air = subst (λ (l : List (List ℕ)). AreAirAt rate nulls airings (seen nulls l)) (sym front)
            (end_is_air rate nulls airings (seen nulls f.packets) c f.is_of f.stands end);
      }

  -- the script stops
  pub script_did : (old : DeskState) (c : Auditing) (passed : Option ℕ) (stop : PlayStop)
      → Follows old.mux.rate nulls gives start mid (desk_airings old) c passed → IsAtEnd c
      → desk ≡ old → IsItemStop stop → Stops 0 left first now before desk (Err stop)
      → Did (Err (status_for stop))
  script_did old c passed stop f end same is stops = by stop is stops
    where
      here : (s : PlayStop) → IsItemStop s → Stops 0 left first now before desk (Err s) → ScriptStops nulls left gives first now start before desk (status_for s)
      here s is stops = record {
        stop = s;
        is = refl;
        of_script = is;
        stops = stops;
        behind = λ bytes told. subst (λ (d : DeskState). BeginsWithAir d.mux.rate nulls
            (desk_airings d) bytes) (sym same)
            (front_air old.mux.rate (desk_airings old) c passed bytes f end told);
      }

      by : (s : PlayStop) → IsItemStop s → Stops 0 left first now before desk (Err s) → Did (Err (status_for s))
      by NoMemory is stops = tt
      by (Read Failed) is stops = inl (here (Read Failed) is stops)
      by s is stops = inl (here s is stops)

  -- the recording is at fault in a cycle
  pub cycle_did : (airings : List AiredTables) (c : Auditing) (passed : Option ℕ)
      (made : Option Outcome) (status : Status) → airings ≡ desk_airings desk
      → Went 0 left first now before desk made
      → Checks rate nulls gives start new airings c passed (Err status)
      → Did (Err status)
  cycle_did airings c passed made Memory same went checks = tt
  cycle_did airings c passed made status same went checks = by status went checks
    where
      by : (s : Status) → Went 0 left first now before desk made
          → Checks rate nulls gives start new airings c passed (Err s) → Did (Err s)
      by Memory went checks = tt
      by other went checks = inr (inl (record {
        made = made;
        went = went;
        faulty = λ bytes told others can. subst
            (λ (l : List AiredTables). IsFaulty rate nulls (l ++ others) bytes other) same
            (checks bytes told others can);
      }))

  -- the script is at its end
  end_faulty : (airings : List AiredTables) (c : Auditing) (passed : Option ℕ) (bytes : List ℕ)
      (status : Status) → (f : Follows rate nulls gives start mid airings c passed) → IsAtEnd c
      → bytes_left gives start ≡ Some bytes → GivesEnd nulls gives mid (Err status)
      → IsFaulty rate nulls airings bytes status
  end_faulty airings c passed bytes status f end told ends = by status (ends t.0 t.1)
    where
      t : (rest : List ℕ) × (bytes_left gives mid ≡ Some rest) × AreTaken bytes f.packets rest
      t = f.taken bytes told

      by : (s : Status) → GivesNoMore nulls t.0 mid.number (Err s)
          → IsFaulty rate nulls airings bytes s
      by (NotAir n rule) is =
          subst (λ (r : Rule). IsFaulty rate nulls airings bytes (NotAir n r)) (sym is.1)
          (differs_at_end rate nulls airings bytes f.packets t.0 n c f.is_of f.stands end t.2 is.2
          is.3 (is.0 ∙ f.number))
      by (BadStream n) is = cut_short rate nulls airings bytes f.packets t.0 n
          (stands_begins rate nulls airings (seen nulls f.packets) c f.is_of f.stands) t.2 is.1 is.2
          (is.0 ∙ f.number)
      by (TooLong Recording) is = past_limit rate nulls airings bytes f.packets t.0
          (stands_begins rate nulls airings (seen nulls f.packets) c f.is_of f.stands) t.2 is.1
          (omega (arith, is.0, f.number, f.within))
      by (ReadFault Recording) is = tt
      by other is = absurd is

  pub end_did : (c : Auditing) (passed : Option ℕ) (result : Result (Unit {0}) Status)
      → Follows rate nulls gives start mid (desk_airings desk) c passed → IsAtEnd c
      → Stops 0 left first now before desk (Ok tt) → GivesEnd nulls gives mid result → Did result
  end_did c passed (Ok u) f end stops ends = (
    stops,
    λ bytes told.
        let t = f.taken bytes told in
        recorded rate nulls (desk_airings desk) bytes f.packets t.0
        (end_is_air rate nulls (desk_airings desk) (seen nulls f.packets) c f.is_of f.stands
        end) t.2 (ends t.0 t.1) f.within,
  )
  end_did c passed (Err status) f end stops ends = by status ends
    where
      by : (s : Status) → GivesEnd nulls gives mid (Err s) → Did (Err s)
      by Memory e = tt
      by other e = inr (inr (record { ended = stops; faulty = λ bytes told. end_faulty (desk_airings desk) c passed bytes other f end told e }))

  -- the packets were counted
  abbrev pub AreCounted : Option ℕ → List ℕ → Type 0
  AreCounted passed bytes = (new.number ≡ length (whole_packets bytes)) × (passed ≡ passed_over nulls (whole_packets bytes))

  end_number : (c : Auditing) (passed : Option ℕ) (bytes : List ℕ)
      → (f : Follows rate nulls gives start mid (desk_airings desk) c passed)
      → bytes_left gives start ≡ Some bytes → GivesEnd nulls gives mid (Ok tt)
      → new.number ≡ mid.number
      → AreCounted passed bytes
  end_number c passed bytes f told ends same =
      let t = f.taken bytes told in
      let all : whole_packets bytes ≡ f.packets = packets_taken bytes f.packets t.0 t.2 (omega (arith, ap length (ends t.0 t.1))) in
      (same ∙ f.number ∙ sym (ap length all), f.counted ∙ sym (ap (passed_over nulls) all))

  pub end_counts : (c : Auditing) (passed : Option ℕ) (bytes : List ℕ)
      (result : Result (Unit {0}) Status)
      → Follows rate nulls gives start mid (desk_airings desk) c passed
      → bytes_left gives start ≡ Some bytes → GivesEnd nulls gives mid result
      → OnOk result (new.number ≡ mid.number) → OnOk result (AreCounted passed bytes)
  end_counts c passed bytes (Ok u) f told ends same = end_number c passed bytes f told ends same
  end_counts c passed bytes (Err status) f told ends same = tt

-- ---- so far an audit has come

pub own_entries : (mux : Mux) (state : DeskState) (desk : ScriptDesk) → IsAt (fresh mux) state desk → desk.keeps ≡ true → desk.shift ≡ 0 → desk.made.items ≡ state.entries
own_entries mux state desk at keeps shift =
    at.made keeps ∙ ap (λ (n : ℕ). all_raised n at.more) shift ∙ none_raised at.more ∙ sym at.entries

pub record Audits {S F : Type 0} (left : S → Option (List ℕ)) (gives : F → Option (List ℕ)) (first now : Reading S) (start mid : PacketReading F) (old desk : ScriptDesk) (c : Auditing) (passed_old passed : Option ℕ) : Type 0 where
  pub state : DeskState
  pub at : IsAt (fresh old.desk.mux) state desk
  pub shift : desk.shift ≡ 0
  pub form : form_of c ≡ mux_form state.mux
  pub went : Went desk.shift left first now (fresh old.desk.mux) state desk.last
  pub follows : (nulls : Bool) → passed_old ≡ passed_over nulls [] → Follows state.mux.rate nulls gives start mid (desk_airings state) c passed

module _ {S F : Type 0} (left : S → Option (List ℕ)) (gives : F → Option (List ℕ)) (first now new : Reading S) (start mid : PacketReading F) (old desk next : ScriptDesk) (c : Auditing) (passed_old passed : Option ℕ)
    (a : Audits left gives first now start mid old desk c passed_old passed) (shift : next.shift ≡ desk.shift) where
  abbrev before : DeskState
  before = fresh old.desk.mux

  legal : Legal a.state.mux a.state.entries
  legal = subst (λ (m : Mux). Legal m a.state.entries) a.at.stands.mux a.at.stands.journal.legal

  -- of an item that goes on, and of a stop, with the numbers of the journal itself
  pub own_went : (state : DeskState) → Went next.shift left first new before state next.last → Went 0 left first new before state next.last
  own_went state w = subst (λ (n : ℕ). Went n left first new before state next.last) (shift ∙ a.shift) w

  pub own_stops : (state : DeskState) (r : Result (Unit {0}) PlayStop) → Stops next.shift left first new before state r → Stops 0 left first new before state r
  own_stops state r s = subst (λ (n : ℕ). Stops n left first new before state r) (shift ∙ a.shift) s

  pub audits_other : ItemLeft left first new before a.state next (Ok item.Other) → Audits left gives first new start mid old next c passed_old passed
  audits_other i = record {
    state = i.now;
    at = i.at;
    shift = shift ∙ a.shift;
    form = a.form ∙ sym (ap mux_form (other_mux a.state i.now i.did));
    went = i.goes_on;
    follows = λ nulls none. subst (λ (l : List AiredTables). Follows i.now.mux.rate nulls gives start mid l c passed) (sym (other_keeps a.state i.now legal i.did))
        (subst (λ (m : Mux). Follows m.rate nulls gives start mid (desk_airings a.state) c passed) (sym (other_mux a.state i.now i.did)) (a.follows nulls none));
  }

  module _ (i : ItemLeft left first new before a.state next (Ok item.Swap)) (later : PacketReading F) (c2 : Auditing) (passed2 : Option ℕ) (r : Result (Unit {0}) Status)
      (checks : (state : DeskState) → Stands state next.desk → (rate : Option ℕ) (nulls : Bool) (start : PacketReading F) (past : List AiredTables)
      → Follows rate nulls gives start mid past c passed → Checks rate nulls gives start later (past ++ airing_on state (form_of c) ∷ []) c2 passed2 r) where
    pub checked : (nulls : Bool) → passed_old ≡ passed_over nulls [] → Checks i.now.mux.rate nulls gives start later (desk_airings a.state ++ airing_on i.now (form_of c) ∷ []) c2 passed2 r
    checked nulls none =
        checks i.now i.at.stands i.now.mux.rate nulls start (desk_airings a.state)
        (subst (λ (m : Mux). Follows m.rate nulls gives start mid (desk_airings a.state) c passed) (sym (step_mux true a.state i.now i.did)) (a.follows nulls none))

    pub added : desk_airings a.state ++ airing_on i.now (form_of c) ∷ [] ≡ desk_airings i.now
    added = swap_adds a.state i.now c legal i.did a.form

  pub audits_swap : (i : ItemLeft left first new before a.state next (Ok item.Swap)) (later : PacketReading F) (c2 : Auditing) (passed2 : Option ℕ) → form_of c2 ≡ form_of c
      → ((state : DeskState) → Stands state next.desk → (rate : Option ℕ) (nulls : Bool) (start : PacketReading F) (past : List AiredTables)
      → Follows rate nulls gives start mid past c passed → Checks rate nulls gives start later (past ++ airing_on state (form_of c) ∷ []) c2 passed2 (Ok tt))
      → Audits left gives first new start later old next c2 passed_old passed2
  audits_swap i later c2 passed2 form checks = record {
    state = i.now;
    at = i.at;
    shift = shift ∙ a.shift;
    form = form ∙ a.form ∙ sym (ap mux_form (step_mux true a.state i.now i.did));
    went = i.goes_on;
    follows = λ nulls none. subst (λ (l : List AiredTables). Follows i.now.mux.rate nulls gives start later l c2 passed2)
        (added i later c2 passed2 (Ok tt) checks) (checked i later c2 passed2 (Ok tt) checks nulls none);
  }

  -- the script is at its end, and the packets after its last cycle were looked at
  pub audits_end : (nulls : Bool) → passed_old ≡ passed_over nulls []
      → (i : ItemLeft left first new before a.state next (Ok item.End)) → next.keeps ≡ true → IsAtEnd c
      → (later : PacketReading F) (passed2 : Option ℕ) (result : Result (Unit {0}) Status)
      → ((rate : Option ℕ) (nulls : Bool) (start : PacketReading F) (past : List AiredTables) (c : Auditing)
      → Follows rate nulls gives start mid past c passed
      → Ends rate nulls gives start later past c passed2 result)
      → DeskAudited nulls left gives first new start old next result
  audits_end nulls none i keeps at_end later passed2 result checks =
      let follows = subst (λ (d : DeskState). Follows d.mux.rate nulls gives start mid (desk_airings d) c passed)
      (sym i.did) (a.follows nulls none) in
      let ends = checks i.now.mux.rate nulls start (desk_airings i.now) c follows in
      record {
        state = i.now;
        made = own_entries old.desk.mux i.now next i.at keeps (shift ∙ a.shift);
        did = end_did nulls left gives first new start ends.last later before i.now c passed2 result
            ends.follows at_end (own_stops i.now (Ok tt) i.goes_on) ends.gives;
      }
