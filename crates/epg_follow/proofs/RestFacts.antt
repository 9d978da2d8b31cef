-- Following the rest of a script, from what each line did.
use Rattle.std.proofs.Common.{◌≡◌, ◌≤◌, ℕ, Bool, true, false, List, [], ◌∷◌, inl, inr, ◌⊎◌, arith}
use Rattle.std.specs.Prelude.{Option, Some, None, is_some, Ok, Err, Result}
use Rattle.si_causes.proofs.CauseFacts.{Rose-from}
use Rattle.si_causes.specs.Reading.{Reading, text_left}
use Rattle.si_causes.specs.declared.stop.ReadStop.TheVariants.{Failed, TooLong as Overlong}
use Rattle.input_lines.specs.Ahead as reading
use Rattle.journal_model.specs.declared.step.Entry.{Entry}
use Rattle.epg_play.specs.Script.{NoCommand as NoLine, Disagreed}
use Rattle.script_notes.specs.Pieces.{Noted}
use Rattle.epg_follow.specs.declared.follower.Follower.{Follower}
use Rattle.epg_follow.specs.declared.stop.FollowStop.{FollowStop}
use Rattle.epg_follow.specs.declared.stop.FollowStop.TheVariants.{NoCommand, Disagrees, Read, Air, Report, Memory}
use Rattle.script_notes.specs.declared.noting.Noting.{Noting}
use Rattle.input_lines.specs.Ahead.{ahead}
use Rattle.epg_follow.specs.Going.{Stops, Went, followed_at}
use Rattle.epg_follow.specs.Items.{DidNothing, HaveCauses, ItemDid, LineGivenUp, NotingCame}
use Rattle.epg_follow.specs.Rest.{RestDid, journal_at}
use Rattle.epg_follow.proofs.GoingFacts.{cut, given_up, line_ends, nothing_more, read_ended, read_failed, read_on, took, unreported, went_line}

module _ {S : Type 0} (keep : Bool) (left : S → Option (List ℕ)) (faults : S → ℕ) (old now new : Reading S) (journal : List Entry) (start mid end : Follower)
    (w0 w1 w2 r0 r1 r2 : Option (List ℕ)) (f0 f1 f2 g0 g1 g2 : ℕ)
    (w : Went keep left old now journal start mid (took w0 w1 f0 f1) (took r0 r1 g0 g1)) (mux : end.desk.mux ≡ mid.desk.mux) (shift : end.shift ≡ mid.shift) where
  abbrev Did : Result Bool FollowStop → Type 0
  Did r = ItemDid keep left faults now new (journal_at w.reached.entering) mid end (took w1 w2 f1 f2) (took r1 r2 g1 g2) r

  pub went_on : Did (Ok true) → Went keep left old new journal start end (took w0 w2 f0 f2) (took r0 r2 g0 g2)
  went_on (noting, came, done) = went_line keep left old now new journal start mid end w0 w1 w2 r0 r1 r2 f0 f1 f2 g0 g1 g2 w noting mux shift done came

  pub ended_there : Did (Ok false) → Stops keep left old new journal start end (took w0 w2 f0 f2) (took r0 r2 g0 g2) (Ok tt)
  ended_there (stops, nothing) = (
    λ text told. read_ended keep left old now new journal start mid end w0 w1 w2 r0 r1 r2 f0 f1 f2 g0 g1 g2 w mux shift nothing.player nothing.silent nothing.unreported reading.End stops text told,
    tt,
  )

  pub stopped_there : (stop : FollowStop) → Did (Err stop) → Stops keep left old new journal start end (took w0 w2 f0 f2) (took r0 r2 g0 g2) (Err stop)
  stopped_there (NoCommand n why) (noting, came, refused) = (
    λ text told. line_ends keep left old now new journal start mid end w0 w1 w2 r0 r1 r2 f0 f1 f2 g0 g1 g2 w noting (NoLine n) (Noted n why ∷ []) mux shift refused came text told,
    tt,
  )
  stopped_there (Disagrees n kept found) (noting, came, refused) = (
    λ text told. line_ends keep left old now new journal start mid end w0 w1 w2 r0 r1 r2 f0 f1 f2 g0 g1 g2 w noting (Disagreed n kept found) [] mux shift refused came text told,
    tt,
  )
  stopped_there (Read Overlong) (stops, nothing) = (
    λ text told. read_ended keep left old now new journal start mid end w0 w1 w2 r0 r1 r2 f0 f1 f2 g0 g1 g2 w mux shift nothing.player nothing.silent nothing.unreported reading.TooLong stops text told,
    tt,
  )
  stopped_there (Read Failed) (fault, nothing) = (
    λ text told. read_on keep left old now new journal start mid end w0 w1 w2 r0 r1 r2 f0 f1 f2 g0 g1 g2 w mux shift nothing.player nothing.silent nothing.unreported text told,
    read_failed keep left old now new journal start mid end w0 w1 w2 r0 r1 r2 f0 f1 f2 g0 g1 g2 w faults mux shift nothing.player nothing.silent nothing.unreported fault,
  )
  stopped_there Air (noting, came, did) = (
    λ text told. cut keep left old now new journal start mid end w0 w1 w2 r0 r1 r2 f0 f1 f2 g0 g1 g2 w noting mux shift did came text told,
    tt,
  )
  stopped_there Report (noting, came, did) = (
    λ text told. unreported keep left old now new journal start mid end w0 w1 w2 r0 r1 r2 f0 f1 f2 g0 g1 g2 w noting did came text told,
    tt,
  )
  stopped_there Memory did = (λ text told. by did text told, tt)
    where
      by : DidNothing mid end (took w1 w2 f1 f2) (took r1 r2 g1 g2)
          ⊎ ((noting : Noting) × NotingCame left (is_some mid.made) mid.held end.held now new noting × LineGivenUp keep (journal_at w.reached.entering) mid end noting (took w1 w2 f1 f2) (took r1 r2 g1 g2))
          → (text : List ℕ) → text_left left old ≡ Some text
          → RestDid journal start end (took w0 w2 f0 f2) (took r0 r2 g0 g2) (followed_at keep start.shift start.desk.mux journal None (ahead old text)) (Err Memory)
      by (inl nothing) text told = nothing_more keep left old now new journal start mid end w0 w1 w2 r0 r1 r2 f0 f1 f2 g0 g1 g2 w nothing.silent nothing.unreported text told
      by (inr (noting, came, up)) text told = given_up keep left old now new journal start mid end w0 w1 w2 r0 r1 r2 f0 f1 f2 g0 g1 g2 w noting up came text told

-- the causes of a call that comes after others
pub causes_join : {T U : Type 0} (s0 s1 s2 f0 f1 f2 g0 g1 g2 : ℕ) (w0 w1 w2 r0 r1 r2 : Option (List ℕ)) (r : Result T FollowStop) (q : Result U FollowStop)
    → s0 ≤ s1 → f0 ≤ f1 → g0 ≤ g1 → HaveCauses s1 s2 (took w1 w2 f1 f2) (took r1 r2 g1 g2) r
    → (q ≡ Err (Read Failed) → r ≡ Err (Read Failed)) → (q ≡ Err Air → r ≡ Err Air) → (q ≡ Err Report → r ≡ Err Report)
    → HaveCauses s0 s2 (took w0 w2 f0 f2) (took r0 r2 g0 g2) q
causes_join s0 s1 s2 f0 f1 f2 g0 g1 g2 w0 w1 w2 r0 r1 r2 r q s f g c read air report = record {
  read_later = omega (arith, s, c.read_later);
  air_later = omega (arith, f, c.air_later);
  report_later = omega (arith, g, c.report_later);
  read = λ e. Rose-from s0 s1 s2 s (c.read (read e));
  air_cause = λ e. Rose-from f0 f1 f2 f (c.air_cause (air e));
  report_cause = λ e. Rose-from g0 g1 g2 g (c.report_cause (report e));
}
