-- One of two stops, and the statuses of stops.
use Rattle.std.proofs.Common.{◌≡◌, ◌⊎◌, inl, inr, ℕ, ◌+◌, List, [], ◌∷◌, refl, sym, ap, ◌∙◌}
use Rattle.std.specs.Prelude.{◌↔◌, Bool, true, false, Option, Some, None, IsSome, Err, Result}
use Rattle.si_causes.specs.declared.stop.ReadStop.TheVariants.{Failed, TooLong as Overlong}
use Rattle.input_lines.specs.declared.stop.EditStop.{EditStop}
use Rattle.input_lines.specs.declared.stop.EditStop.TheVariants as edit
use Rattle.desk_hall.specs.Reads.{HasReadCause}
use Rattle.headend_jobs.specs.declared.live.LiveStop.{LiveStop}
use Rattle.headend_jobs.specs.declared.live.LiveStop.TheVariants as live
use Rattle.journal_air.specs.declared.send.SendStop.{SendStop}
use Rattle.journal_air.specs.declared.send.SendStop.TheVariants as send
use Rattle.journal_air.specs.OnAir.{HasAirCause}
use Rattle.headend_jobs.specs.Stops.{after, and_stop, control_stop, feed_stop, feeds_stop, or_feed, run_stop, sent_stop}
use Rattle.headend_live.specs.Watched.{watched_stop}
use Rattle.guide_screen.specs.declared.need.Heard.{Heard}
use Rattle.headend_live.proofs.Viewed.{and_none, no_stop}
use Rattle.epg_report.specs.declared.status.Status.{Status}
use Rattle.epg_report.specs.declared.status.Status.TheVariants.{Done}
use Rattle.epg_live.specs.Stops.{HaveReadCauses, HasStatusCause, live_status}

-- what holds of either holds of the one that is taken
after_keeps : (P : Option LiveStop → Type 0) (first : LiveStop) (b : Option LiveStop) → P (Some live.Memory) → P (Some first) → P (after first b)
after_keeps P first None m p = p
after_keeps P first (Some live.Memory) m p = m
after_keeps P first (Some other) m p = p

and_keeps : (P : Option LiveStop → Type 0) (a b : Option LiveStop) → P (Some live.Memory) → P a → P b → P (and_stop a b)
and_keeps P None b m p q = q
and_keeps P (Some live.Memory) b m p q = m
and_keeps P (Some live.Air) b m p q = after_keeps P live.Air b m p
and_keeps P (Some (live.Control t)) b m p q = after_keeps P (live.Control t) b m p
and_keeps P (Some (live.Feed g t)) b m p q = after_keeps P (live.Feed g t) b m p

pub no_control : (stop : Option EditStop) → control_stop stop ≡ None → stop ≡ None
no_control None e = refl
no_control (Some (edit.NoCommand n)) e = cc
no_control (Some (edit.Read s)) e = cc
no_control (Some edit.Memory) e = cc

-- Done exactly where there is no stop
pub done_none : (stop : Option LiveStop) → live_status stop ≡ Done → stop ≡ None
done_none None e = refl
done_none (Some live.Air) e = cc
done_none (Some live.Memory) e = cc
done_none (Some (live.Control (edit.NoCommand n))) e = cc
done_none (Some (live.Control (edit.Read Failed))) e = cc
done_none (Some (live.Control (edit.Read Overlong))) e = cc
done_none (Some (live.Control edit.Memory)) e = cc
done_none (Some (live.Feed f (edit.NoCommand n))) e = cc
done_none (Some (live.Feed f (edit.Read Failed))) e = cc
done_none (Some (live.Feed f (edit.Read Overlong))) e = cc
done_none (Some (live.Feed f edit.Memory)) e = cc

-- so a guide that is told where there is none is told with Done
pub done_told : (heard : Option Heard) (end : Option LiveStop) (met : Status) → met ≡ live_status end → IsSome heard ↔ (end ≡ None) → IsSome heard ↔ (met ≡ Done)
done_told heard end met is told = (λ some. is ∙ ap live_status (told.0 some), λ done. told.1 (done_none end (sym is ∙ done)))

-- with Done the control met no stop
pub done_control : (wanting : Bool) (end : Option LiveStop) (sent : Result (Unit {0}) SendStop) (control : Option EditStop) (feeds : Option LiveStop)
    → end ≡ watched_stop wanting (run_stop sent control feeds) → live_status end ≡ Done → control ≡ None
done_control wanting end sent control feeds is done =
    no_control control (and_none (control_stop control) feeds (and_none (sent_stop sent) (and_stop (control_stop control) feeds) (no_stop wanting (run_stop sent control feeds) (sym is ∙ done_none end done))).1).0

pub memory_or : (stop : Option LiveStop) → (stop ≡ Some live.Memory) ⊎ (stop ≡ Some live.Memory → ⊥)
memory_or None = inr (λ e. cc)
memory_or (Some live.Memory) = inl refl
memory_or (Some other) = inr (λ e. cc)

pub unless_wanting : (wanting : Bool) (end stop : Option LiveStop) → end ≡ watched_stop wanting stop → (end ≡ Some live.Memory → ⊥) → end ≡ stop
unless_wanting true end stop is other = absurd (other is)
unless_wanting false end stop is other = is

-- ---- causes

module _ (input_before input_now feeds_before feeds_now air_before air_now : ℕ) where
  abbrev Caused : Option LiveStop → Type 0
  Caused stop = HasStatusCause input_before input_now feeds_before feeds_now air_before air_now (live_status stop)

  sent_caused : (sent : Result (Unit {0}) SendStop) → HasAirCause air_before air_now sent → Caused (sent_stop sent)
  sent_caused (Err send.Air) cause = cause
  sent_caused other cause = tt

  control_caused : (stop : Option EditStop) → HasReadCause input_before input_now stop → Caused (control_stop stop)
  control_caused (Some (edit.Read Failed)) cause = cause
  control_caused (Some (edit.Read Overlong)) cause = tt
  control_caused other cause = tt

  feed_caused : (f : ℕ) (stop : Option EditStop) → HasReadCause feeds_before feeds_now stop → Caused (feed_stop f stop)
  feed_caused f (Some (edit.Read Failed)) cause = cause
  feed_caused f (Some (edit.Read Overlong)) cause = tt
  feed_caused f other cause = tt

  feeds_caused : (first : Option LiveStop) (f : ℕ) (stops : List (Option EditStop)) → Caused first → HaveReadCauses feeds_before feeds_now stops → Caused (feeds_stop first f stops)
  feeds_caused first f [] here causes = here
  feeds_caused first f (stop ∷ stops) here (cause, causes) =
      feeds_caused (or_feed first f stop) (f + 1) stops (and_keeps Caused first (feed_stop f stop) tt here (feed_caused f stop cause)) causes

  watched_caused : (wanting : Bool) (stop : Option LiveStop) → Caused stop → Caused (watched_stop wanting stop)
  watched_caused true stop cause = tt
  watched_caused false stop cause = cause

  pub run_caused : (wanting : Bool) (sent : Result (Unit {0}) SendStop) (control : Option EditStop) (stops : List (Option EditStop)) → HasAirCause air_before air_now sent → HasReadCause input_before input_now control
      → HaveReadCauses feeds_before feeds_now stops → Caused (watched_stop wanting (run_stop sent control (feeds_stop None 1 stops)))
  run_caused wanting sent control stops air input feeds =
      watched_caused wanting (run_stop sent control (feeds_stop None 1 stops))
      (and_keeps Caused (sent_stop sent) (and_stop (control_stop control) (feeds_stop None 1 stops)) tt (sent_caused sent air)
      (and_keeps Caused (control_stop control) (feeds_stop None 1 stops) tt (control_caused control input) (feeds_caused None 1 stops tt feeds)))
