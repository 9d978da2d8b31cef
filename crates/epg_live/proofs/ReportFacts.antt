-- A report of `live` tells its journal, and that is a script.
use Rattle.std.proofs.Common.{◌≡◌, ◌∙◌, ◌++◌, ◌∷◌, [], ℕ, Bool, true, false, List, refl, sym, subst, append_assoc}
use Rattle.std.specs.Prelude.{Option, Some, None, Ok, if◌then◌else◌}
use Rattle.mux_model.specs.declared.mux.Mux.{Mux}
use Rattle.mux_config.specs.Texts.{described}
use Rattle.input_lines.specs.Ahead.{Ahead, Came}
use Rattle.journal_model.specs.declared.step.Entry.{Entry}
use Rattle.desk_core.specs.Journal.{Legal}
use Rattle.journal_text.specs.Back.{BeginsNoEntry}
use Rattle.journal_text.specs.Entries.{journal_text}
use Rattle.journal_text.proofs.Journals.{journals_end}
use Rattle.guide_screen.specs.declared.need.Need.TheVariants.{Pat, Nit, Sdt, Clock, Pmt, Present, Schedule}
use Rattle.guide_screen.specs.declared.need.Heard.{Heard}
use Rattle.guide_screen.specs.declared.need.Heard.TheVariants.{Whole, Wanting}
use Rattle.guide_text.specs.Fields.{optional}
use Rattle.guide_text.specs.Guides.{guide_text}
use Rattle.air_monitor.specs.declared.done_line.DoneLine.{DoneLine}
use Rattle.headend_live.specs.declared.views.ViewLine.{ViewLine}
use Rattle.epg_report.specs.declared.status.Status.{Status}
use Rattle.cycle_player.specs.Tally.{Tallied}
use Rattle.epg_report.specs.Rates.{rate_line}
use Rattle.epg_live.specs.Runs.{rate_text}
use Rattle.epg_report.specs.Texts.{fault_line, fault_lines, fault_text, has_line}
use Rattle.epg_play.proofs.AgainFacts.{journals-again}
use Rattle.epg_live.specs.declared.reporting.Observed.{Observed}
use Rattle.epg_live.specs.Ends.{done_text, observed_text}
use Rattle.epg_live.specs.Views.{views_text}
use Rattle.epg_live.specs.Reports.{IsScript, LiveReportsTellJournals}

-- ---- the lines that are no entries

joined : (xs rest : List ℕ) → BeginsNoEntry xs → BeginsNoEntry rest → BeginsNoEntry (xs ++ rest)
joined [] rest none more = more
joined (b ∷ bs) rest none more = none

dones_begin : (dones : List DoneLine) → BeginsNoEntry (done_text dones)
dones_begin [] = tt
dones_begin (line ∷ dones) = refl

views_begin : (lines : List ViewLine) → BeginsNoEntry (views_text lines)
views_begin [] = tt
views_begin (line ∷ lines) = refl

guide_begins : (guide : Option Heard) → BeginsNoEntry (optional guide_text guide)
guide_begins None = tt
guide_begins (Some (Whole shown)) = refl
guide_begins (Some (Wanting [])) = refl
guide_begins (Some (Wanting (Pat ∷ needs))) = refl
guide_begins (Some (Wanting (Nit ∷ needs))) = refl
guide_begins (Some (Wanting (Sdt ∷ needs))) = refl
guide_begins (Some (Wanting (Clock ∷ needs))) = refl
guide_begins (Some (Wanting (Pmt pid program ∷ needs))) = refl
guide_begins (Some (Wanting (Present service ∷ needs))) = refl
guide_begins (Some (Wanting (Schedule service table ∷ needs))) = refl

fault_begins : (shown : Bool) (text : List ℕ) → BeginsNoEntry (if shown then fault_line text else [])
fault_begins true text = refl
fault_begins false text = tt

rate_begins : (rate : Option ℕ) (tally : Tallied) → BeginsNoEntry (rate_line rate tally)
rate_begins None tally = tt
rate_begins (Some rate) tally = refl

begins : (o : Observed) (s : Status) → BeginsNoEntry (observed_text o ++ fault_lines s)
begins o s =
    joined (observed_text o) (fault_lines s)
    (joined (done_text o.dones ++ views_text o.views ++ optional guide_text o.guide) (rate_text o)
    (joined (done_text o.dones ++ views_text o.views) (optional guide_text o.guide)
    (joined (done_text o.dones) (views_text o.views) (dones_begin o.dones) (views_begin o.views)) (guide_begins o.guide))
    (rate_begins o.rate o.tally))
    (fault_begins (has_line s) (fault_text s))

pub live_reports_tell_journals : LiveReportsTellJournals
live_reports_tell_journals a b o p s t h k e =
    journals_end a b (observed_text o ++ fault_lines s) (observed_text p ++ fault_lines t) h k (begins o s) (begins p t)
    (sym (append_assoc (journal_text a) (observed_text o) (fault_lines s)) ∙ e ∙ append_assoc (journal_text b) (observed_text p) (fault_lines t))

-- ---- a journal, read as a script

-- a text describes one multiplex
one_mux : (text : List ℕ) (mux other : Mux) (rows behind : Ahead) → described text ≡ Came (Ok mux) rows → described text ≡ Came (Ok other) behind → mux ≡ other
one_mux text mux other rows behind e f = cc

pub is_script : (text : List ℕ) (mux : Mux) (rows : Ahead) (journal : List Entry) → described text ≡ Came (Ok mux) rows → Legal mux journal → IsScript text journal
is_script text mux rows journal whole legal other behind block is d readable le =
    journals-again other block journal d (subst (λ (m : Mux). Legal m journal) (one_mux text mux other rows behind whole is) legal) readable le

-- the journal of a run whose jobs did not start has no entry
pub none_is_script : (text : List ℕ) (journal : List Entry) → journal ≡ [] → IsScript text journal
none_is_script text journal none mux rows block is d readable le = journals-again mux block journal d (subst (λ (es : List Entry). Legal mux es) (sym none) tt) readable le
