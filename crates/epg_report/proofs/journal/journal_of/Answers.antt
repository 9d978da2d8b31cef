use Rattle.std.proofs.Common.{sym, subst}
use Rattle.mux_model.specs.declared.mux.Mux.{Mux}
use Rattle.desk_core.specs.Journal.{Legal}
use Rattle.desk_core.proofs.WindowFacts.{legal_window}
use Rattle.epg_report.proofs.journal.journal_of.Goals as goal

pub text_of-requires : goal.text_of-requires
text_of-requires c =
    legal_window c.mux.result.now c.entries.result.now c.mux.ensures.sound c.entries.ensures.within (subst (λ (m : Mux). Legal m c.entries.result.now) (sym c.mux.ensures.value) c.entries.ensures.legal)
