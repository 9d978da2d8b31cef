-- The names of a journal's publications may be kept.
use Rattle.std.proofs.Common.{ℕ, ◌==◌, List, [], ◌∷◌}
use Rattle.std.specs.Prelude.{map, if◌then◌else◌}
use Rattle.std.specs.List.{AllByRecursion, filter_map}
use Rattle.guide_model.specs.Decoding.{IsKept}
use Rattle.guide_model.specs.declared.guide.ServiceGuide.{ServiceGuide}
use Rattle.mux_model.specs.Fed.{FedService, IsNamed, fed_services}
use Rattle.mux_model.specs.declared.mux.Mux.{Mux}
use Rattle.journal_model.specs.declared.edit.Edit.{Edit}
use Rattle.journal_model.specs.Edits.{IsTypedEdit}
use Rattle.guide_limits.specs.KeptService.{KeptService}
use Rattle.guide_limits.specs.Standing.{last_or, names_in}
use Rattle.guide_limits.specs.Guides.{kept_after}
use Rattle.guide_limits.proofs.NamesKept.{AreNames, all_given, last_kept}
use Rattle.journal_model.specs.declared.step.Entry.{Entry}
use Rattle.desk_core.specs.Journal.{accepted}
use Rattle.desk_core.specs.Publications.{before_publish, publication}
use Rattle.journal_air.specs.PublicationScreenShown.{HasKeptNames}
use Rattle.journal_air.specs.Laws.{HasTypedEdits}
use Rattle.journal_air.proofs.Published.{edits_before}

services_kept : (services : List FedService) (past : List Edit) → AllByRecursion IsNamed services → AllByRecursion IsTypedEdit past
    → AllByRecursion (λ (s : ServiceGuide). IsKept s.provider × IsKept s.name) (map (λ (kept : KeptService). kept.guide) (map (kept_after past) services))
services_kept [] past kept typed = tt
services_kept (s ∷ services) past kept typed =
    let here : AreNames (last_or (s.provider, s.name) (filter_map (names_in s.service) past)) =
    last_kept (s.provider, s.name) (filter_map (names_in s.service) past) (kept.0.0, kept.0.1) (all_given s.service past typed) in
    ((here.0, here.1), services_kept services past kept.1 typed)

pub published_named : (mux : Mux) (journal : List Entry) (n : ℕ) → IsKept mux.network_name → AllByRecursion IsNamed (fed_services mux)
    → HasTypedEdits journal → HasKeptNames mux (publication mux journal n)
published_named mux journal n network services typed = record {
  network = network;
  services = services_kept (fed_services mux) (accepted (if n == 0 then [] else before_publish n journal)) services (edits_before journal n (n == 0) typed);
}
