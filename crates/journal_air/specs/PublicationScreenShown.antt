-- A view that has a publication.
use Rattle.std.specs.Prelude.{◌≡◌, ℕ, map, Some}
use Rattle.std.specs.List.{AllByRecursion}
use Rattle.guide_model.specs.Decoding.{IsKept}
use Rattle.guide_model.specs.declared.guide.Guide.{Guide}
use Rattle.guide_model.specs.declared.guide.ServiceGuide.{ServiceGuide}
use Rattle.mux_model.specs.declared.mux.Mux.{Mux}
use Rattle.section_codec.specs.declared.table.SubTable.{SubTable}
use Rattle.guide_screen.specs.View.{View}
use Rattle.publication.specs.Network.{nit_key}
use Rattle.publication.specs.Programs.{pat_key}
use Rattle.publication.specs.Tables.{sdt_key, other_sdt_key, tables_of}

-- It has the contents of all its tables, whatever else it has; the keys of its PAT, of its NIT, of its SDT, and of the SDTs of the other
-- streams, in their order; this moment; and the offsets of the multiplex.
pub record HasPublication (mux : Mux) (guide : Guide) (clock : ℕ) (V : View) : Type 0 where
  pub contents : AllByRecursion (λ (t : SubTable). V.content t.key ≡ Some t.sections) (tables_of mux guide)
  pub pat : V.pat ≡ Some (pat_key mux)
  pub nit : V.nit ≡ Some (nit_key mux)
  pub sdt : V.sdt mux.stream ≡ Some (sdt_key mux)
  pub others_are : V.others ≡ map other_sdt_key mux.others
  pub clock_is : V.clock ≡ Some clock
  pub offsets_are : V.offsets ≡ mux.offsets

-- the names of the network, of providers and of services may be kept
pub record HasKeptNames (mux : Mux) (guide : Guide) : Type 0 where
  pub network : IsKept mux.network_name
  pub services : AllByRecursion (λ (s : ServiceGuide). IsKept s.provider × IsKept s.name) guide.services
