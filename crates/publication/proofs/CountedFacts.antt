-- Receivers count all sub-tables of a publication.
use Rattle.std.proofs.Common.{◌≡◌, ℕ, ◌+◌, ◌≤◌, ◌<◌, Bool, true, refl, ap, arith}
use Rattle.std.specs.Prelude.{if◌then◌else◌, Some, None, is_some}
use Rattle.std.specs.List.{AllByRecursion}
use Rattle.std.proofs.lemmas.Bool.Decides.{nat_tests}
use Rattle.si_lists.proofs.Lists.{each_unit}
use Rattle.guide_model.specs.declared.guide.Guide.{Guide}
use Rattle.mux_model.specs.declared.mux.Mux.{Mux}
use Rattle.mux_model.specs.Sound.{IsSound, IsSoundService}
use Rattle.section_codec.specs.declared.table.SubTable.{SubTable}
use Rattle.section_codec.specs.Tables.{is_counted, is_events, naming_of}
use Rattle.section_codec.specs.declared.table.Naming.TheVariants.{Stream}
use Rattle.section_codec.proofs.NamingFacts.{schedules_counted, pmts_counted}
use Rattle.publication.specs.Parts.{own_guide, remote_guide}
use Rattle.publication.specs.Tables.{tables_of}
use Rattle.publication.proofs.FitFacts.{each_pmt, each_sub_table}

abbrev pub IsCountedTable : SubTable → Type 0
IsCountedTable t = is_counted t.key.pid t.key.table ≡ true

-- the schedules of services of other streams
pub remotes_named : (table : ℕ) → 0x60 ≤ table → table < 0x70 → naming_of 0x0012 table ≡ Some Stream
remotes_named table above below =
    let is : is_events 0x0012 table ≡ true = grind (arith, nat_tests) in
    ap (λ (b : Bool). if b then Some Stream else None) is

pub published_counted : (mux : Mux) (guide : Guide) → IsSound mux → AllByRecursion (λ (t : SubTable). is_counted t.key.pid t.key.table ≡ true) (tables_of mux guide)
published_counted mux guide sound =
    each_sub_table IsCountedTable (λ s. Unit {0}) (λ o s. Unit {0}) (λ o. Unit {0}) mux guide (each_unit (own_guide mux guide)) (each_unit mux.others)
    refl
    (each_pmt IsCountedTable IsSoundService (λ s is. pmts_counted s.pmt_pid is.pmt_pid.0 is.pmt_pid.1) mux.services sound.services)
    refl
    refl
    (λ s q. refl)
    (λ s table q above below. schedules_counted table above below)
    (record {
      sdt = λ o r. refl;
      parts = λ o r. each_unit (remote_guide guide o);
      present = λ o s r q. refl;
      schedule = λ o s table r q above below. ap is_some (remotes_named (table + 0x10) (omega (arith, above)) (omega (arith, below)));
    })
