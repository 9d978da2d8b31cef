use Rattle.std.proofs.Common.{◌≡◌, ◌++◌, map}
use Rattle.std.specs.Prelude.{take, flat_map}
use Rattle.std.specs.List.{AllByRecursion}
use Rattle.mux_model.specs.declared.mux.Other.{Other}
use Rattle.publication.specs.Laws.{HaveSmallEntries}
use Rattle.publication.specs.Parts.{remote_guide}
use Rattle.publication.specs.Tables.{other_sdt_table, other_sdt_tables, remote_presents, remote_schedules}
use Rattle.publication.proofs.others.other_tables.Given as goal

-- the SDTs of the streams so far
abbrev pub invariant-loop-other : goal.invariant-loop-other
invariant-loop-other l = l.near ≡ map (other_sdt_table l.guide.guide) (take l.other-index l.mux.others)

-- the event information of the streams so far, whose services have small entries
abbrev pub invariant-loop-carried : goal.invariant-loop-carried
invariant-loop-carried l = record {
  near : l.near ≡ other_sdt_tables l.mux l.guide.guide ++ flat_map (remote_presents l.guide.guide) (take l.carried-index l.mux.others);
  far : l.far ≡ flat_map (remote_schedules l.guide.guide) (take l.carried-index l.mux.others);
  small : AllByRecursion (λ (o : Other). HaveSmallEntries (remote_guide l.guide.guide o)) (take l.carried-index l.mux.others);
}
