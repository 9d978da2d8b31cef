use Rattle.std.proofs.Common.{◌≡◌, ◌++◌, map}
use Rattle.std.specs.Prelude.{take, flat_map}
use Rattle.std.specs.List.{AllByRecursion}
use Rattle.guide_model.specs.declared.guide.ServiceGuide.{ServiceGuide}
use Rattle.guide_limits.specs.Events.{midnight}
use Rattle.publication.specs.Present.{present_table}
use Rattle.publication.specs.Schedule.{near_tables, far_tables}
use Rattle.publication.specs.EitLaws.{AreSmallEntries}
use Rattle.publication.specs.Parts.{own_guide}
use Rattle.publication.specs.Tables.{mux_tables}
use Rattle.publication.proofs.TableFacts.{other_near}
use Rattle.publication.proofs.tables.build.Given as goal

-- the tables of the own services so far stand in their lists, those of other streams before the near ones, and the entries of these services
-- are small
abbrev pub invariant-loop-service : goal.invariant-loop-service
invariant-loop-service l = record {
  list : l.list ≡ mux_tables l.mux l.guide.guide ++ map (present_table l.mux l.guide.guide.moment.0) (take l.service-index (own_guide l.mux l.guide.guide));
  near : l.near ≡ other_near l.mux l.guide.guide ++ flat_map (near_tables l.mux (midnight l.guide.guide.moment.0)) (take l.service-index (own_guide l.mux l.guide.guide));
  far : l.far ≡ flat_map (far_tables l.mux (midnight l.guide.guide.moment.0)) (take l.service-index (own_guide l.mux l.guide.guide));
  small : AllByRecursion (λ (s : ServiceGuide). AreSmallEntries s.events) (take l.service-index (own_guide l.mux l.guide.guide));
}
