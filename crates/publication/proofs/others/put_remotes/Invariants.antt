use Rattle.std.proofs.Common.{◌≡◌, ◌++◌, map}
use Rattle.std.specs.Prelude.{take, flat_map}
use Rattle.guide_limits.specs.Events.{midnight}
use Rattle.publication.specs.Present.{present_of}
use Rattle.publication.specs.Schedule.{remote_tables}
use Rattle.publication.specs.Laws.{HaveSmallEntries}
use Rattle.publication.specs.Parts.{remote_guide}
use Rattle.publication.specs.Tables.{bearer_of}
use Rattle.publication.proofs.others.put_remotes.Given as goal

-- the tables of the services so far stand behind what was there, and the entries of these services are small
abbrev pub invariant-loop-service : goal.invariant-loop-service
invariant-loop-service l = record {
  near : l.near ≡ l.fn.near ++ map (present_of (bearer_of l.other) l.guide.guide.moment.0) (take l.service-index (remote_guide l.guide.guide l.other));
  far : l.far ≡ l.fn.far ++ flat_map (remote_tables (bearer_of l.other) (midnight l.guide.guide.moment.0)) (take l.service-index (remote_guide l.guide.guide l.other));
  small : HaveSmallEntries (take l.service-index (remote_guide l.guide.guide l.other));
}
