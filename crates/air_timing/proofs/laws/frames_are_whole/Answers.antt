use Rattle.air_timing.proofs.Frames.{frames_are_whole as proved, frames_are_short}
use Rattle.air_timing.proofs.Courses.{plans_are_long}
use Rattle.air_timing.proofs.laws.frames_are_whole.Goals as goal

pub returns-clause-whole : goal.returns-clause-whole
returns-clause-whole c = proved

pub returns-clause-short : goal.returns-clause-short
returns-clause-short c = frames_are_short

pub returns-clause-long : goal.returns-clause-long
returns-clause-long c = plans_are_long
