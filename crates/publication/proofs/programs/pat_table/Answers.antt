use Rattle.std.proofs.Common.{sym, ◌∙◌, subst}
use Rattle.std.specs.List.{All}
use Rattle.table_bodies.specs.Pat.{HasPid}
use Rattle.publication.proofs.ProgramFacts.{pat_fits}
use Rattle.publication.proofs.programs.pat_table.Goals as goal

pub write_pat-requires : goal.write_pat-requires
write_pat-requires c = subst (All HasPid) (sym (c.as_slice.ensures ∙ c.in_ok-programs.ensures)) (pat_fits c.args.mux.now c.requires)
