use Rattle.std.proofs.Common.{rules, subst}
use Rattle.build_job.specs.Steps.{IsJob}
use Rattle.build_job.specs.Laws.Describing.{described-IsSound, same_slot}
use Rattle.build_job.proofs.job.BuildJob.slot.Goals as goal

pub returns-clause-sound : goal.returns-clause-sound
returns-clause-sound c pages declared stands =
    same_slot pages declared _ _ (search rules)
    (described-IsSound pages declared c.args.self.now (subst IsJob c.self.view_is c.self.invariant) stands)
