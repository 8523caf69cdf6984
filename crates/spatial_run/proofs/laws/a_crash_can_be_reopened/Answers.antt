use Rattle.spatial_run.proofs.Reopened.{holds-again, holds-empty}
use Rattle.spatial_run.proofs.laws.a_crash_can_be_reopened.Goals as goal

pub returns-clause-table : goal.returns-clause-table
returns-clause-table c = holds-again

pub returns-clause-empty : goal.returns-clause-empty
returns-clause-empty c = holds-empty
