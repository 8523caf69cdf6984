use Rattle.spatial_run.proofs.Reopened.{served-again, formatted-again}
use Rattle.spatial_run.proofs.laws.a_crash_leaves_a_store.Goals as goal

pub returns-clause-served : goal.returns-clause-served
returns-clause-served c = served-again

pub returns-clause-formatted : goal.returns-clause-formatted
returns-clause-formatted c = formatted-again
