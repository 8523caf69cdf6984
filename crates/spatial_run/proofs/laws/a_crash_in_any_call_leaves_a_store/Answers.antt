use Rattle.spatial_run.proofs.Leaving.{call-leaves, serial-call-leaves}
use Rattle.spatial_run.proofs.laws.a_crash_in_any_call_leaves_a_store.Goals as goal

pub returns-clause-served : goal.returns-clause-served
returns-clause-served c = serial-call-leaves

pub returns-clause-any_task : goal.returns-clause-any_task
returns-clause-any_task c = call-leaves
