use Rattle.store_state.specs.Laws.Planned.{job-IsPlanned, planned-IsJob, planned-IsPlaceable, planned-IsSound, planned-apart}
use Rattle.store_state.proofs.laws.begun_jobs_may_be_installed.Goals as goal

pub returns-clause-job : goal.returns-clause-job
returns-clause-job c l row lists is = planned-IsJob l row lists (job-IsPlanned l row lists is)

pub returns-clause-placeable : goal.returns-clause-placeable
returns-clause-placeable c l row lists is below = planned-IsPlaceable l row lists (job-IsPlanned l row lists is) below

pub returns-clause-sound : goal.returns-clause-sound
returns-clause-sound c l row declared lists is below = planned-IsSound l row lists (job-IsPlanned l row lists is) declared below

pub returns-clause-inside : goal.returns-clause-inside
returns-clause-inside c l row lists is = (job-IsPlanned l row lists is).slot

pub returns-clause-closed : goal.returns-clause-closed
returns-clause-closed c l row lists is = (job-IsPlanned l row lists is).closed

pub returns-clause-apart : goal.returns-clause-apart
returns-clause-apart c l row lists is = planned-apart l row lists (job-IsPlanned l row lists is)
