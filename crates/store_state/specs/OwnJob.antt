-- A job as its owner has it.
use Rattle.std.specs.Prelude.{◌≡◌, ℕ, Some}
use Rattle.build_job.specs.Jobs.{Job}
use Rattle.store_state.specs.declared.jobs.JobRow.{JobRow}
use Rattle.store_state.specs.Lists.{Lists, job_of}

-- the job is the one that was given to this owner, as far as it is written
pub record IsJobOf (l : Lists) (owner : ℕ) (job : Job) : Type 0 where
  pub row : JobRow
  pub is : l.job ≡ Some row
  pub owned : row.owner ≡ owner
  pub same : job ≡ job_of l row
