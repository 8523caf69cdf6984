-- What the begin of a job comes to.
use Rattle.std.specs.Prelude.{◌≡◌, ◌≢◌, ℕ, Option, Some, None, Result, Ok, Err}
use Rattle.build_job.specs.Jobs.{Job}
use Rattle.build_job.specs.Steps.{IsJob}
use Rattle.store_state.specs.declared.faults.BeginFault.{BeginFault}
use Rattle.store_state.specs.Lists.{Lists, job_of}
use Rattle.store_state.specs.OwnJob.{IsJobOf}
use Rattle.store_state.specs.Steps.{begun}
use Rattle.store_state.specs.Beginning.{IsRefused, MayBegin, fresh}

-- a job was begun for this owner
pub record HasBegun (owner : ℕ) (l new : Lists) (job : Job) : Type 0 where
  pub may : MayBegin l job.plan
  pub lists : new ≡ begun (fresh owner job.plan) l
  pub job_is : job ≡ job_of l (fresh owner job.plan)
  pub owned : IsJobOf new owner job
  pub sound : IsJob job

-- What the begin of a job comes to: nothing where nothing is frozen, a job, or a refusal, which leaves the lists.
abbrev pub Begins : (owner : ℕ) (l new : Lists) → Result (Option Job) BeginFault → Type 0
Begins owner l new (Ok None) = (l.frozen ≡ None) × (new ≡ l)
Begins owner l new (Ok (Some job)) = HasBegun owner l new job
Begins owner l new (Err fault) = (l.frozen ≢ None) × IsRefused l fault × (new ≡ l)
