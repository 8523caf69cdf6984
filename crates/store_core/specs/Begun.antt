-- What a begin of a job comes to, as its event tells it.
use Rattle.std.specs.Prelude.{ℕ, Option, Some, None, Result, Ok, Err}
use Rattle.build_job.specs.Jobs.{Job}
use Rattle.store_machine.specs.declared.events.Refusal.{Refusal}
use Rattle.store_machine.specs.declared.events.Action.{Action}
use Rattle.store_machine.specs.declared.events.Action.TheVariants.{Begin}

-- with the job that this owner was given
abbrev pub begin_of : (owner : ℕ) → Result (Option Job) Refusal → Action
begin_of owner (Ok None) = Begin (Ok None)
begin_of owner (Ok (Some job)) = Begin (Ok (Some (record { owner = owner; job = job })))
begin_of owner (Err refusal) = Begin (Err refusal)
