use Rattle.std.proofs.Common.{sym, subst, Option}
use Rattle.std.specs.Option.{option_map}
use Rattle.spatial_run.specs.EndingViews.{task_as, ending_of}
use Rattle.spatial_run.specs.Parts.{Cause}
use Rattle.spatial_run.specs.declared.task.Task.{Task}
use Rattle.spatial_run.proofs.device.run_task.Goals as goal

pub returns-in-Some-clause-cause : goal.returns-in-Some-clause-cause
returns-in-Some-clause-cause g c =
    subst (λ (t : Option Task). Cause (option_map task_as t) (g.R.Source.fault_count c.args.source.now) (g.R.Source.fault_count c.run_one.new.source) (g.R.Source.left c.args.source.now)
    (g.D.Device.seen c.args.device) (g.D.Device.seen c.run_one.result.device) c.run_one.result.acks.items (ending_of c.run_one.result.ending)) (sym c.in-Some.is) c.run_one.ensures.cause
