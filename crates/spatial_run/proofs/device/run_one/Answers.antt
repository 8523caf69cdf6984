use Rattle.std.proofs.Common.{sym, subst, Some}
use Rattle.spatial_run.specs.EndingViews.{task_as, ending_of}
use Rattle.spatial_run.specs.Parts.{Cause}
use Rattle.spatial_run.specs.declared.task.Task.{Task}
use Rattle.spatial_run.proofs.device.run_one.Goals as goal

pub returns-in-Serial-clause-cause : goal.returns-in-Serial-clause-cause
returns-in-Serial-clause-cause g c =
    subst (λ (t : Task). Cause (Some (task_as t)) (g.R.Source.fault_count c.args.source.now) (g.R.Source.fault_count c.run_serial.new.source) (g.R.Source.left c.args.source.now)
    (g.D.Device.seen c.args.device) (g.D.Device.seen c.run_serial.result.device) c.run_serial.result.acks.items (ending_of c.run_serial.result.ending)) (sym c.in-Serial.is) c.run_serial.ensures.cause

pub returns-in-Fresh-clause-cause : goal.returns-in-Fresh-clause-cause
returns-in-Fresh-clause-cause g c =
    subst (λ (t : Task). Cause (Some (task_as t)) (g.R.Source.fault_count c.args.source.now) (g.R.Source.fault_count c.run_fresh.new.source) (g.R.Source.left c.args.source.now)
    (g.D.Device.seen c.args.device) (g.D.Device.seen c.run_fresh.result.device) c.run_fresh.result.acks.items (ending_of c.run_fresh.result.ending)) (sym c.in-Fresh.is) c.run_fresh.ensures.cause
