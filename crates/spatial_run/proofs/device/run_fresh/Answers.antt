use Rattle.std.proofs.Common.{sym, subst, ap, Some, Err}
use Rattle.script_lang.specs.CommandViews.{phases_of}
use Rattle.spatial_run.specs.Tasks as model
use Rattle.spatial_run.specs.Endings.{Ending}
use Rattle.spatial_run.specs.Parts.{IsReadEnd}
use Rattle.spatial_run.specs.EndingViews.{ending_of}
use Rattle.spatial_run.proofs.Ends.{fresh-ran, unread}
use Rattle.spatial_run.proofs.device.run_fresh.Goals as goal

pub returns-in-Ok-clause-cause : goal.returns-in-Ok-clause-cause
returns-in-Ok-clause-cause g c =
    fresh-ran (g.R.Source.fault_count c.args.source.now) (g.R.Source.fault_count c.read.new.source) (g.R.Source.left c.args.source.now) (g.D.Device.seen c.args.device) (g.D.Device.seen c.run_formatted.result.device) c.run_formatted.result.acks.items
    c.args.indexes (phases_of c.in-Ok.script) (ending_of c.run_formatted.result.ending) c.in-Ok.ensures.script c.run_formatted.ensures.end

pub returns-in-Err-clause-cause : goal.returns-in-Err-clause-cause
returns-in-Err-clause-cause g c =
    unread (g.R.Source.fault_count c.args.source.now) (g.R.Source.fault_count c.read.new.source) (g.R.Source.left c.args.source.now) (g.D.Device.seen c.args.device) (g.D.Device.seen c.without_commands.result.device) c.without_commands.result.acks.items
    (Some (model.fresh c.args.indexes)) tt (ending_of c.without_commands.result.ending)
    (subst (λ (e : Ending). IsReadEnd (g.R.Source.fault_count c.args.source.now) (g.R.Source.fault_count c.read.new.source) (g.R.Source.left c.args.source.now) (Err e)) (sym (ap ending_of c.without_commands.ensures.ending)) c.in-Err.ensures.ending)
    (ap (g.D.Device.seen) c.without_commands.ensures.device) c.without_commands.ensures.acks
