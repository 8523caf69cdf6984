use Rattle.std.proofs.Common.{ap, inl, inr, sym, subst, Ok, Err}
use Rattle.script_lang.specs.CommandViews.{phases_of}
use Rattle.spatial_run.specs.Parts.{IsFreshEnd}
use Rattle.spatial_run.specs.EndingViews.{ending_of}
use Rattle.spatial_run.proofs.Fresh.{formatting-of, format-stopped}
use Rattle.spatial_run.proofs.device.run_formatted.Goals as goal

pub returns-in-Ok-clause-end : goal.returns-in-Ok-clause-end
returns-in-Ok-clause-end g c =
    inl (record {
      device = g.D.Device.seen c.format_dev.new.device;
      formatting = formatting-of c.args.indexes (g.D.Device.seen c.args.device) (g.D.Device.seen c.format_dev.new.device) (Ok tt) c.in-Ok.ensures.made c.in-Ok.ensures.formatted c.in-Ok.ensures.any_moment c.in-Ok.ensures.over_none;
      end = c.run_script.ensures.end;
    })

pub returns-in-Err-clause-end : goal.returns-in-Err-clause-end
returns-in-Err-clause-end g c =
    subst (λ d. IsFreshEnd c.args.indexes (phases_of c.args.script) (g.D.Device.seen c.args.device) (g.D.Device.seen d) c.without_commands.result.acks.items (ending_of c.without_commands.result.ending)) (sym c.without_commands.ensures.device)
    (inr (format-stopped c.args.indexes (g.D.Device.seen c.args.device) (g.D.Device.seen c.format_dev.new.device) c.in-Err.field-0 c.without_commands.result.acks.items (ending_of c.without_commands.result.ending) (ap ending_of c.without_commands.ensures.ending) c.without_commands.ensures.acks
    (formatting-of c.args.indexes (g.D.Device.seen c.args.device) (g.D.Device.seen c.format_dev.new.device) (Err c.in-Err.field-0) c.in-Err.ensures.made c.in-Err.ensures.formatted c.in-Err.ensures.any_moment c.in-Err.ensures.over_none)))
