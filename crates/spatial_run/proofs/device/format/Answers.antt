use Rattle.std.proofs.Common.{ap, inr, sym, subst, Ok, Err}
use Rattle.spatial_run.specs.Parts.{IsFormatEnd}
use Rattle.spatial_run.specs.EndingViews.{ending_of}
use Rattle.spatial_run.proofs.Ends.{format-done}
use Rattle.spatial_run.proofs.Fresh.{formatting-of, format-stopped}
use Rattle.spatial_run.proofs.device.format.Goals as goal

pub returns-in-Ok-clause-end : goal.returns-in-Ok-clause-end
returns-in-Ok-clause-end g c =
    subst (λ d. IsFormatEnd c.args.indexes (g.D.Device.seen c.args.device) (g.D.Device.seen d) c.without_commands.result.acks.items (ending_of c.without_commands.result.ending)) (sym c.without_commands.ensures.device)
    (format-done c.args.indexes (g.D.Device.seen c.args.device) (g.D.Device.seen c.format_dev.new.device) c.without_commands.result.acks.items (ending_of c.without_commands.result.ending)
    c.pages-pages.result (ap ending_of c.without_commands.ensures.ending) c.pages-pages.ensures c.without_commands.ensures.acks
    (formatting-of c.args.indexes (g.D.Device.seen c.args.device) (g.D.Device.seen c.format_dev.new.device) (Ok tt) c.in-Ok.ensures.made c.in-Ok.ensures.formatted c.in-Ok.ensures.any_moment c.in-Ok.ensures.over_none))

pub returns-in-Err-clause-end : goal.returns-in-Err-clause-end
returns-in-Err-clause-end g c =
    subst (λ d. IsFormatEnd c.args.indexes (g.D.Device.seen c.args.device) (g.D.Device.seen d) c.without_commands-in-Err.result.acks.items (ending_of c.without_commands-in-Err.result.ending)) (sym c.without_commands-in-Err.ensures.device)
    (inr (format-stopped c.args.indexes (g.D.Device.seen c.args.device) (g.D.Device.seen c.format_dev.new.device) c.in-Err.field-0 c.without_commands-in-Err.result.acks.items (ending_of c.without_commands-in-Err.result.ending) (ap ending_of c.without_commands-in-Err.ensures.ending) c.without_commands-in-Err.ensures.acks
    (formatting-of c.args.indexes (g.D.Device.seen c.args.device) (g.D.Device.seen c.format_dev.new.device) (Err c.in-Err.field-0) c.in-Err.ensures.made c.in-Err.ensures.formatted c.in-Err.ensures.any_moment c.in-Err.ensures.over_none)))
