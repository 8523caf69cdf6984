use Rattle.std.proofs.Common.{refl}
use Rattle.script_lang.specs.CommandViews.{phases_of}
use Rattle.store_core.specs.Stores.{state_of}
use Rattle.spatial_run.specs.EndingViews.{ending_of}
use Rattle.spatial_run.proofs.Ends.{run-end}
use Rattle.spatial_run.proofs.Making.{serving-opened}
use Rattle.spatial_run.proofs.device.run_script.Goals as goal

pub run_on-requires-clause-serving : goal.run_on-requires-clause-serving
run_on-requires-clause-serving g c =
    serving-opened (g.D.Device.seen c.args.device) (state_of g.D.Device.seen c.in-Ok.store) c.in-Ok.ensures.stands c.in-Ok.ensures.ready c.in-Ok.ensures.idle

pub run_on-requires-clause-opened : goal.run_on-requires-clause-opened
run_on-requires-clause-opened g c = (
  g.D.Device.seen c.args.device,
  record { since = c.in-Ok.ensures.stands; ready = c.in-Ok.ensures.ready; pages = c.in-Ok.ensures.pages },
)

pub returns-in-Ok-clause-end : goal.returns-in-Ok-clause-end
returns-in-Ok-clause-end g c =
    run-end (phases_of c.args.script) (g.D.Device.seen c.args.device) (g.D.Device.seen c.in-Ok.store.device) (g.D.Device.seen c.run_on.result.device) (state_of g.D.Device.seen c.in-Ok.store) c.run_on.result.acks.items (ending_of c.run_on.result.ending)
    c.requires.alone (record { since = c.in-Ok.ensures.stands; ready = c.in-Ok.ensures.ready; pages = c.in-Ok.ensures.pages }) refl c.in-Ok.ensures.reads c.run_on.ensures.end
