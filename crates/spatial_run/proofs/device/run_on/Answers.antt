use Rattle.std.proofs.Common.{[], refl, sym, subst}
use Rattle.script_lang.specs.CommandViews.{phases_of}
use Rattle.store_core.specs.Stores.{state_of}
use Rattle.spatial_run.specs.Endings.{Ending}
use Rattle.spatial_run.specs.Steps.{IsPlain}
use Rattle.spatial_run.specs.Parts.{IsStoreEnd}
use Rattle.spatial_run.specs.Views.{outcomes_of}
use Rattle.spatial_run.proofs.Ends.{store-ran, store-plain}
use Rattle.spatial_run.proofs.device.run_on.Goals as goal

pub returns-in-Ok-clause-end : goal.returns-in-Ok-clause-end
returns-in-Ok-clause-end g c =
    subst (λ (e : Ending). IsStoreEnd (phases_of c.args.script) (state_of g.D.Device.seen c.args.store) (g.D.Device.seen c.into_dev-device.result.0) c.into_dev-device.result.1.items e) (sym c.ran.ensures) (
      refl,
      store-ran c.args.script.setup.items c.as_slice.result.now c.in-Ok.commands.outcomes.items (state_of g.D.Device.seen c.args.store) (state_of g.D.Device.seen c.run_commands.new.store) (g.D.Device.seen c.into_dev-device.result.0) c.into_dev-device.result.1.items (phases_of c.args.script) c.in-Ok.commands.refusals refl
          c.as_slice.ensures c.in-Ok.ensures.few c.in-Ok.ensures.made c.in-Ok.ensures.serving.ready (sym c.into_dev-device.ensures.device) (sym c.into_dev-device.ensures.acks),
    )

pub returns-in-Ok-clause-plain : goal.returns-in-Ok-clause-plain
returns-in-Ok-clause-plain g c =
    subst (λ (e : Ending). IsPlain e) (sym c.ran.ensures)
    (store-plain (phases_of c.args.script) (record { setup = outcomes_of c.in-Ok.commands.outcomes.items; lanes = []; after = [] }) c.in-Ok.commands.refusals (state_of g.D.Device.seen c.args.store) c.requires.opened.0 (g.D.Device.seen c.into_dev-device.result.0) c.into_dev-device.result.1.items c.requires.alone c.requires.opened.1
    (store-ran c.args.script.setup.items c.as_slice.result.now c.in-Ok.commands.outcomes.items (state_of g.D.Device.seen c.args.store) (state_of g.D.Device.seen c.run_commands.new.store) (g.D.Device.seen c.into_dev-device.result.0) c.into_dev-device.result.1.items (phases_of c.args.script) c.in-Ok.commands.refusals refl
    c.as_slice.ensures c.in-Ok.ensures.few c.in-Ok.ensures.made c.in-Ok.ensures.serving.ready (sym c.into_dev-device.ensures.device) (sym c.into_dev-device.ensures.acks)))
