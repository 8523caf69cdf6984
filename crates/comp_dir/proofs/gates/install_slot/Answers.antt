use Rattle.std.proofs.Common.{subst}
use Rattle.dev_model.specs.Story.{Calls}
use Rattle.dev_model.specs.Doing.{Made}
use Rattle.gate.specs.Calls.{gated_calls}
use Rattle.comp_dir.proofs.Turning.{install-within, install-becomes}
use Rattle.comp_dir.proofs.gates.install_slot.Goals as goal

pub returns-clause-made : goal.returns-clause-made
returns-clause-made g c =
    subst (λ (calls : Calls). Made calls (g.D.Device.seen c.args.device.now) (g.D.Device.seen c.write_gated.new.device) c.write_gated.result) (λ j. gated_calls (c.slot_start.ensures j) (c.spelled.ensures j)) c.write_gated.ensures.made

pub returns-clause-within : goal.returns-clause-within
returns-clause-within g c s is = install-within c.args.n c.args.slot.now s _ _ c.write_gated.result is (returns-clause-made g c).did

pub returns-clause-installs : goal.returns-clause-installs
returns-clause-installs g c s is rest closed = install-becomes c.args.n c.requires.below c.args.slot.now s rest closed _ _ c.write_gated.result is (returns-clause-made g c).did
