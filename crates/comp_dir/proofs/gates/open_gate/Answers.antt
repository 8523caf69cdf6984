use Rattle.std.proofs.Common.{ℕ, subst}
use Rattle.dev_model.specs.Doing.{Made}
use Rattle.gate.specs.Calls.{open_calls}
use Rattle.comp_dir.proofs.Turning.{gate-within, open-becomes}
use Rattle.comp_dir.proofs.gates.open_gate.Goals as goal

pub returns-clause-made : goal.returns-clause-made
returns-clause-made g c = subst (λ (at : ℕ). Made (open_calls at) (g.D.Device.seen c.args.device.now) (g.D.Device.seen c.open_gate.new.device) c.open_gate.result) c.slot_start.ensures c.open_gate.ensures

pub returns-clause-within : goal.returns-clause-within
returns-clause-within g c s is = gate-within c.args.n 165 s _ _ c.open_gate.result is (returns-clause-made g c).did

pub returns-clause-opens : goal.returns-clause-opens
returns-clause-opens g c slot s is rest ready = open-becomes c.args.n c.requires.below slot s _ _ c.open_gate.result rest ready is (returns-clause-made g c).did
