use Rattle.std.proofs.Common.{ℕ, subst}
use Rattle.dev_model.specs.Doing.{Made}
use Rattle.gate.specs.Calls.{close_calls}
use Rattle.comp_dir.proofs.Turning.{gate-within, close-becomes}
use Rattle.comp_dir.proofs.gates.close_gate.Goals as goal

pub returns-clause-made : goal.returns-clause-made
returns-clause-made g c = subst (λ (at : ℕ). Made (close_calls at) (g.D.Device.seen c.args.device.now) (g.D.Device.seen c.close_gate.new.device) c.close_gate.result) c.slot_start.ensures c.close_gate.ensures

pub returns-clause-within : goal.returns-clause-within
returns-clause-within g c s is = gate-within c.args.n 0 s _ _ c.close_gate.result is (returns-clause-made g c).did

pub returns-clause-closes : goal.returns-clause-closes
returns-clause-closes g c s is rest is_open = close-becomes c.args.n c.requires.below s _ _ c.close_gate.result rest is_open is (returns-clause-made g c).did
