use Rattle.device_format.specs.Planning.{gate_at}
use Rattle.device_format.proofs.Closing.{HasClosed}
use Rattle.device_format.proofs.gates.close_each.Given as goal

abbrev pub invariant-loop-gate : goal.invariant-loop-gate
invariant-loop-gate g l = HasClosed (gate_at l.fn.start l.fn.step) l.gate (g.D.Device.seen l.fn.device) (g.D.Device.seen l.device)
