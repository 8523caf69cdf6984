use Rattle.device_format.specs.Planning.{gate_at}
use Rattle.device_format.proofs.Closing.{close_none, close_more, close_stopped}
use Rattle.device_format.proofs.gates.close_each.Goals as goal

pub returns-in_err-write : goal.returns-in_err-write
returns-in_err-write g c =
    close_stopped (gate_at c.args.start c.args.step) c.loop-gate.gate (g.D.Device.seen c.args.device.now) (g.D.Device.seen c.loop-gate.device) (g.D.Device.seen c.write.new.self) c.loop-gate.invariant
    c.args.count c.from_residual.result c.loop-gate-test.true c.from_residual.ensures.0 c.in_err-write.ensures

pub loop-gate-preserved : goal.loop-gate-preserved
loop-gate-preserved g c = close_more (gate_at c.args.start c.args.step) c.loop-gate.gate (g.D.Device.seen c.args.device.now) (g.D.Device.seen c.loop-gate.device) (g.D.Device.seen c.write.new.self) c.loop-gate.invariant c.in_ok-write.ensures

pub loop-gate-init : goal.loop-gate-init
loop-gate-init g c = close_none (gate_at c.args.start c.args.step) (g.D.Device.seen c.args.device.now)
