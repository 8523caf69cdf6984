use Rattle.turn_cell_tests.proofs.Works.{lane_worked}
use Rattle.turn_cell_tests.proofs.crowds.lane.Goals as goal

pub returns : goal.returns
returns g c = lane_worked c.args.pass c.work-pass.result.1 c.work-pass.result.0 c.args.times c.work-pass.ensures
