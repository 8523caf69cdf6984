use Rattle.turn_cell_tests.specs.Lanes.{LaneMade}
use Rattle.turn_cell_tests.proofs.lanes.work.Given as goal

abbrev pub invariant-loop : goal.invariant-loop
invariant-loop g l = LaneMade l.fn.pass l.counter l.owner l.pass
