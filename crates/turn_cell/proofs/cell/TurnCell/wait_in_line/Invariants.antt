use Rattle.std.proofs.Common.{◌≡◌}
use Rattle.turn_cell.specs.Steps.{Watched}
use Rattle.turn_cell.proofs.cell.TurnCell.wait_in_line.Given as goal

abbrev pub invariant-loop : goal.invariant-loop
invariant-loop g l = (l.seat.table_id ≡ l.initial.seat.table_id) × (l.seat.id ≡ l.initial.seat.id) × Watched l.initial.seat.me l.seat.me
