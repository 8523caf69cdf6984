use Rattle.std.proofs.Common.{rules, ◌+◌, ◌%◌, ◌^◌}
use Rattle.turn_cell.proofs.Moves.{notes}
use Rattle.turn_cell.proofs.cell.TurnCell.leave_line.Goals as goal

pub store-requires : goal.store-requires
store-requires g c = (search rules, search rules, notes _ _ _ _ _ _ _ 0 0 (λ _. 0) (search rules))

pub store-requires-2 : goal.store-requires-2
store-requires-2 g c = (search rules, search rules, notes _ _ _ _ _ _ _ ((c.args.position + 1) % 2 ^ 64) 0 (λ _. (c.args.position + 1) % 2 ^ 64) (search rules))
