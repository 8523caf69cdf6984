use Rattle.std.proofs.Common.{rules}
use Rattle.turn_cell.proofs.Moves.{notes}
use Rattle.turn_cell.proofs.cell.TurnCell.wake_first.Goals as goal

pub store-requires : goal.store-requires
store-requires g c = (search rules, search rules, notes _ _ _ _ _ _ _ 0 0 (λ _. 0) (search rules))
