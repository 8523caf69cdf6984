use Rattle.std.proofs.Common.{rules}
use Rattle.turn_cell.proofs.Moves.{notes}
use Rattle.turn_cell.proofs.cell.TurnCell.sleep.Goals as goal

pub store-requires : goal.store-requires
store-requires g c = (search rules, search rules, notes _ _ _ _ _ _ _ c.flag_of-flag.result 0 (λ _. c.flag_of-flag.result) (search rules))
