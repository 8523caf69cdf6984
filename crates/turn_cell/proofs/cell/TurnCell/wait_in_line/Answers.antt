use Rattle.std.proofs.Common.{rules, ◌+◌, ◌%◌, ◌^◌, sym, subst}
use Rattle.turn_cell.specs.Resting.{IsAtRest}
use Rattle.turn_cell.proofs.Moves.{notes}
use Rattle.turn_cell.proofs.Turns.{watched_same}
use Rattle.turn_cell.proofs.cell.TurnCell.wait_in_line.Goals as goal

pub fetch_add-position-requires : goal.fetch_add-position-requires
fetch_add-position-requires g c = (search rules, search rules, notes _ _ _ _ _ _ _ 1 0 (λ n. (n + 1) % 2 ^ 64) (search rules))

pub store-requires : goal.store-requires
store-requires g c = (search rules, search rules, notes _ _ _ _ _ _ _ 1 0 (λ _. 1) (search rules))

pub loop-init : goal.loop-init
loop-init g c = (search rules, search rules, watched_same _ (subst (λ m. IsAtRest m) (sym c.fetch_add-position.ensures.2) c.requires.rests))
