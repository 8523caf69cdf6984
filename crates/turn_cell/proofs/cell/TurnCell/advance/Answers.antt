use Rattle.std.proofs.Common.{rules}
use Rattle.turn_cell.proofs.Moves.{advances}
use Rattle.turn_cell.proofs.Resting.{head_of}
use Rattle.turn_cell.proofs.cell.TurnCell.advance.Goals as goal

pub fetch_add-requires : goal.fetch_add-requires
fetch_add-requires g c =
    let e = c.requires.entry in
    let row = head_of c.args.seat.now.me.0.tally.rows e.5 in
    (search rules, search rules, advances _ _ _ g.X.Adding.may _ _ _ e.0 e.1 row.0 row.1 e.2 e.3 e.4 row.2 e.6 e.7 e.8)
