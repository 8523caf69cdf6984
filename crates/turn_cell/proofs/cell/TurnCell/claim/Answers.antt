use Rattle.std.proofs.Common.{rules, length, ap, ◌∙◌}
use Rattle.turn_cell.proofs.Moves.{surveys, claims}
use Rattle.turn_cell.proofs.Resting.{rests, head_of}
use Rattle.turn_cell.proofs.cell.TurnCell.claim.Goals as goal

pub load-serving-requires : goal.load-serving-requires
load-serving-requires g c = (search rules, search rules, surveys _ _ _ _ _ _ (rests _ c.requires.rests.0))

pub compare_exchange-found-requires : goal.compare_exchange-found-requires
compare_exchange-found-requires g c =
    let row = head_of c.args.seat.now.me.0.tally.rows c.requires.rests.2 in
    let surveyed = c.load-serving.ensures.2 in
    (search rules, search rules, claims _ _ _ _ _ _ c.load-serving.result row.0 row.1 (ap (λ m. m.0.stage) surveyed.1) (ap (λ m. length m.0.seen) surveyed.1 ∙ surveyed.3) (search rules) (ap (λ m. m.0.tally.rows) surveyed.1 ∙ row.2))
