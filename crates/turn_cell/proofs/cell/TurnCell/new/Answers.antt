use Rattle.std.proofs.Common.{rules, ◌≡◌, [], ◌∷◌, Some, replicate, sym, subst}
use Rattle.atomic_table.specs.Table.{opening}
use Rattle.turn_cell.specs.Rule.{OneHistory, first_view}
use Rattle.turn_cell.proofs.Moves.{begins}
use Rattle.turn_cell.proofs.cell.TurnCell.new.Goals as goal

pub new-requires : goal.new-requires
new-requires g c =
    let is : c.push.new.self.items ≡ Some c.args.value ∷ [] = search rules in
    subst (λ xs. OneHistory g.V.Turned.stands g.V.Turned.owner g.V.Turned.draws (opening (replicate 21 0) xs first_view)) (sym is) (begins g.V.Turned.stands g.V.Turned.owner g.V.Turned.draws (replicate 19 0) c.args.value c.requires)
