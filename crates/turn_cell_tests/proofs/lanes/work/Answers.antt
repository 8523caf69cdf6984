use Rattle.std.proofs.Common.{sym, subst}
use Rattle.turn_cell.specs.History.{MayHaveOwner}
use Rattle.turn_cell.specs.Passes.{own}
use Rattle.turn_cell_tests.specs.Run.{owner_of, is_draw}
use Rattle.turn_cell_tests.proofs.Runs.{fits_has, of_drawn}
use Rattle.turn_cell_tests.proofs.Works.{after_draw, after_count, has_drawn}
use Rattle.turn_cell_tests.proofs.lanes.work.Goals as goal

pub loop-init : goal.loop-init
loop-init g c = let a = c.turn-owner.ensures.adds in after_draw c.args.pass c.turn-owner.new.pass c.turn-owner.result a.0 a.1 c.turn-owner.ensures.same a.2

pub turn-requires-clause-may : goal.turn-requires-clause-may
turn-requires-clause-may g c history x few stood fits = (few, fits_has (own c.loop.pass) history c.turn-owner.result (has_drawn c.args.pass c.loop.pass c.turn-owner.result c.loop.counter c.loop.invariant) fits)

pub turn-requires-clause-owner : goal.turn-requires-clause-owner
turn-requires-clause-owner g c out entry tells =
    subst (MayHaveOwner owner_of is_draw (own c.loop.pass)) (sym tells) (of_drawn (own c.loop.pass) c.turn-owner.result out (has_drawn c.args.pass c.loop.pass c.turn-owner.result c.loop.counter c.loop.invariant))

pub loop-preserved : goal.loop-preserved
loop-preserved g c = let a = c.turn.ensures.adds in after_count c.args.pass c.loop.pass c.turn.new.pass c.turn-owner.result c.turn.result c.loop.counter a.0 a.1 c.loop.invariant c.turn.ensures.same a.2
