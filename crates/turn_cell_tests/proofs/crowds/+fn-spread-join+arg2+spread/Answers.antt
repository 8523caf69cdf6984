use Rattle.std.proofs.Common.{◌≡◌, ◌+◌, arith}
use Rattle.turn_cell.specs.Passes.{parts}
use Rattle.turn_cell_tests.proofs.Works.{joined_worked}
use Rattle.turn_cell_tests.proofs.crowds.+fn-spread-join+arg2+spread.Goals as goal

pub returns : goal.returns
returns g t c =
    let old = c.split-other.ensures.old in
    let new = c.split-other.ensures.new in
    let less = old.3 in
    let some_parts = c.requires.parts in
    let one_less : parts c.split-other.new.pass + 1 ≡ parts c.args.pass = omega arith in
    joined_worked c.args.pass c.split-other.new.pass c.join-pass.result.0 c.split-other.result c.join-pass.result.1 c.join.new.pass c.args.others c.args.times
    old.0 old.2 one_less new.4 new.2 new.3 c.join-pass.ensures.first c.join-pass.ensures.second c.join.ensures.cell c.join.ensures.parts c.join.ensures.rows
