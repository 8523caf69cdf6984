use Rattle.std.proofs.Common.{◌≡◌, ◌+◌, ◌-◌, ◌*◌, arith, subst}
use Rattle.turn_cell_tests.proofs.Works.{all_counted}
use Rattle.turn_cell_tests.specs.Lanes.{Worked}
use Rattle.turn_cell_tests.proofs.crowds.crowd.Goals as goal

pub returns : goal.returns
returns g c =
    let end = c.close.ensures in
    let new = c.in-Ok.ensures.ok in
    let some_lanes = c.requires.0 in
    let all : c.args.lanes - 1 + 1 ≡ c.args.lanes = omega arith in
    let worked = subst (λ n. Worked c.in-Ok.made.1 n (n * c.args.times) c.spread-pass.result) all c.spread-pass.ensures in
    all_counted c.in-Ok.made.1 c.spread-pass.result c.args.lanes (c.args.lanes * c.args.times) end.0 _ _ new.2 new.3 worked end.3 end.1
