use Rattle.std.proofs.Common.{ap, ◌∙◌}
use Rattle.turn_cell.specs.Rows.{own_of, joined_of}
use Rattle.turn_cell_tests.proofs.Works.{both_stand, both_counted}
use Rattle.turn_cell_tests.proofs.lanes.two.Goals as goal

pub returns-clause-counts : goal.returns-clause-counts
returns-clause-counts g c =
    let end = c.close.ensures in
    let rows_stay = c.split-other.ensures.old.2 in
    let new = c.split-other.ensures.new in
    let made = c.join-first_owner.ensures in
    both_counted c.split-other.new.pass c.join-first_owner.result.0.1 c.split-other.result c.join-first_owner.result.1.1 c.join.new.pass c.args.first c.args.second c.join-first_owner.result.0.0 c.join-first_owner.result.1.0 end.0 _ _
    (ap own_of rows_stay ∙ c.in-Ok.ensures.ok.2) (ap joined_of rows_stay ∙ c.in-Ok.ensures.ok.3) new.2 new.3 made.first made.second c.join.ensures.rows end.3 end.1

pub returns-clause-history : goal.returns-clause-history
returns-clause-history g c =
    let end = c.close.ensures in
    let none = ap own_of c.split-other.ensures.old.2 ∙ c.in-Ok.ensures.ok.2 in
    let made = c.join-first_owner.ensures in
    let both = both_stand c.split-other.new.pass c.join-first_owner.result.0.1 c.split-other.result c.join-first_owner.result.1.1 c.join.new.pass c.args.first c.args.second c.join-first_owner.result.0.0 c.join-first_owner.result.1.0 end.0 _ _ none c.split-other.ensures.new.2 made.first made.second c.join.ensures.rows end.3 end.1 in
    (end.0, end.1, both.0, both.1)
