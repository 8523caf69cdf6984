use Rattle.std.proofs.Common.{◌<◌, ◌++◌, ◌∙◌, arith, ap, map, length}
use Rattle.std.specs.List.{filter}
use Rattle.page_codec.specs.Page.{rows_on}
use Rattle.page_codec.specs.Laws.Writing.{length-rows_on, take_of_length-le}
use Rattle.rtree_image.specs.Rows.{row_of}
use Rattle.rtree_image.specs.Visits.{is_inside}
use Rattle.rtree_image.proofs.Picked.{one_more_row}
use Rattle.rtree_image.proofs.in_page.add_rows.Goals as goal

pub loop-i-preserved : goal.loop-i-preserved
loop-i-preserved c =
    let long = length-rows_on c.args.page.now in
    let inside : c.loop-i.i < length (rows_on c.args.page.now) = omega (arith, c.requires.all, c.loop-i-test.true) in
    one_more_row (is_inside c.args.rect.now) row_of (rows_on c.args.page.now) c.loop-i.i c.row_at.result c.args.out.now.items c.loop-i.out.items _
    inside c.loop-i.invariant c.row_at.ensures c.in_default.ensures.row

pub returns-clause-rows : goal.returns-clause-rows
returns-clause-rows c =
    let long = length-rows_on c.args.page.now in
    c.loop-i.invariant
    ∙ ap (λ rows. c.args.out.now.items ++ filter (is_inside c.args.rect.now) (map row_of rows)) (take_of_length-le (rows_on c.args.page.now) c.loop-i.i (omega (arith, c.requires.all)))
