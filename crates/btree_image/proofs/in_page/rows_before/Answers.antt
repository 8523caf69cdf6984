use Rattle.std.proofs.Common.{[], arith, sym, ◌∙◌}
use Rattle.std.specs.Prelude.{slice_index_or}
use Rattle.page_codec.specs.Page.{rows_on}
use Rattle.btree_image.specs.Steps.{precedes}
use Rattle.page_codec.specs.Laws.Writing.{length-rows_on}
use Rattle.btree_image.proofs.Halving.{counted, not_counted}
use Rattle.btree_image.proofs.in_page.rows_before.Goals as goal

pub returns-then-count-eq0-clause-rows : goal.returns-then-count-eq0-clause-rows
returns-then-count-eq0-clause-rows g c place is =
    let all = length-rows_on c.args.page.now in
    let inside = is.inside in
    absurd (omega (arith, c.requires.all))

pub returns-then-precedes-clause-rows : goal.returns-then-precedes-clause-rows
returns-then-precedes-clause-rows g c place is =
    counted (λ i. precedes g.T.TreeRow.layout c.args.key.now (slice_index_or (rows_on c.args.page.now) i [])) _ place
    (c.last_up_to-last.ensures.last place is) (sym c.precedes.ensures ∙ c.if-precedes.true)

pub returns-else-precedes-clause-rows : goal.returns-else-precedes-clause-rows
returns-else-precedes-clause-rows g c place is =
    not_counted (λ i. precedes g.T.TreeRow.layout c.args.key.now (slice_index_or (rows_on c.args.page.now) i [])) _ place
    (c.last_up_to-last.ensures.last place is) (sym c.precedes.ensures ∙ c.if-precedes.false)
