use Rattle.std.proofs.Common.{[], arith, sym, ◌∙◌, ap}
use Rattle.std.specs.Prelude.{slice_index_or}
use Rattle.page_codec.specs.Page.{rows_on}
use Rattle.btree_image.specs.Steps.{row_at}
use Rattle.page_codec.specs.Laws.Writing.{length-rows_on}
use Rattle.btree_image.proofs.Found.{row_at-other, row_at-same}
use Rattle.btree_image.proofs.in_page.row_for.Goals as goal

pub returns-then-count-eq0-clause-row : goal.returns-then-count-eq0-clause-row
returns-then-count-eq0-clause-row g c place is =
    let all = length-rows_on c.args.page.now in
    let inside = is.inside in
    absurd (omega (arith, c.in_ok-count.ensures))

pub returns-then-not-has_key-clause-row : goal.returns-then-not-has_key-clause-row
returns-then-not-has_key-clause-row g c place is =
    let l = g.T.TreeRow.layout in
    let key = c.args.key.now in
    sym (row_at-other l key c.row-bytes.result.now (sym c.has_key.ensures ∙ c.if-not-has_key.true))
    ∙ ap (row_at l key) (c.row-bytes.ensures.row ∙ ap (λ i. slice_index_or (rows_on c.args.page.now) i []) (c.last_up_to.ensures.last place is))

pub returns-in-Some-clause-row : goal.returns-in-Some-clause-row
returns-in-Some-clause-row g c place is =
    let l = g.T.TreeRow.layout in
    let key = c.args.key.now in
    sym c.in-Some.is ∙ (c.read.ensures
    ∙ (sym (row_at-same l key c.row-bytes.result.now (sym c.has_key.ensures ∙ c.if-not-has_key.false))
    ∙ ap (row_at l key) (c.row-bytes.ensures.row ∙ ap (λ i. slice_index_or (rows_on c.args.page.now) i []) (c.last_up_to.ensures.last place is))))

pub returns-in-None-clause-bad : goal.returns-in-None-clause-bad
returns-in-None-clause-bad g c page readable =
    let all = length-rows_on c.args.page.now in
    let l = g.T.TreeRow.layout in
    readable c.last_up_to.result (let inside = c.last_up_to.ensures.in_rows in omega (arith, c.in_ok-count.ensures))
    (ap l.of_bytes (sym c.row-bytes.ensures.row) ∙ (sym c.read.ensures ∙ c.in-None.is))
