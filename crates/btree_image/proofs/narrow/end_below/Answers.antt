use Rattle.std.proofs.Common.{◌+◌, ◌-◌, ◌*◌, ◌∙◌, ap, min}
use Rattle.page_codec.specs.Page.{most_rows}
use Rattle.btree_image.proofs.narrow.end_below.Goals as goal

pub returns-clause-end : goal.returns-clause-end
returns-clause-end g c place is =
    c.min.ensures ∙ ap (λ n. min n c.args.size)
    (ap (λ n. (c.args.hand.now.next - 1) * c.per_inner-many.result + n) c.from.ensures
    ∙ (ap (λ n. (c.args.hand.now.next - 1) * n + c.rows_up_to.result) c.per_inner-many.ensures.rows
    ∙ ap (λ n. (c.args.hand.now.next - 1) * most_rows g.T.TreeRow.layout.inner + n) (c.rows_up_to.ensures.rows place is)))
