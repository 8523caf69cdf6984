use Rattle.std.proofs.Common.{◌+◌, ◌-◌, ◌*◌, ◌∙◌, ap}
use Rattle.page_codec.specs.Page.{most_rows}
use Rattle.btree_image.proofs.narrow.first_below.Goals as goal

pub returns : goal.returns
returns g c place is =
    ap (λ n. (c.args.hand.now.next - 1) * c.per_inner-many.result + n) c.from.ensures
    ∙ (ap (λ n. (c.args.hand.now.next - 1) * n + c.last_up_to.result) c.per_inner-many.ensures.rows
    ∙ ap (λ n. (c.args.hand.now.next - 1) * most_rows g.T.TreeRow.layout.inner + n) (c.last_up_to.ensures.last place is))
