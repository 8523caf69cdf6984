use Rattle.page_codec.specs.Page.{row_width, row_count, kind_of}
use Rattle.page_codec.proofs.Rows.{cut_at_once}
use Rattle.page_codec.proofs.pages.row.Goals as goal

pub returns-clause-row : goal.returns-clause-row
returns-clause-row c =
    let page = c.args.page.now in
    cut_at_once page c.args.i (row_width (kind_of page)) (row_count page) c.width_of-width.result c.from.result
    c.requires.in_rows c.width_of-width.ensures c.from.ensures
