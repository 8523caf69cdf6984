use Rattle.std.proofs.Common.{◌+◌, ◌*◌, length, refl, ap, ◌∙◌, arith}
use Rattle.page_codec.specs.Page.{row_count, rows_on}
use Rattle.page_codec.specs.Adding.{with_row}
use Rattle.page_codec.proofs.Rows.{replaced, rows_on-with_row, with_row_written}
use Rattle.page_codec.proofs.pages.put_row.Goals as goal

pub returns-clause-bytes : goal.returns-clause-bytes
unfolding with_row
returns-clause-bytes c =
    let page = c.args.page.now in
    let row = c.args.row.now in
    rw (c.copy_from_slice.ensures.after, c.from.ensures, c.count_of-count.ensures, replaced page row (8 + row_count page * length row) (length row)) refl

pub returns-clause-rows : goal.returns-clause-rows
returns-clause-rows c =
    ap rows_on (returns-clause-bytes c)
    ∙ rows_on-with_row c.args.page.now c.args.row.now c.requires.kind c.requires.width c.requires.room (omega arith)

pub returns-clause-written : goal.returns-clause-written
returns-clause-written c = λ kind level rows is wide.
    returns-clause-bytes c
    ∙ with_row_written c.args.page.now kind level rows c.args.row.now is wide c.requires.kind c.requires.width c.requires.room
