use Rattle.std.proofs.Common.{◌≡◌, ◌++◌, take, map}
use Rattle.std.specs.List.{filter}
use Rattle.page_codec.specs.Page.{rows_on}
use Rattle.rtree_image.specs.Rows.{row_of}
use Rattle.rtree_image.specs.Visits.{is_inside}
use Rattle.rtree_image.proofs.in_page.add_rows.Given as goal

abbrev pub invariant-loop-i : goal.invariant-loop-i
invariant-loop-i l = l.out.items ≡ l.initial.out.items ++ filter (is_inside l.fn.rect) (map row_of (take l.i (rows_on l.fn.page)))
