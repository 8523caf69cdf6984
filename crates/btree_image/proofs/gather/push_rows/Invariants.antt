use Rattle.std.proofs.Common.{◌≡◌, ◌-◌, ◌≤◌, List, ◌++◌, Some, map, take, drop, max}
use Rattle.page_codec.specs.Page.{rows_on}
use Rattle.btree_image.proofs.gather.push_rows.Given as goal

abbrev pub invariant-loop-i : goal.invariant-loop-i
invariant-loop-i g l = record {
  from : l.fn.from ≤ l.i;
  most : l.i ≤ max l.fn.from l.fn.to;
  added : List g.row.T.Denot;
  out : l.out.items ≡ l.initial.out.items ++ added;
  rows : map Some added ≡ map g.T.TreeRow.layout.of_bytes (take (l.i - l.fn.from) (drop l.fn.from (rows_on l.fn.hand.buf)));
}
