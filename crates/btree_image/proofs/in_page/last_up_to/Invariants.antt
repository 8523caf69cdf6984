use Rattle.std.proofs.Common.{◌-◌, ◌<◌, ◌≤◌, ℕ}
use Rattle.page_codec.specs.Page.{rows_on}
use Rattle.btree_image.specs.Steps.{IsLastUpTo}
use Rattle.btree_image.proofs.in_page.last_up_to.Given as goal

abbrev pub invariant-loop-high : goal.invariant-loop-high
invariant-loop-high g l = record {
  some : l.low < l.high;
  inside : l.high ≤ l.count;
  between : (place : ℕ) → IsLastUpTo g.T.TreeRow.layout l.key (rows_on l.page) place → record { from : l.low ≤ place; before : place < l.high };
}

abbrev pub decreases-loop-high : goal.decreases-loop-high
decreases-loop-high g l = l.high - l.low
