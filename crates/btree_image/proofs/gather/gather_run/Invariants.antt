use Rattle.std.proofs.Common.{◌≡◌, suc, ◌*◌, ◌≤◌, List, ◌++◌, None, map, min, max}
use Rattle.page_codec.specs.Page.{most_rows}
use Rattle.btree_image.specs.Pages.{page_number}
use Rattle.btree_image.specs.Shown.{IsShown}
use Rattle.btree_image.specs.Descent.{rank}
use Rattle.btree_image.specs.Walks.{GoesOn, Holds, in_hand, places_in, next_behind, rank_below, Leads, part}
use Rattle.btree_image.proofs.gather.gather_run.Given as goal

abbrev pub invariant-loop-at : goal.invariant-loop-at
invariant-loop-at g l = record {
  goes : GoesOn g.T.TreeRow.layout l.tree.first l.tree.rows g.P.Pages.lending g.P.Pages.asked l.initial.pages l.pages None
      (in_hand g.T.TreeRow.layout l.tree.first l.tree.rows 0 l.initial.hand.next)
      (map (page_number g.T.TreeRow.layout l.tree.first l.tree.rows 0) (places_in l.initial.hand.next l.fn.run.first l.at));
  from : l.fn.run.first ≤ l.at;
  most : l.at ≤ max l.fn.run.first l.fn.run.end;
  next : l.hand.next ≡ next_behind l.initial.hand.next l.fn.run.first l.at;
  holds : Holds g.T.TreeRow.layout l.tree.first l.tree.rows (g.P.Pages.lending l.initial.pages).contents 0 l.hand;
  added : List g.row.T.Denot;
  out : l.out.items ≡ l.initial.out.items ++ added;
  told : (list : List g.row.T.Denot) → IsShown g.T.TreeRow.layout (g.P.Pages.lending l.initial.pages).contents l.tree.first l.tree.rows list → Leads g.T.TreeRow.layout list 0 l.fn.range l.fn.run
      → l.initial.hand.next ≤ suc l.fn.run.first
      → added ≡ part list (rank_below g.T.TreeRow.layout list l.fn.range.0) (min (rank g.T.TreeRow.layout list l.fn.range.1) (l.at * most_rows g.T.TreeRow.layout.leaf));
}
