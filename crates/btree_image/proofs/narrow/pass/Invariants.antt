use Rattle.std.proofs.Common.{◌≡◌, ◌≤◌, [], None, map, max}
use Rattle.btree_image.specs.Pages.{page_number}
use Rattle.btree_image.specs.Walks.{GoesOn, Holds, places_in, next_behind}
use Rattle.btree_image.proofs.narrow.pass.Given as goal

abbrev pub invariant-loop-at : goal.invariant-loop-at
invariant-loop-at g l = record {
  goes : GoesOn g.T.TreeRow.layout l.tree.first l.tree.rows g.P.Pages.lending g.P.Pages.asked l.initial.pages l.pages None []
      (map (page_number g.T.TreeRow.layout l.tree.first l.tree.rows l.level) (places_in l.initial.hand.next l.fn.run.first l.at));
  from : l.fn.run.first ≤ l.at;
  most : l.at ≤ max l.fn.run.first l.fn.run.end;
  next : l.hand.next ≡ next_behind l.initial.hand.next l.fn.run.first l.at;
  holds : Holds g.T.TreeRow.layout l.tree.first l.tree.rows (g.P.Pages.lending l.initial.pages).contents l.level l.hand;
}
