use Rattle.std.proofs.Common.{◌≡◌, ℕ, List, ◌++◌, take, drop, map, None}
use Rattle.std.specs.List.{flat_map}
use Rattle.tree_shape.specs.Shape.{level_size}
use Rattle.rtree_image.specs.declared.rows.RtRow.{RtRow}
use Rattle.rtree_image.specs.Image.{tree_of, rows_below, IsShown, page_number}
use Rattle.rtree_image.specs.Visits.{rows_inside}
use Rattle.rtree_image.specs.Steps.{ReadsTree, AscendWithin}
use Rattle.rtree_image.proofs.walk.visit_leaves.Given as goal

abbrev pub invariant-loop-i : goal.invariant-loop-i
invariant-loop-i g l = record {
  reads : ReadsTree l.fn.rect l.fn.tree.first l.fn.tree.rows g.P.Pages.lending g.P.Pages.asked l.initial.pages l.pages None (map (page_number (tree_of l.fn.tree.rows) l.fn.tree.first 0) (take l.i l.fn.places));
  mark : ℕ;
  rest : AscendWithin mark (level_size (tree_of l.fn.tree.rows) 0) (drop l.i l.fn.places);
  keeps : (more : List RtRow) × (l.out.items ≡ l.initial.out.items ++ more);
  told : (list : List RtRow) → IsShown (g.P.Pages.lending l.initial.pages).contents l.fn.tree.first l.fn.tree.rows list
      → l.out.items ≡ l.initial.out.items ++ flat_map (λ at. rows_inside l.fn.rect (rows_below (tree_of l.fn.tree.rows) list 0 at)) (take l.i l.fn.places);
}
