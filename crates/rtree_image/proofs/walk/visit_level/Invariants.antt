use Rattle.std.proofs.Common.{◌≡◌, ℕ, suc, ◌*◌, List, take, drop, map, None, min}
use Rattle.std.specs.List.{flat_map}
use Rattle.tree_shape.specs.Shape.{level_size}
use Rattle.rtree_image.specs.declared.rows.RtRow.{RtRow}
use Rattle.rtree_image.specs.Image.{tree_of, IsShown, page_number}
use Rattle.rtree_image.specs.Steps.{ReadsTree, AscendWithin, children_met}
use Rattle.rtree_image.proofs.walk.visit_level.Given as goal

abbrev pub invariant-loop-i : goal.invariant-loop-i
invariant-loop-i g l = record {
  reads : ReadsTree l.fn.rect l.fn.tree.first l.fn.tree.rows g.P.Pages.lending g.P.Pages.asked l.initial.pages l.pages None (map (page_number (tree_of l.fn.tree.rows) l.fn.tree.first (suc l.fn.below)) (take l.i l.fn.places));
  mark : ℕ;
  rest : AscendWithin mark (level_size (tree_of l.fn.tree.rows) (suc l.fn.below)) (drop l.i l.fn.places);
  ascends : AscendWithin 0 (min (mark * 340) (level_size (tree_of l.fn.tree.rows) l.fn.below)) l.next.items;
  told : (list : List RtRow) → IsShown (g.P.Pages.lending l.initial.pages).contents l.fn.tree.first l.fn.tree.rows list
      → l.next.items ≡ flat_map (children_met (tree_of l.fn.tree.rows) list l.fn.rect l.fn.below) (take l.i l.fn.places);
}
