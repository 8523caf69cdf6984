use Rattle.std.proofs.Common.{◌≡◌, ℕ, ◌<◌, ◌≤◌, List, ◌++◌, None}
use Rattle.tree_shape.specs.Shape.{level_size, IsRoot}
use Rattle.rtree_image.specs.declared.rows.RtRow.{RtRow}
use Rattle.rtree_image.specs.Image.{tree_of, IsShown, page_number}
use Rattle.rtree_image.specs.Visits.{visited_at, visited_from, visited_pages}
use Rattle.rtree_image.specs.Steps.{ReadsTree, AscendWithin}
use Rattle.rtree_image.proofs.Ascending.{Once, Above}
use Rattle.rtree_image.proofs.walk.add_found.Given as goal

abbrev pub invariant-loop-level : goal.invariant-loop-level
invariant-loop-level g l = record {
  low : l.level ≤ 33;
  up_to_root : (below : ℕ) → below < l.level → 1 < level_size (tree_of l.fn.tree.rows) below;
  top : ℕ;
  at_root : IsRoot (tree_of l.fn.tree.rows) top;
  down : l.level ≤ top;
  places : AscendWithin 0 (level_size (tree_of l.fn.tree.rows) l.level) l.places.items;
  seen : List ℕ;
  reads : ReadsTree l.fn.rect l.fn.tree.first l.fn.tree.rows g.P.Pages.lending g.P.Pages.asked l.initial.pages l.pages None seen;
  once : Once seen;
  above : Above (page_number (tree_of l.fn.tree.rows) l.fn.tree.first l.level (level_size (tree_of l.fn.tree.rows) l.level)) seen;
  told : (list : List RtRow) → IsShown (g.P.Pages.lending l.initial.pages).contents l.fn.tree.first l.fn.tree.rows list
      → l.places.items ≡ visited_at (tree_of l.fn.tree.rows) list l.fn.rect top l.level;
  way : (list : List RtRow) → IsShown (g.P.Pages.lending l.initial.pages).contents l.fn.tree.first l.fn.tree.rows list
      → seen ++ visited_from (tree_of l.fn.tree.rows) list l.fn.rect l.fn.tree.first top l.level ≡ visited_pages (tree_of l.fn.tree.rows) list l.fn.rect l.fn.tree.first top;
}

abbrev pub decreases-loop-level : goal.decreases-loop-level
decreases-loop-level g l = l.level
