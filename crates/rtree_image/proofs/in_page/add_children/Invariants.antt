use Rattle.std.proofs.Common.{◌≡◌, ℕ, ◌++◌, ◌+◌, ◌-◌, ◌*◌, ◌<◌, [], drop}
use Rattle.std.specs.Prelude.{slice_index_or, IsTrue}
use Rattle.std.specs.Int.{from_be_bytes, w32}
use Rattle.std.specs.List.{filter}
use Rattle.page_codec.specs.Page.{rows_on}
use Rattle.tree_shape.specs.Shape.{numbers, level_start}
use Rattle.rtree_image.specs.Bounds.{bounds_in, meets}
use Rattle.rtree_image.specs.Image.{tree_of}
use Rattle.rtree_image.proofs.in_page.add_children.Given as goal

abbrev pub invariant-loop-i : goal.invariant-loop-i
invariant-loop-i l = record {
  places : l.places.items
      ≡ l.initial.places.items ++ filter (λ child. meets (bounds_in (slice_index_or (rows_on l.fn.page) (child - l.fn.at * 340) [])) l.fn.rect) (numbers (l.fn.at * 340) l.i);
  tested : (k : ℕ) → k < l.i → IsTrue (meets (bounds_in (slice_index_or (rows_on l.fn.page) k [])) l.fn.rect)
      → from_be_bytes w32 (drop 8 (slice_index_or (rows_on l.fn.page) k [])) ≡ level_start (tree_of l.fn.rows) l.fn.below + (l.fn.at * 340 + k);
}
