-- What a page of a shown tree has.
use Rattle.std.proofs.Common.{◌≡◌, ℕ, zero, suc, ◌-◌, ◌*◌, ◌<◌, ◌≤◌, min, List, length, arith, sym, ◌∙◌, ap, subst}
use Rattle.std.proofs.Math.Nat.{mul-le-mul_left}
use Rattle.std.proofs.lemmas.Grind.{div_ceil_times}
use Rattle.std.proofs.lemmas.List.{length-map}
use Rattle.std.specs.Int.{div_ceil}
use Rattle.page_codec.specs.Page.{most_rows, row_count, IsPage, ShowsRows}
use Rattle.tree_shape.specs.Shape.{level_size}
use Rattle.btree_image.specs.Rows.{Layout}
use Rattle.btree_image.specs.Image.{shape_of, level_rows, level_kind, IsList, child_row}
use Rattle.tree_shape.specs.Shape.{numbers}
use Rattle.btree_image.specs.Damage.{IsTreePage}
use Rattle.page_codec.specs.Laws.Writing.{length-rows_on}
use Rattle.tree_shape.specs.Laws.Numbers.{length-numbers}
use Rattle.tree_shape.specs.Laws.Covers.{level_size-suc}
use Rattle.btree_image.proofs.Children.{level_rows-children}

-- each page of a level has a first child
pub first_child : {T K : Type 0} (l : Layout T K) (rows level at : ℕ) → 1 ≤ most_rows l.inner → at < level_size (shape_of l rows) (suc level)
    → at * most_rows l.inner < level_size (shape_of l rows) level
first_child l rows level at b inside =
    let size = level_size (shape_of l rows) level in
    let many = most_rows l.inner in
    let times = (div_ceil_times size many b).1 in
    let above : suc at ≤ div_ceil size many = subst (λ n. at < n) (level_size-suc (shape_of l rows) level) inside in
    let more : many * suc at ≤ many * div_ceil size many = mul-le-mul_left many above in
    omega (arith, times, more)

module _ {T K : Type 0} (l : Layout T K) (b : 1 ≤ most_rows l.inner) (rows : ℕ) (list : List T) (is : IsList l rows list) (level at : ℕ) (bytes : List ℕ)
    (shows : ShowsRows l.inner (suc level) (level_rows l list (suc level) at) bytes) where
  pub inner_count : row_count bytes ≡ min (most_rows l.inner) (level_size (shape_of l rows) level - at * most_rows l.inner)
  inner_count =
      let many = most_rows l.inner in
      let n = min many (level_size (shape_of l (length list)) level - at * many) in
      sym (length-rows_on bytes)
      ∙ (ap length (shows.all ∙ level_rows-children l list is.stored level at)
      ∙ (length-map (numbers (at * many) n) (child_row l list level) ∙ (length-numbers (at * many) n
      ∙ ap (λ r. min many (level_size (shape_of l r) level - at * many)) is.count)))

  pub inner_some : at < level_size (shape_of l rows) (suc level) → row_count bytes ≡ 0 → ⊥
  inner_some inside none = let first = first_child l rows level at b inside in let count = inner_count in absurd (omega (arith, count, none, first))

-- a page that is none, or has no rows above the leaves, isn't one of a tree
pub none_of_tree : {T K : Type 0} (l : Layout T K) (rows level : ℕ) (bytes : List ℕ) → (IsPage (level_kind l level) level bytes → (0 < level) × (row_count bytes ≡ 0)) → IsTreePage l rows level bytes → ⊥
none_of_tree l rows zero bytes bad well = let wrong = bad well.page in omega (arith, wrong.0)
none_of_tree l rows (suc below) bytes bad well = let wrong = bad well.page in let some = well.some in omega (arith, wrong.1, some)
