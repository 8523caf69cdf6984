-- The pages that a reader asked for, step by step.
use Rattle.std.proofs.Common.{◌≡◌, ℕ, suc, ◌≤◌, List, [], ◌∷◌, ◌++◌, length, arith, sym, ◌∙◌, ap, append_assoc}
use Rattle.page_codec.specs.Page.{most_rows}
use Rattle.tree_shape.specs.Laws.Places.{root_unique}
use Rattle.tree_shape.specs.Shape.{IsRoot}
use Rattle.btree_image.specs.Rows.{Layout}
use Rattle.btree_image.specs.Kinds.{IsKeyOrder}
use Rattle.btree_image.specs.Image.{shape_of, IsList}
use Rattle.btree_image.specs.Pages.{page_number}
use Rattle.btree_image.specs.Descent.{place_of_key, descent}
use Rattle.btree_image.proofs.Told.{place-inside}

-- the way of a descent, one page further
module _ {T K : Type 0} (l : Layout T K) (first rows : ℕ) (list : List T) (key : K) (is : IsList l rows list) where
  pub path_next : (level at : ℕ) (seen whole : List ℕ) → at ≡ place_of_key l list key (suc level) → seen ++ descent l first list key (suc level) ≡ whole
      → (seen ++ page_number l first rows (suc level) at ∷ []) ++ descent l first list key level ≡ whole
  unfolding descent
  path_next level at seen whole e so_far =
      append_assoc seen (page_number l first rows (suc level) at ∷ []) (descent l first list key level)
      ∙ (ap (λ n. seen ++ n ∷ descent l first list key level) (ap (λ r. page_number l first r (suc level) at) (sym is.count) ∙ ap (page_number l first (length list) (suc level)) e) ∙ so_far)

  pub path_last : (at : ℕ) (seen whole : List ℕ) → at ≡ place_of_key l list key 0 → seen ++ descent l first list key 0 ≡ whole
      → seen ++ page_number l first rows 0 at ∷ [] ≡ whole
  unfolding descent
  path_last at seen whole e so_far =
      ap (λ n. seen ++ n ∷ []) (ap (λ r. page_number l first r 0 at) (sym is.count) ∙ ap (page_number l first (length list) 0) e) ∙ so_far

  pub path_first : (level root : ℕ) → IsRoot (shape_of l rows) level → IsRoot (shape_of l rows) root → [] ++ descent l first list key level ≡ descent l first list key root
  path_first level root a b = ap (descent l first list key) (root_unique (shape_of l rows) level root a b)

  pub root_place : IsKeyOrder l.order → 1 ≤ most_rows l.leaf → 2 ≤ most_rows l.inner → (level : ℕ) → IsRoot (shape_of l rows) level → 0 ≡ place_of_key l list key level
  root_place o a b level root =
      let inside = place-inside l o a b rows list is key level in
      let one = root.alone in
      omega arith
