-- Kinds of pages that fit the rows of a tree, and an order of keys.
use Rattle.std.specs.Prelude.{◌≡◌, ℕ, ◌+◌, ◌≤◌}
use Rattle.std.specs.Cmp.{IsTotalOrder}
use Rattle.std.specs.declared.cmp.Ordering.{Ordering}
use Rattle.std.specs.declared.cmp.Ordering.TheVariants.{Equal}
use Rattle.page_codec.specs.Page.{row_width}
use Rattle.page_codec.specs.Adding.{IsKind}
use Rattle.btree_image.specs.Rows.{Layout}

-- the order is total, and keys that are equal by it are the same
pub record IsKeyOrder {K : Type 0} (order : K → K → Ordering) : Type 0 where
  pub total : IsTotalOrder order
  pub same : (a b : K) → order a b ≡ Equal → a ≡ b

-- kinds of pages that fit the rows: a leaf's row begins with a key, and a row above is a key and a child
pub record AreKinds {T K : Type 0} (l : Layout T K) (leaf inner key_width : ℕ) : Type 0 where
  pub leaf_is : l.leaf ≡ leaf
  pub inner_is : l.inner ≡ inner
  pub key_width_is : l.key_width ≡ key_width
  pub leaf_kind : IsKind l.leaf
  pub key_fits : l.key_width ≤ row_width l.leaf
  pub inner_width : row_width l.inner ≡ l.key_width + 4
  pub key_order : IsKeyOrder l.order
