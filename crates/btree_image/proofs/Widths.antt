-- How many rows a page has room for, for each kind.
use Rattle.std.proofs.Common.{ℕ, zero, suc, ◌/◌, ◌<◌, ◌≤◌, arith, lit≤}
use Rattle.page_codec.specs.Page.{row_width, most_rows}
use Rattle.page_codec.specs.Adding.{IsKind}
use Rattle.btree_image.specs.Rows.{Layout}
use Rattle.btree_image.specs.Kinds.{AreKinds}
use Rattle.tree_shape.specs.Laws.Covers.{up_to_quotient}

pub row_width-most : (kind : ℕ) → row_width kind ≤ 78
row_width-most zero = lit≤ tt
row_width-most (suc zero) = lit≤ tt
row_width-most (suc (suc zero)) = lit≤ tt
row_width-most (suc (suc (suc zero))) = lit≤ tt
row_width-most (suc (suc (suc (suc zero)))) = lit≤ tt
row_width-most (suc (suc (suc (suc (suc zero))))) = lit≤ tt
row_width-most (suc (suc (suc (suc (suc (suc zero)))))) = lit≤ tt
row_width-most (suc (suc (suc (suc (suc (suc (suc zero))))))) = lit≤ tt
row_width-most (suc (suc (suc (suc (suc (suc (suc (suc zero)))))))) = lit≤ tt
row_width-most (suc (suc (suc (suc (suc (suc (suc (suc (suc zero))))))))) = lit≤ tt
row_width-most (suc (suc (suc (suc (suc (suc (suc (suc (suc (suc zero)))))))))) = lit≤ tt
row_width-most (suc (suc (suc (suc (suc (suc (suc (suc (suc (suc (suc zero))))))))))) = lit≤ tt
row_width-most (suc (suc (suc (suc (suc (suc (suc (suc (suc (suc (suc (suc zero)))))))))))) = lit≤ tt
row_width-most (suc (suc (suc (suc (suc (suc (suc (suc (suc (suc (suc (suc (suc zero))))))))))))) = lit≤ tt
row_width-most (suc (suc (suc (suc (suc (suc (suc (suc (suc (suc (suc (suc (suc (suc zero)))))))))))))) = lit≤ tt
row_width-most (suc (suc (suc (suc (suc (suc (suc (suc (suc (suc (suc (suc (suc (suc (suc zero))))))))))))))) = lit≤ tt
row_width-most (suc (suc (suc (suc (suc (suc (suc (suc (suc (suc (suc (suc (suc (suc (suc (suc kind)))))))))))))))) = lit≤ tt

fifty_two : (w : ℕ) → 0 < w → w ≤ 78 → 52 ≤ 4088 / w
fifty_two w a b = up_to_quotient 4088 w 52 a (omega arith)

pub most_rows-least : (kind : ℕ) → IsKind kind → 52 ≤ most_rows kind
most_rows-least kind k = fifty_two (row_width kind) k (row_width-most kind)

module _ {T K : Type 0} (l : Layout T K) (leaf inner key_width : ℕ) (k : AreKinds l leaf inner key_width) where
  pub inner_kind : IsKind l.inner
  inner_kind = let w = k.inner_width in omega arith

  pub leaf_room : 1 ≤ most_rows l.leaf
  leaf_room = let m = most_rows-least l.leaf k.leaf_kind in omega arith

  pub inner_room : 2 ≤ most_rows l.inner
  inner_room = let m = most_rows-least l.inner inner_kind in omega arith
