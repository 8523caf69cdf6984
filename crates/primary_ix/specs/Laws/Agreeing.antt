-- A list in memory and a list on pages are read alike.
use Rattle.std.proofs.Common.{◌≡◌, ℕ, List, [], ◌∷◌, Some, refl, ap, if◌then◌else◌}
use Rattle.std.specs.Ordering.{eq_by_cmp, nat_cmp}
use Rattle.order_merge.specs.Entries.{entry_at}
use Rattle.btree_image.specs.Given.{row_with_key}
use Rattle.primary_ix.specs.declared.rows.PrimRow.{PrimRow}
use Rattle.primary_ix.specs.Rows.{prim_layout}
use Rattle.primary_ix.specs.Reading.{prim_reading}

-- the row of a key in a tree's list is the entry of the key
pub row_with_key-entry_at : (list : List PrimRow) (key : ℕ) → row_with_key prim_layout list key ≡ entry_at prim_reading list key
unfolding row_with_key entry_at
row_with_key-entry_at [] key = refl
row_with_key-entry_at (row ∷ rows) key = ap (λ found. if eq_by_cmp nat_cmp row.key key then Some row else found) (row_with_key-entry_at rows key)
