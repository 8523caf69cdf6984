-- What the pages of components show.
use Rattle.std.specs.Prelude.{◌≡◌, ℕ, ◌*◌, List, [], ◌∷◌, length}
use Rattle.std.specs.List.{AllZip}
use Rattle.dev_model.specs.Story.{Bytes, part}
use Rattle.page_codec.specs.declared.pages.TheConstants.{PAGE_BYTES}
use Rattle.btree_image.specs.Image.{IsList, ShowsTree}
use Rattle.table_model.specs.Table.{rows_of}
use Rattle.comp_dir.specs.declared.slots.Slot.{Slot}
use Rattle.primary_ix.specs.Rows.{prim_layout}
use Rattle.primary_ix.specs.declared.rows.PrimRow.{PrimRow}
use Rattle.component_image.specs.Laid.{table_of}

-- the bytes of a page
abbrev pub page_at : Bytes → ℕ → List ℕ
page_at bytes page = part (page * PAGE_BYTES) PAGE_BYTES bytes

-- The pages of a component of the primary show the image of this list.
pub record Shows (bytes : Bytes) (s : Slot) (rows : List PrimRow) : Type 0 where
  pub is : IsList prim_layout s.main_rows rows
  pub shows : ShowsTree prim_layout rows s.first (page_at bytes)

-- each of these components shows its list
abbrev pub ShowAll : Bytes → List Slot → List (List PrimRow) → Type 0
ShowAll bytes slots lists = AllZip (Shows bytes) slots lists

-- each of these components says how many rows the table had after it
abbrev pub Count : List Slot → List (List PrimRow) → Type 0
Count [] lists = Unit {0}
Count (s ∷ slots) [] = ⊥
Count (s ∷ slots) (rows ∷ lists) = (s.table_rows ≡ length (rows_of (table_of (rows ∷ lists)))) × Count slots lists
