-- The pages that a lookup of a key asks for.
use Rattle.std.specs.Prelude.{ℕ, List, [], ◌∷◌, ◌++◌, Option, is_some, if◌then◌else◌}
use Rattle.order_merge.specs.Entries.{entry_at, newest_at}
use Rattle.order_merge.specs.Views.{lists_of}
use Rattle.btree_image.specs.Descent.{descent}
use Rattle.primary_ix.specs.declared.component.PrimComp.{PrimComp}
use Rattle.primary_ix.specs.declared.rows.PrimRow.{PrimRow}
use Rattle.primary_ix.specs.Rows.{prim_layout}
use Rattle.primary_ix.specs.Reading.{prim_reading}

-- a descent in each component, the newest first, up to the first that has the key
unfoldable pub lookup_pages : (key : ℕ) → List PrimComp → (disk : List (List PrimRow)) → (roots : List ℕ) → List ℕ
lookup_pages key [] disk roots = []
lookup_pages key (comp ∷ older) [] roots = []
lookup_pages key (comp ∷ older) (list ∷ disk) [] = []
lookup_pages key (comp ∷ older) (list ∷ disk) (root ∷ roots) =
    descent prim_layout comp.tree.first list key root
    ++ (if is_some (entry_at prim_reading list key) then [] else lookup_pages key older disk roots)

-- what the lists in memory have at a key: the active one, and the frozen one where there is one
abbrev pub in_memory : (active : List PrimRow) → (frozen : Option (List PrimRow)) → (key : ℕ) → Option PrimRow
in_memory active frozen key = newest_at prim_reading (lists_of active frozen []) key

-- where the lists in memory have the key, no page
abbrev pub view_pages : (key : ℕ) → (active : List PrimRow) → (frozen : Option (List PrimRow)) → List PrimComp → (disk : List (List PrimRow)) → (roots : List ℕ) → List ℕ
view_pages key active frozen comps disk roots =
    if is_some (in_memory active frozen key) then [] else lookup_pages key comps disk roots
