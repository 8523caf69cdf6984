-- What the lists of a store have at a key.
use Rattle.std.proofs.Common.{◌≡◌, ℕ, List, [], Option, Some, None, is_some, if◌then◌else◌, sym, ◌∙◌, ap}
use Rattle.std.specs.Option.{option_or}
use Rattle.order_merge.specs.Entries.{newest_at}
use Rattle.order_merge.specs.Views.{lists_of}
use Rattle.primary_ix.specs.Laws.Memory.{newest-view}
use Rattle.primary_ix.specs.Lookups.{in_memory, lookup_pages, view_pages}
use Rattle.primary_ix.specs.Reading.{prim_reading}
use Rattle.primary_ix.specs.declared.component.PrimComp.{PrimComp}
use Rattle.primary_ix.specs.declared.rows.PrimRow.{PrimRow}

module _ (active : List PrimRow) (frozen : Option (List PrimRow)) (key : ℕ) where
  -- where a list in memory has the key
  pub found-memory : (row : PrimRow) → Some row ≡ in_memory active frozen key → (disk : List (List PrimRow)) → Some row ≡ newest_at prim_reading (lists_of active frozen disk) key
  found-memory row is disk = ap (λ (o : Option PrimRow). option_or o (newest_at prim_reading disk key)) is ∙ sym (newest-view active frozen key disk)

  pub pages-memory : (row : PrimRow) → Some row ≡ in_memory active frozen key → (comps : List PrimComp) (disk : List (List PrimRow)) (roots : List ℕ) → [] ≡ view_pages key active frozen comps disk roots
  pages-memory row is comps disk roots = ap (λ (o : Option PrimRow). if is_some o then [] else lookup_pages key comps disk roots) is

  -- and where none has
  pub found-disk : None ≡ in_memory active frozen key → (disk : List (List PrimRow)) → newest_at prim_reading disk key ≡ newest_at prim_reading (lists_of active frozen disk) key
  found-disk none disk = ap (λ (o : Option PrimRow). option_or o (newest_at prim_reading disk key)) none ∙ sym (newest-view active frozen key disk)
