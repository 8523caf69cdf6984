-- What the lists in memory have at a key.
use Rattle.std.proofs.Common.{◌≡◌, ℕ, List, [], ◌++◌, Option, Some, None, is_none, if◌then◌else◌, refl, sym, ◌∙◌, ap}
use Rattle.std.specs.Option.{option_or, option_map}
use Rattle.order_merge.specs.Entries.{newest_at}
use Rattle.order_merge.specs.Fitting.{Fits, living_at, unless_anti}
use Rattle.order_merge.specs.Views.{lists_of}
use Rattle.primary_ix.specs.declared.rows.PrimRow.{PrimRow}
use Rattle.primary_ix.specs.Rows.{Matter}
use Rattle.primary_ix.specs.Reading.{prim_reading}
use Rattle.geo_base.specs.declared.points.Row.{Row}
use Rattle.table_model.specs.Table.{Table}
use Rattle.primary_ix.specs.Lookups.{in_memory}
use Rattle.primary_ix.specs.Laws.Memory.{newest-view}
use Rattle.primary_ix.specs.Wanted.{matter_row, table_row, wanted_rows}
use Rattle.primary_ix.specs.Records.{record_in, record_of, with_matter}

-- the record of a row is that of the row that lives
alive : (found : Option PrimRow) → record_of found ≡ record_of (unless_anti prim_reading found)
alive None = refl
alive (Some row) = go row.key row.matter
  where
    go : (key : ℕ) (matter : Matter) → with_matter key matter ≡ record_of (if is_none matter then None else Some (record { key = key; matter = matter }))
    go key None = refl
    go key (Some matter) = refl

module _ (active : List PrimRow) (frozen : Option (List PrimRow)) (disk : List (List PrimRow)) (key : ℕ) where
  abbrev pub living : Option PrimRow
  living = living_at prim_reading (lists_of active frozen disk) key

  pub record-memory : (row : PrimRow) → Some row ≡ in_memory active frozen key → record_in row ≡ record_of living
  record-memory row is = alive (Some row) ∙ ap (λ o. record_of (unless_anti prim_reading o)) (ap (λ o. option_or o (newest_at prim_reading disk key)) is ∙ sym (newest-view active frozen key disk))

  pub record-disk : (found : Option PrimRow) → None ≡ in_memory active frozen key → found ≡ newest_at prim_reading disk key → record_of found ≡ record_of living
  record-disk found none is =
      alive found ∙ ap (λ o. record_of (unless_anti prim_reading o)) (is ∙ ap (λ o. option_or o (newest_at prim_reading disk key)) none ∙ sym (newest-view active frozen key disk))

  -- where the lists fit a table it is the table's
  pub record-table : (table : Table) (answer : Option Row) → answer ≡ record_of living → Fits prim_reading (lists_of active frozen disk) (wanted_rows table) → answer ≡ table_row table key
  record-table table answer is fits = is ∙ ap record_of (fits key) ∙ wanted (table_row table key)
    where
      wanted : (row : Option Row) → record_of (option_map matter_row row) ≡ row
      wanted None = refl
      wanted (Some row) = refl

-- the lists in memory, and those of the components behind them
pub lists-join : (active : List PrimRow) (frozen : Option (List PrimRow)) (disk : List (List PrimRow)) → lists_of active frozen [] ++ disk ≡ lists_of active frozen disk
lists-join active None disk = refl
lists-join active (Some list) disk = refl
