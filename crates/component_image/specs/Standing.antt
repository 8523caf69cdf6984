-- When one more component may stand, and images that recover to one of two tables.
use Rattle.std.specs.Prelude.{◌≡◌, ◌⊎◌, ℕ, ◌<◌, ◌≤◌, List, [], ◌∷◌, ◌++◌, length}
use Rattle.dev_model.specs.Story.{Bytes, Story, bytes_of}
use Rattle.table_model.specs.Table.{Table, rows_of}
use Rattle.wal_log.specs.Later.{later}
use Rattle.wal_log.specs.Rules.{Opens as LogOpens, records_of}
use Rattle.wal_log.specs.Segments.{segments_of}
use Rattle.wal_log.specs.declared.records.Record.{Record}
use Rattle.format_numbers.specs.declared.TheConstants.{LOG_START}
use Rattle.comp_dir.specs.Choosing.{Opens as DirectoryOpens}
use Rattle.comp_dir.specs.Directory.{directory_of}
use Rattle.comp_dir.specs.State.{with_slot}
use Rattle.comp_dir.specs.declared.places.TheConstants.{FIRST_DATA_PAGE, PRIMARY, SLOTS}
use Rattle.comp_dir.specs.declared.slots.Slot.{Slot}
use Rattle.primary_ix.specs.declared.rows.PrimRow.{PrimRow}
use Rattle.component_image.specs.Changes.{changed}
use Rattle.component_image.specs.Components.{components, end_of}
use Rattle.component_image.specs.Content.{Shows, ShowAll}
use Rattle.component_image.specs.Laid.{table_of}
use Rattle.component_image.specs.Recovered.{primary_of, ends_of, Recovers}

-- an image recovers to the one table or to the other
abbrev pub RecoversEither : (pages : ℕ) → Table → Table → Bytes → Type 0
RecoversEither pages one other image = Recovers pages one image ⊎ Recovers pages other image

-- A component may stand in this slot as the primary's newest: the directory opens with it, its pages show the rows of the log's first
-- later writes, and the log goes on behind them. The components that are there show these lists.
pub record MayStand (pages : ℕ) (s : Story) (n : ℕ) (new : Slot) (frozen : List Record) (lists : List (List PrimRow)) : Type 0 where
  pub below : n < SLOTS
  pub behind : FIRST_DATA_PAGE ≤ new.first
  pub directory : DirectoryOpens pages 0 (with_slot n new (directory_of (bytes_of s)))
  pub components_are : components PRIMARY (with_slot n new (directory_of (bytes_of s))) ≡ new ∷ primary_of (bytes_of s)
  pub shown : ShowAll (bytes_of s) (primary_of (bytes_of s)) lists
  pub shows : Shows (bytes_of s) new (changed [] frozen)
  pub counts : new.table_rows ≡ length (rows_of (table_of (changed [] frozen ∷ lists)))
  pub log : LogOpens (ends_of (new ∷ [])) (segments_of LOG_START (bytes_of s))
  pub split : later (end_of (primary_of (bytes_of s))) (records_of (segments_of LOG_START (bytes_of s))) ≡ frozen ++ later new.last_lsn (records_of (segments_of LOG_START (bytes_of s)))
