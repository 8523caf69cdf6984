-- How the lists of a store belong to its device.
use Rattle.std.specs.Prelude.{◌≡◌, ◌↔◌, ℕ, List, [], ◌++◌, length, map, Contains}
use Rattle.dev_model.specs.Story.{Story, bytes_of}
use Rattle.table_model.specs.Table.{Table, rows_of}
use Rattle.wal_log.specs.Later.{later}
use Rattle.wal_log.specs.Rules.{records_of}
use Rattle.wal_log.specs.Segments.{segments_of}
use Rattle.wal_log.specs.declared.log.Log.{Log}
use Rattle.wal_log.specs.declared.records.Record.{Record}
use Rattle.format_numbers.specs.declared.TheConstants.{LOG_START}
use Rattle.component_image.specs.Replayed.{replayed}
use Rattle.comp_dir.specs.Directory.{Numbered, directory_of, open_slots}
pub use Rattle.component_image.specs.Changes.{changed, IsFrozenOf}
use Rattle.component_image.specs.Laid.{table_of}
use Rattle.component_image.specs.Recovered.{primary_of}
use Rattle.component_image.specs.Resting.{Rests}
use Rattle.store_state.specs.Lists.{Lists, open_of, placed_up_to}

-- The store is at rest with this table, its components are those of the lists, and so are its open slots. The records of the log
-- behind the components are the writes of the frozen list and those of the active one, and the numbers of rows are those of the
-- table.
pub record IsHeld (pages : ℕ) (log : Log) (table : Table) (l : Lists) (s : Story) : Type 0 where
  pub rests : Rests pages log table s
  pub components : primary_of (bytes_of s) ≡ map (λ e. e.1) l.components
  pub slots : (e : Numbered) → Contains (open_slots (directory_of (bytes_of s))) e ↔ Contains (open_of l) e
  pub frozen_writes : List Record
  pub active_writes : List Record
  pub writes : later (placed_up_to l.components) (records_of (segments_of LOG_START (bytes_of s))) ≡ frozen_writes ++ active_writes
  pub frozen_is : IsFrozenOf l.frozen frozen_writes
  pub active_is : l.active ≡ changed [] active_writes
  pub active_count : length active_writes ≡ log.records
  pub rows_are : l.rows ≡ length (rows_of table)
  pub cut_rows_are : l.cut_rows ≡ length (rows_of (replayed (table_of rests.recovers.lists) frozen_writes))
