-- What a store has on its device while nothing has stopped it.
use Rattle.std.specs.Prelude.{◌≡◌, ℕ}
use Rattle.dev_model.specs.Story.{Story, bytes_of, IsCalmAt}
use Rattle.table_model.specs.Table.{Table}
use Rattle.wal_log.specs.Segments.{segments_of}
use Rattle.wal_log.specs.State.{IsAtRest as LogAtRest, IsLogOf}
use Rattle.wal_log.specs.declared.log.Log.{Log}
use Rattle.format_numbers.specs.declared.TheConstants.{LOG_START}
use Rattle.superblock.specs.Superblock.{IsLookedInSuperblock}
use Rattle.comp_dir.specs.Resting.{IsAtRest as DirectoryAtRest}
use Rattle.component_image.specs.Recovered.{IsContent, Recovers}

-- The bytes recover to the table, all that an opening looks at is on the disk, and so are the pages of the components. The log goes
-- on where the one in memory does.
pub record Rests (pages : ℕ) (log : Log) (table : Table) (s : Story) : Type 0 where
  pub recovers : Recovers pages table (bytes_of s)
  pub superblock_calm : IsCalmAt (IsLookedInSuperblock (bytes_of s)) s
  pub directory_rest : DirectoryAtRest s
  pub content_calm : IsCalmAt (IsContent (bytes_of s)) s
  pub log_start : log.start ≡ LOG_START
  pub log_rest : LogAtRest log s
  pub log_of : IsLogOf log (segments_of LOG_START (bytes_of s))
