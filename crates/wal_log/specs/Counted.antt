-- The numbers of a log.
use Rattle.std.specs.Prelude.{◌+◌, ◌≤◌}
use Rattle.wal_log.specs.declared.places.TheConstants.{MOST_RECORDS, LSN_LIMIT}
use Rattle.wal_log.specs.declared.log.Log.{Log}

-- the numbers of a log, wherever its bytes are
pub record IsCounted (log : Log) : Type 0 where
  pub few : log.records ≤ MOST_RECORDS
  pub generation : log.generation + log.records ≤ log.next_lsn
  pub next_lsn : log.next_lsn ≤ LSN_LIMIT
