-- How the numbers of the lists belong to those of the log.
use Rattle.std.specs.Prelude.{◌≡◌, ◌+◌}
use Rattle.wal_log.specs.declared.log.Log.{Log}
use Rattle.format_numbers.specs.declared.TheConstants.{LOG_START}
use Rattle.store_state.specs.Lists.{Lists}

-- The numbers of the lists are those of the log, whatever the device tells.
pub record IsNumbered (log : Log) (l : Lists) : Type 0 where
  pub start : log.start ≡ LOG_START
  pub next : l.cut + 1 + log.records ≡ log.next_lsn
