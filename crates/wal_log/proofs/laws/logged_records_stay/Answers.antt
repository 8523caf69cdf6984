use Rattle.wal_log.specs.Laws.Staying.{records-stay}
use Rattle.wal_log.proofs.laws.logged_records_stay.Goals as goal

pub returns : goal.returns
returns c = records-stay
