use Rattle.wal_log.proofs.Together.{all-or-none}
use Rattle.wal_log.proofs.laws.records_stand_together.Goals as goal

pub returns : goal.returns
returns c = all-or-none
