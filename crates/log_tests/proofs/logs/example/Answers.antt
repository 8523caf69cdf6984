use Rattle.wal_log.specs.Examples.{first_write-bytes}
use Rattle.log_tests.proofs.logs.example.Goals as goal

pub returns : goal.returns
returns c = first_write-bytes
