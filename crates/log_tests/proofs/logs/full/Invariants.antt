use Rattle.std.proofs.Common.{◌≡◌}
use Rattle.wal_log.specs.Counted.{IsCounted}
use Rattle.log_tests.proofs.logs.full.Given as goal

abbrev pub invariant-loop : goal.invariant-loop
invariant-loop l = record {
  pages : l.device.pages ≡ 265;
  start : l.log.start ≡ 36864;
  counted : IsCounted l.log;
}
