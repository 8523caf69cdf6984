use Rattle.std.proofs.Common.{◌≡◌}
use Rattle.log_tests.proofs.logs.lay_delete.Given as goal

abbrev pub invariant-loop-at : goal.invariant-loop-at
invariant-loop-at l = record { pages : l.device.pages ≡ l.fn.device.pages }
