use Rattle.std.proofs.Common.{◌≡◌, length}
use Rattle.tree_tests.proofs.primary_rows.numbered.Given as goal

abbrev pub invariant-loop-i : goal.invariant-loop-i
invariant-loop-i l = length l.list.items ≡ l.i
