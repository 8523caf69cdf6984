use Rattle.std.proofs.Common.{◌≡◌, ℕ, ◌<◌, ◌++◌, true}
use Rattle.store_state.specs.Beginning.{is_taken}
use Rattle.store_state.proofs.planning.lowest_closed.Given as goal

abbrev pub invariant-loop-number : goal.invariant-loop-number
invariant-loop-number l = (m : ℕ) → m < l.number → is_taken (l.components ++ l.ignored) m ≡ true
