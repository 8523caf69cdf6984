use Rattle.std.proofs.Common.{◌<◌, All}
use Rattle.std.specs.Ordering.{nat_cmp}
use Rattle.std.specs.declared.cmp.Ordering.TheVariants.{Less}
use Rattle.base_tests.proofs.merges.list_of.Given as goal
use Rattle.std.specs.List.{AllPairs}
use Rattle.std.proofs.Common.{◌≡◌}

abbrev pub invariant-loop-key : goal.invariant-loop-key
invariant-loop-key l = AllPairs (λ d e. nat_cmp d.key e.key ≡ Less) l.marks.items × All (λ e. e.key < l.key) l.marks.items
