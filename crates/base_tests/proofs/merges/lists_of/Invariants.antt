use Rattle.std.proofs.Common.{◌≡◌, All}
use Rattle.std.specs.Ordering.{nat_cmp}
use Rattle.std.specs.List.{AllPairs}
use Rattle.std.specs.declared.cmp.Ordering.TheVariants.{Less}
use Rattle.base_tests.proofs.merges.lists_of.Given as goal

abbrev pub invariant-loop-list : goal.invariant-loop-list
invariant-loop-list l = All (λ list. AllPairs (λ d e. nat_cmp d.key e.key ≡ Less) list.items) l.lists.items
