use Rattle.std.proofs.Common.{nat_lt, ◌^◌, sym, subst}
use Rattle.primary_ix.specs.Pages.{AreAllLent}
use Rattle.tree_tests.proofs.LentTrees.{lent_pair}
use Rattle.tree_tests.proofs.primary.look_in_view.Goals as goal

pub lookup-requires : goal.lookup-requires
lookup-requires c = subst (AreAllLent (λ page. nat_lt page (2 ^ 32))) (sym c.in_ok-view.ensures) lent_pair
