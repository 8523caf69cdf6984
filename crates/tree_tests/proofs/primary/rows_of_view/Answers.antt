use Rattle.std.proofs.Common.{nat_lt, ◌^◌, sym, ◌∙◌, subst}
use Rattle.primary_ix.specs.Pages.{AreAllLent}
use Rattle.tree_tests.proofs.LentTrees.{lent_pair}
use Rattle.tree_tests.proofs.primary.rows_of_view.Goals as goal

pub living_rows-requires : goal.living_rows-requires
living_rows-requires c = subst (AreAllLent (λ page. nat_lt page (2 ^ 32))) (sym (c.deref.ensures.value ∙ c.in_ok-view.ensures)) lent_pair
