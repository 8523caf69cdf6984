use Rattle.primary_ix.specs.Laws.Agreeing.{row_with_key-entry_at}
use Rattle.primary_ix.proofs.laws.lists_and_trees_agree.Goals as goal

pub returns-clause-found : goal.returns-clause-found
returns-clause-found c = row_with_key-entry_at
