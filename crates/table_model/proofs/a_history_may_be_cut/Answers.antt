use Rattle.std.proofs.Common.{◌≡◌, List, [], ◌∷◌, ◌++◌, ap, refl}
use Rattle.table_model.specs.Table.{Table}
use Rattle.table_model.specs.Commands.{TableCommand}
use Rattle.table_model.specs.Answers.{replay, replies, reply_to, table_after}
use Rattle.table_model.proofs.a_history_may_be_cut.Goals as goal

tables : (t : Table) (cs ds : List TableCommand) → replay t (cs ++ ds) ≡ replay (replay t cs) ds
tables t [] ds = refl
tables t (c ∷ cs) ds = tables (table_after t c) cs ds

both : (t : Table) (cs ds : List TableCommand) → replies t (cs ++ ds) ≡ replies t cs ++ replies (replay t cs) ds
both t [] ds = refl
both t (c ∷ cs) ds = ap (λ rs. reply_to t c ∷ rs) (both (table_after t c) cs ds)

pub returns-clause-tables : goal.returns-clause-tables
returns-clause-tables c = tables

pub returns-clause-replies : goal.returns-clause-replies
returns-clause-replies c = both
