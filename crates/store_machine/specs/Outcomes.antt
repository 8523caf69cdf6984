-- What an outcome says was logged of its command.
use Rattle.std.specs.Prelude.{List, [], ◌∷◌, ◌++◌}
use Rattle.table_model.specs.Table.{Table}
use Rattle.table_model.specs.Commands.{Write as TableWrite, put, del, Command, on_table, write, del_old, wrote, Outcome, answered}
use Rattle.table_model.specs.Answers.{after_writes}

-- writes that are logged together
abbrev pub Group : Type 0
Group = List TableWrite

-- the table after these groups
abbrev pub after_groups : Table → List Group → Table
after_groups t [] = t
after_groups t (g ∷ gs) = after_groups (after_writes t g) gs

-- a put that is answered is logged, and a delete that took a row away
abbrev pub logged_by : Command → Outcome → List Group
logged_by (on_table (write (put row))) (answered seq reply) = (put row ∷ []) ∷ []
logged_by (on_table (write (del key))) (answered seq (wrote (del_old point note))) = (del key ∷ []) ∷ []
logged_by c o = []

-- what was logged by the answered writes of these commands, in order
abbrev pub logged_groups : List Command → List Outcome → List Group
logged_groups (c ∷ cs) (o ∷ os) = logged_by c o ++ logged_groups cs os
logged_groups cs os = []
