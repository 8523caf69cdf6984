-- Records that say what the table before them had, of one list of them and of two in a row. No public contract needs these laws.
use Rattle.std.proofs.Common.{List, [], ◌∷◌, ◌++◌}
use Rattle.table_model.specs.Table.{Table}
use Rattle.table_model.specs.Answers.{after_write}
use Rattle.wal_log.specs.declared.records.Record.{Record}
use Rattle.component_image.specs.Replayed.{write_of, replayed}
use Rattle.component_image.specs.Told.{SaysOld, AreTold}

-- one record more
pub told-push : (t : Table) (rs : List Record) (r : Record) → AreTold t rs → SaysOld (replayed t rs) r → AreTold t (rs ++ r ∷ [])
told-push t [] r told says = (says, tt)
told-push t (q ∷ rs) r told says = (told.0, told-push (after_write t (write_of q.op)) rs r told.1 says)

-- the later ones are told of the table after the first ones
pub told-behind : (t : Table) (rs more : List Record) → AreTold t (rs ++ more) → AreTold (replayed t rs) more
told-behind t [] more told = told
told-behind t (r ∷ rs) more told = told-behind (after_write t (write_of r.op)) rs more told.1
