-- Writes of the log that are done again one after another. No public contract needs these laws.
use Rattle.std.proofs.Common.{◌≡◌, List, [], ◌∷◌, ◌++◌, refl}
use Rattle.table_model.specs.Table.{Table}
use Rattle.table_model.specs.Answers.{after_write}
use Rattle.wal_log.specs.declared.records.Record.{Record}
use Rattle.component_image.specs.Replayed.{write_of, replayed}

pub replayed-append : (t : Table) (rs more : List Record) → replayed t (rs ++ more) ≡ replayed (replayed t rs) more
replayed-append t [] more = refl
replayed-append t (r ∷ rs) more = replayed-append (after_write t (write_of r.op)) rs more

pub replayed-push : (t : Table) (rs : List Record) (r : Record) → replayed t (rs ++ r ∷ []) ≡ after_write (replayed t rs) (write_of r.op)
replayed-push t rs r = replayed-append t rs (r ∷ [])
