-- What the records of the log say of the table before them.
use Rattle.std.specs.Prelude.{◌≡◌, List, [], ◌∷◌}
use Rattle.std.specs.Option.{option_map}
use Rattle.std.specs.FinMap.{get}
use Rattle.table_model.specs.Table.{Table}
use Rattle.table_model.specs.Answers.{after_write}
use Rattle.wal_log.specs.Records.{key_of}
use Rattle.wal_log.specs.declared.records.Record.{Record}
use Rattle.component_image.specs.Replayed.{write_of}

-- a record says at which point its key stood in the table, if it did
abbrev pub SaysOld : Table → Record → Type 0
SaysOld t r = r.old_point ≡ option_map (λ place. place.point) (get t (key_of r.op))

-- each of the records does, of the table after those before it
abbrev pub AreTold : Table → List Record → Type 0
AreTold t [] = Unit {0}
AreTold t (r ∷ rs) = SaysOld t r × AreTold (after_write t (write_of r.op)) rs
