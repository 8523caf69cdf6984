-- Parts of worked scripts. No public contract but those of the worked scripts needs this file.
use Rattle.std.specs.Prelude.{ℕ, ◌-◌, List, [], ◌∷◌, replicate, codes}
use Rattle.geo_base.specs.declared.points.IndexKind.TheVariants.{Dhvb}
use Rattle.geo_base.specs.declared.points.Row.{Row}
use Rattle.table_model.specs.Commands.{Command, on_table, region}
use Rattle.table_model.specs.Phases.{Phases}

-- a script that is a setup alone
abbrev pub alone : List Command → Phases Command
alone cs = record { setup = cs; lanes = []; after = [] }

abbrev pub row_7 : Row
row_7 = record { key = 7; point = record { x = 3; y = 4 }; note = codes "a" }

abbrev pub all_of_nine : Command
all_of_nine = on_table (region Dhvb (record { x1 = 0; y1 = 0; x2 = 9; y2 = 9 }))

-- a comment of so many bytes
abbrev pub long_comment : ℕ → List ℕ
long_comment n = 35 ∷ replicate (n - 1) 97
