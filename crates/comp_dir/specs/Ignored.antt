-- The open slots that aren't live, and the numbers of slots.
use Rattle.std.specs.Prelude.{ℕ, List, map}
use Rattle.std.specs.List.{filter}
use Rattle.comp_dir.specs.Directory.{Numbered}
use Rattle.comp_dir.specs.Choosing.{is_ignored}

abbrev pub ignored_slots : List Numbered → List Numbered
ignored_slots all = filter (is_ignored all) all

-- the numbers of slots
abbrev pub numbers : List Numbered → List ℕ
numbers slots = map (λ e. e.0) slots
