-- The lists of a store right after it was opened.
use Rattle.std.specs.Prelude.{[], None, List, ℕ, ◌∷◌}
use Rattle.space_map.specs.Space.{Space}
use Rattle.comp_dir.specs.Directory.{Numbered}
use Rattle.store_state.specs.Lists.{Lists, placed_up_to}

-- the rows of the table after the last write that the components have, 0 where there are none
abbrev pub placed_rows : List Numbered → ℕ
placed_rows [] = 0
placed_rows (e ∷ older) = e.1.table_rows

-- nothing in memory, and the rows of the table are those after the last write that the components have
abbrev pub opened : (components ignored : List Numbered) → Space → Lists
opened components ignored space = record {
  active = [];
  frozen = None;
  cut = placed_up_to components;
  cut_rows = placed_rows components;
  components = components;
  ignored = ignored;
  space = space;
  job = None;
  rows = placed_rows components;
}
