-- Worked examples.
use Rattle.std.specs.Prelude.{ℕ, List, [], ◌∷◌}
use Rattle.comp_dir.specs.Directory.{Numbered}
use Rattle.comp_dir.specs.declared.slots.Slot.{Slot}

-- a component of dhb on one page, with the writes of an interval
abbrev pub component : (first first_lsn last_lsn : ℕ) → Slot
component first first_lsn last_lsn = record {
  index = 2;
  first = first;
  pages = 1;
  first_lsn = first_lsn;
  last_lsn = last_lsn;
  main_rows = 1;
  second_rows = 0;
  second_at = 0;
  filter_at = 0;
  filter_bits = 0;
  table_rows = 0;
}

-- two components and the one that they were merged to
abbrev pub merged : List Numbered
merged = (0, component 265 1 5) ∷ (1, component 266 6 9) ∷ (2, component 267 1 9) ∷ []

-- two components between which a write is missing
abbrev pub with_gap : List Numbered
with_gap = (0, component 265 1 5) ∷ (1, component 266 7 9) ∷ []
