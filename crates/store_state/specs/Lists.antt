-- What a store has in memory of its rows, and where its components stand.
use Rattle.std.specs.Prelude.{ℕ, ◌+◌, List, [], ◌∷◌, ◌++◌, map, Option, Some, None}
use Rattle.space_map.specs.Space.{Space}
use Rattle.space_map.specs.declared.space.Extent.{Extent}
use Rattle.comp_dir.specs.Directory.{Numbered}
use Rattle.comp_dir.specs.declared.slots.Slot.{Slot}
use Rattle.primary_ix.specs.declared.component.PrimComp.{PrimComp}
use Rattle.primary_ix.specs.declared.rows.PrimRow.{PrimRow}
use Rattle.build_job.specs.Jobs.{Job}
use Rattle.store_state.specs.declared.jobs.JobRow.{JobRow}

pub record Lists : Type 0 where
  -- the rows of the writes since the last freeze
  pub active : List PrimRow
  -- the list that waits for its component
  pub frozen : Option (List PrimRow)
  -- the number of the last write before those of the active list, and the rows that the table had after it
  pub cut : ℕ
  pub cut_rows : ℕ
  -- the components of the primary, the newest first, each with the number of its slot
  pub components : List Numbered
  -- the other open slots: a component has all of their writes
  pub ignored : List Numbered
  -- the reserved extents, and the pages of the device
  pub space : Space
  -- the job that writes the frozen list
  pub job : Option JobRow
  -- the rows of the table
  pub rows : ℕ

-- the open slots
abbrev pub open_of : Lists → List Numbered
open_of l = l.components ++ l.ignored

abbrev pub extent_of : Slot → Extent
extent_of s = record { first = s.first; pages = s.pages }

-- the extents of slots
abbrev pub extents_of : List Numbered → List Extent
extents_of slots = map (λ e. extent_of e.1) slots

abbrev pub tree_of : Slot → PrimComp
tree_of s = record { tree = record { first = s.first; rows = s.main_rows } }

-- the trees of slots
abbrev pub trees_of : List Numbered → List PrimComp
trees_of slots = map (λ e. tree_of e.1) slots

-- the number of the last write that the components have, 0 where there are none
abbrev pub placed_up_to : List Numbered → ℕ
placed_up_to [] = 0
placed_up_to (e ∷ older) = e.1.last_lsn

-- the frozen list, empty where there is none
abbrev pub frozen_rows : Option (List PrimRow) → List PrimRow
frozen_rows None = []
frozen_rows (Some rows) = rows

-- a job as its owner has it
abbrev pub job_of : Lists → JobRow → Job
job_of l row = record {
  rows = frozen_rows l.frozen;
  plan = row.plan;
  interval = record { first_lsn = placed_up_to l.components + 1; last_lsn = l.cut };
  table_rows = l.cut_rows;
  written = row.written;
}
