-- A flush of the primary as its owner sees it, and the slot that describes its component.
use Rattle.std.specs.Prelude.{ℕ, List, length}
use Rattle.comp_dir.specs.declared.places.TheConstants.{PRIMARY}
use Rattle.comp_dir.specs.declared.slots.Slot.{Slot}
use Rattle.primary_ix.specs.declared.rows.PrimRow.{PrimRow}
use Rattle.build_job.specs.declared.plan.Interval.{Interval}
use Rattle.build_job.specs.declared.plan.JobPlan.{JobPlan}

-- the list, where it goes, the writes that it has, the rows of the table after them, and how many pages are written
pub record Job : Type 0 where
  pub rows : List PrimRow
  pub plan : JobPlan
  pub interval : Interval
  pub table_rows : ℕ
  pub written : ℕ

-- the slot of the component: a main part that begins with the extent, no second part and no filter
abbrev pub described : Job → Slot
described job = record {
  index = PRIMARY;
  first = job.plan.extent.first;
  pages = job.plan.extent.pages;
  first_lsn = job.interval.first_lsn;
  last_lsn = job.interval.last_lsn;
  main_rows = length job.rows;
  second_rows = 0;
  second_at = 0;
  filter_at = 0;
  filter_bits = 0;
  table_rows = job.table_rows;
}
