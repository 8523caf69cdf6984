-- What a store has on its device while nothing has stopped it: its lists, and the pages of a job that is under way.
use Rattle.std.specs.Prelude.{ℕ, ◌+◌, ◌*◌, ◌<◌, ◌≤◌, Option, Some, None}
use Rattle.dev_model.specs.Story.{Story, bytes_of, IsReadable}
use Rattle.table_model.specs.Table.{Table}
use Rattle.wal_log.specs.declared.log.Log.{Log}
use Rattle.page_codec.specs.declared.pages.TheConstants.{PAGE_BYTES}
use Rattle.build_job.specs.Written.{AreWritten}
pub use Rattle.component_image.specs.Changes.{changed, IsFrozenOf}
use Rattle.component_image.specs.Content.{page_at}
use Rattle.store_state.specs.declared.jobs.JobRow.{JobRow}
use Rattle.store_state.specs.Lists.{Lists, job_of}
use Rattle.store_state.specs.Held.{IsHeld}

-- a place of a page
pub record IsOnPage (page i : ℕ) : Type 0 where
  pub from : page * PAGE_BYTES ≤ i
  pub to : i < page * PAGE_BYTES + PAGE_BYTES

-- the pages of the job that are written so far show its list, and the next sync puts them on the disk
pub record IsUnderWay (l : Lists) (row : JobRow) (s : Story) : Type 0 where
  pub pages : AreWritten (job_of l row) (page_at (bytes_of s))
  pub readable : (page i : ℕ) → page < row.written → IsOnPage (row.plan.extent.first + page) i → IsReadable s.past i

abbrev pub IsUnderWayIf : Lists → Option JobRow → Story → Type 0
IsUnderWayIf l None s = Unit {0}
IsUnderWayIf l (Some row) s = IsUnderWay l row s

-- the store has these lists on its device, and what is written of the job's component
pub record IsKept (pages : ℕ) (log : Log) (table : Table) (l : Lists) (s : Story) : Type 0 where
  pub held : IsHeld pages log table l s
  pub under_way : IsUnderWayIf l l.job s
