-- What each step makes of the lists.
use Rattle.std.specs.Prelude.{ℕ, ◌+◌, ◌-◌, [], ◌∷◌, Bool, true, false, Some, None, is_some}
use Rattle.std.specs.Option.{option_map}
use Rattle.dev_model.specs.Counts.{next_count}
use Rattle.order_merge.specs.Adding.{with_entry}
use Rattle.space_map.specs.Space.{reserved_with}
use Rattle.primary_ix.specs.Reading.{prim_reading}
use Rattle.primary_ix.specs.declared.rows.PrimRow.{PrimRow}
use Rattle.build_job.specs.Jobs.{described}
use Rattle.store_state.specs.declared.jobs.JobRow.{JobRow}
use Rattle.store_state.specs.Lists.{Lists, job_of}

-- The rows of the table after a write, where a row is laid or taken away, and one was there or not. The number stops at 0 and at the
-- greatest u64.
abbrev pub rows_with : (lays had : Bool) → ℕ → ℕ
rows_with true false rows = next_count rows
rows_with true true rows = rows
rows_with false false rows = rows
rows_with false true rows = rows - 1

-- a row of a write; a row of its key was there before or not
abbrev pub added : PrimRow → (had : Bool) → Lists → Lists
added row had l = record l { active = with_entry prim_reading row l.active; rows = rows_with (is_some row.matter) had l.rows }

-- the active list waits for its component, and writes behind this one go to a new one
abbrev pub frozen_at : (last : ℕ) → Lists → Lists
frozen_at last l = record l { active = []; frozen = Some l.active; cut = last; cut_rows = l.rows }

-- a job is begun
abbrev pub begun : JobRow → Lists → Lists
begun row l = record l { job = Some row; space = reserved_with row.plan.extent l.space }

-- a page of the job is written
abbrev pub one_written : Lists → Lists
one_written l = record l { job = option_map {T = JobRow} (λ row. record row { written = row.written + 1 }) l.job }

-- the job's component stands in its slot
abbrev pub installed : JobRow → Lists → Lists
installed row l = record l { components = (row.plan.slot, described (job_of l row)) ∷ l.components; frozen = None; job = None }
