-- Whether the store's job has a page left to write.
use Rattle.std.specs.Prelude.{◌≡◌, ◌<◌, Option, Some, None}
use Rattle.store_state.specs.declared.jobs.JobRow.{JobRow}

-- a job with a page that isn't written, and one all of whose pages are
abbrev pub HasPageLeft : Option JobRow → Type 0
HasPageLeft None = ⊥
HasPageLeft (Some row) = row.written < row.plan.extent.pages

abbrev pub IsAllWritten : Option JobRow → Type 0
IsAllWritten None = ⊥
IsAllWritten (Some row) = row.written ≡ row.plan.extent.pages
