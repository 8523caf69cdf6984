-- What every job is, which page it writes next, and where it may stand.
use Rattle.std.specs.Prelude.{◌≡◌, ℕ, ◌+◌, ◌-◌, ◌^◌, ◌<◌, ◌≤◌, ◌==◌, length, if◌then◌else◌}
use Rattle.btree_image.specs.Image.{shape_of}
use Rattle.comp_dir.specs.declared.places.TheConstants.{FIRST_DATA_PAGE, LSN_LIMIT, PRIMARY}
use Rattle.comp_dir.specs.Parts.{HasPages}
use Rattle.primary_ix.specs.Rows.{prim_layout}
use Rattle.build_job.specs.declared.job.JobStep.{JobStep}
use Rattle.build_job.specs.declared.job.JobStep.TheVariants.{Write, Done}
use Rattle.build_job.specs.Jobs.{Job}

-- The extent has the pages of the list's image, and no more.
pub record IsJob (job : Job) : Type 0 where
  pub count : length job.rows < 2 ^ 32
  pub index : job.plan.index ≡ PRIMARY
  pub pages : HasPages (shape_of prim_layout (length job.rows)) job.plan.extent.pages
  pub fits : job.plan.extent.first + job.plan.extent.pages ≤ 2 ^ 32
  pub written : job.written ≤ job.plan.extent.pages

-- how many pages are left
abbrev pub steps_left : Job → ℕ
steps_left job = job.plan.extent.pages - job.written

-- the page of the device that is written next, unless all are
abbrev pub next_step : Job → JobStep
next_step job = if steps_left job == 0 then Done else Write (job.plan.extent.first + job.written)

-- On a device of so many pages the extent lies behind the log, and the writes that the list has are an interval.
pub record IsPlaceable (pages : ℕ) (job : Job) : Type 0 where
  pub from : FIRST_DATA_PAGE ≤ job.plan.extent.first
  pub to : job.plan.extent.first + job.plan.extent.pages ≤ pages
  pub some : 1 ≤ job.interval.first_lsn
  pub ordered : job.interval.first_lsn ≤ job.interval.last_lsn
  pub below : job.interval.last_lsn < LSN_LIMIT
