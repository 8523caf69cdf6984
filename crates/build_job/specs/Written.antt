-- The pages of a job's list, and which of them stand on the device.
use Rattle.std.specs.Prelude.{◌≡◌, ℕ, ◌+◌, ◌<◌, List, length}
use Rattle.page_codec.specs.Page.{ShowsRows}
use Rattle.tree_shape.specs.Shape.{level_start, IsPlace}
use Rattle.btree_image.specs.Image.{shape_of, level_kind, level_rows}
use Rattle.btree_image.specs.Pages.{level_page}
use Rattle.primary_ix.specs.declared.rows.PrimRow.{PrimRow}
use Rattle.primary_ix.specs.Rows.{prim_layout}
use Rattle.build_job.specs.Jobs.{Job}

-- these are the bytes of the page with this number in the image of a list, as it is written, and they show its rows
abbrev pub IsPageOf : List PrimRow → ℕ → List ℕ → Type 0
IsPageOf rows n bytes =
    (level at : ℕ) → IsPlace (shape_of prim_layout (length rows)) level at → level_start (shape_of prim_layout (length rows)) level + at ≡ n
    → (bytes ≡ level_page prim_layout rows level at) × ShowsRows (level_kind prim_layout level) level (level_rows prim_layout rows level at) bytes

-- the pages of a job that were written stand in its extent, each at its place
abbrev pub AreWritten : Job → (ℕ → List ℕ) → Type 0
AreWritten job contents = (n : ℕ) → n < job.written → IsPageOf job.rows n (contents (job.plan.extent.first + n))
