-- Pages that are written show the tree of their list. No public contract needs these laws.
use Rattle.std.proofs.Common.{◌≡◌, ◌≢◌, ℕ, ◌+◌, List, length, arith, refl, sym, subst, below_more}
use Rattle.btree_image.specs.Image.{shape_of, ShowsTree}
use Rattle.primary_ix.specs.Rows.{prim_layout}
use Rattle.build_job.specs.Jobs.{Job}
use Rattle.build_job.specs.Steps.{IsJob, steps_left}
use Rattle.build_job.specs.Written.{IsPageOf, AreWritten}
use Rattle.build_job.specs.Laws.Placing.{page_below}

-- one page more
pub AreWritten-next : (job : Job) (old new : ℕ → List ℕ) → AreWritten job old
    → ((page : ℕ) → page ≢ job.plan.extent.first + job.written → new page ≡ old page)
    → IsPageOf job.rows job.written (new (job.plan.extent.first + job.written))
    → AreWritten (record job { written = job.written + 1 }) new
AreWritten-next job old new so_far stays here =
    below_more (λ n. IsPageOf job.rows n (new (job.plan.extent.first + n))) job.written
    (λ n h. subst (IsPageOf job.rows n) (sym (stays (job.plan.extent.first + n) (λ e. omega (arith, h, e)))) (so_far n h))
    here

-- all pages
pub AreWritten-shows : (job : Job) (contents : ℕ → List ℕ) → IsJob job → steps_left job ≡ 0 → AreWritten job contents
    → ShowsTree prim_layout job.rows job.plan.extent.first contents
AreWritten-shows job contents is none written level at place =
    let low = page_below (shape_of prim_layout (length job.rows)) job.plan.extent.pages is.pages level at place in
    (written _ (omega arith) level at place refl).1
