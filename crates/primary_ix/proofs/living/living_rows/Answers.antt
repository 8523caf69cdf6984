use Rattle.std.proofs.Common.{◌≡◌, List, [], ◌++◌, Some, true, map, rules, refl, ◌∙◌, ap, subst, Vec, Global}
use Rattle.dev_model.specs.declared.page_faults.PageFault.TheVariants.{OutOfMemory}
use Rattle.dev_model.specs.Laws.Trail.{reads-none, reads-full}
use Rattle.primary_ix.specs.AllPages.{all_pages}
use Rattle.primary_ix.specs.OnPages.{ReadsAlong}
use Rattle.order_merge.specs.Merged.{IsMergeOf}
use Rattle.order_merge.specs.Views.{lists_of}
use Rattle.primary_ix.specs.declared.rows.PrimRow.{PrimRow}
use Rattle.primary_ix.specs.Reading.{prim_reading}
use Rattle.primary_ix.proofs.Memory.{lists-join}
use Rattle.primary_ix.proofs.Rebuilt.{merged-table}
use Rattle.primary_ix.proofs.living.living_rows.Goals as goal

pub returns-in_err-lists-clause-reads : goal.returns-in_err-lists-clause-reads
returns-in_err-lists-clause-reads g c =
    let reads : ReadsAlong c.args.comps.now g.P.Pages.lending g.P.Pages.asked c.args.pages.now c.args.pages.now (Some OutOfMemory) (λ disk roots. all_pages c.args.comps.now roots) =
    ([], reads-full (reads-none [] (g.met.P.Pages.asked_none c.args.pages.now)), λ disk roots shown at. (_, refl)) in
    search rules

pub returns-clause-table : goal.returns-clause-table
returns-clause-table g c disk table shown fits =
    let lists = λ (vecs : List (Vec PrimRow Global)). map (λ (list : Vec PrimRow Global). list.items) vecs in
    let all : lists c.deref.result.now ≡ lists_of c.args.active.now c.args.frozen.now disk =
    ap lists c.deref.ensures.value ∙ c.in_ok-scan_all.ensures.lists disk shown ∙ ap (λ ls. ls ++ disk) c.in_ok-lists.ensures.lists
    ∙ lists-join c.args.active.now c.args.frozen.now disk in
    merged-table table (lists_of c.args.active.now c.args.frozen.now disk) c.in_ok-merged.field-0.items
    (subst (λ ls. IsMergeOf prim_reading ls true c.in_ok-merged.field-0.items) all c.in_ok-merged.ensures) fits
