use Rattle.std.proofs.Common.{[], ◌∷◌, ◌<◌, Some, rules, subst}
use Rattle.dev_model.specs.declared.page_faults.PageFault.TheVariants.{Failed}
use Rattle.btree_image.specs.Pages.{page_number}
use Rattle.btree_image.specs.Walks.{GoesOn}
use Rattle.btree_image.proofs.Told.{damaged_at, tested_at}
use Rattle.btree_image.proofs.Shown.{none_of_tree}
use Rattle.dev_model.specs.Laws.Trail.{reads-refused, reads-given, reads-bad}
use Rattle.btree_image.proofs.Along.{goes-by}
use Rattle.btree_image.proofs.hand.take.Goals as goal

pub returns-in_err-page-clause-goes : goal.returns-in_err-page-clause-goes
returns-in_err-page-clause-goes g c =
    let goes : GoesOn g.T.TreeRow.layout c.args.tree.first c.args.tree.rows g.P.Pages.lending g.P.Pages.asked c.args.pages.now c.read_place.new.pages (Some Failed) [] (page_number g.T.TreeRow.layout c.args.tree.first c.args.tree.rows c.args.level c.args.at ∷ []) =
    goes-by _ (reads-refused _ _ c.in_err-page.ensures.stays c.in_err-page.ensures.asked (c.requires.lent c.args.level c.args.at c.requires.place)) in
    search rules

pub returns-in-Err-clause-goes : goal.returns-in-Err-clause-goes
returns-in-Err-clause-goes g c =
    let l = g.T.TreeRow.layout in
    let read = c.in_ok-page.ensures in
    goes-by _ (reads-bad _ _ _ read.number read.stays read.asked (c.requires.lent c.args.level c.args.at c.requires.place)
    (λ bytes told. damaged_at l c.args.tree.first c.args.tree.rows _ bytes c.read_place.new.buf c.args.level c.args.at _
    told read.bytes c.requires.place read.number (none_of_tree l c.args.tree.rows c.args.level c.read_place.new.buf c.in-Err.ensures.bad)))

pub returns-in-Ok-clause-goes : goal.returns-in-Ok-clause-goes
returns-in-Ok-clause-goes g c =
    let read = c.in_ok-page.ensures in
    let opened = c.in-Ok.ensures in
    goes-by _ (reads-given _ _ read.stays read.asked (c.requires.lent c.args.level c.args.at c.requires.place)
    (λ contents told. tested_at g.T.TreeRow.layout c.args.tree.first c.args.tree.rows contents c.read_place.new.buf c.args.level c.args.at c.requires.place
    (read.bytes contents told) opened.page (λ above. subst (λ n. 0 < n) opened.count (opened.some above))))
