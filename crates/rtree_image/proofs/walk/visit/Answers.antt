use Rattle.std.proofs.Common.{suc, [], ◌∷◌, ◌*◌, ◌++◌, Some, arith, lit≤, rules, ◌∙◌, ap}
use Rattle.std.proofs.Math.Numerals.{add-one}
use Rattle.dev_model.specs.declared.page_faults.PageFault.TheVariants.{Failed}
use Rattle.dev_model.specs.Laws.Trail.{reads-refused, reads-given}
use Rattle.rtree_image.specs.Image.{tree_of, page_number}
use Rattle.rtree_image.specs.Steps.{ReadsTree}
use Rattle.rtree_image.proofs.Ascending.{within-filter, within-higher}
use Rattle.rtree_image.proofs.Shown.{children_told, shown_read, tested_at}
use Rattle.rtree_image.proofs.walk.visit.Goals as goal

pub returns-in_err-page-clause-reads : goal.returns-in_err-page-clause-reads
returns-in_err-page-clause-reads g c =
    let reads : ReadsTree c.args.rect.now c.args.tree.first c.args.tree.rows g.P.Pages.lending g.P.Pages.asked c.args.pages.now c.read_place.new.pages (Some Failed)
    (page_number (tree_of c.args.tree.rows) c.args.tree.first (suc c.args.below) c.args.at ∷ []) =
    reads-refused _ _ c.in_err-page.ensures.stays (rw add-one at c.in_err-page.ensures.asked) (c.requires.lent (suc c.args.below) c.args.at c.requires.place) in
    search rules

pub returns-in-Ok-clause-reads : goal.returns-in-Ok-clause-reads
returns-in-Ok-clause-reads g c =
    reads-given _ _ c.in_ok-page.ensures.stays (rw add-one at c.in_ok-page.ensures.asked) (c.requires.lent (suc c.args.below) c.args.at c.requires.place)
    (tested_at c.args.tree.first c.args.tree.rows c.args.rect.now _ c.read_place.new.buf (suc c.args.below) c.args.at (rw add-one at c.in_ok-page.ensures.bytes) c.requires.place c.in-Ok.ensures.tested)

pub returns-in-Ok-clause-ascends : goal.returns-in-Ok-clause-ascends
returns-in-Ok-clause-ascends g c =
    let e = c.in-Ok.ensures in
    (_, e.places, within-higher _ _ _ _ (let few = e.few in let inside = e.inside in omega arith) (within-filter _ (c.args.at * 340) _))

pub returns-in-Ok-clause-told : goal.returns-in-Ok-clause-told
returns-in-Ok-clause-told g c list shown =
    let s = tree_of c.args.tree.rows in
    let shows = shown_read c.args.tree.first c.args.tree.rows _ list shown (suc c.args.below) c.args.at c.requires.place c.read_place.new.buf (rw add-one at c.in_ok-page.ensures.bytes) in
    c.in-Ok.ensures.places
    ∙ ap (λ more. c.args.next.now.items ++ more) (children_told s (lit≤ tt) list shown.stored c.args.below c.args.at c.requires.place.inside c.read_place.new.buf shows c.args.rect.now)
