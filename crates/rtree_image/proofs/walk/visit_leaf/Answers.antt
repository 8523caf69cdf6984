use Rattle.std.proofs.Common.{[], ◌∷◌, ◌++◌, Some, rules, ◌∙◌, ap}
use Rattle.page_codec.specs.declared.kinds.TheConstants.{RTREE_LEAF}
use Rattle.dev_model.specs.declared.page_faults.PageFault.TheVariants.{Failed}
use Rattle.dev_model.specs.Laws.Trail.{reads-refused}
use Rattle.rtree_image.specs.Image.{tree_of, page_number}
use Rattle.rtree_image.specs.Steps.{ReadsTree}
use Rattle.rtree_image.specs.Visits.{rows_inside}
use Rattle.rtree_image.proofs.Shown.{leaf_told, shown_read}
use Rattle.rtree_image.proofs.walk.visit_leaf.Goals as goal

pub returns-in_err-page-clause-reads : goal.returns-in_err-page-clause-reads
returns-in_err-page-clause-reads g c =
    let reads : ReadsTree c.args.rect.now c.args.tree.first c.args.tree.rows g.P.Pages.lending g.P.Pages.asked c.args.pages.now c.read_place.new.pages (Some Failed)
    (page_number (tree_of c.args.tree.rows) c.args.tree.first 0 c.args.at ∷ []) =
    reads-refused _ _ c.in_err-page.ensures.stays c.in_err-page.ensures.asked (c.requires.lent 0 c.args.at c.requires.place) in
    search rules

pub returns-in-Ok-add_rows-clause-told : goal.returns-in-Ok-add_rows-clause-told
returns-in-Ok-add_rows-clause-told g c list shown =
    let shows = shown_read c.args.tree.first c.args.tree.rows _ list shown 0 c.args.at c.requires.place c.read_place.new.buf c.in_ok-page.ensures.bytes in
    c.in-Ok-add_rows.ensures.rows
    ∙ ap (λ rows. c.args.out.now.items ++ rows_inside c.args.rect.now rows) (leaf_told (tree_of c.args.tree.rows) list shown.stored c.args.at RTREE_LEAF c.read_place.new.buf shows)
