use Rattle.std.specs.Prelude.{IfSome}
use Rattle.page_codec.specs.Page.{IsPage, row_count}
use Rattle.std.proofs.Common.{[], ◌∷◌, Some, subst, ◌≡◌, suc, ◌+◌, ◌<◌, ◌^◌, arith, rules}
use Rattle.std.proofs.Math.Numerals.{add-one}
use Rattle.tree_shape.specs.Shape.{level_start}
use Rattle.btree_image.specs.Image.{shape_of}
use Rattle.dev_model.specs.declared.page_faults.PageFault.TheVariants.{Failed}
use Rattle.btree_image.specs.Pages.{page_number}
use Rattle.btree_image.specs.Reading.{ReadsTree}
use Rattle.btree_image.specs.Descent.{place_of_key}
use Rattle.btree_image.proofs.Widths.{leaf_room, inner_room}
use Rattle.tree_shape.specs.Laws.Places.{place_below}
use Rattle.btree_image.proofs.Told.{place-inside, shown_read, tested_at, damaged_at}
use Rattle.dev_model.specs.Laws.Trail.{reads-refused, reads-given, reads-bad}
use Rattle.btree_image.proofs.descend.step.Goals as goal

pub returns-in_err-page-clause-reads : goal.returns-in_err-page-clause-reads
returns-in_err-page-clause-reads g c =
    let reads : ReadsTree g.T.TreeRow.layout c.args.tree.first c.args.tree.rows g.P.Pages.lending g.P.Pages.asked c.args.pages.now c.read_place.new.pages (Some Failed) [] (page_number g.T.TreeRow.layout c.args.tree.first c.args.tree.rows (suc c.args.below) c.args.at ∷ []) =
    reads-refused _ _ c.in_err-page.ensures.stays (rw add-one at c.in_err-page.ensures.asked) (c.requires.lent (suc c.args.below) c.args.at c.requires.place) in
    search rules

pub returns-in-Some-clause-told : goal.returns-in-Some-clause-told
returns-in-Some-clause-told g c list shown some e =
    let l = g.T.TreeRow.layout in
    let k = g.met.T.TreeRow.kinds in
    let a = leaf_room l _ _ _ k in
    let b = inner_room l _ _ _ k in
    let inside = place-inside l k.key_order a b c.args.tree.rows list shown.is c.args.key.now c.args.below in
    let next = place_below (shape_of l c.args.tree.rows) c.args.below c.args.at _ c.requires.place inside in
    let n = g.met.P.Pages.lent_fits c.args.pages.now _ (c.requires.lent c.args.below (place_of_key l list c.args.key.now c.args.below) next) in
    let fits : level_start (shape_of l c.args.tree.rows) c.args.below + place_of_key l list c.args.key.now c.args.below < 2 ^ 32 = omega (arith, n) in
    let shows = shown_read l list c.args.tree.first c.args.tree.rows _ shown c.read_place.new.buf (suc c.args.below) c.args.at c.requires.place (rw add-one at c.in_ok-page.ensures.bytes) in
    subst (λ found. IfSome found (λ place. place ≡ place_of_key l list c.args.key.now c.args.below)) c.in-Some.is (c.place_from.ensures.told list c.args.at shown.is some e fits shows)

pub returns-in-Some-clause-reads : goal.returns-in-Some-clause-reads
returns-in-Some-clause-reads g c =
    reads-given _ _ c.in_ok-page.ensures.stays (rw add-one at c.in_ok-page.ensures.asked) (c.requires.lent (suc c.args.below) c.args.at c.requires.place)
    (λ contents told. tested_at g.T.TreeRow.layout c.args.tree.first c.args.tree.rows contents c.read_place.new.buf (suc c.args.below) c.args.at c.requires.place
    ((rw add-one at c.in_ok-page.ensures.bytes) contents told) (subst (λ place. IfSome place (λ _. IsPage g.T.TreeRow.layout.inner (suc c.args.below) c.read_place.new.buf)) c.in-Some.is c.place_from.ensures.page)
    (λ _. subst (λ place. IfSome place (λ _. 0 < row_count c.read_place.new.buf)) c.in-Some.is c.place_from.ensures.some))

pub returns-in-None-clause-reads : goal.returns-in-None-clause-reads
returns-in-None-clause-reads g c =
    reads-bad _ _ _ (rw add-one at c.in_ok-page.ensures.number) c.in_ok-page.ensures.stays (rw add-one at c.in_ok-page.ensures.asked) (c.requires.lent (suc c.args.below) c.args.at c.requires.place)
    (λ bytes told. damaged_at g.T.TreeRow.layout c.args.tree.first c.args.tree.rows _ bytes c.read_place.new.buf (suc c.args.below) c.args.at _
    told (rw add-one at c.in_ok-page.ensures.bytes) c.requires.place (rw add-one at c.in_ok-page.ensures.number) (search rules))
