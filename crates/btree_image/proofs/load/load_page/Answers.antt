use Rattle.std.proofs.Common.{arith, ◌≡◌, suc, ◌-◌, sym, subst, length}
use Rattle.page_codec.specs.Page.{ShowsRows}
use Rattle.btree_image.specs.Image.{shape_of, level_kind, level_rows}
use Rattle.btree_image.specs.Pages.{level_page}
use Rattle.tree_shape.specs.Laws.Places.{at_place}
use Rattle.btree_image.proofs.load.load_page.Goals as goal

pub returns-then-spot-eq0-clause-page : goal.returns-then-spot-eq0-clause-page
returns-then-spot-eq0-clause-page g c level at place number =
    let l = g.T.TreeRow.layout in
    let spot = c.spot_of-spot.ensures in
    at_place (shape_of l (length c.args.rows.now)) (λ level at. c.load_leaf.new.page ≡ level_page l c.args.rows.now level at) c.args.n
    c.spot_of-spot.result.level c.spot_of-spot.result.at level at spot.place spot.number
    (subst (λ n. c.load_leaf.new.page ≡ level_page l c.args.rows.now n c.spot_of-spot.result.at) (sym c.if-spot-eq0.true) c.load_leaf.ensures.page) place number

pub returns-then-spot-eq0-clause-shows : goal.returns-then-spot-eq0-clause-shows
returns-then-spot-eq0-clause-shows g c level at place number =
    let l = g.T.TreeRow.layout in
    let spot = c.spot_of-spot.ensures in
    at_place (shape_of l (length c.args.rows.now)) (λ level at. ShowsRows (level_kind l level) level (level_rows l c.args.rows.now level at) c.load_leaf.new.page) c.args.n
    c.spot_of-spot.result.level c.spot_of-spot.result.at level at spot.place spot.number
    (subst (λ n. ShowsRows (level_kind l n) n (level_rows l c.args.rows.now n c.spot_of-spot.result.at) c.load_leaf.new.page) (sym c.if-spot-eq0.true) c.load_leaf.ensures.shows) place number

pub returns-else-spot-eq0-clause-page : goal.returns-else-spot-eq0-clause-page
returns-else-spot-eq0-clause-page g c level at place number =
    let l = g.T.TreeRow.layout in
    let spot = c.spot_of-spot.ensures in
    let above : suc (c.spot_of-spot.result.level - 1) ≡ c.spot_of-spot.result.level = omega (arith, c.if-spot-eq0.false) in
    at_place (shape_of l (length c.args.rows.now)) (λ level at. c.load_inner.new.page ≡ level_page l c.args.rows.now level at) c.args.n
    c.spot_of-spot.result.level c.spot_of-spot.result.at level at spot.place spot.number
    (subst (λ n. c.load_inner.new.page ≡ level_page l c.args.rows.now n c.spot_of-spot.result.at) above c.load_inner.ensures.page) place number

pub returns-else-spot-eq0-clause-shows : goal.returns-else-spot-eq0-clause-shows
returns-else-spot-eq0-clause-shows g c level at place number =
    let l = g.T.TreeRow.layout in
    let spot = c.spot_of-spot.ensures in
    let above : suc (c.spot_of-spot.result.level - 1) ≡ c.spot_of-spot.result.level = omega (arith, c.if-spot-eq0.false) in
    at_place (shape_of l (length c.args.rows.now)) (λ level at. ShowsRows (level_kind l level) level (level_rows l c.args.rows.now level at) c.load_inner.new.page) c.args.n
    c.spot_of-spot.result.level c.spot_of-spot.result.at level at spot.place spot.number
    (subst (λ n. ShowsRows (level_kind l n) n (level_rows l c.args.rows.now n c.spot_of-spot.result.at) c.load_inner.new.page) above c.load_inner.ensures.shows) place number
