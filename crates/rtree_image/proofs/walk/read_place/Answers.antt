use Rattle.std.proofs.Common.{arith}
use Rattle.rtree_image.proofs.walk.read_place.Goals as goal

pub overflow_cast-page : goal.overflow_cast-page
overflow_cast-page g c =
    let fits = g.met.P.Pages.lent_fits c.args.pages.now _ (c.requires.lent c.args.level c.args.at c.requires.place) in
    let start = c.level_at-here.ensures.start in
    let first = c.from.ensures in
    omega (arith, fits, start, first)
