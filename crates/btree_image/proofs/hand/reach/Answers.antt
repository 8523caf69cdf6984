use Rattle.std.proofs.Common.{[], arith}
use Rattle.btree_image.proofs.Along.{goes-same, goes-nowhere}
use Rattle.btree_image.proofs.Places.{place-one, place-passed}
use Rattle.btree_image.proofs.hand.reach.Goals as goal

pub returns-then-hand-at-clause-goes : goal.returns-then-hand-at-clause-goes
returns-then-hand-at-clause-goes g c = goes-same (place-one _ c.args.hand.now.next c.args.at (omega arith)) c.take.ensures.goes

pub returns-clause-goes : goal.returns-clause-goes
returns-clause-goes g c = goes-same (place-passed _ c.args.hand.now.next c.args.at (omega arith)) (goes-nowhere [] (g.met.P.Pages.asked_none c.args.pages.now))
