use Rattle.std.proofs.Common.{◌≢◌, [], Some, arith, refl, sym, subst}
use Rattle.std.specs.Prelude.{AllPairs}
use Rattle.dev_model.specs.Laws.Trail.{reads-none, reads-full, along-along}
use Rattle.btree_image.proofs.Widths.{leaf_room, inner_room}
use Rattle.btree_image.proofs.Once.{pairs-front}
use Rattle.btree_image.proofs.Sound.{never_damaged}
use Rattle.btree_image.proofs.over_levels.scan.Goals as goal

pub returns-then-is_err-clause-reads : goal.returns-then-is_err-clause-reads
returns-then-is_err-clause-reads g c = ([], reads-full (reads-none [] (g.met.P.Pages.asked_none c.args.pages.now)), (λ i j d lt k. absurd (omega arith)), λ list root shown ascend at_root. (_, refl))

pub returns-in-Err-clause-rows : goal.returns-in-Err-clause-rows
returns-in-Err-clause-rows g c list shown ascend =
    let l = g.T.TreeRow.layout in
    let k = g.met.T.TreeRow.kinds in
    never_damaged l (leaf_room l _ _ _ k) (inner_room l _ _ _ k) c.args.tree.first c.args.tree.rows list (λ level at place. g.met.P.Pages.lent_fits c.args.pages.now _ (c.requires level at place))
    _ shown c.in-Err.fault c.in-Err.ensures.way.1.reads.damaged

pub returns-in-Err-clause-reads : goal.returns-in-Err-clause-reads
returns-in-Err-clause-reads g c =
    let way = c.in-Err.ensures.way in
    let goes = way.1 in (
      goes.pages,
      goes.reads,
      pairs-front (λ a b. a ≢ b) goes.pages goes.along.0 (subst (AllPairs (λ a b. a ≢ b)) (sym goes.along.1) way.2),
      λ list root shown ascend at_root. along-along (Some c.in-Err.fault) goes.pages way.0 _ goes.along (way.3 list root shown ascend at_root),
    )
