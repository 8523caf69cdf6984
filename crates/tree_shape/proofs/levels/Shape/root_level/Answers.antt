use Rattle.std.proofs.Common.{◌≡◌, ◌^◌, ◌<◌, ◌≤◌, arith, sym, below_more, subst}
use Rattle.tree_shape.specs.Laws.Sizes.{one_le-div_ceil, still_halved, few_levels, next_size}
use Rattle.tree_shape.proofs.levels.Shape.root_level.Goals as goal

pub loop-size-preserved : goal.loop-size-preserved
loop-size-preserved c =
    let s = c.args.self in
    let inv = c.loop-size.invariant in
    let e : c.from-many.result ≡ s.per_inner = c.from-many.ensures in
    let many : 2 ≤ c.from-many.result = subst (λ n. 2 ≤ n) (sym e) c.requires.per_inner in
    let more : 1 < c.loop-size.size = c.loop-size-test.true in
    record {
      size = rw c.div_ceil-size.ensures (next_size s c.loop-size.level c.loop-size.size c.from-many.result inv.size e);
      some = rw c.div_ceil-size.ensures (one_le-div_ceil c.loop-size.size c.from-many.result inv.some many);
      low = let l = few_levels c.loop-size.size c.loop-size.level 32 more inv.halves in omega arith;
      halves = rw c.div_ceil-size.ensures (still_halved c.loop-size.size c.from-many.result c.loop-size.level (2 ^ 32) many inv.halves);
      lowest = below_more _ _ inv.lowest (subst (λ n. 1 < n) inv.size more);
    }
