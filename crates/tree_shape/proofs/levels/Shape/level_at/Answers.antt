use Rattle.std.proofs.Common.{◌≡◌, ◌+◌, ◌≤◌, arith, sym, ◌∙◌, ap, subst}
use Rattle.std.specs.Int.{div_ceil}
use Rattle.tree_shape.specs.Shape.{level_size, level_start}
use Rattle.tree_shape.specs.Laws.Sizes.{level_start-zero, level_start-next, level_size-next, one_le-div_ceil, div_ceil-le}
use Rattle.tree_shape.proofs.levels.Shape.level_at.Goals as goal

pub loop-i-init : goal.loop-i-init
loop-i-init c = record {
  start = sym (level_start-zero c.args.self);
  size = c.leaves.ensures.size;
  some = c.leaves.ensures.some;
  size_below = c.leaves.ensures.below;
  start_below = omega arith;
}

pub loop-i-preserved : goal.loop-i-preserved
loop-i-preserved c =
    let s = c.args.self in
    let inv = c.loop-i.invariant in
    let e : c.from-many.result ≡ s.per_inner = c.from-many.ensures in
    let many : 2 ≤ c.from-many.result = subst (λ n. 2 ≤ n) (sym e) c.requires.per_inner in
    let low : 1 ≤ div_ceil c.loop-i.at.size c.from-many.result = one_le-div_ceil c.loop-i.at.size c.from-many.result inv.some many in
    let high : div_ceil c.loop-i.at.size c.from-many.result ≤ c.loop-i.at.size = div_ceil-le c.loop-i.at.size c.from-many.result many in
    record {
      start = rw (level_start-next s c.loop-i._i) (ap (λ n. n + c.loop-i.at.size) inv.start ∙ ap (λ n. level_start s c.loop-i._i + n) inv.size);
      size = rw (level_size-next s c.loop-i._i) (c.div_ceil.ensures ∙ (ap (λ n. div_ceil n c.from-many.result) inv.size ∙ ap (div_ceil (level_size s c.loop-i._i)) e));
      some = rw c.div_ceil.ensures low;
      size_below = rw c.div_ceil.ensures (omega arith);
      start_below = omega (arith, inv.start_below, inv.size_below);
    }
