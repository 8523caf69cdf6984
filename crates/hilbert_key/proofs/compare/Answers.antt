use Rattle.std.proofs.Common.{arith, ◌∙◌}
use Rattle.hilbert_key.specs.laws.Bounds.{curve_value-lt}
use Rattle.hilbert_key.proofs.Order.{cmp-level}
use Rattle.hilbert_key.proofs.compare.Goals as goal

pub returns-then-one-other : goal.returns-then-one-other
returns-then-one-other c =
    c.cmp.ensures ∙ cmp-level c.loop-level.level _ _ _ _ _ _ _ _ (omega arith) c.if-one-other.true
    c.descend-one.ensures.value c.descend-other.ensures.value
    (curve_value-lt _ _ _ c.descend-one.ensures.x_below c.descend-one.ensures.y_below)
    (curve_value-lt _ _ _ c.descend-other.ensures.x_below c.descend-other.ensures.y_below)
    ∙ c.loop-level.invariant.same_order
