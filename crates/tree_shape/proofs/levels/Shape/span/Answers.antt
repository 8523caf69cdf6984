use Rattle.std.proofs.Common.{arith, ◌≡◌, ◌*◌, ◌<◌, ◌≤◌, ◌^◌, ◌∙◌, sym, ap}
use Rattle.std.proofs.Math.Nat.{mul-le-mul_left}
use Rattle.std.proofs.Math.Numerals.{add-one}
use Rattle.tree_shape.specs.Shape.{span}
use Rattle.tree_shape.specs.Laws.Covers.{span-next}
use Rattle.tree_shape.specs.Laws.Places.{child_has_row}
use Rattle.tree_shape.proofs.levels.Shape.span.Goals as goal

pub overflow_mul-step : goal.overflow_mul-step
overflow_mul-step c =
    let s = c.args.self in
    let row = child_has_row s c.requires.per_leaf c.requires.per_inner c.loop-i._i 1 (omega arith) (c.requires.below_root c.loop-i._i (omega arith)) in
    let step : c.loop-i.step < 2 ^ 32 = omega (arith, c.loop-i.invariant) in
    let most : c.loop-i.step * c.from-many.result ≤ c.loop-i.step * 65536 = mul-le-mul_left c.loop-i.step (omega arith) in
    omega arith

pub loop-i-preserved : goal.loop-i-preserved
loop-i-preserved c =
    let s = c.args.self in
    rw add-one (ap (λ n. n * c.from-many.result) c.loop-i.invariant ∙ ap (λ n. span s c.loop-i._i * n) c.from-many.ensures ∙ sym (span-next s c.loop-i._i))

pub returns-clause-below : goal.returns-clause-below
returns-clause-below c =
    let here : c.loop-i._i ≡ c.args.level = omega arith in
    let row = child_has_row c.args.self c.requires.per_leaf c.requires.per_inner c.loop-i._i 1 (omega arith) (c.requires.below_root c.loop-i._i (omega arith)) in
    omega (arith, c.loop-i.invariant)
