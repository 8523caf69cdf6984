use Rattle.std.proofs.Common.{◌≡◌, ◌+◌, arith}
use Rattle.region_cover.proofs.parts.Part.in_quadrant.Goals as goal

-- The last quadrant is turned round: its coordinates count from the far ends.
pub returns-in_default-clause-exactly : goal.returns-in_default-clause-exactly
returns-in_default-clause-exactly c u w p q =
    let e : c.args.quadrant ≡ 3 = omega arith in
    let both = c.from_spans-in_default.ensures.exactly u w in
    let up = c.upper-in_default.ensures.exactly u p in
    let low = c.lower-in_default.ensures.exactly w q in
    let y_back = c.reversed-y.ensures.exactly (u + c.args.half) (omega arith) in
    let x_back = c.reversed-x.ensures.exactly w (omega arith) in
    rw e (
      (λ h. let y = y_back.0 (up.0 (both.0 h).0) in let x = x_back.0 (low.0 (both.0 h).1) in ((omega arith, omega arith), (omega arith, omega arith))),
      (λ h. both.1 (up.1 (y_back.1 (omega arith, omega arith)), low.1 (x_back.1 (omega arith, omega arith)))),
    )
