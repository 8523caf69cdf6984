use Rattle.std.proofs.Common.{◌≡◌, ◌≢◌, ℕ, ◌+◌, ◌-◌, length, get_or, arith, sym, ◌∙◌, ap}
use Rattle.region_cover.specs.declared.ranges.Range.{Range}
use Rattle.region_cover.proofs.Gathering.{prolonged, last_is, after_gap, among-snoc}
use Rattle.region_cover.proofs.ranges.add_run.Goals as goal
use Rattle.region_cover.proofs.ranges.add_run.Goals.{else-len-gt0-via-then-len-gt0+else-index-lo, else-len-gt0-via-else-len-gt0}

pub returns-then-index-lo-clause-adds : goal.returns-then-index-lo-clause-adds
returns-then-index-lo-clause-adds c =
    let len : c.len-len.result - 1 + 1 ≡ length c.args.ranges.now.items = omega arith in
    let same = last_is c.args.ranges.now.items (c.len-len.result - 1) c.index.result.now c.index_mut.result.now (omega arith) c.index.ensures c.index_mut.ensures.value in
    let next : c.index_mut.result.now.hi + 1 ≡ c.args.lo = ap (λ (r : Range). r.hi + 1) (sym same) ∙ c.if-index-lo.true in
    prolonged c.args.ranges.now.items (c.len-len.result - 1) c.args.lo c.args.hi c.index_mut.result.now len c.index_mut.ensures.value c.requires.below next c.requires.filled

pub returns-in_ok-push-clause-runs : goal.returns-in_ok-push-clause-runs
returns-in_ok-push-clause-runs c =
    let gap : (n : ℕ) (last : Range) → n + 1 ≡ length c.args.ranges.now.items → last ≡ get_or c.args.ranges.now.items n last → last.hi + 1 ≢ c.args.lo =
    λ n last len is. elim c.else-len-gt0.branch [
      | else-len-gt0-via-then-len-gt0+else-index-lo w ↦ λ e.
          let at : n ≡ c.len-len.result - 1 = omega arith in
          let there : last ≡ get_or c.args.ranges.now.items (c.len-len.result - 1) last = is ∙ ap (λ k. get_or c.args.ranges.now.items k last) at in
          let same = last_is c.args.ranges.now.items (c.len-len.result - 1) last w.index.result.now (omega arith) there w.index.ensures in
          w.if-index-lo.false (ap (λ (r : Range). r.hi + 1) (sym same) ∙ e)
      | else-len-gt0-via-else-len-gt0 w ↦ absurd (omega arith)
    ] in
    rw c.in_ok-push.ensures.items (after_gap c.args.ranges.now.items c.args.lo c.args.hi c.requires.below c.requires.filled gap)

pub returns-in_ok-push-clause-adds : goal.returns-in_ok-push-clause-adds
returns-in_ok-push-clause-adds c v =
    rw c.in_ok-push.ensures.items (among-snoc c.args.ranges.now.items (record { lo = c.args.lo; hi = c.args.hi }) v)
