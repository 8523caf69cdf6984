use Rattle.std.proofs.Common.{◌≡◌, ℕ, suc, ◌+◌, ◌-◌, ◌*◌, ◌^◌, OnOk, Result, Ok, Err, arith, subst, sym, ap, ◌∙◌}
use Rattle.std.proofs.Math.Nat.{pow-succ'}
use Rattle.region_cover.specs.Steps.{IsPart, HasValue, AreRunsBelow, Adds}
use Rattle.region_cover.specs.declared.parts.Part.{Part}
use Rattle.region_cover.proofs.Gathering.{AreRunsBelow-up, Adds-same}
use Rattle.region_cover.proofs.Values.{HasValueBefore, not_whole, quadrant_room, quadrant_below, with_quadrant, without_quadrant, is_none, all_before, next_quadrant, four_quadrants, whole_side}
use Rattle.region_cover.proofs.+add_part.Goals as goal
use Rattle.region_cover.proofs.+add_part.Goals.{in-Some+in_ok-add_part, in_default}

on_ok : {T E : Type 0} (P Q : Type 0) (r : Result T E) → (P → Q) → OnOk r P → OnOk r Q
on_ok P Q (Ok x) f h = f h
on_ok P Q (Err e) f h = h

pub returns-then-is_whole-clause-adds : goal.returns-then-is_whole-clause-adds
returns-then-is_whole-clause-adds t c =
    let whole = c.is_whole.ensures.0 c.if-is_whole.true in
    on_ok _ _ c.add_run.result
    (Adds-same _ (HasValue c.args.order c.args.first c.args.part) c.args.ranges.now.items c.add_run.new.ranges.items
    (λ v. whole_side c.args.order c.args.first v c.side-whole.result c.args.part c.side-whole.ensures whole))
    c.add_run.ensures.adds

pub in_quadrant-requires-clause-part : goal.in_quadrant-requires-clause-part
in_quadrant-requires-clause-part t c =
    let e = not_whole c.args.order c.side-whole.result c.args.part c.is_whole.result c.side-whole.ensures c.requires.part_in c.is_whole.ensures c.if-is_whole.false in
    halves c.args.order (c.args.order - 1) c.side-half.result c.args.part e c.side-half.ensures c.requires.part_in
  where
    halves : (order k h : ℕ) (part : Part) → order ≡ suc k → h ≡ 2 ^ k → IsPart (2 ^ order) part → IsPart (2 * h) part
    halves order k h part e half part_in =
        let twice : 2 ^ order ≡ 2 * h = ap (λ n. 2 ^ n) e ∙ pow-succ' 2 k ∙ ap (λ n. 2 * n) (sym half) in
        subst (λ n. IsPart n part) twice part_in

pub overflow_mul-quadrant-in-Some : goal.overflow_mul-quadrant-in-Some
overflow_mul-quadrant-in-Some t c =
    let e = not_whole c.args.order c.side-whole.result c.args.part c.is_whole.result c.side-whole.ensures c.requires.part_in c.is_whole.ensures c.if-is_whole.false in
    let below = quadrant_below c.args.order (c.args.order - 1) c.args.first c.loop-quadrant.quadrant c.side-half.result (2 ^ 32) e c.side-half.ensures c.loop-quadrant-test.true c.requires.room in
    omega (arith, below)

pub overflow_add-first-in-Some : goal.overflow_add-first-in-Some
overflow_add-first-in-Some t c =
    let e = not_whole c.args.order c.side-whole.result c.args.part c.is_whole.result c.side-whole.ensures c.requires.part_in c.is_whole.ensures c.if-is_whole.false in
    let below = quadrant_below c.args.order (c.args.order - 1) c.args.first c.loop-quadrant.quadrant c.side-half.result (2 ^ 32) e c.side-half.ensures c.loop-quadrant-test.true c.requires.room in
    omega (arith, below)

pub add_part-requires : goal.add_part-requires
add_part-requires t c =
    let e = not_whole c.args.order c.side-whole.result c.args.part c.is_whole.result c.side-whole.ensures c.requires.part_in c.is_whole.ensures c.if-is_whole.false in
    let room = quadrant_room c.args.order (c.args.order - 1) c.args.first c.loop-quadrant.quadrant c.side-half.result (2 ^ 32) e c.side-half.ensures c.loop-quadrant-test.true c.requires.room in (
      omega (arith, e),
      (
        omega arith,
        (
          subst (λ n. IsPart n c.in-Some.inner) c.side-half.ensures c.in-Some.ensures.part,
          (
            room,
            subst (λ n. AreRunsBelow (c.args.first + c.loop-quadrant.quadrant * n * n) c.loop-quadrant.ranges.items) (sym c.side-half.ensures) c.loop-quadrant.invariant.runs,
          ),
        ),
      ),
    )

pub loop-quadrant-preserved : goal.loop-quadrant-preserved
loop-quadrant-preserved t c =
    let e = not_whole c.args.order c.side-whole.result c.args.part c.is_whole.result c.side-whole.ensures c.requires.part_in c.is_whole.ensures c.if-is_whole.false in
    elim c.match-in_quadrant.branch [
      | in-Some+in_ok-add_part w ↦ rw w.ranges-is record {
        runs = subst (λ n. AreRunsBelow n w.add_part.new.ranges.items) (next_quadrant c.args.first c.loop-quadrant.quadrant c.side-half.result (c.args.order - 1) c.side-half.ensures) w.in_ok-add_part.ensures.runs;
        adds = with_quadrant c.args.order (c.args.order - 1) c.args.first c.loop-quadrant.quadrant c.side-half.result c.args.part w.in-Some.inner _ _ _ e c.side-half.ensures c.loop-quadrant-test.true
            c.requires.part_in w.in-Some.ensures.part w.in-Some.ensures.exactly c.loop-quadrant.invariant.adds w.in_ok-add_part.ensures.adds;
      }
      | in_default w ↦ rw w.ranges-is record {
        runs = AreRunsBelow-up _ _ c.loop-quadrant.ranges.items (omega (arith, next_quadrant c.args.first c.loop-quadrant.quadrant c.side-half.result (c.args.order - 1) c.side-half.ensures)) c.loop-quadrant.invariant.runs;
        adds = without_quadrant c.args.order (c.args.order - 1) c.args.first c.loop-quadrant.quadrant c.side-half.result c.args.part c.in_quadrant.result _ _ e c.side-half.ensures c.loop-quadrant-test.true
            c.requires.part_in (is_none c.in_quadrant.result w.in_default.not-Some) c.in_quadrant.ensures.exactly c.loop-quadrant.invariant.adds;
      }
    ]

pub returns-clause-runs : goal.returns-clause-runs
returns-clause-runs t c =
    let e = not_whole c.args.order c.side-whole.result c.args.part c.is_whole.result c.side-whole.ensures c.requires.part_in c.is_whole.ensures c.if-is_whole.false in
    let all : c.loop-quadrant.quadrant ≡ 4 = omega arith in
    subst (λ n. AreRunsBelow n c.loop-quadrant.ranges.items)
    (ap (λ n. c.args.first + n * 2 ^ (c.args.order - 1) * 2 ^ (c.args.order - 1)) all ∙ four_quadrants c.args.first c.args.order (c.args.order - 1) e)
    c.loop-quadrant.invariant.runs

pub returns-clause-adds : goal.returns-clause-adds
returns-clause-adds t c =
    let e = not_whole c.args.order c.side-whole.result c.args.part c.is_whole.result c.side-whole.ensures c.requires.part_in c.is_whole.ensures c.if-is_whole.false in
    let all : c.loop-quadrant.quadrant ≡ 4 = omega arith in
    Adds-same (HasValueBefore 4 (c.args.order - 1) c.args.first c.args.part) _ _ _
    (λ v. all_before c.args.order (c.args.order - 1) c.args.first c.args.part v e c.requires.part_in)
    (subst (λ n. Adds (HasValueBefore n (c.args.order - 1) c.args.first c.args.part) c.args.ranges.now.items c.loop-quadrant.ranges.items) all c.loop-quadrant.invariant.adds)
