use Rattle.std.proofs.Common.{◌≡◌, ◌∙◌, sym, ap, arith, refl, ◌+◌, drop, []}
use Rattle.std.proofs.Math.ListN.{drop_of_length-le}
use Rattle.spatial_run.specs.Views.{outcomes_of}
use Rattle.spatial_run.specs.Steps.{answers_text}
use Rattle.spatial_run.proofs.Printed.{printing_begins, printing_more, printing_same, printing_fails, printing_ends, answers_split}
use Rattle.spatial_run.proofs.outcomes.print_answers.Goals as goal

pub loop-outcome-init : goal.loop-outcome-init
loop-outcome-init g c = record { calm = refl; told = printing_begins _ _; small = omega arith }

pub returns-in-Err-clause-told : goal.returns-in-Err-clause-told
returns-in-Err-clause-told g c =
    printing_fails _ _ _ _ _ _ _ c.in-Err.e c.loop-outcome.invariant.told
    (answers_split c.args.outcomes.now c.loop-outcome.outcome-index c.loop-outcome.place c.outcome-item.result (omega arith) c.outcome-item.is)
    c.in-Err.ensures.told

pub loop-outcome-preserved : goal.loop-outcome-preserved
loop-outcome-preserved g c = record {
  calm = c.in_default.ensures.counts ∙ c.loop-outcome.invariant.calm;
  told = printing_same _ _ _ _ _
      (printing_more _ _ _ _ _ _ _ c.loop-outcome.invariant.told
      (answers_split c.args.outcomes.now c.loop-outcome.outcome-index c.loop-outcome.place c.outcome-item.result (omega arith) c.outcome-item.is) c.in_default.ensures.told)
      (ap (λ p. answers_text p (outcomes_of (drop (c.loop-outcome.outcome-index + 1) c.args.outcomes.now))) (sym c.next_place-place.ensures.exact));
  small = omega (arith, c.next_place-place.ensures.bound);
}

pub returns-clause-told : goal.returns-clause-told
returns-clause-told g c =
    let nothing_left : drop c.loop-outcome.outcome-index c.args.outcomes.now ≡ [] = drop_of_length-le c.args.outcomes.now (omega arith) in
    printing_ends _ _ _ (printing_same _ _ _ _ _ c.loop-outcome.invariant.told (ap (λ os. answers_text c.loop-outcome.place (outcomes_of os)) nothing_left))
