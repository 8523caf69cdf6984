use Rattle.std.proofs.Common.{◌≡◌, ◌∙◌, ap, arith, refl, drop, []}
use Rattle.std.proofs.Math.ListN.{drop_of_length-le}
use Rattle.table_model.specs.Record.{refusals_text}
use Rattle.spatial_run.specs.Views.{outcomes_of}
use Rattle.spatial_run.proofs.Printed.{printing_begins, printing_more, printing_same, printing_fails, printing_ends, refusals_split}
use Rattle.spatial_run.proofs.outcomes.print_refusals.Goals as goal

pub loop-outcome-init : goal.loop-outcome-init
loop-outcome-init g c = record { calm = refl; told = printing_begins _ _ }

pub returns-in-Err-clause-told : goal.returns-in-Err-clause-told
returns-in-Err-clause-told g c =
    printing_fails _ _ _ _ _ _ _ c.in-Err.e c.loop-outcome.invariant.told
    (refusals_split c.args.outcomes.now c.loop-outcome.outcome-index c.outcome-item.result (omega arith) c.outcome-item.is)
    c.in-Err.ensures.told

pub loop-outcome-preserved : goal.loop-outcome-preserved
loop-outcome-preserved g c = record {
  calm = c.in_default.ensures.counts ∙ c.loop-outcome.invariant.calm;
  told = printing_more _ _ _ _ _ _ _ c.loop-outcome.invariant.told
      (refusals_split c.args.outcomes.now c.loop-outcome.outcome-index c.outcome-item.result (omega arith) c.outcome-item.is) c.in_default.ensures.told;
}

pub returns-clause-told : goal.returns-clause-told
returns-clause-told g c =
    let nothing_left : drop c.loop-outcome.outcome-index c.args.outcomes.now ≡ [] = drop_of_length-le c.args.outcomes.now (omega arith) in
    printing_ends _ _ _ (printing_same _ _ _ _ _ c.loop-outcome.invariant.told (ap (λ os. refusals_text 0 (outcomes_of os)) nothing_left))
