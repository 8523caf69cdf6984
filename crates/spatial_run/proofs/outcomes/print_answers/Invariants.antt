use Rattle.std.proofs.Common.{◌≡◌, ◌≤◌, drop}
use Rattle.spatial_run.specs.Views.{outcomes_of}
use Rattle.spatial_run.specs.Steps.{answers_text}
use Rattle.spatial_run.proofs.Printed.{Printing}
use Rattle.spatial_run.proofs.outcomes.print_answers.Given as goal

abbrev pub invariant-loop-outcome : goal.invariant-loop-outcome
invariant-loop-outcome g l = record {
  calm : g.K.Sink.fault_count l.out ≡ g.K.Sink.fault_count l.fn.out;
  told : Printing (g.K.Sink.taken l.fn.out) (g.K.Sink.taken l.out) (answers_text 0 (outcomes_of l.outcomes)) (answers_text l.place (outcomes_of (drop l.outcome-index l.outcomes)));
  small : l.place ≤ l.outcome-index;
}
