use Rattle.std.proofs.Common.{arith, refl}
use Rattle.turn_cell_tests.specs.declared.counter.Entry.TheVariants.{Counted}
use Rattle.turn_cell_tests.proofs.Runs.{run_length, run_count, drawn_below}
use Rattle.turn_cell_tests.proofs.counter.CountCallCounter.run.Goals as goal

pub overflow_add-value : goal.overflow_add-value
overflow_add-value c =
    let few = c.requires.3.0 in
    omega (arith, run_length _ _ _ _ _ c.requires.2)

pub returns : goal.returns
returns c own history run may =
    (Counted c.args.self.owner c.args.value.now.counted, refl, run_count 0 0 history _ _ _ (drawn_below 0 0 history _ _ may.1.0 _ run may.1.1) run)
