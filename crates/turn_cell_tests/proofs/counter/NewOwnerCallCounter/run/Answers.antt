use Rattle.std.proofs.Common.{arith, refl}
use Rattle.turn_cell_tests.specs.declared.counter.Entry.TheVariants.{Drew}
use Rattle.turn_cell_tests.proofs.Runs.{run_length, run_draw}
use Rattle.turn_cell_tests.proofs.counter.NewOwnerCallCounter.run.Goals as goal

pub overflow_add-value : goal.overflow_add-value
overflow_add-value c =
    let few = c.requires.3 in
    omega (arith, run_length _ _ _ _ _ c.requires.2)

pub returns : goal.returns
returns c own history run may = (Drew c.args.value.now.drawn, refl, run_draw 0 0 history _ _ run)
