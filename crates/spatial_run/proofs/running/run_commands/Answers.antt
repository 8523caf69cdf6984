use Rattle.std.proofs.Common.{◌≡◌, ◌∙◌, ap, List, [], subst, sym, arith, rules}
use Rattle.std.specs.Option.{option_to_list}
use Rattle.store_core.specs.Stores.{state_of}
use Rattle.spatial_run.specs.Steps.{MadeAll, with_upkeep}
use Rattle.spatial_run.specs.Views.{outcomes_of}
use Rattle.spatial_run.specs.declared.outcomes.Refusals.{Refusals}
use Rattle.spatial_run.specs.declared.record.Outcome.{Outcome}
use Rattle.spatial_run.proofs.Making.{all-none, made-next}
use Rattle.spatial_run.proofs.running.run_commands.Goals as goal

pub loop-command-init : goal.loop-command-init
loop-command-init g c = record {
  made =
      let none : c.reserve.new.self.items ≡ [] = search rules in
      subst (λ (os : List Outcome). MadeAll (state_of g.D.Device.seen c.args.store.now) (state_of g.D.Device.seen c.args.store.now) [] (outcomes_of os) c.none-refusals.result) (sym none)
      (subst (λ (f : Refusals). MadeAll (state_of g.D.Device.seen c.args.store.now) (state_of g.D.Device.seen c.args.store.now) [] [] f) (sym c.none-refusals.ensures) (all-none (state_of g.D.Device.seen c.args.store.now)));
  serving = c.requires.serving;
  room = search (arith, rules);
}

pub loop-command-preserved : goal.loop-command-preserved
loop-command-preserved g c = record {
  made = made-next (state_of g.D.Device.seen c.args.store.now) (state_of g.D.Device.seen c.loop-command.store)
      (state_of g.D.Device.seen c.run_one-outcome.new.store) c.args.commands.now c.loop-command.command-index c.command-item.result _ c.loop-command.outcomes.items c.add.new.self.items c.run_one-outcome.result.outcome
      c.run_one-outcome.result.upkeep c.loop-command.refusals c.with_upkeep-refusals.result
      c.loop-command-test.true c.command-item.is c.add.ensures.items
      (c.with_upkeep-refusals.ensures ∙ ap (λ (f : Refusals). with_upkeep f (option_to_list c.run_one-outcome.result.upkeep)) c.with_outcome.ensures)
      c.loop-command.invariant.made c.run_one-outcome.ensures.done;
  serving = c.run_one-outcome.ensures.serving;
  room = omega (arith, c.add.ensures.spare, c.loop-command.invariant.room);
}
