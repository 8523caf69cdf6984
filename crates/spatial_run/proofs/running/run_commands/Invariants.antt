use Rattle.std.proofs.Common.{◌+◌, ◌≤◌, length, take}
use Rattle.script_lang.specs.CommandViews.{commands_of}
use Rattle.store_core.specs.Stores.{state_of}
use Rattle.store_commands.specs.Commands.{IsServing}
use Rattle.spatial_run.specs.Steps.{MadeAll}
use Rattle.spatial_run.specs.Views.{outcomes_of}
use Rattle.spatial_run.proofs.running.run_commands.Given as goal

abbrev pub invariant-loop-command : goal.invariant-loop-command
invariant-loop-command g l = record {
  made : MadeAll (state_of g.D.Device.seen l.fn.store) (state_of g.D.Device.seen l.store)
      (commands_of (take l.command-index l.commands)) (outcomes_of l.outcomes.items) l.refusals;
  serving : IsServing (state_of g.D.Device.seen l.store);
  room : length l.commands ≤ l.command-index + l.outcomes.spare;
}
