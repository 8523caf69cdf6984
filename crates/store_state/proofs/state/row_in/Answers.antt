use Rattle.primary_ix.specs.Laws.Memory.{memory-active, memory-frozen, memory-none}
use Rattle.store_state.proofs.state.row_in.Goals as goal

pub returns-in-Some : goal.returns-in-Some
returns-in-Some c = memory-active c.args.active.now.0 c.args.frozen.now c.args.key c.in-Some.row c.in-Some.ensures

pub returns-in-Some-frozen : goal.returns-in-Some-frozen
returns-in-Some-frozen c = memory-frozen c.args.active.now.0 c.args.frozen.now c.args.key c.in-Some-frozen.frozen _ c.in_default.ensures c.in-Some-frozen.is c.get-in-Some-frozen.ensures

pub returns-in-None : goal.returns-in-None
returns-in-None c = memory-none c.args.active.now.0 c.args.frozen.now c.args.key c.in_default.ensures c.in-None.is
