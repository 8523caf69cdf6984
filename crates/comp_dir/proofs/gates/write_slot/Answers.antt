use Rattle.comp_dir.specs.Laws.Staying.{closed-stays}
use Rattle.comp_dir.proofs.Turning.{did-write, write-within, written-after}
use Rattle.comp_dir.proofs.gates.write_slot.Goals as goal

pub returns-clause-within : goal.returns-clause-within
returns-clause-within g c s is = write-within c.args.n c.args.slot.now s _ _ c.write.result is (did-write c.args.n c.args.slot.now _ _ _ _ c.write.result c.slot_start.ensures c.spelled.ensures c.write.ensures.told)

pub returns-clause-stays : goal.returns-clause-stays
returns-clause-stays g c s is rest closed = closed-stays c.args.n s _ (returns-clause-within g c s is) rest closed

pub returns-clause-written : goal.returns-clause-written
returns-clause-written g c = written-after c.args.n c.args.slot.now _ _ c.write.result (did-write c.args.n c.args.slot.now _ _ _ _ c.write.result c.slot_start.ensures c.spelled.ensures c.write.ensures.told)
