use Rattle.comp_dir.specs.Laws.Adding.{open-added, live-with_slot, ignored-with_slot, opens-with_slot}
use Rattle.comp_dir.proofs.laws.slot_may_be_added.Goals as goal

pub returns-clause-opens : goal.returns-clause-opens
returns-clause-opens c = opens-with_slot

pub returns-clause-open : goal.returns-clause-open
returns-clause-open c = open-added

pub returns-clause-live : goal.returns-clause-live
returns-clause-live c = live-with_slot

pub returns-clause-ignored : goal.returns-clause-ignored
returns-clause-ignored c = ignored-with_slot
