use Rattle.comp_dir.specs.Laws.Closing.{open-without_slot, live-without_slot, ignored-without_slot, opens-without_slot}
use Rattle.comp_dir.proofs.laws.ignored_slot_may_be_closed.Goals as goal

pub returns-clause-opens : goal.returns-clause-opens
returns-clause-opens c = opens-without_slot

pub returns-clause-open : goal.returns-clause-open
returns-clause-open c = open-without_slot

pub returns-clause-live : goal.returns-clause-live
returns-clause-live c = live-without_slot

pub returns-clause-ignored : goal.returns-clause-ignored
returns-clause-ignored c = ignored-without_slot
