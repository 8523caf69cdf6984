use Rattle.comp_dir.specs.Laws.Staying.{ready-synced, ready-stays}
use Rattle.comp_dir.proofs.laws.written_slot_stays.Goals as goal

pub returns-clause-ready : goal.returns-clause-ready
returns-clause-ready c = ready-synced

pub returns-clause-stays : goal.returns-clause-stays
returns-clause-stays c = ready-stays
