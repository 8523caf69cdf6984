use Rattle.comp_dir.specs.Laws.Spelled.{slot-back}
use Rattle.comp_dir.proofs.laws.slot_is_read_back.Goals as goal

pub returns : goal.returns
returns c = slot-back
