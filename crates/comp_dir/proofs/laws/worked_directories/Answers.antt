use Rattle.std.proofs.Common.{refl}
use Rattle.comp_dir.proofs.laws.worked_directories.Goals as goal

pub returns-clause-merged : goal.returns-clause-merged
returns-clause-merged c = (refl, refl, refl)

pub returns-clause-with_gap : goal.returns-clause-with_gap
returns-clause-with_gap c = refl
