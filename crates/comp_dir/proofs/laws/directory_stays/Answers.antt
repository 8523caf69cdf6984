use Rattle.comp_dir.specs.Laws.Staying.{directory-stays}
use Rattle.comp_dir.proofs.laws.directory_stays.Goals as goal

pub returns : goal.returns
returns c = directory-stays
