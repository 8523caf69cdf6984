use Rattle.comp_dir.proofs.Meaning.{pages-shared, lsns-shared}
use Rattle.comp_dir.proofs.laws.tests_mean.Goals as goal

pub returns-clause-pages : goal.returns-clause-pages
returns-clause-pages c = pages-shared

pub returns-clause-lsns : goal.returns-clause-lsns
returns-clause-lsns c = lsns-shared
