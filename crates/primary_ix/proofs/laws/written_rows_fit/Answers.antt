use Rattle.primary_ix.specs.Laws.Fitting.{Fits-write}
use Rattle.primary_ix.proofs.laws.written_rows_fit.Goals as goal

pub returns : goal.returns
returns c = Fits-write
