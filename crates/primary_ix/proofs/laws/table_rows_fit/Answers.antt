use Rattle.primary_ix.specs.Laws.Fitting.{Fits-none}
use Rattle.primary_ix.proofs.Rebuilt.{table-rebuilt, table_rows-ascend, table_rows-Fits}
use Rattle.primary_ix.proofs.laws.table_rows_fit.Goals as goal

pub returns-clause-none : goal.returns-clause-none
returns-clause-none c = Fits-none

pub returns-clause-all : goal.returns-clause-all
returns-clause-all c = table_rows-Fits

pub returns-clause-ascend : goal.returns-clause-ascend
returns-clause-ascend c = table_rows-ascend

pub returns-clause-only : goal.returns-clause-only
returns-clause-only c = table-rebuilt
