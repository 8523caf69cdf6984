use Rattle.std.proofs.Common.{◌^◌, arith}
use Rattle.component_image.specs.Laws.Counting.{few-rows, rows-below}
use Rattle.component_image.proofs.laws.rows_are_few.Goals as goal

pub returns-clause-together : goal.returns-clause-together
returns-clause-together c = few-rows

pub returns-clause-below : goal.returns-clause-below
returns-clause-below c lists records few all = rows-below (2 ^ 32) 16 (2 ^ 37) (omega arith) lists records all few
