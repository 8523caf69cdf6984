use Rattle.std.proofs.Common.{rules}
use Rattle.std.proofs.lemmas.List.{drop-replicate}
use Rattle.primary_ix.proofs.bytes.filled_up.Goals as goal

-- Behind the copied note are the zeros that were there.
pub returns : goal.returns
returns c = rw drop-replicate (search rules)
