use Rattle.std.proofs.Common.{arith}
use Rattle.std.proofs.lemmas.List.{length-take}
use Rattle.primary_ix.proofs.bytes.write_row.Goals as goal

pub copy_from_slice-requires : goal.copy_from_slice-requires
copy_from_slice-requires c = rw (c.head.ensures.bytes) (omega (arith, length-take 14 c.args.out.now, c.requires))
