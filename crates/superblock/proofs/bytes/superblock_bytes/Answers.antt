use Rattle.std.proofs.Common.{refl}
use Rattle.superblock.specs.Superblock.{superblock_bytes}
use Rattle.superblock.proofs.bytes.superblock_bytes.Goals as goal

pub returns : goal.returns
unfolding superblock_bytes
returns c = rw (c.copy_from_slice-2.ensures.after, c.copy_from_slice.ensures.after, c.to_be_bytes.ensures, c.bits.ensures.is) refl
