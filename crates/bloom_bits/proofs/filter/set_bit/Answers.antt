use Rattle.bloom_bits.proofs.Bits.{is_set-with_bit}
use Rattle.bloom_bits.proofs.filter.set_bit.Goals as goal

pub returns : goal.returns
returns c = is_set-with_bit c.args.bytes.now c.args.bit c.requires
