use Rattle.std.proofs.Common.{arith}
use Rattle.bloom_bits.proofs.Bits.{MayHave-from_exact}
use Rattle.bloom_bits.proofs.filter.Bloom.build.Goals as goal

pub returns-clause-added : goal.returns-clause-added
returns-clause-added c =
    MayHave-from_exact c.args.keys.now c.in_ok-bytes.bytes.items (omega (arith, c.in_ok-bytes.ensures.bits)) c.in_ok-bytes.ensures.exact
