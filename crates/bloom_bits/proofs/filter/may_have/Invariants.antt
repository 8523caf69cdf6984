use Rattle.std.proofs.Common.{ℕ, ◌<◌, IsTrue}
use Rattle.bloom_bits.specs.Filter.{is_set, bit_count}
use Rattle.bloom_bits.specs.Hash.{probe}
use Rattle.bloom_bits.proofs.filter.may_have.Given as goal

abbrev pub invariant-loop-j : goal.invariant-loop-j
invariant-loop-j l = (k : ℕ) → k < l.j → IsTrue (is_set l.bytes (probe l.key (bit_count l.bytes) k))
