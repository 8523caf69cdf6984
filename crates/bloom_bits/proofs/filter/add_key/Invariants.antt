use Rattle.std.proofs.Common.{◌≡◌, ℕ, ◌||◌}
use Rattle.bloom_bits.specs.Filter.{is_set, is_probe, bit_count}
use Rattle.bloom_bits.proofs.filter.add_key.Given as goal

abbrev pub invariant-loop-number : goal.invariant-loop-number
invariant-loop-number l = (b : ℕ) → is_set l.bytes b ≡ (is_set l.fn.bytes b || is_probe l.number l.key (bit_count l.fn.bytes) b)
