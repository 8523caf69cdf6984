use Rattle.std.proofs.Common.{◌≡◌, ℕ, ◌||◌, take}
use Rattle.std.specs.List.{list_any}
use Rattle.bloom_bits.specs.Filter.{is_set, is_probe, bit_count}
use Rattle.bloom_bits.specs.declared.filter.TheConstants.{PROBES}
use Rattle.bloom_bits.proofs.filter.add_keys.Given as goal

abbrev pub invariant-loop-key : goal.invariant-loop-key
invariant-loop-key l = (b : ℕ) → is_set l.bytes b ≡ (is_set l.fn.bytes b || list_any (λ key. is_probe PROBES key (bit_count l.fn.bytes) b) (take l.key-index l.keys))
