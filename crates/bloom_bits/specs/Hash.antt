-- Where the probes of a key stand. All sums and products are modulo 2 ^ 64, the numbers of a u64.
use Rattle.std.specs.Prelude.{ℕ, ◌+◌, ◌*◌, ◌/◌, ◌%◌, ◌^◌, bit_or, bit_xor}
use Rattle.bloom_bits.specs.declared.hash.TheConstants.{GAMMA, FIRST_FACTOR, SECOND_FACTOR}

-- a sum and a product modulo 2 ^ 64
abbrev pub wrapped_sum : ℕ → ℕ → ℕ
wrapped_sum a b = (a + b) % 2 ^ 64

abbrev pub wrapped_product : ℕ → ℕ → ℕ
wrapped_product a b = a * b % 2 ^ 64

-- a number xor itself, shifted right
abbrev pub folded : ℕ → ℕ → ℕ
folded z shift = bit_xor z (z / 2 ^ shift)

-- the output step of SplitMix64
unfoldable pub mix : ℕ → ℕ
mix z = folded (wrapped_product (folded (wrapped_product (folded z 30) FIRST_FACTOR) 27) SECOND_FACTOR) 31

-- where the probes of a key begin
unfoldable pub first_hash : ℕ → ℕ
first_hash key = mix (wrapped_sum key GAMMA)

-- how far apart they are: an odd number
unfoldable pub probe_step : ℕ → ℕ
probe_step key = bit_or (mix (wrapped_sum (first_hash key) GAMMA)) 1

-- the bit of probe j among so many bits
unfoldable pub probe : (key bits j : ℕ) → ℕ
probe key bits j = wrapped_sum (first_hash key) (j * probe_step key) % bits
