-- What the bytes of a filter say. Bit b is bit b % 8, from the least, of byte b / 8.
use Rattle.std.specs.Prelude.{◌≡◌, ℕ, zero, suc, ◌+◌, ◌*◌, ◌/◌, ◌%◌, ◌^◌, ◌<◌, ◌≤◌, max, Bool, false, ◌||◌, ◌==◌, IsTrue, List, length, slice_index}
use Rattle.std.specs.List.{list_any}
use Rattle.std.specs.Int.{bit_at}
use Rattle.bloom_bits.specs.declared.filter.TheConstants.{PROBES, FEWEST_BITS, BITS_A_KEY}
use Rattle.bloom_bits.specs.Hash.{probe}

-- ten bits a key in whole bytes, and never below 64
abbrev pub bits_for : ℕ → ℕ
bits_for keys = max FEWEST_BITS ((BITS_A_KEY * keys + 7) / 8 * 8)

-- how many bits these bytes have
abbrev pub bit_count : List ℕ → ℕ
bit_count bytes = 8 * length bytes

-- a filter has at least 64 bits, and their number is a u32
abbrev pub IsFilter : List ℕ → Type 0
IsFilter bytes = (FEWEST_BITS ≤ bit_count bytes) × (bit_count bytes < 2 ^ 32)

-- these bytes and this number of bits belong together
abbrev pub IsFilterOf : ℕ → List ℕ → Type 0
IsFilterOf bits bytes = (FEWEST_BITS ≤ bits) × (bits ≡ bit_count bytes)

-- whether bit b is 1
abbrev pub is_set : List ℕ → ℕ → Bool
is_set bytes b = bit_at (slice_index bytes (b / 8)) (b % 8) == 1

-- bit b is one of the first `count` probes of a key
unfoldable pub is_probe : (count key bits b : ℕ) → Bool
is_probe zero key bits b = false
is_probe (suc j) key bits b = is_probe j key bits b || b == probe key bits j

-- all probes of the key are set
abbrev pub MayHave : List ℕ → ℕ → Type 0
MayHave bytes key = (j : ℕ) → j < PROBES → IsTrue (is_set bytes (probe key (bit_count bytes) j))

-- the bits that are set are the probes of these keys, and no others
abbrev pub HoldsExactly : List ℕ → List ℕ → Type 0
HoldsExactly keys bytes =
    (b : ℕ) → b < bit_count bytes → is_set bytes b ≡ list_any (λ key. is_probe PROBES key (bit_count bytes) b) keys
