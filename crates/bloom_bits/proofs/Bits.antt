-- One bit that is set, and the bits of a key's probes.
use Rattle.std.proofs.Common.{◌≡◌, ℕ, zero, suc, ◌+◌, ◌*◌, ◌/◌, ◌%◌, ◌^◌, ◌<◌, Bool, true, ◌||◌, eqb, List, length, get_or, set, refl, sym, ◌∙◌, ap, subst, arith, ⊎_elim, get_or-set_same, get_or-set_other, w8, bit_or, add-one}
use Rattle.std.proofs.Math.Bool.{or-false, or_assoc}
use Rattle.std.proofs.lemmas.List.{get_or_default}
use Rattle.std.proofs.lemmas.List.Folds.{list_any-from_Any}
use Rattle.std.proofs.lemmas.Nat.{mod_below}
use Rattle.std.specs.List.{All}
use Rattle.std.specs.Int.{bit_at}
use Rattle.bloom_bits.specs.declared.filter.TheConstants.{PROBES}
use Rattle.std.proofs.lemmas.Bool.{cases_eq, eq-eqb, ne_eqb, or_left, or_right}
use Rattle.std.proofs.lemmas.Nat.Bits.{bit_at_set_same, bit_at_set_other}
use Rattle.bloom_bits.specs.Filter.{is_set, is_probe, bit_count, MayHave, HoldsExactly}
use Rattle.bloom_bits.specs.Hash.{probe, first_hash, probe_step, wrapped_sum}

-- the bytes with bit `at` set
abbrev pub with_bit : List ℕ → ℕ → List ℕ
with_bit bytes at = set bytes (at / 8) (bit_or (get_or bytes (at / 8) 0) (1 * 2 ^ (at % 8) % 2 ^ 8))

is_set-same : (bytes : List ℕ) (at : ℕ) → at < bit_count bytes → is_set (with_bit bytes at) at ≡ true
is_set-same bytes at h =
    let within : at / 8 < length bytes = omega arith in
    let low : at % 8 < 8 = omega arith in
    let byte : ℕ = bit_or (get_or bytes (at / 8) 0) (1 * 2 ^ (at % 8) % 2 ^ 8) in
    rw (get_or-set_same bytes (at / 8) byte 0 within) (eq-eqb _ 1 (bit_at_set_same w8 (get_or bytes (at / 8) 0) (at % 8) low))

is_set-other : (bytes : List ℕ) (at b : ℕ) → at < bit_count bytes → (b ≡ at → ⊥) → is_set (with_bit bytes at) b ≡ is_set bytes b
is_set-other bytes at b h apart =
    let byte : ℕ = bit_or (get_or bytes (at / 8) 0) (1 * 2 ^ (at % 8) % 2 ^ 8) in
    let test : ℕ → Bool = λ n. eqb (bit_at n (b % 8)) 1 in
    let new : ℕ → ℕ = λ i. get_or (set bytes (at / 8) byte) i 0 in
    let old : ℕ → ℕ = λ i. get_or bytes i 0 in
    ⊎_elim
    (λ same.
    let within : at / 8 < length bytes = omega arith in
    let low : at % 8 < 8 = omega arith in
    let off : b % 8 ≡ at % 8 → ⊥ = λ e. apart (omega arith) in
    let one : ℕ → Bool = λ n. eqb n 1 in
    ap test (ap new same ∙ get_or-set_same bytes (at / 8) byte 0 within)
    ∙ ap one (bit_at_set_other w8 (get_or bytes (at / 8) 0) (at % 8) low (b % 8) off)
    ∙ ap test (ap old (sym same)))
    (λ other. ap test (get_or-set_other bytes (at / 8) (b / 8) byte 0 other))
    (cases_eq (b / 8) (at / 8))

pub is_set-with_bit : (bytes : List ℕ) (at : ℕ) → at < bit_count bytes → (b : ℕ) → is_set (with_bit bytes at) b ≡ (is_set bytes b || eqb b at)
is_set-with_bit bytes at h b =
    let P : ℕ → Type 0 = λ x. is_set (with_bit bytes at) x ≡ (is_set bytes x || eqb x at) in
    let with' : Bool → Bool = λ t. is_set bytes b || t in
    ⊎_elim
    (λ e. subst P (sym e) (is_set-same bytes at h ∙ sym (or_right (is_set bytes at) (eqb at at) (eq-eqb at at refl))))
    (λ apart. is_set-other bytes at b h apart ∙ sym (or-false (is_set bytes b)) ∙ ap with' (sym (ne_eqb b at apart)))
    (cases_eq b at)

-- one probe more is set
pub is_probe_more : (was now : Bool) (key bits j b at : ℕ) → was ≡ (now || is_probe j key bits b) → at ≡ probe key bits j
    → (was || eqb b at) ≡ (now || is_probe (j + 1) key bits b)
unfolding is_probe
is_probe_more was now key bits j b at h e = rw (h, e, add-one) (or_assoc now (is_probe j key bits b) (eqb b (probe key bits j)))

-- what the code computes from the two hashes
pub probe_from_hashes : (key bits j first step by at : ℕ) → first ≡ first_hash key → step ≡ probe_step key → by ≡ bits
    → at ≡ wrapped_sum first (j * step) % by → at ≡ probe key bits j
unfolding probe
probe_from_hashes key bits j first step by at f s b e = rw (← f, ← s, ← b) e

pub probe_below : (key bits j : ℕ) → 0 < bits → probe key bits j < bits
unfolding probe
probe_below key bits j h = mod_below (wrapped_sum (first_hash key) (j * probe_step key)) bits h

-- each probe is one of the probes
is_probe-probe : (count key bits j : ℕ) → j < count → is_probe count key bits (probe key bits j) ≡ true
unfolding is_probe
is_probe-probe zero key bits j h = absurd (omega arith)
is_probe-probe (suc n) key bits j h =
    ⊎_elim
    (λ e. rw e (or_right (is_probe n key bits (probe key bits n)) (eqb (probe key bits n) (probe key bits n)) (eq-eqb (probe key bits n) (probe key bits n) refl)))
    (λ apart. or_left (is_probe n key bits (probe key bits j)) (eqb (probe key bits j) (probe key bits n)) (is_probe-probe n key bits j (omega arith)))
    (cases_eq j n)

-- a filter of exactly these keys denies none of them
pub MayHave-from_exact : (keys bytes : List ℕ) → 0 < bit_count bytes → HoldsExactly keys bytes → All (MayHave bytes) keys
MayHave-from_exact keys bytes some exact k d within j below =
    let key : ℕ = get_or keys k d in
    let at : ℕ = probe key (bit_count bytes) j in
    let test : ℕ → Bool = λ other. is_probe PROBES other (bit_count bytes) at in
    exact at (probe_below key (bit_count bytes) j some)
    ∙ list_any-from_Any test keys (k, key, within, get_or_default keys k key d within, is_probe-probe PROBES key (bit_count bytes) j below)
