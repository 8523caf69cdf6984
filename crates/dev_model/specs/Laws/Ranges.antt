-- Laws of bytes, of their ranges and of what is written over them.
use Rattle.std.proofs.Common.{◌≡◌, ℕ, ◌+◌, ◌-◌, ◌<◌, ◌≤◌, List, [], ◌∷◌, length, get_or, refl, sym, ◌∙◌, ap, arith, zero, suc}
use Rattle.std.proofs.lemmas.Bool.Decides.{nat_tests}
use Rattle.dev_model.specs.Story.{Bytes, Story, bytes_of, patched, part, IsOutside, IsInside, IsReadable}
use Rattle.dev_model.specs.Answers.{IsReadFrom}

-- a write leaves the other bytes
pub patched-outside : (at : ℕ) (new : List ℕ) (old : Bytes) (i : ℕ) → IsOutside at (length new) i → patched at new old i ≡ old i
patched-outside at new old i out = grind (arith, nat_tests)

pub patched-inside : (at : ℕ) (new : List ℕ) (old : Bytes) (i : ℕ) → IsInside at (length new) i → patched at new old i ≡ get_or new (i - at) 0
patched-inside at new old i inside = grind (arith, nat_tests)

pub length-part : (at count : ℕ) (bytes : Bytes) → length (part at count bytes) ≡ count
unfolding part
length-part at zero bytes = refl
length-part at (suc count) bytes = ap suc (length-part (at + 1) count bytes)

pub get_or-part : (at count : ℕ) (bytes : Bytes) (k : ℕ) → k < count → get_or (part at count bytes) k 0 ≡ bytes (at + k)
unfolding part
get_or-part at zero bytes k lt = absurd (omega arith)
get_or-part at (suc count) bytes zero lt = let e : at ≡ at + zero = omega arith in ap bytes e
get_or-part at (suc count) bytes (suc k) lt = let e : at + 1 + k ≡ at + suc k = omega arith in get_or-part (at + 1) count bytes k (omega arith) ∙ ap bytes e

-- ranges are equal where the bytes are
pub part-same : (at count : ℕ) (a b : Bytes) → ((i : ℕ) → at ≤ i → i < at + count → a i ≡ b i) → part at count a ≡ part at count b
unfolding part
part-same at zero a b same = refl
part-same at (suc count) a b same =
    λ j. same at (omega arith) (omega arith) j ∷ part-same (at + 1) count a b (λ i from to. same i (omega arith) (omega arith)) j

-- a list is a range where each of its bytes is there
pub part-list : (at count : ℕ) (bytes : Bytes) (xs : List ℕ) → length xs ≡ count → ((k : ℕ) → k < count → bytes (at + k) ≡ get_or xs k 0) → part at count bytes ≡ xs
unfolding part
part-list at zero bytes [] len same = refl
part-list at zero bytes (x ∷ xs) len same = absurd (omega arith)
part-list at (suc count) bytes [] len same = absurd (omega arith)
part-list at (suc count) bytes (x ∷ xs) len same =
    let e : at ≡ at + 0 = omega arith in
    let head : bytes at ≡ x = ap bytes e ∙ same 0 (omega arith) in
    let tail : part (at + 1) count bytes ≡ xs = part-list (at + 1) count bytes xs (omega arith) (λ k lt. let f : at + 1 + k ≡ at + suc k = omega arith in ap bytes f ∙ same (suc k) (omega arith)) in
    λ j. head j ∷ tail j

-- what was written is there
pub part-patched : (at : ℕ) (new : List ℕ) (old : Bytes) → part at (length new) (patched at new old) ≡ new
part-patched at new old =
    part-list at (length new) (patched at new old) new refl
    (λ k lt. let e : at + k - at ≡ k = omega arith in patched-inside at new old (at + k) (record { from = omega arith; to = omega arith }) ∙ ap (λ (n : ℕ). get_or new n 0) e)

-- a read gives the range, where each place of it can be read
pub part-read : (at : ℕ) (buf : List ℕ) (s : Story) → IsReadFrom at buf s → ((i : ℕ) → at ≤ i → i < at + length buf → IsReadable s.past i) → part at (length buf) (bytes_of s) ≡ buf
part-read at buf s read readable =
    part-list at (length buf) (bytes_of s) buf refl (λ k lt. sym (read k lt (readable (at + k) (omega arith) (omega arith))))
