-- Numbers that ascend within bounds, and lists in which no number stands twice.
use Rattle.std.proofs.Common.{◌≡◌, ◌≢◌, ℕ, zero, suc, ◌+◌, ◌<◌, ◌≤◌, Bool, List, [], ◌∷◌, ◌++◌, drop, map, length, get_or, arith, subst, inl, inr}
use Rattle.std.specs.Prelude.{All, AllPairs}
use Rattle.std.specs.List.{filter}
use Rattle.std.proofs.lemmas.Bool.{cases_Bool}
use Rattle.std.proofs.lemmas.List.Elements.{All-cons}
use Rattle.std.proofs.lemmas.List.Kept.{AllPairs-cons}
use Rattle.tree_shape.specs.Shape.{numbers}
use Rattle.rtree_image.specs.Steps.{AscendWithin}

pub within-le : (low high : ℕ) (ns : List ℕ) → AscendWithin low high ns → low ≤ high
unfolding AscendWithin
within-le low high [] h = h
within-le low high (n ∷ ns) h = let first : low ≤ n = h.0 in let rest = within-le (suc n) high ns h.1 in omega arith

pub within-none : (low high : ℕ) → low ≤ high → AscendWithin low high []
unfolding AscendWithin
within-none low high h = h

pub within-one : AscendWithin 0 1 (0 ∷ [])
unfolding AscendWithin
within-one = (omega arith, omega arith)

pub within-lower : (a low high : ℕ) (ns : List ℕ) → a ≤ low → AscendWithin low high ns → AscendWithin a high ns
unfolding AscendWithin
within-lower a low high [] le h = omega arith
within-lower a low high (n ∷ ns) le h = (let first : low ≤ n = h.0 in omega arith, h.1)

pub within-higher : (low high b : ℕ) (ns : List ℕ) → high ≤ b → AscendWithin low high ns → AscendWithin low b ns
unfolding AscendWithin
within-higher low high b [] le h = omega arith
within-higher low high b (n ∷ ns) le h = (h.0, within-higher (suc n) high b ns le h.1)

pub within-append : (a b c : ℕ) (xs ys : List ℕ) → AscendWithin a b xs → AscendWithin b c ys → AscendWithin a c (xs ++ ys)
unfolding AscendWithin
within-append a b c [] ys p q = within-lower a b c ys p q
within-append a b c (x ∷ xs) ys p q = (p.0, within-append (suc x) b c xs ys p.1 q)

pub within-front : (low high : ℕ) (xs ys : List ℕ) → AscendWithin low high (xs ++ ys) → AscendWithin low high xs
unfolding AscendWithin
within-front low high [] ys h = within-le low high ys h
within-front low high (x ∷ xs) ys h = (h.0, within-front (suc x) high xs ys h.1)

pub within-filter : (test : ℕ → Bool) (from n : ℕ) → AscendWithin from (from + n) (filter test (numbers from n))
unfolding AscendWithin numbers
within-filter test from zero = omega arith
within-filter test from (suc n) =
    let e : suc from + n ≡ from + suc n = omega arith in
    let rest = subst (λ high. AscendWithin (suc from) high (filter test (numbers (suc from) n))) e (within-filter test (suc from) n) in
    elim (cases_Bool (test from)) [
      | inl passes ↦ rw passes (omega arith, rest)
      | inr fails ↦ rw fails (within-lower from (suc from) (from + suc n) _ (omega arith) rest)
    ]

-- the next of some numbers, and those behind it
pub within-next : (low high : ℕ) (ns : List ℕ) (i d : ℕ) → i < length ns → AscendWithin low high (drop i ns)
    → (low ≤ get_or ns i d) × AscendWithin (suc (get_or ns i d)) high (drop (i + 1) ns)
unfolding AscendWithin
within-next low high [] i d h p = absurd (omega arith)
within-next low high (n ∷ ns) zero d h p = p
within-next low high (n ∷ ns) (suc i) d h p = let e : suc i + 1 ≡ suc (i + 1) = omega arith in rw e (within-next low high ns i d (omega arith) p)

-- the numbers of the pages of a level
pub within-map : (first start low high : ℕ) (ns : List ℕ) → AscendWithin low high ns
    → AscendWithin (first + (start + low)) (first + (start + high)) (map (λ at. first + (start + at)) ns)
unfolding AscendWithin
within-map first start low high [] h = omega arith
within-map first start low high (n ∷ ns) h =
    let le : low ≤ n = h.0 in
    let e : first + (start + suc n) ≡ suc (first + (start + n)) = omega arith in
    (omega arith, subst (λ low. AscendWithin low (first + (start + high)) (map (λ at. first + (start + at)) ns)) e (within-map first start (suc n) high ns h.1))

-- no number of a list is that one
unfoldable pub Apart : ℕ → List ℕ → Type 0
Apart x [] = Unit {0}
Apart x (y ∷ ys) = (x ≢ y) × Apart x ys

-- no number stands twice
unfoldable pub Once : List ℕ → Type 0
Once [] = Unit {0}
Once (x ∷ xs) = Apart x xs × Once xs

-- all numbers are at least that one
unfoldable pub Above : ℕ → List ℕ → Type 0
Above low [] = Unit {0}
Above low (x ∷ xs) = (low ≤ x) × Above low xs

pub once-none : Once []
unfolding Once
once-none = tt

pub above-none : (low : ℕ) → Above low []
unfolding Above
above-none low = tt

pub above-lower : (a low : ℕ) (xs : List ℕ) → a ≤ low → Above low xs → Above a xs
unfolding Above
above-lower a low [] le h = tt
above-lower a low (x ∷ xs) le h = (let first : low ≤ x = h.0 in omega arith, above-lower a low xs le h.1)

pub above-append : (low : ℕ) (xs ys : List ℕ) → Above low xs → Above low ys → Above low (xs ++ ys)
unfolding Above
above-append low [] ys p q = q
above-append low (x ∷ xs) ys p q = (p.0, above-append low xs ys p.1 q)

pub above-within : (low high : ℕ) (xs : List ℕ) → AscendWithin low high xs → Above low xs
unfolding Above AscendWithin
above-within low high [] h = tt
above-within low high (x ∷ xs) h =
    let first : low ≤ x = h.0 in
    (first, above-lower low (suc x) xs (omega arith) (above-within (suc x) high xs h.1))

apart-above : (x low : ℕ) (ys : List ℕ) → x < low → Above low ys → Apart x ys
unfolding Above Apart
apart-above x low [] h p = tt
apart-above x low (y ∷ ys) h p = (λ e. (let le : low ≤ y = p.0 in omega arith), apart-above x low ys h p.1)

apart-below : (x low high : ℕ) (ys : List ℕ) → high ≤ x → AscendWithin low high ys → Apart x ys
unfolding Apart AscendWithin
apart-below x low high [] h p = tt
apart-below x low high (y ∷ ys) h p =
    let le = within-le (suc y) high ys p.1 in
    (λ e. omega arith, apart-below x (suc y) high ys h p.1)

apart-append : (x : ℕ) (xs ys : List ℕ) → Apart x xs → Apart x ys → Apart x (xs ++ ys)
unfolding Apart
apart-append x [] ys p q = q
apart-append x (y ∷ xs) ys p q = (p.0, apart-append x xs ys p.1 q)

once-within : (low high : ℕ) (xs : List ℕ) → AscendWithin low high xs → Once xs
unfolding Once AscendWithin
once-within low high [] h = tt
once-within low high (x ∷ xs) h = (apart-above x (suc x) xs (omega arith) (above-within (suc x) high xs h.1), once-within (suc x) high xs h.1)

-- pages of a level, behind those of higher levels
pub once-append : (low high : ℕ) (xs ys : List ℕ) → Once xs → Above high xs → AscendWithin low high ys → Once (xs ++ ys)
unfolding Once Above
once-append low high [] ys p above q = once-within low high ys q
once-append low high (x ∷ xs) ys p above q =
    (apart-append x xs ys p.0 (apart-below x low high ys above.0 q), once-append low high xs ys p.1 above.1 q)

apart-all : (x : ℕ) (ys : List ℕ) → Apart x ys → All (λ y. x ≢ y) ys
unfolding Apart
apart-all x [] h = λ i d inside. absurd (omega arith)
apart-all x (y ∷ ys) h = All-cons (λ y. x ≢ y) y ys h.0 (apart-all x ys h.1)

pub pairs-once : (xs : List ℕ) → Once xs → AllPairs (λ a b. a ≢ b) xs
unfolding Once
pairs-once [] h = λ i j d less inside. absurd (omega arith)
pairs-once (x ∷ xs) h = AllPairs-cons (λ a b. a ≢ b) x xs (apart-all x xs h.0) (pairs-once xs h.1)
