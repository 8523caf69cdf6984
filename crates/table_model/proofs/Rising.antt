-- Lists that rise, and lists whose numbers all differ.
use Rattle.std.proofs.Common.{◌≡◌, ℕ, ◌<◌, List, [], ◌∷◌, ◌++◌, All, arith}
use Rattle.std.proofs.lemmas.List.Elements.{All-nil, All-cons, All-head, All-tail, All-weaker}
use Rattle.table_model.specs.Order.{IsBefore, AreApart}
use Rattle.table_model.specs.Record.{Rises}

-- what holds of a list holds of its parts
pub All-front : (P : ℕ → Type 0) (ns ms : List ℕ) → All P (ns ++ ms) → All P ns
All-front P [] ms all = All-nil P
All-front P (n ∷ ns) ms all = All-cons P n ns (All-head P n (ns ++ ms) all) (All-front P ns ms (All-tail P n (ns ++ ms) all))

pub All-behind : (P : ℕ → Type 0) (ns ms : List ℕ) → All P (ns ++ ms) → All P ms
All-behind P [] ms all = all
All-behind P (n ∷ ns) ms all = All-behind P ns ms (All-tail P n (ns ++ ms) all)

pub rises-rest : (n : ℕ) (ns : List ℕ) → Rises (n ∷ ns) → Rises ns
rises-rest n [] rises = tt
rises-rest n (m ∷ ns) rises = rises.1

pub rises-above : (n : ℕ) (ns : List ℕ) → Rises (n ∷ ns) → All (λ m. n < m) ns
rises-above n [] rises = All-nil (λ m. n < m)
rises-above n (m ∷ ns) rises =
    let first : n < m = rises.0 in
    All-cons (λ k. n < k) m ns first (All-weaker (λ k. m < k) (λ k. n < k) (λ k lt. omega (arith, first, lt)) ns (rises-above m ns rises.1))

pub rises-front : (ns ms : List ℕ) → Rises (ns ++ ms) → Rises ns
rises-front [] ms rises = tt
rises-front (n ∷ []) ms rises = tt
rises-front (n ∷ m ∷ ns) ms rises = (rises.0, rises-front (m ∷ ns) ms rises.1)

pub rises-behind : (ns ms : List ℕ) → Rises (ns ++ ms) → Rises ms
rises-behind [] ms rises = rises
rises-behind (n ∷ ns) ms rises = rises-behind ns ms (rises-rest n (ns ++ ms) rises)

pub rises-before : (ns ms : List ℕ) → Rises (ns ++ ms) → IsBefore ns ms
rises-before [] ms rises = All-nil (λ a. All (λ b. a < b) ms)
rises-before (n ∷ ns) ms rises =
    All-cons (λ a. All (λ b. a < b) ms) n ns (All-behind (λ b. n < b) ns ms (rises-above n (ns ++ ms) rises)) (rises-before ns ms (rises-rest n (ns ++ ms) rises))

-- all numbers of a list differ
abbrev pub Differ : List ℕ → Type 0
Differ [] = Unit {0}
Differ (n ∷ ns) = All (λ m. n ≡ m → ⊥) ns × Differ ns

pub rises-differ : (ns : List ℕ) → Rises ns → Differ ns
rises-differ [] rises = tt
rises-differ (n ∷ ns) rises =
    (All-weaker (λ m. n < m) (λ m. n ≡ m → ⊥) (λ m lt is. absurd (omega (arith, lt, is))) ns (rises-above n ns rises), rises-differ ns (rises-rest n ns rises))

pub differ-front : (ns ms : List ℕ) → Differ (ns ++ ms) → Differ ns
differ-front [] ms differ = tt
differ-front (n ∷ ns) ms differ = (All-front (λ m. n ≡ m → ⊥) ns ms differ.0, differ-front ns ms differ.1)

pub differ-behind : (ns ms : List ℕ) → Differ (ns ++ ms) → Differ ms
differ-behind [] ms differ = differ
differ-behind (n ∷ ns) ms differ = differ-behind ns ms differ.1

pub differ-apart : (ns ms : List ℕ) → Differ (ns ++ ms) → AreApart ns ms
differ-apart [] ms differ = All-nil (λ a. All (λ b. a ≡ b → ⊥) ms)
differ-apart (n ∷ ns) ms differ =
    All-cons (λ a. All (λ b. a ≡ b → ⊥) ms) n ns (All-behind (λ b. n ≡ b → ⊥) ns ms differ.0) (differ-apart ns ms differ.1)
