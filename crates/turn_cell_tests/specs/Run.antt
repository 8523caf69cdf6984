-- Runs of a counter.
use Rattle.std.specs.Prelude.{◌≡◌, ℕ, zero, suc, ◌+◌, ◌<◌, ◌≤◌, Bool, true, false, Option, Some, List, [], ◌∷◌}
use Rattle.std.proofs.Common.{arith, refl, sym, ap, ◌∙◌, true≢false}
use mathlib.Core.Option.{some, some-injective, some-ne-none}
use lib.ListN.{get_elem?}
use Rattle.turn_cell.specs.History.{DrawsOnce}
use Rattle.turn_cell_tests.specs.declared.counter.Entry.{Entry}
use Rattle.turn_cell_tests.specs.declared.counter.Entry.TheVariants.{Drew, Counted}

abbrev pub owner_of : Entry → Option ℕ
owner_of (Drew o) = Some o
owner_of (Counted o n) = Some o

abbrev pub is_draw : Entry → Bool
is_draw (Drew o) = true
is_draw (Counted o n) = false

-- the entries lead from these numbers of owners and counts to those: owners are drawn in order, and those that were drawn count in order
abbrev pub IsRun : ℕ → ℕ → List Entry → ℕ → ℕ → Type 0
IsRun d c [] d' c' = (d ≡ d') × (c ≡ c')
IsRun d c (Drew o ∷ es) d' c' = (o ≡ d) × IsRun (d + 1) c es d' c'
IsRun d c (Counted o n ∷ es) d' c' = (n ≡ c) × (o < d) × IsRun d (c + 1) es d' c'

abbrev pub HasDrawn : ℕ → List Entry → Type 0
HasDrawn o history = (k : ℕ) × (get_elem? history k ≡ some (Drew o))

abbrev pub draws_of : Entry → ℕ
draws_of (Drew o) = 1
draws_of (Counted o n) = 0

abbrev pub counts_of : Entry → ℕ
counts_of (Drew o) = 0
counts_of (Counted o n) = 1

pub same_owner : (p o : ℕ) → Some p ≡ Some o → p ≡ o
same_owner p o e = cc

-- an owner drawn later has a number that is no smaller
later : (d c : ℕ) (es : List Entry) (d' c' : ℕ) (i : ℕ) (a : Entry) (o : ℕ) → IsRun d c es d' c' → get_elem? es i ≡ some a → is_draw a ≡ true → owner_of a ≡ Some o → d ≤ o
later d c [] d' c' i a o run at dr ow = absurd (some-ne-none a (sym at))
later d c (Drew p ∷ es) d' c' zero a o run at dr ow = let s = run.0 in let t = same_owner p o (ap owner_of (some-injective (Drew p) a at) ∙ ow) in omega arith
later d c (Drew p ∷ es) d' c' (suc i) a o run at dr ow = let r = later (d + 1) c es d' c' i a o run.1 at dr ow in omega arith
later d c (Counted p n ∷ es) d' c' zero a o run at dr ow = absurd (true≢false (sym dr ∙ ap is_draw (sym (some-injective (Counted p n) a at))))
later d c (Counted p n ∷ es) d' c' (suc i) a o run at dr ow = later d (c + 1) es d' c' i a o run.2 at dr ow

pub run_draws_once : (d c : ℕ) (es : List Entry) (d' c' : ℕ) → IsRun d c es d' c' → DrawsOnce owner_of is_draw es
run_draws_once d c [] d' c' run i j a b o f g x y = absurd (some-ne-none a (sym f))
run_draws_once d c (Drew p ∷ es) d' c' run zero zero a b o f g x y = refl
run_draws_once d c (Drew p ∷ es) d' c' run zero (suc j) a b o f g x y = let l = later (d + 1) c es d' c' j b o run.1 g y.0 y.1 in let s = run.0 in let t = same_owner p o (ap owner_of (some-injective (Drew p) a f) ∙ x.1) in absurd (omega arith)
run_draws_once d c (Drew p ∷ es) d' c' run (suc i) zero a b o f g x y = let l = later (d + 1) c es d' c' i a o run.1 f x.0 x.1 in let s = run.0 in let t = same_owner p o (ap owner_of (some-injective (Drew p) b g) ∙ y.1) in absurd (omega arith)
run_draws_once d c (Drew p ∷ es) d' c' run (suc i) (suc j) a b o f g x y = ap suc (run_draws_once (d + 1) c es d' c' run.1 i j a b o f g x y)
run_draws_once d c (Counted p n ∷ es) d' c' run zero zero a b o f g x y = refl
run_draws_once d c (Counted p n ∷ es) d' c' run zero (suc j) a b o f g x y = absurd (true≢false (sym x.0 ∙ ap is_draw (sym (some-injective (Counted p n) a f))))
run_draws_once d c (Counted p n ∷ es) d' c' run (suc i) zero a b o f g x y = absurd (true≢false (sym y.0 ∙ ap is_draw (sym (some-injective (Counted p n) b g))))
run_draws_once d c (Counted p n ∷ es) d' c' run (suc i) (suc j) a b o f g x y = ap suc (run_draws_once d (c + 1) es d' c' run.2 i j a b o f g x y)
