-- Runs of a counter, one entry longer.
use Rattle.std.proofs.Common.{◌≡◌, ℕ, zero, suc, ◌+◌, ◌<◌, List, [], ◌∷◌, ◌++◌, length, refl, sym, ap, inr, arith}
use mathlib.Core.Option.{some, some-injective, some-ne-none}
use lib.ListN.{get_elem?}
use Rattle.turn_cell.specs.History.{Fits, MayHaveOwner}
use Rattle.turn_cell.specs.Rows.{total}
use Rattle.turn_cell.specs.Laws.Marks.{picks_at}
use Rattle.turn_cell_tests.specs.declared.counter.Entry.{Entry}
use Rattle.turn_cell_tests.specs.declared.counter.Entry.TheVariants.{Drew, Counted}
use Rattle.turn_cell_tests.specs.Run.{owner_of, is_draw, IsRun, HasDrawn, draws_of, counts_of, same_owner}

pub run_counts : (d c : ℕ) (es : List Entry) (d' c' : ℕ) → IsRun d c es d' c' → (d' ≡ d + total draws_of es) × (c' ≡ c + total counts_of es)
run_counts d c [] d' c' run = let a = run.0 in let b = run.1 in (omega arith, omega arith)
run_counts d c (Drew o ∷ es) d' c' run = let r = run_counts (d + 1) c es d' c' run.1 in let a = r.0 in let b = r.1 in (omega arith, omega arith)
run_counts d c (Counted o n ∷ es) d' c' run = let r = run_counts d (c + 1) es d' c' run.2 in let a = r.0 in let b = r.1 in (omega arith, omega arith)

pub run_length : (d c : ℕ) (es : List Entry) (d' c' : ℕ) → IsRun d c es d' c' → d' + c' ≡ d + c + length es
run_length d c [] d' c' run = let a = run.0 in let b = run.1 in omega arith
run_length d c (Drew o ∷ es) d' c' run = let r = run_length (d + 1) c es d' c' run.1 in omega arith
run_length d c (Counted o n ∷ es) d' c' run = let r = run_length d (c + 1) es d' c' run.2 in omega arith

pub run_draw : (d c : ℕ) (es : List Entry) (d' c' : ℕ) → IsRun d c es d' c' → IsRun d c (es ++ Drew d' ∷ []) (d' + 1) c'
run_draw d c [] d' c' run = (sym run.0, (ap (λ k. k + 1) run.0, run.1))
run_draw d c (Drew o ∷ es) d' c' run = (run.0, run_draw (d + 1) c es d' c' run.1)
run_draw d c (Counted o n ∷ es) d' c' run = (run.0, run.1, run_draw d (c + 1) es d' c' run.2)

pub run_count : (d c : ℕ) (es : List Entry) (d' c' p : ℕ) → p < d' → IsRun d c es d' c' → IsRun d c (es ++ Counted p c' ∷ []) d' (c' + 1)
run_count d c [] d' c' p l run = let a = run.0 in (sym run.1, omega arith, (run.0, ap (λ k. k + 1) run.1))
run_count d c (Drew o ∷ es) d' c' p l run = (run.0, run_count (d + 1) c es d' c' p l run.1)
run_count d c (Counted o n ∷ es) d' c' p l run = (run.0, run.1, run_count d (c + 1) es d' c' p l run.2)

-- an owner that was drawn is below the next one
pub drawn_below : (d c : ℕ) (es : List Entry) (d' c' k p : ℕ) → IsRun d c es d' c' → get_elem? es k ≡ some (Drew p) → p < d'
drawn_below d c [] d' c' k p run at = absurd (some-ne-none (Drew p) (sym at))
drawn_below d c (Drew o ∷ es) d' c' zero p run at = let s = run.0 in let t = same_owner o p (ap owner_of (some-injective (Drew o) (Drew p) at)) in let r = (run_counts (d + 1) c es d' c' run.1).0 in omega arith
drawn_below d c (Drew o ∷ es) d' c' (suc k) p run at = drawn_below (d + 1) c es d' c' k p run.1 at
drawn_below d c (Counted o n ∷ es) d' c' zero p run at = absurd (not_same (some-injective (Counted o n) (Drew p) at))
  where
    not_same : Counted o n ≡ Drew p → ⊥
    not_same e = cc
drawn_below d c (Counted o n ∷ es) d' c' (suc k) p run at = drawn_below d (c + 1) es d' c' k p run.2 at

-- what the pass drew, the history has
pub fits_has : (own history : List Entry) (o : ℕ) → HasDrawn o own → Fits owner_of is_draw own history → HasDrawn o history
fits_has own history o has fits = let there = picks_at fits.0 history fits.1 own has.0 (Drew o) fits.2 has.1 in (there.0, there.1)

-- a count is for an owner that the pass drew
pub of_drawn : (own : List Entry) (o n : ℕ) → HasDrawn o own → MayHaveOwner owner_of is_draw own (Counted o n)
of_drawn own o n has = inr (inr (o, refl, (has.0, Drew o, has.1, (refl, refl))))
