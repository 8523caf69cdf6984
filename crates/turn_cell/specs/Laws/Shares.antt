-- Where each entry of a history is of one of these passes, sums over the history are the sums over what they made.
-- No public contract needs this file.
use Rattle.std.proofs.Common.{◌≡◌, ◌≢◌, ℕ, suc, ◌+◌, Bool, Option, List, [], ◌∷◌, length, refl, sym, ap, ◌∙◌, ⊎_elim, arith}
use mathlib.Core.Option.{some}
use lib.ListN.{get_elem?}
use Rattle.turn_cell.specs.declared.view.Row.{Row}
use Rattle.turn_cell.specs.History.{Picks}
use Rattle.turn_cell.specs.Rows.{total, hit, hits, Every, row, made, MadeBy}
use Rattle.turn_cell.specs.Laws.Marks.{hit_same, hit_none}

module _ {E : Type 0} (f : E → ℕ) where
  -- the rows without the first entry of the history
  abbrev Rest : List E → List (List ℕ) → List (Row E) → List (Row E) → Type 0
  Rest es ms rows rest = Every (λ r. Picks r.number es ms r.own) rest × ((n : List ℕ) → hits n rest ≡ hits n rows)

  none_here : (m : List ℕ) (e : E) (es : List E) (ms : List (List ℕ)) (rows : List (Row E)) → hits m rows ≡ 0 → Every (λ r. Picks r.number (e ∷ es) (m ∷ ms) r.own) rows
      → (rest : List (Row E)) × Rest es ms rows rest × (made f rows ≡ made f rest)
  none_here m e es ms [] z p = ([], (tt, λ n. refl), refl)
  none_here m e es ms (r ∷ rs) z p =
      let later = none_here m e es ms rs (omega arith) p.1 in
      ⊎_elim
      (λ (t : (m ≡ r.number) × ((own : List E) × (r.own ≡ e ∷ own) × Picks r.number es ms own)).
      let one = hit_same m in let is : hit m r.number ≡ hit m m = ap (λ n. hit m n) (sym t.0) in absurd (omega arith))
      (λ (t : (m ≢ r.number) × Picks r.number es ms r.own).
      let s = later.2 in (r ∷ later.0, ((t.1, later.1.0), λ n. ap (λ (k : ℕ). hit n r.number + k) (later.1.1 n)), omega arith))
      p.0

  one_here : (m : List ℕ) (e : E) (es : List E) (ms : List (List ℕ)) (rows : List (Row E)) → hits m rows ≡ 1 → Every (λ r. Picks r.number (e ∷ es) (m ∷ ms) r.own) rows
      → (rest : List (Row E)) × Rest es ms rows rest × (made f rows ≡ f e + made f rest)
  one_here m e es ms [] z p = absurd (omega arith)
  one_here m e es ms (r ∷ rs) z p =
      ⊎_elim
      (λ (t : (m ≡ r.number) × ((own : List E) × (r.own ≡ e ∷ own) × Picks r.number es ms own)).
      let one = hit_same m in
      let is : hit m r.number ≡ hit m m = ap (λ n. hit m n) (sym t.0) in
      let later = none_here m e es ms rs (omega arith) p.1 in
      let s = later.2 in
      let more : total f r.own ≡ f e + total f t.1.0 = ap (total f) t.1.1 in
      (row r.number t.1.0 ∷ later.0, ((t.1.2, later.1.0), λ n. ap (λ (k : ℕ). hit n r.number + k) (later.1.1 n)), omega arith))
      (λ (t : (m ≢ r.number) × Picks r.number es ms r.own).
      let no_hit = hit_none m r.number t.0 in
      let later = one_here m e es ms rs (omega arith) p.1 in
      let s = later.2 in (r ∷ later.0, ((t.1, later.1.0), λ n. ap (λ (k : ℕ). hit n r.number + k) (later.1.1 n)), omega arith))
      p.0

  nothing_made : (rows : List (Row E)) → Every (λ r. Picks r.number [] [] r.own) rows → made f rows ≡ 0
  nothing_made [] p = refl
  nothing_made (r ∷ rs) p = let a : total f r.own ≡ 0 = ap (total f) p.0 in let b = nothing_made rs p.1 in omega arith

  sums : (es : List E) (ms : List (List ℕ)) (rows : List (Row E)) → length ms ≡ length es → ((k : ℕ) (n : List ℕ) → get_elem? ms k ≡ some n → hits n rows ≡ 1) → Every (λ r. Picks r.number es ms r.own) rows → total f es ≡ made f rows
  sums [] [] rows len known p = sym (nothing_made rows p)
  sums [] (m ∷ ms) rows len known p = absurd (omega arith)
  sums (e ∷ es) [] rows len known p = absurd (omega arith)
  sums (e ∷ es) (m ∷ ms) rows len known p =
      let here = one_here m e es ms rows (known 0 m refl) p in
      let later = sums es ms here.0 (omega arith) (λ k n at. here.1.1 n ∙ known (suc k) n at) here.1.0 in
      let s = here.2 in
      omega arith

pub sum_of_all : {E : Type 0} (owner : E → Option ℕ) (draws : E → Bool) (f : E → ℕ) (rows : List (Row E)) (history : List E) → MadeBy owner draws rows history → total f history ≡ made f rows
sum_of_all owner draws f rows history all = sums f history all.marks rows all.marked all.known all.exact
