-- Numbers of passes, and whose each entry is.
-- No public contract needs this file.
use Rattle.std.proofs.Common.{◌≡◌, ◌≢◌, ◌⊎◌, ℕ, zero, suc, ◌+◌, ◌≤◌, ◌<◌, Bool, if◌then◌else◌, List, [], ◌∷◌, ◌++◌, length, refl, sym, ap, ◌∙◌, subst, inl, inr, ⊎_elim, arith, eq-eqb, ne_eqb, append_assoc, append-nil}
use mathlib.Core.Logic.{dite}
use mathlib.Core.Option.{some, some-ne-none}
use native.Mathlib.Decide.{ℕ_discrete}
use lib.ListN.{get_elem?}
use Rattle.turn_cell.specs.declared.view.Row.{Row}
use Rattle.turn_cell.specs.History.{IsPrefix, Picks}
use Rattle.turn_cell.specs.Rows.{hit, hits, Every, adds}
use Rattle.turn_cell.specs.Laws.Totals.{total_append}

pub hit_same : (a : List ℕ) → hit a a ≡ 1
hit_same [] = refl
hit_same (x ∷ xs) = subst (λ (b : Bool). (if b then hit xs xs else 0) ≡ 1) (sym (eq-eqb x x refl)) (hit_same xs)

-- a hit is 0, or the numbers are the same
pub hit_cases : (a b : List ℕ) → (hit a b ≡ 0) ⊎ (a ≡ b)
hit_cases [] [] = inr refl
hit_cases [] (y ∷ ys) = inl refl
hit_cases (x ∷ xs) [] = inl refl
hit_cases (x ∷ xs) (y ∷ ys) = dite (ℕ_discrete x y)
    (λ e. ⊎_elim
    (λ (z : hit xs ys ≡ 0). inl (subst (λ (b : Bool). (if b then hit xs ys else 0) ≡ 0) (sym (eq-eqb x y e)) z))
    (λ (s : xs ≡ ys). inr (λ k. e k ∷ s k))
    (hit_cases xs ys))
    (λ n. inl (subst (λ (b : Bool). (if b then hit xs ys else 0) ≡ 0) (sym (ne_eqb x y n)) refl))

pub hit_miss : (a b : List ℕ) → hit a b ≡ 0 → b ≢ a
hit_miss a b z e = let one = hit_same a in let z' : hit a a ≡ 0 = subst (λ c. hit a c ≡ 0) e z in omega arith

pub hit_none : (a b : List ℕ) → a ≢ b → hit a b ≡ 0
hit_none a b n = ⊎_elim (λ z. z) (λ s. absurd (n s)) (hit_cases a b)

module _ {E : Type 0} where
  pub prefix_same : (h : List E) → IsPrefix h h
  prefix_same h = ([], sym (append-nil h))

  pub prefix_longer : (a h r : List E) → IsPrefix a h → IsPrefix a (h ++ r)
  prefix_longer a h r p = (p.0 ++ r, ap (λ l. l ++ r) p.1 ∙ append_assoc a p.0 r)

  -- the entries beside another number stay
  pub picks_miss : (n m : List ℕ) (es : List E) (ms : List (List ℕ)) (own : List E) (e : E) → m ≢ n → Picks n es ms own → Picks n (es ++ e ∷ []) (ms ++ m ∷ []) own
  picks_miss n m [] [] own e ne p = inr (ne, p)
  picks_miss n m [] (x ∷ ms) own e ne p = absurd p
  picks_miss n m (x ∷ es) [] own e ne p = absurd p
  picks_miss n m (x ∷ es) (k ∷ ms) own e ne p =
      ⊎_elim
      (λ (t : (k ≡ n) × ((rest : List E) × (own ≡ x ∷ rest) × Picks n es ms rest)). inl (t.0, (t.1.0, t.1.1, picks_miss n m es ms t.1.0 e ne t.1.2)))
      (λ (t : (k ≢ n) × Picks n es ms own). inr (t.0, picks_miss n m es ms own e ne t.1))
      p

  pub picks_hit : (n : List ℕ) (es : List E) (ms : List (List ℕ)) (own : List E) (e : E) → Picks n es ms own → Picks n (es ++ e ∷ []) (ms ++ n ∷ []) (own ++ e ∷ [])
  picks_hit n [] [] own e p = inl (refl, ([], ap (λ l. l ++ e ∷ []) p, refl))
  picks_hit n [] (x ∷ ms) own e p = absurd p
  picks_hit n (x ∷ es) [] own e p = absurd p
  picks_hit n (x ∷ es) (k ∷ ms) own e p =
      ⊎_elim
      (λ (t : (k ≡ n) × ((rest : List E) × (own ≡ x ∷ rest) × Picks n es ms rest)). inl (t.0, (t.1.0 ++ e ∷ [], ap (λ l. l ++ e ∷ []) t.1.1, picks_hit n es ms t.1.0 e t.1.2)))
      (λ (t : (k ≢ n) × Picks n es ms own). inr (t.0, picks_hit n es ms own e t.1))
      p

  pub picks_none : (n : List ℕ) (es : List E) (ms : List (List ℕ)) → length ms ≡ length es → ((k : ℕ) (m : List ℕ) → get_elem? ms k ≡ some m → m ≢ n) → Picks n es ms []
  picks_none n [] [] len h = refl
  picks_none n [] (x ∷ ms) len h = absurd (omega arith)
  picks_none n (x ∷ es) [] len h = absurd (omega arith)
  picks_none n (x ∷ es) (m ∷ ms) len h = inr (h 0 m refl, picks_none n es ms (omega arith) (λ k a e. h (suc k) a e))

  -- an entry beside this number stands in the history, at a place that has the number
  pub picks_at : (n : List ℕ) (es : List E) (ms : List (List ℕ)) (own : List E) (k : ℕ) (a : E) → Picks n es ms own → get_elem? own k ≡ some a
      → (i : ℕ) × (get_elem? es i ≡ some a) × (get_elem? ms i ≡ some n)
  picks_at n [] [] own k a p e = absurd (some-ne-none a (sym (sym (ap (λ l. get_elem? l k) p) ∙ e)))
  picks_at n [] (x ∷ ms) own k a p e = absurd p
  picks_at n (x ∷ es) [] own k a p e = absurd p
  picks_at n (x ∷ es) (m ∷ ms) own zero a p e =
      ⊎_elim
      (λ (t : (m ≡ n) × ((rest : List E) × (own ≡ x ∷ rest) × Picks n es ms rest)). (0, sym (ap (λ l. get_elem? l 0) t.1.1) ∙ e, ap some t.0))
      (λ (t : (m ≢ n) × Picks n es ms own). let r = picks_at n es ms own zero a t.1 e in (suc r.0, r.1, r.2))
      p
  picks_at n (x ∷ es) (m ∷ ms) own (suc k) a p e =
      ⊎_elim
      (λ (t : (m ≡ n) × ((rest : List E) × (own ≡ x ∷ rest) × Picks n es ms rest)). let r = picks_at n es ms t.1.0 k a t.1.2 (sym (ap (λ l. get_elem? l (suc k)) t.1.1) ∙ e) in (suc r.0, r.1, r.2))
      (λ (t : (m ≢ n) × Picks n es ms own). let r = picks_at n es ms own (suc k) a t.1 e in (suc r.0, r.1, r.2))
      p

  pub every_append : (P : Row E → Type 0) (xs ys : List (Row E)) → Every P xs → Every P ys → Every P (xs ++ ys)
  every_append P [] ys a b = b
  every_append P (x ∷ xs) ys a b = (a.0, every_append P xs ys a.1 b)

  -- rows of other numbers stay
  pub every_miss : (n : List ℕ) (es : List E) (ms : List (List ℕ)) (e : E) (rows : List (Row E)) → hits n rows ≡ 0
      → Every (λ r. Picks r.number es ms r.own) rows → Every (λ r. Picks r.number (es ++ e ∷ []) (ms ++ n ∷ []) r.own) rows
  every_miss n es ms e [] z p = tt
  every_miss n es ms e (r ∷ rs) z p = let z' : hit n r.number ≡ 0 = omega arith in
      (picks_miss r.number n es ms r.own e (λ s. hit_miss n r.number z' (sym s)) p.0, every_miss n es ms e rs (omega arith) p.1)

  pub hits_adds : (m : List ℕ) (e : E) (rows : List (Row E)) → hits m (adds e rows) ≡ hits m rows
  hits_adds m e [] = refl
  hits_adds m e (r ∷ rs) = refl

  pub hits_append : (m : List ℕ) (xs ys : List (Row E)) → hits m (xs ++ ys) ≡ hits m xs + hits m ys
  hits_append m xs ys = total_append (λ (r : Row E). hit m r.number) xs ys

  -- the marks beside a beginning of the history
  abbrev pub front : List E → List (List ℕ) → List (List ℕ)
  front [] ms = []
  front (x ∷ xs) [] = []
  front (x ∷ xs) (m ∷ ms) = m ∷ front xs ms

  pub front_at : (a : List E) (ms : List (List ℕ)) (i : ℕ) → i < length a → get_elem? (front a ms) i ≡ get_elem? ms i
  front_at [] ms i h = absurd (omega arith)
  front_at (x ∷ xs) [] i h = refl
  front_at (x ∷ xs) (m ∷ ms) zero h = refl
  front_at (x ∷ xs) (m ∷ ms) (suc i) h = front_at xs ms i (omega arith)

  pub length-front : (a : List E) (ms : List (List ℕ)) → length a ≤ length ms → length (front a ms) ≡ length a
  length-front [] ms h = refl
  length-front (x ∷ xs) [] h = absurd (omega arith)
  length-front (x ∷ xs) (m ∷ ms) h = let r = length-front xs ms (omega arith) in omega arith

  picks_nothing : (n : List ℕ) (es : List E) (ms : List (List ℕ)) (own : List E) → Picks n es ms own → ((k : ℕ) (m : List ℕ) → get_elem? ms k ≡ some m → m ≢ n) → own ≡ []
  picks_nothing n [] [] own p h = p
  picks_nothing n [] (m ∷ ms) own p h = absurd p
  picks_nothing n (x ∷ es) [] own p h = absurd p
  picks_nothing n (x ∷ es) (m ∷ ms) own p h =
      ⊎_elim
      (λ (t : (m ≡ n) × ((rest : List E) × (own ≡ x ∷ rest) × Picks n es ms rest)). absurd (h 0 m refl t.0))
      (λ (t : (m ≢ n) × Picks n es ms own). picks_nothing n es ms own t.1 (λ k a e. h (suc k) a e))
      p

  -- where no later entry is beside the number
  pub picks_front : (n : List ℕ) (a rest : List E) (ms : List (List ℕ)) (own : List E) → Picks n (a ++ rest) ms own → ((k : ℕ) (m : List ℕ) → get_elem? ms k ≡ some m → m ≡ n → k < length a) → Picks n a (front a ms) own
  picks_front n [] rest ms own p h = picks_nothing n rest ms own p (λ k m e s. let l = h k m e s in absurd (omega arith))
  picks_front n (x ∷ xs) rest [] own p h = absurd p
  picks_front n (x ∷ xs) rest (m ∷ ms) own p h =
      ⊎_elim
      (λ (t : (m ≡ n) × ((tail : List E) × (own ≡ x ∷ tail) × Picks n (xs ++ rest) ms tail)). inl (t.0, (t.1.0, t.1.1, picks_front n xs rest ms t.1.0 t.1.2 (λ k a e s. let l = h (suc k) a e s in omega arith))))
      (λ (t : (m ≢ n) × Picks n (xs ++ rest) ms own). inr (t.0, picks_front n xs rest ms own t.1 (λ k a e s. let l = h (suc k) a e s in omega arith)))
      p

  pub every_front : (a rest : List E) (ms : List (List ℕ)) (rows : List (Row E)) → Every (λ r. Picks r.number (a ++ rest) ms r.own) rows → ((k : ℕ) (m : List ℕ) → get_elem? ms k ≡ some m → 1 ≤ hits m rows → k < length a)
      → Every (λ r. Picks r.number a (front a ms) r.own) rows
  every_front a rest ms [] p h = tt
  every_front a rest ms (r ∷ rs) p h = (
    picks_front r.number a rest ms r.own p.0 (λ k m e s. h k m e (let one = hit_same r.number in let is : hit m r.number ≡ hit r.number r.number = ap (λ z. hit z r.number) s in omega arith)),
    every_front a rest ms rs p.1 (λ k m e l. h k m e (omega arith)),
  )
