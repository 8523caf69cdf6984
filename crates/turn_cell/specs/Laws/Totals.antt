-- Totals over the views, and one view changed.
-- No public contract needs this file.
use Rattle.std.proofs.Common.{◌≡◌, ◌≢◌, ℕ, zero, suc, ◌+◌, ◌≤◌, ◌<◌, List, [], ◌∷◌, ◌++◌, map, length, set, refl, sym, ap, ◌∙◌, subst, ⊎_elim, arith}
use mathlib.Core.Option.{some, some-injective, some-ne-none}
use lib.ListN.{get_elem?}
use Rattle.atomic_table.proofs.Lists.{at_set}
use Rattle.turn_cell.specs.Rows.{total}

module _ {A : Type 0} where
  pub at_inside : (l : List A) (i : ℕ) (a : A) → get_elem? l i ≡ some a → i < length l
  at_inside [] i a e = absurd (some-ne-none a (sym e))
  at_inside (x ∷ xs) zero a e = omega arith
  at_inside (x ∷ xs) (suc i) a e = let h = at_inside xs i a e in omega arith

  pub at_set_here : (l : List A) (i : ℕ) (a b : A) → get_elem? l i ≡ some a → get_elem? (set l i b) i ≡ some b
  at_set_here [] i a b e = absurd (some-ne-none a (sym e))
  at_set_here (x ∷ xs) zero a b e = refl
  at_set_here (x ∷ xs) (suc i) a b e = at_set_here xs i a b e

  pub at_shorter : (l m : List A) (i : ℕ) (a : A) → i < length l → get_elem? (l ++ m) i ≡ some a → get_elem? l i ≡ some a
  at_shorter [] m i a h e = absurd (omega arith)
  at_shorter (x ∷ xs) m zero a h e = e
  at_shorter (x ∷ xs) m (suc i) a h e = at_shorter xs m i a (omega arith) e

  pub same_at : (l : List A) (i j : ℕ) (a b : A) → get_elem? l i ≡ some a → get_elem? l j ≡ some b → i ≡ j → a ≡ b
  same_at l i j a b e f s = some-injective a b (sym e ∙ (ap (λ k. get_elem? l k) s ∙ f))

  -- what holds of the one that changed and of the others
  pub stay : (K : ℕ → A → Type 0) (l : List A) (i : ℕ) (w : A) → K i w → ((j : ℕ) (a : A) → j ≢ i → get_elem? l j ≡ some a → K j a) → (j : ℕ) (a : A) → get_elem? (set l i w) j ≡ some a → K j a
  stay K l i w mine others j a e =
      ⊎_elim
      (λ (t : (j ≡ i) × (w ≡ a)). subst (λ (x : ℕ × A). K x.0 x.1) (λ k. (sym t.0 k, t.1 k)) mine)
      (λ (t : (j ≢ i) × (get_elem? l j ≡ some a)). others j a t.0 t.1)
      (at_set l i j w a e)

  module _ (f : A → ℕ) where
    pub total_set : (l : List A) (i : ℕ) (v w : A) → get_elem? l i ≡ some v → total f (set l i w) + f v ≡ total f l + f w
    total_set [] i v w e = absurd (some-ne-none v (sym e))
    total_set (x ∷ xs) zero v w e = let is : f x ≡ f v = ap f (some-injective x v e) in omega arith
    total_set (x ∷ xs) (suc i) v w e = let r = total_set xs i v w e in omega arith

    pub total_snoc : (l : List A) (a : A) → total f (l ++ a ∷ []) ≡ total f l + f a
    total_snoc [] a = omega arith
    total_snoc (x ∷ xs) a = let r = total_snoc xs a in omega arith

    pub total_append : (l m : List A) → total f (l ++ m) ≡ total f l + total f m
    total_append [] m = omega arith
    total_append (x ∷ xs) m = let r = total_append xs m in omega arith

    pub total_at : (l : List A) (i : ℕ) (v : A) → get_elem? l i ≡ some v → f v ≤ total f l
    total_at [] i v e = absurd (some-ne-none v (sym e))
    total_at (x ∷ xs) zero v e = let is : f x ≡ f v = ap f (some-injective x v e) in omega arith
    total_at (x ∷ xs) (suc i) v e = let r = total_at xs i v e in omega arith

    pub total_two : (l : List A) (i j : ℕ) (v w : A) → i ≢ j → get_elem? l i ≡ some v → get_elem? l j ≡ some w → f v + f w ≤ total f l
    total_two [] i j v w n e g = absurd (some-ne-none v (sym e))
    total_two (x ∷ xs) zero zero v w n e g = absurd (n refl)
    total_two (x ∷ xs) zero (suc j) v w n e g = let is : f x ≡ f v = ap f (some-injective x v e) in let r = total_at xs j w g in omega arith
    total_two (x ∷ xs) (suc i) zero v w n e g = let is : f x ≡ f w = ap f (some-injective x w g) in let r = total_at xs i v e in omega arith
    total_two (x ∷ xs) (suc i) (suc j) v w n e g = let r = total_two xs i j v w (λ s. n (ap suc s)) e g in omega arith

    pub total_zero : (l : List A) → ((j : ℕ) (v : A) → get_elem? l j ≡ some v → f v ≡ 0) → total f l ≡ 0
    total_zero [] h = refl
    total_zero (x ∷ xs) h = let a : f x ≡ 0 = h 0 x refl in let r = total_zero xs (λ j v e. h (suc j) v e) in omega arith

    -- where all others count nothing
    pub total_only : (l : List A) (i : ℕ) (v : A) → get_elem? l i ≡ some v → ((j : ℕ) (w : A) → j ≢ i → get_elem? l j ≡ some w → f w ≡ 0) → total f l ≡ f v
    total_only [] i v e h = absurd (some-ne-none v (sym e))
    total_only (x ∷ xs) zero v e h = let is : f x ≡ f v = ap f (some-injective x v e) in let r = total_zero xs (λ j w g. h (suc j) w (λ s. omega arith) g) in omega arith
    total_only (x ∷ xs) (suc i) v e h = let a : f x ≡ 0 = h 0 x (λ s. omega arith) refl in let r = total_only xs i v e (λ j w n g. h (suc j) w (λ s. n (omega arith)) g) in omega arith

  pub total_le : (f g : A → ℕ) (l : List A) → ((j : ℕ) (v : A) → get_elem? l j ≡ some v → f v ≤ g v) → total f l ≤ total g l
  total_le f g [] h = omega arith
  total_le f g (x ∷ xs) h = let a : f x ≤ g x = h 0 x refl in let r = total_le f g xs (λ j v e. h (suc j) v e) in omega arith

pub total_map : {A B : Type 0} (g : A → B) (f : B → ℕ) (l : List A) → total f (map g l) ≡ total (λ a. f (g a)) l
total_map g f [] = refl
total_map g f (x ∷ xs) = ap (λ (n : ℕ). f (g x) + n) (total_map g f xs)

-- an item of the mapped list comes from one of the list
pub at_unmap : {A B : Type 0} (g : A → B) (l : List A) (i : ℕ) (b : B) → get_elem? (map g l) i ≡ some b → (a : A) × (get_elem? l i ≡ some a) × (g a ≡ b)
at_unmap g [] i b e = absurd (some-ne-none b (sym e))
at_unmap g (x ∷ xs) zero b e = (x, refl, some-injective (g x) b e)
at_unmap g (x ∷ xs) (suc i) b e = at_unmap g xs i b e
