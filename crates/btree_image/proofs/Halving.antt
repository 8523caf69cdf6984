-- A binary search for the last row whose key is at most a key.
use Rattle.std.proofs.Common.{◌≡◌, ℕ, ◌+◌, ◌<◌, ◌≤◌, Bool, true, false, List, length, inl, inr, sym, ◌∙◌, ap, if◌then◌else◌}
use Rattle.std.proofs.lemmas.Bool.{cases_lt}
use Rattle.std.specs.Prelude.{[], slice_index_or}
use Rattle.btree_image.specs.Rows.{Layout}
use Rattle.btree_image.specs.Steps.{reaches, IsLastUpTo}

module _ {T K : Type 0} (l : Layout T K) (key : K) (rows : List (List ℕ)) (place : ℕ) (is : IsLastUpTo l key rows place) (i : ℕ) (some : 1 ≤ i) (h : i < length rows) where
  pub at_or_behind : reaches l key (slice_index_or rows i []) ≡ true → i ≤ place
  at_or_behind yes_it_does = elim (cases_lt place i) [
    | inr le ↦ le
    | inl lt ↦ absurd (let no_it_does_not = is.behind i lt h in cc)
  ]

  pub before_it : reaches l key (slice_index_or rows i []) ≡ false → place < i
  before_it no_it_does_not = elim (cases_lt place i) [
    | inl lt ↦ lt
    | inr le ↦ absurd (let yes_it_does = is.up_to i some le in cc)
  ]

-- the rows up to a place, where the row there is counted or not
pub counted : (q : ℕ → Bool) (last place : ℕ) → last ≡ place → q last ≡ true → last + 1 ≡ (if q place then place + 1 else place)
counted q last place same h = let there : q place ≡ true = ap q (sym same) ∙ h in rw there (ap (λ n. n + 1) same)

pub not_counted : (q : ℕ → Bool) (last place : ℕ) → last ≡ place → q last ≡ false → last ≡ (if q place then place + 1 else place)
not_counted q last place same h = let there : q place ≡ false = ap q (sym same) ∙ h in rw there same
