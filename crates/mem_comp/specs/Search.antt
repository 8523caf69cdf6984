-- Where a search of an ascending list ends. No public contract needs this file.
use Rattle.std.specs.Prelude.{◌≡◌, ℕ, ◌<◌, ◌≤◌, List, length, slice_index_or}
use Rattle.std.specs.declared.cmp.Ordering.TheVariants.{Less, Equal, Greater}
use Rattle.order_merge.specs.Entries.{Reading}

-- the entry of a key stands there
pub record IsPlaceOf {E K : Type 0} (r : Reading E K) (es : List E) (k : K) (at : ℕ) : Type 0 where
  pub inside : at < length es
  pub has_key : (d : E) → r.order (r.key_of (slice_index_or es at d)) k ≡ Equal

-- there is no entry of the key, and one would stand there
pub record IsGapFor {E K : Type 0} (r : Reading E K) (es : List E) (k : K) (at : ℕ) : Type 0 where
  pub inside : at ≤ length es
  pub less_before : (i : ℕ) (d : E) → i < at → r.order (r.key_of (slice_index_or es i d)) k ≡ Less
  pub greater_behind : (i : ℕ) (d : E) → at ≤ i → i < length es → r.order (r.key_of (slice_index_or es i d)) k ≡ Greater
