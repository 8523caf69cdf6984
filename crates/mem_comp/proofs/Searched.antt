-- What a search of an ascending list ends at, and what an edit there does.
use Rattle.std.proofs.Common.{◌≡◌, ℕ, zero, suc, ◌<◌, ◌≤◌, false, List, [], ◌∷◌, set, length, get_or, Some, None, Result, Ok, Err, MatchResult, ◌⊎◌, inl, inr, refl, ap, sym, ◌∙◌, arith}
use Rattle.std.proofs.Math.Nat.{eq-or-lt_of_le}
use Rattle.std.specs.List.{insert, remove}
use Rattle.std.specs.List.Sorted.{IsSearchInRange, IsBinarySearchResult, IsNonDecreasingBy}
use Rattle.std.specs.Ordering.{eq_by_cmp, is_eq, ordering_index, ordering_reverse}
use Rattle.std.specs.Cmp.{alike_right}
use Rattle.std.specs.declared.cmp.Ordering.{Ordering}
use Rattle.std.specs.declared.cmp.Ordering.TheVariants.{Less, Equal, Greater}
use Rattle.order_merge.specs.Entries.{Reading, entry_at}
use Rattle.order_merge.specs.Ascending.{IsKeyOrder, Ascends}
use Rattle.order_merge.specs.Adding.{with_entry}
use Rattle.order_merge.specs.Added.{without_key}
use Rattle.order_merge.specs.laws.Adding.{Ascends-first, Ascends-others}
use Rattle.mem_comp.specs.Search.{IsPlaceOf, IsGapFor}

module _ {E K : Type 0} (r : Reading E K) (o : IsKeyOrder r.order) where
  turned : (a b : K) (s : Ordering) → r.order a b ≡ s → r.order b a ≡ ordering_reverse s
  turned a b s h = o.total.antisymm b a ∙ ap ordering_reverse h

  -- the comparisons with a key rise along the list
  module _ (es : List E) (ascends : Ascends r es) (k : K) where
    rises_between : (a b : K) → r.order a b ≡ Less → (s : Ordering) → r.order a k ≡ s → ordering_index s ≤ ordering_index (r.order b k)
    rises_between a b below Less h = omega arith
    rises_between a b below Equal h =
        let above : r.order b k ≡ Greater = turned k b Less (sym (o.total.congr a k b h) ∙ below) in rw above (omega arith)
    rises_between a b below Greater h =
        let above : r.order b k ≡ Greater = turned k b Less (o.total.trans k a b (turned a k Greater h) below) in rw above (omega arith)

    comparisons_rise : IsNonDecreasingBy (λ e. ordering_index (r.order (r.key_of e) k)) es
    comparisons_rise i j d h inside = go (eq-or-lt_of_le h)
      where
        go : (i ≡ j) ⊎ (i < j) → ordering_index (r.order (r.key_of (get_or es i d)) k) ≤ ordering_index (r.order (r.key_of (get_or es j d)) k)
        go (inl same) = rw same (omega arith)
        go (inr lt) = rises_between (r.key_of (get_or es i d)) (r.key_of (get_or es j d)) (ascends i j d lt inside) _ refl

    pub searched : (found : Result ℕ ℕ) → IsSearchInRange found (length es) → IsBinarySearchResult (λ e. r.order (r.key_of e) k) es found
        → MatchResult found (IsPlaceOf r es k) (IsGapFor r es k)
    searched (Ok at) inside here = record { inside = inside; has_key = here }
    searched (Err at) inside parted = record {
      inside = inside;
      less_before = λ i d h. (parted comparisons_rise).0 i d (omega arith) h;
      greater_behind = λ i d h g. (parted comparisons_rise).1 i d h g;
    }

  others : (d : E) (es : List E) (k : K) (at : ℕ) → IsPlaceOf r (d ∷ es) k (suc at) → IsPlaceOf r es k at
  others d es k at p = record { inside = omega (arith, p.inside); has_key = p.has_key }

  -- the entries before the place have lesser keys
  before : (d : E) (es : List E) (k : K) (at : ℕ) → Ascends r (d ∷ es) → IsPlaceOf r (d ∷ es) k (suc at) → r.order (r.key_of d) k ≡ Less
  before d es k at ascends p =
      sym (alike_right o.total (r.key_of (get_or es at d)) k (r.key_of d) (p.has_key d)) ∙ Ascends-first r o d es ascends at d (omega (arith, p.inside))

  pub entry_at-place : (es : List E) (k : K) (at : ℕ) (x : E) → Ascends r es → IsPlaceOf r es k at → x ≡ get_or es at x → entry_at r es k ≡ Some x
  unfolding entry_at
  entry_at-place [] k at x ascends p is = absurd (omega (arith, p.inside))
  entry_at-place (e ∷ es) k zero x ascends p is = rw (ap is_eq (p.has_key e)) (ap Some (sym is))
  entry_at-place (e ∷ es) k (suc at) x ascends p is =
      rw (ap is_eq (before e es k at ascends p)) (entry_at-place es k at x (Ascends-others r o e es ascends) (others e es k at p) is)

  -- a gap in what is behind the first entry
  gap-zero : (d : E) (es : List E) (k : K) → IsGapFor r (d ∷ es) k 0 → IsGapFor r es k 0
  gap-zero d es k g = record { inside = omega arith; less_before = λ i x h. absurd (omega (arith, h)); greater_behind = λ i x h l. g.greater_behind (suc i) x (omega arith) (omega (arith, l)) }

  gap-suc : (d : E) (es : List E) (k : K) (at : ℕ) → IsGapFor r (d ∷ es) k (suc at) → IsGapFor r es k at
  gap-suc d es k at g = record {
    inside = omega (arith, g.inside);
    less_before = λ i x h. g.less_before (suc i) x (omega (arith, h));
    greater_behind = λ i x h l. g.greater_behind (suc i) x (omega (arith, h)) (omega (arith, l));
  }

  gap-others : (d : E) (es : List E) (k : K) (at : ℕ) → IsGapFor r (d ∷ es) k at → (rest : ℕ) × IsGapFor r es k rest
  gap-others d es k zero g = (0, gap-zero d es k g)
  gap-others d es k (suc at) g = (at, gap-suc d es k at g)

  gap-apart : (d : E) (es : List E) (k : K) (at : ℕ) → IsGapFor r (d ∷ es) k at → eq_by_cmp r.order (r.key_of d) k ≡ false
  gap-apart d es k zero g = ap is_eq (g.greater_behind 0 d (omega arith) (omega arith))
  gap-apart d es k (suc at) g = ap is_eq (g.less_before 0 d (omega arith))

  pub entry_at-gap : (es : List E) (k : K) (at : ℕ) → IsGapFor r es k at → entry_at r es k ≡ None
  unfolding entry_at
  entry_at-gap [] k at g = refl
  entry_at-gap (d ∷ es) k at g =
      let rest = gap-others d es k at g in rw (gap-apart d es k at g) (entry_at-gap es k rest.0 rest.1)

  -- an entry that is added at its place, or in its gap
  pub with_entry-place : (e : E) (es : List E) (at : ℕ) → Ascends r es → IsPlaceOf r es (r.key_of e) at → with_entry r e es ≡ set es at e
  unfolding with_entry
  with_entry-place e [] at ascends p = absurd (omega (arith, p.inside))
  with_entry-place e (d ∷ es) zero ascends p = rw (turned (r.key_of d) (r.key_of e) Equal (p.has_key d)) refl
  with_entry-place e (d ∷ es) (suc at) ascends p =
      rw (turned (r.key_of d) (r.key_of e) Less (before d es (r.key_of e) at ascends p))
      (ap (λ l. d ∷ l) (with_entry-place e es at (Ascends-others r o d es ascends) (others d es (r.key_of e) at p)))

  pub with_entry-gap : (e : E) (es : List E) (at : ℕ) → IsGapFor r es (r.key_of e) at → with_entry r e es ≡ insert es at e
  unfolding with_entry
  with_entry-gap e [] zero g = refl
  with_entry-gap e [] (suc at) g = absurd (omega (arith, g.inside))
  with_entry-gap e (d ∷ es) zero g = rw (turned (r.key_of d) (r.key_of e) Greater (g.greater_behind 0 d (omega arith) (omega arith))) refl
  with_entry-gap e (d ∷ es) (suc at) g =
      rw (turned (r.key_of d) (r.key_of e) Less (g.less_before 0 d (omega arith)))
      (ap (λ l. d ∷ l) (with_entry-gap e es at (gap-suc d es (r.key_of e) at g)))

  -- a key that is taken out at its place, or isn't there
  pub without_key-gap : (es : List E) (k : K) (at : ℕ) → IsGapFor r es k at → without_key r k es ≡ es
  unfolding without_key
  without_key-gap [] k at g = refl
  without_key-gap (d ∷ es) k at g =
      let rest = gap-others d es k at g in rw (gap-apart d es k at g) (ap (λ l. d ∷ l) (without_key-gap es k rest.0 rest.1))

  -- behind the place all keys are greater
  behind : (d : E) (es : List E) (k : K) → Ascends r (d ∷ es) → IsPlaceOf r (d ∷ es) k 0 → IsGapFor r es k 0
  behind d es k ascends p = record {
    inside = omega arith;
    less_before = λ i x h. absurd (omega (arith, h));
    greater_behind = λ i x h l. turned k (r.key_of (get_or es i x)) Less (sym (o.total.congr (r.key_of d) k (r.key_of (get_or es i x)) (p.has_key d)) ∙ Ascends-first r o d es ascends i x l);
  }

  pub without_key-place : (es : List E) (k : K) (at : ℕ) → Ascends r es → IsPlaceOf r es k at → without_key r k es ≡ remove es at
  unfolding without_key
  without_key-place [] k at ascends p = absurd (omega (arith, p.inside))
  without_key-place (d ∷ es) k zero ascends p = rw (ap is_eq (p.has_key d)) (without_key-gap es k 0 (behind d es k ascends p))
  without_key-place (d ∷ es) k (suc at) ascends p =
      rw (ap is_eq (before d es k at ascends p)) (ap (λ l. d ∷ l) (without_key-place es k at (Ascends-others r o d es ascends) (others d es k at p)))
