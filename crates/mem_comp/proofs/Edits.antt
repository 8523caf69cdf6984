-- What an edit at the place that a search found does to the list.
use Rattle.std.proofs.Common.{◌≡◌, ℕ, List, set, ap, sym, ◌∙◌, subst}
use Rattle.std.specs.List.{insert, remove}
use Rattle.order_merge.specs.Entries.{Reading}
use Rattle.order_merge.specs.Ascending.{IsKeyOrder, Ascends}
use Rattle.order_merge.specs.Adding.{with_entry}
use Rattle.order_merge.specs.Added.{without_key}
use Rattle.mem_comp.specs.Search.{IsPlaceOf, IsGapFor}
use Rattle.mem_comp.proofs.Searched.{with_entry-place, with_entry-gap, without_key-place, without_key-gap}

-- es is the list that the component has, lent the slice that was searched, and seen what a caller sees
module _ {E K : Type 0} (r : Reading E K) (o : IsKeyOrder r.order) where
  module _ (e : E) (es lent seen : List E) (k : K) (at : ℕ) (ascends : Ascends r es) (is_lent : lent ≡ es) (is_seen : es ≡ seen) (is_key : k ≡ r.key_of e) where
    pub added-place : IsPlaceOf r lent k at → set es at e ≡ with_entry r e seen
    added-place p = sym (with_entry-place r o e es at ascends (subst (λ l. IsPlaceOf r l (r.key_of e) at) is_lent (subst (λ x. IsPlaceOf r lent x at) is_key p))) ∙ ap (with_entry r e) is_seen

    pub added-gap : IsGapFor r lent k at → (new : List E) → new ≡ insert es at e → new ≡ with_entry r e seen
    added-gap p new is = is ∙ sym (with_entry-gap r o e es at (subst (λ l. IsGapFor r l (r.key_of e) at) is_lent (subst (λ x. IsGapFor r lent x at) is_key p))) ∙ ap (with_entry r e) is_seen

  module _ (k : K) (es lent seen : List E) (at : ℕ) (ascends : Ascends r es) (is_lent : lent ≡ es) (is_seen : es ≡ seen) where
    pub dropped-place : IsPlaceOf r lent k at → (new : List E) → new ≡ remove es at → new ≡ without_key r k seen
    dropped-place p new is = is ∙ sym (without_key-place r o es k at ascends (subst (λ l. IsPlaceOf r l k at) is_lent p)) ∙ ap (without_key r k) is_seen

    pub dropped-gap : IsGapFor r lent k at → seen ≡ without_key r k seen
    dropped-gap p = sym is_seen ∙ sym (without_key-gap r o es k at (subst (λ l. IsGapFor r l k at) is_lent p)) ∙ ap (without_key r k) is_seen
