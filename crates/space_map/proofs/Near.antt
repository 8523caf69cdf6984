-- First fit stays near.
use Rattle.std.proofs.Common.{◌≡◌, ℕ, ◌+◌, ◌≤◌, Bool, false, cond, eqb, ltb, max, List, [], ◌∷◌, refl, sym, ap, subst, arith, ⊎_elim}
use Rattle.std.proofs.lemmas.Bool.{cases_lt, cases_Bool, or_from}
use Rattle.space_map.specs.declared.space.Extent.{Extent}
use Rattle.space_map.specs.declared.space.TheConstants.{FIRST_DATA_PAGE}
use Rattle.space_map.specs.Space.{Space, end_of, is_reserved, IsFreeRun, IsFirstFit, with_extent, reserved_with}
use Rattle.space_map.specs.Calls.{without_extent, released_from, reserved_end}
use Rattle.space_map.specs.History.{Reserved, Released, FirstFitStaysNear}
use Rattle.space_map.proofs.Gaps.{is_in-above}

-- nothing is reserved behind the end
past-end : (es : List Extent) (page : ℕ) → reserved_end es ≤ page → is_reserved es page ≡ false
past-end [] page h = refl
past-end (e ∷ es) page h = or_from _ _ (is_in-above page e (omega arith)) (past-end es page (omega arith))

data_first : (es : List Extent) → FIRST_DATA_PAGE ≤ reserved_end es
data_first [] = omega arith
data_first (e ∷ es) = let rest = data_first es in omega arith

-- so a run that begins there is free
pub free-at_end : (space : Space) (count : ℕ) → reserved_end space.reserved + count ≤ space.pages
    → IsFreeRun space (reserved_end space.reserved) count
free-at_end space count fits = record {
  above = data_first space.reserved;
  within = fits;
  free = λ page a b. past-end space.reserved page a;
}

pub first_fit-near : (space : Space) (count from : ℕ) → IsFirstFit space count from → from ≤ reserved_end space.reserved
first_fit-near space count from fit =
    ⊎_elim
    (λ far. absurd (fit.first (reserved_end space.reserved) far (free-at_end space count (let w = fit.free.within in omega arith))))
    (λ near. near)
    (cases_lt (reserved_end space.reserved) from)

end-with_extent : (e : Extent) (es : List Extent) → reserved_end (with_extent e es) ≡ max (end_of e) (reserved_end es)
end-with_extent e [] = refl
end-with_extent e (x ∷ xs) =
    let P : Bool → Type 0 = λ b. reserved_end (cond b (x ∷ with_extent e xs) (e ∷ x ∷ xs)) ≡ max (end_of e) (max (end_of x) (reserved_end xs)) in
    let rest = end-with_extent e xs in
    ⊎_elim (λ is. subst P (sym is) (omega arith)) (λ is. subst P (sym is) refl) (cases_Bool (ltb x.first e.first))

end-without_extent : (e : Extent) (es : List Extent) → reserved_end (without_extent e es) ≤ reserved_end es
end-without_extent e [] = omega arith
end-without_extent e (x ∷ xs) =
    let P : Bool → Type 0 = λ b. reserved_end (cond b xs (x ∷ without_extent e xs)) ≤ max (end_of x) (reserved_end xs) in
    let rest = end-without_extent e xs in
    ⊎_elim (λ is. subst P (sym is) (omega arith)) (λ is. subst P (sym is) (omega arith)) (cases_Bool (eqb x.first e.first))

pub stays_near : FirstFitStaysNear
stays_near [] old new is = let e = ap (λ (s : Space). reserved_end s.reserved) is in omega arith
stays_near (Reserved e ∷ changes) old new after =
    let near = first_fit-near old e.pages e.first after.0 in
    let more = end-with_extent e old.reserved in
    let rest = stays_near changes (reserved_with e old) new after.1 in
    omega arith
stays_near (Released e ∷ changes) old new after =
    let less = end-without_extent e old.reserved in
    let rest = stays_near changes (released_from e old) new after.1 in
    omega arith
