-- All entries of an owner are those of the pass that drew it.
-- No public contract needs this file.
use Rattle.std.proofs.Common.{◌≡◌, ◌≢◌, ℕ, zero, suc, Bool, true, false, true≢false, if◌then◌else◌, Option, Some, None, List, [], ◌∷◌, refl, sym, ap, ◌∙◌, subst, ⊎_elim, eqb-true}
use mathlib.Core.Option.{some, some-injective, some-ne-none}
use lib.ListN.{get_elem?}
use Rattle.turn_cell.specs.declared.view.Row.{Row}
use Rattle.turn_cell.specs.History.{Picks, IsDraw, DrawsOnce, HasDrawer, StaysWithDrawer}
use Rattle.turn_cell.specs.Rows.{Every}
use Rattle.turn_cell.specs.Owners.{is_of, of_owner}
use Rattle.turn_cell.specs.Laws.Marks.{picks_at}

module _ {E : Type 0} (owner : E → Option ℕ) (draws : E → Bool) where
  pub stays : (history : List E) (marks : List (List ℕ)) → DrawsOnce owner draws history → HasDrawer owner draws history marks → StaysWithDrawer owner draws history marks
  stays history marks once has i j a b o le at_i at_j dr ow =
      let d = has j b o at_j ow in
      ap (λ k. get_elem? marks k) (once i d.0 a d.1 o at_i d.3 dr d.4) ∙ d.5

  of_some : (q : Option ℕ) (o : ℕ) → is_of q o ≡ true → q ≡ Some o
  of_some (Some p) o e = ap Some (eqb-true p o e)
  of_some None o e = absurd (true≢false (sym e))

  -- where all entries of an owner are beside one number
  picks_owner : (o : ℕ) (n : List ℕ) (es : List E) (ms : List (List ℕ)) (own : List E) → Picks n es ms own
      → ((j : ℕ) (b : E) → get_elem? es j ≡ some b → owner b ≡ Some o → get_elem? ms j ≡ some n) → of_owner owner o es ≡ of_owner owner o own
  picks_owner o n [] [] own p h = sym (ap (of_owner owner o) p)
  picks_owner o n [] (m ∷ ms) own p h = absurd p
  picks_owner o n (x ∷ es) [] own p h = absurd p
  picks_owner o n (x ∷ es) (m ∷ ms) own p h =
      ⊎_elim
      (λ (t : (m ≡ n) × ((rest : List E) × (own ≡ x ∷ rest) × Picks n es ms rest)).
      ap (λ l. if is_of (owner x) o then x ∷ l else l) (picks_owner o n es ms t.1.0 t.1.2 (λ j b e w. h (suc j) b e w)) ∙ sym (ap (of_owner owner o) t.1.1))
      (λ (t : (m ≢ n) × Picks n es ms own). other (is_of (owner x) o) refl t.0 (picks_owner o n es ms own t.1 (λ j b e w. h (suc j) b e w)))
      p
    where
      other : (b : Bool) → is_of (owner x) o ≡ b → m ≢ n → of_owner owner o es ≡ of_owner owner o own → (if b then x ∷ of_owner owner o es else of_owner owner o es) ≡ of_owner owner o own
      other true is ne same = absurd (ne (some-injective m n (h 0 x refl (of_some (owner x) o is))))
      other false is ne same = same

  every_at : (P : Row E → Type 0) (rows : List (Row E)) (k : ℕ) (r : Row E) → Every P rows → get_elem? rows k ≡ some r → P r
  every_at P [] k r p e = absurd (some-ne-none r (sym e))
  every_at P (x ∷ xs) zero r p e = subst P (some-injective x r e) p.0
  every_at P (x ∷ xs) (suc k) r p e = every_at P xs k r p.1 e

  -- the history has of an owner just what the pass made that drew it
  pub all_of_owner : (rows : List (Row E)) (history : List E) → DrawsOnce owner draws history → (marks : List (List ℕ)) → Every (λ r. Picks r.number history marks r.own) rows → HasDrawer owner draws history marks
      → (k : ℕ) (r : Row E) (i : ℕ) (a : E) (o : ℕ) → get_elem? rows k ≡ some r → get_elem? r.own i ≡ some a → IsDraw owner draws o a → of_owner owner o history ≡ of_owner owner o r.own
  all_of_owner rows history once marks exact has k r i a o at_k at_i dr =
      let picks = every_at (λ r. Picks r.number history marks r.own) rows k r exact at_k in
      let place = picks_at r.number history marks r.own i a picks at_i in
      picks_owner o r.number history marks r.own picks (λ j b at_j ow. let d = has j b o at_j ow in
      sym d.5 ∙ (ap (λ q. get_elem? marks q) (once d.0 place.0 d.1 a o d.3 place.1 d.4 dr) ∙ place.2))
