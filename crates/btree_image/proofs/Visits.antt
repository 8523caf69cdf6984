-- The pages of a scan, level by level.
use Rattle.std.proofs.Common.{◌≡◌, ℕ, zero, suc, ◌<◌, ◌≤◌, List, [], ◌∷◌, ◌++◌, map, filter, length, replicate, get_or, All, arith, refl, sym, ◌∙◌, ap, subst, append_assoc}
use Rattle.std.proofs.lemmas.List.{append-nil, ext_get_or, length-map, get_or-map, get_or-replicate}
use Rattle.page_codec.specs.Page.{most_rows}
use Rattle.btree_image.specs.declared.runs.Run.{Run}
use Rattle.tree_shape.specs.Shape.{level_size, IsRoot, numbers}
use Rattle.btree_image.specs.Rows.{Layout}
use Rattle.btree_image.specs.Kinds.{IsKeyOrder}
use Rattle.btree_image.specs.Image.{shape_of, IsList}
use Rattle.btree_image.specs.Pages.{page_number}
use Rattle.btree_image.specs.Visited.{is_met, met_at, met_below, visited_pages}
use Rattle.btree_image.specs.Given.{AreRanges, rows_met, is_inside}
use Rattle.std.specs.List.{list_any}
use Rattle.btree_image.specs.Walks.{walk, run_of, Leads, AllLead, AllRuns}
use Rattle.btree_image.proofs.Told.{place-inside}
use Rattle.btree_image.proofs.Narrowed.{end-some, leads-own}
use Rattle.btree_image.proofs.MetRanges.{walk-met, filter-none}

abbrev one : Run
one = record { first = 0; end = 1 }

pub length-ones : (n : ℕ) → length (replicate n one) ≡ n
length-ones zero = refl
length-ones (suc n) = ap suc (length-ones n)

pub ends-ones : (n size : ℕ) (runs : List Run) → runs ≡ replicate n one → 1 ≤ size → All (λ run. run.end ≤ size) runs
ends-ones n size runs e some i d h =
    let long = length-ones n in
    let here : get_or runs i d ≡ one = ap (λ xs. get_or xs i d) e ∙ get_or-replicate n i one d (let same = ap length e in omega arith) in
    subst (λ (run : Run). run.end ≤ size) (sym here) some

walk-passed : (n : ℕ) → walk 1 (replicate n one) ≡ []
unfolding walk numbers
walk-passed zero = refl
walk-passed (suc n) = walk-passed n

pub walk-ones : (n : ℕ) → 0 < n → walk 0 (replicate n one) ≡ 0 ∷ []
unfolding walk numbers
walk-ones zero h = absurd (omega arith)
walk-ones (suc n) h = ap (λ xs. 0 ∷ xs) (walk-passed n)

module _ {T K : Type 0} (l : Layout T K) (o : IsKeyOrder l.order) (a : 1 ≤ most_rows l.leaf) (b : 2 ≤ most_rows l.inner)
    (rows : ℕ) (list : List T) (is : IsList l rows list) (first : ℕ) where
  -- no range meets nothing but the root
  below-none : (level : ℕ) → met_below l list [] first level ≡ []
  unfolding met_below
  below-none zero = refl
  below-none (suc level) =
      ap (λ xs. map (page_number l first (length list) level) xs ++ met_below l list [] first level)
      (filter-none (is_met l list [] level) (numbers 0 (level_size (shape_of l (length list)) level)) (λ i d k. refl))
      ∙ below-none level

  pub visits-none : (ranges : List (K × K)) → length ranges ≡ 0 → (root : ℕ) → page_number l first rows root 0 ∷ [] ≡ visited_pages l list ranges first root
  visits-none [] h root =
      ap (λ r. page_number l first r root 0 ∷ []) (sym is.count) ∙ ap (λ xs. page_number l first (length list) root 0 ∷ xs) (sym (below-none root))
  visits-none (r ∷ rs) h root = absurd (omega arith)

  pub rows-none : (ranges : List (K × K)) → length ranges ≡ 0 → [] ≡ rows_met l list ranges
  rows-none [] h = sym (filter-none (λ row. list_any (λ range. is_inside l range row) []) list (λ i d k. refl))
  rows-none (r ∷ rs) h = absurd (omega arith)

  -- at the root
  pub visits-root : (ranges : List (K × K)) (runs : List Run) → runs ≡ replicate (length ranges) one → 0 < length ranges → (root : ℕ)
      → [] ++ (map (page_number l first rows root) (walk 0 runs) ++ met_below l list ranges first root) ≡ visited_pages l list ranges first root
  visits-root ranges runs e some root =
      ap (λ xs. map (page_number l first rows root) xs ++ met_below l list ranges first root) (ap (walk 0) e ∙ walk-ones (length ranges) some)
      ∙ ap (λ r. page_number l first r root 0 ∷ met_below l list ranges first root) (sym is.count)

  pub leads-root : (ranges : List (K × K)) (runs : List Run) → runs ≡ replicate (length ranges) one → (root : ℕ) → IsRoot (shape_of l rows) root → AllLead l list root ranges runs
  leads-root ranges runs e root at_root i range run h =
      let key = get_or ranges i range in
      let long : length (replicate (length ranges) one) ≡ length ranges = length-ones (length ranges) in
      let here : get_or runs i run ≡ one = ap (λ xs. get_or xs i run) e ∙ get_or-replicate (length ranges) i one run (let same = ap length e in omega arith) in
      let alone = at_root.alone in
      let low = place-inside l o a b rows list is key.0 root in
      let high = place-inside l o a b rows list is key.1 root in
      subst (Leads l list root key) (sym here) (record {
        first_is = omega arith;
        end_is = λ some. let end = end-some l o a b rows list is key.1 root some in omega arith;
        none = λ none. omega arith;
      })

  pub leads-runs : (ranges : List (K × K)) (runs : List Run) (level : ℕ) → AllRuns l list level ranges runs → AllLead l list level ranges runs
  leads-runs ranges runs level are i range run h =
      subst (Leads l list level (get_or ranges i range)) (sym (are i range run h)) (leads-own l o a b rows list is level (get_or ranges i range))

  no_default : {X : Type 0} (xs : List X) → length xs ≤ 0 → xs ≡ []
  no_default [] h = refl
  no_default (x ∷ xs) h = absurd (omega arith)

  runs-are : (ranges : List (K × K)) (runs : List Run) (level : ℕ) → length runs ≡ length ranges → AllRuns l list level ranges runs → runs ≡ map (run_of l list level) ranges
  runs-are [] runs level same are = no_default runs (omega arith)
  runs-are (r ∷ rs) runs level same are =
      ext_get_or one runs (map (run_of l list level) (r ∷ rs)) (same ∙ sym (length-map (r ∷ rs) (run_of l list level)))
      (λ i h. are i r one h ∙ sym (get_or-map (run_of l list level) (r ∷ rs) i r one (omega arith)))

  -- from a level to the next
  pub visits-next : (ranges : List (K × K)) → AreRanges l.order ranges → (seen now whole : List ℕ) (level : ℕ) (runs : List Run) → length runs ≡ length ranges → AllRuns l list level ranges runs
      → seen ++ (now ++ met_below l list ranges first (suc level)) ≡ whole
      → (seen ++ now) ++ (map (page_number l first rows level) (walk 0 runs) ++ met_below l list ranges first level) ≡ whole
  unfolding met_below
  visits-next ranges ascend seen now whole level runs same are so_far =
      let here : map (page_number l first rows level) (walk 0 runs) ≡ met_at l list ranges first level =
      ap (λ xs. map (page_number l first rows level) (walk 0 xs)) (runs-are ranges runs level same are)
      ∙ (ap (map (page_number l first rows level)) (sym (walk-met l o a b rows list is level ranges ascend))
      ∙ ap (λ r. map (page_number l first r level) (filter (is_met l list ranges level) (numbers 0 (level_size (shape_of l r) level)))) (sym is.count)) in
      ap (λ xs. (seen ++ now) ++ (xs ++ met_below l list ranges first level)) here
      ∙ (append_assoc seen now (met_at l list ranges first level ++ met_below l list ranges first level) ∙ so_far)

  -- and at the leaves
  pub visits-last : (ranges : List (K × K)) (seen now whole : List ℕ) → seen ++ (now ++ met_below l list ranges first 0) ≡ whole → seen ++ now ≡ whole
  unfolding met_below
  visits-last ranges seen now whole so_far = ap (λ xs. seen ++ xs) (sym (append-nil now)) ∙ so_far
