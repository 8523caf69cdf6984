-- Scans over all keys ask for all pages of each component's tree.
use Rattle.std.proofs.Common.{◌≡◌, ℕ, zero, suc, ◌+◌, ◌*◌, ◌<◌, ◌≤◌, Bool, true, false, not, ◌&&◌, ◌||◌, List, [], ◌∷◌, ◌++◌, map, filter, length, get_or, slice_get, drop, drop-cons, ◌^◌, None, arith, refl, sym, ◌∙◌, ap, subst, inl, inr}
use Rattle.std.proofs.Math.Nat.{mul-le-mul_left}
use Rattle.std.proofs.lemmas.Bool.{cases_lt}
use Rattle.std.proofs.lemmas.List.{append-nil}
use Rattle.std.proofs.lemmas.Option.{slice_get-get_or, slice_get_past}
use Rattle.std.specs.Prelude.{Option}
use Rattle.std.specs.Ordering.{is_lt}
use Rattle.std.specs.Cmp.{nat_cmp_is}
use Rattle.std.specs.declared.cmp.Ordering.TheVariants.{Less}
use Rattle.std.proofs.lemmas.Cmp.{ranked}
use Rattle.geo_base.specs.declared.limits.TheConstants.{MOST_KEY}
use Rattle.tree_shape.specs.Shape.{level_size, span, IsRoot, numbers}
use Rattle.tree_shape.specs.Laws.Covers.{span-pos}
use Rattle.tree_shape.specs.Laws.Places.{child_has_row}
use Rattle.btree_image.specs.Image.{shape_of, IsList}
use Rattle.btree_image.specs.Pages.{page_number}
use Rattle.btree_image.specs.Shown.{IsShown}
use Rattle.btree_image.specs.TreePages.{level_pages, tree_pages}
use Rattle.btree_image.specs.Visited.{begins_before, reaches_row, is_met, met_at, met_below, visited_pages}
use Rattle.primary_ix.specs.declared.component.PrimComp.{PrimComp}
use Rattle.primary_ix.specs.declared.rows.PrimRow.{PrimRow}
use Rattle.primary_ix.specs.Rows.{prim_layout}
use Rattle.primary_ix.specs.AllPages.{all_pages}
use Rattle.primary_ix.specs.Components.{AreShown}
use Rattle.primary_ix.specs.Roots.{AreRoots}
use Rattle.primary_ix.specs.Scans.{all_keys}
use Rattle.primary_ix.proofs.Passed.{past_end}
use Rattle.primary_ix.proofs.Whole.{key_fits, up_to}

-- what stands for a row outside a list
abbrev no_row : PrimRow
no_row = record { key = 0; matter = None }

abbrev whole : ℕ × ℕ
whole = (0, MOST_KEY)

keeps-all : (p : ℕ → Bool) (from n : ℕ) → ((c : ℕ) → from ≤ c → c < from + n → p c ≡ true) → filter p (numbers from n) ≡ numbers from n
unfolding numbers
keeps-all p from zero h = refl
keeps-all p from (suc n) h =
    rw (h from (omega arith) (omega arith)) (ap (λ xs. from ∷ xs) (keeps-all p (suc from) n (λ c low high. h c (omega arith) (omega arith))))

module _ (list : List PrimRow) (is : IsList prim_layout (length list) list) where
  -- each row's key is one of all keys
  reaches : (i : ℕ) → i < length list → reaches_row prim_layout whole (slice_get list i) ≡ true
  reaches i h =
      let row = get_or list i no_row in
      let fits : row.key < 2 ^ 64 = key_fits row.key (is.stored i no_row h).key_back in
      ap (reaches_row prim_layout whole) (slice_get-get_or list i no_row h) ∙ ap not (up_to row.key MOST_KEY (omega arith))

  -- and all but the first are behind the least key
  begins : (i : ℕ) → 1 ≤ i → begins_before prim_layout whole (slice_get list i) ≡ true
  begins i some = elim (cases_lt i (length list)) [
    | inl inside ↦ (
        let row = get_or list i no_row in
        let first = get_or list 0 no_row in
        let more : first.key < row.key = ranked first.key row.key Less (sym (is.ascends 0 i no_row some inside)) in
        ap (begins_before prim_layout whole) (slice_get-get_or list i no_row inside) ∙ ap is_lt (sym (nat_cmp_is 0 row.key Less (omega arith))))
    | inr past ↦ ap (begins_before prim_layout whole) (slice_get_past list i past)
  ]

  -- a level with more than one page has rows below each
  has_row : (level at : ℕ) → 1 < level_size (shape_of prim_layout (length list)) level → at < level_size (shape_of prim_layout (length list)) level
      → at * span (shape_of prim_layout (length list)) level < length list
  has_row level zero more inside =
      let s = shape_of prim_layout (length list) in
      let second = child_has_row s (omega arith) (omega arith) level 1 (omega arith) more in omega arith
  has_row level (suc at) more inside = child_has_row (shape_of prim_layout (length list)) (omega arith) (omega arith) level (suc at) (omega arith) inside

  -- so a scan over all keys meets each page below the root
  meets : (level at : ℕ) → 1 < level_size (shape_of prim_layout (length list)) level → at < level_size (shape_of prim_layout (length list)) level
      → is_met prim_layout list all_keys level at ≡ true
  meets level at more inside =
      let step = span (shape_of prim_layout (length list)) level in
      let some = span-pos (shape_of prim_layout (length list)) (omega arith) (omega arith) level in
      let once : step * 1 ≤ step * (at + 1) = mul-le-mul_left step (omega arith) in
      let behind : 1 ≤ (at + 1) * step = omega arith in
      ap (λ b. (b && begins_before prim_layout whole (slice_get list ((at + 1) * step))) || false) (reaches (at * step) (has_row level at more inside))
      ∙ ap (λ b. b || false) (begins ((at + 1) * step) behind)

  level-met : (first level : ℕ) → 1 < level_size (shape_of prim_layout (length list)) level
      → met_at prim_layout list all_keys first level ≡ level_pages prim_layout first (length list) level
  level-met first level more =
      let size = level_size (shape_of prim_layout (length list)) level in
      ap (map (page_number prim_layout first (length list) level))
      (keeps-all (is_met prim_layout list all_keys level) 0 size (λ at low high. meets level at more (omega arith)))

  below-root : (first level : ℕ) → ((low : ℕ) → low < suc level → 1 < level_size (shape_of prim_layout (length list)) low)
      → met_below prim_layout list all_keys first (suc level) ≡ tree_pages prim_layout first (length list) level
  unfolding met_below tree_pages
  below-root first zero more = ap (λ pages. pages ++ []) (level-met first 0 (more 0 (omega arith))) ∙ append-nil (level_pages prim_layout first (length list) 0)
  below-root first (suc level) more =
      ap (λ pages. pages ++ met_below prim_layout list all_keys first (suc level)) (level-met first (suc level) (more (suc level) (omega arith)))
      ∙ ap (λ pages. level_pages prim_layout first (length list) (suc level) ++ pages) (below-root first level (λ low h. more low (omega arith)))

  one_page : (first level : ℕ) → level_size (shape_of prim_layout (length list)) level ≡ 1
      → page_number prim_layout first (length list) level 0 ∷ [] ≡ level_pages prim_layout first (length list) level
  unfolding numbers
  one_page first level alone = ap (λ size. map (page_number prim_layout first (length list) level) (numbers 0 size)) (sym alone)

  whole-tree : (first root : ℕ) → IsRoot (shape_of prim_layout (length list)) root
      → visited_pages prim_layout list all_keys first root ≡ tree_pages prim_layout first (length list) root
  unfolding met_below tree_pages
  whole-tree first zero at = one_page first 0 at.alone
  whole-tree first (suc level) at =
      ap (λ pages. page_number prim_layout first (length list) (suc level) 0 ∷ pages) (below-root first level at.lowest)
      ∙ ap (λ pages. pages ++ tree_pages prim_layout first (length list) level) (one_page first (suc level) at.alone)

-- the scan of a component that shows a list
scanned : (contents : Option (ℕ → List ℕ)) (first rows root : ℕ) (list : List PrimRow) → IsShown prim_layout contents first rows list → IsRoot (shape_of prim_layout rows) root
    → tree_pages prim_layout first rows root ≡ visited_pages prim_layout list all_keys first root
scanned contents first rows root list shown at =
    ap (λ n. tree_pages prim_layout first n root) (sym shown.is.count)
    ∙ sym (whole-tree list (record { count = refl; ascends = shown.is.ascends; stored = shown.is.stored }) first root
    (subst (λ n. IsRoot (shape_of prim_layout n) root) (sym shown.is.count) at))

-- all pages from a component on: those of its scan, and all pages from the next one on
pub all-here : (contents : Option (ℕ → List ℕ)) (comps : List PrimComp) (disk : List (List PrimRow)) (roots : List ℕ) (i : ℕ) (comp : PrimComp)
    → i < length comps → AreShown contents comps disk → AreRoots comps roots
    → all_pages (drop i comps) (drop i roots)
    ≡ visited_pages prim_layout (get_or disk i []) all_keys (get_or comps i comp).tree.first (get_or roots i 0) ++ all_pages (drop (suc i) comps) (drop (suc i) roots)
unfolding all_pages
all-here contents comps disk roots i comp h shown at =
    ap (λ cs. all_pages cs (drop i roots)) (drop-cons comps i comp h)
    ∙ ap (λ rs. all_pages (get_or comps i comp ∷ drop (suc i) comps) rs) (drop-cons roots i 0 (let same = at.count in omega arith))
    ∙ ap (λ pages. pages ++ all_pages (drop (suc i) comps) (drop (suc i) roots))
    (scanned contents (get_or comps i comp).tree.first (get_or comps i comp).tree.rows (get_or roots i 0) (get_or disk i []) (shown.each i comp [] h) (at.each i comp 0 h))

pub all-end : (comps : List PrimComp) (roots : List ℕ) (i : ℕ) (seen : List ℕ) → length comps ≤ i → seen ++ all_pages (drop i comps) (drop i roots) ≡ seen
unfolding all_pages
all-end comps roots i seen h = ap (λ cs. seen ++ all_pages cs (drop i roots)) (past_end comps i h) ∙ append-nil seen
