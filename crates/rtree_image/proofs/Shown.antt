-- What a page of a shown tree tells a search.
use Rattle.std.proofs.Common.{◌≡◌, ℕ, zero, suc, ◌+◌, ◌-◌, ◌*◌, ◌^◌, ◌<◌, ◌≤◌, min, Bool, List, [], ◌∷◌, ◌++◌, drop, map, length, All, Option, Some, arith, refl, sym, ◌∙◌, ap, subst, lit≤}
use Rattle.std.specs.Prelude.{slice_index_or}
use Rattle.std.specs.Int.{to_be_bytes, from_be_bytes, w16, w32, div_ceil}
use Rattle.std.specs.List.{filter}
use Rattle.std.proofs.Math.Nat.{mul-le-mul_left}
use Rattle.std.proofs.lemmas.List.{get_or-map, length-map}
use Rattle.std.proofs.lemmas.List.Elements.{All-take, All-drop}
use Rattle.std.proofs.lemmas.Grind.{div_ceil_times}
use Rattle.std.proofs.lemmas.Nat.{from_be_bytes-to_be_bytes_2, from_be_bytes-to_be_bytes_4, from_be_bytes-to_be_bytes_8}
use Rattle.dev_model.specs.Story.{WhereTold}
use Rattle.dev_model.specs.declared.page_faults.PageFault.{PageFault}
use Rattle.dev_model.specs.declared.page_faults.PageFault.TheVariants.{Failed, Damaged, OutOfMemory}
use Rattle.dev_model.specs.Asked.{OnDamaged}
use Rattle.tree_shape.specs.Laws.Places.{number_fits, place_below}
use Rattle.page_codec.specs.declared.kinds.TheConstants.{RTREE_INNER}
use Rattle.page_codec.specs.Page.{row_count, rows_on, ShowsRows}
use Rattle.geo_base.specs.Corners.{Corners}
use Rattle.tree_shape.specs.declared.levels.Shape.{Shape}
use Rattle.tree_shape.specs.Shape.{level_size, level_start, span, numbers, IsPlace}
use Rattle.tree_shape.specs.Laws.Covers.{level_size-suc, one_le-level_size}
use Rattle.tree_shape.specs.Laws.Numbers.{children_at-numbers, length-numbers, get_or-numbers}
use Rattle.page_codec.specs.Laws.Writing.{length-rows_on}
use Rattle.rtree_image.specs.declared.rows.RtRow.{RtRow}
use Rattle.rtree_image.specs.declared.bounds.Bounds.{Bounds}
use Rattle.rtree_image.specs.Rows.{row_bytes, row_of, IsStored}
use Rattle.rtree_image.specs.Bounds.{bounding, bounds_bytes, bounds_in, meets}
use Rattle.rtree_image.specs.Image.{tree_of, rows_below, child_row, level_rows, level_kind, IsShown, page_number}
use Rattle.rtree_image.specs.Visits.{is_met}
use Rattle.rtree_image.specs.Damage.{IsInnerPage, IsTreePage, IsDamaged, IsTreePageFor, IsTestedFor}
use Rattle.rtree_image.specs.Steps.{children_met}

-- bounds whose numbers fit their bytes
record Fit (b : Bounds) : Type 0 where
  x1 : b.x1 < 2 ^ 16
  y1 : b.y1 < 2 ^ 16
  x2 : b.x2 < 2 ^ 16
  y2 : b.y2 < 2 ^ 16

bounding-fit : (rows : List RtRow) → All IsStored rows → Fit (bounding rows)
unfolding bounding
bounding-fit [] stored = record { x1 = lit≤ tt; y1 = lit≤ tt; x2 = lit≤ tt; y2 = lit≤ tt }
bounding-fit (row ∷ rows) stored =
    let rest = bounding-fit rows (λ i d h. stored (suc i) d (omega arith)) in
    let here : IsStored row = stored 0 row (omega arith) in
    let x = here.x in let y = here.y in
    let x1 = rest.x1 in let y1 = rest.y1 in let x2 = rest.x2 in let y2 = rest.y2 in
    record { x1 = omega arith; y1 = omega arith; x2 = omega arith; y2 = omega arith }

-- bounds are found again in their bytes
bounds_back : (b : Bounds) (rest : List ℕ) → Fit b → bounds_in (bounds_bytes b ++ rest) ≡ b
bounds_back b rest fit =
    let x1 : from_be_bytes w16 (to_be_bytes w16 b.x1) ≡ b.x1 = from_be_bytes-to_be_bytes_2 b.x1 fit.x1 in
    let y1 : from_be_bytes w16 (to_be_bytes w16 b.y1) ≡ b.y1 = from_be_bytes-to_be_bytes_2 b.y1 fit.y1 in
    let x2 : from_be_bytes w16 (to_be_bytes w16 b.x2) ≡ b.x2 = from_be_bytes-to_be_bytes_2 b.x2 fit.x2 in
    let y2 : from_be_bytes w16 (to_be_bytes w16 b.y2) ≡ b.y2 = from_be_bytes-to_be_bytes_2 b.y2 fit.y2 in
    λ i. record { x1 = x1 i; y1 = y1 i; x2 = x2 i; y2 = y2 i }

row_back : (row : RtRow) → IsStored row → row_of (row_bytes row) ≡ row
row_back row stored =
    let x : from_be_bytes w16 (to_be_bytes w16 row.point.x) ≡ row.point.x = from_be_bytes-to_be_bytes_2 row.point.x stored.x in
    let y : from_be_bytes w16 (to_be_bytes w16 row.point.y) ≡ row.point.y = from_be_bytes-to_be_bytes_2 row.point.y stored.y in
    let key = from_be_bytes-to_be_bytes_8 row.key stored.key in
    λ i. record { point = record { x = x i; y = y i }; key = key i }

rows_back : (rows : List RtRow) → All IsStored rows → map row_of (map row_bytes rows) ≡ rows
rows_back [] stored = refl
rows_back (row ∷ rows) stored =
    ap (λ r. r ∷ map row_of (map row_bytes rows)) (row_back row (stored 0 row (omega arith)))
    ∙ ap (λ rs. row ∷ rs) (rows_back rows (λ i d h. stored (suc i) d (omega arith)))

stored_below : (s : Shape) (list : List RtRow) → All IsStored list → (level at : ℕ) → All IsStored (rows_below s list level at)
stored_below s list stored level at = All-take IsStored (span s level) _ (All-drop IsStored (at * span s level) list stored)

-- tests that agree on some numbers pass the same ones
same_pass : (f g : ℕ → Bool) (from n : ℕ) → ((c : ℕ) → from ≤ c → c < from + n → f c ≡ g c) → filter f (numbers from n) ≡ filter g (numbers from n)
unfolding numbers
same_pass f g from zero h = refl
same_pass f g from (suc n) h =
    let rest = same_pass f g (suc from) n (λ c low high. h c (omega arith) (omega arith)) in
    rw (h from (omega arith) (omega arith), rest) refl

module _ (s : Shape) (b : 2 ≤ s.per_inner) (list : List RtRow) (stored : All IsStored list) (below at : ℕ) (inside : at < level_size s (suc below)) (page : List ℕ)
    (shows : ShowsRows RTREE_INNER (suc below) (level_rows s list (suc below) at) page) where
  abbrev first : ℕ
  first = at * s.per_inner

  abbrev many : ℕ
  many = min s.per_inner (level_size s below - first)

  shown_rows : rows_on page ≡ map (child_row s list below) (numbers first many)
  unfolding level_rows
  shown_rows = shows.all ∙ ap (map (child_row s list below)) (children_at-numbers (level_size s below) s.per_inner at)

  pub row_count-is : row_count page ≡ many
  row_count-is = sym (length-rows_on page) ∙ (ap length shown_rows ∙ (length-map (numbers first many) (child_row s list below) ∙ length-numbers first many))

  pub begins : first < level_size s below
  begins =
      let some = one_le-level_size s b below in
      let times = (div_ceil_times (level_size s below) s.per_inner (omega arith)).1 in
      let size = level_size-suc s below in
      let last : suc at ≤ div_ceil (level_size s below) s.per_inner = omega arith in
      let more : s.per_inner * suc at ≤ s.per_inner * div_ceil (level_size s below) s.per_inner = mul-le-mul_left s.per_inner last in
      omega (arith, times, more, some)

  row_at : (i : ℕ) → i < many → slice_index_or (rows_on page) i [] ≡ child_row s list below (first + i)
  row_at i h =
      ap (λ rows. slice_index_or rows i []) shown_rows
      ∙ (get_or-map (child_row s list below) (numbers first many) i 0 [] (rw (length-numbers first many) h)
      ∙ ap (child_row s list below) (get_or-numbers first many i 0 h))

  met_at : (rect : Corners) (c : ℕ) → first ≤ c → c < first + many
      → meets (bounds_in (slice_index_or (rows_on page) (c - first) [])) rect ≡ is_met s list rect below c
  met_at rect c low high =
      let here : first + (c - first) ≡ c = omega arith in
      let fit = bounding-fit (rows_below s list below c) (stored_below s list stored below c) in
      ap (λ row. meets (bounds_in row) rect) (row_at (c - first) (omega arith) ∙ ap (child_row s list below) here)
      ∙ ap (λ bounds. meets bounds rect) (bounds_back (bounding (rows_below s list below c)) (to_be_bytes w32 (level_start s below + c)) fit)

  pub children_told : (rect : Corners)
      → filter (λ c. meets (bounds_in (slice_index_or (rows_on page) (c - first) [])) rect) (numbers first (row_count page)) ≡ children_met s list rect below at
  children_told rect =
      ap (λ n. filter (λ c. meets (bounds_in (slice_index_or (rows_on page) (c - first) [])) rect) (numbers first n)) row_count-is
      ∙ (same_pass (λ c. meets (bounds_in (slice_index_or (rows_on page) (c - first) [])) rect) (is_met s list rect below) first many (met_at rect)
      ∙ ap (filter (is_met s list rect below)) (sym (children_at-numbers (level_size s below) s.per_inner at)))

  pub inner_sound : ((c : ℕ) → c < level_size s below → level_start s below + c < 2 ^ 32) → IsInnerPage s below at page
  inner_sound fits = record {
    page = shows.page;
    some = let n = row_count-is in let h = begins in omega arith;
    inside = λ i h. (let n = row_count-is in let start = begins in omega arith);
    children = λ i h.
        let n = row_count-is in
        let start = begins in
        let c = first + i in
        ap (λ row. from_be_bytes w32 (drop 8 row)) (row_at i (omega arith))
        ∙ from_be_bytes-to_be_bytes_4 (level_start s below + c) (fits c (omega arith));
  }

-- the rows of a leaf
pub leaf_told : (s : Shape) (list : List RtRow) → All IsStored list → (at : ℕ) (kind : ℕ) (page : List ℕ) → ShowsRows kind 0 (level_rows s list 0 at) page
    → map row_of (rows_on page) ≡ rows_below s list 0 at
unfolding level_rows
leaf_told s list stored at kind page shows = ap (map row_of) shows.all ∙ rows_back (rows_below s list 0 at) (stored_below s list stored 0 at)

module _ (first rows : ℕ) (contents : Option (ℕ → List ℕ)) (list : List RtRow) (shown : IsShown contents first rows list) (level at : ℕ) (place : IsPlace (tree_of rows) level at) where
  pub shown_at : ShowsRows (level_kind level) level (level_rows (tree_of rows) list level at) (shown.bytes (page_number (tree_of rows) first level at))
  shown_at =
      subst (λ r. ShowsRows (level_kind level) level (level_rows (tree_of r) list level at) (shown.bytes (page_number (tree_of r) first level at))) shown.count
      (shown.shows level at (subst (λ r. IsPlace (tree_of r) level at) (sym shown.count) place))

  -- what was read shows the page that was asked for
  pub shown_read : (buf : List ℕ) → WhereTold contents (λ bytes. buf ≡ bytes (page_number (tree_of rows) first level at)) → ShowsRows (level_kind level) level (level_rows (tree_of rows) list level at) buf
  shown_read buf read = subst (λ x. ShowsRows (level_kind level) level (level_rows (tree_of rows) list level at) x) (sym (read shown.bytes shown.told)) shown_at

-- a search of a tree that shows a list gives no page as damaged
pub never_damaged : (first rows : ℕ) → rows < 2 ^ 32 → (contents : Option (ℕ → List ℕ)) (list : List RtRow) → IsShown contents first rows list → (fault : PageFault)
    → OnDamaged (Some fault) (λ page. WhereTold contents (λ bytes. IsDamaged first rows bytes page)) → (page : ℕ) → fault ≡ Damaged page → ⊥
never_damaged first rows few contents list shown Failed bad page e = cc
never_damaged first rows few contents list shown OutOfMemory bad page e = cc
never_damaged first rows few contents list shown (Damaged number) bad page e =
    let d = bad shown.bytes shown.told in
    d.bad (subst (λ n. IsTreePage (tree_of rows) d.level d.at (shown.bytes n)) (sym d.number) (sound d.level d.at d.place (shown_at first rows contents list shown d.level d.at d.place)))
  where
    sound : (level at : ℕ) → IsPlace (tree_of rows) level at → ShowsRows (level_kind level) level (level_rows (tree_of rows) list level at) (shown.bytes (page_number (tree_of rows) first level at))
        → IsTreePage (tree_of rows) level at (shown.bytes (page_number (tree_of rows) first level at))
    sound zero at place shows = shows.page
    sound (suc below) at place shows =
        inner_sound (tree_of rows) (lit≤ tt) list shown.stored below at place.inside _ shows
        (λ c inside. let n = number_fits (tree_of rows) (lit≤ tt) (lit≤ tt) few below c (place_below (tree_of rows) below at c place inside) in omega arith)

-- what was read for a place isn't a page for it
pub damaged_at : (first rows : ℕ) (contents : Option (ℕ → List ℕ)) (bytes : ℕ → List ℕ) (buf : List ℕ) (level at page : ℕ)
    → contents ≡ Some bytes → WhereTold contents (λ bytes. buf ≡ bytes (page_number (tree_of rows) first level at)) → IsPlace (tree_of rows) level at
    → page ≡ page_number (tree_of rows) first level at → (IsTreePage (tree_of rows) level at buf → ⊥) → IsDamaged first rows bytes page
damaged_at first rows contents bytes buf level at page told read place number bad = record {
  level = level;
  at = at;
  place = place;
  number = number;
  bad = λ well. bad (subst (IsTreePage (tree_of rows) level at) (sym (read bytes told ∙ ap bytes (sym number))) well);
}

-- what was read for a place is a page for it
pub tested_at : (first rows : ℕ) (rect : Corners) (contents : Option (ℕ → List ℕ)) (buf : List ℕ) (level at : ℕ)
    → WhereTold contents (λ bytes. buf ≡ bytes (page_number (tree_of rows) first level at)) → IsPlace (tree_of rows) level at
    → IsTreePageFor (tree_of rows) rect level at buf → WhereTold contents (λ bytes. IsTestedFor rect first rows bytes (page_number (tree_of rows) first level at))
tested_at first rows rect contents buf level at read place good = λ bytes told. record {
  level = level;
  at = at;
  place = place;
  number = refl;
  good = subst (IsTreePageFor (tree_of rows) rect level at) (read bytes told) good;
}
