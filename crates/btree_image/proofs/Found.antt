-- What a reader finds in one page.
use Rattle.std.proofs.Common.{◌≡◌, ◌≢◌, ℕ, ◌+◌, ◌<◌, true, false, List, [], take, drop, Option, Some, None, arith, refl, sym, ◌∙◌}
use Rattle.std.specs.Prelude.{slice_index_or, IfSome, IfNone}
use Rattle.std.specs.Ordering.{eq_by_cmp}
use Rattle.std.specs.Int.{from_be_bytes, w32}
use Rattle.page_codec.specs.Page.{row_count, rows_on}
use Rattle.tree_shape.specs.Shape.{level_size, level_start}
use Rattle.btree_image.specs.Rows.{Layout}
use Rattle.btree_image.specs.Image.{shape_of}
use Rattle.btree_image.specs.Damage.{IsInnerPage}
use Rattle.btree_image.specs.Steps.{row_at}

module _ {T K : Type 0} (l : Layout T K) (key : K) (bytes : List ℕ) where
  pub row_at-other : eq_by_cmp l.order (l.key_of_bytes (take l.key_width bytes)) key ≡ false → row_at l key bytes ≡ None
  row_at-other h = rw h refl

  pub row_at-same : eq_by_cmp l.order (l.key_of_bytes (take l.key_width bytes)) key ≡ true → row_at l key bytes ≡ l.of_bytes bytes
  row_at-same h = rw h refl

-- a child outside the level below shows a damaged page
pub outside-damaged : {T K : Type 0} (l : Layout T K) (rows below i child : ℕ) (bytes : List ℕ) → i < row_count bytes
    → child ≡ from_be_bytes w32 (drop l.key_width (slice_index_or (rows_on bytes) i []))
    → ((at : ℕ) → at < level_size (shape_of l rows) below → level_start (shape_of l rows) below + at ≢ child)
    → IsInnerPage l rows below bytes → ⊥
outside-damaged l rows below i child bytes inside e outside page =
    let found = page.children i inside in
    outside found.0 found.1 (found.2 ∙ sym e)

pub none_damaged : (result : Option ℕ) (P Q : Type 0) → IfNone result P → (P → Q) → IfNone result Q
none_damaged None P Q p f = f p
none_damaged (Some x) P Q p f = tt

-- a child that is a page of the level below has its place there
pub some_place : (result : Option ℕ) (start child place : ℕ) → IfSome result (λ at. start + at ≡ child) → child ≡ start + place → IfSome result (λ at. at ≡ place)
some_place None start child place found e = tt
some_place (Some at) start child place found e = omega arith
