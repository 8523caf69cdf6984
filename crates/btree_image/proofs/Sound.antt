-- A tree that shows a list has no damaged page.
use Rattle.std.proofs.Common.{◌≡◌, ◌≢◌, ℕ, zero, suc, ◌+◌, ◌-◌, ◌*◌, ◌^◌, ◌<◌, ◌≤◌, min, List, [], drop, inl, inr, arith, refl, sym, ◌∙◌, ap, subst}
use Rattle.std.specs.Prelude.{slice_index_or, Option, Some, Result, Ok, Err, IfOk, IfErr, MatchResult, ◌⊎◌}
use Rattle.std.specs.Int.{from_be_bytes, w32}
use Rattle.std.proofs.lemmas.Bool.{cases_lt}
use Rattle.dev_model.specs.Story.{WhereTold}
use Rattle.dev_model.specs.declared.page_faults.PageFault.{PageFault}
use Rattle.dev_model.specs.declared.page_faults.PageFault.TheVariants.{Failed, Damaged, OutOfMemory}
use Rattle.dev_model.specs.Asked.{fault_of, OnDamaged}
use Rattle.page_codec.specs.Page.{most_rows, rows_on, row_count, ShowsRows}
use Rattle.tree_shape.specs.Shape.{level_size, level_start, span, IsPlace}
use Rattle.tree_shape.specs.Laws.Places.{child_has_row, rows_above}
use Rattle.btree_image.specs.Rows.{Layout}
use Rattle.btree_image.specs.Image.{shape_of, level_rows, level_kind, child_row, IsList}
use Rattle.btree_image.specs.Pages.{page_number}
use Rattle.btree_image.specs.Shown.{IsShown}
use Rattle.btree_image.specs.Damage.{IsTreePage, IsDamaged}
use Rattle.btree_image.proofs.Children.{level_rows-children, child_at, child_number-is}
use Rattle.btree_image.proofs.Shown.{inner_count, inner_some}
use Rattle.btree_image.proofs.Told.{readable, shown_at}

module _ {T K : Type 0} (l : Layout T K) (a : 1 ≤ most_rows l.leaf) (b : 2 ≤ most_rows l.inner) (first rows : ℕ) (list : List T)
    (fits : (level at : ℕ) → IsPlace (shape_of l rows) level at → page_number l first rows level at < 2 ^ 32) where
  child_has : (level c : ℕ) → 0 < rows → c < level_size (shape_of l rows) level → c * span (shape_of l rows) level < rows
  child_has level c some inside = elim (cases_lt 0 c) [
    | inl behind ↦ child_has_row (shape_of l rows) a b level c behind inside
    | inr none ↦ (let e : c ≡ 0 = omega arith in rw e (omega (arith, some)))
  ]

  -- each page of it is one for its place
  shown_page : IsList l rows list → (level at : ℕ) → IsPlace (shape_of l rows) level at → (bytes : List ℕ) → ShowsRows (level_kind l level) level (level_rows l list level at) bytes → IsTreePage l rows level bytes
  shown_page is zero at place bytes shows = record { page = shows.page; readable = readable l list is.stored at (rows_on bytes) shows.all }
  shown_page is (suc below) at place bytes shows =
      let size = level_size (shape_of l rows) below in
      let many = most_rows l.inner in
      let count = inner_count l (omega arith) rows list is below at bytes shows in
      let some : 0 < rows = rows_above (shape_of l rows) below at a place in
      record {
        page = shows.page;
        some = elim (cases_lt 0 (row_count bytes)) [
          | inl positive ↦ positive
          | inr none ↦ absurd (inner_some l (omega arith) rows list is below at bytes shows place.inside (omega arith))
        ];
        children = λ i h.
            let c = at * many + i in
            let inside : c < size = omega (arith, count, h) in
            let here : IsPlace (shape_of l rows) below c = record { inside = inside; up_to_root = λ j lower. place.up_to_root j (omega arith) } in
            let number = fits below c here in
            let n = min many (level_size (shape_of l rows) below - at * many) in
            let row : slice_index_or (rows_on bytes) i [] ≡ child_row l list below c =
            ap (λ ys. slice_index_or ys i []) (shows.all ∙ level_rows-children l list is.stored below at)
            ∙ child_at l list is.stored below (at * many) _ i (subst (λ r. i < min many (level_size (shape_of l r) below - at * many)) (sym is.count) (omega (arith, count, h))) in (
              c,
              inside,
              sym (ap (λ row. from_be_bytes w32 (drop l.key_width row)) row
                  ∙ (child_number-is l list is.stored below c (subst (λ r. c * span (shape_of l r) below < r) (sym is.count) (child_has below c some inside))
                  (subst (λ r. level_start (shape_of l r) below + c < 2 ^ 32) (sym is.count) (omega (arith, number)))
                  ∙ ap (λ r. level_start (shape_of l r) below + c) is.count)),
            );
      }

  module _ (contents : Option (ℕ → List ℕ)) (shown : IsShown l contents first rows list) where
    -- a reader of it gives none as damaged
    pub never_damaged : (fault : PageFault) → OnDamaged (Some fault) (λ page. WhereTold contents (λ bytes. IsDamaged l first rows bytes page)) → (fault ≡ Failed) ⊎ (fault ≡ OutOfMemory)
    never_damaged Failed bad = inl refl
    never_damaged (Damaged page) bad =
        let d = bad shown.bytes shown.told in
        absurd (d.bad (subst (λ n. IsTreePage l rows d.level (shown.bytes n)) (sym d.number)
        (shown_page shown.is d.level d.at d.place _ (shown_at l list first rows shown.bytes shown.shows shown.is.count d.level d.at d.place))))
    never_damaged OutOfMemory bad = inr refl

    -- and one that needs no memory fails only where a page isn't given
    pub found_or_failed : {X : Type 0} (result : Result X PageFault) (P : X → Type 0) → IfOk result P → IfErr result (λ fault. fault ≢ OutOfMemory)
        → OnDamaged (fault_of result) (λ page. WhereTold contents (λ bytes. IsDamaged l first rows bytes page)) → MatchResult result P (λ fault. fault ≡ Failed)
    found_or_failed (Ok x) P is no_memory bad = is
    found_or_failed (Err fault) P is no_memory bad = elim (never_damaged fault bad) [
      | inl failed ↦ failed
      | inr full ↦ absurd (no_memory full)
    ]
