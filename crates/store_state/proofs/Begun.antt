-- A job that is begun keeps what is true of the lists.
use Rattle.std.proofs.Common.{◌≡◌, ◌≢◌, ℕ, ◌<◌, ◌≤◌, ◌^◌, true, false, ◌||◌, min, List, [], ◌∷◌, ◌++◌, length, Some, None, All, arith, ap, refl, sym, ◌∙◌, subst}
use Rattle.std.proofs.lemmas.Bool.{or_parts, and_parts, eqb-false, leb-true, ltb-true}
use Rattle.std.proofs.lemmas.List.Elements.{All-nil, All-cons}
use Rattle.btree_image.specs.Image.{shape_of}
use Rattle.space_map.specs.declared.space.Extent.{Extent}
use Rattle.space_map.specs.Space.{Space, IsFirstFit, is_in, is_reserved, reserved_with}
use Rattle.space_map.specs.Calls.{IsSpace}
use Rattle.comp_dir.specs.Directory.{Numbered}
use Rattle.comp_dir.specs.Parts.{HasPages}
use Rattle.comp_dir.specs.declared.places.TheConstants.{MOST_LIVE, PRIMARY}
use Rattle.primary_ix.specs.Rows.{prim_layout}
use Rattle.primary_ix.specs.declared.rows.PrimRow.{PrimRow}
use Rattle.store_state.specs.declared.planning.TheConstants.{MOST_ROWS}
use Rattle.store_state.specs.Beginning.{ImageNeeds, IsLowestClosed, is_taken, fresh}
use Rattle.store_state.specs.Laws.Planned.{few_rows}
use Rattle.store_state.specs.Lists.{Lists, open_of, extents_of, frozen_rows}
use Rattle.store_state.specs.EveryList.{IsLists, job_extents}
use Rattle.store_state.proofs.Apart.{is_reserved-with_extent}

-- a number that is not taken is none of theirs
not_taken : (slots : List Numbered) (n : ℕ) → is_taken slots n ≡ false → All (λ e. e.0 ≢ n) slots
not_taken [] n h = All-nil (λ e. e.0 ≢ n)
not_taken (e ∷ slots) n h =
    let parts = or_parts _ _ h in
    All-cons (λ e. e.0 ≢ n) e slots (eqb-false e.0 n parts.0) (not_taken slots n parts.1)

-- where a device has the pages of an image, the image has all rows
whole : (rows : List PrimRow) (pages : ℕ) → ImageNeeds rows pages → pages ≤ 65536 → min (length rows) MOST_ROWS ≡ length rows
whole rows pages needs most =
    let few = few_rows (min (length rows) MOST_ROWS) pages needs in
    omega (arith, few)

module _ (l : Lists) (extent : Extent) (pages : ℕ) (lists : IsLists l) (same : extent.pages ≡ pages) (fit : IsFirstFit l.space pages extent.first)
    (needs : ImageNeeds (frozen_rows l.frozen) pages) where
  fits : IsFirstFit l.space extent.pages extent.first
  fits = subst (λ (n : ℕ). IsFirstFit l.space n extent.first) (sym same) fit

  few : pages ≤ 65536
  few = let within = fit.free.within in let most = lists.most in omega arith

  pub extent-count : length (frozen_rows l.frozen) < 2 ^ 32
  extent-count = let all = whole (frozen_rows l.frozen) pages needs few in omega arith

  pub extent-pages : HasPages (shape_of prim_layout (length (frozen_rows l.frozen))) extent.pages
  extent-pages =
      subst (HasPages (shape_of prim_layout (length (frozen_rows l.frozen)))) (sym same)
      (subst (λ (n : ℕ). HasPages (shape_of prim_layout n) pages) (whole (frozen_rows l.frozen) pages needs few) needs)

  -- the extent's pages are none of the open slots'
  extent-free : l.job ≡ None → (page : ℕ) → is_in page extent ≡ true → is_reserved (extents_of (open_of l)) page ≡ false
  extent-free none page h =
      let parts = and_parts _ _ h in
      ap (λ job. is_reserved (job_extents job ++ extents_of (open_of l)) page) (sym none) ∙ sym (lists.reserved page)
      ∙ fits.free.free page (leb-true _ _ parts.0) (ltb-true _ _ parts.1)

  pub begun-IsLists : (owner slot : ℕ) → (l.frozen ≢ None) → l.job ≡ None → length l.components < MOST_LIVE
      → IsLowestClosed (open_of l) slot → (space : Space) → space ≡ reserved_with extent l.space → IsSpace space
      → IsLists (record l { job = Some (fresh owner (record { index = PRIMARY; extent = extent; slot = slot })); space = space })
  begun-IsLists owner slot frozen none room closed space is apart =
      subst (λ (there : Space). IsLists (record l { job = Some (fresh owner (record { index = PRIMARY; extent = extent; slot = slot })); space = there })) (sym is)
      (record {
        active_ascends = lists.active_ascends;
        active_stored = lists.active_stored;
        frozen_ascends = lists.frozen_ascends;
        frozen_stored = lists.frozen_stored;
        is_cut = lists.is_cut;
        few = lists.few;
        slots = lists.slots;
        least = lists.least;
        most = lists.most;
        space = subst IsSpace is apart;
        reserved = λ page.
            is_reserved-with_extent extent l.space.reserved page
            ∙ ap (λ r. is_in page extent || r) (lists.reserved page ∙ ap (λ job. is_reserved (job_extents job ++ extents_of (open_of l)) page) none);
        planned = record {
          frozen = frozen;
          index = refl;
          pages = extent-pages;
          from = fits.free.above;
          to = fits.free.within;
          free = extent-free none;
          slot = closed.inside;
          closed = not_taken (open_of l) slot closed.closed;
          room = room;
          written = omega arith;
        };
      })
