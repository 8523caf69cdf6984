-- The extents of slots are reserved one after the other.
use Rattle.std.proofs.Common.{◌≡◌, ℕ, ◌+◌, ◌<◌, ◌≤◌, true, false, ◌||◌, List, length, take, get_or, All, ap, sym, ◌∙◌, subst}
use Rattle.std.specs.Prelude.{AllPairs}
use Rattle.std.proofs.lemmas.Bool.{and_from, le-leb, lt-ltb}
use Rattle.comp_dir.specs.Directory.{Numbered}
use Rattle.space_map.specs.declared.space.Extent.{Extent}
use Rattle.space_map.specs.Space.{Space, is_in, is_reserved, reserved_with, IsFreeRun}
use Rattle.store_state.specs.Lists.{extent_of, extents_of}
use Rattle.store_state.specs.EveryList.{IsOpenSlot}
use Rattle.store_state.proofs.Apart.{Apart, both_false, page-of, page-before, reserved-more, is_reserved-with_extent}

-- what stands behind the end of a list
abbrev pub nothing : Numbered
nothing = (
  0,
  record {
    index = 0;
    first = 0;
    pages = 0;
    first_lsn = 0;
    last_lsn = 0;
    main_rows = 0;
    second_rows = 0;
    second_at = 0;
    filter_at = 0;
    filter_bits = 0;
    table_rows = 0;
  },
)

pub in_run : (e : Extent) (page : ℕ) → e.first ≤ page → page < e.first + e.pages → is_in page e ≡ true
in_run e page a b = and_from _ _ (le-leb e.first page a) (lt-ltb page (e.first + e.pages) b)

module _ (slots : List Numbered) (i : ℕ) (e : Numbered) (inside : i < length slots) (was now : Space) (same : now.pages ≡ was.pages)
    (reserved : (page : ℕ) → is_reserved now.reserved page ≡ (is_reserved was.reserved page || is_reserved (extents_of (take i slots)) page)) where
  -- the next one is free
  pub free-next : All (IsOpenSlot was.pages) slots → AllPairs Apart slots → ((page : ℕ) → is_reserved (extents_of slots) page ≡ true → is_reserved was.reserved page ≡ false)
      → IsFreeRun now (get_or slots i e).1.first (get_or slots i e).1.pages
  free-next sound pairs free =
      let extent = (sound i e inside).sound.extent in
      record {
        above = extent.from;
        within = subst (λ (pages : ℕ). (get_or slots i e).1.first + (get_or slots i e).1.pages ≤ pages) (sym same) extent.to;
        free = λ page a b.
            let here = in_run (extent_of (get_or slots i e).1) page a b in
            reserved page ∙ both_false _ _ (free page (page-of slots i e inside page here)) (page-before slots i e inside pairs page here);
      }

  -- and then it is taken
  pub taken-next : (new : Space) (extent : Extent) → extent ≡ extent_of (get_or slots i e).1 → new ≡ reserved_with extent now
      → (page : ℕ) → is_reserved new.reserved page ≡ (is_reserved was.reserved page || is_reserved (extents_of (take (i + 1) slots)) page)
  taken-next new extent is to page =
      ap (λ space. is_reserved space.reserved page) to ∙ is_reserved-with_extent extent now.reserved page
      ∙ ap (λ x. is_in page x || is_reserved now.reserved page) is
      ∙ reserved-more slots i e inside (is_reserved was.reserved page) page (is_reserved now.reserved page) (reserved page)
