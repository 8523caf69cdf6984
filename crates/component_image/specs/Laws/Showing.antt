-- Pages show one list at most. No public contract needs these laws.
use Rattle.std.proofs.Common.{◌≡◌, ℕ, zero, suc, ◌+◌, ◌*◌, ◌<◌, ◌≤◌, List, [], ◌∷◌, ◌++◌, length, take, drop, map, All, Option, Some, None, refl, sym, ◌∙◌, ap, subst, arith}
use Rattle.std.proofs.lemmas.List.{take_all}
use Rattle.std.proofs.lemmas.List.Elements.{All-head, All-tail, All-take, All-drop}
use Rattle.dev_model.specs.Story.{Bytes}
use Rattle.page_codec.specs.Page.{rows_on}
use Rattle.tree_shape.specs.Shape.{level_size, level_start, span, IsPlace}
use Rattle.tree_shape.specs.declared.levels.Shape.{Shape}
use Rattle.tree_shape.specs.Laws.Covers.{size_covers, span-zero}
use Rattle.btree_image.specs.Rows.{IsStored}
use Rattle.btree_image.specs.Image.{shape_of, level_rows}
use Rattle.comp_dir.specs.declared.slots.Slot.{Slot}
use Rattle.primary_ix.specs.Rows.{prim_layout}
use Rattle.primary_ix.specs.declared.rows.PrimRow.{PrimRow}
use Rattle.table_model.specs.Table.{Table}
use Rattle.wal_log.specs.Later.{later}
use Rattle.wal_log.specs.Rules.{records_of}
use Rattle.wal_log.specs.Segments.{segments_of}
use Rattle.format_numbers.specs.declared.TheConstants.{LOG_START}
use Rattle.component_image.specs.Replayed.{replayed}
use Rattle.component_image.specs.Components.{end_of}
use Rattle.component_image.specs.Content.{page_at, Shows, ShowAll}
use Rattle.component_image.specs.Laid.{table_of}
use Rattle.component_image.specs.Recovered.{primary_of, Recovers}

somes : List (Option PrimRow) → List PrimRow
somes [] = []
somes (None ∷ found) = somes found
somes (Some row ∷ found) = row ∷ somes found

-- stored rows are found again in their bytes
found_again : (rows : List PrimRow) → All (IsStored prim_layout) rows → somes (map prim_layout.of_bytes (map prim_layout.to_bytes rows)) ≡ rows
unfolding somes
found_again [] all = refl
found_again (row ∷ rows) all =
    let here : prim_layout.of_bytes (prim_layout.to_bytes row) ≡ Some row = (All-head (IsStored prim_layout) row rows all).row_back in
    ap (λ (o : Option PrimRow). somes (o ∷ map prim_layout.of_bytes (map prim_layout.to_bytes rows))) here
    ∙ ap (λ (rs : List PrimRow). row ∷ rs) (found_again rows (All-tail (IsStored prim_layout) row rows all))

same_bytes : (xs ys : List PrimRow) → All (IsStored prim_layout) xs → All (IsStored prim_layout) ys → map prim_layout.to_bytes xs ≡ map prim_layout.to_bytes ys → xs ≡ ys
same_bytes xs ys stored_xs stored_ys same =
    sym (found_again xs stored_xs) ∙ ap (λ (bs : List (List ℕ)). somes (map prim_layout.of_bytes bs)) same ∙ found_again ys stored_ys

take-sum : {X : Type 0} (m n : ℕ) (xs : List X) → take (m + n) xs ≡ take m xs ++ take n (drop m xs)
take-sum zero n xs = let e : 0 + n ≡ n = omega arith in ap (λ (k : ℕ). take k xs) e
take-sum (suc m) n [] = take_all (suc m + n) [] (omega arith) ∙ sym (take_all n [] (omega arith))
take-sum (suc m) n (x ∷ xs) = let e : suc m + n ≡ suc (m + n) = omega arith in ap (λ (k : ℕ). take k (x ∷ xs)) e ∙ ap (λ (ys : List _). x ∷ ys) (take-sum m n xs)

module _ (bytes : Bytes) (s : Slot) (xs ys : List PrimRow) (x : Shows bytes s xs) (y : Shows bytes s ys) where
  count : length xs ≡ length ys
  count = x.is.count ∙ sym y.is.count

  leaf : (at : ℕ) → at < level_size (shape_of prim_layout (length xs)) 0 → take 52 (drop (at * 52) xs) ≡ take 52 (drop (at * 52) ys)
  unfolding level_rows
  leaf at lt =
      let place : IsPlace (shape_of prim_layout (length xs)) 0 at = record { inside = lt; up_to_root = λ below less. absurd (omega (arith, less)) } in
      let place_there : IsPlace (shape_of prim_layout (length ys)) 0 at = subst (λ (n : ℕ). IsPlace (shape_of prim_layout n) 0 at) count place in
      same_bytes (take 52 (drop (at * 52) xs)) (take 52 (drop (at * 52) ys))
      (All-take (IsStored prim_layout) 52 (drop (at * 52) xs) (All-drop (IsStored prim_layout) (at * 52) xs x.is.stored))
      (All-take (IsStored prim_layout) 52 (drop (at * 52) ys) (All-drop (IsStored prim_layout) (at * 52) ys y.is.stored))
      (sym (x.shows 0 at place).all
      ∙ ap (λ (n : ℕ). rows_on (page_at bytes (s.first + (level_start (shape_of prim_layout n) 0 + at)))) count
      ∙ (y.shows 0 at place_there).all)

  front : (k : ℕ) → k ≤ level_size (shape_of prim_layout (length xs)) 0 → take (k * 52) xs ≡ take (k * 52) ys
  front zero le = refl
  front (suc k) le =
      let e : suc k * 52 ≡ k * 52 + 52 = omega arith in
      ap (λ (n : ℕ). take n xs) e ∙ take-sum (k * 52) 52 xs
      ∙ (λ j. front k (omega (arith, le)) j ++ leaf k (omega (arith, le)) j)
      ∙ sym (take-sum (k * 52) 52 ys) ∙ ap (λ (n : ℕ). take n ys) (sym e)

  -- both lists are the rows of the leaves
  pub one_list : xs ≡ ys
  one_list =
      let shape : Shape = shape_of prim_layout (length xs) in
      let covers : length xs ≤ level_size shape 0 * span shape 0 = size_covers shape (omega arith) (omega arith) 0 in
      let wide : span shape 0 ≡ 52 = span-zero shape in
      let all : length xs ≤ level_size shape 0 * 52 = subst (λ (n : ℕ). length xs ≤ level_size shape 0 * n) wide covers in
      sym (take_all (level_size shape 0 * 52) xs all) ∙ front (level_size shape 0) (omega arith) ∙ take_all (level_size shape 0 * 52) ys (omega (arith, all, count))

-- the lists of all components
pub same_lists_shown : (bytes : Bytes) (slots : List Slot) (xs ys : List (List PrimRow)) → ShowAll bytes slots xs → ShowAll bytes slots ys → xs ≡ ys
same_lists_shown bytes [] [] [] x y = refl
same_lists_shown bytes [] [] (rows ∷ ys) x y = absurd y
same_lists_shown bytes [] (rows ∷ xs) ys x y = absurd x
same_lists_shown bytes (s ∷ slots) [] ys x y = absurd x
same_lists_shown bytes (s ∷ slots) (rows ∷ xs) [] x y = absurd y
same_lists_shown bytes (s ∷ slots) (rows ∷ xs) (others ∷ ys) x y = λ j. one_list bytes s rows others x.0 y.0 j ∷ same_lists_shown bytes slots xs ys x.1 y.1 j

-- an image recovers to one table at most
pub one_table : (pages : ℕ) (one other : Table) (bytes : Bytes) → Recovers pages one bytes → Recovers pages other bytes → one ≡ other
one_table pages one other bytes r q =
    r.table_is
    ∙ ap (λ (lists : List (List PrimRow)). replayed (table_of lists) (later (end_of (primary_of bytes)) (records_of (segments_of LOG_START bytes)))) (same_lists_shown bytes (primary_of bytes) r.lists q.lists r.shown q.shown)
    ∙ sym q.table_is
