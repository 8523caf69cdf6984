-- No public contract needs this file: how a scan goes over a level, range by range.
use Rattle.std.specs.Prelude.{◌≡◌, ℕ, zero, suc, ◌-◌, ◌<◌, ◌≤◌, max, nat_lt, Bool, List, [], ◌∷◌, ◌++◌, take, drop, length, get_or, Option, if◌then◌else◌}
use Rattle.std.specs.List.{prefix_len}
use Rattle.std.specs.Ordering.{is_lt}
use Rattle.std.specs.Int.{div_ceil}
use Rattle.dev_model.specs.Story.{WhereTold}
use Rattle.page_codec.specs.Page.{IsPage, row_count}
use Rattle.dev_model.specs.declared.page_faults.PageFault.{PageFault}
use Rattle.btree_image.specs.declared.hand.InHand.{InHand}
use Rattle.btree_image.specs.declared.runs.Run.{Run}
use Rattle.tree_shape.specs.Shape.{span, level_size, numbers}
use Rattle.btree_image.specs.Rows.{Layout}
use Rattle.btree_image.specs.Image.{shape_of, level_kind}
use Rattle.btree_image.specs.Pages.{page_number}
use Rattle.btree_image.specs.Descent.{rank, place_of_key}
use Rattle.dev_model.specs.Asked.{GoesAlong}
use Rattle.dev_model.specs.Lending.{Lending}
use Rattle.btree_image.specs.Reading.{ReadsTree}

-- How a reader of a tree went on along a way, with a page in hand before.
pub record GoesOn {T K S : Type 0} (l : Layout T K) (at rows : ℕ) (lending : S → Lending) (asked : S → S → List (ℕ × Bool) → Type 0) (first second : S)
    (fault : Option PageFault) (hand way : List ℕ) : Type 0 where
  pub pages : List ℕ
  pub along : GoesAlong fault pages way
  pub reads : ReadsTree l at rows lending asked first second fault hand pages

-- the page in hand was read at a place of a level, and is a page of that level
pub record IsInHand {T K : Type 0} (l : Layout T K) (first rows : ℕ) (contents : Option (ℕ → List ℕ)) (level at : ℕ) (hand : InHand) : Type 0 where
  pub inside : at < level_size (shape_of l rows) level
  pub number : hand.page ≡ page_number l first rows level at
  pub is_page : IsPage (level_kind l level) level hand.buf
  pub count : hand.count ≡ row_count hand.buf
  pub some : 0 < level → 0 < hand.count
  pub told : WhereTold contents (λ bytes. hand.buf ≡ bytes (page_number l first rows level at))

-- the page before the next place of a level is in hand, once there is one
abbrev pub Holds : {T K : Type 0} → Layout T K → (first rows : ℕ) → Option (ℕ → List ℕ) → (level : ℕ) → InHand → Type 0
Holds l first rows contents level hand = 0 < hand.next → IsInHand l first rows contents level (hand.next - 1) hand

-- its number, if there is one
abbrev pub in_hand : {T K : Type 0} → Layout T K → (first rows level next : ℕ) → List ℕ
in_hand l first rows level zero = []
in_hand l first rows level (suc at) = page_number l first rows level at ∷ []

-- the places from one up to another that were not passed yet
abbrev pub places_in : (next first end : ℕ) → List ℕ
places_in next first end = numbers (max first next) (end - max first next)

-- the next place behind a run
abbrev pub next_behind : (next first end : ℕ) → ℕ
next_behind next first end = if nat_lt first end then max next end else next

-- the places of a level that a walk over its runs reads
unfoldable pub walk : ℕ → List Run → List ℕ
walk next [] = []
walk next (run ∷ runs) = places_in next run.first run.end ++ walk (next_behind next run.first run.end) runs

-- the rows from one place up to another
abbrev pub part : {T : Type 0} → List T → (from to : ℕ) → List T
part list from to = take (to - from) (drop from list)

module _ {T K : Type 0} (l : Layout T K) (list : List T) where
  -- how many rows have a key that is below that key
  abbrev pub rank_below : K → ℕ
  rank_below key = prefix_len (λ row. is_lt (l.order (l.key_of row) key)) list

  -- how many pages of a level hold the rows up to a key
  abbrev pub end_of_key : K → ℕ → ℕ
  end_of_key key level = div_ceil (rank l list key) (span (shape_of l (length list)) level)

  -- the places of a level that meet a range
  abbrev pub run_of : ℕ → K × K → Run
  run_of level range = record { first = place_of_key l list range.0 level; end = end_of_key range.1 level }

  -- a run of which a range may be narrowed down: its own, and one of the first page where the range lies before all rows
  pub record Leads (level : ℕ) (range : K × K) (run : Run) : Type 0 where
    pub first_is : run.first ≡ place_of_key l list range.0 level
    pub end_is : 0 < rank l list range.1 → run.end ≡ end_of_key range.1 level
    pub none : rank l list range.1 ≡ 0 → run.end ≤ 1

  -- the rows of a range
  abbrev pub rows_of : K × K → List T
  rows_of range = part list (rank_below range.0) (rank l list range.1)

-- each run may be narrowed down for its range
abbrev pub AllLead : {T K : Type 0} → Layout T K → List T → ℕ → List (K × K) → List Run → Type 0
AllLead {K = K} l list level ranges runs = (i : ℕ) (range : K × K) (run : Run) → i < length runs → Leads l list level (get_or ranges i range) (get_or runs i run)

-- each run is its range's
abbrev pub AllRuns : {T K : Type 0} → Layout T K → List T → ℕ → List (K × K) → List Run → Type 0
AllRuns {K = K} l list level ranges runs = (i : ℕ) (range : K × K) (run : Run) → i < length runs → get_or runs i run ≡ run_of l list level (get_or ranges i range)
