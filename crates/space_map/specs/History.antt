-- What becomes of a map under any reservations and releases.
use Rattle.std.specs.Prelude.{◌≡◌, ℕ, ◌+◌, ◌≤◌, List, [], ◌∷◌}
use Rattle.std.specs.List.{Contains}
use Rattle.space_map.specs.declared.space.Extent.{Extent}
use Rattle.space_map.specs.Space.{Space, IsFirstFit, reserved_with}
use Rattle.space_map.specs.Calls.{released_from, reserved_end}

pub data Change : Type 0 where
  Reserved : Extent → Change
  Released : Extent → Change

-- `new` is left of `old` by these changes; each reservation took the first fit
abbrev pub AfterChanges : List Change → (old new : Space) → Type 0
AfterChanges [] old new = new ≡ old
AfterChanges (Reserved e ∷ changes) old new = IsFirstFit old e.pages e.first × AfterChanges changes (reserved_with e old) new
AfterChanges (Released e ∷ changes) old new = Contains old.reserved e × AfterChanges changes (released_from e old) new

-- all pages that were ever reserved, each as often as it was
abbrev pub pages_reserved : List Change → ℕ
pages_reserved [] = 0
pages_reserved (Reserved e ∷ changes) = e.pages + pages_reserved changes
pages_reserved (Released e ∷ changes) = pages_reserved changes

-- what is reserved never ends further on than that many pages behind its end at first: behind the first data page,
-- where nothing was reserved
abbrev pub FirstFitStaysNear : Type 0
FirstFitStaysNear = (changes : List Change) (old new : Space) → AfterChanges changes old new
    → reserved_end new.reserved ≤ reserved_end old.reserved + pages_reserved changes
