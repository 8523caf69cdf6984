-- What a reader of pages asked for, and what it did.
use Rattle.std.specs.Prelude.{◌≡◌, ℕ, ◌≤◌, Bool, true, false, List, [], ◌∷◌, ◌++◌, Option, Some, None, Result, Ok, Err, All, IsTrue}
use Rattle.dev_model.specs.declared.page_faults.PageFault.{PageFault}
use Rattle.dev_model.specs.declared.page_faults.PageFault.TheVariants.{Failed, Damaged}
use Rattle.dev_model.specs.Counts.{Rose}
use Rattle.dev_model.specs.Story.{WhereTold}
use Rattle.dev_model.specs.Given.{given}
use Rattle.dev_model.specs.Lending.{Lending}

-- these pages, each given but the last
abbrev pub given_but_last : List ℕ → List (ℕ × Bool)
given_but_last [] = []
given_but_last (page ∷ []) = (page, false) ∷ []
given_but_last (page ∷ next ∷ more) = (page, true) ∷ given_but_last (next ∷ more)

-- the fault of an answer
abbrev pub fault_of : {X : Type 0} → Result X PageFault → Option PageFault
fault_of (Ok x) = None
fault_of (Err fault) = Some fault

-- what was asked for, by the fault and the pages in order: a reader stops at the first page that isn't given
abbrev pub reads_by : Option PageFault → List ℕ → List (ℕ × Bool)
reads_by (Some Failed) pages = given_but_last pages
reads_by fault pages = given pages

abbrev pub reads_of : {X : Type 0} → Result X PageFault → List ℕ → List (ℕ × Bool)
reads_of result pages = reads_by (fault_of result) pages

-- the pages end with this one
abbrev pub EndsWith : List ℕ → ℕ → Type 0
EndsWith pages page = (before : List ℕ) × (pages ≡ before ++ page ∷ [])

-- a fault was caused by the page that was asked for last: one of these, or else the one in hand before
abbrev pub StopsOn : Option PageFault → (hand pages : List ℕ) → Type 0
StopsOn (Some Failed) hand pages = (page : ℕ) × EndsWith pages page
StopsOn (Some (Damaged page)) hand pages = EndsWith (hand ++ pages) page
StopsOn fault hand pages = Unit {0}

-- all the pages of a way, or with a fault the first few of them
abbrev pub GoesAlong : Option PageFault → (pages way : List ℕ) → Type 0
GoesAlong None pages way = pages ≡ way
GoesAlong (Some fault) pages way = (left : List ℕ) × (pages ++ left ≡ way)

abbrev pub GoesBy : {X : Type 0} → Result X PageFault → (pages way : List ℕ) → Type 0
GoesBy result pages way = GoesAlong (fault_of result) pages way

-- How a reader went, on any pages: it asked for lent pages, in one list, and stopped at the first that it could not use.
pub record Went {X : Type 0} (lent : ℕ → Bool) (asked : List (ℕ × Bool) → Type 0) (result : Result X PageFault) (pages : List ℕ) : Type 0 where
  pub asked_for : asked (reads_of result pages)
  pub are_lent : All (λ page. IsTrue (lent page)) pages
  pub stops : StopsOn (fault_of result) [] pages

-- what is said of the page that a fault gives as damaged
abbrev pub OnDamaged : Option PageFault → (ℕ → Type 0) → Type 0
OnDamaged (Some (Damaged page)) P = P page
OnDamaged fault P = Unit {0}

-- what is said where a page was not given
abbrev pub OnFailed : Option PageFault → Type 0 → Type 0
OnFailed (Some Failed) P = P
OnFailed fault P = Unit {0}

-- what is said where there is no fault
abbrev pub OnGiven : Option PageFault → Type 0 → Type 0
OnGiven None P = P
OnGiven fault P = Unit {0}

-- What a reader did between two states of the pages that are lent to it, with a page in hand or none. It asked for these pages,
-- in one list, and left what is lent. Without a fault each page that it was given was tested. `Failed` comes where the count of
-- faults rose, or stands at the greatest u64, `Damaged` where the page is bad, and both from the page that was asked for last.
pub record Reads {S : Type 0} (lending : S → Lending) (asked : S → S → List (ℕ × Bool) → Type 0) (IsBad IsTested : (ℕ → List ℕ) → ℕ → Type 0)
    (first second : S) (fault : Option PageFault) (hand pages : List ℕ) : Type 0 where
  pub same_lent : (lending second).lent ≡ (lending first).lent
  pub same_contents : (lending second).contents ≡ (lending first).contents
  pub later : (lending first).faults ≤ (lending second).faults
  pub failed : OnFailed fault (Rose (lending first).faults (lending second).faults)
  pub damaged : OnDamaged fault (λ page. WhereTold (lending first).contents (λ contents. IsBad contents page))
  pub asked_for : asked first second (reads_by fault pages)
  pub are_lent : All (λ page. IsTrue ((lending first).lent page)) pages
  pub stops : StopsOn fault hand pages
  pub tested : OnGiven fault (WhereTold (lending first).contents (λ contents. All (IsTested contents) pages))
