-- Which disk components a policy may choose.
use Rattle.std.specs.Prelude.{ℕ, ◌+◌, ◌≤◌, List, length, Option}
use Rattle.std.specs.Option.{ForSome}
use Rattle.std.specs.Borrow.{Bor}
use Rattle.stored_rules.specs.declared.policy.TheConstants.{MOST_COMPONENTS}

-- none, or at least two components side by side
abbrev pub IsRange : ℕ → Option (ℕ × ℕ) → Type 0
IsRange n r = ForSome r (λ range. (range.0 + 2 ≤ range.1) × (range.1 ≤ n))

-- whatever the function answers of so many components is none or such a range
abbrev pub AnswersRanges : (Bor (List ℕ) → Option (ℕ × ℕ) → Type 0) → Type 0
AnswersRanges post = (rows : Bor (List ℕ)) (r : Option (ℕ × ℕ)) → length rows.now ≤ MOST_COMPONENTS → post rows r → IsRange (length rows.now) r
