-- What a source gives and a sink takes, where they tell it.
use Rattle.std.specs.Prelude.{◌≡◌, ℕ, List, ◌++◌, Option, Some, None, Result, Ok, Err}

-- a front of the text was taken, and no more
pub record IsCutOff (before : List ℕ) (after : Option (List ℕ)) (text : List ℕ) : Type 0 where
  pub sent : List ℕ
  pub unsent : List ℕ
  pub whole : text ≡ sent ++ unsent
  pub taken : after ≡ Some (before ++ sent)

-- the whole text was taken, or on a fault a front of it
abbrev pub Says : {X E : Type 0} → Option (List ℕ) → Option (List ℕ) → List ℕ → Result X E → Type 0
Says None after text r = Unit {0}
Says (Some before) after text (Ok x) = after ≡ Some (before ++ text)
Says (Some before) after text (Err e) = IsCutOff before after text
