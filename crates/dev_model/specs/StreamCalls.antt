-- What one read of a source gives and one write to a sink takes, where they tell it.
use Rattle.std.specs.Prelude.{◌≡◌, ℕ, List, [], ◌++◌, take, drop, Option, Some, None, Result, Ok, Err}

-- of the bytes that were left, the first n stand at the front of the buffer, and the others are left;
-- none come only at the end
pub record Gave (bytes : List ℕ) (after : Option (List ℕ)) (buffer : List ℕ) (n : ℕ) : Type 0 where
  pub front : take n buffer ≡ take n bytes
  pub rest : after ≡ Some (drop n bytes)
  pub ended : n ≡ 0 → bytes ≡ []

-- a read: what is left before and after it, the buffer after it, and what it answers
abbrev pub Gives : {E : Type 0} → Option (List ℕ) → Option (List ℕ) → List ℕ → Result ℕ E → Type 0
Gives None after buffer r = Unit {0}
Gives (Some bytes) after buffer (Ok n) = Gave bytes after buffer n
Gives (Some bytes) after buffer (Err e) = after ≡ Some bytes

-- a write of some bytes: what was taken before and after it, the bytes, and what it answers
abbrev pub Takes : {E : Type 0} → Option (List ℕ) → Option (List ℕ) → List ℕ → Result ℕ E → Type 0
Takes None after bytes r = Unit {0}
Takes (Some before) after bytes (Ok n) = after ≡ Some (before ++ take n bytes)
Takes (Some before) after bytes (Err e) = after ≡ Some before
