-- A step for worked examples: it counts the lines, and refuses a line of four bytes or more by the count so far.
use Rattle.std.specs.Prelude.{ℕ, ◌+◌, nat_lt, if◌then◌else◌, List, length, Result, Ok, Err}

abbrev pub shorter_than_four : List ℕ → ℕ → Result ℕ ℕ
shorter_than_four line count = if nat_lt (length line) 4 then Ok (count + 1) else Err count
