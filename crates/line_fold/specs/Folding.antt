-- What a text says where each of its lines takes a state to the next one or is refused, and where a text may
-- have so many bytes at the most.
use Rattle.std.specs.Prelude.{ℕ, nat_le, if◌then◌else◌, List, [], ◌∷◌, length, take, Result, Ok, Err}
use Rattle.line_fold.specs.Lines.{lines_of, ended_lines}

abbrev pub continued : {A B E : Type 0} → (A → Result B E) → Result A E → Result B E
continued f (Ok x) = f x
continued f (Err e) = Err e

abbrev pub fold_lines : {S E : Type 0} → (List ℕ → S → Result S E) → List (List ℕ) → S → Result S E
fold_lines step [] s = Ok s
fold_lines step (line ∷ lines) s = continued (fold_lines step lines) (step line s)

-- past the limit only what is wrong with a line that ended before it is named
abbrev pub past_limit : {S E : Type 0} → E → Result S E → Result S E
past_limit too_long (Ok s) = Err too_long
past_limit too_long (Err e) = Err e

abbrev pub folded : {S E : Type 0} → ℕ → E → (List ℕ → S → Result S E) → List ℕ → S → Result S E
folded most too_long step bytes s =
    if nat_le (length bytes) most
    then fold_lines step (lines_of bytes) s
    else past_limit too_long (fold_lines step (ended_lines (take most bytes)) s)
