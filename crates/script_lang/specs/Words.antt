-- A line as words.
use Rattle.std.specs.Prelude.{ℕ, Bool, not, ◌||◌, ◌==◌, if◌then◌else◌, List, ◌-◌, length, take, slice_index, filter}
use Rattle.std.specs.List.{slice_split}
use Rattle.line_fold.specs.Lines.{is_nothing}

-- a space or a tab
abbrev pub is_blank : ℕ → Bool
is_blank b = b == 32 || b == 9

-- one carriage return at the end of a line is dropped
abbrev pub without_return : List ℕ → List ℕ
without_return line = if slice_index line (length line - 1) == 13 then take (length line - 1) line else line

-- what stands between blanks
abbrev pub words_of : List ℕ → List (List ℕ)
words_of line = filter (λ word. not (is_nothing word)) (slice_split is_blank line)
