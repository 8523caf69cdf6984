-- What the words ask for.
use Rattle.std.specs.Prelude.{ℕ, List, [], ◌∷◌, codes, Option, Some, None, if◌then◌else◌}
use Rattle.std.specs.Option.{option_map}
use Rattle.std.specs.Str.{bytes_eq}

-- to format a device with these declared indexes, to run a script on a store, or both
pub data Task : Type 0 where
  format : (indexes : ℕ) → Task
  serial : Task
  fresh : (indexes : ℕ) → Task

-- which indexes a word declares, as bits
abbrev pub indexes_of : List ℕ → Option ℕ
indexes_of word = if bytes_eq word (codes "none") then Some 0 else if bytes_eq word (codes "dhvb") then Some 4 else None

abbrev pub one_word : List ℕ → Option Task
one_word word = if bytes_eq word (codes "serial") then Some serial else None

abbrev pub two_words : (word indexes : List ℕ) → Option Task
two_words word indexes =
    if bytes_eq word (codes "format") then option_map format (indexes_of indexes)
    else if bytes_eq word (codes "fresh") then option_map fresh (indexes_of indexes)
    else None

abbrev pub task_of : List (List ℕ) → Option Task
task_of [] = None
task_of (word ∷ []) = one_word word
task_of (word ∷ indexes ∷ []) = two_words word indexes
task_of (word ∷ indexes ∷ other ∷ words) = None
