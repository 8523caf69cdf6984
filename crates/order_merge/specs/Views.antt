-- The lists of an index: the active one, the frozen one where there is one, and those of the disk components, newest first.
use Rattle.std.specs.Prelude.{List, ◌∷◌, ◌++◌, Option}
use Rattle.std.specs.Option.{option_to_list}

-- these lists, the newest first; L is a list of entries, or what stands for one
abbrev pub lists_of : {L : Type 0} → (active : L) (frozen : Option L) (disk : List L) → List L
lists_of active frozen disk = active ∷ (option_to_list frozen ++ disk)
