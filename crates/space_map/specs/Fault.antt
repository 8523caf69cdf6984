-- What a fault prints.
use Rattle.std.specs.Prelude.{ℕ, List, ◌++◌, codes}
use Rattle.std.specs.Fmt.{decimal}
use Rattle.space_map.specs.declared.space.SpaceFault.{SpaceFault}
use Rattle.space_map.specs.declared.space.SpaceFault.TheVariants.{NoRun, OutOfMemory}

abbrev pub fault_text : SpaceFault → List ℕ
fault_text (NoRun need longest) = codes "no run of " ++ (decimal need ++ (codes " free pages: the longest has " ++ decimal longest))
fault_text OutOfMemory = codes "out of memory"
