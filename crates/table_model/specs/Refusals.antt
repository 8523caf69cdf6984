-- Which refusals a command may have.
use Rattle.std.specs.Prelude.{List, [], ◌∷◌, Contains}
use Rattle.table_model.specs.declared.Why.{Why}
use Rattle.table_model.specs.declared.Why.TheVariants.{Fault, Stopped, Full, NoIndex, Damaged, Memory}
use Rattle.table_model.specs.Commands.{Command, on_table, flush, write, get, count, region}

-- A write changes the device and takes memory, and reads what stood at its key from pages that may be damaged. A get reads
-- such pages, and takes no memory. A count does none of this. A region is asked of an index, if the store has it, whose
-- pages may be damaged, and its answer takes memory. A flush changes the device and takes memory, and reads no page.
abbrev pub refusals_of : Command → List Why
refusals_of (on_table (write w)) = Fault ∷ Stopped ∷ Full ∷ Damaged ∷ Memory ∷ []
refusals_of (on_table (get key)) = Fault ∷ Damaged ∷ []
refusals_of (on_table count) = []
refusals_of (on_table (region kind r)) = Fault ∷ NoIndex ∷ Damaged ∷ Memory ∷ []
refusals_of flush = Fault ∷ Stopped ∷ Full ∷ Memory ∷ []

abbrev pub MayRefuse : Command → Why → Type 0
MayRefuse c why = Contains (refusals_of c) why
