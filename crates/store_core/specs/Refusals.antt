-- The refusals of calls of the store, where reading pages was refused, and where a begin was.
use Rattle.std.specs.Prelude.{ℕ}
use Rattle.dev_model.specs.declared.page_faults.PageFault.{PageFault}
use Rattle.dev_model.specs.declared.page_faults.PageFault.TheVariants as page
use Rattle.store_machine.specs.declared.events.Refusal.{Refusal}
use Rattle.store_machine.specs.declared.events.Refusal.TheVariants.{Again, Fault, Full, Damaged, OutOfMemory}
use Rattle.store_state.specs.declared.faults.BeginFault.{BeginFault}
use Rattle.store_state.specs.declared.faults.BeginFault.TheVariants as begin

abbrev pub refusal_of : PageFault → Refusal
refusal_of page.Failed = Fault
refusal_of (page.Damaged n) = Damaged n
refusal_of page.OutOfMemory = OutOfMemory

-- where so many writes wait
abbrev pub refusal_of_begin : (ops : ℕ) → BeginFault → Refusal
refusal_of_begin ops begin.Held = Again ops
refusal_of_begin ops (begin.Full need longest) = Full need longest
refusal_of_begin ops begin.OutOfMemory = OutOfMemory
