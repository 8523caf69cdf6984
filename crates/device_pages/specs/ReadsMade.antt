-- The reads that asking for pages makes.
use Rattle.std.specs.Prelude.{ℕ, ◌+◌, ◌*◌, Bool, true, false, List, [], ◌∷◌}
use Rattle.dev_model.specs.Counts.{next_count}
use Rattle.dev_model.specs.DeviceCalls.{made_at}
use Rattle.dev_model.specs.declared.calls.DeviceCall.{DeviceCall}
use Rattle.dev_model.specs.declared.calls.DeviceAct.TheVariants.{ReadAt}
use Rattle.device_pages.specs.declared.lending.TheConstants.{PAGE_BYTES}

-- the reads that succeeded, each with the clock right after it
abbrev pub reads_made : ℕ → List (ℕ × Bool) → List DeviceCall
reads_made clock [] = []
reads_made clock ((page, true) ∷ asked) = made_at (clock + 1) (ReadAt (page * PAGE_BYTES) PAGE_BYTES) ∷ reads_made (clock + 1) asked
reads_made clock ((page, false) ∷ asked) = reads_made (next_count clock) asked
