-- What one call of a device answers and tells.
use Rattle.std.specs.Prelude.{◌≡◌, ℕ, ◌+◌, ◌<◌, List, length, Option, OnOk, Result, Ok, Err, slice_index}
use Rattle.dev_model.specs.Counts.{HasCause, next_count}
use Rattle.dev_model.specs.Story.{Call, DeviceState, Story, bytes_of, IsReadable}
use Rattle.dev_model.specs.Doing.{noted, HasFailed}

-- the bytes that a read put into a buffer: those at its places, where they can be read
abbrev pub IsReadFrom : ℕ → List ℕ → Story → Type 0
IsReadFrom at buf s = (k : ℕ) → k < length buf → IsReadable s.past (at + k) → slice_index buf k ≡ bytes_of s (at + k)

-- one call of a device: the story goes on by it where it succeeded
abbrev pub Tells : {X E : Type 0} → Call → Option Story → Option Story → Result X E → Type 0
Tells call old new (Ok x) = new ≡ noted call old
Tells call old new (Err e) = HasFailed call old new

-- one call of a device: what it tells, a tick of the clock, the count of faults, and the length, which stays
pub record MadeCall {X E : Type 0} (call : Call) (old new : DeviceState) (result : Result X E) : Type 0 where
  pub told : Tells call old.story new.story result
  pub time : new.clock ≡ next_count old.clock
  pub ticks : OnOk result (new.clock ≡ old.clock + 1)
  pub same_pages : new.pages ≡ old.pages
  pub cause : HasCause old.faults new.faults result
