-- Which calls were made on a device, told or not, how far they came, and how far the clock went.
use Rattle.std.specs.Prelude.{◌≡◌, ◌⊎◌, ℕ, ◌+◌, ◌≤◌, [], ◌∷◌, length, Option, Result, Ok, Err, option_map}
use Rattle.dev_model.specs.Counts.{HasCause}
use Rattle.dev_model.specs.Story.{Call, DeviceState, Calls, Story, with_call, Read, Write, Sync, FailedWrite, FailedCall}

-- a story that is told goes on by this call
abbrev pub noted : Call → Option Story → Option Story
noted call story = option_map (λ s. with_call s call) story

-- a story that is told goes on by these calls
abbrev pub all_noted : Calls → Option Story → Option Story
all_noted [] story = story
all_noted (call ∷ calls) story = all_noted calls (noted call story)

-- A call failed and changed nothing. At the clock's last value it isn't told.
abbrev pub HasChangedNothing : Option Story → Option Story → Type 0
HasChangedNothing old new = (new ≡ noted FailedCall old) ⊎ (new ≡ old)

-- This call was tried and failed. A write may have left anything in its range, or the device knows that it left nothing.
-- Calls that failed aren't tried.
abbrev pub HasFailed : Call → Option Story → Option Story → Type 0
HasFailed (Read at count) old new = HasChangedNothing old new
HasFailed (Write at bytes) old new = (new ≡ noted (FailedWrite at bytes) old) ⊎ HasChangedNothing old new
HasFailed Sync old new = HasChangedNothing old new
HasFailed (FailedWrite at bytes) old new = ⊥
HasFailed FailedCall old new = ⊥

-- of these calls the first few succeeded, and the next one failed
abbrev pub HasStoppedIn : Calls → Option Story → Option Story → Type 0
HasStoppedIn [] old new = ⊥
HasStoppedIn (call ∷ calls) old new = HasFailed call old new ⊎ HasStoppedIn calls (noted call old) new

-- what was done on a device: these calls in this order, or the first of them up to one that failed
abbrev pub Did : {X E : Type 0} → Calls → Option Story → Option Story → Result X E → Type 0
Did calls old new (Ok x) = new ≡ all_noted calls old
Did calls old new (Err e) = HasStoppedIn calls old new

-- The clock over so many calls, told or not. Where one failed, those behind it weren't made.
abbrev pub Ticks : {X E : Type 0} → ℕ → ℕ → ℕ → Result X E → Type 0
Ticks count old new (Ok x) = new ≡ old + count
Ticks count old new (Err e) = (old ≤ new) × (new ≤ old + count)

-- what a call made on its device: these calls, or the first of them up to one that failed
pub record Made {X E : Type 0} (calls : Calls) (old new : DeviceState) (result : Result X E) : Type 0 where
  pub did : Did calls old.story new.story result
  pub ticks : Ticks (length calls) old.clock new.clock result
  pub same_pages : new.pages ≡ old.pages
  pub cause : HasCause old.faults new.faults result
