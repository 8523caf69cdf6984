-- What asking for pages makes of a device.
use Rattle.std.specs.Prelude.{◌≡◌, ℕ, ◌+◌, ◌-◌, ◌*◌, ◌^◌, Bool, true, false, nat_lt, if◌then◌else◌, List, [], ◌∷◌, length, map}
use Rattle.dev_model.specs.Story.{Call, DeviceState, Read, FailedCall, Calls}
use Rattle.dev_model.specs.Doing.{all_noted}
use Rattle.device_pages.specs.declared.lending.TheConstants.{PAGE_BYTES}

-- the call that reads a page
abbrev pub read_of : ℕ → Call
read_of page = Read (page * PAGE_BYTES) PAGE_BYTES

-- The calls that asking for these pages, each given or not, leaves in a story from this clock on: a read for each page
-- that was given, and a failed call for each other one. At the clock's last value a failed call isn't told.
abbrev pub calls_of : ℕ → List (ℕ × Bool) → Calls
calls_of clock [] = []
calls_of clock ((page, true) ∷ asked) = read_of page ∷ calls_of (clock + 1) asked
calls_of clock ((page, false) ∷ asked) = if nat_lt clock (2 ^ 64 - 1) then FailedCall ∷ calls_of (clock + 1) asked else calls_of clock asked

-- the pages that were asked for, given or not
abbrev pub pages_of : List (ℕ × Bool) → List ℕ
pages_of asked = map (λ x. x.0) asked

-- these pages, each given or not, were asked for in turn, and nothing else was done
pub record Asked (asked : List (ℕ × Bool)) (old new : DeviceState) : Type 0 where
  pub same_pages : new.pages ≡ old.pages
  pub clock : new.clock ≡ old.clock + length (calls_of old.clock asked)
  pub told : new.story ≡ all_noted (calls_of old.clock asked) old.story
