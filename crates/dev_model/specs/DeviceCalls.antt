-- Which calls of a device succeeded, and when.
use Rattle.std.specs.Prelude.{ℕ, ◌+◌, List, [], ◌∷◌, length}
use Rattle.dev_model.specs.Story.{Read, Write, Sync, FailedWrite, FailedCall, Calls}
use Rattle.dev_model.specs.declared.calls.DeviceCall.{DeviceCall}
use Rattle.dev_model.specs.declared.calls.DeviceAct.{DeviceAct}
use Rattle.dev_model.specs.declared.calls.DeviceAct.TheVariants.{ReadAt, WriteAt, SyncAll}

-- a call that succeeded, and the clock right after it
abbrev pub made_at : ℕ → DeviceAct → DeviceCall
made_at clock act = record { act = act; clock = clock }

-- those of these calls that succeeded, where the first of them began at this clock
abbrev pub ok_calls : ℕ → Calls → List DeviceCall
ok_calls clock [] = []
ok_calls clock (Read at count ∷ calls) = made_at (clock + 1) (ReadAt at count) ∷ ok_calls (clock + 1) calls
ok_calls clock (Write at new ∷ calls) = made_at (clock + 1) (WriteAt at (length new)) ∷ ok_calls (clock + 1) calls
ok_calls clock (Sync ∷ calls) = made_at (clock + 1) SyncAll ∷ ok_calls (clock + 1) calls
ok_calls clock (FailedWrite at new ∷ calls) = ok_calls (clock + 1) calls
ok_calls clock (FailedCall ∷ calls) = ok_calls (clock + 1) calls
