-- Laws of the lists of calls that succeeded. No public contract needs them.
use Rattle.std.proofs.Common.{◌≡◌, ℕ, suc, ◌+◌, List, [], ◌∷◌, ◌++◌, length, ◌∙◌, ap, arith}
use Rattle.dev_model.specs.Story.{Call, Read, Write, Sync, FailedWrite, FailedCall, Calls, Story, clock_of, with_call, after}
use Rattle.dev_model.specs.DeviceCalls.{made_at, ok_calls}
use Rattle.dev_model.specs.declared.calls.DeviceCall.{DeviceCall}
use Rattle.dev_model.specs.declared.calls.DeviceAct.TheVariants.{ReadAt, WriteAt, SyncAll}

pub clock_of-after : (s : Story) (calls : Calls) → clock_of (after s calls) ≡ clock_of s + length calls
clock_of-after s [] = omega arith
clock_of-after s (call ∷ calls) = omega (arith, clock_of-after (with_call s call) calls)

pub ok_calls-append : (clock : ℕ) (calls more : Calls) → ok_calls clock (calls ++ more) ≡ ok_calls clock calls ++ ok_calls (clock + length calls) more
ok_calls-append clock [] more = let e : clock ≡ clock + 0 = omega arith in ap (λ (n : ℕ). ok_calls n more) e
ok_calls-append clock (call ∷ calls) more =
    let e : clock + 1 + length calls ≡ clock + suc (length calls) = omega arith in
    let rest : ok_calls (clock + 1) (calls ++ more) ≡ ok_calls (clock + 1) calls ++ ok_calls (clock + suc (length calls)) more =
    ok_calls-append (clock + 1) calls more ∙ ap (λ (n : ℕ). ok_calls (clock + 1) calls ++ ok_calls n more) e in
    by_call call rest
  where
    by_call : (call : Call) → ok_calls (clock + 1) (calls ++ more) ≡ ok_calls (clock + 1) calls ++ ok_calls (clock + suc (length calls)) more
        → ok_calls clock (call ∷ (calls ++ more)) ≡ ok_calls clock (call ∷ calls) ++ ok_calls (clock + suc (length calls)) more
    by_call (Read at count) rest = ap (λ (l : List DeviceCall). made_at (clock + 1) (ReadAt at count) ∷ l) rest
    by_call (Write at new) rest = ap (λ (l : List DeviceCall). made_at (clock + 1) (WriteAt at (length new)) ∷ l) rest
    by_call Sync rest = ap (λ (l : List DeviceCall). made_at (clock + 1) SyncAll ∷ l) rest
    by_call (FailedWrite at new) rest = rest
    by_call FailedCall rest = rest
