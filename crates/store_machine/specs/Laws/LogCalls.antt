-- The calls of a plan, those of a logged write, and those of a plan that failed. No public contract needs these laws.
use Rattle.std.proofs.Common.{◌≡◌, inl, inr, ℕ, suc, ◌+◌, ◌≤◌, List, [], ◌∷◌, ◌++◌, length, Bool, true, false, get_or, Option, Some, None, refl, sym, ◌∙◌, ap, subst, arith}
use Rattle.std.proofs.lemmas.List.{length-append}
use Rattle.std.proofs.lemmas.Option.{same_Some}
use Rattle.dev_model.specs.Story.{Call, Calls, FailedCall, FailedWrite, Read, Story, Sync, Write, after, clock_of, with_call}
use Rattle.dev_model.specs.Doing.{HasChangedNothing, HasFailed, HasStoppedIn}
use Rattle.dev_model.specs.DeviceCalls.{made_at, ok_calls}
use Rattle.dev_model.specs.declared.calls.DeviceCall.{DeviceCall}
use Rattle.dev_model.specs.declared.calls.DeviceAct.{DeviceAct}
use Rattle.dev_model.specs.declared.calls.DeviceAct.TheVariants.{ReadAt, WriteAt, SyncAll}
use Rattle.wal_log.specs.Records.{record_bytes}
use Rattle.wal_log.specs.State.{close_calls_if, following, start_calls, turn_calls}
use Rattle.wal_log.specs.Changes.{append_calls}
use Rattle.wal_log.specs.declared.log.Log.{Log}
use Rattle.wal_log.specs.declared.records.Record.{Record}
use Rattle.store_machine.specs.Runs.{IsFront, gate_of, log_calls}

-- no call of the plan is one that failed
abbrev pub IsPlan : Calls → Type 0
IsPlan [] = Unit {0}
IsPlan (Read at count ∷ calls) = IsPlan calls
IsPlan (Write at new ∷ calls) = IsPlan calls
IsPlan (Sync ∷ calls) = IsPlan calls
IsPlan (FailedWrite at new ∷ calls) = ⊥
IsPlan (FailedCall ∷ calls) = ⊥

pub IsPlan-turn : (log : Log) → IsPlan (turn_calls log)
IsPlan-turn log = by_test (get_or log.open_headers (following log) false)
  where
    by_test : (is_open : Bool) → IsPlan (close_calls_if log.start is_open (following log) ++ start_calls log.start (following log) (log.generation + 1) log.next_lsn)
    by_test true = tt
    by_test false = tt

-- each call of a plan that was carried out succeeded
pub plan-length : (clock : ℕ) (plan : Calls) → IsPlan plan → length (ok_calls clock plan) ≡ length plan
plan-length clock [] is = refl
plan-length clock (Read at count ∷ plan) is = ap suc (plan-length (clock + 1) plan is)
plan-length clock (Write at new ∷ plan) is = ap suc (plan-length (clock + 1) plan is)
plan-length clock (Sync ∷ plan) is = ap suc (plan-length (clock + 1) plan is)
plan-length clock (FailedWrite at new ∷ plan) is = absurd is
plan-length clock (FailedCall ∷ plan) is = absurd is

-- the device calls of an append
pub append-calls : (clock : ℕ) (log : Log) (r : Record) → length (record_bytes r) ≡ 95 → ok_calls clock (append_calls log r) ≡ log_calls log clock
append-calls clock log r width j =
    let two : clock + 1 + 1 ≡ clock + 2 = omega arith in
    let three : clock + 1 + 1 + 1 ≡ clock + 3 = omega arith in
    let four : clock + 1 + 1 + 1 + 1 ≡ clock + 4 = omega arith in
    let whole : length (record_bytes r ++ 0 ∷ []) ≡ 96 = omega (arith, length-append (record_bytes r) (0 ∷ []), width) in
    made_at (clock + 1) (WriteAt (gate_of log + 1) (whole j)) ∷ made_at (two j) SyncAll ∷ made_at (three j) (WriteAt (gate_of log) 1) ∷ made_at (four j) SyncAll ∷ []

-- Of all these calls the first were made and the next one failed, which the story need not tell.
pub record StoppedBy (s : Story) (now : Option Story) (all made : List DeviceCall) : Type 0 where
  pub calls : Calls
  pub told : now ≡ Some (after s calls)
  pub made_is : ok_calls (clock_of s) calls ≡ made
  pub front : IsFront all made
  pub least : length made ≤ length calls
  pub most : length calls ≤ length made + 1

-- some of them were made
abbrev pub Stopped : (s : Story) (now : Option Story) (all : List DeviceCall) → Type 0
Stopped s now all = (made : List DeviceCall) × StoppedBy s now all made

-- the first call of a plan failed
stopped_here : (s : Story) (now : Option Story) (call : Call) (failed : DeviceCall) (left : List DeviceCall) → HasFailed call (Some s) now → Stopped s now (failed ∷ left)
stopped_here s now call failed left is = by_call call is
  where
    none_made : (calls : Calls) → now ≡ Some (after s calls) → ok_calls (clock_of s) calls ≡ [] → length calls ≤ 1 → Stopped s now (failed ∷ left)
    none_made calls told none few = ([], record { calls = calls; told = told; made_is = none; front = record { failed = failed; left = left; front = refl }; least = omega arith; most = few })

    unchanged : HasChangedNothing (Some s) now → Stopped s now (failed ∷ left)
    unchanged (inl told) = none_made (FailedCall ∷ []) told refl (omega arith)
    unchanged (inr same) = none_made [] same refl (omega arith)

    by_call : (c : Call) → HasFailed c (Some s) now → Stopped s now (failed ∷ left)
    by_call (Read at count) is = unchanged is
    by_call (Write at bytes) (inl told) = none_made (FailedWrite at bytes ∷ []) told refl (omega arith)
    by_call (Write at bytes) (inr none) = unchanged none
    by_call Sync is = unchanged is
    by_call (FailedWrite at bytes) is = absurd is
    by_call FailedCall is = absurd is

-- and behind a first call that succeeded
stopped_later : (s : Story) (now : Option Story) (call : Call) (act : DeviceAct) (plan : Calls) → ((more : Calls) → ok_calls (clock_of s) (call ∷ more) ≡ made_at (clock_of s + 1) act ∷ ok_calls (clock_of s + 1) more)
    → Stopped (with_call s call) now (ok_calls (clock_of (with_call s call)) plan) → Stopped s now (ok_calls (clock_of s) (call ∷ plan))
stopped_later s now call act plan made rest =
    let first : DeviceCall = made_at (clock_of s + 1) act in
    let by : StoppedBy (with_call s call) now (ok_calls (clock_of (with_call s call)) plan) rest.0 = rest.1 in
    let clock : clock_of (with_call s call) ≡ clock_of s + 1 = omega arith in (
      first ∷ rest.0,
      record {
        calls = call ∷ by.calls;
        told = by.told;
        made_is = made by.calls ∙ ap (λ (calls : List DeviceCall). first ∷ calls) (ap (λ (n : ℕ). ok_calls n by.calls) (sym clock) ∙ by.made_is);
        front = record {
          failed = by.front.failed;
          left = by.front.left;
          front = made plan ∙ ap (λ (calls : List DeviceCall). first ∷ calls) (ap (λ (n : ℕ). ok_calls n plan) (sym clock) ∙ by.front.front);
        };
        least = omega (arith, by.least);
        most = omega (arith, by.most);
      },
    )

pub stopped_in : (s : Story) (now : Option Story) (plan : Calls) → IsPlan plan → HasStoppedIn plan (Some s) now → Stopped s now (ok_calls (clock_of s) plan)
stopped_in s now [] is stopped = absurd stopped
stopped_in s now (Read at count ∷ plan) is (inl failed) = stopped_here s now (Read at count) _ _ failed
stopped_in s now (Read at count ∷ plan) is (inr later) = stopped_later s now (Read at count) (ReadAt at count) plan (λ more. refl) (stopped_in _ now plan is later)
stopped_in s now (Write at new ∷ plan) is (inl failed) = stopped_here s now (Write at new) _ _ failed
stopped_in s now (Write at new ∷ plan) is (inr later) = stopped_later s now (Write at new) (WriteAt at (length new)) plan (λ more. refl) (stopped_in _ now plan is later)
stopped_in s now (Sync ∷ plan) is (inl failed) = stopped_here s now Sync _ _ failed
stopped_in s now (Sync ∷ plan) is (inr later) = stopped_later s now Sync SyncAll plan (λ more. refl) (stopped_in _ now plan is later)
stopped_in s now (FailedWrite at new ∷ plan) is stopped = absurd is
stopped_in s now (FailedCall ∷ plan) is stopped = absurd is

-- the calls of a plan in which one failed, as far as they succeeded
abbrev pub failed_calls : (told now : Option Story) (plan : Calls) → IsPlan plan → HasStoppedIn plan told now → List DeviceCall
failed_calls None now plan is stopped = []
failed_calls (Some s) now plan is stopped = (stopped_in s now plan is stopped).0

pub failed-by : (told now : Option Story) (plan : Calls) (is : IsPlan plan) (stopped : HasStoppedIn plan told now) (s : Story) → told ≡ Some s
    → StoppedBy s now (ok_calls (clock_of s) plan) (failed_calls told now plan is stopped)
failed-by None now plan is stopped s told = absurd (let none : ◌≡◌ {A = Option Story} None (Some s) = told in cc)
failed-by (Some r) now plan is stopped s told =
    let by : Stopped r now (ok_calls (clock_of r) plan) = stopped_in r now plan is stopped in
    subst (λ (v : Story). StoppedBy v now (ok_calls (clock_of v) plan) by.0) (same_Some _ _ told) by.1
