-- Calls that were made, and then more.
use Rattle.std.proofs.Common.{◌≡◌, ℕ, ◌+◌, ◌≤◌, [], ◌∷◌, ◌++◌, length, Result, Ok, Err, sym, ◌∙◌, subst, arith, length-append}
use Rattle.std.specs.Prelude.{IsErr, OnOk}
use Rattle.std.proofs.lemmas.Bool.Decides.{nat_tests}
use Rattle.dev_model.specs.Answers.{MadeCall}
use Rattle.dev_model.specs.Counts.{HasCause, Rose, next_count}
use Rattle.dev_model.specs.Doing.{Made, Ticks}
use Rattle.dev_model.specs.Laws.Plans.{Did-call, Did-cut, Did-then, Ticks-cut, Ticks-then}
use Rattle.dev_model.specs.Story.{Call, Calls, DeviceState}

HasCause-then : {X E : Type 0} (old mid new : ℕ) (r : Result X E) → old ≤ mid → HasCause mid new r → HasCause old new r
HasCause-then old mid new (Ok x) le cause = record { later = omega (arith, le, cause.later); failed = tt }
HasCause-then old mid new (Err e) le cause = record {
  later = omega (arith, le, cause.later);
  failed = let before : old ≤ mid = le in let rose : Rose mid new = cause.failed in let goal : Rose old new = grind (arith, nat_tests) in goal;
}

-- a call that failed cuts off what would have followed
pub made_first : {X Y E F : Type 0} {e : E} {calls : Calls} (more : Calls) {old new : DeviceState} (r : Result Y F) → IsErr r → Made {X = X} {E = E} calls old new (Err e) → Made (calls ++ more) old new r
made_first more (Ok y) failed made = cc
made_first {X = X} {Y = Y} {E = E} {F = F} {e = e} {calls = calls} more {old = old} {new = new} (Err f) failed made = record {
  did = Did-cut X Y E F e f calls more old.story new.story made.did;
  ticks = subst (λ (n : ℕ). Ticks {X = Y} {E = F} n old.clock new.clock (Err f)) (sym (length-append calls more)) (Ticks-cut X Y E F e f (length calls) (length more) old.clock new.clock made.ticks);
  same_pages = made.same_pages;
  cause = record { later = made.cause.later; failed = made.cause.failed };
}

-- calls that succeeded, and then more
pub made_then : {X Y E : Type 0} {x : X} {calls more : Calls} {old mid new : DeviceState} {r : Result Y E} → Made {X = X} {E = E} calls old mid (Ok x) → Made more mid new r → Made (calls ++ more) old new r
made_then {X = X} {Y = Y} {E = E} {x = x} {calls = calls} {more = more} {old = old} {mid = mid} {new = new} {r = r} first second = record {
  did = Did-then X Y E x calls more old.story mid.story new.story r first.did second.did;
  ticks = subst (λ (n : ℕ). Ticks n old.clock new.clock r) (sym (length-append calls more)) (Ticks-then X Y E x (length calls) (length more) old.clock mid.clock new.clock r first.ticks second.ticks);
  same_pages = second.same_pages ∙ first.same_pages;
  cause = HasCause-then old.faults mid.faults new.faults r first.cause.later second.cause;
}

-- one call
pub made_call : {X E : Type 0} {call : Call} {old new : DeviceState} {r : Result X E} → MadeCall call old new r → Made (call ∷ []) old new r
made_call {X = X} {E = E} {call = call} {old = old} {new = new} {r = r} is = record { did = Did-call X E call old.story new.story r is.told; ticks = ticks r is.time is.ticks; same_pages = is.same_pages; cause = is.cause }
  where
    ticks : (r : Result X E) → new.clock ≡ next_count old.clock → OnOk r (new.clock ≡ old.clock + 1) → Ticks 1 old.clock new.clock r
    ticks (Ok x) time more = more
    ticks (Err e) time more = let one : new.clock ≡ next_count old.clock = time in let goal : (old.clock ≤ new.clock) × (new.clock ≤ old.clock + 1) = grind (arith, nat_tests) in goal
