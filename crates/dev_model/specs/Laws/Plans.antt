-- Laws of `Did` and `Ticks`: calls that were planned, of which one may have failed. No public contract needs them.
use Rattle.std.proofs.Common.{append_assoc, ◌≡◌, inl, inr, ℕ, ◌+◌, List, [], ◌∷◌, ◌++◌, Option, Some, None, Result, Ok, Err, refl, sym, ◌∙◌, ap, subst, arith}
use Rattle.dev_model.specs.Story.{Bytes, Call, Read, Write, Sync, FailedWrite, FailedCall, Calls, Story, with_call, bytes_of, after, IsImageDuring, IsImageNow}
use Rattle.dev_model.specs.Doing.{noted, all_noted, HasChangedNothing, HasFailed, HasStoppedIn, Did, Ticks}
use Rattle.dev_model.specs.Answers.{Tells}
use Rattle.dev_model.specs.Laws.Ranges.{patched-outside}
use Rattle.dev_model.specs.Moments.{LeavesOnly}
use Rattle.dev_model.specs.Laws.Images.{IsReadable-settled}
use Rattle.dev_model.specs.Laws.Runs.{During, During-append, During-last, after-append, LeavesOnly-calls, LeavesOnly-failed}

-- the first of these calls and no more
During-front : (s : Story) (before : Calls) (call : Call) (calls : Calls) (P : Bytes → Type 0) → During s (before ++ call ∷ calls) P → During s (before ++ call ∷ []) P
During-front s before call calls P during =
    let parts : During s before P × During (after s before) (call ∷ calls) P = During-append s before (call ∷ calls) P during in
    During-last s before call P parts.0 parts.1.0

-- the run that stopped in these calls
stopped : (s : Story) (before calls : Calls) (P : Bytes → Type 0) (mid new : Option Story) → mid ≡ Some (after s before) → HasStoppedIn calls mid new
    → During s (before ++ calls) P → LeavesOnly s new P
stopped s before [] P mid new told is during = absurd is
stopped s before (call ∷ calls) P mid new told (inl failed) during = LeavesOnly-failed s before P call mid new told failed (During-front s before call calls P during)
stopped s before (call ∷ calls) P mid new told (inr more) during =
    let same : after s (before ++ call ∷ []) ≡ with_call (after s before) call = after-append s before (call ∷ []) in
    stopped s (before ++ call ∷ []) calls P (noted call mid) new
    (ap (noted call) told ∙ ap (λ (t : Story). Some t) (sym same)) more
    (subst (λ (c : Calls). During s c P) (sym (append_assoc before (call ∷ []) calls)) during)

-- what is told after these calls
pub all_noted-told : (s : Story) (calls : Calls) (old : Option Story) → old ≡ Some s → all_noted calls old ≡ Some (after s calls)
all_noted-told s [] old told = told
all_noted-told s (call ∷ calls) old told = all_noted-told (with_call s call) calls (noted call old) (ap (noted call) told)

-- planned calls, whether one of them failed or not: one obligation a call, and one for the end
pub LeavesOnly-did : {T E : Type 0} (s : Story) (calls : Calls) (P : Bytes → Type 0) (old new : Option Story) (result : Result T E) → old ≡ Some s → Did calls old new result
    → During s calls P → ((image : Bytes) → IsImageNow (after s calls) image → P image) → LeavesOnly s new P
LeavesOnly-did s calls P old new (Ok x) told did during now = LeavesOnly-calls s calls P new (did ∙ all_noted-told s calls old told) during now
LeavesOnly-did s calls P old new (Err e) told did during now = stopped s [] calls P old new told did during

-- a device that tells nothing has no story
pub no_story : {P : Type 0} (s : Story) → (let none : Option Story = None in none ≡ Some s) → P
no_story s is = cc

-- a device that tells nothing goes on telling nothing
pub Did-untold : {T E : Type 0} (calls : Calls) (new : Option Story) (result : Result T E) → Did calls None new result → new ≡ None
Did-untold calls new (Ok x) did = did ∙ all_none calls
  where
    all_none : (calls : Calls) → all_noted calls None ≡ None
    all_none [] = refl
    all_none (call ∷ calls) = all_none calls
Did-untold calls new (Err e) did = none calls new did
  where
    nothing : (new : Option Story) → HasChangedNothing None new → new ≡ None
    nothing new (inl is) = is
    nothing new (inr is) = is

    failed_none : (call : Call) (new : Option Story) → HasFailed call None new → new ≡ None
    failed_none (Write at bytes) new (inl is) = is
    failed_none (Write at bytes) new (inr is) = nothing new is
    failed_none (Read at count) new is = nothing new is
    failed_none Sync new is = nothing new is
    failed_none (FailedWrite at bytes) new is = absurd is
    failed_none FailedCall new is = absurd is

    none : (calls : Calls) (new : Option Story) → HasStoppedIn calls None new → new ≡ None
    none [] new is = absurd is
    none (call ∷ calls) new (inl is) = failed_none call new is
    none (call ∷ calls) new (inr is) = none calls new is

-- a write and its sync, whether one of them failed or not: whatever moment it is, anything may stand in the
-- range, and elsewhere what a crash before them might have left
pub LeavesOnly-synced : {T E : Type 0} (s : Story) (at : ℕ) (bytes : List ℕ) (old new : Option Story) (result : Result T E) → old ≡ Some s → Did (Write at bytes ∷ Sync ∷ []) old new result
    → LeavesOnly s new (IsImageDuring s (Write at bytes))
LeavesOnly-synced s at bytes old new result told did =
    LeavesOnly-did s (Write at bytes ∷ Sync ∷ []) _ old new result told did
    ((λ image is. is), ((λ image is i spared settled. is i tt (spared, settled) ∙ patched-outside at bytes (bytes_of s) i spared), tt))
    (λ image is i spared settled. is i (inr (IsReadable-settled s.past i settled)) ∙ patched-outside at bytes (bytes_of s) i spared)

-- no call
pub Did-nothing : (X E : Type 0) (x : X) (story : Option Story) → Did {X = X} {E = E} [] story story (Ok x)
Did-nothing X E x story = refl

-- one call
pub Did-call : (X E : Type 0) (call : Call) (old new : Option Story) (r : Result X E) → Tells call old new r → Did (call ∷ []) old new r
Did-call X E call old new (Ok x) told = told
Did-call X E call old new (Err e) failed = inl failed

all_noted-append : (calls more : Calls) (old : Option Story) → all_noted (calls ++ more) old ≡ all_noted more (all_noted calls old)
all_noted-append [] more old = refl
all_noted-append (call ∷ calls) more old = all_noted-append calls more (noted call old)

stopped_later : (calls more : Calls) (old new : Option Story) → HasStoppedIn more (all_noted calls old) new → HasStoppedIn (calls ++ more) old new
stopped_later [] more old new stopped = stopped
stopped_later (call ∷ calls) more old new stopped = inr (stopped_later calls more (noted call old) new stopped)

-- calls that succeeded, and then more
pub Did-then : (X Y E : Type 0) (x : X) (calls more : Calls) (old mid new : Option Story) (r : Result Y E) → Did {X = X} {E = E} calls old mid (Ok x) → Did more mid new r → Did (calls ++ more) old new r
Did-then X Y E x calls more old mid new (Ok y) first second = second ∙ ap (all_noted more) first ∙ sym (all_noted-append calls more old)
Did-then X Y E x calls more old mid new (Err e) first second = stopped_later calls more old new (subst (λ (m : Option Story). HasStoppedIn more m new) first second)

-- a call that failed cuts off what would have followed
pub Did-cut : (X Y E F : Type 0) (e : E) (f : F) (calls more : Calls) (old new : Option Story) → Did {X = X} {E = E} calls old new (Err e) → Did {X = Y} {E = F} (calls ++ more) old new (Err f)
Did-cut X Y E F e f [] more old new stopped = absurd stopped
Did-cut X Y E F e f (call ∷ calls) more old new (inl failed) = inl failed
Did-cut X Y E F e f (call ∷ calls) more old new (inr later) = inr (Did-cut X Y E F e f calls more (noted call old) new later)

-- the same calls
pub Did-same : (X E : Type 0) (calls more : Calls) (old new : Option Story) (r : Result X E) → calls ≡ more → Did calls old new r → Did more old new r
Did-same X E calls more old new r same did = subst (λ (c : Calls). Did {X = X} {E = E} c old new r) same did

-- the clock over calls, and then over more
pub Ticks-then : (X Y E : Type 0) (x : X) (m n old mid new : ℕ) (r : Result Y E) → Ticks {X = X} {E = E} m old mid (Ok x) → Ticks n mid new r → Ticks (m + n) old new r
Ticks-then X Y E x m n old mid new (Ok y) first second = omega (arith, first, second)
Ticks-then X Y E x m n old mid new (Err e) first second = (omega (arith, first, second.0), omega (arith, first, second.1))

pub Ticks-cut : (X Y E F : Type 0) (e : E) (f : F) (m n old new : ℕ) → Ticks {X = X} {E = E} m old new (Err e) → Ticks {X = Y} {E = F} (m + n) old new (Err f)
Ticks-cut X Y E F e f m n old new ticks = (ticks.0, omega (arith, ticks.1))
