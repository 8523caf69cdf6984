-- Laws of runs that only read. No public contract needs them.
use Rattle.std.proofs.Common.{◌≡◌, ℕ, ◌+◌, List, [], ◌∷◌, ◌++◌, Option, Some, Result, Ok, Err, refl, sym, ◌∙◌, ap, inl, inr}
use Rattle.dev_model.specs.Story.{Bytes, Read, Write, Sync, FailedWrite, FailedCall, Calls, Story, with_call, after, bytes_of, WhereTold, IsReadable, IsSettled, IsImageNow}
use Rattle.dev_model.specs.Doing.{noted}
use Rattle.dev_model.specs.Answers.{IsReadFrom, Tells}
use Rattle.dev_model.specs.Moments.{LeavesOnly, AreReadsWithin, ReadsWithin}
use Rattle.dev_model.specs.Writes.{AreSpared, WritesWithin}
use Rattle.dev_model.specs.Laws.Runs.{During, LeavesOnly-calls, after-append}

-- reads leave the bytes, what can be read and what is settled
pub bytes_of-reads : (Within : ℕ → ℕ → Type 0) (s : Story) (calls : Calls) → AreReadsWithin Within calls → bytes_of (after s calls) ≡ bytes_of s
bytes_of-reads Within s [] reads = refl
bytes_of-reads Within s (Read at count ∷ calls) reads = bytes_of-reads Within (with_call s (Read at count)) calls reads.1
bytes_of-reads Within s (FailedCall ∷ calls) reads = bytes_of-reads Within (with_call s FailedCall) calls reads
bytes_of-reads Within s (Write at new ∷ calls) reads = absurd reads
bytes_of-reads Within s (Sync ∷ calls) reads = absurd reads
bytes_of-reads Within s (FailedWrite at new ∷ calls) reads = absurd reads

pub IsSettled-reads : (Within : ℕ → ℕ → Type 0) (s : Story) (calls : Calls) (i : ℕ) → AreReadsWithin Within calls → IsSettled s.past i → IsSettled (after s calls).past i
IsSettled-reads Within s [] i reads settled = settled
IsSettled-reads Within s (Read at count ∷ calls) i reads settled = IsSettled-reads Within (with_call s (Read at count)) calls i reads.1 settled
IsSettled-reads Within s (FailedCall ∷ calls) i reads settled = IsSettled-reads Within (with_call s FailedCall) calls i reads settled
IsSettled-reads Within s (Write at new ∷ calls) i reads settled = absurd reads
IsSettled-reads Within s (Sync ∷ calls) i reads settled = absurd reads
IsSettled-reads Within s (FailedWrite at new ∷ calls) i reads settled = absurd reads

pub IsReadable-reads : (Within : ℕ → ℕ → Type 0) (s : Story) (calls : Calls) (i : ℕ) → AreReadsWithin Within calls → IsReadable s.past i → IsReadable (after s calls).past i
IsReadable-reads Within s [] i reads readable = readable
IsReadable-reads Within s (Read at count ∷ calls) i reads readable = IsReadable-reads Within (with_call s (Read at count)) calls i reads.1 readable
IsReadable-reads Within s (FailedCall ∷ calls) i reads readable = IsReadable-reads Within (with_call s FailedCall) calls i reads readable
IsReadable-reads Within s (Write at new ∷ calls) i reads readable = absurd reads
IsReadable-reads Within s (Sync ∷ calls) i reads readable = absurd reads
IsReadable-reads Within s (FailedWrite at new ∷ calls) i reads readable = absurd reads

AreReadsWithin-append : (Within : ℕ → ℕ → Type 0) (calls more : Calls) → AreReadsWithin Within calls → AreReadsWithin Within more → AreReadsWithin Within (calls ++ more)
AreReadsWithin-append Within [] more first second = second
AreReadsWithin-append Within (Read at count ∷ calls) more first second = (first.0, AreReadsWithin-append Within calls more first.1 second)
AreReadsWithin-append Within (FailedCall ∷ calls) more first second = AreReadsWithin-append Within calls more first second
AreReadsWithin-append Within (Write at new ∷ calls) more first second = absurd first
AreReadsWithin-append Within (Sync ∷ calls) more first second = absurd first
AreReadsWithin-append Within (FailedWrite at new ∷ calls) more first second = absurd first

AreReadsWithin-weaker : (Within Wider : ℕ → ℕ → Type 0) (calls : Calls) → ((at count : ℕ) → Within at count → Wider at count) → AreReadsWithin Within calls → AreReadsWithin Wider calls
AreReadsWithin-weaker Within Wider [] weaker reads = tt
AreReadsWithin-weaker Within Wider (Read at count ∷ calls) weaker reads = (weaker at count reads.0, AreReadsWithin-weaker Within Wider calls weaker reads.1)
AreReadsWithin-weaker Within Wider (FailedCall ∷ calls) weaker reads = AreReadsWithin-weaker Within Wider calls weaker reads
AreReadsWithin-weaker Within Wider (Write at new ∷ calls) weaker reads = absurd reads
AreReadsWithin-weaker Within Wider (Sync ∷ calls) weaker reads = absurd reads
AreReadsWithin-weaker Within Wider (FailedWrite at new ∷ calls) weaker reads = absurd reads

during_reads : (Within : ℕ → ℕ → Type 0) (s : Story) (calls : Calls) (P : Bytes → Type 0) → AreReadsWithin Within calls → ((image : Bytes) → IsImageNow s image → P image) → During s calls P
during_reads Within s [] P reads now = tt
during_reads Within s (Read at count ∷ calls) P reads now = ((λ image is. now image (λ i settled. is i tt settled)), during_reads Within (with_call s (Read at count)) calls P reads.1 now)
during_reads Within s (FailedCall ∷ calls) P reads now = ((λ image is. now image (λ i settled. is i tt settled)), during_reads Within (with_call s FailedCall) calls P reads now)
during_reads Within s (Write at new ∷ calls) P reads now = absurd reads
during_reads Within s (Sync ∷ calls) P reads now = absurd reads
during_reads Within s (FailedWrite at new ∷ calls) P reads now = absurd reads

-- a crash during reads leaves what a crash before them might have left
pub LeavesOnly-reads : (Within : ℕ → ℕ → Type 0) (s : Story) (now : Option Story) → ReadsWithin Within s now → LeavesOnly s now (IsImageNow s)
LeavesOnly-reads Within s now run =
    LeavesOnly-calls s run.calls (IsImageNow s) now run.told (during_reads Within s run.calls (IsImageNow s) run.reads (λ image is. is))
    (λ image is i settled. is i (IsSettled-reads Within s run.calls i run.reads settled) ∙ ap (λ (b : Bytes). b i) (bytes_of-reads Within s run.calls run.reads))

-- no read yet
pub ReadsWithin-start : (Within : ℕ → ℕ → Type 0) (s : Story) (now : Option Story) → now ≡ Some s → ReadsWithin Within s now
ReadsWithin-start Within s now told = record { calls = []; told = told; reads = tt }

-- reads and then more
pub ReadsWithin-then : (Within : ℕ → ℕ → Type 0) (s : Story) (mid new : Option Story) → ReadsWithin Within s mid → WhereTold mid (λ t. ReadsWithin Within t new) → ReadsWithin Within s new
ReadsWithin-then Within s mid new first second =
    let t : Story = after s first.calls in
    let more : ReadsWithin Within t new = second t first.told in
    record {
      calls = first.calls ++ more.calls;
      told = more.told ∙ ap (λ (u : Story). Some u) (sym (after-append s first.calls more.calls));
      reads = AreReadsWithin-append Within first.calls more.calls first.reads more.reads;
    }

-- one read, whether it failed or not
pub ReadsWithin-read : {X E : Type 0} (Within : ℕ → ℕ → Type 0) (s : Story) (at count : ℕ) (result : Result X E) (old new : Option Story) → old ≡ Some s → Tells (Read at count) old new result → Within at count → ReadsWithin Within s new
ReadsWithin-read Within s at count (Ok x) old new is told within = record { calls = Read at count ∷ []; told = told ∙ ap (noted (Read at count)) is; reads = (within, tt) }
ReadsWithin-read Within s at count (Err e) old new is (inl failed) within = record { calls = FailedCall ∷ []; told = failed ∙ ap (noted FailedCall) is; reads = tt }
ReadsWithin-read Within s at count (Err e) old new is (inr same) within = record { calls = []; told = same ∙ is; reads = tt }

-- reads of ranges of a wider kind
pub ReadsWithin-weaker : (Within Wider : ℕ → ℕ → Type 0) (s : Story) (now : Option Story) → ((at count : ℕ) → Within at count → Wider at count) → ReadsWithin Within s now → ReadsWithin Wider s now
ReadsWithin-weaker Within Wider s now weaker run = record { calls = run.calls; told = run.told; reads = AreReadsWithin-weaker Within Wider run.calls weaker run.reads }

-- what is read after reads is what was there before them
pub IsReadFrom-reads : (Within : ℕ → ℕ → Type 0) (at : ℕ) (buf : List ℕ) (s : Story) (mid : Option Story) → ReadsWithin Within s mid → WhereTold mid (IsReadFrom at buf) → IsReadFrom at buf s
IsReadFrom-reads Within at buf s mid run read k lt readable =
    read (after s run.calls) run.told k lt (IsReadable-reads Within s run.calls (at + k) run.reads readable)
    ∙ ap (λ (b : Bytes). b (at + k)) (bytes_of-reads Within s run.calls run.reads)

spared_reads : (Within : ℕ → ℕ → Type 0) (calls : Calls) (i : ℕ) → AreReadsWithin Within calls → AreSpared calls i
spared_reads Within [] i reads = tt
spared_reads Within (Read at count ∷ calls) i reads = (tt, spared_reads Within calls i reads.1)
spared_reads Within (FailedCall ∷ calls) i reads = (tt, spared_reads Within calls i reads)
spared_reads Within (Write at new ∷ calls) i reads = absurd reads
spared_reads Within (Sync ∷ calls) i reads = absurd reads
spared_reads Within (FailedWrite at new ∷ calls) i reads = absurd reads

-- reads touch nothing
pub WritesWithin-reads : (Within : ℕ → ℕ → Type 0) (at count : ℕ) (s : Story) (now : Option Story) → ReadsWithin Within s now → WritesWithin at count s now
WritesWithin-reads Within at count s now run = record { calls = run.calls; told = run.told; spared = λ i out. spared_reads Within run.calls i run.reads }
