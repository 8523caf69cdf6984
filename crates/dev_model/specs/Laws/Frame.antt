-- The frame rule: what a run of calls leaves alone. No public contract needs it.
use Rattle.std.proofs.Common.{◌≡◌, inl, inr, ℕ, ◌+◌, ◌≤◌, [], ◌∷◌, ◌++◌, Option, Some, Result, Ok, Err, refl, sym, ◌∙◌, ap, subst, arith, ⊎_elim}
use Rattle.std.proofs.lemmas.Option.{same_Some}
use Rattle.dev_model.specs.Story.{Bytes, Call, Read, Write, Sync, FailedWrite, FailedCall, Calls, Story, clock_of, with_call, after, bytes_of, IsOutside, IsSettled, IsSpared, WhereTold}
use Rattle.dev_model.specs.Doing.{HasFailed, HasStoppedIn, Did}
use Rattle.dev_model.specs.Moments.{EachMoment, LeavesOnly}
use Rattle.dev_model.specs.Writes.{AreSpared, IsImageAmid, WritesWithin}
use Rattle.dev_model.specs.Laws.Ranges.{patched-outside}
use Rattle.dev_model.specs.Laws.Images.{IsReadable-settled}
use Rattle.dev_model.specs.Laws.Runs.{During, EachMoment-after, EachMoment-start, after-append}
use Rattle.dev_model.specs.Laws.Plans.{all_noted-told, LeavesOnly-did}

settled_with : (s : Story) (call : Call) (i : ℕ) → IsSpared call i → IsSettled s.past i → IsSettled (with_call s call).past i
settled_with s (Read at count) i spared settled = settled
settled_with s (Write at new) i spared settled = (spared, settled)
settled_with s Sync i spared settled = IsReadable-settled s.past i settled
settled_with s (FailedWrite at new) i spared settled = (spared, settled)
settled_with s FailedCall i spared settled = settled

bytes_with : (s : Story) (call : Call) (i : ℕ) → IsSpared call i → bytes_of (with_call s call) i ≡ bytes_of s i
bytes_with s (Read at count) i spared = refl
bytes_with s (Write at new) i spared = patched-outside at new (bytes_of s) i spared
bytes_with s Sync i spared = refl
bytes_with s (FailedWrite at new) i spared = refl
bytes_with s FailedCall i spared = refl

-- a place that is spared stays settled, and keeps its byte
pub IsSettled-spared : (s : Story) (calls : Calls) (i : ℕ) → AreSpared calls i → IsSettled s.past i → IsSettled (after s calls).past i
IsSettled-spared s [] i spared settled = settled
IsSettled-spared s (call ∷ calls) i spared settled = IsSettled-spared (with_call s call) calls i spared.1 (settled_with s call i spared.0 settled)

pub bytes_of-spared : (s : Story) (calls : Calls) (i : ℕ) → AreSpared calls i → bytes_of (after s calls) i ≡ bytes_of s i
bytes_of-spared s [] i spared = refl
bytes_of-spared s (call ∷ calls) i spared = bytes_of-spared (with_call s call) calls i spared.1 ∙ bytes_with s call i spared.0

during_spared : (s : Story) (calls : Calls) (places : ℕ → Type 0) (bytes : Bytes) → ((i : ℕ) → places i → AreSpared calls i) → ((i : ℕ) → places i → IsSettled s.past i) → ((i : ℕ) → places i → bytes_of s i ≡ bytes i)
    → During s calls (λ image. (i : ℕ) → places i → image i ≡ bytes i)
during_spared s [] places bytes spared settled same = tt
during_spared s (call ∷ calls) places bytes spared settled same = (
  λ image is i at. is i (spared i at).0 (settled i at) ∙ same i at,
  during_spared (with_call s call) calls places bytes (λ i at. (spared i at).1) (λ i at. settled_with s call i (spared i at).0 (settled i at)) (λ i at. bytes_with s call i (spared i at).0 ∙ same i at),
)

-- each image of each moment of the run has the bytes of these places
pub EachMoment-spared : (s : Story) (calls : Calls) (places : ℕ → Type 0) → ((i : ℕ) → places i → AreSpared calls i) → ((i : ℕ) → places i → IsSettled s.past i)
    → EachMoment (clock_of s) (after s calls) (λ _ image. (i : ℕ) → places i → image i ≡ bytes_of s i)
EachMoment-spared s calls places spared settled =
    EachMoment-after (clock_of s) s calls (λ image. (i : ℕ) → places i → image i ≡ bytes_of s i)
    (EachMoment-start s (λ m image. (i : ℕ) → places i → image i ≡ bytes_of s i) (λ image is i at. is i (settled i at)))
    (during_spared s calls places (bytes_of s) spared settled (λ i at. refl))
    (λ image is i at. is i (IsSettled-spared s calls i (spared i at) (settled i at)) ∙ bytes_of-spared s calls i (spared i at))

-- what is read from these places is read from all bytes that are the same there
abbrev pub IsReadAt : {T : Type 0} → (ℕ → Type 0) → (Bytes → T) → Bytes → Type 0
IsReadAt places reading bytes = (other : Bytes) → ((i : ℕ) → places i → other i ≡ bytes i) → reading other ≡ reading bytes

-- What a structure keeps over a run of calls that spares its places: it reads the same, now and from each image of each moment, and stays settled.
pub record Stays {T : Type 0} (places : ℕ → Type 0) (reading : Bytes → T) (s t : Story) : Type 0 where
  pub reads : reading (bytes_of t) ≡ reading (bytes_of s)
  pub bytes : (i : ℕ) → places i → bytes_of t i ≡ bytes_of s i
  pub settled : (i : ℕ) → places i → IsSettled t.past i
  pub each : EachMoment (clock_of s) t (λ _ image. reading image ≡ reading (bytes_of s))

-- the frame rule
pub frame : {T : Type 0} (places : ℕ → Type 0) (reading : Bytes → T) (s : Story) (calls : Calls) → IsReadAt places reading (bytes_of s)
    → ((i : ℕ) → places i → IsSettled s.past i) → ((i : ℕ) → places i → AreSpared calls i) → Stays places reading s (after s calls)
frame places reading s calls read_at settled spared = record {
  reads = read_at (bytes_of (after s calls)) (λ i at. bytes_of-spared s calls i (spared i at));
  bytes = λ i at. bytes_of-spared s calls i (spared i at);
  settled = λ i at. IsSettled-spared s calls i (spared i at) (settled i at);
  each = λ m le_from le_to image is. read_at image (EachMoment-spared s calls places spared settled m le_from le_to image is);
}

-- the frame rule for a call that says in which range it writes
pub frame-within : {T : Type 0} (places : ℕ → Type 0) (reading : Bytes → T) (at count : ℕ) (s t : Story) (now : Option Story) → WritesWithin at count s now → now ≡ Some t
    → IsReadAt places reading (bytes_of s) → ((i : ℕ) → places i → IsSettled s.past i) → ((i : ℕ) → places i → IsOutside at count i) → Stays places reading s t
frame-within places reading at count s t now within is read_at settled outside =
    subst (λ (u : Story). Stays places reading s u) (same_Some _ _ (sym within.told ∙ is))
    (frame places reading s within.calls read_at settled (λ i here. within.spared i (outside i here)))

-- calls within a range, one run after another
AreSpared-append : (calls more : Calls) (i : ℕ) → AreSpared calls i → AreSpared more i → AreSpared (calls ++ more) i
AreSpared-append [] more i first second = second
AreSpared-append (call ∷ calls) more i first second = (first.0, AreSpared-append calls more i first.1 second)

pub WritesWithin-calls : (at count : ℕ) (s : Story) (calls : Calls) (now : Option Story) → now ≡ Some (after s calls) → ((i : ℕ) → IsOutside at count i → AreSpared calls i) → WritesWithin at count s now
WritesWithin-calls at count s calls now told spared = record { calls = calls; told = told; spared = spared }

pub WritesWithin-then : (at count : ℕ) (s : Story) (mid now : Option Story) → WritesWithin at count s mid → WhereTold mid (λ t. WritesWithin at count t now) → WritesWithin at count s now
WritesWithin-then at count s mid now first second =
    let t : Story = after s first.calls in
    let more : WritesWithin at count t now = second t first.told in
    record {
      calls = first.calls ++ more.calls;
      told = more.told ∙ ap (λ (u : Story). Some u) (sym (after-append s first.calls more.calls));
      spared = λ i out. AreSpared-append first.calls more.calls i (first.spared i out) (more.spared i out);
    }

-- a part of a range
pub WritesWithin-wider : (at count wider_at wider_count : ℕ) (s : Story) (now : Option Story) → wider_at ≤ at → at + count ≤ wider_at + wider_count → WritesWithin at count s now → WritesWithin wider_at wider_count s now
WritesWithin-wider at count wider_at wider_count s now low high within = record {
  calls = within.calls;
  told = within.told;
  spared = λ i out. within.spared i (⊎_elim (λ below. inl (omega arith)) (λ above. inr (omega arith)) out);
}

-- A structure's part of what is on the device: its places are settled, and what it reads is there.
pub record IsPart {T : Type 0} (places : ℕ → Type 0) (reading : Bytes → T) (s : Story) : Type 0 where
  pub settled : (i : ℕ) → places i → IsSettled s.past i
  pub read_at : IsReadAt places reading (bytes_of s)

-- a part stays while calls write elsewhere
pub part-stays : {T : Type 0} (places : ℕ → Type 0) (reading : Bytes → T) (at count : ℕ) (s t : Story) (now : Option Story) → IsPart places reading s → WritesWithin at count s now → now ≡ Some t
    → ((i : ℕ) → places i → IsOutside at count i) → Stays places reading s t
part-stays places reading at count s t now part within is outside = frame-within places reading at count s t now within is part.read_at part.settled outside

pub part-after : {T : Type 0} (places : ℕ → Type 0) (reading : Bytes → T) (s t : Story) → IsPart places reading s → Stays places reading s t → IsPart places reading t
part-after places reading s t part stays = record {
  settled = stays.settled;
  read_at = λ other same. part.read_at other (λ i at. same i at ∙ stays.bytes i at) ∙ sym stays.reads;
}

-- what each crash leaves during a call, with what it leaves of a part elsewhere
pub LeavesOnly-beside : {T : Type 0} (places : ℕ → Type 0) (reading : Bytes → T) (at count : ℕ) (s : Story) (now : Option Story) (P : Bytes → Type 0) → IsPart places reading s → WritesWithin at count s now
    → ((i : ℕ) → places i → IsOutside at count i) → LeavesOnly s now P → LeavesOnly s now (λ image. P image × (reading image ≡ reading (bytes_of s)))
LeavesOnly-beside places reading at count s now P part within outside run =
    let stays : Stays places reading s (after s run.calls) = part-stays places reading at count s (after s run.calls) now part within run.told outside in
    record {
      calls = run.calls;
      told = run.told;
      each = λ m le_from le_to image is. (run.each m le_from le_to image is, stays.each m le_from le_to image is);
    }

-- a call that failed touches no place that it would have spared
failed_within : (at count : ℕ) (s : Story) (call : Call) (now : Option Story) → ((i : ℕ) → IsOutside at count i → IsSpared call i) → HasFailed call (Some s) now → WritesWithin at count s now
failed_within at count s (Read from size) now spared (inl told) = record { calls = FailedCall ∷ []; told = told; spared = λ i out. (tt, tt) }
failed_within at count s (Read from size) now spared (inr same) = record { calls = []; told = same; spared = λ i out. tt }
failed_within at count s (Write from new) now spared (inl told) = record { calls = FailedWrite from new ∷ []; told = told; spared = λ i out. (spared i out, tt) }
failed_within at count s (Write from new) now spared (inr (inl told)) = record { calls = FailedCall ∷ []; told = told; spared = λ i out. (tt, tt) }
failed_within at count s (Write from new) now spared (inr (inr same)) = record { calls = []; told = same; spared = λ i out. tt }
failed_within at count s Sync now spared (inl told) = record { calls = FailedCall ∷ []; told = told; spared = λ i out. (tt, tt) }
failed_within at count s Sync now spared (inr same) = record { calls = []; told = same; spared = λ i out. tt }
failed_within at count s (FailedWrite from new) now spared failed = absurd failed
failed_within at count s FailedCall now spared failed = absurd failed

stopped_within : (at count : ℕ) (s : Story) (calls : Calls) (now : Option Story) → ((i : ℕ) → IsOutside at count i → AreSpared calls i) → HasStoppedIn calls (Some s) now → WritesWithin at count s now
stopped_within at count s [] now spared stopped = absurd stopped
stopped_within at count s (call ∷ calls) now spared (inl failed) = failed_within at count s call now (λ i out. (spared i out).0) failed
stopped_within at count s (call ∷ calls) now spared (inr later) =
    let rest : WritesWithin at count (with_call s call) now = stopped_within at count (with_call s call) calls now (λ i out. (spared i out).1) later in
    record { calls = call ∷ rest.calls; told = rest.told; spared = λ i out. ((spared i out).0, rest.spared i out) }

-- planned calls that touch no place outside the range, whether one of them failed or not
pub WritesWithin-did : {X E : Type 0} (at count : ℕ) (s : Story) (calls : Calls) (old now : Option Story) (r : Result X E) → old ≡ Some s → Did calls old now r
    → ((i : ℕ) → IsOutside at count i → AreSpared calls i) → WritesWithin at count s now
WritesWithin-did at count s calls old now (Ok x) told did spared = record { calls = calls; told = did ∙ all_noted-told s calls old told; spared = spared }
WritesWithin-did at count s calls old now (Err e) told did spared = stopped_within at count s calls now spared (subst (λ (o : Option Story). HasStoppedIn calls o now) told did)

-- planned calls, whether one of them failed or not: whatever moment it is, anything may stand where they write, and elsewhere
-- what a crash before them might have left
pub LeavesOnly-amid : {X E : Type 0} (s : Story) (calls : Calls) (old now : Option Story) (r : Result X E) → old ≡ Some s → Did calls old now r → LeavesOnly s now (IsImageAmid s calls)
LeavesOnly-amid s calls old now r told did =
    LeavesOnly-did s calls (IsImageAmid s calls) old now r told did
    (amid s calls (λ i spared settled. (spared, settled)) (λ i spared settled. refl))
    (λ image is i spared settled. is i (IsSettled-spared s calls i spared settled) ∙ bytes_of-spared s calls i spared)
  where
    amid : (t : Story) (more : Calls) → ((i : ℕ) → AreSpared calls i → IsSettled s.past i → AreSpared more i × IsSettled t.past i)
        → ((i : ℕ) → AreSpared calls i → IsSettled s.past i → bytes_of t i ≡ bytes_of s i)
        → During t more (IsImageAmid s calls)
    amid t [] still bytes = tt
    amid t (call ∷ more) still bytes = (
      λ image is i spared settled. is i (still i spared settled).0.0 (still i spared settled).1 ∙ bytes i spared settled,
      amid (with_call t call) more
          (λ i spared settled. ((still i spared settled).0.1, settled_with t call i (still i spared settled).0.0 (still i spared settled).1))
          (λ i spared settled. bytes_with t call i (still i spared settled).0.0 ∙ bytes i spared settled),
    )
