-- Laws of pages that were asked for. No public contract needs them.
use Rattle.std.proofs.Common.{◌≡◌, ℕ, suc, ◌+◌, ◌-◌, ◌*◌, ◌^◌, Bool, true, false, List, [], ◌∷◌, ◌++◌, length, Option, Some, None, refl, sym, ◌∙◌, ap, arith}
use Rattle.std.specs.Prelude.{nat_lt, if◌then◌else◌, map, All}
use Rattle.space_map.specs.declared.space.Extent.{Extent}
use Rattle.dev_model.specs.Story.{DeviceState, Call, Read, Write, Sync, FailedWrite, FailedCall, Calls, Story, after}
use Rattle.dev_model.specs.Doing.{noted, all_noted}
use Rattle.dev_model.specs.Moments.{AreReadsWithin, ReadsWithin}
use Rattle.dev_model.specs.DeviceCalls.{made_at, ok_calls}
use Rattle.dev_model.specs.declared.calls.DeviceCall.{DeviceCall}
use Rattle.dev_model.specs.declared.calls.DeviceAct.TheVariants.{ReadAt}
use Rattle.dev_model.specs.Laws.Plans.{all_noted-told}
use Rattle.device_pages.specs.declared.lending.TheConstants.{PAGE_BYTES}
use Rattle.device_pages.specs.Asked.{Asked, calls_of, read_of, pages_of}
use Rattle.device_pages.specs.ReadsMade.{reads_made}
use Rattle.device_pages.specs.Lending.{contents_of}

-- nothing was asked for
pub asked-none : (s : DeviceState) → Asked [] s s
asked-none s = record { same_pages = refl; clock = omega arith; told = refl }

-- the calls of a first list of pages, and then of another one
pub calls_of-append : (clock : ℕ) (first second : List (ℕ × Bool)) → calls_of clock (first ++ second) ≡ calls_of clock first ++ calls_of (clock + length (calls_of clock first)) second
calls_of-append clock [] second = let e : clock ≡ clock + 0 = omega arith in ap (λ (n : ℕ). calls_of n second) e
calls_of-append clock ((page, true) ∷ first) second =
    let more : calls_of (clock + 1) (first ++ second) ≡ calls_of (clock + 1) first ++ calls_of (clock + 1 + length (calls_of (clock + 1) first)) second = calls_of-append (clock + 1) first second in
    let e : clock + 1 + length (calls_of (clock + 1) first) ≡ clock + length (read_of page ∷ calls_of (clock + 1) first) = omega arith in
    ap (λ (calls : Calls). read_of page ∷ calls) (more ∙ ap (λ (n : ℕ). calls_of (clock + 1) first ++ calls_of n second) e)
calls_of-append clock ((page, false) ∷ first) second =
    by_clock (nat_lt clock (2 ^ 64 - 1)) (calls_of-append (clock + 1) first second) (calls_of-append clock first second)
  where
    noted_at : Bool → List (ℕ × Bool) → Calls
    noted_at told asked = if told then FailedCall ∷ calls_of (clock + 1) asked else calls_of clock asked

    by_clock : (told : Bool) → calls_of (clock + 1) (first ++ second) ≡ calls_of (clock + 1) first ++ calls_of (clock + 1 + length (calls_of (clock + 1) first)) second
        → calls_of clock (first ++ second) ≡ calls_of clock first ++ calls_of (clock + length (calls_of clock first)) second
        → noted_at told (first ++ second) ≡ noted_at told first ++ calls_of (clock + length (noted_at told first)) second
    by_clock true more none =
        let e : clock + 1 + length (calls_of (clock + 1) first) ≡ clock + length (FailedCall ∷ calls_of (clock + 1) first) = omega arith in
        ap (λ (calls : Calls). FailedCall ∷ calls) (more ∙ ap (λ (n : ℕ). calls_of (clock + 1) first ++ calls_of n second) e)
    by_clock false more none = none

all_noted-append : (first second : Calls) (story : Option Story) → all_noted (first ++ second) story ≡ all_noted second (all_noted first story)
all_noted-append [] second story = refl
all_noted-append (call ∷ first) second story = all_noted-append first second (noted call story)

length-append : (first second : Calls) → length (first ++ second) ≡ length first + length second
length-append [] second = omega arith
length-append (call ∷ first) second = omega (arith, length-append first second)

-- what was asked for, and then more
pub asked-then : (s t u : DeviceState) (first second : List (ℕ × Bool)) → Asked first s t → Asked second t u → Asked (first ++ second) s u
asked-then s t u first second before more =
    let calls : Calls = calls_of s.clock first in
    let later : calls_of t.clock second ≡ calls_of (s.clock + length calls) second = ap (λ (n : ℕ). calls_of n second) before.clock in
    let all : calls_of s.clock (first ++ second) ≡ calls ++ calls_of t.clock second = calls_of-append s.clock first second ∙ ap (λ (c : Calls). calls ++ c) (sym later) in
    let len : length (calls_of s.clock (first ++ second)) ≡ length calls + length (calls_of t.clock second) = ap length all ∙ length-append calls (calls_of t.clock second) in
    record {
      same_pages = more.same_pages ∙ before.same_pages;
      clock = omega (arith, len, before.clock, more.clock);
      told = more.told ∙ ap (all_noted (calls_of t.clock second)) before.told ∙ sym (all_noted-append calls (calls_of t.clock second) s.story)
          ∙ ap (λ (c : Calls). all_noted c s.story) (sym all);
    }

-- pages that were all given: one read for each, and the clock rises by one for each
pub calls_of-given : (clock : ℕ) (pages : List ℕ) → calls_of clock (map (λ page. (page, true)) pages) ≡ map read_of pages
calls_of-given clock [] = refl
calls_of-given clock (page ∷ pages) = ap (λ (calls : Calls). read_of page ∷ calls) (calls_of-given (clock + 1) pages)

pub pages_of-given : (pages : List ℕ) → pages_of (map (λ page. (page, true)) pages) ≡ pages
pages_of-given [] = refl
pages_of-given (page ∷ pages) = ap (λ (more : List ℕ). page ∷ more) (pages_of-given pages)

length-given : (clock : ℕ) (pages : List ℕ) → length (calls_of clock (map (λ page. (page, true)) pages)) ≡ length pages
length-given clock [] = refl
length-given clock (page ∷ pages) = ap suc (length-given (clock + 1) pages)

pub clock-given : (pages : List ℕ) (old new : DeviceState) → Asked (map (λ page. (page, true)) pages) old new → new.clock ≡ old.clock + length pages
clock-given pages old new asked = asked.clock ∙ ap (λ (n : ℕ). old.clock + n) (length-given old.clock pages)

-- the calls that succeeded are the reads of the pages that were given
pub ok_calls-asked : (clock : ℕ) (asked : List (ℕ × Bool)) → ok_calls clock (calls_of clock asked) ≡ reads_made clock asked
ok_calls-asked clock [] = refl
ok_calls-asked clock ((page, true) ∷ asked) = ap (λ (made : List DeviceCall). made_at (clock + 1) (ReadAt (page * PAGE_BYTES) PAGE_BYTES) ∷ made) (ok_calls-asked (clock + 1) asked)
ok_calls-asked clock ((page, false) ∷ asked) = by_clock (nat_lt clock (2 ^ 64 - 1)) (ok_calls-asked (clock + 1) asked) (ok_calls-asked clock asked)
  where
    by_clock : (rises : Bool) → ok_calls (clock + 1) (calls_of (clock + 1) asked) ≡ reads_made (clock + 1) asked → ok_calls clock (calls_of clock asked) ≡ reads_made clock asked
        → ok_calls clock (if rises then FailedCall ∷ calls_of (clock + 1) asked else calls_of clock asked) ≡ reads_made (if rises then clock + 1 else clock) asked
    by_clock true more none = more
    by_clock false more none = none

-- nothing but reads of pages that were asked for
pub are_reads-asked : (Within : ℕ → ℕ → Type 0) (clock : ℕ) (asked : List (ℕ × Bool)) → All (λ page. Within (page * PAGE_BYTES) PAGE_BYTES) (pages_of asked) → AreReadsWithin Within (calls_of clock asked)
are_reads-asked Within clock [] each = tt
are_reads-asked Within clock ((page, true) ∷ asked) each = (each 0 0 (omega arith), are_reads-asked Within (clock + 1) asked (λ k d h. each (suc k) d (omega (arith, h))))
are_reads-asked Within clock ((page, false) ∷ asked) each =
    let rest : All (λ page. Within (page * PAGE_BYTES) PAGE_BYTES) (pages_of asked) = λ k d h. each (suc k) d (omega (arith, h)) in
    by_clock (nat_lt clock (2 ^ 64 - 1)) (are_reads-asked Within (clock + 1) asked rest) (are_reads-asked Within clock asked rest)
  where
    by_clock : (rises : Bool) → AreReadsWithin Within (calls_of (clock + 1) asked) → AreReadsWithin Within (calls_of clock asked)
        → AreReadsWithin Within (if rises then FailedCall ∷ calls_of (clock + 1) asked else calls_of clock asked)
    by_clock true more none = more
    by_clock false more none = none

-- what the story of a device that tells has of it
pub story-asked : (asked : List (ℕ × Bool)) (old new : DeviceState) (s : Story) → Asked asked old new → old.story ≡ Some s → new.story ≡ Some (after s (calls_of old.clock asked))
story-asked asked old new s went told = went.told ∙ all_noted-told s (calls_of old.clock asked) old.story told

pub ReadsWithin-asked : (Within : ℕ → ℕ → Type 0) (asked : List (ℕ × Bool)) (old new : DeviceState) (s : Story) → Asked asked old new → old.story ≡ Some s
    → All (λ page. Within (page * PAGE_BYTES) PAGE_BYTES) (pages_of asked) → ReadsWithin Within s new.story
ReadsWithin-asked Within asked old new s went told each = record {
  calls = calls_of old.clock asked;
  told = story-asked asked old new s went told;
  reads = are_reads-asked Within old.clock asked each;
}

-- asking leaves what the lent pages hold
pub contents-asked : (extents : List Extent) (asked : List (ℕ × Bool)) (old new : DeviceState) → Asked asked old new → contents_of extents new.story ≡ contents_of extents old.story
contents-asked extents asked old new went =
    ap (contents_of extents) went.told
    ∙ noted_reads (calls_of old.clock asked) old.story (are_reads-asked (λ _ _. Unit {0}) old.clock asked (λ k d h. tt))
  where
    noted_one : (call : Call) (story : Option Story) → AreReadsWithin (λ _ _. Unit {0}) (call ∷ []) → contents_of extents (noted call story) ≡ contents_of extents story
    noted_one call None reads = refl
    noted_one (Read at count) (Some s) reads = refl
    noted_one FailedCall (Some s) reads = refl
    noted_one (Write at new) (Some s) reads = absurd reads
    noted_one (FailedWrite at new) (Some s) reads = absurd reads
    noted_one Sync (Some s) reads = absurd reads

    noted_reads : (calls : Calls) (story : Option Story) → AreReadsWithin (λ _ _. Unit {0}) calls → contents_of extents (all_noted calls story) ≡ contents_of extents story
    noted_reads [] story reads = refl
    noted_reads (Read at count ∷ calls) story reads = noted_reads calls (noted (Read at count) story) reads.1 ∙ noted_one (Read at count) story (tt, tt)
    noted_reads (FailedCall ∷ calls) story reads = noted_reads calls (noted FailedCall story) reads ∙ noted_one FailedCall story tt
    noted_reads (Write at new ∷ calls) story reads = absurd reads
    noted_reads (FailedWrite at new ∷ calls) story reads = absurd reads
    noted_reads (Sync ∷ calls) story reads = absurd reads
