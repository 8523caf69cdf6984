-- One page that is asked for.
use Rattle.std.proofs.Common.{◌≡◌, inl, inr, ℕ, ◌+◌, ◌-◌, ◌*◌, ◌^◌, ◌≤◌, Bool, true, false, List, [], ◌∷◌, length, Option, Some, None, Result, Ok, Err, refl, sym, ◌∙◌, ap, subst, arith}
use Rattle.std.specs.Prelude.{IsTrue, OnOk, is_ok, nat_lt, if◌then◌else◌}
use Rattle.space_map.specs.declared.space.Extent.{Extent}
use Rattle.dev_model.specs.Story.{DeviceState, Read, FailedCall, Calls, Story, clock_of, with_call, bytes_of, WhereTold, IsReadable, part}
use Rattle.dev_model.specs.Doing.{noted, all_noted, HasChangedNothing}
use Rattle.dev_model.specs.Answers.{MadeCall, Tells, IsReadFrom}
use Rattle.dev_model.specs.Laws.Ranges.{part-read}
use Rattle.device_pages.specs.declared.lending.TheConstants.{PAGE_BYTES}
use Rattle.device_pages.specs.Asked.{Asked}
use Rattle.device_pages.specs.Lending.{page_bytes, contents_of}
use Rattle.device_pages.specs.Lent.{is_lent}
use Rattle.device_pages.specs.LentPlaces.{IsLentPlace}
use Rattle.device_pages.specs.Laws.Lending.{contents-told}

-- a call that failed is told, but at the clock's last value
abbrev failed_calls : Bool → Calls
failed_calls told = if told then FailedCall ∷ [] else []

told_after : (clock new_clock : ℕ) (old new : Option Story) (rises : Bool) → new_clock ≡ (if rises then clock + 1 else clock) → HasChangedNothing old new
    → ((s : Story) → old ≡ Some s → clock ≡ clock_of s) → ((s : Story) → new ≡ Some s → new_clock ≡ clock_of s)
    → new ≡ all_noted (failed_calls rises) old
told_after clock new_clock old new true time (inl failed) before now = failed
told_after clock new_clock None new true time (inr same) before now = same
told_after clock new_clock (Some s) new true time (inr same) before now =
    let first : clock ≡ clock_of s = before s refl in
    let last : new_clock ≡ clock_of s = now s same in
    absurd (omega (arith, time, first, last))
told_after clock new_clock None new false time (inl failed) before now = failed
told_after clock new_clock (Some s) new false time (inl failed) before now =
    let first : clock ≡ clock_of s = before s refl in
    let last : new_clock ≡ clock_of (with_call s FailedCall) = now (with_call s FailedCall) failed in
    absurd (omega (arith, time, first, last))
told_after clock new_clock old new false time (inr same) before now = same

clock_after : (clock new_clock : ℕ) (rises : Bool) → new_clock ≡ (if rises then clock + 1 else clock) → new_clock ≡ clock + length (failed_calls rises)
clock_after clock new_clock true time = time
clock_after clock new_clock false time = omega (arith, time)

-- a page that was read, or not
pub asked-read : {X E : Type 0} (page at count : ℕ) (result : Result X E) (old new : DeviceState) → at ≡ page * PAGE_BYTES → count ≡ PAGE_BYTES → MadeCall (Read at count) old new result
    → ((s : Story) → old.story ≡ Some s → old.clock ≡ clock_of s) → ((s : Story) → new.story ≡ Some s → new.clock ≡ clock_of s)
    → Asked ((page, is_ok result) ∷ []) old new
asked-read page at count (Ok x) old new place size made before now = record {
  same_pages = made.same_pages;
  clock = made.ticks;
  told = made.told ∙ (λ j. noted (Read (place j) (size j)) old.story);
}
asked-read page at count (Err e) old new place size made before now = record {
  same_pages = made.same_pages;
  clock = clock_after old.clock new.clock (nat_lt old.clock (2 ^ 64 - 1)) made.time;
  told = told_after old.clock new.clock old.story new.story (nat_lt old.clock (2 ^ 64 - 1)) made.time made.told before now;
}

-- what a page that was read has put into the buffer
pub page_read : {X E : Type 0} (extents : List Extent) (page at : ℕ) (buf : List ℕ) (result : Result X E) (story : Option Story) → at ≡ page * PAGE_BYTES → length buf ≡ PAGE_BYTES
    → IsTrue (is_lent extents page) → OnOk result (WhereTold story (IsReadFrom at buf)) → OnOk result (WhereTold (contents_of extents story) (λ contents. buf ≡ contents page))
page_read extents page at buf (Err e) story place size lent read = tt
page_read extents page at buf (Ok x) None place size lent read = λ contents told. cc
page_read extents page at buf (Ok x) (Some s) place size lent read = λ contents told.
    let readable : ((i : ℕ) → IsLentPlace extents i → IsReadable s.past i) × (page_bytes s ≡ contents) = contents-told extents s contents told in
    sym (part-read at buf s (read s refl) (λ i from to. readable.0 i (record { page = page; lent = lent; from = subst (λ (n : ℕ). n ≤ i) place from; to = omega (arith, to, place, size) })))
    ∙ (λ j. part (place j) (size j) (bytes_of s))
    ∙ ap (λ (f : ℕ → List ℕ). f page) readable.1

-- one read leaves what the lent pages hold
pub contents-read : {X E : Type 0} (extents : List Extent) (at count : ℕ) (result : Result X E) (old new : Option Story) → Tells (Read at count) old new result
    → contents_of extents new ≡ contents_of extents old
contents-read extents at count (Ok x) old new told = ap (contents_of extents) told ∙ noted_same old
  where
    noted_same : (old : Option Story) → contents_of extents (noted (Read at count) old) ≡ contents_of extents old
    noted_same None = refl
    noted_same (Some s) = refl
contents-read extents at count (Err e) old new (inl failed) = ap (contents_of extents) failed ∙ noted_same old
  where
    noted_same : (old : Option Story) → contents_of extents (noted FailedCall old) ≡ contents_of extents old
    noted_same None = refl
    noted_same (Some s) = refl
contents-read extents at count (Err e) old new (inr same) = ap (contents_of extents) same
