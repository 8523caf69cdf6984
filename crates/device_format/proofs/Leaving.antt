-- What a crash leaves at each moment of a format, and what stands after it.
use Rattle.std.proofs.Common.{◌≡◌, ◌≢◌, ◌⊎◌, inl, inr, ⊎_elim, ℕ, ◌≤◌, [], ◌∷◌, ◌++◌, Bool, true, false, ◌==◌, Option, Some, None, Result, Ok, Err, refl, sym, ◌∙◌, ap, subst, arith}
use Rattle.std.specs.Prelude.{OnOk, IsErr}
use Rattle.std.proofs.lemmas.Bool.{cases_eq}
use Rattle.std.proofs.lemmas.Bool.Decides.{nat_tests}
use Rattle.std.proofs.lemmas.Option.{same_Some}
use Rattle.dev_model.specs.Story.{Bytes, Calls, DeviceState, Story, Read, Write, Sync, after, with_call, bytes_of, patched, WhereTold, IsSettled, IsImageNow}
use Rattle.dev_model.specs.Doing.{Did, Made}
use Rattle.dev_model.specs.declared.streams.Failed.{Failed}
use Rattle.dev_model.specs.Moments.{LeavesOnly}
use Rattle.dev_model.specs.Writes.{AreSpared}
use Rattle.dev_model.specs.Laws.Frame.{IsSettled-spared, bytes_of-spared}
use Rattle.dev_model.specs.Laws.Images.{IsReadable-settled}
use Rattle.dev_model.specs.Laws.Plans.{LeavesOnly-did, Did-untold, all_noted-told, no_story}
use Rattle.dev_model.specs.Laws.Ranges.{patched-outside}
use Rattle.dev_model.specs.Laws.Runs.{During, after-append}
use Rattle.superblock.specs.Calls.{TellsGate, close_superblock_if, write_superblock}
use Rattle.device_format.specs.Planning.{close_gates, start_log, write_calls, format_calls, Formats}
use Rattle.device_format.specs.Formatting.{IsEmptyStore, IsFreshStore, IsUnformatted, HasNoStore, LooksAs, IsNoneOrEmpty, IsBeforeOrAfter}
use Rattle.device_format.proofs.Joining.{made_first}
use Rattle.device_format.proofs.Ready.{IsReady, IsBehindGate, IsPrepared, behind_gate, behind_back, ready-same, ready-store, ready-looked, write_fields, prepared}
use Rattle.device_format.proofs.Zeros.{closed-gates, spared-gates, first_there}

-- calls that leave the gate alone leave it closed, and so does a crash during them
shut_after : (s : Story) (calls : Calls) → HasNoStore s → AreSpared calls 0 → HasNoStore (after s calls)
shut_after s calls shut spared = record {
  settled = IsSettled-spared s calls 0 spared shut.settled;
  closed = λ is_open. shut.closed (sym (bytes_of-spared s calls 0 spared) ∙ is_open);
}

unformatted_during : (s : Story) (calls : Calls) (P : Bytes → Type 0) → ((image : Bytes) → IsUnformatted image → P image) → HasNoStore s → AreSpared calls 0 → During s calls P
unformatted_during s [] P so shut spared = tt
unformatted_during s (call ∷ calls) P so shut spared = (
  λ image is. so image (λ is_open. shut.closed (sym (is 0 spared.0 shut.settled) ∙ is_open)),
  unformatted_during (with_call s call) calls P so (shut_after s (call ∷ []) shut (spared.0, tt)) spared.1,
)

-- what holds during calls and during those behind them
During-join : (s : Story) (calls more : Calls) (P : Bytes → Type 0) → During s calls P → During (after s calls) more P → During s (calls ++ more) P
During-join s [] more P first second = second
During-join s (call ∷ calls) more P first second = (first.0, During-join (with_call s call) calls more P first.1 second)

abbrev open_gate : Calls
open_gate = Write 0 (165 ∷ []) ∷ Sync ∷ []

-- the opening of the gate
module _ (pages indexes : ℕ) (few : indexes ≤ 31) (s : Story) (prepared : IsPrepared pages indexes s) where
  outside : (i : ℕ) → IsBehindGate (bytes_of s) i → bytes_of (after s open_gate) i ≡ bytes_of s i
  outside i behind = patched-outside 0 (165 ∷ []) (bytes_of s) i (inr (behind_gate (bytes_of s) i behind))

  opened : bytes_of (after s open_gate) 0 ≡ 165
  opened = first_there 0 165 (bytes_of s)

  ready_after : IsReady pages indexes (bytes_of (after s open_gate))
  ready_after = ready-same (bytes_of s) (bytes_of (after s open_gate)) outside prepared.ready

  -- an image whose gate is open has all that stands behind it
  store_behind : (image : Bytes) → ((i : ℕ) → IsBehindGate (bytes_of s) i → image i ≡ bytes_of s i) → IsNoneOrEmpty pages indexes image
  store_behind image same = elim (cases_eq (image 0) 165) [
    | inl is_open ↦ inr (ready-store pages indexes image (ready-same (bytes_of s) image same prepared.ready) few is_open)
    | inr shut ↦ inl shut
  ]

  opening : (P : Bytes → Type 0) → ((image : Bytes) → IsNoneOrEmpty pages indexes image → P image) → During s open_gate P
  opening P so = (
    λ image is. so image (store_behind image (λ i behind. is i (inr (behind_gate (bytes_of s) i behind)) (prepared.settled i behind))),
    (λ image is. so image (store_behind image (λ i behind. is i tt (inr (behind_gate (bytes_of s) i behind), prepared.settled i behind) ∙ outside i behind)), tt),
  )

  settled_after : (i : ℕ) → (i ≡ 0) ⊎ IsBehindGate (bytes_of (after s open_gate)) i → IsSettled (after s open_gate).past i
  settled_after i (inl gate) = inl (record { from = omega arith; to = omega (arith, gate) })
  settled_after i (inr behind) = inr (IsReadable-settled s.past i (prepared.settled i (behind_back (bytes_of s) (bytes_of (after s open_gate)) outside i behind)))

  fresh : IsFreshStore pages indexes (after s open_gate)
  fresh = record {
    calm = λ i looked. settled_after i (ready-looked (bytes_of (after s open_gate)) i looked);
    store = ready-store pages indexes (bytes_of (after s open_gate)) ready_after few opened;
  }

  fresh_image : (image : Bytes) → IsImageNow (after s open_gate) image → IsEmptyStore pages indexes image
  fresh_image image is =
      ready-store pages indexes image (ready-same (bytes_of (after s open_gate)) image (λ i behind. is i (settled_after i (inr behind))) ready_after)
      few (is 0 (settled_after 0 (inl refl)) ∙ opened)

-- all behind the closing of the superblock
module _ (pages indexes : ℕ) (few : indexes ≤ 31) (s : Story) where
  abbrev closed : Story
  closed = after s close_gates

  abbrev before_gate : Calls
  before_gate = start_log ++ write_fields indexes pages

  abbrev rest : Calls
  rest = close_gates ++ (start_log ++ write_superblock indexes pages)

  is_prepared : IsPrepared pages indexes (after closed before_gate)
  is_prepared = prepared pages indexes closed (closed-gates s)

  rest_is : after s rest ≡ after (after closed before_gate) open_gate
  rest_is = after-append s close_gates (start_log ++ write_superblock indexes pages)

  rest_fresh : IsFreshStore pages indexes (after s rest)
  rest_fresh = subst (IsFreshStore pages indexes) (sym rest_is) (fresh pages indexes few (after closed before_gate) is_prepared)

  rest_image : (image : Bytes) → IsImageNow (after s rest) image → IsEmptyStore pages indexes image
  rest_image image is = fresh_image pages indexes few (after closed before_gate) is_prepared image (subst (λ (t : Story). IsImageNow t image) rest_is is)

  spared : AreSpared before_gate 0
  spared = (inl (omega arith), (tt, (inl (omega arith), (tt, (inl (omega arith), (tt, tt))))))

  rest_during : HasNoStore s → (P : Bytes → Type 0) → ((image : Bytes) → IsNoneOrEmpty pages indexes image → P image) → During s rest P
  rest_during shut P so =
      let unformatted : (image : Bytes) → IsUnformatted image → P image = λ image is. so image (inl is) in
      During-join s close_gates (before_gate ++ open_gate) P (unformatted_during s close_gates P unformatted shut spared-gates)
      (During-join closed before_gate open_gate P (unformatted_during closed before_gate P unformatted (shut_after s close_gates shut spared-gates) spared)
      (opening pages indexes few (after closed before_gate) is_prepared P so))

-- what the gate is read as
gate-open : (gate : ℕ) → true ≡ (gate == 165) → gate ≡ 165
gate-open gate is = grind (arith, nat_tests)

gate-shut : (gate : ℕ) → false ≡ (gate == 165) → gate ≢ 165
gate-shut gate is = grind (arith, nat_tests)

-- the closing of the superblock, whose gate is on the disk
module _ (s : Story) (gate_settled : IsSettled s.past 0) where
  first_or_behind : (i : ℕ) → (i ≡ 0) ⊎ (1 ≤ i)
  first_or_behind i = grind arith

  -- an image that has all but the gate, where the gate was open
  old_or_none : bytes_of s 0 ≡ 165 → (image : Bytes) → ((i : ℕ) → 1 ≤ i → IsSettled s.past i → image i ≡ bytes_of s i) → LooksAs s image ⊎ IsUnformatted image
  old_or_none was_open image same = elim (cases_eq (image 0) 165) [
    | inl is_open ↦ inl (λ i settled. ⊎_elim (λ gate. ap image gate ∙ is_open ∙ sym was_open ∙ ap (bytes_of s) (sym gate)) (λ behind. same i behind settled) (first_or_behind i))
    | inr shut ↦ inr shut
  ]

  pub closing_during : (is_open : Bool) → is_open ≡ (bytes_of s 0 == 165) → (P : Bytes → Type 0) → ((image : Bytes) → LooksAs s image ⊎ IsUnformatted image → P image)
      → During (with_call s (Read 0 1)) (close_superblock_if is_open) P
  closing_during false is P so = tt
  closing_during true is P so =
      let was_open : bytes_of s 0 ≡ 165 = gate-open (bytes_of s 0) is in (
        λ image during. so image (old_or_none was_open image (λ i behind settled. during i (inr behind) settled)),
        (λ image during. so image (old_or_none was_open image (λ i behind settled. during i tt (inr behind, settled) ∙ patched-outside 0 (0 ∷ []) (bytes_of s) i (inr behind))), tt),
      )

  pub closing_shut : (is_open : Bool) → is_open ≡ (bytes_of s 0 == 165) → HasNoStore (after (with_call s (Read 0 1)) (close_superblock_if is_open))
  closing_shut false is = record { settled = gate_settled; closed = gate-shut (bytes_of s 0) is }
  closing_shut true is = record {
    settled = inl (record { from = omega arith; to = omega arith });
    closed = λ is_open. let byte : patched 0 (0 ∷ []) (bytes_of s) 0 ≡ 0 = first_there 0 0 (bytes_of s) in omega (arith, byte, is_open);
  }

-- all calls, planned
module _ (pages indexes : ℕ) (few : indexes ≤ 31) (s : Story) (is_open : Bool) where
  abbrev read : Story
  read = with_call s (Read 0 1)

  abbrev shut_end : Story
  shut_end = after read (close_superblock_if is_open)

  all_is : after s (format_calls is_open indexes pages) ≡ after shut_end (rest pages indexes few s)
  all_is = after-append read (close_superblock_if is_open) (rest pages indexes few s)

  pub all_fresh : IsFreshStore pages indexes (after s (format_calls is_open indexes pages))
  all_fresh = subst (IsFreshStore pages indexes) (sym all_is) (rest_fresh pages indexes few shut_end)

  all_image : (image : Bytes) → IsImageNow (after s (format_calls is_open indexes pages)) image → IsEmptyStore pages indexes image
  all_image image is = rest_image pages indexes few shut_end image (subst (λ (t : Story). IsImageNow t image) all_is is)

  all_during : IsSettled s.past 0 → is_open ≡ (bytes_of s 0 == 165) → During s (format_calls is_open indexes pages) (IsBeforeOrAfter pages indexes s)
  all_during gate is = (
    λ image during. inl (λ i settled. during i tt settled),
    During-join read (close_superblock_if is_open) (rest pages indexes few s) (IsBeforeOrAfter pages indexes s)
        (closing_during s gate is_open is (IsBeforeOrAfter pages indexes s) (λ image left. ⊎_elim (λ old. inl old) (λ none. inr (inl none)) left))
        (rest_during pages indexes few shut_end (closing_shut s gate is_open is) (IsBeforeOrAfter pages indexes s) (λ image left. inr left)),
  )

  pub all_moments : {X E : Type 0} (old new : Option Story) (result : Result X E) → old ≡ Some s → Did (format_calls is_open indexes pages) old new result
      → IsSettled s.past 0 → is_open ≡ (bytes_of s 0 == 165) → LeavesOnly s new (IsBeforeOrAfter pages indexes s)
  all_moments old new result told did gate is =
      LeavesOnly-did s (format_calls is_open indexes pages) (IsBeforeOrAfter pages indexes s) old new result told did (all_during gate is) (λ image now. inr (inr (all_image image now)))

  -- over a superblock that is closed
  none_during : HasNoStore s → is_open ≡ (bytes_of s 0 == 165) → During s (format_calls is_open indexes pages) (IsNoneOrEmpty pages indexes)
  none_during none is = by_flag is_open is
    where
      none_read : HasNoStore read
      none_read = record { settled = none.settled; closed = none.closed }

      by_flag : (flag : Bool) → flag ≡ (bytes_of s 0 == 165) → During s (format_calls flag indexes pages) (IsNoneOrEmpty pages indexes)
      by_flag true is = absurd (none.closed (gate-open (bytes_of s 0) is))
      by_flag false is = (
        λ image during. inl (λ opened. none.closed (sym (during 0 tt none.settled) ∙ opened)),
        rest_during pages indexes few read none_read (IsNoneOrEmpty pages indexes) (λ image left. left),
      )

  pub none_moments : {X E : Type 0} (old new : Option Story) (result : Result X E) → old ≡ Some s → Did (format_calls is_open indexes pages) old new result
      → HasNoStore s → is_open ≡ (bytes_of s 0 == 165) → LeavesOnly s new (IsNoneOrEmpty pages indexes)
  none_moments old new result told did none is =
      LeavesOnly-did s (format_calls is_open indexes pages) (IsNoneOrEmpty pages indexes) old new result told did (none_during none is) (λ image now. inr (all_image image now))

-- the clauses that follow from the calls
pub formatted : {X E : Type 0} {indexes : ℕ} {old new : DeviceState} (result : Result X E) → indexes ≤ 31 → Formats indexes old new result → OnOk result (WhereTold new.story (IsFreshStore old.pages indexes))
formatted (Err e) few is = tt
formatted {X = X} {E = E} {indexes = indexes} {old = old} {new = new} (Ok x) few is = λ t now. from old.story is.made.did t now
  where
    from : (story : Option Story) → Did {X = X} {E = E} (format_calls is.is_open indexes old.pages) story new.story (Ok x) → WhereTold new.story (IsFreshStore old.pages indexes)
    from None did t now = no_story t (sym (Did-untold {T = X} {E = E} (format_calls is.is_open indexes old.pages) new.story (Ok x) did) ∙ now)
    from (Some s) did t now =
        subst (IsFreshStore old.pages indexes) (same_Some _ _ (sym (did ∙ all_noted-told s (format_calls is.is_open indexes old.pages) (Some s) refl) ∙ now)) (all_fresh old.pages indexes few s is.is_open)

pub any_moment : {X E : Type 0} {indexes : ℕ} {old new : DeviceState} {result : Result X E} → indexes ≤ 31 → Formats indexes old new result
    → WhereTold old.story (λ s. IsSettled s.past 0 → LeavesOnly s new.story (IsBeforeOrAfter old.pages indexes s))
any_moment {indexes = indexes} {old = old} {new = new} {result = result} few is s told gate =
    all_moments old.pages indexes few s is.is_open old.story new.story result told is.made.did gate (is.told s told (IsReadable-settled s.past 0 gate))

pub over_none : {X E : Type 0} {indexes : ℕ} {old new : DeviceState} {result : Result X E} → indexes ≤ 31 → Formats indexes old new result
    → WhereTold old.story (λ s. HasNoStore s → LeavesOnly s new.story (IsNoneOrEmpty old.pages indexes))
over_none {indexes = indexes} {old = old} {new = new} {result = result} few is s told none =
    none_moments old.pages indexes few s is.is_open old.story new.story result told is.made.did none (is.told s told (IsReadable-settled s.past 0 none.settled))

-- a read of the gate that failed
pub not_read : {X E : Type 0} {indexes : ℕ} {old new : DeviceState} {failed : Failed} (result : Result X E) → IsErr result → Made {X = Bool} (Read 0 1 ∷ []) old new (Err failed) → Formats indexes old new result
not_read {indexes = indexes} {old = old} result is made =
    let gate = gate_of old.story in
    record { is_open = gate.0; told = gate.1; made = made_first (write_calls gate.0 indexes old.pages) result is made }
  where
    gate_of : (story : Option Story) → (is_open : Bool) × WhereTold story (TellsGate is_open)
    gate_of None = (false, λ s is. no_story s is)
    gate_of (Some s) = (bytes_of s 0 == 165, λ t is readable. ap (λ (u : Story). bytes_of u 0 == 165) (same_Some s t is))
