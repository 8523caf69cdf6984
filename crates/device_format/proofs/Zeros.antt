-- Gates that were closed: 0 stands there, and is on the disk once they are synced.
use Rattle.std.proofs.Common.{◌≡◌, ◌≢◌, ◌⊎◌, inl, inr, ⊎_elim, ℕ, zero, suc, ◌+◌, ◌-◌, ◌<◌, ◌≤◌, List, [], ◌∷◌, ◌++◌, get_or, Option, refl, sym, ◌∙◌, ap, subst, arith}
use Rattle.dev_model.specs.Story.{Write, Bytes, Calls, Story, Sync, after, with_call, bytes_of, patched, IsReadable, IsSettled, IsOutside}
use Rattle.dev_model.specs.Writes.{AreSpared}
use Rattle.dev_model.specs.Laws.Ranges.{patched-outside, patched-inside}
use Rattle.dev_model.specs.Laws.Runs.{after-append}
use Rattle.format_numbers.specs.declared.TheConstants.{LOG_START}
use Rattle.wal_log.specs.Places.{segment_start}
use Rattle.comp_dir.specs.Places.{slot_start}
use Rattle.comp_dir.specs.Directory.{directory_of, slots_from, open_from, open_slots, IsLooked}
use Rattle.comp_dir.specs.Resting.{IsAtRest as DirectoryAtRest}
use Rattle.comp_dir.specs.Laws.Agreeing.{slot_at-shut}
use Rattle.gate.specs.declared.gates.TheConstants.{CLOSED}
use Rattle.device_format.specs.Planning.{close_from, close_gates}

pub record HasZero (i : ℕ) (s : Story) : Type 0 where
  pub byte : bytes_of s i ≡ 0
  pub readable : IsReadable s.past i

-- what a write puts at its first place
pub first_there : (at byte : ℕ) (old : Bytes) → patched at (byte ∷ []) old at ≡ byte
first_there at byte old =
    let first : at - at ≡ 0 = omega arith in
    patched-inside at (byte ∷ []) old at (record { from = omega arith; to = omega arith }) ∙ ap (λ (n : ℕ). get_or (byte ∷ []) n 0) first

zero_here : (i : ℕ) (s : Story) → HasZero i (with_call s (Write i (CLOSED ∷ [])))
zero_here i s = record { byte = first_there i 0 (bytes_of s); readable = inl (record { from = omega arith; to = omega arith }) }

apart : (i at : ℕ) → (i ≡ at) ⊎ IsOutside at 1 i
apart i at = grind arith

zero_kept : (i at : ℕ) (s : Story) → HasZero i s → HasZero i (with_call s (Write at (CLOSED ∷ [])))
zero_kept i at s is =
    ⊎_elim
    (λ here. subst (λ (n : ℕ). HasZero i (with_call s (Write n (CLOSED ∷ [])))) here (zero_here i s))
    (λ out. record { byte = patched-outside at (0 ∷ []) (bytes_of s) i out ∙ is.byte; readable = inr is.readable })
    (apart i at)

zero_behind : (gate : ℕ → ℕ) (n count i : ℕ) (s : Story) → HasZero i s → HasZero i (after s (close_from gate n count))
unfolding close_from
zero_behind gate n zero i s is = is
zero_behind gate n (suc count) i s is = zero_behind gate (n + 1) count i (with_call s (Write (gate n) (CLOSED ∷ []))) (zero_kept i (gate n) s is)

zero_each : (gate : ℕ → ℕ) (n count k : ℕ) (s : Story) → k < count → HasZero (gate (n + k)) (after s (close_from gate n count))
unfolding close_from
zero_each gate n zero k s lt = absurd (omega arith)
zero_each gate n (suc count) zero s lt =
    let here : n ≡ n + 0 = omega arith in
    subst (λ (m : ℕ). HasZero (gate m) (after s (close_from gate n (suc count)))) here (zero_behind gate (n + 1) count (gate n) (with_call s (Write (gate n) (CLOSED ∷ []))) (zero_here (gate n) s))
zero_each gate n (suc count) (suc k) s lt =
    let there : n + 1 + k ≡ n + suc k = omega arith in
    subst (λ (m : ℕ). HasZero (gate m) (after s (close_from gate n (suc count)))) there (zero_each gate (n + 1) count k (with_call s (Write (gate n) (CLOSED ∷ []))) (omega arith))

zero_first : (gate : ℕ → ℕ) (count k : ℕ) (s : Story) → k < count → HasZero (gate k) (after s (close_from gate 0 count))
zero_first gate count k s lt = let here : 0 + k ≡ k = omega arith in subst (λ (m : ℕ). HasZero (gate m) (after s (close_from gate 0 count))) here (zero_each gate 0 count k s lt)

none_from : (count n m : ℕ) (bytes : Bytes) → ((k : ℕ) → n ≤ k → k < n + count → bytes (slot_start k) ≢ 165) → open_from m (slots_from count n bytes) ≡ []
unfolding slots_from
none_from zero n m bytes closed = refl
none_from (suc count) n m bytes closed =
    ap (λ (o : Option (List ℕ)). open_from m (o ∷ slots_from count (n + 1) bytes)) (slot_at-shut n bytes (closed n (omega arith) (omega arith)))
    ∙ none_from count (n + 1) (m + 1) bytes (λ k low high. closed k (omega (arith, low)) (omega (arith, high)))

-- all gates are closed, and on the disk
pub record AreClosed (s : Story) : Type 0 where
  pub no_slots : open_slots (directory_of (bytes_of s)) ≡ []
  pub directory_rest : DirectoryAtRest s
  pub headers : (k : ℕ) → k < 4 → (bytes_of s (segment_start LOG_START k) ≡ 0) × IsSettled s.past (segment_start LOG_START k)

module _ (s : Story) where
  abbrev written : Story
  written = after (after s (close_from slot_start 0 512)) (close_from (segment_start LOG_START) 0 4)

  slot_zero : (n : ℕ) → n < 512 → HasZero (slot_start n) written
  slot_zero n lt = zero_behind (segment_start LOG_START) 0 4 (slot_start n) (after s (close_from slot_start 0 512)) (zero_first slot_start 512 n s lt)

  shut : (n : ℕ) → n < 512 → bytes_of written (slot_start n) ≢ 165
  shut n lt is_open = let zero_is : bytes_of written (slot_start n) ≡ 0 = (slot_zero n lt).byte in omega (arith, is_open, zero_is)

  settled : (i : ℕ) → IsLooked (bytes_of written) i → IsReadable written.past i
  settled i (n, lt, inl gate) = subst (IsReadable written.past) (sym gate) (slot_zero n lt).readable
  settled i (n, lt, inr body) = absurd (shut n lt body.0)

  none : open_slots (directory_of (bytes_of written)) ≡ []
  unfolding directory_of
  none = none_from 512 0 0 (bytes_of written) (λ k low high. shut k (omega (arith, high)))

  pub closed-gates : AreClosed (after s close_gates)
  closed-gates =
      let all : after s close_gates ≡ with_call written Sync =
      after-append s (close_from slot_start 0 512) (close_from (segment_start LOG_START) 0 4 ++ Sync ∷ []) ∙ after-append (after s (close_from slot_start 0 512)) (close_from (segment_start LOG_START) 0 4) (Sync ∷ []) in
      subst AreClosed (sym all) (record {
        no_slots = none;
        directory_rest = settled;
        headers = λ k lt. let is : HasZero (segment_start LOG_START k) written = zero_first (segment_start LOG_START) 4 k (after s (close_from slot_start 0 512)) lt in (is.byte, is.readable);
      })

-- closing gates spares the places before them
spared-append : (calls more : Calls) (i : ℕ) → AreSpared calls i → AreSpared more i → AreSpared (calls ++ more) i
spared-append [] more i first second = second
spared-append (call ∷ calls) more i first second = (first.0, spared-append calls more i first.1 second)

spared-from : (gate : ℕ → ℕ) (n count i : ℕ) → ((k : ℕ) → i < gate k) → AreSpared (close_from gate n count) i
unfolding close_from
spared-from gate n zero i before = tt
spared-from gate n (suc count) i before = (inl (before n), spared-from gate (n + 1) count i before)

pub spared-gates : AreSpared close_gates 0
spared-gates =
    spared-append (close_from slot_start 0 512) (close_from (segment_start LOG_START) 0 4 ++ Sync ∷ []) 0 (spared-from slot_start 0 512 0 (λ n. omega arith))
    (spared-append (close_from (segment_start LOG_START) 0 4) (Sync ∷ []) 0 (spared-from (segment_start LOG_START) 0 4 0 (λ k. omega arith)) (tt, tt))
