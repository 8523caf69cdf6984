-- What stays of a directory until something is written over it. No public contract needs these laws.
use Rattle.std.proofs.Common.{◌≡◌, inl, inr, ⊎_elim, ℕ, ◌+◌, ◌<◌, ◌≤◌, Option, Some, sym, ◌∙◌, subst, arith}
use Rattle.std.proofs.lemmas.Bool.{cases_eq}
use Rattle.std.proofs.lemmas.Option.{same_Some}
use Rattle.dev_model.specs.Story.{Story, Sync, Calls, with_call, after, bytes_of, IsOutside}
use Rattle.dev_model.specs.Moments.{LeavesOnly}
use Rattle.dev_model.specs.Writes.{AreSpared, WritesWithin}
use Rattle.dev_model.specs.Laws.Frame.{Stays, frame, bytes_of-spared, IsSettled-spared}
use Rattle.comp_dir.specs.Places.{slot_start}
use Rattle.comp_dir.specs.Directory.{directory_of, IsLooked}
use Rattle.comp_dir.specs.State.{IsClosed, IsWritten, IsReady, HasStayed}
use Rattle.comp_dir.specs.Resting.{IsAtRest}
use Rattle.comp_dir.specs.Laws.Agreeing.{directory-same, looked-back, looked-elsewhere, slot_body-same}
use Rattle.comp_dir.specs.declared.slots.Slot.{Slot}

-- calls that spare all that is looked at leave the directory
pub directory-stays : (s : Story) (calls : Calls) → IsAtRest s → ((i : ℕ) → IsLooked (bytes_of s) i → AreSpared calls i) → HasStayed s (after s calls)
directory-stays s calls rest spared =
    let stays : Stays (IsLooked (bytes_of s)) directory_of s (after s calls) =
    frame (IsLooked (bytes_of s)) directory_of s calls (λ other same. directory-same (bytes_of s) other same) rest spared in
    record {
      at_rest = λ i looked. stays.settled i (looked.0, looked.1, looked-back looked.0 (bytes_of s) (bytes_of (after s calls)) (λ j here. stays.bytes j (looked.0, looked.1, here)) i looked.2);
      reads = stays.reads;
      each = stays.each;
    }

-- what stands behind the gate of a closed slot isn't looked at
pub looked-beside : (n i : ℕ) (s : Story) → IsClosed n s → IsLooked (bytes_of s) i → IsOutside (slot_start n + 1) 63 i
looked-beside n i s closed looked = elim (cases_eq looked.0 n) [
  | inl is ↦ ⊎_elim (λ here. inl (omega (arith, here, is))) (λ in_it. absurd (closed (subst (λ (m : ℕ). bytes_of s (slot_start m) ≡ 165) is in_it.0))) looked.2
  | inr unlike ↦ ⊎_elim (λ before. inl (omega (arith, before))) (λ behind. inr (omega (arith, behind))) (looked-elsewhere looked.0 n i (bytes_of s) unlike looked.2)
]

-- so calls that write there alone leave the directory
pub closed-stays : (n : ℕ) (s : Story) (now : Option Story) → WritesWithin (slot_start n + 1) 63 s now → IsAtRest s → IsClosed n s → (t : Story) → now ≡ Some t → HasStayed s t
closed-stays n s now within rest closed t is =
    subst (HasStayed s) (same_Some _ _ (sym within.told ∙ is))
    (directory-stays s within.calls rest (λ i looked. within.spared i (looked-beside n i s closed looked)))

pub closed-leaves : (n : ℕ) (s : Story) (now : Option Story) → WritesWithin (slot_start n + 1) 63 s now → IsAtRest s → IsClosed n s
    → LeavesOnly s now (λ image. directory_of image ≡ directory_of (bytes_of s))
closed-leaves n s now within rest closed =
    let stays : HasStayed s (after s within.calls) = closed-stays n s now within rest closed (after s within.calls) within.told in
    record { calls = within.calls; told = within.told; each = stays.each }

-- a sync puts the bytes of a slot on the disk
pub ready-synced : (n : ℕ) (slot : Slot) (s : Story) → IsWritten n slot s → IsReady n slot (with_call s Sync)
ready-synced n slot s written = record { closed = written.closed; bytes = written.bytes; settled = λ i behind. written.readable i behind }

-- they stay there while calls write elsewhere
pub ready-stays : (n : ℕ) (slot : Slot) (s : Story) (calls : Calls) → IsReady n slot s → ((i : ℕ) → slot_start n ≤ i → i < slot_start n + 64 → AreSpared calls i) → IsReady n slot (after s calls)
ready-stays n slot s calls ready spared = record {
  closed = λ is. ready.closed (sym (bytes_of-spared s calls (slot_start n) (spared (slot_start n) (omega arith) (omega arith))) ∙ is);
  bytes = slot_body-same n (bytes_of s) (bytes_of (after s calls)) (λ i low high. bytes_of-spared s calls i (spared i (omega arith) high)) ∙ ready.bytes;
  settled = λ i behind. IsSettled-spared s calls i (spared i (omega (arith, behind.from)) (omega (arith, behind.to))) (ready.settled i behind);
}
