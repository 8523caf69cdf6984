-- What a crash leaves of the directory while a slot is written, opened or closed, and what stands there afterwards.
use Rattle.std.proofs.Common.{◌≡◌, ◌≢◌, ◌⊎◌, inl, inr, ⊎_elim, ℕ, ◌+◌, ◌<◌, ◌≤◌, List, [], ◌∷◌, Option, Some, None, Result, Ok, Err, OnOk, length, set, refl, sym, ◌∙◌, ap, subst, arith, suc}
use Rattle.std.proofs.lemmas.Bool.{cases_eq}
use Rattle.dev_model.specs.Story.{Bytes, Write, Sync, Story, WhereTold, after, bytes_of, patched, IsInside, IsOutside, IsReadable, IsSettled, IsImageDuring, part}
use Rattle.dev_model.specs.Doing.{Did}
use Rattle.dev_model.specs.Answers.{Tells}
use Rattle.dev_model.specs.Writes.{WritesWithin}
use Rattle.dev_model.specs.Laws.Frame.{WritesWithin-did}
use Rattle.dev_model.specs.Laws.Ranges.{patched-outside, part-patched, part-list}
use Rattle.dev_model.specs.Laws.Images.{IsReadable-settled}
use Rattle.dev_model.specs.Laws.Plans.{Did-call, Did-same}
use Rattle.gate.specs.Calls.{open_calls, close_calls}
use Rattle.gate.specs.Gates.{Holds, IsGated, HasPut}
use Rattle.gate.specs.Laws.Plans.{leaves-did, leaves-one, leaves-weaker, after-did}
use Rattle.gate.specs.Laws.Gates.{holds-first, put-synced, put-gated, gated-leaves, gated-within}
use Rattle.comp_dir.specs.Places.{slot_start}
use Rattle.comp_dir.specs.Slots.{slot_bytes}
use Rattle.comp_dir.specs.Directory.{Directory, slot_body, slot_at, directory_of, IsLookedInSlot}
use Rattle.comp_dir.specs.State.{IsClosed, IsOpen, IsBehindGate, IsWritten, IsReady, IsOneOf, Becomes, write_calls, with_slot, without_slot}
use Rattle.comp_dir.specs.Resting.{IsAtRest, install_calls}
use Rattle.comp_dir.specs.Laws.Agreeing.{slot_at-open, slot_at-shut, slot_body-same, looked-elsewhere, looked-back, directory-kept, directory-set}
use Rattle.comp_dir.specs.declared.slots.Slot.{Slot}

pub length-slot_bytes : (slot : Slot) → length (slot_bytes slot) ≡ 63
unfolding slot_bytes
length-slot_bytes slot = refl

-- the slot's bytes, written
pub written-there : (n : ℕ) (slot : Slot) (s : Story) → IsClosed n s → IsWritten n slot (after s (write_calls n slot))
unfolding slot_body
written-there n slot s closed =
    let width : length (slot_bytes slot) ≡ 63 = length-slot_bytes slot in
    record {
      closed = λ is. closed (sym (patched-outside (slot_start n + 1) (slot_bytes slot) (bytes_of s) (slot_start n) (inl (omega arith))) ∙ is);
      bytes = subst (λ (k : ℕ). part-of k) width (part-patched (slot_start n + 1) (slot_bytes slot) (bytes_of s));
      readable = λ i behind. inl (record { from = behind.from; to = omega (arith, behind.to, width) });
    }
  where
    part-of : ℕ → Type 0
    part-of k = part (slot_start n + 1) k (patched (slot_start n + 1) (slot_bytes slot) (bytes_of s)) ≡ slot_bytes slot

-- so many bytes are written, from a slot's gate on
module _ (n width : ℕ) (below : n < 512) (few : width ≤ 64) (s : Story) (rest : IsAtRest s) where
  away : (i : ℕ) → (i < slot_start n) ⊎ (slot_start n + 64 ≤ i) → IsOutside (slot_start n) width i
  away i (inl before) = inl before
  away i (inr behind) = inr (omega (arith, behind, few))

  -- bytes that have what was on the disk outside of these
  module _ (image : Bytes) (same : (i : ℕ) → IsOutside (slot_start n) width i → IsSettled s.past i → image i ≡ bytes_of s i) where
    kept : slot_at n image ≡ slot_at n (bytes_of s) → directory_of image ≡ directory_of (bytes_of s)
    kept there = directory-kept n (bytes_of s) image below there (λ i out looked. same i (away i out) (rest i looked))

    changed : (new : Option (List ℕ)) → slot_at n image ≡ new → directory_of image ≡ set (directory_of (bytes_of s)) n new
    changed new there = directory-set n (bytes_of s) image new below there (λ i out looked. same i (away i out) (rest i looked))

  rests : (t : Story) (xs : List ℕ) → length xs ≡ width → HasPut (slot_start n) xs s t → ((i : ℕ) → IsLookedInSlot n (bytes_of t) i → IsInside (slot_start n) width i ⊎ IsReadable s.past i) → IsAtRest t
  rests t xs long put here i looked = elim (cases_eq looked.0 n) [
    | inl is ↦ put.settled i (subst (λ (k : ℕ). IsInside (slot_start n) k i ⊎ IsReadable s.past i) (sym long) (here i (subst (λ (m : ℕ). IsLookedInSlot m (bytes_of t) i) is looked.2)))
    | inr unlike ↦
        let before : IsLookedInSlot looked.0 (bytes_of s) i = looked-back looked.0 (bytes_of s) (bytes_of t) (λ j there. put.elsewhere j (subst (λ (k : ℕ). IsOutside (slot_start n) k j) (sym long) (away j (looked-elsewhere looked.0 n j (bytes_of s) unlike there)))) i looked.2 in
        put.settled i (inr (IsReadable-settled s.past i (rest i (looked.0, looked.1, before))))
  ]

-- the gate of a slot whose bytes are on the disk
module _ (n byte : ℕ) (below : n < 512) (s : Story) (rest : IsAtRest s) (settled : (i : ℕ) → IsBehindGate n i → IsSettled s.past i) where
  abbrev ended : Story
  ended = after s (Write (slot_start n) (byte ∷ []) ∷ Sync ∷ [])

  abbrev body : List ℕ
  body = slot_body n (bytes_of s)

  put : HasPut (slot_start n) (byte ∷ []) s ended
  put = put-synced (slot_start n) (byte ∷ []) s

  -- while the gate is written it may be anything
  slot-either : (image : Bytes) → IsImageDuring s (Write (slot_start n) (byte ∷ [])) image → (slot_at n image ≡ Some body) ⊎ (slot_at n image ≡ None)
  slot-either image is = elim (cases_eq (image (slot_start n)) 165) [
    | inl is_open ↦ inl (slot_at-open n image is_open ∙ ap Some (slot_body-same n (bytes_of s) image (λ i low high. is i (inr (omega arith)) (settled i (record { from = omega arith; to = omega arith })))))
    | inr shut ↦ inr (slot_at-shut n image shut)
  ]

  opening : IsClosed n s → (image : Bytes) → IsImageDuring s (Write (slot_start n) (byte ∷ [])) image → IsOneOf (directory_of (bytes_of s)) (set (directory_of (bytes_of s)) n (Some body)) (directory_of image)
  opening closed image is = ⊎_elim
      (λ there. inr (changed n 1 below (omega arith) s rest image is (Some body) there))
      (λ none. inl (kept n 1 below (omega arith) s rest image is (none ∙ sym (slot_at-shut n (bytes_of s) closed))))
      (slot-either image is)

  closing : IsOpen n s → (image : Bytes) → IsImageDuring s (Write (slot_start n) (byte ∷ [])) image → IsOneOf (directory_of (bytes_of s)) (set (directory_of (bytes_of s)) n None) (directory_of image)
  closing is_open image is = ⊎_elim
      (λ there. inl (kept n 1 below (omega arith) s rest image is (there ∙ sym (slot_at-open n (bytes_of s) is_open))))
      (λ none. inr (changed n 1 below (omega arith) s rest image is None none))
      (slot-either image is)

  end-changed : (new : Option (List ℕ)) → slot_at n (bytes_of ended) ≡ new → directory_of (bytes_of ended) ≡ set (directory_of (bytes_of s)) n new
  end-changed new there = changed n 1 below (omega arith) s rest (bytes_of ended) (λ i out on_disk. put.elsewhere i out) new there

  gate-end : bytes_of ended (slot_start n) ≡ byte
  gate-end = holds-first (slot_start n) byte [] (bytes_of ended) put.stands

  opened : byte ≡ 165 → directory_of (bytes_of ended) ≡ set (directory_of (bytes_of s)) n (Some body)
  opened is = end-changed (Some body) (slot_at-open n (bytes_of ended) (gate-end ∙ is) ∙ ap Some (slot_body-same n (bytes_of s) (bytes_of ended) (λ i low high. put.elsewhere i (inr (omega arith)))))

  closed-again : byte ≢ 165 → directory_of (bytes_of ended) ≡ set (directory_of (bytes_of s)) n None
  closed-again shut = end-changed None (slot_at-shut n (bytes_of ended) (λ is. shut (sym gate-end ∙ is)))

  gate-rests : IsAtRest ended
  gate-rests = rests n 1 below (omega arith) s rest ended (byte ∷ []) refl put (λ i looked. ⊎_elim (λ gate. inl (record { from = omega (arith, gate); to = omega (arith, gate) })) (λ in_it. by_side i in_it.1 in_it.2 (sides i (slot_start n))) looked)
    where
      sides : (i at : ℕ) → (i < at + 1) ⊎ (at < i)
      sides i at = grind arith

      by_side : (i : ℕ) → slot_start n ≤ i → i < slot_start n + 64 → (i < slot_start n + 1) ⊎ (slot_start n < i) → IsInside (slot_start n) 1 i ⊎ IsReadable s.past i
      by_side i low high (inl gate) = inl (record { from = low; to = gate })
      by_side i low high (inr behind) = inr (IsReadable-settled s.past i (settled i (record { from = omega (arith, behind); to = omega (arith, high) })))

-- a slot that is ready is opened
pub open-becomes : {X E : Type 0} (n : ℕ) (below : n < 512) (slot : Slot) (s : Story) (old now : Option Story) (result : Result X E) → IsAtRest s → IsReady n slot s → old ≡ Some s → Did (open_calls (slot_start n)) old now result
    → Becomes (with_slot n slot (directory_of (bytes_of s))) result s now
open-becomes n below slot s old now result rest ready is did =
    subst (λ (b : List ℕ). Becomes (set (directory_of (bytes_of s)) n (Some b)) result s now) ready.bytes (record {
      any_moment = leaves-did s (open_calls (slot_start n)) _ old now result (leaves-one s (slot_start n) (165 ∷ []) _ (opening n 165 below s rest ready.settled ready.closed)) is did;
      at_rest = after-did s (open_calls (slot_start n)) IsAtRest old now result (gate-rests n 165 below s rest ready.settled) is did;
      reads = after-did s (open_calls (slot_start n)) (λ t. directory_of (bytes_of t) ≡ set (directory_of (bytes_of s)) n (Some (slot_body n (bytes_of s)))) old now result (opened n 165 below s rest ready.settled refl) is did;
    })

-- a slot that is open is closed
pub close-becomes : {X E : Type 0} (n : ℕ) (below : n < 512) (s : Story) (old now : Option Story) (result : Result X E) → IsAtRest s → IsOpen n s → old ≡ Some s → Did (close_calls (slot_start n)) old now result
    → Becomes (without_slot n (directory_of (bytes_of s))) result s now
close-becomes n below s old now result rest is_open is did = record {
  any_moment = leaves-did s (close_calls (slot_start n)) _ old now result (leaves-one s (slot_start n) (0 ∷ []) _ (closing n 0 below s rest behind is_open)) is did;
  at_rest = after-did s (close_calls (slot_start n)) IsAtRest old now result (gate-rests n 0 below s rest behind) is did;
  reads = after-did s (close_calls (slot_start n)) (λ t. directory_of (bytes_of t) ≡ without_slot n (directory_of (bytes_of s))) old now result (closed-again n 0 below s rest behind (omega arith)) is did;
}
  where
    behind : (i : ℕ) → IsBehindGate n i → IsSettled s.past i
    behind i there = rest i (n, below, inr (is_open, omega (arith, there.from), omega (arith, there.to)))

-- a slot that is closed is written and opened
module _ (n : ℕ) (below : n < 512) (slot : Slot) (s : Story) (rest : IsAtRest s) (closed : IsClosed n s) where
  long : length (165 ∷ slot_bytes slot) ≡ 64
  long = ap suc (length-slot_bytes slot)

  abbrev installed : Directory
  installed = with_slot n slot (directory_of (bytes_of s))

  open-there : (image : Bytes) → Holds (slot_start n) (165 ∷ slot_bytes slot) image → slot_at n image ≡ Some (slot_bytes slot)
  unfolding slot_body
  open-there image stands = slot_at-open n image (holds-first (slot_start n) 165 (slot_bytes slot) image stands) ∙ ap Some (part-list (slot_start n + 1) 63 image (slot_bytes slot) (length-slot_bytes slot) (λ k lt.
      let place : slot_start n + 1 + k ≡ slot_start n + suc k = omega arith in ap image place ∙ stands (suc k) (omega (arith, long, lt))))

  either : (image : Bytes) → IsGated (slot_start n) (slot_bytes slot) s image → IsOneOf (directory_of (bytes_of s)) installed (directory_of image)
  either image (inl left) = inl (kept n (length (165 ∷ slot_bytes slot)) below (omega (arith, long)) s rest image left.elsewhere (slot_at-shut n image left.closed ∙ sym (slot_at-shut n (bytes_of s) closed)))
  either image (inr opened) = inr (changed n (length (165 ∷ slot_bytes slot)) below (omega (arith, long)) s rest image (λ i out on_disk. opened.elsewhere i out (IsReadable-settled s.past i on_disk)) (Some (slot_bytes slot)) (open-there image opened.stands))

  abbrev end : Story
  end = after s (install_calls n slot)

  all-put : HasPut (slot_start n) (165 ∷ slot_bytes slot) s end
  all-put = put-gated (slot_start n) (slot_bytes slot) s

  pub install-becomes : {X E : Type 0} (old now : Option Story) (result : Result X E) → old ≡ Some s → Did (install_calls n slot) old now result → Becomes installed result s now
  install-becomes old now result is did = record {
    any_moment = leaves-did s (install_calls n slot) _ old now result (leaves-weaker s (install_calls n slot) (IsGated (slot_start n) (slot_bytes slot) s) _ either (gated-leaves (slot_start n) (slot_bytes slot) s closed (rest (slot_start n) (n, below, inl refl)))) is did;
    at_rest = after-did s (install_calls n slot) IsAtRest old now result
        (rests n (length (165 ∷ slot_bytes slot)) below (omega (arith, long)) s rest end (165 ∷ slot_bytes slot) refl all-put
        (λ i looked. ⊎_elim (λ gate. inl (record { from = omega (arith, gate); to = omega (arith, gate) })) (λ in_it. inl (record { from = in_it.1; to = omega (arith, in_it.2, long) })) looked)) is did;
    reads = after-did s (install_calls n slot) (λ t. directory_of (bytes_of t) ≡ installed) old now result
        (changed n (length (165 ∷ slot_bytes slot)) below (omega (arith, long)) s rest (bytes_of end) (λ i out on_disk. all-put.elsewhere i out) (Some (slot_bytes slot)) (open-there (bytes_of end) all-put.stands)) is did;
  }

-- the write of a slot, as the code computes its place and its bytes
pub did-write : {X E : Type 0} (n : ℕ) (slot : Slot) (at : ℕ) (bytes : List ℕ) (old now : Option Story) (result : Result X E) → at ≡ slot_start n → bytes ≡ slot_bytes slot → Tells (Write (at + 1) bytes) old now result
    → Did (write_calls n slot) old now result
did-write {X = X} {E = E} n slot at bytes old now result place is told =
    Did-same X E (Write (at + 1) bytes ∷ []) (write_calls n slot) old now result (λ j. Write (place j + 1) (is j) ∷ []) (Did-call X E (Write (at + 1) bytes) old now result told)

-- after it
pub written-after : {X E : Type 0} (n : ℕ) (slot : Slot) (old now : Option Story) (result : Result X E) → Did (write_calls n slot) old now result → OnOk result (WhereTold old (λ s. IsClosed n s → WhereTold now (IsWritten n slot)))
written-after n slot old now (Ok x) did = λ s is closed. after-did {X = Unit {0}} {E = Unit {0}} s (write_calls n slot) (IsWritten n slot) old now (Ok tt) (written-there n slot s closed) is did
written-after n slot old now (Err e) did = tt

-- where each of the calls writes
pub write-within : {X E : Type 0} (n : ℕ) (slot : Slot) (s : Story) (old now : Option Story) (result : Result X E) → old ≡ Some s → Did (write_calls n slot) old now result → WritesWithin (slot_start n + 1) 63 s now
write-within n slot s old now result is did =
    WritesWithin-did (slot_start n + 1) 63 s (write_calls n slot) old now result is did (λ i out. (subst (λ (k : ℕ). IsOutside (slot_start n + 1) k i) (sym (length-slot_bytes slot)) out, tt))

pub gate-within : {X E : Type 0} (n byte : ℕ) (s : Story) (old now : Option Story) (result : Result X E) → old ≡ Some s → Did (Write (slot_start n) (byte ∷ []) ∷ Sync ∷ []) old now result → WritesWithin (slot_start n) 1 s now
gate-within n byte s old now result is did = WritesWithin-did (slot_start n) 1 s (Write (slot_start n) (byte ∷ []) ∷ Sync ∷ []) old now result is did (λ i out. (out, (tt, tt)))

pub install-within : {X E : Type 0} (n : ℕ) (slot : Slot) (s : Story) (old now : Option Story) (result : Result X E) → old ≡ Some s → Did (install_calls n slot) old now result → WritesWithin (slot_start n) 64 s now
install-within n slot s old now result is did = subst (λ (k : ℕ). WritesWithin (slot_start n) k s now) (ap suc (length-slot_bytes slot)) (gated-within (slot_start n) (slot_bytes slot) s old now result is did)
