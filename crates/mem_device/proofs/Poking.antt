-- A byte that is changed in a record of calls, and in all that is read.
use Rattle.std.proofs.Common.{◌≡◌, ◌≢◌, ◌⊎◌, inl, inr, ⊎_elim, ℕ, zero, suc, ◌+◌, ◌-◌, ◌*◌, ◌<◌, ◌≤◌, List, [], ◌∷◌, ◌++◌, length, reverse, get_or, set, map, Bool, true, false, cond, IsTrue, ◌&&◌, nat_le, nat_lt, refl, sym, ◌∙◌, ap, subst, arith}
use Rattle.std.proofs.lemmas.List.{map-append, reverse-append, length-set, get_or-set_same, get_or-set_other}
use Rattle.std.proofs.lemmas.Bool.Decides.{nat_tests}
use Rattle.dev_model.specs.Story.{Bytes, Read, Write, Sync, FailedWrite, FailedCall, Past, patched, bytes_after, IsInside, IsOutside}
use Rattle.mem_device.specs.Memory.{poked_list, poked_call}
use Rattle.dev_model.specs.Story.{place}
use Rattle.mem_device.specs.Inside.{AreOnDevice, with_missed, IsSoundMemory}
use Rattle.dev_model.specs.Laws.Ranges.{patched-outside, patched-inside}

module _ (at byte : ℕ) where
  pub length-poked_list : (from : ℕ) (new : List ℕ) → length (poked_list at byte from new) ≡ length new
  length-poked_list from new = pick (nat_le from at && nat_lt (at - from) (length new))
    where
      pick : (t : Bool) → length (cond t (set new (at - from) byte) new) ≡ length new
      pick true = length-set new (at - from) byte
      pick false = refl

  pub with_missed-poked : (n : ℕ) (past : Past) → with_missed n (map (poked_call at byte) past) ≡ map (poked_call at byte) (with_missed n past)
  with_missed-poked zero past = refl
  with_missed-poked (suc n) past = ap (λ (p : Past). FailedCall ∷ p) (with_missed-poked n past)

  pub reverse-poked : (calls : Past) → reverse (map (poked_call at byte) calls) ≡ map (poked_call at byte) (reverse calls)
  reverse-poked [] = refl
  reverse-poked (call ∷ calls) =
      reverse-append (poked_call at byte call ∷ []) (map (poked_call at byte) calls) ∙ ap (λ (l : Past). l ++ poked_call at byte call ∷ []) (reverse-poked calls)
      ∙ sym (map-append (poked_call at byte) (reverse calls) (call ∷ [])) ∙ ap (map (poked_call at byte)) (sym (reverse-append (call ∷ []) calls))

  pub AreOnDevice-poked : (size : ℕ) (past : Past) → AreOnDevice size past → AreOnDevice size (map (poked_call at byte) past)
  AreOnDevice-poked size [] on = tt
  AreOnDevice-poked size (Write from new ∷ past) on = (omega (arith, on.0, length-poked_list from new), AreOnDevice-poked size past on.1)
  AreOnDevice-poked size (FailedWrite from new ∷ past) on = (omega (arith, on.0, length-poked_list from new), AreOnDevice-poked size past on.1)
  AreOnDevice-poked size (Read from count ∷ past) on = (tt, AreOnDevice-poked size past on.1)
  AreOnDevice-poked size (Sync ∷ past) on = (tt, AreOnDevice-poked size past on.1)
  AreOnDevice-poked size (FailedCall ∷ past) on = (tt, AreOnDevice-poked size past on.1)

  inside_or_not : (from count i : ℕ) → IsInside from count i ⊎ IsOutside from count i
  inside_or_not from count i = ⊎_elim (λ low. inr (inl low)) (λ le. ⊎_elim (λ lt. inl (record { from = le; to = lt })) (λ high. inr (inr high)) (order i (from + count))) (order i from)
    where
      order : (m n : ℕ) → (m < n) ⊎ (n ≤ m)
      order m n = grind arith

  poked_is : (from : ℕ) (new : List ℕ) → IsInside from (length new) at → poked_list at byte from new ≡ set new (at - from) byte
  poked_is from new inside = grind (arith, nat_tests, inside.from, inside.to)

  -- the byte is read there
  patched_at : (from : ℕ) (new : List ℕ) (old : Bytes) → old at ≡ byte → patched from (poked_list at byte from new) old at ≡ byte
  patched_at from new old is =
      ⊎_elim
      (λ inside.
      let length_is : length (poked_list at byte from new) ≡ length new = length-poked_list from new in
      let here : IsInside from (length (poked_list at byte from new)) at = record { from = inside.from; to = omega (arith, inside.to) } in
      let within : at - from < length new = omega (arith, inside.from, inside.to) in
      patched-inside from (poked_list at byte from new) old at here ∙ ap (λ (l : List ℕ). get_or l (at - from) 0) (poked_is from new inside) ∙ get_or-set_same new (at - from) byte 0 within)
      (λ outside. patched-outside from (poked_list at byte from new) old at (subst (λ (n : ℕ). IsOutside from n at) (sym (length-poked_list from new)) outside) ∙ is)
      (inside_or_not from (length new) at)

  pub bytes_after-poked_at : (start : List ℕ) (past : Past) → at < length start → bytes_after (place (set start at byte)) (map (poked_call at byte) past) at ≡ byte
  bytes_after-poked_at start [] lt = get_or-set_same start at byte 0 lt
  bytes_after-poked_at start (Write from new ∷ past) lt = patched_at from new (bytes_after (place (set start at byte)) (map (poked_call at byte) past)) (bytes_after-poked_at start past lt)
  bytes_after-poked_at start (FailedWrite from new ∷ past) lt = bytes_after-poked_at start past lt
  bytes_after-poked_at start (Read from count ∷ past) lt = bytes_after-poked_at start past lt
  bytes_after-poked_at start (Sync ∷ past) lt = bytes_after-poked_at start past lt
  bytes_after-poked_at start (FailedCall ∷ past) lt = bytes_after-poked_at start past lt

  get_or-poked_list : (from : ℕ) (new : List ℕ) (i : ℕ) → i ≢ at → from ≤ i → get_or (poked_list at byte from new) (i - from) 0 ≡ get_or new (i - from) 0
  get_or-poked_list from new i other le = pick (nat_le from at && nat_lt (at - from) (length new)) (λ is. grind (arith, nat_tests))
    where
      pick : (t : Bool) → (IsTrue t → from ≤ at) → get_or (cond t (set new (at - from) byte) new) (i - from) 0 ≡ get_or new (i - from) 0
      pick true from_le = let le_at : from ≤ at = from_le refl in get_or-set_other new (at - from) (i - from) byte 0 (λ same. other (omega (arith, same)))
      pick false from_le = refl

  -- the other bytes are read as before
  patched_other : (from : ℕ) (new : List ℕ) (old before : Bytes) (i : ℕ) → i ≢ at → old i ≡ before i → patched from (poked_list at byte from new) old i ≡ patched from new before i
  patched_other from new old before i other is =
      ⊎_elim
      (λ inside.
      let length_is : length (poked_list at byte from new) ≡ length new = length-poked_list from new in
      patched-inside from (poked_list at byte from new) old i (record { from = inside.from; to = omega (arith, inside.to) })
      ∙ get_or-poked_list from new i other inside.from ∙ sym (patched-inside from new before i inside))
      (λ outside.
      patched-outside from (poked_list at byte from new) old i (subst (λ (n : ℕ). IsOutside from n i) (sym (length-poked_list from new)) outside)
      ∙ is ∙ sym (patched-outside from new before i outside))
      (inside_or_not from (length new) i)

  pub bytes_after-poked_other : (start : List ℕ) (past : Past) (i : ℕ) → i ≢ at → bytes_after (place (set start at byte)) (map (poked_call at byte) past) i ≡ bytes_after (place start) past i
  bytes_after-poked_other start [] i other = get_or-set_other start at i byte 0 other
  bytes_after-poked_other start (Write from new ∷ past) i other =
      patched_other from new (bytes_after (place (set start at byte)) (map (poked_call at byte) past)) (bytes_after (place start) past) i other (bytes_after-poked_other start past i other)
  bytes_after-poked_other start (FailedWrite from new ∷ past) i other = bytes_after-poked_other start past i other
  bytes_after-poked_other start (Read from count ∷ past) i other = bytes_after-poked_other start past i other
  bytes_after-poked_other start (Sync ∷ past) i other = bytes_after-poked_other start past i other
  bytes_after-poked_other start (FailedCall ∷ past) i other = bytes_after-poked_other start past i other

  same_or_other : (i : ℕ) → (i ≡ at) ⊎ (i ≢ at)
  same_or_other i = ⊎_elim (λ lt. inr (λ is. absurd (omega (arith, is)))) (λ le. ⊎_elim (λ lt. inr (λ is. absurd (omega (arith, is)))) (λ ge. inl (omega arith)) (order at i)) (order i at)
    where
      order : (m n : ℕ) → (m < n) ⊎ (n ≤ m)
      order m n = grind arith

  -- what is read of the changed bytes
  pub read-poked : (start bytes : List ℕ) (past : Past) → at < length start → at < length bytes → ((i : ℕ) → get_or bytes i 0 ≡ bytes_after (place start) past i)
      → (i : ℕ) → get_or (set bytes at byte) i 0 ≡ bytes_after (place (set start at byte)) (map (poked_call at byte) past) i
  read-poked start bytes past in_start in_bytes are i =
      ⊎_elim
      (λ same. subst (λ (n : ℕ). get_or (set bytes at byte) n 0 ≡ bytes_after (place (set start at byte)) (map (poked_call at byte) past) n) (sym same)
      (get_or-set_same bytes at byte 0 in_bytes ∙ sym (bytes_after-poked_at start past in_start)))
      (λ other. get_or-set_other bytes at i byte 0 other ∙ are i ∙ sym (bytes_after-poked_other start past i other))
      (same_or_other i)

  -- the device stays sound
  pub memory-poked : (pages : ℕ) (start bytes : List ℕ) (past : Past) → at < pages * 4096 → IsSoundMemory pages start bytes past
      → IsSoundMemory pages (set start at byte) (set bytes at byte) (map (poked_call at byte) past)
  memory-poked pages start bytes past lt sound = record {
    start_length = length-set start at byte ∙ sound.start_length;
    now_length = length-set bytes at byte ∙ sound.now_length;
    now_is = read-poked start bytes past (omega (arith, lt, sound.start_length)) (omega (arith, lt, sound.now_length)) sound.now_is;
    on_device = AreOnDevice-poked (pages * 4096) past sound.on_device;
  }
