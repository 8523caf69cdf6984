-- The calls that a record keeps.
use Rattle.std.proofs.Common.{◌≡◌, ◌⊎◌, ⊎_elim, ℕ, zero, suc, ◌+◌, ◌-◌, ◌<◌, ◌≤◌, List, [], ◌∷◌, ◌++◌, length, get_or, take, drop, reverse, refl, sym, ◌∙◌, ap, arith, append_assoc, length-take-le, take-append-drop}
use Rattle.std.specs.Prelude.{sum_by}
use Rattle.std.proofs.Math.Seq.{take-add}
use Rattle.std.proofs.lemmas.List.{take-append-le, drop-append-le, append-nil, length-drop, length-reverse, reverse-append, take_at, drop_at, take_more}
use Rattle.std.proofs.lemmas.List.Sums.{sum_by-cons, sum_by_push, sum_by-take-le}
use Rattle.std.proofs.lemmas.List.Sorted.{IsPermutation-reverse, sum_by-IsPermutation}
use Rattle.dev_model.specs.Story.{Past, Call, Calls}
use Rattle.mem_device.specs.Memory.{bytes_in, bytes_noted}
use Rattle.mem_device.specs.Inside.{Noted, call_of, calls_of, size_of, with_missed, AreOnDevice, IsOnDevice}
use Rattle.mem_device.specs.declared.record.CallRecord.TheInside.{Inside}
use Rattle.mem_device.specs.declared.record.Kept.{Kept}
use Rattle.mem_device.specs.declared.record.Kept.TheVariants as stored

calls_of-append : (xs ys : List Kept) (v w : List ℕ) → sum_by size_of xs ≡ length v → calls_of (xs ++ ys) (v ++ w) ≡ calls_of xs v ++ calls_of ys w
calls_of-append [] ys [] w sum = refl
calls_of-append [] ys (x ∷ v) w sum = absurd (omega (arith, sum))
calls_of-append (c ∷ xs) ys v w sum =
    let size : size_of c + sum_by size_of xs ≡ length v = sym (sum_by-cons size_of c xs) ∙ sum in
    let front : take (size_of c) (v ++ w) ≡ take (size_of c) v = take-append-le (size_of c) v w (omega (arith, size)) in
    let rest : drop (size_of c) (v ++ w) ≡ drop (size_of c) v ++ w = drop-append-le (size_of c) v w (omega (arith, size)) in
    (λ j. call_of (front j) c ∷ calls_of (xs ++ ys) (rest j))
    ∙ ap (λ (es : Calls). call_of (take (size_of c) v) c ∷ es) (calls_of-append xs ys (drop (size_of c) v) w (omega (arith, size, length-drop (size_of c) v)))

-- the calls before one, that one, and those behind it
pub calls_of-at : (xs ys : List Kept) (c : Kept) (v new w : List ℕ) → sum_by size_of xs ≡ length v → size_of c ≡ length new
    → calls_of (xs ++ c ∷ ys) (v ++ (new ++ w)) ≡ calls_of xs v ++ call_of new c ∷ calls_of ys w
calls_of-at xs ys c v new w sum size =
    calls_of-append xs (c ∷ ys) v (new ++ w) sum
    ∙ (λ j. calls_of xs v ++ call_of (take_at new w (size_of c) (sym size) j) c ∷ calls_of ys (drop_at new w (size_of c) (sym size) j))

pub length-calls_of : (calls : List Kept) (written : List ℕ) → length (calls_of calls written) ≡ length calls
length-calls_of [] written = refl
length-calls_of (c ∷ calls) written = ap suc (length-calls_of calls (drop (size_of c) written))

bytes_in-kept : (c : Kept) (new : List ℕ) → size_of c ≡ length new → bytes_in (call_of new c) ≡ size_of c
bytes_in-kept (stored.Read at count) new size = refl
bytes_in-kept (stored.Write at count) new size = sym size
bytes_in-kept (stored.FailedWrite at count) new size = sym size
bytes_in-kept stored.Sync new size = refl
bytes_in-kept stored.Failed new size = refl

bytes_in-calls : (calls : List Kept) (written : List ℕ) → sum_by size_of calls ≡ length written → sum_by bytes_in (calls_of calls written) ≡ length written
bytes_in-calls [] written sum = sum
bytes_in-calls (c ∷ calls) written sum =
    let size : size_of c + sum_by size_of calls ≡ length written = sym (sum_by-cons size_of c calls) ∙ sum in
    let new = take (size_of c) written in
    let rest = drop (size_of c) written in
    omega (
      arith,
      size,
      sum_by-cons bytes_in (call_of new c) (calls_of calls rest),
      bytes_in-kept c new (sym (length-take-le (size_of c) written (omega (arith, size)))),
      length-drop (size_of c) written,
      bytes_in-calls calls rest (omega (arith, size, length-drop (size_of c) written)),
    )

-- what contracts see of a record's calls
module _ (calls : List Kept) (written : List ℕ) where
  pub bytes_noted-kept : (missed : ℕ) → sum_by size_of calls ≡ length written → bytes_noted (with_missed missed (reverse (calls_of calls written))) ≡ length written
  bytes_noted-kept zero sum = sum_by-IsPermutation bytes_in _ _ (IsPermutation-reverse (calls_of calls written)) ∙ bytes_in-calls calls written sum
  bytes_noted-kept (suc n) sum = omega (arith, bytes_noted-kept n sum)

  pub length-kept : (missed : ℕ) → length (with_missed missed (reverse (calls_of calls written))) ≡ length calls + missed
  length-kept zero = omega (arith, length-reverse (calls_of calls written), length-calls_of calls written)
  length-kept (suc n) = omega (arith, length-kept n)

pub reverse-at : (xs ys : Calls) (e : Call) → reverse (xs ++ e ∷ ys) ≡ reverse ys ++ e ∷ reverse xs
reverse-at xs ys e = reverse-append xs (e ∷ ys) ∙ ap (λ (l : Calls). l ++ reverse xs) (reverse-append (e ∷ []) ys) ∙ append_assoc (reverse ys) (e ∷ []) (reverse xs)

pub on_device_at : (size : ℕ) (newer older : Past) (e : Call) → AreOnDevice size (newer ++ e ∷ older) → IsOnDevice size e
on_device_at size [] older e on = on.0
on_device_at size (n ∷ newer) older e on = on_device_at size newer older e on.1

pub on_device_kept : (size missed : ℕ) (past : Past) → AreOnDevice size (with_missed missed past) → AreOnDevice size past
on_device_kept size zero past on = on
on_device_kept size (suc n) past on = on_device_kept size n past on.1

-- the calls up to an index and the one that stands there, whose bytes end where these end
module _ (calls : List Kept) (i : ℕ) (d : Kept) (lt : i < length calls) (from : ℕ) (from_is : from ≡ sum_by size_of (take i calls)) (n : ℕ) (n_is : n ≡ size_of (get_or calls i d)) where
  pub size_more : from + n ≡ sum_by size_of (take (i + 1) calls)
  size_more = omega (arith, from_is, n_is, ap (sum_by size_of) (take_more calls i d lt) ∙ sum_by_push size_of (take i calls) (get_or calls i d))

  pub calls_more : (front new : List ℕ) → length front ≡ from → length new ≡ n → calls_of (take (i + 1) calls) (front ++ new) ≡ calls_of (take i calls) front ++ call_of new (get_or calls i d) ∷ []
  calls_more front new from_fits n_fits =
      (λ j. calls_of (take_more calls i d lt j) (front ++ sym (append-nil new) j))
      ∙ calls_of-at (take i calls) [] (get_or calls i d) front new [] (sym (from_fits ∙ from_is)) (sym (n_fits ∙ n_is))

  module _ (written : List ℕ) (fits : sum_by size_of calls ≡ length written) where
    pub end_within : from + n ≤ length written
    end_within = omega (arith, size_more, fits, sum_by-take-le size_of calls (i + 1))

    abbrev bytes_at : List ℕ
    bytes_at = take (from + n - from) (drop from written)

    length-front : length (take from written) ≡ from
    length-front = length-take-le from written (omega (arith, end_within))

    pub length-bytes_at : length bytes_at ≡ n
    length-bytes_at = length-take-le (from + n - from) (drop from written) (omega (arith, end_within, length-drop from written)) ∙ omega arith

    pub taken_more : calls_of (take (i + 1) calls) (take (from + n) written) ≡ calls_of (take i calls) (take from written) ++ call_of bytes_at (get_or calls i d) ∷ []
    taken_more =
        let parts : take (from + n) written ≡ take from written ++ bytes_at = let e : n ≡ from + n - from = omega arith in take-add from n written ∙ ap (λ (k : ℕ). take from written ++ take k (drop from written)) e in
        ap (calls_of (take (i + 1) calls)) parts ∙ calls_more (take from written) bytes_at length-front length-bytes_at

    pub past_more : reverse (calls_of (take (i + 1) calls) (take (from + n) written)) ≡ call_of bytes_at (get_or calls i d) ∷ reverse (calls_of (take i calls) (take from written))
    past_more = ap reverse taken_more ∙ reverse-at (calls_of (take i calls) (take from written)) [] (call_of bytes_at (get_or calls i d))

    pub past_around : reverse (calls_of calls written)
        ≡ reverse (calls_of (drop (i + 1) calls) (drop (from + n) written)) ++ call_of bytes_at (get_or calls i d) ∷ reverse (calls_of (take i calls) (take from written))
    past_around =
        ap reverse
        ((λ j. calls_of (sym (take-append-drop (i + 1) calls) j) (sym (take-append-drop (from + n) written) j))
        ∙ calls_of-append (take (i + 1) calls) (drop (i + 1) calls) (take (from + n) written) (drop (from + n) written) (sym size_more ∙ sym (length-take-le (from + n) written end_within))
        ∙ ap (λ (es : Calls). es ++ calls_of (drop (i + 1) calls) (drop (from + n) written)) taken_more
        ∙ append_assoc (calls_of (take i calls) (take from written)) (call_of bytes_at (get_or calls i d) ∷ []) (calls_of (drop (i + 1) calls) (drop (from + n) written)))
        ∙ reverse-at (calls_of (take i calls) (take from written)) (calls_of (drop (i + 1) calls) (drop (from + n) written)) (call_of bytes_at (get_or calls i d))

    pub length-older : length (reverse (calls_of (take i calls) (take from written))) ≡ i
    length-older = length-reverse (calls_of (take i calls) (take from written)) ∙ length-calls_of (take i calls) (take from written) ∙ length-take-le i calls (omega (arith, lt))

-- what contracts see of a record
abbrev pub seen : Inside → Noted
seen r = record { past = with_missed r.missed (reverse (calls_of r.calls.items r.written.items)); room_calls = r.room_calls; room_bytes = r.room_bytes }

module _ (r : Inside) (now : Noted) (view_is : seen r ≡ now) where
  pub count_is : length now.past ≡ length r.calls.items + r.missed
  count_is = sym (ap (λ (n : Noted). length n.past) view_is) ∙ length-kept r.calls.items r.written.items r.missed

  pub noted_is : sum_by size_of r.calls.items ≡ length r.written.items → bytes_noted now.past ≡ length r.written.items
  noted_is sum = sym (ap (λ (n : Noted). bytes_noted n.past) view_is) ∙ bytes_noted-kept r.calls.items r.written.items r.missed sum

  pub room_calls_is : now.room_calls ≡ r.room_calls
  room_calls_is = sym (ap (λ (n : Noted). n.room_calls) view_is)

  pub room_bytes_is : now.room_bytes ≡ r.room_bytes
  room_bytes_is = sym (ap (λ (n : Noted). n.room_bytes) view_is)

-- while calls are kept, none was missed
pub none_missed : (r : Inside) → length r.calls.items < r.room_calls → (r.missed ≡ 0) ⊎ (r.room_calls ≤ length r.calls.items) → r.missed ≡ 0
none_missed r left = λ either. ⊎_elim (λ none. none) (λ full. absurd (omega (arith, left, full))) either

-- what contracts see of a record with one call more
pub seen_pushed : (r : Inside) (now : Noted) → seen r ≡ now → (c : Kept) (new : List ℕ) (calls : List Kept) (written : List ℕ) → calls ≡ r.calls.items ++ c ∷ [] → written ≡ r.written.items ++ new
    → sum_by size_of r.calls.items ≡ length r.written.items → size_of c ≡ length new → r.missed ≡ 0
    → ◌≡◌ {A = Noted} (record { past = with_missed r.missed (reverse (calls_of calls written)); room_calls = r.room_calls; room_bytes = r.room_bytes }) (record now { past = call_of new c ∷ now.past })
seen_pushed r now is c new calls written calls_are written_are fits size none =
    let old = calls_of r.calls.items r.written.items in
    let pushed : calls_of calls written ≡ old ++ call_of new c ∷ [] =
    (λ j. calls_of (calls_are j) ((written_are ∙ ap (λ (l : List ℕ). r.written.items ++ l) (sym (append-nil new))) j)) ∙ calls_of-at r.calls.items [] c r.written.items new [] fits size in
    let past : with_missed r.missed (reverse (calls_of calls written)) ≡ call_of new c ∷ now.past =
    (λ j. with_missed (none j) (reverse (pushed j))) ∙ reverse-at old [] (call_of new c) ∙ ap (λ (n : ℕ). call_of new c ∷ with_missed n (reverse old)) (sym none) ∙ ap (λ (n : Noted). call_of new c ∷ n.past) is in
    λ j. record { past = past j; room_calls = (is j).room_calls; room_bytes = (is j).room_bytes }

pub room_when : (n used room : ℕ) → used ≤ room → (0 < n → used + n ≤ room) → used + n ≤ room
room_when zero used room fits more = omega (arith, fits)
room_when (suc n) used room fits more = more (omega arith)
