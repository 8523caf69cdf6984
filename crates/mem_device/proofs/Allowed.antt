-- The images that a device in memory makes are images that a crash may leave.
use Rattle.std.proofs.Common.{◌≡◌, inl, inr, ℕ, ◌≤◌, List, [], ◌∷◌, length, take, replicate, refl, sym, ◌∙◌, arith, length-take}
use Rattle.std.proofs.lemmas.List.{length-replicate}
use Rattle.std.specs.Ordering.{nat_cmp, MatchOrdering}
use Rattle.std.specs.declared.cmp.Ordering.TheVariants.{Less, Equal, Greater}
use Rattle.dev_model.specs.Story.{place, Past, Bytes, Call, Read, Write, Sync, FailedWrite, FailedCall, Past, Story, bytes_after, IsOutside, IsSettled, IsSpared, IsImageAt, IsImageNow, IsImageDuring}
use Rattle.dev_model.specs.Laws.Ranges.{patched-outside}
use Rattle.mem_device.specs.TornImages.{overlaid, image_during, image_after, before_at_or_after, image_at}
use Rattle.mem_device.specs.declared.torn.Torn.{Torn}
use Rattle.mem_device.specs.declared.torn.Torn.TheVariants.{Old, New, Fill, Front}

outside_shorter : (at m n i : ℕ) → m ≤ n → IsOutside at n i → IsOutside at m i
outside_shorter at m n i le (inl low) = inl low
outside_shorter at m n i le (inr high) = inr (omega arith)

pub overlaid-outside : (torn : Torn) (at : ℕ) (new : List ℕ) (image : Bytes) (i : ℕ) → IsOutside at (length new) i → overlaid torn at new image i ≡ image i
overlaid-outside Old at new image i out = refl
overlaid-outside New at new image i out = patched-outside at new image i out
overlaid-outside (Fill byte) at new image i out =
    patched-outside at (replicate (length new) byte) image i (outside_shorter at (length (replicate (length new) byte)) (length new) i (omega (arith, length-replicate (length new) byte)) out)
overlaid-outside (Front count) at new image i out =
    patched-outside at (take count new) image i (outside_shorter at (length (take count new)) (length new) i (omega (arith, length-take count new)) out)

-- it is an image that the disk model allows
pub image_after-settled : (torn : Torn) (start : Bytes) (calls : Past) (i : ℕ) → IsSettled calls i → image_after torn start calls i ≡ bytes_after start calls i
image_after-settled torn start [] i settled = refl
image_after-settled torn start (Write at new ∷ calls) i settled =
    overlaid-outside torn at new (image_after torn start calls) i settled.0 ∙ image_after-settled torn start calls i settled.1 ∙ sym (patched-outside at new (bytes_after start calls) i settled.0)
image_after-settled torn start (FailedWrite at new ∷ calls) i settled =
    overlaid-outside torn at new (image_after torn start calls) i settled.0 ∙ image_after-settled torn start calls i settled.1
image_after-settled torn start (Sync ∷ calls) i settled = refl
image_after-settled torn start (Read at count ∷ calls) i settled = image_after-settled torn start calls i settled
image_after-settled torn start (FailedCall ∷ calls) i settled = image_after-settled torn start calls i settled

during_settled : (torn : Torn) (start : Bytes) (call : Call) (calls : Past) (i : ℕ) → IsSpared call i → IsSettled calls i → image_during torn call (image_after torn start calls) i ≡ bytes_after start calls i
during_settled torn start (Write at new) calls i spared settled = overlaid-outside torn at new (image_after torn start calls) i spared ∙ image_after-settled torn start calls i settled
during_settled torn start (FailedWrite at new) calls i spared settled = overlaid-outside torn at new (image_after torn start calls) i spared ∙ image_after-settled torn start calls i settled
during_settled torn start Sync calls i spared settled = image_after-settled torn start calls i settled
during_settled torn start (Read at count) calls i spared settled = image_after-settled torn start calls i settled
during_settled torn start FailedCall calls i spared settled = image_after-settled torn start calls i settled

pub image_at-IsImage : (torn : Torn) (start : List ℕ) (calls : Past) (m : ℕ) → IsImageAt start calls m (image_at torn (place start) calls m)
image_at-IsImage torn start [] m = λ i settled. refl
image_at-IsImage torn start (call ∷ calls) m =
    let earlier = image_at torn (place start) calls m in
    let during = image_during torn call (image_after torn (place start) calls) in
    let now = image_after torn (place start) (call ∷ calls) in
    let s : Story = record { start = start; past = calls } in
    let t : Story = record { start = start; past = call ∷ calls } in
    elim (nat_cmp m (length calls)) as (λ o. MatchOrdering o (IsImageAt start calls m (before_at_or_after o earlier during now)) (IsImageDuring s call (before_at_or_after o earlier during now)) (IsImageNow t (before_at_or_after o earlier during now))) [
      | Less ↦ image_at-IsImage torn start calls m
      | Equal ↦ (λ i spared settled. during_settled torn (place start) call calls i spared settled)
      | Greater ↦ (λ i settled. image_after-settled torn (place start) (call ∷ calls) i settled)
    ]

pub bytes_after-call : (start : Bytes) (call : Call) (calls : Past) → bytes_after start (call ∷ calls) ≡ bytes_after (bytes_after start calls) (call ∷ [])
bytes_after-call start (Write at new) calls = refl
bytes_after-call start (FailedWrite at new) calls = refl
bytes_after-call start (Read at count) calls = refl
bytes_after-call start Sync calls = refl
bytes_after-call start FailedCall calls = refl
