-- The images that a device in memory makes: what stands in each range that isn't synced.
use Rattle.std.specs.Prelude.{ℕ, List, [], ◌∷◌, length, take, replicate}
use Rattle.std.specs.Ordering.{nat_cmp}
use Rattle.std.specs.declared.cmp.Ordering.{Ordering}
use Rattle.std.specs.declared.cmp.Ordering.TheVariants.{Less, Equal, Greater}
use Rattle.dev_model.specs.Story.{Bytes, Call, Write, Sync, FailedWrite, Past, patched, bytes_after}
use Rattle.mem_device.specs.declared.torn.Torn.{Torn}
use Rattle.mem_device.specs.declared.torn.Torn.TheVariants.{Old, New, Fill, Front}

-- an image after the range of a write was torn in this way
abbrev pub overlaid : Torn → ℕ → List ℕ → Bytes → Bytes
overlaid Old at new image = image
overlaid New at new image = patched at new image
overlaid (Fill byte) at new image = patched at (replicate (length new) byte) image
overlaid (Front count) at new image = patched at (take count new) image

-- the image after one call more, of the bytes as read and the image before it
abbrev pub image_with : Torn → Call → (bytes image : Bytes) → Bytes
image_with torn (Write at new) bytes image = overlaid torn at new image
image_with torn (FailedWrite at new) bytes image = overlaid torn at new image
image_with torn Sync bytes image = bytes
image_with torn other bytes image = image

-- the image while this call is under way: a sync has settled nothing yet
abbrev pub image_during : Torn → Call → Bytes → Bytes
image_during torn call image = image_with torn call image image

-- the image after these calls
abbrev pub image_after : Torn → Bytes → Past → Bytes
image_after torn start [] = start
image_after torn start (call ∷ past) = image_with torn call (bytes_after start past) (image_after torn start past)

abbrev pub before_at_or_after : Ordering → Bytes → Bytes → Bytes → Bytes
before_at_or_after Less earlier during now = earlier
before_at_or_after Equal earlier during now = during
before_at_or_after Greater earlier during now = now

-- the image of a moment
abbrev pub image_at : Torn → Bytes → Past → ℕ → Bytes
image_at torn start [] m = start
image_at torn start (call ∷ past) m =
    before_at_or_after (nat_cmp m (length past)) (image_at torn start past m) (image_during torn call (image_after torn start past)) (image_after torn start (call ∷ past))
