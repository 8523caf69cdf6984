-- Laws of images, and of what is settled. No public contract needs them.
use Rattle.std.proofs.Common.{List, ◌≡◌, inr, ℕ, ◌+◌, ◌<◌, ◌≤◌, [], ◌∷◌, length, refl, sym, subst, arith, suc}
use Rattle.std.specs.Ordering.{MatchOrdering}
use Rattle.std.specs.Cmp.{nat_cmp_is}
use Rattle.std.specs.declared.cmp.Ordering.{Ordering}
use Rattle.std.specs.declared.cmp.Ordering.TheVariants.{Less, Equal, Greater}
use Rattle.dev_model.specs.Story.{Bytes, Call, Read, Write, Sync, FailedWrite, FailedCall, Past, Calls, Story, clock_of, with_call, bytes_of, after, IsImage, IsImageAt, IsImageDuring, IsImageNow, IsSettled, IsReadable, IsCalmAt, part}
use Rattle.dev_model.specs.Laws.Ranges.{part-same}

-- images of earlier moments stay as they were
pub IsImage-earlier : (s : Story) (call : Call) (m : ℕ) (image : Bytes) → m < clock_of s → IsImage (with_call s call) m image → IsImage s m image
IsImage-earlier s call m image earlier is =
    subst (λ (o : Ordering). MatchOrdering o (IsImage s m image) (IsImageDuring s call image) (IsImageNow (with_call s call) image)) (sym (nat_cmp_is m (clock_of s) Less earlier)) is

-- the last call was under way at the moment before it returned
pub IsImage-during : (s : Story) (call : Call) (image : Bytes) → IsImage (with_call s call) (clock_of s) image → IsImageDuring s call image
IsImage-during s call image is =
    subst (λ (o : Ordering). MatchOrdering o (IsImage s (clock_of s) image) (IsImageDuring s call image) (IsImageNow (with_call s call) image)) (sym (nat_cmp_is (clock_of s) (clock_of s) Equal refl)) is

-- at the present moment no call is under way
now_at : (start : List ℕ) (calls : Calls) (image : Bytes) → IsImageAt start calls (length calls) image → IsImageNow (record { start = start; past = calls }) image
now_at start [] image is = is
now_at start (call ∷ calls) image is =
    let s : Story = record { start = start; past = calls } in
    let later : clock_of s < suc (clock_of s) = omega arith in
    subst (λ (o : Ordering). MatchOrdering o (IsImage s (suc (clock_of s)) image) (IsImageDuring s call image) (IsImageNow (with_call s call) image)) (sym (nat_cmp_is (suc (clock_of s)) (clock_of s) Greater later)) is

pub IsImage-now : (s : Story) (image : Bytes) → IsImage s (clock_of s) image → IsImageNow s image
IsImage-now s image is = now_at s.start s.past image is

-- an image of a moment at which no call is under way is one of the same moment with a call under way
pub IsImageNow-during : (s : Story) (call : Call) (image : Bytes) → IsImageNow s image → IsImageDuring s call image
IsImageNow-during s call image is i spared settled = is i settled

-- images of earlier moments stay as they were while more calls are made
pub IsImage-older : (s : Story) (calls : Calls) (m : ℕ) (image : Bytes) → m < clock_of s → IsImage (after s calls) m image → IsImage s m image
IsImage-older s [] m image earlier is = is
IsImage-older s (call ∷ calls) m image earlier is =
    IsImage-earlier s call m image earlier (IsImage-older (with_call s call) calls m image (omega arith) is)

-- what a crash leaves as it is read can be read
pub IsReadable-settled : (calls : Calls) (i : ℕ) → IsSettled calls i → IsReadable calls i
IsReadable-settled [] i settled = tt
IsReadable-settled (Write at new ∷ calls) i settled = inr (IsReadable-settled calls i settled.1)
IsReadable-settled (FailedWrite at new ∷ calls) i settled = (settled.0, IsReadable-settled calls i settled.1)
IsReadable-settled (Sync ∷ calls) i settled = settled
IsReadable-settled (Read at count ∷ calls) i settled = IsReadable-settled calls i settled
IsReadable-settled (FailedCall ∷ calls) i settled = IsReadable-settled calls i settled

-- what a crash may leave now is an image of the present moment
pub IsImage-at_now : (s : Story) (image : Bytes) → IsImageNow s image → IsImage s (clock_of s) image
IsImage-at_now s image is = at_now s.start s.past image is
  where
    at_now : (start : List ℕ) (past : Past) (image : Bytes) → IsImageNow (record { start = start; past = past }) image → IsImageAt start past (length past) image
    at_now start [] image is = is
    at_now start (call ∷ past) image is =
        let s : Story = record { start = start; past = past } in
        let later : clock_of s < suc (clock_of s) = omega arith in
        subst (λ (o : Ordering). MatchOrdering o (IsImage s (suc (clock_of s)) image) (IsImageDuring s call image) (IsImageNow (with_call s call) image)) (nat_cmp_is (suc (clock_of s)) (clock_of s) Greater later) is

-- the bytes as read are an image of the present moment
pub IsImage-bytes : (s : Story) → IsImage s (clock_of s) (bytes_of s)
IsImage-bytes s = IsImage-at_now s (bytes_of s) (λ i settled. refl)

-- where it is calm, each image of the present moment has the bytes as read
pub IsCalmAt-image : (Looked : ℕ → Type 0) (s : Story) (image : Bytes) → IsCalmAt Looked s → IsImageNow s image → (i : ℕ) → Looked i → image i ≡ bytes_of s i
IsCalmAt-image Looked s image calm is i looked = is i (calm i looked)

-- a range that is settled reads the same in each image
pub part-settled : (at count : ℕ) (s : Story) (image : Bytes) → IsImageNow s image → ((i : ℕ) → at ≤ i → i < at + count → IsSettled s.past i) → part at count image ≡ part at count (bytes_of s)
part-settled at count s image is settled = part-same at count image (bytes_of s) (λ i from to. is i (settled i from to))

-- a sync settles each place that can be read
pub IsSettled-synced : (s : Story) (i : ℕ) → IsReadable s.past i → IsSettled (with_call s Sync).past i
IsSettled-synced s i readable = readable
