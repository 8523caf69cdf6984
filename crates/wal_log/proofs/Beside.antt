-- What stays in the other segments while something is written in one.
use Rattle.std.proofs.Common.{◌≡◌, ◌≢◌, ◌⊎◌, inl, inr, ℕ, ◌+◌, ◌<◌, ◌≤◌, arith}
use Rattle.dev_model.specs.Story.{Bytes, Story, bytes_of, IsOutside, IsReadable, IsSettled}
use Rattle.dev_model.specs.Laws.Images.{IsReadable-settled}
use Rattle.wal_log.specs.Places.{segment_start}
use Rattle.wal_log.specs.Segments.{segment_at, IsLooked}
use Rattle.wal_log.specs.State.{IsStill}
use Rattle.wal_log.specs.Laws.Agreeing.{segments-elsewhere, looked-elsewhere, looked-back}

module _ (log_start k at count : ℕ) (s : Story) (still : IsStill log_start s) (low : segment_start log_start k ≤ at) (high : at + count ≤ segment_start log_start k + 262144) where
  away : (i : ℕ) → (i < segment_start log_start k) ⊎ (segment_start log_start k + 262144 ≤ i) → IsOutside at count i
  away i (inl before) = inl (omega arith)
  away i (inr behind) = inr (omega arith)

  -- they read the same in bytes that have what was on the disk outside of what is written
  pub others : (image : Bytes) → ((i : ℕ) → IsOutside at count i → IsSettled s.past i → image i ≡ bytes_of s i) → (j : ℕ) → j < 4 → j ≢ k → segment_at log_start j image ≡ segment_at log_start j (bytes_of s)
  others image same = segments-elsewhere log_start k (bytes_of s) image (λ i out j lt looked. same i (away i out) (still j lt i looked))

  -- and what is looked at in them stays on the disk
  pub others-still : (t : Story) → ((i : ℕ) → IsOutside at count i → bytes_of t i ≡ bytes_of s i) → ((i : ℕ) → IsReadable s.past i → IsSettled t.past i)
      → (j : ℕ) → j < 4 → j ≢ k → (i : ℕ) → IsLooked log_start j (bytes_of t) i → IsSettled t.past i
  others-still t same settled j lt unlike i looked =
      let before : IsLooked log_start j (bytes_of s) i = looked-back log_start j (bytes_of s) (bytes_of t) (λ n there. same n (away n (looked-elsewhere log_start j k n (bytes_of s) unlike there))) i looked in
      settled i (IsReadable-settled s.past i (still j lt i before))

-- an equal place, or one behind it
pub here_or_behind : (at i : ℕ) → at ≤ i → (i ≡ at) ⊎ (at < i)
here_or_behind at i low = grind arith

pub sides : (j k : ℕ) → j ≢ k → (j < k) ⊎ (k < j)
sides j k unlike = grind arith
