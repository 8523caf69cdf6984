-- What stays of a log while something is written elsewhere on the device. No public contract needs these laws.
use Rattle.std.proofs.Common.{◌≡◌, ◌⊎◌, inl, inr, ⊎_elim, ℕ, ◌+◌, ◌<◌, ◌≤◌, Option, Some, length, refl, sym, ◌∙◌, ap, arith, ◌==◌}
use Rattle.std.proofs.lemmas.Nat.{mod_below}
use Rattle.dev_model.specs.Story.{Story, bytes_of, clock_of, IsOutside}
use Rattle.dev_model.specs.Moments.{EachMoment}
use Rattle.dev_model.specs.Writes.{WritesWithin}
use Rattle.dev_model.specs.Laws.Frame.{IsReadAt, Stays, frame-within}
use Rattle.wal_log.specs.Places.{segment_start}
use Rattle.wal_log.specs.Segments.{segments_of, IsLooked}
use Rattle.wal_log.specs.State.{IsAtRest, newest}
use Rattle.wal_log.specs.declared.places.TheConstants.{LOG_BYTES}
use Rattle.wal_log.specs.declared.log.Log.{Log}
use Rattle.wal_log.specs.Laws.Agreeing.{segments_of-same, segment_at-same, segment_records-same, segment_records-few, looked-back}

module _ (log : Log) (s t : Story) (at count : ℕ) (now : Option Story) (rest : IsAtRest log s) (within : WritesWithin at count s now) (told : now ≡ Some t) (apart : (at + count ≤ log.start) ⊎ (log.start + LOG_BYTES ≤ at)) where
  -- the places that are looked at to read it
  abbrev IsInIt : ℕ → Type 0
  IsInIt i = (k : ℕ) × (k < 4) × IsLooked log.start k (bytes_of s) i

  outside : (i : ℕ) → IsInIt i → IsOutside at count i
  outside i is = ⊎_elim (λ before. inr (omega (arith, before, low))) (λ behind. inl (omega (arith, behind, high))) apart
    where
      low : log.start ≤ i
      low = ⊎_elim (λ here. omega (arith, here)) (λ in_it. omega (arith, in_it.1)) is.2

      high : i < log.start + LOG_BYTES
      high = ⊎_elim (λ here. omega (arith, here, is.1)) (λ in_it. omega (arith, in_it.2, is.1, segment_records-few log.start is.0 (bytes_of s))) is.2

  reads : IsReadAt IsInIt (segments_of log.start) (bytes_of s)
  reads other same = segments_of-same log.start (bytes_of s) other (λ k lt. segment_at-same log.start k (bytes_of s) other (λ i looked. same i (k, lt, looked)))

  stays : Stays IsInIt (segments_of log.start) s t
  stays = frame-within IsInIt (segments_of log.start) at count s t now within told reads (λ i is. rest.still is.0 is.1 i is.2) outside

  newest_same : (i : ℕ) → IsLooked log.start (newest log) (bytes_of s) i → bytes_of t i ≡ bytes_of s i
  newest_same i looked = stays.bytes i (newest log, mod_below log.generation 4 (omega arith), looked)

  -- it reads the same in each image of each moment
  pub images-apart : EachMoment (clock_of s) t (λ _ image. segments_of log.start image ≡ segments_of log.start (bytes_of s))
  images-apart = stays.each

  -- and stays at rest
  pub rests-apart : IsAtRest log t
  rests-apart = record {
    started = newest_same (segment_start log.start (newest log)) (inl refl) ∙ rest.started;
    counts = ap length (segment_records-same log.start (newest log) (bytes_of s) (bytes_of t) rest.started newest_same) ∙ rest.counts;
    heads = λ k lt. rest.heads k lt ∙ ap (λ (n : ℕ). n == 165) (sym (stays.bytes (segment_start log.start k) (k, lt, inl refl)));
    still = λ k lt i looked. stays.settled i (k, lt, looked-back log.start k (bytes_of s) (bytes_of t) (λ n there. stays.bytes n (k, lt, there)) i looked);
  }
