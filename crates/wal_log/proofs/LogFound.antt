-- The value of a log that was read.
use Rattle.std.proofs.Common.{◌≡◌, ℕ, ◌+◌, ◌<◌, ◌%◌, false, List, [], ◌∷◌, length, get_or, Option, Some, None, sym, ◌∙◌, ap, subst, arith, ◌==◌}
use Rattle.dev_model.specs.Story.{Bytes, Story, bytes_of}
use Rattle.wal_log.specs.Reads.{ReadsLog}
use Rattle.wal_log.specs.Places.{segment_start}
use Rattle.wal_log.specs.Segments.{segment_records, segments_of}
use Rattle.wal_log.specs.State.{IsAtRest, IsStill, newest, HasLast, IsLogOf}
use Rattle.wal_log.specs.Walk.{IsNewest}
use Rattle.wal_log.specs.Rules.{Numbered, AreSound, Opens, in_order}
use Rattle.wal_log.proofs.Keeping.{sound-from}
use Rattle.wal_log.specs.declared.log.Log.{Log}
use Rattle.wal_log.specs.declared.walk.Ended.{Ended}
use Rattle.wal_log.proofs.Finding.{IsStill-after, bytes_of-after}

pub at_rest-found : (s t : Story) (now : Option Story) (log : Log) (at_end : Ended) → ReadsLog log.start s now → now ≡ Some t → IsStill log.start s → IsNewest log.start (bytes_of s) at_end
    → ((k : ℕ) → k < 4 → get_or log.open_headers k false ≡ (bytes_of s (segment_start log.start k) == 165)) → log.generation ≡ at_end.generation → log.records ≡ at_end.records → IsAtRest log t
at_rest-found s t now log at_end reads told still found flags generation records =
    let same : bytes_of t ≡ bytes_of s = bytes_of-after log.start s t now reads told in
    record {
      started = ap (λ (b : Bytes). b (segment_start log.start (newest log))) same ∙ ap (λ (n : ℕ). bytes_of s (segment_start log.start (n % 4))) generation ∙ found.started;
      counts = ap (λ (b : Bytes). length (segment_records log.start (newest log) b)) same ∙ ap (λ (n : ℕ). length (segment_records log.start (n % 4) (bytes_of s))) generation ∙ found.counts ∙ sym records;
      heads = λ k lt. flags k lt ∙ ap (λ (b : Bytes). b (segment_start log.start k) == 165) (sym same);
      still = IsStill-after log.start s t now reads told still;
    }

sound-less : (ends : List ℕ) (before : Option Numbered) (ns : List Numbered) → AreSound ends before ns → AreSound [] before ns
sound-less ends before [] all = tt
sound-less ends before (n ∷ []) all = (record { segment = all.0.segment; ends_there = λ i d lt. absurd (omega (arith, lt)) }, tt)
sound-less ends before (n ∷ m ∷ ms) all = (record { segment = all.0.segment; ends_there = tt }, sound-less ends (Some n) (m ∷ ms) all.1)

pub log_of-found : (ends : List ℕ) (b : Bytes) (at_end : Ended) (log : Log) → Opens ends (segments_of log.start b) → IsNewest log.start b at_end → log.generation ≡ at_end.generation → log.next_lsn ≡ at_end.first_lsn + at_end.records → log.records ≡ at_end.records → IsLogOf log (segments_of log.start b)
log_of-found ends b at_end log opens found generation next records = record {
  sound = sound-less ends None (in_order (segments_of log.start b)) (sound-from ends (in_order (segments_of log.start b)) opens);
  newest_is = subst (λ (g : ℕ). HasLast g log.next_lsn log.records (in_order (segments_of log.start b))) (sym generation)
      (subst (λ (l : ℕ). HasLast at_end.generation l log.records (in_order (segments_of log.start b))) (sym next)
      (subst (λ (n : ℕ). HasLast at_end.generation (at_end.first_lsn + at_end.records) n (in_order (segments_of log.start b))) (sym records) found.last));
}
