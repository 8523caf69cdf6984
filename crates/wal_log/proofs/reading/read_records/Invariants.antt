use Rattle.std.proofs.Common.{◌≡◌, ◌≤◌, ◌⊎◌, ◌+◌, ◌^◌}
use Rattle.dev_model.specs.Story.{WhereTold, bytes_of}
use Rattle.wal_log.specs.Reads.{ReadsLog}
use Rattle.wal_log.specs.Found.{HasReadSome, HoldsPlaces, IsOpenStill}
use Rattle.wal_log.proofs.reading.read_records.Given as goal

abbrev pub invariant-loop-place : goal.invariant-loop-place
invariant-loop-place g l = record {
  reads : WhereTold (g.D.Device.seen l.initial.device).story (λ s. ReadsLog l.log_start s (g.D.Device.seen l.device).story);
  so_far : WhereTold (g.D.Device.seen l.initial.device).story (λ s. IsOpenStill l.log_start l.segment s → HasReadSome l.log_start l.first_lsn l.place l.segment (bytes_of s) l.initial.records.items l.records.items);
  below : (l.place ≡ 0) ⊎ (l.first_lsn + l.place ≤ 2 ^ 62);
  window : WhereTold (g.D.Device.seen l.device).story (HoldsPlaces l.log_start l.segment l.place l.window);
  same_pages : (g.D.Device.seen l.device).pages ≡ (g.D.Device.seen l.initial.device).pages;
  faults : (g.D.Device.seen l.initial.device).faults ≤ (g.D.Device.seen l.device).faults;
}
