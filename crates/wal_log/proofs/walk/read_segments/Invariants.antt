use Rattle.std.proofs.Common.{◌≡◌, ◌≤◌, ◌<◌, ◌⊎◌, length}
use Rattle.dev_model.specs.Story.{WhereTold, bytes_of}
use Rattle.wal_log.specs.State.{IsStill}
use Rattle.wal_log.specs.Reads.{ReadsLog}
use Rattle.wal_log.specs.Heads.{open_heads}
use Rattle.wal_log.proofs.Walking.{Walked}
use Rattle.wal_log.specs.Walk.{HasEndedBefore}
use Rattle.wal_log.proofs.walk.read_segments.Given as goal

abbrev pub invariant-loop-i : goal.invariant-loop-i
invariant-loop-i g l = record {
  reads : WhereTold (g.D.Device.seen l.fn.device).story (λ s. ReadsLog l.log_start s (g.D.Device.seen l.device).story);
  heads : WhereTold (g.D.Device.seen l.fn.device).story (λ s. IsStill l.log_start s → l.heads.in_order.items ≡ open_heads l.log_start (bytes_of s));
  walked : WhereTold (g.D.Device.seen l.fn.device).story (λ s. IsStill l.log_start s → Walked l.log_start l.ends (bytes_of s) l.heads.in_order.items l.i l.before l.records.items);
  ended : HasEndedBefore l.before;
  unfinished : (l.i ≡ 0) ⊎ (l.i < length l.heads.in_order.items);
  same_pages : (g.D.Device.seen l.device).pages ≡ (g.D.Device.seen l.fn.device).pages;
  faults : (g.D.Device.seen l.fn.device).faults ≤ (g.D.Device.seen l.device).faults;
}
