use Rattle.std.proofs.Common.{inr, ⊎_elim, subst, arith, sym, ◌∙◌}
use Rattle.dev_model.specs.Story.{bytes_of}
use Rattle.dev_model.specs.Laws.Reads.{ReadsWithin-then}
use Rattle.wal_log.specs.Places.{IsInLog}
use Rattle.wal_log.specs.Segments.{segments_of}
use Rattle.wal_log.specs.Bad.{IsBad}
use Rattle.wal_log.specs.Walk.{HasReadSegment, IsUnsound}
use Rattle.wal_log.proofs.Walking.{counted-end, ends-behind, told-back-open, head-still, walked-unsound, walked-more, walked-all, walked-elsewhere, walked-records, opens, is_bad, is_bad-empty, all_records, WhereBad-map, newest-there}
use Rattle.wal_log.proofs.walk.read_segments.Goals as goal

pub returns-in-Err-read_segment-clause-reads : goal.returns-in-Err-read_segment-clause-reads
returns-in-Err-read_segment-clause-reads g c s is = ReadsWithin-then (IsInLog c.args.log_start) s _ _ (c.loop-i.invariant.reads s is) (λ t mid. c.read_segment.ensures.reads t mid)

pub returns-then-not-all_end_there-clause-reads : goal.returns-then-not-all_end_there-clause-reads
returns-then-not-all_end_there-clause-reads g c s is = ReadsWithin-then (IsInLog c.args.log_start) s _ _ (c.loop-i.invariant.reads s is) (λ t mid. c.read_segment.ensures.reads t mid)

pub returns-then-i-len-clause-reads : goal.returns-then-i-len-clause-reads
returns-then-i-len-clause-reads g c s is = ReadsWithin-then (IsInLog c.args.log_start) s _ _ (c.loop-i.invariant.reads s is) (λ t mid. c.read_segment.ensures.reads t mid)

pub returns-in-Err-read_segment-clause-bad : goal.returns-in-Err-read_segment-clause-bad
returns-in-Err-read_segment-clause-bad g c =
    WhereBad-map c.in-Err-read_segment.fault _ _ (λ number bad s is still.
    subst (IsBad c.args.ends.now (segments_of c.args.log_start (bytes_of s))) (sym bad.0)
    (is_bad c.args.log_start c.args.ends.now (bytes_of s) c.in-Ok.heads.in_order.items (c.loop-i.invariant.heads s is still) c.index.result.now.number (omega (arith, c.loop-i-test.true, c.len-i-end.ensures, c.in-Ok.heads.in_order.ok))
    (walked-unsound c.args.log_start c.args.ends.now (bytes_of s) c.in-Ok.heads.in_order.items c.loop-i.i c.loop-i.before c.loop-i.records.items (c.loop-i.invariant.walked s is still) (omega (arith, c.loop-i-test.true, c.len-i-end.ensures, c.in-Ok.heads.in_order.ok)) c.index.result.now c.index.ensures (told-back-open c.args.log_start (λ b. IsUnsound c.args.log_start b c.loop-i.before c.index.result.now) c.index.result.now.number s _ (c.loop-i.invariant.reads s is) bad.1 (head-still c.args.log_start s c.in-Ok.heads.in_order.items c.loop-i.i c.index.result.now (c.loop-i.invariant.heads s is still) (omega (arith, c.loop-i-test.true, c.len-i-end.ensures, c.in-Ok.heads.in_order.ok)) c.index.ensures still)))))
    c.in-Err-read_segment.ensures.bad

pub returns-then-not-all_end_there-clause-bad : goal.returns-then-not-all_end_there-clause-bad
returns-then-not-all_end_there-clause-bad g c s is still =
    is_bad c.args.log_start c.args.ends.now (bytes_of s) c.in-Ok.heads.in_order.items (c.loop-i.invariant.heads s is still) c.index.result.now.number (omega (arith, c.loop-i-test.true, c.len-i-end.ensures, c.in-Ok.heads.in_order.ok)) (walked-elsewhere c.args.log_start c.args.ends.now (bytes_of s) c.in-Ok.heads.in_order.items c.loop-i.i c.loop-i.before c.loop-i.records.items (c.loop-i.invariant.walked s is still) (omega (arith, c.loop-i-test.true, c.len-i-end.ensures, c.in-Ok.heads.in_order.ok)) c.index.result.now c.index.ensures c.in-Ok-read_segment.ended c.read_segment.new.records.items (told-back-open c.args.log_start (λ b. HasReadSegment c.args.log_start b c.loop-i.before c.index.result.now c.loop-i.records.items c.in-Ok-read_segment.ended c.read_segment.new.records.items) c.index.result.now.number s _ (c.loop-i.invariant.reads s is) c.in-Ok-read_segment.ensures.read (head-still c.args.log_start s c.in-Ok.heads.in_order.items c.loop-i.i c.index.result.now (c.loop-i.invariant.heads s is still) (omega (arith, c.loop-i-test.true, c.len-i-end.ensures, c.in-Ok.heads.in_order.ok)) c.index.ensures still)) (omega (arith, c.if-i-len.true, c.len.ensures, c.in-Ok.heads.in_order.ok)) c.if-not-all_end_there.ensures.no)

pub returns-then-i-len-clause-opens : goal.returns-then-i-len-clause-opens
returns-then-i-len-clause-opens g c s is still =
    opens c.args.log_start c.args.ends.now (bytes_of s) c.in-Ok.heads.in_order.items (c.loop-i.invariant.heads s is still) (omega (arith, c.loop-i-test.true, c.len-i-end.ensures, c.in-Ok.heads.in_order.ok)) (walked-all c.args.log_start c.args.ends.now (bytes_of s) c.in-Ok.heads.in_order.items c.loop-i.i c.loop-i.before c.loop-i.records.items (c.loop-i.invariant.walked s is still) (omega (arith, c.loop-i-test.true, c.len-i-end.ensures, c.in-Ok.heads.in_order.ok)) c.index.result.now c.index.ensures c.in-Ok-read_segment.ended c.read_segment.new.records.items (told-back-open c.args.log_start (λ b. HasReadSegment c.args.log_start b c.loop-i.before c.index.result.now c.loop-i.records.items c.in-Ok-read_segment.ended c.read_segment.new.records.items) c.index.result.now.number s _ (c.loop-i.invariant.reads s is) c.in-Ok-read_segment.ensures.read (head-still c.args.log_start s c.in-Ok.heads.in_order.items c.loop-i.i c.index.result.now (c.loop-i.invariant.heads s is still) (omega (arith, c.loop-i-test.true, c.len-i-end.ensures, c.in-Ok.heads.in_order.ok)) c.index.ensures still)) (omega (arith, c.if-i-len.true, c.len.ensures, c.in-Ok.heads.in_order.ok)) c.if-not-all_end_there.ensures.yes)

pub returns-then-i-len-clause-records : goal.returns-then-i-len-clause-records
returns-then-i-len-clause-records g c s is still =
    all_records c.args.log_start c.args.ends.now (bytes_of s) c.in-Ok.heads.in_order.items (c.loop-i.invariant.heads s is still) c.read_segment.new.records.items (walked-records c.args.log_start c.args.ends.now (bytes_of s) c.in-Ok.heads.in_order.items c.loop-i.i c.loop-i.before c.loop-i.records.items (c.loop-i.invariant.walked s is still) (omega (arith, c.loop-i-test.true, c.len-i-end.ensures, c.in-Ok.heads.in_order.ok)) c.index.result.now c.index.ensures c.in-Ok-read_segment.ended c.read_segment.new.records.items (told-back-open c.args.log_start (λ b. HasReadSegment c.args.log_start b c.loop-i.before c.index.result.now c.loop-i.records.items c.in-Ok-read_segment.ended c.read_segment.new.records.items) c.index.result.now.number s _ (c.loop-i.invariant.reads s is) c.in-Ok-read_segment.ensures.read (head-still c.args.log_start s c.in-Ok.heads.in_order.items c.loop-i.i c.index.result.now (c.loop-i.invariant.heads s is still) (omega (arith, c.loop-i-test.true, c.len-i-end.ensures, c.in-Ok.heads.in_order.ok)) c.index.ensures still)) (omega (arith, c.if-i-len.true, c.len.ensures, c.in-Ok.heads.in_order.ok)))

pub loop-i-preserved : goal.loop-i-preserved
loop-i-preserved g c = record {
  reads = λ s is. ReadsWithin-then (IsInLog c.args.log_start) s _ _ (c.loop-i.invariant.reads s is) (λ t mid. c.read_segment.ensures.reads t mid);
  heads = c.loop-i.invariant.heads;
  walked = λ s is still. walked-more c.args.log_start c.args.ends.now (bytes_of s) c.in-Ok.heads.in_order.items c.loop-i.i c.loop-i.before c.loop-i.records.items (c.loop-i.invariant.walked s is still) (omega (arith, c.loop-i-test.true, c.len-i-end.ensures, c.in-Ok.heads.in_order.ok)) c.index.result.now c.index.ensures c.in-Ok-read_segment.ended c.read_segment.new.records.items (told-back-open c.args.log_start (λ b. HasReadSegment c.args.log_start b c.loop-i.before c.index.result.now c.loop-i.records.items c.in-Ok-read_segment.ended c.read_segment.new.records.items) c.index.result.now.number s _ (c.loop-i.invariant.reads s is) c.in-Ok-read_segment.ensures.read (head-still c.args.log_start s c.in-Ok.heads.in_order.items c.loop-i.i c.index.result.now (c.loop-i.invariant.heads s is still) (omega (arith, c.loop-i-test.true, c.len-i-end.ensures, c.in-Ok.heads.in_order.ok)) c.index.ensures still)) (omega (arith, c.loop-i-test.true, c.len-i-end.ensures, c.if-i-len.false, c.len.ensures, c.in-Ok.heads.in_order.ok));
  ended = c.in-Ok-read_segment.ensures.ended.numbers;
  unfinished = inr (omega (arith, c.loop-i-test.true, c.len-i-end.ensures, c.if-i-len.false, c.len.ensures, c.in-Ok.heads.in_order.ok));
  same_pages = c.read_segment.ensures.same_pages ∙ c.loop-i.invariant.same_pages;
  faults = omega (arith, c.read_segment.ensures.cause.later, c.loop-i.invariant.faults);
}

pub returns-clause-bad : goal.returns-clause-bad
returns-clause-bad g c s is still =
    is_bad-empty c.args.log_start c.args.ends.now (bytes_of s) c.in-Ok.heads.in_order.items (c.loop-i.invariant.heads s is still)
    (⊎_elim (λ first. omega (arith, first, c.loop-i-test.false, c.len-i-end.ensures, c.in-Ok.heads.in_order.ok)) (λ more. omega (arith, more, c.loop-i-test.false, c.len-i-end.ensures, c.in-Ok.heads.in_order.ok)) c.loop-i.invariant.unfinished)

pub returns-then-i-len-clause-newest : goal.returns-then-i-len-clause-newest
returns-then-i-len-clause-newest g c s is still =
    newest-there c.args.log_start (bytes_of s) c.in-Ok.heads.in_order.items c.loop-i.i c.index.result.now c.loop-i.before c.loop-i.records.items c.read_segment.new.records.items c.in-Ok-read_segment.ended (c.loop-i.invariant.heads s is still)
    (omega (arith, c.loop-i-test.true, c.len-i-end.ensures, c.in-Ok.heads.in_order.ok)) c.index.ensures (told-back-open c.args.log_start (λ b. HasReadSegment c.args.log_start b c.loop-i.before c.index.result.now c.loop-i.records.items c.in-Ok-read_segment.ended c.read_segment.new.records.items) c.index.result.now.number s _ (c.loop-i.invariant.reads s is) c.in-Ok-read_segment.ensures.read (head-still c.args.log_start s c.in-Ok.heads.in_order.items c.loop-i.i c.index.result.now (c.loop-i.invariant.heads s is still) (omega (arith, c.loop-i-test.true, c.len-i-end.ensures, c.in-Ok.heads.in_order.ok)) c.index.ensures still)) (omega (arith, c.if-i-len.true, c.len.ensures, c.in-Ok.heads.in_order.ok))

pub returns-then-i-len-clause-counted : goal.returns-then-i-len-clause-counted
returns-then-i-len-clause-counted g c =
    counted-end c.loop-i.before c.index.result.now c.in-Ok-read_segment.ended c.args.ends.now c.loop-i.invariant.ended c.in-Ok-read_segment.ensures.ended c.if-not-all_end_there.ensures.yes c.requires.some c.requires.below

pub returns-then-i-len-clause-behind : goal.returns-then-i-len-clause-behind
returns-then-i-len-clause-behind g c = ends-behind c.loop-i.before c.index.result.now c.in-Ok-read_segment.ended c.args.ends.now c.in-Ok-read_segment.ensures.ended c.if-not-all_end_there.ensures.yes
