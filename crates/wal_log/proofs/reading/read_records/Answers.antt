use Rattle.std.proofs.Common.{◌+◌, ◌∙◌, arith, subst, refl, inl, inr}
use Rattle.dev_model.specs.Story.{bytes_of}
use Rattle.dev_model.specs.Laws.Reads.{ReadsWithin-start, ReadsWithin-then}
use Rattle.wal_log.specs.Places.{IsInLog}
use Rattle.wal_log.specs.Places.{record_start}
use Rattle.wal_log.specs.Found.{IsFound, HasNumber}
use Rattle.wal_log.proofs.Finding.{found-at, place-still, below-more, read-none, read-all, read-bad, read-more}
use Rattle.wal_log.proofs.reading.read_records.Goals as goal

pub loop-place-init : goal.loop-place-init
loop-place-init g c = record {
  reads = λ s is. ReadsWithin-start (IsInLog c.args.log_start) s _ is;
  so_far = λ s is still. read-none c.args.log_start c.args.first_lsn c.args.segment (bytes_of s) c.args.records.now.items;
  below = inl refl;
  window = λ s is inside. absurd (inside refl);
  same_pages = refl;
  faults = omega arith;
}

pub returns-in-Err-clause-reads : goal.returns-in-Err-clause-reads
returns-in-Err-clause-reads g c s is = ReadsWithin-then (IsInLog c.args.log_start) s _ _ (c.loop-place.invariant.reads s is) (λ t mid. c.read_place.ensures.reads t mid)

pub returns-in-Closed-clause-reads : goal.returns-in-Closed-clause-reads
returns-in-Closed-clause-reads g c s is = ReadsWithin-then (IsInLog c.args.log_start) s _ _ (c.loop-place.invariant.reads s is) (λ t mid. c.read_place.ensures.reads t mid)

pub returns-in-Bad-clause-reads : goal.returns-in-Bad-clause-reads
returns-in-Bad-clause-reads g c s is = ReadsWithin-then (IsInLog c.args.log_start) s _ _ (c.loop-place.invariant.reads s is) (λ t mid. c.read_place.ensures.reads t mid)

pub returns-then-is_err-clause-reads : goal.returns-then-is_err-clause-reads
returns-then-is_err-clause-reads g c s is = ReadsWithin-then (IsInLog c.args.log_start) s _ _ (c.loop-place.invariant.reads s is) (λ t mid. c.read_place.ensures.reads t mid)

pub returns-in-Closed-clause-read : goal.returns-in-Closed-clause-read
returns-in-Closed-clause-read g c s is still =
    let found = subst (IsFound (record_start c.args.log_start c.args.segment c.loop-place.place) (c.args.first_lsn + c.loop-place.place) (bytes_of s)) c.in-Closed.is (found-at c.args.log_start s _ (record_start c.args.log_start c.args.segment c.loop-place.place) (c.args.first_lsn + c.loop-place.place) c.in-Ok.found (c.loop-place.invariant.reads s is) (λ t told. c.in-Ok.ensures.found t told (c.loop-place.invariant.window t told)) (place-still c.args.log_start c.args.first_lsn c.loop-place.place c.args.segment s c.args.records.now.items c.loop-place.records.items (omega (arith, c.loop-place-test.true)) (c.loop-place.invariant.so_far s is still) still)) in
    read-all c.args.log_start c.args.first_lsn c.loop-place.place c.args.segment (bytes_of s) c.args.records.now.items c.loop-place.records.items (omega (arith, c.loop-place-test.true)) (c.loop-place.invariant.so_far s is still) found

pub returns-in-Bad-clause-bad : goal.returns-in-Bad-clause-bad
returns-in-Bad-clause-bad g c = (
  refl,
  λ s is still.
      let found = subst (IsFound (record_start c.args.log_start c.args.segment c.loop-place.place) (c.args.first_lsn + c.loop-place.place) (bytes_of s)) c.in-Bad.is (found-at c.args.log_start s _ (record_start c.args.log_start c.args.segment c.loop-place.place) (c.args.first_lsn + c.loop-place.place) c.in-Ok.found (c.loop-place.invariant.reads s is) (λ t told. c.in-Ok.ensures.found t told (c.loop-place.invariant.window t told)) (place-still c.args.log_start c.args.first_lsn c.loop-place.place c.args.segment s c.args.records.now.items c.loop-place.records.items (omega (arith, c.loop-place-test.true)) (c.loop-place.invariant.so_far s is still) still)) in
      read-bad c.args.log_start c.args.first_lsn c.loop-place.place c.args.segment (bytes_of s) c.args.records.now.items c.loop-place.records.items (omega (arith, c.loop-place-test.true)) (c.loop-place.invariant.so_far s is still) found.0 found.1,
)

pub loop-place-preserved : goal.loop-place-preserved
loop-place-preserved g c = record {
  reads = λ s is. ReadsWithin-then (IsInLog c.args.log_start) s _ _ (c.loop-place.invariant.reads s is) (λ t mid. c.read_place.ensures.reads t mid);
  so_far = λ s is still.
      let found = subst (IsFound (record_start c.args.log_start c.args.segment c.loop-place.place) (c.args.first_lsn + c.loop-place.place) (bytes_of s)) c.in-Sound.is (found-at c.args.log_start s _ (record_start c.args.log_start c.args.segment c.loop-place.place) (c.args.first_lsn + c.loop-place.place) c.in-Ok.found (c.loop-place.invariant.reads s is) (λ t told. c.in-Ok.ensures.found t told (c.loop-place.invariant.window t told)) (place-still c.args.log_start c.args.first_lsn c.loop-place.place c.args.segment s c.args.records.now.items c.loop-place.records.items (omega (arith, c.loop-place-test.true)) (c.loop-place.invariant.so_far s is still) still)) in
      read-more c.args.log_start c.args.first_lsn c.loop-place.place c.args.segment (bytes_of s) c.args.records.now.items c.loop-place.records.items (omega (arith, c.loop-place-test.true)) (c.loop-place.invariant.so_far s is still) c.in-Sound.record c.push.new.self.items found.0 found.1 found.2 (grind (arith, c.push.ensures.items, c.if-is_err.ensures.negation));
  below = inr (below-more c.args.first_lsn c.loop-place.place c.in-Sound.record (subst (HasNumber (c.args.first_lsn + c.loop-place.place)) c.in-Sound.is c.in-Ok.ensures.number));
  window = c.in-Ok.ensures.holds c.loop-place.invariant.window;
  same_pages = c.read_place.ensures.same_pages ∙ c.loop-place.invariant.same_pages;
  faults = omega (arith, c.read_place.ensures.cause.later, c.loop-place.invariant.faults);
}
