use Rattle.std.proofs.Common.{◌≡◌, ◌+◌, ◌-◌, ◌*◌, [], drop, ◌∙◌, arith, ap, sym, append-nil}
use Rattle.std.specs.Prelude.{slice_index_or, IsTrue}
use Rattle.std.specs.Int.{from_be_bytes, w32}
use Rattle.std.proofs.Math.Numerals.{add-one}
use Rattle.page_codec.specs.Page.{rows_on, row_count}
use Rattle.tree_shape.specs.Shape.{numbers, level_start}
use Rattle.rtree_image.specs.Bounds.{bounds_in, meets}
use Rattle.rtree_image.specs.Image.{tree_of}
use Rattle.rtree_image.proofs.Picked.{one_more_child, below-more}
use Rattle.rtree_image.proofs.in_page.add_children.Goals as goal
use Rattle.rtree_image.proofs.in_page.add_children.Goals.{then-count-eq0-via-then-count-eq0, then-count-eq0-via-else-count-eq0+then-first-from}

pub returns-then-count-eq0-clause-bad : goal.returns-then-count-eq0-clause-bad
returns-then-count-eq0-clause-bad c e well =
    let many : c.args.at * c.per_inner.result ≡ c.args.at * 340 = ap (λ n. c.args.at * n) c.per_inner.ensures in
    elim c.then-count-eq0.branch [
      | then-count-eq0-via-then-count-eq0 w ↦ omega (arith, w.if-count-eq0.true, well.some, c.in-Ok.ensures)
      | then-count-eq0-via-else-count-eq0+then-first-from w ↦ (
          let last = well.inside (row_count c.args.page.now - 1) (omega (arith, well.some)) in
          omega (arith, last, many, w.if-first-from.true, w.from.ensures, well.some, c.in-Ok.ensures, c.level_at-here.ensures.size))
    ]

pub loop-i-init : goal.loop-i-init
unfolding numbers
loop-i-init c = record { places = sym (append-nil _); tested = λ k h. absurd (omega arith) }

pub returns-in-Err-add_child-clause-bad : goal.returns-in-Err-add_child-clause-bad
returns-in-Err-add_child-clause-bad c e well =
    let many : c.args.at * c.per_inner.result ≡ c.args.at * 340 = ap (λ n. c.args.at * n) c.per_inner.ensures in
    let here : level_start (tree_of c.args.rows) c.args.below + (c.args.at * 340 + c.loop-i.i) ≡ c.level_at-here.result.start + (c.args.at * c.per_inner.result + c.from-in-loop-i.result) =
    omega (arith, many, c.from-in-loop-i.ensures, c.level_at-here.ensures.start) in
    c.in-Err-add_child.ensures.bad e (well.children c.loop-i.i (omega (arith, c.loop-i-test.true, c.in-Ok.ensures)) ∙ here)

pub loop-i-preserved : goal.loop-i-preserved
loop-i-preserved c =
    let many : c.args.at * c.per_inner.result + c.from-in-loop-i.result ≡ c.args.at * 340 + c.loop-i.i =
    omega (arith, ap (λ n. c.args.at * n) c.per_inner.ensures, c.from-in-loop-i.ensures) in
    let here : level_start (tree_of c.args.rows) c.args.below + (c.args.at * 340 + c.loop-i.i) ≡ c.level_at-here.result.start + (c.args.at * c.per_inner.result + c.from-in-loop-i.result) =
    omega (arith, many, c.level_at-here.ensures.start) in
    record {
      places = one_more_child (λ bytes. meets (bounds_in bytes) c.args.rect.now) (λ i. slice_index_or (rows_on c.args.page.now) i []) (c.args.at * 340) c.loop-i.i _
          c.args.places.now.items c.loop-i.places.items _ c.loop-i.invariant.places many c.in_default.ensures.place;
      tested = below-more (λ k. IsTrue (meets (bounds_in (slice_index_or (rows_on c.args.page.now) k [])) c.args.rect.now)
          → from_be_bytes w32 (drop 8 (slice_index_or (rows_on c.args.page.now) k [])) ≡ level_start (tree_of c.args.rows) c.args.below + (c.args.at * 340 + k))
          c.loop-i.i c.loop-i.invariant.tested (λ met. c.in_default.ensures.tested met ∙ sym here);
    }

pub returns-clause-tested : goal.returns-clause-tested
returns-clause-tested c =
    let many : c.args.at * c.per_inner.result ≡ c.args.at * 340 = ap (λ n. c.args.at * n) c.per_inner.ensures in
    record {
      page = rw add-one at c.in-Ok.ensures.0;
      some = omega (arith, c.if-count-eq0.false, c.in-Ok.ensures);
      inside = omega (arith, many, c.if-first-from.false, c.from.ensures, c.in-Ok.ensures, c.level_at-here.ensures.size);
      children = λ i h met. c.loop-i.invariant.tested i (omega (arith, h, c.in-Ok.ensures, c.loop-i-test.false)) met;
    }
