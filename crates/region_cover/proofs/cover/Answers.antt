use Rattle.std.proofs.Common.{List, subst}
use Rattle.region_cover.specs.Steps.{HasValue, Adds}
use Rattle.region_cover.specs.declared.ranges.Range.{Range}
use Rattle.region_cover.proofs.Covered.{covered, cells_covered}
use Rattle.region_cover.proofs.cover.Goals as goal

pub returns-clause-cover : goal.returns-clause-cover
returns-clause-cover c = record {
  runs = c.in_ok-add_part.ensures.runs.runs;
  exactly = covered c.args.rect.now c.cells_met.result c.add_part.new.ranges.items c.cells_met.ensures.part c.cells_met.ensures.exactly
      (subst (λ (old : List Range). Adds (HasValue 16 0 c.cells_met.result) old c.add_part.new.ranges.items) c.new-ranges.ensures.items c.in_ok-add_part.ensures.adds);
}

pub returns-clause-cells : goal.returns-clause-cells
returns-clause-cells c =
    cells_covered c.args.rect.now c.add_part.new.ranges.items c.cells_met.ensures.rect c.in_ok-add_part.ensures.runs.runs.filled
    (covered c.args.rect.now c.cells_met.result c.add_part.new.ranges.items c.cells_met.ensures.part c.cells_met.ensures.exactly
    (subst (λ (old : List Range). Adds (HasValue 16 0 c.cells_met.result) old c.add_part.new.ranges.items) c.new-ranges.ensures.items c.in_ok-add_part.ensures.adds))
