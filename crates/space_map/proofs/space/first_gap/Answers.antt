use Rattle.std.proofs.Common.{ℕ, ◌+◌, List, Option, drop, get_or, sym, subst, arith}
use Rattle.space_map.specs.declared.space.Extent.{Extent}
use Rattle.space_map.specs.declared.space.TheConstants.{FIRST_DATA_PAGE}
use Rattle.space_map.specs.Space.{end_of}
use Rattle.space_map.proofs.Gaps.{gap_from, IsGap, gap_from-first, gap-found, gap-last, gap-none, walk-apart, walk-gap, end-gap, apart-end}
use Rattle.space_map.proofs.space.first_gap.Goals as goal

zero_extent : Extent
zero_extent = record { first = 0; pages = 0 }

pub returns-then-extent-from : goal.returns-then-extent-from
unfolding zero_extent
returns-then-extent-from c =
    let xs : List Extent = c.args.extents.now in
    let i : ℕ = c.loop-extent.extent-index in
    let whole : Option ℕ = gap_from FIRST_DATA_PAGE c.args.end c.args.count xs in
    let P : Option ℕ → Type 0 = IsGap FIRST_DATA_PAGE c.args.end c.args.count xs in
    let here = walk-gap whole c.loop-extent.from c.args.end c.args.count xs i zero_extent (omega arith) c.loop-extent.invariant.0 in
    subst P (sym (gap-found whole c.loop-extent.from c.args.end c.args.count (get_or xs i zero_extent) (drop (i + 1) xs) here c.if-extent-from.true))
    (gap_from-first FIRST_DATA_PAGE c.args.end c.args.count xs c.requires.apart c.requires.some)

pub overflow_add-from : goal.overflow_add-from
unfolding zero_extent
overflow_add-from c =
    let xs : List Extent = c.args.extents.now in
    let i : ℕ = c.loop-extent.extent-index in
    let x : Extent = get_or xs i zero_extent in
    let here = walk-apart c.loop-extent.from c.args.end xs i zero_extent (omega arith) c.loop-extent.invariant.1 in
    let h = apart-end (end_of x) c.args.end (drop (i + 1) xs) here.2 in
    omega arith

pub returns-then-end-from : goal.returns-then-end-from
returns-then-end-from c =
    let xs : List Extent = c.args.extents.now in
    let whole : Option ℕ = gap_from FIRST_DATA_PAGE c.args.end c.args.count xs in
    let P : Option ℕ → Type 0 = IsGap FIRST_DATA_PAGE c.args.end c.args.count xs in
    let here = end-gap whole c.loop-extent.from c.args.end c.args.count xs c.loop-extent.extent-index (omega arith) c.loop-extent.invariant.0 in
    subst P (sym (gap-last whole c.loop-extent.from c.args.end c.args.count here c.if-end-from.true))
    (gap_from-first FIRST_DATA_PAGE c.args.end c.args.count xs c.requires.apart c.requires.some)

pub returns-else-end-from : goal.returns-else-end-from
returns-else-end-from c =
    let xs : List Extent = c.args.extents.now in
    let whole : Option ℕ = gap_from FIRST_DATA_PAGE c.args.end c.args.count xs in
    let P : Option ℕ → Type 0 = IsGap FIRST_DATA_PAGE c.args.end c.args.count xs in
    let here = end-gap whole c.loop-extent.from c.args.end c.args.count xs c.loop-extent.extent-index (omega arith) c.loop-extent.invariant.0 in
    subst P (sym (gap-none whole c.loop-extent.from c.args.end c.args.count here c.if-end-from.false))
    (gap_from-first FIRST_DATA_PAGE c.args.end c.args.count xs c.requires.apart c.requires.some)
