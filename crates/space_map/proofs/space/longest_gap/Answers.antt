use Rattle.std.proofs.Common.{◌≡◌, ℕ, ◌+◌, ◌≤◌, List, drop, get_or, sym, ◌∙◌, subst, arith}
use Rattle.space_map.specs.declared.space.Extent.{Extent}
use Rattle.space_map.specs.declared.space.TheConstants.{FIRST_DATA_PAGE}
use Rattle.space_map.specs.Space.{end_of, IsFreeIn}
use Rattle.space_map.proofs.Gaps.{longest_from, longest_from-found, longest_from-longest, walk-apart, end-longest, apart-end}
use Rattle.space_map.proofs.space.longest_gap.Goals as goal

zero_extent : Extent
zero_extent = record { first = 0; pages = 0 }

pub overflow_add-from : goal.overflow_add-from
unfolding zero_extent
overflow_add-from c =
    let xs : List Extent = c.args.extents.now in
    let i : ℕ = c.loop-extent.extent-index in
    let x : Extent = get_or xs i zero_extent in
    let here = walk-apart c.loop-extent.from c.args.end xs i zero_extent (omega arith) c.loop-extent.invariant.1 in
    let h = apart-end (end_of x) c.args.end (drop (i + 1) xs) here.2 in
    omega arith

pub returns-clause-found : goal.returns-clause-found
returns-clause-found c =
    let xs : List Extent = c.args.extents.now in
    let whole : ℕ = longest_from FIRST_DATA_PAGE c.args.end xs in
    let P : ℕ → Type 0 = λ n. (from : ℕ) × IsFreeIn FIRST_DATA_PAGE c.args.end xs from n in
    let is : c.max.result ≡ whole =
    c.max.ensures ∙ end-longest whole c.loop-extent.longest c.loop-extent.from c.args.end xs c.loop-extent.extent-index (omega arith) c.loop-extent.invariant.0 in
    subst P (sym is) (longest_from-found FIRST_DATA_PAGE c.args.end xs c.requires)

pub returns-clause-longest : goal.returns-clause-longest
returns-clause-longest c = λ from count run.
    let xs : List Extent = c.args.extents.now in
    let whole : ℕ = longest_from FIRST_DATA_PAGE c.args.end xs in
    let P : ℕ → Type 0 = λ n. count ≤ n in
    let is : c.max.result ≡ whole =
    c.max.ensures ∙ end-longest whole c.loop-extent.longest c.loop-extent.from c.args.end xs c.loop-extent.extent-index (omega arith) c.loop-extent.invariant.0 in
    subst P (sym is) (longest_from-longest FIRST_DATA_PAGE c.args.end xs c.requires from count run)
