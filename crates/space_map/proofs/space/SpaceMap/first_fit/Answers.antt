use Rattle.std.proofs.Common.{ℕ, List, subst}
use Rattle.std.specs.Prelude.{MatchOption}
use Rattle.space_map.specs.declared.space.Extent.{Extent}
use Rattle.space_map.specs.declared.space.TheConstants.{FIRST_DATA_PAGE}
use Rattle.space_map.specs.Space.{Space, IsFreeRun, IsFirstFit}
use Rattle.space_map.proofs.Gaps.{IsGap, IsFirstFit-from_gap}
use Rattle.space_map.proofs.space.SpaceMap.first_fit.Goals as goal

pub returns : goal.returns
returns c =
    let found = c.first_gap.result in
    let here : Space = record { reserved = c.self.inside.reserved.items; pages = c.self.inside.pages } in
    let P : List Extent → Type 0 = λ ys. IsGap FIRST_DATA_PAGE c.self.inside.pages c.args.count ys found in
    let Q : Space → Type 0 = λ space. MatchOption found ((from : ℕ) → ¬ (IsFreeRun space from c.args.count)) (IsFirstFit space c.args.count) in
    subst Q c.self.view_is (IsFirstFit-from_gap here c.args.count found (subst P c.deref.ensures.value c.first_gap.ensures))
