use Rattle.std.proofs.Common.{ℕ, ◌≤◌, List, subst}
use Rattle.space_map.specs.declared.space.Extent.{Extent}
use Rattle.space_map.specs.declared.space.TheConstants.{FIRST_DATA_PAGE}
use Rattle.space_map.specs.Space.{Space, IsFreeIn, IsLongest}
use Rattle.space_map.proofs.space.SpaceMap.longest.Goals as goal

pub returns-clause-longest : goal.returns-clause-longest
returns-clause-longest c =
    let n : ℕ = c.longest_gap.result in
    let end : ℕ = c.self.inside.pages in
    let P : List Extent → Type 0 = λ ys. (from : ℕ) × IsFreeIn FIRST_DATA_PAGE end ys from n in
    let Q : List Extent → Type 0 = λ ys. (from count : ℕ) → IsFreeIn FIRST_DATA_PAGE end ys from count → count ≤ n in
    let R : Space → Type 0 = λ space. IsLongest space n in
    let here : IsLongest (record { reserved = c.self.inside.reserved.items; pages = end }) n = record {
      found = subst P c.deref.ensures.value c.longest_gap.ensures.found;
      no_longer = subst Q c.deref.ensures.value c.longest_gap.ensures.longest;
    } in
    subst R c.self.view_is here
