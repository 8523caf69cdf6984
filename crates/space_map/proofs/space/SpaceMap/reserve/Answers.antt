use Rattle.std.proofs.Common.{◌<◌, refl, ⊎_elim}
use Rattle.std.proofs.lemmas.Bool.{cases_lt}
use Rattle.space_map.specs.declared.space.TheConstants.{FIRST_DATA_PAGE}
use Rattle.space_map.specs.Calls.{reserved_end}
use Rattle.space_map.proofs.Gaps.{shorter}
use Rattle.space_map.proofs.Near.{first_fit-near, free-at_end}
use Rattle.space_map.proofs.space.SpaceMap.reserve.Goals as goal

pub returns-in-Ok-clause-near : goal.returns-in-Ok-clause-near
returns-in-Ok-clause-near c = first_fit-near c.args.self.now c.args.count c.in-Some.first c.in-Some.ensures

pub returns-in-None-clause-refused : goal.returns-in-None-clause-refused
returns-in-None-clause-refused c =
    let space = c.args.self.now in
    let run = c.longest.ensures.longest.found in
    let short : c.longest.result < c.args.count =
    ⊎_elim (λ less. less)
    (λ enough. absurd (c.in-None.ensures run.0 (shorter FIRST_DATA_PAGE space.pages space.reserved run.0 c.longest.result c.args.count enough run.1)))
    (cases_lt c.longest.result c.args.count) in
    (refl, c.longest.ensures.longest, short)

pub returns-in-None-clause-enough : goal.returns-in-None-clause-enough
returns-in-None-clause-enough c = λ room.
    absurd (c.in-None.ensures (reserved_end c.args.self.now.reserved) (free-at_end c.args.self.now c.args.count room))
