use Rattle.space_map.proofs.space.SpaceFaultDisplay.fmt.Goals as goal

pub returns-in-NoRun-clause-writes : goal.returns-in-NoRun-clause-writes
returns-in-NoRun-clause-writes g c = rw c.in-NoRun.is c.write.ensures.writes
