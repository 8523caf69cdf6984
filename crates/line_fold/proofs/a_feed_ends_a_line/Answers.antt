use Rattle.line_fold.specs.laws.Cuts.{ended-cut, lines-cut}
use Rattle.line_fold.proofs.a_feed_ends_a_line.Goals as goal

pub returns-clause-ended : goal.returns-clause-ended
returns-clause-ended c = ended-cut

pub returns-clause-all : goal.returns-clause-all
returns-clause-all c = lines-cut
