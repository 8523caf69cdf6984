use Rattle.wal_log.specs.Laws.Apart.{images-apart, rests-apart}
use Rattle.wal_log.proofs.laws.logs_stand_apart.Goals as goal

pub returns : goal.returns
returns c log s t at count now rest within told apart = (rests-apart log s t at count now rest within told apart, images-apart log s t at count now rest within told apart)
