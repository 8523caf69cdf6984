use Rattle.std.proofs.Common.{refl}
use Rattle.dev_model.specs.Story.{bytes_of}
use Rattle.wal_log.proofs.LogFound.{at_rest-found, log_of-found}
use Rattle.wal_log.proofs.log.Log.read_all.Goals as goal

pub returns-in-Ok-clause-at_rest : goal.returns-in-Ok-clause-at_rest
returns-in-Ok-clause-at_rest g c s is still t now =
    at_rest-found s t _ _ c.in-Ok.read.ended (c.read_segments.ensures.reads s is) now still (c.in-Ok.ensures.newest s is still) (c.in-Ok.ensures.told s is still) refl refl

pub returns-in-Ok-clause-log_of : goal.returns-in-Ok-clause-log_of
returns-in-Ok-clause-log_of g c s is still =
    log_of-found c.args.ends.now (bytes_of s) c.in-Ok.read.ended _ (c.in-Ok.ensures.opens s is still) (c.in-Ok.ensures.newest s is still) refl refl refl
