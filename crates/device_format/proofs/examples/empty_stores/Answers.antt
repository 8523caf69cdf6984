use Rattle.device_format.proofs.Counting.{no_open_slot, one_superblock}
use Rattle.device_format.proofs.examples.empty_stores.Goals as goal

pub returns-clause-slots : goal.returns-clause-slots
returns-clause-slots c = no_open_slot

pub returns-clause-superblock : goal.returns-clause-superblock
returns-clause-superblock c = one_superblock
