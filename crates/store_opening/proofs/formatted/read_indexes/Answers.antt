use Rattle.std.proofs.Common.{◌≡◌, [], ◌∷◌, inl, inr, Option, Some, Result, Ok, Err, arith}
use Rattle.dev_model.specs.Story.{Read, Story}
use Rattle.dev_model.specs.Doing.{Did}
use Rattle.dev_model.specs.Moments.{ReadsWithin}
use Rattle.dev_model.specs.Laws.Reads.{ReadsWithin-read}
use Rattle.superblock.specs.declared.places.TheConstants.{SUPERBLOCK_BYTES}
use Rattle.component_image.specs.Recovered.{IsOpeningRange}
use Rattle.store_opening.proofs.formatted.read_indexes.Goals as goal

-- one read, whether it failed or not
superblock-read : {X E : Type 0} (s : Story) (result : Result X E) (old new : Option Story) → old ≡ Some s → Did (Read 0 SUPERBLOCK_BYTES ∷ []) old new result → ReadsWithin IsOpeningRange s new
superblock-read {X} {E} s (Ok x) old new is did = ReadsWithin-read {X = X} {E = E} IsOpeningRange s 0 SUPERBLOCK_BYTES (Ok x) old new is did (inl (omega arith))
superblock-read {X} {E} s (Err e) old new is (inl failed) = ReadsWithin-read {X = X} {E = E} IsOpeningRange s 0 SUPERBLOCK_BYTES (Err e) old new is failed (inl (omega arith))
superblock-read {X} {E} s (Err e) old new is (inr none) = absurd none

pub returns-in-Ok-Some-clause-reads : goal.returns-in-Ok-Some-clause-reads
returns-in-Ok-Some-clause-reads g c s is = superblock-read s c.read_superblock.result _ _ is c.read_superblock.ensures.made.did

pub returns-in-Ok-None-clause-reads : goal.returns-in-Ok-None-clause-reads
returns-in-Ok-None-clause-reads g c s is = superblock-read s c.read_superblock.result _ _ is c.read_superblock.ensures.made.did

pub returns-in-Err-clause-reads : goal.returns-in-Err-clause-reads
returns-in-Err-clause-reads g c s is = superblock-read s c.read_superblock.result _ _ is c.read_superblock.ensures.made.did
