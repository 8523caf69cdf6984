-- What a crash at a moment leaves.
use Rattle.std.specs.Prelude.{◌⊎◌, ℕ, suc, ◌+◌, ◌<◌, nat_le, List, [], ◌∷◌, ◌++◌, length, take, Option, Some, None, if◌then◌else◌}
use Rattle.dev_model.specs.Story.{Bytes}
use Rattle.table_model.specs.Table.{Table}
use Rattle.component_image.specs.Recovered.{Recovers}
use Rattle.store_machine.specs.Outcomes.{Group, after_groups}

-- how many were acknowledged at the moment
abbrev pub acked_by : ℕ → List ℕ → ℕ
acked_by moment [] = 0
acked_by moment (ack ∷ acks) = if nat_le ack moment then suc (acked_by moment acks) else acked_by moment acks

-- what was logged, with the group behind it that was not finished
abbrev pub attempted : List Group → Option Group → List Group
attempted logged None = logged
attempted logged (Some group) = logged ++ group ∷ []

-- The image of a device of so many pages opens, and has the first so many of these groups, or one more.
abbrev pub RecoversFirst : (pages : ℕ) → Table → List Group → (count : ℕ) → Bytes → Type 0
RecoversFirst pages table groups count image =
    Recovers pages (after_groups table (take count groups)) image
    ⊎ ((count < length groups) × Recovers pages (after_groups table (take (count + 1) groups)) image)

-- what was acknowledged at the moment is in the image, with one group more at most
abbrev pub Keeps : (pages : ℕ) → Table → List Group → (acks : List ℕ) → (moment : ℕ) → Bytes → Type 0
Keeps pages table groups acks moment image = RecoversFirst pages table groups (acked_by moment acks) image
