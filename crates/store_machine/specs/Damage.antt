-- What an answer that a page is damaged has for its cause.
use Rattle.std.specs.Prelude.{◌≡◌, ℕ, List, [], ◌∷◌, map, Option, Some, None, Err}
use Rattle.dev_model.specs.Story.{Calls, Story, WhereTold, IsReadable, after, bytes_of, clock_of}
use Rattle.component_image.specs.Components.{IsInExtents}
use Rattle.component_image.specs.Content.{page_at}
use Rattle.primary_ix.specs.Damage.{IsDamagedIn}
use Rattle.store_state.specs.Lists.{trees_of}
use Rattle.store_machine.specs.Machine.{Machine, after_event}
use Rattle.store_machine.specs.declared.events.Refusal.TheVariants.{Damaged}
use Rattle.store_machine.specs.declared.events.Action.{Action}
use Rattle.store_machine.specs.declared.events.Action.TheVariants.{Write, Get, Region}
use Rattle.store_machine.specs.declared.events.Event.{Event}

-- the page that was answered to be damaged
abbrev pub damaged_page : Action → Option ℕ
damaged_page (Write op (Err (Damaged page))) = Some page
damaged_page (Get key (Err (Damaged page))) = Some page
damaged_page (Region kind rect (Err (Damaged page))) = Some page
damaged_page other = None

-- The page was damaged at a clock that the story has passed: by the bytes as they were read then, it isn't a page for its place in the
-- components of the machine. So it is where each place of their pages could be read then.
pub record WasDamaged (m : Machine) (s : Story) (at page : ℕ) : Type 0 where
  pub earlier : Story
  pub since : Calls
  pub went : s ≡ after earlier since
  pub clock : clock_of earlier ≡ at
  pub damaged : ((i : ℕ) → IsInExtents (map (λ e. e.1) m.lists.components) i → IsReadable earlier.past i) → IsDamagedIn (trees_of m.lists.components) (page_at (bytes_of earlier)) page

-- in this story each page that an event answered to be damaged was so at the end of the event, in the components that were there before
abbrev pub DamagesAre : Machine → Story → List Event → Type 0
DamagesAre m s [] = Unit {0}
DamagesAre m s (e ∷ es) = WhereTold (damaged_page e.action) (WasDamaged m s e.clock_after) × DamagesAre (after_event m e) s es
