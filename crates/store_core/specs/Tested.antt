-- What calls of the store say of the pages of the components that they read.
use Rattle.std.specs.Prelude.{◌≡◌, ℕ, ◌*◌, List, [], ◌∷◌, ◌++◌, map, All, Option, Some, Result, Ok, Err}
use Rattle.dev_model.specs.Story.{Calls, Story, WhereTold, after, clock_of}
use Rattle.dev_model.specs.DeviceCalls.{ok_calls}
use Rattle.dev_model.specs.declared.calls.DeviceAct.{DeviceAct}
use Rattle.dev_model.specs.declared.calls.DeviceAct.TheVariants.{ReadAt}
use Rattle.dev_model.specs.declared.calls.DeviceCall.{DeviceCall}
use Rattle.page_codec.specs.declared.pages.TheConstants.{PAGE_BYTES}
use Rattle.dev_model.specs.Asked.{EndsWith}
use Rattle.device_pages.specs.Lending.{contents_of}
use Rattle.primary_ix.specs.Pages.{IsTestedIn}
use Rattle.primary_ix.specs.Damage.{IsDamagedIn}
use Rattle.primary_ix.specs.declared.component.PrimComp.{PrimComp}
use Rattle.store_state.specs.Lists.{extents_of, trees_of}
use Rattle.store_machine.specs.Standing.{StoreState}
use Rattle.dev_model.specs.Story.{DeviceState}
use Rattle.store_machine.specs.declared.events.Refusal.{Refusal}
use Rattle.store_machine.specs.declared.events.Refusal.TheVariants.{Damaged}

-- what was read in device calls: places, each with a count of bytes
abbrev pub read_in : DeviceAct → List (ℕ × ℕ)
read_in (ReadAt at count) = (at, count) ∷ []
read_in other = []

abbrev pub reads_in : List DeviceCall → List (ℕ × ℕ)
reads_in [] = []
reads_in (call ∷ calls) = read_in call.act ++ reads_in calls

-- from this story on, these pages were read, one after another, and nothing else was read
pub record HaveBeenRead (pages : List ℕ) (s : Story) (now : Option Story) : Type 0 where
  pub calls : Calls
  pub told : now ≡ Some (after s calls)
  pub reads : reads_in (ok_calls (clock_of s) calls) ≡ map (λ page. (page * PAGE_BYTES, PAGE_BYTES)) pages

-- After an answer each page that was read had the header of its place in the components. Where a page is answered to be damaged, it
-- is the one that was read last, and it isn't one for its place.
abbrev pub IsSoundBy : {X : Type 0} → List PrimComp → (contents : ℕ → List ℕ) → Story → (now : Option Story) → Result X Refusal → Type 0
IsSoundBy comps contents s now (Ok x) = (pages : List ℕ) × HaveBeenRead pages s now × All (IsTestedIn comps contents) pages
IsSoundBy comps contents s now (Err (Damaged page)) = (pages : List ℕ) × HaveBeenRead pages s now × EndsWith pages page × IsDamagedIn comps contents page
IsSoundBy comps contents s now (Err refusal) = Unit {0}

-- so it is where the device tells what the pages of the components hold
abbrev pub TestsPages : {X : Type 0} → (old : StoreState) (now : DeviceState) → Result X Refusal → Type 0
TestsPages old now result =
    WhereTold old.device.story (λ s. WhereTold (contents_of (extents_of old.lists.components) old.device.story) (λ contents. IsSoundBy (trees_of old.lists.components) contents s now.story result))
