-- How the story of a device goes on, and that what was damaged in it stays so. No public contract needs these laws.
use Rattle.std.proofs.Common.{◌≡◌, ℕ, List, [], ◌∷◌, ◌++◌, map, Option, Some, None, Ok, Err, refl, sym, ◌∙◌, ap, subst}
use Rattle.std.proofs.lemmas.Option.{same_Some}
use Rattle.dev_model.specs.Story.{Calls, Story, WhereTold, IsReadable, after, clock_of}
use Rattle.dev_model.specs.Doing.{HasStoppedIn, all_noted}
use Rattle.dev_model.specs.Laws.Plans.{all_noted-told, Did-untold, no_story}
use Rattle.dev_model.specs.Laws.Runs.{after-append}
use Rattle.device_pages.specs.Lending.{contents_of, page_bytes}
use Rattle.device_pages.specs.LentPlaces.{IsLentPlace}
use Rattle.device_pages.specs.Laws.Lending.{contents-readable}
use Rattle.component_image.specs.Components.{IsInExtents}
use Rattle.store_state.specs.Laws.ReadingPages.{lent-inside}
use Rattle.primary_ix.specs.Damage.{IsDamagedIn}
use Rattle.store_state.specs.Lists.{Lists, extents_of, trees_of}
use Rattle.store_machine.specs.Damage.{damaged_page, WasDamaged, DamagesAre}
use Rattle.dev_model.specs.Story.{DeviceState}
use Rattle.store_machine.specs.Laws.LogCalls.{IsPlan, failed-by}
use Rattle.store_machine.specs.Machine.{Machine, after_event, after_all}
use Rattle.store_machine.specs.Standing.{StoreState, Has}
use Rattle.store_machine.specs.Calls.{IsEventOf}
use Rattle.store_machine.specs.declared.events.Action.{Action}
use Rattle.store_machine.specs.declared.events.Event.{Event}

-- what was told goes on by some calls, and what wasn't isn't
pub record HasGoneOn (old new : Option Story) : Type 0 where
  pub told : WhereTold old (λ s. (calls : Calls) × (new ≡ Some (after s calls)))
  pub untold : old ≡ None → new ≡ None

pub gone-same : (story : Option Story) → HasGoneOn story story
gone-same story = record { told = λ s is. ([], is); untold = λ none. none }

pub gone-noted : (calls : Calls) (old new : Option Story) → new ≡ all_noted calls old → HasGoneOn old new
gone-noted calls old new did = record {
  told = λ s is. (calls, did ∙ all_noted-told s calls old is);
  untold = λ none. Did-untold {T = ℕ} {E = ℕ} calls new (Ok 0) (did ∙ ap (all_noted calls) none);
}

pub gone-stopped : (plan : Calls) → IsPlan plan → (old new : Option Story) → HasStoppedIn plan old new → HasGoneOn old new
gone-stopped plan is old new stopped = record {
  told = λ s told. let by : _ = failed-by old new plan is stopped s told in (by.calls, by.told);
  untold = λ none. Did-untold {T = ℕ} {E = ℕ} plan new (Err 0) (subst (λ (story : Option Story). HasStoppedIn plan story new) none stopped);
}

pub gone-then : (first second third : Option Story) → HasGoneOn first second → HasGoneOn second third → HasGoneOn first third
gone-then first second third before more = record {
  told = λ s is.
      let some : (calls : Calls) × (second ≡ Some (after s calls)) = before.told s is in
      let rest : (calls : Calls) × (third ≡ Some (after (after s some.0) calls)) = more.told (after s some.0) some.1 in
      (some.0 ++ rest.0, rest.1 ∙ ap (λ (t : Story). Some t) (sym (after-append s some.0 rest.0)));
  untold = λ none. more.untold (before.untold none);
}

-- what was damaged at a clock that was passed was so, whatever comes after
WasDamaged-later : (m : Machine) (s : Story) (calls : Calls) (at page : ℕ) → WasDamaged m s at page → WasDamaged m (after s calls) at page
WasDamaged-later m s calls at page was = record {
  earlier = was.earlier;
  since = was.since ++ calls;
  went = ap (λ (t : Story). after t calls) was.went ∙ sym (after-append was.earlier was.since calls);
  clock = was.clock;
  damaged = was.damaged;
}

DamagesAre-later : (m : Machine) (s : Story) (calls : Calls) (es : List Event) → DamagesAre m s es → DamagesAre m (after s calls) es
DamagesAre-later m s calls [] are = tt
DamagesAre-later m s calls (e ∷ es) are = (λ page is. WasDamaged-later m s calls e.clock_after page (are.0 page is), DamagesAre-later (after_event m e) s calls es are.1)

DamagesAre-append : (m : Machine) (s : Story) (es fs : List Event) → DamagesAre m s es → DamagesAre (after_all m es) s fs → DamagesAre m s (es ++ fs)
DamagesAre-append m s [] fs left right = right
DamagesAre-append m s (e ∷ es) fs left right = (left.0, DamagesAre-append (after_event m e) s es fs left.1 right)

-- one event more
pub damages-add : (old new : Option Story) (m : Machine) (es : List Event) (e : Event) → HasGoneOn old new → WhereTold old (λ s. DamagesAre m s es)
    → WhereTold new (λ s. WhereTold (damaged_page e.action) (WasDamaged (after_all m es) s e.clock_after)) → WhereTold new (λ s. DamagesAre m s (es ++ e ∷ []))
damages-add None new m es e gone before cause s is = no_story s (sym (gone.untold refl) ∙ is)
damages-add (Some r) new m es e gone before cause s is =
    let went : (calls : Calls) × (new ≡ Some (after r calls)) = gone.told r refl in
    let same : after r went.0 ≡ s = same_Some _ _ (sym went.1 ∙ is) in
    let so_far : DamagesAre m s es = subst (λ (t : Story). DamagesAre m t es) same (DamagesAre-later m r went.0 es (before r refl)) in
    DamagesAre-append m s es (e ∷ []) so_far (cause s is, tt)

-- a page is damaged as the call leaves the device, where its clock is that of its story
pub record IsCause (lists : Lists) (now : DeviceState) (page : ℕ) : Type 0 where
  pub clock : WhereTold now.story (λ s. now.clock ≡ clock_of s)
  pub damaged : WhereTold (contents_of (extents_of lists.components) now.story) (λ contents. IsDamagedIn (trees_of lists.components) contents page)

-- so it is in the components of the machine
pub cause-was : (old : StoreState) (now : DeviceState) (owner : ℕ) (action : Action) (e : Event) (m : Machine) → IsEventOf old.device now owner action e → Has old m
    → WhereTold (damaged_page action) (IsCause old.lists now) → WhereTold now.story (λ s. WhereTold (damaged_page e.action) (WasDamaged m s e.clock_after))
cause-was old now owner action e m is has causes s told page answered =
    let cause : IsCause old.lists now page = causes page (sym (ap damaged_page is.action_is) ∙ answered) in
    let in_old : ((i : ℕ) → IsLentPlace (extents_of old.lists.components) i → IsReadable s.past i) → IsDamagedIn (trees_of old.lists.components) (page_bytes s) page =
    λ readable. cause.damaged (page_bytes s) (ap (contents_of (extents_of old.lists.components)) told ∙ contents-readable (extents_of old.lists.components) s readable) in
    record {
      earlier = s;
      since = [];
      went = refl;
      clock = sym (is.time ∙ cause.clock s told);
      damaged = subst (λ (l : Lists). ((i : ℕ) → IsInExtents (map (λ e. e.1) l.components) i → IsReadable s.past i) → IsDamagedIn (trees_of l.components) (page_bytes s) page) has.lists (λ readable. in_old (λ i place. readable i (lent-inside old.lists.components i place)));
    }

-- no page was answered to be damaged
pub no-cause : (lists : Lists) (now : DeviceState) (action : Action) → damaged_page action ≡ None → WhereTold (damaged_page action) (IsCause lists now)
no-cause lists now action none page is = absurd (let no : ◌≡◌ {A = Option ℕ} None (Some page) = sym none ∙ is in cc)
