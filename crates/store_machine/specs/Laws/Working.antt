-- An event that writes on the device and leaves the table: a change of segments, a page, an install. No public contract needs these
-- laws.
use Rattle.std.proofs.Common.{◌≡◌, ℕ, ◌+◌, true, List, [], length, Option, Some, None, refl, sym, ◌∙◌, ap, subst, arith}
use Rattle.dev_model.specs.Story.{Story, Calls, after, clock_of, WhereTold}
use Rattle.dev_model.specs.Doing.{HasStoppedIn, all_noted}
use Rattle.dev_model.specs.Moments.{EachMoment, LeavesOnly}
use Rattle.dev_model.specs.DeviceCalls.{ok_calls}
use Rattle.dev_model.specs.Laws.CallLists.{clock_of-after}
use Rattle.dev_model.specs.Laws.Plans.{all_noted-told}
use Rattle.dev_model.specs.declared.calls.DeviceCall.{DeviceCall}
use Rattle.table_model.specs.Table.{Table}
use Rattle.component_image.specs.Recovered.{Recovers}
use Rattle.primary_ix.specs.declared.rows.PrimRow.{PrimRow}
use Rattle.store_machine.specs.Crash.{attempted, Keeps}
use Rattle.store_machine.specs.Laws.LogCalls.{IsPlan, failed_calls, StoppedBy, failed-by, plan-length}
use Rattle.store_machine.specs.Outcomes.{Group}
use Rattle.store_machine.specs.Machine.{Machine, Opening}
use Rattle.store_machine.specs.Standing.{StoreState, Has, Tells}
use Rattle.dev_model.specs.Story.{DeviceState}
use Rattle.store_state.specs.Keeping.{IsKept}
use Rattle.store_state.specs.Reading.{IsLegible}
use Rattle.store_machine.specs.Laws.Crashes.{keeps_table}
use Rattle.store_machine.specs.Runs.{TakesTime}
use Rattle.store_machine.specs.Laws.Steps.{GoesOn}

-- where each image of each moment of a call has the table, what was acknowledged is kept
table-survives : (o : Opening) (old : StoreState) (m : Machine) → Has old m → (t : Tells o old m) → m.stopped ≡ None → (u : Story) (now : Option Story)
    → LeavesOnly t.now now (Recovers old.device.pages m.table) → now ≡ Some u → EachMoment (clock_of t.opening) u (Keeps old.device.pages o.table (attempted m.logged m.unfinished) m.acks)
table-survives o old m has t running u now leaves told =
    let pages : ℕ = old.device.pages in
    let none : m.unfinished ≡ None = has.running running in
    let before : EachMoment (clock_of t.opening) t.now (Keeps pages o.table m.logged m.acks) = subst (λ (g : Option Group). EachMoment (clock_of t.opening) t.now (Keeps pages o.table (attempted m.logged g) m.acks)) none t.survives in
    subst (λ (g : Option Group). EachMoment (clock_of t.opening) u (Keeps pages o.table (attempted m.logged g) m.acks)) (sym none)
    (keeps_table pages (clock_of t.opening) o.table m.logged m.acks t.now u now has.counted t.acked before
    (subst (λ (x : Table). LeavesOnly t.now now (Recovers pages x)) t.replayed leaves) told)

-- What a call that writes shows of the device: each image of each moment of it has the table, and the clock is that of the story.
pub record LeavesTable (old : StoreState) (now : DeviceState) : Type 0 where
  pub any_moment : (table : Table) → WhereTold old.device.story (λ s. IsKept old.device.pages old.log table old.lists s → LeavesOnly s now.story (Recovers old.device.pages table))
  pub clock_told : (s : Story) → now.story ≡ Some s → now.clock ≡ clock_of s

-- what one shows that was answered; the lists that the components' pages show may be others behind it
pub record Works (old new : StoreState) (disk_after : List (List PrimRow) → List (List PrimRow)) (plan : Calls) : Type 0 where
  pub going : old.stopped ≡ None
  pub leaves : LeavesTable old new.device
  pub planned : IsPlan plan
  pub did : new.device.story ≡ all_noted plan old.device.story
  pub kept : (table : Table) → WhereTold old.device.story (λ s. IsKept old.device.pages old.log table old.lists s → WhereTold new.device.story (IsKept old.device.pages new.log table new.lists))
  pub legible : (table : Table) (disk : List (List PrimRow)) → WhereTold old.device.story (λ s. IsKept old.device.pages old.log table old.lists s → IsLegible table disk old.lists s
      → WhereTold new.device.story (IsLegible table (disk_after disk) new.lists))
  pub rows : new.lists.rows ≡ old.lists.rows

pub works-go_on : (o : Opening) (old new : StoreState) (disk_after : List (List PrimRow) → List (List PrimRow)) (plan : Calls) (m : Machine) → Works old new disk_after plan → Has old m → (t : Tells o old m)
    → GoesOn o old new m t (disk_after m.disk) (ok_calls old.device.clock plan)
works-go_on o old new disk_after plan m works has t =
    let running : m.stopped ≡ None = sym has.stopped ∙ works.going in
    let u : Story = after t.now plan in
    let told : new.device.story ≡ Some u = works.did ∙ all_noted-told t.now plan old.device.story t.told in
    let kept : IsKept old.device.pages old.log m.table old.lists t.now = t.kept running in
    let next : IsKept old.device.pages new.log m.table new.lists u = works.kept m.table t.now t.told kept u told in
    record {
      calls = plan;
      told = told;
      made_is = ap (λ (clock : ℕ). ok_calls clock plan) (sym t.clock);
      clock = works.leaves.clock_told u told;
      kept = λ _. next;
      legible = works.legible m.table m.disk t.now t.told kept t.legible u told;
      rows = works.rows ∙ t.rows;
      survives = table-survives o old m has t running u new.device.story (works.leaves.any_moment m.table t.now t.told kept) told;
    }

-- its device calls are all that the clock counted
pub works-time : (o : Opening) (old new : StoreState) (disk_after : List (List PrimRow) → List (List PrimRow)) (plan : Calls) (m : Machine) → Works old new disk_after plan → Has old m → (t : Tells o old m) → new.device.clock ≡ m.clock + length (ok_calls old.device.clock plan)
works-time o old new disk_after plan m works has t =
    let told : new.device.story ≡ Some (after t.now plan) = works.did ∙ all_noted-told t.now plan old.device.story t.told in
    let at : old.device.clock ≡ m.clock = has.clock in
    omega (arith, at, t.clock, works.leaves.clock_told (after t.now plan) told, clock_of-after t.now plan, plan-length old.device.clock plan works.planned)

-- what one shows that failed: the first of its calls were made
pub record WorkFails (old : StoreState) (now : DeviceState) (plan : Calls) : Type 0 where
  pub going : old.stopped ≡ None
  pub leaves : LeavesTable old now
  pub planned : IsPlan plan
  pub did : HasStoppedIn plan old.device.story now.story
  pub legible : (table : Table) (disk : List (List PrimRow)) → WhereTold old.device.story (λ s. IsLegible table disk old.lists s → WhereTold now.story (IsLegible table disk old.lists))

-- the calls of one that failed, as far as they succeeded
abbrev pub stopped_calls : (old : StoreState) (now : DeviceState) (plan : Calls) → WorkFails old now plan → List DeviceCall
stopped_calls old now plan fails = failed_calls old.device.story now.story plan fails.planned fails.did

abbrev pub stopped_state : StoreState → DeviceState → StoreState
stopped_state old now = record old { device = now; stopped = Some now.faults }

pub fails-go_on : (o : Opening) (old : StoreState) (now : DeviceState) (plan : Calls) (m : Machine) → (fails : WorkFails old now plan) → Has old m → (t : Tells o old m)
    → GoesOn o old (stopped_state old now) m t m.disk (stopped_calls old now plan fails)
fails-go_on o old now plan m fails has t =
    let running : m.stopped ≡ None = sym has.stopped ∙ fails.going in
    let by : StoppedBy t.now now.story (ok_calls (clock_of t.now) plan) (stopped_calls old now plan fails) = failed-by old.device.story now.story plan fails.planned fails.did t.now t.told in
    let u : Story = after t.now by.calls in
    record {
      calls = by.calls;
      told = by.told;
      made_is = by.made_is;
      clock = fails.leaves.clock_told u by.told;
      kept = λ stopped. absurd (let none : ◌≡◌ {A = Option ℕ} (Some now.faults) None = stopped in cc);
      legible = fails.legible m.table m.disk t.now t.told t.legible u by.told;
      rows = t.rows;
      survives = table-survives o old m has t running u now.story (fails.leaves.any_moment m.table t.now t.told (t.kept running)) by.told;
    }

-- its device calls and one more at most are all that the clock counted
pub fails-time : (o : Opening) (old : StoreState) (now : DeviceState) (plan : Calls) (m : Machine) → (fails : WorkFails old now plan) → Has old m → (t : Tells o old m)
    → TakesTime true m.clock (stopped_calls old now plan fails) now.clock
fails-time o old now plan m fails has t =
    let by : StoppedBy t.now now.story (ok_calls (clock_of t.now) plan) (stopped_calls old now plan fails) = failed-by old.device.story now.story plan fails.planned fails.did t.now t.told in
    let at : old.device.clock ≡ m.clock = has.clock in
    let clock : now.clock ≡ clock_of (after t.now by.calls) = fails.leaves.clock_told (after t.now by.calls) by.told in
    let count : clock_of (after t.now by.calls) ≡ clock_of t.now + length by.calls = clock_of-after t.now by.calls in
    (omega (arith, at, t.clock, clock, count, by.least), omega (arith, at, t.clock, clock, count, by.most))

-- an event without a device call
pub stays-there : (o : Opening) (old new : StoreState) (m : Machine) → Has old m → (t : Tells o old m) → new.device ≡ old.device → new.log ≡ old.log → new.stopped ≡ old.stopped → new.lists.rows ≡ old.lists.rows
    → ((table : Table) (s : Story) → IsKept old.device.pages old.log table old.lists s → IsKept old.device.pages old.log table new.lists s)
    → ((table : Table) (disk : List (List PrimRow)) (s : Story) → IsLegible table disk old.lists s → IsLegible table disk new.lists s)
    → GoesOn o old new m t m.disk []
stays-there o old new m has t device log stopped rows kept legible = record {
  calls = [];
  told = ap (λ (d : DeviceState). d.story) device ∙ t.told;
  made_is = refl;
  clock = ap (λ (d : DeviceState). d.clock) device ∙ t.clock;
  kept = λ going. subst (λ (l : _). IsKept old.device.pages l m.table new.lists t.now) (sym log) (kept m.table t.now (t.kept (sym has.stopped ∙ sym stopped ∙ going)));
  legible = legible m.table m.disk t.now t.legible;
  rows = rows ∙ t.rows;
  survives = t.survives;
}
