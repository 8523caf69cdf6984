-- What a run leaves since the call began: the pages of the device, what each crash leaves, and the table where nothing stopped it.
use Rattle.std.proofs.Common.{◌≡◌, inl, ⊎_elim, ℕ, ◌<◌, ◌≤◌, Bool, true, false, if◌then◌else◌, List, [], ◌∷◌, ◌++◌, take, Option, Some, None, is_some, Ok, Err, refl, sym, ◌∙◌, subst, arith}
use Rattle.std.proofs.lemmas.Bool.Decides.{nat_tests}
use Rattle.std.proofs.lemmas.Option.{same_Some}
use Rattle.dev_model.specs.Story.{Calls, Story, after, bytes_of, clock_of, IsImageNow}
use Rattle.dev_model.specs.Moments.{EachMoment, LeavesOnly, ReadsWithin}
use Rattle.dev_model.specs.Laws.Images.{IsImage-older}
use Rattle.dev_model.specs.Laws.Reads.{LeavesOnly-reads}
use Rattle.dev_model.specs.Laws.Runs.{before_or_since}
use Rattle.geo_base.specs.declared.points.Point.{Point}
use Rattle.table_model.specs.Table.{Table}
use Rattle.wal_log.specs.declared.log.Log.{Log}
use Rattle.wal_log.specs.declared.records.LogOp.TheVariants.{Put, Del}
use Rattle.component_image.specs.Recovered.{Recovers, IsOpeningRange}
use Rattle.component_image.specs.Resting.{Rests}
use Rattle.component_image.specs.Laws.Agreeing.{recovers-same}
use Rattle.store_machine.specs.Crash.{acked_by, Keeps}
use Rattle.store_machine.specs.Machine.{Machine, does, after_event, after_logged, after_all}
use Rattle.store_machine.specs.Outcomes.{Group, after_groups}
use Rattle.store_machine.specs.Runs.{Acknowledges, IsRun}
use Rattle.store_machine.specs.Devices.{HoldsTable}
use Rattle.store_machine.specs.Laws.Opening.{looked-calm}
use Rattle.store_machine.specs.declared.events.Action.{Action}
use Rattle.store_machine.specs.declared.events.Action.TheVariants as action
use Rattle.store_machine.specs.declared.events.Event.{Event}

-- no event changes how many pages the lists are for
same-space : (a : Action) (m : Machine) → (does a m).lists.space.pages ≡ m.lists.space.pages
same-space (action.Write (Put row) (Ok w)) m = refl
same-space (action.Write (Del key) (Ok w)) m = by_old w.old
  where
    by_old : (old : Option (Point × List ℕ)) → (if is_some old then after_logged (Del key) (is_some old) w.ack m else m).lists.space.pages ≡ m.lists.space.pages
    by_old None = refl
    by_old (Some place) = refl
same-space (action.Write op (Err refusal)) m = refl
same-space (action.Get key (Ok given)) m = refl
same-space (action.Get key (Err refusal)) m = refl
same-space (action.Count seq n) m = refl
same-space (action.Look look) m = refl
same-space (action.Region kind rect (Ok found)) m = refl
same-space (action.Region kind rect (Err refusal)) m = refl
same-space (action.Freeze least (Ok true)) m = refl
same-space (action.Freeze least (Ok false)) m = refl
same-space (action.Freeze least (Err refusal)) m = refl
same-space (action.Begin (Ok None)) m = refl
same-space (action.Begin (Ok (Some row))) m = refl
same-space (action.Begin (Err refusal)) m = refl
same-space (action.JobWrite row (Ok done)) m = refl
same-space (action.JobWrite row (Err refusal)) m = refl
same-space (action.Install row (Ok done)) m = refl
same-space (action.Install row (Err refusal)) m = refl

pub space-stays : (m : Machine) (es : List Event) → (after_all m es).lists.space.pages ≡ m.lists.space.pages
space-stays m [] = refl
space-stays m (e ∷ es) = space-stays (after_event m e) es ∙ same-space e.action m

-- the numbers of a list are at least this
abbrev pub AreFrom : ℕ → List ℕ → Type 0
AreFrom least [] = Unit {0}
AreFrom least (x ∷ xs) = (least ≤ x) × AreFrom least xs

AreFrom-push : (least x : ℕ) (xs : List ℕ) → AreFrom least xs → least ≤ x → AreFrom least (xs ++ x ∷ [])
AreFrom-push least x [] from le = (le, tt)
AreFrom-push least x (y ∷ xs) from le = (from.0, AreFrom-push least x xs from.1 le)

-- an ack has the clock behind it
acks-of : (least : ℕ) (m : Machine) (a : Action) (clock : ℕ) → least ≤ clock → Acknowledges a clock → AreFrom least m.acks → AreFrom least (does a m).acks
acks-of least m (action.Write (Put row) (Ok w)) clock le acked from = AreFrom-push least w.ack m.acks from (omega (arith, acked, le))
acks-of least m (action.Write (Del key) (Ok w)) clock le acked from = by_old w.old acked
  where
    by_old : (old : Option (Point × List ℕ)) → w.ack ≡ (if is_some old then clock else 0) → AreFrom least (if is_some old then after_logged (Del key) (is_some old) w.ack m else m).acks
    by_old None is = from
    by_old (Some place) is = AreFrom-push least w.ack m.acks from (omega (arith, is, le))
acks-of least m (action.Write op (Err refusal)) clock le acked from = from
acks-of least m (action.Get key (Ok given)) clock le acked from = from
acks-of least m (action.Get key (Err refusal)) clock le acked from = from
acks-of least m (action.Count seq n) clock le acked from = from
acks-of least m (action.Look look) clock le acked from = from
acks-of least m (action.Region kind rect (Ok found)) clock le acked from = from
acks-of least m (action.Region kind rect (Err refusal)) clock le acked from = from
acks-of least m (action.Freeze x (Ok true)) clock le acked from = from
acks-of least m (action.Freeze x (Ok false)) clock le acked from = from
acks-of least m (action.Freeze x (Err refusal)) clock le acked from = from
acks-of least m (action.Begin (Ok None)) clock le acked from = from
acks-of least m (action.Begin (Ok (Some row))) clock le acked from = from
acks-of least m (action.Begin (Err refusal)) clock le acked from = from
acks-of least m (action.JobWrite row (Ok done)) clock le acked from = from
acks-of least m (action.JobWrite row (Err refusal)) clock le acked from = from
acks-of least m (action.Install row (Ok done)) clock le acked from = from
acks-of least m (action.Install row (Err refusal)) clock le acked from = from

-- nothing is acknowledged before the run begins
pub acks-from : (known : Bool) (least : ℕ) (m : Machine) (es : List Event) → IsRun known m es → least ≤ m.clock → AreFrom least m.acks → AreFrom least (after_all m es).acks
acks-from known least m [] run le from = from
acks-from known least m (e ∷ es) run le from =
    acks-from known least (after_event m e) es run.1 (omega (arith, le, run.0.time)) (acks-of least m e.action e.clock_after (omega (arith, le, run.0.time)) run.0.acks from)

acked_by-none : (m least : ℕ) (acks : List ℕ) → AreFrom least acks → m < least → acked_by m acks ≡ 0
acked_by-none m least [] from lt = refl
acked_by-none m least (a ∷ acks) from lt =
    let rest : acked_by m acks ≡ 0 = acked_by-none m least acks from.1 lt in
    let first : least ≤ a = from.0 in
    grind (arith, nat_tests)

-- What each crash leaves since the call began: until the opening ended that was the table that was there.
pub since-call : (pages : ℕ) (table : Table) (groups : List Group) (acks : List ℕ) (s t : Story) (calls : Calls) → HoldsTable pages table s → ReadsWithin IsOpeningRange s (Some t) → AreFrom (clock_of t) acks
    → EachMoment (clock_of t) (after t calls) (Keeps pages table groups acks) → EachMoment (clock_of s) (after t calls) (Keeps pages table groups acks)
since-call pages table groups acks s t calls holds reads from each m le_from le_to image is =
    ⊎_elim
    (λ earlier.
    let now : IsImageNow s image = amid m le_from (omega (arith, earlier)) image (IsImage-older t calls m image earlier is) in
    let none : acked_by m acks ≡ 0 = acked_by-none m (clock_of t) acks from earlier in
    inl (subst (λ (n : ℕ). Recovers pages (after_groups table (take n groups)) image) (sym none)
    (recovers-same pages table (bytes_of s) image (λ i at. now i (holds.looked_calm i at)) (λ i at. now i (holds.content_calm i at)) holds.recovers)))
    (λ later. each m later le_to image is)
    (before_or_since m (clock_of t))
  where
    leaves : LeavesOnly s (Some t) (IsImageNow s)
    leaves = LeavesOnly-reads IsOpeningRange s (Some t) reads

    amid : EachMoment (clock_of s) t (λ _. IsImageNow s)
    amid = subst (λ (u : Story). EachMoment (clock_of s) u (λ _. IsImageNow s)) (sym (same_Some _ _ leaves.told)) leaves.each

-- a store at rest holds its table
pub rests-holds : (pages : ℕ) (log : Log) (table : Table) (s : Story) → Rests pages log table s → HoldsTable pages table s
rests-holds pages log table s rest = record { looked_calm = looked-calm pages log table s rest; content_calm = rest.content_calm; recovers = rest.recovers }
