-- The group that was being logged when the device failed is that of a write that was refused with `fault`.
use Rattle.std.proofs.Common.{◌≡◌, ◌⊎◌, inl, inr, ⊎_elim, Bool, true, false, if◌then◌else◌, List, [], ◌∷◌, ◌++◌, Option, Some, None, IfSome, Ok, Err, refl, sym, ◌∙◌, ap, subst}
use Rattle.std.proofs.lemmas.Option.{same_Some}
use Rattle.table_model.specs.Commands.{TableCommand, Command, on_table, flush, write, Outcome, answered, quiet, refused}
use Rattle.table_model.specs.declared.Why.TheVariants as why
use Rattle.wal_log.specs.declared.records.LogOp.{LogOp}
use Rattle.component_image.specs.Replayed.{write_of}
use Rattle.store_machine.specs.Commands.{is_upkeep, own, write_outcome, IsCall, Does, DoesAll, stopped_group}
use Rattle.store_machine.specs.Machine.{Machine, after_event, after_all, group_of}
use Rattle.store_machine.specs.Outcomes.{Group}
use Rattle.store_machine.specs.Runs.{Stops, IsRun}
use Rattle.store_machine.specs.Laws.Histories.{IsRun-first, IsRun-second}
use Rattle.store_machine.specs.declared.events.Action.{Action}
use Rattle.store_machine.specs.declared.events.Action.TheVariants as action
use Rattle.store_machine.specs.declared.events.Event.{Event}
use Rattle.store_machine.specs.declared.events.Refusal.TheVariants.{Fault, Stopped, Full, Again, NoIndex, Damaged, OutOfMemory}
use Rattle.spatial_run.specs.OnDevice.{IsFailedWrite, HasFailedWrite}

-- an event of the list logged the group when the device failed
abbrev FailsIn : List Event → Group → Type 0
FailsIn [] group = ⊥
FailsIn (e ∷ es) group = ((e.write_failed ≡ true) × (group_of e.action ≡ Some group)) ⊎ FailsIn es group

fails-split : (es fs : List Event) (group : Group) → FailsIn (es ++ fs) group → FailsIn es group ⊎ FailsIn fs group
fails-split [] fs group fails = inr fails
fails-split (e ∷ es) fs group (inl here) = inl (inl here)
fails-split (e ∷ es) fs group (inr later) = ⊎_elim (λ x. inl (inr x)) (λ x. inr x) (fails-split es fs group later)

stopped-in : (before : Option Group) (es : List Event) (group : Group) → stopped_group before es ≡ Some group → (before ≡ Some group) ⊎ FailsIn es group
stopped-in before [] group is = inl is
stopped-in before (e ∷ es) group is = by_test e.write_failed refl (stopped-in (if e.write_failed then group_of e.action else before) es group is)
  where
    by_test : (b : Bool) → e.write_failed ≡ b → ((if e.write_failed then group_of e.action else before) ≡ Some group) ⊎ FailsIn es group → (before ≡ Some group) ⊎ FailsIn (e ∷ es) group
    by_test true test (inl now) = inr (inl (test, ap (λ (b : Bool). if b then group_of e.action else before) (sym test) ∙ now))
    by_test false test (inl now) = inl (ap (λ (b : Bool). if b then group_of e.action else before) (sym test) ∙ now)
    by_test b test (inr later) = inr (inr later)

-- such an event is a write in which the device failed
record IsFailure (a : Action) (group : Group) : Type 0 where
  op : LogOp
  is : a ≡ action.Write op (Err Fault)
  group_is : group ≡ write_of op ∷ []

failure-of : (a : Action) (group : Group) → Stops a true → group_of a ≡ Some group → IsFailure a group
failure-of (action.Write op (Ok w)) group stops is = absurd (let no : true ≡ false = stops in cc)
failure-of (action.Write op (Err Fault)) group stops is = record { op = op; is = refl; group_is = sym (same_Some _ _ is) }
failure-of (action.Write op (Err (Stopped n))) group stops is = absurd (let no : true ≡ false = stops in cc)
failure-of (action.Write op (Err (Full n l))) group stops is = absurd (let no : true ≡ false = stops in cc)
failure-of (action.Write op (Err (Again n))) group stops is = absurd (let no : true ≡ false = stops in cc)
failure-of (action.Write op (Err NoIndex)) group stops is = absurd (let no : true ≡ false = stops in cc)
failure-of (action.Write op (Err (Damaged n))) group stops is = absurd (let no : true ≡ false = stops in cc)
failure-of (action.Write op (Err OutOfMemory)) group stops is = absurd (let no : true ≡ false = stops in cc)
failure-of (action.Get key answer) group stops is = absurd (let no : ◌≡◌ {A = Option Group} None (Some group) = is in cc)
failure-of (action.Count seq n) group stops is = absurd (let no : ◌≡◌ {A = Option Group} None (Some group) = is in cc)
failure-of (action.Look look) group stops is = absurd (let no : ◌≡◌ {A = Option Group} None (Some group) = is in cc)
failure-of (action.Region kind rect answer) group stops is = absurd (let no : ◌≡◌ {A = Option Group} None (Some group) = is in cc)
failure-of (action.Freeze least answer) group stops is = absurd (let no : ◌≡◌ {A = Option Group} None (Some group) = is in cc)
failure-of (action.Begin answer) group stops is = absurd (let no : ◌≡◌ {A = Option Group} None (Some group) = is in cc)
failure-of (action.JobWrite row answer) group stops is = absurd (let no : ◌≡◌ {A = Option Group} None (Some group) = is in cc)
failure-of (action.Install row answer) group stops is = absurd (let no : ◌≡◌ {A = Option Group} None (Some group) = is in cc)

-- it is among the own events of the list
abbrev OwnFails : List Event → Group → Type 0
OwnFails [] group = ⊥
OwnFails (e ∷ es) group = IsFailure e.action group ⊎ OwnFails es group

own-fails : (known : Bool) (m : Machine) (es : List Event) (group : Group) → IsRun known m es → FailsIn es group → OwnFails (own es) group
own-fails known m [] group run fails = absurd fails
own-fails known m (e ∷ es) group run (inl here) =
    let is : IsFailure e.action group = failure-of e.action group (subst (Stops e.action) here.0 run.0.stops) here.1 in
    let no_upkeep : is_upkeep e.action ≡ false = ap is_upkeep is.is in
    subst (λ (l : List Event). OwnFails l group) (ap (λ (b : Bool). if b then own es else e ∷ own es) (sym no_upkeep)) (inl is)
own-fails known m (e ∷ es) group run (inr later) = by_kind (is_upkeep e.action) refl (own-fails known (after_event m e) es group run.1 later)
  where
    by_kind : (b : Bool) → is_upkeep e.action ≡ b → OwnFails (own es) group → OwnFails (own (e ∷ es)) group
    by_kind true is rest = subst (λ (l : List Event). OwnFails l group) (ap (λ (b : Bool). if b then own es else e ∷ own es) (sym is)) rest
    by_kind false is rest = subst (λ (l : List Event). OwnFails l group) (ap (λ (b : Bool). if b then own es else e ∷ own es) (sym is)) (inr rest)

-- the command of such an event
failed-call : (c : TableCommand) (o : Outcome) (op : LogOp) → IsCall (action.Write op (Err Fault)) c o → IsFailedWrite (on_table c) o (write_of op ∷ [])
failed-call c o op (is, (answer, (word, named, said), became)) =
    subst (λ (x : TableCommand). IsFailedWrite (on_table x) o (write_of op ∷ [])) (sym is)
    (subst (λ (x : Outcome). IsFailedWrite (on_table (write (write_of op))) x (write_of op ∷ [])) (sym outcome_is) refl)
  where
    outcome_is : o ≡ refused why.Fault
    outcome_is = became ∙ ap (write_outcome op) said ∙ ap refused (sym (same_Some _ _ named))

failed-one : (known : Bool) (m : Machine) (c : Command) (o : Outcome) (es : List Event) (group : Group) → IsRun known m es → Does c o es → FailsIn es group → IsFailedWrite c o group
failed-one known m (on_table c) o es group run (inl one) fails =
    let own_one : OwnFails (one.event ∷ []) group = subst (λ (l : List Event). OwnFails l group) one.only (own-fails known m es group run fails) in
    ⊎_elim
    (λ is. subst (λ (g : Group). IsFailedWrite (on_table c) o g) (sym is.group_is) (failed-call c o is.op (subst (λ (a : Action). IsCall a c o) is.is one.call)))
    (λ no. absurd no)
    own_one
failed-one known m (on_table c) o es group run (inr upkeep) fails = absurd (subst (λ (l : List Event). OwnFails l group) upkeep.upkeep.none (own-fails known m es group run fails))
failed-one known m flush (answered seq reply) es group run impossible fails = absurd impossible
failed-one known m flush quiet es group run is fails = absurd (subst (λ (l : List Event). OwnFails l group) is.none (own-fails known m es group run fails))
failed-one known m flush (refused word) es group run is fails = absurd (subst (λ (l : List Event). OwnFails l group) is.none (own-fails known m es group run fails))

failed-all : (known : Bool) (m : Machine) (cs : List Command) (os : List Outcome) (es : List Event) (group : Group) → IsRun known m es → DoesAll cs os es → FailsIn es group → HasFailedWrite cs os group
failed-all known m [] [] es group run none fails = absurd (subst (λ (l : List Event). FailsIn l group) none fails)
failed-all known m [] (o ∷ os) es group run does_it fails = absurd does_it
failed-all known m (c ∷ cs) [] es group run does_it fails = absurd does_it
failed-all known m (c ∷ cs) (o ∷ os) es group run (its, rest, are, first, others) fails =
    let all : IsRun known m (its ++ rest) = subst (IsRun known m) are run in
    ⊎_elim
    (λ here. inl (failed-one known m c o its group (IsRun-first known m its rest all) first here))
    (λ later. inr (failed-all known (after_all m its) cs os rest group (IsRun-second known m its rest all) others later))
    (fails-split its rest group (subst (λ (l : List Event). FailsIn l group) are fails))

if-some : (P : Group → Type 0) (group : Option Group) → ((g : Group) → group ≡ Some g → P g) → IfSome group P
if-some P None each = tt
if-some P (Some g) each = each g refl

pub unfinished-failed : (known : Bool) (m : Machine) (cs : List Command) (os : List Outcome) (es : List Event) → IsRun known m es → DoesAll cs os es → IfSome (stopped_group None es) (HasFailedWrite cs os)
unfinished-failed known m cs os es run does_it =
    if-some (HasFailedWrite cs os) (stopped_group None es)
    (λ group is. ⊎_elim
    (λ none. absurd (let no : ◌≡◌ {A = Option Group} None (Some group) = none in cc))
    (failed-all known m cs os es group run does_it)
    (stopped-in None es group is))
