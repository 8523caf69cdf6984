-- What the words of a run's refusals say: whether its device failed, and that no page was damaged where the device held a table.
use Rattle.std.proofs.Common.{◌≡◌, ◌⊎◌, inl, inr, ⊎_elim, ℕ, ◌≤◌, Bool, true, false, ◌||◌, if◌then◌else◌, List, [], ◌∷◌, Option, Some, None, Ok, Err, refl, sym, ◌∙◌, ap, subst, arith}
use Rattle.std.proofs.lemmas.Bool.Decides.{nat_tests}
use Rattle.dev_model.specs.Counts.{next_count, Rose}
use Rattle.store_machine.specs.Commands.{refusal_of, words_of, words}
use Rattle.store_machine.specs.Machine.{Machine, does, after_event, after_all}
use Rattle.store_machine.specs.Needs.{Needs, RefusesWrite, RefusesGet, RefusesRegion, RefusesFreeze, RefusesBegin, RefusesStep}
use Rattle.store_machine.specs.Runs.{is_fault, Stops, IsRun}
use Rattle.store_machine.specs.Laws.Stepping.{going-on}
use Rattle.store_machine.specs.declared.events.Action.{Action}
use Rattle.store_machine.specs.declared.events.Action.TheVariants as action
use Rattle.store_machine.specs.declared.events.Event.{Event}
use Rattle.store_machine.specs.declared.events.Refusal.{Refusal}
use Rattle.store_machine.specs.declared.events.Refusal.TheVariants.{Fault, Stopped, Full, Again, NoIndex, Damaged, OutOfMemory}
use Rattle.spatial_run.specs.Refused.{has_status}
use Rattle.spatial_run.proofs.Refusing.{has-append}

not-true : (b : Bool) → (b ≡ true → ⊥) → b ≡ false
not-true true never = absurd (never refl)
not-true false never = refl

or-none : (a b : Bool) → (a || b) ≡ false → (a ≡ false) × (b ≡ false)
or-none true b is = absurd (let no : true ≡ false = is in cc)
or-none false b is = (refl, is)

-- the words of the first event, and those of the others
has-first : (n : ℕ) (e : Event) (es : List Event) → has_status n (words (e ∷ es)) ≡ (has_status n (words_of (refusal_of e.action)) || has_status n (words es))
has-first n e es = has-append n (words_of (refusal_of e.action)) (words es)

-- a fact of each refusal but that of a failed device
by_refusal : (P : Refusal → Type 0) → P Fault → ((n : ℕ) → P (Stopped n)) → ((n l : ℕ) → P (Full n l)) → ((n : ℕ) → P (Again n)) → P NoIndex → ((n : ℕ) → P (Damaged n)) → P OutOfMemory → (r : Refusal) → P r
by_refusal P fault stopped full again no_index damaged memory Fault = fault
by_refusal P fault stopped full again no_index damaged memory (Stopped n) = stopped n
by_refusal P fault stopped full again no_index damaged memory (Full n l) = full n l
by_refusal P fault stopped full again no_index damaged memory (Again n) = again n
by_refusal P fault stopped full again no_index damaged memory NoIndex = no_index
by_refusal P fault stopped full again no_index damaged memory (Damaged n) = damaged n
by_refusal P fault stopped full again no_index damaged memory OutOfMemory = memory

-- a refusal whose word says that the device failed, or had failed
device-word : (r : Refusal) → has_status 5 (words_of (Some r)) ≡ true → (r ≡ Fault) ⊎ ((n : ℕ) × (r ≡ Stopped n))
device-word Fault is = inl refl
device-word (Stopped n) is = inr (n, refl)
device-word (Full n l) is = absurd (let no : false ≡ true = is in cc)
device-word (Again n) is = absurd (let no : false ≡ true = is in cc)
device-word NoIndex is = absurd (let no : false ≡ true = is in cc)
device-word (Damaged n) is = absurd (let no : false ≡ true = is in cc)
device-word OutOfMemory is = absurd (let no : false ≡ true = is in cc)

-- such an event failed, or stands where the machine was stopped
device-event : (known : Bool) (m : Machine) (a : Action) → Needs known m a → has_status 5 (words_of (refusal_of a)) ≡ true → (is_fault a ≡ true) ⊎ ((n : ℕ) × (m.stopped ≡ Some n))
device-event known m (action.Write op (Ok w)) needs is = absurd (let no : false ≡ true = is in cc)
device-event known m (action.Write op (Err r)) needs is =
    ⊎_elim (λ fault. inl (ap (λ (x : Refusal). is_fault (action.Write op (Err x))) fault)) (λ stopped. inr (stopped.0, subst (RefusesWrite known m) stopped.1 needs)) (device-word r is)
device-event known m (action.Get key (Ok given)) needs is = absurd (let no : false ≡ true = is in cc)
device-event known m (action.Get key (Err r)) needs is =
    ⊎_elim (λ fault. inl (ap (λ (x : Refusal). is_fault (action.Get key (Err x))) fault)) (λ stopped. absurd (subst (RefusesGet known) stopped.1 needs)) (device-word r is)
device-event known m (action.Count seq n) needs is = absurd (let no : false ≡ true = is in cc)
device-event known m (action.Look look) needs is = absurd (let no : false ≡ true = is in cc)
device-event known m (action.Region kind rect (Ok found)) needs is = absurd (let no : false ≡ true = is in cc)
device-event known m (action.Region kind rect (Err r)) needs is =
    ⊎_elim (λ fault. inl (ap (λ (x : Refusal). is_fault (action.Region kind rect (Err x))) fault)) (λ stopped. absurd (subst (RefusesRegion known m kind) stopped.1 needs)) (device-word r is)
device-event known m (action.Freeze least (Ok done)) needs is = absurd (let no : false ≡ true = is in cc)
device-event known m (action.Freeze least (Err r)) needs is =
    ⊎_elim (λ fault. inl (ap (λ (x : Refusal). is_fault (action.Freeze least (Err x))) fault)) (λ stopped. inr (stopped.0, subst (RefusesFreeze m least) stopped.1 needs)) (device-word r is)
device-event known m (action.Begin (Ok begun)) needs is = absurd (let no : false ≡ true = is in cc)
device-event known m (action.Begin (Err r)) needs is =
    ⊎_elim (λ fault. absurd (subst (RefusesBegin m) fault needs)) (λ stopped. inr (stopped.0, subst (RefusesBegin m) stopped.1 needs)) (device-word r is)
device-event known m (action.JobWrite row (Ok done)) needs is = absurd (let no : false ≡ true = is in cc)
device-event known m (action.JobWrite row (Err r)) needs is =
    ⊎_elim (λ fault. inl (ap (λ (x : Refusal). is_fault (action.JobWrite row (Err x))) fault)) (λ stopped. inr (stopped.0, subst (RefusesStep m) stopped.1 needs.1)) (device-word r is)
device-event known m (action.Install row (Ok done)) needs is = absurd (let no : false ≡ true = is in cc)
device-event known m (action.Install row (Err r)) needs is =
    ⊎_elim (λ fault. inl (ap (λ (x : Refusal). is_fault (action.Install row (Err x))) fault)) (λ stopped. inr (stopped.0, subst (RefusesStep m) stopped.1 needs.1)) (device-word r is)

-- in an event without such a word no write and no sync failed
not-failed : (a : Action) (failed : Bool) → Stops a failed → has_status 5 (words_of (refusal_of a)) ≡ false → failed ≡ false
not-failed (action.Write op (Ok w)) failed stops is = stops
not-failed (action.Write op (Err r)) failed stops is =
    by_refusal (λ x. Stops (action.Write op (Err x)) failed → has_status 5 (words_of (Some x)) ≡ false → failed ≡ false)
    (λ s no. absurd (let true_is : true ≡ false = no in cc)) (λ n s no. s) (λ n l s no. s) (λ n s no. s) (λ s no. s) (λ n s no. s) (λ s no. s) r stops is
not-failed (action.Get key answer) failed stops is = stops
not-failed (action.Count seq n) failed stops is = stops
not-failed (action.Look look) failed stops is = stops
not-failed (action.Region kind rect answer) failed stops is = stops
not-failed (action.Freeze least (Ok done)) failed stops is = stops
not-failed (action.Freeze least (Err r)) failed stops is =
    by_refusal (λ x. Stops (action.Freeze least (Err x)) failed → has_status 5 (words_of (Some x)) ≡ false → failed ≡ false)
    (λ s no. absurd (let true_is : true ≡ false = no in cc)) (λ n s no. s) (λ n l s no. s) (λ n s no. s) (λ s no. s) (λ n s no. s) (λ s no. s) r stops is
not-failed (action.Begin answer) failed stops is = stops
not-failed (action.JobWrite row (Ok done)) failed stops is = stops
not-failed (action.JobWrite row (Err r)) failed stops is =
    by_refusal (λ x. Stops (action.JobWrite row (Err x)) failed → has_status 5 (words_of (Some x)) ≡ false → failed ≡ false)
    (λ s no. absurd (let true_is : true ≡ false = no in cc)) (λ n s no. s) (λ n l s no. s) (λ n s no. s) (λ s no. s) (λ n s no. s) (λ s no. s) r stops is
not-failed (action.Install row (Ok done)) failed stops is = stops
not-failed (action.Install row (Err r)) failed stops is =
    by_refusal (λ x. Stops (action.Install row (Err x)) failed → has_status 5 (words_of (Some x)) ≡ false → failed ≡ false)
    (λ s no. absurd (let true_is : true ≡ false = no in cc)) (λ n s no. s) (λ n l s no. s) (λ n s no. s) (λ s no. s) (λ n s no. s) (λ s no. s) r stops is

-- it leaves a machine that goes on, or one that was stopped
stopped-same : (m : Machine) (e : Event) → e.write_failed ≡ false → (after_event m e).stopped ≡ m.stopped
stopped-same m e is = ap (λ (b : Bool). if b then Some e.faults_after else (does e.action m).stopped) is ∙ going-on e.action m

-- a run without such a word stops nothing
pub stays-going : (known : Bool) (m : Machine) (es : List Event) → IsRun known m es → m.stopped ≡ None → has_status 5 (words es) ≡ false → (after_all m es).stopped ≡ None
stays-going known m [] run going is = going
stays-going known m (e ∷ es) run going is =
    let parts : (has_status 5 (words_of (refusal_of e.action)) ≡ false) × (has_status 5 (words es) ≡ false) = or-none (has_status 5 (words_of (refusal_of e.action))) (has_status 5 (words es)) (sym (has-first 5 e es) ∙ is) in
    stays-going known (after_event m e) es run.1 (stopped-same m e (not-failed e.action e.write_failed run.0.stops parts.0) ∙ going) parts.1

-- the count of faults never falls
faults-grow : (known : Bool) (least : ℕ) (m : Machine) (es : List Event) → IsRun known m es → least ≤ m.faults → least ≤ (after_all m es).faults
faults-grow known least m [] run le = le
faults-grow known least m (e ∷ es) run le = faults-grow known least (after_event m e) es run.1 (omega (arith, le, run.0.later, run.0.faults))

rose-more : (a b c : ℕ) → a ≤ b → Rose b c → Rose a c
rose-more a b c le rose = grind (arith, nat_tests)

-- a run with such a word raised the count of faults
pub faults-rose : (known : Bool) (base : ℕ) (m : Machine) (es : List Event) → IsRun known m es → base ≤ m.faults → (m.stopped ≡ None) ⊎ Rose base m.faults → has_status 5 (words es) ≡ true → Rose base (after_all m es).faults
faults-rose known base m [] run le stop is = absurd (let no : false ≡ true = is in cc)
faults-rose known base m (e ∷ es) run le stop is = by_word (has_status 5 (words_of (refusal_of e.action))) refl (λ s rest. faults-rose known base (after_event m e) es run.1 (omega (arith, le, run.0.later, run.0.faults)) s rest)
  where
    rose-here : (is_fault e.action ≡ true) ⊎ ((n : ℕ) × (m.stopped ≡ Some n)) → Rose base e.faults_after
    rose-here (inl fault) = rose-more base e.faults_before e.faults_after (omega (arith, le, run.0.later)) (run.0.cause fault)
    rose-here (inr (n, at)) =
        ⊎_elim
        (λ none. absurd (let no : ◌≡◌ {A = Option ℕ} (Some n) None = sym at ∙ none in cc))
        (λ rose. let least : next_count base ≤ m.faults = rose in omega (arith, least, run.0.later, run.0.faults))
        stop

    goes-on : e.write_failed ≡ false → ((after_event m e).stopped ≡ None) ⊎ Rose base e.faults_after
    goes-on calm =
        ⊎_elim
        (λ none. inl (stopped-same m e calm ∙ none))
        (λ rose. let least : next_count base ≤ m.faults = rose in inr (omega (arith, least, run.0.later, run.0.faults)))
        stop

    by_word : (b : Bool) → has_status 5 (words_of (refusal_of e.action)) ≡ b
        → (((after_event m e).stopped ≡ None) ⊎ Rose base e.faults_after → has_status 5 (words es) ≡ true → Rose base (after_all (after_event m e) es).faults) → Rose base (after_all (after_event m e) es).faults
    by_word true word others = faults-grow known (next_count base) (after_event m e) es run.1 (rose-here (device-event known m e.action run.0.needs word))
    by_word false word others =
        others (goes-on (not-failed e.action e.write_failed run.0.stops word)) (ap (λ (b : Bool). b || has_status 5 (words es)) (sym word) ∙ sym (has-first 5 e es) ∙ is)

-- a refusal whose word says that a page was damaged
damaged-word : (r : Refusal) → has_status 6 (words_of (Some r)) ≡ true → (page : ℕ) × (r ≡ Damaged page)
damaged-word Fault is = absurd (let no : false ≡ true = is in cc)
damaged-word (Stopped n) is = absurd (let no : false ≡ true = is in cc)
damaged-word (Full n l) is = absurd (let no : false ≡ true = is in cc)
damaged-word (Again n) is = absurd (let no : false ≡ true = is in cc)
damaged-word NoIndex is = absurd (let no : false ≡ true = is in cc)
damaged-word (Damaged page) is = (page, refl)
damaged-word OutOfMemory is = absurd (let no : false ≡ true = is in cc)

-- no event has it where the device held a table
undamaged-event : (m : Machine) (a : Action) → Needs true m a → has_status 6 (words_of (refusal_of a)) ≡ true → ⊥
undamaged-event m (action.Write op (Ok w)) needs is = let no : false ≡ true = is in absurd cc
undamaged-event m (action.Write op (Err r)) needs is =
    let page : _ = damaged-word r is in
    let no : true ≡ false = (subst (RefusesWrite true m) page.1 needs).0 in
    absurd cc
undamaged-event m (action.Get key (Ok given)) needs is = let no : false ≡ true = is in absurd cc
undamaged-event m (action.Get key (Err r)) needs is =
    let page : _ = damaged-word r is in
    let no : true ≡ false = subst (RefusesGet true) page.1 needs in
    absurd cc
undamaged-event m (action.Count seq n) needs is = let no : false ≡ true = is in absurd cc
undamaged-event m (action.Look look) needs is = let no : false ≡ true = is in absurd cc
undamaged-event m (action.Region kind rect (Ok found)) needs is = let no : false ≡ true = is in absurd cc
undamaged-event m (action.Region kind rect (Err r)) needs is =
    let page : _ = damaged-word r is in
    let no : true ≡ false = (subst (RefusesRegion true m kind) page.1 needs).0 in
    absurd cc
undamaged-event m (action.Freeze least (Ok done)) needs is = let no : false ≡ true = is in absurd cc
undamaged-event m (action.Freeze least (Err r)) needs is = let page : _ = damaged-word r is in absurd (subst (RefusesFreeze m least) page.1 needs)
undamaged-event m (action.Begin (Ok begun)) needs is = let no : false ≡ true = is in absurd cc
undamaged-event m (action.Begin (Err r)) needs is = let page : _ = damaged-word r is in absurd (subst (RefusesBegin m) page.1 needs)
undamaged-event m (action.JobWrite row (Ok done)) needs is = let no : false ≡ true = is in absurd cc
undamaged-event m (action.JobWrite row (Err r)) needs is = let page : _ = damaged-word r is in absurd (subst (RefusesStep m) page.1 needs.1)
undamaged-event m (action.Install row (Ok done)) needs is = let no : false ≡ true = is in absurd cc
undamaged-event m (action.Install row (Err r)) needs is = let page : _ = damaged-word r is in absurd (subst (RefusesStep m) page.1 needs.1)

pub undamaged : (m : Machine) (es : List Event) → IsRun true m es → has_status 6 (words es) ≡ false
undamaged m [] run = refl
undamaged m (e ∷ es) run =
    has-first 6 e es
    ∙ ap (λ (b : Bool). b || has_status 6 (words es)) (not-true (has_status 6 (words_of (refusal_of e.action))) (undamaged-event m e.action run.0.needs))
    ∙ undamaged (after_event m e) es run.1
