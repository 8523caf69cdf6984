-- What a run of events is for a list of commands. No public contract needs these laws.
use Rattle.std.proofs.Common.{◌≡◌, inl, inr, ℕ, zero, suc, ◌+◌, ◌-◌, ◌^◌, ◌<◌, ◌≤◌, Bool, true, false, List, [], ◌∷◌, ◌++◌, map, length, refl, sym, ◌∙◌, ap, subst, arith, append_assoc, append-nil, Option, Some, None, is_some, Ok, Err, if◌then◌else◌}
use Rattle.std.proofs.lemmas.Bool.Decides.{nat_tests}
use Rattle.std.proofs.lemmas.Option.{same_Some}
use Rattle.std.specs.Option.{option_map, option_to_list}
use Rattle.std.specs.FinMap as finite
use Rattle.dev_model.specs.Counts.{next_count}
use Rattle.geo_base.specs.Corners.{Corners}
use Rattle.geo_base.specs.declared.points.IndexKind.{IndexKind}
use Rattle.geo_base.specs.declared.points.Point.{Point}
use Rattle.table_model.specs.Table.{Table, Place, place_of, row_at}
use Rattle.table_model.specs.Commands.{Write, put, del, TableCommand, write, get, count, region, Command, on_table, flush, wrote, got, counted, rows, Outcome, answered, quiet, refused}
use Rattle.table_model.specs.Answers.{put_reply, del_reply, table_after, reply_to, replay, replies}
use Rattle.table_model.specs.Refusals.{MayRefuse}
use Rattle.table_model.specs.Record.{HistoryAnswer, lane_answers, seqs, Rises, IsFor, OneEach}
use Rattle.table_model.specs.declared.Why.{Why}
use Rattle.table_model.specs.declared.Why.TheVariants as why
use Rattle.wal_log.specs.declared.records.LogOp.{LogOp}
use Rattle.wal_log.specs.declared.records.LogOp.TheVariants.{Put, Del}
use Rattle.component_image.specs.Replayed.{write_of}
use Rattle.store_machine.specs.Outcomes.{Group, logged_by, logged_groups}
use Rattle.store_machine.specs.Machine.{Machine, does, after_logged, after_event, after_all, group_of}
use Rattle.store_machine.specs.Needs.{Needs, NeedsWrite, RefusesStep, place_in}
use Rattle.store_machine.specs.Runs.{IsRun}
use Rattle.store_machine.specs.Commands.{is_upkeep, own, word_of, refusal_of, words_of, words, IsRefusedFlush, wrote_reply, write_outcome, get_outcome, region_outcome, IsCall, Does, DoesAll, stopped_group}
use Rattle.store_machine.specs.Laws.Steps.{after_all-append, does-leaves}
use Rattle.store_machine.specs.declared.events.Wrote.{Wrote}
use Rattle.store_machine.specs.declared.events.Refusal.{Refusal}
use Rattle.store_machine.specs.declared.events.Refusal.TheVariants.{Fault, Stopped, Full, Again, NoIndex, Damaged, OutOfMemory}
use Rattle.store_machine.specs.declared.events.Action.{Action}
use Rattle.store_machine.specs.declared.events.Action.TheVariants as action
use Rattle.store_machine.specs.declared.events.Event.{Event}

-- a run of two lists is a run of each
pub IsRun-first : (known : Bool) (m : Machine) (es fs : List Event) → IsRun known m (es ++ fs) → IsRun known m es
IsRun-first known m [] fs run = tt
IsRun-first known m (e ∷ es) fs run = (run.0, IsRun-first known (after_event m e) es fs run.1)

pub IsRun-second : (known : Bool) (m : Machine) (es fs : List Event) → IsRun known m (es ++ fs) → IsRun known (after_all m es) fs
IsRun-second known m [] fs run = run
IsRun-second known m (e ∷ es) fs run = IsRun-second known (after_event m e) es fs run.1

-- the table, the number of the next answer and what was logged are as before
pub record IsSame (m n : Machine) : Type 0 where
  pub table : n.table ≡ m.table
  pub seq : n.seq ≡ m.seq
  pub logged : n.logged ≡ m.logged

same-then : (a b c : Machine) → IsSame a b → IsSame b c → IsSame a c
same-then a b c one other = record { table = other.table ∙ one.table; seq = other.seq ∙ one.seq; logged = other.logged ∙ one.logged }

-- upkeep leaves them
upkeep-leaves : (m : Machine) (a : Action) → is_upkeep a ≡ true → IsSame m (does a m)
upkeep-leaves m (action.Write op (Ok answer)) is = absurd (let no : false ≡ true = is in cc)
upkeep-leaves m (action.Write op (Err refusal)) is = record { table = refl; seq = refl; logged = refl }
upkeep-leaves m (action.Get key answer) is = absurd (let no : false ≡ true = is in cc)
upkeep-leaves m (action.Count seq n) is = absurd (let no : false ≡ true = is in cc)
upkeep-leaves m (action.Look look) is = record { table = refl; seq = refl; logged = refl }
upkeep-leaves m (action.Region kind rect answer) is = absurd (let no : false ≡ true = is in cc)
upkeep-leaves m (action.Freeze least (Ok true)) is = record { table = refl; seq = refl; logged = refl }
upkeep-leaves m (action.Freeze least (Ok false)) is = record { table = refl; seq = refl; logged = refl }
upkeep-leaves m (action.Freeze least (Err refusal)) is = record { table = refl; seq = refl; logged = refl }
upkeep-leaves m (action.Begin (Ok None)) is = record { table = refl; seq = refl; logged = refl }
upkeep-leaves m (action.Begin (Ok (Some own))) is = record { table = refl; seq = refl; logged = refl }
upkeep-leaves m (action.Begin (Err refusal)) is = record { table = refl; seq = refl; logged = refl }
upkeep-leaves m (action.JobWrite own (Ok done)) is = record { table = refl; seq = refl; logged = refl }
upkeep-leaves m (action.JobWrite own (Err refusal)) is = record { table = refl; seq = refl; logged = refl }
upkeep-leaves m (action.Install own (Ok done)) is = record { table = refl; seq = refl; logged = refl }
upkeep-leaves m (action.Install own (Err refusal)) is = record { table = refl; seq = refl; logged = refl }

-- the own events of a list with one in front
own-upkeep : (e : Event) (es : List Event) → is_upkeep e.action ≡ true → own (e ∷ es) ≡ own es
own-upkeep e es is = ap (λ (b : Bool). if b then own es else e ∷ own es) is

own-one : (e : Event) (es : List Event) → is_upkeep e.action ≡ false → own (e ∷ es) ≡ e ∷ own es
own-one e es is = ap (λ (b : Bool). if b then own es else e ∷ own es) is

pub own-append : (es fs : List Event) → own (es ++ fs) ≡ own es ++ own fs
own-append [] fs = refl
own-append (e ∷ es) fs = by_kind (is_upkeep e.action) refl (own-append es fs)
  where
    by_kind : (b : Bool) → is_upkeep e.action ≡ b → own (es ++ fs) ≡ own es ++ own fs → own (e ∷ (es ++ fs)) ≡ own (e ∷ es) ++ own fs
    by_kind true is rest = own-upkeep e (es ++ fs) is ∙ rest ∙ ap (λ (l : List Event). l ++ own fs) (sym (own-upkeep e es is))
    by_kind false is rest = own-one e (es ++ fs) is ∙ ap (λ (l : List Event). e ∷ l) rest ∙ ap (λ (l : List Event). l ++ own fs) (sym (own-one e es is))

pub words-append : (es fs : List Event) → words (es ++ fs) ≡ words es ++ words fs
words-append [] fs = refl
words-append (e ∷ es) fs = ap (λ (l : List Why). words_of (refusal_of e.action) ++ l) (words-append es fs) ∙ sym (append_assoc (words_of (refusal_of e.action)) (words es) (words fs))

-- events that are all upkeep leave them
pub all-leave : (m : Machine) (es : List Event) → own es ≡ [] → IsSame m (after_all m es)
all-leave m [] none = record { table = refl; seq = refl; logged = refl }
all-leave m (e ∷ es) none = by_kind (is_upkeep e.action) refl (λ rest. all-leave (after_event m e) es rest)
  where
    by_kind : (b : Bool) → is_upkeep e.action ≡ b → (own es ≡ [] → IsSame (after_event m e) (after_all (after_event m e) es)) → IsSame m (after_all m (e ∷ es))
    by_kind true is others =
        let first : IsSame m (does e.action m) = upkeep-leaves m e.action is in
        let here : IsSame m (after_event m e) = record { table = first.table; seq = first.seq; logged = first.logged } in
        same-then m (after_event m e) (after_all (after_event m e) es) here (others (sym (own-upkeep e es is) ∙ none))
    by_kind false is others = absurd (let no : e ∷ own es ≡ [] = sym (own-one e es is) ∙ none in cc)

-- an event among upkeep is upkeep
one-upkeep : (before : List Event) (e : Event) (behind : List Event) → own (before ++ e ∷ behind) ≡ [] → is_upkeep e.action ≡ true
one-upkeep [] e behind none = by_kind (is_upkeep e.action) refl
  where
    by_kind : (b : Bool) → is_upkeep e.action ≡ b → is_upkeep e.action ≡ true
    by_kind true is = is
    by_kind false is = absurd (let no : e ∷ own behind ≡ [] = sym (own-one e behind is) ∙ none in cc)
one-upkeep (f ∷ before) e behind none = by_kind (is_upkeep f.action) refl (λ rest. one-upkeep before e behind rest)
  where
    by_kind : (b : Bool) → is_upkeep f.action ≡ b → (own (before ++ e ∷ behind) ≡ [] → is_upkeep e.action ≡ true) → is_upkeep e.action ≡ true
    by_kind true is others = others (sym (own-upkeep f (before ++ e ∷ behind) is) ∙ none)
    by_kind false is others = absurd (let no : f ∷ own (before ++ e ∷ behind) ≡ [] = sym (own-one f (before ++ e ∷ behind) is) ∙ none in cc)

-- the only event that isn't upkeep: where it stands, and what is there after all
record IsOnly (known : Bool) (m end : Machine) (e : Event) : Type 0 where
  at : Machine
  before : IsSame m at
  needs : Needs known at e.action
  behind : IsSame (does e.action at) end

only-one : (known : Bool) (m : Machine) (es : List Event) (e : Event) → IsRun known m es → own es ≡ e ∷ [] → IsOnly known m (after_all m es) e
only-one known m [] e run only = absurd (let no : [] ≡ e ∷ [] = only in cc)
only-one known m (f ∷ es) e run only = by_kind (is_upkeep f.action) refl (λ rest. only-one known (after_event m f) es e run.1 rest)
  where
    by_kind : (b : Bool) → is_upkeep f.action ≡ b → (own es ≡ e ∷ [] → IsOnly known (after_event m f) (after_all (after_event m f) es) e) → IsOnly known m (after_all m (f ∷ es)) e
    by_kind true is others =
        let first : IsSame m (does f.action m) = upkeep-leaves m f.action is in
        let step : IsSame m (after_event m f) = record { table = first.table; seq = first.seq; logged = first.logged } in
        let rest : IsOnly known (after_event m f) (after_all (after_event m f) es) e = others (sym (own-upkeep f es is) ∙ only) in
        record { at = rest.at; before = same-then m (after_event m f) rest.at step rest.before; needs = rest.needs; behind = rest.behind }
    by_kind false is others =
        let all : f ∷ own es ≡ e ∷ [] = sym (own-one f es is) ∙ only in
        let one : f ≡ e = cc in
        let none : own es ≡ [] = cc in
        let rest : IsSame (after_event m f) (after_all (after_event m f) es) = all-leave (after_event m f) es none in
        let behind : IsSame (does f.action m) (after_all m (f ∷ es)) = record { table = rest.table; seq = rest.seq; logged = rest.logged } in
        subst (λ (g : Event). IsOnly known m (after_all m (f ∷ es)) g) one
        (record { at = m; before = record { table = refl; seq = refl; logged = refl }; needs = run.0.needs; behind = behind })

-- a command was answered as the table answers it, or refused, or nothing is told of it
abbrev WasDone : Bool → Machine → Machine → Command → Outcome → Type 0
WasDone known m n (on_table c) (answered seq reply) = (seq ≡ m.seq) × (n.seq ≡ next_count m.seq) × (known ≡ true → reply ≡ reply_to m.table c) × (n.table ≡ table_after m.table c)
WasDone known m n flush (answered seq reply) = ⊥
WasDone known m n c quiet = IsFor c quiet × (n.seq ≡ m.seq) × (n.table ≡ m.table)
WasDone known m n c (refused word) = MayRefuse c word × (n.seq ≡ m.seq) × (n.table ≡ m.table)

record Done (known : Bool) (m n : Machine) (c : Command) (o : Outcome) : Type 0 where
  was : WasDone known m n c o
  logged : n.logged ≡ m.logged ++ logged_by c o

-- the writes: what is logged, and the number, by what stood at the key
del_logs : (m : Machine) (key seq ack : ℕ) (old : Option (Point × List ℕ))
    → (if is_some old then after_logged (Del key) (is_some old) ack m else m).logged ≡ m.logged ++ logged_by (on_table (write (del key))) (answered seq (wrote (del_reply (option_map place_in old))))
del_logs m key seq ack None = sym (append-nil m.logged)
del_logs m key seq ack (Some place) = refl

del_draws : (m : Machine) (key ack : ℕ) (old : Option (Point × List ℕ)) → (if is_some old then after_logged (Del key) (is_some old) ack m else m).seq ≡ m.seq
del_draws m key ack None = refl
del_draws m key ack (Some place) = refl

wrote_one : (known : Bool) (m : Machine) (op : LogOp) (w : Wrote) → NeedsWrite known m op w
    → Done known m (does (action.Write op (Ok w)) m) (on_table (write (write_of op))) (answered w.seq (wrote (wrote_reply op w.old)))
wrote_one known m (Put row) w needs = record {
  was = (needs.seq, refl, λ is. ap (λ (o : Option Place). wrote (put_reply o)) (needs.old is), refl);
  logged = refl;
}
wrote_one known m (Del key) w needs = record {
  was = (needs.seq, ap next_count (del_draws m key w.ack w.old), λ is. ap (λ (o : Option Place). wrote (del_reply o)) (needs.old is), refl);
  logged = del_logs m key w.seq w.ack w.old;
}

not_logged : (c : Command) (word : Why) → logged_by c (refused word) ≡ []
not_logged (on_table (write (put row))) word = refl
not_logged (on_table (write (del key))) word = refl
not_logged (on_table (get key)) word = refl
not_logged (on_table count) word = refl
not_logged (on_table (region kind r)) word = refl
not_logged flush word = refl

-- a command that was refused, and changed nothing
nothing-done : (known : Bool) (m : Machine) (c : Command) (word : Why) → MayRefuse c word → Done known m m c (refused word)
nothing-done known m (on_table c) word may = record { was = (may, refl, refl); logged = sym (append-nil m.logged) ∙ ap (λ (g : List Group). m.logged ++ g) (sym (not_logged (on_table c) word)) }
nothing-done known m flush word may = record { was = (may, refl, refl); logged = sym (append-nil m.logged) ∙ ap (λ (g : List Group). m.logged ++ g) (sym (not_logged flush word)) }

-- the word of a refusal fits a command that the refusal fits
word_fits : (c : Command) (one word : Why) → MayRefuse c one → Some one ≡ Some word → MayRefuse c word
word_fits c one word may is = subst (MayRefuse c) (same_Some _ _ is) may

no_word : (c : Command) (word : Why) → ◌≡◌ {A = Option Why} None (Some word) → MayRefuse c word
no_word c word is = absurd (let no : ◌≡◌ {A = Option Why} None (Some word) = is in cc)

refused_write : (known : Bool) (m : Machine) (op : LogOp) (refusal : Refusal) (word : Why) → Needs known m (action.Write op (Err refusal)) → word_of refusal ≡ Some word → MayRefuse (on_table (write (write_of op))) word
refused_write known m op Fault word needs is = word_fits (on_table (write (write_of op))) why.Fault word (0, omega arith, refl) is
refused_write known m op (Stopped faults) word needs is = word_fits (on_table (write (write_of op))) why.Stopped word (1, omega arith, refl) is
refused_write known m op (Full need longest) word needs is = word_fits (on_table (write (write_of op))) why.Full word (2, omega arith, refl) is
refused_write known m op (Again ops) word needs is = no_word (on_table (write (write_of op))) word is
refused_write known m op NoIndex word needs is = absurd needs
refused_write known m op (Damaged page) word needs is = word_fits (on_table (write (write_of op))) why.Damaged word (3, omega arith, refl) is
refused_write known m op OutOfMemory word needs is = word_fits (on_table (write (write_of op))) why.Memory word (4, omega arith, refl) is

refused_get : (known : Bool) (m : Machine) (key : ℕ) (refusal : Refusal) (word : Why) → Needs known m (action.Get key (Err refusal)) → word_of refusal ≡ Some word → MayRefuse (on_table (get key)) word
refused_get known m key Fault word needs is = word_fits (on_table (get key)) why.Fault word (0, omega arith, refl) is
refused_get known m key (Stopped faults) word needs is = absurd needs
refused_get known m key (Full need longest) word needs is = absurd needs
refused_get known m key (Again ops) word needs is = absurd needs
refused_get known m key NoIndex word needs is = absurd needs
refused_get known m key (Damaged page) word needs is = word_fits (on_table (get key)) why.Damaged word (1, omega arith, refl) is
refused_get known m key OutOfMemory word needs is = absurd needs

refused_region : (known : Bool) (m : Machine) (kind : IndexKind) (rect : Corners) (refusal : Refusal) (word : Why) → Needs known m (action.Region kind rect (Err refusal)) → word_of refusal ≡ Some word → MayRefuse (on_table (region kind rect)) word
refused_region known m kind rect Fault word needs is = word_fits (on_table (region kind rect)) why.Fault word (0, omega arith, refl) is
refused_region known m kind rect (Stopped faults) word needs is = absurd needs
refused_region known m kind rect (Full need longest) word needs is = absurd needs
refused_region known m kind rect (Again ops) word needs is = absurd needs
refused_region known m kind rect NoIndex word needs is = word_fits (on_table (region kind rect)) why.NoIndex word (1, omega arith, refl) is
refused_region known m kind rect (Damaged page) word needs is = word_fits (on_table (region kind rect)) why.Damaged word (2, omega arith, refl) is
refused_region known m kind rect OutOfMemory word needs is = word_fits (on_table (region kind rect)) why.Memory word (3, omega arith, refl) is

-- the refusals of upkeep, as those of a flush
refused_freeze : (known : Bool) (m : Machine) (least : ℕ) (refusal : Refusal) (word : Why) → Needs known m (action.Freeze least (Err refusal)) → word_of refusal ≡ Some word → MayRefuse flush word
refused_freeze known m least Fault word needs is = word_fits flush why.Fault word (0, omega arith, refl) is
refused_freeze known m least (Stopped faults) word needs is = word_fits flush why.Stopped word (1, omega arith, refl) is
refused_freeze known m least (Full need longest) word needs is = absurd needs
refused_freeze known m least (Again ops) word needs is = absurd needs
refused_freeze known m least NoIndex word needs is = absurd needs
refused_freeze known m least (Damaged page) word needs is = absurd needs
refused_freeze known m least OutOfMemory word needs is = absurd needs

refused_begin : (known : Bool) (m : Machine) (refusal : Refusal) (word : Why) → Needs known m (action.Begin (Err refusal)) → word_of refusal ≡ Some word → MayRefuse flush word
refused_begin known m Fault word needs is = absurd needs
refused_begin known m (Stopped faults) word needs is = word_fits flush why.Stopped word (1, omega arith, refl) is
refused_begin known m (Full need longest) word needs is = word_fits flush why.Full word (2, omega arith, refl) is
refused_begin known m (Again ops) word needs is = no_word flush word is
refused_begin known m NoIndex word needs is = absurd needs
refused_begin known m (Damaged page) word needs is = absurd needs
refused_begin known m OutOfMemory word needs is = word_fits flush why.Memory word (3, omega arith, refl) is

refused_step : (m : Machine) (refusal : Refusal) (word : Why) → RefusesStep m refusal → word_of refusal ≡ Some word → MayRefuse flush word
refused_step m Fault word needs is = word_fits flush why.Fault word (0, omega arith, refl) is
refused_step m (Stopped faults) word needs is = word_fits flush why.Stopped word (1, omega arith, refl) is
refused_step m (Full need longest) word needs is = absurd needs
refused_step m (Again ops) word needs is = absurd needs
refused_step m NoIndex word needs is = absurd needs
refused_step m (Damaged page) word needs is = absurd needs
refused_step m OutOfMemory word needs is = absurd needs

-- nothing was refused
unrefused : (c : Command) (word : Why) (refusal : Refusal) → ◌≡◌ {A = Option Refusal} None (Some refusal) → MayRefuse c word
unrefused c word refusal is = absurd (let no : ◌≡◌ {A = Option Refusal} None (Some refusal) = is in cc)

refused_upkeep : (known : Bool) (m : Machine) (a : Action) (refusal : Refusal) (word : Why) → Needs known m a → is_upkeep a ≡ true → refusal_of a ≡ Some refusal → word_of refusal ≡ Some word → MayRefuse flush word
refused_upkeep known m (action.Write op (Ok answer)) refusal word needs upkeep is named = unrefused flush word refusal is
refused_upkeep known m (action.Write op (Err given)) refusal word needs upkeep is named = by_refusal given upkeep (ap word_of (same_Some _ _ is) ∙ named)
  where
    by_refusal : (given : Refusal) → is_upkeep (action.Write op (Err given)) ≡ true → word_of given ≡ Some word → MayRefuse flush word
    by_refusal Fault upkeep named = absurd (let no : false ≡ true = upkeep in cc)
    by_refusal (Stopped faults) upkeep named = absurd (let no : false ≡ true = upkeep in cc)
    by_refusal (Full need longest) upkeep named = absurd (let no : false ≡ true = upkeep in cc)
    by_refusal (Again ops) upkeep named = no_word flush word named
    by_refusal NoIndex upkeep named = absurd (let no : false ≡ true = upkeep in cc)
    by_refusal (Damaged page) upkeep named = absurd (let no : false ≡ true = upkeep in cc)
    by_refusal OutOfMemory upkeep named = absurd (let no : false ≡ true = upkeep in cc)
refused_upkeep known m (action.Get key answer) refusal word needs upkeep is named = absurd (let no : false ≡ true = upkeep in cc)
refused_upkeep known m (action.Count seq n) refusal word needs upkeep is named = absurd (let no : false ≡ true = upkeep in cc)
refused_upkeep known m (action.Look look) refusal word needs upkeep is named = unrefused flush word refusal is
refused_upkeep known m (action.Region kind rect answer) refusal word needs upkeep is named = absurd (let no : false ≡ true = upkeep in cc)
refused_upkeep known m (action.Freeze least (Ok done)) refusal word needs upkeep is named = unrefused flush word refusal is
refused_upkeep known m (action.Freeze least (Err given)) refusal word needs upkeep is named = refused_freeze known m least given word needs (ap word_of (same_Some _ _ is) ∙ named)
refused_upkeep known m (action.Begin (Ok begun)) refusal word needs upkeep is named = unrefused flush word refusal is
refused_upkeep known m (action.Begin (Err given)) refusal word needs upkeep is named = refused_begin known m given word needs (ap word_of (same_Some _ _ is) ∙ named)
refused_upkeep known m (action.JobWrite own (Ok done)) refusal word needs upkeep is named = unrefused flush word refusal is
refused_upkeep known m (action.JobWrite own (Err given)) refusal word needs upkeep is named = refused_step m given word needs.1 (ap word_of (same_Some _ _ is) ∙ named)
refused_upkeep known m (action.Install own (Ok done)) refusal word needs upkeep is named = unrefused flush word refusal is
refused_upkeep known m (action.Install own (Err given)) refusal word needs upkeep is named = refused_step m given word needs.1 (ap word_of (same_Some _ _ is) ∙ named)

-- what a flush may be refused for, a write may
write_may : (w : Write) (word : Why) → MayRefuse flush word → MayRefuse (on_table (write w)) word
write_may w word (zero, below, is) = (0, omega arith, is)
write_may w word (suc zero, below, is) = (1, omega arith, is)
write_may w word (suc (suc zero), below, is) = (2, omega arith, is)
write_may w word (suc (suc (suc zero)), below, is) = (4, omega arith, is)
write_may w word (suc (suc (suc (suc k))), below, is) = absurd (omega (arith, below))

-- one word is that of the refusal that was answered
record IsWordOf (found : Option Refusal) (word : Why) : Type 0 where
  refusal : Refusal
  is : found ≡ Some refusal
  word_is : word_of refusal ≡ Some word

word_from : (found : Option Refusal) (word : Why) → words_of found ≡ word ∷ [] → IsWordOf found word
word_from None word one = absurd (let no : ◌≡◌ {A = List Why} [] (word ∷ []) = one in cc)
word_from (Some refusal) word one = record { refusal = refusal; is = refl; word_is = by_word (word_of refusal) one }
  where
    by_word : (given : Option Why) → option_to_list given ≡ word ∷ [] → given ≡ Some word
    by_word None one = absurd (let no : ◌≡◌ {A = List Why} [] (word ∷ []) = one in cc)
    by_word (Some given) one = ap (λ (w : Why). Some w) (let same : given ≡ word = cc in same)

-- the refusal of the last event, of upkeep alone
last_may : (known : Bool) (m : Machine) (before : List Event) (last : Event) (word : Why) → IsRun known m (before ++ last ∷ []) → own (before ++ last ∷ []) ≡ [] → words_of (refusal_of last.action) ≡ word ∷ [] → MayRefuse flush word
last_may known m before last word run none refused_is =
    let rest : IsRun known (after_all m before) (last ∷ []) = IsRun-second known m before (last ∷ []) run in
    let refused : IsWordOf (refusal_of last.action) word = word_from (refusal_of last.action) word refused_is in
    refused_upkeep known (after_all m before) last.action refused.refusal word rest.0.needs (one-upkeep before last [] none) refused.is refused.word_is

refused_flush : (known : Bool) (m : Machine) (word : Why) (es : List Event) → IsRun known m es → IsRefusedFlush word es → MayRefuse flush word
refused_flush known m word es run is = last_may known m is.before is.last word (subst (IsRun known m) is.are run) (ap own (sym is.are) ∙ is.none) is.refused_is

-- the own event of a command
refused_one : (known : Bool) (m : Machine) (c : TableCommand) (o : Outcome) (word : Why) → o ≡ refused word → MayRefuse (on_table c) word → Done known m m (on_table c) o
refused_one known m c o word is may = subst (λ (x : Outcome). Done known m m (on_table c) x) (sym is) (nothing-done known m (on_table c) word may)

by_event : (known : Bool) (m : Machine) (a : Action) (c : TableCommand) (o : Outcome) → Needs known m a → IsCall a c o → Done known m (does a m) (on_table c) o
by_event known m (action.Write op (Ok w)) c o needs (named, (answer, said, outcome)) =
    let told : o ≡ answered w.seq (wrote (wrote_reply op w.old)) = outcome ∙ ap (write_outcome op) said in
    subst (λ (x : TableCommand). Done known m (does (action.Write op (Ok w)) m) (on_table x) o) (sym named)
    (subst (λ (x : Outcome). Done known m (does (action.Write op (Ok w)) m) (on_table (write (write_of op))) x) (sym told) (wrote_one known m op w needs))
by_event known m (action.Write op (Err refusal)) c o needs (named, (answer, said, outcome)) =
    subst (λ (x : TableCommand). Done known m m (on_table x) o) (sym named)
    (refused_one known m (write (write_of op)) o said.0 (outcome ∙ ap (write_outcome op) said.2) (refused_write known m op refusal said.0 needs said.1))
by_event known m (action.Get key (Ok given)) c o needs (named, (answer, said, outcome)) =
    let told : o ≡ answered given.seq (got (option_map place_of given.row)) = outcome ∙ ap get_outcome said in
    subst (λ (x : TableCommand). Done known m (does (action.Get key (Ok given)) m) (on_table x) o) (sym named)
    (subst (λ (x : Outcome). Done known m (does (action.Get key (Ok given)) m) (on_table (get key)) x) (sym told)
    (record { was = (needs.seq, refl, λ is. ap (λ (p : Option Place). got p) (ap (option_map place_of) (needs.row is) ∙ placed key (finite.get m.table key)), refl); logged = sym (append-nil m.logged) }))
  where
    placed : (key : ℕ) (found : Option Place) → option_map place_of (option_map (λ (place : Place). row_at (key, place)) found) ≡ found
    placed key None = refl
    placed key (Some place) = refl
by_event known m (action.Get key (Err refusal)) c o needs (named, (answer, said, outcome)) =
    subst (λ (x : TableCommand). Done known m m (on_table x) o) (sym named)
    (refused_one known m (get key) o said.0 (outcome ∙ ap get_outcome said.2) (refused_get known m key refusal said.0 needs said.1))
by_event known m (action.Count seq n) c o needs (named, outcome) =
    subst (λ (x : TableCommand). Done known m (does (action.Count seq n) m) (on_table x) o) (sym named)
    (subst (λ (x : Outcome). Done known m (does (action.Count seq n) m) (on_table count) x) (sym outcome)
    (record { was = (needs.0, refl, λ is. ap (λ (k : ℕ). counted k) (needs.2 is), refl); logged = sym (append-nil m.logged) }))
by_event known m (action.Look look) c o needs call = absurd call
by_event known m (action.Region kind rect (Ok found)) c o needs (named, (answer, said, outcome)) =
    let told : o ≡ answered found.seq (rows found.rows) = outcome ∙ ap region_outcome said in
    subst (λ (x : TableCommand). Done known m (does (action.Region kind rect (Ok found)) m) (on_table x) o) (sym named)
    (subst (λ (x : Outcome). Done known m (does (action.Region kind rect (Ok found)) m) (on_table (region kind rect)) x) (sym told)
    (record { was = (needs.seq, refl, λ is. ap (λ rs. rows rs) (needs.rows is), refl); logged = sym (append-nil m.logged) }))
by_event known m (action.Region kind rect (Err refusal)) c o needs (named, (answer, said, outcome)) =
    subst (λ (x : TableCommand). Done known m m (on_table x) o) (sym named)
    (refused_one known m (region kind rect) o said.0 (outcome ∙ ap region_outcome said.2) (refused_region known m kind rect refusal said.0 needs said.1))
by_event known m (action.Freeze least answer) c o needs call = absurd call
by_event known m (action.Begin answer) c o needs call = absurd call
by_event known m (action.JobWrite own answer) c o needs call = absurd call
by_event known m (action.Install own answer) c o needs call = absurd call

-- over machines that are the same in what it says
was-beside : (known : Bool) (a b c d : Machine) (command : Command) (o : Outcome) → IsSame a b → WasDone known b c command o → IsSame c d → WasDone known a d command o
was-beside known a b c d (on_table command) (answered seq reply) one was other = (
  was.0 ∙ one.seq,
  other.seq ∙ was.1 ∙ ap next_count one.seq,
  λ is. was.2 is ∙ ap (λ (t : Table). reply_to t command) one.table,
  other.table ∙ was.3 ∙ ap (λ (t : Table). table_after t command) one.table,
)
was-beside known a b c d flush (answered seq reply) one was other = absurd was
was-beside known a b c d (on_table command) quiet one was other = absurd was.0
was-beside known a b c d flush quiet one was other = (was.0, other.seq ∙ was.1 ∙ one.seq, other.table ∙ was.2 ∙ one.table)
was-beside known a b c d (on_table command) (refused word) one was other = (was.0, other.seq ∙ was.1 ∙ one.seq, other.table ∙ was.2 ∙ one.table)
was-beside known a b c d flush (refused word) one was other = (was.0, other.seq ∙ was.1 ∙ one.seq, other.table ∙ was.2 ∙ one.table)

done-beside : (known : Bool) (a b c d : Machine) (command : Command) (o : Outcome) → IsSame a b → Done known b c command o → IsSame c d → Done known a d command o
done-beside known a b c d command o one is other = record {
  was = was-beside known a b c d command o one is.was other;
  logged = other.logged ∙ is.logged ∙ ap (λ (g : List Group). g ++ logged_by command o) one.logged;
}

-- a command whose events were all upkeep, and that was refused
upkeep_done : (known : Bool) (m : Machine) (es : List Event) (c : Command) (word : Why) → own es ≡ [] → MayRefuse c word → Done known m (after_all m es) c (refused word)
upkeep_done known m es c word none may =
    done-beside known m m m (after_all m es) c (refused word) (record { table = refl; seq = refl; logged = refl }) (nothing-done known m c word may) (all-leave m es none)

carried_out : (known : Bool) (m : Machine) (c : Command) (o : Outcome) (es : List Event) → IsRun known m es → Does c o es → Done known m (after_all m es) c o
carried_out known m (on_table c) o es run (inl one) =
    let only : IsOnly known m (after_all m es) one.event = only-one known m es one.event run one.only in
    done-beside known m only.at (does one.event.action only.at) (after_all m es) (on_table c) o only.before (by_event known only.at one.event.action c o only.needs one.call) only.behind
carried_out known m (on_table c) o es run (inr refusal) =
    let is : IsRefusedFlush refusal.word es = refusal.upkeep in
    let may : MayRefuse flush refusal.word = refused_flush known m refusal.word es run is in
    subst (λ (x : TableCommand). Done known m (after_all m es) (on_table x) o) (sym refusal.command_is)
    (subst (λ (x : Outcome). Done known m (after_all m es) (on_table (write (write_of refusal.op))) x) (sym refusal.outcome_is)
    (upkeep_done known m es (on_table (write (write_of refusal.op))) refusal.word is.none (write_may (write_of refusal.op) refusal.word may)))
carried_out known m flush (answered seq reply) es run impossible = absurd impossible
carried_out known m flush quiet es run is =
    let same : IsSame m (after_all m es) = all-leave m es is.none in
    record { was = (tt, same.seq, same.table); logged = same.logged ∙ sym (append-nil m.logged) }
carried_out known m flush (refused word) es run is =
    upkeep_done known m es flush word is.none (refused_flush known m word es run is)

-- the numbers of a list that rises are at least this
abbrev IsFrom : ℕ → List ℕ → Type 0
IsFrom n [] = Unit {0}
IsFrom n (m ∷ ms) = n ≤ m

-- What a run of events is for the commands: one outcome each, numbers that rise, the table's replies, what was logged, and the table
-- after them.
pub record IsHistory (known : Bool) (m : Machine) (cs : List Command) (os : List Outcome) (n : Machine) : Type 0 where
  pub one_each : OneEach cs os
  from : IsFrom m.seq (seqs os)
  pub rises : Rises (seqs os)
  pub replied : known ≡ true → (lane : ℕ) → map (λ a. a.reply) (lane_answers lane cs os) ≡ replies m.table (map (λ a. a.command) (lane_answers lane cs os))
  pub logged : n.logged ≡ m.logged ++ logged_groups cs os
  pub table : (lane : ℕ) → n.table ≡ replay m.table (map (λ a. a.command) (lane_answers lane cs os))

next_is : (n : ℕ) → n < 2 ^ 64 - 1 → next_count n ≡ n + 1
next_is n lt = grind (arith, nat_tests)

rises_from : (n : ℕ) (ns : List ℕ) → IsFrom (n + 1) ns → Rises ns → Rises (n ∷ ns)
rises_from n [] from rises = tt
rises_from n (m ∷ ms) from rises = (omega (arith, from), rises)

-- a command that isn't answered, in front
passed_by : (known : Bool) (m n end : Machine) (c : Command) (cs : List Command) (o : Outcome) (os : List Outcome) → IsFor c o → seqs (o ∷ os) ≡ seqs os → ((lane : ℕ) → lane_answers lane (c ∷ cs) (o ∷ os) ≡ lane_answers lane cs os)
    → n.seq ≡ m.seq → n.table ≡ m.table → n.logged ≡ m.logged ++ logged_by c o → IsHistory known n cs os end → IsHistory known m (c ∷ cs) (o ∷ os) end
passed_by known m n end c cs o os for numbers lanes seq table logs rest = record {
  one_each = (for, rest.one_each);
  from = subst (IsFrom m.seq) (sym numbers) (subst (λ (k : ℕ). IsFrom k (seqs os)) seq rest.from);
  rises = subst Rises (sym numbers) rest.rises;
  replied = λ is lane.
      subst (λ (answers : List HistoryAnswer). map (λ a. a.reply) answers ≡ replies m.table (map (λ a. a.command) answers)) (sym (lanes lane))
      (subst (λ (t : Table). map (λ a. a.reply) (lane_answers lane cs os) ≡ replies t (map (λ a. a.command) (lane_answers lane cs os))) table (rest.replied is lane));
  logged = rest.logged ∙ ap (λ (g : List Group). g ++ logged_groups cs os) logs ∙ append_assoc m.logged (logged_by c o) (logged_groups cs os);
  table = λ lane.
      rest.table lane ∙ ap (λ (t : Table). replay t (map (λ a. a.command) (lane_answers lane cs os))) table
      ∙ ap (λ (answers : List HistoryAnswer). replay m.table (map (λ a. a.command) answers)) (sym (lanes lane));
}

-- one command in front
more : (known : Bool) (m n end : Machine) (c : Command) (cs : List Command) (o : Outcome) (os : List Outcome) → m.seq < 2 ^ 64 - 1 → Done known m n c o → IsHistory known n cs os end → IsHistory known m (c ∷ cs) (o ∷ os) end
more known m n end (on_table c) cs (answered seq reply) os room is rest =
    let was : WasDone known m n (on_table c) (answered seq reply) = is.was in
    let next : n.seq ≡ m.seq + 1 = was.1 ∙ next_is m.seq room in
    record {
      one_each = (tt, rest.one_each);
      from = omega (arith, was.0);
      rises = rises_from seq (seqs os) (subst (λ (k : ℕ). IsFrom k (seqs os)) (next ∙ ap (λ (k : ℕ). k + 1) (sym was.0)) rest.from) rest.rises;
      replied = λ known_is lane.
          let later : map (λ a. a.reply) (lane_answers lane cs os) ≡ replies (table_after m.table c) (map (λ a. a.command) (lane_answers lane cs os)) =
          subst (λ (t : Table). map (λ a. a.reply) (lane_answers lane cs os) ≡ replies t (map (λ a. a.command) (lane_answers lane cs os))) was.3 (rest.replied known_is lane) in
          λ j. was.2 known_is j ∷ later j;
      logged = rest.logged ∙ ap (λ (g : List Group). g ++ logged_groups cs os) is.logged ∙ append_assoc m.logged (logged_by (on_table c) (answered seq reply)) (logged_groups cs os);
      table = λ lane. rest.table lane ∙ ap (λ (t : Table). replay t (map (λ a. a.command) (lane_answers lane cs os))) was.3;
    }
more known m n end flush cs (answered seq reply) os room is rest = absurd is.was
more known m n end (on_table c) cs quiet os room is rest = absurd is.was.0
more known m n end flush cs quiet os room is rest = passed_by known m n end flush cs quiet os tt refl (λ lane. refl) is.was.1 is.was.2 is.logged rest
more known m n end (on_table c) cs (refused word) os room is rest = passed_by known m n end (on_table c) cs (refused word) os is.was.0 refl (λ lane. refl) is.was.1 is.was.2 is.logged rest
more known m n end flush cs (refused word) os room is rest = passed_by known m n end flush cs (refused word) os is.was.0 refl (λ lane. refl) is.was.1 is.was.2 is.logged rest

seq_after : (known : Bool) (m n : Machine) (c : Command) (o : Outcome) → WasDone known m n c o → m.seq < 2 ^ 64 - 1 → n.seq ≤ m.seq + 1
seq_after known m n (on_table c) (answered seq reply) was room = omega (arith, was.1, next_is m.seq room)
seq_after known m n flush (answered seq reply) was room = absurd was
seq_after known m n (on_table c) quiet was room = absurd was.0
seq_after known m n flush quiet was room = omega (arith, was.1)
seq_after known m n (on_table c) (refused word) was room = omega (arith, was.1)
seq_after known m n flush (refused word) was room = omega (arith, was.1)

pub history-is : (known : Bool) (m : Machine) (cs : List Command) (os : List Outcome) (es : List Event) → m.seq + length os < 2 ^ 64 → IsRun known m es → DoesAll cs os es → IsHistory known m cs os (after_all m es)
history-is known m [] [] es room run does_it =
    subst (λ (l : List Event). IsHistory known m [] [] (after_all m l)) (sym does_it)
    (record { one_each = tt; from = tt; rises = tt; replied = λ is lane. refl; logged = sym (append-nil m.logged); table = λ lane. refl })
history-is known m (c ∷ cs) (o ∷ os) es room run (its, rest, are, first, others) =
    let all : IsRun known m (its ++ rest) = subst (IsRun known m) are run in
    let n : Machine = after_all m its in
    let is : Done known m n c o = carried_out known m c o its (IsRun-first known m its rest all) first in
    let lt : m.seq < 2 ^ 64 - 1 = omega arith in
    subst (λ (l : List Event). IsHistory known m (c ∷ cs) (o ∷ os) (after_all m l)) (sym are)
    (subst (λ (end : Machine). IsHistory known m (c ∷ cs) (o ∷ os) end) (sym (after_all-append m its rest))
    (more known m n (after_all n rest) c cs o os lt is
    (history-is known n cs os rest (omega (arith, seq_after known m n c o is.was lt)) (IsRun-second known m its rest all) others)))
history-is known m [] (o ∷ os) es room run does_it = absurd does_it
history-is known m (c ∷ cs) [] es room run does_it = absurd does_it

-- the group that was not finished is that of the events
kept-open : (a : Action) (m : Machine) → (does a m).unfinished ≡ m.unfinished
kept-open a m = ap (λ (u : Option ℕ × Option Group × ℕ). u.1) (does-leaves a m)

pub unfinished-is : (m : Machine) (es : List Event) → (after_all m es).unfinished ≡ stopped_group m.unfinished es
unfinished-is m [] = refl
unfinished-is m (e ∷ es) =
    unfinished-is (after_event m e) es
    ∙ ap (λ (g : Option Group). stopped_group (if e.write_failed then group_of e.action else g) es) (kept-open e.action m)
