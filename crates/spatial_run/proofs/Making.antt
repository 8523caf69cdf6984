-- Commands run one after another, one command more; and what that is for the caller.
use Rattle.std.specs.Prelude.{◌≡◌, ℕ, ◌+◌, ◌^◌, ◌<◌, true, false, List, [], ◌∷◌, ◌++◌, map, take, get_or, length, Contains, Option, Some, None}
use Rattle.std.specs.Option.{option_to_list}
use Rattle.std.proofs.Common.{inl, ⊎_elim, refl, sym, ◌∙◌, ap, subst, suc, arith, append_assoc, append-nil}
use Rattle.std.proofs.lemmas.List.{take_more, map-append}
use Rattle.std.proofs.lemmas.List.Elements.{All-nil, All-append, Contains-append_left, Contains-append_right, Contains-append_cases}
use Rattle.std.proofs.lemmas.Option.{same_Some}
use Rattle.dev_model.specs.Counts.{Rose}
use Rattle.dev_model.specs.Story.{Bytes, Story, after, clock_of, WhereTold}
use Rattle.dev_model.specs.Moments.{EachMoment, ReadsWithin}
use Rattle.dev_model.specs.Laws.Runs.{after-append}
use Rattle.component_image.specs.Recovered.{IsOpeningRange}
use Rattle.table_model.specs.Answers.{replay}
use Rattle.table_model.specs.Commands.{Command, Outcome}
use Rattle.table_model.specs.declared.Why.{Why}
use Rattle.table_model.specs.Phases.{Phases}
use Rattle.table_model.specs.Record.{RunRecord, HistoryAnswer, lane_answers, history, IsAnswered, refused_word, refused_words}
use Rattle.table_model.specs.Table.{Table}
use Rattle.script_lang.specs.CommandViews.{command_of, commands_of}
use Rattle.script_lang.specs.declared.commands.Command as rust_command
use Rattle.primary_ix.specs.declared.rows.PrimRow.{PrimRow}
use Rattle.store_machine.specs.Machine.{Machine, Opening, at_opening, after_all}
use Rattle.store_machine.specs.Outcomes.{Group, logged_groups}
use Rattle.store_machine.specs.Crash.{Keeps, attempted}
use Rattle.store_machine.specs.Commands.{Does, DoesAll, words, stopped_group}
use Rattle.store_machine.specs.Standing.{StoreState, Stands, StandsSince, Tells}
use Rattle.dev_model.specs.Story.{DeviceState}
use Rattle.store_machine.specs.Devices.{HoldsTable}
use Rattle.store_machine.specs.Calls.{IsReady}
use Rattle.store_machine.specs.Laws.Steps.{Adds-none, Adds-then, since-adds}
use Rattle.store_machine.specs.Laws.Since.{made-since}
use Rattle.store_machine.specs.Since.{MadeSince}
use Rattle.store_machine.specs.Laws.Histories.{IsHistory, history-is, unfinished-is, words-append}
use Rattle.store_machine.specs.declared.events.Event.{Event}
use Rattle.store_state.specs.Lists.{Lists}
use Rattle.store_commands.specs.Commands.{IsServing, HasDone}
use Rattle.spatial_run.specs.ByEvents.{RanByEvents}
use Rattle.spatial_run.specs.OnDevice.{LeavesOver, RanFrom, RanOn}
use Rattle.spatial_run.specs.Refused.{record_words, refusals_by}
use Rattle.spatial_run.specs.declared.outcomes.Refusals.{Refusals}
use Rattle.spatial_run.specs.Steps.{MadeAll, IsSetupAlone, OpenedOn, with_command, with_upkeep}
use Rattle.spatial_run.specs.Parts.{StoreRan}
use Rattle.spatial_run.specs.Views.{outcome_of, outcomes_of}
use Rattle.spatial_run.specs.declared.record.Outcome as rust
use Rattle.spatial_run.proofs.Faults.{faults-rose, stays-going, undamaged}
use Rattle.spatial_run.proofs.Plain.{fits_alone, history_alone, record_words_alone}
use Rattle.spatial_run.proofs.Refusing.{refused-more, refusals-more}
use Rattle.spatial_run.proofs.Since.{AreFrom, space-stays, acks-from, since-call, rests-holds}
use Rattle.spatial_run.proofs.Unfinished.{unfinished-failed}

pub all-none : (s : StoreState) → MadeAll s s [] [] (refusals_by [] [])
all-none s = record { events = []; made = record { adds = Adds-none s; owned = All-nil (λ (e : Event). e.owner ≡ Some 0) }; does = refl; told = λ word is. is; refused_for = refl }

does-more : (cs : List Command) (os : List Outcome) (es : List Event) (c : Command) (o : Outcome) (its : List Event) → DoesAll cs os es → Does c o its → DoesAll (cs ++ c ∷ []) (os ++ o ∷ []) (es ++ its)
does-more [] [] es c o its all one = (its, [], ap (λ (l : List Event). l ++ its) all ∙ sym (append-nil its), one, refl)
does-more (d ∷ cs) (p ∷ os) es c o its (first, rest, are, does_it, others) one =
    (first, rest ++ its, ap (λ (l : List Event). l ++ its) are ∙ append_assoc first rest its, does_it, does-more cs os rest c o its others one)
does-more [] (p ∷ os) es c o its all one = absurd all
does-more (d ∷ cs) [] es c o its all one = absurd all

made-more : (a b c : StoreState) (cs : List Command) (os : List Outcome) (command : Command) (outcome : Outcome) (upkeep : Option Why) (f : Refusals) → MadeAll a b cs os f → HasDone b c 0 command outcome upkeep
    → MadeAll a c (cs ++ command ∷ []) (os ++ outcome ∷ []) (with_upkeep (with_command f (refused_word outcome)) (option_to_list upkeep))
made-more a b c cs os command outcome upkeep f all one = record {
  events = all.events ++ one.events;
  made = record {
    adds = Adds-then a b c all.events one.events all.made.adds one.made.adds;
    owned = All-append (λ (e : Event). e.owner ≡ Some 0) all.events one.events all.made.owned one.made.owned;
  };
  does = does-more cs os all.events command outcome one.events all.does one.does;
  told = λ word is.
      subst (λ (ws : List Why). Contains ws word) (sym (words-append all.events one.events))
      (⊎_elim
      (λ earlier. Contains-append_left (words all.events) (words one.events) word (all.told word earlier))
      (λ here. Contains-append_right (words all.events) (words one.events) word
      (subst (λ (ws : List Why). Contains ws word) (sym one.words_are) (Contains-append_left (refused_word outcome) (option_to_list upkeep) word here)))
      (Contains-append_cases (refused_words os) (refused_word outcome) word (subst (λ (ws : List Why). Contains ws word) (refused-more os outcome) is)));
  refused_for =
      ap (λ (g : Refusals). with_upkeep (with_command g (refused_word outcome)) (option_to_list upkeep)) all.refused_for
      ∙ refusals-more (refused_words os) (words all.events) (refused_word outcome) (option_to_list upkeep)
      ∙ (λ j. refusals_by (sym (refused-more os outcome) j) (steps_are j));
}
  where
    steps_are : words all.events ++ (refused_word outcome ++ option_to_list upkeep) ≡ words (all.events ++ one.events)
    steps_are = ap (λ (ws : List Why). words all.events ++ ws) (sym one.words_are) ∙ sym (words-append all.events one.events)

-- the same of the program's lists
pub made-next : (a b c : StoreState) (commands : List rust_command.Command) (i : ℕ) (command d : rust_command.Command) (olds news : List rust.Outcome) (o : rust.Outcome) (upkeep : Option Why) (f g : Refusals)
    → i < length commands → command ≡ get_or commands i d → news ≡ olds ++ o ∷ [] → g ≡ with_upkeep (with_command f (refused_word (outcome_of o))) (option_to_list upkeep)
    → MadeAll a b (commands_of (take i commands)) (outcomes_of olds) f → HasDone b c 0 (command_of command) (outcome_of o) upkeep → MadeAll a c (commands_of (take (i + 1) commands)) (outcomes_of news) g
made-next a b c commands i command d olds news o upkeep f g lt is more causes all one =
    let cs : commands_of (take (i + 1) commands) ≡ commands_of (take i commands) ++ command_of command ∷ [] =
    ap commands_of (take_more commands i d lt ∙ ap (λ (x : rust_command.Command). take i commands ++ x ∷ []) (sym is)) ∙ map-append command_of (take i commands) (command ∷ []) in
    let os : outcomes_of news ≡ outcomes_of olds ++ outcome_of o ∷ [] = ap outcomes_of more ∙ map-append outcome_of olds (o ∷ []) in
    subst (λ (h : Refusals). MadeAll a c (commands_of (take (i + 1) commands)) (outcomes_of news) h) (sym causes)
    (subst (λ (xs : List Command). MadeAll a c xs (outcomes_of news) after_it) (sym cs)
    (subst (λ (ys : List Outcome). MadeAll a c (commands_of (take i commands) ++ command_of command ∷ []) ys after_it) (sym os)
    (made-more a b c (commands_of (take i commands)) (outcomes_of olds) (command_of command) (outcome_of o) upkeep f all one)))
  where
    after_it : Refusals
    after_it = with_upkeep (with_command f (refused_word (outcome_of o))) (option_to_list upkeep)

pub does-length : (cs : List Command) (os : List Outcome) (es : List Event) → DoesAll cs os es → length cs ≡ length os
does-length [] [] es all = refl
does-length (d ∷ cs) (p ∷ os) es (first, rest, are, does_it, others) = ap suc (does-length cs os rest others)
does-length [] (p ∷ os) es all = absurd all
does-length (d ∷ cs) [] es all = absurd all

-- a store that was just opened
pub serving-opened : (device : DeviceState) (s : StoreState) → StandsSince device s [] → IsReady s → s.lists.job ≡ None → IsServing s
serving-opened device s opens ready none = record { ready = ready; standing = record { opening = opens.opening; events = []; stands = opens.untold }; idle = λ going. none }

-- a script ran on a store that was opened: what that is for the caller
module _ (device new : DeviceState) (acks : List ℕ) (s : Phases Command) (r : RunRecord) (f : Refusals) (opened : StoreState) (few : length r.setup < 2 ^ 63) (alone : IsSetupAlone s) (opens : OpenedOn device opened) (ran : StoreRan opened new acks s r f) where
  abbrev es : List Event
  es = ran.made.events

  abbrev unfinished : Option Group
  unfinished = stopped_group None es

  since : StandsSince device ran.ended es
  since = since-adds device opened ran.ended [] es opens.since ran.made.made.adds

  -- from this table on, with these lists of components
  abbrev first : Table → List (List PrimRow) → Opening
  first table disk = record since.opening { table = table; disk = disk }

  abbrev last : Table → List (List PrimRow) → Machine
  last table disk = after_all (at_opening (first table disk)) es

  at_least : IsHistory false (at_opening since.opening) s.setup r.setup (after_all (at_opening since.opening) es)
  at_least = history-is false (at_opening since.opening) s.setup r.setup es (omega (arith, few)) since.untold.run ran.made.does

  the_history : history s r ≡ lane_answers 0 s.setup r.setup
  the_history = history_alone s r alone at_least.one_each at_least.rises

  refused_for : f ≡ refusals_by (record_words r) (words es)
  refused_for = ran.made.refused_for ∙ ap (λ (ws : List Why). refusals_by ws (words es)) (sym (record_words_alone r ran.alone))

  pages-stay : new.pages ≡ device.pages
  pages-stay =
      ap (λ (d : DeviceState). d.pages) (sym ran.device_is) ∙ sym ran.ready.space ∙ ap (λ (l : Lists). l.space.pages) ended_stands.has.lists
      ∙ space-stays (at_opening opens.since.opening) es ∙ ap (λ (l : Lists). l.space.pages) (sym opens.since.untold.has.lists) ∙ opens.ready.space ∙ opens.pages
    where
      ended_stands : Stands false opens.since.opening ran.ended es
      ended_stands = ran.made.made.adds false opens.since.opening [] opens.since.untold

  rose : f.device ≡ true → Rose device.faults new.faults
  rose is =
      subst (λ (n : ℕ). Rose device.faults n) (sym since.untold.has.faults ∙ ap (λ (d : DeviceState). d.faults) ran.device_is)
      (faults-rose false device.faults (at_opening since.opening) es since.untold.run since.later (inl refl) (ap (λ (x : Refusals). x.device) (sym refused_for) ∙ is))

  module _ (table : Table) (before : Story) (told : device.story ≡ Some before) (holds : HoldsTable device.pages table before) where
    abbrev disk : List (List PrimRow)
    disk = (since.told table before told holds).0

    stands : Stands true (first table disk) ran.ended es
    stands = (since.told table before told holds).1

    known : IsHistory true (at_opening (first table disk)) s.setup r.setup (last table disk)
    known = history-is true (at_opening (first table disk)) s.setup r.setup es (omega (arith, few)) stands.run ran.made.does

    tells : Tells (first table disk) ran.ended (last table disk)
    tells = stands.tells refl

    ended_pages : ran.ended.device.pages ≡ new.pages
    ended_pages = ap (λ (d : DeviceState). d.pages) ran.device_is

    now_told : new.story ≡ Some tells.now
    now_told = ap (λ (d : DeviceState). d.story) (sym ran.device_is) ∙ tells.told

    acks_is : (last table disk).acks ≡ acks
    acks_is = sym stands.has.acks ∙ ran.acks_are

    acked : AreFrom (clock_of tells.opening) acks
    acked = subst (AreFrom (clock_of tells.opening)) acks_is (acks-from true (clock_of tells.opening) (at_opening (first table disk)) es stands.run (omega (arith, tells.begins.clock)) tt)

    groups_are : attempted (last table disk).logged (last table disk).unfinished ≡ attempted (logged_groups s.setup r.setup) unfinished
    groups_are = λ j. attempted (known.logged j) (unfinished-is (at_opening (first table disk)) es j)

    abbrev IsLeft : ℕ → Bytes → Type 0
    IsLeft = Keeps new.pages table (attempted (logged_groups s.setup r.setup) unfinished) acks

    each : EachMoment (clock_of tells.opening) (after tells.opening tells.calls) IsLeft
    each = subst (λ (u : Story). EachMoment (clock_of tells.opening) u IsLeft) tells.went
        (subst (λ (p : ℕ). EachMoment (clock_of tells.opening) tells.now (Keeps p table (attempted (logged_groups s.setup r.setup) unfinished) acks)) ended_pages
        (subst (λ (a : List ℕ). EachMoment (clock_of tells.opening) tells.now (Keeps ran.ended.device.pages table (attempted (logged_groups s.setup r.setup) unfinished) a)) acks_is
        (subst (λ (g : List Group). EachMoment (clock_of tells.opening) tells.now (Keeps ran.ended.device.pages table g (last table disk).acks)) groups_are tells.survives)))

    holds_new : HoldsTable new.pages table before
    holds_new = subst (λ (p : ℕ). HoldsTable p table before) (sym pages-stay) holds

    leaves-over : LeavesOver before new.story IsLeft
    leaves-over =
        let reads : ReadsWithin IsOpeningRange before (Some tells.opening) = subst (ReadsWithin IsOpeningRange before) tells.begins.is (since.reads before told) in
        let opened_is : tells.opening ≡ after before reads.calls = same_Some _ _ reads.told in
        let all : after before (reads.calls ++ tells.calls) ≡ after tells.opening tells.calls =
        after-append before reads.calls tells.calls ∙ ap (λ (u : Story). after u tells.calls) (sym opened_is) in
        record {
          calls = reads.calls ++ tells.calls;
          told = now_told ∙ ap (λ (u : Story). Some u) (tells.went ∙ sym all);
          each = subst (λ (u : Story). EachMoment (clock_of before) u IsLeft) (sym all)
              (since-call new.pages table (attempted (logged_groups s.setup r.setup) unfinished) acks before tells.opening tells.calls holds_new reads acked each);
        }

    table-left : f.device ≡ false → WhereTold new.story (HoldsTable new.pages (replay table (map (λ a. a.command) (history s r))))
    table-left calm now is =
        let going : (last table disk).stopped ≡ None = stays-going true (at_opening (first table disk)) es stands.run refl (ap (λ (x : Refusals). x.device) (sym refused_for) ∙ calm) in
        let table_is : (last table disk).table ≡ replay table (map (λ a. a.command) (history s r)) =
        known.table 0 ∙ ap (λ (h : List HistoryAnswer). replay table (map (λ a. a.command) h)) (sym the_history) in
        subst (λ (t : Table). HoldsTable new.pages t now) table_is
        (subst (λ (u : Story). HoldsTable new.pages (last table disk).table u) (same_Some _ _ (sym now_told ∙ is))
        (subst (λ (p : ℕ). HoldsTable p (last table disk).table tells.now) ended_pages
        (rests-holds ran.ended.device.pages ran.ended.log (last table disk).table tells.now (tells.kept going).held.rests)))

    ran-from : RanFrom table before unfinished new acks s r f
    ran-from = record {
      answered = subst (λ h. IsAnswered table h) (sym the_history) (known.replied refl 0);
      undamaged = ap (λ (x : Refusals). x.damaged) refused_for ∙ undamaged (at_opening (first table disk)) es stands.run;
      survives = leaves-over;
      left = table-left;
    }

  pub ran-on : RanOn device new acks s r f
  ran-on = record {
    openable = λ before told calm. (since.opens before told calm).0;
    same_pages = pages-stay;
    fits = fits_alone s r alone ran.alone at_least.one_each at_least.rises;
    steps = words es;
    of_commands = λ word is. ran.made.told word (subst (λ (ws : List Why). Contains ws word) (record_words_alone r ran.alone) is);
    refused_for = refused_for;
    faulted = rose;
    unfinished = unfinished;
    failed = unfinished-failed false (at_opening since.opening) s.setup r.setup es since.untold.run ran.made.does;
    from = ran-from;
  }

  pub ran-by-events : RanByEvents device new acks s r f
  unfolding ran-on
  ran-by-events = record {
    ran_on = ran-on;
    events = es;
    made = subst (λ (d : DeviceState). MadeSince device d acks es) ran.device_is
        (subst (λ (a : List ℕ). MadeSince device ran.ended.device a es) ran.acks_are (made-since device ran.ended es since));
    owned = ran.made.made.owned;
    does = ran.made.does;
    refused_for = refused_for;
    unfinished_is = refl;
  }
