-- How the parts of a task make its ending.
use Rattle.std.specs.Prelude.{◌≡◌, ℕ, ◌^◌, ◌<◌, List, [], length, Option, Some, None, Ok, Err}
use Rattle.std.proofs.Common.{arith, inl, inr, refl, sym, ◌∙◌, ap, subst}
use Rattle.std.proofs.lemmas.List.{length-map}
use Rattle.script_lang.specs.CommandViews.{command_of, commands_of}
use Rattle.script_lang.specs.declared.commands.Command as rust
use Rattle.spatial_run.specs.declared.record.Outcome as rust_outcome
use Rattle.spatial_run.specs.Views.{outcomes_of}
use Rattle.table_model.specs.Commands.{Command}
use Rattle.table_model.specs.Phases.{Phases}
use Rattle.table_model.specs.Record.{RunRecord, Rises}
use Rattle.store_machine.specs.Standing.{StoreState}
use Rattle.dev_model.specs.Story.{DeviceState}
use Rattle.store_machine.specs.Calls.{IsReady}
use Rattle.spatial_run.specs.Tasks.{Task, format, serial, fresh}
use Rattle.spatial_run.specs.OnDevice.{Formatting, OnlyOpened, RanOn}
use Rattle.spatial_run.specs.declared.outcomes.Refusals.{Refusals}
use Rattle.spatial_run.specs.ByEvents.{FormattingBy, RanByEvents}
use Rattle.spatial_run.specs.Endings.{Ending, bad_words, source_fault, bad_script, no_memory, format_failed, formatted, not_opened, ran, IsScript, RunsScript, IsToFormat, Prepared, IsCause, Edges, Ends}
use Rattle.spatial_run.specs.Steps.{IsSetupAlone, IsPlain, MadeAll, OpenedOn}
use Rattle.spatial_run.specs.Parts.{Cause, IsReadEnd, StoreRan, IsStoreEnd, IsRunEnd, FormatStopped, IsFormatEnd, IsFreshEnd, IsFinished}
use Rattle.spatial_run.proofs.Making.{ran-on, ran-by-events, does-length}
use Rattle.spatial_run.proofs.Plain.{through_setup}

-- a script that ran on a store has an ending whose text is that of the setup alone
pub store-plain : (s : Phases Command) (r : RunRecord) (f : Refusals) (opened : StoreState) (device new : DeviceState) (acks : List ℕ) → IsSetupAlone s → OpenedOn device opened → StoreRan opened new acks s r f → IsPlain (ran s r f)
store-plain s r f opened device new acks alone opens ran_it =
    let on : RanOn device new acks s r f = ran-on device new acks s r f opened ran_it.few alone opens ran_it in
    (alone, ran_it.alone, on.fits.setup, subst Rises (through_setup r ran_it.alone) on.fits.through)

pub run-end : (s : Phases Command) (device now new : DeviceState) (opened : StoreState) (acks : List ℕ) (e : Ending) → IsSetupAlone s → OpenedOn device opened → opened.device ≡ now → OnlyOpened device now
    → IsStoreEnd s opened new acks e → IsRunEnd s device new acks e
run-end s device now new opened acks bad_words alone opens opened_is reads end = absurd end
run-end s device now new opened acks source_fault alone opens opened_is reads end = absurd end
run-end s device now new opened acks (bad_script wrong) alone opens opened_is reads end = absurd end
run-end s device now new opened acks no_memory alone opens opened_is reads end = (
  subst (λ (d : DeviceState). OnlyOpened device d) (sym opened_is ∙ end.0) reads,
  sym end.1 ∙ opens.since.untold.has.acks,
)
run-end s device now new opened acks format_failed alone opens opened_is reads end = absurd end
run-end s device now new opened acks (formatted pages) alone opens opened_is reads end = absurd end
run-end s device now new opened acks (not_opened _) alone opens opened_is reads end = absurd end
run-end s device now new opened acks (ran t r f) alone opens opened_is reads end = (end.0, ran-by-events device new acks s r f opened end.1.few alone opens end.1)

module _ (so sn : ℕ) (left : Option (List ℕ)) (old new : DeviceState) (acks : List ℕ) where
  -- the script could not be read
  pub unread : (task : Option Task) → RunsScript task → (e : Ending) → IsReadEnd so sn left (Err e) → new ≡ old → acks ≡ [] → Cause task so sn left old new acks e
  unread task runs bad_words read same none = absurd read
  unread task runs source_fault read same none = record { is = (runs, read, same, none) }
  unread task runs (bad_script wrong) read same none = record { is = (runs, read.0, read.1, same, none) }
  unread task runs no_memory read same none = record { is = (runs, read, none, inl same) }
  unread task runs format_failed read same none = absurd read
  unread task runs (formatted pages) read same none = absurd read
  unread task runs (not_opened _) read same none = absurd read
  unread task runs (ran s r f) read same none = absurd read

  -- a script ran on the device that was prepared for it
  run-cause : (task : Option Task) → RunsScript task → (device : DeviceState) → Prepared FormattingBy RanByEvents task old device → (s : Phases Command) (e : Ending) → IsReadEnd so sn left (Ok s) → IsRunEnd s device new acks e → Cause task so sn left old new acks e
  run-cause task runs device prepared s bad_words read end = absurd end
  run-cause task runs device prepared s source_fault read end = absurd end
  run-cause task runs device prepared s (bad_script wrong) read end = absurd end
  run-cause task runs device prepared s no_memory read end = record { is = (runs, read.0, end.1, inr (s, record { script = read.1; device = device; prepared = prepared }, end.0)) }
  run-cause task runs device prepared s format_failed read end = absurd end
  run-cause task runs device prepared s (formatted pages) read end = absurd end
  run-cause task runs device prepared s (not_opened _) read end = record { is = (read.0, end.1, (s, record { script = read.1; device = device; prepared = prepared }, end.0)) }
  run-cause task runs device prepared s (ran t r f) read end = record {
    is = (
      read.0,
      (
        record { script = subst (λ (x : Phases Command). IsScript left (Ok x)) (sym end.0) read.1; device = device; prepared = prepared },
        subst (λ (x : Phases Command). RanByEvents device new acks x r f) (sym end.0) end.1,
      ),
    );
  }

  pub serial-ran : (s : Phases Command) (e : Ending) → IsReadEnd so sn left (Ok s) → IsRunEnd s old new acks e → Cause (Some serial) so sn left old new acks e
  serial-ran s e read end = run-cause (Some serial) tt old refl s e read end

  -- a device could not be formatted
  stopped : (indexes : ℕ) (task : Option Task) → IsToFormat task left indexes → (e : Ending) → sn ≡ so → FormatStopped indexes old new acks e → Cause task so sn left old new acks e
  stopped indexes task kind e same stop =
      subst (λ (x : Ending). Cause task so sn left old new acks x) (sym stop.ending) (record { is = (same, stop.acks_are, (indexes, stop.failed, kind, stop.formatting)) })

  -- a device was formatted, and a script ran on it
  pub fresh-ran : (indexes : ℕ) (s : Phases Command) (e : Ending) → IsReadEnd so sn left (Ok s) → IsFreshEnd indexes s old new acks e → Cause (Some (fresh indexes)) so sn left old new acks e
  fresh-ran indexes s e read (inl went) = run-cause (Some (fresh indexes)) tt went.device went.formatting s e read went.end
  fresh-ran indexes s e read (inr stop) = stopped indexes (Some (fresh indexes)) (inr (refl, (s, read.1))) e read.0 stop

  pub format-ran : (indexes : ℕ) (e : Ending) → sn ≡ so → IsFormatEnd indexes old new acks e → Cause (Some (format indexes)) so sn left old new acks e
  format-ran indexes e same (inl done) =
      subst (λ (x : Ending). Cause (Some (format indexes)) so sn left old new acks x) (sym done.ending) (record { is = (same, done.acks_are, refl, (indexes, refl, done.formatting)) })
  format-ran indexes e same (inr stop) = stopped indexes (Some (format indexes)) (inl refl) e same stop

  -- what the exact cause says leaves the plain one
  plain-prepared : (task : Option Task) (device : DeviceState) → Prepared FormattingBy RanByEvents task old device → Prepared Formatting RanOn task old device
  plain-prepared None device prepared = absurd prepared
  plain-prepared (Some (format indexes)) device prepared = absurd prepared
  plain-prepared (Some serial) device prepared = prepared
  plain-prepared (Some (fresh indexes)) device prepared = prepared.formatting

  plain-cause : (task : Option Task) (e : Ending) → IsCause FormattingBy RanByEvents task so sn left old new acks e → IsCause Formatting RanOn task so sn left old new acks e
  plain-cause task bad_words cause = cause
  plain-cause task source_fault cause = cause
  plain-cause task (bad_script wrong) cause = cause
  plain-cause task no_memory (runs, same, none, inl is) = (runs, same, none, inl is)
  plain-cause task no_memory (runs, same, none, inr (s, begun, reads)) =
      (runs, same, none, inr (s, record { script = begun.script; device = begun.device; prepared = plain-prepared task begun.device begun.prepared }, reads))
  plain-cause task format_failed (same, none, (indexes, failed, kind, formatting)) = (same, none, (indexes, failed, kind, formatting.formatting))
  plain-cause task (formatted pages) (same, none, is, (indexes, kind, formatting)) = (same, none, is, (indexes, kind, formatting.formatting))
  plain-cause task (not_opened _) (same, none, (s, begun, refused)) =
      (same, none, (s, record { script = begun.script; device = begun.device; prepared = plain-prepared task begun.device begun.prepared }, refused))
  plain-cause task (ran s r f) (same, (begun, by_events)) =
      (same, (record { script = begun.script; device = begun.device; prepared = plain-prepared task begun.device begun.prepared }, by_events.ran_on))

pub format-done : (indexes : ℕ) (old new : DeviceState) (acks : List ℕ) (e : Ending) (pages : ℕ) → e ≡ formatted pages → pages ≡ new.pages → acks ≡ [] → FormattingBy indexes old new (Ok tt) → IsFormatEnd indexes old new acks e
format-done indexes old new acks e pages is pages_is none formatting = inl (record { ending = is ∙ ap formatted pages_is; formatting = formatting; acks_are = none })

-- commands that ran on a store, as the script that they are
pub store-ran : (held commands : List rust.Command) (outcomes : List rust_outcome.Outcome) (opened ended : StoreState) (new : DeviceState) (acks : List ℕ) (s : Phases Command) (f : Refusals) → s.setup ≡ commands_of held → commands ≡ held
    → length commands < 2 ^ 63 → MadeAll opened ended (commands_of commands) (outcomes_of outcomes) f → IsReady ended → ended.device ≡ new → ended.acks ≡ acks
    → StoreRan opened new acks s (record { setup = outcomes_of outcomes; lanes = []; after = [] }) f
store-ran held commands outcomes opened ended new acks s f setup same few made ready device_is acks_are =
    let cs : commands_of commands ≡ s.setup = ap commands_of same ∙ sym setup in
    let counted : length (commands_of commands) ≡ length (outcomes_of outcomes) = does-length (commands_of commands) (outcomes_of outcomes) made.events made.does in
    record {
      ended = ended;
      made = subst (λ (xs : List Command). MadeAll opened ended xs (outcomes_of outcomes) f) cs made;
      device_is = device_is;
      acks_are = acks_are;
      alone = (refl, refl);
      few = omega (arith, few, counted, length-map commands command_of);
      ready = ready;
    }

-- a task that was done, and its ending that was printed
module _ (task : Option Task) (edges : Edges) (status : ℕ) (acks : List ℕ) (r : RunRecord) where
  pub ended : (e : Ending) → Cause task edges.source_old edges.source_new edges.left edges.device_old edges.device_new acks e → IsFinished e edges.sink_old edges.sink_new edges.before edges.after status r
      → Ends FormattingBy RanByEvents task edges status acks r
  ended e cause finished = record {
    ending = e;
    sent = finished.sent;
    cause = cause.is;
    counts = finished.counts;
    told = finished.told;
    is_status = finished.is_status;
    outcomes = finished.outcomes;
  }

  pub plain-end : Ends FormattingBy RanByEvents task edges status acks r → Ends Formatting RanOn task edges status acks r
  plain-end exact = record {
    ending = exact.ending;
    sent = exact.sent;
    cause = plain-cause edges.source_old edges.source_new edges.left edges.device_old edges.device_new acks task exact.ending exact.cause;
    counts = exact.counts;
    told = exact.told;
    is_status = exact.is_status;
    outcomes = exact.outcomes;
  }
