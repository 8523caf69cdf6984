-- The pages that calls read were tested.
use Rattle.std.proofs.Common.{◌≡◌, ℕ, ◌+◌, ◌*◌, List, [], ◌∷◌, ◌++◌, map, length, Option, Some, Ok, Err, Result, refl, sym, ◌∙◌, ap, subst, append_assoc, append-nil}
use Rattle.std.specs.Prelude.{IfErr, OnOk}
use Rattle.dev_model.specs.Story.{Calls, Story, after, clock_of}
use Rattle.dev_model.specs.Doing.{all_noted}
use Rattle.dev_model.specs.DeviceCalls.{ok_calls}
use Rattle.dev_model.specs.Laws.CallLists.{ok_calls-append}
use Rattle.dev_model.specs.Laws.Plans.{all_noted-told}
use Rattle.dev_model.specs.Laws.Runs.{after-append}
use Rattle.dev_model.specs.declared.calls.DeviceCall.{DeviceCall}
use Rattle.geo_base.specs.declared.points.Row.{Row}
use Rattle.dev_model.specs.declared.page_faults.PageFault.{PageFault}
use Rattle.dev_model.specs.declared.page_faults.PageFault.TheVariants as page
use Rattle.page_codec.specs.declared.pages.TheConstants.{PAGE_BYTES}
use Rattle.dev_model.specs.Given.{given}
use Rattle.device_pages.specs.ReadsMade.{reads_made}
use Rattle.device_pages.specs.Claims.{MadeReads}
use Rattle.wal_log.specs.Records.{record_bytes}
use Rattle.wal_log.specs.Changes.{append_calls}
use Rattle.wal_log.specs.declared.log.Log.{Log}
use Rattle.wal_log.specs.declared.records.LogOp.{LogOp}
use Rattle.wal_log.specs.declared.records.Record.{Record}
use Rattle.store_state.specs.OnlyRead.{HasRead}
use Rattle.kept_state.specs.Writing.{next_record}
use Rattle.store_machine.specs.Laws.LogCalls.{append-calls}
use Rattle.store_machine.specs.Standing.{StoreState}
use Rattle.dev_model.specs.Story.{DeviceState}
use Rattle.store_machine.specs.declared.events.Refusal.{Refusal}
use Rattle.store_machine.specs.declared.events.Refusal.TheVariants.{Fault, Stopped, Full, Again, NoIndex, Damaged, OutOfMemory}
use Rattle.store_machine.specs.declared.events.Wrote.{Wrote}
use Rattle.store_core.specs.Refusals.{refusal_of}
use Rattle.store_core.specs.Writing.{HasAppended, RefusesNow, old_point}
use Rattle.store_core.specs.Tested.{HaveBeenRead, TestsPages, read_in, reads_in}

reads_in-append : (some more : List DeviceCall) → reads_in (some ++ more) ≡ reads_in some ++ reads_in more
reads_in-append [] more = refl
reads_in-append (call ∷ some) more = ap (λ (reads : List (ℕ × ℕ)). read_in call.act ++ reads) (reads_in-append some more) ∙ sym (append_assoc (read_in call.act) (reads_in some) (reads_in more))

-- pages that were given
reads_in-made : (clock : ℕ) (pages : List ℕ) → reads_in (reads_made clock (given pages)) ≡ map (λ page. (page * PAGE_BYTES, PAGE_BYTES)) pages
reads_in-made clock [] = refl
reads_in-made clock (page ∷ pages) = ap (λ (reads : List (ℕ × ℕ)). (page * PAGE_BYTES, PAGE_BYTES) ∷ reads) (reads_in-made (clock + 1) pages)

read-pages : (pages : List ℕ) (s : Story) (now : Option Story) → MadeReads (given pages) s now → HaveBeenRead pages s now
read-pages pages s now made = record { calls = made.calls; told = made.told; reads = ap reads_in made.made ∙ reads_in-made (clock_of s) pages }

-- behind them a record may have been written
read-before : (pages : List ℕ) (s : Story) (mid now : Option Story) (log : Log) (r : Record) → MadeReads (given pages) s mid → length (record_bytes r) ≡ 95 → now ≡ all_noted (append_calls log r) mid → HaveBeenRead pages s now
read-before pages s mid now log r made width did =
    let plan : Calls = append_calls log r in
    let end : ℕ = clock_of s + length made.calls in
    record {
      calls = made.calls ++ plan;
      told = did ∙ all_noted-told (after s made.calls) plan mid made.told ∙ ap (λ (t : Story). Some t) (sym (after-append s made.calls plan));
      reads =
          ap reads_in (ok_calls-append (clock_of s) made.calls plan)
          ∙ reads_in-append (ok_calls (clock_of s) made.calls) (ok_calls end plan)
          ∙ ap (λ (calls : List DeviceCall). reads_in (ok_calls (clock_of s) made.calls) ++ reads_in calls) (append-calls end log r width)
          ∙ append-nil (reads_in (ok_calls (clock_of s) made.calls))
          ∙ ap reads_in made.made ∙ reads_in-made (clock_of s) pages;
    }

module _ (old : StoreState) (now : DeviceState) where
  pub tested : {X Y : Type 0} (x : X) (y : Y) (pages : List ℕ) → HasRead old.lists old.device now (Ok x) pages → TestsPages old now (Ok y)
  tested x y pages read s told contents is = (pages, read-pages pages s now.story (read.made s told), read.tested contents is)

  -- with a write behind the reads
  pub tested-before : {X Y : Type 0} (mid : DeviceState) (x : X) (y : Y) (pages : List ℕ) (log : Log) (r : Record) → HasRead old.lists old.device mid (Ok x) pages
      → length (record_bytes r) ≡ 95 → now.story ≡ all_noted (append_calls log r) mid.story → TestsPages old now (Ok y)
  tested-before mid x y pages log r read width did s told contents is = (pages, read-before pages s mid.story now.story log r (read.made s told) width did, read.tested contents is)

  pub damaged : {X : Type 0} (Y : Type 0) (fault : PageFault) (pages : List ℕ) → HasRead {X = X} old.lists old.device now (Err fault) pages
      → TestsPages {X = Y} old now (Err (refusal_of fault))
  damaged Y page.Failed pages read s told contents is = tt
  damaged Y (page.Damaged n) pages read s told contents is = (pages, read-pages pages s now.story (read.made s told), read.went.stops, read.damaged contents is)
  damaged Y page.OutOfMemory pages read s told contents is = tt

-- a write behind the read of its row
pub tested-write : (old : StoreState) (mid now : DeviceState) (op : LogOp) (row : Option Row) (result : Result Wrote Refusal) (pages : List ℕ) → HasRead old.lists old.device mid (Ok row) pages
    → OnOk result (HasAppended (record old { device = mid }) now op row) → IfErr result (λ refusal. refusal ≡ Fault) → TestsPages old now result
tested-write old mid now op row (Ok wrote) pages read logged fault = tested-before old now mid row wrote pages old.log (next_record old.log op (old_point row)) read logged.width logged.did
tested-write old mid now op row (Err refusal) pages read logged fault = subst (λ (r : Refusal). TestsPages {X = Wrote} old now (Err r)) (sym fault) (λ s told contents is. tt)

-- a refusal before anything is done
pub untested : (X : Type 0) (s : StoreState) (now : DeviceState) (refusal : Refusal) → RefusesNow s refusal → TestsPages {X = X} s now (Err refusal)
untested X s now Fault why = λ t told contents is. tt
untested X s now (Stopped faults) why = λ t told contents is. tt
untested X s now (Full need longest) why = λ t told contents is. tt
untested X s now (Again ops) why = λ t told contents is. tt
untested X s now NoIndex why = λ t told contents is. tt
untested X s now (Damaged n) why = absurd why
untested X s now OutOfMemory why = λ t told contents is. tt
