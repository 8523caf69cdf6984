-- The store after a write that was logged and laid in memory.
use Rattle.std.proofs.Common.{◌≡◌, ℕ, ◌+◌, ◌<◌, ◌≤◌, true, false, List, [], ◌∷◌, ◌++◌, length, length-append, Option, Some, None, Result, Ok, Err, is_some, refl, sym, ◌∙◌, ap, subst, arith}
use Rattle.std.proofs.lemmas.List.{append_assoc}
use Rattle.std.proofs.lemmas.Nat.{mod_below}
use Rattle.std.specs.Result.{IsErr}
use Rattle.dev_model.specs.Story.{DeviceState, Story, WhereTold, after, bytes_of, IsOutside}
use Rattle.dev_model.specs.Moments.{LeavesOnly}
use Rattle.dev_model.specs.Writes.{WritesWithin}
use Rattle.dev_model.specs.Laws.Frame.{WritesWithin-wider}
use Rattle.order_merge.specs.Adding.{with_entry}
use Rattle.table_model.specs.Table.{Table, rows_of}
use Rattle.table_model.specs.Answers.{after_write}
use Rattle.wal_log.specs.Changes.{HasRecordsOr, OpensAs}
use Rattle.wal_log.specs.Later.{later}
use Rattle.wal_log.specs.Laws.Later.{later-push}
use Rattle.wal_log.specs.Places.{record_start}
use Rattle.wal_log.specs.Rules.{Opens as LogOpens, records_of}
use Rattle.wal_log.specs.Segments.{segments_of}
use Rattle.wal_log.specs.State.{IsAtRest as LogAtRest, IsLogOf, newest}
use Rattle.wal_log.specs.declared.places.TheConstants.{LOG_BYTES, MOST_RECORDS}
use Rattle.wal_log.specs.declared.log.Log.{Log}
use Rattle.wal_log.specs.declared.records.Record.{Record}
use Rattle.format_numbers.specs.declared.TheConstants.{LOG_START}
use Rattle.component_image.specs.Replayed.{write_of, replayed}
use Rattle.primary_ix.specs.Reading.{prim_reading}
use Rattle.primary_ix.specs.Wanted.{written_row}
use Rattle.primary_ix.specs.declared.rows.PrimRow.{PrimRow}
use Rattle.component_image.specs.Changes.{changed}
use Rattle.component_image.specs.Components.{end_of}
use Rattle.component_image.specs.Laid.{table_of}
use Rattle.component_image.specs.Recovered.{ends_of, primary_of}
use Rattle.component_image.specs.Beside.{IsBeside}
use Rattle.component_image.specs.Resting.{Rests}
use Rattle.component_image.specs.Standing.{RecoversEither}
use Rattle.component_image.specs.Told.{SaysOld}
use Rattle.component_image.specs.Laws.Keeping.{append-images, append-rests}
use Rattle.store_state.specs.Lists.{Lists, placed_up_to}
use Rattle.store_state.specs.EveryList.{IsCut}
use Rattle.store_state.specs.Steps.{added, rows_with}
use Rattle.store_state.specs.Stepping.{AreInOrder, LogsWrite}
use Rattle.store_state.specs.Keeping.{IsKept}
use Rattle.store_state.specs.Reading.{IsLegible}
use Rattle.store_state.specs.Laws.ReadingStays.{legible-before}
use Rattle.kept_state.proofs.Counting.{rows-written, told-had}
use Rattle.kept_state.proofs.Few.{rows-few}
use Rattle.kept_state.proofs.Stays.{components-stay, slots-stay, end-is, lists-stay, job-stays, off-log}

-- one write more
changed-push : (rows : List PrimRow) (records : List Record) (r : Record) → changed rows (records ++ r ∷ []) ≡ with_entry prim_reading (written_row (write_of r.op)) (changed rows records)
changed-push rows [] r = refl
changed-push rows (first ∷ records) r = changed-push (with_entry prim_reading (written_row (write_of first.op)) rows) records r

-- the components have writes before the next one alone
placed-behind : (log : Log) (l : Lists) → AreInOrder log l → placed_up_to l.components < log.next_lsn
placed-behind log l in_order = omega (arith, in_order.numbered.next, by_frozen l.frozen in_order.lists.is_cut)
  where
    by_frozen : (frozen : Option (List PrimRow)) → IsCut frozen (placed_up_to l.components) l.cut → placed_up_to l.components ≤ l.cut
    by_frozen None cut = omega (arith, cut)
    by_frozen (Some rows) cut = omega (arith, cut)

-- an append writes in the log
append-within : (log : Log) (s : Story) (now : Option Story) → log.start ≡ LOG_START → log.records < MOST_RECORDS → WritesWithin (record_start log.start (newest log) log.records) 97 s now → WritesWithin LOG_START LOG_BYTES s now
append-within log s now start room within =
    let below : newest log < 4 = mod_below log.generation 4 (omega arith) in
    WritesWithin-wider (record_start log.start (newest log) log.records) 97 LOG_START LOG_BYTES s now (omega (arith, start)) (omega (arith, start, below, room)) within

-- the store where the log has one record more
kept-logged : (pages : ℕ) (log next : Log) (table : Table) (l : Lists) (s t : Story) (r : Record) (kept : IsKept pages log table l s) → WritesWithin LOG_START LOG_BYTES s (Some t) → AreInOrder log l → r.lsn ≡ log.next_lsn
    → Rests pages next (after_write table (write_of r.op)) t → next.records ≡ log.records + 1 → records_of (segments_of LOG_START (bytes_of t)) ≡ records_of (segments_of LOG_START (bytes_of s)) ++ r ∷ [] → SaysOld table r
    → IsKept pages next (after_write table (write_of r.op)) (added (written_row (write_of r.op)) (is_some r.old_point) l) t
kept-logged pages log next table l s t r kept within in_order next_is rests records logged says = record {
  held = record {
    rests = rests;
    components = components-stay pages log table l s t LOG_START LOG_BYTES kept within off;
    slots = slots-stay pages log table l s t LOG_START LOG_BYTES kept within off;
    frozen_writes = kept.held.frozen_writes;
    active_writes = kept.held.active_writes ++ r ∷ [];
    writes = ap (later (placed_up_to l.components)) logged
        ∙ later-push (placed_up_to l.components) (records_of (segments_of LOG_START (bytes_of s))) r (omega (arith, next_is, placed-behind log l in_order))
        ∙ ap (λ (rs : List Record). rs ++ r ∷ []) kept.held.writes
        ∙ append_assoc kept.held.frozen_writes kept.held.active_writes (r ∷ []);
    frozen_is = kept.held.frozen_is;
    active_is = ap (with_entry prim_reading (written_row (write_of r.op))) kept.held.active_is ∙ sym (changed-push [] kept.held.active_writes r);
    active_count = omega (arith, length-append kept.held.active_writes (r ∷ []), kept.held.active_count, records);
    rows_are = ap (rows_with (is_some (written_row (write_of r.op)).matter) (is_some r.old_point)) kept.held.rows_are
        ∙ rows-written table r.op (is_some r.old_point) (told-had table r says) (rows-few pages log table l s kept in_order.lists in_order.counted);
    cut_rows_are = kept.held.cut_rows_are ∙ ap (λ (lists : List (List PrimRow)). length (rows_of (replayed (table_of lists) kept.held.frozen_writes)))
        (sym (lists-stay pages log table l s t LOG_START LOG_BYTES kept within off (after_write table (write_of r.op)) rests.recovers));
  };
  under_way = job-stays pages log table l s t kept within (added (written_row (write_of r.op)) (is_some r.old_point) l) l.job (λ row. refl) in_order.lists.planned kept.under_way;
}
  where
    off : (i : ℕ) → IsBeside (bytes_of s) i → IsOutside LOG_START LOG_BYTES i
    off = off-log pages log table l s t kept within

-- An append, whether one of its calls failed or not. The premises behind the log and the lists are what the log says of it.
module _ (old now : DeviceState) (log next : Log) (l m : Lists) (r : Record) (in_order : AreInOrder log l) (room : log.records < MOST_RECORDS) (next_is : r.lsn ≡ log.next_lsn)
    (within : WhereTold old.story (λ s. WritesWithin (record_start log.start (newest log) log.records) 97 s now.story))
    (recovers : WhereTold old.story (λ s. LogAtRest log s → IsLogOf log (segments_of log.start (bytes_of s)) → (ends : List ℕ) → LogOpens ends (segments_of log.start (bytes_of s))
    → LeavesOnly s now.story (λ image. HasRecordsOr ends (records_of (segments_of log.start (bytes_of s))) r (segments_of log.start image)))) where
  wide : (s : Story) → old.story ≡ Some s → WritesWithin LOG_START LOG_BYTES s now.story
  wide s is = append-within log s now.story in_order.numbered.start room (within s is)

  behind : (table : Table) (s : Story) → IsKept old.pages log table l s → end_of (primary_of (bytes_of s)) < r.lsn
  behind table s kept = omega (arith, next_is, end-is old.pages log table l s kept, placed-behind log l in_order)

  abbrev RecoversAt : Story → ℕ → Type 0
  RecoversAt s at =
      IsLogOf log (segments_of at (bytes_of s)) → (ends : List ℕ) → LogOpens ends (segments_of at (bytes_of s))
      → LeavesOnly s now.story (λ image. HasRecordsOr ends (records_of (segments_of at (bytes_of s))) r (segments_of at image))

  leaves : (table : Table) → SaysOld table r → (s : Story) → old.story ≡ Some s → IsKept old.pages log table l s → LeavesOnly s now.story (RecoversEither old.pages table (after_write table (write_of r.op)))
  leaves table says s is kept =
      let rest : Rests old.pages log table s = kept.held.rests in
      let run : LeavesOnly s now.story (λ image. HasRecordsOr (ends_of (primary_of (bytes_of s))) (records_of (segments_of LOG_START (bytes_of s))) r (segments_of LOG_START image)) =
      subst (RecoversAt s) rest.log_start (recovers s is rest.log_rest) rest.log_of (ends_of (primary_of (bytes_of s))) rest.recovers.opens.log in
      record {
        calls = run.calls;
        told = run.told;
        each = append-images old.pages log table s (after s run.calls) LOG_START LOG_BYTES now.story rest (wide s is) run.told (omega arith) (omega arith) r (behind table s kept) says run.each;
      }

  legible : (table : Table) (disk : List (List PrimRow)) (s : Story) → old.story ≡ Some s → IsLegible table disk l s → (t : Story) → now.story ≡ Some t → IsLegible table disk l t
  legible table disk s is before t told = legible-before table disk l s t LOG_START LOG_BYTES now.story in_order.lists before (wide s is) told (omega arith)

  abbrev LoggedAt : (s t : Story) → ℕ → Type 0
  LoggedAt s t at =
      IsLogOf log (segments_of at (bytes_of s)) → (ends : List ℕ) → LogOpens ends (segments_of at (bytes_of s))
      → OpensAs ends (records_of (segments_of at (bytes_of s)) ++ r ∷ []) (segments_of at (bytes_of t))

  pub write-failed : {X E : Type 0} (result : Result X E) → IsErr result → LogsWrite r old now log next l m result
  write-failed (Ok x) err = absurd (let no : false ≡ true = err in cc)
  write-failed (Err e) err = record { any_moment = leaves; kept = λ table says. tt; legible = legible }

  pub write-logged : {X E : Type 0} (x : X) → m ≡ added (written_row (write_of r.op)) (is_some r.old_point) l → next.start ≡ log.start → next.records ≡ log.records + 1
      → WhereTold old.story (λ s. LogAtRest log s → WhereTold now.story (LogAtRest next))
      → WhereTold old.story (λ s. LogAtRest log s → IsLogOf log (segments_of log.start (bytes_of s)) → WhereTold now.story (λ t. IsLogOf next (segments_of log.start (bytes_of t))))
      → WhereTold old.story (λ s. LogAtRest log s → IsLogOf log (segments_of log.start (bytes_of s)) → (ends : List ℕ) → LogOpens ends (segments_of log.start (bytes_of s))
      → WhereTold now.story (λ t. OpensAs ends (records_of (segments_of log.start (bytes_of s)) ++ r ∷ []) (segments_of log.start (bytes_of t))))
      → LogsWrite {E = E} r old now log next l m (Ok x)
  write-logged x laid start records at_rest log_of logged = record { any_moment = leaves; kept = kept_then; legible = legible }
    where
      kept_then : (table : Table) → SaysOld table r → (s : Story) → old.story ≡ Some s → IsKept old.pages log table l s → (t : Story) → now.story ≡ Some t → IsKept old.pages next (after_write table (write_of r.op)) m t
      kept_then table says s is kept t told =
          let rest : Rests old.pages log table s = kept.held.rests in
          let here : WritesWithin LOG_START LOG_BYTES s (Some t) = subst (WritesWithin LOG_START LOG_BYTES s) told (wide s is) in
          let opens : OpensAs (ends_of (primary_of (bytes_of s))) (records_of (segments_of LOG_START (bytes_of s)) ++ r ∷ []) (segments_of LOG_START (bytes_of t)) =
          subst (LoggedAt s t) rest.log_start (λ of ends open_log. logged s is rest.log_rest of ends open_log t told) rest.log_of (ends_of (primary_of (bytes_of s))) rest.recovers.opens.log in
          subst (λ (other : Lists). IsKept old.pages next (after_write table (write_of r.op)) other t) (sym laid)
          (kept-logged old.pages log next table l s t r kept here in_order next_is
          (append-rests old.pages log table s t LOG_START LOG_BYTES (Some t) rest here refl (omega arith) (omega arith) r next (behind table s kept) says (start ∙ rest.log_start)
          (at_rest s is rest.log_rest t told)
          (subst (λ (at : ℕ). IsLogOf log (segments_of at (bytes_of s)) → IsLogOf next (segments_of at (bytes_of t))) rest.log_start (λ of. log_of s is rest.log_rest of t told) rest.log_of) opens)
          records opens.records_are says)
