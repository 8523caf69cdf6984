-- The store after its active list was frozen.
use Rattle.std.proofs.Common.{◌≡◌, inl, inr, ℕ, ◌+◌, ◌<◌, true, false, List, [], ◌++◌, length, append-nil, set, All, Option, Some, None, Result, Ok, Err, refl, sym, ◌∙◌, ap, subst, arith}
use Rattle.std.proofs.lemmas.Nat.{mod_below}
use Rattle.std.proofs.lemmas.Option.{same_Some}
use Rattle.std.proofs.lemmas.List.Elements.{All-nil, All-cons}
use Rattle.std.specs.Result.{IsErr}
use Rattle.dev_model.specs.Story.{Bytes, DeviceState, Story, WhereTold, after, bytes_of, clock_of, IsOutside}
use Rattle.dev_model.specs.Moments.{LeavesOnly}
use Rattle.dev_model.specs.Writes.{WritesWithin}
use Rattle.dev_model.specs.Laws.CallLists.{clock_of-after}
use Rattle.dev_model.specs.Laws.Frame.{WritesWithin-wider}
use Rattle.dev_model.specs.Laws.Images.{IsImage-bytes}
use Rattle.table_model.specs.Table.{Table, rows_of}
use Rattle.wal_log.specs.Changes.{HasSameRecords}
use Rattle.wal_log.specs.Later.{later}
use Rattle.wal_log.specs.Places.{segment_start}
use Rattle.wal_log.specs.Rules.{Opens as LogOpens, records_of}
use Rattle.wal_log.specs.Segments.{segments_of}
use Rattle.wal_log.specs.State.{IsAtRest as LogAtRest, IsLogOf, following}
use Rattle.wal_log.specs.declared.places.TheConstants.{LOG_BYTES, SEGMENT_BYTES}
use Rattle.wal_log.specs.declared.log.Log.{Log}
use Rattle.wal_log.specs.declared.records.Record.{Record}
use Rattle.format_numbers.specs.declared.TheConstants.{LOG_START}
use Rattle.component_image.specs.Replayed.{replayed}
use Rattle.primary_ix.specs.declared.rows.PrimRow.{PrimRow}
use Rattle.component_image.specs.Components.{end_of}
use Rattle.component_image.specs.Laid.{table_of}
use Rattle.component_image.specs.Beside.{IsBeside}
use Rattle.component_image.specs.Recovered.{ends_of, primary_of, Recovers}
use Rattle.component_image.specs.Resting.{Rests}
use Rattle.component_image.specs.Laws.Keeping.{turn-images, turn-rests}
use Rattle.store_state.specs.declared.jobs.JobRow.{JobRow}
use Rattle.store_state.specs.Lists.{Lists, placed_up_to}
use Rattle.store_state.specs.EveryList.{IsCut, IsLists, IsPlannedIf}
use Rattle.store_state.specs.Steps.{frozen_at}
use Rattle.store_state.specs.Stepping.{AreInOrder, KeepsTable}
use Rattle.store_state.specs.Keeping.{IsKept, IsFrozenOf, IsUnderWayIf}
use Rattle.store_state.specs.Reading.{IsLegible}
use Rattle.store_state.specs.Laws.ReadingStays.{legible-before, legible-frozen}
use Rattle.kept_state.proofs.Stays.{components-stay, slots-stay, end-is, end-stays, off-log}

-- a change of segments writes in the log
turn-within : (log : Log) (s : Story) (now : Option Story) → log.start ≡ LOG_START → WritesWithin (segment_start log.start (following log)) SEGMENT_BYTES s now → WritesWithin LOG_START LOG_BYTES s now
turn-within log s now start within =
    let below : following log < 4 = mod_below (log.generation + 1) 4 (omega arith) in
    WritesWithin-wider (segment_start log.start (following log)) SEGMENT_BYTES LOG_START LOG_BYTES s now (omega (arith, start)) (omega (arith, start, below)) within

-- where nothing is frozen the components end right before the newest segment
cut-placed : (l : Lists) → IsLists l → l.frozen ≡ None → l.cut ≡ placed_up_to l.components
cut-placed l lists none = subst (λ (frozen : Option (List PrimRow)). IsCut frozen (placed_up_to l.components) l.cut) none lists.is_cut

no_job : (l other : Lists) (t : Story) (job : Option JobRow) → l.frozen ≡ None → IsPlannedIf l job → IsUnderWayIf other job t
no_job l other t None none planned = tt
no_job l other t (Some row) none planned = absurd (planned.frozen none)

-- the store where the log goes on in a new segment, and has the same records behind the components
module _ (pages : ℕ) (log next : Log) (table : Table) (l : Lists) (s t : Story) (last : ℕ) (kept : IsKept pages log table l s) (within : WritesWithin LOG_START LOG_BYTES s (Some t)) (lists : IsLists l)
    (rests : Rests pages next table t) (records : next.records ≡ 0) (none : l.frozen ≡ None)
    (same : later (placed_up_to l.components) (records_of (segments_of LOG_START (bytes_of t))) ≡ later (placed_up_to l.components) (records_of (segments_of LOG_START (bytes_of s)))) where
  off : (i : ℕ) → IsBeside (bytes_of s) i → IsOutside LOG_START LOG_BYTES i
  off = off-log pages log table l s t kept within

  -- no write was frozen before
  writes_now : later (placed_up_to l.components) (records_of (segments_of LOG_START (bytes_of t))) ≡ kept.held.active_writes
  writes_now =
      same ∙ kept.held.writes
      ∙ ap (λ (rs : List Record). rs ++ kept.held.active_writes) (subst (λ (frozen : Option (List PrimRow)). IsFrozenOf frozen kept.held.frozen_writes) none kept.held.frozen_is)

  table_now : table ≡ replayed (table_of rests.recovers.lists) kept.held.active_writes
  table_now =
      rests.recovers.table_is
      ∙ ap (λ (n : ℕ). replayed (table_of rests.recovers.lists) (later n (records_of (segments_of LOG_START (bytes_of t))))) (end-stays pages log table l s t LOG_START LOG_BYTES kept within off)
      ∙ ap (replayed (table_of rests.recovers.lists)) writes_now

  kept-frozen : IsKept pages next table (frozen_at last l) t
  kept-frozen = record {
    held = record {
      rests = rests;
      components = components-stay pages log table l s t LOG_START LOG_BYTES kept within off;
      slots = slots-stay pages log table l s t LOG_START LOG_BYTES kept within off;
      frozen_writes = kept.held.active_writes;
      active_writes = [];
      writes = writes_now ∙ sym (append-nil kept.held.active_writes);
      frozen_is = kept.held.active_is;
      active_is = refl;
      active_count = sym records;
      rows_are = kept.held.rows_are;
      cut_rows_are = kept.held.rows_are ∙ ap (λ (u : Table). length (rows_of u)) table_now;
    };
    under_way = no_job l (frozen_at last l) t l.job none lists.planned;
  }

-- A change of segments, whether one of its calls failed or not. The premises behind the log and the lists are what the log says of it.
module _ (old now : DeviceState) (log next : Log) (l m : Lists) (in_order : AreInOrder log l) (none : l.frozen ≡ None)
    (within : WhereTold old.story (λ s. WritesWithin (segment_start log.start (following log)) SEGMENT_BYTES s now.story))
    (recovers : WhereTold old.story (λ s. LogAtRest log s → IsLogOf log (segments_of log.start (bytes_of s)) → (ends : List ℕ) → All (λ last. last + 1 + log.records ≡ log.next_lsn) ends → LogOpens ends (segments_of log.start (bytes_of s))
    → LeavesOnly s now.story (λ image. HasSameRecords ends (following log) (segments_of log.start (bytes_of s)) (segments_of log.start image))))
    (same : WhereTold old.story (λ s. IsLogOf log (segments_of log.start (bytes_of s)) → (last : ℕ) → last + 1 + log.records ≡ log.next_lsn
    → later last (records_of (set (segments_of log.start (bytes_of s)) (following log) None)) ≡ later last (records_of (segments_of log.start (bytes_of s))))) where
  wide : (s : Story) → old.story ≡ Some s → WritesWithin LOG_START LOG_BYTES s now.story
  wide s is = turn-within log s now.story in_order.numbered.start (within s is)

  there : placed_up_to l.components + 1 + log.records ≡ log.next_lsn
  there = omega (arith, in_order.numbered.next, cut-placed l in_order.lists none)

  ends : (table : Table) (s : Story) → IsKept old.pages log table l s → end_of (primary_of (bytes_of s)) + 1 + log.records ≡ log.next_lsn
  ends table s kept = omega (arith, there, end-is old.pages log table l s kept)

  abbrev TurnsAt : Story → ℕ → Type 0
  TurnsAt s at =
      IsLogOf log (segments_of at (bytes_of s)) → (ends : List ℕ) → All (λ last. last + 1 + log.records ≡ log.next_lsn) ends → LogOpens ends (segments_of at (bytes_of s))
      → LeavesOnly s now.story (λ image. HasSameRecords ends (following log) (segments_of at (bytes_of s)) (segments_of at image))

  abbrev LaterAt : Story → ℕ → Type 0
  LaterAt s at =
      IsLogOf log (segments_of at (bytes_of s)) → (last : ℕ) → last + 1 + log.records ≡ log.next_lsn
      → later last (records_of (set (segments_of at (bytes_of s)) (following log) None)) ≡ later last (records_of (segments_of at (bytes_of s)))

  module _ (table : Table) (s : Story) (is : old.story ≡ Some s) (kept : IsKept old.pages log table l s) where
    same_later : (last : ℕ) → last + 1 + log.records ≡ log.next_lsn
        → later last (records_of (set (segments_of LOG_START (bytes_of s)) (following log) None)) ≡ later last (records_of (segments_of LOG_START (bytes_of s)))
    same_later = subst (LaterAt s) kept.held.rests.log_start (same s is) kept.held.rests.log_of

    run : LeavesOnly s now.story (λ image. HasSameRecords (ends_of (primary_of (bytes_of s))) (following log) (segments_of LOG_START (bytes_of s)) (segments_of LOG_START image))
    run = subst (TurnsAt s) kept.held.rests.log_start (recovers s is kept.held.rests.log_rest) kept.held.rests.log_of (ends_of (primary_of (bytes_of s)))
        (All-cons (λ last. last + 1 + log.records ≡ log.next_lsn) (end_of (primary_of (bytes_of s))) [] (ends table s kept) (All-nil (λ last. last + 1 + log.records ≡ log.next_lsn))) kept.held.rests.recovers.opens.log

    leaves_here : LeavesOnly s now.story (Recovers old.pages table)
    leaves_here = record {
      calls = run.calls;
      told = run.told;
      each = turn-images old.pages log table s (after s run.calls) LOG_START LOG_BYTES now.story kept.held.rests (wide s is) run.told (omega arith) (omega arith) (following log)
          (same_later (end_of (primary_of (bytes_of s))) (ends table s kept)) run.each;
    }

    turned : (t : Story) → now.story ≡ Some t → HasSameRecords (ends_of (primary_of (bytes_of s))) (following log) (segments_of LOG_START (bytes_of s)) (segments_of LOG_START (bytes_of t))
    turned t told =
        subst (λ (u : Story). HasSameRecords (ends_of (primary_of (bytes_of s))) (following log) (segments_of LOG_START (bytes_of s)) (segments_of LOG_START (bytes_of u))) (same_Some _ _ (sym run.told ∙ told))
        (run.each (clock_of (after s run.calls)) (omega (arith, clock_of-after s run.calls)) (omega arith) (bytes_of (after s run.calls)) (IsImage-bytes (after s run.calls)))

    later_there : (bytes : Bytes) → HasSameRecords (ends_of (primary_of (bytes_of s))) (following log) (segments_of LOG_START (bytes_of s)) (segments_of LOG_START bytes)
        → later (placed_up_to l.components) (records_of (segments_of LOG_START bytes)) ≡ later (placed_up_to l.components) (records_of (segments_of LOG_START (bytes_of s)))
    later_there bytes (inl opens) = ap (later (placed_up_to l.components)) opens.records_are
    later_there bytes (inr opens) = ap (later (placed_up_to l.components)) opens.records_are ∙ same_later (placed_up_to l.components) there

  leaves : (table : Table) (s : Story) → old.story ≡ Some s → IsKept old.pages log table l s → LeavesOnly s now.story (Recovers old.pages table)
  leaves table s is kept = leaves_here table s is kept

  legible : (table : Table) (disk : List (List PrimRow)) (s : Story) → old.story ≡ Some s → IsLegible table disk l s → (t : Story) → now.story ≡ Some t → IsLegible table disk l t
  legible table disk s is before t told = legible-before table disk l s t LOG_START LOG_BYTES now.story in_order.lists before (wide s is) told (omega arith)

  pub freeze-failed : {X E : Type 0} (result : Result X E) → IsErr result → KeepsTable (λ disk. disk) old now log next l m result
  freeze-failed (Ok x) err = absurd (let no : false ≡ true = err in cc)
  freeze-failed (Err e) err = record { any_moment = leaves; kept = λ table. tt; legible = legible; grows = λ table disk. tt }

  pub freeze-keeps : {X E : Type 0} (x : X) (last : ℕ) → m ≡ frozen_at last l → next.start ≡ log.start → next.records ≡ 0
      → WhereTold old.story (λ s. LogAtRest log s → WhereTold now.story (LogAtRest next))
      → WhereTold old.story (λ s. LogAtRest log s → IsLogOf log (segments_of log.start (bytes_of s)) → WhereTold now.story (λ t. IsLogOf next (segments_of log.start (bytes_of t))))
      → KeepsTable {E = E} (λ disk. disk) old now log next l m (Ok x)
  freeze-keeps x last frozen start records at_rest log_of = record { any_moment = leaves; kept = kept_then; legible = legible; grows = grown }
    where
      kept_then : (table : Table) (s : Story) → old.story ≡ Some s → IsKept old.pages log table l s → (t : Story) → now.story ≡ Some t → IsKept old.pages next table m t
      kept_then table s is kept t told =
          let rest : Rests old.pages log table s = kept.held.rests in
          let here : WritesWithin LOG_START LOG_BYTES s (Some t) = subst (WritesWithin LOG_START LOG_BYTES s) told (wide s is) in
          subst (λ (other : Lists). IsKept old.pages next table other t) (sym frozen)
          (kept-frozen old.pages log next table l s t last kept here in_order.lists
          (turn-rests old.pages log table s t LOG_START LOG_BYTES (Some t) rest here refl (omega arith) (omega arith) (following log) next (same_later table s is kept (end_of (primary_of (bytes_of s))) (ends table s kept)) (start ∙ rest.log_start)
          (at_rest s is rest.log_rest t told)
          (subst (λ (at : ℕ). IsLogOf log (segments_of at (bytes_of s)) → IsLogOf next (segments_of at (bytes_of t))) rest.log_start (λ of. log_of s is rest.log_rest of t told) rest.log_of)
          (turned table s is kept t told))
          records none (later_there table s is kept (bytes_of t) (turned table s is kept t told)))

      grown : (table : Table) (disk : List (List PrimRow)) (s : Story) → old.story ≡ Some s → IsKept old.pages log table l s × IsLegible table disk l s → (t : Story) → now.story ≡ Some t → IsLegible table disk m t
      grown table disk s is both t told =
          subst (λ (other : Lists). IsLegible table disk other t) (sym frozen) (legible-frozen table disk l t last none (legible table disk s is both.1 t told))
