-- What an append and a change of segments do, from the calls that they make.
use Rattle.std.proofs.Common.{◌≡◌, ℕ, ◌+◌, ◌<◌, ◌≤◌, List, [], ◌∷◌, ◌++◌, Option, None, Some, Result, OnOk, length, map, get_or, set, false, refl, sym, ap, subst, arith}
use Rattle.std.proofs.lemmas.Nat.{mod_below}
use Rattle.dev_model.specs.Story.{Story, Calls, after}
use Rattle.dev_model.specs.Doing.{Did}
use Rattle.dev_model.specs.Moments.{LeavesOnly}
use Rattle.dev_model.specs.Writes.{WritesWithin}
use Rattle.dev_model.specs.Laws.Frame.{WritesWithin-did}
use Rattle.dev_model.specs.Laws.Plans.{Did-same}
use Rattle.dev_model.specs.Laws.Runs.{LeavesOnly-weaker}
use Rattle.gate.specs.Calls.{gated_calls}
use Rattle.gate.specs.Laws.Plans.{leaves-did, after-did, after-same}
use Rattle.gate.specs.Laws.Gates.{gated-within}
use Rattle.wal_log.specs.Places.{segment_start, record_start}
use Rattle.wal_log.specs.Records.{record_bytes, record_of, IsRecord}
use Rattle.wal_log.specs.Segments.{Segments, segments_of}
use Rattle.wal_log.specs.Growing.{with_record, behind_gate, started_segment}
use Rattle.wal_log.specs.Rules.{AreRecords, records_of}
use Rattle.wal_log.specs.State.{IsAtRest, IsLogOf, newest, following, close_calls_if, start_calls, turn_calls}
use Rattle.wal_log.specs.Counted.{IsCounted}
use Rattle.wal_log.specs.Changes.{append_calls, appended, turned, segments_in, first_header, IsBeforeOrAfter, IsTurning, Appends, Turns, OpensAs}
use Rattle.wal_log.specs.declared.log.Log.{Log}
use Rattle.wal_log.specs.declared.records.Record.{Record}
use Rattle.wal_log.proofs.Growing.{append-all, append-grown, append-rests, length-appended}
use Rattle.wal_log.proofs.Turning.{turned-leaves, turned-segments, turned-rests, turn-spared}
use Rattle.wal_log.proofs.Keeping.{one-record, log_of-append, recovers-append, opens-append}
use Rattle.wal_log.proofs.Renewing.{log_of-turn, same-records}

-- an append
module _ {X E : Type 0} (log next : Log) (r : Record) (s : Story) (old now : Option Story) (result : Result X E) (is : old ≡ Some s) (at : ℕ) (body : List ℕ) (place : at ≡ record_start log.start (newest log) log.records)
    (spelled : body ≡ behind_gate (record_bytes r ∷ [])) (made : Did (gated_calls at body) old now result) (wide : length (record_bytes r) ≡ 95) where
  did : Did (append_calls log r) old now result
  did = Did-same X E (gated_calls at body) (append_calls log r) old now result (λ j. gated_calls (place j) (spelled j)) made

  pub append-within : WritesWithin (record_start log.start (newest log) log.records) 97 s now
  append-within = subst (λ (n : ℕ). WritesWithin (record_start log.start (newest log) log.records) n s now) (length-appended (r ∷ []) (wide, tt) (omega arith))
      (gated-within (record_start log.start (newest log) log.records) (behind_gate (record_bytes r ∷ [])) s old now result is did)

  module _ (rest : IsAtRest log s) (room : log.records < 2048) (lawful : IsRecord log.next_lsn (record_bytes r)) (back : record_of (record_bytes r) ≡ r) (grown : OnOk result (next ≡ appended log)) where
    abbrev bodies : List (List ℕ)
    bodies = record_bytes r ∷ []

    abbrev with_it : Segments
    with_it = set (segments_in log s) (newest log) (with_record (record_bytes r) (get_or (segments_in log s) (newest log) None))

    pub appends : Appends log next r result s now
    appends = record {
      any_moment = any_moment;
      at_rest = after-same s (append_calls log r) IsAtRest next (appended log) old now result (append-rests s log rest below (r ∷ []) few (wide, tt) (omega arith) (appended log) refl refl refl refl) is did grown;
      segments = after-did s (append_calls log r) (λ t. segments_in log t ≡ with_it) old now result at_end is did;
      log_of = λ of. after-same s (append_calls log r) (λ l t. IsLogOf l (segments_in log t)) next (appended log) old now result
          (subst (IsLogOf (appended log)) (sym at_end) (log_of-append log (segments_in log s) (omega arith) bodies few are of (appended log) refl refl refl)) is did grown;
      recovers = λ of ends opens. LeavesOnly-weaker s now _ _ (λ image either. recovers-append log (segments_in log s) (omega arith) bodies few are of ends (r ∷ []) (segments_of log.start image) same opens either) any_moment;
      logged = λ of ends opens. after-did s (append_calls log r) (λ t. OpensAs ends (records_of (segments_in log s) ++ r ∷ []) (segments_in log t)) old now result
          (subst (OpensAs ends (records_of (segments_in log s) ++ r ∷ [])) (sym at_end) (opens-append log (segments_in log s) (omega arith) bodies few are of ends (r ∷ []) same opens)) is did;
    }
      where
        below : newest log < 4
        below = mod_below log.generation 4 (omega arith)

        few : log.records + length (r ∷ []) ≤ 2048
        few = omega (arith, room)

        are : AreRecords log.next_lsn bodies
        are = one-record log.next_lsn (record_bytes r) lawful

        same : map record_of bodies ≡ r ∷ []
        same = ap (λ (x : Record). x ∷ []) back

        at_end : segments_in log (after s (append_calls log r)) ≡ with_it
        at_end = append-grown s log rest below (r ∷ []) few (wide, tt) (omega arith)

        any_moment : LeavesOnly s now (λ image. IsBeforeOrAfter (newest log) (record_bytes r) (segments_in log s) (segments_of log.start image))
        any_moment = leaves-did s (append_calls log r) _ old now result (append-all s log rest below (r ∷ []) few (wide, tt) (omega arith)) is did

-- the calls of a change, where the flag of this place was looked at
abbrev turn_calls_at : Log → ℕ → Calls
turn_calls_at log k = close_calls_if log.start (get_or log.open_headers k false) (following log) ++ start_calls log.start (following log) (log.generation + 1) log.next_lsn

-- a change of segments
module _ {X E : Type 0} (log next : Log) (s : Story) (old now : Option Story) (result : Result X E) (is : old ≡ Some s) (k : ℕ) (place : k ≡ following log) (made : Did (turn_calls_at log k) old now result) where
  turned_so : Did (turn_calls log) old now result
  turned_so = Did-same X E (turn_calls_at log k) (turn_calls log) old now result (ap (turn_calls_at log) place) made

  pub turn-within : WritesWithin (segment_start log.start (following log)) 262144 s now
  turn-within = WritesWithin-did (segment_start log.start (following log)) 262144 s (turn_calls log) old now result is turned_so
      (turn-spared log.start (following log) (log.generation + 1) log.next_lsn (get_or log.open_headers (following log) false))

  module _ (rest : IsAtRest log s) (counted : IsCounted log) (some : 1 ≤ log.records) (four : length log.open_headers ≡ 4) (renewed : OnOk result (next ≡ turned log)) where
    abbrev started_anew : Segments
    started_anew = set (segments_in log s) (following log) (Some (started_segment (first_header log)))

    pub turns : Turns log next result s now
    turns = record {
      any_moment = any_moment;
      at_rest = after-same s (turn_calls log) IsAtRest next (turned log) old now result (turned-rests s log rest below (turned log) four refl refl refl refl) is turned_so renewed;
      segments = after-did s (turn_calls log) (λ t. segments_in log t ≡ started_anew) old now result (turned-segments s log rest below) is turned_so;
      log_of = λ of. after-same s (turn_calls log) (λ l t. IsLogOf l (segments_in log t)) next (turned log) old now result
          (subst (IsLogOf (turned log)) (sym (turned-segments s log rest below)) (log_of-turn log (segments_in log s) refl below counted some of (turned log) refl refl refl)) is turned_so renewed;
      recovers = λ of ends there opens. LeavesOnly-weaker s now _ _ (λ image turning. same-records log (segments_in log s) refl below counted some of ends (segments_of log.start image) there opens turning) any_moment;
    }
      where
        below : following log < 4
        below = mod_below (log.generation + 1) 4 (omega arith)

        any_moment : LeavesOnly s now (λ image. IsTurning (following log) (first_header log) (segments_in log s) (segments_of log.start image))
        any_moment = leaves-did s (turn_calls log) _ old now result (turned-leaves s log rest below) is turned_so
