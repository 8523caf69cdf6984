-- Several records that are put behind one another by one write: all or none of them stand after a crash.
use Rattle.std.proofs.Common.{◌≡◌, ℕ, suc, ◌+◌, ◌<◌, ◌≤◌, List, [], ◌∷◌, length, map, get_or, sym, ◌∙◌, ap, subst, arith}
use Rattle.std.proofs.lemmas.List.{length-map}
use Rattle.std.proofs.lemmas.Nat.{mod_below}
use Rattle.dev_model.specs.Story.{Story, bytes_of, after, clock_of}
use Rattle.dev_model.specs.Moments.{EachMoment}
use Rattle.dev_model.specs.Laws.Runs.{EachMoment-weaker}
use Rattle.wal_log.specs.Records.{record_bytes, record_of, IsRecord}
use Rattle.wal_log.specs.Rules.{AreRecords, Opens, records_of}
use Rattle.wal_log.specs.Segments.{segments_of}
use Rattle.wal_log.specs.Growing.{AreWide}
use Rattle.wal_log.specs.State.{IsAtRest, IsLogOf, newest}
use Rattle.wal_log.specs.Changes.{IsBeforeOrAfterAll, HasRecordsOrAll, append_all_calls}
use Rattle.wal_log.specs.declared.log.Log.{Log}
use Rattle.wal_log.specs.declared.records.Record.{Record}
use Rattle.gate.specs.Laws.Plans.{Leaves, leaves-moments}
use Rattle.wal_log.proofs.Spelled.{length-record_bytes}
use Rattle.wal_log.proofs.Growing.{append-all}
use Rattle.wal_log.proofs.Keeping.{recovers-append}

-- the bytes of records are as wide as a place for them
record-wide : (lsn : ℕ) (body : List ℕ) → IsRecord lsn body → length body ≡ 95
record-wide lsn body is = sym (ap length is.spelled) ∙ length-record_bytes (record_of body) is.lawful.short

records-wide : (first : ℕ) (bodies : List (List ℕ)) → AreRecords first bodies → AreWide bodies
records-wide first [] are = tt
records-wide first (body ∷ bodies) are = (
  record-wide (first + 0) body (are 0 (omega arith)),
  records-wide (first + 1) bodies (λ i lt.
      let number : first + suc i ≡ first + 1 + i = omega arith in
      subst (λ (n : ℕ). IsRecord n (get_or bodies i [])) number (are (suc i) (omega (arith, lt)))),
)

pub all-or-none : (log : Log) (s : Story) (rs : List Record) → IsAtRest log s → IsLogOf log (segments_of log.start (bytes_of s)) → 0 < length rs → log.records + length rs ≤ 2048
    → AreRecords log.next_lsn (map record_bytes rs) → map record_of (map record_bytes rs) ≡ rs → (ends : List ℕ) → Opens ends (segments_of log.start (bytes_of s))
    → EachMoment (clock_of s) (after s (append_all_calls log rs)) (λ _ image. HasRecordsOrAll ends (records_of (segments_of log.start (bytes_of s))) rs (segments_of log.start image))
all-or-none log s rs rest of some room are back ends opens =
    let bodies : List (List ℕ) = map record_bytes rs in
    let fits : log.records + length bodies ≤ 2048 = omega (arith, room, length-map rs record_bytes) in
    let all : Leaves s (append_all_calls log rs) (λ image. IsBeforeOrAfterAll (newest log) bodies (segments_of log.start (bytes_of s)) (segments_of log.start image)) =
    append-all s log rest (mod_below log.generation 4 (omega arith)) rs room (records-wide log.next_lsn bodies are) some in
    EachMoment-weaker (clock_of s) (after s (append_all_calls log rs)) (λ _ image. IsBeforeOrAfterAll (newest log) bodies (segments_of log.start (bytes_of s)) (segments_of log.start image)) _
    (λ m image either. recovers-append log (segments_of log.start (bytes_of s)) (omega arith) bodies fits are of ends rs (segments_of log.start image) back opens either)
    (leaves-moments s (append_all_calls log rs) _ all)
