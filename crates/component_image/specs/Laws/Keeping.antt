-- What each crash leaves of a store at rest while a record is appended, while the segments of the log change, and while something is
-- written where nothing is looked at. No public contract needs these laws.
use Rattle.std.proofs.Common.{◌≡◌, ◌⊎◌, inl, inr, ⊎_elim, ℕ, ◌+◌, ◌<◌, ◌≤◌, [], ◌∷◌, ◌++◌, Option, Some, None, set, sym, ◌∙◌, ap, subst, arith}
use Rattle.std.proofs.lemmas.Option.{same_Some}
use Rattle.dev_model.specs.Story.{Bytes, Story, clock_of, bytes_of, IsOutside, IsSettled, IsImageNow}
use Rattle.dev_model.specs.Moments.{EachMoment}
use Rattle.dev_model.specs.Writes.{WritesWithin}
use Rattle.dev_model.specs.Laws.CallLists.{clock_of-after}
use Rattle.dev_model.specs.Laws.Images.{IsImage-bytes}
use Rattle.dev_model.specs.Laws.Runs.{EachMoment-both, EachMoment-weaker}
use Rattle.table_model.specs.Table.{Table}
use Rattle.table_model.specs.Answers.{after_write}
use Rattle.wal_log.specs.Later.{later}
use Rattle.wal_log.specs.Segments.{segments_of}
use Rattle.wal_log.specs.Rules.{Opens as LogOpens, records_of}
use Rattle.wal_log.specs.State.{IsStill, IsAtRest as LogAtRest, IsLogOf}
use Rattle.wal_log.specs.Changes.{HasRecordsOr, HasSameRecords, OpensAs}
use Rattle.wal_log.specs.Laws.Apart.{images-apart, rests-apart}
use Rattle.wal_log.specs.declared.places.TheConstants.{LOG_BYTES}
use Rattle.wal_log.specs.declared.log.Log.{Log}
use Rattle.wal_log.specs.declared.records.Record.{Record}
use Rattle.format_numbers.specs.declared.TheConstants.{LOG_START}
use Rattle.component_image.specs.Replayed.{write_of}
use Rattle.component_image.specs.Components.{end_of}
use Rattle.component_image.specs.Recovered.{primary_of, ends_of, IsLookedAt, Recovers}
use Rattle.component_image.specs.Beside.{IsBeside}
use Rattle.component_image.specs.Resting.{Rests}
use Rattle.component_image.specs.Standing.{RecoversEither}
use Rattle.component_image.specs.Told.{SaysOld}
use Rattle.component_image.specs.Laws.Agreeing.{AgreeBeside, recovers-same}
use Rattle.component_image.specs.Laws.Logging.{recovers-kept, recovers-logged, recovers-append, recovers-turn}
use Rattle.component_image.specs.Laws.Resting.{beside-log, beside-images, beside-agrees, rests-beside}

later_clock : (at count : ℕ) (s t : Story) (now : Option Story) → WritesWithin at count s now → now ≡ Some t → clock_of s ≤ clock_of t
later_clock at count s t now within told = subst (λ (u : Story). clock_of s ≤ clock_of u) (same_Some _ _ (sym within.told ∙ told)) (omega (arith, clock_of-after s within.calls))

-- calls that write in the log alone
module _ (pages : ℕ) (log : Log) (table : Table) (s t : Story) (at count : ℕ) (now : Option Story) (rest : Rests pages log table s) (within : WritesWithin at count s now) (told : now ≡ Some t)
    (low : LOG_START ≤ at) (high : at + count ≤ LOG_START + LOG_BYTES) where
  outside : (i : ℕ) → IsBeside (bytes_of s) i → IsOutside at count i
  outside i is = ⊎_elim (λ before. inl (omega (arith, before, low))) (λ behind. inr (omega (arith, behind, high))) (beside-log pages table (bytes_of s) i rest.recovers is)

  images : EachMoment (clock_of s) t (λ _ image. AgreeBeside (bytes_of s) image)
  images = beside-images pages log table s t at count now rest within told outside

  agrees : AgreeBeside (bytes_of s) (bytes_of t)
  agrees = beside-agrees pages log table s t at count now rest within told outside

  -- an append: the table before the write, or the one behind it
  pub append-images : (r : Record) → end_of (primary_of (bytes_of s)) < r.lsn → SaysOld table r
      → EachMoment (clock_of s) t (λ _ image. HasRecordsOr (ends_of (primary_of (bytes_of s))) (records_of (segments_of LOG_START (bytes_of s))) r (segments_of LOG_START image))
      → EachMoment (clock_of s) t (λ _. RecoversEither pages table (after_write table (write_of r.op)))
  append-images r behind says records =
      EachMoment-weaker (clock_of s) t
      (λ _ image. AgreeBeside (bytes_of s) image × HasRecordsOr (ends_of (primary_of (bytes_of s))) (records_of (segments_of LOG_START (bytes_of s))) r (segments_of LOG_START image))
      (λ _. RecoversEither pages table (after_write table (write_of r.op)))
      (λ m image both. recovers-append pages table (bytes_of s) image rest.recovers both.0 r behind says both.1)
      (EachMoment-both (clock_of s) t (λ _ image. AgreeBeside (bytes_of s) image)
      (λ _ image. HasRecordsOr (ends_of (primary_of (bytes_of s))) (records_of (segments_of LOG_START (bytes_of s))) r (segments_of LOG_START image)) images records)

  pub append-rests : (r : Record) (next : Log) → end_of (primary_of (bytes_of s)) < r.lsn → SaysOld table r → next.start ≡ LOG_START → LogAtRest next t → IsLogOf next (segments_of LOG_START (bytes_of t))
      → OpensAs (ends_of (primary_of (bytes_of s))) (records_of (segments_of LOG_START (bytes_of s)) ++ r ∷ []) (segments_of LOG_START (bytes_of t))
      → Rests pages next (after_write table (write_of r.op)) t
  append-rests r next behind says start log_rest log_of opens =
      rests-beside pages log table s t at count now rest within told outside next (after_write table (write_of r.op)) start log_rest log_of
      (recovers-logged pages table (bytes_of s) (bytes_of t) rest.recovers agrees r behind says opens)

  -- a change of segments: the same table
  pub turn-images : (k : ℕ) → later (end_of (primary_of (bytes_of s))) (records_of (set (segments_of LOG_START (bytes_of s)) k None)) ≡ later (end_of (primary_of (bytes_of s))) (records_of (segments_of LOG_START (bytes_of s)))
      → EachMoment (clock_of s) t (λ _ image. HasSameRecords (ends_of (primary_of (bytes_of s))) k (segments_of LOG_START (bytes_of s)) (segments_of LOG_START image))
      → EachMoment (clock_of s) t (λ _. Recovers pages table)
  turn-images k same records =
      EachMoment-weaker (clock_of s) t
      (λ _ image. AgreeBeside (bytes_of s) image × HasSameRecords (ends_of (primary_of (bytes_of s))) k (segments_of LOG_START (bytes_of s)) (segments_of LOG_START image))
      (λ _. Recovers pages table)
      (λ m image both. recovers-turn pages table (bytes_of s) image rest.recovers both.0 k same both.1)
      (EachMoment-both (clock_of s) t (λ _ image. AgreeBeside (bytes_of s) image)
      (λ _ image. HasSameRecords (ends_of (primary_of (bytes_of s))) k (segments_of LOG_START (bytes_of s)) (segments_of LOG_START image)) images records)

  pub turn-rests : (k : ℕ) (next : Log) → later (end_of (primary_of (bytes_of s))) (records_of (set (segments_of LOG_START (bytes_of s)) k None)) ≡ later (end_of (primary_of (bytes_of s))) (records_of (segments_of LOG_START (bytes_of s)))
      → next.start ≡ LOG_START → LogAtRest next t → IsLogOf next (segments_of LOG_START (bytes_of t))
      → HasSameRecords (ends_of (primary_of (bytes_of s))) k (segments_of LOG_START (bytes_of s)) (segments_of LOG_START (bytes_of t))
      → Rests pages next table t
  turn-rests k next same start log_rest log_of records =
      rests-beside pages log table s t at count now rest within told outside next table start log_rest log_of
      (recovers-turn pages table (bytes_of s) (bytes_of t) rest.recovers agrees k same records)

-- calls that write where nothing is looked at, neither by an opening nor for the rows of a component
module _ (pages : ℕ) (log : Log) (table : Table) (s t : Story) (at count : ℕ) (now : Option Story) (rest : Rests pages log table s) (within : WritesWithin at count s now) (told : now ≡ Some t)
    (beside : (i : ℕ) → IsBeside (bytes_of s) i → IsOutside at count i) (apart : (at + count ≤ LOG_START) ⊎ (LOG_START + LOG_BYTES ≤ at)) where
  abbrev Apart : ℕ → Type 0
  Apart start = (at + count ≤ start) ⊎ (start + LOG_BYTES ≤ at)

  apart_there : Apart log.start
  apart_there = subst Apart (sym rest.log_start) apart

  segments : EachMoment (clock_of s) t (λ _ image. segments_of LOG_START image ≡ segments_of LOG_START (bytes_of s))
  segments = subst (λ (start : ℕ). EachMoment (clock_of s) t (λ _ image. segments_of start image ≡ segments_of start (bytes_of s))) rest.log_start
      (images-apart log s t at count now rest.log_rest within told apart_there)

  recovers : (image : Bytes) → AgreeBeside (bytes_of s) image → segments_of LOG_START image ≡ segments_of LOG_START (bytes_of s) → Recovers pages table image
  recovers image agree same =
      recovers-kept pages table (bytes_of s) image rest.recovers agree
      (record { opens = subst (LogOpens (ends_of (primary_of (bytes_of s)))) (sym same) rest.recovers.opens.log; records_are = ap records_of same })

  -- the same table
  pub elsewhere-images : EachMoment (clock_of s) t (λ _. Recovers pages table)
  elsewhere-images =
      EachMoment-weaker (clock_of s) t (λ _ image. AgreeBeside (bytes_of s) image × (segments_of LOG_START image ≡ segments_of LOG_START (bytes_of s))) (λ _. Recovers pages table)
      (λ m image both. recovers image both.0 both.1)
      (EachMoment-both (clock_of s) t (λ _ image. AgreeBeside (bytes_of s) image) (λ _ image. segments_of LOG_START image ≡ segments_of LOG_START (bytes_of s))
      (beside-images pages log table s t at count now rest within told beside) segments)

  pub elsewhere-segments : segments_of LOG_START (bytes_of t) ≡ segments_of LOG_START (bytes_of s)
  elsewhere-segments = segments (clock_of t) (later_clock at count s t now within told) (omega arith) (bytes_of t) (IsImage-bytes t)

  pub elsewhere-rests : Rests pages log table t
  elsewhere-rests =
      let same : segments_of LOG_START (bytes_of t) ≡ segments_of LOG_START (bytes_of s) = elsewhere-segments in
      rests-beside pages log table s t at count now rest within told beside log table rest.log_start
      (rests-apart log s t at count now rest.log_rest within told apart_there)
      (subst (IsLogOf log) (sym same) rest.log_of)
      (recovers (bytes_of t) (beside-agrees pages log table s t at count now rest within told beside) same)

-- a crash now leaves the table
pub rest-image : (pages : ℕ) (log : Log) (table : Table) (s : Story) (image : Bytes) → Rests pages log table s → IsImageNow s image → Recovers pages table image
rest-image pages log table s image rest is =
    let still : IsStill LOG_START s = subst (λ (start : ℕ). IsStill start s) rest.log_start rest.log_rest.still in
    recovers-same pages table (bytes_of s) image (λ i looked. is i (looked_settled still i looked)) (λ i inside. is i (rest.content_calm i inside)) rest.recovers
  where
    looked_settled : IsStill LOG_START s → (i : ℕ) → IsLookedAt (bytes_of s) i → IsSettled s.past i
    looked_settled still i (inl looked) = rest.superblock_calm i looked
    looked_settled still i (inr (inl looked)) = rest.directory_rest i looked
    looked_settled still i (inr (inr looked)) = still looked.0 looked.1 i looked.2
