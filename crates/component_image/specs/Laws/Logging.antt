-- What an image recovers to while a record is appended, and while the segments of the log change. No public contract needs these
-- laws.
use Rattle.std.proofs.Common.{◌≡◌, ◌⊎◌, inl, inr, ℕ, ◌<◌, List, [], ◌∷◌, ◌++◌, set, None, refl, sym, ◌∙◌, ap, subst}
use Rattle.dev_model.specs.Story.{Bytes}
use Rattle.table_model.specs.Table.{Table}
use Rattle.table_model.specs.Answers.{after_write}
use Rattle.wal_log.specs.Later.{later}
use Rattle.wal_log.specs.Laws.Later.{later-push}
use Rattle.wal_log.specs.Segments.{segments_of}
use Rattle.wal_log.specs.Rules.{records_of}
use Rattle.wal_log.specs.Changes.{OpensAs, HasRecordsOr, HasSameRecords}
use Rattle.wal_log.specs.declared.records.Record.{Record}
use Rattle.format_numbers.specs.declared.TheConstants.{LOG_START}
use Rattle.component_image.specs.Replayed.{write_of, replayed}
use Rattle.component_image.specs.Laws.Replayed.{replayed-push}
use Rattle.component_image.specs.Components.{end_of}
use Rattle.component_image.specs.Laid.{table_of}
use Rattle.component_image.specs.Recovered.{primary_of, ends_of, Recovers}
use Rattle.component_image.specs.Told.{SaysOld, AreTold}
use Rattle.component_image.specs.Laws.Agreeing.{AgreeBeside, recovers-beside}
use Rattle.component_image.specs.Laws.Told.{told-push}

module _ (pages : ℕ) (table : Table) (a b : Bytes) (r : Recovers pages table a) (agree : AgreeBeside a b) where
  -- the log of the one may be read, and has records of which the later ones are these
  by_records : (records later_records : List Record) → OpensAs (ends_of (primary_of a)) records (segments_of LOG_START b) → later (end_of (primary_of a)) records ≡ later_records
      → AreTold (table_of r.lists) later_records → Recovers pages (replayed (table_of r.lists) later_records) b
  by_records records later_records opens is told =
      let there : later (end_of (primary_of a)) (records_of (segments_of LOG_START b)) ≡ later_records = ap (later (end_of (primary_of a))) opens.records_are ∙ is in
      subst (λ (rs : List Record). Recovers pages (replayed (table_of r.lists) rs) b) there
      (recovers-beside pages table a b r agree opens.opens (subst (AreTold (table_of r.lists)) (sym there) told))

  -- the same records: the same table
  pub recovers-kept : OpensAs (ends_of (primary_of a)) (records_of (segments_of LOG_START a)) (segments_of LOG_START b) → Recovers pages table b
  recovers-kept opens =
      subst (λ (t : Table). Recovers pages t b) (sym r.table_is) (by_records (records_of (segments_of LOG_START a)) (later (end_of (primary_of a)) (records_of (segments_of LOG_START a))) opens refl r.told)

  -- one record more: the table after its write
  pub recovers-logged : (one : Record) → end_of (primary_of a) < one.lsn → SaysOld table one → OpensAs (ends_of (primary_of a)) (records_of (segments_of LOG_START a) ++ one ∷ []) (segments_of LOG_START b)
      → Recovers pages (after_write table (write_of one.op)) b
  recovers-logged one behind says opens =
      subst (λ (t : Table). Recovers pages t b)
      (replayed-push (table_of r.lists) (later (end_of (primary_of a)) (records_of (segments_of LOG_START a))) one ∙ ap (λ (t : Table). after_write t (write_of one.op)) (sym r.table_is))
      (by_records (records_of (segments_of LOG_START a) ++ one ∷ []) (later (end_of (primary_of a)) (records_of (segments_of LOG_START a)) ++ one ∷ []) opens
      (later-push (end_of (primary_of a)) (records_of (segments_of LOG_START a)) one behind)
      (told-push (table_of r.lists) (later (end_of (primary_of a)) (records_of (segments_of LOG_START a))) one r.told (subst (λ (t : Table). SaysOld t one) r.table_is says)))

  pub recovers-append : (one : Record) → end_of (primary_of a) < one.lsn → SaysOld table one → HasRecordsOr (ends_of (primary_of a)) (records_of (segments_of LOG_START a)) one (segments_of LOG_START b)
      → Recovers pages table b ⊎ Recovers pages (after_write table (write_of one.op)) b
  recovers-append one behind says (inl opens) = inl (recovers-kept opens)
  recovers-append one behind says (inr opens) = inr (recovers-logged one behind says opens)

  -- a change of segments, where no record behind the components stands in the segment that is used again: the same table
  pub recovers-turn : (k : ℕ) → later (end_of (primary_of a)) (records_of (set (segments_of LOG_START a) k None)) ≡ later (end_of (primary_of a)) (records_of (segments_of LOG_START a))
      → HasSameRecords (ends_of (primary_of a)) k (segments_of LOG_START a) (segments_of LOG_START b) → Recovers pages table b
  recovers-turn k same (inl opens) = recovers-kept opens
  recovers-turn k same (inr opens) =
      subst (λ (t : Table). Recovers pages t b) (sym r.table_is)
      (by_records (records_of (set (segments_of LOG_START a) k None)) (later (end_of (primary_of a)) (records_of (segments_of LOG_START a))) opens same r.told)
