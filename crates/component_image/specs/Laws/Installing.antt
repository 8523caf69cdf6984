-- What an image recovers to once a component that holds the first of the log's later writes is installed. No public contract needs
-- these laws.
use Rattle.std.proofs.Common.{◌≡◌, ℕ, List, [], ◌∷◌, ◌++◌, length, sym, ◌∙◌, ap, subst}
use Rattle.dev_model.specs.Story.{Bytes}
use Rattle.table_model.specs.Table.{Table, rows_of}
use Rattle.wal_log.specs.Later.{later}
use Rattle.wal_log.specs.Segments.{Segments, segments_of}
use Rattle.wal_log.specs.Rules.{Opens as LogOpens, records_of}
use Rattle.wal_log.specs.declared.records.Record.{Record}
use Rattle.format_numbers.specs.declared.TheConstants.{LOG_START}
use Rattle.superblock.specs.Superblock.{IsLookedInSuperblock}
use Rattle.component_image.specs.Replayed.{replayed}
use Rattle.superblock.specs.Laws.Agreeing.{formatted-same}
use Rattle.component_image.specs.Laws.Replayed.{replayed-append}
use Rattle.comp_dir.specs.Directory.{directory_of}
use Rattle.comp_dir.specs.Choosing.{Opens as DirectoryOpens}
use Rattle.comp_dir.specs.declared.slots.Slot.{Slot}
use Rattle.primary_ix.specs.declared.rows.PrimRow.{PrimRow}
use Rattle.component_image.specs.Changes.{changed}
use Rattle.component_image.specs.Components.{end_of}
use Rattle.component_image.specs.Content.{Shows, ShowAll, Count}
use Rattle.component_image.specs.Laid.{laid, table_of}
use Rattle.component_image.specs.Recovered.{primary_of, ends_of, IsContent, Recovers}
use Rattle.component_image.specs.Told.{AreTold}
use Rattle.component_image.specs.Laws.Agreeing.{primaries, ShowAll-same}
use Rattle.component_image.specs.Laws.Laid.{laid-changed}
use Rattle.component_image.specs.Laws.Told.{told-behind}

-- What an image has beside what an older one had: one component more, which ends with this write and shows the rows of the log's
-- writes up to there.
pub record HasPlaced (pages : ℕ) (a b : Bytes) (new : Slot) (frozen : List Record) (lists : List (List PrimRow)) : Type 0 where
  pub superblock : (i : ℕ) → IsLookedInSuperblock a i → b i ≡ a i
  pub content : (i : ℕ) → IsContent a i → b i ≡ a i
  pub segments : segments_of LOG_START b ≡ segments_of LOG_START a
  pub directory : DirectoryOpens pages 0 (directory_of b)
  pub components_are : primary_of b ≡ new ∷ primary_of a
  pub shows : Shows b new (changed [] frozen)
  pub counts : new.table_rows ≡ length (rows_of (table_of (changed [] frozen ∷ lists)))
  pub log : LogOpens (ends_of (new ∷ [])) (segments_of LOG_START a)
  pub split : later (end_of (primary_of a)) (records_of (segments_of LOG_START a)) ≡ frozen ++ later new.last_lsn (records_of (segments_of LOG_START a))

-- An install leaves the table as it is. The rows of the component make the table after the first of the later writes, so the others
-- are told of what the components now hold.
pub recovers-placed : (pages : ℕ) (table : Table) (a b : Bytes) (r : Recovers pages table a) (new : Slot) (frozen : List Record) → HasPlaced pages a b new frozen r.lists → Recovers pages table b
recovers-placed pages table a b r new frozen has =
    let rest : List Record = later new.last_lsn (records_of (segments_of LOG_START a)) in
    let over : laid (changed [] frozen) (table_of r.lists) ≡ replayed (table_of r.lists) frozen = laid-changed [] frozen (table_of r.lists) in
    let now : replayed (table_of (changed [] frozen ∷ r.lists)) rest ≡ table =
    ap (λ (t : Table). replayed t rest) over ∙ sym (replayed-append (table_of r.lists) frozen rest) ∙ ap (replayed (table_of r.lists)) (sym has.split) ∙ sym r.table_is in
    let told : AreTold (table_of (changed [] frozen ∷ r.lists)) rest =
    subst (λ (t : Table). AreTold t rest) (sym over) (told-behind (table_of r.lists) frozen rest (subst (AreTold (table_of r.lists)) has.split r.told)) in
    record {
      opens = record {
        formatted = formatted-same pages a b has.superblock r.opens.formatted;
        directory = has.directory;
        log = subst (λ (x : List Slot). LogOpens (ends_of x) (segments_of LOG_START b)) (sym has.components_are)
            (subst (LogOpens (ends_of (new ∷ []))) (sym has.segments) has.log);
      };
      lists = changed [] frozen ∷ r.lists;
      shown = subst (λ (x : List Slot). ShowAll b x (changed [] frozen ∷ r.lists)) (sym has.components_are)
          (has.shows, ShowAll-same a b (primary_of a) r.lists (primaries pages 0 (directory_of a) r.opens.directory) has.content r.shown);
      counted = subst (λ (x : List Slot). Count x (changed [] frozen ∷ r.lists)) (sym has.components_are) (has.counts, r.counted);
      table_is = sym now
          ∙ ap (λ (s : Segments). replayed (table_of (changed [] frozen ∷ r.lists)) (later new.last_lsn (records_of s))) (sym has.segments)
          ∙ ap (λ (x : List Slot). replayed (table_of (changed [] frozen ∷ r.lists)) (later (end_of x) (records_of (segments_of LOG_START b)))) (sym has.components_are);
      told = subst (λ (x : List Slot). AreTold (table_of (changed [] frozen ∷ r.lists)) (later (end_of x) (records_of (segments_of LOG_START b)))) (sym has.components_are)
          (subst (λ (s : Segments). AreTold (table_of (changed [] frozen ∷ r.lists)) (later new.last_lsn (records_of s))) (sym has.segments) told);
    }
