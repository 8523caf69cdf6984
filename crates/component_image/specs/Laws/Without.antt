-- An image of which no slot is open, and whose log has no record. No public contract needs these laws.
use Rattle.std.proofs.Common.{◌≡◌, ℕ, zero, suc, ◌+◌, ◌==◌, List, [], ◌∷◌, get_or, Option, Some, None, refl, sym, ◌∙◌, ap, subst}
use Rattle.std.specs.FinMap.{empty}
use Rattle.std.specs.List.{filter}
use Rattle.dev_model.specs.Story.{Bytes}
use Rattle.format_numbers.specs.declared.TheConstants.{LOG_START}
use Rattle.wal_log.specs.Later.{later}
use Rattle.wal_log.specs.Segments.{segments_of}
use Rattle.wal_log.specs.Rules.{Opens as LogOpens, records_of}
use Rattle.wal_log.specs.declared.records.Record.{Record}
use Rattle.superblock.specs.Superblock.{IsFormatted}
use Rattle.comp_dir.specs.Directory.{Directory, Numbered, directory_of, open_from, open_slots}
use Rattle.comp_dir.specs.Choosing.{Opens as DirectoryOpens, bad_slot, live_slots}
use Rattle.comp_dir.specs.declared.places.TheConstants.{PRIMARY}
use Rattle.comp_dir.specs.declared.slots.Slot.{Slot}
use Rattle.component_image.specs.Components.{newest_first, end_of}
use Rattle.component_image.specs.Content.{ShowAll, Count}
use Rattle.component_image.specs.Recovered.{primary_of, ends_of, Recovers}
use Rattle.component_image.specs.Replayed.{replayed}
use Rattle.component_image.specs.Told.{AreTold}

pub none-open : (m n : ℕ) (slots : Directory) → open_from m slots ≡ [] → get_or slots n None ≡ None
none-open m n [] none = refl
none-open m zero (None ∷ slots) none = refl
none-open m (suc n) (None ∷ slots) none = none-open (m + 1) n slots none
none-open m n (Some body ∷ slots) none = cc

module _ (bytes : Bytes) (no_slots : open_slots (directory_of bytes) ≡ []) where
  pub no_components : primary_of bytes ≡ []
  no_components = ap (λ (all : List Numbered). newest_first (filter (λ e. e.1.index == PRIMARY) (live_slots all))) no_slots

  directory_opens : (pages : ℕ) → DirectoryOpens pages 0 (directory_of bytes)
  directory_opens pages = record {
    sound = λ n body is. absurd (let both : ◌≡◌ {A = Option (List ℕ)} None (Some body) = sym (none-open 0 n (directory_of bytes) no_slots) ∙ is in cc);
    together = ap bad_slot no_slots;
  }

  pub recovers-empty : (pages : ℕ) → IsFormatted pages bytes → LogOpens (0 ∷ []) (segments_of LOG_START bytes) → records_of (segments_of LOG_START bytes) ≡ [] → Recovers pages empty bytes
  recovers-empty pages formatted log no_records = record {
    opens = record {
      formatted = formatted;
      directory = directory_opens pages;
      log = subst (λ (x : List Slot). LogOpens (ends_of x) (segments_of LOG_START bytes)) (sym no_components) log;
    };
    lists = [];
    shown = subst (λ (x : List Slot). ShowAll bytes x []) (sym no_components) tt;
    counted = subst (λ (x : List Slot). Count x []) (sym no_components) tt;
    table_is = ap (λ (rs : List Record). replayed empty (later (end_of (primary_of bytes)) rs)) (sym no_records);
    told = subst (λ (rs : List Record). AreTold empty (later (end_of (primary_of bytes)) rs)) (sym no_records) tt;
  }
