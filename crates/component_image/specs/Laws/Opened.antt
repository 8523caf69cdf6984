-- What each crash leaves while a new component's slot is written and opened. No public contract needs these laws.
use Rattle.std.proofs.Common.{◌≡◌, ◌⊎◌, inl, inr, ℕ, ◌+◌, ◌≤◌, List, [], ◌∷◌, length, Option, Some, refl, sym, ◌∙◌, ap, subst, arith}
use Rattle.std.proofs.lemmas.Option.{same_Some}
use Rattle.dev_model.specs.Story.{Bytes, Story, after, clock_of, bytes_of, IsCalmAt, IsSettled, IsOutside}
use Rattle.dev_model.specs.Moments.{EachMoment}
use Rattle.dev_model.specs.Writes.{WritesWithin}
use Rattle.dev_model.specs.Laws.Frame.{IsSettled-spared, EachMoment-spared}
use Rattle.dev_model.specs.Laws.Images.{IsImage-bytes}
use Rattle.table_model.specs.Table.{Table, rows_of}
use Rattle.wal_log.specs.Later.{later}
use Rattle.wal_log.specs.Segments.{segments_of}
use Rattle.wal_log.specs.Rules.{Opens as LogOpens, records_of}
use Rattle.wal_log.specs.State.{IsLogOf}
use Rattle.wal_log.specs.Laws.Apart.{images-apart, rests-apart}
use Rattle.wal_log.specs.declared.places.TheConstants.{LOG_BYTES}
use Rattle.wal_log.specs.declared.log.Log.{Log}
use Rattle.wal_log.specs.declared.records.Record.{Record}
use Rattle.format_numbers.specs.declared.TheConstants.{LOG_START}
use Rattle.superblock.specs.Superblock.{IsLookedInSuperblock}
use Rattle.comp_dir.specs.Places.{slot_start}
use Rattle.comp_dir.specs.Directory.{directory_of}
use Rattle.comp_dir.specs.Choosing.{Opens as DirectoryOpens}
use Rattle.comp_dir.specs.State.{IsOneOf, with_slot}
use Rattle.comp_dir.specs.Resting.{IsAtRest as DirectoryAtRest}
use Rattle.comp_dir.specs.declared.places.TheConstants.{PRIMARY, SLOT_BYTES}
use Rattle.comp_dir.specs.declared.slots.Slot.{Slot}
use Rattle.primary_ix.specs.declared.rows.PrimRow.{PrimRow}
use Rattle.component_image.specs.Changes.{changed}
use Rattle.component_image.specs.Components.{components, IsInExtent, IsInExtents}
use Rattle.component_image.specs.Laid.{table_of}
use Rattle.component_image.specs.Recovered.{primary_of, ends_of, IsContent, Recovers}
use Rattle.component_image.specs.Resting.{Rests}
use Rattle.component_image.specs.Standing.{MayStand}
use Rattle.component_image.specs.Laws.Components.{AllOf}
use Rattle.component_image.specs.Laws.Agreeing.{IsPrimary, primaries, Shows-same}
use Rattle.component_image.specs.Laws.Logging.{recovers-kept}
use Rattle.component_image.specs.Laws.Installing.{recovers-placed}
use Rattle.component_image.specs.Laws.Resting.{content-behind}
use Rattle.component_image.specs.Laws.Showing.{same_lists_shown}

module _ (pages : ℕ) (log : Log) (table : Table) (s t : Story) (n count : ℕ) (now : Option Story) (rest : Rests pages log table s) (new : Slot) (frozen : List Record) (lists : List (List PrimRow)) (is_new : MayStand pages s n new frozen lists)
    (few : count ≤ SLOT_BYTES) (within : WritesWithin (slot_start n) count s now) (told : now ≡ Some t) where
  primary : IsPrimary new
  primary = let all : AllOf IsPrimary (new ∷ primary_of (bytes_of s)) = subst (AllOf IsPrimary) is_new.components_are (primaries pages 0 (with_slot n new (directory_of (bytes_of s))) is_new.directory) in all.0

  -- what is looked at elsewhere, and the components
  abbrev IsElsewhere : ℕ → Type 0
  IsElsewhere i = IsLookedInSuperblock (bytes_of s) i ⊎ IsContent (bytes_of s) i

  outside : (i : ℕ) → IsElsewhere i → IsOutside (slot_start n) count i
  outside i (inl (inl is)) = inl (omega (arith, is))
  outside i (inl (inr looked)) = inl (omega (arith, looked.1))
  outside i (inr inside) = inr (omega (arith, few, is_new.below, content-behind pages table (bytes_of s) i rest.recovers inside))

  settled : (i : ℕ) → IsElsewhere i → IsSettled s.past i
  settled i (inl looked) = rest.superblock_calm i looked
  settled i (inr inside) = rest.content_calm i inside

  there : after s within.calls ≡ t
  there = same_Some _ _ (sym within.told ∙ told)

  images-spared : (places : ℕ → Type 0) → ((i : ℕ) → places i → IsOutside (slot_start n) count i) → ((i : ℕ) → places i → IsSettled s.past i) → EachMoment (clock_of s) t (λ _ image. (i : ℕ) → places i → image i ≡ bytes_of s i)
  images-spared places out calm = subst (λ (u : Story). EachMoment (clock_of s) u (λ _ image. (i : ℕ) → places i → image i ≡ bytes_of s i)) there
      (EachMoment-spared s within.calls places (λ i is. within.spared i (out i is)) calm)

  kept : EachMoment (clock_of s) t (λ _ image. (i : ℕ) → IsElsewhere i → image i ≡ bytes_of s i)
  kept = images-spared IsElsewhere outside settled

  -- the pages of the component are on the disk
  pub calm-there : IsCalmAt (IsInExtent new) s → EachMoment (clock_of s) t (λ _ image. (i : ℕ) → IsInExtent new i → image i ≡ bytes_of s i)
  calm-there calm = images-spared (IsInExtent new) (λ i inside. inr (omega (arith, few, is_new.below, is_new.behind, inside.from))) calm

  pub settled-there : IsCalmAt (IsInExtent new) s → IsCalmAt (IsInExtent new) t
  settled-there calm i inside = subst (λ (u : Story). IsSettled u.past i) there
      (IsSettled-spared s within.calls i (within.spared i (inr (omega (arith, few, is_new.below, is_new.behind, inside.from)))) (calm i inside))

  abbrev Apart : ℕ → Type 0
  Apart start = (slot_start n + count ≤ start) ⊎ (start + LOG_BYTES ≤ slot_start n)

  apart : Apart log.start
  apart = subst Apart (sym rest.log_start) (inl (omega (arith, few, is_new.below)))

  segments : EachMoment (clock_of s) t (λ _ image. segments_of LOG_START image ≡ segments_of LOG_START (bytes_of s))
  segments = subst (λ (start : ℕ). EachMoment (clock_of s) t (λ _ image. segments_of start image ≡ segments_of start (bytes_of s))) rest.log_start
      (images-apart log s t (slot_start n) count now rest.log_rest within told apart)

  -- with the new slot open, or without it, the image recovers to the table
  recovers : (image : Bytes) → ((i : ℕ) → IsElsewhere i → image i ≡ bytes_of s i) → segments_of LOG_START image ≡ segments_of LOG_START (bytes_of s)
      → (directory_of image ≡ with_slot n new (directory_of (bytes_of s)) → (i : ℕ) → IsInExtent new i → image i ≡ bytes_of s i)
      → IsOneOf (directory_of (bytes_of s)) (with_slot n new (directory_of (bytes_of s))) (directory_of image) → Recovers pages table image
  recovers image same same_log there_new (inl old) =
      recovers-kept pages table (bytes_of s) image rest.recovers
      (record { superblock = λ i looked. same i (inl looked); directory = old; content = λ i inside. same i (inr inside) })
      (record { opens = subst (LogOpens (ends_of (primary_of (bytes_of s)))) (sym same_log) rest.recovers.opens.log; records_are = ap records_of same_log })
  recovers image same same_log there_new (inr opened) =
      recovers-placed pages table (bytes_of s) image rest.recovers new frozen
      (record {
        superblock = λ i looked. same i (inl looked);
        content = λ i inside. same i (inr inside);
        segments = same_log;
        directory = subst (DirectoryOpens pages 0) (sym opened) is_new.directory;
        components_are = ap (components PRIMARY) opened ∙ is_new.components_are;
        shows = Shows-same (bytes_of s) image new (changed [] frozen) primary (there_new opened) is_new.shows;
        counts = is_new.counts ∙ ap (λ (ls : List (List PrimRow)). length (rows_of (table_of (changed [] frozen ∷ ls)))) (same_lists_shown (bytes_of s) (primary_of (bytes_of s)) lists rest.recovers.lists is_new.shown rest.recovers.shown);
        log = is_new.log;
        split = is_new.split;
      })

  -- each image with the open slot has the component's pages
  module _ (there_new : EachMoment (clock_of s) t (λ _ image. directory_of image ≡ with_slot n new (directory_of (bytes_of s)) → (i : ℕ) → IsInExtent new i → image i ≡ bytes_of s i)) where
    pub opened-images : EachMoment (clock_of s) t (λ _ image. IsOneOf (directory_of (bytes_of s)) (with_slot n new (directory_of (bytes_of s))) (directory_of image)) → EachMoment (clock_of s) t (λ _. Recovers pages table)
    opened-images directories m from to image is = recovers image (kept m from to image is) (segments m from to image is) (there_new m from to image is) (directories m from to image is)

    -- once it is open and synced, the store is at rest
    pub opened-rests : clock_of s ≤ clock_of t → IsCalmAt (IsInExtent new) t → DirectoryAtRest t → directory_of (bytes_of t) ≡ with_slot n new (directory_of (bytes_of s)) → Rests pages log table t
    opened-rests later calm directory_rest opened =
        let same : (i : ℕ) → IsElsewhere i → bytes_of t i ≡ bytes_of s i = kept (clock_of t) later (omega arith) (bytes_of t) (IsImage-bytes t) in
        let same_log : segments_of LOG_START (bytes_of t) ≡ segments_of LOG_START (bytes_of s) = segments (clock_of t) later (omega arith) (bytes_of t) (IsImage-bytes t) in
        let stays : (i : ℕ) → IsElsewhere i → IsSettled t.past i = λ i is. subst (λ (u : Story). IsSettled u.past i) there (IsSettled-spared s within.calls i (within.spared i (outside i is)) (settled i is)) in
        record {
          recovers = recovers (bytes_of t) same same_log (there_new (clock_of t) later (omega arith) (bytes_of t) (IsImage-bytes t)) (inr opened);
          superblock_calm = λ i looked. stays i (inl (superblock_back same i looked));
          directory_rest = directory_rest;
          content_calm = λ i inside. content_calm stays i (subst (λ (x : List Slot). IsInExtents x i) (ap (components PRIMARY) opened ∙ is_new.components_are) inside);
          log_start = rest.log_start;
          log_rest = rests-apart log s t (slot_start n) count now rest.log_rest within told apart;
          log_of = subst (IsLogOf log) (sym same_log) rest.log_of;
        }
      where
        superblock_back : ((i : ℕ) → IsElsewhere i → bytes_of t i ≡ bytes_of s i) → (i : ℕ) → IsLookedInSuperblock (bytes_of t) i → IsLookedInSuperblock (bytes_of s) i
        superblock_back same i (inl is) = inl is
        superblock_back same i (inr looked) = inr (sym (same 0 (inl (inl refl))) ∙ looked.0, looked.1)

        content_calm : ((i : ℕ) → IsElsewhere i → IsSettled t.past i) → (i : ℕ) → IsInExtents (new ∷ primary_of (bytes_of s)) i → IsSettled t.past i
        content_calm stays i (inl here) = calm i here
        content_calm stays i (inr others) = stays i (inr others)
