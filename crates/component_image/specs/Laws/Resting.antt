-- What stays on the device of a store at rest while calls write in a part of it. No public contract needs these laws.
use Rattle.std.proofs.Common.{◌≡◌, ◌⊎◌, inl, inr, ⊎_elim, ℕ, ◌+◌, ◌<◌, ◌≤◌, List, [], ◌∷◌, Option, Some, refl, sym, ◌∙◌, subst, arith}
use Rattle.std.proofs.lemmas.Option.{same_Some}
use Rattle.dev_model.specs.Story.{Bytes, Story, after, clock_of, bytes_of, IsSettled, IsOutside}
use Rattle.dev_model.specs.Moments.{EachMoment}
use Rattle.dev_model.specs.Writes.{WritesWithin}
use Rattle.dev_model.specs.Laws.Frame.{IsSettled-spared, bytes_of-spared, EachMoment-spared}
use Rattle.dev_model.specs.Laws.Runs.{EachMoment-weaker}
use Rattle.table_model.specs.Table.{Table}
use Rattle.wal_log.specs.Segments.{segments_of}
use Rattle.wal_log.specs.State.{IsAtRest as LogAtRest, IsLogOf}
use Rattle.wal_log.specs.declared.places.TheConstants.{LOG_BYTES}
use Rattle.wal_log.specs.declared.log.Log.{Log}
use Rattle.format_numbers.specs.declared.TheConstants.{LOG_START}
use Rattle.comp_dir.specs.Directory.{Directory, directory_of}
use Rattle.comp_dir.specs.Rules.{HasExtent}
use Rattle.comp_dir.specs.Laws.Agreeing.{directory-same, looked-back}
use Rattle.comp_dir.specs.declared.places.TheConstants.{PRIMARY}
use Rattle.comp_dir.specs.declared.slots.Slot.{Slot}
use Rattle.component_image.specs.Components.{components, IsInExtents}
use Rattle.component_image.specs.Recovered.{primary_of, IsContent, Recovers}
use Rattle.component_image.specs.Beside.{IsBeside}
use Rattle.component_image.specs.Resting.{Rests}
use Rattle.component_image.specs.Laws.Components.{AllOf, components-all}
use Rattle.component_image.specs.Laws.Agreeing.{AgreeBeside}

-- the components stand behind the log
extents-behind : (pages : ℕ) (slots : List Slot) (i : ℕ) → AllOf (λ s. (s.index ≡ PRIMARY) × HasExtent pages s) slots → IsInExtents slots i → LOG_START + LOG_BYTES ≤ i
extents-behind pages [] i all inside = absurd inside
extents-behind pages (s ∷ slots) i all (inl here) = omega (arith, all.0.1.from, here.from)
extents-behind pages (s ∷ slots) i all (inr others) = extents-behind pages slots i all.1 others

pub content-behind : (pages : ℕ) (table : Table) (a : Bytes) (i : ℕ) → Recovers pages table a → IsContent a i → LOG_START + LOG_BYTES ≤ i
content-behind pages table a i r inside =
    extents-behind pages (primary_of a) i (components-all (HasExtent pages) PRIMARY (directory_of a) (λ n body is. (r.opens.directory.sound n body is).sound.extent)) inside

pub beside-log : (pages : ℕ) (table : Table) (a : Bytes) (i : ℕ) → Recovers pages table a → IsBeside a i → (i < LOG_START) ⊎ (LOG_START + LOG_BYTES ≤ i)
beside-log pages table a i r (inl (inl is)) = inl (omega (arith, is))
beside-log pages table a i r (inl (inr looked)) = inl (omega (arith, looked.1))
beside-log pages table a i r (inr (inl looked)) = inl (⊎_elim (λ here. omega (arith, here, looked.1)) (λ in_it. omega (arith, in_it.2, looked.1)) looked.2)
beside-log pages table a i r (inr (inr inside)) = inr (content-behind pages table a i r inside)

agree-of : (a b : Bytes) → ((i : ℕ) → IsBeside a i → b i ≡ a i) → AgreeBeside a b
agree-of a b same = record { superblock = λ i looked. same i (inl looked); directory = directory-same a b (λ i looked. same i (inr (inl looked))); content = λ i inside. same i (inr (inr inside)) }

-- where bytes agree at all that is beside the log, no more is beside it
beside-back : (a b : Bytes) → ((i : ℕ) → IsBeside a i → b i ≡ a i) → (i : ℕ) → IsBeside b i → IsBeside a i
beside-back a b same i (inl (inl is)) = inl (inl is)
beside-back a b same i (inl (inr looked)) = inl (inr (sym (same 0 (inl (inl refl))) ∙ looked.0, looked.1))
beside-back a b same i (inr (inl looked)) = inr (inl (looked.0, looked.1, looked-back looked.0 a b (λ j here. same j (inr (inl (looked.0, looked.1, here)))) i looked.2))
beside-back a b same i (inr (inr inside)) =
    inr (inr (subst (λ (d : Directory). IsInExtents (components PRIMARY d) i) (directory-same a b (λ j looked. same j (inr (inl looked)))) inside))

module _ (pages : ℕ) (log : Log) (table : Table) (s t : Story) (at count : ℕ) (now : Option Story) (rest : Rests pages log table s) (within : WritesWithin at count s now) (told : now ≡ Some t)
    (outside : (i : ℕ) → IsBeside (bytes_of s) i → IsOutside at count i) where
  settled : (i : ℕ) → IsBeside (bytes_of s) i → IsSettled s.past i
  settled i (inl looked) = rest.superblock_calm i looked
  settled i (inr (inl looked)) = rest.directory_rest i looked
  settled i (inr (inr inside)) = rest.content_calm i inside

  ends_there : after s within.calls ≡ t
  ends_there = same_Some _ _ (sym within.told ∙ told)

  -- what is beside the log is in each image as it was
  pub beside-images : EachMoment (clock_of s) t (λ _ image. AgreeBeside (bytes_of s) image)
  beside-images = subst (λ (u : Story). EachMoment (clock_of s) u (λ _ image. AgreeBeside (bytes_of s) image)) ends_there
      (EachMoment-weaker (clock_of s) (after s within.calls) (λ _ image. (i : ℕ) → IsBeside (bytes_of s) i → image i ≡ bytes_of s i) (λ _ image. AgreeBeside (bytes_of s) image)
      (λ m image same. agree-of (bytes_of s) image same)
      (EachMoment-spared s within.calls (IsBeside (bytes_of s)) (λ i is. within.spared i (outside i is)) settled))

  same_there : (i : ℕ) → IsBeside (bytes_of s) i → bytes_of t i ≡ bytes_of s i
  same_there i is = subst (λ (u : Story). bytes_of u i ≡ bytes_of s i) ends_there (bytes_of-spared s within.calls i (within.spared i (outside i is)))

  pub beside-agrees : AgreeBeside (bytes_of s) (bytes_of t)
  beside-agrees = agree-of (bytes_of s) (bytes_of t) same_there

  stays_settled : (i : ℕ) → IsBeside (bytes_of t) i → IsSettled t.past i
  stays_settled i is =
      let was : IsBeside (bytes_of s) i = beside-back (bytes_of s) (bytes_of t) same_there i is in
      subst (λ (u : Story). IsSettled u.past i) ends_there (IsSettled-spared s within.calls i (within.spared i (outside i was)) (settled i was))

  -- a store is at rest with another log, where that is at rest
  pub rests-beside : (next : Log) (after_it : Table) → next.start ≡ LOG_START → LogAtRest next t → IsLogOf next (segments_of LOG_START (bytes_of t)) → Recovers pages after_it (bytes_of t) → Rests pages next after_it t
  rests-beside next after_it start log_rest log_of recovers = record {
    recovers = recovers;
    superblock_calm = λ i looked. stays_settled i (inl looked);
    directory_rest = λ i looked. stays_settled i (inr (inl looked));
    content_calm = λ i inside. stays_settled i (inr (inr inside));
    log_start = start;
    log_rest = log_rest;
    log_of = log_of;
  }
