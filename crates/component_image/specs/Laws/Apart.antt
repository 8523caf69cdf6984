-- What is read of the directory and of the log after calls that write elsewhere. No public contract needs these laws.
use Rattle.std.proofs.Common.{◌≡◌, ◌⊎◌, inl, inr, ⊎_elim, ℕ, ◌+◌, ◌<◌, ◌≤◌, Option, Some, sym, ◌∙◌, subst, arith}
use Rattle.std.proofs.lemmas.Option.{same_Some}
use Rattle.dev_model.specs.Story.{Story, after, bytes_of, IsOutside}
use Rattle.dev_model.specs.Writes.{WritesWithin}
use Rattle.dev_model.specs.Laws.Frame.{bytes_of-spared}
use Rattle.wal_log.specs.Segments.{segments_of}
use Rattle.wal_log.specs.Laws.Agreeing.{segment_records-few}
use Rattle.wal_log.specs.declared.places.TheConstants.{LOG_BYTES}
use Rattle.format_numbers.specs.declared.TheConstants.{LOG_START}
use Rattle.component_image.specs.Recovered.{IsLookedInLog}
use Rattle.component_image.specs.Laws.Agreeing.{log-same}
use Rattle.comp_dir.specs.Directory.{directory_of, IsLooked}
use Rattle.comp_dir.specs.Laws.Agreeing.{directory-same}

module _ (at count : ℕ) (s t : Story) (now : Option Story) (within : WritesWithin at count s now) (told : now ≡ Some t) where
  same : (i : ℕ) → IsOutside at count i → bytes_of t i ≡ bytes_of s i
  same i out =
      let there : after s within.calls ≡ t = same_Some _ _ (sym within.told ∙ told) in
      subst (λ (u : Story). bytes_of u i ≡ bytes_of s i) there (bytes_of-spared s within.calls i (within.spared i out))

  -- before the log or behind it
  pub segments-apart : (at + count ≤ LOG_START) ⊎ (LOG_START + LOG_BYTES ≤ at) → segments_of LOG_START (bytes_of t) ≡ segments_of LOG_START (bytes_of s)
  segments-apart apart = log-same (bytes_of s) (bytes_of t) (λ i looked. same i (outside i looked))
    where
      outside : (i : ℕ) → IsLookedInLog (bytes_of s) i → IsOutside at count i
      outside i is =
          let low : LOG_START ≤ i = ⊎_elim (λ here. omega (arith, here)) (λ in_it. omega (arith, in_it.1)) is.2 in
          let high : i < LOG_START + LOG_BYTES = ⊎_elim (λ here. omega (arith, here, is.1)) (λ in_it. omega (arith, in_it.2, is.1, segment_records-few LOG_START is.0 (bytes_of s))) is.2 in
          ⊎_elim (λ before. inr (omega (arith, before, low))) (λ behind. inl (omega (arith, behind, high))) apart

  -- behind the directory
  pub directory-apart : LOG_START ≤ at → directory_of (bytes_of t) ≡ directory_of (bytes_of s)
  directory-apart behind = directory-same (bytes_of s) (bytes_of t) (λ i looked. same i (inl (before i looked)))
    where
      before : (i : ℕ) → IsLooked (bytes_of s) i → i < at
      before i looked = ⊎_elim (λ here. omega (arith, here, looked.1, behind)) (λ in_it. omega (arith, in_it.2, looked.1, behind)) looked.2
