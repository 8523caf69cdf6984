-- Which lists the components show after calls that wrote none of their pages. No public contract needs these laws.
use Rattle.std.proofs.Common.{◌≡◌, inr, ℕ, ◌+◌, ◌≤◌, List, [], ◌∷◌, Option, Some, sym, ◌∙◌, ap, subst, arith}
use Rattle.std.proofs.lemmas.Option.{same_Some}
use Rattle.dev_model.specs.Story.{Bytes, Story, after, bytes_of}
use Rattle.dev_model.specs.Writes.{WritesWithin}
use Rattle.dev_model.specs.Laws.Frame.{bytes_of-spared}
use Rattle.table_model.specs.Table.{Table}
use Rattle.wal_log.specs.declared.records.Record.{Record}
use Rattle.wal_log.specs.declared.places.TheConstants.{LOG_BYTES}
use Rattle.format_numbers.specs.declared.TheConstants.{LOG_START}
use Rattle.comp_dir.specs.Directory.{directory_of}
use Rattle.comp_dir.specs.State.{with_slot}
use Rattle.comp_dir.specs.declared.places.TheConstants.{PRIMARY}
use Rattle.comp_dir.specs.declared.slots.Slot.{Slot}
use Rattle.primary_ix.specs.declared.rows.PrimRow.{PrimRow}
use Rattle.component_image.specs.Changes.{changed}
use Rattle.component_image.specs.Components.{components}
use Rattle.component_image.specs.Content.{Shows, ShowAll}
use Rattle.component_image.specs.Recovered.{primary_of, IsContent, Recovers}
use Rattle.component_image.specs.Standing.{MayStand}
use Rattle.component_image.specs.Laws.Components.{AllOf}
use Rattle.component_image.specs.Laws.Agreeing.{IsPrimary, primaries, Shows-same, ShowAll-same}
use Rattle.component_image.specs.Laws.Resting.{content-behind}
use Rattle.component_image.specs.Laws.Showing.{same_lists_shown}

module _ (pages : ℕ) (one other : Table) (a b : Bytes) (r : Recovers pages one a) (q : Recovers pages other b) (content : (i : ℕ) → IsContent a i → b i ≡ a i) where
  still_shown : ShowAll b (primary_of a) r.lists
  still_shown = ShowAll-same a b (primary_of a) r.lists (primaries pages 0 (directory_of a) r.opens.directory) content r.shown

  -- the same components show the same lists
  pub kept-lists : directory_of b ≡ directory_of a → q.lists ≡ r.lists
  kept-lists same =
      let slots : primary_of b ≡ primary_of a = ap (components PRIMARY) same in
      same_lists_shown b (primary_of b) q.lists r.lists q.shown (subst (λ (x : List Slot). ShowAll b x r.lists) (sym slots) still_shown)

  -- with a component before them, its list stands before theirs
  pub added-list : (new : Slot) (rows : List PrimRow) → primary_of b ≡ new ∷ primary_of a → Shows b new rows → q.lists ≡ rows ∷ r.lists
  added-list new rows slots shows =
      same_lists_shown b (primary_of b) q.lists (rows ∷ r.lists) q.shown (subst (λ (x : List Slot). ShowAll b x (rows ∷ r.lists)) (sym slots) (shows, still_shown))

-- calls that write before the pages of components leave these
module _ (at count : ℕ) (s t : Story) (now : Option Story) (within : WritesWithin at count s now) (told : now ≡ Some t) (before : at + count ≤ LOG_START + LOG_BYTES) where
  same : (i : ℕ) → LOG_START + LOG_BYTES ≤ i → bytes_of t i ≡ bytes_of s i
  same i behind =
      let there : after s within.calls ≡ t = same_Some _ _ (sym within.told ∙ told) in
      subst (λ (u : Story). bytes_of u i ≡ bytes_of s i) there (bytes_of-spared s within.calls i (within.spared i (inr (omega (arith, before, behind)))))

  pub content-apart : (pages : ℕ) (table : Table) → Recovers pages table (bytes_of s) → (i : ℕ) → IsContent (bytes_of s) i → bytes_of t i ≡ bytes_of s i
  content-apart pages table r i inside = same i (content-behind pages table (bytes_of s) i r inside)

  -- a component that might stand in a slot has its list before the others once it is there
  pub installed-lists : (pages : ℕ) (one other : Table) (n : ℕ) (new : Slot) (frozen : List Record) (lists : List (List PrimRow)) → (r : Recovers pages one (bytes_of s)) (q : Recovers pages other (bytes_of t))
      → MayStand pages s n new frozen lists → directory_of (bytes_of t) ≡ with_slot n new (directory_of (bytes_of s)) → q.lists ≡ changed [] frozen ∷ r.lists
  installed-lists pages one other n new frozen lists r q may opened =
      let all : AllOf IsPrimary (new ∷ primary_of (bytes_of s)) = subst (AllOf IsPrimary) may.components_are (primaries pages 0 (with_slot n new (directory_of (bytes_of s))) may.directory) in
      added-list pages one other (bytes_of s) (bytes_of t) r q (content-apart pages one r) new (changed [] frozen)
      (ap (components PRIMARY) opened ∙ may.components_are)
      (Shows-same (bytes_of s) (bytes_of t) new (changed [] frozen) all.0 (λ i inside. same i (omega (arith, may.behind, inside.from))) may.shows)
