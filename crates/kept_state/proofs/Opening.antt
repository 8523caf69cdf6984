-- An install: what each crash leaves while its calls are made, and how the store rests behind them.
use Rattle.std.proofs.Common.{◌≡◌, ◌≢◌, ◌⊎◌, inl, inr, ⊎_elim, ℕ, ◌+◌, ◌≤◌, List, [], ◌∷◌, length, get_or, Option, Some, None, Result, refl, sym, ◌∙◌, ap, subst, arith}
use Rattle.std.proofs.lemmas.List.{get_or-set_same}
use Rattle.std.proofs.lemmas.Option.{none-some, same_Some}
use Rattle.dev_model.specs.Story.{Bytes, Story, Write, Sync, after, clock_of, bytes_of, IsSettled, IsOutside}
use Rattle.dev_model.specs.Doing.{Did}
use Rattle.dev_model.specs.Moments.{EachMoment, LeavesOnly}
use Rattle.dev_model.specs.Writes.{WritesWithin}
use Rattle.dev_model.specs.Laws.CallLists.{clock_of-after}
use Rattle.dev_model.specs.Laws.Frame.{WritesWithin-did}
use Rattle.dev_model.specs.Laws.Plans.{LeavesOnly-did}
use Rattle.dev_model.specs.Laws.Ranges.{patched-outside}
use Rattle.table_model.specs.Table.{Table}
use Rattle.wal_log.specs.declared.log.Log.{Log}
use Rattle.wal_log.specs.declared.records.Record.{Record}
use Rattle.gate.specs.declared.gates.TheConstants.{OPEN}
use Rattle.comp_dir.specs.Places.{slot_start}
use Rattle.comp_dir.specs.Directory.{directory_of}
use Rattle.comp_dir.specs.Slots.{slot_bytes}
use Rattle.comp_dir.specs.State.{IsClosed, IsOneOf, with_slot}
use Rattle.comp_dir.specs.Resting.{IsAtRest as DirectoryAtRest, install_calls}
use Rattle.comp_dir.specs.Laws.Agreeing.{directory-at, slot_at-shut}
use Rattle.comp_dir.specs.declared.places.TheConstants.{SLOT_BYTES}
use Rattle.comp_dir.specs.declared.slots.Slot.{Slot}
use Rattle.primary_ix.specs.declared.rows.PrimRow.{PrimRow}
use Rattle.component_image.specs.Components.{IsInExtent}
use Rattle.component_image.specs.Recovered.{Recovers}
use Rattle.component_image.specs.Resting.{Rests}
use Rattle.component_image.specs.Standing.{MayStand}
use Rattle.component_image.specs.Laws.Opened.{opened-images, opened-rests}
use Rattle.kept_state.specs.Laws.Installing.{length-directory}
use Rattle.kept_state.specs.Steps.{IsWritten}

length-slot_bytes : (slot : Slot) → length (slot_bytes slot) ≡ 63
unfolding slot_bytes
length-slot_bytes slot = refl

-- where an install writes: in its slot alone, up to the call that it ended at
pub install-within : {X E : Type 0} (n : ℕ) (new : Slot) (s : Story) (old now : Option Story) (r : Result X E) → old ≡ Some s → Did (install_calls n new) old now r → WritesWithin (slot_start n) SLOT_BYTES s now
install-within n new s old now r is did =
    WritesWithin-did (slot_start n) SLOT_BYTES s (install_calls n new) old now r is did
    (λ i out. ⊎_elim (λ before. (inl (omega (arith, before)), (tt, (inl before, (tt, tt))))) (λ behind. (inr (omega (arith, behind, length-slot_bytes new)), (tt, (inr (omega (arith, behind)), (tt, tt))))) out)

-- The component's pages are written and its slot is closed. The calls of the install were made, or the first of them up to one that
-- failed.
module _ {X E : Type 0} (pages : ℕ) (log : Log) (table : Table) (s : Story) (n : ℕ) (new : Slot) (frozen : List Record) (lists : List (List PrimRow)) (rest : Rests pages log table s) (may : MayStand pages s n new frozen lists)
    (closed : IsClosed n s) (written : IsWritten new s) (old now : Option Story) (r : Result X E) (is : old ≡ Some s) (did : Did (install_calls n new) old now r) where
  abbrev staged : Story
  staged = after s (Write (slot_start n + 1) (slot_bytes new) ∷ Sync ∷ [])

  before_body : IsOutside (slot_start n + 1) (length (slot_bytes new)) (slot_start n)
  before_body = inl (omega arith)

  off_gate : (i : ℕ) → IsInExtent new i → IsOutside (slot_start n) 1 i
  off_gate i inside = inr (omega (arith, may.below, may.behind, inside.from))

  behind_body : (i : ℕ) → IsInExtent new i → bytes_of staged i ≡ bytes_of s i
  behind_body i inside = patched-outside (slot_start n + 1) (slot_bytes new) (bytes_of s) i (inr (omega (arith, may.below, may.behind, inside.from, length-slot_bytes new)))

  behind_gate : (i : ℕ) → IsInExtent new i → bytes_of (after s (install_calls n new)) i ≡ bytes_of s i
  behind_gate i inside = patched-outside (slot_start n) (OPEN ∷ []) (bytes_of staged) i (off_gate i inside) ∙ behind_body i inside

  -- Until the first sync has returned the gate is closed, and from then on the component's pages are on the disk.
  abbrev IsShutOrThere : Bytes → Type 0
  IsShutOrThere image = (image (slot_start n) ≢ OPEN) ⊎ ((i : ℕ) → IsInExtent new i → image i ≡ bytes_of s i)

  shut : (image : Bytes) → image (slot_start n) ≡ bytes_of s (slot_start n) → IsShutOrThere image
  shut image same = inl (λ is_open. closed (sym same ∙ is_open))

  shut_or_there : LeavesOnly s now IsShutOrThere
  shut_or_there =
      let gate : IsSettled s.past (slot_start n) = rest.directory_rest (slot_start n) (n, may.below, inl refl) in
      LeavesOnly-did s (install_calls n new) IsShutOrThere old now r is did (
        λ image during. shut image (during (slot_start n) before_body gate),
        (
          (λ image during. shut image (during (slot_start n) tt (before_body, gate) ∙ patched-outside (slot_start n + 1) (slot_bytes new) (bytes_of s) (slot_start n) before_body)),
          (
            (λ image during. inr (λ i inside. during i (off_gate i inside) (inr (written i inside)) ∙ behind_body i inside)),
            ((λ image during. inr (λ i inside. during i tt (off_gate i inside, inr (written i inside)) ∙ behind_gate i inside)), tt),
          ),
        ),
      )
      (λ image now. inr (λ i inside. now i (inr (inr (written i inside))) ∙ behind_gate i inside))

  -- so an image with the open slot has the component's pages
  new_there : (image : Bytes) → IsShutOrThere image → directory_of image ≡ with_slot n new (directory_of (bytes_of s)) → (i : ℕ) → IsInExtent new i → image i ≡ bytes_of s i
  new_there image (inr same) opened = same
  new_there image (inl shut) opened =
      absurd (none-some (slot_bytes new)
      (sym (slot_at-shut n image shut) ∙ sym (directory-at n image may.below) ∙ ap (λ d. get_or d n None) opened
      ∙ get_or-set_same (directory_of (bytes_of s)) n (Some (slot_bytes new)) None (omega (arith, may.below, length-directory (bytes_of s)))))

  module _ (t : Story) (told : now ≡ Some t) where
    all_there : EachMoment (clock_of s) t (λ _ image. directory_of image ≡ with_slot n new (directory_of (bytes_of s)) → (i : ℕ) → IsInExtent new i → image i ≡ bytes_of s i)
    all_there = subst (λ (u : Story). EachMoment (clock_of s) u (λ _ image. directory_of image ≡ with_slot n new (directory_of (bytes_of s)) → (i : ℕ) → IsInExtent new i → image i ≡ bytes_of s i))
        (same_Some _ _ (sym shut_or_there.told ∙ told))
        (λ m from to image is. new_there image (shut_or_there.each m from to image is))

    -- once the slot is open and synced, the store is at rest
    pub install-rests : after s (install_calls n new) ≡ t → DirectoryAtRest t → directory_of (bytes_of t) ≡ with_slot n new (directory_of (bytes_of s)) → Rests pages log table t
    install-rests ends =
        let later : clock_of s ≤ clock_of t = subst (λ (u : Story). clock_of s ≤ clock_of u) ends (omega (arith, clock_of-after s (install_calls n new))) in
        opened-rests pages log table s t n SLOT_BYTES now rest new frozen lists may (omega arith) (install-within n new s old now r is did) told all_there later
        (λ i inside. subst (λ (u : Story). IsSettled u.past i) ends (inr (inr (written i inside))))

  -- each crash leaves the table, with the component or without it
  pub install-leaves : LeavesOnly s now (λ image. IsOneOf (directory_of (bytes_of s)) (with_slot n new (directory_of (bytes_of s))) (directory_of image)) → LeavesOnly s now (Recovers pages table)
  install-leaves directories = record {
    calls = directories.calls;
    told = directories.told;
    each = opened-images pages log table s (after s directories.calls) n SLOT_BYTES now rest new frozen lists may (omega arith) (install-within n new s old now r is did) directories.told (all_there (after s directories.calls) directories.told) directories.each;
  }
