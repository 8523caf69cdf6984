-- How many calls a format makes, and what two empty stores share.
use Rattle.std.proofs.Common.{◌≡◌, ℕ, zero, suc, ◌+◌, List, [], ◌∷◌, ◌++◌, true, false, length, Option, Some, None, refl, sym, ◌∙◌, ap, arith, length-append}
use Rattle.dev_model.specs.Story.{Bytes, Sync, part}
use Rattle.wal_log.specs.Places.{segment_start}
use Rattle.superblock.specs.Superblock.{superblock_bytes}
use Rattle.comp_dir.specs.Places.{slot_start}
use Rattle.format_numbers.specs.declared.TheConstants.{LOG_START}
use Rattle.superblock.specs.Calls.{write_superblock}
use Rattle.comp_dir.specs.Directory.{slot_body, directory_of}
use Rattle.comp_dir.specs.Laws.Agreeing.{directory-at, slot_at-open}
use Rattle.component_image.specs.Laws.Without.{none-open}
use Rattle.device_format.specs.Planning.{close_from, close_gates, start_log}
use Rattle.device_format.specs.Examples.{AreCounted, HaveNoOpenSlot, HaveOneSuperblock, example_superblock}

length-close_from : (gate : ℕ → ℕ) (n count : ℕ) → length (close_from gate n count) ≡ count
unfolding close_from
length-close_from gate n zero = refl
length-close_from gate n (suc count) = ap suc (length-close_from gate (n + 1) count)

length-close_gates : length close_gates ≡ 517
length-close_gates =
    omega (arith, length-append (close_from slot_start 0 512) (close_from (segment_start LOG_START) 0 4 ++ Sync ∷ []), length-append (close_from (segment_start LOG_START) 0 4) (Sync ∷ []), length-close_from slot_start 0 512, length-close_from (segment_start LOG_START) 0 4)

rest_length : (indexes pages : ℕ) → length (close_gates ++ (start_log ++ write_superblock indexes pages)) ≡ 525
rest_length indexes pages = omega (arith, length-append close_gates (start_log ++ write_superblock indexes pages), length-close_gates)

pub counted : AreCounted
counted true indexes pages = omega (arith, rest_length indexes pages)
counted false indexes pages = omega (arith, rest_length indexes pages)

pub no_open_slot : HaveNoOpenSlot
no_open_slot pages indexes n bytes lt is_open store =
    let both : ◌≡◌ {A = Option (List ℕ)} None (Some (slot_body n bytes)) = sym (none-open 0 n (directory_of bytes) store.no_slots) ∙ directory-at n bytes lt ∙ slot_at-open n bytes is_open in cc

whole : (bytes : Bytes) → part 0 16 bytes ≡ bytes 0 ∷ part 1 15 bytes
unfolding part
whole bytes = refl

pub one_superblock : HaveOneSuperblock
one_superblock pages indexes a b one other =
    let of_a = one.recovers.opens.formatted in
    let of_b = other.recovers.opens.formatted in
    let gates : a 0 ≡ b 0 = of_a.gate ∙ sym of_b.gate in
    let fields : part 1 15 a ≡ part 1 15 b =
    of_a.fields ∙ ap (λ (d : ℕ). superblock_bytes d pages) (one.declares ∙ sym other.declares) ∙ sym of_b.fields in
    whole a ∙ (λ i. gates i ∷ fields i) ∙ sym (whole b)

pub example_is : superblock_bytes 4 4096 ≡ example_superblock
unfolding superblock_bytes
example_is = refl
