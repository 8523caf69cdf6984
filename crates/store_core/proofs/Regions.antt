-- The event of a region.
use Rattle.std.proofs.Common.{◌≡◌, ◌⊎◌, inl, inr, ℕ, ◌≤◌, true, false, List, [], ◌∷◌, map, Some, Ok, Err, Result, refl, sym, ◌∙◌, ap, subst, arith}
use Rattle.dev_model.specs.Counts.{Rose, next_count}
use Rattle.dev_model.specs.Story.{Story, WhereTold, clock_of}
use Rattle.geo_base.specs.Corners.{Corners}
use Rattle.geo_base.specs.Indexes.{has_index}
use Rattle.geo_base.specs.declared.points.IndexKind.{IndexKind}
use Rattle.geo_base.specs.declared.points.Row.{Row}
use Rattle.dev_model.specs.declared.page_faults.PageFault.{PageFault}
use Rattle.dev_model.specs.declared.page_faults.PageFault.TheVariants as page
use Rattle.primary_ix.specs.Wanted.{matter_row}
use Rattle.primary_ix.specs.Records.{table_rows}
use Rattle.primary_ix.specs.declared.rows.PrimRow.{PrimRow}
use Rattle.table_model.specs.Table.{Table, rows_of, rows_inside}
use Rattle.store_state.specs.Reading.{IsLegible}
use Rattle.store_state.specs.OnlyRead.{HasRead, IsOnlyRead}
use Rattle.store_machine.specs.Calls.{Makes}
use Rattle.store_machine.specs.Standing.{StoreState}
use Rattle.dev_model.specs.Story.{DeviceState}
use Rattle.store_machine.specs.declared.events.Found.{Found}
use Rattle.store_machine.specs.declared.events.Refusal.{Refusal}
use Rattle.store_machine.specs.declared.events.Refusal.TheVariants.{Fault, NoIndex, Damaged, OutOfMemory}
use Rattle.store_machine.specs.Laws.Damages.{no-cause}
use Rattle.store_machine.specs.Laws.Events.{still-event, stays-go_on, reads-event}
use Rattle.store_machine.specs.Runs.{way_to_all, IsFirstOf}
use Rattle.store_machine.specs.Laws.Reading.{AreReads-weaker, GoesOnWay, HasOnlyRead, IsPartBy, first-of, is_failed, read-cause}
use Rattle.store_machine.specs.declared.events.Action.TheVariants.{Region}
use Rattle.store_core.specs.Refusals.{refusal_of}
use Rattle.store_core.specs.Regions.{records_in}
use Rattle.store_core.proofs.Answering.{known-sound}

-- the records of a table's rows are its rows
records-back : (rows : List Row) → records_in (map matter_row rows) ≡ rows
records-back [] = refl
records-back (row ∷ rows) = ap (λ (rs : List Row). row ∷ rs) (records-back rows)

time-of : {X : Type 0} (old : StoreState) (now : DeviceState) (result : Result X PageFault) (pages : List ℕ) → HasOnlyRead old now way_to_all result pages → old.device.clock ≤ now.clock
time-of old now result pages reads = let counts : _ = reads.read.went.asked_for.clock in omega (arith, counts)

pub no-index : (old : StoreState) (owner : ℕ) (kind : IndexKind) (rect : Corners) → has_index old.declared kind ≡ false → Makes old old owner (Region kind rect (Err NoIndex))
no-index old owner kind rect none =
    still-event old old.lists old.seq owner (Region kind rect (Err NoIndex))
    (record {
      needs = λ known o m has tells. ap (λ (d : ℕ). has_index d kind) (sym has.declared) ∙ none;
      owned = tt;
      acks = tt;
      stops = refl;
      faults = omega arith;
      cause = λ fault. absurd (let no : true ≡ false = sym fault in cc);
      time = omega arith;
      causes = no-cause old.lists old.device (Region kind rect (Err NoIndex)) refl;
    })
    (λ m has i. record m { seq = sym has.seq i; log = sym has.log i; lists = sym has.lists i; table = m.table })
    refl (λ m. refl)
    (stays-go_on old old.seq)

pub found : {X : Type 0} (old new : StoreState) (now : DeviceState) (x : X) (pages : List ℕ) (owner : ℕ) (kind : IndexKind) (rect : Corners) (rows : List PrimRow) (answer : Found)
    → HasOnlyRead old now way_to_all (Ok x) pages → ((table : Table) (disk : List (List PrimRow)) → WhereTold old.device.story (λ s. IsLegible table disk old.lists s → rows ≡ table_rows table))
    → has_index old.declared kind ≡ true → answer.seq ≡ old.seq → answer.rows ≡ rows_inside rect (records_in rows) → new ≡ record old { device = now; seq = next_count old.seq }
    → Makes old new owner (Region kind rect (Ok answer))
found old new now x pages owner kind rect rows answer reads are declared seq inside new_is =
    subst (λ (s : StoreState). Makes old s owner (Region kind rect (Ok answer))) (sym new_is)
    (reads-event old now way_to_all (Ok x) pages (next_count old.seq) owner (Region kind rect (Ok answer)) reads
    (record {
      needs = λ known o m has tells. record {
        declared = ap (λ (d : ℕ). has_index d kind) (sym has.declared) ∙ declared;
        seq = seq ∙ has.seq;
        rows = λ is_known. let t : _ = tells is_known in
            inside ∙ ap (λ (rs : List PrimRow). rows_inside rect (records_in rs)) (are m.table m.disk t.now t.told t.legible) ∙ ap (rows_inside rect) (records-back (rows_of m.table));
      };
      owned = tt;
      acks = tt;
      stops = refl;
      faults = reads.later;
      cause = λ fault. absurd (let no : true ≡ false = sym fault in cc);
      time = time-of old now (Ok x) pages reads;
      causes = no-cause old.lists now (Region kind rect (Ok answer)) refl;
    })
    (λ m has i. record m { seq = next_count (sym has.seq i); log = sym has.log i; lists = sym has.lists i; table = m.table })
    refl (λ m calls is. is))

-- want of memory behind the reads
pub no-memory : {X : Type 0} (old : StoreState) (now : DeviceState) (result : Result X PageFault) (pages : List ℕ) (owner : ℕ) (kind : IndexKind) (rect : Corners) → HasOnlyRead old now way_to_all result pages
    → is_failed result ≡ false → has_index old.declared kind ≡ true → Makes old (record old { device = now }) owner (Region kind rect (Err OutOfMemory))
no-memory old now result pages owner kind rect reads given declared =
    reads-event old now way_to_all result pages old.seq owner (Region kind rect (Err OutOfMemory)) reads
    (record {
      needs = λ known o m has tells. ap (λ (d : ℕ). has_index d kind) (sym has.declared) ∙ declared;
      owned = tt;
      acks = tt;
      stops = refl;
      faults = reads.later;
      cause = λ fault. absurd (let no : true ≡ false = sym fault in cc);
      time = time-of old now result pages reads;
      causes = no-cause old.lists now (Region kind rect (Err OutOfMemory)) refl;
    })
    (λ m has i. record m { seq = sym has.seq i; log = sym has.log i; lists = sym has.lists i; table = m.table })
    (sym given) (λ m calls is. AreReads-weaker m way_to_all (IsPartBy result) IsFirstOf calls (λ some all part. first-of result some all given part) is)

pub not-read : {X : Type 0} (old : StoreState) (now : DeviceState) (fault : PageFault) (refusal : Refusal) (pages : List ℕ) (owner : ℕ) (kind : IndexKind) (rect : Corners) → HasOnlyRead {X = X} old now way_to_all (Err fault) pages
    → ((table : Table) (disk : List (List PrimRow)) → WhereTold old.device.story (λ s. IsLegible table disk old.lists s → (n : ℕ) → fault ≡ page.Damaged n → ⊥)) → (fault ≡ page.Failed → Rose old.device.faults now.faults)
    → has_index old.declared kind ≡ true → refusal ≡ refusal_of fault → Makes old (record old { device = now }) owner (Region kind rect (Err refusal))
not-read {X} old now fault refusal pages owner kind rect reads sound rose declared is =
    subst (λ (r : Refusal). Makes old (record old { device = now }) owner (Region kind rect (Err r))) (sym is) (by_fault fault reads sound rose)
  where
    by_fault : (f : PageFault) → HasOnlyRead {X = X} old now way_to_all (Err f) pages → ((table : Table) (disk : List (List PrimRow)) → WhereTold old.device.story (λ s. IsLegible table disk old.lists s → (n : ℕ) → f ≡ page.Damaged n → ⊥))
        → (f ≡ page.Failed → Rose old.device.faults now.faults) → Makes old (record old { device = now }) owner (Region kind rect (Err (refusal_of f)))
    by_fault page.Failed reads_it never rises =
        reads-event old now way_to_all (Err page.Failed) pages old.seq owner (Region kind rect (Err Fault)) reads_it
        (record {
          needs = λ known o m has tells. ap (λ (d : ℕ). has_index d kind) (sym has.declared) ∙ declared;
          owned = tt;
          acks = tt;
          stops = refl;
          faults = reads_it.later;
          cause = λ _. rises refl;
          time = time-of old now (Err page.Failed) pages reads_it;
          causes = no-cause old.lists now (Region kind rect (Err Fault)) refl;
        })
        (λ m has i. record m { seq = sym has.seq i; log = sym has.log i; lists = sym has.lists i; table = m.table })
        refl (λ m calls are. are)
    by_fault (page.Damaged n) reads_it never rises =
        reads-event old now way_to_all (Err (page.Damaged n)) pages old.seq owner (Region kind rect (Err (Damaged n))) reads_it
        (record {
          needs = λ known o m has tells. (known-sound known (λ is_known. let t : _ = tells is_known in never m.table m.disk t.now t.told t.legible n refl), ap (λ (d : ℕ). has_index d kind) (sym has.declared) ∙ declared);
          owned = tt;
          acks = tt;
          stops = refl;
          faults = reads_it.later;
          cause = λ fault_is. absurd (let no : true ≡ false = sym fault_is in cc);
          time = time-of old now (Err (page.Damaged n)) pages reads_it;
          causes = read-cause old now way_to_all n pages reads_it reads_it.read.damaged;
        })
        (λ m has i. record m { seq = sym has.seq i; log = sym has.log i; lists = sym has.lists i; table = m.table })
        refl (λ m calls are. are)
    by_fault page.OutOfMemory reads_it never rises = no-memory old now (Err page.OutOfMemory) pages owner kind rect reads_it refl declared

pub read-facts : {X : Type 0} (old : StoreState) (now : DeviceState) (result : Result X PageFault) (pages : List ℕ) → HasRead old.lists old.device now result pages
    → GoesOnWay old way_to_all result pages
    → WhereTold old.device.story (λ s. IsOnlyRead old.device.pages old.lists s now.story) → now.pages ≡ old.device.pages → old.device.faults ≤ now.faults
    → ((s : Story) → now.story ≡ Some s → now.clock ≡ clock_of s) → HasOnlyRead old now way_to_all result pages
read-facts old now result pages read by stays same_pages later clock_told = record { read = read; by = by; stays = stays; same_pages = same_pages; later = later; clock_told = clock_told }

-- a refusal that a store whose pages show its lists may have names no page
pub sound-rows : (fault : PageFault) → (fault ≡ page.Failed) ⊎ (fault ≡ page.OutOfMemory) → (n : ℕ) → fault ≡ page.Damaged n → ⊥
sound-rows fault (inl failed) n damaged = let e : page.Failed ≡ page.Damaged n = sym failed ∙ damaged in cc
sound-rows fault (inr memory) n damaged = let e : page.OutOfMemory ≡ page.Damaged n = sym memory ∙ damaged in cc
