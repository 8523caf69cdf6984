-- The events of calls that answer from memory, or from pages that were read.
use Rattle.std.proofs.Common.{◌≡◌, ℕ, ◌≤◌, Bool, true, false, List, Option, Some, Ok, Err, Result, MatchResult, is_some, ◌+◌, ◌-◌, length, refl, sym, ◌∙◌, ap, subst, arith}
use Rattle.dev_model.specs.Counts.{Rose, next_count}
use Rattle.dev_model.specs.Story.{Story, WhereTold, clock_of}
use Rattle.geo_base.specs.declared.points.Row.{Row}
use Rattle.dev_model.specs.declared.page_faults.PageFault.{PageFault}
use Rattle.dev_model.specs.declared.page_faults.PageFault.TheVariants as page
use Rattle.primary_ix.specs.Wanted.{table_row}
use Rattle.primary_ix.specs.declared.rows.PrimRow.{PrimRow}
use Rattle.table_model.specs.Table.{Table}
use Rattle.wal_log.specs.declared.log.Log.{Log}
use Rattle.store_state.specs.Lists.{Lists, placed_up_to}
use Rattle.dev_model.specs.Asked.{reads_of}
use Rattle.device_pages.specs.Asked.{calls_of}
use Rattle.store_state.specs.Reading.{IsLegible}
use Rattle.store_state.specs.OnlyRead.{HasRead, IsOnlyRead}
use Rattle.store_machine.specs.Calls.{Makes}
use Rattle.store_machine.specs.Standing.{StoreState}
use Rattle.dev_model.specs.Story.{DeviceState}
use Rattle.store_machine.specs.declared.events.Look.{Look}
use Rattle.store_machine.specs.declared.events.Refusal.TheVariants.{Fault, Damaged}
use Rattle.store_machine.specs.Laws.Damages.{no-cause}
use Rattle.store_machine.specs.Laws.Events.{still-event, stays-go_on, reads-event}
use Rattle.store_machine.specs.Runs.{way_to}
use Rattle.store_machine.specs.Laws.Reading.{GoesOnWay, HasOnlyRead, read-cause}
use Rattle.store_machine.specs.declared.events.Action.TheVariants.{Get, Count, Look as Looked}
use Rattle.store_core.specs.Refusals.{refusal_of}

-- the number of rows
pub counted : (old : StoreState) (owner rows : ℕ) → rows ≡ old.lists.rows → Makes old (record old { seq = next_count old.seq }) owner (Count old.seq rows)
counted old owner rows is =
    still-event old old.lists (next_count old.seq) owner (Count old.seq rows)
    (record {
      needs = λ known o m has tells. (has.seq, is ∙ ap (λ (l : _). l.rows) has.lists, λ is_known. is ∙ (tells is_known).rows);
      owned = tt;
      acks = tt;
      stops = refl;
      faults = omega arith;
      cause = λ fault. absurd (let no : true ≡ false = sym fault in cc);
      time = omega arith;
      causes = no-cause old.lists old.device (Count old.seq rows) refl;
    })
    (λ m has i. record m { seq = next_count (sym has.seq i); log = sym has.log i; lists = sym has.lists i; table = m.table })
    refl (λ m. refl)
    (stays-go_on old (next_count old.seq))

-- what is said of one read of a row
pub record ReadsRow (old : StoreState) (now : DeviceState) (key : ℕ) (result : Result (Option Row) PageFault) (pages : List ℕ) : Type 0 where
  pub reads : HasOnlyRead old now (way_to key) result pages
  pub row : (table : Table) (disk : List (List PrimRow)) → WhereTold old.device.story (λ s. IsLegible table disk old.lists s → MatchResult result (λ row. row ≡ table_row table key) (λ fault. fault ≡ page.Failed))
  pub time : old.device.clock ≤ now.clock

-- what a call that reads a row shows
pub reads-row : (old : StoreState) (now : DeviceState) (key : ℕ) (result : Result (Option Row) PageFault) (pages : List ℕ) → HasRead old.lists old.device now result pages
    → GoesOnWay old (way_to key) result pages
    → WhereTold old.device.story (λ s. IsOnlyRead old.device.pages old.lists s now.story) → now.pages ≡ old.device.pages → old.device.faults ≤ now.faults
    → ((s : Story) → now.story ≡ Some s → now.clock ≡ clock_of s)
    → ((table : Table) (disk : List (List PrimRow)) → WhereTold old.device.story (λ s. IsLegible table disk old.lists s → MatchResult result (λ row. row ≡ table_row table key) (λ fault. fault ≡ page.Failed)))
    → ReadsRow old now key result pages
reads-row old now key result pages read by stays same_pages later clock_told row = record {
  reads = record { read = read; by = by; stays = stays; same_pages = same_pages; later = later; clock_told = clock_told };
  row = row;
  time = let clock : now.clock ≡ old.device.clock + length (calls_of old.device.clock (reads_of result pages)) = read.went.asked_for.clock in omega (arith, clock);
}

pub got : (old : StoreState) (now : DeviceState) (owner key : ℕ) (row : Option Row) (pages : List ℕ) → ReadsRow old now key (Ok row) pages
    → Makes old (record old { device = now; seq = next_count old.seq }) owner (Get key (Ok (record { seq = old.seq; row = row })))
got old now owner key row pages is =
    reads-event old now (way_to key) (Ok row) pages (next_count old.seq) owner (Get key (Ok (record { seq = old.seq; row = row }))) is.reads
    (record {
      needs = λ known o m has tells. record { seq = has.seq; row = λ is_known. let t : _ = tells is_known in is.row m.table m.disk t.now t.told t.legible };
      owned = tt;
      acks = tt;
      stops = refl;
      faults = is.reads.later;
      cause = λ fault. absurd (let no : true ≡ false = sym fault in cc);
      time = is.time;
      causes = no-cause old.lists now (Get key (Ok (record { seq = old.seq; row = row }))) refl;
    })
    (λ m has i. record m { seq = next_count (sym has.seq i); log = sym has.log i; lists = sym has.lists i; table = m.table })
    refl (λ m calls are. are)

-- a page of a store that was opened from what was on the disk is what its place asks for
pub known-sound : (known : Bool) → (known ≡ true → ⊥) → known ≡ false
known-sound true never = absurd (never refl)
known-sound false never = refl

pub got-refused : (old : StoreState) (now : DeviceState) (owner key : ℕ) (fault : PageFault) (pages : List ℕ) → ReadsRow old now key (Err fault) pages
    → (fault ≡ page.Failed → Rose old.device.faults now.faults) → (fault ≡ page.OutOfMemory → ⊥)
    → Makes old (record old { device = now }) owner (Get key (Err (refusal_of fault)))
got-refused old now owner key page.Failed pages is rose memory =
    reads-event old now (way_to key) (Err page.Failed) pages old.seq owner (Get key (Err Fault)) is.reads
    (record { needs = λ known o m has tells. tt; owned = tt; acks = tt; stops = refl; faults = is.reads.later; cause = λ _. rose refl; time = is.time; causes = no-cause old.lists now (Get key (Err Fault)) refl })
    (λ m has i. record m { seq = sym has.seq i; log = sym has.log i; lists = sym has.lists i; table = m.table })
    refl (λ m calls are. are)
got-refused old now owner key (page.Damaged n) pages is rose memory =
    reads-event old now (way_to key) (Err (page.Damaged n)) pages old.seq owner (Get key (Err (Damaged n))) is.reads
    (record {
      needs = λ known o m has tells. known-sound known (λ is_known. let t : _ = tells is_known in let e : page.Damaged n ≡ page.Failed = is.row m.table m.disk t.now t.told t.legible in cc);
      owned = tt;
      acks = tt;
      stops = refl;
      faults = is.reads.later;
      cause = λ fault. absurd (let no : true ≡ false = sym fault in cc);
      time = is.time;
      causes = read-cause old now (way_to key) n pages is.reads is.reads.read.damaged;
    })
    (λ m has i. record m { seq = sym has.seq i; log = sym has.log i; lists = sym has.lists i; table = m.table })
    refl (λ m calls are. are)
got-refused old now owner key page.OutOfMemory pages is rose memory = absurd (memory refl)

-- what a store tells of itself
pub looked : (old : StoreState) (owner : ℕ) (look : Look) → look.ops ≡ old.log.records → look.frozen ≡ is_some old.lists.frozen → look.lanes ≡ 0 → look.placed ≡ placed_up_to old.lists.components
    → look.lsn ≡ old.log.next_lsn - 1 → Makes old old owner (Looked look)
looked old owner look ops frozen lanes placed lsn =
    still-event old old.lists old.seq owner (Looked look)
    (record {
      needs = λ known o m has tells. record {
        ops = ops ∙ ap (λ (l : Log). l.records) has.log;
        frozen = frozen ∙ ap (λ (l : Lists). is_some l.frozen) has.lists;
        lanes = lanes;
        placed = placed ∙ ap (λ (l : Lists). placed_up_to l.components) has.lists;
        lsn = lsn ∙ ap (λ (l : Log). l.next_lsn - 1) has.log;
      };
      owned = tt;
      acks = tt;
      stops = refl;
      faults = omega arith;
      cause = λ fault. absurd (let no : true ≡ false = sym fault in cc);
      time = omega arith;
      causes = no-cause old.lists old.device (Looked look) refl;
    })
    (λ m has i. record m { seq = sym has.seq i; log = sym has.log i; lists = sym has.lists i; table = m.table })
    refl (λ m. refl)
    (stays-go_on old old.seq)

pub counted-as : (old new : StoreState) (owner seq rows : ℕ) → seq ≡ old.seq → new ≡ record old { seq = next_count old.seq } → rows ≡ old.lists.rows → Makes old new owner (Count seq rows)
counted-as old new owner seq rows seq_is new_is is =
    subst (λ (n : ℕ). Makes old new owner (Count n rows)) (sym seq_is) (subst (λ (s : StoreState). Makes old s owner (Count old.seq rows)) (sym new_is) (counted old owner rows is))

pub got-as : (old new : StoreState) (now : DeviceState) (owner key seq : ℕ) (row : Option Row) (pages : List ℕ) → seq ≡ old.seq → new ≡ record old { device = now; seq = next_count old.seq } → ReadsRow old now key (Ok row) pages
    → Makes old new owner (Get key (Ok (record { seq = seq; row = row })))
got-as old new now owner key seq row pages seq_is new_is is =
    subst (λ (n : ℕ). Makes old new owner (Get key (Ok (record { seq = n; row = row })))) (sym seq_is)
    (subst (λ (s : StoreState). Makes old s owner (Get key (Ok (record { seq = old.seq; row = row })))) (sym new_is) (got old now owner key row pages is))
