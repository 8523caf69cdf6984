-- What a store stands for once it was opened. No public contract needs these laws.
use Rattle.std.proofs.Common.{◌≡◌, ◌≤◌, inl, inr, ℕ, List, true, false, [], Some, None, refl, sym, ◌∙◌, ap, subst}
use Rattle.dev_model.specs.Story.{Story, after, clock_of, bytes_of, WhereTold, IsCalmAt, IsSettled}
use Rattle.dev_model.specs.Moments.{ReadsWithin}
use Rattle.dev_model.specs.Laws.Reads.{bytes_of-reads}
use Rattle.dev_model.specs.Laws.Runs.{EachMoment-start}
use Rattle.table_model.specs.Table.{Table}
use Rattle.std.specs.FinMap.{empty}
use Rattle.wal_log.specs.State.{IsStill}
use Rattle.wal_log.specs.declared.log.Log.{Log}
use Rattle.superblock.specs.Superblock.{declared}
use Rattle.format_numbers.specs.declared.TheConstants.{LOG_START}
use Rattle.component_image.specs.Recovered.{Opens, IsLookedAt, IsContent, Recovers, IsOpeningRange}
use Rattle.component_image.specs.Resting.{Rests}
use Rattle.component_image.specs.Laws.Keeping.{rest-image}
use Rattle.primary_ix.specs.declared.rows.PrimRow.{PrimRow}
use Rattle.store_machine.specs.Standing.{StoreState, Stands, StandsSince}
use Rattle.dev_model.specs.Story.{DeviceState}
use Rattle.store_state.specs.Lists.{Lists}
use Rattle.store_state.specs.Keeping.{IsKept}
use Rattle.store_state.specs.Laws.ReadingStays.{kept-legible}
use Rattle.store_machine.specs.Machine.{Opening}
use Rattle.store_machine.specs.Crash.{Keeps}

-- all that an opening looks at is on the disk of a store at rest
pub looked-calm : (pages : ℕ) (log : Log) (table : Table) (s : Story) → Rests pages log table s → IsCalmAt (IsLookedAt (bytes_of s)) s
looked-calm pages log table s rest = at
  where
    still : IsStill LOG_START s
    still = subst (λ (start : ℕ). IsStill start s) rest.log_start rest.log_rest.still

    at : (i : ℕ) → IsLookedAt (bytes_of s) i → IsSettled s.past i
    at i (inl looked) = rest.superblock_calm i looked
    at i (inr (inl looked)) = rest.directory_rest i looked
    at i (inr (inr looked)) = still looked.0 looked.1 i looked.2

-- the store when nothing has happened yet
abbrev pub opened_state : DeviceState → (indexes : ℕ) → Log → Lists → StoreState
opened_state now indexes log lists = record { device = now; declared = indexes; lists = lists; seq = 0; stopped = None; log = log; acks = []; opened_at = now.clock; opened_faults = now.faults }

-- the opening of a store, from this table and these lists of its components on
abbrev pub opening_of : Table → (disk : List (List PrimRow)) → StoreState → Opening
opening_of table disk store = record { table = table; log = store.log; lists = store.lists; disk = disk; declared = store.declared; faults = store.opened_faults; clock = store.opened_at; story = store.device.story }

pub opens-from : (device now : DeviceState) (indexes : ℕ) (log : Log) (lists : Lists) → now.pages ≡ device.pages → ((t : Story) → now.story ≡ Some t → now.clock ≡ clock_of t)
    → device.faults ≤ now.faults
    → WhereTold device.story (λ s. ReadsWithin IsOpeningRange s now.story)
    → WhereTold device.story (λ s. IsCalmAt (IsLookedAt (bytes_of s)) s → Opens device.pages (bytes_of s) × (declared (bytes_of s) ≡ indexes))
    → WhereTold device.story (λ s. IsCalmAt (IsLookedAt (bytes_of s)) s → IsCalmAt (IsContent (bytes_of s)) s → (table : Table) → Recovers device.pages table (bytes_of s)
    → WhereTold now.story (IsKept device.pages log table lists))
    → StandsSince device (opened_state now indexes log lists) []
opens-from device now indexes log lists pages clock_told later reads opens kept = record {
  opening = opening_of empty [] opened;
  reads = reads;
  later = later;
  opens = opens;
  untold = record {
    opened_at = refl;
    opened_faults = refl;
    run = tt;
    has = record { stopped = refl; seq = refl; log = refl; lists = refl; acks = refl; declared = refl; faults = refl; clock = refl; counted = refl; running = λ _. refl };
    damages = λ s is. tt;
    tells = λ is. absurd (let no : false ≡ true = is in cc);
  };
  told = λ table s is holds.
      let run : ReadsWithin IsOpeningRange s now.story = reads s is in
      let u : Story = after s run.calls in
      let rest : IsKept device.pages log table lists u = kept s is holds.looked_calm holds.content_calm table holds.recovers u run.told in
      let same : bytes_of u ≡ bytes_of s = bytes_of-reads IsOpeningRange s run.calls run.reads in
      (rest.held.rests.recovers.lists, stands_at u run.told table rest (ap declared same ∙ (opens s is holds.looked_calm).1));
}
  where
    opened : StoreState
    opened = opened_state now indexes log lists

    stands_at : (u : Story) → now.story ≡ Some u → (table : Table) (rest : IsKept device.pages log table lists u) → declared (bytes_of u) ≡ indexes → Stands true (opening_of table rest.held.rests.recovers.lists opened) opened []
    stands_at u told table rest is =
        subst (λ (p : ℕ). Stands true (opening_of table rest.held.rests.recovers.lists (record opened { device = record now { pages = p } })) (record opened { device = record now { pages = p } }) []) (sym pages)
        (record {
          opened_at = refl;
          opened_faults = refl;
          run = tt;
          has = record { stopped = refl; seq = refl; log = refl; lists = refl; acks = refl; declared = refl; faults = refl; clock = refl; counted = refl; running = λ _. refl };
          damages = λ s is. tt;
          tells = λ _. record {
            opening = u;
            begins = record {
              is = told;
              clock = sym (clock_told u told);
              calm = looked-calm device.pages log table u rest.held.rests;
              content_calm = rest.held.rests.content_calm;
              recovers = rest.held.rests.recovers;
              declared_is = is;
              kept = rest;
              disk_is = refl;
            };
            calls = [];
            now = u;
            went = refl;
            told = told;
            clock = clock_told u told;
            made = refl;
            replayed = refl;
            kept = λ _. rest;
            legible = kept-legible device.pages log table lists u rest;
            rows = rest.held.rows_are;
            acked = tt;
            survives = EachMoment-start u (Keeps device.pages table [] []) (λ image now_is. inl (rest-image device.pages log table u image rest.held.rests now_is));
          };
        })
