-- What an opening reads, one part after another.
use Rattle.std.proofs.Common.{◌≡◌, inl, inr, ℕ, ◌≤◌, ◌<◌, List, [], ◌∷◌, ◌++◌, All, Option, Some, sym, ◌∙◌, ap, subst, arith}
use Rattle.std.proofs.lemmas.Option.{same_Some}
use Rattle.std.proofs.lemmas.Bool.Decides.{nat_tests}
use Rattle.std.proofs.lemmas.List.Elements.{All-nil, All-cons, All-head}
use Rattle.dev_model.specs.Counts.{Rose}
use Rattle.dev_model.specs.Story.{Bytes, Story, after, bytes_of, WhereTold, IsCalmAt, IsSettled}
use Rattle.dev_model.specs.Moments.{ReadsWithin}
use Rattle.dev_model.specs.Laws.Reads.{ReadsWithin-then, ReadsWithin-weaker, bytes_of-reads, IsSettled-reads}
use Rattle.wal_log.specs.Places.{IsInLog}
use Rattle.wal_log.specs.Reads.{ReadsLog}
use Rattle.wal_log.specs.Segments.{segments_of}
use Rattle.wal_log.specs.Rules.{Opens as LogOpens, records_of}
use Rattle.wal_log.specs.Bad.{IsBad}
use Rattle.wal_log.specs.State.{IsAtRest as LogAtRest, IsLogOf, IsStill}
use Rattle.wal_log.specs.Found.{WhereBad as WhereBadLog, FaultRose as LogFaultRose}
use Rattle.wal_log.specs.declared.reading.LogFault.{LogFault}
use Rattle.wal_log.specs.declared.reading.LogFault.TheVariants as log
use Rattle.wal_log.specs.declared.log.Log.{Log}
use Rattle.wal_log.specs.declared.records.Record.{Record}
use Rattle.superblock.specs.Superblock.{IsFormatted, declared, IsLookedInSuperblock}
use Rattle.format_numbers.specs.declared.TheConstants.{LOG_START}
use Rattle.comp_dir.specs.Reads.{ReadsDirectory, IsInDirectory}
use Rattle.comp_dir.specs.Directory.{Numbered, directory_of, open_slots, IsLooked}
use Rattle.comp_dir.specs.Rules.{AllObey}
use Rattle.comp_dir.specs.Bad.{IsFirstUnsound}
use Rattle.comp_dir.specs.Choosing.{bad_slot}
use Rattle.comp_dir.specs.Resting.{IsAtRest as DirectoryAtRest}
use Rattle.comp_dir.specs.Faults.{WhereBad as WhereBadSlot, FaultRose as SlotFaultRose, IsNotFailed}
use Rattle.comp_dir.specs.declared.faults.DirFault.{DirFault}
use Rattle.comp_dir.specs.declared.faults.DirFault.TheVariants as dir
use Rattle.comp_dir.specs.declared.places.TheConstants.{LSN_LIMIT}
use Rattle.component_image.specs.Recovered.{IsLookedAt, IsLookedInLog, IsOpeningRange}
use Rattle.store_state.specs.Lists.{placed_up_to}
use Rattle.store_state.specs.EveryList.{IsOpenSlot}
use Rattle.store_opening.specs.Read.{HasRead, HasSlots, AreChosen, AreLawfulSlots, IsDirectoryRefusal, slots_fault, log_fault}
use Rattle.store_opening.specs.Openings.{IsRefusal, HasFaulted}
use Rattle.store_opening.specs.declared.opening.OpenFault.{OpenFault}
use Rattle.store_opening.specs.declared.opening.OpenFault.TheVariants.{NotFormatted, BadSlot, BadLog, Fault, OutOfMemory}
use Rattle.store_opening.proofs.InOrder.{ends-placed}

-- what is calm stays calm over reads, and reads the same
pub record Same (s t : Story) : Type 0 where
  pub bytes : bytes_of t ≡ bytes_of s
  pub settled : (i : ℕ) → IsSettled s.past i → IsSettled t.past i

pub same-reads : (s : Story) (now : Option Story) → ReadsWithin IsOpeningRange s now → (t : Story) → now ≡ Some t → Same s t
same-reads s now reads t is =
    let there : after s reads.calls ≡ t = same_Some _ _ (sym reads.told ∙ is) in
    subst (λ (u : Story). Same s u) there
    (record { bytes = bytes_of-reads IsOpeningRange s reads.calls reads.reads; settled = λ i settled. IsSettled-reads IsOpeningRange s reads.calls i reads.reads settled })

-- the story that is told after reads
told-reads : (s : Story) (now : Option Story) → ReadsWithin IsOpeningRange s now → (t : Story) × (now ≡ Some t)
told-reads s now reads = (after s reads.calls, reads.told)

calm-superblock : (s : Story) → IsCalmAt (IsLookedAt (bytes_of s)) s → IsCalmAt (IsLookedInSuperblock (bytes_of s)) s
calm-superblock s calm i looked = calm i (inl looked)

pub calm-directory : (s t : Story) → Same s t → IsCalmAt (IsLookedAt (bytes_of s)) s → DirectoryAtRest t
calm-directory s t same calm i looked = same.settled i (calm i (inr (inl (subst (λ (b : Bytes). IsLooked b i) same.bytes looked))))

calm-log : (s t : Story) → Same s t → IsCalmAt (IsLookedAt (bytes_of s)) s → IsStill LOG_START t
calm-log s t same calm k lt i looked = same.settled i (calm i (inr (inr (subst (λ (b : Bytes). IsLookedInLog b i) same.bytes (k, lt, looked)))))

-- reads of the log are reads of an opening, and so are those of the directory
reads-log : (s : Story) (now : Option Story) → ReadsLog LOG_START s now → ReadsWithin IsOpeningRange s now
reads-log s now reads = ReadsWithin-weaker (IsInLog LOG_START) IsOpeningRange s now (λ at count in_log. inr in_log) reads

pub reads-directory : (s : Story) (now : Option Story) → ReadsDirectory s now → ReadsWithin IsOpeningRange s now
reads-directory s now reads = ReadsWithin-weaker IsInDirectory IsOpeningRange s now (λ at count inside. inl inside.to) reads

pub reads-two : (a b c : Option Story) → WhereTold a (λ s. ReadsWithin IsOpeningRange s b) → WhereTold b (λ s. ReadsWithin IsOpeningRange s c) → WhereTold a (λ s. ReadsWithin IsOpeningRange s c)
reads-two a b c first second s is = ReadsWithin-then IsOpeningRange s b c (first s is) second

pub reads-three : (a b c d : Option Story) → WhereTold a (λ s. ReadsWithin IsOpeningRange s b) → WhereTold b (λ s. ReadsWithin IsOpeningRange s c) → WhereTold c (λ s. ReadsLog LOG_START s d) → WhereTold a (λ s. ReadsWithin IsOpeningRange s d)
reads-three a b c d first second third = reads-two a c d (reads-two a b c first second) (λ s is. reads-log s d (third s is))

-- the directory as it was read, and what a refusal of it says
pub slots-read : (pages : ℕ) (told : Option Story) (found components ignored : List Numbered)
    → WhereTold told (λ s. DirectoryAtRest s → found ≡ open_slots (directory_of (bytes_of s)))
    → WhereTold told (λ s. DirectoryAtRest s → AllObey pages 0 (directory_of (bytes_of s)))
    → AreChosen found components ignored
    → WhereTold told (λ s. DirectoryAtRest s → HasSlots pages (bytes_of s) components ignored)
slots-read pages told found components ignored is obeyed chosen s there calm =
    let here : AreChosen (open_slots (directory_of (bytes_of s))) components ignored = subst (λ (l : List Numbered). AreChosen l components ignored) (is s there calm) chosen in
    record { opens = record { sound = obeyed s there calm; together = here.sound }; chosen = here }

pub slots-refused : (pages : ℕ) (told : Option Story) (fault : DirFault)
    → WhereBadSlot fault (λ n. WhereTold told (λ s. DirectoryAtRest s → IsFirstUnsound pages 0 (directory_of (bytes_of s)) n))
    → WhereTold told (λ s. DirectoryAtRest s → IsDirectoryRefusal pages (slots_fault fault) (bytes_of s))
slots-refused pages told dir.Failed bad s there calm = tt
slots-refused pages told (dir.BadSlot n) bad s there calm = inl (bad s there calm)
slots-refused pages told dir.OutOfMemory bad s there calm = tt

pub chosen-refused : (pages : ℕ) (told : Option Story) (found : List Numbered) (fault : DirFault)
    → WhereTold told (λ s. DirectoryAtRest s → found ≡ open_slots (directory_of (bytes_of s)))
    → WhereTold told (λ s. DirectoryAtRest s → AllObey pages 0 (directory_of (bytes_of s)))
    → WhereBadSlot fault (λ n. bad_slot found ≡ Some n)
    → WhereTold told (λ s. DirectoryAtRest s → IsDirectoryRefusal pages (slots_fault fault) (bytes_of s))
chosen-refused pages told found dir.Failed is obeyed bad s there calm = tt
chosen-refused pages told found (dir.BadSlot n) is obeyed bad s there calm = inr (obeyed s there calm, ap bad_slot (sym (is s there calm)) ∙ bad)
chosen-refused pages told found dir.OutOfMemory is obeyed bad s there calm = tt

pub slots-faulted : (before now : ℕ) (fault : DirFault) → SlotFaultRose before now fault → HasFaulted before now (slots_fault fault)
slots-faulted before now dir.Failed rose = rose
slots-faulted before now (dir.BadSlot n) rose = tt
slots-faulted before now dir.OutOfMemory rose = tt

pub chosen-faulted : (before now : ℕ) (fault : DirFault) → IsNotFailed fault → HasFaulted before now (slots_fault fault)
chosen-faulted before now dir.Failed never = absurd never
chosen-faulted before now (dir.BadSlot n) rose = tt
chosen-faulted before now dir.OutOfMemory rose = tt

-- where the superblock was read, and the directory is refused
pub directory-refused : (pages : ℕ) (fault : OpenFault) (a b : Option Story) → WhereTold a (λ s. ReadsWithin IsOpeningRange s b)
    → WhereTold a (λ s. IsCalmAt (IsLookedInSuperblock (bytes_of s)) s → IsFormatted pages (bytes_of s))
    → WhereTold b (λ t. DirectoryAtRest t → IsDirectoryRefusal pages fault (bytes_of t))
    → WhereTold a (λ s. IsCalmAt (IsLookedAt (bytes_of s)) s → IsRefusal pages fault (bytes_of s))
directory-refused pages fault a b reads formatted refused s is calm =
    let there = told-reads s b (reads s is) in
    let same : Same s there.0 = same-reads s b (reads s is) there.0 there.1 in
    by_fault fault (formatted s is (calm-superblock s calm))
    (subst (λ (x : Bytes). IsDirectoryRefusal pages fault x) same.bytes (refused there.0 there.1 (calm-directory s there.0 same calm)))
  where
    by_fault : (fault : OpenFault) → IsFormatted pages (bytes_of s) → IsDirectoryRefusal pages fault (bytes_of s) → IsRefusal pages fault (bytes_of s)
    by_fault NotFormatted formatted never = absurd never
    by_fault (BadSlot n) formatted bad = (formatted, bad)
    by_fault (BadLog k) formatted never = absurd never
    by_fault Fault formatted never = tt
    by_fault OutOfMemory formatted never = tt

-- what was read of the superblock and the directory
pub record HasFront (pages indexes : ℕ) (components ignored : List Numbered) (a b c : Option Story) : Type 0 where
  pub first : WhereTold a (λ s. ReadsWithin IsOpeningRange s b)
  pub second : WhereTold b (λ s. ReadsWithin IsOpeningRange s c)
  pub formatted : WhereTold a (λ s. IsCalmAt (IsLookedInSuperblock (bytes_of s)) s → IsFormatted pages (bytes_of s) × (declared (bytes_of s) ≡ indexes))
  pub slots : WhereTold b (λ t. DirectoryAtRest t → HasSlots pages (bytes_of t) components ignored)

module _ (pages indexes : ℕ) (components ignored : List Numbered) (a b c : Option Story) (front : HasFront pages indexes components ignored a b c) (s : Story) (is : a ≡ Some s) (calm : IsCalmAt (IsLookedAt (bytes_of s)) s) where
  slots-there : HasSlots pages (bytes_of s) components ignored
  slots-there =
      let there = told-reads s b (front.first s is) in
      let same : Same s there.0 = same-reads s b (front.first s is) there.0 there.1 in
      subst (λ (x : Bytes). HasSlots pages x components ignored) same.bytes (front.slots there.0 there.1 (calm-directory s there.0 same calm))

  both : ReadsWithin IsOpeningRange s c
  both = reads-two a b c front.first front.second s is

  pub image-read : (d : Option Story) (log : Log) (records : List Record)
      → WhereTold c (λ t. IsStill LOG_START t → LogOpens (placed_up_to components ∷ []) (segments_of LOG_START (bytes_of t)))
      → WhereTold c (λ t. IsStill LOG_START t → records ≡ records_of (segments_of LOG_START (bytes_of t)))
      → WhereTold c (λ t. IsStill LOG_START t → IsLogOf log (segments_of LOG_START (bytes_of t)))
      → WhereTold c (λ t. IsStill LOG_START t → WhereTold d (LogAtRest log))
      → HasRead pages s d indexes components ignored log records
  image-read d log records opens recs log_of at_rest =
      let there = told-reads s c both in
      let same : Same s there.0 = same-reads s c both there.0 there.1 in
      let still : IsStill LOG_START there.0 = calm-log s there.0 same calm in
      let formatted = front.formatted s is (calm-superblock s calm) in
      record {
        formatted = formatted.0;
        declared_is = formatted.1;
        slots = slots-there;
        opens = subst (λ (x : Bytes). LogOpens (placed_up_to components ∷ []) (segments_of LOG_START x)) same.bytes (opens there.0 there.1 still);
        records_are = subst (λ (x : Bytes). records ≡ records_of (segments_of LOG_START x)) same.bytes (recs there.0 there.1 still);
        log_of = subst (λ (x : Bytes). IsLogOf log (segments_of LOG_START x)) same.bytes (log_of there.0 there.1 still);
        at_rest = at_rest there.0 there.1 still;
      }

  bad-log : (k : ℕ) → WhereTold c (λ t. IsStill LOG_START t → IsBad (placed_up_to components ∷ []) (segments_of LOG_START (bytes_of t)) k) → IsRefusal pages (BadLog k) (bytes_of s)
  bad-log k bad =
      let there = told-reads s c both in
      let same : Same s there.0 = same-reads s c both there.0 there.1 in (
        (front.formatted s is (calm-superblock s calm)).0,
        slots-there.opens,
        subst (λ (ends : List ℕ). IsBad ends (segments_of LOG_START (bytes_of s)) k) (ends-placed pages (bytes_of s) components ignored slots-there)
            (subst (λ (x : Bytes). IsBad (placed_up_to components ∷ []) (segments_of LOG_START x) k) same.bytes (bad there.0 there.1 (calm-log s there.0 same calm))),
      )

  pub log-refused : (fault : LogFault) → WhereBadLog fault (λ number. WhereTold c (λ t. IsStill LOG_START t → IsBad (placed_up_to components ∷ []) (segments_of LOG_START (bytes_of t)) number)) → IsRefusal pages (log_fault fault) (bytes_of s)
  log-refused log.Failed bad = tt
  log-refused (log.BadLog k) bad = bad-log k bad
  log-refused log.OutOfMemory bad = tt

pub log-faulted : (before now : ℕ) (fault : LogFault) → LogFaultRose before now fault → HasFaulted before now (log_fault fault)
log-faulted before now log.Failed rose = rose
log-faulted before now (log.BadLog k) rose = tt
log-faulted before now log.OutOfMemory rose = tt

-- the count rose in the last part, so it did in all
pub rose-earlier : (first before now : ℕ) (fault : OpenFault) → first ≤ before → HasFaulted before now fault → HasFaulted first now fault
rose-earlier first before now Fault le rose = let r : Rose before now = rose in let goal : Rose first now = grind (arith, nat_tests) in goal
rose-earlier first before now NotFormatted le rose = tt
rose-earlier first before now (BadSlot n) le rose = tt
rose-earlier first before now (BadLog k) le rose = tt
rose-earlier first before now OutOfMemory le rose = tt

-- the components end below the limit of the numbers
pub ends-below : (pages : ℕ) (components ignored : List Numbered) → AreLawfulSlots pages components ignored → All (λ last. last < LSN_LIMIT) (placed_up_to components ∷ [])
ends-below pages components ignored lawful = All-cons (λ last. last < LSN_LIMIT) (placed_up_to components) [] (by_first components lawful.slots) (All-nil (λ last. last < LSN_LIMIT))
  where
    by_first : (slots : List Numbered) → All (IsOpenSlot pages) (slots ++ ignored) → placed_up_to slots < LSN_LIMIT
    by_first [] all = omega arith
    by_first (e ∷ older) all = (All-head (IsOpenSlot pages) e (older ++ ignored) all).sound.interval.below
