-- An event that only reads pages of the components. No public contract needs these laws.
use Rattle.std.proofs.Common.{◌≡◌, ℕ, suc, ◌+◌, ◌-◌, ◌*◌, ◌^◌, ◌≤◌, Bool, true, false, nat_lt, if◌then◌else◌, IsTrue, All, List, [], ◌∷◌, ◌++◌, length, Option, Some, Result, Ok, Err, refl, sym, ◌∙◌, ap, subst, arith, append_assoc, append-nil}
use Rattle.std.proofs.lemmas.List.Elements.{All-pop}
use Rattle.std.proofs.lemmas.Option.{same_Some}
use Rattle.dev_model.specs.Story.{Bytes, FailedCall, Story, after, clock_of, WhereTold}
use Rattle.dev_model.specs.DeviceCalls.{made_at}
use Rattle.dev_model.specs.Laws.CallLists.{clock_of-after}
use Rattle.dev_model.specs.declared.calls.DeviceCall.{DeviceCall}
use Rattle.dev_model.specs.declared.calls.DeviceAct.TheVariants.{ReadAt}
use Rattle.page_codec.specs.declared.pages.TheConstants.{PAGE_BYTES}
use Rattle.dev_model.specs.declared.page_faults.PageFault.{PageFault}
use Rattle.dev_model.specs.declared.page_faults.PageFault.TheVariants.{Failed, Damaged, OutOfMemory}
use Rattle.table_model.specs.Table.{Table}
use Rattle.dev_model.specs.Asked.{GoesBy, given_but_last, reads_of}
use Rattle.dev_model.specs.Given.{given}
use Rattle.device_pages.specs.Asked.{Asked, calls_of}
use Rattle.device_pages.specs.ReadsMade.{reads_made}
use Rattle.device_pages.specs.Claims.{MadeReads}
use Rattle.device_pages.specs.Laws.Asked.{clock-given, contents-asked}
use Rattle.device_pages.specs.Lending.{contents_of}
use Rattle.device_pages.specs.Lent.{is_lent}
use Rattle.primary_ix.specs.Damage.{IsDamagedIn}
use Rattle.primary_ix.specs.Components.{AreShown}
use Rattle.primary_ix.specs.Roots.{AreRoots}
use Rattle.primary_ix.specs.declared.rows.PrimRow.{PrimRow}
use Rattle.store_state.specs.Lists.{Lists, extents_of, trees_of}
use Rattle.store_machine.specs.Crash.{attempted, Keeps, RecoversFirst}
use Rattle.store_machine.specs.Laws.Counting.{acked_by-all}
use Rattle.store_machine.specs.Laws.Damages.{HasGoneOn, IsCause, gone-noted}
use Rattle.store_machine.specs.Outcomes.{Group}
use Rattle.store_machine.specs.Machine.{Machine, Opening}
use Rattle.store_machine.specs.Standing.{AreUpTo, StoreState, Has, Tells}
use Rattle.dev_model.specs.Story.{DeviceState}
use Rattle.store_state.specs.Reading.{IsLegible}
use Rattle.store_state.specs.OnlyRead.{HasRead, IsOnlyRead, IsPageIn}
use Rattle.store_state.specs.Laws.ReadingStays.{moments-reads}
use Rattle.store_machine.specs.Runs.{Way, IsAllOf, IsFirstOf, IsFrontUpTo, StopsBefore, AreReads, TakesTime}
use Rattle.store_machine.specs.Laws.Steps.{GoesOn}

-- what was acknowledged by a moment behind all acks is so later
keeps-later : (pages : ℕ) (table : Table) (groups : List Group) (acks : List ℕ) (clock m : ℕ) (image : Bytes) → AreUpTo clock acks → clock ≤ m → Keeps pages table groups acks clock image → Keeps pages table groups acks m image
keeps-later pages table groups acks clock m image up le keeps =
    subst (λ (n : ℕ). RecoversFirst pages table groups n image) (acked_by-all clock clock acks up (omega arith) ∙ sym (acked_by-all m clock acks up le)) keeps

-- where the pages of the components show lists, the pages that a reader asked for are those of its way through these
abbrev pub GoesOnWay : {X : Type 0} → StoreState → (Lists → Way) → Result X PageFault → List ℕ → Type 0
GoesOnWay old way result pages =
    (disk : List (List PrimRow)) (roots : List ℕ) → AreShown (contents_of (extents_of old.lists.components) old.device.story) (trees_of old.lists.components) disk
    → AreRoots (trees_of old.lists.components) roots → GoesBy result pages (way old.lists disk roots)

-- what a call that reads pages of the components on a way shows of the device
pub record HasOnlyRead {X : Type 0} (old : StoreState) (now : DeviceState) (way : Lists → Way) (result : Result X PageFault) (pages : List ℕ) : Type 0 where
  pub read : HasRead old.lists old.device now result pages
  pub by : GoesOnWay old way result pages
  pub stays : WhereTold old.device.story (λ s. IsOnlyRead old.device.pages old.lists s now.story)
  pub same_pages : now.pages ≡ old.device.pages
  pub later : old.device.faults ≤ now.faults
  pub clock_told : (s : Story) → now.story ≡ Some s → now.clock ≡ clock_of s

-- the calls that succeeded
abbrev pub read_calls : {X : Type 0} → StoreState → Result X PageFault → List ℕ → List DeviceCall
read_calls old result pages = reads_made old.device.clock (reads_of result pages)

-- the read of a page failed
abbrev pub is_failed : {X : Type 0} → Result X PageFault → Bool
is_failed (Ok x) = false
is_failed (Err Failed) = true
is_failed (Err (Damaged page)) = false
is_failed (Err OutOfMemory) = false

-- pages that were given took one call each
given-made : (clock : ℕ) (pages : List ℕ) → length (reads_made clock (given pages)) ≡ length pages
given-made clock [] = refl
given-made clock (page ∷ pages) = ap suc (given-made (clock + 1) pages)

-- the last page of these alone wasn't given
given_but_last-is : (before : List ℕ) (page : ℕ) → given_but_last (before ++ page ∷ []) ≡ given before ++ (page, false) ∷ []
given_but_last-is [] page = refl
given_but_last-is (first ∷ []) page = refl
given_but_last-is (first ∷ second ∷ before) page = ap (λ (asked : List (ℕ × Bool)). (first, true) ∷ asked) (given_but_last-is (second ∷ before) page)

failed-made : (clock : ℕ) (before : List ℕ) (page : ℕ) → reads_made clock (given before ++ (page, false) ∷ []) ≡ reads_made clock (given before)
failed-made clock [] page = refl
failed-made clock (first ∷ before) page = ap (λ (calls : List DeviceCall). made_at (clock + 1) (ReadAt (first * PAGE_BYTES) PAGE_BYTES) ∷ calls) (failed-made (clock + 1) before page)

-- and it took one call more at most
failed-time : (clock : ℕ) (before : List ℕ) (page : ℕ) → (length before ≤ length (calls_of clock (given before ++ (page, false) ∷ []))) × (length (calls_of clock (given before ++ (page, false) ∷ [])) ≤ length before + 1)
failed-time clock [] page = by_test (nat_lt clock (2 ^ 64 - 1))
  where
    by_test : (rises : Bool) → (0 ≤ length (if rises then FailedCall ∷ [] else [])) × (length (if rises then FailedCall ∷ [] else []) ≤ 1)
    by_test true = (omega arith, omega arith)
    by_test false = (omega arith, omega arith)
failed-time clock (first ∷ before) page = let rest : _ = failed-time (clock + 1) before page in (omega (arith, rest.0), omega (arith, rest.1))

given-time : (old new : DeviceState) (pages : List ℕ) → Asked (given pages) old new → TakesTime false old.clock (reads_made old.clock (given pages)) new.clock
given-time old new pages asked = omega (arith, clock-given pages old new asked, given-made old.clock pages)

failed-taken : (old new : DeviceState) (before : List ℕ) (page : ℕ) → Asked (given before ++ (page, false) ∷ []) old new → TakesTime true old.clock (reads_made old.clock (given before ++ (page, false) ∷ [])) new.clock
failed-taken old new before page asked =
    let time : _ = failed-time old.clock before page in
    let count : length (reads_made old.clock (given before)) ≡ length before = given-made old.clock before in
    subst (λ (calls : List DeviceCall). TakesTime true old.clock calls new.clock) (sym (failed-made old.clock before page)) (omega (arith, time.0, count, asked.clock), omega (arith, time.1, count, asked.clock))

-- how long the device calls of a reader took, by whether a read failed
went-time : {X : Type 0} (l : Lists) (old new : DeviceState) (result : Result X PageFault) (pages : List ℕ) → HasRead l old new result pages → TakesTime (is_failed result) old.clock (reads_made old.clock (reads_of result pages)) new.clock
went-time l old new (Ok x) pages read = given-time old new pages read.went.asked_for
went-time l old new (Err (Damaged page)) pages read = given-time old new pages read.went.asked_for
went-time l old new (Err OutOfMemory) pages read = given-time old new pages read.went.asked_for
went-time l old new (Err Failed) pages read =
    let page : ℕ = read.went.stops.0 in
    let before : List ℕ = read.went.stops.1.0 in
    let same : given_but_last pages ≡ given before ++ (page, false) ∷ [] = ap given_but_last read.went.stops.1.1 ∙ given_but_last-is before page in
    subst (λ (asked : List (ℕ × Bool)). TakesTime true old.clock (reads_made old.clock asked) new.clock) (sym same)
    (failed-taken old new before page (subst (λ (asked : List (ℕ × Bool)). Asked asked old new) same read.went.asked_for))

pub reads-time : {X : Type 0} (old : StoreState) (now : DeviceState) (way : Lists → Way) (result : Result X PageFault) (pages : List ℕ) (m : Machine) → HasOnlyRead old now way result pages → Has old m
    → TakesTime (is_failed result) m.clock (read_calls old result pages) now.clock
reads-time old now way result pages m reads has =
    subst (λ (clock : ℕ). TakesTime (is_failed result) clock (read_calls old result pages) now.clock) has.clock (went-time old.lists old.device now result pages reads.read)

-- which pages were read on the way, by the answer of the reader
abbrev pub IsPartBy : {X : Type 0} → Result X PageFault → List ℕ → List ℕ → Type 0
IsPartBy (Ok x) = IsAllOf
IsPartBy (Err Failed) = StopsBefore
IsPartBy (Err (Damaged page)) = IsFrontUpTo page
IsPartBy (Err OutOfMemory) = IsFirstOf

-- where no read failed, they are the first ones
pub first-of : {X : Type 0} (result : Result X PageFault) (pages all : List ℕ) → is_failed result ≡ false → IsPartBy result pages all → IsFirstOf pages all
first-of (Ok x) pages all given is = ([], append-nil pages ∙ is)
first-of (Err Failed) pages all given is = absurd (let no : true ≡ false = given in cc)
first-of (Err (Damaged page)) pages all given is = is.1
first-of (Err OutOfMemory) pages all given is = is

pub AreReads-weaker : (m : Machine) (way : Lists → Way) (P Q : List ℕ → List ℕ → Type 0) (calls : List DeviceCall) → ((pages all : List ℕ) → P pages all → Q pages all) → AreReads m way P calls → AreReads m way Q calls
AreReads-weaker m way P Q calls weaker reads = record {
  pages = reads.pages;
  lent = reads.lent;
  are = reads.are;
  part = λ roots are. weaker reads.pages (way m.lists m.disk roots) (reads.part roots are);
}

-- the pages that were given of those that were asked for
pub record WereGiven {X : Type 0} (l : Lists) (way : Lists → Way) (clock : ℕ) (disk : List (List PrimRow)) (result : Result X PageFault) (pages : List ℕ) : Type 0 where
  pub given_pages : List ℕ
  pub lent : All (λ page. IsTrue (is_lent (extents_of l.components) page)) given_pages
  pub are : reads_made clock (reads_of result pages) ≡ reads_made clock (given given_pages)
  pub part : (roots : List ℕ) → AreRoots (trees_of l.components) roots → IsPartBy result given_pages (way l disk roots)

were-given : {X : Type 0} (l : Lists) (way : Lists → Way) (old new : DeviceState) (disk : List (List PrimRow)) (result : Result X PageFault) (pages : List ℕ) → HasRead l old new result pages
    → ((roots : List ℕ) → AreRoots (trees_of l.components) roots → GoesBy result pages (way l disk roots)) → WereGiven l way old.clock disk result pages
were-given l way old new disk (Ok x) pages read goes = record { given_pages = pages; lent = read.went.are_lent; are = refl; part = goes }
were-given l way old new disk (Err (Damaged page)) pages read goes = record { given_pages = pages; lent = read.went.are_lent; are = refl; part = λ roots are. (read.went.stops, goes roots are) }
were-given l way old new disk (Err OutOfMemory) pages read goes = record { given_pages = pages; lent = read.went.are_lent; are = refl; part = goes }
were-given l way old new disk (Err Failed) pages read goes =
    let page : ℕ = read.went.stops.0 in
    let before : List ℕ = read.went.stops.1.0 in
    let ends : pages ≡ before ++ page ∷ [] = read.went.stops.1.1 in
    record {
      given_pages = before;
      lent = (All-pop (λ page. IsTrue (is_lent (extents_of l.components) page)) pages before (Some page) ends read.went.are_lent).0;
      are = ap (λ (asked : List (ℕ × Bool)). reads_made old.clock asked) (ap given_but_last ends ∙ given_but_last-is before page) ∙ failed-made old.clock before page;
      part = λ roots are. let left : _ = goes roots are in
          (page, left.0, sym (append_assoc before (page ∷ []) left.0) ∙ ap (λ (l : List ℕ). l ++ left.0) (sym ends) ∙ left.1);
    }

pub reads-made : {X : Type 0} (o : Opening) (old : StoreState) (now : DeviceState) (way : Lists → Way) (result : Result X PageFault) (pages : List ℕ) (m : Machine) → HasOnlyRead old now way result pages → Has old m → Tells o old m
    → AreReads m way (IsPartBy result) (read_calls old result pages)
reads-made o old now way result pages m reads has t =
    let l : IsLegible m.table m.disk old.lists t.now = t.legible in
    let shown : AreShown (contents_of (extents_of old.lists.components) old.device.story) (trees_of old.lists.components) m.disk =
    subst (λ (story : Option Story). AreShown (contents_of (extents_of old.lists.components) story) (trees_of old.lists.components) m.disk) (sym t.told) l.shown in
    let made : WereGiven old.lists way old.device.clock m.disk result pages =
    were-given old.lists way old.device now m.disk result pages reads.read (λ roots are. reads.by m.disk roots shown are) in
    record {
      pages = made.given_pages;
      lent = subst (λ (x : Lists). All (λ page. IsTrue (is_lent (extents_of x.components) page)) made.given_pages) has.lists made.lent;
      are = made.are ∙ ap (λ (clock : ℕ). reads_made clock (given made.given_pages)) has.clock;
      part = subst (λ (x : Lists). (roots : List ℕ) → AreRoots (trees_of x.components) roots → IsPartBy result made.given_pages (way x m.disk roots)) has.lists made.part;
    }

-- where the device told, it tells what reads leave; the store may draw the next number
pub reads-go_on : {X : Type 0} (o : Opening) (old : StoreState) (now : DeviceState) (way : Lists → Way) (result : Result X PageFault) (pages : List ℕ) (seq : ℕ) (m : Machine)
    → HasOnlyRead old now way result pages → Has old m → (t : Tells o old m) → GoesOn o old (record old { device = now; seq = seq }) m t m.disk (read_calls old result pages)
reads-go_on o old now way result pages seq m reads has t =
    let made : MadeReads (reads_of result pages) t.now now.story = reads.read.made t.now t.told in
    let stays : IsOnlyRead old.device.pages old.lists t.now now.story = reads.stays t.now t.told in
    let begun : clock_of t.opening ≤ clock_of t.now =
    let at : _ = clock_of-after t.opening t.calls in
    let same : clock_of t.now ≡ clock_of (after t.opening t.calls) = ap clock_of t.went in
    omega (arith, at, same) in
    record {
      calls = made.calls;
      told = made.told;
      made_is = made.made ∙ ap (λ (clock : ℕ). reads_made clock (reads_of result pages)) (sym t.clock);
      clock = reads.clock_told (after t.now made.calls) made.told;
      kept = λ going. stays.kept old.log m.table (t.kept (sym has.stopped ∙ going)) (after t.now made.calls) made.told;
      legible = stays.legible m.table m.disk t.legible (after t.now made.calls) made.told;
      rows = t.rows;
      survives = moments-reads (IsPageIn old.lists) (clock_of t.opening) t.now (after t.now made.calls) now.story (Keeps old.device.pages o.table (attempted m.logged m.unfinished) m.acks) stays.reads made.told begun
          (λ n image le keeps. keeps-later old.device.pages o.table (attempted m.logged m.unfinished) m.acks (clock_of t.now) n image t.acked le keeps) t.survives;
    }

-- the story went on by the reads
pub gone-read : {X : Type 0} (old : StoreState) (now : DeviceState) (way : Lists → Way) (result : Result X PageFault) (pages : List ℕ) → HasOnlyRead old now way result pages → HasGoneOn old.device.story now.story
gone-read old now way result pages reads = gone-noted (calls_of old.device.clock (reads_of result pages)) old.device.story now.story reads.read.went.asked_for.told

-- the page that was read last is damaged, by what the pages of the components held before the reads, which they hold after them too
pub read-cause : {X : Type 0} (old : StoreState) (now : DeviceState) (way : Lists → Way) (page : ℕ) (pages : List ℕ) → HasOnlyRead {X = X} old now way (Err (Damaged page)) pages
    → WhereTold (contents_of (extents_of old.lists.components) old.device.story) (λ contents. IsDamagedIn (trees_of old.lists.components) contents page) → WhereTold (Some page) (IsCause old.lists now)
read-cause old now way page pages reads bad other is =
    let extents : _ = extents_of old.lists.components in
    let same : contents_of extents now.story ≡ contents_of extents old.device.story = contents-asked extents (given pages) old.device now reads.read.went.asked_for in
    subst (λ (n : ℕ). IsCause old.lists now n) (same_Some _ _ is)
    (record {
      clock = reads.clock_told;
      damaged = subst (λ (told : Option (ℕ → List ℕ)). WhereTold told (λ contents. IsDamagedIn (trees_of old.lists.components) contents page)) (sym same) bad;
    })
