-- How readers of the components of a store went.
use Rattle.std.proofs.Common.{◌≡◌, ℕ, List, [], ◌∷◌, All, Some, Result, Ok, Err, refl, sym, ◌∙◌, ap, subst}
use Rattle.std.specs.Prelude.{IsTrue}
use Rattle.std.proofs.lemmas.List.Elements.{All-nil}
use Rattle.space_map.specs.declared.space.Extent.{Extent}
use Rattle.dev_model.specs.Story.{DeviceState, Story, clock_of, WhereTold}
use Rattle.dev_model.specs.DeviceCalls.{ok_calls}
use Rattle.dev_model.specs.Laws.Reads.{LeavesOnly-reads}
use Rattle.dev_model.specs.Moments.{ReadsWithin}
use Rattle.dev_model.specs.declared.page_faults.PageFault.{PageFault}
use Rattle.dev_model.specs.declared.page_faults.PageFault.TheVariants.{Failed, Damaged, OutOfMemory}
use Rattle.dev_model.specs.Asked.{Went, fault_of, reads_of, given_but_last, GoesBy, OnDamaged, OnGiven}
use Rattle.device_pages.specs.Asked.{Asked, calls_of, pages_of}
use Rattle.device_pages.specs.Lending.{contents_of}
use Rattle.device_pages.specs.Lent.{is_lent}
use Rattle.device_pages.specs.Laws.Asked.{asked-none, story-asked, ok_calls-asked, pages_of-given, ReadsWithin-asked}
use Rattle.primary_ix.specs.Components.{AreShown}
use Rattle.primary_ix.specs.Roots.{AreRoots}
use Rattle.primary_ix.specs.Pages.{IsTestedIn}
use Rattle.primary_ix.specs.Damage.{IsDamagedIn}
use Rattle.primary_ix.specs.declared.component.PrimComp.{PrimComp}
use Rattle.primary_ix.specs.declared.rows.PrimRow.{PrimRow}
use Rattle.store_state.specs.Lists.{Lists, extents_of, trees_of}
use Rattle.store_state.specs.EveryList.{IsLists}
use Rattle.store_state.specs.OnlyRead.{HasRead, HasReadAlong, IsOnlyRead, IsPageIn}
use Rattle.store_state.specs.Laws.ReadingStays.{legible-reads, kept-reads, images-reads}

pages_of-but_last : (pages : List ℕ) → pages_of (given_but_last pages) ≡ pages
pages_of-but_last [] = refl
pages_of-but_last (page ∷ []) = refl
pages_of-but_last (page ∷ next ∷ more) = ap (λ (rest : List ℕ). page ∷ rest) (pages_of-but_last (next ∷ more))

pages_of-reads : {X : Type 0} (result : Result X PageFault) (pages : List ℕ) → pages_of (reads_of result pages) ≡ pages
pages_of-reads (Ok x) pages = pages_of-given pages
pages_of-reads (Err Failed) pages = pages_of-but_last pages
pages_of-reads (Err (Damaged page)) pages = pages_of-given pages
pages_of-reads (Err OutOfMemory) pages = pages_of-given pages

module _ (l : Lists) where
  -- what it leaves
  pub only-read : {X : Type 0} (old new : DeviceState) (result : Result X PageFault) (pages : List ℕ) → IsLists l → HasRead l old new result pages → WhereTold old.story (λ s. IsOnlyRead old.pages l s new.story)
  only-read old new result pages is read s told =
      let lent : All (λ page. IsTrue (is_lent (extents_of l.components) page)) (pages_of (reads_of result pages)) =
      subst (All (λ page. IsTrue (is_lent (extents_of l.components) page))) (sym (pages_of-reads result pages)) read.went.are_lent in
      let run : ReadsWithin (IsPageIn l) s new.story =
      ReadsWithin-asked (IsPageIn l) (reads_of result pages) old new s read.went.asked_for told (λ k d lt. record { page = _; lent = lent k d lt; place = refl; size = refl }) in
      record {
        reads = run;
        images = LeavesOnly-reads (IsPageIn l) s new.story run;
        legible = λ table disk legible t now. legible-reads (IsPageIn l) s new.story run t now table disk l is legible;
        kept = λ log table kept t now. kept-reads (IsPageIn l) s new.story run t now old.pages log table l kept;
        any_moment = λ log table kept. images-reads (IsPageIn l) s new.story run old.pages log table kept.held.rests;
      }

module _ {D : Type 0} (seen : D → DeviceState) {X : Type 0} (result : Result X PageFault) where
  -- what a reader of some trees on lent pages of a device did
  pub record WentOver (extents : List Extent) (trees : List PrimComp) (old new : D) (way : List PrimComp → List (List PrimRow) → (roots : List ℕ) → List ℕ) : Type 0 where
    pub asked : List ℕ
    pub went : Went (is_lent extents) (λ reads. Asked reads (seen old) (seen new)) result asked
    pub damaged : OnDamaged (fault_of result) (λ page. WhereTold (contents_of extents (seen old).story) (λ contents. IsDamagedIn trees contents page))
    pub tested : OnGiven (fault_of result) (WhereTold (contents_of extents (seen old).story) (λ contents. All (IsTestedIn trees contents) asked))
    pub goes : (disk : List (List PrimRow)) (roots : List ℕ) → AreShown (contents_of extents (seen old).story) trees disk → AreRoots trees roots → GoesBy result asked (way trees disk roots)

  module _ (l : Lists) (counted : (device : D) (s : Story) → (seen device).story ≡ Some s → (seen device).clock ≡ clock_of s) where
    -- it read the components of a store, where these were the trees
    pub read-lent : (extents : List Extent) (trees : List PrimComp) (old first next new : D) (way : List PrimComp → List (List PrimRow) → (roots : List ℕ) → List ℕ)
        (whole : List (List PrimRow) → (roots : List ℕ) → List ℕ) → extents ≡ extents_of l.components → trees ≡ trees_of l.components → first ≡ old → next ≡ new
        → ((disk : List (List PrimRow)) (roots : List ℕ) → way (trees_of l.components) disk roots ≡ whole disk roots)
        → WentOver extents trees first next way → HasReadAlong l (seen old) (seen new) result whole
    read-lent extents trees old first next new way whole lends are begins ends same over =
        let there : WentOver (extents_of l.components) (trees_of l.components) old new way =
        subst (λ (d : D). WentOver (extents_of l.components) (trees_of l.components) old d way) ends
        (subst (λ (d : D). WentOver (extents_of l.components) (trees_of l.components) d next way) begins
        (subst (λ (cs : List PrimComp). WentOver (extents_of l.components) cs first next way) are
        (subst (λ (es : List Extent). WentOver es trees first next way) lends over))) in
        let reads = reads_of result there.asked in (
          there.asked,
          record {
            went = there.went;
            made = λ s told. record {
              calls = calls_of (seen old).clock reads;
              told = story-asked reads (seen old) (seen new) s there.went.asked_for told;
              made = (λ j. ok_calls (clock_of s) (calls_of (counted old s told j) reads)) ∙ ok_calls-asked (clock_of s) reads;
            };
            damaged = there.damaged;
            tested = there.tested;
          },
          λ disk roots shown at. subst (GoesBy result there.asked) (same disk roots) (there.goes disk roots shown at),
        )

-- no page was asked for
pub went-nowhere : {D : Type 0} (seen : D → DeviceState) {X : Type 0} (x : X) (extents : List Extent) (trees : List PrimComp) (device : D)
    → WentOver seen (Ok x) extents trees device device (λ trees disk roots. [])
went-nowhere seen x extents trees device = record {
  asked = [];
  went = record { asked_for = asked-none (seen device); are_lent = All-nil (λ page. IsTrue (is_lent extents page)); stops = tt };
  damaged = tt;
  tested = λ contents told. All-nil (IsTestedIn trees contents);
  goes = λ disk roots shown at. refl;
}
