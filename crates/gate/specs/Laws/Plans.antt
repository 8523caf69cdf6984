-- What planned calls leave: writes, each with its sync. No public contract needs these laws.
use Rattle.std.proofs.Common.{◌≡◌, inr, ℕ, List, [], ◌∷◌, Option, Some, Bool, true, false, Result, Ok, Err, IsErr, OnOk, refl, sym, ◌∙◌, subst}
use Rattle.std.proofs.lemmas.Option.{same_Some}
use Rattle.dev_model.specs.Story.{Bytes, Write, Sync, Calls, Story, after, clock_of, bytes_of, WhereTold, IsImageDuring, IsImageNow}
use Rattle.dev_model.specs.Doing.{Did, HasStoppedIn}
use Rattle.dev_model.specs.Moments.{EachMoment, LeavesOnly}
use Rattle.dev_model.specs.Laws.Ranges.{patched-outside}
use Rattle.dev_model.specs.Laws.Images.{IsReadable-settled}
use Rattle.dev_model.specs.Laws.Plans.{all_noted-told, LeavesOnly-did}
use Rattle.dev_model.specs.Laws.Runs.{During, LeavesOnly-calls}

-- what holds of each image while these calls are under way, and after the last
abbrev pub Leaves : Story → Calls → (Bytes → Type 0) → Type 0
Leaves s calls P = During s calls P × ((image : Bytes) → IsImageNow (after s calls) image → P image)

-- that is each image of each moment from here on
pub leaves-moments : (s : Story) (calls : Calls) (P : Bytes → Type 0) → Leaves s calls P → EachMoment (clock_of s) (after s calls) (λ _. P)
leaves-moments s calls P all =
    let left : LeavesOnly s (Some (after s calls)) P = LeavesOnly-calls s calls P (Some (after s calls)) refl all.0 all.1 in
    subst (λ (t : Story). EachMoment (clock_of s) t (λ _. P)) (sym (same_Some (after s calls) (after s left.calls) left.told)) left.each

-- also where one of the calls failed
pub leaves-did : {X E : Type 0} (s : Story) (calls : Calls) (P : Bytes → Type 0) (old now : Option Story) (result : Result X E) → Leaves s calls P → old ≡ Some s → Did calls old now result → LeavesOnly s now P
leaves-did s calls P old now result all is did = LeavesOnly-did s calls P old now result is did all.0 all.1

-- what holds after calls of which none failed
pub after-did : {X E : Type 0} (s : Story) (calls : Calls) (P : Story → Type 0) (old now : Option Story) (result : Result X E) → P (after s calls) → old ≡ Some s → Did calls old now result → OnOk result (WhereTold now P)
after-did s calls P old now (Ok x) holds is did = λ t told. subst P (same_Some _ _ (sym (did ∙ all_noted-told s calls old is) ∙ told)) holds
after-did s calls P old now (Err e) holds is did = tt

-- and of what is in memory then
pub after-same : {V X E : Type 0} (s : Story) (calls : Calls) (P : V → Story → Type 0) (next made : V) (old now : Option Story) (result : Result X E)
    → P made (after s calls) → old ≡ Some s → Did calls old now result → OnOk result (next ≡ made) → OnOk result (WhereTold now (P next))
after-same s calls P next made old now (Ok x) holds is did same = λ t told. subst (λ v. P v t) (sym same) (after-did {X = Unit {0}} {E = Unit {0}} s calls (P made) old now (Ok tt) holds is did t told)
after-same s calls P next made old now (Err e) holds is did same = tt

-- a call that failed, whatever it answers
pub did-stopped : {X E : Type 0} (calls : Calls) (old now : Option Story) (result : Result X E) → IsErr result → HasStoppedIn calls old now → Did calls old now result
did-stopped calls old now (Ok x) failed stopped = absurd (let no : ◌≡◌ {A = Bool} false true = failed in cc)
did-stopped calls old now (Err e) failed stopped = stopped

pub not-ok : {X E : Type 0} (A : Type 0) (result : Result X E) → IsErr result → OnOk result A
not-ok A (Ok x) failed = absurd (let no : ◌≡◌ {A = Bool} false true = failed in cc)
not-ok A (Err e) failed = tt

-- a write and its sync
pub leaves-one : (s : Story) (at : ℕ) (new : List ℕ) (P : Bytes → Type 0) → ((image : Bytes) → IsImageDuring s (Write at new) image → P image) → Leaves s (Write at new ∷ Sync ∷ []) P
leaves-one s at new P first = (
  (first, ((λ image is. first image (λ i spared settled. is i tt (spared, settled) ∙ patched-outside at new (bytes_of s) i spared)), tt)),
  λ image is. first image (λ i spared settled. is i (inr (IsReadable-settled s.past i settled)) ∙ patched-outside at new (bytes_of s) i spared),
)

-- and then more
pub leaves-more : (s : Story) (at : ℕ) (new : List ℕ) (calls : Calls) (P : Bytes → Type 0) → ((image : Bytes) → IsImageDuring s (Write at new) image → P image)
    → Leaves (after s (Write at new ∷ Sync ∷ [])) calls P → Leaves s (Write at new ∷ Sync ∷ calls) P
leaves-more s at new calls P first rest =
    let one : Leaves s (Write at new ∷ Sync ∷ []) P = leaves-one s at new P first in
    ((one.0.0, (one.0.1.0, rest.0)), rest.1)

-- a weaker claim
pub leaves-weaker : (s : Story) (calls : Calls) (P Q : Bytes → Type 0) → ((image : Bytes) → P image → Q image) → Leaves s calls P → Leaves s calls Q
leaves-weaker s calls P Q weaker all = (during s calls all.0, λ image is. weaker image (all.1 image is))
  where
    during : (t : Story) (more : Calls) → During t more P → During t more Q
    during t [] one = tt
    during t (call ∷ more) one = ((λ image is. weaker image (one.0 image is)), during (after t (call ∷ [])) more one.1)
