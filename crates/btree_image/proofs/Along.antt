-- How a reader of a tree goes on, step by step.
use Rattle.std.proofs.Common.{◌≡◌, ℕ, Bool, List, [], ◌++◌, Option, Some, None, refl, sym, ◌∙◌, ap, subst, inl, inr}
use Rattle.std.specs.Prelude.{Result, Ok, Err, IfErr, OnOk, ◌⊎◌}
use Rattle.std.proofs.lemmas.List.{append-nil}
use Rattle.dev_model.specs.Story.{WhereTold}
use Rattle.dev_model.specs.declared.page_faults.PageFault.{PageFault}
use Rattle.dev_model.specs.declared.page_faults.PageFault.TheVariants.{Damaged, OutOfMemory}
use Rattle.dev_model.specs.Lending.{Lending}
use Rattle.dev_model.specs.Asked.{EndsWith, fault_of, GoesAlong}
use Rattle.dev_model.specs.Laws.Trail.{reads-then, reads-none, reads-holding, reads-full, reads-damaged, along-then, along-whole, along-short}
use Rattle.btree_image.specs.Rows.{Layout}
use Rattle.btree_image.specs.Damage.{IsDamaged}
use Rattle.btree_image.specs.Reading.{ReadsTree}
use Rattle.btree_image.specs.Walks.{GoesOn}

module _ {T K S : Type 0} {l : Layout T K} {at rows : ℕ} {lending : S → Lending} {asked : S → S → List (ℕ × Bool) → Type 0} where
  -- a way, and then another one
  pub goes-then : ((first second third : S) (xs ys : List (ℕ × Bool)) → asked first second xs → asked second third ys → asked first third (xs ++ ys)) → {first second third : S} (fault : Option PageFault) (hand way before next more : List ℕ)
      → GoesOn l at rows lending asked first second None hand way → hand ++ way ≡ before ++ next → GoesOn l at rows lending asked second third fault next more → GoesOn l at rows lending asked first third fault hand (way ++ more)
  goes-then onward fault hand way before next more a e b = record {
    pages = a.pages ++ b.pages;
    along = along-then fault a.pages way b.pages more a.along b.along;
    reads = reads-then onward fault before next a.reads (ap (λ xs. hand ++ xs) a.along ∙ e) b.reads;
  }

  -- the same from no page in hand, over steps that need none
  pub goes-on : ((first second third : S) (xs ys : List (ℕ × Bool)) → asked first second xs → asked second third ys → asked first third (xs ++ ys)) → {first second third : S} (fault : Option PageFault) (way more : List ℕ)
      → GoesOn l at rows lending asked first second None [] way → GoesOn l at rows lending asked second third fault [] more → GoesOn l at rows lending asked first third fault [] (way ++ more)
  goes-on onward fault way more a b = goes-then onward fault [] way way [] more a (sym (append-nil way)) b

  -- a refusal on a way is one on a longer way
  pub goes-short : {first second : S} (fault : PageFault) (hand way more whole : List ℕ) → way ++ more ≡ whole → GoesOn l at rows lending asked first second (Some fault) hand way → GoesOn l at rows lending asked first second (Some fault) hand whole
  goes-short fault hand way more whole e a = record { pages = a.pages; along = along-short fault a.pages way more whole e a.along; reads = a.reads }

  pub goes-same : {first second : S} {fault : Option PageFault} {hand way whole : List ℕ} → way ≡ whole → GoesOn l at rows lending asked first second fault hand way → GoesOn l at rows lending asked first second fault hand whole
  goes-same {first = first} {second = second} {fault = fault} {hand = hand} e a = subst (λ way. GoesOn l at rows lending asked first second fault hand way) e a

  -- all these pages
  pub goes-by : {first second : S} (fault : Option PageFault) {hand pages : List ℕ} → ReadsTree l at rows lending asked first second fault hand pages → GoesOn l at rows lending asked first second fault hand pages
  goes-by fault {pages = pages} reads = record { pages = pages; along = along-whole fault pages pages refl; reads = reads }

  -- nothing was asked for
  pub goes-nowhere : {first : S} (hand : List ℕ) → asked first first [] → GoesOn l at rows lending asked first first None hand []
  goes-nowhere hand none = goes-by None (reads-none hand none)

  -- a page in hand does no harm
  pub goes-holding : {first second : S} (fault : Option PageFault) (hand way : List ℕ) → GoesOn l at rows lending asked first second fault [] way → GoesOn l at rows lending asked first second fault hand way
  goes-holding fault hand way a = record { pages = a.pages; along = a.along; reads = reads-holding fault hand a.reads }

  -- a step that is refused after its pages were read
  pub goes-full : {first second : S} (hand way : List ℕ) → GoesOn l at rows lending asked first second None hand way → GoesOn l at rows lending asked first second (Some OutOfMemory) hand way
  goes-full hand way a = record { pages = a.pages; along = ([], append-nil a.pages ∙ a.along); reads = reads-full a.reads }

  -- a step that may be refused while rows of the page in hand are copied out
  pub goes-copied : {X : Type 0} {first second : S} (result : Result X PageFault) (hand way : List ℕ) (page : ℕ) (Bad : Type 0)
      → IfErr result (λ fault. (fault ≡ OutOfMemory) ⊎ ((fault ≡ Damaged page) × Bad))
      → GoesOn l at rows lending asked first second None hand way → EndsWith (hand ++ way) page
      → (Bad → WhereTold (lending first).contents (λ bytes. IsDamaged l at rows bytes page))
      → GoesOn l at rows lending asked first second (fault_of result) hand way
  goes-copied (Ok x) hand way page Bad refused a ends bad = a
  goes-copied {first = first} {second = second} (Err fault) hand way page Bad refused a ends bad = elim refused [
    | inl full ↦ subst (λ f. GoesOn l at rows lending asked first second (Some f) hand way) (sym full) (goes-full hand way a)
    | inr wrong ↦ subst (λ f. GoesOn l at rows lending asked first second (Some f) hand way) (sym wrong.0) (record {
      pages = a.pages;
      along = ([], append-nil a.pages ∙ a.along);
      reads = reads-damaged page a.reads (subst (λ xs. EndsWith (hand ++ xs) page) (sym a.along) ends) (bad wrong.1);
    })
  ]

-- a refusal that is handed on
pub goes-fault : {T K S : Type 0} {l : Layout T K} {at rows : ℕ} {lending : S → Lending} {asked : S → S → List (ℕ × Bool) → Type 0} {first second : S} {hand way : List ℕ}
    → {X : Type 0} (result : Result X PageFault) (fault : PageFault) → result ≡ Err fault → GoesOn l at rows lending asked first second (Some fault) hand way → GoesOn l at rows lending asked first second (fault_of result) hand way
goes-fault {l = l} {at = at} {rows = rows} {lending = lending} {asked = asked} {first = first} {second = second} {hand = hand} {way = way} result fault e goes =
    subst (λ r. GoesOn l at rows lending asked first second (fault_of r) hand way) (sym e) goes

pub along-fault : {X : Type 0} (result : Result X PageFault) (fault : PageFault) → result ≡ Err fault → (pages way : List ℕ) → GoesAlong (Some fault) pages way → GoesAlong (fault_of result) pages way
along-fault result fault e pages way goes = subst (λ r. GoesAlong (fault_of r) pages way) (sym e) goes

pub none_ok : {X E : Type 0} (result : Result X E) (e : E) (P : Type 0) → result ≡ Err e → OnOk result P
none_ok (Ok x) e P is = cc
none_ok (Err f) e P is = tt

pub on_ok : {X E : Type 0} (result : Result X E) (P Q : Type 0) → (P → Q) → OnOk result P → OnOk result Q
on_ok (Ok x) P Q f p = f p
on_ok (Err e) P Q f p = tt

pub ok_always : {X E : Type 0} (result : Result X E) (P : Type 0) → P → OnOk result P
ok_always (Ok x) P p = p
ok_always (Err e) P p = tt
