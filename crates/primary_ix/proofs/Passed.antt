-- Lookups and lists of components, one component at a time.
use Rattle.std.specs.Prelude.{Any}
use Rattle.std.proofs.Common.{Bool, append_assoc, ◌≡◌, ℕ, suc, ◌<◌, ◌≤◌, true, false, List, [], ◌∷◌, ◌++◌, length, drop, drop-cons, get_or, zero, arith, Option, Some, None, is_some, refl, sym, ◌∙◌, ap, if◌then◌else◌}
use Rattle.std.proofs.lemmas.List.{append-nil}
use Rattle.std.specs.Option.{option_or}
use Rattle.btree_image.specs.Descent.{descent}
use Rattle.order_merge.specs.Entries.{entry_at, newest_at}
use Rattle.primary_ix.specs.declared.component.PrimComp.{PrimComp}
use Rattle.primary_ix.specs.declared.rows.PrimRow.{PrimRow}
use Rattle.primary_ix.specs.Rows.{prim_layout}
use Rattle.primary_ix.specs.Reading.{prim_reading}
use Rattle.dev_model.specs.declared.page_faults.PageFault.{PageFault}
use Rattle.dev_model.specs.Lending.{Lending}
use Rattle.dev_model.specs.Asked.{GoesAlong}
use Rattle.dev_model.specs.Laws.Trail.{reads-on, reads-as, along-then, along-short}
use Rattle.btree_image.specs.Damage.{IsDamaged}
use Rattle.btree_image.specs.Tested.{IsTested}
use Rattle.btree_image.specs.Reading.{ReadsTree}
use Rattle.primary_ix.specs.OnPages.{ReadsAmong}
use Rattle.primary_ix.specs.Lookups.{lookup_pages}

pub same_default : {X : Type 0} (xs : List X) (i : ℕ) (d e : X) → i < length xs → get_or xs i d ≡ get_or xs i e
same_default [] i d e h = absurd (omega arith)
same_default (x ∷ xs) zero d e h = refl
same_default (x ∷ xs) (suc i) d e h = same_default xs i d e (omega arith)

none_of : (found : Option PrimRow) → is_some found ≡ false → found ≡ None
none_of None h = refl
none_of (Some row) h = cc

some_or : (found other : Option PrimRow) → is_some found ≡ true → found ≡ option_or found other
some_or None other h = cc
some_or (Some row) other h = refl

module _ (key : ℕ) (disk : List (List PrimRow)) (i : ℕ) (inside : i < length disk) where
  newest-here : newest_at prim_reading (drop i disk) key ≡ option_or (entry_at prim_reading (get_or disk i []) key) (newest_at prim_reading (drop (suc i) disk) key)
  unfolding newest_at
  newest-here = ap (λ lists. newest_at prim_reading lists key) (drop-cons disk i [] inside)

  -- the key is in the component at hand
  pub newest-found : (found : Option PrimRow) → found ≡ entry_at prim_reading (get_or disk i []) key → is_some found ≡ true
      → newest_at prim_reading disk key ≡ newest_at prim_reading (drop i disk) key → found ≡ newest_at prim_reading disk key
  newest-found found is some so_far =
      some_or found (newest_at prim_reading (drop (suc i) disk) key) some
      ∙ ap (λ o. option_or o (newest_at prim_reading (drop (suc i) disk) key)) is ∙ sym newest-here ∙ sym so_far

  -- or it is not
  pub newest-passed : (found : Option PrimRow) → found ≡ entry_at prim_reading (get_or disk i []) key → is_some found ≡ false
      → newest_at prim_reading disk key ≡ newest_at prim_reading (drop i disk) key → newest_at prim_reading disk key ≡ newest_at prim_reading (drop (suc i) disk) key
  newest-passed found is none so_far =
      so_far ∙ newest-here ∙ ap (λ o. option_or o (newest_at prim_reading (drop (suc i) disk) key)) (sym is ∙ none_of found none)

  module _ (comps : List PrimComp) (roots : List ℕ) (comp : PrimComp) (in_comps : i < length comps) (in_roots : i < length roots) where
    abbrev pub way_here : List ℕ
    way_here = descent prim_layout (get_or comps i comp).tree.first (get_or disk i []) key (get_or roots i 0)

    -- the pages of a lookup from a component on
    pub way-here : lookup_pages key (drop i comps) (drop i disk) (drop i roots)
        ≡ way_here ++ (if is_some (entry_at prim_reading (get_or disk i []) key) then [] else lookup_pages key (drop (suc i) comps) (drop (suc i) disk) (drop (suc i) roots))
    unfolding lookup_pages
    way-here =
        ap (λ cs. lookup_pages key cs (drop i disk) (drop i roots)) (drop-cons comps i comp in_comps)
        ∙ ap (λ ls. lookup_pages key (get_or comps i comp ∷ drop (suc i) comps) ls (drop i roots)) (drop-cons disk i [] inside)
        ∙ ap (λ rs. lookup_pages key (get_or comps i comp ∷ drop (suc i) comps) (get_or disk i [] ∷ drop (suc i) disk) rs) (drop-cons roots i 0 in_roots)

    pub way-found : (found : Option PrimRow) → found ≡ entry_at prim_reading (get_or disk i []) key → is_some found ≡ true
        → lookup_pages key (drop i comps) (drop i disk) (drop i roots) ≡ way_here
    way-found found is some =
        way-here ∙ ap (λ b. way_here ++ (if b then [] else lookup_pages key (drop (suc i) comps) (drop (suc i) disk) (drop (suc i) roots))) (ap is_some (sym is) ∙ some) ∙ append-nil way_here

    pub way-passed : (found : Option PrimRow) → found ≡ entry_at prim_reading (get_or disk i []) key → is_some found ≡ false
        → lookup_pages key (drop i comps) (drop i disk) (drop i roots) ≡ way_here ++ lookup_pages key (drop (suc i) comps) (drop (suc i) disk) (drop (suc i) roots)
    way-passed found is none =
        way-here ∙ ap (λ b. way_here ++ (if b then [] else lookup_pages key (drop (suc i) comps) (drop (suc i) disk) (drop (suc i) roots))) (ap is_some (sym is) ∙ none)

pub past_end : {X : Type 0} (xs : List X) (i : ℕ) → length xs ≤ i → drop i xs ≡ []
past_end [] zero h = refl
past_end [] (suc i) h = refl
past_end (x ∷ xs) zero h = absurd (omega arith)
past_end (x ∷ xs) (suc i) h = past_end xs i (omega arith)

-- behind the last component there is nothing
pub newest-end : (key : ℕ) (disk : List (List PrimRow)) (i : ℕ) → length disk ≤ i → newest_at prim_reading (drop i disk) key ≡ None
unfolding newest_at
newest-end key disk i h = ap (λ lists. newest_at prim_reading lists key) (past_end disk i h)

pub way-end : (key : ℕ) (comps : List PrimComp) (disk : List (List PrimRow)) (roots : List ℕ) (i : ℕ) (seen : List ℕ) → length comps ≤ i
    → seen ++ lookup_pages key (drop i comps) (drop i disk) (drop i roots) ≡ seen
unfolding lookup_pages
way-end key comps disk roots i seen h = ap (λ cs. seen ++ lookup_pages key cs (drop i disk) (drop i roots)) (past_end comps i h) ∙ append-nil seen

-- what is so of one component
any_at : (P : PrimComp → Type 0) (comps : List PrimComp) (comp : PrimComp) (i : ℕ) → i < length comps → P (get_or comps i comp) → Any P comps
any_at P comps comp i inside p = (i, get_or comps i comp, inside, same_default comps i (get_or comps i comp) comp inside, p)

module _ {S : Type 0} {lending : S → Lending} {asked : S → S → List (ℕ × Bool) → Type 0} (comps : List PrimComp) (comp : PrimComp) (i : ℕ) (inside : i < length comps) where
  -- a reader of components that goes on to the next one
  pub reads-next : ((first second third : S) (xs ys : List (ℕ × Bool)) → asked first second xs → asked second third ys → asked first third (xs ++ ys))
      → {first second third : S} (fault : Option PageFault) {seen more : List ℕ} → ReadsAmong comps lending asked first second None seen
      → ReadsTree prim_layout (get_or comps i comp).tree.first (get_or comps i comp).tree.rows lending asked second third fault [] more → ReadsAmong comps lending asked first third fault (seen ++ more)
  reads-next onward fault a b =
      reads-on onward fault a
      (reads-as fault (λ contents page bad. any_at (λ c. IsDamaged prim_layout c.tree.first c.tree.rows contents page) comps comp i inside bad)
      (λ contents page tested. any_at (λ c. IsTested prim_layout c.tree.first c.tree.rows contents page) comps comp i inside tested) b)

-- its way, where the part for that component was gone
pub way-refused : (fault : PageFault) (seen more part rest whole : List ℕ) → seen ++ (part ++ rest) ≡ whole → GoesAlong (Some fault) more part → GoesAlong (Some fault) (seen ++ more) whole
way-refused fault seen more part rest whole e goes =
    along-short fault (seen ++ more) (seen ++ part) rest whole (append_assoc seen part rest ∙ e) (along-then (Some fault) seen seen more part refl goes)

pub way-gone : (seen more part rest whole : List ℕ) → seen ++ (part ++ rest) ≡ whole → more ≡ part → (seen ++ more) ++ rest ≡ whole
way-gone seen more part rest whole e gone = append_assoc seen more rest ∙ ap (λ t. seen ++ (t ++ rest)) gone ∙ e
