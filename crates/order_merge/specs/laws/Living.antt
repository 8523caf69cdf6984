-- Lists that fit go on fitting: when an entry is added to the newest one, and when adjacent ones are merged.
-- No public contract needs this file.
use Rattle.std.proofs.Common.{◌≡◌, Bool, true, false, List, [], ◌∷◌, ◌++◌, Option, Some, None, refl, ap, sym, ◌∙◌, if◌then◌else◌}
use Rattle.std.specs.Option.{option_or}
use Rattle.std.specs.Ordering.{eq_by_cmp, is_eq}
use Rattle.std.specs.Cmp.{alike_right}
use Rattle.std.specs.declared.cmp.Ordering.{Ordering}
use Rattle.std.specs.declared.cmp.Ordering.TheVariants.{Less, Equal, Greater}
use Rattle.order_merge.specs.Entries.{Reading, entry_at, newest_at}
use Rattle.order_merge.specs.Fitting.{unless_anti, Fits}
use Rattle.order_merge.specs.Ascending.{IsKeyOrder}
use Rattle.order_merge.specs.Merged.{IsMergeOf}
use Rattle.order_merge.specs.Adding.{with_entry, by_ordering}
use Rattle.order_merge.specs.Added.{wanted_with}

pub option_or-assoc : {X : Type 0} (a b c : Option X) → option_or (option_or a b) c ≡ option_or a (option_or b c)
option_or-assoc None b c = refl
option_or-assoc (Some x) b c = refl

pub option_or-none : {X : Type 0} (a : Option X) → option_or a None ≡ a
option_or-none None = refl
option_or-none (Some x) = refl

same_test : {X : Type 0} (b : Bool) (x y z : X) → (if b then x else z) ≡ (if b then x else (if b then y else z))
same_test true x y z = refl
same_test false x y z = refl

-- of two tests that can't both hold, either may be made first
apart_tests : {X : Type 0} (a b : Bool) (x y z : X) → (a ≡ true → b ≡ true → ⊥)
    → (if a then x else (if b then y else z)) ≡ (if b then y else (if a then x else z))
apart_tests true true x y z h = absurd (h refl refl)
apart_tests true false x y z h = refl
apart_tests false true x y z h = refl
apart_tests false false x y z h = refl

-- equal by the test is equal
pub is_eq-Equal : (s : Ordering) → is_eq s ≡ true → s ≡ Equal
is_eq-Equal Less h = cc
is_eq-Equal Equal h = refl
is_eq-Equal Greater h = cc

module _ {E K : Type 0} (r : Reading E K) where
  -- the newest entry of joined lists of lists
  pub newest_at-append : (xs ys : List (List E)) (k : K) → newest_at r (xs ++ ys) k ≡ option_or (newest_at r xs k) (newest_at r ys k)
  unfolding newest_at
  newest_at-append [] ys k = refl
  newest_at-append (x ∷ xs) ys k =
      ap (option_or (entry_at r x k)) (newest_at-append xs ys k) ∙ sym (option_or-assoc (entry_at r x k) (newest_at r xs k) (newest_at r ys k))

  unless_anti-twice : (o : Option E) → unless_anti r (unless_anti r o) ≡ unless_anti r o
  unless_anti-twice None = refl
  unless_anti-twice (Some e) = go (r.is_anti e) refl
    where
      go : (b : Bool) → r.is_anti e ≡ b → unless_anti r (unless_anti r (Some e)) ≡ unless_anti r (Some e)
      go true p = simp p
      go false p = simp p

  -- what an older part says matters only where the newer part says nothing
  unless_anti-under : (a o : Option E) → unless_anti r (option_or a (unless_anti r o)) ≡ unless_anti r (option_or a o)
  unless_anti-under None o = unless_anti-twice o
  unless_anti-under (Some e) o = refl

  -- adjacent lists and their merge say the same of each key
  pub newest_at-merge : (before among after : List (List E)) (merged : List E) → IsMergeOf r among false merged
      → (k : K) → newest_at r (before ++ (merged ∷ after)) k ≡ newest_at r (before ++ (among ++ after)) k
  unfolding newest_at
  newest_at-merge before among after merged m k =
      newest_at-append before (merged ∷ after) k
      ∙ ap (λ o. option_or (newest_at r before k) (option_or o (newest_at r after k))) (m.1 k)
      ∙ ap (option_or (newest_at r before k)) (sym (newest_at-append among after k))
      ∙ sym (newest_at-append before (among ++ after) k)

  pub Fits-merge : (before among after : List (List E)) (merged : List E) (wanted : K → Option E) → IsMergeOf r among false merged
      → Fits r (before ++ (among ++ after)) wanted → Fits r (before ++ (merged ∷ after)) wanted
  Fits-merge before among after merged wanted m fits k =
      ap (unless_anti r) (newest_at-merge before among after merged m k) ∙ fits k

  -- with the oldest list among them, anti entries may go
  pub Fits-merge_oldest : (before among : List (List E)) (merged : List E) (wanted : K → Option E) → IsMergeOf r among true merged
      → Fits r (before ++ among) wanted → Fits r (before ++ (merged ∷ [])) wanted
  unfolding newest_at
  Fits-merge_oldest before among merged wanted m fits k =
      ap (unless_anti r) (newest_at-append before (merged ∷ []) k
      ∙ ap (option_or (newest_at r before k)) (option_or-none (entry_at r merged k) ∙ m.1 k))
      ∙ unless_anti-under (newest_at r before k) (newest_at r among k)
      ∙ ap (unless_anti r) (sym (newest_at-append before among k))
      ∙ fits k

  -- behind an empty active list the frozen one says what it said
  pub Fits-frozen : (active : List E) (disk : List (List E)) (wanted : K → Option E) → Fits r (active ∷ disk) wanted → Fits r ([] ∷ active ∷ disk) wanted
  unfolding newest_at entry_at
  Fits-frozen active disk wanted fits k = fits k

  module _ (o : IsKeyOrder r.order) where
    -- an added entry is the one of its key, and no other key sees it
    pub entry_at-with_entry : (e : E) (es : List E) (k : K)
        → entry_at r (with_entry r e es) k ≡ (if eq_by_cmp r.order (r.key_of e) k then Some e else entry_at r es k)
    unfolding entry_at with_entry
    entry_at-with_entry e [] k = refl
    entry_at-with_entry e (d ∷ es) k = go (r.order (r.key_of e) (r.key_of d)) refl (entry_at-with_entry e es k)
      where
        go : (s : Ordering) → r.order (r.key_of e) (r.key_of d) ≡ s
            → entry_at r (with_entry r e es) k ≡ (if eq_by_cmp r.order (r.key_of e) k then Some e else entry_at r es k)
            → entry_at r (by_ordering s (e ∷ d ∷ es) (e ∷ es) (d ∷ with_entry r e es)) k ≡ (if eq_by_cmp r.order (r.key_of e) k then Some e else entry_at r (d ∷ es) k)
        go Less p below = refl
        go Equal p below = rw (ap is_eq (o.total.congr (r.key_of e) (r.key_of d) k p)) (same_test (eq_by_cmp r.order (r.key_of d) k) (Some e) (Some d) (entry_at r es k))
        go Greater p below = rw below
            (apart_tests (eq_by_cmp r.order (r.key_of d) k) (eq_by_cmp r.order (r.key_of e) k) (Some d) (Some e) (entry_at r es k)
            (λ same_d same_e. differs p (is_eq-Equal _ same_d) (is_eq-Equal _ same_e)))
          where
            differs : r.order (r.key_of e) (r.key_of d) ≡ Greater → r.order (r.key_of d) k ≡ Equal → r.order (r.key_of e) k ≡ Equal → ⊥
            differs p q s = let t : Greater ≡ Equal = sym p ∙ alike_right o.total (r.key_of d) k (r.key_of e) q ∙ s in cc

    pub newest_at-with_entry : (e : E) (es : List E) (older : List (List E)) (k : K)
        → newest_at r (with_entry r e es ∷ older) k ≡ (if eq_by_cmp r.order (r.key_of e) k then Some e else newest_at r (es ∷ older) k)
    unfolding newest_at
    newest_at-with_entry e es older k = rw (entry_at-with_entry e es k) (go (eq_by_cmp r.order (r.key_of e) k))
      where
        go : (b : Bool) → option_or (if b then Some e else entry_at r es k) (newest_at r older k) ≡ (if b then Some e else option_or (entry_at r es k) (newest_at r older k))
        go true = refl
        go false = refl

    -- adding an entry to the newest list changes what is wanted at its key alone
    pub Fits-with_entry : (e : E) (es : List E) (older : List (List E)) (wanted : K → Option E)
        → Fits r (es ∷ older) wanted → Fits r (with_entry r e es ∷ older) (wanted_with r e wanted)
    Fits-with_entry e es older wanted fits k = rw (newest_at-with_entry e es older k) (go (eq_by_cmp r.order (r.key_of e) k))
      where
        go : (b : Bool) → unless_anti r (if b then Some e else newest_at r (es ∷ older) k) ≡ (if b then unless_anti r (Some e) else wanted k)
        go true = refl
        go false = fits k
