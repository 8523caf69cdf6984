-- A list with one element more. No public contract needs these laws.
use Rattle.std.proofs.Common.{◌≡◌, inl, inr, ℕ, zero, suc, ◌+◌, ◌<◌, ◌≤◌, List, [], ◌∷◌, ◌++◌, length, get_or, All, Bool, true, false, ◌||◌, refl, sym, ◌∙◌, ap, subst, arith}
use Rattle.std.specs.List.{filter, list_any}
use Rattle.std.proofs.lemmas.Bool.{cases_Bool, or_parts, cond-true, cond-false}
use Rattle.std.proofs.lemmas.List.Folds.{list_any-append}
use Rattle.std.proofs.lemmas.List.Elements.{filter-append, All-head, All-tail, All-cons}
use Rattle.std.proofs.lemmas.List.{length-append}
use Rattle.comp_dir.specs.Adding.{HasOneMore}

-- one element put into a list
pub one_more-cons : {X : Type 0} (e x : X) (old new : List X) → HasOneMore x old new → HasOneMore x (e ∷ old) (e ∷ new)
one_more-cons {X} e x old new more = record { before = e ∷ more.before; after = more.after; was = ap (λ (l : List X). e ∷ l) more.was; is = ap (λ (l : List X). e ∷ l) more.is }

pub any-more : {X : Type 0} (p : X → Bool) (x : X) (old new : List X) → HasOneMore x old new → list_any p new ≡ (list_any p old || p x)
any-more p x old new more =
    ap (list_any p) more.is
    ∙ list_any-append p more.before (x ∷ more.after)
    ∙ turned (list_any p more.before) (p x) (list_any p more.after)
    ∙ ap (λ (t : Bool). t || p x) (sym (ap (list_any p) more.was ∙ list_any-append p more.before more.after))
  where
    turned : (a b c : Bool) → (a || (b || c)) ≡ ((a || c) || b)
    turned a b c = grind arith

pub any-same : {X : Type 0} (p : X → Bool) (x : X) (old new : List X) → HasOneMore x old new → p x ≡ false → list_any p new ≡ list_any p old
any-same p x old new more fails = grind (arith, any-more p x old new more, fails)

pub any-kept : {X : Type 0} (p : X → Bool) (x : X) (old new : List X) → HasOneMore x old new → list_any p old ≡ true → list_any p new ≡ true
any-kept p x old new more there = any-more p x old new more ∙ ap (λ (t : Bool). t || p x) there

pub any-none : {X : Type 0} (p : X → Bool) (x : X) (old new : List X) → HasOneMore x old new → list_any p new ≡ false → list_any p old ≡ false
any-none p x old new more none = (or_parts (list_any p old) (p x) (sym (any-more p x old new more) ∙ none)).0

pub any-weaker : {X : Type 0} (p q : X → Bool) → ((e : X) → p e ≡ true → q e ≡ true) → (xs : List X) → list_any p xs ≡ true → list_any q xs ≡ true
any-weaker p q weaker [] there = there
any-weaker p q weaker (e ∷ xs) there = grind (arith, any-weaker p q weaker xs, weaker e, there)

pub filter-more : {X : Type 0} (p : X → Bool) (x : X) (old new : List X) → HasOneMore x old new → p x ≡ true → HasOneMore x (filter p old) (filter p new)
filter-more {X} p x old new more passes = record {
  before = filter p more.before;
  after = filter p more.after;
  was = ap (filter p) more.was ∙ filter-append p more.before more.after;
  is =
      ap (filter p) more.is
      ∙ filter-append p more.before (x ∷ more.after)
      ∙ ap (λ (l : List X). filter p more.before ++ l) (cond-true (p x) (x ∷ filter p more.after) (filter p more.after) passes);
}

pub filter-same : {X : Type 0} (p : X → Bool) (x : X) (old new : List X) → HasOneMore x old new → p x ≡ false → filter p new ≡ filter p old
filter-same {X} p x old new more fails = grind (arith, more.is, more.was, filter-append p more.before (x ∷ more.after), filter-append p more.before more.after, fails)

pub length-more : {X : Type 0} (x : X) (old new : List X) → HasOneMore x old new → length new ≡ length old + 1
length-more x old new more =
    ap length more.is ∙ length-append more.before (x ∷ more.after) ∙ omega (arith, ap length more.was ∙ length-append more.before more.after)

pub All-put : {X : Type 0} (P : X → Type 0) (before after : List X) (x : X) → All P (before ++ after) → P x → All P (before ++ x ∷ after)
All-put P [] after x each here = All-cons P x after here each
All-put P (e ∷ before) after x each here =
    All-cons P e (before ++ x ∷ after) (All-head P e (before ++ after) each) (All-put P before after x (All-tail P e (before ++ after) each) here)

pub All-left : {X : Type 0} (P : X → Type 0) (before after : List X) (x : X) → All P (before ++ x ∷ after) → All P (before ++ after)
All-left P [] after x each = All-tail P x after each
All-left P (e ∷ before) after x each =
    All-cons P e (before ++ after) (All-head P e (before ++ x ∷ after) each) (All-left P before after x (All-tail P e (before ++ x ∷ after) each))

pub All-more : {X : Type 0} (P : X → Type 0) (x : X) (old new : List X) → HasOneMore x old new → All P old → P x → All P new
All-more P x old new more each here = subst (All P) (sym more.is) (All-put P more.before more.after x (subst (All P) more.was each) here)

pub All-fewer : {X : Type 0} (P : X → Type 0) (x : X) (old new : List X) → HasOneMore x old new → All P new → All P old
All-fewer P x old new more each = subst (All P) (sym more.was) (All-left P more.before more.after x (subst (All P) more.is each))

-- tests that agree at each element of a list
pub filter-agree : {X : Type 0} (p q : X → Bool) (xs : List X) → All (λ e. p e ≡ q e) xs → filter p xs ≡ filter q xs
filter-agree {X} p q [] agree = refl
filter-agree {X} p q (e ∷ xs) agree = grind (arith, All-head (λ f. p f ≡ q f) e xs agree, filter-agree p q xs (All-tail (λ f. p f ≡ q f) e xs agree))

pub filter-all : {X : Type 0} (p : X → Bool) (xs : List X) → All (λ e. p e ≡ true) xs → filter p xs ≡ xs
filter-all {X} p [] each = refl
filter-all {X} p (e ∷ xs) each = grind (arith, All-head (λ f. p f ≡ true) e xs each, filter-all p xs (All-tail (λ f. p f ≡ true) e xs each))

-- the order of two tests is free
pub filter-swap : {X : Type 0} (p q : X → Bool) (xs : List X) → filter p (filter q xs) ≡ filter q (filter p xs)
filter-swap p q [] = refl
filter-swap p q (e ∷ xs) = grind (arith, filter-swap p q xs)

-- an element that passes stands among those that pass
pub in-filter : {X : Type 0} (p : X → Bool) (xs : List X) (k : ℕ) (d : X) → k < length xs → p (get_or xs k d) ≡ true
    → (j : ℕ) × (j < length (filter p xs)) × (get_or (filter p xs) j d ≡ get_or xs k d)
in-filter {X} p [] k d lt passes = absurd (omega arith)
in-filter {X} p (e ∷ xs) zero d lt passes =
    subst (λ (l : List X). (j : ℕ) × (j < length l) × (get_or l j d ≡ e)) (sym (cond-true (p e) (e ∷ filter p xs) (filter p xs) passes)) (0, omega arith, refl)
in-filter {X} p (e ∷ xs) (suc k) d lt passes =
    let rest : (j : ℕ) × (j < length (filter p xs)) × (get_or (filter p xs) j d ≡ get_or xs k d) = in-filter p xs k d (omega arith) passes in
    elim (cases_Bool (p e)) [
      | inl here ↦
          subst (λ (l : List X). (j : ℕ) × (j < length l) × (get_or l j d ≡ get_or xs k d)) (sym (cond-true (p e) (e ∷ filter p xs) (filter p xs) here))
          (suc rest.0, omega (arith, rest.1), rest.2)
      | inr fails ↦ subst (λ (l : List X). (j : ℕ) × (j < length l) × (get_or l j d ≡ get_or xs k d)) (sym (cond-false (p e) (e ∷ filter p xs) (filter p xs) fails)) rest
    ]

-- what a narrower test keeps
pub filter-narrower : {X : Type 0} (p q : X → Bool) → ((e : X) → q e ≡ true → p e ≡ true) → (xs : List X) → length (filter q xs) ≤ length (filter p xs)
filter-narrower p q narrower [] = omega arith
filter-narrower p q narrower (e ∷ xs) = grind (arith, filter-narrower p q narrower xs, narrower e)

pub filter-fewer : {X : Type 0} (p q : X → Bool) → ((e : X) → q e ≡ true → p e ≡ true) → (xs : List X) (k : ℕ) (d : X) → k < length xs
    → p (get_or xs k d) ≡ true → q (get_or xs k d) ≡ false → length (filter q xs) < length (filter p xs)
filter-fewer p q narrower [] k d lt passes fails = absurd (omega arith)
filter-fewer p q narrower (e ∷ xs) zero d lt passes fails = grind (arith, filter-narrower p q narrower xs, passes, fails)
filter-fewer p q narrower (e ∷ xs) (suc k) d lt passes fails = grind (arith, filter-fewer p q narrower xs k d (omega arith) passes fails, narrower e)
