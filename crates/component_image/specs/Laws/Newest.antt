-- The newest component of an index ends behind each of its open slots, live or ignored. No public contract needs these laws.
use Rattle.std.proofs.Common.{◌≡◌, ℕ, All, zero, suc, ◌+◌, ◌-◌, ◌<◌, ◌≤◌, ◌==◌, List, [], ◌∷◌, Bool, true, false, ◌||◌, not, if◌then◌else◌, nat_le, refl, sym, ◌∙◌, ap, arith}
use Rattle.std.proofs.lemmas.Bool.Decides.{nat_tests}
use Rattle.std.proofs.lemmas.List.Elements.{All-nil, All-cons}
use Rattle.std.specs.List.{filter, list_any}
use Rattle.comp_dir.specs.Directory.{Directory, Numbered, open_slots}
use Rattle.comp_dir.specs.Choosing.{is_hidden_by, is_live, live_slots, Opens as DirectoryOpens}
use Rattle.comp_dir.specs.declared.places.TheConstants.{LSN_LIMIT}
use Rattle.comp_dir.specs.declared.slots.Slot.{Slot}
use Rattle.component_image.specs.Components.{placed, newest_first, components, end_of}
use Rattle.component_image.specs.Laws.Components.{AllOf, AllOf-weaker, open_from-all}

-- what holds of each element
pub All-of : {X : Type 0} (P : X → Type 0) (xs : List X) → AllOf P xs → All P xs
All-of P [] all = All-nil P
All-of P (x ∷ xs) all = All-cons P x xs all.0 (All-of P xs all.1)

-- what holds of the elements that pass a test
pub filtered-all : {X : Type 0} (P : X → Type 0) (p : X → Bool) (xs : List X) → AllOf P (filter p xs) → AllOf (λ x. p x ≡ true → P x) xs
filtered-all P p [] all = tt
filtered-all P p (x ∷ xs) all = go (p x) refl all (filtered-all P p xs)
  where
    go : (b : Bool) → p x ≡ b → AllOf P (if b then x ∷ filter p xs else filter p xs) → (AllOf P (filter p xs) → AllOf (λ y. p y ≡ true → P y) xs) → AllOf (λ y. p y ≡ true → P y) (x ∷ xs)
    go true is all rest = (λ _. all.0, rest all.1)
    go false is all rest = (λ passes. absurd (let e : true ≡ false = sym passes ∙ is in cc), rest all)

-- what follows from an element that passes, follows where one does
pub any-of : {X : Type 0} (C : Type 0) (R : X → Type 0) (p : X → Bool) (xs : List X) → AllOf R xs → list_any p xs ≡ true → ((x : X) → p x ≡ true → R x → C) → C
any-of C R p [] all is from = absurd (let e : false ≡ true = is in cc)
any-of C R p (x ∷ xs) all is from = go (p x) refl is (λ later. any-of C R p xs all.1 later from)
  where
    go : (b : Bool) → p x ≡ b → (b || list_any p xs) ≡ true → (list_any p xs ≡ true → C) → C
    go true here is rest = from x here all.0
    go false here is rest = rest is

-- the first of the components ends last
placed-ends : (s : Slot) (slots : List Slot) → AllOf (λ t. t.last_lsn ≤ end_of slots) slots → (s.last_lsn ≤ end_of (placed s slots)) × (end_of slots ≤ end_of (placed s slots))
placed-ends s [] all = (omega arith, omega arith)
placed-ends s (t ∷ slots) all = go (nat_le t.last_lsn s.last_lsn) refl
  where
    go : (b : Bool) → nat_le t.last_lsn s.last_lsn ≡ b
        → (s.last_lsn ≤ end_of (if b then s ∷ t ∷ slots else t ∷ placed s slots)) × (t.last_lsn ≤ end_of (if b then s ∷ t ∷ slots else t ∷ placed s slots))
    go true is = (omega arith, grind (arith, nat_tests, is))
    go false is = (grind (arith, nat_tests, is), omega arith)

placed-all : (bound : ℕ) (s : Slot) (slots : List Slot) → s.last_lsn ≤ bound → AllOf (λ t. t.last_lsn ≤ bound) slots → AllOf (λ t. t.last_lsn ≤ bound) (placed s slots)
placed-all bound s [] here all = (here, tt)
placed-all bound s (t ∷ slots) here all = go (nat_le t.last_lsn s.last_lsn) (placed-all bound s slots here all.1)
  where
    go : (b : Bool) → AllOf (λ u. u.last_lsn ≤ bound) (placed s slots) → AllOf (λ u. u.last_lsn ≤ bound) (if b then s ∷ t ∷ slots else t ∷ placed s slots)
    go true rest = (here, all)
    go false rest = (all.0, rest)

newest-first : (es : List Numbered) → AllOf (λ s. s.last_lsn ≤ end_of (newest_first es)) (newest_first es)
newest-first [] = tt
newest-first (e ∷ es) =
    let rest : AllOf (λ s. s.last_lsn ≤ end_of (newest_first es)) (newest_first es) = newest-first es in
    let ends : (e.1.last_lsn ≤ end_of (placed e.1 (newest_first es))) × (end_of (newest_first es) ≤ end_of (placed e.1 (newest_first es))) = placed-ends e.1 (newest_first es) rest in
    placed-all (end_of (placed e.1 (newest_first es))) e.1 (newest_first es) ends.0
    (AllOf-weaker (λ s. s.last_lsn ≤ end_of (newest_first es)) (λ s. s.last_lsn ≤ end_of (placed e.1 (newest_first es))) (newest_first es) (λ s le. omega (arith, le, ends.1)) rest)

pub numbered-ends : (es : List Numbered) → AllOf (λ e. e.1.last_lsn ≤ end_of (newest_first es)) es
numbered-ends [] = tt
numbered-ends (e ∷ es) =
    let ends : (e.1.last_lsn ≤ end_of (placed e.1 (newest_first es))) × (end_of (newest_first es) ≤ end_of (placed e.1 (newest_first es))) = placed-ends e.1 (newest_first es) (newest-first es) in
    (ends.0, AllOf-weaker (λ f. f.1.last_lsn ≤ end_of (newest_first es)) (λ f. f.1.last_lsn ≤ end_of (placed e.1 (newest_first es))) es (λ f le. omega (arith, le, ends.1)) (numbered-ends es))

-- a slot that hides another one is wider and ends no earlier
hides-wider : (s t : Slot) → s.first_lsn ≤ s.last_lsn → is_hidden_by s t ≡ true → (s.last_lsn - s.first_lsn < t.last_lsn - t.first_lsn) × (s.last_lsn ≤ t.last_lsn) × (t.index ≡ s.index)
hides-wider s t ordered hidden = grind (arith, nat_tests)

-- one index among open slots, whose live ones end up to a number
module _ (all : List Numbered) (index bound limit : ℕ) (ordered : AllOf (λ e. (e.1.first_lsn ≤ e.1.last_lsn) × (e.1.last_lsn < limit)) all)
    (live : AllOf (λ e. is_live all e ≡ true → (e.1.index == index) ≡ true → e.1.last_lsn ≤ bound) all) where
  -- a slot that is so wide, or wider, ends up to there
  abbrev Ends : ℕ → Numbered → Type 0
  Ends n e = (e.1.index == index) ≡ true → limit ≤ e.1.last_lsn - e.1.first_lsn + n → e.1.last_lsn ≤ bound

  each : (n : ℕ) → AllOf (Ends n) all → (es : List Numbered) → AllOf (λ e. (e.1.first_lsn ≤ e.1.last_lsn) × (e.1.last_lsn < limit)) es
      → AllOf (λ e. is_live all e ≡ true → (e.1.index == index) ≡ true → e.1.last_lsn ≤ bound) es → AllOf (Ends (suc n)) es
  each n wider [] is lives = tt
  each n wider (e ∷ es) is lives = (λ of_index wide_enough. by_test (list_any (λ f. is_hidden_by e.1 f.1) all) refl of_index wide_enough, each n wider es is.1 lives.1)
    where
      by_test : (b : Bool) → list_any (λ f. is_hidden_by e.1 f.1) all ≡ b → (e.1.index == index) ≡ true → limit ≤ e.1.last_lsn - e.1.first_lsn + suc n → e.1.last_lsn ≤ bound
      by_test false none of_index wide_enough = lives.0 (ap not none) of_index
      by_test true some of_index wide_enough =
          any-of (e.1.last_lsn ≤ bound) (Ends n) (λ f. is_hidden_by e.1 f.1) all wider some
          (λ f hidden ends.
          let more : (e.1.last_lsn - e.1.first_lsn < f.1.last_lsn - f.1.first_lsn) × (e.1.last_lsn ≤ f.1.last_lsn) × (f.1.index ≡ e.1.index) = hides-wider e.1 f.1 is.0.0 hidden in
          let up_to : f.1.last_lsn ≤ bound = ends (ap (λ (i : ℕ). i == index) more.2 ∙ of_index) (omega (arith, more.0, wide_enough)) in
          omega (arith, more.1, up_to))

  wide : (n : ℕ) → AllOf (Ends n) all
  wide zero = AllOf-weaker (λ e. (e.1.first_lsn ≤ e.1.last_lsn) × (e.1.last_lsn < limit)) (Ends zero) all (λ e is of_index wide. absurd (let no : ⊥ = omega (arith, is.1, wide) in no)) ordered
  wide (suc n) = each n (wide n) all ordered live

  pub all-end : AllOf (λ e. (e.1.index == index) ≡ true → e.1.last_lsn ≤ bound) all
  all-end = AllOf-weaker (Ends limit) (λ e. (e.1.index == index) ≡ true → e.1.last_lsn ≤ bound) all (λ e ends of_index. ends of_index (omega arith)) (wide limit)

-- in a directory that opens
pub open-behind : (pages declared index : ℕ) (slots : Directory) → DirectoryOpens pages declared slots
    → All (λ e. e.1.index ≡ index → e.1.last_lsn ≤ end_of (components index slots)) (open_slots slots)
open-behind pages declared index slots opens =
    All-of (λ e. e.1.index ≡ index → e.1.last_lsn ≤ end_of (components index slots)) (open_slots slots)
    (AllOf-weaker (λ e. (e.1.index == index) ≡ true → e.1.last_lsn ≤ end_of (components index slots)) (λ e. e.1.index ≡ index → e.1.last_lsn ≤ end_of (components index slots)) (open_slots slots)
    (λ e ends is. ends (grind (arith, nat_tests)))
    (all-end (open_slots slots) index (end_of (components index slots)) LSN_LIMIT
    (open_from-all (λ e. (e.1.first_lsn ≤ e.1.last_lsn) × (e.1.last_lsn < LSN_LIMIT)) 0 slots (λ i body is. ((opens.sound i body is).sound.interval.ordered, (opens.sound i body is).sound.interval.below)))
    (filtered-all (λ e. (e.1.index == index) ≡ true → e.1.last_lsn ≤ end_of (components index slots)) (is_live (open_slots slots)) (open_slots slots)
    (filtered-all (λ e. e.1.last_lsn ≤ end_of (components index slots)) (λ e. e.1.index == index) (live_slots (open_slots slots))
    (numbered-ends (filter (λ e. e.1.index == index) (live_slots (open_slots slots))))))))
