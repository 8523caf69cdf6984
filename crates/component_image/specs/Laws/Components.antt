-- What holds of the components of an index. No public contract needs these laws.
use Rattle.std.proofs.Common.{◌≡◌, ℕ, zero, suc, ◌+◌, ◌==◌, List, [], ◌∷◌, get_or, Some, None, Bool, true, false, if◌then◌else◌, nat_le, refl, subst, arith}
use Rattle.std.proofs.lemmas.Bool.Decides.{nat_tests}
use Rattle.std.specs.List.{filter}
use Rattle.comp_dir.specs.Slots.{slot_of}
use Rattle.comp_dir.specs.Directory.{Directory, Numbered, open_from, open_slots}
use Rattle.comp_dir.specs.Choosing.{is_live, live_slots}
use Rattle.comp_dir.specs.declared.slots.Slot.{Slot}
use Rattle.component_image.specs.Components.{placed, newest_first, components}

-- each element has it
abbrev pub AllOf : {X : Type 0} → (X → Type 0) → List X → Type 0
AllOf P [] = Unit {0}
AllOf P (x ∷ xs) = P x × AllOf P xs

pub AllOf-weaker : {X : Type 0} (P Q : X → Type 0) (xs : List X) → ((x : X) → P x → Q x) → AllOf P xs → AllOf Q xs
AllOf-weaker P Q [] weaker all = tt
AllOf-weaker P Q (x ∷ xs) weaker all = (weaker x all.0, AllOf-weaker P Q xs weaker all.1)

pub AllOf-filter : {X : Type 0} (P : X → Type 0) (p : X → Bool) (xs : List X) → AllOf P xs → AllOf (λ x. (p x ≡ true) × P x) (filter p xs)
AllOf-filter P p [] all = tt
AllOf-filter P p (x ∷ xs) all = go (p x) refl (AllOf-filter P p xs all.1)
  where
    go : (b : Bool) → p x ≡ b → AllOf (λ x. (p x ≡ true) × P x) (filter p xs) → AllOf (λ x. (p x ≡ true) × P x) (if b then x ∷ filter p xs else filter p xs)
    go true is rest = ((is, all.0), rest)
    go false is rest = rest

pub open_from-all : (P : Numbered → Type 0) (n : ℕ) (slots : Directory) → ((i : ℕ) (body : List ℕ) → get_or slots i None ≡ Some body → P (n + i, slot_of body)) → AllOf P (open_from n slots)
open_from-all P n [] each = tt
open_from-all P n (None ∷ slots) each =
    open_from-all P (n + 1) slots (λ i body is. let e : n + suc i ≡ n + 1 + i = omega arith in subst (λ (m : ℕ). P (m, slot_of body)) e (each (suc i) body is))
open_from-all P n (Some body ∷ slots) each = (
  let e : n + zero ≡ n = omega arith in subst (λ (m : ℕ). P (m, slot_of body)) e (each zero body refl),
  open_from-all P (n + 1) slots (λ i other is. let e : n + suc i ≡ n + 1 + i = omega arith in subst (λ (m : ℕ). P (m, slot_of other)) e (each (suc i) other is)),
)

placed-all : (P : Slot → Type 0) (s : Slot) (slots : List Slot) → P s → AllOf P slots → AllOf P (placed s slots)
placed-all P s [] here all = (here, tt)
placed-all P s (t ∷ slots) here all = go (nat_le t.last_lsn s.last_lsn) (placed-all P s slots here all.1)
  where
    go : (b : Bool) → AllOf P (placed s slots) → AllOf P (if b then s ∷ t ∷ slots else t ∷ placed s slots)
    go true rest = (here, all)
    go false rest = (all.0, rest)

pub newest_first-all : (P : Slot → Type 0) (es : List Numbered) → AllOf (λ e. P e.1) es → AllOf P (newest_first es)
newest_first-all P [] all = tt
newest_first-all P (e ∷ es) all = placed-all P e.1 (newest_first es) all.0 (newest_first-all P es all.1)

pub same_index : (n m : ℕ) → (n == m) ≡ true → n ≡ m
same_index n m is = grind (arith, nat_tests)

-- a component of an index is an open slot of that index
pub components-all : (P : Slot → Type 0) (index : ℕ) (slots : Directory) → ((n : ℕ) (body : List ℕ) → get_or slots n None ≡ Some body → P (slot_of body))
    → AllOf (λ s. (s.index ≡ index) × P s) (components index slots)
components-all P index slots each =
    let opened : AllOf (λ (e : Numbered). P e.1) (open_slots slots) = open_from-all (λ e. P e.1) 0 slots (λ i body is. each i body is) in
    let live : AllOf (λ (e : Numbered). P e.1) (live_slots (open_slots slots)) =
    AllOf-weaker (λ e. (is_live (open_slots slots) e ≡ true) × P e.1) (λ e. P e.1) (live_slots (open_slots slots)) (λ e is. is.1)
    (AllOf-filter (λ e. P e.1) (is_live (open_slots slots)) (open_slots slots) opened) in
    newest_first-all (λ s. (s.index ≡ index) × P s) (filter (λ e. e.1.index == index) (live_slots (open_slots slots)))
    (AllOf-weaker (λ e. ((e.1.index == index) ≡ true) × P e.1) (λ e. (e.1.index ≡ index) × P e.1) (filter (λ e. e.1.index == index) (live_slots (open_slots slots)))
    (λ e is. (same_index e.1.index index is.0, is.1))
    (AllOf-filter (λ e. P e.1) (λ e. e.1.index == index) (live_slots (open_slots slots)) live))
