-- What is read of slots from bytes that agree in part, and from each image of a story in which all that is looked at is on the
-- disk. No public contract needs these laws.
use Rattle.std.proofs.Common.{◌≡◌, ◌≢◌, ◌⊎◌, inl, inr, ⊎_elim, ℕ, zero, suc, ◌+◌, ◌<◌, ◌≤◌, List, ◌∷◌, length, set, get_or, refl, sym, ◌∙◌, ap, subst, arith, Option, Some, None}
use Rattle.std.proofs.lemmas.Bool.{cases_eq}
use Rattle.std.proofs.lemmas.Bool.Decides.{nat_tests}
use Rattle.dev_model.specs.Story.{Bytes, Story, bytes_of, IsImageNow}
use Rattle.dev_model.specs.Laws.Ranges.{part-same}
use Rattle.comp_dir.specs.Places.{slot_start}
use Rattle.comp_dir.specs.Directory.{slot_body, slot_at, slots_from, directory_of, IsLookedInSlot, IsLooked}
use Rattle.comp_dir.specs.Resting.{IsAtRest}

pub slot_at-open : (n : ℕ) (a : Bytes) → a (slot_start n) ≡ 165 → slot_at n a ≡ Some (slot_body n a)
slot_at-open n a is = grind (arith, nat_tests)

pub slot_at-shut : (n : ℕ) (a : Bytes) → a (slot_start n) ≢ 165 → slot_at n a ≡ None
slot_at-shut n a shut = grind (arith, nat_tests)

pub slot_body-same : (n : ℕ) (a b : Bytes) → ((i : ℕ) → slot_start n < i → i < slot_start n + 64 → b i ≡ a i) → slot_body n b ≡ slot_body n a
unfolding slot_body
slot_body-same n a b same = part-same (slot_start n + 1) 63 b a (λ i low high. same i (omega arith) (omega arith))

-- agreement at all that is looked at
pub slot_at-same : (n : ℕ) (a b : Bytes) → ((i : ℕ) → IsLookedInSlot n a i → b i ≡ a i) → slot_at n b ≡ slot_at n a
slot_at-same n a b same = elim (cases_eq (a (slot_start n)) 165) [
  | inl is ↦
      let gate : b (slot_start n) ≡ a (slot_start n) = same (slot_start n) (inl refl) in
      let body : slot_body n b ≡ slot_body n a = slot_body-same n a b (λ i low high. same i (inr (is, omega arith, high))) in
      slot_at-open n b (gate ∙ is) ∙ ap Some body ∙ sym (slot_at-open n a is)
  | inr shut ↦ slot_at-shut n b (λ is. shut (sym (same (slot_start n) (inl refl)) ∙ is)) ∙ sym (slot_at-shut n a shut)
]

-- where all that is looked at agrees, no more is looked at
pub looked-back : (n : ℕ) (a b : Bytes) → ((i : ℕ) → IsLookedInSlot n a i → b i ≡ a i) → (i : ℕ) → IsLookedInSlot n b i → IsLookedInSlot n a i
looked-back n a b same i (inl here) = inl here
looked-back n a b same i (inr in_it) = inr (sym (same (slot_start n) (inl refl)) ∙ in_it.0, in_it.1, in_it.2)

-- lists of slots
pub slots_from-same : (count n : ℕ) (a b : Bytes) → ((m : ℕ) → n ≤ m → m < n + count → slot_at m b ≡ slot_at m a) → slots_from count n b ≡ slots_from count n a
unfolding slots_from
slots_from-same zero n a b same = refl
slots_from-same (suc count) n a b same =
    λ j. same n (omega arith) (omega arith) j ∷ slots_from-same count (n + 1) a b (λ m low high. same m (omega arith) (omega arith)) j

pub slots_from-set : (count n k : ℕ) (a b : Bytes) (new : Option (List ℕ)) → k < count → slot_at (n + k) b ≡ new
    → ((m : ℕ) → n ≤ m → m < n + count → m ≢ n + k → slot_at m b ≡ slot_at m a) → slots_from count n b ≡ set (slots_from count n a) k new
unfolding slots_from
slots_from-set zero n k a b new lt there same = absurd (omega arith)
slots_from-set (suc count) n zero a b new lt there same =
    let here : n + zero ≡ n = omega arith in
    let rest : slots_from count (n + 1) b ≡ slots_from count (n + 1) a = slots_from-same count (n + 1) a b (λ m low high. same m (omega arith) (omega arith) (omega arith)) in
    λ j. (ap (λ (m : ℕ). slot_at m b) (sym here) ∙ there) j ∷ rest j
slots_from-set (suc count) n (suc k) a b new lt there same =
    let here : n + 1 + k ≡ n + suc k = omega arith in
    let rest : slots_from count (n + 1) b ≡ set (slots_from count (n + 1) a) k new =
    slots_from-set count (n + 1) k a b new (omega arith) (ap (λ (m : ℕ). slot_at m b) here ∙ there) (λ m low high unlike. same m (omega arith) (omega arith) (λ is. unlike (is ∙ sym here))) in
    λ j. same n (omega arith) (omega arith) (omega arith) j ∷ rest j

pub length-slots_from : (count n : ℕ) (a : Bytes) → length (slots_from count n a) ≡ count
unfolding slots_from
length-slots_from zero n a = refl
length-slots_from (suc count) n a = ap suc (length-slots_from count (n + 1) a)

pub get_or-slots_from : (count n k : ℕ) (a : Bytes) → k < count → get_or (slots_from count n a) k None ≡ slot_at (n + k) a
unfolding slots_from
get_or-slots_from zero n k a lt = absurd (omega arith)
get_or-slots_from (suc count) n zero a lt = let here : n ≡ n + zero = omega arith in ap (λ (m : ℕ). slot_at m a) here
get_or-slots_from (suc count) n (suc k) a lt = let here : n + 1 + k ≡ n + suc k = omega arith in get_or-slots_from count (n + 1) k a (omega arith) ∙ ap (λ (m : ℕ). slot_at m a) here

pub get_or-slots_behind : (count n k : ℕ) (a : Bytes) → count ≤ k → get_or (slots_from count n a) k None ≡ None
unfolding slots_from
get_or-slots_behind zero n k a le = refl
get_or-slots_behind (suc count) n zero a le = absurd (omega arith)
get_or-slots_behind (suc count) n (suc k) a le = get_or-slots_behind count (n + 1) k a (omega arith)

-- the whole directory
pub directory-same : (a b : Bytes) → ((i : ℕ) → IsLooked a i → b i ≡ a i) → directory_of b ≡ directory_of a
unfolding directory_of
directory-same a b same = slots_from-same 512 0 a b (λ m low high. slot_at-same m a b (λ i looked. same i (m, high, looked)))

pub directory-at : (n : ℕ) (a : Bytes) → n < 512 → get_or (directory_of a) n None ≡ slot_at n a
unfolding directory_of
directory-at n a lt = get_or-slots_from 512 0 n a lt ∙ (let e : 0 + n ≡ n = omega arith in ap (λ (m : ℕ). slot_at m a) e)

-- what is looked at in another slot stands before or behind this one
pub looked-elsewhere : (m n i : ℕ) (a : Bytes) → m ≢ n → IsLookedInSlot m a i → (i < slot_start n) ⊎ (slot_start n + 64 ≤ i)
looked-elsewhere m n i a unlike looked =
    let low : slot_start m ≤ i = ⊎_elim (λ here. omega (arith, here)) (λ in_it. in_it.1) looked in
    let high : i < slot_start m + 64 = ⊎_elim (λ here. omega (arith, here)) (λ in_it. in_it.2) looked in
    ⊎_elim (λ before. inl (omega arith)) (λ behind. inr (omega arith)) (sides m n unlike)
  where
    sides : (m n : ℕ) → m ≢ n → (m < n) ⊎ (n < m)
    sides m n unlike = grind arith

-- Bytes that agree at what is looked at outside of one slot have the same directory but for that slot.
pub directory-set : (n : ℕ) (a b : Bytes) (new : Option (List ℕ)) → n < 512 → slot_at n b ≡ new
    → ((i : ℕ) → (i < slot_start n) ⊎ (slot_start n + 64 ≤ i) → IsLooked a i → b i ≡ a i) → directory_of b ≡ set (directory_of a) n new
unfolding directory_of
directory-set n a b new lt there same =
    let here : 0 + n ≡ n = omega arith in
    slots_from-set 512 0 n a b new lt (ap (λ (m : ℕ). slot_at m b) here ∙ there)
    (λ m low high unlike. slot_at-same m a b (λ i looked. same i (looked-elsewhere m n i a (λ is. unlike (is ∙ sym here)) looked) (m, high, looked)))

-- with the same slot there, the same directory
pub directory-kept : (n : ℕ) (a b : Bytes) → n < 512 → slot_at n b ≡ slot_at n a
    → ((i : ℕ) → (i < slot_start n) ⊎ (slot_start n + 64 ≤ i) → IsLooked a i → b i ≡ a i) → directory_of b ≡ directory_of a
unfolding directory_of
directory-kept n a b lt there same =
    slots_from-same 512 0 a b (λ m low high. elim (cases_eq m n) [
      | inl is ↦ subst (λ (k : ℕ). slot_at k b ≡ slot_at k a) (sym is) there
      | inr unlike ↦ slot_at-same m a b (λ i looked. same i (looked-elsewhere m n i a unlike looked) (m, high, looked))
    ])

-- all that is looked at is on the disk: each image of the present moment has the same directory
pub directory-on_disk : (s : Story) (image : Bytes) → IsAtRest s → IsImageNow s image → directory_of image ≡ directory_of (bytes_of s)
directory-on_disk s image rest is = directory-same (bytes_of s) image (λ i looked. is i (rest i looked))
