-- A directory without one of its ignored slots. No public contract needs these laws.
use Rattle.std.proofs.Common.{◌≡◌, inl, inr, ℕ, zero, suc, ◌+◌, ◌<◌, List, [], ◌∷◌, length, get_or, All, Bool, true, false, not, ◌&&◌, refl, sym, ◌∙◌, ap, subst, arith, Option, Some, None, ◌==◌, set}
use Rattle.std.specs.List.{filter, list_any}
use Rattle.std.proofs.lemmas.Bool.{cases_lt, cases_Bool, cond-true, cond-false}
use Rattle.std.proofs.lemmas.Bool.Decides.{nat_tests}
use Rattle.std.proofs.lemmas.Option.{none-some}
use Rattle.std.proofs.lemmas.List.Elements.{filter_agree, filter_passes, All-nil, All-cons, All-weaker, All-filter, All-map, All-contains}
use Rattle.std.proofs.lemmas.List.{get_or_past}
use Rattle.comp_dir.specs.Slots.{slot_of}
use Rattle.comp_dir.specs.Directory.{Directory, Numbered, open_from, open_slots}
use Rattle.comp_dir.specs.Choosing.{shares_page, is_hidden_by, is_ignored, is_live, live_slots, clashes, is_lower, overlaps_lower, clashes_with_lower, fits_live, is_bad, bad_slot, Opens}
use Rattle.comp_dir.specs.Ignored.{ignored_slots, numbers}
use Rattle.comp_dir.specs.State.{without_slot}
use Rattle.comp_dir.specs.Adding.{MayBeClosed, HasOneMore}
use Rattle.comp_dir.specs.Laws.OneMore.{any-same, any-kept, any-none, any-weaker, filter-same, filter-all, filter-swap, All-fewer}
use Rattle.comp_dir.specs.Laws.Adding.{hidden-itself, none-bad, bad-none, good-parts, good-from, one_open, set-there, obey-shut}
use Rattle.comp_dir.specs.declared.slots.Slot.{Slot}

hidden-further : (s t u : Slot) → is_hidden_by s t ≡ true → is_hidden_by t u ≡ true → is_hidden_by s u ≡ true
hidden-further s t u one two = grind (arith, nat_tests)

-- a slot that another one hides is left out
module _ (x : Numbered) (old new : List Numbered) (more : HasOneMore x old new) (hidden : is_ignored new x ≡ true) where
  hidden-old : is_ignored old x ≡ true
  hidden-old = sym (any-same (λ f. is_hidden_by x.1 f.1) x old new more (hidden-itself x.1)) ∙ hidden

  -- what it hides is hidden by what hides it
  ignored-left : (e : Numbered) → is_ignored new e ≡ is_ignored old e
  ignored-left e = elim (cases_Bool (is_hidden_by e.1 x.1)) [
    | inl inside ↦
        let there : is_ignored old e ≡ true = any-weaker (λ f. is_hidden_by x.1 f.1) (λ f. is_hidden_by e.1 f.1) (λ f outer. hidden-further e.1 x.1 f.1 inside outer) old hidden-old in
        any-kept (λ f. is_hidden_by e.1 f.1) x old new more there ∙ sym there
    | inr apart ↦ any-same (λ f. is_hidden_by e.1 f.1) x old new more apart
  ]

  pub live-closed : live_slots old ≡ live_slots new
  live-closed = sym (filter-same (is_live new) x old new more (ap not hidden) ∙ filter_agree (is_live new) (is_live old) (λ e. ap not (ignored-left e)) old)

  pub ignored-closed : (p : Numbered → Bool) → old ≡ filter p new → ignored_slots old ≡ filter p (ignored_slots new)
  ignored-closed p is =
      sym (filter_agree (is_ignored new) (is_ignored old) ignored-left old)
      ∙ ap (filter (is_ignored new)) is
      ∙ filter-swap (is_ignored new) p new

  good-left : (e : Numbered) → is_bad new e ≡ false → is_bad old e ≡ false
  good-left e good =
      let parts : (overlaps_lower new e ≡ false) × (clashes_with_lower new e ≡ false) × ((is_live new e && not (fits_live (live_slots new) e)) ≡ false) =
      good-parts (overlaps_lower new e) (clashes_with_lower new e) (is_live new e && not (fits_live (live_slots new) e)) good in
      good-from (overlaps_lower old e) (clashes_with_lower old e) (is_live old e && not (fits_live (live_slots old) e))
      (any-none (λ f. is_lower f e && shares_page f.1 e.1) x old new more parts.0)
      (any-none (λ f. is_lower f e && clashes f.1 e.1) x old new more parts.1)
      (ap (λ (t : Bool). not t && not (fits_live (live_slots old) e)) (sym (ignored-left e))
      ∙ ap (λ (live : List Numbered). is_live new e && not (fits_live live e)) live-closed
      ∙ parts.2)

  pub opens-closed : bad_slot new ≡ None → bad_slot old ≡ None
  opens-closed sound =
      bad-none old old (All-weaker (λ e. is_bad new e ≡ false) (λ e. is_bad old e ≡ false) good-left old (All-fewer (λ e. is_bad new e ≡ false) x old new more (none-bad new new sound)))

-- an open slot stands in the directory, whose first number is given
record StandsIn (first : ℕ) (slots : Directory) (e : Numbered) : Type 0 where
  place : ℕ
  body : List ℕ
  number : e.0 ≡ first + place
  there : get_or slots place None ≡ Some body
  slot : e.1 ≡ slot_of body

stands-behind : (first : ℕ) (slot : Option (List ℕ)) (slots : Directory) (e : Numbered) → StandsIn (first + 1) slots e → StandsIn first (slot ∷ slots) e
stands-behind first slot slots e stands = record { place = suc stands.place; body = stands.body; number = omega (arith, stands.number); there = stands.there; slot = stands.slot }

in-directory : (first : ℕ) (slots : Directory) → All (StandsIn first slots) (open_from first slots)
in-directory first [] = All-nil (StandsIn first [])
in-directory first (None ∷ slots) =
    All-weaker (StandsIn (first + 1) slots) (StandsIn first (None ∷ slots)) (stands-behind first None slots) (open_from (first + 1) slots) (in-directory (first + 1) slots)
in-directory first (Some other ∷ slots) =
    All-cons (StandsIn first (Some other ∷ slots)) (first, slot_of other) (open_from (first + 1) slots)
    (record { place = 0; body = other; number = omega arith; there = refl; slot = refl })
    (All-weaker (StandsIn (first + 1) slots) (StandsIn first (Some other ∷ slots)) (stands-behind first (Some other) slots) (open_from (first + 1) slots) (in-directory (first + 1) slots))

-- the slots but for the one at this number
abbrev is_other : ℕ → Numbered → Bool
is_other n e = not (e.0 == n)

open-others : (first n : ℕ) (slots : Directory) → open_from first (set slots n None) ≡ filter (is_other (first + n)) (open_from first slots)
open-others first n [] = refl
open-others first zero (slot ∷ slots) = sym (first-left slot)
  where
    behind : filter (is_other (first + zero)) (open_from (first + 1) slots) ≡ open_from (first + 1) slots
    behind =
        filter-all (is_other (first + zero)) (open_from (first + 1) slots)
        (All-weaker (StandsIn (first + 1) slots) (λ e. is_other (first + zero) e ≡ true) (λ e stands. other e.0 stands.place stands.number) (open_from (first + 1) slots) (in-directory (first + 1) slots))
      where
        other : (m k : ℕ) → m ≡ first + 1 + k → not (m == first + zero) ≡ true
        other m k is = grind (arith, nat_tests, is)

    itself : not (first == first + zero) ≡ false
    itself = grind (arith, nat_tests)

    first-left : (slot : Option (List ℕ)) → filter (is_other (first + zero)) (open_from first (slot ∷ slots)) ≡ open_from (first + 1) slots
    first-left None = behind
    first-left (Some body) = cond-false (not (first == first + zero)) ((first, slot_of body) ∷ filter (is_other (first + zero)) (open_from (first + 1) slots)) (filter (is_other (first + zero)) (open_from (first + 1) slots)) itself ∙ behind
open-others first (suc n) (None ∷ slots) =
    open-others (first + 1) n slots ∙ (let same : first + 1 + n ≡ first + suc n = omega arith in ap (λ (m : ℕ). filter (is_other m) (open_from (first + 1) slots)) same)
open-others first (suc n) (Some body ∷ slots) =
    ap (λ (l : List Numbered). (first, slot_of body) ∷ l) (open-others (first + 1) n slots ∙ (let same : first + 1 + n ≡ first + suc n = omega arith in ap (λ (m : ℕ). filter (is_other m) (open_from (first + 1) slots)) same))
    ∙ sym (cond-true (is_other (first + suc n) (first, slot_of body)) ((first, slot_of body) ∷ filter (is_other (first + suc n)) (open_from (first + 1) slots)) (filter (is_other (first + suc n)) (open_from (first + 1) slots)) another)
  where
    another : not (first == first + suc n) ≡ true
    another = grind (arith, nat_tests)

-- an ignored slot by its number
record IsIgnoredAt (slots : Directory) (n : ℕ) : Type 0 where
  body : List ℕ
  there : get_or slots n None ≡ Some body
  hidden : is_ignored (open_slots slots) (n, slot_of body) ≡ true

ignored-at : (slots : Directory) → All (λ e. IsIgnoredAt slots e.0) (ignored_slots (open_slots slots))
ignored-at slots k d lt =
    let all : List Numbered = open_slots slots in
    let e : Numbered = get_or (ignored_slots all) k d in
    let stands : StandsIn 0 slots e = All-filter (is_ignored all) (StandsIn 0 slots) all (in-directory 0 slots) k d lt in
    let hidden : is_ignored all e ≡ true = filter_passes (is_ignored all) all k d lt in
    let same : stands.place ≡ e.0 = omega (arith, stands.number) in
    record {
      body = stands.body;
      there = subst (λ (j : ℕ). get_or slots j None ≡ Some stands.body) same stands.there;
      hidden = subst (λ (s : Slot). list_any (λ f. is_hidden_by s f.1) all ≡ true) stands.slot hidden;
    }

-- an ignored slot is closed
module _ (pages declared n : ℕ) (slots : Directory) (may : MayBeClosed pages declared n slots) where
  ignored-here : IsIgnoredAt slots n
  ignored-here =
      All-contains (IsIgnoredAt slots) (numbers (ignored_slots (open_slots slots))) n
      (All-map (IsIgnoredAt slots) (λ e. e.0) (ignored_slots (open_slots slots)) (ignored-at slots)) may.ignored

  inside : n < length slots
  inside = elim (cases_lt n (length slots)) [
    | inl lt ↦ lt
    | inr past ↦ absurd (none-some ignored-here.body (sym (get_or_past slots n None past) ∙ ignored-here.there))
  ]

  abbrev closed : Numbered
  closed = (n, slot_of ignored-here.body)

  one_closed : HasOneMore closed (open_slots (without_slot n slots)) (open_slots slots)
  one_closed =
      subst (λ (all : Directory). HasOneMore closed (open_slots (without_slot n slots)) (open_slots all)) (set-there n slots (Some ignored-here.body) ignored-here.there)
      (one_open n ignored-here.body slots inside)

  pub live-without_slot : live_slots (open_slots (without_slot n slots)) ≡ live_slots (open_slots slots)
  live-without_slot = live-closed closed (open_slots (without_slot n slots)) (open_slots slots) one_closed ignored-here.hidden

  pub open-without_slot : open_slots (without_slot n slots) ≡ filter (λ e. not (e.0 == n)) (open_slots slots)
  open-without_slot = let same : 0 + n ≡ n = omega arith in open-others 0 n slots ∙ ap (λ (m : ℕ). filter (is_other m) (open_slots slots)) same

  pub ignored-without_slot : ignored_slots (open_slots (without_slot n slots)) ≡ filter (λ e. not (e.0 == n)) (ignored_slots (open_slots slots))
  ignored-without_slot = ignored-closed closed (open_slots (without_slot n slots)) (open_slots slots) one_closed ignored-here.hidden (is_other n) open-without_slot

  pub opens-without_slot : Opens pages declared (without_slot n slots)
  opens-without_slot = record {
    sound = obey-shut pages declared n slots inside may.opens.sound;
    together = opens-closed closed (open_slots (without_slot n slots)) (open_slots slots) one_closed ignored-here.hidden may.opens.together;
  }
