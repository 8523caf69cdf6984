-- The components of an index once one more of its slots is live. No public contract needs these laws.
use Rattle.std.proofs.Common.{◌≡◌, ℕ, ◌<◌, ◌==◌, List, [], ◌∷◌, ◌++◌, All, Bool, true, false, if◌then◌else◌, nat_le, refl, sym, ◌∙◌, ap, subst, arith}
use Rattle.std.proofs.lemmas.Bool.Decides.{nat_tests}
use Rattle.std.proofs.lemmas.List.Elements.{filter-append, All-head, All-tail}
use Rattle.std.specs.List.{filter}
use Rattle.comp_dir.specs.Directory.{Directory, Numbered, open_slots}
use Rattle.comp_dir.specs.Adding.{MayBeAdded, HasOneMore}
use Rattle.comp_dir.specs.Choosing.{is_live, live_slots}
use Rattle.comp_dir.specs.State.{with_slot}
use Rattle.comp_dir.specs.Laws.Adding.{live-with_slot}
use Rattle.comp_dir.specs.declared.places.TheConstants.{PRIMARY}
use Rattle.comp_dir.specs.declared.slots.Slot.{Slot}
use Rattle.component_image.specs.Components.{placed, newest_first, components}
use Rattle.component_image.specs.Laws.Components.{AllOf, AllOf-weaker, AllOf-filter, same_index, newest_first-all}

-- a slot that ends behind all others is the newest, wherever it stands
placed-newest : (new : Slot) (slots : List Slot) → AllOf (λ s. s.last_lsn < new.last_lsn) slots → placed new slots ≡ new ∷ slots
placed-newest new [] all = refl
placed-newest new (s ∷ slots) all =
    let test : nat_le s.last_lsn new.last_lsn ≡ true = grind (arith, nat_tests, all.0) in
    ap (λ (b : Bool). if b then new ∷ s ∷ slots else s ∷ placed new slots) test

placed-behind : (s new : Slot) (slots : List Slot) → s.last_lsn < new.last_lsn → placed s (new ∷ slots) ≡ new ∷ placed s slots
placed-behind s new slots before =
    let test : nat_le new.last_lsn s.last_lsn ≡ false = grind (arith, nat_tests) in
    ap (λ (b : Bool). if b then s ∷ new ∷ slots else new ∷ placed s slots) test

newest_first-added : (n : ℕ) (new : Slot) (xs ys : List Numbered) → AllOf (λ e. e.1.last_lsn < new.last_lsn) xs → AllOf (λ e. e.1.last_lsn < new.last_lsn) ys
    → newest_first (xs ++ (n, new) ∷ ys) ≡ new ∷ newest_first (xs ++ ys)
newest_first-added n new [] ys all_xs all_ys = placed-newest new (newest_first ys) (newest_first-all (λ s. s.last_lsn < new.last_lsn) ys all_ys)
newest_first-added n new (x ∷ xs) ys all_xs all_ys =
    ap (placed x.1) (newest_first-added n new xs ys all_xs.1 all_ys) ∙ placed-behind x.1 new (newest_first (xs ++ ys)) all_xs.0

-- the index has the new one before all others
pub components-added : (index n : ℕ) (new : Slot) (old now : Directory) (before behind : List Numbered) → new.index ≡ index
    → live_slots (open_slots old) ≡ before ++ behind → live_slots (open_slots now) ≡ before ++ (n, new) ∷ behind
    → AllOf (λ e. e.1.last_lsn < new.last_lsn) (filter (λ e. e.1.index == index) before) → AllOf (λ e. e.1.last_lsn < new.last_lsn) (filter (λ e. e.1.index == index) behind)
    → components index now ≡ new ∷ components index old
components-added index n new old now before behind is old_is now_is all_before all_behind =
    let of_index : Numbered → Bool = λ e. e.1.index == index in
    let test : (new.index == index) ≡ true = grind (arith, nat_tests) in
    let here : filter of_index ((n, new) ∷ behind) ≡ (n, new) ∷ filter of_index behind =
    ap (λ (b : Bool). if b then (n, new) ∷ filter of_index behind else filter of_index behind) test in
    ap (λ (es : List Numbered). newest_first (filter of_index es)) now_is
    ∙ ap newest_first (filter-append of_index before ((n, new) ∷ behind) ∙ ap (λ (es : List Numbered). filter of_index before ++ es) here)
    ∙ newest_first-added n new (filter of_index before) (filter of_index behind) all_before all_behind
    ∙ ap (λ (es : List Numbered). new ∷ newest_first es) (sym (filter-append of_index before behind))
    ∙ ap (λ (es : List Numbered). new ∷ newest_first (filter of_index es)) (sym old_is)

AllOf-of : {X : Type 0} (P : X → Type 0) (xs : List X) → All P xs → AllOf P xs
AllOf-of P [] all = tt
AllOf-of P (x ∷ xs) all = (All-head P x xs all, AllOf-of P xs (All-tail P x xs all))

AllOf-front : {X : Type 0} (P : X → Type 0) (xs ys : List X) → AllOf P (xs ++ ys) → AllOf P xs
AllOf-front P [] ys all = tt
AllOf-front P (x ∷ xs) ys all = (all.0, AllOf-front P xs ys all.1)

AllOf-back : {X : Type 0} (P : X → Type 0) (xs ys : List X) → AllOf P (xs ++ ys) → AllOf P ys
AllOf-back P [] ys all = all
AllOf-back P (x ∷ xs) ys all = AllOf-back P xs ys all.1

-- it ends before the new one of its index begins
abbrev IsOlder : Slot → Numbered → Type 0
IsOlder new e = e.1.index ≡ new.index → e.1.last_lsn < new.first_lsn

-- a slot of the primary that may be added to a directory is the newest of its components
pub added-newest : (pages n : ℕ) (new : Slot) (slots : Directory) → MayBeAdded pages 0 n new slots → new.index ≡ PRIMARY → components PRIMARY (with_slot n new slots) ≡ new ∷ components PRIMARY slots
added-newest pages n new slots may is =
    components-added PRIMARY n new slots (with_slot n new slots) more.before more.after is more.was more.is
    (older more.before (AllOf-front (IsOlder new) more.before more.after live)) (older more.after (AllOf-back (IsOlder new) more.before more.after live))
  where
    more : HasOneMore (n, new) (live_slots (open_slots slots)) (live_slots (open_slots (with_slot n new slots)))
    more = live-with_slot pages 0 n new slots may

    live : AllOf (IsOlder new) (more.before ++ more.after)
    live = subst (AllOf (IsOlder new)) more.was
        (AllOf-weaker (λ e. (is_live (open_slots slots) e ≡ true) × IsOlder new e) (IsOlder new) (live_slots (open_slots slots)) (λ e both. both.1)
        (AllOf-filter (IsOlder new) (is_live (open_slots slots)) (open_slots slots) (AllOf-of (IsOlder new) (open_slots slots) may.addable.newer)))

    older : (es : List Numbered) → AllOf (IsOlder new) es → AllOf (λ e. e.1.last_lsn < new.last_lsn) (filter (λ e. e.1.index == PRIMARY) es)
    older es all =
        AllOf-weaker (λ e. ((e.1.index == PRIMARY) ≡ true) × IsOlder new e) (λ e. e.1.last_lsn < new.last_lsn) (filter (λ e. e.1.index == PRIMARY) es)
        (λ e both. let before : e.1.last_lsn < new.first_lsn = both.1 (same_index e.1.index PRIMARY both.0 ∙ sym is) in omega (arith, before, may.sound.interval.ordered))
        (AllOf-filter (IsOlder new) (λ e. e.1.index == PRIMARY) es all)
