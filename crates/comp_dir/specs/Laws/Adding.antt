-- A directory with one slot more. No public contract needs these laws.
use Rattle.std.proofs.Common.{◌≡◌, inl, inr, ⊎_elim, ℕ, zero, suc, ◌+◌, ◌<◌, List, [], ◌∷◌, length, set, get_or, All, Bool, true, false, not, ◌&&◌, ◌||◌, refl, sym, ◌∙◌, ap, subst, arith, Option, Some, None, ◌==◌, nat_lt}
use Rattle.std.specs.List.{filter, list_any}
use Rattle.std.proofs.lemmas.Bool.{cases_eq, cases_Bool, or_left, or_right, and_parts, and_from, and_left, and_right, not_from_true, lt-ltb, eq-eqb}
use Rattle.std.proofs.lemmas.Bool.Decides.{nat_tests}
use Rattle.std.proofs.lemmas.Option.{none-some, same_Some}
use Rattle.std.proofs.lemmas.List.Folds.{list_any_none, list_any-from_Any}
use Rattle.std.proofs.lemmas.List.Elements.{All-nil, All-head, All-tail, All-cons, All-weaker}
use Rattle.std.proofs.lemmas.List.{get_or_default, set-get_or, get_or-set_same, get_or-set_other}
use Rattle.comp_dir.specs.Slots.{slot_bytes, slot_of}
use Rattle.comp_dir.specs.Directory.{Directory, Numbered, open_from, open_slots}
use Rattle.comp_dir.specs.Rules.{HasInterval, IsSound, IsSlot, AllObey}
use Rattle.comp_dir.specs.Choosing.{shares_page, same_index, is_hidden_by, is_ignored, is_live, live_slots, clashes, is_lower, overlaps_lower, clashes_with_lower, is_followed_by, continues, lower_of_index, fits_live, is_bad, first_bad, bad_slot, Opens}
use Rattle.comp_dir.specs.Ignored.{ignored_slots}
use Rattle.comp_dir.specs.State.{with_slot}
use Rattle.comp_dir.specs.Adding.{IsAddable, MayBeAdded, HasOneMore}
use Rattle.comp_dir.specs.Laws.OneMore.{one_more-cons, any-same, any-kept, filter-more, filter-same, length-more, All-more, filter-agree, in-filter, filter-narrower, filter-fewer}
use Rattle.comp_dir.specs.declared.places.TheConstants.{MOST_LIVE}
use Rattle.comp_dir.specs.declared.slots.Slot.{Slot}

-- two slots of which the one ends before the other begins, where they are of one index
clashes-apart : (s t : Slot) → HasInterval s → HasInterval t → (s.index ≡ t.index → s.last_lsn < t.first_lsn) → clashes s t ≡ false
clashes-apart s t old new newer = grind (arith, nat_tests, old.ordered, new.ordered)

clashes-apart_back : (s t : Slot) → HasInterval s → HasInterval t → (s.index ≡ t.index → s.last_lsn < t.first_lsn) → clashes t s ≡ false
clashes-apart_back s t old new newer = grind (arith, nat_tests, old.ordered, new.ordered)

hidden-apart : (s t : Slot) → HasInterval s → HasInterval t → (s.index ≡ t.index → s.last_lsn < t.first_lsn) → is_hidden_by s t ≡ false
hidden-apart s t old new newer = grind (arith, nat_tests, old.ordered, new.ordered)

hidden-apart_back : (s t : Slot) → HasInterval s → HasInterval t → (s.index ≡ t.index → s.last_lsn < t.first_lsn) → is_hidden_by t s ≡ false
hidden-apart_back s t old new newer = grind (arith, nat_tests, old.ordered, new.ordered)

pages-apart_back : (s t : Slot) → shares_page s t ≡ false → shares_page t s ≡ false
pages-apart_back s t apart = grind (arith, nat_tests)

pub hidden-itself : (s : Slot) → is_hidden_by s s ≡ false
hidden-itself s = grind (arith, nat_tests)

lower-itself : (x : Numbered) → is_lower x x ≡ false
lower-itself x = grind (arith, nat_tests)

-- no slot of a list is bad
pub none-bad : (all from : List Numbered) → first_bad all from ≡ None → All (λ e. is_bad all e ≡ false) from
none-bad all [] none = All-nil (λ e. is_bad all e ≡ false)
none-bad all (e ∷ from) none = grind (arith, none-bad all from, All-cons (λ f. is_bad all f ≡ false) e from, none)

pub bad-none : (all from : List Numbered) → All (λ e. is_bad all e ≡ false) from → first_bad all from ≡ None
bad-none all [] good = refl
bad-none all (e ∷ from) good =
    grind (arith, All-head (λ f. is_bad all f ≡ false) e from good, bad-none all from (All-tail (λ f. is_bad all f ≡ false) e from good))

-- the three rules of a slot
pub good-parts : (a b c : Bool) → (a || b || c) ≡ false → (a ≡ false) × (b ≡ false) × (c ≡ false)
good-parts a b c good = grind (arith, good)

pub good-from : (a b c : Bool) → a ≡ false → b ≡ false → c ≡ false → (a || b || c) ≡ false
good-from a b c one two three = grind (arith, one, two, three)

fits-parts : (a b : Bool) → (a && not b) ≡ false → a ≡ true → b ≡ true
fits-parts a b is here = grind (arith, is, here)

-- The slot x is put into a list of slots that are all right, and goes well with each of them.
pub record IsBeside (x e : Numbered) : Type 0 where
  pub pages : shares_page e.1 x.1 ≡ false
  pub interval : HasInterval e.1
  pub newer : e.1.index ≡ x.1.index → e.1.last_lsn < x.1.first_lsn

module _ (x : Numbered) (old new : List Numbered) (more : HasOneMore x old new) (own : HasInterval x.1) (beside : All (IsBeside x) old) where
  ignored-old : (e : Numbered) → IsBeside x e → is_ignored new e ≡ is_ignored old e
  ignored-old e b = any-same (λ f. is_hidden_by e.1 f.1) x old new more (hidden-apart e.1 x.1 b.interval own b.newer)

  ignored-itself : is_ignored new x ≡ false
  ignored-itself =
      any-same (λ f. is_hidden_by x.1 f.1) x old new more (hidden-itself x.1)
      ∙ list_any_none (λ f. is_hidden_by x.1 f.1) old
      (All-weaker (IsBeside x) (λ f. is_hidden_by x.1 f.1 ≡ false) (λ e b. hidden-apart_back e.1 x.1 b.interval own b.newer) old beside)

  pub live-added : HasOneMore x (live_slots old) (live_slots new)
  live-added =
      subst (λ (l : List Numbered). HasOneMore x l (live_slots new))
      (filter-agree (is_live new) (is_live old) old (All-weaker (IsBeside x) (λ e. is_live new e ≡ is_live old e) (λ e b. ap not (ignored-old e b)) old beside))
      (filter-more (is_live new) x old new more (ap not ignored-itself))

  pub ignored-added : ignored_slots new ≡ ignored_slots old
  ignored-added =
      filter-same (is_ignored new) x old new more ignored-itself
      ∙ filter-agree (is_ignored new) (is_ignored old) old (All-weaker (IsBeside x) (λ e. is_ignored new e ≡ is_ignored old e) ignored-old old beside)

  -- the rules on extents and intervals
  overlaps-old : (e : Numbered) → IsBeside x e → overlaps_lower new e ≡ overlaps_lower old e
  overlaps-old e b =
      any-same (λ f. is_lower f e && shares_page f.1 e.1) x old new more (and_right (is_lower x e) (shares_page x.1 e.1) (pages-apart_back e.1 x.1 b.pages))

  overlaps-itself : overlaps_lower new x ≡ false
  overlaps-itself =
      any-same (λ f. is_lower f x && shares_page f.1 x.1) x old new more (and_left (is_lower x x) (shares_page x.1 x.1) (lower-itself x))
      ∙ list_any_none (λ f. is_lower f x && shares_page f.1 x.1) old
      (All-weaker (IsBeside x) (λ f. (is_lower f x && shares_page f.1 x.1) ≡ false) (λ e b. and_right (is_lower e x) (shares_page e.1 x.1) b.pages) old beside)

  clashes-old : (e : Numbered) → IsBeside x e → clashes_with_lower new e ≡ clashes_with_lower old e
  clashes-old e b =
      any-same (λ f. is_lower f e && clashes f.1 e.1) x old new more (and_right (is_lower x e) (clashes x.1 e.1) (clashes-apart_back e.1 x.1 b.interval own b.newer))

  clashes-itself : clashes_with_lower new x ≡ false
  clashes-itself =
      any-same (λ f. is_lower f x && clashes f.1 x.1) x old new more (and_left (is_lower x x) (clashes x.1 x.1) (lower-itself x))
      ∙ list_any_none (λ f. is_lower f x && clashes f.1 x.1) old
      (All-weaker (IsBeside x) (λ f. (is_lower f x && clashes f.1 x.1) ≡ false) (λ e b. and_right (is_lower e x) (clashes e.1 x.1) (clashes-apart e.1 x.1 b.interval own b.newer)) old beside)

  -- the rules on live slots
  module _ (follows : continues (live_slots old) x ≡ true) (room : length (filter (λ e. same_index e.1 x.1) (live_slots old)) < MOST_LIVE) where
    continues-kept : (e : Numbered) → continues (live_slots old) e ≡ true → continues (live_slots new) e ≡ true
    continues-kept e there = grind (arith, any-kept (λ f. is_followed_by f.1 e.1) x (live_slots old) (live_slots new) live-added, there)

    -- a live slot isn't lower than itself, so fewer lower ones than all of the index
    lower-fewer : (e : Numbered) (j : ℕ) → j < length (live_slots old) → get_or (live_slots old) j e ≡ e → same_index x.1 e.1 ≡ true
        → length (lower_of_index (live_slots old) e) < length (filter (λ f. same_index f.1 x.1) (live_slots old))
    lower-fewer e j lt there like =
        filter-fewer (λ f. same_index f.1 x.1) (λ f. is_lower f e && same_index f.1 e.1) (λ f lower. same-further f (and_parts (is_lower f e) (same_index f.1 e.1) lower).1) (live_slots old) j e lt
        (subst (λ (f : Numbered). same_index f.1 x.1 ≡ true) (sym there) same-back)
        (subst (λ (f : Numbered). (is_lower f e && same_index f.1 e.1) ≡ false) (sym there) (and_left (is_lower e e) (same_index e.1 e.1) (lower-itself e)))
      where
        same-back : same_index e.1 x.1 ≡ true
        same-back = grind (arith, nat_tests, like)

        same-further : (f : Numbered) → same_index f.1 e.1 ≡ true → same_index f.1 x.1 ≡ true
        same-further f same = grind (arith, nat_tests, like, same)

    lower-room : (e : Numbered) (j : ℕ) → j < length (live_slots old) → get_or (live_slots old) j e ≡ e → nat_lt (length (lower_of_index (live_slots old) e)) MOST_LIVE ≡ true
        → nat_lt (length (lower_of_index (live_slots new) e)) MOST_LIVE ≡ true
    lower-room e j lt there fits = elim (cases_Bool (is_lower x e && same_index x.1 e.1)) [
      | inl lower ↦
          lt-ltb (length (lower_of_index (live_slots new) e)) MOST_LIVE
          (omega (
            arith,
            room,
            lower-fewer e j lt there (and_parts (is_lower x e) (same_index x.1 e.1) lower).1,
            length-more x (lower_of_index (live_slots old) e) (lower_of_index (live_slots new) e) (filter-more (λ f. is_lower f e && same_index f.1 e.1) x (live_slots old) (live_slots new) live-added lower),
          ))
      | inr other ↦ ap (λ (l : List Numbered). nat_lt (length l) MOST_LIVE) (filter-same (λ f. is_lower f e && same_index f.1 e.1) x (live_slots old) (live_slots new) live-added other) ∙ fits
    ]

    fits-old : (k : ℕ) (d : Numbered) → k < length old → is_live old (get_or old k d) ≡ true → fits_live (live_slots old) (get_or old k d) ≡ true → fits_live (live_slots new) (get_or old k d) ≡ true
    fits-old k d lt live fits =
        let e : Numbered = get_or old k d in
        let same : get_or old k e ≡ e = get_or_default old k e d lt in
        let place : (j : ℕ) × (j < length (live_slots old)) × (get_or (live_slots old) j e ≡ get_or old k e) =
        in-filter (is_live old) old k e lt (subst (λ (f : Numbered). is_live old f ≡ true) (sym same) live) in
        let both : (continues (live_slots old) e ≡ true) × (nat_lt (length (lower_of_index (live_slots old) e)) MOST_LIVE ≡ true) = and_parts (continues (live_slots old) e) (nat_lt (length (lower_of_index (live_slots old) e)) MOST_LIVE) fits in
        and_from (continues (live_slots new) e) (nat_lt (length (lower_of_index (live_slots new) e)) MOST_LIVE) (continues-kept e both.0) (lower-room e place.0 place.1 (place.2 ∙ same) both.1)

    fits-itself : fits_live (live_slots new) x ≡ true
    fits-itself =
        let same : lower_of_index (live_slots new) x ≡ lower_of_index (live_slots old) x =
        filter-same (λ f. is_lower f x && same_index f.1 x.1) x (live_slots old) (live_slots new) live-added (and_left (is_lower x x) (same_index x.1 x.1) (lower-itself x)) in
        and_from (continues (live_slots new) x) (nat_lt (length (lower_of_index (live_slots new) x)) MOST_LIVE) (continues-kept x follows)
        (lt-ltb (length (lower_of_index (live_slots new) x)) MOST_LIVE
        (omega (
          arith,
          room,
          ap length same,
          filter-narrower (λ f. same_index f.1 x.1) (λ f. is_lower f x && same_index f.1 x.1) (λ f lower. (and_parts (is_lower f x) (same_index f.1 x.1) lower).1) (live_slots old),
        )))

    good-old : (k : ℕ) (d : Numbered) → k < length old → is_bad old (get_or old k d) ≡ false → is_bad new (get_or old k d) ≡ false
    good-old k d lt good =
        let e : Numbered = get_or old k d in
        let b : IsBeside x e = beside k d lt in
        let parts : (overlaps_lower old e ≡ false) × (clashes_with_lower old e ≡ false) × ((is_live old e && not (fits_live (live_slots old) e)) ≡ false) =
        good-parts (overlaps_lower old e) (clashes_with_lower old e) (is_live old e && not (fits_live (live_slots old) e)) good in
        good-from (overlaps_lower new e) (clashes_with_lower new e) (is_live new e && not (fits_live (live_slots new) e)) (overlaps-old e b ∙ parts.0) (clashes-old e b ∙ parts.1)
        (elim (cases_Bool (is_live old e)) [
          | inl live ↦
              and_right (is_live new e) (not (fits_live (live_slots new) e))
              (not_from_true (fits_live (live_slots new) e) (fits-old k d lt live (fits-parts (is_live old e) (fits_live (live_slots old) e) parts.2 live)))
          | inr hidden ↦ and_left (is_live new e) (not (fits_live (live_slots new) e)) (ap not (ignored-old e b) ∙ hidden)
        ])

    good-itself : is_bad new x ≡ false
    good-itself =
        good-from (overlaps_lower new x) (clashes_with_lower new x) (is_live new x && not (fits_live (live_slots new) x)) overlaps-itself clashes-itself
        (and_right (is_live new x) (not (fits_live (live_slots new) x)) (not_from_true (fits_live (live_slots new) x) fits-itself))

    pub opens-added : bad_slot old ≡ None → bad_slot new ≡ None
    opens-added sound =
        let good : All (λ e. is_bad old e ≡ false) old = none-bad old old sound in
        bad-none new new (All-more (λ e. is_bad new e ≡ false) x old new more (λ k d lt. good-old k d lt (good k d lt)) good-itself)

-- What a directory has where the slot at one number is open, beside what it has where it is closed.
open-set : (first n : ℕ) (body : List ℕ) (slots : Directory) → n < length slots
    → HasOneMore (first + n, slot_of body) (open_from first (set slots n None)) (open_from first (set slots n (Some body)))
open-set first n body [] lt = absurd (omega arith)
open-set first zero body (slot ∷ slots) lt =
    record { before = []; after = open_from (first + 1) slots; was = refl; is = ap (λ (m : ℕ). (m, slot_of body) ∷ open_from (first + 1) slots) (omega arith) }
open-set first (suc n) body (None ∷ slots) lt =
    subst (λ (m : ℕ). HasOneMore (m, slot_of body) (open_from (first + 1) (set slots n None)) (open_from (first + 1) (set slots n (Some body)))) (omega arith)
    (open-set (first + 1) n body slots (omega arith))
open-set first (suc n) body (Some other ∷ slots) lt =
    one_more-cons (first, slot_of other) (first + suc n, slot_of body) (open_from (first + 1) (set slots n None)) (open_from (first + 1) (set slots n (Some body)))
    (subst (λ (m : ℕ). HasOneMore (m, slot_of body) (open_from (first + 1) (set slots n None)) (open_from (first + 1) (set slots n (Some body)))) (omega arith)
    (open-set (first + 1) n body slots (omega arith)))

pub one_open : (n : ℕ) (body : List ℕ) (slots : Directory) → n < length slots
    → HasOneMore (n, slot_of body) (open_slots (set slots n None)) (open_slots (set slots n (Some body)))
one_open n body slots lt =
    subst (λ (m : ℕ). HasOneMore (m, slot_of body) (open_slots (set slots n None)) (open_slots (set slots n (Some body)))) (omega arith) (open-set 0 n body slots lt)

pub set-there : (n : ℕ) (slots : Directory) (slot : Option (List ℕ)) → get_or slots n None ≡ slot → set slots n slot ≡ slots
set-there n slots slot there = ap (λ (s : Option (List ℕ)). set slots n s) (sym there) ∙ set-get_or slots n None

-- each open slot is sound
open-sound : (pages declared first : ℕ) (slots : Directory) → AllObey pages declared slots → All (λ e. IsSound pages declared e.1) (open_from first slots)
open-sound pages declared first [] obey = All-nil (λ e. IsSound pages declared e.1)
open-sound pages declared first (None ∷ slots) obey = open-sound pages declared (first + 1) slots (λ k. obey (suc k))
open-sound pages declared first (Some body ∷ slots) obey =
    All-cons (λ e. IsSound pages declared e.1) (first, slot_of body) (open_from (first + 1) slots) (obey 0 body refl).sound (open-sound pages declared (first + 1) slots (λ k. obey (suc k)))

obey-open : (pages declared n : ℕ) (body : List ℕ) (slots : Directory) → n < length slots → AllObey pages declared slots → IsSlot pages declared body → AllObey pages declared (set slots n (Some body))
obey-open pages declared n body slots lt obey is m other there = elim (cases_eq m n) [
  | inl same ↦
      subst (IsSlot pages declared) (same_Some body other (sym (get_or-set_same slots n (Some body) None lt) ∙ subst (λ (k : ℕ). get_or (set slots n (Some body)) k None ≡ Some other) same there)) is
  | inr unlike ↦ obey m other (sym (get_or-set_other slots n m (Some body) None unlike) ∙ there)
]

pub obey-shut : (pages declared n : ℕ) (slots : Directory) → n < length slots → AllObey pages declared slots → AllObey pages declared (set slots n None)
obey-shut pages declared n slots lt obey m other there = elim (cases_eq m n) [
  | inl same ↦ absurd (none-some other (sym (get_or-set_same slots n None None lt) ∙ subst (λ (k : ℕ). get_or (set slots n None) k None ≡ Some other) same there))
  | inr unlike ↦ obey m other (sym (get_or-set_other slots n m None None unlike) ∙ there)
]

-- the bytes of a sound slot that is read back from them
slot-sound : (pages declared : ℕ) (s : Slot) → IsSound pages declared s → slot_of (slot_bytes s) ≡ s → IsSlot pages declared (slot_bytes s)
slot-sound pages declared s sound back = record { spelled = ap slot_bytes back; sound = subst (IsSound pages declared) (sym back) sound }

-- a slot that may be added begins with write 1 or right behind a live one
pub addable-continues : (n : ℕ) (new : Slot) (all : List Numbered) → IsAddable new all → continues (live_slots all) (n, new) ≡ true
addable-continues n new all addable = ⊎_elim
    (λ first. or_left (new.first_lsn == 1) (list_any (λ f. is_followed_by f.1 new) (live_slots all)) (eq-eqb new.first_lsn 1 first))
    (λ behind. or_right (new.first_lsn == 1) (list_any (λ f. is_followed_by f.1 new) (live_slots all))
    (list_any-from_Any (λ f. is_followed_by f.1 new) (live_slots all)
    (behind.0, behind.1, behind.2, behind.3, followed behind.1.1 behind.4.0 behind.4.1)))
    addable.follows
  where
    followed : (s : Slot) → s.index ≡ new.index → s.last_lsn + 1 ≡ new.first_lsn → is_followed_by s new ≡ true
    followed s like next = grind (arith, nat_tests, like, next)

-- a slot is added
module _ (pages declared n : ℕ) (new : Slot) (slots : Directory) (may : MayBeAdded pages declared n new slots) where
  pub open-added : HasOneMore (n, new) (open_slots slots) (open_slots (with_slot n new slots))
  open-added =
      subst (λ (s : Slot). HasOneMore (n, s) (open_slots slots) (open_slots (with_slot n new slots))) may.read_back
      (subst (λ (old : Directory). HasOneMore (n, slot_of (slot_bytes new)) (open_slots old) (open_slots (with_slot n new slots))) (set-there n slots None may.closed) (one_open n (slot_bytes new) slots may.inside))

  own-interval : HasInterval new
  own-interval = may.sound.interval

  beside-all : All (IsBeside (n, new)) (open_slots slots)
  beside-all k d lt = record {
    pages = may.addable.apart k d lt;
    interval = (open-sound pages declared 0 slots may.opens.sound k d lt).interval;
    newer = may.addable.newer k d lt;
  }

  pub live-with_slot : HasOneMore (n, new) (live_slots (open_slots slots)) (live_slots (open_slots (with_slot n new slots)))
  live-with_slot = live-added (n, new) (open_slots slots) (open_slots (with_slot n new slots)) open-added own-interval beside-all

  pub ignored-with_slot : ignored_slots (open_slots (with_slot n new slots)) ≡ ignored_slots (open_slots slots)
  ignored-with_slot = ignored-added (n, new) (open_slots slots) (open_slots (with_slot n new slots)) open-added own-interval beside-all

  pub opens-with_slot : Opens pages declared (with_slot n new slots)
  opens-with_slot = record {
    sound = obey-open pages declared n (slot_bytes new) slots may.inside may.opens.sound (slot-sound pages declared new may.sound may.read_back);
    together = opens-added (n, new) (open_slots slots) (open_slots (with_slot n new slots)) open-added own-interval beside-all (addable-continues n new (open_slots slots) may.addable) may.addable.room may.opens.together;
  }
