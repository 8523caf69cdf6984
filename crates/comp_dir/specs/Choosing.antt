-- What is asked of the open slots together, and which of them are live. A list has the open slots by number.
use Rattle.std.specs.Prelude.{◌≡◌, ℕ, ◌+◌, List, [], ◌∷◌, length, max, min, Option, Some, None, Bool, not, ◌&&◌, ◌||◌, nat_le, nat_lt, if◌then◌else◌, ◌==◌}
use Rattle.std.specs.List.{filter, list_any}
use Rattle.comp_dir.specs.Directory.{Directory, Numbered, open_slots}
use Rattle.comp_dir.specs.Rules.{AllObey}
use Rattle.comp_dir.specs.declared.places.TheConstants.{MOST_LIVE}
use Rattle.comp_dir.specs.declared.slots.Slot.{Slot}

-- the extents share a page
abbrev pub shares_page : Slot → Slot → Bool
shares_page s t = nat_lt (max s.first t.first) (min (s.first + s.pages) (t.first + t.pages))

-- the intervals share a number
abbrev pub shares_lsn : Slot → Slot → Bool
shares_lsn s t = nat_le (max s.first_lsn t.first_lsn) (min s.last_lsn t.last_lsn)

-- the interval of the first lies inside that of the second
abbrev pub is_inside : Slot → Slot → Bool
is_inside s t = nat_le t.first_lsn s.first_lsn && nat_le s.last_lsn t.last_lsn

abbrev pub is_equal : Slot → Slot → Bool
is_equal s t = s.first_lsn == t.first_lsn && s.last_lsn == t.last_lsn

abbrev pub same_index : Slot → Slot → Bool
same_index s t = s.index == t.index

-- of one index, and the interval of the first lies inside that of the second and isn't equal to it
abbrev pub is_hidden_by : Slot → Slot → Bool
is_hidden_by s t = same_index s t && (is_inside s t && not (is_equal s t))

-- ignored: another open slot hides it
abbrev pub is_ignored : List Numbered → Numbered → Bool
is_ignored all e = list_any (λ f. is_hidden_by e.1 f.1) all

abbrev pub is_live : List Numbered → Numbered → Bool
is_live all e = not (is_ignored all e)

abbrev pub live_slots : List Numbered → List Numbered
live_slots all = filter (is_live all) all

-- of one index, and the intervals are equal or overlap in part
abbrev pub clashes : Slot → Slot → Bool
clashes s t = same_index s t && (is_equal s t || (shares_lsn s t && not (is_inside s t) && not (is_inside t s)))

abbrev pub is_lower : Numbered → Numbered → Bool
is_lower f e = nat_lt f.0 e.0

-- the extent shares no page with that of a lower slot
abbrev pub overlaps_lower : List Numbered → Numbered → Bool
overlaps_lower all e = list_any (λ f. is_lower f e && shares_page f.1 e.1) all

-- the interval doesn't clash with that of a lower slot
abbrev pub clashes_with_lower : List Numbered → Numbered → Bool
clashes_with_lower all e = list_any (λ f. is_lower f e && clashes f.1 e.1) all

-- one of these slots is of the index and ends right before
abbrev pub is_followed_by : Slot → Slot → Bool
is_followed_by t s = same_index t s && (t.last_lsn + 1 == s.first_lsn)

-- begins with the first write of all, or right behind one of these slots
abbrev pub continues : List Numbered → Numbered → Bool
continues live e = e.1.first_lsn == 1 || list_any (λ f. is_followed_by f.1 e.1) live

-- those of these slots that are lower and of the index
abbrev pub lower_of_index : List Numbered → Numbered → List Numbered
lower_of_index live e = filter (λ f. is_lower f e && same_index f.1 e.1) live

-- a live slot begins right behind another live slot, and has room among the lower ones
abbrev pub fits_live : List Numbered → Numbered → Bool
fits_live live e = continues live e && nat_lt (length (lower_of_index live e)) MOST_LIVE

-- a slot breaks one of the rules
abbrev pub is_bad : List Numbered → Numbered → Bool
is_bad all e =
    overlaps_lower all e
    || clashes_with_lower all e
    || (is_live all e && not (fits_live (live_slots all) e))

-- the first of these slots that breaks a rule
abbrev pub first_bad : (all from : List Numbered) → Option ℕ
first_bad all [] = None
first_bad all (e ∷ from) = if is_bad all e then Some e.0 else first_bad all from

abbrev pub bad_slot : List Numbered → Option ℕ
bad_slot all = first_bad all all

-- the directory of a device of so many pages with these declared indexes may be opened
pub record Opens (pages declared : ℕ) (slots : Directory) : Type 0 where
  pub sound : AllObey pages declared slots
  pub together : bad_slot (open_slots slots) ≡ None
