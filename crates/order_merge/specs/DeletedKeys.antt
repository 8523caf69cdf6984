-- The lists of an index that has no anti entries: each list names the keys that are deleted from the older ones.
use Rattle.std.specs.Prelude.{◌≡◌, ◌≢◌, ℕ, Bool, not, ◌⊎◌, List, [], ◌∷◌, Option, Some, AllPairs, Contains, ◌↔◌, IsTrue, ◌==◌, if◌then◌else◌}
use Rattle.std.specs.List.Sorted.{IsStrictlyIncreasing}
use Rattle.std.specs.declared.cmp.Ordering.{Ordering}
use Rattle.std.specs.declared.cmp.Ordering.TheVariants.{Less}

-- the entries of one list, and the keys that it names as deleted
pub record KeyedList (E : Type 0) : Type 0 where
  pub entries : List E
  pub deleted : List ℕ

-- an entry lives where no strictly newer list names its key; the newest list stands first
abbrev pub Lives : {E : Type 0} → (E → ℕ) → List (KeyedList E) → E → Type 0
Lives key [] e = ⊥
Lives key (l ∷ older) e = Contains l.entries e ⊎ ((Contains l.deleted (key e) → ⊥) × Lives key older e)

-- at each list, the entries that live among it and the older ones have distinct keys
abbrev pub HasDistinctKeys : {E : Type 0} → (E → ℕ) → List (KeyedList E) → Type 0
HasDistinctKeys {E} key [] = Unit {0}
HasDistinctKeys {E} key (l ∷ older) =
    AllPairs (λ d e. key d ≢ key e) l.entries
    × ((d e : E) → Contains l.entries d → Lives key older e → key d ≡ key e → Contains l.deleted (key e))
    × HasDistinctKeys key older

-- exactly the wanted entries live, each in one list
pub record FitsDeleted {E : Type 0} (key : E → ℕ) (lists : List (KeyedList E)) (wanted : ℕ → Option E) : Type 0 where
  pub living : (e : E) → Lives key lists e ↔ (wanted (key e) ≡ Some e)
  pub distinct : HasDistinctKeys key lists

-- what a write of a key does to a list: where the key had an entry, the list's own one goes and the key is named, and
-- then the new entry is added
pub record IsRewritten {E : Type 0} (key : E → ℕ) (k : ℕ) (had : Bool) (new : Option E) (old_list new_list : KeyedList E) : Type 0 where
  pub entries : (e : E) → Contains new_list.entries e ↔ ((new ≡ Some e) ⊎ (Contains old_list.entries e × (IsTrue had → key e ≢ k)))
  pub once : AllPairs (λ d e. key d ≢ key e) new_list.entries
  pub deleted : (j : ℕ) → Contains new_list.deleted j ↔ ((IsTrue had × (j ≡ k)) ⊎ Contains old_list.deleted j)

-- what is wanted after the write
abbrev pub wanted_at : {E : Type 0} → (ℕ → Option E) → ℕ → Option E → ℕ → Option E
wanted_at wanted k new j = if j == k then new else wanted j

-- one of the lists names the key
abbrev pub Names : {E : Type 0} → List (KeyedList E) → ℕ → Type 0
Names [] k = ⊥
Names (l ∷ older) k = Contains l.deleted k ⊎ Names older k

-- the merge of adjacent lists: what lives among them, in the order of the disk, and all keys that they name, or none
-- where the oldest list is among them
pub record IsMergeOfKeyed {E : Type 0} (key : E → ℕ) (order : E → E → Ordering) (lists : List (KeyedList E)) (oldest : Bool) (merged : KeyedList E) : Type 0 where
  pub sorted : AllPairs (λ d e. order d e ≡ Less) merged.entries
  pub living : (e : E) → Contains merged.entries e ↔ Lives key lists e
  pub deleted_sorted : IsStrictlyIncreasing merged.deleted
  pub deleted : (k : ℕ) → Contains merged.deleted k ↔ (IsTrue (not oldest) × Names lists k)
