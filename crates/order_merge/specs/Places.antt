-- The indexes by place: which entries a table asks for, and what a write of a key adds.
use Rattle.std.specs.Prelude.{◌≡◌, ℕ, Bool, true, false, List, [], ◌∷◌, ◌++◌, Option, Some, None, ◌==◌, if◌then◌else◌}
use Rattle.order_merge.specs.Entries.{Reading}

-- how an index names the places of points: DHB by the point itself, DHVB by its
-- value along the curve, SHB and SIF by its cell
pub record PlaceReading (E P : Type 0) : Type 0 where
  pub reading : Reading E (P × ℕ)
  pub entry : P → ℕ → Bool → E
  pub is_same : P → P → Bool

-- what the four indexes by place owe
pub record IsPlaceReading {E P : Type 0} (i : PlaceReading E P) : Type 0 where
  pub key : (p : P) (k : ℕ) (anti : Bool) → i.reading.key_of (i.entry p k anti) ≡ (p, k)
  pub anti : (p : P) (k : ℕ) (anti : Bool) → i.reading.is_anti (i.entry p k anti) ≡ anti
  pub same : (p q : P) → i.is_same p q ≡ true → p ≡ q
  pub itself : (p : P) → i.is_same p p ≡ true

-- the entry of a key at a place, if that is where the key is
abbrev pub matter_at : {E P : Type 0} → PlaceReading E P → Option P → P → ℕ → Option E
matter_at i None p k = None
matter_at i (Some q) p k = if i.is_same q p then Some (i.entry p k false) else None

-- the entries that a table asks for, whose keys are at these places
abbrev pub wanted_places : {E P : Type 0} → PlaceReading E P → (ℕ → Option P) → P × ℕ → Option E
wanted_places i places at = matter_at i (places at.1) at.0 at.1

-- one key moved
abbrev pub moved : {P : Type 0} → (ℕ → Option P) → ℕ → Option P → ℕ → Option P
moved places k now j = if j == k then now else places j

-- the entry that cancels, and the one that adds
abbrev pub leaving : {E P : Type 0} → PlaceReading E P → Option P → ℕ → List E
leaving i None k = []
leaving i (Some p) k = i.entry p k true ∷ []

abbrev pub arriving : {E P : Type 0} → PlaceReading E P → Option P → ℕ → List E
arriving i None k = []
arriving i (Some p) k = i.entry p k false ∷ []

abbrev pub stays : {E P : Type 0} → PlaceReading E P → Option P → Option P → Bool
stays i None None = true
stays i None (Some q) = false
stays i (Some p) None = false
stays i (Some p) (Some q) = i.is_same p q

-- what a write of a key adds to the index: nothing where the place stays
abbrev pub place_changes : {E P : Type 0} → PlaceReading E P → Option P → Option P → ℕ → List E
place_changes i old new k = if stays i old new then [] else leaving i old k ++ arriving i new k
