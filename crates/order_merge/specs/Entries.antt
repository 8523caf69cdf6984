-- The entries of an index, and which of them is the newest of its key.
-- A list's entries ascend by key. Of several lists the newest stands first, and its entry of a key hides the older ones.
use Rattle.std.specs.Prelude.{Bool, List, [], ◌∷◌, Option, Some, None, if◌then◌else◌}
use Rattle.std.specs.Option.{option_or}
use Rattle.std.specs.Ordering.{eq_by_cmp}
use Rattle.std.specs.declared.cmp.Ordering.{Ordering}

-- how the entries of an index are read
pub record Reading (E K : Type 0) : Type 0 where
  pub key_of : E → K
  pub is_anti : E → Bool
  pub order : K → K → Ordering

-- the first entry of a key in one list
unfoldable pub entry_at : {E K : Type 0} → Reading E K → List E → K → Option E
entry_at r [] k = None
entry_at r (e ∷ es) k = if eq_by_cmp r.order (r.key_of e) k then Some e else entry_at r es k

-- the entry of a key in the newest list that has one
unfoldable pub newest_at : {E K : Type 0} → Reading E K → List (List E) → K → Option E
newest_at r [] k = None
newest_at r (es ∷ older) k = option_or (entry_at r es k) (newest_at r older k)
