-- Which entries of an index live, and when its lists fit a table.
use Rattle.std.specs.Prelude.{◌≡◌, List, Option, Some, None, if◌then◌else◌}
use Rattle.order_merge.specs.Entries.{Reading, newest_at}

-- the entry, unless it is anti
abbrev pub unless_anti : {E K : Type 0} → Reading E K → Option E → Option E
unless_anti r None = None
unless_anti r (Some e) = if r.is_anti e then None else Some e

-- the entry of a key that lives among the lists
abbrev pub living_at : {E K : Type 0} → Reading E K → List (List E) → K → Option E
living_at r lists k = unless_anti r (newest_at r lists k)

-- exactly the wanted entries live
abbrev pub Fits : {E K : Type 0} → Reading E K → List (List E) → (K → Option E) → Type 0
Fits {K = K} r lists wanted = (k : K) → living_at r lists k ≡ wanted k
