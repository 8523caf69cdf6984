-- A list with many entries more or without a key, and what is wanted behind an entry that was added.
use Rattle.std.specs.Prelude.{List, [], ◌∷◌, Option, Some, filter, not, if◌then◌else◌}
use Rattle.std.specs.Ordering.{eq_by_cmp}
use Rattle.order_merge.specs.Entries.{Reading}
use Rattle.order_merge.specs.Fitting.{unless_anti}
use Rattle.order_merge.specs.Adding.{with_entry}

-- the list after these entries were added, one after the other
unfoldable pub with_entries : {E K : Type 0} → Reading E K → List E → List E → List E
with_entries r [] es = es
with_entries r (c ∷ cs) es = with_entries r cs (with_entry r c es)

-- the list without the entries of a key
unfoldable pub without_key : {E K : Type 0} → Reading E K → K → List E → List E
without_key r k es = filter (λ e. not (eq_by_cmp r.order (r.key_of e) k)) es

-- what is wanted once an entry was added: at its key the entry itself, unless it is anti
abbrev pub wanted_with : {E K : Type 0} → Reading E K → E → (K → Option E) → K → Option E
wanted_with r e wanted k = if eq_by_cmp r.order (r.key_of e) k then unless_anti r (Some e) else wanted k
