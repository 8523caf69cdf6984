-- What adding an entry to a list does to it, and taking one out.
use Rattle.std.specs.Prelude.{List, [], ◌∷◌}
use Rattle.std.specs.declared.cmp.Ordering.{Ordering}
use Rattle.std.specs.declared.cmp.Ordering.TheVariants.{Less, Equal, Greater}
use Rattle.order_merge.specs.Entries.{Reading}

-- one of three lists, by how two keys stand
abbrev pub by_ordering : {E : Type 0} → Ordering → List E → List E → List E → List E
by_ordering Less less equal greater = less
by_ordering Equal less equal greater = equal
by_ordering Greater less equal greater = greater

-- the ascending list with an entry in the place of the one with its key, or new in its place
unfoldable pub with_entry : {E K : Type 0} → Reading E K → E → List E → List E
with_entry r e [] = e ∷ []
with_entry r e (d ∷ es) =
    by_ordering (r.order (r.key_of e) (r.key_of d)) (e ∷ d ∷ es) (e ∷ es) (d ∷ with_entry r e es)
