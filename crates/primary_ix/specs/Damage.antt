-- When a page of components is damaged.
use Rattle.std.specs.Prelude.{ℕ, List, Any}
use Rattle.btree_image.specs.Damage.{IsDamaged}
use Rattle.primary_ix.specs.declared.component.PrimComp.{PrimComp}
use Rattle.primary_ix.specs.Rows.{prim_layout}

-- a page belongs to one of the components, and isn't one for its place there
abbrev pub IsDamagedIn : List PrimComp → (ℕ → List ℕ) → ℕ → Type 0
IsDamagedIn comps contents page = Any (λ comp. IsDamaged prim_layout comp.tree.first comp.tree.rows contents page) comps
