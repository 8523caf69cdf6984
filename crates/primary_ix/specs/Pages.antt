-- The pages of components: that each is lent, and what a reader may find one to be.
use Rattle.std.specs.Prelude.{ℕ, Bool, List, All, Any}
use Rattle.btree_image.specs.Lent.{AreLent}
use Rattle.btree_image.specs.Tested.{IsTested}
use Rattle.primary_ix.specs.declared.component.PrimComp.{PrimComp}
use Rattle.primary_ix.specs.Rows.{prim_layout}

-- each page of each component is lent
abbrev pub AreAllLent : (ℕ → Bool) → List PrimComp → Type 0
AreAllLent lent comps = All (λ comp. AreLent prim_layout lent comp.tree.first comp.tree.rows) comps

-- a page belongs to one of the components, and has the header of its place there
abbrev pub IsTestedIn : List PrimComp → (ℕ → List ℕ) → ℕ → Type 0
IsTestedIn comps contents page = Any (λ comp. IsTested prim_layout comp.tree.first comp.tree.rows contents page) comps
