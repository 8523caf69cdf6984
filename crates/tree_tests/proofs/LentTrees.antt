-- A tree of the primary that begins low enough is lent, and so are the two components of the tests.
use Rattle.std.proofs.Common.{ℕ, ◌+◌, ◌<◌, ◌≤◌, ◌^◌, [], ◌∷◌, nat_lt, arith}
use Rattle.std.proofs.lemmas.Bool.{lt-ltb}
use Rattle.std.proofs.lemmas.List.Elements.{All-cons, All-nil}
use Rattle.primary_ix.specs.declared.component.PrimComp.{PrimComp}
use Rattle.primary_ix.specs.Pages.{AreAllLent}
use Rattle.tree_shape.specs.Shape.{level_start}
use Rattle.tree_shape.specs.Laws.Places.{number_fits}
use Rattle.btree_image.specs.Image.{shape_of}
use Rattle.btree_image.specs.Lent.{AreLent}
use Rattle.primary_ix.specs.Rows.{prim_layout}

pub lent_tree : (first rows : ℕ) → first ≤ 2 ^ 31 → rows < 2 ^ 32 → AreLent prim_layout (λ page. nat_lt page (2 ^ 32)) first rows
lent_tree first rows low few level at place =
    let fits = number_fits (shape_of prim_layout rows) (omega arith) (omega arith) few level at place in
    lt-ltb (first + (level_start (shape_of prim_layout rows) level + at)) (2 ^ 32) (omega arith)

abbrev pub tree_at : ℕ → PrimComp
tree_at first = record { tree = record { first = first; rows = 53 } }

pub lent_pair : AreAllLent (λ page. nat_lt page (2 ^ 32)) (tree_at 0 ∷ tree_at 3 ∷ [])
lent_pair =
    All-cons (λ comp. AreLent prim_layout (λ page. nat_lt page (2 ^ 32)) comp.tree.first comp.tree.rows) (tree_at 0) (tree_at 3 ∷ []) (lent_tree 0 53 (omega arith) (omega arith))
    (All-cons (λ comp. AreLent prim_layout (λ page. nat_lt page (2 ^ 32)) comp.tree.first comp.tree.rows) (tree_at 3) [] (lent_tree 3 53 (omega arith) (omega arith))
    (All-nil (λ comp. AreLent prim_layout (λ page. nat_lt page (2 ^ 32)) comp.tree.first comp.tree.rows)))
