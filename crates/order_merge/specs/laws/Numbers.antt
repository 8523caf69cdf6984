-- Keys that are numbers. No public contract needs this file.
use Rattle.std.proofs.Common.{sym}
use Rattle.std.specs.Ordering.{nat_cmp}
use Rattle.std.specs.Cmp.{nat_cmp_total}
use Rattle.std.proofs.lemmas.Cmp.{ranked}
use Rattle.std.specs.declared.cmp.Ordering.TheVariants.{Equal}
use Rattle.order_merge.specs.Ascending.{IsKeyOrder}

-- numbers are keys in their own order
pub nat_cmp-IsKeyOrder : IsKeyOrder nat_cmp
nat_cmp-IsKeyOrder = record { total = nat_cmp_total; same = λ a b h. ranked a b Equal (sym h) }
