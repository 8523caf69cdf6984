-- No public contract needs this file: that keys are ordered as rows of lists and of trees owe it, and that the kinds of
-- pages fit the rows.
use Rattle.std.proofs.Common.{arith, refl, sym}
use Rattle.std.specs.Cmp.{nat_cmp_total}
use Rattle.std.specs.declared.cmp.Ordering.TheVariants.{Equal}
use Rattle.std.proofs.lemmas.Cmp.{ranked}
use Rattle.btree_image.specs.Kinds.{AreKinds}
use Rattle.page_codec.specs.declared.kinds.TheConstants.{PRIMARY_LEAF, PRIMARY_INNER}
use Rattle.primary_ix.specs.declared.bytes.TheConstants.{KEY_BYTES}
use Rattle.order_merge.specs.Ascending.{IsKeyOrder}
use Rattle.order_merge.specs.laws.Numbers.{nat_cmp-IsKeyOrder}
use Rattle.primary_ix.specs.Rows.{prim_layout}
use Rattle.primary_ix.specs.Reading.{prim_reading}

pub prim_key_order : IsKeyOrder prim_reading.order
prim_key_order = nat_cmp-IsKeyOrder

pub prim_kinds : AreKinds prim_layout PRIMARY_LEAF PRIMARY_INNER KEY_BYTES
prim_kinds = record {
  leaf_is = refl;
  inner_is = refl;
  key_width_is = refl;
  leaf_kind = omega arith;
  key_fits = omega arith;
  inner_width = refl;
  key_order = record { total = nat_cmp_total; same = λ a b h. ranked a b Equal (sym h) };
}
