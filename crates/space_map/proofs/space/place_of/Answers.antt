use Rattle.std.proofs.Common.{ltb, arith, rules}
use Rattle.std.proofs.lemmas.Bool.{ltb-true, ltb-false}
use Rattle.std.proofs.lemmas.List.Sorted.{IsPartitionPoint-from_clause}
use Rattle.space_map.specs.declared.space.Extent.{Extent}
use Rattle.space_map.specs.declared.space.TheConstants.{FIRST_DATA_PAGE}
use Rattle.space_map.proofs.Extents.{parted}
use Rattle.space_map.proofs.space.place_of.Goals as goal

pub returns-clause-before : goal.returns-clause-before
returns-clause-before c =
    let in_order = parted FIRST_DATA_PAGE c.args.end c.args.first c.args.extents.now c.requires in
    let point = IsPartitionPoint-from_clause (λ (x : Extent). ltb x.first c.args.first) _ _ c.partition_point.ensures.partitioned in_order (λ a r q k. search rules) in
    λ k d h. ltb-true _ _ (point.0 k d (omega arith) h)

pub returns-clause-behind : goal.returns-clause-behind
returns-clause-behind c =
    let in_order = parted FIRST_DATA_PAGE c.args.end c.args.first c.args.extents.now c.requires in
    let point = IsPartitionPoint-from_clause (λ (x : Extent). ltb x.first c.args.first) _ _ c.partition_point.ensures.partitioned in_order (λ a r q k. search rules) in
    λ k d h l. ltb-false _ _ (point.1 k d h l)
