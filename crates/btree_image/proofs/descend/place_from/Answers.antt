use Rattle.std.proofs.Common.{◌∙◌, ap, drop, []}
use Rattle.std.specs.Prelude.{slice_index_or}
use Rattle.std.specs.Int.{from_be_bytes, w32}
use Rattle.page_codec.specs.Page.{rows_on}
use Rattle.btree_image.proofs.Widths.{leaf_room, inner_room}
use Rattle.btree_image.proofs.Told.{in_page, child-told}
use Rattle.btree_image.proofs.Found.{none_damaged, outside-damaged, some_place}
use Rattle.btree_image.proofs.descend.place_from.Goals as goal

pub returns-in-Ok-clause-told : goal.returns-in-Ok-clause-told
returns-in-Ok-clause-told g c list at is some e fits shows =
    let l = g.T.TreeRow.layout in
    let k = g.met.T.TreeRow.kinds in
    let a = leaf_room l _ _ _ k in
    let b = inner_room l _ _ _ k in
    let key = c.args.key.now in
    let found = c.in-Ok.ensures.child in
    let there = found.3 _ (in_page l k.key_order a b c.args.rows list is key c.args.below at e c.args.page.now shows) in
    let child = child-told l k.key_order a b c.args.rows list is key c.args.below at e c.args.page.now shows some fits in
    some_place c.place_below.result _ c.in-Ok.child _ c.place_below.ensures.place
    (found.2 ∙ (ap (λ i. from_be_bytes w32 (drop l.key_width (slice_index_or (rows_on c.args.page.now) i []))) there ∙ child))

pub returns-in-Ok-clause-damaged : goal.returns-in-Ok-clause-damaged
returns-in-Ok-clause-damaged g c =
    let found = c.in-Ok.ensures.child in
    none_damaged c.place_below.result _ _ c.place_below.ensures.outside
    (outside-damaged g.T.TreeRow.layout c.args.rows c.args.below found.0 c.in-Ok.child c.args.page.now found.1 found.2)
