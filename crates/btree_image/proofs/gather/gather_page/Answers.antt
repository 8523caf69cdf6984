use Rattle.std.proofs.Common.{rules, ◌≡◌, ◌-◌, [], Some, None, arith, sym, ◌∙◌, subst}
use Rattle.std.proofs.lemmas.List.{append-nil}
use Rattle.page_codec.specs.Page.{rows_on}
use Rattle.btree_image.specs.Damage.{AllReadable}
use Rattle.btree_image.specs.Image.{shape_of}
use Rattle.tree_shape.specs.Shape.{IsPlace}
use Rattle.btree_image.specs.Walks.{IsInHand, in_hand}
use Rattle.btree_image.proofs.Widths.{leaf_room, inner_room}
use Rattle.btree_image.proofs.Along.{goes-fault, none_ok, goes-holding, goes-copied, on_ok}
use Rattle.btree_image.proofs.Places.{hand-ends}
use Rattle.btree_image.proofs.Told.{shown_read, damaged_at}
use Rattle.btree_image.proofs.Gathered.{copied, shown_rows, from-told, to-told, short}
use Rattle.btree_image.proofs.gather.gather_page.Goals as goal

pub returns-in_err-reach-clause-goes : goal.returns-in_err-reach-clause-goes
returns-in_err-reach-clause-goes g c = goes-fault c.from_residual.result _ (search rules) (goes-holding (Some c.in_err-reach.field-0.0) _ _ c.in_err-reach.ensures.goes)

pub returns-in_err-reach-clause-adds : goal.returns-in_err-reach-clause-adds
returns-in_err-reach-clause-adds g c = ([], sym (append-nil c.args.out.now.items), λ list shown leads near from before. none_ok c.from_residual.result c.in_err-reach.field-0.0 _ (search rules))

pub returns-clause-goes : goal.returns-clause-goes
returns-clause-goes g c =
    let l = g.T.TreeRow.layout in
    let held = c.in_ok-reach.ensures.in_hand in
    let at = c.reach.new.hand.next - 1 in
    let place : IsPlace (shape_of l c.args.tree.rows) 0 at = record { inside = held.inside; up_to_root = λ j h. absurd (omega arith) } in
    goes-copied c.push_rows.result (in_hand l c.args.tree.first c.args.tree.rows 0 c.args.hand.now.next) _ c.reach.new.hand.page (AllReadable l (rows_on c.reach.new.hand.buf) → ⊥)
    c.push_rows.ensures.fault (goes-holding None _ _ c.in_ok-reach.ensures.goes)
    (hand-ends l c.args.tree.first c.args.tree.rows 0 c.args.hand.now.next c.args.at c.reach.new.hand.next c.reach.new.hand.page c.in_ok-reach.ensures.next held.number)
    (λ bad bytes told. damaged_at l c.args.tree.first c.args.tree.rows _ bytes c.reach.new.hand.buf 0 at c.reach.new.hand.page
    told held.told place held.number (λ well. bad well.readable))

pub returns-clause-adds : goal.returns-clause-adds
returns-clause-adds g c =
    let l = g.T.TreeRow.layout in
    let k = g.met.T.TreeRow.kinds in
    let a = leaf_room l _ _ _ k in
    let b = inner_room l _ _ _ k in
    let adds = c.push_rows.ensures.adds in (
      adds.0,
      adds.1,
      λ list shown leads near from before.
          let next = c.in_ok-reach.ensures.next in
          let here : c.reach.new.hand.next - 1 ≡ c.args.at = omega arith in
          let held = subst (λ n. IsInHand l c.args.tree.first c.args.tree.rows (g.P.Pages.lending c.args.pages.now).contents 0 n c.reach.new.hand) here c.in_ok-reach.ensures.in_hand in
          let place : IsPlace (shape_of l c.args.tree.rows) 0 c.args.at = record { inside = held.inside; up_to_root = λ j h. absurd (omega arith) } in
          let bytes = c.reach.new.hand.buf in
          let shows = shown_read l list c.args.tree.first c.args.tree.rows _ shown bytes 0 c.args.at place held.told in
          let count = held.count in
          let first = c.first_row-from.ensures in
          let last = c.end_row-to.ensures in
          let first_most = first.most in
          let last_most = last.most in
          let width = short l k.key_order a b c.args.tree.rows list shown.is c.args.at bytes shows in
          let from_is = from-told l k.key_order a b c.args.tree.rows list shown.is c.args.range.now c.args.run c.args.at leads from bytes shows c.first_row-from.result (omega arith) first.first first.later in
          let to_is = to-told l k.key_order a b c.args.tree.rows list shown.is c.args.range.now c.args.run c.args.at leads from before bytes shows c.end_row-to.result (omega arith) last.last (λ other. last.earlier other ∙ count) in
          on_ok c.push_rows.result _ _ (λ read. copied l k.key_order a b c.args.tree.rows list shown.is c.args.at bytes (shown_rows l k.key_order a b c.args.tree.rows list shown.is c.args.at bytes shows)
          c.first_row-from.result c.end_row-to.result _ _ (omega arith) from_is to_is adds.0 read) adds.2,
    )
