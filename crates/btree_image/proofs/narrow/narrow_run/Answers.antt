use Rattle.std.proofs.Common.{rules, ◌≡◌, ◌-◌, ◌<◌, suc, [], Some, None, map, arith, refl, sym, ◌∙◌, ap, subst}
use Rattle.std.proofs.Math.Numerals.{add-one}
use Rattle.btree_image.specs.Pages.{page_number}
use Rattle.btree_image.specs.Walks.{IsInHand}
use Rattle.btree_image.proofs.Widths.{leaf_room, inner_room}
use Rattle.btree_image.proofs.Along.{goes-fault, goes-on, goes-short, goes-same, goes-nowhere}
use Rattle.btree_image.proofs.Places.{places-none, behind-least, behind-some, run-all}
use Rattle.btree_image.proofs.Narrowed.{narrowed-none, run-told}
use Rattle.btree_image.proofs.narrow.narrow_run.Goals as goal

pub returns-then-run-clause-goes : goal.returns-then-run-clause-goes
returns-then-run-clause-goes g c =
    let number = page_number g.T.TreeRow.layout c.args.tree.first c.args.tree.rows (suc c.args.below) in
    let test = c.if-run.true in
    goes-same (ap (map number) (sym (places-none c.args.hand.now.next c.args.run.first c.args.run.end (omega arith)))) (goes-nowhere [] (g.met.P.Pages.asked_none c.args.pages.now))

pub returns-then-run-clause-told : goal.returns-then-run-clause-told
returns-then-run-clause-told g c list shown leads ordered near =
    let l = g.T.TreeRow.layout in
    let k = g.met.T.TreeRow.kinds in
    let test = c.if-run.true in
    narrowed-none l k.key_order (leaf_room l _ _ _ k) (inner_room l _ _ _ k) c.args.tree.rows list shown.is c.args.below c.args.range.now c.args.run leads ordered (omega arith)

pub returns-in_err-reach-clause-goes : goal.returns-in_err-reach-clause-goes
returns-in_err-reach-clause-goes g c =
    let number = page_number g.T.TreeRow.layout c.args.tree.first c.args.tree.rows (suc c.args.below) in
    let test = c.if-run.false in
    goes-fault c.from_residual.result _ (search rules) (goes-short c.in_err-reach.field-0.0 [] _ _ _ (run-all number c.args.hand.now.next c.args.run.first c.args.run.end _ (omega arith) refl) (rw add-one at c.in_err-reach.ensures.goes))

pub first_below-first-requires-clause-few : goal.first_below-first-requires-clause-few
first_below-first-requires-clause-few g c =
    let held = c.in_ok-reach.ensures.in_hand in
    let inside = rw add-one at held.inside in
    let fits = g.met.P.Pages.lent_fits c.args.pages.now _ (c.requires.lent (suc c.args.below) (c.reach.new.hand.next - 1) (record { inside = inside; up_to_root = c.requires.up_to_root })) in
    omega arith

pub first_below-first-requires-clause-page : goal.first_below-first-requires-clause-page
first_below-first-requires-clause-page g c =
    let held = c.in_ok-reach.ensures.in_hand in
    let page = rw add-one at held.is_page in
    (suc c.args.below, page)

pub returns-in_err-pass-clause-goes : goal.returns-in_err-pass-clause-goes
returns-in_err-pass-clause-goes g c =
    let number = page_number g.T.TreeRow.layout c.args.tree.first c.args.tree.rows (suc c.args.below) in
    let test = c.if-run.false in
    goes-fault c.from_residual-in_err-pass.result _ (search rules) (goes-same (run-all number c.args.hand.now.next c.args.run.first c.args.run.end c.reach.new.hand.next (omega arith) c.in_ok-reach.ensures.next)
    (goes-on g.met.P.Pages.asked_then (Some c.in_err-pass.field-0.0) _ _ (rw add-one at c.in_ok-reach.ensures.goes) (rw add-one at c.in_err-pass.ensures.goes)))

pub end_below-requires-clause-few : goal.end_below-requires-clause-few
end_below-requires-clause-few g c =
    let least = behind-least c.reach.new.hand.next c.args.run.first c.args.run.end in
    let next = c.in_ok-pass.ensures.next in
    let first = c.in_ok-reach.ensures.next in
    let held = c.in_ok-pass.ensures.holds (omega arith) in
    let inside = rw add-one at held.inside in
    let fits = g.met.P.Pages.lent_fits c.args.pages.now _ (c.requires.lent (suc c.args.below) (c.pass.new.hand.next - 1) (record { inside = inside; up_to_root = c.requires.up_to_root })) in
    omega arith

pub end_below-requires-clause-page : goal.end_below-requires-clause-page
end_below-requires-clause-page g c =
    let least = behind-least c.reach.new.hand.next c.args.run.first c.args.run.end in
    let next = c.in_ok-pass.ensures.next in
    let first = c.in_ok-reach.ensures.next in
    let held = c.in_ok-pass.ensures.holds (omega arith) in
    let page = rw add-one at held.is_page in
    (suc c.args.below, page)

pub returns-clause-goes : goal.returns-clause-goes
returns-clause-goes g c =
    let number = page_number g.T.TreeRow.layout c.args.tree.first c.args.tree.rows (suc c.args.below) in
    let test = c.if-run.false in
    goes-same (run-all number c.args.hand.now.next c.args.run.first c.args.run.end c.reach.new.hand.next (omega arith) c.in_ok-reach.ensures.next)
    (goes-on g.met.P.Pages.asked_then None _ _ (rw add-one at c.in_ok-reach.ensures.goes) (rw add-one at c.in_ok-pass.ensures.goes))

pub returns-clause-holds : goal.returns-clause-holds
returns-clause-holds g c some =
    let l = g.T.TreeRow.layout in
    let goes = c.in_ok-reach.ensures.goes in
    subst (λ contents. IsInHand l c.args.tree.first c.args.tree.rows contents (suc c.args.below) (c.pass.new.hand.next - 1) c.pass.new.hand) goes.reads.same_contents
    (rw add-one at (c.in_ok-pass.ensures.holds some))

pub returns-clause-told : goal.returns-clause-told
returns-clause-told g c list shown leads ordered near =
    let l = g.T.TreeRow.layout in
    let k = g.met.T.TreeRow.kinds in
    let test = c.if-run.false in
    let some : c.args.run.first < c.args.run.end = omega arith in
    let reached = c.in_ok-reach.ensures.next in
    let first : c.reach.new.hand.next ≡ suc c.args.run.first = omega arith in
    let passed = c.in_ok-pass.ensures.next ∙ behind-some c.reach.new.hand.next c.args.run.first c.args.run.end some in
    let last : c.pass.new.hand.next ≡ c.args.run.end = omega arith in
    let goes = c.in_ok-reach.ensures.goes in
    let right = subst (λ contents. IsInHand l c.args.tree.first c.args.tree.rows contents (suc c.args.below) (c.pass.new.hand.next - 1) c.pass.new.hand) goes.reads.same_contents
    (rw add-one at (c.in_ok-pass.ensures.holds (omega arith))) in
    run-told l k.key_order (leaf_room l _ _ _ k) (inner_room l _ _ _ k) c.args.tree.rows list shown.is c.args.tree.first (g.P.Pages.lending c.args.pages.now).contents shown
    c.args.below c.requires.up_to_root c.args.range.now c.args.run leads some
    (c.reach.new.hand.next - 1) c.reach.new.hand (rw add-one at c.in_ok-reach.ensures.in_hand) (omega arith)
    (c.pass.new.hand.next - 1) c.pass.new.hand right (omega arith)
    c.first_below-first.result c.end_below.result c.level_at-size.result.size c.level_at-size.ensures.size c.first_below-first.ensures c.end_below.ensures.end
