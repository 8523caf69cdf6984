use Rattle.std.proofs.Common.{rules, ◌≡◌, ◌≢◌, ◌+◌, ◌-◌, ◌<◌, ◌≤◌, ◌++◌, suc, [], Some, None, map, drop, length, get_or, arith, refl, sym, ◌∙◌, ap, subst}
use Rattle.std.proofs.lemmas.List.{get_or-set_other, length-set}
use Rattle.std.specs.declared.cmp.Ordering.TheVariants.{Less, Greater}
use Rattle.btree_image.specs.declared.runs.Run.{Run}
use Rattle.btree_image.specs.Image.{shape_of}
use Rattle.btree_image.specs.Pages.{page_number}
use Rattle.btree_image.specs.Shown.{IsShown}
use Rattle.tree_shape.specs.Shape.{level_size}
use Rattle.btree_image.specs.Walks.{IsInHand, places_in, next_behind, walk, run_of, Leads}
use Rattle.btree_image.proofs.Along.{goes-fault, goes-on, goes-short, goes-same, goes-nowhere}
use Rattle.btree_image.proofs.Places.{pages-next, pages-done, walk-next, behind-most, same_default, one-more}
use Rattle.btree_image.proofs.Narrowed.{run-follows}
use Rattle.btree_image.proofs.Widths.{leaf_room, inner_room}
use Rattle.btree_image.proofs.narrow.narrow.Goals as goal

abbrev no_run : Run
no_run = record { first = 0; end = 0 }

pub loop-i-init : goal.loop-i-init
loop-i-init g c = record {
  seen = [];
  goes = goes-nowhere [] (g.met.P.Pages.asked_none c.args.pages.now);
  left = refl;
  holds = λ some. absurd (omega arith);
  count = refl;
  same = λ j d h. refl;
  inside = λ j d h. absurd (omega arith);
  near = λ list shown ascend lead j d h k. omega arith;
  done = λ list shown ascend lead j range d h. absurd (omega arith);
}

pub returns-in_err-runs-clause-goes : goal.returns-in_err-runs-clause-goes
returns-in_err-runs-clause-goes g c =
    let inv = c.loop-i.invariant in
    let number = page_number g.T.TreeRow.layout c.args.tree.first c.args.tree.rows (suc c.args.below) in
    let count = inv.count in
    let test = c.loop-i-test.true in
    let run-is = inv.same c.loop-i.i no_run (omega arith) in
    goes-fault c.from_residual.result _ (search rules) (goes-short c.in_err-runs.field-0.0 [] _ _ _ (pages-next number inv.seen _ _ _ _ inv.left (walk-next c.loop-i.hand.next c.loop-i.i c.args.runs.now no_run (omega arith)))
    (goes-on g.met.P.Pages.asked_then (Some c.in_err-runs.field-0.0) _ _ inv.goes
    (goes-same (ap (λ (run : Run). map number (places_in c.loop-i.hand.next run.first run.end)) run-is) c.in_err-runs.ensures.goes)))

pub returns-clause-goes : goal.returns-clause-goes
returns-clause-goes g c =
    let inv = c.loop-i.invariant in
    let number = page_number g.T.TreeRow.layout c.args.tree.first c.args.tree.rows (suc c.args.below) in
    let count = inv.count in
    let test = c.loop-i-test.false in
    goes-same (pages-done number inv.seen _ c.loop-i.hand.next c.loop-i.i c.args.runs.now (omega arith) inv.left) inv.goes

pub returns-clause-told : goal.returns-clause-told
returns-clause-told g c list shown ascend lead i range run h =
    let inv = c.loop-i.invariant in
    let count = inv.count in
    let test = c.loop-i-test.false in
    inv.done list shown ascend lead i range run (omega arith)

pub loop-i-preserved : goal.loop-i-preserved
loop-i-preserved g c =
    let l = g.T.TreeRow.layout in
    let k = g.met.T.TreeRow.kinds in
    let inv = c.loop-i.invariant in
    let number = page_number l c.args.tree.first c.args.tree.rows (suc c.args.below) in
    let count = inv.count in
    let test = c.loop-i-test.true in
    let i = c.loop-i.i in
    let next = c.loop-i.hand.next in
    let run = get_or c.args.runs.now i no_run in
    let range = c.index-ranges-i.result in
    let run-is : get_or c.loop-i.runs i no_run ≡ run = inv.same i no_run (omega arith) in
    let inside : i < length c.loop-i.runs = omega arith in
    let next-is : c.narrow_run.new.hand.next ≡ next_behind next run.first run.end =
    c.in_ok-runs.ensures.next ∙ ap (λ (r : Run). next_behind next r.first r.end) run-is in
    record {
      seen = inv.seen ++ map number (places_in next run.first run.end);
      goes = goes-on g.met.P.Pages.asked_then None _ _ inv.goes
          (goes-same (ap (λ (r : Run). map number (places_in next r.first r.end)) run-is) c.in_ok-runs.ensures.goes);
      left = ap (λ n. (inv.seen ++ map number (places_in next run.first run.end)) ++ map number (walk n (drop (i + 1) c.args.runs.now))) next-is
          ∙ pages-next number inv.seen _ _ _ _ inv.left (walk-next next i c.args.runs.now no_run (omega arith));
      holds = λ some. subst (λ contents. IsInHand l c.args.tree.first c.args.tree.rows contents (suc c.args.below) (c.narrow_run.new.hand.next - 1) c.narrow_run.new.hand) inv.goes.reads.same_contents (c.in_ok-runs.ensures.holds some);
      count = length-set c.loop-i.runs i c.in_ok-runs.field-0 ∙ inv.count;
      same = λ j d h. get_or-set_other c.loop-i.runs i j c.in_ok-runs.field-0 d (λ e. omega arith) ∙ inv.same j d (omega arith);
      inside = one-more (λ j (r : Run). r.end ≤ level_size (shape_of l c.args.tree.rows) c.args.below) c.loop-i.runs i c.in_ok-runs.field-0 inside inv.inside c.in_ok-runs.ensures.inside;
      near = λ list shown ascend lead j d h inside.
          let behind : next ≤ suc (get_or c.args.runs.now j d).first = inv.near list shown ascend lead j d (omega arith) inside in
          let one = lead i range no_run (omega arith) in
          let first = subst (λ r. Leads l list (suc c.args.below) r run) (sym c.index-ranges-i.is) one in
          let second = lead j range d inside in
          let ranges = c.requires.same_count in
          let apart = subst (λ (r : g.row.T-Key.Denot × g.row.T-Key.Denot). l.order r.1 (get_or c.args.ranges.now j range).0 ≡ Less) (sym c.index-ranges-i.is) (ascend.apart i j range (omega arith) (omega arith)) in
          let follows = run-follows l k.key_order (leaf_room l _ _ _ k) (inner_room l _ _ _ k) c.args.tree.rows list shown.is (suc c.args.below) range (get_or c.args.ranges.now j range) run (get_or c.args.runs.now j d) first second apart in
          let most = behind-most next run.first run.end in
          omega arith;
      done = λ list shown ascend lead.
          let near = inv.near list shown ascend lead i no_run (omega arith) (omega arith) in
          let ranges = c.requires.same_count in
          let one = lead i range no_run (omega arith) in
          let leads = subst (λ r. Leads l list (suc c.args.below) r (get_or c.loop-i.runs i no_run)) (sym c.index-ranges-i.is) (subst (Leads l list (suc c.args.below) (get_or c.args.ranges.now i range)) (sym run-is) one) in
          let ordered = subst (λ (r : g.row.T-Key.Denot × g.row.T-Key.Denot). l.order r.0 r.1 ≢ Greater) (sym c.index-ranges-i.is) (ascend.each i range (omega arith)) in
          let shown_now = subst (λ contents. IsShown l contents c.args.tree.first c.args.tree.rows list) (sym inv.goes.reads.same_contents) shown in
          let near_now : next ≤ suc (get_or c.loop-i.runs i no_run).first = subst (λ (r : Run). next ≤ suc r.first) (sym run-is) near in
          let here = c.in_ok-runs.ensures.told list shown_now leads ordered near_now in
          λ j other d h. one-more (λ j r. (other : g.row.T-Key.Denot × g.row.T-Key.Denot) → r ≡ run_of l list c.args.below (get_or c.args.ranges.now j other)) c.loop-i.runs i c.in_ok-runs.field-0 inside
          (λ j d h other. inv.done list shown ascend lead j other d h)
          (λ other. here ∙ ap (run_of l list c.args.below) (c.index-ranges-i.is ∙ same_default c.args.ranges.now i range other (omega arith)))
          j d h other;
    }
