use Rattle.std.proofs.Common.{rules, ◌≡◌, ℕ, ◌+◌, ◌-◌, ◌≤◌, ◌++◌, suc, [], Some, None, List, map, drop, get_or, arith, refl, sym, ◌∙◌, ap, subst, append_assoc}
use Rattle.std.specs.List.{flat_map}
use Rattle.std.proofs.lemmas.List.{append-nil, drop_more, drop_all}
use Rattle.std.specs.declared.cmp.Ordering.TheVariants.{Less}
use Rattle.btree_image.specs.declared.runs.Run.{Run}
use Rattle.btree_image.specs.Pages.{page_number}
use Rattle.btree_image.specs.Shown.{IsShown}
use Rattle.btree_image.specs.Walks.{IsInHand, in_hand, places_in, walk, Leads, rows_of}
use Rattle.btree_image.proofs.Widths.{leaf_room, inner_room}
use Rattle.btree_image.proofs.Along.{goes-fault, none_ok, goes-then, goes-short, goes-same, goes-nowhere}
use Rattle.btree_image.proofs.Places.{pages-next, pages-done, walk-next, behind-most, hand-follows}
use Rattle.btree_image.proofs.Narrowed.{run-follows}
use Rattle.btree_image.proofs.MetRanges.{rows-ranges}
use Rattle.btree_image.proofs.gather.gather.Goals as goal

abbrev no_run : Run
no_run = record { first = 0; end = 0 }

pub loop-i-init : goal.loop-i-init
loop-i-init g c =
    let l = g.T.TreeRow.layout in
    let k = g.met.T.TreeRow.kinds in
    record {
      seen = [];
      goes = goes-nowhere [] (g.met.P.Pages.asked_none c.args.pages.now);
      left = refl;
      before = [];
      ends = refl;
      holds = λ some. absurd (omega arith);
      near = λ list shown ascend lead j d h k. omega arith;
      added = [];
      out = sym (append-nil c.args.out.now.items);
      told = λ list shown ascend lead. sym (rows-ranges l k.key_order (leaf_room l _ _ _ k) (inner_room l _ _ _ k) c.args.tree.rows list shown.is c.args.ranges.now ascend);
    }

-- what was asked for, with the next page in hand
joined : (seen before hand more rest after : List ℕ) → seen ≡ before ++ hand → hand ++ more ≡ rest ++ after → seen ++ more ≡ (before ++ rest) ++ after
joined seen before hand more rest after e f =
    ap (λ xs. xs ++ more) e ∙ (append_assoc before hand more ∙ (ap (λ xs. before ++ xs) f ∙ sym (append_assoc before rest after)))

pub returns-in_err-gather_run-clause-goes : goal.returns-in_err-gather_run-clause-goes
returns-in_err-gather_run-clause-goes g c =
    let inv = c.loop-i.invariant in
    let number = page_number g.T.TreeRow.layout c.args.tree.first c.args.tree.rows 0 in
    let test = c.loop-i-test.true in
    goes-fault c.from_residual.result _ (search rules) (goes-short c.in_err-gather_run.field-0.0 [] _ _ _ (pages-next number inv.seen _ _ _ _ inv.left (walk-next c.loop-i.hand.next c.loop-i.i c.args.runs.now no_run (omega arith)))
    (goes-then g.met.P.Pages.asked_then (Some c.in_err-gather_run.field-0.0) _ _ inv.before _ _ inv.goes inv.ends c.in_err-gather_run.ensures.goes))

pub returns-in_err-gather_run-clause-adds : goal.returns-in_err-gather_run-clause-adds
returns-in_err-gather_run-clause-adds g c =
    let inv = c.loop-i.invariant in
    let adds = c.in_err-gather_run.ensures.adds in
    (inv.added ++ adds.0, adds.1 ∙ (ap (λ xs. xs ++ adds.0) inv.out ∙ append_assoc c.args.out.now.items inv.added adds.0), λ list shown ascend lead. none_ok c.from_residual.result c.in_err-gather_run.field-0.0 _ (search rules))

pub returns-clause-goes : goal.returns-clause-goes
returns-clause-goes g c =
    let inv = c.loop-i.invariant in
    let number = page_number g.T.TreeRow.layout c.args.tree.first c.args.tree.rows 0 in
    let test = c.loop-i-test.false in
    goes-same (pages-done number inv.seen _ c.loop-i.hand.next c.loop-i.i c.args.runs.now (omega arith) inv.left) inv.goes

pub returns-clause-adds : goal.returns-clause-adds
returns-clause-adds g c =
    let l = g.T.TreeRow.layout in
    let inv = c.loop-i.invariant in
    let same = c.requires.same_count in
    let test = c.loop-i-test.false in (
      inv.added,
      inv.out,
      λ list shown ascend lead.
          sym (append-nil inv.added) ∙ (sym (ap (λ xs. inv.added ++ flat_map (rows_of l list) xs) (drop_all c.loop-i.i c.args.ranges.now (omega arith))) ∙ inv.told list shown ascend lead),
    )

pub loop-i-preserved : goal.loop-i-preserved
loop-i-preserved g c =
    let l = g.T.TreeRow.layout in
    let k = g.met.T.TreeRow.kinds in
    let inv = c.loop-i.invariant in
    let number = page_number l c.args.tree.first c.args.tree.rows 0 in
    let test = c.loop-i-test.true in
    let i = c.loop-i.i in
    let next = c.loop-i.hand.next in
    let run = get_or c.args.runs.now i no_run in
    let range = c.index-ranges-i.result in
    let adds = c.in_ok-gather_run.ensures.adds in
    let follows = hand-follows l c.args.tree.first c.args.tree.rows 0 next run.first run.end in
    let same = c.requires.same_count in
    record {
      seen = inv.seen ++ map number (places_in next run.first run.end);
      goes = goes-then g.met.P.Pages.asked_then None _ _ inv.before _ _ inv.goes inv.ends c.in_ok-gather_run.ensures.goes;
      left = ap (λ n. (inv.seen ++ map number (places_in next run.first run.end)) ++ map number (walk n (drop (i + 1) c.args.runs.now))) c.in_ok-gather_run.ensures.next
          ∙ pages-next number inv.seen _ _ _ _ inv.left (walk-next next i c.args.runs.now no_run (omega arith));
      before = inv.before ++ follows.0;
      ends = joined inv.seen inv.before _ _ follows.0 _ inv.ends follows.1
          ∙ ap (λ n. (inv.before ++ follows.0) ++ in_hand l c.args.tree.first c.args.tree.rows 0 n) (sym c.in_ok-gather_run.ensures.next);
      holds = λ some. subst (λ contents. IsInHand l c.args.tree.first c.args.tree.rows contents 0 (c.gather_run.new.hand.next - 1) c.gather_run.new.hand) inv.goes.reads.same_contents (c.in_ok-gather_run.ensures.holds some);
      near = λ list shown ascend lead j d h inside.
          let behind : next ≤ suc (get_or c.args.runs.now j d).first = inv.near list shown ascend lead j d (omega arith) inside in
          let one = lead i range no_run (omega arith) in
          let first = subst (λ r. Leads l list 0 r run) (sym c.index-ranges-i.is) one in
          let second = lead j range d inside in
          let apart = subst (λ (r : g.row.T-Key.Denot × g.row.T-Key.Denot). l.order r.1 (get_or c.args.ranges.now j range).0 ≡ Less) (sym c.index-ranges-i.is) (ascend.apart i j range (omega arith) (omega arith)) in
          let follows = run-follows l k.key_order (leaf_room l _ _ _ k) (inner_room l _ _ _ k) c.args.tree.rows list shown.is 0 range (get_or c.args.ranges.now j range) run (get_or c.args.runs.now j d) first second apart in
          let most = behind-most next run.first run.end in
          let moved = c.in_ok-gather_run.ensures.next in
          omega arith;
      added = inv.added ++ adds.0;
      out = adds.1 ∙ (ap (λ xs. xs ++ adds.0) inv.out ∙ append_assoc c.args.out.now.items inv.added adds.0);
      told = λ list shown ascend lead.
          let near = inv.near list shown ascend lead i no_run (omega arith) (omega arith) in
          let one = lead i range no_run (omega arith) in
          let leads = subst (λ r. Leads l list 0 r run) (sym c.index-ranges-i.is) one in
          let shown_now = subst (λ contents. IsShown l contents c.args.tree.first c.args.tree.rows list) (sym inv.goes.reads.same_contents) shown in
          let here = adds.2 list shown_now leads near in
          let rest = flat_map (rows_of l list) (drop (i + 1) c.args.ranges.now) in
          append_assoc inv.added adds.0 rest
          ∙ (ap (λ xs. inv.added ++ (xs ++ rest)) (here ∙ ap (rows_of l list) c.index-ranges-i.is)
          ∙ (ap (λ xs. inv.added ++ xs) (sym (ap (flat_map (rows_of l list)) (drop_more c.args.ranges.now i range (omega arith)))) ∙ inv.told list shown ascend lead));
    }
