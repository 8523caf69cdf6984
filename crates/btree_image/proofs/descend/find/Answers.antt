use Rattle.std.proofs.Common.{rules, List, ◌≡◌, ℕ, suc, ◌-◌, ◌<◌, [], ◌++◌, Some, None, arith, sym, subst}
use Rattle.std.specs.Prelude.{Err}
use Rattle.dev_model.specs.Asked.{fault_of, GoesAlong}
use Rattle.btree_image.specs.Reading.{ReadsTree}
use Rattle.tree_shape.specs.Shape.{IsPlace, IsRoot}
use Rattle.btree_image.specs.Image.{shape_of}
use Rattle.btree_image.specs.Given.{row_with_key}
use Rattle.btree_image.specs.Shown.{IsShown}
use Rattle.btree_image.specs.Descent.{place_of_key, descent}
use Rattle.btree_image.proofs.Widths.{leaf_room, inner_room}
use Rattle.tree_shape.specs.Laws.Places.{place_below, rows_above}
use Rattle.dev_model.specs.Laws.Trail.{reads-none, reads-on, along-whole}
use Rattle.btree_image.proofs.Sound.{found_or_failed}
use Rattle.btree_image.proofs.Trail.{path_next, path_last, path_first, root_place}
use Rattle.btree_image.proofs.descend.find.Goals as goal

pub loop-level-init : goal.loop-level-init
loop-level-init g c =
    let l = g.T.TreeRow.layout in
    let k = g.met.T.TreeRow.kinds in
    let root = c.root_level-level.ensures.root in
    record {
      place = record { inside = let one = root.alone in omega arith; up_to_root = root.lowest };
      low = c.root_level-level.ensures.low;
      seen = [];
      reads = reads-none [] (g.met.P.Pages.asked_none c.args.pages.now);
      told = λ list shown. root_place l c.args.tree.first c.args.tree.rows list c.args.key.now shown.is k.key_order (leaf_room l _ _ _ k) (inner_room l _ _ _ k) c.root_level-level.result root;
      way = λ list other shown at_root. path_first l c.args.tree.first c.args.tree.rows list c.args.key.now shown.is c.root_level-level.result other root at_root;
    }

-- the level of an iteration, as one above the next
above : (level : ℕ) → 0 < level → level ≡ suc (level - 1)
above level h = omega arith

pub returns-in_err-at-clause-found : goal.returns-in_err-at-clause-found
returns-in_err-at-clause-found g c list shown =
    let l = g.T.TreeRow.layout in
    let k = g.met.T.TreeRow.kinds in
    let reads = reads-on g.met.P.Pages.asked_then (Some c.in_err-at.field-0.0) c.loop-level.invariant.reads c.in_err-at.ensures.reads in
    let failed = found_or_failed l (leaf_room l _ _ _ k) (inner_room l _ _ _ k) c.args.tree.first c.args.tree.rows list (λ level at place. g.met.P.Pages.lent_fits c.args.pages.now _ (c.requires level at place))
    _ shown (Err c.in_err-at.field-0.0) (λ found. found ≡ row_with_key l list c.args.key.now) tt c.in_err-at.ensures.needs_no_memory reads.damaged in
    search rules

pub returns-in_err-at-clause-reads : goal.returns-in_err-at-clause-reads
returns-in_err-at-clause-reads g c =
    let l = g.T.TreeRow.layout in
    let e = above c.loop-level.level c.loop-level-test.true in
    let inv = c.loop-level.invariant in
    let reads : (seen : List ℕ) × ReadsTree l c.args.tree.first c.args.tree.rows g.P.Pages.lending g.P.Pages.asked c.args.pages.now c.step.new.pages (Some c.in_err-at.field-0.0) [] seen
    × ((list : List g.row.T.Denot) (root : ℕ) → IsShown l (g.P.Pages.lending c.args.pages.now).contents c.args.tree.first c.args.tree.rows list → IsRoot (shape_of l c.args.tree.rows) root
    → GoesAlong (Some c.in_err-at.field-0.0) seen (descent l c.args.tree.first list c.args.key.now root)) = (
      _,
      reads-on g.met.P.Pages.asked_then (Some c.in_err-at.field-0.0) inv.reads c.in_err-at.ensures.reads,
      λ list root shown at_root.
          let at = subst (λ n. c.loop-level.at ≡ place_of_key l list c.args.key.now n) e (inv.told list shown) in
          let way = subst (λ n. inv.seen ++ descent l c.args.tree.first list c.args.key.now n ≡ descent l c.args.tree.first list c.args.key.now root) e (inv.way list root shown at_root) in (
            descent l c.args.tree.first list c.args.key.now (c.loop-level.level - 1),
            path_next l c.args.tree.first c.args.tree.rows list c.args.key.now shown.is (c.loop-level.level - 1) c.loop-level.at inv.seen _ at way,
          ),
    ) in
    search rules

pub loop-level-preserved : goal.loop-level-preserved
loop-level-preserved g c =
    let l = g.T.TreeRow.layout in
    let k = g.met.T.TreeRow.kinds in
    let e = above c.loop-level.level c.loop-level-test.true in
    let inv = c.loop-level.invariant in
    let place = subst (λ n. IsPlace (shape_of l c.args.tree.rows) n c.loop-level.at) e inv.place in
    let some = rows_above (shape_of l c.args.tree.rows) (c.loop-level.level - 1) c.loop-level.at (leaf_room l _ _ _ k) place in
    record {
      place = place_below (shape_of l c.args.tree.rows) (c.loop-level.level - 1) c.loop-level.at _ place c.in_ok-at.ensures.inside;
      low = let low = inv.low in omega arith;
      seen = _;
      reads = reads-on g.met.P.Pages.asked_then None inv.reads c.in_ok-at.ensures.reads;
      told = λ list shown.
          c.in_ok-at.ensures.told list (subst (λ contents. IsShown l contents c.args.tree.first c.args.tree.rows list) (sym inv.reads.same_contents) shown) some
          (subst (λ n. c.loop-level.at ≡ place_of_key l list c.args.key.now n) e (inv.told list shown));
      way = λ list root shown at_root.
          let at = subst (λ n. c.loop-level.at ≡ place_of_key l list c.args.key.now n) e (inv.told list shown) in
          let way = subst (λ n. inv.seen ++ descent l c.args.tree.first list c.args.key.now n ≡ descent l c.args.tree.first list c.args.key.now root) e (inv.way list root shown at_root) in
          path_next l c.args.tree.first c.args.tree.rows list c.args.key.now shown.is (c.loop-level.level - 1) c.loop-level.at inv.seen _ at way;
    }

pub returns-clause-found : goal.returns-clause-found
returns-clause-found g c list shown =
    let l = g.T.TreeRow.layout in
    let k = g.met.T.TreeRow.kinds in
    let z : c.loop-level.level ≡ 0 = omega arith in
    let inv = c.loop-level.invariant in
    let reads = reads-on g.met.P.Pages.asked_then (fault_of c.leaf_row.result) inv.reads c.leaf_row.ensures.reads in
    found_or_failed l (leaf_room l _ _ _ k) (inner_room l _ _ _ k) c.args.tree.first c.args.tree.rows list (λ level at place. g.met.P.Pages.lent_fits c.args.pages.now _ (c.requires level at place))
    _ shown c.leaf_row.result (λ found. found ≡ row_with_key l list c.args.key.now)
    (c.leaf_row.ensures.told list (subst (λ contents. IsShown l contents c.args.tree.first c.args.tree.rows list) (sym inv.reads.same_contents) shown)
    (subst (λ n. c.loop-level.at ≡ place_of_key l list c.args.key.now n) z (inv.told list shown))) c.leaf_row.ensures.needs_no_memory reads.damaged

pub returns-clause-reads : goal.returns-clause-reads
returns-clause-reads g c =
    let l = g.T.TreeRow.layout in
    let z : c.loop-level.level ≡ 0 = omega arith in
    let inv = c.loop-level.invariant in (
      _,
      reads-on g.met.P.Pages.asked_then (fault_of c.leaf_row.result) inv.reads c.leaf_row.ensures.reads,
      λ list root shown at_root.
          let at = subst (λ n. c.loop-level.at ≡ place_of_key l list c.args.key.now n) z (inv.told list shown) in
          let way = subst (λ n. inv.seen ++ descent l c.args.tree.first list c.args.key.now n ≡ descent l c.args.tree.first list c.args.key.now root) z (inv.way list root shown at_root) in
          along-whole (fault_of c.leaf_row.result) _ _ (path_last l c.args.tree.first c.args.tree.rows list c.args.key.now shown.is c.loop-level.at inv.seen _ at way),
    )
