use Rattle.std.proofs.Common.{rules, ◌≡◌, ℕ, ◌+◌, ◌-◌, ◌<◌, ◌≤◌, ◌++◌, suc, [], ◌∷◌, Some, None, map, length, All, arith, sym, ◌∙◌, ap, subst, append_assoc}
use Rattle.std.proofs.lemmas.List.{append-nil}
use Rattle.std.proofs.lemmas.Bool.{eqb-true, eqb-false}
use Rattle.btree_image.specs.declared.runs.Run.{Run}
use Rattle.tree_shape.specs.Shape.{level_size, level_start}
use Rattle.btree_image.specs.Image.{shape_of}
use Rattle.btree_image.specs.Pages.{page_number}
use Rattle.btree_image.specs.Shown.{IsShown}
use Rattle.btree_image.specs.Visited.{met_below, visited_pages}
use Rattle.dev_model.specs.Asked.{fault_of}
use Rattle.btree_image.specs.Walks.{walk, AllLead}
use Rattle.btree_image.proofs.Widths.{leaf_room, inner_room}
use Rattle.tree_shape.specs.Laws.Places.{root_unique}
use Rattle.dev_model.specs.Laws.Trail.{along-whole}
use Rattle.btree_image.proofs.Along.{goes-fault, along-fault, none_ok, goes-on, goes-same, goes-nowhere, ok_always}
use Rattle.btree_image.proofs.Places.{place-one}
use Rattle.btree_image.proofs.Once.{still-once, still-above}
use Rattle.btree_image.proofs.Visits.{length-ones, ends-ones, visits-none, rows-none, visits-root, leads-root, leads-runs, visits-next, visits-last}
use Rattle.btree_image.proofs.over_levels.scan_levels.Goals as goal

pub returns-then-is_empty-clause-way : goal.returns-then-is_empty-clause-way
returns-then-is_empty-clause-way g c =
    let l = g.T.TreeRow.layout in
    let k = g.met.T.TreeRow.kinds in
    let number = page_number l c.args.tree.first c.args.tree.rows c.root_level-level.result in
    let empty : length c.args.ranges.now ≡ 0 = eqb-true (length c.args.ranges.now) 0 (sym c.if-is_empty.ensures) in (
      number 0 ∷ [],
      goes-same (sym (place-one number 0 0 (omega arith))) c.reach.ensures.goes,
      (λ i j d lt k. absurd (omega arith)),
      λ list root shown ascend at_root. along-whole (fault_of c.reach.result) _ _
          (ap (λ n. page_number l c.args.tree.first c.args.tree.rows n 0 ∷ []) (root_unique (shape_of l c.args.tree.rows) c.root_level-level.result root c.root_level-level.ensures.root at_root)
          ∙ visits-none l k.key_order (leaf_room l _ _ _ k) (inner_room l _ _ _ k) c.args.tree.rows list shown.is c.args.tree.first c.args.ranges.now empty root),
    )

pub returns-then-is_empty-clause-adds : goal.returns-then-is_empty-clause-adds
returns-then-is_empty-clause-adds g c =
    let l = g.T.TreeRow.layout in
    let k = g.met.T.TreeRow.kinds in
    let empty : length c.args.ranges.now ≡ 0 = eqb-true (length c.args.ranges.now) 0 (sym c.if-is_empty.ensures) in (
      [],
      sym (append-nil c.args.out.now.items),
      λ list shown ascend. ok_always c.reach.result _
          (rows-none l k.key_order (leaf_room l _ _ _ k) (inner_room l _ _ _ k) c.args.tree.rows list shown.is c.args.tree.first c.args.ranges.now empty),
    )

pub loop-level-init : goal.loop-level-init
loop-level-init g c =
    let l = g.T.TreeRow.layout in
    let k = g.met.T.TreeRow.kinds in
    let root = c.root_level-level.ensures.root in
    let s = shape_of l c.args.tree.rows in
    let some : 0 < length c.args.ranges.now = let e = eqb-false (length c.args.ranges.now) 0 (sym c.if-is_empty.ensures) in omega (arith, e) in
    record {
      low = c.root_level-level.ensures.low;
      up_to_root = root.lowest;
      count = ap length c.requires.runs ∙ length-ones (length c.args.ranges.now);
      inside = ends-ones (length c.args.ranges.now) _ c.args.runs.now c.requires.runs (let alone = root.alone in omega arith);
      seen = [];
      goes = goes-nowhere [] (g.met.P.Pages.asked_none c.args.pages.now);
      once = λ i j d lt k. absurd (omega arith);
      above = λ i d k. absurd (omega arith);
      lead = λ list shown ascend. leads-root l k.key_order (leaf_room l _ _ _ k) (inner_room l _ _ _ k) c.args.tree.rows list shown.is c.args.tree.first c.args.ranges.now c.args.runs.now c.requires.runs c.root_level-level.result root;
      left = λ list other shown ascend at_root.
          visits-root l k.key_order (leaf_room l _ _ _ k) (inner_room l _ _ _ k) c.args.tree.rows list shown.is c.args.tree.first c.args.ranges.now c.args.runs.now c.requires.runs some c.root_level-level.result
          ∙ ap (visited_pages l list c.args.ranges.now c.args.tree.first) (root_unique s c.root_level-level.result other root at_root);
    }

-- the level of an iteration, as one above the next
above_next : (level : ℕ) → 0 < level → level ≡ suc (level - 1)
above_next level h = omega arith

pub loop-level-preserved : goal.loop-level-preserved
loop-level-preserved g c =
    let l = g.T.TreeRow.layout in
    let k = g.met.T.TreeRow.kinds in
    let s = shape_of l c.args.tree.rows in
    let inv = c.loop-level.invariant in
    let below = c.loop-level.level - 1 in
    let e = above_next c.loop-level.level c.loop-level-test.true in
    let ends = subst (λ n. All (λ (run : Run). run.end ≤ level_size s n) c.loop-level.runs) e inv.inside in
    let above = subst (λ n. All (λ page. c.args.tree.first + level_start s (suc n) ≤ page) inv.seen) e inv.above in
    let now = map (page_number l c.args.tree.first c.args.tree.rows (suc below)) (walk 0 c.loop-level.runs) in
    let same : length c.narrow.new.runs ≡ length c.args.ranges.now = c.in_ok-narrow.ensures.count ∙ inv.count in
    record {
      low = let low = inv.low in omega arith;
      up_to_root = λ j h. inv.up_to_root j (omega arith);
      count = same;
      inside = c.in_ok-narrow.ensures.inside;
      seen = inv.seen ++ now;
      goes = goes-on g.met.P.Pages.asked_then None _ _ inv.goes c.in_ok-narrow.ensures.goes;
      once = still-once l c.args.tree.first c.args.tree.rows (suc below) c.loop-level.runs ends inv.seen inv.once above;
      above = still-above l c.args.tree.first c.args.tree.rows (suc below) c.loop-level.runs ends inv.seen above;
      lead = λ list shown ascend.
          let lead = subst (λ n. AllLead l list n c.args.ranges.now c.loop-level.runs) e (inv.lead list shown ascend) in
          let shown_now = subst (λ contents. IsShown l contents c.args.tree.first c.args.tree.rows list) (sym inv.goes.reads.same_contents) shown in
          leads-runs l k.key_order (leaf_room l _ _ _ k) (inner_room l _ _ _ k) c.args.tree.rows list shown.is c.args.tree.first c.args.ranges.now c.narrow.new.runs below
          (c.in_ok-narrow.ensures.told list shown_now ascend lead);
      left = λ list root shown ascend at_root.
          let lead = subst (λ n. AllLead l list n c.args.ranges.now c.loop-level.runs) e (inv.lead list shown ascend) in
          let shown_now = subst (λ contents. IsShown l contents c.args.tree.first c.args.tree.rows list) (sym inv.goes.reads.same_contents) shown in
          visits-next l k.key_order (leaf_room l _ _ _ k) (inner_room l _ _ _ k) c.args.tree.rows list shown.is c.args.tree.first c.args.ranges.now ascend inv.seen now _ below c.narrow.new.runs same
          (c.in_ok-narrow.ensures.told list shown_now ascend lead)
          (subst (λ n. inv.seen ++ (map (page_number l c.args.tree.first c.args.tree.rows n) (walk 0 c.loop-level.runs) ++ met_below l list c.args.ranges.now c.args.tree.first n)
          ≡ visited_pages l list c.args.ranges.now c.args.tree.first root) e (inv.left list root shown ascend at_root));
    }

pub returns-in_err-narrow-clause-way : goal.returns-in_err-narrow-clause-way
returns-in_err-narrow-clause-way g c =
    let l = g.T.TreeRow.layout in
    let s = shape_of l c.args.tree.rows in
    let inv = c.loop-level.invariant in
    let fault = c.in_err-narrow.field-0.0 in
    let below = c.loop-level.level - 1 in
    let e = above_next c.loop-level.level c.loop-level-test.true in
    let ends = subst (λ n. All (λ (run : Run). run.end ≤ level_size s n) c.loop-level.runs) e inv.inside in
    let above = subst (λ n. All (λ page. c.args.tree.first + level_start s (suc n) ≤ page) inv.seen) e inv.above in
    let now = map (page_number l c.args.tree.first c.args.tree.rows (suc below)) (walk 0 c.loop-level.runs) in (
      inv.seen ++ now,
      goes-fault c.from_residual.result fault (search rules) (goes-on g.met.P.Pages.asked_then (Some fault) _ _ inv.goes c.in_err-narrow.ensures.goes),
      still-once l c.args.tree.first c.args.tree.rows (suc below) c.loop-level.runs ends inv.seen inv.once above,
      λ list root shown ascend at_root.
          let so_far = subst (λ n. inv.seen ++ (map (page_number l c.args.tree.first c.args.tree.rows n) (walk 0 c.loop-level.runs) ++ met_below l list c.args.ranges.now c.args.tree.first n)
          ≡ visited_pages l list c.args.ranges.now c.args.tree.first root) e (inv.left list root shown ascend at_root) in
          along-fault c.from_residual.result fault (search rules) _ _ (met_below l list c.args.ranges.now c.args.tree.first (suc below), append_assoc inv.seen now _ ∙ so_far),
    )

pub returns-in_err-narrow-clause-adds : goal.returns-in_err-narrow-clause-adds
returns-in_err-narrow-clause-adds g c = ([], sym (append-nil c.args.out.now.items), λ list shown ascend. none_ok c.from_residual.result c.in_err-narrow.field-0.0 _ (search rules))

pub returns-clause-way : goal.returns-clause-way
returns-clause-way g c =
    let l = g.T.TreeRow.layout in
    let k = g.met.T.TreeRow.kinds in
    let s = shape_of l c.args.tree.rows in
    let inv = c.loop-level.invariant in
    let e : c.loop-level.level ≡ 0 = omega arith in
    let ends = subst (λ n. All (λ (run : Run). run.end ≤ level_size s n) c.loop-level.runs) e inv.inside in
    let above = subst (λ n. All (λ page. c.args.tree.first + level_start s (suc n) ≤ page) inv.seen) e inv.above in
    let now = map (page_number l c.args.tree.first c.args.tree.rows 0) (walk 0 c.loop-level.runs) in (
      inv.seen ++ now,
      goes-on g.met.P.Pages.asked_then (fault_of c.gather.result) _ _ inv.goes c.gather.ensures.goes,
      still-once l c.args.tree.first c.args.tree.rows 0 c.loop-level.runs ends inv.seen inv.once above,
      λ list root shown ascend at_root.
          let so_far = subst (λ n. inv.seen ++ (map (page_number l c.args.tree.first c.args.tree.rows n) (walk 0 c.loop-level.runs) ++ met_below l list c.args.ranges.now c.args.tree.first n)
          ≡ visited_pages l list c.args.ranges.now c.args.tree.first root) e (inv.left list root shown ascend at_root) in
          along-whole (fault_of c.gather.result) _ _
          (visits-last l k.key_order (leaf_room l _ _ _ k) (inner_room l _ _ _ k) c.args.tree.rows list shown.is c.args.tree.first c.args.ranges.now inv.seen now _ so_far),
    )

pub returns-clause-adds : goal.returns-clause-adds
returns-clause-adds g c =
    let l = g.T.TreeRow.layout in
    let inv = c.loop-level.invariant in
    let e : c.loop-level.level ≡ 0 = omega arith in
    let adds = c.gather.ensures.adds in (
      adds.0,
      adds.1,
      λ list shown ascend.
          adds.2 list (subst (λ contents. IsShown l contents c.args.tree.first c.args.tree.rows list) (sym inv.goes.reads.same_contents) shown) ascend
          (subst (λ n. AllLead l list n c.args.ranges.now c.loop-level.runs) e (inv.lead list shown ascend)),
    )
