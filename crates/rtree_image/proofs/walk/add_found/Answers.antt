use Rattle.std.proofs.Common.{rules, ◌≡◌, ◌≢◌, Some, None, ℕ, suc, ◌-◌, ◌<◌, [], ◌∷◌, ◌++◌, map, arith, refl, sym, ◌∙◌, ap, subst, append_assoc, lit≤, List, false}
use Rattle.std.specs.Prelude.{Result, Ok, Err, OnOk, AllPairs, nat_lt}
use Rattle.std.specs.List.{flat_map}
use Rattle.std.proofs.lemmas.Bool.{false_from_ne_true, ltb-true}
use Rattle.geo_base.specs.Corners.{Corners}
use Rattle.tree_shape.specs.declared.levels.Shape.{Shape}
use Rattle.tree_shape.specs.Shape.{level_size, IsRoot}
use Rattle.dev_model.specs.Asked.{fault_of, GoesAlong}
use Rattle.dev_model.specs.Laws.Trail.{reads-none, reads-on}
use Rattle.tree_shape.specs.Laws.Places.{root_unique}
use Rattle.rtree_image.specs.declared.rows.RtRow.{RtRow}
use Rattle.rtree_image.specs.Image.{tree_of, rows_below, IsShown, page_number}
use Rattle.rtree_image.specs.Visits.{rows_inside, visited_at, visited_from, visited_pages}
use Rattle.rtree_image.specs.Steps.{AscendWithin, ReadsTree, children_met}
use Rattle.rtree_image.proofs.Ascending.{Above, once-none, above-none, pairs-once, within-one}
use Rattle.rtree_image.proofs.Downward.{goes-short, goes-last, level-once, level-above, way-next, way-last}
use Rattle.rtree_image.proofs.Pruned.{next_places, found_rows}
use Rattle.rtree_image.proofs.walk.add_found.Goals as goal

on_ok : {X E : Type 0} (result : Result X E) (P Q : Type 0) → (P → Q) → OnOk result P → OnOk result Q
on_ok (Ok x) P Q f p = f p
on_ok (Err e) P Q f p = tt

pub loop-level-init : goal.loop-level-init
loop-level-init g c =
    let s = tree_of c.args.tree.rows in
    let root = c.root_level-level.ensures.root in
    let one : c.push.new.self.items ≡ 0 ∷ [] = search rules in
    record {
      low = c.root_level-level.ensures.low;
      up_to_root = root.lowest;
      top = c.root_level-level.result;
      at_root = root;
      down = omega arith;
      places = subst (λ size. AscendWithin 0 size c.push.new.self.items) (sym root.alone) (subst (AscendWithin 0 1) (sym one) within-one);
      seen = [];
      reads = reads-none [] (g.met.P.Pages.asked_none c.args.pages.now);
      once = once-none;
      above = above-none _;
      told = λ list shown. one ∙ sym (at_the_root s list c.args.rect.now c.root_level-level.result);
      way = λ list shown. refl;
    }
  where
    at_the_root : (s : Shape) (list : List RtRow) (rect : Corners) (root : ℕ) → visited_at s list rect root root ≡ 0 ∷ []
    at_the_root s list rect root = let e : nat_lt root root ≡ false = false_from_ne_true _ (λ less. let lt = ltb-true root root less in omega arith) in rw e refl

-- the level of an iteration, as one above the next
above : (level : ℕ) → 0 < level → level ≡ suc (level - 1)
above level h = omega arith

pub returns-in_err-visit_level-clause-reads : goal.returns-in_err-visit_level-clause-reads
returns-in_err-visit_level-clause-reads g c =
    let s = tree_of c.args.tree.rows in
    let first = c.args.tree.first in
    let inv = c.loop-level.invariant in
    let below = c.loop-level.level - 1 in
    let e = above c.loop-level.level c.loop-level-test.true in
    let fault = c.in_err-visit_level.field-0.0 in
    let there = c.in_err-visit_level.ensures.reads in
    let places = c.as_slice.result.now in
    let is : places ≡ c.loop-level.places.items = c.as_slice.ensures.value in
    let ascends : AscendWithin 0 (level_size s (suc below)) places = subst (AscendWithin 0 (level_size s (suc below))) (sym is) (subst (λ n. AscendWithin 0 (level_size s n) c.loop-level.places.items) e inv.places) in
    let top = subst (λ n. Above (page_number s first n (level_size s n)) inv.seen) e inv.above in
    let reads : (seen : List ℕ) × ReadsTree c.args.rect.now first c.args.tree.rows g.P.Pages.lending g.P.Pages.asked c.args.pages.now c.visit_level.new.pages (Some fault) seen × AllPairs (λ a b. a ≢ b) seen
    × ((list : List RtRow) (root : ℕ) → IsShown (g.P.Pages.lending c.args.pages.now).contents first c.args.tree.rows list → IsRoot s root → GoesAlong (Some fault) seen (visited_pages s list c.args.rect.now first root)) = (
      inv.seen ++ map (page_number s first (suc below)) there.0,
      reads-on g.met.P.Pages.asked_then (Some fault) inv.reads there.1,
      pairs-once _ (level-once s first (suc below) inv.seen there.0 places inv.once top ascends (Some fault) there.2),
      λ list root shown at_root.
          let same = root_unique s inv.top root inv.at_root at_root in
          let told = is ∙ subst (λ n. c.loop-level.places.items ≡ visited_at s list c.args.rect.now inv.top n) e (inv.told list shown) in
          let way = subst (λ n. inv.seen ++ visited_from s list c.args.rect.now first inv.top n ≡ visited_pages s list c.args.rect.now first inv.top) e (inv.way list shown) in
          subst (λ root. GoesAlong (Some fault) (inv.seen ++ map (page_number s first (suc below)) there.0) (visited_pages s list c.args.rect.now first root)) same
          (goes-short (page_number s first (suc below)) inv.seen there.0 places (visited_pages s list c.args.rect.now first inv.top) fault (visited_from s list c.args.rect.now first inv.top below) there.2
          (way-next s list c.args.rect.now first inv.top inv.seen places (visited_pages s list c.args.rect.now first inv.top) below told way)),
    ) in
    search rules

pub loop-level-preserved : goal.loop-level-preserved
loop-level-preserved g c =
    let s = tree_of c.args.tree.rows in
    let first = c.args.tree.first in
    let rect = c.args.rect.now in
    let inv = c.loop-level.invariant in
    let below = c.loop-level.level - 1 in
    let e = above c.loop-level.level c.loop-level-test.true in
    let number = page_number s first (suc below) in
    let there = c.in_ok-visit_level.ensures.reads in
    let places = c.as_slice.result.now in
    let is : places ≡ c.loop-level.places.items = c.as_slice.ensures.value in
    let ascends : AscendWithin 0 (level_size s (suc below)) places = subst (AscendWithin 0 (level_size s (suc below))) (sym is) (subst (λ n. AscendWithin 0 (level_size s n) c.loop-level.places.items) e inv.places) in
    let top = subst (λ n. Above (page_number s first n (level_size s n)) inv.seen) e inv.above in
    record {
      low = let low = inv.low in omega arith;
      up_to_root = λ n h. inv.up_to_root n (omega arith);
      top = inv.top;
      at_root = inv.at_root;
      down = let down = inv.down in omega arith;
      places = c.in_ok-visit_level.ensures.ascends;
      seen = inv.seen ++ map number places;
      reads = reads-on g.met.P.Pages.asked_then None inv.reads (subst (λ ps. ReadsTree rect first c.args.tree.rows g.P.Pages.lending g.P.Pages.asked c.loop-level.pages c.visit_level.new.pages None (map number ps)) there.2 there.1);
      once = level-once s first (suc below) inv.seen places places inv.once top ascends None refl;
      above = level-above s first below inv.seen places top ascends;
      told = λ list shown.
          let now = subst (λ contents. IsShown contents first c.args.tree.rows list) (sym inv.reads.same_contents) shown in
          let told = is ∙ subst (λ n. c.loop-level.places.items ≡ visited_at s list rect inv.top n) e (inv.told list shown) in
          c.in_ok-visit_level.ensures.told list now
          ∙ (ap (flat_map (children_met s list rect below)) told
          ∙ next_places s (lit≤ tt) (lit≤ tt) list shown.count rect inv.top below inv.at_root (let down = inv.down in omega arith));
      way = λ list shown.
          let told = is ∙ subst (λ n. c.loop-level.places.items ≡ visited_at s list rect inv.top n) e (inv.told list shown) in
          let way = subst (λ n. inv.seen ++ visited_from s list rect first inv.top n ≡ visited_pages s list rect first inv.top) e (inv.way list shown) in
          append_assoc inv.seen (map number places) (visited_from s list rect first inv.top below)
          ∙ way-next s list rect first inv.top inv.seen places (visited_pages s list rect first inv.top) below told way;
    }

pub returns-clause-found : goal.returns-clause-found
returns-clause-found g c list shown =
    let s = tree_of c.args.tree.rows in
    let rect = c.args.rect.now in
    let inv = c.loop-level.invariant in
    let z : c.loop-level.level ≡ 0 = omega arith in
    let now = subst (λ contents. IsShown contents c.args.tree.first c.args.tree.rows list) (sym inv.reads.same_contents) shown in
    let told : c.as_slice-2.result.now ≡ visited_at s list rect inv.top 0 = c.as_slice-2.ensures.value ∙ subst (λ n. c.loop-level.places.items ≡ visited_at s list rect inv.top n) z (inv.told list shown) in
    on_ok c.visit_leaves.result _ _ (λ found. found ∙ ap (λ rows. c.args.out.now.items ++ rows) (ap (flat_map (λ at. rows_inside rect (rows_below s list 0 at))) told
    ∙ found_rows s (lit≤ tt) (lit≤ tt) list shown.count rect inv.top inv.at_root)) (c.visit_leaves.ensures.told list now)

pub returns-clause-reads : goal.returns-clause-reads
returns-clause-reads g c =
    let s = tree_of c.args.tree.rows in
    let first = c.args.tree.first in
    let rect = c.args.rect.now in
    let inv = c.loop-level.invariant in
    let z : c.loop-level.level ≡ 0 = omega arith in
    let number = page_number s first 0 in
    let fault = fault_of c.visit_leaves.result in
    let there = c.visit_leaves.ensures.reads in
    let places = c.as_slice-2.result.now in
    let is : places ≡ c.loop-level.places.items = c.as_slice-2.ensures.value in
    let ascends : AscendWithin 0 (level_size s 0) places = subst (AscendWithin 0 (level_size s 0)) (sym is) (subst (λ n. AscendWithin 0 (level_size s n) c.loop-level.places.items) z inv.places) in
    let top = subst (λ n. Above (page_number s first n (level_size s n)) inv.seen) z inv.above in (
      inv.seen ++ map number there.0,
      reads-on g.met.P.Pages.asked_then fault inv.reads there.1,
      pairs-once _ (level-once s first 0 inv.seen there.0 places inv.once top ascends fault there.2),
      λ list root shown at_root.
          let same = root_unique s inv.top root inv.at_root at_root in
          let told = is ∙ subst (λ n. c.loop-level.places.items ≡ visited_at s list rect inv.top n) z (inv.told list shown) in
          let way = subst (λ n. inv.seen ++ visited_from s list rect first inv.top n ≡ visited_pages s list rect first inv.top) z (inv.way list shown) in
          subst (λ root. GoesAlong fault (inv.seen ++ map number there.0) (visited_pages s list rect first root)) same
          (goes-last number inv.seen there.0 places (visited_pages s list rect first inv.top) fault there.2
          (way-last s list rect first inv.top inv.seen places (visited_pages s list rect first inv.top) told way)),
    )
