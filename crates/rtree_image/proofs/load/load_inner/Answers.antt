use Rattle.std.proofs.Common.{arith, lit≤, ◌≡◌, suc, ◌+◌, ◌-◌, ◌*◌, ◌≤◌, ◌++◌, ◌∷◌, [], ◌∙◌, sym, ap, subst, length, map, min, refl}
use Rattle.std.proofs.lemmas.List.{length-map}
use Rattle.std.proofs.Math.Numerals.{add-one}
use Rattle.std.specs.Int.{to_be_bytes, w32}
use Rattle.page_codec.specs.Page.{row_width, kind_of, ShowsRows}
use Rattle.page_codec.specs.Written.{page_of}
use Rattle.page_codec.specs.Adding.{AllOfWidth, IsKind}
use Rattle.page_codec.specs.Laws.Written.{ShowsRows-page_of}
use Rattle.page_codec.specs.declared.kinds.TheConstants.{RTREE_INNER}
use Rattle.tree_shape.specs.Shape.{level_size, numbers, children_at}
use Rattle.tree_shape.specs.Laws.Numbers.{length-numbers, children_at-numbers, one_more_number}
use Rattle.tree_shape.specs.Laws.Places.{pages_fit, page_begins, first_row}
use Rattle.page_codec.specs.Laws.Writing.{kind_of-page_of, wide-snoc, room}
use Rattle.rtree_image.specs.Bounds.{bounding, bounds_bytes}
use Rattle.rtree_image.specs.Image.{tree_of, level_rows, child_row, rows_below}
use Rattle.rtree_image.proofs.load.load_inner.Goals as goal

pub overflow_mul-from : goal.overflow_mul-from
overflow_mul-from c =
    let begins = page_begins (tree_of (length c.args.rows.now)) (lit≤ tt) c.args.below c.args.at c.requires.place.inside in
    omega (arith, begins, c.per_inner-many.ensures, ap (λ n. c.args.at * n) c.per_inner-many.ensures, c.level_at-here.ensures.size, c.level_at-here.ensures.size_below)

pub overflow_add-from : goal.overflow_add-from
overflow_add-from c =
    let begins = page_begins (tree_of (length c.args.rows.now)) (lit≤ tt) c.args.below c.args.at c.requires.place.inside in
    omega (arith, begins, c.per_inner-many.ensures, ap (λ n. c.args.at * n) c.per_inner-many.ensures, c.level_at-here.ensures.size, c.level_at-here.ensures.size_below)

pub loop-child-init : goal.loop-child-init
unfolding numbers
loop-child-init c =
    let s = tree_of (length c.args.rows.now) in
    let from = c.args.at * c.per_inner-many.result in
    let z : from - from ≡ 0 = omega arith in
    let p : c.new_page.new.page ≡ page_of RTREE_INNER (suc c.args.below) [] = c.new_page.ensures ∙ ap (λ level. page_of RTREE_INNER level []) (add-one c.args.below) in
    record {
      written = p ∙ ap (λ n. page_of RTREE_INNER (suc c.args.below) (map (child_row s c.args.rows.now c.args.below) (numbers from n))) (sym z);
      wide = subst (λ n. AllOfWidth (row_width RTREE_INNER) (map (child_row s c.args.rows.now c.args.below) (numbers from n))) (sym z) tt;
    }

pub child_bounds-bounds-requires-clause-inside : goal.child_bounds-bounds-requires-clause-inside
child_bounds-bounds-requires-clause-inside c =
    first_row (tree_of (length c.args.rows.now)) c.args.below c.args.at c.loop-child.child c.step_of-step.result (lit≤ tt) (lit≤ tt) c.requires.place
    (omega (arith, c.min-to.ensures, c.level_at-here.ensures.size)) c.step_of-step.ensures.span

pub overflow_cast-here : goal.overflow_cast-here
overflow_cast-here c =
    let fits = pages_fit (tree_of (length c.args.rows.now)) (lit≤ tt) (lit≤ tt) c.requires.count c.args.below (let h = c.requires.level in omega arith) in
    omega (arith, fits, c.level_at-here.ensures.start, c.level_at-here.ensures.size, c.min-to.ensures)

pub put_row-requires-clause-kind : goal.put_row-requires-clause-kind
put_row-requires-clause-kind c = subst IsKind (sym (ap kind_of c.loop-child.invariant.written ∙ kind_of-page_of RTREE_INNER (suc c.args.below) _)) (lit≤ tt)

pub put_row-requires-clause-width : goal.put_row-requires-clause-width
put_row-requires-clause-width c =
    let kind : kind_of c.loop-child.page ≡ RTREE_INNER = ap kind_of c.loop-child.invariant.written ∙ kind_of-page_of RTREE_INNER (suc c.args.below) _ in
    ap length c.child_bytes.ensures ∙ ap row_width (sym kind)

pub put_row-requires-clause-room : goal.put_row-requires-clause-room
put_row-requires-clause-room c =
    let from = c.args.at * c.per_inner-many.result in
    let f = child_row (tree_of (length c.args.rows.now)) c.args.rows.now c.args.below in
    let n : length (map f (numbers from (c.loop-child.child - from))) ≡ c.loop-child.child - from =
    length-map (numbers from (c.loop-child.child - from)) f ∙ length-numbers from (c.loop-child.child - from) in
    room RTREE_INNER (suc c.args.below) 0 _ _ c.loop-child.page c.loop-child.invariant.written n (omega (arith, c.min-to.ensures, c.per_inner-many.ensures))

pub loop-child-preserved : goal.loop-child-preserved
loop-child-preserved c =
    let s = tree_of (length c.args.rows.now) in
    let from = c.args.at * c.per_inner-many.result in
    let child = c.loop-child.child in
    let f = child_row s c.args.rows.now c.args.below in
    let more = one_more_number f from child (omega arith) in
    let row_is : c.child_bytes.result ≡ f child =
    c.child_bytes.ensures
    ∙ (ap (λ b. bounds_bytes b ++ to_be_bytes w32 (c.level_at-here.result.start + child)) (c.child_bounds-bounds.ensures c.args.below c.step_of-step.ensures.span)
    ∙ ap (λ start. bounds_bytes (bounding (rows_below s c.args.rows.now c.args.below child)) ++ to_be_bytes w32 (start + child)) c.level_at-here.ensures.start) in
    record {
      written = c.put_row.ensures.written RTREE_INNER (suc c.args.below) _ c.loop-child.invariant.written c.loop-child.invariant.wide
          ∙ (ap (λ row. page_of RTREE_INNER (suc c.args.below) (map f (numbers from (child - from)) ++ row ∷ [])) row_is ∙ ap (page_of RTREE_INNER (suc c.args.below)) (sym more));
      wide = subst (AllOfWidth (row_width RTREE_INNER)) (sym more) (wide-snoc (row_width RTREE_INNER) _ _ c.loop-child.invariant.wide refl);
    }

pub returns-clause-page : goal.returns-clause-page
unfolding level_rows
returns-clause-page c =
    let s = tree_of (length c.args.rows.now) in
    let from = c.args.at * c.per_inner-many.result in
    let f = child_row s c.args.rows.now c.args.below in
    let many = c.per_inner-many.ensures in
    let begins = page_begins s (lit≤ tt) c.args.below c.args.at c.requires.place.inside in
    let from_is : from ≡ c.args.at * 340 = ap (λ n. c.args.at * n) many in
    let all : c.loop-child.child - from ≡ min 340 (level_size s c.args.below - c.args.at * 340) =
    omega (arith, c.min-to.ensures, begins, from_is, many, c.level_at-here.ensures.size) in
    c.loop-child.invariant.written
    ∙ (ap (λ n. page_of RTREE_INNER (suc c.args.below) (map f (numbers n (c.loop-child.child - from)))) from_is
    ∙ (ap (λ n. page_of RTREE_INNER (suc c.args.below) (map f (numbers (c.args.at * 340) n))) all
    ∙ ap (λ ns. page_of RTREE_INNER (suc c.args.below) (map f ns)) (sym (children_at-numbers (level_size s c.args.below) 340 c.args.at))))

pub returns-clause-shows : goal.returns-clause-shows
unfolding level_rows
returns-clause-shows c =
    let s = tree_of (length c.args.rows.now) in
    let from = c.args.at * c.per_inner-many.result in
    let f = child_row s c.args.rows.now c.args.below in
    let many = c.per_inner-many.ensures in
    let begins = page_begins s (lit≤ tt) c.args.below c.args.at c.requires.place.inside in
    let from_is : from ≡ c.args.at * 340 = ap (λ n. c.args.at * n) many in
    let all : c.loop-child.child - from ≡ min 340 (level_size s c.args.below - c.args.at * 340) =
    omega (arith, c.min-to.ensures, begins, from_is, many, c.level_at-here.ensures.size) in
    let e =
    ap (λ n. map f (numbers n (c.loop-child.child - from))) from_is
    ∙ (ap (λ n. map f (numbers (c.args.at * 340) n)) all
    ∙ ap (map f) (sym (children_at-numbers (level_size s c.args.below) 340 c.args.at))) in
    let few : length (map f (children_at (level_size s c.args.below) 340 c.args.at)) ≤ 340 =
    let n = ap (λ ns. length (map f ns)) (children_at-numbers (level_size s c.args.below) 340 c.args.at) in
    let m = length-map (numbers (c.args.at * 340) (min 340 (level_size s c.args.below - c.args.at * 340))) f in
    let o = length-numbers (c.args.at * 340) (min 340 (level_size s c.args.below - c.args.at * 340)) in
    omega (arith, n, m, o) in
    subst (ShowsRows RTREE_INNER (suc c.args.below) (level_rows s c.args.rows.now (suc c.args.below) c.args.at)) (sym (c.loop-child.invariant.written ∙ ap (page_of RTREE_INNER (suc c.args.below)) e))
    (ShowsRows-page_of RTREE_INNER (suc c.args.below) _ (subst (AllOfWidth (row_width RTREE_INNER)) e c.loop-child.invariant.wide) few)
