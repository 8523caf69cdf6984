use Rattle.std.proofs.Common.{arith, ◌≡◌, suc, ◌+◌, ◌-◌, ◌*◌, ◌<◌, ◌≤◌, ◌++◌, ◌∷◌, [], ◌∙◌, sym, ap, subst, length, map, min, slice_get, Some}
use Rattle.std.proofs.lemmas.List.{length-map}
use Rattle.std.proofs.Math.Numerals.{add-one}
use Rattle.std.specs.Int.{to_be_bytes, w32}
use Rattle.page_codec.specs.Page.{row_width, most_rows, kind_of, row_count, ShowsRows}
use Rattle.page_codec.specs.Written.{page_of}
use Rattle.page_codec.specs.Adding.{AllOfWidth}
use Rattle.page_codec.specs.Laws.Written.{ShowsRows-page_of}
use Rattle.tree_shape.specs.Shape.{level_size, span, numbers, children_at}
use Rattle.btree_image.specs.Image.{shape_of, level_rows, child_row}
use Rattle.btree_image.proofs.Widths.{most_rows-least, leaf_room, inner_room}
use Rattle.tree_shape.specs.Laws.Numbers.{length-numbers, children_at-numbers, one_more_number}
use Rattle.page_codec.specs.Laws.Writing.{kind_of-page_of, wide-snoc, room, get_at}
use Rattle.tree_shape.specs.Laws.Places.{pages_fit, page_begins, first_row}
use Rattle.btree_image.proofs.load.load_inner.Goals as goal

pub overflow_mul-from : goal.overflow_mul-from
overflow_mul-from g c =
    let s = shape_of g.T.TreeRow.layout (length c.args.rows.now) in
    let k = g.met.T.TreeRow.kinds in
    let begins = page_begins s (inner_room g.T.TreeRow.layout _ _ _ k) c.args.below c.args.at c.requires.place.inside in
    omega (arith, begins, ap (λ n. c.args.at * n) c.per_inner-many.ensures.rows, c.level_at-here.ensures.size, c.level_at-here.ensures.size_below)

pub overflow_add-from : goal.overflow_add-from
overflow_add-from g c =
    let s = shape_of g.T.TreeRow.layout (length c.args.rows.now) in
    let k = g.met.T.TreeRow.kinds in
    let begins = page_begins s (inner_room g.T.TreeRow.layout _ _ _ k) c.args.below c.args.at c.requires.place.inside in
    omega (arith, begins, ap (λ n. c.args.at * n) c.per_inner-many.ensures.rows, c.level_at-here.ensures.size, c.level_at-here.ensures.size_below)

pub loop-child-init : goal.loop-child-init
unfolding numbers
loop-child-init g c =
    let from = c.args.at * c.per_inner-many.result in
    let z : from - from ≡ 0 = omega arith in
    let p : c.new_page.new.page ≡ page_of g.T.TreeRow.layout.inner (suc c.args.below) [] =
    c.new_page.ensures ∙ (ap (λ kind. page_of kind (c.args.below + 1) []) (c.INNER.ensures ∙ sym g.met.T.TreeRow.kinds.inner_is) ∙ ap (λ level. page_of g.T.TreeRow.layout.inner level []) (add-one c.args.below)) in
    record {
      written = p ∙ ap (λ n. page_of g.T.TreeRow.layout.inner (suc c.args.below) (map (child_row g.T.TreeRow.layout c.args.rows.now c.args.below) (numbers from n))) (sym z);
      wide = subst (λ n. AllOfWidth (row_width g.T.TreeRow.layout.inner) (map (child_row g.T.TreeRow.layout c.args.rows.now c.args.below) (numbers from n))) (sym z) tt;
    }

pub bounds-rows-child : goal.bounds-rows-child
bounds-rows-child g c =
    let l = g.T.TreeRow.layout in
    let k = g.met.T.TreeRow.kinds in
    first_row (shape_of l (length c.args.rows.now)) c.args.below c.args.at c.loop-child.child c.rows_below-step.result (leaf_room l _ _ _ k) (inner_room l _ _ _ k) c.requires.place
    (omega (arith, c.min-to.ensures, c.level_at-here.ensures.size)) c.rows_below-step.ensures.span

pub offset_bounds-rows-child : goal.offset_bounds-rows-child
offset_bounds-rows-child g c =
    let l = g.T.TreeRow.layout in
    let k = g.met.T.TreeRow.kinds in
    let row = first_row (shape_of l (length c.args.rows.now)) c.args.below c.args.at c.loop-child.child c.rows_below-step.result (leaf_room l _ _ _ k) (inner_room l _ _ _ k) c.requires.place
    (omega (arith, c.min-to.ensures, c.level_at-here.ensures.size)) c.rows_below-step.ensures.span in
    omega arith

pub overflow_cast-here : goal.overflow_cast-here
overflow_cast-here g c =
    let l = g.T.TreeRow.layout in
    let k = g.met.T.TreeRow.kinds in
    let fits = pages_fit (shape_of l (length c.args.rows.now)) (most_rows-least l.leaf k.leaf_kind) (inner_room l _ _ _ k) c.requires.count c.args.below (let h = c.requires.level in omega arith) in
    omega (arith, fits, c.level_at-here.ensures.start, c.level_at-here.ensures.size, c.min-to.ensures)

pub put_child-requires-clause-kind : goal.put_child-requires-clause-kind
put_child-requires-clause-kind g c = ap kind_of c.loop-child.invariant.written ∙ kind_of-page_of g.T.TreeRow.layout.inner (suc c.args.below) _

pub put_child-requires-clause-room : goal.put_child-requires-clause-room
put_child-requires-clause-room g c =
    let l = g.T.TreeRow.layout in
    let from = c.args.at * c.per_inner-many.result in
    let n : length (map (child_row l c.args.rows.now c.args.below) (numbers from (c.loop-child.child - from))) ≡ c.loop-child.child - from =
    length-map (numbers from (c.loop-child.child - from)) (child_row l c.args.rows.now c.args.below) ∙ length-numbers from (c.loop-child.child - from) in
    let kind : kind_of c.loop-child.page ≡ l.inner = ap kind_of c.loop-child.invariant.written ∙ kind_of-page_of l.inner (suc c.args.below) _ in
    subst (λ kind. row_count c.loop-child.page < most_rows kind) kind
    (room l.inner (suc c.args.below) 0 _ _ c.loop-child.page c.loop-child.invariant.written n (omega (arith, c.min-to.ensures, c.per_inner-many.ensures.rows)))

pub loop-child-preserved : goal.loop-child-preserved
loop-child-preserved g c =
    let l = g.T.TreeRow.layout in
    let k = g.met.T.TreeRow.kinds in
    let within = first_row (shape_of l (length c.args.rows.now)) c.args.below c.args.at c.loop-child.child c.rows_below-step.result (leaf_room l _ _ _ k) (inner_room l _ _ _ k) c.requires.place
    (omega (arith, c.min-to.ensures, c.level_at-here.ensures.size)) c.rows_below-step.ensures.span in
    let s = shape_of l (length c.args.rows.now) in
    let from = c.args.at * c.per_inner-many.result in
    let f = child_row l c.args.rows.now c.args.below in
    let more = one_more_number f from c.loop-child.child (omega arith) in
    let here : c.loop-child.child * c.rows_below-step.result ≡ c.loop-child.child * span s c.args.below = ap (λ n. c.loop-child.child * n) c.rows_below-step.ensures.span in
    let got : slice_get c.args.rows.now (c.loop-child.child * span s c.args.below) ≡ Some c.index-rows-child.result =
    ap (slice_get c.args.rows.now) (sym here) ∙ get_at c.args.rows.now _ c.index-rows-child.result within c.index-rows-child.is in
    let row_is : l.key_to_bytes c.row_key-key.result ++ to_be_bytes w32 (c.level_at-here.result.start + c.loop-child.child) ≡ f c.loop-child.child =
    rw got (ap (λ key. l.key_to_bytes key ++ to_be_bytes w32 (c.level_at-here.result.start + c.loop-child.child)) c.row_key-key.ensures
    ∙ ap (λ start. l.key_to_bytes (l.key_of c.index-rows-child.result) ++ to_be_bytes w32 (start + c.loop-child.child)) c.level_at-here.ensures.start) in
    record {
      written = c.put_child.ensures.written (suc c.args.below) _ c.loop-child.invariant.written c.loop-child.invariant.wide
          ∙ (ap (λ row. page_of l.inner (suc c.args.below) (map f (numbers from (c.loop-child.child - from)) ++ row ∷ [])) row_is ∙ ap (page_of l.inner (suc c.args.below)) (sym more));
      wide = subst (AllOfWidth (row_width l.inner)) (sym more)
          (wide-snoc (row_width l.inner) _ _ c.loop-child.invariant.wide (ap length (sym row_is) ∙ c.put_child.ensures.width));
    }

pub returns-clause-page : goal.returns-clause-page
unfolding level_rows
returns-clause-page g c =
    let l = g.T.TreeRow.layout in
    let k = g.met.T.TreeRow.kinds in
    let s = shape_of l (length c.args.rows.now) in
    let from = c.args.at * c.per_inner-many.result in
    let f = child_row l c.args.rows.now c.args.below in
    let begins = page_begins s (inner_room l _ _ _ k) c.args.below c.args.at c.requires.place.inside in
    let from_is : from ≡ c.args.at * most_rows l.inner = ap (λ n. c.args.at * n) c.per_inner-many.ensures.rows in
    let all : c.loop-child.child - from ≡ min (most_rows l.inner) (level_size s c.args.below - c.args.at * most_rows l.inner) =
    omega (arith, c.min-to.ensures, begins, from_is, c.per_inner-many.ensures.rows, c.level_at-here.ensures.size) in
    c.loop-child.invariant.written
    ∙ (ap (λ n. page_of l.inner (suc c.args.below) (map f (numbers n (c.loop-child.child - from)))) from_is
    ∙ (ap (λ n. page_of l.inner (suc c.args.below) (map f (numbers (c.args.at * most_rows l.inner) n))) all
    ∙ ap (λ ns. page_of l.inner (suc c.args.below) (map f ns)) (sym (children_at-numbers (level_size s c.args.below) (most_rows l.inner) c.args.at))))

pub returns-clause-shows : goal.returns-clause-shows
unfolding level_rows
returns-clause-shows g c =
    let l = g.T.TreeRow.layout in
    let k = g.met.T.TreeRow.kinds in
    let s = shape_of l (length c.args.rows.now) in
    let from = c.args.at * c.per_inner-many.result in
    let f = child_row l c.args.rows.now c.args.below in
    let begins = page_begins s (inner_room l _ _ _ k) c.args.below c.args.at c.requires.place.inside in
    let from_is : from ≡ c.args.at * most_rows l.inner = ap (λ n. c.args.at * n) c.per_inner-many.ensures.rows in
    let all : c.loop-child.child - from ≡ min (most_rows l.inner) (level_size s c.args.below - c.args.at * most_rows l.inner) =
    omega (arith, c.min-to.ensures, begins, from_is, c.per_inner-many.ensures.rows, c.level_at-here.ensures.size) in
    let e =
    ap (λ n. map f (numbers n (c.loop-child.child - from))) from_is
    ∙ (ap (λ n. map f (numbers (c.args.at * most_rows l.inner) n)) all
    ∙ ap (map f) (sym (children_at-numbers (level_size s c.args.below) (most_rows l.inner) c.args.at))) in
    let few : length (map f (children_at (level_size s c.args.below) (most_rows l.inner) c.args.at)) ≤ most_rows l.inner =
    let n = ap (λ ns. length (map f ns)) (children_at-numbers (level_size s c.args.below) (most_rows l.inner) c.args.at) in
    let m = length-map (numbers (c.args.at * most_rows l.inner) (min (most_rows l.inner) (level_size s c.args.below - c.args.at * most_rows l.inner))) f in
    let o = length-numbers (c.args.at * most_rows l.inner) (min (most_rows l.inner) (level_size s c.args.below - c.args.at * most_rows l.inner)) in
    omega (arith, n, m, o) in
    subst (ShowsRows l.inner (suc c.args.below) (level_rows l c.args.rows.now (suc c.args.below) c.args.at)) (sym (c.loop-child.invariant.written ∙ ap (page_of l.inner (suc c.args.below)) e))
    (ShowsRows-page_of l.inner (suc c.args.below) _ (subst (AllOfWidth (row_width l.inner)) e c.loop-child.invariant.wide) few)
