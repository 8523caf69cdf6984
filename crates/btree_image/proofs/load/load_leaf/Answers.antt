use Rattle.std.proofs.Common.{arith, ◌≡◌, ◌-◌, ◌*◌, ◌≤◌, ◌++◌, ◌∷◌, [], ◌∙◌, sym, ap, subst, length, take, drop, map, length-take, length-drop, min}
use Rattle.std.proofs.lemmas.List.{take_at, length-map}
use Rattle.page_codec.specs.Page.{row_width, most_rows, kind_of, ShowsRows}
use Rattle.page_codec.specs.Written.{page_of}
use Rattle.page_codec.specs.Adding.{AllOfWidth, IsKind}
use Rattle.page_codec.specs.Laws.Written.{ShowsRows-page_of}
use Rattle.btree_image.specs.Image.{shape_of, level_rows}
use Rattle.btree_image.proofs.Widths.{leaf_room, inner_room}
use Rattle.page_codec.specs.Laws.Writing.{kind_of-page_of, wide-snoc, room, one_more_row, all_rows}
use Rattle.tree_shape.specs.Laws.Places.{page_within}
use Rattle.btree_image.proofs.load.load_leaf.Goals as goal

pub overflow_mul-from : goal.overflow_mul-from
overflow_mul-from g c =
    let l = g.T.TreeRow.layout in
    let k = g.met.T.TreeRow.kinds in
    let within = page_within (shape_of l (length c.args.rows.now)) (leaf_room l _ _ _ k) (inner_room l _ _ _ k) c.args.at c.requires.inside in
    omega (arith, within, ap (λ n. c.args.at * n) c.per_leaf-many.ensures.rows)

pub overflow_add-from : goal.overflow_add-from
overflow_add-from g c =
    let l = g.T.TreeRow.layout in
    let k = g.met.T.TreeRow.kinds in
    let within = page_within (shape_of l (length c.args.rows.now)) (leaf_room l _ _ _ k) (inner_room l _ _ _ k) c.args.at c.requires.inside in
    omega (arith, within, ap (λ n. c.args.at * n) c.per_leaf-many.ensures.rows)

pub put_row-requires-clause-kind : goal.put_row-requires-clause-kind
put_row-requires-clause-kind g c =
    subst IsKind (sym (ap kind_of c.loop-i.invariant.written ∙ kind_of-page_of g.T.TreeRow.layout.leaf 0 _)) g.met.T.TreeRow.kinds.leaf_kind

pub put_row-requires-clause-width : goal.put_row-requires-clause-width
put_row-requires-clause-width g c =
    let l = g.T.TreeRow.layout in
    let kind : kind_of c.loop-i.page ≡ l.leaf = ap kind_of c.loop-i.invariant.written ∙ kind_of-page_of l.leaf 0 _ in
    let st = c.write.ensures.stored in
    let long : length c.write.new.out ≡ row_width l.leaf = ap length c.write.ensures.bytes ∙ st.row_length in
    let width : c.width_of-width.result ≡ row_width l.leaf = c.width_of-width.ensures ∙ ap row_width (c.LEAF.ensures ∙ sym g.met.T.TreeRow.kinds.leaf_is) in
    ap length (take_at c.write.new.out _ c.width_of-width.result (long ∙ sym width)) ∙ (long ∙ ap row_width (sym kind))

pub put_row-requires-clause-room : goal.put_row-requires-clause-room
put_row-requires-clause-room g c =
    let l = g.T.TreeRow.layout in
    let from = c.args.at * c.per_leaf-many.result in
    let part = drop from c.args.rows.now in
    let n : length (map l.to_bytes (take (c.loop-i.i - from) part)) ≡ min (c.loop-i.i - from) (length c.args.rows.now - from) =
    length-map (take (c.loop-i.i - from) part) l.to_bytes ∙ (length-take (c.loop-i.i - from) part ∙ ap (min (c.loop-i.i - from)) (length-drop from c.args.rows.now)) in
    room l.leaf 0 0 _ _ c.loop-i.page c.loop-i.invariant.written n (omega (arith, c.min-to.ensures, c.per_leaf-many.ensures.rows))

pub loop-i-preserved : goal.loop-i-preserved
loop-i-preserved g c =
    let l = g.T.TreeRow.layout in
    let from = c.args.at * c.per_leaf-many.result in
    let st = c.write.ensures.stored in
    let long : length c.write.new.out ≡ row_width l.leaf = ap length c.write.ensures.bytes ∙ st.row_length in
    let width : c.width_of-width.result ≡ row_width l.leaf = c.width_of-width.ensures ∙ ap row_width (c.LEAF.ensures ∙ sym g.met.T.TreeRow.kinds.leaf_is) in
    let row_is = take_at c.write.new.out (drop c.width_of-width.result c.loop-i.bytes) c.width_of-width.result (long ∙ sym width) ∙ c.write.ensures.bytes in
    let more = one_more_row l.to_bytes c.args.rows.now from c.loop-i.i c.index-rows-i.result (omega arith) (omega arith) c.index-rows-i.is in
    record {
      written = c.put_row.ensures.written l.leaf 0 _ c.loop-i.invariant.written c.loop-i.invariant.wide
          ∙ (ap (λ row. page_of l.leaf 0 (map l.to_bytes (take (c.loop-i.i - from) (drop from c.args.rows.now)) ++ row ∷ [])) row_is ∙ ap (page_of l.leaf 0) (sym more));
      wide = subst (AllOfWidth (row_width l.leaf)) (sym more) (wide-snoc (row_width l.leaf) _ _ c.loop-i.invariant.wide st.row_length);
    }

pub returns-clause-page : goal.returns-clause-page
unfolding level_rows
returns-clause-page g c =
    let l = g.T.TreeRow.layout in
    let k = g.met.T.TreeRow.kinds in
    let within = page_within (shape_of l (length c.args.rows.now)) (leaf_room l _ _ _ k) (inner_room l _ _ _ k) c.args.at c.requires.inside in
    let from = c.args.at * c.per_leaf-many.result in
    let whole = all_rows l.to_bytes c.args.rows.now from c.per_leaf-many.result c.loop-i.i
    (omega (arith, c.min-to.ensures, within, ap (λ n. c.args.at * n) c.per_leaf-many.ensures.rows)) (omega (arith, within, ap (λ n. c.args.at * n) c.per_leaf-many.ensures.rows)) in
    c.loop-i.invariant.written ∙ (ap (λ xs. page_of l.leaf 0 (map l.to_bytes xs)) whole
    ∙ ap (λ w. page_of l.leaf 0 (map l.to_bytes (take w (drop (c.args.at * w) c.args.rows.now)))) c.per_leaf-many.ensures.rows)

pub returns-clause-shows : goal.returns-clause-shows
unfolding level_rows
returns-clause-shows g c =
    let l = g.T.TreeRow.layout in
    let k = g.met.T.TreeRow.kinds in
    let within = page_within (shape_of l (length c.args.rows.now)) (leaf_room l _ _ _ k) (inner_room l _ _ _ k) c.args.at c.requires.inside in
    let from = c.args.at * c.per_leaf-many.result in
    let whole = all_rows l.to_bytes c.args.rows.now from c.per_leaf-many.result c.loop-i.i
    (omega (arith, c.min-to.ensures, within, ap (λ n. c.args.at * n) c.per_leaf-many.ensures.rows)) (omega (arith, within, ap (λ n. c.args.at * n) c.per_leaf-many.ensures.rows)) in
    let e = ap (map l.to_bytes) whole ∙ ap (λ w. map l.to_bytes (take w (drop (c.args.at * w) c.args.rows.now))) c.per_leaf-many.ensures.rows in
    let part = drop (c.args.at * most_rows l.leaf) c.args.rows.now in
    let few : length (map l.to_bytes (take (most_rows l.leaf) part)) ≤ most_rows l.leaf =
    let n = length-map (take (most_rows l.leaf) part) l.to_bytes in let m = length-take (most_rows l.leaf) part in omega arith in
    subst (ShowsRows l.leaf 0 (level_rows l c.args.rows.now 0 c.args.at)) (sym (c.loop-i.invariant.written ∙ ap (page_of l.leaf 0) e))
    (ShowsRows-page_of l.leaf 0 _ (subst (AllOfWidth (row_width l.leaf)) e c.loop-i.invariant.wide) few)
