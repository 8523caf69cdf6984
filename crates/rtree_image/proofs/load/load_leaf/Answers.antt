use Rattle.std.proofs.Common.{arith, lit≤, ◌≡◌, ◌-◌, ◌*◌, ◌≤◌, ◌++◌, ◌∷◌, [], ◌∙◌, sym, ap, subst, length, take, drop, map, length-take, length-drop, min, refl}
use Rattle.std.proofs.lemmas.List.{length-map}
use Rattle.page_codec.specs.Page.{row_width, kind_of, ShowsRows}
use Rattle.page_codec.specs.Written.{page_of}
use Rattle.page_codec.specs.Adding.{AllOfWidth, IsKind}
use Rattle.page_codec.specs.Laws.Written.{ShowsRows-page_of}
use Rattle.page_codec.specs.declared.kinds.TheConstants.{RTREE_LEAF}
use Rattle.tree_shape.specs.Laws.Places.{page_within}
use Rattle.page_codec.specs.Laws.Writing.{kind_of-page_of, wide-snoc, all_rows, room}
use Rattle.rtree_image.specs.declared.rows.RtRow.{RtRow}
use Rattle.rtree_image.specs.Rows.{row_bytes}
use Rattle.rtree_image.specs.Image.{tree_of, level_rows}
use Rattle.rtree_image.proofs.Loading.{one_more_at}
use Rattle.rtree_image.proofs.load.load_leaf.Goals as goal

pub overflow_mul-from : goal.overflow_mul-from
overflow_mul-from c =
    let within = page_within (tree_of (length c.args.rows.now)) (lit≤ tt) (lit≤ tt) c.args.at c.requires.inside in
    omega (arith, within, c.per_leaf-many.ensures, ap (λ n. c.args.at * n) c.per_leaf-many.ensures)

pub overflow_add-from : goal.overflow_add-from
overflow_add-from c =
    let within = page_within (tree_of (length c.args.rows.now)) (lit≤ tt) (lit≤ tt) c.args.at c.requires.inside in
    omega (arith, within, c.per_leaf-many.ensures, ap (λ n. c.args.at * n) c.per_leaf-many.ensures)

pub put_row-requires-clause-kind : goal.put_row-requires-clause-kind
put_row-requires-clause-kind c =
    subst IsKind (sym (ap kind_of c.loop-i.invariant.written ∙ kind_of-page_of RTREE_LEAF 0 _)) (lit≤ tt)

pub put_row-requires-clause-width : goal.put_row-requires-clause-width
put_row-requires-clause-width c =
    let kind : kind_of c.loop-i.page ≡ RTREE_LEAF = ap kind_of c.loop-i.invariant.written ∙ kind_of-page_of RTREE_LEAF 0 _ in
    ap length c.to_bytes.ensures ∙ ap row_width (sym kind)

pub put_row-requires-clause-room : goal.put_row-requires-clause-room
put_row-requires-clause-room c =
    let from = c.args.at * c.per_leaf-many.result in
    let part = drop from c.args.rows.now in
    let n : length (map row_bytes (take (c.loop-i.i - from) part)) ≡ min (c.loop-i.i - from) (length c.args.rows.now - from) =
    length-map (take (c.loop-i.i - from) part) row_bytes ∙ (length-take (c.loop-i.i - from) part ∙ ap (min (c.loop-i.i - from)) (length-drop from c.args.rows.now)) in
    room RTREE_LEAF 0 0 _ _ c.loop-i.page c.loop-i.invariant.written n (omega (arith, c.min-to.ensures, c.per_leaf-many.ensures))

pub loop-i-preserved : goal.loop-i-preserved
loop-i-preserved c =
    let from = c.args.at * c.per_leaf-many.result in
    let none : RtRow = record { point = record { x = 0; y = 0 }; key = 0 } in
    let more = one_more_at row_bytes c.args.rows.now from c.loop-i.i none (omega arith) (omega arith) in
    record {
      written = c.put_row.ensures.written RTREE_LEAF 0 _ c.loop-i.invariant.written c.loop-i.invariant.wide
          ∙ (ap (λ row. page_of RTREE_LEAF 0 (map row_bytes (take (c.loop-i.i - from) (drop from c.args.rows.now)) ++ row ∷ [])) c.to_bytes.ensures ∙ ap (page_of RTREE_LEAF 0) (sym more));
      wide = subst (AllOfWidth (row_width RTREE_LEAF)) (sym more) (wide-snoc (row_width RTREE_LEAF) _ _ c.loop-i.invariant.wide refl);
    }

pub returns-clause-page : goal.returns-clause-page
unfolding level_rows
returns-clause-page c =
    let within = page_within (tree_of (length c.args.rows.now)) (lit≤ tt) (lit≤ tt) c.args.at c.requires.inside in
    let many = c.per_leaf-many.ensures in
    let from = c.args.at * c.per_leaf-many.result in
    let whole = all_rows row_bytes c.args.rows.now from c.per_leaf-many.result c.loop-i.i
    (omega (arith, c.min-to.ensures, within, many, ap (λ n. c.args.at * n) many)) (omega (arith, within, ap (λ n. c.args.at * n) many)) in
    c.loop-i.invariant.written ∙ (ap (λ xs. page_of RTREE_LEAF 0 (map row_bytes xs)) whole
    ∙ ap (λ w. page_of RTREE_LEAF 0 (map row_bytes (take w (drop (c.args.at * w) c.args.rows.now)))) many)

pub returns-clause-shows : goal.returns-clause-shows
unfolding level_rows
returns-clause-shows c =
    let within = page_within (tree_of (length c.args.rows.now)) (lit≤ tt) (lit≤ tt) c.args.at c.requires.inside in
    let many = c.per_leaf-many.ensures in
    let from = c.args.at * c.per_leaf-many.result in
    let whole = all_rows row_bytes c.args.rows.now from c.per_leaf-many.result c.loop-i.i
    (omega (arith, c.min-to.ensures, within, many, ap (λ n. c.args.at * n) many)) (omega (arith, within, ap (λ n. c.args.at * n) many)) in
    let e = ap (map row_bytes) whole ∙ ap (λ w. map row_bytes (take w (drop (c.args.at * w) c.args.rows.now))) many in
    let part = drop (c.args.at * 340) c.args.rows.now in
    let few : length (map row_bytes (take 340 part)) ≤ 340 =
    let n = length-map (take 340 part) row_bytes in let m = length-take 340 part in omega arith in
    subst (ShowsRows RTREE_LEAF 0 (level_rows (tree_of (length c.args.rows.now)) c.args.rows.now 0 c.args.at)) (sym (c.loop-i.invariant.written ∙ ap (page_of RTREE_LEAF 0) e))
    (ShowsRows-page_of RTREE_LEAF 0 _ (subst (AllOfWidth (row_width RTREE_LEAF)) e c.loop-i.invariant.wide) few)
