use Rattle.std.proofs.Common.{[], ◌∷◌, Some, rules, arith, ◌∙◌, inl, inr, length}
use Rattle.std.proofs.lemmas.Bool.{cases_lt}
use Rattle.dev_model.specs.declared.page_faults.PageFault.TheVariants.{Failed}
use Rattle.btree_image.specs.Pages.{page_number}
use Rattle.btree_image.specs.Reading.{ReadsTree}
use Rattle.btree_image.proofs.Widths.{leaf_room, inner_room}
use Rattle.btree_image.proofs.Told.{shown_read, leaf_place, leaf_row-told, no_rows, damaged_at, tested_at}
use Rattle.dev_model.specs.Laws.Trail.{reads-refused, reads-given, reads-bad}
use Rattle.btree_image.proofs.descend.leaf_row.Goals as goal

pub returns-in_err-page-clause-reads : goal.returns-in_err-page-clause-reads
returns-in_err-page-clause-reads g c =
    let reads : ReadsTree g.T.TreeRow.layout c.args.tree.first c.args.tree.rows g.P.Pages.lending g.P.Pages.asked c.args.pages.now c.read_place.new.pages (Some Failed) [] (page_number g.T.TreeRow.layout c.args.tree.first c.args.tree.rows 0 c.args.at ∷ []) =
    reads-refused _ _ c.in_err-page.ensures.stays c.in_err-page.ensures.asked (c.requires.lent 0 c.args.at c.requires.place) in
    search rules

pub returns-in-Ok-clause-told : goal.returns-in-Ok-clause-told
returns-in-Ok-clause-told g c list shown e =
    let l = g.T.TreeRow.layout in
    let k = g.met.T.TreeRow.kinds in
    let a = leaf_room l _ _ _ k in
    let b = inner_room l _ _ _ k in
    let key = c.args.key.now in
    let shows = shown_read l list c.args.tree.first c.args.tree.rows _ shown c.read_place.new.buf 0 c.args.at c.requires.place c.in_ok-page.ensures.bytes in
    elim (cases_lt 0 (length list)) [
      | inl some ↦ c.in-Ok.ensures.row _ (leaf_place l k.key_order a b c.args.tree.rows list shown.is key c.args.at e c.read_place.new.buf shows some)
          ∙ leaf_row-told l k.key_order a b c.args.tree.rows list shown.is key c.args.at e c.read_place.new.buf shows some
      | inr none ↦ (
          let empty = no_rows l k.key_order a b c.args.tree.rows list shown.is key c.args.at e c.read_place.new.buf shows none in
          c.in-Ok.ensures.none empty.0 ∙ empty.1)
    ]

pub returns-in-Ok-clause-reads : goal.returns-in-Ok-clause-reads
returns-in-Ok-clause-reads g c =
    reads-given _ _ c.in_ok-page.ensures.stays c.in_ok-page.ensures.asked (c.requires.lent 0 c.args.at c.requires.place)
    (λ contents told. tested_at g.T.TreeRow.layout c.args.tree.first c.args.tree.rows contents c.read_place.new.buf 0 c.args.at c.requires.place
    (c.in_ok-page.ensures.bytes contents told) c.in-Ok.ensures.page (λ h. absurd (omega (arith, h))))

pub returns-in-Err-clause-reads : goal.returns-in-Err-clause-reads
returns-in-Err-clause-reads g c =
    reads-bad _ _ _ c.in_ok-page.ensures.number c.in_ok-page.ensures.stays c.in_ok-page.ensures.asked (c.requires.lent 0 c.args.at c.requires.place)
    (λ bytes told. damaged_at g.T.TreeRow.layout c.args.tree.first c.args.tree.rows _ bytes c.read_place.new.buf 0 c.args.at _
    told c.in_ok-page.ensures.bytes c.requires.place c.in_ok-page.ensures.number (λ well. c.in-Err.ensures.bad well.page well.readable))
